-- A bucket that is split along the path of a hash, one bit after the other.
use Rattle.std.proofs.Common.{◌≡◌, ℕ, suc, ◌+◌, ◌-◌, ◌*◌, ◌/◌, ◌^◌, ◌<◌, ◌≤◌, max, List, ◌∷◌, length, sym, refl, ap, ◌∙◌, subst, inl, inr, ⊎_elim, arith, pow_mono}
use Rattle.std.proofs.lemmas.Bool.{cases_lt, cases_eq}
use Rattle.tree.specs.Prefix.{pre, sib}
use Rattle.tree.specs.Members.{In}
use Rattle.tree.proofs.Prefixes.{pre_step, pre_pre, pre_below, pre_across, pre_filled, first_below}
use Rattle.tree.proofs.Growth.{sib_other, sib_parent, sib_only}
use Rattle.directory.specs.Names.{Unused, DepthUsed, Free, NoneFree, AllIn, Beyond, assigned, widened}
use Rattle.directory.specs.Changes.{Splitting, SplitEntry, SplitTo, TooFew, WidenedTo}
use Rattle.directory.proofs.Naming.{assigned_in, assigned_out, names_at, names_widened, names_split}
use Rattle.directory.proofs.Taken.{none_free}

-- E₁ is split down to j bits, and has as many pages more as that takes
pub record Reached (w v limit h l j : ℕ) (E d E₁ : ℕ → ℕ) : Type 0 where
  pub depths : ℕ → ℕ
  pub split : SplitTo w v limit h l j E d E₁ depths
  pub more : (taken : List ℕ) → AllIn w E taken → (all : List ℕ) × (length all ≡ length taken + (j - l)) × AllIn v E₁ all

module _ (w v limit h l n : ℕ) (E d : ℕ → ℕ) (s : Splitting w limit h l n E d) (wider : w ≤ v) (deep : n ≤ v) (whole : h < 2 ^ 32) where
  -- widened, the pages that h leads to have l bits still
  own_wide : (i : ℕ) → i < 2 ^ v → pre v i l ≡ pre 32 h l → widened w v d i ≡ l
  own_wide i k e = s.own (pre v i w) (pre_below v i w wider k) (pre_pre v i w l s.fits.2 wider ∙ e)

  up : (i m k : ℕ) → k ≤ m → m ≤ n → pre v i m ≡ pre 32 h m → pre v i k ≡ pre 32 h k
  up i m k a b e = pre_across v i 32 h m k a (omega arith) (omega (arith, s.fits.4)) e

  -- some entry begins with h's j bits
  path_entry : (j : ℕ) → j ≤ n → (i : ℕ) × (i < 2 ^ v) × (pre v i j ≡ pre 32 h j)
  path_entry j k =
      (pre 32 h j * 2 ^ (v - j), first_below v j (pre 32 h j) (omega arith) (pre_below 32 h j (omega (arith, s.fits.4)) whole), pre_filled v (pre 32 h j) j)

  pub reached_none : (F : ℕ → ℕ) → WidenedTo w v E F → Reached w v limit h l l E d F
  reached_none F f =
      record {
        depths = widened w v d;
        split =
            record {
              names = names_at v (widened w v E) F (widened w v d) f.used (names_widened w v E d wider s.names);
              range = λ i k. subst (λ x. (5 ≤ x) × (x ≤ 4 + limit)) (sym (f.used i k)) (s.range (pre v i w) (pre_below v i w wider k));
              unused = f.unused;
              entries = λ i k. ⊎_elim (λ e. inr (inr (e, sym (own_wide i k e), f.used i k))) (λ ne. inl (ne, refl, sym (f.used i k))) (cases_eq (pre v i l) (pre 32 h l));
            };
        more = λ taken a. (taken, omega arith, λ i k. subst (λ x. In x taken) (sym (f.used i k)) (a (pre v i w) (pre_below v i w wider k)));
      }

  -- E₁ is split down to j bits
  module _ (j : ℕ) (low : l ≤ j) (high : j ≤ n) (E₁ d₁ : ℕ → ℕ) (r : SplitTo w v limit h l j E d E₁ d₁) where
    -- an entry that begins with h's j bits
    on_path : (i : ℕ) → i < 2 ^ v → pre v i j ≡ pre 32 h j → (d₁ i ≡ j) × (E₁ i ≡ E (pre v i w))
    on_path i k e =
        ⊎_elim (λ t. absurd (t.0 (up i j l low high e)))
        (⊎_elim (λ t. absurd (t.4 (up i j (suc t.0) t.2 high e))) (λ t. (sym t.1, t.2))) (r.entries i k)

    -- a page that was named is named
    still_named : (i : ℕ) → i < 2 ^ v → (k : ℕ) × (k < 2 ^ v) × (E₁ k ≡ E (pre v i w))
    still_named i k =
        let x = path_entry j high in
        ⊎_elim (λ t. (i, k, sym t.2))
        (⊎_elim (λ t. (x.0, x.1, (on_path x.0 x.1 x.2).1 ∙ moved x (up i t.0 l t.1 (omega (arith, t.2)) t.3))) (λ t. (i, k, t.2)))
        (r.entries i k)
      where
        moved : (x : (i : ℕ) × (i < 2 ^ v) × (pre v i j ≡ pre 32 h j)) → pre v i l ≡ pre 32 h l → E (pre v x.0 w) ≡ E (pre v i w)
        moved x e =
            let z : pre v x.0 l ≡ pre v i l = up x.0 j l low high x.2 ∙ sym e in
            (names_widened w v E d wider s.names).every i x.0 k x.1 (subst (λ m. pre v x.0 m ≡ pre v i m) (sym (own_wide i k e)) z)

    -- a page that is free was free
    was_free : (q : ℕ) → Free v E₁ q → Free w E q
    was_free q free i k e =
        let a = still_named (i * 2 ^ (v - w)) (first_below v w i wider k) in
        free a.0 a.1 (a.2 ∙ ap E (pre_filled v i w) ∙ e)

    -- the sibling behind j bits gets the free page q
    module _ (further : j < n) (E₂ : ℕ → ℕ) (q : ℕ) (bucket : (5 ≤ q) × (q ≤ 4 + limit)) (free : Free v E₁ q)
        (assign : (i : ℕ) → i < 2 ^ v → E₂ i ≡ assigned v (suc j) (sib (pre 32 h (suc j))) q E₁ i) where
      abbrev beside_path : ℕ
      beside_path = sib (pre 32 h (suc j))

      abbrev deeper : ℕ → ℕ
      deeper = assigned v j (pre 32 h j) (suc j) d₁

      beside_parent : beside_path / 2 ≡ pre 32 h j
      beside_parent = sib_parent (pre 32 h (suc j)) ∙ sym (pre_step 32 h j (omega (arith, s.fits.4)))

      taken_by : (i : ℕ) → i < 2 ^ v → pre v i (suc j) ≡ beside_path → E₂ i ≡ q
      taken_by i k e = assign i k ∙ assigned_in v (suc j) beside_path q E₁ i e

      left_by : (i : ℕ) → i < 2 ^ v → (pre v i (suc j) ≡ beside_path → ⊥) → E₂ i ≡ E₁ i
      left_by i k ne = assign i k ∙ assigned_out v (suc j) beside_path q E₁ i ne

      -- an entry off the path is as it was
      off_path : (i : ℕ) → i < 2 ^ v → (pre v i j ≡ pre 32 h j → ⊥) → (d₁ i ≡ deeper i) × (E₁ i ≡ E₂ i)
      off_path i k ne = (
        sym (assigned_out v j (pre 32 h j) (suc j) d₁ i ne),
        sym (left_by i k (λ e. ne (pre_step v i j (omega arith) ∙ ap (λ x. x / 2) e ∙ beside_parent))),
      )

      step_entry : (i : ℕ) → i < 2 ^ v → SplitEntry w v h l j E d E₁ d₁ i → SplitEntry w v h l (suc j) E d E₂ deeper i
      step_entry i k (inl t) = let o = off_path i k (λ e. t.0 (up i j l low high e)) in inl (t.0, t.1 ∙ o.0, t.2 ∙ o.1)
      step_entry i k (inr (inl t)) =
          let o = off_path i k (λ e. t.4 (up i j (suc t.0) t.2 high e)) in
          inr (inl (t.0, t.1, omega (arith, t.2), t.3, t.4, t.5 ∙ o.0, subst (Free w E) o.1 t.6))
      step_entry i k (inr (inr t)) =
          let z : suc j ≡ deeper i = sym (assigned_in v j (pre 32 h j) (suc j) d₁ i t.0) in
          ⊎_elim (λ e. inr (inr (e, z, left_by i k (λ b. sib_other (pre 32 h (suc j)) (sym b ∙ e)) ∙ t.2)))
          (λ ne. inr (inl (j, low, omega arith, t.0, ne, z, subst (Free w E) (sym (taken_by i k (sib_only _ _ (sym (pre_step v i j (omega arith)) ∙ t.0 ∙ pre_step 32 h j (omega (arith, s.fits.4))) ne))) (was_free q free))))
          (cases_eq (pre v i (suc j)) (pre 32 h (suc j)))

      step_split : Unused v E₂ → SplitTo w v limit h l (suc j) E d E₂ deeper
      step_split unused =
          record {
            names = names_at v (assigned v (suc j) beside_path q E₁) E₂ deeper assign
                (names_split v j (pre 32 h j) beside_path q E₁ d₁ r.names (omega arith) (λ i k e. (on_path i k e).0) beside_parent free);
            range = λ i k.
                let P : ℕ → Type 0 = λ x. (5 ≤ x) × (x ≤ 4 + limit) in
                ⊎_elim (λ e. subst P (sym (taken_by i k e)) bucket) (λ ne. subst P (sym (left_by i k ne)) (r.range i k)) (cases_eq (pre v i (suc j)) beside_path);
            unused = unused;
            entries = λ i k. step_entry i k (r.entries i k);
          }

      step_all : (all : List ℕ) → AllIn v E₁ all → AllIn v E₂ (q ∷ all)
      step_all all a i k =
          ⊎_elim (λ e. inl (sym (taken_by i k e))) (λ ne. inr (subst (λ x. In x all) (sym (left_by i k ne)) (a i k))) (cases_eq (pre v i (suc j)) beside_path)

  -- one bit further
  pub reached_more : (j : ℕ) → l ≤ j → j < n → (E₁ E₂ : ℕ → ℕ) (q : ℕ) → Reached w v limit h l j E d E₁ → 5 ≤ q → q ≤ 4 + limit → Free v E₁ q
      → ((i : ℕ) → i < 2 ^ v → E₂ i ≡ assigned v (suc j) (sib (pre 32 h (suc j))) q E₁ i) → Unused v E₂ → Reached w v limit h l (suc j) E d E₂
  reached_more j low high E₁ E₂ q r a b free assign unused =
      let le : j ≤ n = omega arith in
      record {
        depths = deeper j low le E₁ r.depths r.split high E₂ q (a, b) free assign;
        split = step_split j low le E₁ r.depths r.split high E₂ q (a, b) free assign unused;
        more = λ taken t.
            let m = r.more taken t in
            (q ∷ m.0, omega (arith, m.1), step_all j low le E₁ r.depths r.split high E₂ q (a, b) free assign m.0 m.2);
      }

  -- where no page is free, there are too few
  pub reached_short : (j : ℕ) → l ≤ j → j < n → (E₁ : ℕ → ℕ) → Reached w v limit h l j E d E₁ → NoneFree v limit E₁ → TooFew w limit l n E
  reached_short j low high E₁ r none taken t =
      let m = r.more taken t in
      omega (arith, m.1, none_free v limit E₁ m.0 none m.2)

  -- split down to n bits: some page has all the bits of the directory, one that had, or that of h
  module _ (E₁ d₁ : ℕ → ℕ) (r : SplitTo w v limit h l n E d E₁ d₁) where
    still_deep : v ≡ w → (i : ℕ) → i < 2 ^ v → d (pre v i w) ≡ w → d₁ i ≡ v
    still_deep same i k z =
        ⊎_elim (λ t. omega (arith, t.1))
        (⊎_elim (λ t. absurd (omega (arith, t.1, t.2, own_wide i k (up i t.0 l t.1 (omega (arith, t.2)) t.3))))
        (λ t. omega (arith, t.1, s.fits.3, own_wide i k (up i n l s.fits.3 (omega arith) t.0))))
        (r.entries i k)

    pub split_used : v ≡ max w n → DepthUsed v d₁
    split_used widest =
        let x = path_entry n (omega arith) in
        ⊎_elim (λ (lt : w < n). inr (x.0, x.1, (on_path n s.fits.3 (omega arith) E₁ d₁ r x.0 x.1 x.2).0 ∙ omega arith))
        (λ (ge : n ≤ w).
        ⊎_elim (λ z. inl (omega arith))
        (λ i. let k = first_below v w i.0 wider i.1 in
        inr (i.0 * 2 ^ (v - w), k, still_deep (omega arith) (i.0 * 2 ^ (v - w)) k (ap d (pre_filled v i.0 w) ∙ i.2))) s.used)
        (cases_lt w n)

-- what widening leaves
pub wide_from : (w v : ℕ) (E F : ℕ → ℕ) → w ≤ v → Unused w E → ((i : ℕ) → i < 2 ^ v → F i ≡ widened w v E i) → Beyond v E F → WidenedTo w v E F
wide_from w v E F wider unused used rest =
    record { wider = wider; used = used; unused = λ i h k. rest i h ∙ unused i (omega (arith, pow_mono {i = w} {j = v} wider)) k }

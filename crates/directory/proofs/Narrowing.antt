-- A directory that is narrowed bit by bit, and what a merge leaves.
use Rattle.std.proofs.Common.{◌≡◌, ℕ, zero, suc, ◌+◌, ◌-◌, ◌*◌, ◌/◌, ◌^◌, ◌<◌, ◌≤◌, sym, refl, ap, ◌∙◌, subst, inl, inr, ⊎_elim, mul_assoc, mul_comm, pow-suc, arith}
use Rattle.std.proofs.lemmas.Bool.{cases_eq}
use Rattle.tree.specs.Prefix.{pre}
use Rattle.tree.proofs.Prefixes.{pre_step, pre_below, first_below}
use Rattle.directory.specs.Names.{Names, InRange, Unused, DepthUsed, assigned, narrowed}
use Rattle.directory.specs.Changes.{NarrowedTo, Narrowest, Merging, Merged}
use Rattle.directory.proofs.Naming.{assigned_in, assigned_out, names_at, names_narrowed, names_merged, told_short, pair_deep}

-- the first entry below 2 q, of one bit more, is the first below q
twice_first : (w u q : ℕ) → u < w → 2 * q * 2 ^ (w - suc u) ≡ q * 2 ^ (w - u)
twice_first w u q h =
    let e : w - u ≡ suc (w - suc u) = omega arith in
    let z : 2 ^ (w - u) ≡ 2 * 2 ^ (w - suc u) = ap (λ k. 2 ^ k) e ∙ omega (arith, pow-suc 2 (w - suc u)) in
    ap (λ k. k * 2 ^ (w - suc u)) (mul_comm 2 q) ∙ mul_assoc q 2 (2 ^ (w - suc u)) ∙ ap (λ k. q * k) (sym z)

-- one bit less, where both entries of each pair name one page
pub narrowed_more : (w u : ℕ) (E E₁ E₂ : ℕ → ℕ) → NarrowedTo w (suc u) E E₁ → ((i : ℕ) → i < 2 ^ u → E₁ (2 * i) ≡ E₁ (2 * i + 1)) → ((i : ℕ) → i < 2 ^ u → E₂ i ≡ E₁ (2 * i)) → NarrowedTo w u E E₂
narrowed_more w u E E₁ E₂ r pairs half =
    record {
      narrower = omega (arith, r.narrower);
      left = λ i h. half i h ∙ from_pair i h;
      others = λ i h.
          let p = pre w i (suc u) in
          let low : p < 2 ^ suc u = pre_below w i (suc u) r.narrower h in
          let q : p / 2 < 2 ^ u = omega (arith, pow-suc 2 u) in
          r.others i h ∙ sym (r.left p low) ∙ first p q ∙ from_pair (p / 2) q ∙ ap (narrowed w u E) (sym (pre_step w i u r.narrower));
    }
  where
    from_pair : (i : ℕ) → i < 2 ^ u → E₁ (2 * i) ≡ narrowed w u E i
    from_pair i h = r.left (2 * i) (omega (arith, pow-suc 2 u)) ∙ ap E (twice_first w u i r.narrower)

    first : (p : ℕ) → p / 2 < 2 ^ u → E₁ p ≡ E₁ (2 * (p / 2))
    first p h =
        ⊎_elim (λ e. ap E₁ e) (λ ne. let e : p ≡ 2 * (p / 2) + 1 = omega arith in ap E₁ e ∙ sym (pairs (p / 2) h)) (cases_eq p (2 * (p / 2)))

-- a directory that cannot be narrower uses all its bits
narrowest_used : (u : ℕ) (E d : ℕ → ℕ) → Names u E d → Narrowest u E → DepthUsed u d
narrowest_used zero E d o least = inl refl
narrowest_used (suc u) E d o (inl e) = absurd (omega arith)
narrowest_used (suc u) E d o (inr r) = inr (2 * r.0, omega (arith, r.1), pair_deep u r.0 E d o r.1 r.2)

-- E₁ after the pages below were merged, E₂ narrowed from it, E₃ with unused entries cleared
module _ (w u h n page : ℕ) (E E₁ E₂ E₃ d : ℕ → ℕ) (m : Merging w h n page E d) (assign : (i : ℕ) → i < 2 ^ w → E₁ i ≡ assigned w n (pre 32 h n) page E i)
    (narrow : NarrowedTo w u E₁ E₂) (clear : (i : ℕ) → i < 2 ^ u → E₃ i ≡ E₂ i) where
  abbrev depths : ℕ → ℕ
  depths = assigned w n (pre 32 h n) n d

  merged_names : Names w E₁ depths
  merged_names =
      let j = m.one in
      names_at w (assigned w n (pre 32 h n) (E j.0) E) E₁ depths (λ i l. assign i l ∙ ap (λ x. assigned w n (pre 32 h n) x E i) j.3)
      (names_merged w n (pre 32 h n) j.0 E d m.names m.fits.1 m.below j.1 j.2)

  merged_short : (i : ℕ) → i < 2 ^ w → depths i ≤ u
  merged_short = told_short w u E₁ depths merged_names narrow.narrower narrow.others

  narrow_names : Names u E₂ (narrowed w u depths)
  narrow_names = names_at u (narrowed w u E₁) E₂ (narrowed w u depths) narrow.left (names_narrowed u w E₁ depths narrow.narrower merged_names merged_short)

  merged_entries : (i : ℕ) → i < 2 ^ u → E₃ i ≡ narrowed w u (assigned w n (pre 32 h n) page E) i
  merged_entries i l = clear i l ∙ narrow.left i l ∙ assign (i * 2 ^ (w - u)) (first_below w u i narrow.narrower l)

  -- an entry after the merge names a page that one named before
  merged_named : (i : ℕ) → i < 2 ^ w → (k : ℕ) × (k < 2 ^ w) × (assigned w n (pre 32 h n) page E i ≡ E k)
  merged_named i l =
      ⊎_elim (λ e. (m.one.0, m.one.1, assigned_in w n (pre 32 h n) page E i e ∙ m.one.3)) (λ ne. (i, l, assigned_out w n (pre 32 h n) page E i ne)) (cases_eq (pre w i n) (pre 32 h n))

  merged_range : (limit : ℕ) → InRange w limit E → InRange u limit E₃
  merged_range limit r i l =
      let k = merged_named (i * 2 ^ (w - u)) (first_below w u i narrow.narrower l) in
      subst (λ x. (5 ≤ x) × (x ≤ 4 + limit)) (sym (merged_entries i l ∙ k.2)) (r k.0 k.1)

  pub merged_from : Narrowest u E₂ → Unused u E₃ → Merged w u h n page E d E₃
  merged_from least unused =
      record {
        narrower = narrow.narrower;
        short = merged_short;
        entries = merged_entries;
        names = names_at u E₂ E₃ (narrowed w u depths) clear narrow_names;
        range = merged_range;
        unused = unused;
        used = narrowest_used u E₂ (narrowed w u depths) narrow_names least;
      }

-- What stays a directory: widened, narrowed, with a bucket split in two, with buckets merged.
use Rattle.std.proofs.Common.{◌≡◌, ℕ, suc, ◌+◌, ◌-◌, ◌*◌, ◌/◌, ◌^◌, ◌<◌, ◌≤◌, eqb, ◌⊎◌, sym, ap, ◌∙◌, subst, inl, inr, ⊎_elim, arith}
use Rattle.std.proofs.lemmas.Bool.{cases_lt, cases_eq, cond-true, cond-false, eq-eqb, ne_eqb}
use Rattle.tree.specs.Prefix.{pre}
use Rattle.tree.proofs.Prefixes.{pre_step, pre_pre, pre_below, pre_agree, pre_up, pre_filled, first_below}
use Rattle.tree.proofs.Growth.{sib_other, sib_parent, sib_only}
use Rattle.tree.proofs.Directory.{beside}
use Rattle.directory.specs.Names.{Names, Free, Differ, assigned, widened, narrowed}

-- the first n bits of the first entry of v bits that begins with the entry i of w bits
pub first_begins : (v w i n : ℕ) → n ≤ w → w ≤ v → pre v (i * 2 ^ (v - w)) n ≡ pre w i n
first_begins v w i n k l = sym (pre_pre v (i * 2 ^ (v - w)) w n k l) ∙ ap (λ u. pre w u n) (pre_filled v i w)

-- what is assigned, where it is and elsewhere
pub assigned_in : (w n p x : ℕ) (f : ℕ → ℕ) (i : ℕ) → pre w i n ≡ p → assigned w n p x f i ≡ x
assigned_in w n p x f i e = cond-true (eqb (pre w i n) p) x (f i) (eq-eqb (pre w i n) p e)

pub assigned_out : (w n p x : ℕ) (f : ℕ → ℕ) (i : ℕ) → (pre w i n ≡ p → ⊥) → assigned w n p x f i ≡ f i
assigned_out w n p x f i e = cond-false (eqb (pre w i n) p) x (f i) (ne_eqb (pre w i n) p e)

-- only used entries matter
pub names_at : (w : ℕ) (E E' d : ℕ → ℕ) → ((i : ℕ) → i < 2 ^ w → E' i ≡ E i) → Names w E d → Names w E' d
names_at w E E' d same o =
    record {
      short = o.short;
      whole = o.whole;
      only = λ i j h k e. o.only i j h k (sym (same j k) ∙ e ∙ same i h);
      every = λ i j h k e. same j k ∙ o.every i j h k e ∙ sym (same i h);
    }

module _ (w v : ℕ) (E d : ℕ → ℕ) (wider : w ≤ v) where
  pub names_widened : Names w E d → Names v (widened w v E) (widened w v d)
  names_widened o =
      record {
        short = λ i h. let s = o.short (pre v i w) (in_w i h) in omega arith;
        whole = λ i j h k e. o.whole (pre v i w) (pre v j w) (in_w i h) (in_w j k) (down i j h e);
        only = λ i j h k e. up i j h (o.only (pre v i w) (pre v j w) (in_w i h) (in_w j k) e);
        every = λ i j h k e. o.every (pre v i w) (pre v j w) (in_w i h) (in_w j k) (down i j h e);
      }
    where
      in_w : (i : ℕ) → i < 2 ^ v → pre v i w < 2 ^ w
      in_w i h = pre_below v i w wider h

      first : (i j : ℕ) → i < 2 ^ v → pre w (pre v j w) (d (pre v i w)) ≡ pre v j (d (pre v i w))
      first i j h = pre_pre v j w (d (pre v i w)) (o.short (pre v i w) (in_w i h)) wider

      down : (i j : ℕ) → i < 2 ^ v → pre v j (d (pre v i w)) ≡ pre v i (d (pre v i w)) → pre w (pre v j w) (d (pre v i w)) ≡ pre w (pre v i w) (d (pre v i w))
      down i j h e = first i j h ∙ e ∙ sym (first i i h)

      up : (i j : ℕ) → i < 2 ^ v → pre w (pre v j w) (d (pre v i w)) ≡ pre w (pre v i w) (d (pre v i w)) → pre v j (d (pre v i w)) ≡ pre v i (d (pre v i w))
      up i j h e = sym (first i j h) ∙ e ∙ first i i h

  -- no page has more bits
  pub names_narrowed : Names v E d → ((i : ℕ) → i < 2 ^ v → d i ≤ w) → Names w (narrowed v w E) (narrowed v w d)
  names_narrowed o fit =
      record {
        short = λ i h. fit (i * 2 ^ (v - w)) (in_v i h);
        whole = λ i j h k e. o.whole (i * 2 ^ (v - w)) (j * 2 ^ (v - w)) (in_v i h) (in_v j k) (up i j h e);
        only = λ i j h k e. down i j h (o.only (i * 2 ^ (v - w)) (j * 2 ^ (v - w)) (in_v i h) (in_v j k) e);
        every = λ i j h k e. o.every (i * 2 ^ (v - w)) (j * 2 ^ (v - w)) (in_v i h) (in_v j k) (up i j h e);
      }
    where
      in_v : (i : ℕ) → i < 2 ^ w → i * 2 ^ (v - w) < 2 ^ v
      in_v i h = first_below v w i wider h

      first : (i j : ℕ) → i < 2 ^ w → pre v (j * 2 ^ (v - w)) (narrowed v w d i) ≡ pre w j (narrowed v w d i)
      first i j h = first_begins v w j (narrowed v w d i) (fit (i * 2 ^ (v - w)) (in_v i h)) wider

      up : (i j : ℕ) → i < 2 ^ w → pre w j (narrowed v w d i) ≡ pre w i (narrowed v w d i) → pre v (j * 2 ^ (v - w)) (narrowed v w d i) ≡ pre v (i * 2 ^ (v - w)) (narrowed v w d i)
      up i j h e = first i j h ∙ e ∙ sym (first i i h)

      down : (i j : ℕ) → i < 2 ^ w → pre v (j * 2 ^ (v - w)) (narrowed v w d i) ≡ pre v (i * 2 ^ (v - w)) (narrowed v w d i) → pre w j (narrowed v w d i) ≡ pre w i (narrowed v w d i)
      down i j h e = sym (first i j h) ∙ e ∙ first i i h

-- entries that agree in m bits, and m is n
agree_at : (w i j m n : ℕ) → m ≡ n → pre w j m ≡ pre w i m → pre w j n ≡ pre w i n
agree_at w i j m n e a = subst (λ l. pre w j l ≡ pre w i l) e a

-- the page of k bits that the entries below the prefix p name is split in two: those that begin with its child c name the free page q
module _ (w k p c q : ℕ) (E d : ℕ → ℕ) (o : Names w E d) (deeper : k < w) (own : (i : ℕ) → i < 2 ^ w → pre w i k ≡ p → d i ≡ k) (child : c / 2 ≡ p) (free : Free w E q) where
  abbrev split_depths : ℕ → ℕ
  split_depths = assigned w k p (suc k) d

  abbrev split_entries : ℕ → ℕ
  split_entries = assigned w (suc k) c q E

  above : (i : ℕ) → pre w i (suc k) ≡ c → pre w i k ≡ p
  above i e = pre_step w i k deeper ∙ ap (λ x. x / 2) e ∙ child

  -- an entry begins with p, and its page has one bit more, or it does not
  abbrev Inside : ℕ → Type 0
  Inside i = ((pre w i k ≡ p) × (split_depths i ≡ suc k)) ⊎ ((pre w i k ≡ p → ⊥) × (split_depths i ≡ d i))

  inside : (i : ℕ) → Inside i
  inside i = ⊎_elim (λ e. inl (e, assigned_in w k p (suc k) d i e)) (λ ne. inr (ne, assigned_out w k p (suc k) d i ne)) (cases_eq (pre w i k) p)

  -- it begins with c, and names q, or it does not
  abbrev Moved : ℕ → Type 0
  Moved i = ((pre w i (suc k) ≡ c) × (split_entries i ≡ q)) ⊎ ((pre w i (suc k) ≡ c → ⊥) × (split_entries i ≡ E i))

  moved : (i : ℕ) → Moved i
  moved i = ⊎_elim (λ e. inl (e, assigned_in w (suc k) c q E i e)) (λ ne. inr (ne, assigned_out w (suc k) c q E i ne)) (cases_eq (pre w i (suc k)) c)

  -- what shares the page of another prefix begins with another prefix
  outside : (i j : ℕ) → i < 2 ^ w → j < 2 ^ w → (pre w i k ≡ p → ⊥) → pre w j (d i) ≡ pre w i (d i) → pre w j k ≡ p → ⊥
  outside i j h l off e z = off (sym (agree_at w i j (d i) k (sym (o.whole i j h l e) ∙ own j l z) e) ∙ z)

  -- p has one other child
  other : (i j : ℕ) → pre w i k ≡ p → pre w j k ≡ p → (pre w i (suc k) ≡ c → ⊥) → (pre w j (suc k) ≡ c → ⊥) → pre w j (suc k) ≡ pre w i (suc k)
  other i j a b m n = sib_only _ c (sym (pre_step w j k deeper) ∙ b ∙ sym child) n ∙ sym (sib_only _ c (sym (pre_step w i k deeper) ∙ a ∙ sym child) m)

  split_short : (i : ℕ) → i < 2 ^ w → Inside i → split_depths i ≤ w
  split_short i h (inl r) = omega (arith, r.1)
  split_short i h (inr r) = omega (arith, r.1, o.short i h)

  split_whole : (i j : ℕ) → i < 2 ^ w → j < 2 ^ w → Inside i → Inside j → pre w j (split_depths i) ≡ pre w i (split_depths i) → split_depths j ≡ split_depths i
  split_whole i j h l (inl r) (inl s) e = s.1 ∙ sym r.1
  split_whole i j h l (inl r) (inr s) e = absurd (s.0 (pre_agree w j i (suc k) k (omega arith) deeper (agree_at w i j _ _ r.1 e) ∙ r.0))
  split_whole i j h l (inr r) (inl s) e = absurd (outside i j h l r.0 (agree_at w i j _ _ r.1 e) s.0)
  split_whole i j h l (inr r) (inr s) e = s.1 ∙ o.whole i j h l (agree_at w i j _ _ r.1 e) ∙ sym r.1

  -- two entries that stay with the page they share
  both_stay : (i j : ℕ) → i < 2 ^ w → Inside i → (pre w i (suc k) ≡ c → ⊥) → (pre w j (suc k) ≡ c → ⊥) → pre w j (d i) ≡ pre w i (d i) → pre w j (split_depths i) ≡ pre w i (split_depths i)
  both_stay i j h (inl r) m n e = agree_at w i j _ _ (sym r.1) (other i j r.0 (agree_at w i j _ _ (own i h r.0) e ∙ r.0) m n)
  both_stay i j h (inr r) m n e = agree_at w i j _ _ (sym r.1) e

  split_only : (i j : ℕ) → i < 2 ^ w → j < 2 ^ w → Moved i → Moved j → split_entries j ≡ split_entries i → pre w j (split_depths i) ≡ pre w i (split_depths i)
  split_only i j h l (inl r) (inl s) e = agree_at w i j _ _ (sym (assigned_in w k p (suc k) d i (above i r.0))) (s.0 ∙ sym r.0)
  split_only i j h l (inl r) (inr s) e = absurd (free j l (sym s.1 ∙ e ∙ r.1))
  split_only i j h l (inr r) (inl s) e = absurd (free i h (sym r.1 ∙ sym e ∙ s.1))
  split_only i j h l (inr r) (inr s) e = both_stay i j h (inside i) r.0 s.0 (o.only i j h l (sym s.1 ∙ e ∙ r.1))

  split_every : (i j : ℕ) → i < 2 ^ w → j < 2 ^ w → Inside i → Moved i → Moved j → pre w j (split_depths i) ≡ pre w i (split_depths i) → split_entries j ≡ split_entries i
  split_every i j h l (inl r) (inl t) (inl u) e = u.1 ∙ sym t.1
  split_every i j h l (inl r) (inl t) (inr u) e = absurd (u.0 (agree_at w i j _ _ r.1 e ∙ t.0))
  split_every i j h l (inl r) (inr t) (inl u) e = absurd (t.0 (sym (agree_at w i j _ _ r.1 e) ∙ u.0))
  split_every i j h l (inl r) (inr t) (inr u) e =
      let z = pre_agree w j i (suc k) k (omega arith) deeper (agree_at w i j _ _ r.1 e) in
      u.1 ∙ o.every i j h l (agree_at w i j _ _ (sym (own i h r.0)) z) ∙ sym t.1
  split_every i j h l (inr r) (inl t) u e = absurd (r.0 (above i t.0))
  split_every i j h l (inr r) (inr t) (inl u) e = absurd (outside i j h l r.0 (agree_at w i j _ _ r.1 e) (above j u.0))
  split_every i j h l (inr r) (inr t) (inr u) e = u.1 ∙ o.every i j h l (agree_at w i j _ _ r.1 e) ∙ sym t.1

  pub names_split : Names w split_entries split_depths
  names_split =
      record {
        short = λ i h. split_short i h (inside i);
        whole = λ i j h l e. split_whole i j h l (inside i) (inside j) e;
        only = λ i j h l e. split_only i j h l (moved i) (moved j) e;
        every = λ i j h l e. split_every i j h l (inside i) (moved i) (moved j) e;
      }

-- all pages below the prefix p of k bits are merged into one of them, which entry j names
module _ (w k p j : ℕ) (E d : ℕ → ℕ) (o : Names w E d) (short : k ≤ w) (own : (i : ℕ) → i < 2 ^ w → pre w i k ≡ p → k ≤ d i) (in_w : j < 2 ^ w) (begins : pre w j k ≡ p) where
  abbrev merged_depths : ℕ → ℕ
  merged_depths = assigned w k p k d

  abbrev merged_entries : ℕ → ℕ
  merged_entries = assigned w k p (E j) E

  -- an entry begins with p, or is as it was
  abbrev Joined : ℕ → Type 0
  Joined i =
      ((pre w i k ≡ p) × (merged_depths i ≡ k) × (merged_entries i ≡ E j)) ⊎ ((pre w i k ≡ p → ⊥) × (merged_depths i ≡ d i) × (merged_entries i ≡ E i))

  joined : (i : ℕ) → Joined i
  joined i =
      ⊎_elim (λ e. inl (e, assigned_in w k p k d i e, assigned_in w k p (E j) E i e)) (λ ne. inr (ne, assigned_out w k p k d i ne, assigned_out w k p (E j) E i ne))
      (cases_eq (pre w i k) p)

  -- what shares the page of another prefix begins with another prefix
  beyond : (i x : ℕ) → i < 2 ^ w → x < 2 ^ w → (pre w i k ≡ p → ⊥) → pre w x (d i) ≡ pre w i (d i) → pre w x k ≡ p → ⊥
  beyond i x h l off e z =
      let le : k ≤ d i = omega (arith, own x l z, o.whole i x h l e) in
      off (sym (pre_agree w x i (d i) k le (o.short i h) e) ∙ z)

  merged_short : (i : ℕ) → i < 2 ^ w → Joined i → merged_depths i ≤ w
  merged_short i h (inl r) = omega (arith, r.1)
  merged_short i h (inr r) = omega (arith, r.1, o.short i h)

  merged_whole : (i x : ℕ) → i < 2 ^ w → x < 2 ^ w → Joined i → Joined x → pre w x (merged_depths i) ≡ pre w i (merged_depths i) → merged_depths x ≡ merged_depths i
  merged_whole i x h l (inl r) (inl s) e = s.1 ∙ sym r.1
  merged_whole i x h l (inl r) (inr s) e = absurd (s.0 (agree_at w i x _ _ r.1 e ∙ r.0))
  merged_whole i x h l (inr r) (inl s) e = absurd (beyond i x h l r.0 (agree_at w i x _ _ r.1 e) s.0)
  merged_whole i x h l (inr r) (inr s) e = s.1 ∙ o.whole i x h l (agree_at w i x _ _ r.1 e) ∙ sym r.1

  merged_only : (i x : ℕ) → i < 2 ^ w → x < 2 ^ w → Joined i → Joined x → merged_entries x ≡ merged_entries i → pre w x (merged_depths i) ≡ pre w i (merged_depths i)
  merged_only i x h l (inl r) (inl s) e = agree_at w i x _ _ (sym r.1) (s.0 ∙ sym r.0)
  merged_only i x h l (inl r) (inr s) e =
      absurd (s.0 (pre_agree w x j (d j) k (own j in_w begins) (o.short j in_w) (o.only j x in_w l (sym s.2 ∙ e ∙ r.2)) ∙ begins))
  merged_only i x h l (inr r) (inl s) e = absurd (beyond i j h in_w r.0 (o.only i j h in_w (sym s.2 ∙ e ∙ r.2)) begins)
  merged_only i x h l (inr r) (inr s) e = agree_at w i x _ _ (sym r.1) (o.only i x h l (sym s.2 ∙ e ∙ r.2))

  merged_every : (i x : ℕ) → i < 2 ^ w → x < 2 ^ w → Joined i → Joined x → pre w x (merged_depths i) ≡ pre w i (merged_depths i) → merged_entries x ≡ merged_entries i
  merged_every i x h l (inl r) (inl s) e = s.2 ∙ sym r.2
  merged_every i x h l (inl r) (inr s) e = absurd (s.0 (agree_at w i x _ _ r.1 e ∙ r.0))
  merged_every i x h l (inr r) (inl s) e = absurd (beyond i x h l r.0 (agree_at w i x _ _ r.1 e) s.0)
  merged_every i x h l (inr r) (inr s) e = s.2 ∙ o.every i x h l (agree_at w i x _ _ r.1 e) ∙ sym r.2

  pub names_merged : Names w merged_entries merged_depths
  names_merged =
      record {
        short = λ i h. merged_short i h (joined i);
        whole = λ i x h l e. merged_whole i x h l (joined i) (joined x) e;
        only = λ i x h l e. merged_only i x h l (joined i) (joined x) e;
        every = λ i x h l e. merged_every i x h l (joined i) (joined x) e;
      }

-- ---- how many bits the pages have

-- each entry names the page of the first entry that begins with its u bits: no page has more than u bits
pub told_short : (w u : ℕ) (E d : ℕ → ℕ) → Names w E d → u ≤ w → ((i : ℕ) → i < 2 ^ w → E i ≡ narrowed w u E (pre w i u)) → (i : ℕ) → i < 2 ^ w → d i ≤ u
told_short w u E d o k told i h =
    ⊎_elim (λ (lt : u < d i). absurd (go (d i - 1) (omega arith) (omega (arith, o.short i h)) (omega arith))) (λ ge. ge) (cases_lt u (d i))
  where
    go : (n : ℕ) → u ≤ n → n < w → d i ≡ suc n → ⊥
    go n low in_w z =
        let b = beside w i n in_w h in
        let j = b.0 in
        let up : pre w j n ≡ pre w i n = pre_step w j n in_w ∙ ap (λ q. q / 2) b.2 ∙ sib_parent (pre w i (suc n)) ∙ sym (pre_step w i n in_w) in
        let same : E j ≡ E i = told j b.1 ∙ ap (narrowed w u E) (pre_agree w j i n u low (omega arith) up) ∙ sym (told i h) in
        sib_other (pre w i (suc n)) (sym b.2 ∙ agree_at w i j _ _ z (o.only i j h b.1 same))

-- two entries that differ in the last bit alone name two pages: these have all bits
pub pair_deep : (w i : ℕ) (E d : ℕ → ℕ) → Names (suc w) E d → 2 * i + 1 < 2 ^ suc w → Differ E i → d (2 * i) ≡ suc w
pair_deep w i E d o h ne =
    ⊎_elim (λ (lt : d (2 * i) < suc w). absurd (ne (sym (o.every (2 * i) (2 * i + 1) (omega arith) h (together lt)))))
    (λ ge. omega (arith, o.short (2 * i) (omega arith))) (cases_lt (d (2 * i)) (suc w))
  where
    together : d (2 * i) < suc w → pre (suc w) (2 * i + 1) (d (2 * i)) ≡ pre (suc w) (2 * i) (d (2 * i))
    together lt =
        let half : (2 * i + 1) / 2 ≡ 2 * i / 2 = omega arith in
        pre_up w (2 * i + 1) (d (2 * i)) (omega arith) ∙ ap (λ x. pre w x (d (2 * i))) half ∙ sym (pre_up w (2 * i) (d (2 * i)) (omega arith))

-- A test at each pair of siblings says whether a directory has the buckets of the tree.
use Rattle.std.proofs.Common.{◌≡◌, ℕ, zero, suc, ◌+◌, ◌-◌, ◌*◌, ◌/◌, ◌^◌, ◌<◌, ◌≤◌, sym, refl, ap, ◌∙◌, subst, ⊎_elim, pow-suc, arith, shl_lt}
use Rattle.std.proofs.lemmas.Bool.{cases_order}
use Rattle.tree.specs.Prefix.{pre, sib}
use Rattle.tree.specs.Loads.{Loads, Splits}
use Rattle.tree.specs.Trees.{Falls, room}
use Rattle.tree.specs.Images.{Parts, Tested}
use Rattle.tree.proofs.Prefixes.{pre_step, pre_below, pre_agree, pre_filled}
use Rattle.tree.proofs.Loading.{path_mono, path_sib}
use Rattle.tree.proofs.Partition.{falls_once}
use Rattle.tree.proofs.Growth.{sib_parent}

sib_below : (q n : ℕ) → q < 2 ^ suc n → sib q < 2 ^ suc n
sib_below q n h = omega (arith, pow-suc 2 n)

-- an entry that begins with the sibling of the first n + 1 bits of i
pub beside : (w i n : ℕ) → n < w → i < 2 ^ w → (j : ℕ) × (j < 2 ^ w) × (pre w j (suc n) ≡ sib (pre w i (suc n)))
beside w i n k h =
    let e : suc n + (w - suc n) ≡ w = omega arith in
    let b : sib (pre w i (suc n)) < 2 ^ suc n = sib_below (pre w i (suc n)) n (pre_below w i (suc n) k h) in
    (sib (pre w i (suc n)) * 2 ^ (w - suc n), subst (λ j. sib (pre w i (suc n)) * 2 ^ (w - suc n) < 2 ^ j) e (shl_lt (suc n) (w - suc n) b), pre_filled w (sib (pre w i (suc n))) (suc n))

module _ (L : Loads) (s : Splits L) (w : ℕ) (narrow : w ≤ 32) (d : ℕ → ℕ) (parts : Parts w d) where
  module _ (t : Tested L w d) where
    -- one bit less than an entry's prefix exceeds room, where that holds of all entries with longer prefixes
    parent_heavy : (i n : ℕ) → i < 2 ^ w → d i ≡ suc n
        → ((j k : ℕ) → j < 2 ^ w → d i < d j → d j ≡ suc k → room < L k (pre w j k)) → room < L n (pre w i n)
    parent_heavy i n h z deeper = go (beside w i n in_w h)
      where
        in_w : n < w
        in_w = omega (arith, parts.short i h)

        go : (j : ℕ) × (j < 2 ^ w) × (pre w j (suc n) ≡ sib (pre w i (suc n))) → room < L n (pre w i n)
        go r =
            let j = r.0 in
            let split : L n (pre w i n) ≡ L (suc n) (pre w i (suc n)) + L (suc n) (sib (pre w i (suc n))) = path_sib L s w i n in_w (omega (arith, in_w)) in
            let same : L (suc n) (pre w j (suc n)) ≡ L (suc n) (sib (pre w i (suc n))) = ap (L (suc n)) r.2 in
            ⊎_elim (λ e. omega (arith, split, same, t.full i j n h r.1 z (e ∙ z) r.2))
            (⊎_elim (λ (lt : d j < d i).
            let up : pre w i n ≡ pre w j n =
            pre_step w i n in_w ∙ sym (sib_parent (pre w i (suc n))) ∙ ap (λ q. q / 2) (sym r.2) ∙ sym (pre_step w j n in_w) in
            absurd (omega (arith, parts.whole j i r.1 h (pre_agree w i j n (d j) (omega arith) (omega (arith, in_w)) up))))
            (λ (gt : d i < d j).
            let e : d j ≡ suc (d j - 1) = omega arith in
            omega (
              arith,
              split,
              same,
              deeper j (d j - 1) r.1 gt e,
              path_mono L s w j (d j - 1) (suc n) (omega arith) (omega (arith, parts.short j r.1)) (omega (arith, parts.short j r.1)),
            )))
            (cases_order (d j) (d i))

    heavy : (e i n : ℕ) → i < 2 ^ w → w ≤ d i + e → d i ≡ suc n → room < L n (pre w i n)
    heavy zero i n h f z = parent_heavy i n h z (λ j k hj gt zj. absurd (omega (arith, parts.short j hj)))
    heavy (suc e) i n h f z = parent_heavy i n h z (λ j k hj gt zj. heavy e j k hj (omega arith) zj)

    from_parent : (i m : ℕ) → i < 2 ^ w → d i ≡ m → Falls L w i (d i)
    from_parent i zero h z = (t.fits i h, λ k l. absurd (omega arith))
    from_parent i (suc n) h z =
        (t.fits i h, λ k l. omega (arith, heavy w i n h (omega arith) z, path_mono L s w i n k (omega arith) (omega (arith, parts.short i h)) (omega (arith, parts.short i h))))

    -- the test suffices: each entry falls into the prefix that its page stands for
    pub tested_falls : (i : ℕ) → i < 2 ^ w → Falls L w i (d i)
    tested_falls i h = from_parent i (d i) h refl

  -- and the tree's own directory passes it
  pub falls_tested : ((i : ℕ) → i < 2 ^ w → Falls L w i (d i)) → Tested L w d
  falls_tested f =
      record {
        fits = λ i h. (f i h).0;
        full = λ i j n h hj z zj e.
            let in_w : n < w = omega (arith, parts.short i h) in
            omega (arith, path_sib L s w i n in_w (omega arith), ap (L (suc n)) e, (f i h).1 n (omega arith));
      }

-- the tree's lengths part the entries
pub falls_parts : (L : Loads) (w : ℕ) (d : ℕ → ℕ) → ((i : ℕ) → i < 2 ^ w → d i ≤ w) → ((i : ℕ) → i < 2 ^ w → Falls L w i (d i)) → Parts w d
falls_parts L w d short f =
    record {
      short = short;
      whole = λ i j h hj e.
          falls_once L w j (d j) (d i) (f j hj) (
            omega (arith, (f i h).0, ap (L (d i)) e),
            λ k l. omega (arith, (f i h).1 k l, ap (L k) (pre_agree w j i (d i) k (omega arith) (short i h) e)),
          );
    }

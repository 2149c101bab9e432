-- Two sibling buckets in one.
use Rattle.std.proofs.Common.{◌≡◌, ℕ, suc, ◌/◌, ◌<◌, true, List, ◌++◌, sym, ap, ◌∙◌, ⊎_elim, arith}
use Rattle.std.proofs.ByRecursion.{All-append}
use Rattle.std.proofs.lemmas.List.Sums.{sum_by-append}
use Rattle.std.proofs.lemmas.Bool.{cases_Bool, cases_eq}
use Rattle.keys.specs.Rule.{Rule, Lawful}
use Rattle.tree.specs.Prefix.{pre, sib}
use Rattle.tree.specs.Maps.{Rec, size, made}
use Rattle.tree.specs.Loads.{hashed}
use Rattle.tree.specs.Images.{Begun}
use Rattle.tree.proofs.Prefixes.{pre_step}
use Rattle.tree.proofs.Growth.{sib_other, sib_parent, sib_only}
use Rattle.tree.proofs.Sets.{in_left, in_right, in_append}
use Rattle.tree.proofs.Mapping.{all_of}
use Rattle.tree.proofs.Changes.{made_rest, made_sound}
use Rattle.tree.proofs.Stands.{tells}
use Rattle.pages.proofs.Readings.{apart_append}
use Rattle.bucket.specs.Laws.{hash_of, BesideKept, SiblingsJoined, MergedUp}

module _ (R : Rule) (law : Lawful R) where
  pub beside_kept : BesideKept R
  beside_kept c m ys n q v s ne b x = (
    (λ i. let r = (b x).0 i in ((made_rest R law c m v s.valid x (λ e. ne (sym r.1 ∙ ap (λ u. pre 32 u n) e))).0 r.0, r.1)),
    λ i e. (b x).1 ((made_rest R law c m v s.valid x (λ z. ne (sym e ∙ ap (λ u. pre 32 u n) z))).1 i) e,
  )

  joined_begun : (m xs ys : List Rec) (h n : ℕ) → n < 32 → Begun (hashed R) m (suc n) (pre 32 h (suc n)) xs → Begun (hashed R) m (suc n) (sib (pre 32 h (suc n))) ys → Begun (hashed R) m n (pre 32 h n) (xs ++ ys)
  joined_begun m xs ys h n k a b x = (
    (λ i. ⊎_elim
        (λ j. let r = (a x).0 j in (r.0, pre_step 32 (hashed R x) n k ∙ ap (λ u. u / 2) r.1 ∙ sym (pre_step 32 h n k)))
        (λ j. let r = (b x).0 j in (r.0, pre_step 32 (hashed R x) n k ∙ ap (λ u. u / 2) r.1 ∙ sib_parent (pre 32 h (suc n)) ∙ sym (pre_step 32 h n k)))
        (in_append x xs ys i)),
    λ i e. ⊎_elim (λ z. in_left x xs ys ((a x).1 i z))
        (λ ne. in_right x xs ys ((b x).1 i (sib_only (pre 32 (hashed R x) (suc n)) (pre 32 h (suc n)) (sym (pre_step 32 (hashed R x) n k) ∙ e ∙ pre_step 32 h n k) ne)))
        (cases_eq (pre 32 (hashed R x) (suc n)) (pre 32 h (suc n))),
  )

  pub siblings_joined : SiblingsJoined R
  siblings_joined m xs ys h n k a b = (
    joined_begun m xs ys h n k a b,
    λ s t. record {
      valid = All-append _ xs ys s.valid t.valid;
      apart = apart_append R xs ys s.apart t.apart (λ x y i j.
          ⊎_elim (λ u. absurd (sib_other (pre 32 h (suc n)) (sym ((b y).0 j).1
          ∙ ap (λ v. pre 32 v (suc n)) (sym (law.hashes x.key y.key (all_of (λ r. R.valid r.key ≡ true) x xs s.valid i) (all_of (λ r. R.valid r.key ≡ true) y ys t.valid j) u))
          ∙ ((a x).0 i).1))) (λ f. f) (cases_Bool (R.same x.key y.key)));
    },
  )

  pub merged_up : MergedUp R
  merged_up c m xs ys n v s sx sy k a b =
      let g = siblings_joined (made R c m) xs ys (hash_of R c) n k a (beside_kept c m ys (suc n) (sib (pre 32 (hash_of R c) (suc n))) v s (sib_other (pre 32 (hash_of R c) (suc n))) b) in
      let t = g.1 sx sy in
      (g.0, t, (tells R law (made R c m) (xs ++ ys) n (pre 32 (hash_of R c) n) (made_sound R c m v s) t (omega arith) g.0).0 ∙ sum_by-append size xs ys)

-- Lists of the pages that entries name.
use Rattle.std.proofs.Common.{◌≡◌, ℕ, ◌+◌, ◌-◌, ◌*◌, ◌^◌, ◌<◌, ◌≤◌, List, [], ◌∷◌, map, length, ap, subst, inl, inr, ⊎_elim, arith}
use Rattle.std.proofs.lemmas.List.{length-map}
use Rattle.std.proofs.lemmas.Bool.{cases_lt}
use Rattle.tree.specs.Prefix.{pre}
use Rattle.tree.specs.Members.{In}
use Rattle.tree.specs.Trees.{buckets}
use Rattle.tree.proofs.Prefixes.{pre_below, pre_filled, first_below}
use Rattle.tree.proofs.Partition.{falls_bucket}
use Rattle.tree.proofs.Listing.{bucket_listed}
use Rattle.tree.proofs.Sets.{free_number}
use Rattle.directory.specs.Names.{NoneFree, AllIn}
use Rattle.directory.specs.Laws.{PagesTaken}

in_map : {X Y : Type 0} (f : X → Y) (x : X) (xs : List X) → In x xs → In (f x) (map f xs)
in_map f x [] i = absurd i
in_map f x (y ∷ ys) (inl e) = inl (ap f e)
in_map f x (y ∷ ys) (inr i) = inr (in_map f x ys i)

-- where no page is free, the pages named are as many as there may be
pub none_free : (w limit : ℕ) (E : ℕ → ℕ) (all : List ℕ) → NoneFree w limit E → AllIn w E all → limit ≤ length all
none_free w limit E all none named =
    ⊎_elim (λ (lt : length all < limit).
    let k = free_number limit (map (λ x. x - 5) all) (omega (arith, length-map all (λ x. x - 5))) in
    let i = none (5 + k.0) (omega arith) (omega (arith, k.1)) in
    let e : E i.0 - 5 ≡ k.0 = omega (arith, i.2) in
    absurd (k.2 (subst (λ x. In x (map (λ x. x - 5) all)) e (in_map (λ x. x - 5) (E i.0) all (named i.0 i.1)))))
    (λ ge. ge) (cases_lt (length all) limit)

-- the page of each bucket
pub pages_taken : PagesTaken
pages_taken L w E d deep o falls =
    let page : ℕ × ℕ → ℕ = λ b. E (b.1 * 2 ^ (w - b.0)) in (
      map page (buckets L),
      length-map (buckets L) page,
      λ i h.
          let short = o.short i h in
          let p = pre w i (d i) in
          let low = pre_below w i (d i) short h in
          subst (λ x. In x (map page (buckets L))) (o.every i (p * 2 ^ (w - d i)) h (first_below w (d i) p short low) (pre_filled w p (d i)))
          (in_map page (d i, p) (buckets L) (bucket_listed L (d i) p (omega arith) low (falls_bucket L w i (d i) short (falls i h)))),
    )

-- What a header names is read back.
use Rattle.std.proofs.Common.{◌≡◌, ℕ, ◌+◌, ◌*◌, ◌/◌, ◌%◌, ◌≤◌, true, ◌&&◌, leb, List, [], ◌∷◌, length, refl, ap, ◌∙◌, arith}
use Rattle.std.proofs.lemmas.Bool.{cond-true, le-leb, lt-ltb, and_from, not_from_false}
use Rattle.layout.specs.Envelope.{body_part, same}
use Rattle.layout.proofs.Envelopes.{body_part-envelope, same_self}
use Rattle.device.specs.Meaning.{bytes, Distinct}
use Rattle.journal.specs.Entries.{Entry}
use Rattle.journal.specs.Waiting.{pages, AllFit}
use Rattle.journal.specs.Header.{two_bytes, pairs, header, all_below, distinct, once, names, named, targets}
use Rattle.journal.specs.Sound.{pages_length}
use Rattle.journal.specs.Steps.{Reads}

-- numbers are those that their bytes make
pub pairs_back : (ts : List ℕ) → pairs (two_bytes ts) ≡ ts
pairs_back [] = refl
pairs_back (t ∷ ts) = let a : t / 256 * 256 + t % 256 ≡ t = omega arith in let b = pairs_back ts in cc

below_all : (n : ℕ) (es : List Entry) → AllFit n es → all_below n (pages es) ≡ true
below_all n [] h = refl
below_all n (e ∷ es) h = and_from _ _ (lt-ltb e.page n h.0) (below_all n es h.2)

distinct_all : (ts : List ℕ) → Distinct ts → distinct ts ≡ true
distinct_all [] h = refl
distinct_all (t ∷ ts) h = and_from _ _ (not_from_false _ h.0) (distinct_all ts h.1)

read_back : (n : ℕ) (ts : List ℕ) → length ts ≤ 64 → once n ts ≡ true → targets n (bytes (header ts)) ≡ ts
read_back n ts few o =
    let back : pairs (body_part (header ts)) ≡ ts = ap pairs (body_part-envelope (two_bytes ts)) ∙ pairs_back ts in
    ap (named n (header ts)) back ∙ cond-true (names n (header ts) ts) ts [] (and_from (same (header ts) (header ts)) (leb (length ts) 64 && once n ts) (same_self (header ts)) (and_from (leb (length ts) 64) (once n ts) (le-leb _ _ few) o))

-- a header that names none
pub reads_none : (n : ℕ) → targets n (bytes (header [])) ≡ []
reads_none n = read_back n [] (omega arith) refl

pub reads : (n : ℕ) (es : List Entry) → length es ≤ 64 → AllFit n es → Distinct (pages es) → Reads (targets n) es
reads n es few fit apart = record {
  broken = refl;
  clear = reads_none n;
  named = read_back n (pages es) (let l = pages_length es in omega arith) (and_from (all_below n (pages es)) (distinct (pages es)) (below_all n es fit) (distinct_all (pages es) apart));
}

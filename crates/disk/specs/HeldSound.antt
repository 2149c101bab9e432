-- At every moment the disk's meaning is sound: a page has a fate, what it shows is one, and each has 252 bytes or is spoiled.
use Rattle.std.specs.Prelude.{◌≡◌, ℕ, ◌+◌, ◌*◌, ◌<◌, ◌≤◌, Bool, true, false, cond, List, length, take, refl}
use Rattle.std.proofs.Common.{ap, ◌∙◌, inl, inr, ⊎_elim, arith, length-take, length-drop}
use Rattle.device.specs.Meaning.{State, bytes, spoiled, Sound}
use Rattle.disk.specs.Raw.{raw, holds, decode}
use Rattle.disk.specs.Image.{count_of, marked, current, Fate}
use Rattle.disk.specs.Held.{Held, means}

-- the length of a state's bytes; a spoiled one counts as whole
abbrev size_of : State → ℕ
size_of (bytes bs) = length bs
size_of spoiled = 252

decoded : (r : List ℕ) → length r ≡ 256 → size_of (decode r) ≡ 252
unfolding decode
decoded r e =
    elim (holds r) as (λ b. size_of (cond b (bytes (take 252 r)) spoiled) ≡ 252) [ true ↦ simp length-take (omega arith) | false ↦ refl ]

pub raw_size : (img : List ℕ) (i : ℕ) → i * 256 + 256 ≤ length img → length (raw img i) ≡ 256
unfolding raw
raw_size img i h = simp (length-take, length-drop) (omega arith)

module _ (s w k : List ℕ) (i : ℕ) (lt : i < count_of s w k) where
  settled_size : length (raw s i) ≡ 256
  unfolding count_of
  settled_size = raw_size s i (omega arith)

  written_size : length (raw w i) ≡ 256
  unfolding count_of
  written_size = raw_size w i (omega arith)

  sized : (t : State) → Fate s w k i t → size_of t ≡ 252
  sized t (inl e) = ap size_of e ∙ decoded (raw s i) settled_size
  sized t (inr q) = ⊎_elim (λ e. ap size_of e ∙ decoded (raw w i) written_size) (λ e. ap size_of e) q.1

shows : (s w k : List ℕ) (i : ℕ) → Fate s w k i (decode (current s w k i))
unfolding current
shows s w k i = by_mark (marked k i) refl
  where
    by_mark : (b : Bool) → marked k i ≡ b → Fate s w k i (decode (cond b (raw w i) (raw s i)))
    by_mark true e = inr (e, inl refl)
    by_mark false e = inl refl

pub held_sound : (x : Held) → Sound (means x)
held_sound x = record {
  some_fate = λ i h. (decode (raw x.settled i), inl refl);
  shown_fate = λ r i h. shows x.settled x.written x.marks i;
  sized = λ i bs h f. sized x.settled x.written x.marks i h (bytes bs) f;
  few = λ r. omega arith;
  apart = tt;
  pages = λ i e. absurd (false≢true e);
}
  where
    false≢true : false ≡ true → ⊥
    false≢true e = let z : ◌≡◌ {A = ℕ} 0 1 = ap (λ b. cond b 1 0) e in omega arith

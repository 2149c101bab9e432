-- Pages by layout: what the reader takes apart is what was put together, and in one way alone.
use Rattle.std.proofs.Common.{◌≡◌, ℕ, suc, ◌+◌, ◌-◌, ◌*◌, ◌/◌, ◌%◌, ◌<◌, ◌≤◌, true, eqb, List, [], ◌∷◌, ◌++◌, length, get_or, take, drop, set, replicate, sym, refl, ap, ◌∙◌, subst, arith, length-append, length-drop, take-append-drop, Result, Ok, Err}
use lib.ListN.{length-replicate}
use borrow.Rule.Slice.PartMut.{put_mid}
use Rattle.std.proofs.lemmas.List.{take_all, take_at, drop_at, append_assoc, length-take-le, drop-replicate}
use Rattle.std.proofs.lemmas.Bool.{eqb-true, eq-eqb, and_from, and_parts, false≢true}
use Rattle.layout.specs.Envelope.{envelope, Enveloped, body_part, same, Extended}
use Rattle.layout.specs.declared.NoRoom.{NoRoom}

pub split_eq : (p q r s : List ℕ) → length p ≡ length r → p ++ q ≡ r ++ s → (p ≡ r) × (q ≡ s)
split_eq p q r s l e = (
  sym (take_at p q (length p) refl) ∙ ap (take (length p)) e ∙ take_at r s (length p) (sym l),
  sym (drop_at p q (length p) refl) ∙ ap (drop (length p)) e ∙ drop_at r s (length p) (sym l),
)

three : (p : List ℕ) → 3 ≤ length p → p ≡ get_or p 0 0 ∷ get_or p 1 0 ∷ get_or p 2 0 ∷ drop 3 p
three [] h = absurd (omega (arith, h))
three (a ∷ []) h = absurd (omega (arith, h))
three (a ∷ b ∷ []) h = absurd (omega (arith, h))
three (a ∷ b ∷ c ∷ q) h = refl

-- what the first bytes of a page by layout say
pub envelope_starts : (p body : List ℕ) → Enveloped p body
    → (length p ≡ 252) × (get_or p 0 0 ≡ 1) × (get_or p 1 0 * 256 + get_or p 2 0 ≡ length body) × (drop 3 p ≡ body ++ replicate (249 - length body) 0)
unfolding envelope
envelope_starts p body v =
    let l : length p ≡ 3 + length (body ++ replicate (249 - length body) 0) = ap length v.is ∙ omega arith in
    let z : length {A = ℕ} (replicate (249 - length body) 0) ≡ 249 - length body = length-replicate (249 - length body) 0 in
    let h1 : get_or p 1 0 ≡ length body / 256 = ap (λ (q : List ℕ). get_or q 1 0) v.is in
    let h2 : get_or p 2 0 ≡ length body % 256 = ap (λ (q : List ℕ). get_or q 2 0) v.is in
    (omega (arith, l, z, length-append body (replicate (249 - length body) 0), v.fits), ap (λ (q : List ℕ). get_or q 0 0) v.is, omega (arith, h1, h2), ap (drop 3) v.is)

-- a page has one body
pub envelope_inj : (a b : List ℕ) → envelope a ≡ envelope b → a ≡ b
unfolding envelope
envelope_inj a b e =
    let h1 : length a / 256 ≡ length b / 256 = ap (λ (q : List ℕ). get_or q 1 0) e in
    let h2 : length a % 256 ≡ length b % 256 = ap (λ (q : List ℕ). get_or q 2 0) e in
    (split_eq a (replicate (249 - length a) 0) b (replicate (249 - length b) 0) (omega arith) (ap (drop 3) e)).0

-- what the reader of a page takes is its body
enveloped : (p : List ℕ) (n : ℕ) → length p ≡ 252 → get_or p 0 0 ≡ 1 → n ≡ get_or p 1 0 * 256 + get_or p 2 0 → get_or p 2 0 < 256 → n ≤ 249
    → drop n (drop 3 p) ≡ replicate (length (drop n (drop 3 p))) 0 → Enveloped p (take n (drop 3 p))
unfolding envelope
enveloped p n lp h0 hn h2 short z =
    let lb : length (take n (drop 3 p)) ≡ n = length-take-le n (drop 3 p) (omega (arith, length-drop 3 p)) in
    let lt : length (drop n (drop 3 p)) ≡ 249 - n = omega (arith, length-drop n (drop 3 p), length-drop 3 p) in
    let e1 : length (take n (drop 3 p)) / 256 ≡ get_or p 1 0 = omega arith in
    let e2 : length (take n (drop 3 p)) % 256 ≡ get_or p 2 0 = omega arith in
    let e3 : replicate (249 - length (take n (drop 3 p))) 0 ≡ drop n (drop 3 p) = ap (λ k. replicate k 0) (ap (λ k. 249 - k) lb ∙ sym lt) ∙ sym z in
    record {
      fits = omega arith;
      is = three p (omega arith) ∙ sym (λ i. sym h0 i ∷ e1 i ∷ e2 i ∷ ((ap (λ (l : List ℕ). take n (drop 3 p) ++ l) e3 ∙ take-append-drop n (drop 3 p)) i));
    }

-- the reader's own parts: what follows the three bytes, cut at the length that they say
pub body_read : (p : List ℕ) (n : ℕ) → length p ≡ 252 → get_or p 0 0 ≡ 1 → n ≡ get_or p 1 0 * 256 + get_or p 2 0 → get_or p 2 0 < 256 → n ≤ 249 → (rest body tail : List ℕ)
    → rest ≡ take (length p - 3) (drop 3 p) → body ≡ take n rest → tail ≡ drop n rest → tail ≡ replicate (length tail) 0 → Enveloped p body
body_read p n lp h0 hn h2 short rest body tail re be te z =
    let whole : rest ≡ drop 3 p = re ∙ take_all (length p - 3) (drop 3 p) (omega (arith, length-drop 3 p)) in
    let b : body ≡ take n (drop 3 p) = be ∙ ap (take n) whole in
    let t : tail ≡ drop n (drop 3 p) = te ∙ ap (drop n) whole in
    subst (Enveloped p) (sym b) (enveloped p n lp h0 hn h2 short (sym t ∙ z ∙ ap (λ (l : List ℕ). replicate (length l) 0) t))

pub body_not : (p : List ℕ) (n : ℕ) → n ≡ get_or p 1 0 * 256 + get_or p 2 0 → (rest tail : List ℕ)
    → rest ≡ take (length p - 3) (drop 3 p) → tail ≡ drop n rest → (tail ≡ replicate (length tail) 0 → ⊥) → (body : List ℕ) → Enveloped p body → ⊥
body_not p n hn rest tail re te un body v =
    let s = envelope_starts p body v in
    let whole : rest ≡ drop 3 p = re ∙ take_all (length p - 3) (drop 3 p) (omega (arith, length-drop 3 p)) in
    let back : tail ≡ replicate (249 - length body) 0 = te ∙ ap (drop n) whole ∙ ap (drop n) s.3 ∙ drop_at body (replicate (249 - length body) 0) n (omega (arith, s.2)) in
    un (back ∙ ap (λ k. replicate k 0) (sym (ap length back ∙ length-replicate (249 - length body) 0)))

-- a page with more in its body
shape : (a b d : ℕ) (q more : List ℕ) (n x y : ℕ)
    → set (set (put_mid (3 + n) (length more) (a ∷ b ∷ d ∷ q) more) 1 x) 2 y ≡ a ∷ x ∷ y ∷ (take n q ++ (more ++ drop (length more) (drop n q)))
shape a b d q more n x y =
    let e : 3 + n ≡ suc (suc (suc n)) = omega arith in
    subst (λ k. set (set (put_mid k (length more) (a ∷ b ∷ d ∷ q) more) 1 x) 2 y ≡ a ∷ x ∷ y ∷ (take n q ++ (more ++ drop (length more) (drop n q)))) (sym e) refl

extended : (p more body : List ℕ) (n : ℕ) → n ≡ get_or p 1 0 * 256 + get_or p 2 0 → Enveloped p body → n + length more ≤ 249
    → Enveloped (set (set (put_mid (3 + n) (length more) p more) 1 ((n + length more) / 256)) 2 ((n + length more) % 256)) (body ++ more)
unfolding envelope
extended p more body n hn v room =
    let s = envelope_starts p body v in
    let ln : n ≡ length body = omega (arith, s.2) in
    let lb : n + length more ≡ length (body ++ more) = omega (arith, length-append body more) in
    let front : take n (drop 3 p) ≡ body = ap (take n) s.3 ∙ take_at body (replicate (249 - length body) 0) n (sym ln) in
    let back : drop n (drop 3 p) ≡ replicate (249 - length body) 0 = ap (drop n) s.3 ∙ drop_at body (replicate (249 - length body) 0) n (sym ln) in
    let less : 249 - length body - length more ≡ 249 - length (body ++ more) = omega arith in
    let rest : drop (length more) (drop n (drop 3 p)) ≡ replicate (249 - length (body ++ more)) 0 =
    ap (drop (length more)) back ∙ drop-replicate (length more) (249 - length body) 0 ∙ ap (λ k. replicate k 0) less in
    let long : 3 ≤ length p = omega (arith, s.0) in
    record {
      fits = omega arith;
      is =
          ap (λ (l : List ℕ). set (set (put_mid (3 + n) (length more) l more) 1 ((n + length more) / 256)) 2 ((n + length more) % 256)) (three p long)
          ∙ shape (get_or p 0 0) (get_or p 1 0) (get_or p 2 0) (drop 3 p) more n ((n + length more) / 256) ((n + length more) % 256)
          ∙ (λ i. s.1 i ∷ (lb i / 256) ∷ (lb i % 256) ∷ (front i ++ (more ++ rest i)))
          ∙ ap (λ (l : List ℕ). 1 ∷ (length (body ++ more) / 256) ∷ (length (body ++ more) % 256) ∷ l) (sym (append_assoc body more (replicate (249 - length (body ++ more)) 0)));
    }

-- the same as the code has it
pub extended_by : (p more body : List ℕ) (n k : ℕ) (m : List ℕ) (hi lo : ℕ) → n ≡ get_or p 1 0 * 256 + get_or p 2 0 → k ≡ length more → m ≡ more → hi ≡ (n + length more) / 256
    → lo ≡ (n + length more) % 256 → n + length more ≤ 249 → Enveloped p body → Enveloped (set (set (put_mid (3 + n) k p m) 1 hi) 2 lo) (body ++ more)
extended_by p more body n k m hi lo hn hk hm hh hl room v =
    let x = extended p more body n hn v room in
    record {
      fits = x.fits;
      is = (λ i. set (set (put_mid (3 + n) (hk i) p (hm i)) 1 (hh i)) 2 (hl i)) ∙ x.is;
    }

pub envelope_length : (b : List ℕ) → length (envelope b) ≡ 252 → length b ≤ 249
unfolding envelope
envelope_length b e = omega (arith, length-append b (replicate (249 - length b) 0), length-replicate {A = ℕ} (249 - length b) 0)

-- the length bytes mark off the body
pub body_part-envelope : (b : List ℕ) → body_part (envelope b) ≡ b
unfolding envelope
body_part-envelope b = take_at b (replicate (249 - length b) 0) (length b / 256 * 256 + length b % 256) (omega arith)

-- the test of two lists
pub same_true : (xs ys : List ℕ) → same xs ys ≡ true → xs ≡ ys
same_true [] [] e = refl
same_true [] (y ∷ ys) e = absurd (false≢true e)
same_true (x ∷ xs) [] e = absurd (false≢true e)
same_true (x ∷ xs) (y ∷ ys) e = let q = and_parts (eqb x y) (same xs ys) e in λ i. eqb-true x y q.0 i ∷ same_true xs ys q.1 i

pub same_self : (xs : List ℕ) → same xs xs ≡ true
same_self [] = refl
same_self (x ∷ xs) = and_from (eqb x x) (same xs xs) (eq-eqb x x refl) (same_self xs)

-- what was added, where there was room
pub extend_fits : (page body more : List ℕ) (r : Result (Unit {0}) NoRoom) → Extended page body more r → length body + length more ≤ 249 → Enveloped page (body ++ more)
extend_fits page body more (Ok _) x room = x
extend_fits page body more (Err _) x room = absurd (omega (arith, x.0))

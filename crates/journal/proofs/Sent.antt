-- Calls that go below in a planned order: one call, one part of a plan after another, and a plan that was broken off.
use Rattle.std.proofs.Common.{◌≡◌, ℕ, zero, suc, ◌+◌, ◌<◌, Bool, true, false, ◌||◌, List, [], ◌∷◌, ◌++◌, length, get_or, take, drop, Ok, Err, sym, refl, ap, ◌∙◌, subst, append_assoc, append-nil, arith}
use Rattle.std.proofs.lemmas.List.{take_more, length-take-le}
use Rattle.device.specs.declared.DeviceFault.{DeviceFault}
use Rattle.device.specs.Meaning.{Meaning}
use Rattle.device.specs.Calls.{Answer, Call, writes, Step, always, lost, Calls, none, more, DeviceCalls}
use Rattle.device.proofs.Still.{calls_still}
use Rattle.journal.specs.Entries.{Entry}
use Rattle.journal.specs.declared.places.Area.{Area}
use Rattle.journal.specs.Waiting.{blank}
use Rattle.journal.specs.Sending.{unread, changes, Front, Makes, page_of, placed}

-- one chain after another, with the calls of both
chained : {D : Type 0} {runs : D → Bool} {step : Call → D → Answer → D → Type 0} {heard : Bool} {a b c : D}
    (p : Calls runs step false a b) (q : Calls runs step heard b c) → (w : Calls runs step heard a c) × (changes w ≡ changes p ++ changes q)
chained p none = (p, sym (append-nil (changes p)))
chained p (more k r e q al s) = let w = chained p q in
    (more k r e w.0 al s, ap (λ (l : List Call). l ++ unread k) w.1 ∙ append_assoc (changes p) (changes q) (unread k))

module _ {D : Type 0} (meaning : D → Meaning) where
  -- nothing goes below
  pub made_none : (d : D) → Makes meaning [] (Ok tt) d d
  made_none d = (none, refl)

  -- one call does
  pub made : (k : Call) (r : Answer) (d e : D) → (always k || (meaning d).runs) ≡ true → Step k (meaning d) r (meaning e) → Makes meaning (unread k) r d e
  made k (Ok x) d e al s = (more k (Ok x) e none al s, refl)
  made k (Err f) d e al s = (more k (Err f) e none al s, ([], append-nil (unread k)))

  -- a plan that was broken off is the front part of a longer one
  pub stopped : (p q : List Call) (f : DeviceFault) (d e : D) → Makes meaning p (Err f) d e → Makes meaning (p ++ q) (Err f) d e
  stopped p q f d e (c, (zs, is)) = (c, (zs ++ q, sym (append_assoc (changes c) zs q) ∙ ap (λ (l : List Call). l ++ q) is))

  -- a plan that was carried out leaves the device running
  made_still : (p : List Call) (d e : D) → Makes meaning p (Ok tt) d e → (meaning d).runs ≡ true → (meaning e).runs ≡ true
  made_still p d e m t = calls_still meaning m.0 t

  -- one part of a plan after another
  joined : (p q : List Call) (r : Answer) (a b c : D) → Makes meaning p (Ok tt) a b → Makes meaning q r b c → Makes meaning (p ++ q) r a c
  joined p q (Ok x) a b c (u, is) (v, also) = let w = chained u v in
      (w.0, w.1 ∙ ap (λ (l : List Call). l ++ changes v) is ∙ ap (λ (l : List Call). p ++ l) also)
  joined p q (Err f) a b c (u, is) (v, (zs, also)) = let w = chained u v in
      (w.0, (zs, ap (λ (l : List Call). l ++ zs) (w.1 ∙ ap (λ (l : List Call). l ++ changes v) is) ∙ append_assoc p (changes v) zs ∙ ap (λ (l : List Call). p ++ l) also))

  pub and_then : (p q : List Call) (r : Answer) (a b c : D) → (meaning a).runs ≡ true → Makes meaning p (Ok tt) a b → ((meaning b).runs ≡ true → Makes meaning q r b c) → Makes meaning (p ++ q) r a c
  and_then p q r a b c t u v = joined p q r a b c u (v (made_still p a b u t))

  -- reads alone, whatever was answered
  front_nil : (xs : List Call) → Front xs [] → xs ≡ []
  front_nil [] f = refl
  front_nil (x ∷ xs) (zs, is) = absurd (let z : ◌≡◌ {A = ℕ} 0 1 = cc in omega arith)

  only_reads : (r : Answer) (d e : D) → Makes meaning [] r d e → (c : DeviceCalls meaning (lost r) d e) × (changes c ≡ [])
  only_reads (Ok x) d e m = m
  only_reads (Err f) d e (c, front) = (c, front_nil (changes c) front)

  from_reads : (s : Answer) (d e : D) → ((c : DeviceCalls meaning (lost s) d e) × (changes c ≡ [])) → Makes meaning [] s d e
  from_reads (Ok x) d e m = m
  from_reads (Err f) d e (c, is) = (c, ([], append-nil (changes c) ∙ is))

  pub looked_on : (r s : Answer) (d e : D) → lost r ≡ lost s → Makes meaning [] r d e → Makes meaning [] s d e
  looked_on r s d e h m = from_reads s d e (subst (λ (b : Bool). (c : DeviceCalls meaning b d e) × (changes c ≡ [])) h (only_reads r d e m))

-- the entries, written one after another
placed_push : (area : Area) (j : ℕ) (es : List Entry) (e : Entry) → placed area j (es ++ e ∷ []) ≡ placed area j es ++ writes (page_of area (j + length es) e.page) e.bytes ∷ []
placed_push area j [] e = ap (λ (k : ℕ). writes (page_of area k e.page) e.bytes ∷ []) (let z : j ≡ j + 0 = omega arith in z)
placed_push area j (d ∷ es) e = ap (λ (l : List Call). writes (page_of area j d.page) d.bytes ∷ l)
    (placed_push area (suc j) es e ∙ ap (λ (k : ℕ). placed area (suc j) es ++ writes (page_of area k e.page) e.bytes ∷ []) (let z : suc j + length es ≡ j + suc (length es) = omega arith in z))

pub placed_more : (area : Area) (es : List Entry) (j : ℕ) → j < length es
    → placed area 0 (take j es) ++ writes (page_of area j (get_or es j blank).page) (get_or es j blank).bytes ∷ [] ≡ placed area 0 (take (j + 1) es)
placed_more area es j lt =
    let t = length-take-le j es (omega arith) in
    let l : 0 + length (take j es) ≡ j = omega arith in
    sym (ap (placed area 0) (take_more es j blank lt) ∙ placed_push area 0 (take j es) (get_or es j blank)
    ∙ ap (λ (k : ℕ). placed area 0 (take j es) ++ writes (page_of area k (get_or es j blank).page) (get_or es j blank).bytes ∷ []) l)

placed_split : (area : Area) (j k : ℕ) (es : List Entry) → placed area j es ≡ placed area j (take k es) ++ placed area (j + k) (drop k es)
placed_split area j zero es = ap (λ (i : ℕ). placed area i es) (let z : j ≡ j + 0 = omega arith in z)
placed_split area j (suc k) [] = refl
placed_split area j (suc k) (e ∷ es) = ap (λ (l : List Call). writes (page_of area j e.page) e.bytes ∷ l)
    (placed_split area (suc j) k es ∙ ap (λ (i : ℕ). placed area (suc j) (take k es) ++ placed area i (drop k es)) (let z : suc j + k ≡ j + suc k = omega arith in z))

-- those that were written are the front part of all
pub placed_part : (area : Area) (es : List Entry) (k : ℕ) → placed area 0 (take k es) ++ placed area k (drop k es) ≡ placed area 0 es
placed_part area es k = ap (λ (i : ℕ). placed area 0 (take k es) ++ placed area i (drop k es)) (let z : k ≡ 0 + k = omega arith in z) ∙ sym (placed_split area 0 k es)

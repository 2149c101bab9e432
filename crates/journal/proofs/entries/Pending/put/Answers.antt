use Rattle.std.proofs.Common.{◌≡◌, ℕ, ◌<◌, ◌≤◌, List, length, set, Some, None, sym, refl, ap, ◌∙◌, subst, arith}
use Rattle.std.proofs.lemmas.Bool.Decides.{nat_tests}
use Rattle.journal.specs.Entries.{Entry}
use Rattle.journal.specs.Waiting.{waiting, joined, place, PutDone}
use Rattle.journal.proofs.Helds.{placed}
use Rattle.journal.proofs.Joined.{joined_length, joined_set, place_short}
use Rattle.journal.proofs.Puts.{entry, put_old, put_new, put_full}
use Rattle.journal.proofs.entries.Pending.put.Goals as goal

pub offset_bounds-self-at : goal.offset_bounds-self-at
offset_bounds-self-at c =
    let s = c.args.self.now in
    let a = place_short s.pages.items s.bytes c.from.result c.in-Some.at (sym c.in-Some.is ∙ c.place_of.ensures) in omega arith

pub bounds-self-at : goal.bounds-self-at
bounds-self-at c =
    let s = c.args.self.now in
    let a = place_short s.pages.items s.bytes c.from.result c.in-Some.at (sym c.in-Some.is ∙ c.place_of.ensures) in omega arith

pub push-requires-clause-room : goal.push-requires-clause-room
push-requires-clause-room c =
    let s = c.args.self.now in
    let few : length s.pages.items ≤ length s.bytes = omega (arith, c.is_full.ensures.fits) in
    let len = joined_length s.pages.items s.bytes few in
    grind (arith, nat_tests)

pub returns-in-Some : goal.returns-in-Some
returns-in-Some c =
    let s = c.args.self.now in
    let p = c.args.page in
    let buf = c.args.buf.now in
    let k = c.in-Some.at in
    let here : Some k ≡ place (waiting s) p = sym c.in-Some.is ∙ c.place_of.ensures ∙ ap (place (waiting s)) c.from.ensures in
    let a = placed (waiting s) p k here in
    subst (λ (l : List Entry). PutDone (waiting s) p buf l)
    (sym (ap (λ (b : List ℕ). joined s.pages.items (set s.bytes k b)) c.copy_from_slice.ensures.after ∙ joined_set s.pages.items s.bytes k buf a.within
    ∙ ap (λ (q : ℕ). set (waiting s) k (entry q buf)) a.here))
    (put_old (waiting s) p buf k here)

pub returns-in-None : goal.returns-in-None
returns-in-None c =
    let s = c.args.self.now in
    let none : None ≡ place (waiting s) c.args.page = sym c.in-None.is ∙ c.place_of.ensures ∙ ap (place (waiting s)) c.from.ensures in
    let few : length s.pages.items ≤ length s.bytes = omega (arith, c.is_full.ensures.fits) in
    let len = joined_length s.pages.items s.bytes few in
    let full : 64 ≤ length (waiting s) = grind (arith, nat_tests) in
    (refl, put_full (waiting s) c.args.page c.args.buf.now none full)

pub returns-in-None-2 : goal.returns-in-None-2
returns-in-None-2 c =
    let s = c.args.self.now in
    let none : None ≡ place (waiting s) c.args.page = sym c.in-None.is ∙ c.place_of.ensures ∙ ap (place (waiting s)) c.from.ensures in
    let few : length s.pages.items ≤ length s.bytes = omega (arith, c.is_full.ensures.fits) in
    let len = joined_length s.pages.items s.bytes few in
    let room : length (waiting s) < 64 = grind (arith, nat_tests) in
    subst (λ (l : List Entry). PutDone (waiting s) c.args.page c.args.buf.now l) (sym c.push.ensures) (put_new (waiting s) c.args.page c.args.buf.now none room)

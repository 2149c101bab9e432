use Rattle.std.proofs.Common.{◌≡◌, ℕ, ◌+◌, ◌<◌, List, length, get_or, take, drop, Ok, Err, ap, ◌∙◌, subst, arith}
use Rattle.std.proofs.lemmas.Result.{err_from_is_err_and}
use Rattle.std.proofs.lemmas.List.{take_all}
use Rattle.device.specs.Promises.{Write, WriteDone}
use Rattle.device.specs.Calls.{Call, writes}
use Rattle.device.specs.Numbers.{number}
use Rattle.journal.specs.Entries.{Entry}
use Rattle.journal.specs.declared.places.Area.{Area}
use Rattle.journal.specs.Waiting.{waiting, pages, blank}
use Rattle.journal.specs.Sending.{Makes, page_of, placed}
use Rattle.journal.specs.Sound.{pages_length}
use Rattle.journal.specs.Writing.{spot, Wrote}
use Rattle.journal.proofs.Joined.{page_at}
use Rattle.journal.proofs.Sent.{made_none, made, stopped, and_then, placed_more, placed_part}
use Rattle.journal.proofs.Written.{wrote_none, wrote_more, wrote_lost}
use Rattle.journal.proofs.steps.write_entries.Goals as goal

-- what is said of the page and the bytes that are written is said of entry j
at_spot : (P : ℕ → List ℕ → Type 0) (area : Area) (es : List Entry) (items : List ℕ) (j p : ℕ) (b : List ℕ)
    → items ≡ pages es → p ≡ page_of area j (get_or items j 0) → b ≡ (get_or es j blank).bytes → P p b → P (spot area es j) (get_or es j blank).bytes
at_spot P area es items j p b same there bytes x =
    subst (λ (c : List ℕ). P (spot area es j) c) bytes
    (subst (λ (k : ℕ). P k b) (there ∙ ap (page_of area j) (ap (λ (l : List ℕ). get_or l j 0) same ∙ page_at es j)) x)

as_many : (es : List Entry) (items : List ℕ) → items ≡ pages es → length items ≡ length es
as_many es items e = ap length e ∙ pages_length es

pub loop-j-init : goal.loop-j-init
loop-j-init g c = (λ h. h, λ h t. made_none g.D.Device.meaning c.args.below.now, λ h r. wrote_none c.args.area (waiting c.args.entries.now) (g.D.Device.meaning c.args.below.now) r)

pub bytes_at-requires : goal.bytes_at-requires
bytes_at-requires g c =
    let n = as_many (waiting c.args.entries.now) c.pages-page-items.result.now c.pages-page-items.ensures.items in let l = c.loop-j-test.true in omega arith

pub returns-in_err-write-clause-makes : goal.returns-in_err-write-clause-makes
returns-in_err-write-clause-makes g c =
    let p = err_from_is_err_and c.from_residual.result c.from_residual.ensures.1 in
    let does = c.in_err-write.ensures.does in
    let i = c.loop-j.invariant in
    let area = c.args.area in
    let es = waiting c.args.entries.now in
    let j = c.loop-j.j in
    let meaning = g.D.Device.meaning in
    let a = c.args.below.now in
    let d = c.loop-j.below in
    let e = c.write.new.self in
    let f = c.in_err-write.field-0.0 in
    let items = c.pages-page-items.ensures.items in
    let lt : j < length es = let n = as_many es c.pages-page-items.result.now items in let l = c.loop-j-test.true in omega arith in
    let w : g.D.Device.agrees a → Write (meaning d) (spot area es j) (get_or es j blank).bytes (Err f) (meaning e) = λ h.
    at_spot (λ k b. Write (meaning d) k b (Err f) (meaning e)) area es c.pages-page-items.result.now j c.page.result c.bytes_at.result.now items c.page.ensures c.bytes_at.ensures (does (i.0 h)).means in
    λ h t. rw (p.1, p.2) (subst (λ (l : List Call). Makes meaning l (Err f) a e) (placed_part area es (j + 1))
    (stopped meaning (placed area 0 (take (j + 1) es)) (placed area (j + 1) (drop (j + 1) es)) f a e
    (subst (λ (l : List Call). Makes meaning l (Err f) a e) (placed_more area es j lt)
    (and_then meaning (placed area 0 (take j es)) _ (Err f) a d e t (i.1 h t)
    (λ u. made meaning (writes (spot area es j) (get_or es j blank).bytes) (Err f) d e u (w h))))))

pub returns-in_err-write-clause-wrote : goal.returns-in_err-write-clause-wrote
returns-in_err-write-clause-wrote g c =
    let p = err_from_is_err_and c.from_residual.result c.from_residual.ensures.1 in
    let does = c.in_err-write.ensures.does in
    let i = c.loop-j.invariant in
    let area = c.args.area in
    let es = waiting c.args.entries.now in
    let j = c.loop-j.j in
    let meaning = g.D.Device.meaning in
    let d = c.loop-j.below in
    let e = c.write.new.self in
    let f = c.in_err-write.field-0.0 in
    let items = c.pages-page-items.ensures.items in
    let lt : j < length es = let n = as_many es c.pages-page-items.result.now items in let l = c.loop-j-test.true in omega arith in
    let w : g.D.Device.agrees c.args.below.now → Write (meaning d) (spot area es j) (get_or es j blank).bytes (Err f) (meaning e) = λ h.
    at_spot (λ k b. Write (meaning d) k b (Err f) (meaning e)) area es c.pages-page-items.result.now j c.page.result c.bytes_at.result.now items c.page.ensures c.bytes_at.ensures (does (i.0 h)).means in
    λ h r. rw (p.1, p.2) (wrote_lost area es j (meaning c.args.below.now) (meaning d) (meaning e) r (i.2 h r) lt (number f) (w h))

pub loop-j-preserved : goal.loop-j-preserved
loop-j-preserved g c =
    let does = c.in_ok-write.ensures.does in
    let i = c.loop-j.invariant in
    let area = c.args.area in
    let es = waiting c.args.entries.now in
    let j = c.loop-j.j in
    let meaning = g.D.Device.meaning in
    let d = c.loop-j.below in
    let e = c.write.new.self in
    let items = c.pages-page-items.ensures.items in
    let lt : j < length es = let n = as_many es c.pages-page-items.result.now items in let l = c.loop-j-test.true in omega arith in
    let w : g.D.Device.agrees c.args.below.now → WriteDone (meaning d) (spot area es j) (get_or es j blank).bytes (meaning e) = λ h.
    at_spot (λ k b. WriteDone (meaning d) k b (meaning e)) area es c.pages-page-items.result.now j c.page.result c.bytes_at.result.now items c.page.ensures c.bytes_at.ensures (does (i.0 h)).means in (
      λ h. (does (i.0 h)).agrees,
      λ h t. subst (λ (l : List Call). Makes meaning l (Ok tt) c.args.below.now e) (placed_more area es j lt)
          (and_then meaning (placed area 0 (take j es)) _ (Ok tt) c.args.below.now d e t (i.1 h t)
          (λ u. made meaning (writes (spot area es j) (get_or es j blank).bytes) (Ok tt) d e u (w h))),
      λ h r. wrote_more area es j (meaning c.args.below.now) (meaning d) (meaning e) r (i.2 h r) lt (g.D.Device.sound e (does (i.0 h)).agrees) (w h),
    )

pub returns-clause-makes : goal.returns-clause-makes
returns-clause-makes g c =
    let es = waiting c.args.entries.now in
    let all : take c.loop-j.j es ≡ es = let n = as_many es c.pages-page-items.result.now c.pages-page-items.ensures.items in let l = c.loop-j-test.false in take_all c.loop-j.j es (omega arith) in
    λ h t. subst (λ (l : List Entry). Makes g.D.Device.meaning (placed c.args.area 0 l) (Ok tt) c.args.below.now c.loop-j.below) all (c.loop-j.invariant.1 h t)

pub returns-clause-wrote : goal.returns-clause-wrote
returns-clause-wrote g c =
    let es = waiting c.args.entries.now in
    let all : c.loop-j.j ≡ length es = let n = as_many es c.pages-page-items.result.now c.pages-page-items.ensures.items in let l = c.loop-j-test.false in let k = c.loop-j.auto.j-end in omega arith in
    λ h r. subst (λ (k : ℕ). Wrote c.args.area es k (g.D.Device.meaning c.args.below.now) (g.D.Device.meaning c.loop-j.below)) all (c.loop-j.invariant.2 h r)

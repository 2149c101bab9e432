use Rattle.std.proofs.Common.{◌≡◌, ℕ, ◌+◌, ◌<◌, ◌≤◌, List, [], ◌∷◌, ◌++◌, length, get_or, Option, Ok, Err, sym, ap, ◌∙◌, subst, inl, rules}
use Rattle.std.proofs.lemmas.List.{length_push}
use Rattle.std.proofs.lemmas.Result.{err_from_is_err_and}
use Rattle.journal.specs.Entries.{Entry}
use Rattle.journal.specs.Waiting.{waiting}
use Rattle.journal.specs.Recovery.{Looked, LoadedTo}
use Rattle.journal.proofs.Sent.{made_none, and_then}
use Rattle.journal.proofs.Looked.{loaded_none, body_looked, loaded_more, load_broken}
use Rattle.journal.proofs.recovery.load.Goals as goal

pub loop-j-init : goal.loop-j-init
loop-j-init g c =
    let ts = c.args.named.now.items in
    let few : length ts ≤ 64 = subst (λ (l : List ℕ). length l ≤ 64) c.deref-page-items.ensures.0 c.deref-page-items.ensures.1 in
    let m = g.D.Device.meaning c.args.below.now in (
      λ h. h,
      λ h t. made_none g.D.Device.meaning c.args.below.now,
      λ h a. subst (λ (l : List Entry). LoadedTo ts 0 l m m) (sym c.clear.ensures) (loaded_none ts m few a),
      ap length c.clear.ensures,
    )

pub returns-in_err-bytes-clause-makes : goal.returns-in_err-bytes-clause-makes
returns-in_err-bytes-clause-makes g c =
    let p = err_from_is_err_and c.from_residual.result c.from_residual.ensures.1 in
    let x = c.in_err-bytes.ensures in
    let i = c.loop-j.invariant in
    let meaning = g.D.Device.meaning in
    let a = c.args.below.now in
    let d = c.loop-j.below in
    λ h t. rw (p.1, p.2) (and_then meaning [] [] (Err c.in_err-bytes.field-0.0) a d c.look.new.below t (i.1 h t) (x.makes (i.0 h)))

pub returns-in_default : goal.returns-in_default
returns-in_default g c =
    let x = c.in_ok-bytes.ensures in
    let i = c.loop-j.invariant in
    let meaning = g.D.Device.meaning in
    let a = c.args.below.now in
    let d = c.loop-j.below in
    let e = c.look.new.below in
    let ts = c.args.named.now.items in
    let j = c.loop-j.j in
    let few : length ts ≤ 64 = subst (λ (l : List ℕ). length l ≤ 64) c.deref-page-items.ensures.0 c.deref-page-items.ensures.1 in
    let lt : j < length ts = subst (λ (l : List ℕ). j < length l) c.deref-page-items.ensures.0 c.loop-j-test.true in
    record {
      agrees = λ h. x.agrees (i.0 h);
      makes = λ h t. and_then meaning [] [] (Ok tt) a d e t (i.1 h t) (x.makes (i.0 h));
      loaded = λ h aw.
          let l = i.2 h aw in
          let b = load_broken ts (meaning a) few aw (meaning d) j _ l lt (meaning e)
          (subst (λ (o : Option (List ℕ)). Looked (meaning d) (1 + j) (Ok o) (meaning e)) c.in_default.is
          (body_looked ts (meaning a) few aw (meaning d) j _ l lt (meaning e) c.body_page.result (Ok c.in_ok-bytes.field-0) c.body_page.ensures (x.looked (i.0 h)))) in
          inl (c.clear-in_default.ensures, b.0, b.1);
    }

pub loop-j-preserved : goal.loop-j-preserved
loop-j-preserved g c =
    let x = c.in_ok-bytes.ensures in
    let i = c.loop-j.invariant in
    let meaning = g.D.Device.meaning in
    let a = c.args.below.now in
    let d = c.loop-j.below in
    let e = c.look.new.below in
    let ts = c.args.named.now.items in
    let j = c.loop-j.j in
    let bs = c.in-Some.bytes in
    let items = c.deref-page-items.ensures.0 in
    let few : length ts ≤ 64 = subst (λ (l : List ℕ). length l ≤ 64) items c.deref-page-items.ensures.1 in
    let lt : j < length ts = subst (λ (l : List ℕ). j < length l) items c.loop-j-test.true in
    let size : length bs ≡ 252 = search rules in
    let pushed : waiting c.push.new.self ≡ waiting c.loop-j.group ++ (record { page = get_or ts j 0; bytes = bs }) ∷ [] =
    c.push.ensures ∙ ap (λ (l : List ℕ). waiting c.loop-j.group ++ (record { page = get_or l j 0; bytes = bs }) ∷ []) items in (
      λ h. x.agrees (i.0 h),
      λ h t. and_then meaning [] [] (Ok tt) a d e t (i.1 h t) (x.makes (i.0 h)),
      λ h aw.
          let l = i.2 h aw in
          subst (λ (es : List Entry). LoadedTo ts (j + 1) es (meaning a) (meaning e)) (sym pushed)
          (loaded_more ts (meaning a) few aw (meaning d) j _ l lt (meaning e) bs size
          (subst (λ (o : Option (List ℕ)). Looked (meaning d) (1 + j) (Ok o) (meaning e)) c.in-Some.is
          (body_looked ts (meaning a) few aw (meaning d) j _ l lt (meaning e) c.body_page.result (Ok c.in_ok-bytes.field-0) c.body_page.ensures (x.looked (i.0 h))))),
      ap length pushed ∙ length_push (waiting c.loop-j.group) _ ∙ ap (λ (n : ℕ). n + 1) i.3,
    )

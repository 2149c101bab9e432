use Rattle.std.proofs.Common.{◌≡◌, ℕ, Bool, true, false, MatchBool, eqb, ◌≢◌, List, [], ◌++◌, length, Ok, sym, ap, ◌∙◌, subst, inl, inr}
use Rattle.std.proofs.lemmas.Bool.{ne_eqb}
use Rattle.device.specs.Meaning.{State, Meaning}
use Rattle.device.specs.Promises.{Same, RestartDone}
use Rattle.device.proofs.Whens.{when_false}
use Rattle.journal.specs.Entries.{Entry}
use Rattle.journal.specs.Waiting.{waiting}
use Rattle.journal.specs.Header.{targets}
use Rattle.journal.specs.Standing.{above, home}
use Rattle.journal.specs.Sending.{step3, step4}
use Rattle.journal.specs.Over.{reader}
use Rattle.journal.specs.Order.{Group, NoGroup}
use Rattle.journal.specs.Recovery.{Awake, FoundGroup, Found}
use Rattle.journal.proofs.Sent.{and_then}
use Rattle.journal.proofs.Recover.{none_above, enough, stands, lay_ready, laid_again, clear_ready, only_cleared}
use Rattle.journal.proofs.recovery.recover.Goals as goal

-- the device below runs, and there are pages above
awake : (m n : Meaning) → RestartDone m n → above n.count ≢ 0 → Awake n
awake m n r pos = record { running = r.ran.still; room = enough n pos }

-- what is found, with the targets read by the count of the pages above
same_reader : (m n o : Meaning) (k count : ℕ) (es : List Entry) → RestartDone m n → k ≡ n.count → count ≡ above k → Found (targets count) n (Ok tt) es o → Found (reader m) n (Ok tt) es o
same_reader m n o k count es r e f x = subst (λ (T : State → List ℕ). Found T n (Ok tt) es o) (ap targets (f ∙ ap above (e ∙ r.ran.count))) x

found_none : (T : State → List ℕ) (m o : Meaning) (es : List Entry) → eqb (length es) 0 ≡ true → Found T m (Ok tt) es o → NoGroup T m.shown × Same m o
found_none T m o es e x = subst (λ (b : Bool). MatchBool b (NoGroup T m.shown × Same m o) (FoundGroup T m es o)) e x

found_some : (T : State → List ℕ) (m o : Meaning) (es : List Entry) → eqb (length es) 0 ≡ false → Found T m (Ok tt) es o → FoundGroup T m es o
found_some T m o es e x = subst (λ (b : Bool). MatchBool b (NoGroup T m.shown × Same m o) (FoundGroup T m es o)) e x

pub returns-then-count-eq0-clause-recovered : goal.returns-then-count-eq0-clause-recovered
returns-then-count-eq0-clause-recovered g c =
    let does = c.in_ok-restart.ensures.does in
    let meaning = g.D.Device.meaning in
    let x = c.restart.new.self in
    λ h. none_above (meaning c.args.below.now) (meaning x) (does h).means (sym (ap above c.page_count.ensures) ∙ sym c.pages_above-count.ensures ∙ c.if-count-eq0.true)

pub returns : goal.returns
returns g c =
    let does = c.in_ok-restart.ensures.does in
    let q = c.in_ok-load_group.ensures in
    let z = c.finish.ensures in
    let agrees = g.D.Device.agrees in
    let meaning = g.D.Device.meaning in
    let a = c.args.below.now in
    let x = c.restart.new.self in
    let o = c.load_group.new.below in
    let e = c.finish.new.below in
    let es = waiting c.load_group.new.group in
    let r = c.finish.result in
    let pos : above (meaning x).count ≢ 0 = λ z. c.if-count-eq0.false (c.pages_above-count.ensures ∙ ap above c.page_count.ensures ∙ z) in
    let found : (h : agrees a) → FoundGroup (reader (meaning a)) (meaning x) es (meaning o) = λ h.
    found_some (reader (meaning a)) (meaning x) (meaning o) es (sym c.is_empty.ensures ∙ c.if-is_empty.false)
    (same_reader (meaning a) (meaning x) (meaning o) c.page_count.result c.pages_above-count.result es (does h).means c.page_count.ensures c.pages_above-count.ensures
    (q.found (does h).agrees (awake (meaning a) (meaning x) (does h).means pos))) in
    record {
      agrees = λ h. z.agrees (q.agrees (does h).agrees);
      makes = λ h. (
        Ok tt,
        (
          x,
          (does h).means,
          when_false (eqb (above (meaning x).count) 0) _ _ (ne_eqb _ _ pos)
              (inl (
                es,
                subst (λ (T : State → List ℕ). Group T (meaning x).shown es) (ap (λ (k : ℕ). targets (above k)) (sym (does h).means.ran.count))
                    (stands (meaning a) (meaning x) (meaning o) (does h).means (g.D.Device.sound o (q.agrees (does h).agrees)) pos es (found h)),
                and_then meaning [] (step3 es ++ step4) r x o e (does h).means.ran.still (q.makes (does h).agrees (does h).means.ran.still)
                    (z.makes (q.agrees (does h).agrees)),
              )),
        ),
      );
      recovered = λ h.
          let so = g.D.Device.sound o (q.agrees (does h).agrees) in
          laid_again (meaning a) (meaning x) (meaning o) (does h).means so pos es (found h) (meaning e) r
          (z.finished (q.agrees (does h).agrees) (reader (meaning a)) (home (meaning o)) (lay_ready (meaning a) (meaning x) (meaning o) (does h).means so pos es (found h)));
    }

pub returns-then-is_empty : goal.returns-then-is_empty
returns-then-is_empty g c =
    let does = c.in_ok-restart.ensures.does in
    let q = c.in_ok-load_group.ensures in
    let z = c.clear.ensures in
    let agrees = g.D.Device.agrees in
    let meaning = g.D.Device.meaning in
    let a = c.args.below.now in
    let x = c.restart.new.self in
    let o = c.load_group.new.below in
    let es = waiting c.load_group.new.group in
    let e = c.clear.new.below in
    let r = c.clear.result in
    let pos : above (meaning x).count ≢ 0 = λ z. c.if-count-eq0.false (c.pages_above-count.ensures ∙ ap above c.page_count.ensures ∙ z) in
    let found : (h : agrees a) → NoGroup (reader (meaning a)) (meaning x).shown × Same (meaning x) (meaning o) = λ h.
    found_none (reader (meaning a)) (meaning x) (meaning o) es (sym c.is_empty.ensures ∙ c.if-is_empty.true)
    (same_reader (meaning a) (meaning x) (meaning o) c.page_count.result c.pages_above-count.result es (does h).means c.page_count.ensures c.pages_above-count.ensures
    (q.found (does h).agrees (awake (meaning a) (meaning x) (does h).means pos))) in
    record {
      agrees = λ h. z.agrees (q.agrees (does h).agrees);
      makes = λ h. (
        Ok tt,
        (
          x,
          (does h).means,
          when_false (eqb (above (meaning x).count) 0) _ _ (ne_eqb _ _ pos)
              (inr (inl (
                subst (λ (T : State → List ℕ). NoGroup T (meaning x).shown) (ap (λ (k : ℕ). targets (above k)) (sym (does h).means.ran.count)) (found h).0,
                and_then meaning [] step4 r x o e (does h).means.ran.still (q.makes (does h).agrees (does h).means.ran.still)
                    (z.makes (q.agrees (does h).agrees)),
              ))),
        ),
      );
      recovered = λ h. only_cleared agrees meaning (meaning a) (meaning x) o e (does h).means pos (found h).0 (found h).1 r
          (z.set (q.agrees (does h).agrees) (clear_ready (meaning a) (meaning x) (meaning o) (does h).means pos (found h).0 (found h).1).head);
    }

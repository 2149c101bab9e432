-- A recover: with a book, and without one.
use Rattle.std.proofs.Common.{◌≡◌, ℕ, ◌≤◌, false, List, Some, None, Ok, Err, Option, MatchResult, sym, refl, subst, inl, inr, ⊎_elim, arith}
use Rattle.device.specs.declared.DeviceFault.{DeviceFault}
use Rattle.device.specs.Meaning.{State, Meaning, Grouped}
use Rattle.device.specs.Numbers.{number}
use Rattle.device.specs.Calls.{restarts, none, more, GroupCalls}
use Rattle.device.specs.Clauses.{GroupDoes}
use Rattle.device.proofs.CallsLaws.{joined}
use Rattle.keys.specs.Rule.{Rule, Lawful}
use Rattle.tree.specs.Maps.{Rec}
use Rattle.pages.specs.declared.root.Condition.{Condition}
use Rattle.pages.specs.declared.root.Condition.TheVariants.{RootPage, DirectoryPages, UsedEntries, BucketPages, Placement, Tree}
use Rattle.pages.specs.declared.root.Root.{Root}
use Rattle.pages.specs.declared.fault.CheckFault.{CheckFault}
use Rattle.pages.specs.declared.fault.CheckFault.TheVariants.{Broken, Device as Faulty}
use Rattle.pages.specs.Checks.{decision, Decided}
use Rattle.pages.specs.Images.{root, AllMet, Meets, Lowest, WellFormed}
use Rattle.pages.specs.Reads.{Kept, Failed, Shows, Seen}
use Rattle.pages.proofs.Readings.{some_held}
use Rattle.access.proofs.Making.{restarted}
use Rattle.store.specs.declared.kinds.Phase.TheVariants.{Idle}
use Rattle.store.specs.declared.kinds.StoreFault.TheVariants.{NotWellFormed, Device}
use Rattle.store.specs.declared.store.Store.{Store}
use Rattle.store.specs.Replies.{recover, done, refused_by, refused_check, eleven}
use Rattle.store.specs.Book.{Book, Turns, Fair, stood, lost, stopped, recovered, opened}
use Rattle.store.specs.Agree.{Keeps, Faithful, Unopened}
use Rattle.store.specs.Clauses.{after, Opens}
use Rattle.store.proofs.Images.{A, lost_by, ends_kept, agrees_kept, agrees_failed}
use Rattle.store.proofs.Standing.{idle_over}

-- the store s, over another device
abbrev pub over : {D K : Type 0} → Store D K → D → Store D K
over s e = record { device = e; phase = s.phase; counter = s.counter; changes = s.changes; rule = s.rule }

-- an image that meets all conditions breaks none
meets : (R : Rule) (n : ℕ) (e : ℕ → State) → AllMet R n e → (c : Condition) → Meets R n e c
meets R n e a RootPage = a.first
meets R n e a DirectoryPages = a.second
meets R n e a UsedEntries = a.third
meets R n e a BucketPages = a.fourth
meets R n e a Placement = a.fifth
meets R n e a Tree = a.sixth

none_some : {m : List Rec} → ◌≡◌ {A = Option (List Rec)} None (Some m) → ⊥
none_some p = let z : ◌≡◌ {A = ℕ} 0 1 = cc in omega arith

module _ {D K : Type 0} (R : Rule) (law : Lawful R) (agrees : D → Type 0) (meaning : D → Meaning) (grouped : D → Grouped) where
  abbrev F : Store D K → Book → Type 0
  F = Faithful R agrees meaning grouped

  -- ---- the restart was answered 11

  module _ (s : Store D K) (e : D) (f : DeviceFault) (r : GroupDoes agrees meaning grouped restarts s.device (Err f) e) where
    pub restart_lost : (buf : List ℕ) (b : Book) → F s b
        → (b' : Book) × Turns R b recover buf (refused_by (Device f)) buf b' × F (after (refused_by (Device f)) (over s e)) b' × GroupCalls meaning grouped (eleven (refused_by (Device f))) s.device e
    restart_lost buf b a =
        let q = r a.below in
        let l = q.means.0 in
        lost_by f l.0 (λ x. GroupCalls meaning grouped (eleven (refused_by (Device x))) s.device e → (b' : Book) × Turns R b recover buf (refused_by (Device x)) buf b' × F (after (refused_by (Device x)) (over s e)) b' × GroupCalls meaning grouped (eleven (refused_by (Device x))) s.device e)
        (λ c. (
          stopped b b.pending,
          record { told = lost; fair = tt; is = refl },
          record {
            below = q.agrees;
            group = q.sound;
            pages = subst (λ n. 6 ≤ n) (sym l.1.left.count) a.pages;
            phases = refl;
            counters = a.counters;
            counted = a.counted;
            ends = ends_kept R agrees meaning grouped 0 s.device e b (omega (arith, a.pages)) l.1.left.count q.means.1 a.ends;
            state = l.1.left.down;
          },
          c,
        ))
        (more restarts (Err f) e none refl q.means)

    pub restart_unopened : Unopened agrees s → GroupCalls meaning grouped (eleven (refused_by (Device f))) s.device e × Opens R agrees meaning grouped s (refused_by (Device f)) (after (refused_by (Device f)) (over s e))
    restart_unopened u =
        let q = r u.below in
        let l = q.means.0 in (
          more restarts (Err f) e none refl q.means,
          lost_by f l.0 (λ x. Opens R agrees meaning grouped s (refused_by (Device x)) (after (refused_by (Device x)) (over s e))) (record { below = q.agrees; stops = refl }, record { counter = refl; changes = refl }),
        )

  -- ---- the restart was accepted, and led to e

  module _ (s : Store D K) (e : D) (u : Unit {0}) (r : GroupDoes agrees meaning grouped restarts s.device (Ok u) e) where
    to_e : agrees s.device → GroupCalls meaning grouped false s.device e
    to_e a = more restarts (Ok u) e none refl (r a).means

    -- the image that stands shows itself, and is the base
    shows_end : (a : agrees s.device) → Shows (meaning e) (meaning s.device).count (r a).means.1.one.0
    shows_end a = record { count = (r a).means.0.ran.count; pages = (r a).means.1.one.2 }

    stands : (a : agrees s.device) (limit ct ch ct' ch' : ℕ) (v wk : List Rec) → ct ≡ ct' → ch ≡ ch' → 6 ≤ (meaning s.device).count → Keeps R (meaning s.device).count limit (r a).means.1.one.0 v
        → A R agrees meaning grouped (record { phase = Idle; known = v; working = wk; changes = ch'; counter = ct'; limit = limit; pending = None }) Idle ct ch e
    stands a limit ct ch ct' ch' v wk ec eh six k =
        let q = (r a).means in
        idle_over R agrees meaning grouped (meaning s.device).count limit ct ch ct' ch' v wk q.1.one.0 e ec eh (restarted agrees meaning grouped s.device e u a r) six q.0.ran.count q.1.one.2 q.1.base q.0.waits k

    -- one of the maps that might stand does
    pub reopened : (b : Book) → F s b → (v : List Rec) × Fair b recover (stood v) × A R agrees meaning grouped (recovered b v) Idle s.counter s.changes e
    reopened b a =
        let q = (r a.below).means.1 in
        let st = λ (v : List Rec) (k : Keeps R (meaning s.device).count b.limit q.one.0 v). stands a.below b.limit s.counter s.changes b.counter b.changes v b.working a.counters a.counted a.pages k in
        ⊎_elim (λ k. (b.known, inl refl, st b.known k)) (λ k. (k.0, inr k.1, st k.0 k.2)) (a.ends q.one.0 q.one.1)

    -- ---- the check, which led to h

    -- power was lost in it: what may stand is what might before
    pub check_lost : (h : D) (f : DeviceFault) (n : ℕ) → number f ≡ 11 → Failed agrees meaning grouped n e h → (buf : List ℕ) (b : Book) → F s b
        → (b' : Book) × Turns R b recover buf (refused_by (Device f)) buf b' × F (after (refused_by (Device f)) (over s h)) b' × GroupCalls meaning grouped (eleven (refused_by (Device f))) s.device h
    check_lost h f n is11 x buf b a =
        let t = reopened b a in
        let z = agrees_failed R agrees meaning grouped n e h (recovered b t.0) Idle s.counter s.changes x t.2 in
        lost_by f is11 (λ y. (b' : Book) × Turns R b recover buf (refused_by (Device y)) buf b' × F (after (refused_by (Device y)) (over s h)) b' × GroupCalls meaning grouped (eleven (refused_by (Device y))) s.device h) (
          stopped b b.pending,
          record { told = lost; fair = tt; is = refl },
          record {
            below = z.below;
            group = z.group;
            pages = z.pages;
            phases = refl;
            counters = z.counters;
            counted = z.counted;
            ends = λ i w. ⊎_elim (λ k. ⊎_elim (λ o. inl (subst (Keeps R (meaning h).count b.limit i) o k)) (λ o. inr (t.0, o, k)) t.1) (λ k. absurd (none_some k.1)) (z.ends i w);
            state = z.state;
          },
          joined (to_e a.below) x.calls,
        )

    pub check_unopened : (h : D) (f : DeviceFault) (n : ℕ) → number f ≡ 11 → Failed agrees meaning grouped n e h → Unopened agrees s
        → GroupCalls meaning grouped (eleven (refused_by (Device f))) s.device h × Opens R agrees meaning grouped s (refused_by (Device f)) (after (refused_by (Device f)) (over s h))
    check_unopened h f n is11 y o =
        lost_by f is11 (λ z. GroupCalls meaning grouped (eleven (refused_by (Device z))) s.device h × Opens R agrees meaning grouped s (refused_by (Device z)) (after (refused_by (Device z)) (over s h)))
        (joined (to_e o.below) y.calls, (record { below = y.below; stops = refl }, record { counter = refl; changes = refl }))

    -- it passed
    pub check_done : (h : D) (n : ℕ) → Kept agrees meaning grouped n e h → (buf : List ℕ) (b : Book) → F s b
        → (b' : Book) × Turns R b recover buf done buf b' × A R agrees meaning grouped b' Idle s.counter s.changes h × GroupCalls meaning grouped false s.device h
    check_done h n x buf b a =
        let t = reopened b a in (
          recovered b t.0,
          record { told = stood t.0; fair = t.1; is = refl },
          agrees_kept R agrees meaning grouped n e h (recovered b t.0) Idle s.counter s.changes x t.2,
          joined (to_e a.below) x.calls,
        )

    pub check_opens : (h : D) (n : ℕ) → Kept agrees meaning grouped n e h → Seen (meaning e) (λ j i. AllMet R j i) → (o : Unopened agrees s) → 6 ≤ (meaning s.device).count
        → GroupCalls meaning grouped false s.device h
        × ((i : ℕ → State) × (m : List Rec) × (grouped s.device).ends i × WellFormed R (meaning s.device).count i m × A R agrees meaning grouped (opened m (root i).limit s.counter s.changes) Idle s.counter s.changes h)
    check_opens h n k seen o six =
        let q = (r o.below).means.1.one in
        let j = (meaning s.device).count in
        let m = some_held R law j q.0 (seen j q.0 (shows_end o.below)) in
        let t = stands o.below (root q.0).limit s.counter s.changes s.counter s.changes m.0 m.0 refl refl six (record { formed = m.1; limits = refl }) in (
          joined (to_e o.below) k.calls,
          (q.0, m.0, q.1, m.1, agrees_kept R agrees meaning grouped n e h (opened m.0 (root q.0).limit s.counter s.changes) Idle s.counter s.changes k t),
        )

    -- it did not: a store with a book stands over a well-formed image
    pub check_never : (c : Condition) → Seen (meaning e) (λ j i. Lowest R j i c) → (b : Book) → F s b → ⊥
    check_never c seen b a =
        let q = (r a.below).means.1.one in
        let j = (meaning s.device).count in
        let low = seen j q.0 (shows_end a.below) in
        low.1 (meets R j q.0 (⊎_elim (λ k. k.formed.met) (λ k. k.2.formed.met) (a.ends q.0 q.1)) c)

    pub check_refuses : (h : D) (n : ℕ) (c : Condition) → Kept agrees meaning grouped n e h → Seen (meaning e) (λ j i. Lowest R j i c) → Unopened agrees s
        → GroupCalls meaning grouped false s.device h × Opens R agrees meaning grouped s (refused_by (NotWellFormed c)) (over s h)
    check_refuses h n c k seen o =
        let q = (r o.below).means.1.one in
        let j = (meaning s.device).count in (
          joined (to_e o.below) k.calls,
          (q.0, c, q.1, refl, seen j q.0 (shows_end o.below), record { below = k.ready.below; stops = o.stops }, record { counter = refl; changes = refl }),
        )

    -- it answered no numbers: power was lost in it, or a condition is broken
    abbrev Failing : D → ℕ → CheckFault → Type 0
    Failing h n x =
        MatchResult (decision {T = Root} (Err x)) (λ c. Kept agrees meaning grouped n e h × Seen (meaning e) (λ j i. Decided R j i c)) (λ f. (number f ≡ 11) × Failed agrees meaning grouped n e h)

    pub check_fails : (h : D) (n : ℕ) (x : CheckFault) → Failing h n x → (buf : List ℕ) (b : Book) → F s b
        → (b' : Book) × Turns R b recover buf (refused_by (refused_check x)) buf b' × F (after (refused_by (refused_check x)) (over s h)) b'
        × GroupCalls meaning grouped (eleven (refused_by (refused_check x))) s.device h
    check_fails h n (Broken c) q buf b a = absurd (check_never c q.1 b a)
    check_fails h n (Faulty f) q buf b a = check_lost h f n q.0 q.1 buf b a

    pub check_denies : (h : D) (n : ℕ) (x : CheckFault) → Failing h n x → Unopened agrees s
        → GroupCalls meaning grouped (eleven (refused_by (refused_check x))) s.device h × Opens R agrees meaning grouped s (refused_by (refused_check x)) (after (refused_by (refused_check x)) (over s h))
    check_denies h n (Broken c) q o = check_refuses h n c q.0 q.1 o
    check_denies h n (Faulty f) q o = check_unopened h f n q.0 q.1 o

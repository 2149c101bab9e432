-- The calls of a journal, for any device below it by its ghost members.
use Rattle.std.proofs.Common.{◌≡◌, ℕ, ◌+◌, ◌<◌, Bool, true, false, ◌||◌, eqb, ltb, List, [], ◌++◌, length, Ok, Err, MatchBool, sym, refl, ap, subst, inl, inr, ⊎_elim, arith}
use Rattle.std.proofs.lemmas.Bool.{cases_Bool, lt-ltb, MatchBool-at_true, MatchBool-at_false}
use Rattle.device.specs.declared.DeviceFault.{DeviceFault}
use Rattle.device.specs.declared.DeviceFault.TheVariants.{PowerLost, TooManyWaiting}
use Rattle.device.specs.Meaning.{State, has, Meaning, Sound, SoundGroup}
use Rattle.device.specs.Numbers.{number}
use Rattle.device.specs.Calls.{Answer, Call, reads, writes, syncs, restarts, discards, Step, GroupStep, always, lost, none, DeviceCalls}
use Rattle.device.specs.Clauses.{Does}
use Rattle.device.specs.Gate.{Refuses}
use Rattle.device.proofs.CallsLaws.{one, joined}
use Rattle.device.proofs.GateLaws.{gate_read, gate_write, gate_calls}
use Rattle.device.proofs.Meanings.{leaves_self, lost_self, no_end_self}
use Rattle.device.proofs.Whens.{when_true, when_false, either_way}
use Rattle.journal.specs.declared.journal.Journal.{Journal}
use Rattle.journal.specs.Entries.{Entry}
use Rattle.journal.specs.declared.entries.Pending.{Pending}
use Rattle.journal.specs.Waiting.{waiting, pages, PutDone, PutFull, Put, Heard, Revived}
use Rattle.journal.specs.Header.{targets}
use Rattle.journal.specs.Standing.{above, home, journal, journal_group}
use Rattle.journal.specs.Sending.{Makes, step1, step2, step3, step4}
use Rattle.journal.specs.Over.{reader, journaled, grouping, Agrees, Agreeing, GroupDoing, Calling}
use Rattle.journal.specs.Order.{Sending, Restoring, Restarting}
use Rattle.journal.specs.Steps.{CommitReady, Committed}
use Rattle.journal.specs.Recovery.{Recovered}
use Rattle.journal.proofs.Fitting.{fit_page}
use Rattle.journal.proofs.Going.{Went}
use Rattle.journal.proofs.Helds.{Held, NotHeld}
use Rattle.journal.proofs.Groups.{sound_group, went_discard, went_held, went_put, went_full}
use Rattle.journal.proofs.Reading.{read_home, read_count, agrees_down}
use Rattle.journal.proofs.Restored.{went_restart, recovered_count}
use Rattle.journal.proofs.Synced.{commit_ready, went_sync, committed_count}
use Rattle.journal.proofs.Targets.{reads as read_back}

-- what waits, and whether the journal is up, after it heard an answer
heard_none : (up up' b : Bool) (v v' : Pending) → waiting v ≡ [] → MatchBool b ((up' ≡ false) × (waiting v' ≡ [])) ((up' ≡ up) × (waiting v' ≡ waiting v)) → waiting v' ≡ []
heard_none up up' b v v' e h = grind arith

heard_up : (up up' b : Bool) (v v' : Pending) → MatchBool b ((up' ≡ false) × (waiting v' ≡ [])) ((up' ≡ up) × (waiting v' ≡ waiting v)) → MatchBool b (up' ≡ false) (up' ≡ up)
heard_up up up' b v v' h = grind arith

-- what a restart sends below: a chain of calls, and with no page above the one restart
module _ {X : Type 0} (meaning : X → Meaning) (d e : X) (r : Answer) where
  restoring_calls : (x : X) → Restoring meaning (reader (meaning x)) x r e → DeviceCalls meaning (lost r) x e
  restoring_calls x (inl y) = y.2.0
  restoring_calls x (inr (inl y)) = y.1.0
  restoring_calls x (inr (inr y)) = y.1.0

  restarting_calls : Restarting meaning d r e → DeviceCalls meaning (lost r) d e
  restarting_calls (Ok u, (x, s, w)) = ⊎_elim
      (λ y. let z = MatchBool-at_true _ _ y w in
      subst (λ (v : X). DeviceCalls meaning (lost r) d v) (sym z.1) (subst (λ (v : Answer). DeviceCalls meaning (lost v) d x) (sym z.0) (one restarts (Ok u) x refl s)))
      (λ n. joined (one restarts (Ok u) x refl s) (restoring_calls x (MatchBool-at_false _ _ n w)))
      (cases_Bool (eqb (above (meaning x).count) 0))
  restarting_calls (Err f, (x, s, w)) = subst (λ (v : X). DeviceCalls meaning (lost r) d v) (sym w.1) (subst (λ (v : Answer). DeviceCalls meaning (lost v) d x) (sym w.0) (one restarts (Err f) x refl s))

module _ {X : Type 0} (agrees : X → Type 0) (meaning : X → Meaning) (sound : (d : X) → agrees d → Sound (meaning d)) where
  pub group_of : (j : Journal X) → Agreeing agrees meaning j → SoundGroup (journaled meaning j) (grouping meaning j)
  group_of j h = sound_group (reader (meaning j.below)) j.up (waiting j.pending) (meaning j.below) (sound j.below h.0) h.1

  -- a new journal
  pub new_agrees : (j : Journal X) (d : X) → j.below ≡ d → j.up ≡ false → waiting j.pending ≡ [] → agrees d → Agreeing agrees meaning j
  new_agrees j d b u e h = (subst agrees (sym b) h, agrees_down (reader (meaning j.below)) j.up (waiting j.pending) (meaning j.below) u e)

  -- what is told of a call k from j to j', answered r, beside what goes below in it
  abbrev pub Told : Call → Journal X → Answer → Journal X → Type 0
  Told k j r j' = GroupDoing agrees meaning k j r j' × Calling agrees meaning k j r j'

  module _ (k : Call) (j j' : Journal X) (r : Answer) where
    abbrev Goes : Type 0
    Goes = Went k (reader (meaning j.below)) j.up (waiting j.pending) (meaning j.below) r j'.up (waiting j'.pending) (meaning j'.below)

    doing : (Agreeing agrees meaning j → agrees j'.below × ((meaning j'.below).count ≡ (meaning j.below).count) × Goes) → GroupDoing agrees meaning k j r j'
    doing f h =
        let x = f h in
        let c : reader (meaning j.below) ≡ reader (meaning j'.below) = ap (λ (n : ℕ). targets (above n)) (sym x.1) in
        let a : Agreeing agrees meaning j' = (x.0, subst (λ (T : State → List ℕ). Agrees T j'.up (waiting j'.pending) (meaning j'.below)) c x.2.agrees) in
        record {
          agrees = a;
          means = subst (λ (T : State → List ℕ). GroupStep k (journaled meaning j) (grouping meaning j) r (journal T j'.up (waiting j'.pending) (meaning j'.below)) (journal_group T (meaning j'.below))) c x.2.means;
          sound = either_way (always k) _ _ (group_of j' a) (λ _. group_of j' a);
        }

    -- nothing goes below
    pub unmoved : lost r ≡ false → j'.below ≡ j.below → Calling agrees meaning k j r j'
    unmoved l b h = either_way (always k || j.up) _ _ (subst (λ (x : X). DeviceCalls meaning (lost r) j.below x) (sym b) (subst (λ (t : Bool). DeviceCalls meaning t j.below j.below) (sym l) none)) b

  -- the checks refuse a read or a write
  module _ (j : Journal X) (count p : ℕ) (buf : List ℕ) (is : count ≡ above (meaning j.below).count) (e : DeviceFault) (gate : Refuses count p (length buf) j.up (number e)) where
    refused_calls : MatchBool j.up (DeviceCalls meaning (lost (Err e)) j.below j.below) (j.below ≡ j.below)
    refused_calls = gate_calls (λ v. (meaning v).runs) (λ q d r e. Step q (meaning d) r (meaning e)) count p (length buf) j.up j.below e gate

    pub refused_read : Told (reads p buf buf) j (Err e) j
    refused_read = (
      doing (reads p buf buf) j j (Err e) (λ h. (h.0, refl, record { agrees = h.1; means = (gate_read count p buf (journaled meaning j) is e gate, leaves_self (journaled meaning j) (grouping meaning j) e) })),
      λ h. refused_calls,
    )

    pub refused_write : Told (writes p buf) j (Err e) j
    refused_write = (
      doing (writes p buf) j j (Err e) (λ h. (h.0, refl, record { agrees = h.1; means = (gate_write count p buf (journaled meaning j) is e gate, leaves_self (journaled meaning j) (grouping meaning j) e) })),
      λ h. refused_calls,
    )

  -- a down journal refuses a sync and a discard
  module _ (j : Journal X) (d : j.up ≡ false) where
    pub down_sync : GroupDoing agrees meaning syncs j (Err PowerLost) j
    down_sync = doing syncs j j (Err PowerLost) (λ h. (
      h.0,
      refl,
      record {
        agrees = h.1;
        means = ((refl, lost_self (journaled meaning j) d), when_false j.up _ _ d (no_end_self (above (meaning j.below).count) (grouping meaning j)));
      },
    ))

    pub down_discard : GroupDoing agrees meaning discards j (Err PowerLost) j
    down_discard = doing discards j j (Err PowerLost) (λ h. (
      h.0,
      refl,
      record { agrees = h.1; means = (refl, lost_self (journaled meaning j) d, no_end_self (above (meaning j.below).count) (grouping meaning j)) },
    ))

  -- what stays in memory: a page that waits is read, a page is written, all is discarded; v is what waits then
  module _ (j : Journal X) (t : j.up ≡ true) (v : Pending) where
    abbrev with_v : Journal X
    with_v = record { below = j.below; up = j.up; pending = v }

    module _ (p : ℕ) (buf : List ℕ) (w : p < above (meaning j.below).count) (len : length buf ≡ 252) where
      pub held_read : (buf' : List ℕ) → Held (waiting j.pending) p buf' → Told (reads p buf buf') j (Ok tt) j
      held_read buf' x = (
        doing (reads p buf buf') j j (Ok tt) (λ h. (h.0, refl, went_held (reader (meaning j.below)) j.up (waiting j.pending) (meaning j.below) (sound j.below h.0) h.1 p buf buf' t (record { within = w; size = len }) x.shows)),
        unmoved (reads p buf buf') j j (Ok tt) refl refl,
      )

      put_write : PutDone (waiting j.pending) p buf (waiting v) → Told (writes p buf) j (Ok tt) with_v
      put_write x = (
        doing (writes p buf) j with_v (Ok tt) (λ h. (h.0, refl, went_put (reader (meaning j.below)) j.up (waiting j.pending) (meaning j.below) (sound j.below h.0) h.1 p buf t (record { within = w; size = len }) (waiting v) x)),
        unmoved (writes p buf) j with_v (Ok tt) refl refl,
      )

      full_write : PutFull (waiting j.pending) p (waiting v) → Told (writes p buf) j (Err TooManyWaiting) with_v
      full_write x = (
        doing (writes p buf) j with_v (Err TooManyWaiting) (λ h. (h.0, refl, went_full (reader (meaning j.below)) j.up (waiting j.pending) (meaning j.below) (sound j.below h.0) h.1 p buf t (record { within = w; size = len }) (waiting v) x)),
        unmoved (writes p buf) j with_v (Err TooManyWaiting) refl refl,
      )

      pub kept_write : (r : Answer) → Put (waiting j.pending) p buf r (waiting v) → Told (writes p buf) j r with_v
      kept_write (Ok _) x = put_write x
      kept_write (Err e) x = subst (λ (f : DeviceFault). Told (writes p buf) j (Err f) with_v) (sym x.0) (full_write x.1)

    pub discarded : waiting v ≡ [] → Told discards j (Ok tt) with_v
    discarded e = (
      doing discards j with_v (Ok tt) (λ h. (
        h.0,
        refl,
        subst (λ (l : List Entry). Went discards (reader (meaning j.below)) j.up (waiting j.pending) (meaning j.below) (Ok tt) j.up l (meaning j.below)) (sym e)
            (went_discard (reader (meaning j.below)) j.up (waiting j.pending) (meaning j.below) (sound j.below h.0) h.1 t),
      )),
      unmoved discards j with_v (Ok tt) refl refl,
    )

  -- calls that go below: they lead from j.below to x and are answered r; the journal is then j', and answers a
  module _ (j j' : Journal X) (x : X) (r a : Answer) (below : j'.below ≡ x) (same : a ≡ r) where
    moved : (P : Answer → X → Type 0) → P r x → P a j'.below
    moved P h = subst (λ (y : X). P a y) (sym below) (subst (λ (s : Answer). P s x) (sym same) h)

    pub home_read : (p : ℕ) (buf buf' : List ℕ) → j.up ≡ true → p < above (meaning j.below).count → length buf ≡ 252 → NotHeld (waiting j.pending) p
        → Heard j.up j.pending r j'.up j'.pending → Does agrees meaning (reads (65 + p) buf buf') j.below r x → Told (reads p buf buf') j a j' × Sending agrees meaning (reads p buf buf') j a j'
    home_read p buf buf' t w len away heard d = (
      (
        doing (reads p buf buf') j j' a (λ h. let y = does h.0 in (
          y.agrees,
          read_count m (meaning j'.below) (65 + p) buf buf' a y.means,
          read_home (reader m) j.up j'.up (waiting j.pending) (waiting j'.pending) m (meaning j'.below) p buf buf' t w len away.home h.1 a
              (subst (λ (s : Answer). Heard j.up j.pending s j'.up j'.pending) (sym same) heard) y.means,
        )),
        λ h. when_true j.up _ _ t (one (reads (65 + p) buf buf') a j'.below (h.1.below t) (does h.0).means),
      ),
      λ h. (when_false (has p (pages (waiting j.pending))) _ _ away.absent (inr (does h.0).means), λ z. absurd (let v = w in omega arith)),
    )
      where
        m : Meaning
        m = meaning j.below

        does : Does agrees meaning (reads (65 + p) buf buf') j.below a j'.below
        does = moved (λ s y. Does agrees meaning (reads (65 + p) buf buf') j.below s y) d

    pub synced : (v : Pending) → j.up ≡ true → 0 < length (waiting j.pending) → waiting v ≡ [] → Heard j.up v r j'.up j'.pending
        → (agrees j.below → agrees x)
        → (agrees j.below → (meaning j.below).runs ≡ true → Makes meaning (step1 (waiting j.pending) ++ (step2 (waiting j.pending) ++ (step3 (waiting j.pending) ++ step4))) r j.below x)
        → (agrees j.below → (T : State → List ℕ) (base : ℕ → State) → CommitReady T (waiting j.pending) base (meaning j.below) → Committed T (waiting j.pending) base (meaning j.below) r (meaning x))
        → GroupDoing agrees meaning syncs j a j' × Sending agrees meaning syncs j a j'
    synced v t some cleared heard keeps makes commits = (
      doing syncs j j' a (λ h. (
        still h.0,
        committed_count T es (home m) m n a (done h),
        subst (λ (l : List Entry). Went syncs T j.up es m a j'.up l n) (sym (heard_none j.up j'.up (lost a) v j'.pending cleared told))
            (went_sync T j.up es m (sound j.below h.0) t h.1 n (sound j'.below (still h.0)) j'.up a (heard_up j.up j'.up (lost a) v j'.pending told) (done h)),
      )),
      λ h. (when_true j.up _ _ t (when_true (ltb 0 (length es)) _ _ (lt-ltb 0 (length es) some) (sent h)), λ z. absurd (let y = fit_page (above m.count) es 0 some h.1.fit in omega arith)),
    )
      where
        m : Meaning
        m = meaning j.below

        n : Meaning
        n = meaning j'.below

        T : State → List ℕ
        T = reader m

        es : List Entry
        es = waiting j.pending

        told : Heard j.up v a j'.up j'.pending
        told = subst (λ (s : Answer). Heard j.up v s j'.up j'.pending) (sym same) heard

        still : agrees j.below → agrees j'.below
        still h = moved (λ s y. agrees y) (keeps h)

        done : Agreeing agrees meaning j → Committed T es (home m) m a n
        done h = moved (λ s y. Committed T es (home m) m s (meaning y)) (commits h.0 T (home m) (commit_ready T j.up es m (sound j.below h.0) t h.1 (read_back (above m.count) es h.1.few h.1.fit h.1.apart) some))

        sent : Agreeing agrees meaning j → Makes meaning (step1 es ++ (step2 es ++ (step3 es ++ step4))) a j.below j'.below
        sent h = moved (λ s y. Makes meaning (step1 es ++ (step2 es ++ (step3 es ++ step4))) s j.below y) (makes h.0 (h.1.below t))

    pub restarted : waiting j'.pending ≡ [] → Revived r j'.up → (agrees j.below → agrees x) → (agrees j.below → Restarting meaning j.below r x)
        → (agrees j.below → Recovered (reader (meaning j.below)) (meaning j.below) r (meaning x)) → Told restarts j a j'
    restarted cleared revived keeps makes recovers = (
      doing restarts j j' a (λ h. (
        still h.0,
        recovered_count T m n a (done h.0),
        subst (λ (l : List Entry). Went restarts T j.up (waiting j.pending) m a j'.up l n) (sym cleared)
            (went_restart T j.up (waiting j.pending) m n (sound j'.below (still h.0)) j'.up a (subst (λ (s : Answer). Revived s j'.up) (sym same) revived) (done h.0)),
      )),
      λ h. restarting_calls meaning j.below j'.below a (sent h.0),
    )
      where
        m : Meaning
        m = meaning j.below

        n : Meaning
        n = meaning j'.below

        T : State → List ℕ
        T = reader m

        still : agrees j.below → agrees j'.below
        still h = moved (λ s y. agrees y) (keeps h)

        done : agrees j.below → Recovered T m a n
        done h = moved (λ s y. Recovered T m s (meaning y)) (recovers h)

        sent : agrees j.below → Restarting meaning j.below a j'.below
        sent h = moved (λ s y. Restarting meaning j.below s y) (makes h)

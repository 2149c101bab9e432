-- A restart of the device below and what follows leave one of the ends.
use Rattle.std.proofs.Common.{◌≡◌, ℕ, suc, ◌+◌, ◌<◌, ◌≤◌, true, ◌≢◌, List, [], ◌∷◌, length, get_or, Ok, Err, sym, refl, ap, ◌∙◌, subst, inl, inr, ⊎_elim, arith}
use Rattle.std.proofs.lemmas.List.{take_all}
use Rattle.std.proofs.lemmas.Bool.{cases_lt, and_parts}
use Rattle.std.proofs.lemmas.Bool.Decides.{nat_tests}
use Rattle.device.specs.Meaning.{State, bytes, spoiled, Meaning, Sound, Distinct}
use Rattle.device.specs.Promises.{Same, RestartDone}
use Rattle.device.specs.Calls.{Answer}
use Rattle.journal.specs.Entries.{Entry}
use Rattle.journal.specs.Waiting.{blank, pages, AllFit}
use Rattle.layout.specs.Envelope.{body_part}
use Rattle.journal.specs.Header.{pairs, header, all_below, distinct, once, named, targets}
use Rattle.journal.specs.Standing.{above, whole, laid, home}
use Rattle.journal.specs.Crash.{fresh}
use Rattle.journal.specs.Sound.{short, pages_length}
use Rattle.journal.specs.Over.{reader}
use Rattle.journal.specs.Order.{Group, NoGroup}
use Rattle.journal.specs.Writing.{HeadSet}
use Rattle.journal.specs.Steps.{bodies, LayReady, Finished}
use Rattle.journal.specs.Recovery.{LoadedTo, FoundGroup, ClearReady, Cleared, Recovered}
use Rattle.journal.proofs.Crash.{laid_none, laid_broken, whole_same}
use Rattle.journal.proofs.Finish.{at_body, whole_bodies}
use Rattle.journal.proofs.Fitting.{fit_page, fit_size, apart_pages}
use Rattle.journal.proofs.Targets.{reads, reads_none}
use Rattle.journal.proofs.Restarted.{was_end, stands_laying, stands_image}
use Rattle.journal.proofs.Cleared.{cleared_lost, cleared_done}

-- what a header names is below the count and distinct
named_once : (n : ℕ) (page ts : List ℕ) → once n (named n page ts) ≡ true
named_once n page ts = grind (arith, nat_tests)

targets_once : (n : ℕ) (s : State) → once n (targets n s) ≡ true
targets_once n spoiled = refl
targets_once n (bytes page) = named_once n page (pairs (body_part page))

below_none : (ts : List ℕ) → all_below 0 ts ≡ true → ts ≡ []
below_none [] e = refl
below_none (t ∷ ts) e = grind (arith, nat_tests)

no_targets : (s : State) → targets 0 s ≡ []
no_targets s = below_none (targets 0 s) (and_parts (all_below 0 (targets 0 s)) (distinct (targets 0 s)) (targets_once 0 s)).0

fit_from : (n : ℕ) (es : List Entry) → all_below n (pages es) ≡ true → ((j : ℕ) → j < length es → length (get_or es j blank).bytes ≡ 252) → AllFit n es
fit_from n [] b p = tt
fit_from n (e ∷ es) b p = let z = p 0 (omega arith) in let r = λ (b : all_below n (pages es) ≡ true). fit_from n es b (λ j l. p (suc j) (omega arith)) in grind (arith, nat_tests, r)

distinct_from : (ts : List ℕ) → distinct ts ≡ true → Distinct ts
distinct_from [] e = tt
distinct_from (t ∷ ts) e = grind (arith, nat_tests, distinct_from ts)

-- reads change nothing of what a restart left
restart_same : (m n o : Meaning) → RestartDone m n → Same n o → RestartDone m o
restart_same m n o r s = let c = r.ran.count in record {
  ran = record { count = s.count ∙ c; still = s.runs ∙ r.ran.still };
  shown = λ i h. subst (m.fates i) (sym (s.shown i (omega arith))) (r.shown i h);
  only = λ i x h y. let l : i < n.count = omega arith in r.only i x h (s.no_more i x l y) ∙ sym (s.shown i l);
  waits = s.waits ∙ r.waits;
}

-- with no page above there is nothing more to do
pub none_above : (m n : Meaning) → RestartDone m n → above n.count ≡ 0 → Recovered (reader m) m (Ok tt) n
none_above m n r z = (
  n.shown,
  r.shown,
  record {
    ran = r.ran;
    waits = r.waits;
    idle = λ p s h x. let c = r.ran.count in record {
      head = λ _. ap (λ (k : ℕ). targets k s) (let y : above m.count ≡ 0 = omega arith in y) ∙ no_targets s;
      body = λ j e l. tt;
      home = λ i e. absurd (omega arith);
    };
  },
)

pub enough : (n : Meaning) → above n.count ≢ 0 → 65 < n.count
enough n pos = ⊎_elim (λ h. h) (λ h. absurd (pos (omega arith))) (cases_lt 65 n.count)

-- a group stands, and is in memory
module _ (m n o : Meaning) (r : RestartDone m n) (so : Sound o) (pos : above n.count ≢ 0) (es : List Entry) (found : FoundGroup (reader m) n es o) where
  l : LoadedTo (reader m (n.shown 0)) (length (reader m (n.shown 0))) es n o
  l = found.group

  named_pages : pages es ≡ reader m (n.shown 0)
  named_pages = l.named ∙ take_all (length (reader m (n.shown 0))) (reader m (n.shown 0)) (omega arith)

  len : length es ≡ length (reader m (n.shown 0))
  len = sym (pages_length es) ∙ ap length named_pages

  after : RestartDone m o
  after = restart_same m n o r l.same

  few : length es ≤ 64
  few = let a = short (above m.count) (n.shown 0) in let b = len in omega arith

  head : reader m (o.shown 0) ≡ pages es
  head = ap (reader m) (l.same.shown 0 (let b = enough n pos in omega arith)) ∙ sym named_pages

  body_at : (j : ℕ) → j < length (pages es) → o.shown (1 + j) ≡ bodies es (1 + j)
  body_at j h = let e = pages_length es in let f = len in let b = enough n pos in let w = few in
      l.same.shown (1 + j) (omega arith) ∙ l.body j (omega arith) ∙ sym (at_body es j)

  tests : once (above m.count) (pages es) ≡ true
  tests = ap (once (above m.count)) named_pages ∙ targets_once (above m.count) (n.shown 0)

  fit : AllFit (above m.count) es
  fit = fit_from (above m.count) es (and_parts (all_below (above m.count) (pages es)) (distinct (pages es)) tests).0 (λ j h. l.size j h)

  apart : Distinct (pages es)
  apart = distinct_from (pages es) (and_parts (all_below (above m.count) (pages es)) (distinct (pages es)) tests).1

  pub stands : Group (reader m) n.shown es
  stands = record {
    some = found.some;
    named = named_pages;
    bodies = λ i h. l.body i h;
  }

  pub lay_ready : LayReady (reader m) es (home o) o
  lay_ready = let c = after.ran.count in let b = enough n pos in let d = r.ran.count in record {
    reads = reads (above m.count) es few fit apart;
    ready = record {
      running = after.ran.still;
      room = let w = few in let z : length o.waits ≡ 0 = ap length after.waits in omega arith;
      sized = λ j h. fit_size (above m.count) es j h fit;
      within = λ j h. let a = fit_page (above m.count) es j h fit in omega arith;
      apart = λ i j lt h e. apart_pages es i j lt h apart (let z : (get_or es j blank).page ≡ (get_or es i blank).page = omega arith in z);
    };
    quiet = after.waits;
    room = omega arith;
    laying = stands_laying (reader m) m o after (pages es) (bodies es) head body_at;
  }

  image : (i : ℕ) → fresh (pages es) (bodies es) (home o) i ≡ laid (reader m) o.shown i
  image i = stands_image (reader m) m o after (pages es) (bodies es) head (whole_bodies es (pages es) 1) body_at i

  pub laid_again : (u : Meaning) (x : Answer) → Finished (reader m) es (home o) o x u → Recovered (reader m) m x u
  laid_again u (Ok _) f = (
    o.shown,
    after.shown,
    record {
      ran = record { count = f.ran.count ∙ after.ran.count; still = f.ran.still };
      waits = f.waits;
      idle = λ p s h y. let k = f.idle p s h y in record { head = k.head; body = λ j e g. tt; home = λ i e. k.home i e ∙ image i };
    },
  )
  laid_again u (Err e) f = (
    f.0,
    record {
      left = record { count = f.1.left.count ∙ after.ran.count; down = f.1.left.down };
      ends = λ e x. was_end (reader m) m o after e (λ i h. f.1.ends e x i (let c = after.ran.count in omega arith) ∙ image i);
    },
  )

-- no group stands
module _ (m n o : Meaning) (r : RestartDone m n) (pos : above n.count ≢ 0) (none : NoGroup (reader m) n.shown) (s : Same n o) where
  then : RestartDone m o
  then = restart_same m n o r s

  still_none : NoGroup (reader m) o.shown
  still_none = let b = enough n pos in
      let z : reader m (o.shown 0) ≡ reader m (n.shown 0) = ap (reader m) (s.shown 0 (omega arith)) in
      let few = short (above m.count) (n.shown 0) in
      ⊎_elim (λ e. inl (z ∙ e))
      (λ e. inr (ap (λ (ts : List ℕ). whole ts 1 o.shown) z ∙ whole_same (reader m (n.shown 0)) 1 o.shown n.shown (λ k lo hi. s.shown k (omega arith)) ∙ e)) none

  pub clear_ready : ClearReady (reader m) o
  clear_ready = let c = s.count in let b = enough n pos in let d = then.ran.count in record {
    head = record { running = then.ran.still; room = omega arith; quiet = then.waits };
    broken = refl;
    clear = reads_none (above m.count);
    short = short (above m.count) (o.shown 0);
    only = λ p x h y. then.only p x (omega arith) y;
    none = still_none;
  }

  bare : (i : ℕ) → home o i ≡ laid (reader m) o.shown i
  bare i = ⊎_elim (λ e. sym (laid_none (reader m) o.shown i e)) (λ e. sym (laid_broken (reader m) o.shown i e)) still_none

  left_bare : (u : Meaning) (x : Answer) → Cleared (reader m) o x u → Recovered (reader m) m x u
  left_bare u (Ok _) f = (
    o.shown,
    then.shown,
    record {
      ran = record { count = f.ran.count ∙ then.ran.count; still = f.ran.still };
      waits = f.waits;
      idle = λ p s h y. let k = f.idle p s h y in record { head = k.head; body = λ j e g. tt; home = λ i e. k.home i e ∙ bare i };
    },
  )
  left_bare u (Err e) f = (
    f.0,
    record {
      left = record { count = f.1.left.count ∙ then.ran.count; down = f.1.left.down };
      ends = λ e x. was_end (reader m) m o then e (λ i h. f.1.ends e x i (let c = then.ran.count in omega arith) ∙ bare i);
    },
  )

-- the header alone was cleared, by calls on the device d, which leave e
pub only_cleared : {D : Type 0} (agrees : D → Type 0) (meaning : D → Meaning) (m n : Meaning) (d e : D) (r : RestartDone m n) (pos : above n.count ≢ 0) (none : NoGroup (reader m) n.shown) (s : Same n (meaning d)) (x : Answer)
    → HeadSet agrees meaning (header []) d x e → Recovered (reader m) m x (meaning e)
only_cleared agrees meaning m n d e r pos none s (Ok _) (q, hq, wd, sd) =
    left_bare m n (meaning d) r pos none s (meaning e) (Ok tt) (cleared_done (reader m) (meaning d) (clear_ready m n (meaning d) r pos none s) (meaning q) wd (meaning e) sd)
only_cleared agrees meaning m n d e r pos none s (Err f) h =
    left_bare m n (meaning d) r pos none s (meaning e) (Err f) (h.0, cleared_lost (reader m) (meaning d) (clear_ready m n (meaning d) r pos none s) (meaning e) h.1)

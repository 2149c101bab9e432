-- The four steps of a sync, from the promises of the device below: each stays within its phase, and leads to the next.
use Rattle.std.proofs.Common.{◌≡◌, ℕ, suc, ◌+◌, ◌-◌, ◌<◌, ◌≤◌, true, eqb, ◌⊎◌, List, [], ◌∷◌, length, get_or, Ok, Err, sym, refl, ap, ◌∙◌, inl, inr, ⊎_elim, arith}
use Rattle.std.proofs.lemmas.Bool.{eqb-true, cases_Bool, cond-true, cond-false, false≢true, both_ways}
use Rattle.std.proofs.lemmas.Bool.Decides.{nat_tests}
use Rattle.device.specs.Meaning.{State, bytes, Meaning, Sound, Alike, has}
use Rattle.device.specs.Promises.{GainsAt, WriteDone, SyncDone}
use Rattle.device.specs.Calls.{Answer}
use Rattle.journal.specs.Entries.{Entry}
use Rattle.journal.specs.declared.places.Area.TheVariants.{Body, Home}
use Rattle.journal.specs.Waiting.{blank, pages}
use Rattle.journal.specs.Header.{header}
use Rattle.journal.specs.Standing.{above, whole, over}
use Rattle.journal.specs.Crash.{Phase, Within, fresh, Bodies, Naming, Laying, Clearing}
use Rattle.journal.specs.Writing.{Ready, OnlySpots, Wrote, WroteLost, HeadReady, HeadLost, HeadSet}
use Rattle.journal.specs.Steps.{bodies, Settled, CutTo, LayReady, Finished, CommitReady, Committed}
use Rattle.journal.specs.Sound.{pages_length}
use Rattle.journal.proofs.Crash.{within_write, unnamed, naming_ends, laying_ends, clearing_ends, bodies_synced, header_synced, homes_synced, clear_synced}
use Rattle.journal.proofs.Helds.{has_later}

pub whole_bodies : (es : List Entry) (ts : List ℕ) (j : ℕ) → whole ts j (bodies es) ≡ true
whole_bodies es [] j = refl
whole_bodies es (t ∷ ts) j = whole_bodies es ts (suc j)

-- the entry of a page that is named, and what its body lays
find_page : (es : List Entry) (k : ℕ) (B : ℕ → State) (i : ℕ) (d : State) → has i (pages es) ≡ true
    → (j : ℕ) × (j < length es) × ((get_or es j blank).page ≡ i) × (over (pages es) k B i d ≡ B (k + j))
find_page [] k B i d h = absurd (false≢true h)
find_page (e ∷ es) k B i d h = ⊎_elim
    (λ y. (0, omega arith, eqb-true e.page i y, cond-true (eqb e.page i) (B k) _ y ∙ ap B (let z : k ≡ k + 0 = omega arith in z)))
    (λ n. let r = find_page es (suc k) B i d (let z : has i (pages es) ≡ true = grind (arith, nat_tests) in z) in
    let lt = r.1 in
    let z : suc k + r.0 ≡ k + suc r.0 = omega arith in
    (suc r.0, omega arith, r.2, cond-false (eqb e.page i) (B k) _ n ∙ r.3 ∙ ap B z))
    (cases_Bool (eqb e.page i))

pub at_body : (es : List Entry) (j : ℕ) → bodies es (1 + j) ≡ bytes (get_or es j blank).bytes
at_body es j = let z : (1 + j) - 1 ≡ j = omega arith in ap (λ (x : ℕ). bytes (get_or es x blank).bytes) z

pub fewer : (m n : Meaning) (e f : ℕ → State) → n.count ≡ m.count → Alike (above n.count) e f → Alike (above m.count) e f
fewer m n e f c a i h = a i (omega arith)

-- what a page 0 may hold says nothing of bodies and home pages
pub head_only : (H : State → Type 0) (B : ℕ → State → Type 0) (O : ℕ → State → Type 0) (s : State) → H s → Phase H B O 0 s
head_only H B O s h = record { head = λ _. h; body = λ j e l. absurd (omega arith); home = λ i e. absurd (omega arith) }

-- steps 3 and 4
module _ (T : State → List ℕ) (es : List Entry) (base : ℕ → State) (m : Meaning) (lr : LayReady T es base m) where
  few : length (pages es) ≤ 64
  few = let a = lr.ready.room in let b = pages_length es in omega arith

  lay_within : (n : Meaning) → n.count ≡ m.count → OnlySpots Home es (length es) m n → Within n (Laying T (pages es) (bodies es) base)
  lay_within n c g p s h x = ⊎_elim (λ y. lr.laying p s (omega arith) y)
      (λ y. let lt = y.1 in let eq = y.2 in record {
        head = λ z. absurd (omega arith);
        body = λ j z l. absurd (omega arith);
        home = λ i z. inl (has_later es i y.0 lt (let v : (get_or es y.0 blank).page ≡ i = omega arith in v));
      })
      (g p s (omega arith) x)

  homes_shown : Sound m → (n : Meaning) → Wrote Home es (length es) m n → (i : ℕ) → 65 + i < m.count → n.shown (65 + i) ≡ fresh (pages es) (bodies es) base i
  homes_shown s n w i h = ⊎_elim
      (λ y. let r = find_page es 1 (bodies es) i (base i) y in
      let v : 65 + i ≡ 65 + (get_or es r.0 blank).page = let u = r.2 in omega arith in
      ap n.shown v ∙ w.here r.0 r.1 ∙ sym (at_body es r.0) ∙ sym r.3)
      (λ no. w.others (65 + i) h (λ j lt e. both_ways _ no (has_later es i j lt (let v : (get_or es j blank).page ≡ i = omega arith in v)))
      ∙ ⊎_elim (λ y. absurd (both_ways _ no y)) (λ e. e) ((lr.laying (65 + i) (m.shown (65 + i)) h (s.shown_fate lr.ready.running (65 + i) h)).home i refl)
      ∙ sym (unnamed (pages es) 1 (bodies es) i (base i) no))
      (cases_Bool (has i (pages es)))

  -- power was lost in step 3
  pub lay_lost : (n : Meaning) → WroteLost Home es m n → CutTo T (λ e. Alike (above m.count) e (fresh (pages es) (bodies es) base)) m n
  lay_lost n d = record {
    left = d.left;
    ends = λ e x. fewer m n e _ d.left.count
        (laying_ends T (pages es) (bodies es) base n few (whole_bodies es (pages es) 1) (lay_within n d.left.count d.gains) e x);
  }

  module _ (sm : Sound m) (n : Meaning) (w : Wrote Home es (length es) m n) (sn : Sound n) (o : Meaning) (d : SyncDone n o) where
    clearing : Within o (Clearing T (pages es) (bodies es) base)
    clearing = homes_synced T (pages es) (bodies es) base n o sn d (lay_within n w.count w.gains)
        (λ i h. homes_shown sm n w i (let c = w.count in omega arith))

    same_count : o.count ≡ m.count
    same_count = d.ran.count ∙ w.count

    pub clear_ready : HeadReady o
    clear_ready = record { running = d.ran.still; room = let c = same_count in let v = lr.room in omega arith; quiet = d.waits }

    cleared : (q : Meaning) → q.count ≡ o.count → GainsAt 0 (header []) o q → Within q (Clearing T (pages es) (bodies es) base)
    cleared q c g = within_write o q _ 0 (header []) c g (head_only _ _ _ _ (inl lr.reads.clear)) (head_only _ _ _ _ (inl lr.reads.broken)) clearing

    -- power was lost in step 4
    clear_lost : (q : Meaning) → HeadLost (header []) o q → CutTo T (λ e. Alike (above m.count) e (fresh (pages es) (bodies es) base)) m q
    clear_lost q x = let c : q.count ≡ m.count = x.left.count ∙ same_count in record {
      left = record { count = c; down = x.left.down };
      ends = λ e y. fewer m q e _ c (clearing_ends T (pages es) (bodies es) base q few (whole_bodies es (pages es) 1) (cleared q x.left.count x.gains) e y);
    }

    finished : (q : Meaning) → WriteDone o 0 (header []) q → Sound q → (t : Meaning) → SyncDone q t → Settled T es (fresh (pages es) (bodies es) base) m t
    finished q wd sq t x = record {
      ran = record { count = x.ran.count ∙ wd.ran.count ∙ same_count; still = x.ran.still };
      waits = x.waits;
      idle = clear_synced T (pages es) (bodies es) base q t sq x (cleared q wd.ran.count wd.gains) (ap T wd.here ∙ lr.reads.clear);
    }

-- steps 1 and 2
module _ (T : State → List ℕ) (es : List Entry) (base : ℕ → State) (m : Meaning) (cr : CommitReady T es base m) where
  abbrev Either : (ℕ → State) → Type 0
  Either e = Alike (above m.count) e base ⊎ Alike (above m.count) e (fresh (pages es) (bodies es) base)

  few_entries : length es ≤ 64
  few_entries = let a = cr.homes.room in omega arith

  few_pages : length (pages es) ≤ 64
  few_pages = let a = few_entries in let b = pages_length es in omega arith

  pub bodies_ready : Ready Body es m
  bodies_ready = record {
    running = cr.homes.running;
    room = cr.homes.room;
    sized = cr.homes.sized;
    within = λ j h. let a = few_entries in let b = cr.room in omega arith;
    apart = λ i j h l e. omega arith;
  }

  bodies_within : (n : Meaning) → n.count ≡ m.count → OnlySpots Body es (length es) m n → Within n (Bodies T (pages es) (bodies es) base)
  bodies_within n c g p s h x = ⊎_elim (λ y. cr.idle p s (omega arith) y)
      (λ y. let lt = y.1 in let eq = y.2 in let a = few_entries in record {
        head = λ z. absurd (omega arith);
        body = λ j z l. tt;
        home = λ i z. absurd (omega arith);
      })
      (g p s (omega arith) x)

  module _ (n : Meaning) (w : Wrote Body es (length es) m n) (sn : Sound n) (o : Meaning) (d : SyncDone n o) where
    naming : Within o (Naming T (pages es) (bodies es) base)
    naming = bodies_synced T (pages es) (bodies es) base n o sn d (bodies_within n w.count w.gains)
        (λ j h. w.here j (let a = pages_length es in omega arith) ∙ sym (at_body es j))

    after_bodies : o.count ≡ m.count
    after_bodies = d.ran.count ∙ w.count

    pub naming_ready : HeadReady o
    naming_ready = record { running = d.ran.still; room = let c = after_bodies in let v = cr.room in omega arith; quiet = d.waits }

    named_within : (q : Meaning) → q.count ≡ o.count → GainsAt 0 (header (pages es)) o q → Within q (Naming T (pages es) (bodies es) base)
    named_within q c g = within_write o q _ 0 (header (pages es)) c g (head_only _ _ _ _ (inr cr.reads.named)) (head_only _ _ _ _ (inl cr.reads.broken)) naming

    -- power was lost in step 2
    pub naming_lost : (q : Meaning) → HeadLost (header (pages es)) o q → CutTo T Either m q
    naming_lost q x = let c : q.count ≡ m.count = x.left.count ∙ after_bodies in record {
      left = record { count = c; down = x.left.down };
      ends = λ e y. ⊎_elim (λ z. inl (fewer m q e _ c z)) (λ z. inr (fewer m q e _ c z))
          (naming_ends T (pages es) (bodies es) base q few_pages (whole_bodies es (pages es) 1) (named_within q x.left.count x.gains) e y);
    }

    module _ (q : Meaning) (wd : WriteDone o 0 (header (pages es)) q) (sq : Sound q) (t : Meaning) (x : SyncDone q t) where
      after_header : t.count ≡ m.count
      after_header = x.ran.count ∙ wd.ran.count ∙ after_bodies

      -- the header stands: steps 3 and 4 can begin
      pub lay_ready : LayReady T es base t
      lay_ready = let c = after_header in record {
        reads = cr.reads;
        ready = record {
          running = x.ran.still;
          room = let a = few_entries in let b : length t.waits ≡ 0 = ap length x.waits in omega arith;
          sized = cr.homes.sized;
          within = λ j h. let a = cr.homes.within j h in omega arith;
          apart = cr.homes.apart;
        };
        quiet = x.waits;
        room = let v = cr.room in omega arith;
        laying = header_synced T (pages es) (bodies es) base q t sq x (named_within q wd.ran.count wd.gains) (ap T wd.here ∙ cr.reads.named);
      }

      pub committed : (u : Meaning) (r : Answer) → Finished T es base t r u → Committed T es base m r u
      committed u (Ok _) f = record { ran = record { count = f.ran.count ∙ after_header; still = f.ran.still }; waits = f.waits; idle = f.idle }
      committed u (Err e) f = (
        f.0,
        record {
          left = record { count = f.1.left.count ∙ after_header; down = f.1.left.down };
          ends = λ e y. inr (fewer m t e _ after_header (f.1.ends e y));
        },
      )

-- the same over the device, where the calls were made
module _ {D : Type 0} (agrees : D → Type 0) (meaning : D → Meaning) (sound : (d : D) → agrees d → Sound (meaning d)) (T : State → List ℕ) (es : List Entry) (base : ℕ → State) (a : D) where
  pub laid_and_cleared : (lr : LayReady T es base (meaning a)) → agrees a → (d : D) → agrees d → Wrote Home es (length es) (meaning a) (meaning d) → (o : D) → SyncDone (meaning d) (meaning o) → (r : Answer) (e : D)
      → HeadSet agrees meaning (header []) o r e → Finished T es base (meaning a) r (meaning e)
  laid_and_cleared lr ha d hd w o s (Ok _) e (q, hq, wd, x) =
      finished T es base (meaning a) lr (sound a ha) (meaning d) w (sound d hd) (meaning o) s (meaning q) wd (sound q hq) (meaning e) x
  laid_and_cleared lr ha d hd w o s (Err f) e x =
      (x.0, clear_lost T es base (meaning a) lr (sound a ha) (meaning d) w (sound d hd) (meaning o) s (meaning e) x.1)

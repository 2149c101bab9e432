-- A cache from the meaning below: what a call that goes below does above, and that the cache still agrees and keeps its pages by the rule.
use Rattle.std.proofs.Common.{◌≡◌, ℕ, ◌<◌, ◌≤◌, Bool, true, false, cond, ◌||◌, ◌≢◌, ◌⊎◌, List, [], length, Option, is_some, Some, None, Ok, Err, MatchBool, sym, refl, ap, ◌∙◌, subst, inr, ⊎_elim, arith}
use Rattle.std.specs.Option.{unwrap_or}
use Rattle.std.proofs.lemmas.Option.{slice_get_within}
use Rattle.std.proofs.lemmas.Bool.{both_ways, eq-eqb, MatchBool-at_true}
use Rattle.device.specs.declared.DeviceFault.{DeviceFault}
use Rattle.device.specs.declared.DeviceFault.TheVariants.{NoSuchPage, BufferSize, PowerLost, PageSpoiled, TooManyWaiting}
use Rattle.device.specs.Meaning.{bytes, Meaning, Alike}
use Rattle.device.specs.Numbers.{number}
use Rattle.device.specs.Promises.{Same, Passes, Lost, Ran, Read, Write, Sync, Restart}
use Rattle.device.specs.Calls.{Answer, Call, reads, writes, syncs, restarts, discards, Step, always, lost}
use Rattle.cache.specs.declared.table.Table.{Table}
use Rattle.cache.specs.declared.memory.Memory.{Memory}
use Rattle.cache.specs.Slots.{Slots, At, Keeps, Empty, no_page}
use Rattle.cache.specs.Order.{kept, keeps}
use Rattle.cache.specs.Keeping.{up, table_of, under, Faithful, Fresh, Agrees, Heard, Noted, Revived, After}
use Rattle.cache.proofs.SlotLaws.{at_put}
use Rattle.cache.proofs.OrderLaws.{placed_joined}

-- an answer 11, which leaves the cache fresh
heard_fresh : (s s' : Memory) (e : DeviceFault) → number e ≡ 11 → Heard s (Err e) s' → Fresh s'
heard_fresh s s' e n a = MatchBool-at_true _ _ (eq-eqb (number e) 11 n) a

-- the parts of a promise below, above
module _ (up up' : Bool) (m n : Meaning) where
  pub under_same : up' ≡ up → Same m n → Same (under up m) (under up' n)
  under_same e s = record { count = s.count; runs = e; shown = s.shown; no_more = s.no_more; no_less = s.no_less; waits = s.waits }

  pub under_lost : up' ≡ false → Lost m n → Lost (under up m) (under up' n)
  under_lost e l = record { left = record { count = l.left.count; down = e }; fates = l.fates }

  pub under_ran : up' ≡ true → Ran m n → Ran (under up m) (under up' n)
  under_ran e l = record { count = l.count; still = e }

under_passes : (up : Bool) (m : Meaning) (p : ℕ) (buf : List ℕ) → Passes m p buf → Passes (under up m) p buf
under_passes up m p buf h = record { within = h.within; size = h.size }

-- a call that goes below, from the memory s and the meaning m to the memory s' and the meaning n
module _ (s s' : Memory) (m n : Meaning) where
  same_up : s' ≡ s → up s' ≡ up s
  same_up e = ap up e

  abbrev same_above : s' ≡ s → Same m n → Same (under (up s) m) (under (up s') n)
  same_above e = under_same (up s) (up s') m n (same_up e)

  read_under : (p : ℕ) (buf buf' : List ℕ) (r : Answer) → up s ≡ true → Read m p buf r buf' n → Noted p buf' s r s' → Read (under (up s) m) p buf r buf' (under (up s') n)
  read_under p buf buf' (Ok _) t d a = record { passes = under_passes (up s) m p buf d.passes; running = t; value = d.value; same = under_same (up s) (up s') m n a.0 d.same }
  read_under p buf buf' (Err NoSuchPage) t d a = (d.0, record { past = d.1.past; same = same_above a d.1.same })
  read_under p buf buf' (Err BufferSize) t d a = (d.0, record { within = d.1.within; size = d.1.size; same = same_above a d.1.same })
  read_under p buf buf' (Err PowerLost) t d a = (d.0, record { passes = under_passes (up s) m p buf d.1.passes; lost = under_lost (up s) (up s') m n a.down d.1.lost })
  read_under p buf buf' (Err PageSpoiled) t d a = (d.0, record { passes = under_passes (up s) m p buf d.1.passes; running = t; value = d.1.value; same = same_above a d.1.same })
  read_under p buf buf' (Err TooManyWaiting) t d a = d

  write_under : (p : ℕ) (buf : List ℕ) (r : Answer) → up s ≡ true → Write m p buf r n → Noted p buf s r s' → Write (under (up s) m) p buf r (under (up s') n)
  write_under p buf (Ok _) t d a = record {
    passes = under_passes (up s) m p buf d.passes;
    running = t;
    room = d.room;
    ran = under_ran (up s) (up s') m n (a.0 ∙ t) d.ran;
    here = d.here;
    others = d.others;
    gains = d.gains;
    joins = d.joins;
  }
  write_under p buf (Err NoSuchPage) t d a = record { past = d.past; same = same_above a d.same }
  write_under p buf (Err BufferSize) t d a = record { within = d.within; size = d.size; same = same_above a d.same }
  write_under p buf (Err PowerLost) t d a = record { passes = under_passes (up s) m p buf d.passes; left = record { count = d.left.count; down = a.down }; gains = d.gains }
  write_under p buf (Err PageSpoiled) t d a = d
  write_under p buf (Err TooManyWaiting) t d a = record { passes = under_passes (up s) m p buf d.passes; running = t; new = d.new; full = d.full; same = same_above a d.same }

  sync_under : (r : Answer) → up s ≡ true → Sync m r n → Heard s r s' → Sync (under (up s) m) r (under (up s') n)
  sync_under (Ok _) t d a = record { running = t; ran = under_ran (up s) (up s') m n (same_up a ∙ t) d.ran; shown = d.shown; only = d.only; waits = d.waits }
  sync_under (Err e) t d a = (d.0, under_lost (up s) (up s') m n (heard_fresh s s' e d.0 a).down d.1)

  restart_under : (r : Answer) → Restart m r n → Revived r s' → Restart (under (up s) m) r (under (up s') n)
  restart_under (Ok _) d a = record { ran = under_ran (up s) (up s') m n a.up d.ran; shown = d.shown; only = d.only; waits = d.waits }
  restart_under (Err e) d a = (d.0, under_lost (up s) (up s') m n a.up d.1)

  -- it does above what it does below
  pub step_under : (k : Call) (r : Answer) → (always k || up s) ≡ true → Step k m r n → After k s r s' → Step k (under (up s) m) r (under (up s') n)
  step_under (reads p buf buf') r t d a = read_under p buf buf' r t d a
  step_under (writes p buf) r t d a = write_under p buf r t d a
  step_under syncs r t d a = sync_under r t d a
  step_under restarts r t d a = restart_under r d a
  step_under discards r t d a = d

-- a cache that is down keeps nothing
none_empty : (o : Option Table) → is_some o ≡ false → Empty (unwrap_or o no_page)
none_empty None e = refl
none_empty (Some t) e = absurd (both_ways true e refl)

pub down_empty : (s : Memory) → up s ≡ false → Empty (table_of s)
down_empty s e = none_empty s.table e

empty_none : (t : Table) (i p : ℕ) (bs : List ℕ) → Empty t → At t.slots.items i p bs → ⊥
empty_none t i p bs e a = let h = slice_get_within t.slots.items i _ a.holds in let l : length t.slots.items ≡ 0 = rw e refl in omega arith

-- a cache that keeps nothing agrees with any device that runs while it does
pub empty_agrees : (s : Memory) (m : Meaning) → (up s ≡ true → m.runs ≡ true) → Empty (table_of s) → Agrees s m
empty_agrees s m b e = record {
  below = b;
  ordered = record { few = let l : length (table_of s).slots.items ≡ 0 = rw e refl in omega arith; start = inr (rw e refl) };
  faithful = record {
    shows = λ i p bs a. absurd (empty_none (table_of s) i p bs e a);
    within = λ i p bs a. absurd (empty_none (table_of s) i p bs e a);
    once = λ i j p bs bs' a a'. absurd (empty_none (table_of s) i p bs e a);
  };
}

pub fresh_agrees : (s : Memory) (m : Meaning) → Fresh s → Agrees s m
fresh_agrees s m f = empty_agrees s m (λ t. absurd (both_ways (up s) f.down t)) f.empty

faithful_same : (slots : Slots) (m n : Meaning) → n.count ≡ m.count → Alike m.count n.shown m.shown → Faithful slots m → Faithful slots n
faithful_same slots m n e al f = record {
  shows = λ i p bs a. al p (f.within i p bs a) ∙ f.shows i p bs a;
  within = λ i p bs a. let h = f.within i p bs a in omega arith;
  once = f.once;
}

faithful_keep : (t t' : Table) (m n : Meaning) (p : ℕ) (bs : List ℕ) → length t.slots.items ≤ 8 → n.count ≡ m.count → p < m.count → n.shown p ≡ bytes bs
    → ((i : ℕ) → i < m.count → i ≢ p → n.shown i ≡ m.shown i) → Faithful t.slots.items m → Keeps t p bs t' → Faithful t'.slots.items n
faithful_keep t t' m n p bs len e w here others f (i, pl, is) = record {
  shows = λ j q cs a. ⊎_elim (λ k. ap n.shown k.1 ∙ here ∙ ap bytes (sym k.2)) (λ k. others q (f.within j q cs k.0) k.1 ∙ f.shows j q cs k.0) (split j q cs a);
  within = λ j q cs a. ⊎_elim (λ k. let h = k.1 in omega arith) (λ k. let h = f.within j q cs k.0 in omega arith) (split j q cs a);
  once = λ j j' q cs cs' a a'. ⊎_elim
      (λ k. ⊎_elim (λ k'. k.0 ∙ sym k'.0) (λ k'. absurd (k'.1 k.1)) (split j' q cs' a'))
      (λ k. ⊎_elim (λ k'. absurd (k.1 k'.1)) (λ k'. f.once j j' q cs cs' k.0 k'.0) (split j' q cs' a'))
      (split j q cs a);
}
  where
    split : (j q : ℕ) (cs : List ℕ) → At t'.slots.items j q cs → ((j ≡ i) × (q ≡ p) × (cs ≡ bs)) ⊎ (At t.slots.items j q cs × (q ≢ p))
    split j q cs a = at_put t p i t'.next bs j q cs len f.once pl (subst (λ (x : Slots). At x j q cs) is a)

-- what each call leaves agrees
module _ (s s' : Memory) (m n : Meaning) (g : Agrees s m) where
  -- a device that shows the same, and runs, below a cache that did not change
  shown_agrees : s' ≡ s → (up s ≡ true → n.runs ≡ true) → n.count ≡ m.count → Alike m.count n.shown m.shown → Agrees s' n
  shown_agrees e b c al = subst (λ (x : Memory). Agrees x n) (sym e)
      (record { below = b; ordered = g.ordered; faithful = faithful_same (table_of s).slots.items m n c al g.faithful })

  pub same_agrees : s' ≡ s → Same m n → Agrees s' n
  same_agrees e x = shown_agrees e (λ t. x.runs ∙ g.below t) x.count x.shown

  -- page p was read or written
  keep_agrees : (p : ℕ) (bs : List ℕ) → up s ≡ true → n.runs ≡ true → n.count ≡ m.count → p < m.count → n.shown p ≡ bytes bs
      → ((i : ℕ) → i < m.count → i ≢ p → n.shown i ≡ m.shown i) → (up s' ≡ up s) × Keeps (table_of s) p bs (table_of s') → Agrees s' n
  keep_agrees p bs t b c w here others (u, k) = record {
    below = λ _. b;
    ordered = (placed_joined (table_of s) (table_of s') p bs g.ordered k.0 k.2 k.1).1;
    faithful = faithful_keep (table_of s) (table_of s') m n p bs g.ordered.few c w here others g.faithful k;
  }

  read_agrees : (p : ℕ) (buf buf' : List ℕ) (r : Answer) → up s ≡ true → Read m p buf r buf' n → Noted p buf' s r s' → Agrees s' n
  read_agrees p buf buf' (Ok _) t d a = keep_agrees p buf' t (d.same.runs ∙ d.running) d.same.count d.passes.within (d.same.shown p d.passes.within ∙ d.value) (λ i h _. d.same.shown i h) a
  read_agrees p buf buf' (Err NoSuchPage) t d a = same_agrees a d.1.same
  read_agrees p buf buf' (Err BufferSize) t d a = same_agrees a d.1.same
  read_agrees p buf buf' (Err PowerLost) t d a = fresh_agrees s' n a
  read_agrees p buf buf' (Err PageSpoiled) t d a = same_agrees a d.1.same
  read_agrees p buf buf' (Err TooManyWaiting) t d a = absurd d.1

  write_agrees : (p : ℕ) (buf : List ℕ) (r : Answer) → up s ≡ true → Write m p buf r n → Noted p buf s r s' → Agrees s' n
  write_agrees p buf (Ok _) t d a = keep_agrees p buf t d.ran.still d.ran.count d.passes.within d.here d.others a
  write_agrees p buf (Err NoSuchPage) t d a = same_agrees a d.same
  write_agrees p buf (Err BufferSize) t d a = same_agrees a d.same
  write_agrees p buf (Err PowerLost) t d a = fresh_agrees s' n a
  write_agrees p buf (Err PageSpoiled) t d a = absurd d
  write_agrees p buf (Err TooManyWaiting) t d a = same_agrees a d.same

  sync_agrees : (r : Answer) → Sync m r n → Heard s r s' → Agrees s' n
  sync_agrees (Ok _) d a = shown_agrees a (λ _. d.ran.still) d.ran.count d.shown
  sync_agrees (Err e) d a = fresh_agrees s' n (heard_fresh s s' e d.0 a)

  restart_agrees : (r : Answer) → Restart m r n → Revived r s' → Agrees s' n
  restart_agrees (Ok _) d a = empty_agrees s' n (λ _. d.ran.still) a.empty
  restart_agrees (Err e) d a = fresh_agrees s' n (record { down = a.up; empty = a.empty })

  pub agrees_after : (k : Call) (r : Answer) → (always k || up s) ≡ true → Step k m r n → After k s r s' → Agrees s' n
  agrees_after (reads p buf buf') r t d a = read_agrees p buf buf' r t d a
  agrees_after (writes p buf) r t d a = write_agrees p buf r t d a
  agrees_after syncs r t d a = sync_agrees r d a
  agrees_after restarts r t d a = restart_agrees r d a
  agrees_after discards r t d a = absurd d

pub empty_kept : (t : Table) → Empty t → kept t ≡ []
unfolding kept
empty_kept t e = rw e refl

-- which pages are kept after a call that goes below
module _ (s s' : Memory) (m : Meaning) (g : Agrees s m) where
  heard_kept : (b : Bool) → MatchBool b (Fresh s') (s' ≡ s) → kept (table_of s') ≡ cond b [] (kept (table_of s))
  heard_kept true a = empty_kept (table_of s') a.empty
  heard_kept false a = ap (λ (x : Memory). kept (table_of x)) a

  noted_kept : (p : ℕ) (bs buf : List ℕ) (r : Answer) → Noted p bs s r s' → kept (table_of s') ≡ keeps (writes p buf) r (kept (table_of s))
  noted_kept p bs buf (Ok _) (u, k) = (placed_joined (table_of s) (table_of s') p bs g.ordered k.0 k.2 k.1).0
  noted_kept p bs buf (Err e) a = heard_kept (lost (Err e)) a

  pub kept_after : (k : Call) (r : Answer) → After k s r s' → kept (table_of s') ≡ keeps k r (kept (table_of s))
  kept_after (reads p buf buf') r a = noted_kept p buf' buf r a
  kept_after (writes p buf) r a = noted_kept p buf buf r a
  kept_after syncs r a = heard_kept (lost r) a
  kept_after restarts r a = empty_kept (table_of s') a.empty
  kept_after discards r a = empty_kept (table_of s') a.empty

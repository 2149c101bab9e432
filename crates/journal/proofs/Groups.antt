-- A journal that agrees with what stands below is a sound group device; and what its calls that stay in memory do.
use Rattle.std.proofs.Common.{◌≡◌, ℕ, ◌<◌, Bool, true, ◌⊎◌, List, [], length, Ok, Err, sym, refl, ap, ◌∙◌, subst, inl, inr, ⊎_elim, arith}
use Rattle.std.proofs.lemmas.Bool.{cases_eq}
use Rattle.device.specs.declared.DeviceFault.TheVariants.{TooManyWaiting}
use Rattle.device.specs.Meaning.{State, bytes, spoiled, has, Meaning, Sound, SoundGroup}
use Rattle.device.specs.Promises.{Passes, WriteDone}
use Rattle.device.specs.Calls.{reads, writes, discards}
use Rattle.device.proofs.Meanings.{same_self, same_group_self}
use Rattle.journal.specs.Entries.{Entry}
use Rattle.journal.specs.Waiting.{pages, held, with_page, PutDone, PutFull}
use Rattle.journal.specs.Standing.{above, laid, Ends, home, journal, journal_group}
use Rattle.journal.specs.Over.{Agrees}
use Rattle.journal.specs.Sound.{choose, pages_length}
use Rattle.journal.proofs.Crash.{laid_none, bodies_ends}
use Rattle.journal.proofs.Going.{Went}
use Rattle.journal.proofs.Puts.{with_held, with_others, with_has, with_distinct, with_fit, with_few}

module _ (T : State → List ℕ) (up : Bool) (es : List Entry) (m : Meaning) (s : Sound m) (g : Agrees T up es m) where
  -- while it runs, the image of the home pages is an end, and every end is alike to it
  pub base_end : up ≡ true → Ends T m (home m)
  base_end t = (m.shown, λ i h. s.shown_fate (g.below t) i h, λ i h. sym (laid_none T m.shown i (let z : 0 < m.count = omega arith in (g.idle t 0 (m.shown 0) z (s.shown_fate (g.below t) 0 z)).head refl)))

  pub sound_group : SoundGroup (journal T up es m) (journal_group T m)
  sound_group = record {
    some_end = let c = choose m s in (laid T c.0, (c.0, c.1, λ j l. refl));
    base_ends = λ t. (home m, base_end t, λ i h. refl);
    only_end = λ t. bodies_ends T [] (λ _. spoiled) (home m) m (g.idle t);
  }

  -- discard: what is shown is the base again
  pub went_discard : up ≡ true → Went discards T up es m (Ok tt) up [] m
  went_discard t = record {
    agrees = record { below = g.below; quiet = g.quiet; idle = g.idle; few = omega arith; apart = tt; fit = tt };
    means = record {
      running = t;
      ran = record { count = refl; still = t };
      shown = λ i h. refl;
      base = λ i h. refl;
      fates = λ i x h y. ⊎_elim (λ z. inl z) (λ z. inl (home m, base_end t, sym z.1)) y;
      waits = refl;
    };
  }

  -- a page that waits is read from memory
  pub went_held : (p : ℕ) (buf buf' : List ℕ) → up ≡ true → Passes (journal T up es m) p buf → ((d : State) → held es p d ≡ bytes buf') → Went (reads p buf buf') T up es m (Ok tt) up es m
  went_held p buf buf' t pass h = record {
    agrees = g;
    means = (record { passes = pass; running = t; value = h (home m p); same = same_self (journal T up es m) }, λ i l. refl);
  }

  -- a write is kept in memory, or refused where 64 others wait
  module _ (p : ℕ) (buf : List ℕ) (t : up ≡ true) (pass : Passes (journal T up es m) p buf) where
    written : (has p (pages es) ≡ true) ⊎ (length es < 64) → WriteDone (journal T up es m) p buf (journal T up (with_page es p buf) m)
    written room = record {
      passes = pass;
      running = t;
      room = ⊎_elim (λ x. inl x) (λ x. inr (let e = pages_length es in omega arith)) room;
      ran = record { count = refl; still = t };
      here = with_held es p buf (home m p);
      others = λ i h ne. with_others es p buf i (home m i) ne;
      gains = λ i x h y. ⊎_elim (λ z. inl (inl z))
          (λ z. ⊎_elim (λ e. inr (e, inl (z.1 ∙ ap (λ (k : ℕ). held (with_page es p buf) k (home m k)) e ∙ with_held es p buf (home m p)))) (λ ne. inl (inr (t, z.1 ∙ with_others es p buf i (home m i) ne))) (cases_eq i p)) y;
      joins = with_has es p buf;
    }

    pub went_put : (es' : List Entry) → PutDone es p buf es' → Went (writes p buf) T up es m (Ok tt) up es' m
    went_put es' d = subst (λ (l : List Entry). Went (writes p buf) T up es m (Ok tt) up l m) (sym d.joins) (record {
      agrees = record {
        below = g.below;
        quiet = g.quiet;
        idle = g.idle;
        few = with_few es p buf g.few d.room;
        apart = with_distinct es p buf g.apart;
        fit = with_fit (above m.count) es p buf pass.within pass.size g.fit;
      };
      means = (written d.room, λ i h. refl);
    })

    pub went_full : (es' : List Entry) → PutFull es p es' → Went (writes p buf) T up es m (Err TooManyWaiting) up es' m
    went_full es' d = subst (λ (l : List Entry). Went (writes p buf) T up es m (Err TooManyWaiting) up l m) (sym d.same) (record {
      agrees = g;
      means = (
        record { passes = pass; running = t; new = d.absent; full = (let e = pages_length es in let f = d.full in omega arith); same = same_self (journal T up es m) },
        same_group_self (above m.count) (journal_group T m),
      );
    })

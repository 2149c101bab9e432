-- A read of the journal, from the read of the home page below.
use Rattle.std.proofs.Common.{◌≡◌, ℕ, ◌+◌, ◌<◌, Bool, true, false, List, [], length, Ok, Err, MatchBool, sym, refl, ap, ◌∙◌, subst, inl, inr, ⊎_elim, arith}
use Rattle.std.proofs.lemmas.Bool.{both_ways}
use Rattle.device.specs.declared.DeviceFault.TheVariants.{NoSuchPage, BufferSize, PowerLost, PageSpoiled, TooManyWaiting}
use Rattle.device.specs.Meaning.{State, Meaning}
use Rattle.device.specs.Promises.{Same, Lost, NoGain, Passes, Read}
use Rattle.device.specs.GroupPromises.{NoEnd, SameGroup}
use Rattle.device.specs.Calls.{Answer, reads, lost}
use Rattle.journal.specs.Entries.{Entry}
use Rattle.journal.specs.Waiting.{held, AllFit}
use Rattle.journal.specs.Standing.{above, home, journal, journal_group}
use Rattle.journal.specs.Over.{Agrees}
use Rattle.journal.proofs.Ended.{ends_from}
use Rattle.journal.proofs.Going.{Went}

-- down, with nothing in memory
pub agrees_down : (T : State → List ℕ) (up : Bool) (es : List Entry) (m : Meaning) → up ≡ false → es ≡ [] → Agrees T up es m
agrees_down T up es m d e = subst (λ (x : List Entry). Agrees T up x m) (sym e) (record {
  below = λ t. absurd (both_ways up d t);
  quiet = λ t. absurd (both_ways up d t);
  idle = λ t. absurd (both_ways up d t);
  few = omega arith;
  apart = tt;
  fit = tt;
})

-- a call that changed nothing below, or was answered 11 there
module _ (T : State → List ℕ) (up : Bool) (es : List Entry) (m n : Meaning) where
  no_end_from : (k : ℕ) → n.count ≡ m.count → NoGain m n → NoEnd k (journal_group T m) (journal_group T n)
  no_end_from k c g e x = (e, ends_from T m n c g e x, λ i h. refl)

  same_journal : Same m n → Same (journal T up es m) (journal T up es n)
  same_journal s = record {
    count = ap above s.count;
    runs = refl;
    shown = λ i h. look i h;
    no_more = λ i x h y. ⊎_elim (λ z. inl (z.0, ends_from T m n s.count s.no_more z.0 z.1, z.2)) (λ z. inr (z.0, z.1 ∙ look i h)) y;
    no_less = λ i x h y. ⊎_elim (λ z. inl (z.0, ends_from T n m (sym s.count) (λ j v l w. s.no_less j v (let c = s.count in omega arith) w) z.0 z.1, z.2)) (λ z. inr (z.0, z.1 ∙ sym (look i h))) y;
    waits = refl;
  }
    where
      look : (i : ℕ) → i < above m.count → held es i (home n i) ≡ held es i (home m i)
      look i h = ap (held es i) (s.shown (65 + i) (omega arith))

  same_agrees : Same m n → Agrees T up es m → Agrees T up es n
  same_agrees s g = let c = s.count in record {
    below = λ t. s.runs ∙ g.below t;
    quiet = λ t. s.waits ∙ g.quiet t;
    idle = λ t p x h y. let l : p < m.count = omega arith in let k = g.idle t p x l (s.no_more p x l y) in record {
      head = k.head;
      body = k.body;
      home = λ i e. k.home i e ∙ sym (s.shown (65 + i) (omega arith));
    };
    few = g.few;
    apart = g.apart;
    fit = subst (λ (c : ℕ). AllFit (above c) es) (sym s.count) g.fit;
  }

  same_group : Same m n → SameGroup (above m.count) (journal_group T m) (journal_group T n)
  same_group s = record {
    base = λ i h. s.shown (65 + i) (omega arith);
    no_more = no_end_from (above m.count) s.count s.no_more;
    no_less = λ e x. (e, ends_from T n m (sym s.count) (λ j v l w. s.no_less j v (let c = s.count in omega arith) w) e x, λ i h. refl);
  }

  lost_journal : (up' : Bool) (es' : List Entry) → up' ≡ false → Lost m n → Lost (journal T up es m) (journal T up' es' n)
  lost_journal up' es' d l = record {
    left = record { count = ap above l.left.count; down = d };
    fates = λ i x h y. ⊎_elim (λ z. inl (z.0, ends_from T m n l.left.count l.fates z.0 z.1, z.2)) (λ z. absurd (both_ways up' d z.0)) y;
  }

module _ (T : State → List ℕ) (up up' : Bool) (es es' : List Entry) (m n : Meaning) (p : ℕ) (buf buf' : List ℕ)
    (t : up ≡ true) (w : p < above m.count) (len : length buf ≡ 252) (look : (d : State) → held es p d ≡ d) (g : Agrees T up es m) where
  passes : Passes (journal T up es m) p buf
  passes = record { within = w; size = len }

  kept : (P : Bool → List Entry → Type 0) → (up' ≡ up) × (es' ≡ es) → P up es → P up' es'
  kept P k x = subst (λ (u : Bool). P u es') (sym k.0) (subst (λ (l : List Entry). P up l) (sym k.1) x)

  pub read_home : (r : Answer) → MatchBool (lost r) ((up' ≡ false) × (es' ≡ [])) ((up' ≡ up) × (es' ≡ es)) → Read m (65 + p) buf r buf' n → Went (reads p buf buf') T up es m r up' es' n
  read_home (Ok _) k d = record {
    agrees = kept (λ u l. Agrees T u l n) k (same_agrees T up es m n d.same g);
    means = (
      record {
        passes = passes;
        running = t;
        value = look (home m p) ∙ d.value;
        same = kept (λ u l. Same (journal T up es m) (journal T u l n)) k (same_journal T up es m n d.same);
      },
      (same_group T up es m n d.same).base,
    );
  }
  read_home (Err NoSuchPage) k d = let a = d.1.past in absurd (omega arith)
  read_home (Err BufferSize) k d = absurd (d.1.size len)
  read_home (Err PowerLost) k d = record {
    agrees = agrees_down T up' es' n k.0 k.1;
    means = (
      (d.0, record { passes = passes; lost = lost_journal T up es m n up' es' k.0 d.1.lost }),
      no_end_from T up es m n (above m.count) d.1.lost.left.count d.1.lost.fates,
    );
  }
  read_home (Err PageSpoiled) k d = record {
    agrees = kept (λ u l. Agrees T u l n) k (same_agrees T up es m n d.1.same g);
    means = (
      (
        d.0,
        record {
          passes = passes;
          running = t;
          value = look (home m p) ∙ d.1.value;
          same = kept (λ u l. Same (journal T up es m) (journal T u l n)) k (same_journal T up es m n d.1.same);
        },
      ),
      same_group T up es m n d.1.same,
    );
  }
  read_home (Err TooManyWaiting) k d = absurd d.1

-- a read leaves the count
pub read_count : (m n : Meaning) (p : ℕ) (buf buf' : List ℕ) (r : Answer) → Read m p buf r buf' n → n.count ≡ m.count
read_count m n p buf buf' r d = grind arith

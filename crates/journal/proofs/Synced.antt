-- A sync of the journal, from what its steps leave below.
use Rattle.std.proofs.Common.{◌≡◌, ℕ, suc, ◌+◌, ◌-◌, ◌<◌, Bool, true, false, List, [], ◌∷◌, length, get_or, Ok, Err, MatchBool, sym, refl, ap, ◌∙◌, inl, inr, ⊎_elim, arith}
use Rattle.std.proofs.lemmas.Bool.{both_ways, eq-eqb, MatchBool-at_true}
use Rattle.device.specs.Meaning.{State, bytes, Meaning, Sound}
use Rattle.device.specs.Numbers.{number}
use Rattle.device.specs.Calls.{Answer, syncs, lost}
use Rattle.device.proofs.Whens.{when_true}
use Rattle.journal.specs.Entries.{Entry}
use Rattle.journal.specs.Waiting.{blank, pages, held}
use Rattle.journal.specs.Standing.{above, over, home}
use Rattle.journal.specs.Crash.{fresh}
use Rattle.journal.specs.Over.{Agrees}
use Rattle.journal.specs.Steps.{bodies, Reads, Settled, CommitReady, Committed}
use Rattle.journal.proofs.Crash.{bodies_ends}
use Rattle.journal.proofs.Fitting.{fit_page, fit_size, apart_pages}
use Rattle.journal.proofs.Going.{Went}
use Rattle.journal.proofs.Groups.{base_end}
use Rattle.journal.proofs.Reading.{agrees_down}

held_over : (es : List Entry) (k : ℕ) (B : ℕ → State) (i : ℕ) (d : State) → ((j : ℕ) → j < length es → B (k + j) ≡ bytes (get_or es j blank).bytes) → held es i d ≡ over (pages es) k B i d
held_over [] k B i d h = refl
held_over (e ∷ es) k B i d h =
    let a : bytes e.bytes ≡ B k = sym (h 0 (omega arith)) ∙ ap B (let z : k + 0 ≡ k = omega arith in z) in
    let b : held es i d ≡ over (pages es) (suc k) B i d = held_over es (suc k) B i d (λ j l. ap B (let z : suc k + j ≡ k + suc j = omega arith in z) ∙ h (suc j) (omega arith)) in
    cc

-- what is shown is the new image
shown_fresh : (es : List Entry) (base : ℕ → State) (i : ℕ) → held es i (base i) ≡ fresh (pages es) (bodies es) base i
shown_fresh es base i = held_over es 1 (bodies es) i (base i) (λ j h. let z : (1 + j) - 1 ≡ j = omega arith in ap (λ (x : ℕ). bytes (get_or es x blank).bytes) z)

module _ (T : State → List ℕ) (up : Bool) (es : List Entry) (m : Meaning) (s : Sound m) (t : up ≡ true) (g : Agrees T up es m) where
  pub commit_ready : Reads T es → 0 < length es → CommitReady T es (home m) m
  commit_ready r some = let z = fit_page (above m.count) es 0 some g.fit in record {
    reads = r;
    homes = record {
      running = g.below t;
      room = let a = g.few in let b : length m.waits ≡ 0 = ap length (g.quiet t) in omega arith;
      sized = λ j h. fit_size (above m.count) es j h g.fit;
      within = λ j h. let a = fit_page (above m.count) es j h g.fit in omega arith;
      apart = λ i j l h e. apart_pages es i j l h g.apart (let z : (get_or es j blank).page ≡ (get_or es i blank).page = omega arith in z);
    };
    quiet = g.quiet t;
    room = omega arith;
    idle = λ p x h y. let k = g.idle t p x h y in record { head = k.head; body = k.body; home = k.home };
  }

  module _ (n : Meaning) (sn : Sound n) where
    new_home : Settled T es (fresh (pages es) (bodies es) (home m)) m n → (i : ℕ) → i < above m.count → home n i ≡ held es i (home m i)
    new_home d i h = let c = d.ran.count in let l : 65 + i < n.count = omega arith in
        (d.idle (65 + i) (n.shown (65 + i)) l (sn.shown_fate d.ran.still (65 + i) l)).home i refl ∙ sym (shown_fresh es (home m) i)

    settled : Settled T es (fresh (pages es) (bodies es) (home m)) m n → (p : ℕ) (x : State) → p < n.count → n.fates p x → (i : ℕ) → p ≡ 65 + i → x ≡ home n i
    settled d p x h y i e = let l : 65 + i < n.count = omega arith in
        (d.idle p x h y).home i e ∙ sym ((d.idle (65 + i) (n.shown (65 + i)) l (sn.shown_fate d.ran.still (65 + i) l)).home i refl)

    -- accepted: the new image; cut: the old base or the new image, whole
    pub went_sync : (up' : Bool) (r : Answer) → MatchBool (lost r) (up' ≡ false) (up' ≡ up) → Committed T es (home m) m r n → Went syncs T up es m r up' [] n
    went_sync up' (Ok _) u d = record {
      agrees = record {
        below = λ _. d.ran.still;
        quiet = λ _. d.waits;
        idle = λ _ p x h y. let k = d.idle p x h y in record { head = k.head; body = λ j e l. tt; home = λ i e. settled d p x h y i e };
        few = omega arith;
        apart = tt;
        fit = tt;
      };
      means = (
        record {
          running = t;
          ran = record { count = ap above d.ran.count; still = u ∙ t };
          shown = λ i h. new_home d i h;
          only = λ i x h y. ⊎_elim
              (λ z. sym z.2 ∙ bodies_ends T (pages es) (bodies es) (fresh (pages es) (bodies es) (home m)) n d.idle z.0 z.1 i (let c = d.ran.count in omega arith) ∙ sym (shown_fresh es (home m) i))
              (λ z. z.1 ∙ new_home d i h) y;
          waits = refl;
        },
        λ i h. new_home d i h,
      );
    }
    went_sync up' (Err f) u d = let v : up' ≡ false = MatchBool-at_true _ _ (eq-eqb (number f) 11 d.0) u in record {
      agrees = agrees_down T up' [] n v refl;
      means = (
        (
          d.0,
          record {
            left = record { count = ap above d.1.left.count; down = v };
            fates = λ i x h y. ⊎_elim
                (λ z. ⊎_elim (λ o. inl (home m, base_end T up es m s g t, sym (o i h) ∙ z.2)) (λ w. inr (t, sym z.2 ∙ w i h ∙ sym (shown_fresh es (home m) i))) (d.1.ends z.0 z.1))
                (λ z. absurd (both_ways up' v z.0)) y;
          },
        ),
        when_true up _ _ t (λ e x. ⊎_elim (λ o. inl o) (λ w. inr (λ i h. w i h ∙ sym (shown_fresh es (home m) i))) (d.1.ends e x)),
      );
    }

pub committed_count : (T : State → List ℕ) (es : List Entry) (base : ℕ → State) (m n : Meaning) (r : Answer) → Committed T es base m r n → n.count ≡ m.count
committed_count T es base m n r d = grind arith

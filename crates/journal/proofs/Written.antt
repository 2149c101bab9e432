-- One write after another, and the sync behind them; the header, and the sync behind it.
use Rattle.std.proofs.Common.{◌≡◌, ℕ, ◌+◌, ◌<◌, List, length, get_or, sym, refl, ◌∙◌, subst, inl, inr, ⊎_elim, arith}
use Rattle.std.proofs.lemmas.Bool.{cases_eq}
use Rattle.std.proofs.lemmas.Bool.Decides.{nat_tests}
use Rattle.device.specs.Meaning.{bytes, Meaning, Sound}
use Rattle.device.specs.Promises.{WriteDone, WriteLost, WriteRefused, GainsAt}
use Rattle.device.proofs.Waits.{one_more}
use Rattle.journal.specs.Entries.{Entry}
use Rattle.journal.specs.declared.places.Area.{Area}
use Rattle.journal.specs.Waiting.{blank}
use Rattle.journal.specs.Writing.{spot, Ready, OnlySpots, Wrote, WroteLost}

pub wrote_none : (area : Area) (es : List Entry) (m : Meaning) → Ready area es m → Wrote area es 0 m m
wrote_none area es m r = record {
  count = refl;
  running = r.running;
  room = omega arith;
  gains = λ p s h x. inl x;
  here = λ j h. absurd (omega arith);
  others = λ p h n. refl;
}

module _ (area : Area) (es : List Entry) (k : ℕ) (m n o : Meaning) (r : Ready area es m) (w : Wrote area es k m n) (l : k < length es) where
  step_gains : o.count ≡ n.count → (len : ℕ) → k < len → GainsAt (spot area es k) (get_or es k blank).bytes n o → OnlySpots area es len m o
  step_gains c len lt g p s h x = let cw = w.count in ⊎_elim
      (λ y. ⊎_elim (λ z. inl z) (λ z. let q = z.1 in inr (z.0, omega arith, z.2)) (w.gains p s h y))
      (λ y. inr (k, lt, y.0))
      (g p s (omega arith) x)

  pub wrote_more : Sound o → WriteDone n (spot area es k) (get_or es k blank).bytes o → Wrote area es (k + 1) m o
  wrote_more so d = let c = d.ran.count in record {
    count = c ∙ w.count;
    running = d.ran.still;
    room = let a = one_more n.waits o.waits (spot area es k) so.apart d.joins in let b = w.room in omega arith;
    gains = step_gains c (k + 1) (omega arith) d.gains;
    here = λ j h. ⊎_elim
        (λ e. subst (λ (x : ℕ). o.shown (spot area es x) ≡ bytes (get_or es x blank).bytes) (sym e) d.here)
        (λ ne. let q : j < k = omega arith in d.others (spot area es j) (let a = r.within j (omega arith) in let b = w.count in omega arith) (λ e. r.apart j k q l (sym e)) ∙ w.here j q)
        (cases_eq j k);
    others = λ p h ne. d.others p (let b = w.count in omega arith) (ne k (omega arith)) ∙ w.others p h (λ j q. ne j (omega arith));
  }

  -- the next write can only be answered 11
  pub wrote_lost : (f : ℕ) → WriteRefused n (spot area es k) (get_or es k blank).bytes f o → (f ≡ 11) × WroteLost area es m o
  wrote_lost f x =
      let within = r.within k l in
      let sized = r.sized k l in
      let q : (f ≡ 11) × WriteLost n (spot area es k) (get_or es k blank).bytes o = grind (arith, nat_tests) in
      (q.0, record { left = record { count = q.1.left.count ∙ w.count; down = q.1.left.down }; gains = step_gains q.1.left.count (length es) l q.1.gains })

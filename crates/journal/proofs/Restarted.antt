-- A restart: what the device below shows then is one choice of its fates, and what that lays is the end that stands.
use Rattle.std.proofs.Common.{◌≡◌, ℕ, ◌+◌, ◌-◌, ◌<◌, ◌≤◌, true, false, List, length, sym, refl, ap, ◌∙◌, inr, ⊎_elim, arith}
use Rattle.device.specs.Meaning.{State, Meaning, Alike}
use Rattle.device.specs.Promises.{RestartDone}
use Rattle.journal.specs.Standing.{above, whole, laid, Choice, Ends, home}
use Rattle.journal.specs.Crash.{Within, fresh, Naming, Laying}
use Rattle.journal.proofs.Crash.{AlikeFrom, laid_none, laid_broken, laid_stands, whole_same}

module _ (T : State → List ℕ) (m n : Meaning) (r : RestartDone m n) where
  -- what is shown is a choice of the earlier fates
  shown_choice : Choice m n.shown
  shown_choice i h = r.shown i h

  -- so whatever is alike to what it lays was an end
  pub was_end : (e : ℕ → State) → Alike (above m.count) e (laid T n.shown) → Ends T m e
  was_end e a = (n.shown, shown_choice, a)

  -- a group stands: steps 3 and 4 can begin, and lead to what it lays
  pub stands_laying : (ts : List ℕ) (b : ℕ → State) → T (n.shown 0) ≡ ts → ((j : ℕ) → j < length ts → n.shown (1 + j) ≡ b (1 + j)) → Within n (Laying T ts b (home n))
  stands_laying ts b e bs p s h x = let c = r.ran.count in let k : s ≡ n.shown p = r.only p s (omega arith) x in record {
    head = λ z. ap T (k ∙ ap n.shown z) ∙ e;
    body = λ j z l g. k ∙ ap n.shown z ∙ bs j g;
    home = λ i z. inr (k ∙ ap n.shown z);
  }

  pub stands_image : (ts : List ℕ) (b : ℕ → State) → T (n.shown 0) ≡ ts → whole ts 1 b ≡ true → ((j : ℕ) → j < length ts → n.shown (1 + j) ≡ b (1 + j))
      → (i : ℕ) → fresh ts b (home n) i ≡ laid T n.shown i
  stands_image ts b e w bs i = sym (laid_stands T n.shown i ts b (home n i) e w
      (λ k lo hi. let z : 1 + (k - 1) ≡ k = omega arith in ap n.shown (sym z) ∙ bs (k - 1) (omega arith) ∙ ap b z) (inr refl))

-- no group stands, though the header may name one: a body is spoiled
pub broken_ends : (T : State → List ℕ) (ts : List ℕ) (b base : ℕ → State) (m : Meaning) → length ts ≤ 64 → whole ts 1 b ≡ false → Within m (Naming T ts b base)
    → (e : ℕ → State) → Ends T m e → Alike (above m.count) e base
broken_ends T ts b base m l wh w e (f, c, a) i h =
    let z : 0 < m.count = omega arith in
    let q : 65 + i < m.count = omega arith in
    let hm = (w (65 + i) (f (65 + i)) q (c (65 + i) q)).home i refl in
    a i h ∙ ⊎_elim (λ n. laid_none T f i n)
    (λ y. laid_broken T f i (rw y (whole_same ts 1 f b (bodies_at h) ∙ wh)))
    ((w 0 (f 0) z (c 0 z)).head refl) ∙ hm
  where
    bodies_at : i < above m.count → AlikeFrom 1 (length ts) f b
    bodies_at h k lo hi =
        let q : k < m.count = omega arith in
        let v : 1 + (k - 1) ≡ k = omega arith in
        (w k (f k) q (c k q)).body (k - 1) (sym v) (omega arith) (omega arith) ∙ ap b v

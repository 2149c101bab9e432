-- Which images may stand, from what each page below may hold: one lemma for each step of a sync, and how a sync leads from step to step.
use Rattle.std.proofs.Common.{◌≡◌, ℕ, suc, ◌+◌, ◌-◌, ◌<◌, ◌≤◌, true, false, eqb, ◌⊎◌, List, [], ◌∷◌, length, sym, refl, ap, ◌∙◌, subst, inl, inr, ⊎_elim, arith}
use Rattle.std.proofs.lemmas.Bool.{eqb-true, eqb-false, eq-eqb, ne_eqb, cases_Bool, cases_lt, cond-true, cond-false, false≢true, true≢false}
use Rattle.device.specs.Meaning.{State, bytes, spoiled, Meaning, Sound, Alike, has}
use Rattle.device.specs.Promises.{GainsAt, SyncDone}
use Rattle.journal.specs.Standing.{above, whole, over, laid, Choice, Ends}
use Rattle.journal.specs.Crash.{Phase, Within, fresh, Bodies, Naming, Laying, Clearing}

-- a write that is answered, also one that is cut short, stays within what is allowed
pub within_write : (m n : Meaning) (F : ℕ → State → Type 0) (p : ℕ) (buf : List ℕ) → n.count ≡ m.count → GainsAt p buf m n
    → F p (bytes buf) → F p spoiled → Within m F → Within n F
within_write m n F p buf c gains fb fs w q s h x =
    let k : q < m.count = omega arith in
    ⊎_elim (λ y. w q s k y)
    (λ y. subst (λ (z : ℕ). F z s) (sym y.0) (⊎_elim (λ e. subst (F p) (sym e) fb) (λ e. subst (F p) (sym e) fs) y.1))
    (gains q s k x)

-- two images whose bodies from page j on are alike
abbrev pub AlikeFrom : ℕ → ℕ → (ℕ → State) → (ℕ → State) → Type 0
AlikeFrom j len f b = (k : ℕ) → j ≤ k → k < j + len → f k ≡ b k

alike_tail : (j len : ℕ) (f b : ℕ → State) → AlikeFrom j (suc len) f b → AlikeFrom (suc j) len f b
alike_tail j len f b a k h l = a k (omega arith) (omega arith)

alike_head : (j len : ℕ) (f b : ℕ → State) → AlikeFrom j (suc len) f b → f j ≡ b j
alike_head j len f b a = a j (omega arith) (omega arith)

eqb_flip : (a b : ℕ) → eqb a b ≡ false → eqb b a ≡ false
eqb_flip a b e = ne_eqb b a (λ q. eqb-false a b e (sym q))

-- the bodies decide what is laid over a page that they name, and the page itself what no body is for
over_same : (ts : List ℕ) (j : ℕ) (f b : ℕ → State) (i : ℕ) (d d' : State) → AlikeFrom j (length ts) f b → (has i ts ≡ true) ⊎ (d ≡ d')
    → over ts j f i d ≡ over ts j b i d'
over_same [] j f b i d d' bodies e = ⊎_elim (λ x. absurd (false≢true x)) (λ x. x) e
over_same (t ∷ ts) j f b i d d' bodies e = ⊎_elim
    (λ y. cond-true (eqb t i) (f j) _ y ∙ alike_head j (length ts) f b bodies ∙ sym (cond-true (eqb t i) (b j) _ y))
    (λ n. cond-false (eqb t i) (f j) _ n
    ∙ over_same ts (suc j) f b i d d' (alike_tail j (length ts) f b bodies)
    (⊎_elim (λ x. inl (sym (cond-false (eqb i t) true (has i ts) (eqb_flip t i n)) ∙ x)) (λ x. inr x) e)
    ∙ sym (cond-false (eqb t i) (b j) _ n))
    (cases_Bool (eqb t i))

pub whole_same : (ts : List ℕ) (j : ℕ) (f b : ℕ → State) → AlikeFrom j (length ts) f b → whole ts j f ≡ whole ts j b
whole_same [] j f b bodies = refl
whole_same (t ∷ ts) j f b bodies =
    let x : f j ≡ b j = alike_head j (length ts) f b bodies in
    let y : whole ts (suc j) f ≡ whole ts (suc j) b = whole_same ts (suc j) f b (alike_tail j (length ts) f b bodies) in
    cc

pub unnamed : (us : List ℕ) (k : ℕ) (f : ℕ → State) (i : ℕ) (d : State) → has i us ≡ false → over us k f i d ≡ d
unnamed [] k f i d n = refl
unnamed (u ∷ us) k f i d n = ⊎_elim
    (λ y. absurd (true≢false (sym (cond-true (eqb i u) true (has i us) (eq-eqb i u (sym (eqb-true u i y)))) ∙ n)))
    (λ z. cond-false (eqb u i) (f k) _ z ∙ unnamed us (suc k) f i d (sym (cond-false (eqb i u) true (has i us) (eqb_flip u i z)) ∙ n))
    (cases_Bool (eqb u i))

-- a page that is laid over itself twice
over_twice : (ts : List ℕ) (j : ℕ) (f : ℕ → State) (i : ℕ) (d : State) → over ts j f i (over ts j f i d) ≡ over ts j f i d
over_twice ts j f i d = ⊎_elim (λ h. over_same ts j f f i _ d (λ k _ _. refl) (inl h)) (λ n. over_same ts j f f i _ d (λ k _ _. refl) (inr (unnamed ts j f i d n))) (cases_Bool (has i ts))

module _ (T : State → List ℕ) (f : ℕ → State) (i : ℕ) where
  -- no header, no group
  pub laid_none : T (f 0) ≡ [] → laid T f i ≡ f (65 + i)
  laid_none e = rw e refl

  -- a body that is spoiled, no group
  pub laid_broken : whole (T (f 0)) 1 f ≡ false → laid T f i ≡ f (65 + i)
  laid_broken e = cond-false _ _ _ e

  pub laid_stands : (ts : List ℕ) (b : ℕ → State) (d : State) → T (f 0) ≡ ts → whole ts 1 b ≡ true → AlikeFrom 1 (length ts) f b
      → (has i ts ≡ true) ⊎ (f (65 + i) ≡ d) → laid T f i ≡ over ts 1 b i d
  laid_stands ts b d e w a h = rw e (cond-true _ _ _ (whole_same ts 1 f b a ∙ w) ∙ over_same ts 1 f b i _ d a h)

-- what a sync settles is what was shown
within_sync : (m n : Meaning) (F : ℕ → State → Type 0) → SyncDone m n → ((p : ℕ) → p < m.count → F p (m.shown p)) → Within n F
within_sync m n F d w p s h x =
    let c = d.ran.count in
    let k : p < m.count = omega arith in
    subst (F p) (sym (d.only p s k x)) (w p k)

module _ (T : State → List ℕ) (ts : List ℕ) (b base : ℕ → State) (m : Meaning) where
  place : (i : ℕ) → i < above m.count → 65 + i < m.count
  place i h = omega arith

  bodies_of : (f : ℕ → State) (H : State → Type 0) (O : ℕ → State → Type 0) (i : ℕ) → i < above m.count → length ts ≤ 64 → Choice m f
      → Within m (Phase H (λ j s. j < length ts → s ≡ b (1 + j)) O) → AlikeFrom 1 (length ts) f b
  bodies_of f H O i h l c w k lo hi =
      let q : k < m.count = omega arith in
      let e : 1 + (k - 1) ≡ k = omega arith in
      (w k (f k) q (c k q)).body (k - 1) (sym e) (omega arith) (omega arith) ∙ ap b e

  -- bodies written, and no header that names them: only the old base
  pub bodies_ends : Within m (Bodies T ts b base) → (e : ℕ → State) → Ends T m e → Alike (above m.count) e base
  bodies_ends w e (f, c, a) i h =
      let z : 0 < m.count = omega arith in
      let q = place i h in
      a i h ∙ laid_none T f i ((w 0 (f 0) z (c 0 z)).head refl) ∙ (w (65 + i) (f (65 + i)) q (c (65 + i) q)).home i refl

  -- the header written and not yet synced: one of the two
  pub naming_ends : length ts ≤ 64 → whole ts 1 b ≡ true → Within m (Naming T ts b base) → (e : ℕ → State) → Ends T m e
      → Alike (above m.count) e base ⊎ Alike (above m.count) e (fresh ts b base)
  naming_ends l wh w e (f, c, a) = ⊎_elim (λ z. ⊎_elim (λ n. inl (λ i h. old i h n)) (λ y. inr (λ i h. new i h y)) ((w 0 (f 0) z (c 0 z)).head refl)) (λ z. inl (λ i h. absurd (let k = h in omega arith))) (cases_lt 0 m.count)
    where
      old : (i : ℕ) → i < above m.count → T (f 0) ≡ [] → e i ≡ base i
      old i h n = let q = place i h in a i h ∙ laid_none T f i n ∙ (w (65 + i) (f (65 + i)) q (c (65 + i) q)).home i refl

      new : (i : ℕ) → i < above m.count → T (f 0) ≡ ts → e i ≡ fresh ts b base i
      new i h y = let q = place i h in a i h ∙ laid_stands T f i ts b (base i) y wh (bodies_of f _ _ i h l c w) (inr ((w (65 + i) (f (65 + i)) q (c (65 + i) q)).home i refl))

  -- the header synced, home pages being written: only the new image
  pub laying_ends : length ts ≤ 64 → whole ts 1 b ≡ true → Within m (Laying T ts b base) → (e : ℕ → State) → Ends T m e → Alike (above m.count) e (fresh ts b base)
  laying_ends l wh w e (f, c, a) i h =
      let z : 0 < m.count = omega arith in
      let q = place i h in
      a i h ∙ laid_stands T f i ts b (base i) ((w 0 (f 0) z (c 0 z)).head refl) wh (bodies_of f _ _ i h l c w) ((w (65 + i) (f (65 + i)) q (c (65 + i) q)).home i refl)

  -- the home pages synced, the header being cleared: only the new image
  pub clearing_ends : length ts ≤ 64 → whole ts 1 b ≡ true → Within m (Clearing T ts b base) → (e : ℕ → State) → Ends T m e → Alike (above m.count) e (fresh ts b base)
  clearing_ends l wh w e (f, c, a) i h =
      let z : 0 < m.count = omega arith in
      let q = place i h in
      let hm = (w (65 + i) (f (65 + i)) q (c (65 + i) q)).home i refl in
      a i h ∙ ⊎_elim (λ n. laid_none T f i n ∙ hm)
      (λ y. laid_stands T f i ts b (fresh ts b base i) y wh (bodies_of f _ _ i h l c w) (inr hm) ∙ over_twice ts 1 b i (base i))
      ((w 0 (f 0) z (c 0 z)).head refl)

-- the four syncs lead from phase to phase
module _ (T : State → List ℕ) (ts : List ℕ) (b base : ℕ → State) (m n : Meaning) (s : Sound m) (d : SyncDone m n) where
  settled : (F : ℕ → State → Type 0) → Within m F → (p : ℕ) → p < m.count → F p (m.shown p)
  settled F w p h = w p (m.shown p) h (s.shown_fate d.running p h)

  pub bodies_synced : Within m (Bodies T ts b base) → ((j : ℕ) → j < length ts → m.shown (1 + j) ≡ b (1 + j)) → Within n (Naming T ts b base)
  bodies_synced w bs = within_sync m n _ d (λ p h. let k = settled _ w p h in record {
    head = λ e. inl (k.head e);
    body = λ j e l h2. ap m.shown e ∙ bs j h2;
    home = k.home;
  })

  pub header_synced : Within m (Naming T ts b base) → T (m.shown 0) ≡ ts → Within n (Laying T ts b base)
  header_synced w t = within_sync m n _ d (λ p h. let k = settled _ w p h in record {
    head = λ e. ap (λ (x : ℕ). T (m.shown x)) e ∙ t;
    body = k.body;
    home = λ i e. inr (k.home i e);
  })

  pub homes_synced : Within m (Laying T ts b base) → ((i : ℕ) → 65 + i < m.count → m.shown (65 + i) ≡ fresh ts b base i) → Within n (Clearing T ts b base)
  homes_synced w hs = within_sync m n _ d (λ p h. let k = settled _ w p h in record {
    head = λ e. inr (k.head e);
    body = k.body;
    home = λ i e. ap m.shown e ∙ hs i (let g = h in omega arith);
  })

  pub clear_synced : Within m (Clearing T ts b base) → T (m.shown 0) ≡ [] → Within n (Bodies T ts b (fresh ts b base))
  clear_synced w t = within_sync m n _ d (λ p h. let k = settled _ w p h in record {
    head = λ e. ap (λ (x : ℕ). T (m.shown x)) e ∙ t;
    body = λ j e l. tt;
    home = k.home;
  })

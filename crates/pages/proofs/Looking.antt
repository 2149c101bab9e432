-- Reads of a group device, one after another.
use Rattle.std.proofs.Common.{◌≡◌, ℕ, ◌+◌, ◌<◌, ◌≤◌, Bool, true, false, ◌||◌, List, length, Ok, Err, Result, sym, refl, ◌∙◌, subst, arith, MatchResult}
use Rattle.device.specs.declared.DeviceFault.{DeviceFault}
use Rattle.device.specs.declared.DeviceFault.TheVariants.{NoSuchPage, BufferSize, PowerLost, PageSpoiled, TooManyWaiting}
use Rattle.device.specs.Meaning.{State, bytes, spoiled, Meaning, Grouped, SoundGroup, Alike}
use Rattle.device.specs.Numbers.{number}
use Rattle.device.specs.Promises.{Same}
use Rattle.device.specs.GroupPromises.{NoEnd, SameGroup}
use Rattle.device.specs.Calls.{shown_page, Answer, Call, reads, Calls, none, more, GroupCalls}
use Rattle.device.specs.Clauses.{GroupDoes}
use Rattle.device.proofs.Meanings.{same_self, same_trans, same_group_self}
use Rattle.pages.specs.Reads.{made, Ready, Kept, Failed, Shows, Seen, Looks, PageRead}

-- ---- groups

no_end_trans : (k : ℕ) (g h i : Grouped) → NoEnd k g h → NoEnd k h i → NoEnd k g i
no_end_trans k g h i a b e x =
    let q = b e x in
    let p = a q.0 q.1 in
    (p.0, p.1, λ j l. q.2 j l ∙ p.2 j l)

group_trans : (k : ℕ) (g h i : Grouped) → SameGroup k g h → SameGroup k h i → SameGroup k g i
group_trans k g h i a b =
    record {
      base = λ j l. b.base j l ∙ a.base j l;
      no_more = no_end_trans k g h i a.no_more b.no_more;
      no_less = no_end_trans k i h g b.no_less a.no_less;
    }

-- two groups that are sound while their devices run have the same ends where they have the same base
same_ends : (m n : Meaning) (g h : Grouped) → SoundGroup m g → m.runs ≡ true → SoundGroup n h → n.runs ≡ true → n.count ≡ m.count → Alike m.count h.base g.base → SameGroup m.count g h
same_ends m n g h sg rg sh rh c b =
    let p = sg.base_ends rg in
    let q = sh.base_ends rh in
    let to : (i : ℕ) → i < m.count → i < n.count = λ i l. subst (λ k. i < k) (sym c) l in
    record {
      base = b;
      no_more = λ e x. (p.0, p.1, λ i l. sh.only_end rh e x i (to i l) ∙ b i l ∙ sym (p.2 i l));
      no_less = λ e x. (q.0, q.1, λ i l. sg.only_end rg e x i l ∙ sym (b i l) ∙ sym (q.2 i (to i l)));
    }

-- ---- chains

-- one chain after another, with the number of its calls
join : {D : Type 0} {runs : D → Bool} {step : Call → D → Answer → D → Type 0} {heard : Bool} {a b c : D} (p : Calls runs step false a b) (q : Calls runs step heard b c)
    → (r : Calls runs step heard a c) × (made r ≡ made q + made p)
unfolding made
join p none = (p, omega arith)
join p (more k r e q al s) = let t = join p q in (more k r e t.0 al s, omega (arith, t.1))

module _ {D : Type 0} (agrees : D → Type 0) (meaning : D → Meaning) (grouped : D → Grouped) where
  abbrev R : D → Type 0
  R = Ready agrees meaning grouped

  abbrev K : ℕ → D → D → Type 0
  K = Kept agrees meaning grouped

  abbrev F : ℕ → D → D → Type 0
  F = Failed agrees meaning grouped

  abbrev Reads : ℕ → List ℕ → List ℕ → D → Answer → D → Type 0
  Reads p buf buf' d r e = GroupDoes agrees meaning grouped (reads p buf buf') d r e

  -- ---- one read

  goes : (d : D) → R d → (false || (meaning d).runs) ≡ true
  goes d a = a.runs

  after : (d e : D) → R d → agrees e → (SoundGroup (meaning d) (grouped d) → SoundGroup (meaning e) (grouped e)) → Same (meaning d) (meaning e) → Alike (meaning d).count (grouped e).base (grouped d).base
      → (c : GroupCalls meaning grouped false d e) → made c ≤ 1 → K 1 d e
  after d e a ag s m b c few =
      let sd = s a.group in
      let re = m.runs ∙ a.runs in
      record {
        ready = record { below = ag; group = sd; runs = re };
        same = m;
        group = same_ends (meaning d) (meaning e) (grouped d) (grouped e) a.group a.runs sd re m.count b;
        calls = c;
        few = few;
      }

  read_done : (d e : D) (p : ℕ) (buf buf' : List ℕ) (u : Unit {0}) → R d → Reads p buf buf' d (Ok u) e → K 1 d e × ((meaning d).shown p ≡ bytes buf')
  unfolding made
  read_done d e p buf buf' u a f =
      let q = f a.below in
      let m = q.means in
      (after d e a q.agrees q.sound m.0.same m.1 (more (reads p buf buf') (Ok u) e none (goes d a) m) (omega arith), m.0.value)

  read_spoiled : (d e : D) (p : ℕ) (buf buf' : List ℕ) → R d → Reads p buf buf' d (Err PageSpoiled) e → K 1 d e × ((meaning d).shown p ≡ spoiled)
  unfolding made
  read_spoiled d e p buf buf' a f =
      let q = f a.below in
      let m = q.means in
      (after d e a q.agrees q.sound m.0.1.same m.1.base (more (reads p buf buf') (Err PageSpoiled) e none (goes d a) m) (omega arith), m.0.1.value)

  read_lost : (d e : D) (p : ℕ) (buf buf' : List ℕ) → R d → Reads p buf buf' d (Err PowerLost) e → F 1 d e
  unfolding made
  read_lost d e p buf buf' a f =
      let q = f a.below in
      let m = q.means in
      record {
        below = q.agrees;
        group = q.sound a.group;
        lost = m.0.1.lost;
        ends = m.1;
        calls = more (reads p buf buf') (Err PowerLost) e none (goes d a) m;
        few = omega arith;
      }

  -- ---- one after another

  pub kept_none : (k : ℕ) (d : D) → R d → K k d d
  unfolding made
  kept_none k d a = record { ready = a; same = same_self (meaning d); group = same_group_self (meaning d).count (grouped d); calls = none; few = omega arith }

  pub kept_on : (j k l : ℕ) (d e f : D) → j + k ≤ l → K j d e → K k e f → K l d f
  kept_on j k l d e f h a b =
      let t = join a.calls b.calls in
      record {
        ready = b.ready;
        same = same_trans (meaning d) (meaning e) (meaning f) a.same b.same;
        group = group_trans (meaning d).count (grouped d) (grouped e) (grouped f) a.group (subst (λ c. SameGroup c (grouped e) (grouped f)) a.same.count b.group);
        calls = t.0;
        few = omega (arith, t.1, a.few, b.few);
      }

  pub failed_on : (j k l : ℕ) (d e f : D) → j + k ≤ l → K j d e → F k e f → F l d f
  failed_on j k l d e f h a b =
      let t = join a.calls b.calls in
      let c = a.same.count in
      record {
        below = b.below;
        group = b.group;
        lost = record {
          left = record { count = b.lost.left.count ∙ c; down = b.lost.left.down };
          fates = λ i s l x. a.same.no_more i s l (b.lost.fates i s (subst (λ n. i < n) (sym c) l) x);
        };
        ends = no_end_trans (meaning d).count (grouped d) (grouped e) (grouped f) a.group.no_more (subst (λ n. NoEnd n (grouped e) (grouped f)) c b.ends);
        calls = t.0;
        few = omega (arith, t.1, a.few, b.few);
      }

  -- what is shown stays
  pub shows_on : (k : ℕ) (d e : D) → K k d e → (n : ℕ) (f : ℕ → State) → Shows (meaning d) n f → Shows (meaning e) n f
  shows_on k d e a n f s =
      record { count = a.same.count ∙ s.count; pages = λ i l. a.same.shown i (subst (λ c. i < c) (sym s.count) l) ∙ s.pages i l }

  pub shows_back : (k : ℕ) (d e : D) → K k d e → (n : ℕ) (f : ℕ → State) → Shows (meaning e) n f → Shows (meaning d) n f
  shows_back k d e a n f s =
      let c : (meaning d).count ≡ n = sym a.same.count ∙ s.count in
      record { count = c; pages = λ i l. sym (a.same.shown i (subst (λ c. i < c) (sym c) l)) ∙ s.pages i l }

  -- ---- what they find

  -- after at most k reads nothing has changed, and P holds of what is shown
  abbrev pub Held : ℕ → D → D → (ℕ → (ℕ → State) → Type 0) → Type 0
  Held k d e P = K k d e × Seen (meaning d) P

  pub held_on : (j k l : ℕ) (d e f : D) {P Q S : ℕ → (ℕ → State) → Type 0} → j + k ≤ l → Held j d e P → Held k e f Q → ((n : ℕ) (s : ℕ → State) → P n s → Q n s → S n s) → Held l d f S
  held_on j k l d e f h a b t = (kept_on j k l d e f h a.0 b.0, λ n s w. t n s (a.1 n s w) (b.1 n s (shows_on j d e a.0 n s w)))

  pub held_as : (k l : ℕ) (d e : D) {P S : ℕ → (ℕ → State) → Type 0} → k ≤ l → Held k d e P → ((n : ℕ) (s : ℕ → State) → P n s → S n s) → Held l d e S
  held_as k l d e h a t =
      let m = a.0 in
      (record { ready = m.ready; same = m.same; group = m.group; calls = m.calls; few = omega (arith, m.few) }, λ n s w. t n s (a.1 n s w))

  pub stopped_on : (j k l : ℕ) (d e f : D) {P : ℕ → (ℕ → State) → Type 0} (x : DeviceFault) → j + k ≤ l → Held j d e P → (number x ≡ 11) × F k e f → (number x ≡ 11) × F l d f
  stopped_on j k l d e f x h a b = (b.0, failed_on j k l d e f h a.0 b.1)

  -- a last part, answered as it may be
  pub looks_on : (j k l : ℕ) (d e f : D) {T : Type 0} (r : Result T DeviceFault) {P : ℕ → (ℕ → State) → Type 0} (Q : ℕ → (ℕ → State) → T → Type 0) → j + k ≤ l → Held j d e P
      → MatchResult r (λ x. K k e f × Seen (meaning e) (λ n s. Q n s x)) (λ x. (number x ≡ 11) × F k e f) → MatchResult r (λ x. K l d f × Seen (meaning d) (λ n s. Q n s x)) (λ x. (number x ≡ 11) × F l d f)
  looks_on j k l d e f (Ok x) Q h a b = held_on j k l d e f h a b (λ n s y z. z)
  looks_on j k l d e f (Err x) Q h a b = stopped_on j k l d e f x h a b

-- ---- one page

-- a device shows what it shows
pub shows_self : (m : Meaning) → Shows m m.count m.shown
shows_self m = record { count = refl; pages = λ i l. refl }

-- a page of what is shown
page_shown : (m : Meaning) (n : ℕ) (f : ℕ → State) (p : ℕ) (s : State) → Shows m n f → p < m.count → m.shown p ≡ s → f p ≡ s
page_shown m n f p s w h e = sym (w.pages p (subst (λ c. p < c) w.count h)) ∙ e

-- a read of a page below the count finds what the page shows, and is refused by 11 alone
pub looks_read : {D : Type 0} (agrees : D → Type 0) (meaning : D → Meaning) (grouped : D → Grouped) (d e : D) (p : ℕ) (buf buf' : List ℕ) (r : Answer)
    → GroupDoes agrees meaning grouped (reads p buf buf') d r e → p < (meaning d).count → length buf ≡ 252
    → Looks agrees meaning grouped 1 d (shown_page r buf') e (λ n f o. PageRead p f o)
looks_read agrees meaning grouped d e p buf buf' (Ok u) q h l a =
    let k = read_done agrees meaning grouped d e p buf buf' u a q in
    (k.0, λ n f s. page_shown (meaning d) n f p (bytes buf') s h k.1)
looks_read agrees meaning grouped d e p buf buf' (Err NoSuchPage) q h l a = absurd (omega (arith, (q a.below).means.0.1.past))
looks_read agrees meaning grouped d e p buf buf' (Err BufferSize) q h l a = absurd ((q a.below).means.0.1.size l)
looks_read agrees meaning grouped d e p buf buf' (Err PowerLost) q h l a = (refl, read_lost agrees meaning grouped d e p buf buf' a q)
looks_read agrees meaning grouped d e p buf buf' (Err PageSpoiled) q h l a =
    let k = read_spoiled agrees meaning grouped d e p buf buf' a q in
    (k.0, λ n f s. page_shown (meaning d) n f p spoiled s h k.1)
looks_read agrees meaning grouped d e p buf buf' (Err TooManyWaiting) q h l a = absurd (q a.below).means.0.1

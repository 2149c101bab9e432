-- What the disk's work on its images does to its meaning.
use Rattle.std.proofs.Common.{◌≡◌, ℕ, ◌+◌, ◌*◌, ◌/◌, ◌<◌, ◌≤◌, min, true, false, cond, not, ◌&&◌, eqb, ◌≢◌, ◌⊎◌, List, length, get_or, take, set, sym, refl, ap, ◌∙◌, subst, inl, inr, ⊎_elim, arith}
use Rattle.std.specs.Str.{bytes_eq}
use Rattle.std.proofs.lemmas.List.{length-set, get_or-set_same, get_or-set_other}
use Rattle.std.proofs.lemmas.Slice.Eq.{bytes_eq-Decides}
use Rattle.std.proofs.lemmas.Bool.{cases_eq, cond-true, cond-false, cond_both, both_ways, and_cases, not-false}
use Rattle.device.specs.Meaning.{State, bytes, spoiled}
use Rattle.device.specs.Promises.{Lost, ReadDone, ReadSpoiled, WriteDone, WriteLost, SyncDone, RestartDone}
use Rattle.device.proofs.Meanings.{same_self}
use Rattle.disk.specs.Raw.{raw, put_raw, decode, holds, sealed, mix, torn, chosen}
use Rattle.disk.specs.Arm.{letter_of}
use Rattle.disk.specs.Image.{count_of, marked, current, Fate, cleared, Swept, cut_page, rank, CutTo}
use Rattle.disk.specs.Held.{Held, count, means, stored, started, Synced, Cut}
use Rattle.disk.proofs.RawLaws.{length_put, raw_put, raw_other, length_sealed, decode_sealed}
use Rattle.disk.proofs.SweepLaws.{count_written, count_marks, cleared_below, length_cleared, not_marked}

pub count_same : (s w k s' w' k' : List ℕ) → length s' ≡ length s → length w' ≡ length w → length k' ≡ length k → count_of s' w' k' ≡ count_of s w k
unfolding count_of
count_same s w k s' w' k' a b c =
    ap (λ n. min (min (n / 256) (length w' / 256)) (min (length k') 131072)) a
    ∙ (ap (λ n. min (min (length s / 256) (n / 256)) (min (length k') 131072)) b
    ∙ ap (λ n. min (min (length s / 256) (length w / 256)) (min n 131072)) c)

-- a cleared page shows what is settled, and has no other fate
module _ (s w k : List ℕ) (i : ℕ) (clear : get_or k i 0 ≡ 0) where
  pub current_settled : current s w k i ≡ raw s i
  unfolding current
  current_settled = cond-false (marked k i) (raw w i) (raw s i) (not_marked k i clear)

  pub fate_settled : (t : State) → Fate s w k i t → t ≡ decode (raw s i)
  fate_settled t (inl e) = e
  fate_settled t (inr p) = absurd (both_ways (marked k i) (not_marked k i clear) p.0)

pub start_done : (x : Held) → RestartDone (means x) (means (started x))
start_done x =
    let s = x.settled in
    let w = x.written in
    let k = x.marks in
    let clear : (i : ℕ) → i < count_of s w k → get_or (cleared (count_of s w k) k) i 0 ≡ 0 = cleared_below (count_of s w k) k in
    record {
      ran = record { count = count_same s w k s w _ refl refl (length_cleared (count_of s w k) k (count_marks s w k)); still = refl };
      shown = λ i h. inl (ap decode (current_settled s w _ i (clear i h)));
      only = λ i t h f. fate_settled s w _ i (clear i h) t f ∙ sym (ap decode (current_settled s w _ i (clear i h)));
      waits = refl;
    }

-- what a walk over all pages leaves
module _ (f : ℕ → List ℕ) (s w k s' k' : List ℕ) (h : Swept f s k (count_of s w k) (count_of s w k) s' k') where
  pub swept_count : count_of s' w k' ≡ count_of s w k
  swept_count = count_same s w k s' w k' h.length_s refl (ap length h.marks ∙ length_cleared (count_of s w k) k (count_marks s w k))

  clear : (i : ℕ) → i < count_of s w k → get_or k' i 0 ≡ 0
  clear i lt = ap (λ t. get_or t i 0) h.marks ∙ cleared_below (count_of s w k) k i lt

  pub swept_shows : (i : ℕ) → i < count_of s w k → current s' w k' i ≡ f i
  swept_shows i lt = current_settled s' w k' i (clear i lt) ∙ h.done i lt

  pub swept_fate : (i : ℕ) (t : State) → i < count_of s w k → Fate s' w k' i t → t ≡ decode (f i)
  swept_fate i t lt x = fate_settled s' w k' i (clear i lt) t x ∙ ap decode (h.done i lt)

pub sync_done : (x y : Held) → x.running ≡ true → Synced x y → SyncDone (means x) (means y)
sync_done x y r h =
    let s = x.settled in
    let w = x.written in
    let k = x.marks in
    let s' = y.settled in
    let k' = y.marks in
    let at : ℕ → State = λ i. decode (current s' y.written k' i) in
    let same : (i : ℕ) → current s' y.written k' i ≡ current s' w k' i = λ i. ap (λ v. current s' v k' i) h.written in
    record {
      running = r;
      ran = record { count = ap (λ v. count_of s' v k') h.written ∙ swept_count (current s w k) s w k s' k' h.pages; still = h.running ∙ r };
      shown = λ i lt. ap decode (same i ∙ swept_shows (current s w k) s w k s' k' h.pages i lt);
      only = λ i t lt f. swept_fate (current s w k) s w k s' k' h.pages i t lt (subst (λ v. Fate s' v k' i t) h.written f);
      waits = refl;
    }

-- what a letter may leave is the old page, the new one, or a spoiled one
abbrev Left : State → List ℕ → List ℕ → Type 0
Left t old new = (t ≡ decode old) ⊎ ((t ≡ decode new) ⊎ (t ≡ spoiled))

pub spoils : (r : List ℕ) → holds r ≡ false → decode r ≡ spoiled
unfolding decode
spoils r b = cond-false (holds r) (bytes (take 252 r)) spoiled b

torn_left : (T : ℕ) (old new : List ℕ) → Left (decode (torn T old new)) old new
unfolding torn
torn_left T old new =
    cond_both _ old (mix T old new) (λ x. Left (decode x) old new)
    (λ _. inl refl)
    (λ e. ⊎_elim
    (λ (bad : holds (mix T old new) ≡ false). inr (inr (spoils (mix T old new) bad)))
    (λ (known : (not (bytes_eq (mix T old new) old) && not (bytes_eq (mix T old new) new)) ≡ false). ⊎_elim
    (λ (a : not (bytes_eq (mix T old new) old) ≡ false). inl (ap decode ((bytes_eq-Decides (mix T old new) old).0 (not-false _ a))))
    (λ (a : not (bytes_eq (mix T old new) new) ≡ false). inr (inl (ap decode ((bytes_eq-Decides (mix T old new) new).0 (not-false _ a)))))
    (and_cases (not (bytes_eq (mix T old new) old)) (not (bytes_eq (mix T old new) new)) known))
    (and_cases (holds (mix T old new)) (not (bytes_eq (mix T old new) old) && not (bytes_eq (mix T old new) new)) e))

chosen_left : (l T : ℕ) (old new : List ℕ) → Left (decode (chosen l T old new)) old new
unfolding chosen
chosen_left l T old new =
    cond_both (eqb l 111) old (cond (eqb l 110) new (torn T old new)) (λ x. Left (decode x) old new) (λ _. inl refl)
    (λ _. cond_both (eqb l 110) new (torn T old new) (λ x. Left (decode x) old new) (λ _. inr (inl refl)) (λ _. torn_left T old new))

pub cut_fate : (s w k ls : List ℕ) (T i : ℕ) → Fate s w k i (decode (cut_page s w k ls T i))
unfolding cut_page
cut_fate s w k ls T i =
    cond_both (marked k i) (chosen (letter_of ls (rank k i)) T (raw s i) (raw w i)) (raw s i) (λ x. Fate s w k i (decode x))
    (λ m. ⊎_elim inl (λ q. inr (m, q)) (chosen_left (letter_of ls (rank k i)) T (raw s i) (raw w i)))
    (λ _. inl refl)

pub cut_gains_none : (s w k s' k' ls : List ℕ) (T : ℕ) → CutTo s w k ls T s' k' → (i : ℕ) (t : State) → i < count_of s w k → Fate s' w k' i t → Fate s w k i t
cut_gains_none s w k s' k' ls T h i t lt x =
    subst (Fate s w k i) (sym (swept_fate (cut_page s w k ls T) s w k s' k' h i t lt x)) (cut_fate s w k ls T i)

-- power is lost
module _ (x y : Held) (h : Cut x y) where
  pub cut_count : count y ≡ count x
  cut_count = ap (λ v. count_of y.settled v y.marks) h.written ∙ swept_count (cut_page x.settled x.written x.marks x.letters x.kept) x.settled x.written x.marks y.settled y.marks h.pages

  pub cut_gains : (i : ℕ) (t : State) → i < count x → Fate y.settled y.written y.marks i t → Fate x.settled x.written x.marks i t
  cut_gains i t lt f = cut_gains_none x.settled x.written x.marks y.settled y.marks x.letters x.kept h.pages i t lt (subst (λ v. Fate y.settled v y.marks i t) h.written f)

  pub cut_lost : Lost (means x) (means y)
  cut_lost = record { left = record { count = cut_count; down = h.down }; fates = cut_gains }

-- page p is written with the bytes of buf
module _ (s w k buf : List ℕ) (p : ℕ) (lt : p < count_of s w k) (size : length buf ≡ 252) where
  within : (i : ℕ) → i < count_of s w k → i * 256 + 256 ≤ length w
  within i h = omega (arith, count_written s w k)

  pub store_count : count_of s (put_raw w p (sealed buf)) (set k p 1) ≡ count_of s w k
  store_count = count_same s w k s _ _ refl (length_put w (sealed buf) p (within p lt) (length_sealed buf size)) (length-set k p 1)

  here_raw : raw (put_raw w p (sealed buf)) p ≡ sealed buf
  here_raw = raw_put w (sealed buf) p (within p lt) (length_sealed buf size)

  here_marked : marked (set k p 1) p ≡ true
  unfolding marked
  here_marked = ap (λ v. not (eqb v 0)) (get_or-set_same k p 1 0 (omega (arith, count_marks s w k)))

  other_raw : (i : ℕ) → i < count_of s w k → i ≢ p → raw (put_raw w p (sealed buf)) i ≡ raw w i
  other_raw i h ne = raw_other w (sealed buf) p i (within p lt) (length_sealed buf size) ne (within i h)

  other_marked : (i : ℕ) → i ≢ p → marked (set k p 1) i ≡ marked k i
  unfolding marked
  other_marked i ne = ap (λ v. not (eqb v 0)) (get_or-set_other k p i 1 0 ne)

  pub store_shows : decode (current s (put_raw w p (sealed buf)) (set k p 1) p) ≡ bytes buf
  unfolding current
  store_shows = ap decode (cond-true (marked (set k p 1) p) (raw (put_raw w p (sealed buf)) p) (raw s p) here_marked ∙ here_raw) ∙ decode_sealed buf size

  pub store_others : (i : ℕ) → i < count_of s w k → i ≢ p → decode (current s (put_raw w p (sealed buf)) (set k p 1) i) ≡ decode (current s w k i)
  unfolding current
  store_others i h ne =
      ap (λ b. decode (cond b (raw (put_raw w p (sealed buf)) i) (raw s i))) (other_marked i ne) ∙ ap (λ v. decode (cond (marked k i) v (raw s i))) (other_raw i h ne)

  pub store_gains : (i : ℕ) (t : State) → i < count_of s w k → Fate s (put_raw w p (sealed buf)) (set k p 1) i t → Fate s w k i t ⊎ ((i ≡ p) × ((t ≡ bytes buf) ⊎ (t ≡ spoiled)))
  store_gains i t h (inl e) = inl (inl e)
  store_gains i t h (inr q) =
      ⊎_elim
      (λ (e : i ≡ p). inr (e, ⊎_elim (λ v. inl (v ∙ (ap decode (ap (raw (put_raw w p (sealed buf))) e ∙ here_raw) ∙ decode_sealed buf size))) inr q.1))
      (λ (ne : i ≡ p → ⊥). inl (inr (sym (other_marked i ne) ∙ q.0, ⊎_elim (λ v. inl (v ∙ ap decode (other_raw i h ne))) inr q.1)))
      (cases_eq i p)

module _ (x : Held) (p : ℕ) (buf : List ℕ) (lt : p < count x) (size : length buf ≡ 252) where
  pub store_done : x.running ≡ true → WriteDone (means x) p buf (means (stored x p buf))
  store_done r = record {
    passes = record { within = lt; size = size };
    running = r;
    room = inr (omega arith);
    ran = record { count = store_count x.settled x.written x.marks buf p lt size; still = r };
    here = store_shows x.settled x.written x.marks buf p lt size;
    others = store_others x.settled x.written x.marks buf p lt size;
    gains = store_gains x.settled x.written x.marks buf p lt size;
    joins = λ i f. inl f;
  }

  pub store_lost : (y : Held) → Cut (stored x p buf) y → WriteLost (means x) p buf (means y)
  store_lost y h =
      let n = store_count x.settled x.written x.marks buf p lt size in
      record {
        passes = record { within = lt; size = size };
        left = record { count = cut_count (stored x p buf) y h ∙ n; down = h.down };
        gains = λ i t q f. store_gains x.settled x.written x.marks buf p lt size i t q (cut_gains (stored x p buf) y h i t (subst (λ m. i < m) (sym n) q) f);
      }

  -- a page is shown, or spoiled
  pub show_done : x.running ≡ true → (buf' : List ℕ) → decode (current x.settled x.written x.marks p) ≡ bytes buf' → ReadDone (means x) p buf buf' (means x)
  show_done r buf' e = record { passes = record { within = lt; size = size }; running = r; value = e; same = same_self (means x) }

  pub show_spoiled : x.running ≡ true → decode (current x.settled x.written x.marks p) ≡ spoiled → ReadSpoiled (means x) p buf (means x)
  show_spoiled r e = record { passes = record { within = lt; size = size }; running = r; value = e; same = same_self (means x) }

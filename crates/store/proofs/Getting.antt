-- A get against the book.
use Rattle.std.proofs.Common.{◌≡◌, ℕ, ◌<◌, ◌≤◌, true, false, cond, ltb, List, length, Some, None, Option, sym, refl, ◌∙◌, arith}
use Rattle.std.proofs.lemmas.Bool.{cond-true, cond-false, lt-ltb, le-ltb}
use Rattle.device.specs.declared.DeviceFault.{DeviceFault}
use Rattle.device.specs.Meaning.{Meaning, Grouped}
use Rattle.device.specs.Calls.{GroupCalls}
use Rattle.device.specs.Numbers.{number}
use Rattle.keys.specs.Rule.{Rule}
use Rattle.tree.specs.Maps.{Rec}
use Rattle.tree.specs.Classes.{row_at}
use Rattle.pages.specs.Reads.{Failed}
use Rattle.access.specs.declared.lookup.Found.{Found}
use Rattle.access.specs.Seek.{seek, told, filled, letter_in}
use Rattle.store.specs.declared.kinds.Phase.{Phase}
use Rattle.store.specs.declared.kinds.Phase.TheVariants.{Stopped, Idle, Open}
use Rattle.store.specs.declared.kinds.StoreFault.TheVariants.{Device}
use Rattle.store.specs.Replies.{get, got, refused, refused_by, eleven}
use Rattle.store.specs.Book.{Book, Turns, map_at, ruled, gets, handed, refuse, stopped, answered, lost}
use Rattle.store.proofs.Images.{A, lost_by, agrees_failed}

module _ (R : Rule) (b : Book) (k buf : List ℕ) where
  -- a book that is not stopped looks the key up in its map
  ruled_get : (p : Phase) → (p ≡ Stopped → ⊥) → ruled R b p (get k) buf ≡ gets R b (map_at b p) k buf
  ruled_get Stopped up = absurd (up refl)
  ruled_get Idle up = refl
  ruled_get Open up = refl

  module _ (up : b.phase ≡ Stopped → ⊥) where
    pub not_valid : R.valid k ≡ false → Turns R b (get k) buf (refused 3 0) buf b
    not_valid v = record {
      told = answered;
      fair = tt;
      is = ruled_get b.phase up ∙ cond-false (R.valid k) (cond (ltb (length buf) 120) (refuse b 5 buf) (handed b (seek R k (map_at b b.phase)) buf)) (refuse b 3 buf) v;
    }

    valid_is : R.valid k ≡ true → ruled R b b.phase (get k) buf ≡ cond (ltb (length buf) 120) (refuse b 5 buf) (handed b (seek R k (map_at b b.phase)) buf)
    valid_is v = ruled_get b.phase up ∙ cond-true (R.valid k) (cond (ltb (length buf) 120) (refuse b 5 buf) (handed b (seek R k (map_at b b.phase)) buf)) (refuse b 3 buf) v

    pub too_short : R.valid k ≡ true → length buf < 120 → Turns R b (get k) buf (refused 5 0) buf b
    too_short v l = record {
      told = answered;
      fair = tt;
      is = valid_is v ∙ cond-true (ltb (length buf) 120) (refuse b 5 buf) (handed b (seek R k (map_at b b.phase)) buf) (lt-ltb (length buf) 120 l);
    }

    long_is : R.valid k ≡ true → 120 ≤ length buf → ruled R b b.phase (get k) buf ≡ handed b (seek R k (map_at b b.phase)) buf
    long_is v l = valid_is v ∙ cond-false (ltb (length buf) 120) (refuse b 5 buf) (handed b (seek R k (map_at b b.phase)) buf) (le-ltb (length buf) 120 l)

    handed_some : (s : Option Rec) (f : Found) (buf' : List ℕ) → Some f ≡ told s → buf' ≡ filled s buf → handed b s buf ≡ record { book = b; reply = got f.letter f.last_day f.length; buffer = buf' }
    handed_some None f buf' e h = absurd (let z : ◌≡◌ {A = ℕ} 0 1 = cc in omega arith)
    handed_some (Some x) f buf' e h =
        let q : f ≡ record { letter = letter_in (row_at x.class); last_day = x.last; length = length x.value } = cc in
        λ i. record { book = b; reply = got (sym q i).letter (sym q i).last_day (sym q i).length; buffer = sym h i }

    handed_none : (s : Option Rec) (buf' : List ℕ) → None ≡ told s → buf' ≡ filled s buf → handed b s buf ≡ record { book = b; reply = refused 16 0; buffer = buf' }
    handed_none None buf' e h = λ i. record { book = b; reply = refused 16 0; buffer = sym h i }
    handed_none (Some x) buf' e h = absurd (let z : ◌≡◌ {A = ℕ} 0 1 = cc in omega arith)

    pub is_found : R.valid k ≡ true → 120 ≤ length buf → (f : Found) (buf' : List ℕ) → Some f ≡ told (seek R k (map_at b b.phase)) → buf' ≡ filled (seek R k (map_at b b.phase)) buf
        → Turns R b (get k) buf (got f.letter f.last_day f.length) buf' b
    is_found v l f buf' e h = record { told = answered; fair = tt; is = long_is v l ∙ handed_some (seek R k (map_at b b.phase)) f buf' e h }

    pub is_absent : R.valid k ≡ true → 120 ≤ length buf → (buf' : List ℕ) → None ≡ told (seek R k (map_at b b.phase)) → buf' ≡ filled (seek R k (map_at b b.phase)) buf
        → Turns R b (get k) buf (refused 16 0) buf' b
    is_absent v l buf' e h = record { told = answered; fair = tt; is = long_is v l ∙ handed_none (seek R k (map_at b b.phase)) buf' e h }

module _ {D : Type 0} (R : Rule) (agrees : D → Type 0) (meaning : D → Meaning) (grouped : D → Grouped) where
  -- power was lost
  pub get_lost : (b : Book) (ph : Phase) (ct ch n : ℕ) (d e : D) (k buf buf' : List ℕ) (f : DeviceFault) → number f ≡ 11 → buf' ≡ buf → Failed agrees meaning grouped n d e → A R agrees meaning grouped b ph ct ch d
      → (b' : Book) × Turns R b (get k) buf (refused_by (Device f)) buf' b' × A R agrees meaning grouped b' (cond (eleven (refused_by (Device f))) Stopped ph) ct ch e × GroupCalls meaning grouped (eleven (refused_by (Device f))) d e
  get_lost b ph ct ch n d e k buf buf' f h same a s = lost_by f h
      (λ x. (b' : Book) × Turns R b (get k) buf (refused_by (Device x)) buf' b' × A R agrees meaning grouped b' (cond (eleven (refused_by (Device x))) Stopped ph) ct ch e × GroupCalls meaning grouped (eleven (refused_by (Device x))) d e) (
        stopped b b.pending,
        record { told = lost; fair = tt; is = λ i. record { book = stopped b b.pending; reply = refused 11 0; buffer = sym same i } },
        agrees_failed R agrees meaning grouped n d e b ph ct ch a s,
        a.calls,
      )

-- The calls of a disk that holds x, once past the checks of page and buffer: what each means, by how it ends.
use Rattle.std.proofs.Common.{◌≡◌, ℕ, ◌<◌, true, List, length, Option, Some, None, Ok, Err, sym, refl, ◌∙◌, subst}
use Rattle.std.specs.Option.{ok_or}
use Rattle.device.specs.declared.DeviceFault.{DeviceFault}
use Rattle.device.specs.declared.DeviceFault.TheVariants.{PageSpoiled}
use Rattle.device.specs.Meaning.{bytes, spoiled}
use Rattle.device.specs.Promises.{Read, Write, Sync, Restart}
use Rattle.device.specs.Calls.{Answer}
use Rattle.device.proofs.Faults.{eleven}
use Rattle.disk.specs.Raw.{decode}
use Rattle.disk.specs.Image.{current, Fate}
use Rattle.disk.specs.HeldSound.{held_sound}
use Rattle.disk.specs.Held.{Held, count, means, counted, stored, started, Synced, Counts}
use Rattle.disk.proofs.MeaningLaws.{start_done, sync_done, cut_lost, store_done, store_lost, show_done, show_spoiled}

-- an error that is put in the place of none is answered
pub none_given : {A : Type 0} (o : Option A) (e f : DeviceFault) → o ≡ None → Err e ≡ ok_or o f → e ≡ f
none_given None e f n h = cc
none_given (Some x) e f n h = cc

module _ (x y : Held) (p : ℕ) (buf : List ℕ) (within : p < count x) (size : length buf ≡ 252) where
  pub read_lost : (e : DeviceFault) → Counts x (Err e) y → Read (means x) p buf (Err e) buf (means y)
  read_lost e h =
      subst (λ (f : DeviceFault). Read (means x) p buf (Err f) buf (means y)) (sym (eleven e h.0))
      (refl, record { passes = record { within = within; size = size }; lost = cut_lost x y h.2 })

  module _ (t : x.running ≡ true) where
    pub read_done : Counts x (Ok tt) y → (buf' : List ℕ) → decode (current y.settled y.written y.marks p) ≡ bytes buf' → Read (means x) p buf (Ok tt) buf' (means y)
    read_done h buf' e =
        subst (λ (v : Held). decode (current v.settled v.written v.marks p) ≡ bytes buf' → Read (means x) p buf (Ok tt) buf' (means v)) (sym h.1)
        (show_done x p buf within size t buf') e

    pub read_spoiled : Counts x (Ok tt) y → decode (current y.settled y.written y.marks p) ≡ spoiled → Read (means x) p buf (Err PageSpoiled) buf (means y)
    read_spoiled h e =
        subst (λ (v : Held). decode (current v.settled v.written v.marks p) ≡ spoiled → Read (means x) p buf (Err PageSpoiled) buf (means v)) (sym h.1)
        (λ f. (refl, show_spoiled x p buf within size t f)) e

    -- the page that is then shown fills the buffer
    pub shown_fits : Counts x (Ok tt) y → (bs : List ℕ) → decode (current y.settled y.written y.marks p) ≡ bytes bs → length buf ≡ length bs
    shown_fits h bs e =
        let o = held_sound x in
        let f = subst (λ (v : Held). decode (current v.settled v.written v.marks p) ≡ bytes bs) h.1 e in
        size ∙ sym (o.sized p bs within (subst (Fate x.settled x.written x.marks p) f (o.shown_fate t p within)))

    pub write_counted : (r : Answer) → Counts (stored x p buf) r y → Write (means x) p buf r (means y)
    write_counted (Ok u) h = subst (λ (v : Held). Write (means x) p buf (Ok u) (means v)) (sym h.1) (store_done x p buf within size t)
    write_counted (Err e) h =
        subst (λ (f : DeviceFault). Write (means x) p buf (Err f) (means y)) (sym (eleven e h.0)) (store_lost x p buf within size y h.2)

module _ (x y : Held) where
  pub sync_lost : (e : DeviceFault) → Counts x (Err e) y → Sync (means x) (Err e) (means y)
  sync_lost e h = (h.0, cut_lost x y h.2)

  pub synced : (z : Held) → x.running ≡ true → Counts x (Ok tt) y → Synced y z → Sync (means x) (Ok tt) (means z)
  synced z t h s = sync_done (counted x) z t (subst (λ (v : Held). Synced v z) h.1 s)

  pub restart_lost : (e : DeviceFault) → Counts x (Err e) y → Restart (means x) (Err e) (means y)
  restart_lost e h = (h.0, cut_lost x y h.2)

  pub restarted : (z : Held) → Counts x (Ok tt) y → z ≡ started y → Restart (means x) (Ok tt) (means z)
  restarted z h s = subst (λ (v : Held). Restart (means x) (Ok tt) (means v)) (sym (subst (λ (v : Held). z ≡ started v) h.1 s)) (start_done (counted x))

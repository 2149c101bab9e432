-- A meaning and a group beside themselves: what a call leaves that changes nothing; and what two such calls leave.
use Rattle.std.proofs.Common.{◌≡◌, ℕ, false, Err, refl, ◌∙◌, arith}
use Rattle.device.specs.declared.DeviceFault.{DeviceFault}
use Rattle.device.specs.declared.DeviceFault.TheVariants.{NoSuchPage, BufferSize, PowerLost, PageSpoiled, TooManyWaiting}
use Rattle.device.specs.Meaning.{Meaning, Grouped}
use Rattle.device.specs.Promises.{Same, Lost}
use Rattle.device.specs.GroupPromises.{NoEnd, SameGroup, Leaves}

pub same_self : (m : Meaning) → Same m m
same_self m = record { count = refl; runs = refl; shown = λ i h. refl; no_more = λ i s h f. f; no_less = λ i s h f. f; waits = refl }

pub same_trans : (m n o : Meaning) → Same m n → Same n o → Same m o
same_trans m n o a b = let c = a.count in record {
  count = b.count ∙ a.count;
  runs = b.runs ∙ a.runs;
  shown = λ i h. b.shown i (omega arith) ∙ a.shown i h;
  no_more = λ i s h x. a.no_more i s h (b.no_more i s (omega arith) x);
  no_less = λ i s h x. b.no_less i s (omega arith) (a.no_less i s h x);
  waits = b.waits ∙ a.waits;
}

-- a device that is down stays as it is
pub lost_self : (m : Meaning) → m.runs ≡ false → Lost m m
lost_self m d = record { left = record { count = refl; down = d }; fates = λ i s h f. f }

pub no_end_self : (n : ℕ) (g : Grouped) → NoEnd n g g
no_end_self n g e x = (e, x, λ i h. refl)

pub same_group_self : (n : ℕ) (g : Grouped) → SameGroup n g g
same_group_self n g = record { base = λ i h. refl; no_more = no_end_self n g; no_less = no_end_self n g }

-- a refused read or write that changes nothing leaves base and ends
pub leaves_self : (m : Meaning) (g : Grouped) (e : DeviceFault) → Leaves m g (Err e) g
leaves_self m g NoSuchPage = same_group_self m.count g
leaves_self m g BufferSize = same_group_self m.count g
leaves_self m g PowerLost = no_end_self m.count g
leaves_self m g PageSpoiled = same_group_self m.count g
leaves_self m g TooManyWaiting = same_group_self m.count g

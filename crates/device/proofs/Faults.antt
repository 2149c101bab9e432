-- A refusal is told by its number.
use Rattle.std.proofs.Common.{◌≡◌, refl, arith}
use Rattle.device.specs.declared.DeviceFault.{DeviceFault}
use Rattle.device.specs.declared.DeviceFault.TheVariants.{NoSuchPage, BufferSize, PowerLost, PageSpoiled, TooManyWaiting}
use Rattle.device.specs.Numbers.{number}

pub eleven : (e : DeviceFault) → number e ≡ 11 → e ≡ PowerLost
eleven NoSuchPage h = absurd (omega arith)
eleven BufferSize h = absurd (omega arith)
eleven PowerLost h = refl
eleven PageSpoiled h = absurd (omega arith)
eleven TooManyWaiting h = absurd (omega arith)

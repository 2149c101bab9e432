-- The checks that come before any work of a read or a write, in their order: 6 the page number, 7 the buffer's length, 11 the device is down.
use Rattle.std.specs.Prelude.{◌≡◌, ℕ, ◌<◌, ◌≤◌, Bool, true, false, ◌≢◌, MatchBool, MatchResult, ◌==◌}
use Rattle.device.specs.Numbers.{number}
use Rattle.device.specs.Calls.{Answer}

-- page p and a buffer of len bytes are refused with the number k by a device of so many pages that runs, or does not
abbrev pub Refuses : ℕ → ℕ → ℕ → Bool → ℕ → Type 0
Refuses count p len runs k =
    MatchBool (k == 6) (count ≤ p)
    (MatchBool (k == 7) ((p < count) × (len ≢ 252))
    (MatchBool (k == 11) ((p < count) × (len ≡ 252) × (runs ≡ false)) ⊥))

-- the answer of the checks
abbrev pub Gate : ℕ → ℕ → ℕ → Bool → Answer → Type 0
Gate count p len runs r = MatchResult r (λ _. (p < count) × (len ≡ 252) × (runs ≡ true)) (λ e. Refuses count p len runs (number e))

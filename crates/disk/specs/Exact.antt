-- What each call of a disk does to what it holds, from x to y, answered r: exactly which calls are counted, which one is cut, and what is then left.
use Rattle.std.specs.Prelude.{◌≡◌, ℕ, Bool, true, false, ◌&&◌, List, length, MatchBool, ◌==◌, nat_lt}
use Rattle.device.specs.Calls.{Answer, lost}
use Rattle.disk.specs.Held.{Held, count, counted, stored, started, Synced, Cut}

-- A call that passes the checks of its page and its buffer, where `counts` says whether it is counted. One that is not counted is answered
-- 11, and changes nothing. A counted one is answered 11 exactly if it is the last until the cut, which then leaves the pages of z by the
-- letters; otherwise P holds.
abbrev pub Counted : Bool → Held → Held → Answer → Held → Type 0 → Type 0
Counted counts x z r y P =
    MatchBool counts (MatchBool (x.left == 1) ((lost r ≡ true) × Cut z y) ((lost r ≡ false) × P)) ((lost r ≡ true) × (y ≡ x))

-- the checks of a page and a buffer: a call that they refuse is not answered 11, and changes nothing
abbrev pub Checked : Held → ℕ → List ℕ → Answer → Held → Type 0 → Type 0
Checked x p buf r y P = MatchBool (nat_lt p (count x) && length buf == 252) P ((lost r ≡ false) × (y ≡ x))

-- a down disk refuses without counting, a restart excepted
abbrev pub ReadTo : Held → ℕ → List ℕ → Answer → Held → Type 0
ReadTo x p buf r y = Checked x p buf r y (Counted x.running x x r y (y ≡ counted x))

-- the page that is being written is cut with the others
abbrev pub WriteTo : Held → ℕ → List ℕ → Answer → Held → Type 0
WriteTo x p buf r y = Checked x p buf r y (Counted x.running x (stored x p buf) r y (y ≡ counted (stored x p buf)))

abbrev pub SyncTo : Held → Answer → Held → Type 0
SyncTo x r y = Counted x.running x x r y (Synced (counted x) y)

abbrev pub RestartTo : Held → Answer → Held → Type 0
RestartTo x r y = Counted true x x r y (y ≡ started (counted x))

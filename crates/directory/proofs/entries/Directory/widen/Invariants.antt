use Rattle.std.proofs.Common.{◌≡◌, ℕ, ◌^◌, ◌<◌, ◌≤◌}
use Rattle.directory.specs.Names.{at, widened, Beyond}
use Rattle.directory.proofs.entries.Directory.widen.Given as goal

abbrev pub invariant-loop-i : goal.invariant-loop-i
invariant-loop-i l =
    record {
      lower : (k : ℕ) → k < l.i → at l.self.entries k ≡ at l.fn.self.entries k;
      done : (k : ℕ) → l.i ≤ k → k < 2 ^ l.depth → at l.self.entries k ≡ widened l.fn.self.depth l.depth (at l.fn.self.entries) k;
      rest : Beyond l.depth (at l.fn.self.entries) (at l.self.entries);
      deep : l.self.depth ≡ l.depth;
    }

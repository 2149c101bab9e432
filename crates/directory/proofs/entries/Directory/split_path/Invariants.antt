use Rattle.std.proofs.Common.{◌≡◌, ℕ}
use Rattle.directory.specs.Names.{at}
use Rattle.directory.specs.Changes.{Splitting, WidenedTo}
use Rattle.directory.proofs.Paths.{Reached}
use Rattle.directory.proofs.entries.Directory.split_path.Given as goal

abbrev pub invariant-loop-j : goal.invariant-loop-j
invariant-loop-j l =
    record {
      deep : l.self.depth ≡ l.fn.self.depth;
      reached : (w : ℕ) (E d : ℕ → ℕ) → Splitting w l.limit l.hash l.bits l.target E d → WidenedTo w l.fn.self.depth E (at l.fn.self.entries)
          → Reached w l.fn.self.depth l.limit l.hash l.bits l.j E d (at l.self.entries);
    }

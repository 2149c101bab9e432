use Rattle.std.proofs.Common.{◌≡◌, ◌≤◌, max, sym, ◌∙◌, subst, arith}
use Rattle.std.proofs.lemmas.Result.{err_from_is_err_and}
use Rattle.directory.specs.Names.{at}
use Rattle.directory.specs.Changes.{Split, SplitTo, WidenedTo}
use Rattle.directory.proofs.Paths.{wide_from, split_used}
use Rattle.directory.proofs.entries.Directory.split.Goals as goal

pub returns-in_err-split_path-clause-split : goal.returns-in_err-split_path-clause-split
returns-in_err-split_path-clause-split c =
    let p = err_from_is_err_and c.from_residual.result c.from_residual.ensures.1 in
    rw p.1 (λ d s.
    let w = c.args.self.now.depth in
    let E = at c.args.self.now.entries in
    let F = at c.widen.new.self.entries in
    let v = c.max.result in
    let wider : w ≤ v = omega (arith, c.max.ensures) in
    let now : WidenedTo w c.widen.new.self.depth E F = subst (λ u. WidenedTo w u E F) (sym c.widen.ensures.depth) (wide_from w v E F wider s.unused c.widen.ensures.used c.widen.ensures.rest) in
    c.in_err-split_path.ensures.split w E d s now)

pub returns-clause-split : goal.returns-clause-split
returns-clause-split c d s =
    let a = c.args in
    let w = a.self.now.depth in
    let E = at a.self.now.entries in
    let G = at c.widen.new.self.entries in
    let F = at c.split_path.new.self.entries in
    let v = c.max.result in
    let widest : v ≡ max w a.target = c.max.ensures in
    let wider : w ≤ v = omega arith in
    let deep : c.widen.new.self.depth ≡ v = c.widen.ensures.depth in
    let now : WidenedTo w c.widen.new.self.depth E G = subst (λ u. WidenedTo w u E G) (sym deep) (wide_from w v E G wider s.unused c.widen.ensures.used c.widen.ensures.rest) in
    let after : c.split_path.new.self.depth ≡ v = c.split_path.ensures.depth ∙ deep in
    let r = c.in_ok-split_path.ensures.split w E d s now in
    let to = subst (λ u. SplitTo w u a.limit a.hash a.bits a.target E d F r.0) deep r.1 in
    subst (λ u. Split w u a.limit a.hash a.bits a.target E d F) (sym after)
    (record { wide = widest; depths = r.0; split = to; used = split_used w v a.limit a.hash a.bits a.target E d s wider (omega arith) (omega arith) F r.0 to widest })

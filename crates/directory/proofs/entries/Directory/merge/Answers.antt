use Rattle.std.proofs.Common.{sym, ap, ◌∙◌, subst}
use Rattle.directory.specs.Names.{at, assigned}
use Rattle.directory.specs.Changes.{Merged, NarrowedTo}
use Rattle.directory.proofs.Narrowing.{merged_from}
use Rattle.directory.proofs.entries.Directory.merge.Goals as goal

pub returns-clause-merged : goal.returns-clause-merged
returns-clause-merged c d m =
    let a = c.args in
    let w = a.self.now.depth in
    let E = at a.self.now.entries in
    let narrowed = subst (λ k. NarrowedTo k c.narrow.new.self.depth (at c.assign.new.self.entries) (at c.narrow.new.self.entries)) c.assign.ensures.depth c.narrow.ensures.narrowed in
    subst (λ u. Merged w u a.hash a.bits a.page E d (at c.clear_unused.new.self.entries)) (sym c.clear_unused.ensures.depth)
    (merged_from w c.narrow.new.self.depth a.hash a.bits a.page E (at c.assign.new.self.entries) (at c.narrow.new.self.entries) (at c.clear_unused.new.self.entries) d m
    (λ i h. c.assign.ensures.used i h ∙ ap (λ p. assigned w a.bits p a.page E i) c.prefix.ensures)
    narrowed c.clear_unused.ensures.used c.narrow.ensures.least c.clear_unused.ensures.rest)

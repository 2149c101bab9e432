use Rattle.std.proofs.Common.{ℕ, ◌+◌, ◌*◌, List, get_or, set, ap, ◌∙◌, subst, arith}
use Rattle.pages.specs.Bytes.{EntrySet}
use Rattle.pages.proofs.Envelopes.{entry_set}
use Rattle.pages.proofs.directory.set_entry.Goals as goal

pub returns : goal.returns
returns c =
    let k = c.place-k.result in
    let after = set (set c.args.page.now (3 + 2 * k) (get_or c.to_be_bytes.result 0 0)) (4 + 2 * k) (get_or c.to_be_bytes.result 1 0) in
    subst (λ j. EntrySet c.args.page.now after j c.args.value) c.place-k.ensures
    (entry_set c.args.page.now k c.args.value _ _ c.told-page (omega (arith, c.place-k.ensures))
    (ap (λ (l : List ℕ). get_or l 0 0) c.to_be_bytes.ensures ∙ omega arith) (ap (λ (l : List ℕ). get_or l 1 0) c.to_be_bytes.ensures))

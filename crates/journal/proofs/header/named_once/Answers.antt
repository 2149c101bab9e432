use Rattle.std.proofs.Common.{◌≡◌, ℕ, ◌+◌, ◌-◌, Bool, eqb, List, length, take, drop, sym, ap, ◌∙◌, rules}
use borrow.Author.Tests.{tests}
use Rattle.std.proofs.Common.{Iter}
use Rattle.std.specs.List.{list_any}
use Rattle.std.proofs.lemmas.List.{take_rest}
use Rattle.std.proofs.lemmas.Iterator.{cases_from_all, YieldsList-from_slice}
use Rattle.std.proofs.lemmas.Iterator.Consumers.{YieldsList-from_enumerate}
use Rattle.device.specs.Meaning.{has}
use Rattle.journal.proofs.Parsing.{has_any, Apart, Unlike, once_told}
use Rattle.journal.proofs.header.named_once.Goals as goal

-- what `contains` answers, of the part of the slice that is left
later : (xs : List ℕ) (i p : ℕ) (r : Bool) → r ≡ list_any (λ y. eqb y p) (take (length xs - (i + 1)) (drop (i + 1) xs)) → has p (drop (i + 1) xs) ≡ r
later xs i p r e = sym (e ∙ ap (λ (l : List ℕ). list_any (λ y. eqb y p) l) (take_rest xs (i + 1)) ∙ has_any p (drop (i + 1) xs))

pub returns : goal.returns
returns c =
    let xs = c.args.pages.now in
    let n = c.args.count in
    once_told n xs c.all.result
    (cases_from_all _ _ _ (Apart n xs) (Unlike n xs) c.all.ensures.ran (YieldsList-from_enumerate (YieldsList-from_slice xs (ap (λ (s : Iter ℕ). s.rest.now) c.enumerate.ensures.source ∙ c.iter.ensures.rest)) c.enumerate.ensures.count)
    (λ x q k. search (rules, tests, later xs x.0 x.1.now)) (λ x q k. search (rules, tests, later xs x.0 x.1.now)))

-- Entries that fit, each of a page of its own.
use Rattle.std.proofs.Common.{◌≡◌, ℕ, zero, suc, ◌<◌, List, [], ◌∷◌, length, get_or, arith}
use Rattle.std.proofs.lemmas.Bool.{both_ways}
use Rattle.device.specs.Meaning.{Distinct}
use Rattle.journal.specs.Entries.{Entry}
use Rattle.journal.specs.Waiting.{blank, pages, AllFit}
use Rattle.journal.proofs.Helds.{has_later}

pub fit_page : (n : ℕ) (es : List Entry) (j : ℕ) → j < length es → AllFit n es → (get_or es j blank).page < n
fit_page n [] j h f = absurd (omega arith)
fit_page n (e ∷ es) zero h f = f.0
fit_page n (e ∷ es) (suc j) h f = fit_page n es j (omega arith) f.2

pub fit_size : (n : ℕ) (es : List Entry) (j : ℕ) → j < length es → AllFit n es → length (get_or es j blank).bytes ≡ 252
fit_size n [] j h f = absurd (omega arith)
fit_size n (e ∷ es) zero h f = f.1
fit_size n (e ∷ es) (suc j) h f = fit_size n es j (omega arith) f.2

pub apart_pages : (es : List Entry) (i j : ℕ) → i < j → j < length es → Distinct (pages es) → (get_or es j blank).page ≡ (get_or es i blank).page → ⊥
apart_pages [] i j l h d e = omega arith
apart_pages (x ∷ es) zero zero l h d e = omega arith
apart_pages (x ∷ es) zero (suc j) l h d e = both_ways _ d.0 (has_later es x.page j (omega arith) e)
apart_pages (x ∷ es) (suc i) zero l h d e = omega arith
apart_pages (x ∷ es) (suc i) (suc j) l h d e = apart_pages es i j (omega arith) (omega arith) d.1 e

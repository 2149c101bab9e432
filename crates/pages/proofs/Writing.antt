-- One page of an image written.
use Rattle.std.proofs.Common.{◌≡◌, ◌+◌, ◌/◌, ◌%◌, sym, ap, ◌∙◌, subst, ⊎_elim, arith}
use Rattle.std.proofs.lemmas.Bool.{cases_eq}
use Rattle.pages.specs.Bytes.{entry_at, Directory}
use Rattle.pages.specs.Images.{shows, root_in}
use Rattle.pages.specs.Laws.{PageWritten, EntryWritten}

pub page_written : PageWritten
page_written n p e e' five w = record {
  root = λ ne. ap (λ s. root_in (shows s)) (w 0 (omega arith) (λ z. ne (sym z)));
  entry = λ i h ne. ap (λ s. entry_at (shows s) (i % 64)) (w (1 + i / 64) (omega arith) (λ z. ne (sym z)));
  page = λ q h ne. ap shows (w q h ne);
}

pub entry_written : EntryWritten
entry_written n k v e e' before after five small w b a s =
    let pb : shows (e (1 + k / 64)) ≡ before = ap shows b in
    let pa : shows (e' (1 + k / 64)) ≡ after = ap shows a in
    record {
      here = ap (λ p. entry_at p (k % 64)) pa ∙ s.here;
      others = λ i h ne.
          ⊎_elim
          (λ (q : i / 64 ≡ k / 64).
          let other : i % 64 ≡ k % 64 → ⊥ = λ z. ne (omega arith) in
          ap (λ j. entry_at (shows (e' (1 + j))) (i % 64)) q ∙ ap (λ p. entry_at p (i % 64)) pa ∙ s.others (i % 64) other ∙ ap (λ p. entry_at p (i % 64)) (sym pb)
          ∙ ap (λ j. entry_at (shows (e (1 + j))) (i % 64)) (sym q))
          (λ (q : i / 64 ≡ k / 64 → ⊥). ap (λ t. entry_at (shows t) (i % 64)) (w (1 + i / 64) (omega arith) (λ z. q (omega arith))))
          (cases_eq (i / 64) (k / 64));
      layout = λ j h d.
          ⊎_elim
          (λ (q : j ≡ k / 64).
          let was : Directory before = subst Directory pb (subst (λ i. Directory (shows (e (1 + i)))) q d) in
          subst (λ i. Directory (shows (e' (1 + i)))) (sym q) (subst Directory (sym pa) (s.layout was)))
          (λ (q : j ≡ k / 64 → ⊥). subst (λ t. Directory (shows t)) (sym (w (1 + j) (omega arith) (λ z. q (omega arith)))) d)
          (cases_eq j (k / 64));
    }

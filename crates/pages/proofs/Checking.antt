-- The parts of a check of an image.
use Rattle.keys.specs.Rule.{Rule}
use Rattle.std.proofs.Common.{◌≡◌, ℕ, ◌+◌, ◌*◌, ◌/◌, ◌%◌, ◌<◌, ◌≤◌, List, [], length, get_or, set, sym, ap, ◌∙◌, subst, arith, below_more}
use Rattle.std.proofs.lemmas.List.{get_or-set_same, get_or-set_other}
use Rattle.device.specs.Meaning.{State, bytes, spoiled}
use Rattle.pages.specs.declared.root.Root.{Root}
use Rattle.layout.specs.Envelope.{envelope}
use Rattle.pages.specs.Bytes.{root_body, entry_at, Directory}
use Rattle.pages.specs.Checks.{RootFits, DirectoriesRead}
use Rattle.pages.specs.Images.{shows, root_in, root, W1}
use Rattle.pages.specs.Surveys.{at}

pub root_is : (p : List ℕ) (x : Root) → p ≡ envelope (root_body x) → root_in p ≡ x
unfolding envelope root_body
root_is p x e =
    let m : (x.limit / 256) * 256 + x.limit % 256 ≡ x.limit = omega arith in
    let u : (x.used / 256) * 256 + x.used % 256 ≡ x.used = omega arith in
    let r : (x.records / 16777216) * 16777216 + (x.records / 65536 % 256) * 65536 + (x.records / 256 % 256) * 256 + x.records % 256 ≡ x.records = omega arith in
    ap root_in e ∙ (λ i. record { kind = x.kind; depth = x.depth; limit = m i; used = u i; records = r i })

root_of : (e : ℕ → State) (p : List ℕ) (x : Root) → e 0 ≡ bytes p → p ≡ envelope (root_body x) → root e ≡ x
root_of e p x h l = ap (λ s. root_in (shows s)) h ∙ root_is p x l

pub one_from : (K : Rule) (n : ℕ) (e : ℕ → State) (p : List ℕ) (x : Root) (k c : ℕ) → k ≡ K.kind → c ≡ n → e 0 ≡ bytes p → p ≡ envelope (root_body x) → RootFits x k c → W1 K n e × (root e ≡ x)
one_from K n e p x k c ek ec h l f =
    let q = root_of e p x h l in
    let b : (r : Root) → r ≡ x → (r.kind ≡ K.kind) × (r.depth ≤ 8) × (1 ≤ r.limit) × (r.limit ≤ 256) × (r.limit + 5 ≤ n) =
    λ r t. subst (λ (y : Root). (y.kind ≡ K.kind) × (y.depth ≤ 8) × (1 ≤ y.limit) × (y.limit ≤ 256) × (y.limit + 5 ≤ n)) (sym t) (f.0 ∙ ek, f.1, f.2, f.3, omega (arith, f.4, ec)) in
    let g = b (root e) q in
    (record { layout = ap shows h ∙ l ∙ ap (λ y. envelope (root_body y)) (sym q); kind = g.0; deep = g.1; least = g.2; most = g.3; room = g.4 }, q)

pub one_not : (K : Rule) (n : ℕ) (e : ℕ → State) (p : List ℕ) (x : Root) (k c : ℕ) → k ≡ K.kind → c ≡ n → e 0 ≡ bytes p → p ≡ envelope (root_body x) → (RootFits x k c → ⊥) → W1 K n e → ⊥
one_not K n e p x k c ek ec h l un w =
    un (subst (λ (y : Root). RootFits y k c) (root_of e p x h l) (w.kind ∙ sym ek, w.deep, w.least, w.most, omega (arith, w.room, ec)))

pub one_spoiled : (K : Rule) (n : ℕ) (e : ℕ → State) → e 0 ≡ spoiled → W1 K n e → ⊥
unfolding envelope
one_spoiled K n e h w =
    let z : ◌≡◌ {A = ℕ} 0 1 = ap (λ (t : List ℕ). get_or t 0 0) (ap shows (sym h) ∙ w.layout) in
    omega arith

pub one_unlike : (K : Rule) (n : ℕ) (e : ℕ → State) (p : List ℕ) → e 0 ≡ bytes p → ((x : Root) → p ≡ envelope (root_body x) → ⊥) → W1 K n e → ⊥
one_unlike K n e p h un w = un (root e) (ap shows (sym h) ∙ w.layout)

-- ---- the directory

-- the first j pages of the directory, as they were read
abbrev pub PagesRead : (ℕ → State) → ℕ → List (List ℕ) → Type 0
PagesRead e j pages = (m : ℕ) → m < j → Directory (shows (e (1 + m))) × (get_or pages m [] ≡ shows (e (1 + m)))

pub directories_more : (e : ℕ → State) (j : ℕ) (p : List ℕ) (pages : List (List ℕ)) → j < length pages → e (1 + j) ≡ bytes p → Directory p → PagesRead e j pages → PagesRead e (j + 1) (set pages j p)
directories_more e j p pages l h d inv =
    below_more (λ m. Directory (shows (e (1 + m))) × (get_or (set pages j p) m [] ≡ shows (e (1 + m)))) j
    (λ m lt. ((inv m lt).0, get_or-set_other pages j m p [] (λ z. omega arith) ∙ (inv m lt).1))
    (subst (λ s. Directory (shows s)) (sym h) d, get_or-set_same pages j p [] l ∙ ap shows (sym h))

-- and their entries
pub entries_read : (e : ℕ → State) (pages : List (List ℕ)) (entries : List ℕ) → PagesRead e 4 pages → ((i : ℕ) → i < 256 → at entries i ≡ entry_at (get_or pages (i / 64) []) (i % 64)) → DirectoriesRead e 4 entries
entries_read e pages entries r s = ((λ m h. (r m h).0), λ i h. s i (omega arith) ∙ ap (λ p. entry_at p (i % 64)) (r (i / 64) (omega arith)).1)

pub directories_not : (e : ℕ → State) (j : ℕ) (p : List ℕ) → j < 4 → e (1 + j) ≡ bytes p → (Directory p → ⊥) → ((m : ℕ) → m < 4 → Directory (shows (e (1 + m)))) → ⊥
directories_not e j p l h un d = un (subst (λ s. Directory (shows s)) h (d j l))

pub directories_spoiled : (e : ℕ → State) (j : ℕ) → j < 4 → e (1 + j) ≡ spoiled → ((m : ℕ) → m < 4 → Directory (shows (e (1 + m)))) → ⊥
unfolding envelope
directories_spoiled e j l h d =
    let q : Directory [] = subst (λ s. Directory (shows s)) h (d j l) in
    let z : ◌≡◌ {A = ℕ} 0 1 = ap (λ (t : List ℕ). get_or t 0 0) q.2 in
    omega arith

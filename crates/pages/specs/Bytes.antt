-- The bytes of pages. A page has 252 bytes, and numbers are big-endian.
use Rattle.std.specs.Prelude.{◌≡◌, ℕ, ◌+◌, ◌*◌, ◌/◌, ◌%◌, List, [], ◌∷◌, ◌++◌, length, ◌≢◌, slice_index}
use Rattle.layout.specs.Envelope.{be2, envelope}
use Rattle.pages.specs.declared.root.Root.{Root}

-- a number in four bytes
abbrev pub be4 : ℕ → List ℕ
be4 n = (n / 16777216) ∷ (n / 65536 % 256) ∷ (n / 256 % 256) ∷ (n % 256) ∷ []

-- the body of page 0: kind and depth (one byte each), the most buckets and the buckets in use (two each), the records (four)
unfoldable pub root_body : Root → List ℕ
root_body r = r.kind ∷ r.depth ∷ (be2 r.limit ++ (be2 r.used ++ be4 r.records))

-- a directory page is by layout: 64 entries of two bytes
abbrev pub Directory : List ℕ → Type 0
Directory page = (body : List ℕ) × (length body ≡ 128) × (page ≡ envelope body)

-- entry k of a directory page
abbrev pub entry_at : List ℕ → ℕ → ℕ
entry_at page k = slice_index page (3 + 2 * k) * 256 + slice_index page (4 + 2 * k)

-- entry k of a directory page was set to v
pub record EntrySet (before after : List ℕ) (k v : ℕ) : Type 0 where
  pub size : length after ≡ length before
  pub here : entry_at after k ≡ v
  pub others : (j : ℕ) → (j ≢ k) → entry_at after j ≡ entry_at before j
  pub layout : Directory before → Directory after

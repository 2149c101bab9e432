-- The image of an empty store.
use Rattle.std.specs.Prelude.{◌≡◌, ℕ, ◌<◌, cond, List, [], ◌∷◌, replicate, ◌==◌}
use Rattle.device.specs.Meaning.{State, bytes}
use Rattle.pages.specs.declared.root.Root.{Root}
use Rattle.layout.specs.Envelope.{envelope}
use Rattle.pages.specs.Bytes.{root_body}
use Rattle.pages.specs.Records.{bucket_body}

-- the numbers of its page 0
abbrev pub empty_root : ℕ → ℕ → Root
empty_root kind limit = record { kind = kind; depth = 0; limit = limit; used = 1; records = 0 }

-- the body of its page i: page 0; the directory, whose entry 0 names page 5 and whose other entries are 0; and the one bucket, page 5
abbrev pub empty_body : ℕ → ℕ → ℕ → List ℕ
empty_body kind limit i =
    cond (i == 0) (root_body (empty_root kind limit)) (cond (i == 1) (0 ∷ 5 ∷ replicate 126 0) (cond (i == 5) (bucket_body 0 []) (replicate 128 0)))

-- an image that shows the pages of an empty store
abbrev pub Empty : ℕ → ℕ → (ℕ → State) → Type 0
Empty kind limit e = (i : ℕ) → i < 6 → e i ≡ bytes (envelope (empty_body kind limit i))

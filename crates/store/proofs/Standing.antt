-- A store that is idle over a device which shows an image of its map.
use Rattle.std.proofs.Common.{◌≡◌, ℕ, ◌<◌, ◌≤◌, true, List, [], None, sym, refl, ap, ◌∙◌, subst, inl, arith}
use Rattle.std.proofs.lemmas.Bool.{false≢true}
use Rattle.device.specs.Meaning.{State, Meaning, Grouped, Alike, has}
use Rattle.keys.specs.Rule.{Rule}
use Rattle.tree.specs.Maps.{Rec}
use Rattle.pages.specs.Images.{shows}
use Rattle.pages.specs.Reads.{Ready}
use Rattle.pages.proofs.Checking.{root_is}
use Rattle.pages.proofs.Emptied.{empty_formed}
use Rattle.access.specs.Moves.{Made}
use Rattle.store.specs.declared.kinds.Phase.TheVariants.{Idle}
use Rattle.store.specs.Book.{Book, opened}
use Rattle.store.specs.Agree.{Keeps}
use Rattle.store.specs.Clauses.{most}
use Rattle.store.proofs.Images.{A, alike_back, keeps_alike}

-- a book that is idle, with nothing pending
abbrev pub idle : List Rec → List Rec → ℕ → ℕ → ℕ → Book
idle known working changes counter limit = record { phase = Idle; known = known; working = working; changes = changes; counter = counter; limit = limit; pending = None }

module _ {D : Type 0} (R : Rule) (agrees : D → Type 0) (meaning : D → Meaning) (grouped : D → Grouped) where
  none_wait : (ws : List ℕ) (i : ℕ) → ws ≡ [] → has i ws ≡ true → ⊥
  none_wait ws i e w = false≢true (ap (has i) (sym e) ∙ w)

  -- the device e, which has n pages and runs with no page waiting, shows the image x and has it as its base
  pub idle_over : (n limit ct ch ct' ch' : ℕ) (v wk : List Rec) (x : ℕ → State) (e : D) → ct ≡ ct' → ch ≡ ch' → Ready agrees meaning grouped e → 6 ≤ n → (meaning e).count ≡ n
      → Alike n (meaning e).shown x → Alike n (grouped e).base (meaning e).shown → (meaning e).waits ≡ [] → Keeps R n limit x v → A R agrees meaning grouped (idle v wk ch' ct' limit) Idle ct ch e
  idle_over n limit ct ch ct' ch' v wk x e ec eh r six c shown base waits k =
      let p : 0 < n = omega arith in
      let ks : Keeps R n limit (meaning e).shown v = keeps_alike R n limit x (meaning e).shown v p (alike_back shown) k in
      let kb : Keeps R n limit (grouped e).base v = keeps_alike R n limit (meaning e).shown (grouped e).base v p (alike_back base) ks in
      let back : (f : ℕ → State) → Keeps R n limit f v → Keeps R (meaning e).count limit f v = λ f q. subst (λ j. Keeps R j limit f v) (sym c) q in
      record {
        below = r.below;
        group = r.group;
        pages = subst (λ j. 6 ≤ j) (sym c) six;
        phases = refl;
        counters = ec;
        counted = eh;
        ends = λ f w. inl (keeps_alike R (meaning e).count limit (grouped e).base f v (subst (λ j. 0 < j) (sym c) p) (alike_back (r.group.only_end r.runs f w)) (back (grouped e).base kb));
        state = record {
          runs = r.runs;
          base = back (grouped e).base kb;
          shown = back (meaning e).shown ks;
          settled = refl;
          few = ([], omega arith, λ i w. absurd (none_wait (meaning e).waits i waits w));
        };
      }

  -- an empty store was made
  pub made_idle : (n limit ct : ℕ) (d e : D) → n ≡ (meaning d).count → limit ≡ most n → 6 ≤ n → Made agrees meaning grouped R.kind limit d e → A R agrees meaning grouped (opened [] (most (meaning d).count) ct 0) Idle ct 0 e
  made_idle n limit ct d e en el six m =
      let l : limit ≡ most (meaning d).count = el ∙ ap most en in
      let six' : 6 ≤ (meaning d).count = subst (λ j. 6 ≤ j) en six in
      let k : Keeps R (meaning d).count (most (meaning d).count) (meaning e).shown [] = record {
        formed = empty_formed R (meaning d).count limit (meaning e).shown (omega (arith, el, six)) (omega (arith, el, six)) (omega (arith, l, six')) m.empty;
        limits = ap (λ y. y.limit) (root_is (shows ((meaning e).shown 0)) _ (ap shows (m.empty 0 (omega arith)))) ∙ l;
      } in
      idle_over (meaning d).count (most (meaning d).count) ct 0 ct 0 [] [] (meaning e).shown e refl refl m.ready six' m.count (λ i h. refl) m.base m.waits k

-- What is due behind siblings is counted by their pieces: all of them, since there are None where the test does not look. Assumes nothing.
use Prim.Native.Nat.{ℕ, suc, ◌+◌, ◌-◌, ◌≤◌}
use native.Mathlib.Omega.{arith}
use mathlib.Core.Path.{◌≡◌, refl, sym, ap, subst, ◌∙◌}
use mathlib.Core.Bool.{Bool, true, false, cond}
use mathlib.Core.Logic.{◌⊎◌, inl, inr}
use mathlib.Core.List.Memᴰ.{append_cases}
use mathlib.Core.List.Memᴰ.{append_left}
use mathlib.Core.List.Memᴰ.{append_right}
use mathlib.Core.List.Memᴰ.{not-nil}
use mathlib.Core.List.{List, [], ◌∷◌, ◌++◌, Memᴰ as Mem}
use Rattle.std.specs.Prelude.{Option, None, Some}
use lib.ListN.{length, length-append}
use lib.Dec.{leb}
use borrow.Author.Tests.{le-leb}
use Rattle.definitions.specs.Location.{Location}
use Rattle.definitions.specs.Blocks.{Piece}
use Rattle.definitions.proofs.Views.{Le, le}
use Rattle.trie.specs.Trie.{Lists, Forest, leaf, more, pieces_here, forest_pieces}
use Rattle.trie.specs.Test.{is_nil}
use Rattle.trie.proofs.Pieces.{here_mem, mem_here}
use Rattle.image_conflicts.specs.Due.{lives_inside, all_clear, chunks_due, then_due, forest_due}
use Rattle.image_conflicts.proofs.Inside.{all_clear_is}
use Rattle.image_conflicts.proofs.Carried.{NoChunks, Carried}

no_pieces : (front : List ℕ) (f : Forest) → NoChunks f → forest_pieces front f ≡ []
no_pieces front leaf z = refl
no_pieces front (more b h below behind) z =
    rw (z.0, no_pieces (front ++ (b ∷ [])) below z.1, no_pieces front behind z.2) refl

length_here : (path : List ℕ) (ls : List Location) → length (pieces_here path ls) ≡ length ls
length_here path [] = refl
length_here path (l ∷ ls) = ap suc (length_here path ls)

-- ── one step behind another ──

record Then (o : Option ℕ) (f : ℕ → Option ℕ) (k : ℕ) : Type 0 where
  between : ℕ
  first : o ≡ Some between
  second : f between ≡ Some k

then_is : (o : Option ℕ) (f : ℕ → Option ℕ) (k : ℕ) → then_due o f ≡ Some k → Then o f k
then_is None f k e = absurd (let z : ◌≡◌ {A = ℕ} 0 1 = cc in omega arith)
then_is (Some j) f k e = record { between = j; first = refl; second = e }

is_then : (o : Option ℕ) (f : ℕ → Option ℕ) (j k : ℕ) → o ≡ Some j → f j ≡ Some k → then_due o f ≡ Some k
is_then o f j k e g = ap (λ (x : Option ℕ). then_due x f) e ∙ g

module _ (at : ℕ → Location) (n : ℕ) where
  -- so many are due, and as many are left behind pieces that are all clear
  pub record Counted (ps : List Piece) (due k : ℕ) : Type 0 where
    pub count : due ≡ length ps + k
    pub clear : (p : Piece) → Mem p ps → lives_inside at n (length p.bytes) p.at ≡ false

  counted_none : (k : ℕ) → Counted [] k k
  counted_none k = record { count = omega arith; clear = λ p m. absurd (not-nil m) }

  counted_append : (ps rs : List Piece) (due j k : ℕ) → Counted ps due j → Counted rs j k → Counted (ps ++ rs) due k
  counted_append ps rs due j k a b = record { count = omega (arith, a.count, b.count, length-append ps rs); clear = λ p m. go p (append_cases ps m) }
    where
      go : (p : Piece) → Mem p ps ⊎ Mem p rs → lives_inside at n (length p.bytes) p.at ≡ false
      go p (inl m) = a.clear p m
      go p (inr m) = b.clear p m

  -- the pieces of both lists, as many left between them as the second has and are left behind
  append_counted : (ps rs : List Piece) (due k : ℕ) → Counted (ps ++ rs) due k → Counted ps due (length rs + k) × Counted rs (length rs + k) k
  append_counted ps rs due k c = (record { count = omega (arith, c.count, length-append ps rs); clear = λ p m. c.clear p (append_left rs m) }, record { count = refl; clear = λ p m. c.clear p (append_right ps m) })

  -- ── the chunks of a node ──

  module _ (path : List ℕ) (ls : List Location) where
    here_counted : (due k : ℕ) → chunks_due at n (length path) ls due ≡ Some k → Counted (pieces_here path ls) due k
    unfolding chunks_due
    here_counted due k e = go (leb (length ls) due) (le (length ls) due) (all_clear at n (length path) ls) refl e
      where
        clear : all_clear at n (length path) ls ≡ true → (p : Piece) → Mem p (pieces_here path ls) → lives_inside at n (length p.bytes) p.at ≡ false
        clear z p m =
            let w = here_mem path ls m in
            subst (λ (x : List ℕ). lives_inside at n (length x) p.at ≡ false) (sym w.0) ((all_clear_is n at (length path) ls).0 z p.at w.1)

        go : (o : Bool) → Le o (length ls) due → (u : Bool) → all_clear at n (length path) ls ≡ u → cond o (cond u (Some (due - length ls)) None) None ≡ Some k → Counted (pieces_here path ls) due k
        go true h true z f = let q : due - length ls ≡ k = cc in record { count = omega (arith, length_here path ls); clear = clear z }
        go true h false z f = absurd (let q : ◌≡◌ {A = ℕ} 0 1 = cc in omega arith)
        go false h u z f = absurd (let q : ◌≡◌ {A = ℕ} 0 1 = cc in omega arith)

    counted_here : (due k : ℕ) → Counted (pieces_here path ls) due k → chunks_due at n (length path) ls due ≡ Some k
    unfolding chunks_due
    counted_here due k c =
        let h : length ls ≤ due = omega (arith, c.count, length_here path ls) in
        let q : due - length ls ≡ k = omega (arith, c.count, length_here path ls) in
        rw (le-leb (length ls) due h, clear, q) refl
      where
        clear : all_clear at n (length path) ls ≡ true
        clear = (all_clear_is n at (length path) ls).1 (λ l m. c.clear (record { bytes = path; at = l }) (mem_here path ls refl m))

  -- ── siblings ──

  -- what is due behind those below a node, as far as the test looks
  abbrev below_due : (m : ℕ) → Lists → Forest → ℕ → Option ℕ
  below_due m h below k = cond (is_nil h.suffixes) (Some k) (forest_due at n m below k)

  module _ (path : List ℕ) (m : ℕ) (h : Lists) (below : Forest) (r : h.suffixes ≡ [] → NoChunks below) where
    below_counted : ((due k : ℕ) → forest_due at n m below due ≡ Some k → Counted (forest_pieces path below) due k) → (due k : ℕ) → below_due m h below due ≡ Some k → Counted (forest_pieces path below) due k
    below_counted ih due k e = go h.suffixes refl e
      where
        go : (ls : List Location) → h.suffixes ≡ ls → cond (is_nil ls) (Some due) (forest_due at n m below due) ≡ Some k → Counted (forest_pieces path below) due k
        go [] z f =
            let y : due ≡ k = cc in
            subst (λ (ps : List Piece). Counted ps due k) (sym (no_pieces path below (r z))) (subst (Counted [] due) y (counted_none due))
        go (l ∷ ls) z f = ih due k f

    counted_below : ((due k : ℕ) → Counted (forest_pieces path below) due k → forest_due at n m below due ≡ Some k) → (due k : ℕ) → Counted (forest_pieces path below) due k → below_due m h below due ≡ Some k
    counted_below ih due k c = go h.suffixes refl
      where
        go : (ls : List Location) → h.suffixes ≡ ls → cond (is_nil ls) (Some due) (forest_due at n m below due) ≡ Some k
        go [] z =
            let y : due ≡ k = omega (arith, c.count, ap length (no_pieces path below (r z))) in
            ap (λ (x : ℕ). Some x) y
        go (l ∷ ls) z = ih due k c

  -- a path's length behind one byte more
  longer : (front : List ℕ) (b m : ℕ) → m ≡ length front + 1 → m ≡ length (front ++ (b ∷ []))
  longer front b m q = q ∙ sym (length-append front (b ∷ []))

  pub due_counted : (front : List ℕ) (m : ℕ) → m ≡ length front + 1 → (f : Forest) → Carried f → (due k : ℕ) → forest_due at n m f due ≡ Some k → Counted (forest_pieces front f) due k
  unfolding forest_due
  due_counted front m q leaf r due k e = let z : due ≡ k = cc in subst (Counted [] due) z (counted_none due)
  due_counted front m q (more b h below behind) r due k e =
      let next : List ℕ = front ++ (b ∷ []) in
      let o : m ≡ length next = longer front b m q in
      let x : Then (then_due (chunks_due at n m h.chunks due) (below_due (m + 1) h below)) (forest_due at n m behind) k = then_is _ _ k e in
      let y : Then (chunks_due at n m h.chunks due) (below_due (m + 1) h below) x.between = then_is _ _ x.between x.first in
      let z : m + 1 ≡ length next + 1 = omega arith in
      counted_append (pieces_here next h.chunks ++ forest_pieces next below) (forest_pieces front behind) due x.between k
      (counted_append (pieces_here next h.chunks) (forest_pieces next below) due y.between x.between
      (here_counted next h.chunks due y.between (subst (λ (d : ℕ). chunks_due at n d h.chunks due ≡ Some y.between) o y.first))
      (below_counted next (m + 1) h below r.0 (due_counted next (m + 1) z below r.1) y.between x.between y.second))
      (due_counted front m q behind r.2 x.between k x.second)

  pub counted_due : (front : List ℕ) (m : ℕ) → m ≡ length front + 1 → (f : Forest) → Carried f → (due k : ℕ) → Counted (forest_pieces front f) due k → forest_due at n m f due ≡ Some k
  unfolding forest_due
  counted_due front m q leaf r due k c = let z : due ≡ k = omega (arith, c.count) in ap (λ (x : ℕ). Some x) z
  counted_due front m q (more b h below behind) r due k c =
      let next : List ℕ = front ++ (b ∷ []) in
      let o : length next ≡ m = sym (longer front b m q) in
      let z : m + 1 ≡ length next + 1 = omega arith in
      let j : ℕ = length (forest_pieces front behind) + k in
      let i : ℕ = length (forest_pieces next below) + j in
      let x = append_counted (pieces_here next h.chunks ++ forest_pieces next below) (forest_pieces front behind) due k c in
      let y = append_counted (pieces_here next h.chunks) (forest_pieces next below) due j x.0 in
      is_then (then_due (chunks_due at n m h.chunks due) (below_due (m + 1) h below)) (forest_due at n m behind) j k
      (is_then (chunks_due at n m h.chunks due) (below_due (m + 1) h below) i j
      (subst (λ (d : ℕ). chunks_due at n d h.chunks due ≡ Some i) o (counted_here next h.chunks due i y.0))
      (counted_below next (m + 1) h below r.0 (counted_due next (m + 1) z below r.1) i j y.1))
      (counted_due front m q behind r.2 j k x.1)

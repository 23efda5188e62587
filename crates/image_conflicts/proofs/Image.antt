-- An image that meets the index rule is free of conflicts exactly if its chunks are clear against the root's suffixes, and the test says so.
-- Assumes nothing.
use Prim.Native.Nat.{ℕ, ◌+◌, ◌-◌, ◌<◌}
use native.Mathlib.Omega.{arith}
use mathlib.Core.Path.{◌≡◌, refl, sym, ap, subst}
use mathlib.Core.Bool.{true, false, ◌&&◌}
use mathlib.Core.Logic.{◌⊎◌, inl, inr, ◌↔◌}
use mathlib.Core.List.Memᴰ.{append_cases}
use mathlib.Core.List.Memᴰ.{append_right}
use mathlib.Core.List.{List, [], ◌∷◌, Memᴰ as Mem}
use Rattle.std.specs.Prelude.{Option, None, Some, is_some}
use lib.ListN.{length}
use Rattle.definitions.specs.Location.{Location, meets}
use Rattle.definitions.specs.Blocks.{Piece}
use Rattle.definitions.specs.Conflicts.{conflicting, free}
use Rattle.definitions.proofs.Tests.{and_left, and_right, and_true, is_false, not_both, same_test}
use Rattle.definitions.proofs.Sharing.{shares_facts}
use Rattle.definitions.proofs.Free.{Free, free_is, free_append, append_free}
use Rattle.conflicts.specs.Lined.{in_line, Ahead, Lined}
use Rattle.conflicts.specs.Order.{nowhere, loc}
use Rattle.conflicts.specs.Promises.{PieceAt, Locations, ClearImage}
use Rattle.conflicts.proofs.Line.{in_line_is}
use Rattle.conflicts.proofs.Numbers.{at_member}
use Rattle.conflicts.proofs.Images.{no_fewer, locations_free}
use Rattle.trie.specs.Trie.{Node, root, pieces_here, trie_pieces}
use Rattle.trie.specs.Rule.{Has, OwedSuffix, NodeRule}
use Rattle.trie.specs.Test.{node_right, fronts_within, forest_right, siblings}
use Rattle.trie.proofs.Pieces.{here_mem, forest_stands, pieces_has}
use Rattle.trie.proofs.Test.{rule_test_is}
use Rattle.image_conflicts.specs.Due.{AllEnding, forest_due, conflict_free}
use Rattle.image_conflicts.specs.Promises.{filled_pieces, RootSuffixes, ImageFree, ConflictFreeIs}
use Rattle.image_conflicts.proofs.Inside.{none_inside}
use Rattle.image_conflicts.proofs.Carried.{Carried, right_ending, right_carried}
use Rattle.image_conflicts.proofs.Counted.{Counted, due_counted, counted_due}

-- a line is one by any function with the same values
same_lined : (n : ℕ) (f g : ℕ → Location) → ((i : ℕ) → i < n → f i ≡ g i) → Lined n f → Lined n g
same_lined n f g e s = record {
  ahead = λ i j h k. subst (λ (l : Location). Ahead l (g j)) (e i (omega arith)) (subst (Ahead (f i)) (e j k) (s.ahead i j h k));
  alive = λ i h. subst (λ (l : Location). l.created < l.destroyed) (e i h) (s.alive i h);
}

-- so many were left
record Left (o : Option ℕ) : Type 0 where
  left : ℕ
  is : o ≡ Some left

left_is : (o : Option ℕ) → is_some o ≡ true → Left o
left_is None e = absurd (not_both refl e)
left_is (Some k) e = record { left = k; is = refl }

module _ (n : Node) (r : NodeRule n) where
  -- ── the root's suffixes ──

  has_bytes : (p : Piece) → Mem p (filled_pieces n) → 0 < length p.bytes
  has_bytes p m = omega (arith, ap length (forest_stands p [] n.children r.apart m).holds.0)

  has : (p : Piece) → Mem p (filled_pieces n) → Has n p.bytes p.at
  has p m = (pieces_has n r.apart p).0 (append_right (pieces_here [] n.lists.chunks) m)

  suffixes : Locations (filled_pieces n) n.lists.suffixes
  suffixes = record {
    sorted = (r.sorted []).suffixes;
    to = λ p m. (r.suffixes [] p.at).1 (record { bytes = p.bytes; has = has p m; rest = p.bytes; on = refl; above = has_bytes p m });
    fro = λ l m. piece l ((r.suffixes [] l).0 m);
    some = has_bytes;
    alive = λ p m. (r.passes p.bytes p.at (has p m)).alive;
  }
    where
      piece : (l : Location) → OwedSuffix n [] l → PieceAt (filled_pieces n) l
      piece l o = go (append_cases (pieces_here [] n.lists.chunks) ((pieces_has n r.apart (record { bytes = o.bytes; at = l })).1 o.has))
        where
          go : Mem (record { bytes = o.bytes; at = l }) (pieces_here [] n.lists.chunks) ⊎ Mem (record { bytes = o.bytes; at = l }) (filled_pieces n) → PieceAt (filled_pieces n) l
          go (inl k) = absurd (omega (arith, ap length (here_mem [] n.lists.chunks k).0, ap length o.on, o.above))
          go (inr k) = record { piece = record { bytes = o.bytes; at = l }; listed = k; is = refl }

  -- ── pieces with no byte conflict with nothing ──

  filled_free : (free (trie_pieces (root n)) ≡ true) ↔ (free (filled_pieces n) ≡ true)
  filled_free = (
    (λ e. (free_is (filled_pieces n)).1 (append_free (pieces_here [] n.lists.chunks) (filled_pieces n) ((free_is (trie_pieces (root n))).0 e)).second),
    λ e. (free_is (trie_pieces (root n))).1 (free_append (pieces_here [] n.lists.chunks) (filled_pieces n) (record {
      first = empties n.lists.chunks;
      second = (free_is (filled_pieces n)).0 e;
      between = λ p q m k. never p q (here_mem [] n.lists.chunks m).0;
    })),
  )
    where
      never : (p q : Piece) → p.bytes ≡ [] → conflicting p q ≡ false
      never p q e = is_false (conflicting p q) (λ h. omega (arith, (shares_facts p q h).low, ap length e))

      empties : (ls : List Location) → Free (pieces_here [] ls)
      empties [] = tt
      empties (l ∷ ls) = ((λ q m. never (record { bytes = []; at = l }) q refl), empties ls)

  clear_is : (free (trie_pieces (root n)) ≡ true) ↔ ClearImage (filled_pieces n) n.lists.suffixes
  clear_is =
      let c = locations_free (filled_pieces n) n.lists.suffixes suffixes in
      ((λ e. c.0 (filled_free.0 e)), λ x. filled_free.1 (c.1 x))

  -- ── what the test of the rule tells ──

  below_right : forest_right (siblings n.children) 1 n.children ≡ true
  below_right =
      and_right (fronts_within (siblings n.children) n.children) (forest_right (siblings n.children) 1 n.children)
      (and_right (node_right 0 n.lists n.children) (fronts_within (siblings n.children) n.children && forest_right (siblings n.children) 1 n.children) ((rule_test_is n r.short r.apart).1 r))

  pub all_ending : AllEnding 1 n.children
  all_ending = right_ending (siblings n.children) 1 n.children below_right

  carried : Carried n.children
  carried = right_carried (siblings n.children) 1 n.children below_right

  -- ── the test of conflicts, on a numbering of the root's suffixes ──

  abbrev all : List Location
  all = n.lists.suffixes

  abbrev count : ℕ
  count = length n.lists.suffixes

  module _ (at : ℕ → Location) (num : (i : ℕ) → i < count → at i ≡ loc all i) where
    pub all_alive : (i : ℕ) → i < count → (at i).created < (at i).destroyed
    all_alive i h = subst (λ (l : Location). l.created < l.destroyed) (sym (num i h)) (go (suffixes.fro (loc all i) (at_member all nowhere i h)))
      where
        go : PieceAt (filled_pieces n) (loc all i) → (loc all i).created < (loc all i).destroyed
        go p = subst (λ (l : Location). l.created < l.destroyed) p.is (suffixes.alive p.piece p.listed)

    test_clear : conflict_free at count n.children ≡ true → ClearImage (filled_pieces n) all
    unfolding conflict_free
    test_clear e = go (left_is (forest_due at count 1 n.children count) (and_right (in_line at (count - 1)) (is_some (forest_due at count 1 n.children count)) e))
      where
        line : Lined count at
        line = (in_line_is count at all_alive).0 (and_left (in_line at (count - 1)) (is_some (forest_due at count 1 n.children count)) e)

        go : Left (forest_due at count 1 n.children count) → ClearImage (filled_pieces n) all
        go x = record {
          count = omega (arith, c.count, no_fewer (filled_pieces n) all suffixes);
          lined = same_lined count at (loc all) num line;
          inside = λ p m i h a b. subst (λ (l : Location). meets p.at l ≡ false) (num i h) ((none_inside count at line (length p.bytes) p.at).0 (c.clear p m) i h (subst (λ (l : Location). p.at.address < l.address) (sym (num i h)) a) (subst (λ (l : Location). l.address < p.at.address + length p.bytes) (sym (num i h)) b));
        }
          where
            c : Counted at count (filled_pieces n) count x.left
            c = due_counted at count [] 1 refl n.children carried count x.left x.is

    clear_test : ClearImage (filled_pieces n) all → conflict_free at count n.children ≡ true
    unfolding conflict_free
    clear_test x = and_true ((in_line_is count at all_alive).1 line) (ap is_some (counted_due at count [] 1 refl n.children carried count 0 c))
      where
        line : Lined count at
        line = same_lined count (loc all) at (λ i h. sym (num i h)) x.lined

        c : Counted at count (filled_pieces n) count 0
        c = record {
          count = omega (arith, x.count);
          clear = λ p m. (none_inside count at line (length p.bytes) p.at).1 (λ i h a b.
              subst (λ (l : Location). meets p.at l ≡ false) (sym (num i h)) (x.inside p m i h (subst (λ (l : Location). p.at.address < l.address) (num i h) a) (subst (λ (l : Location). l.address < p.at.address + length p.bytes) (num i h) b)));
        }

    told : conflict_free at count n.children ≡ free (trie_pieces (root n))
    told = same_test (conflict_free at count n.children) (free (trie_pieces (root n))) (λ e. clear_is.1 (test_clear e)) (λ e. clear_test (clear_is.0 e))

pub root_suffixes : RootSuffixes
root_suffixes n r = suffixes n r

pub image_free : ImageFree
image_free n r = clear_is n r

pub conflict_free_is : ConflictFreeIs
conflict_free_is n r at num = told n r at num

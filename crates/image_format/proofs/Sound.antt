-- A child that was read, and the entries of a table of kind 3 or 2 as children. Assumes nothing.
use Prim.Native.Nat.{◌*◌, ◌+◌, ◌<◌, suc, zero, ℕ}
use native.Mathlib.Omega.{arith}
use mathlib.Core.List.{List, ◌++◌}
use mathlib.Core.Path.{◌∙◌, ◌≡◌, ap, refl}
use lib.ListN.{length}
use Rattle.definitions.specs.Location.{locations_in}
use Rattle.definitions.proofs.Locations.{length_locations}
use Rattle.words.specs.Words.{le64}
use Rattle.words.specs.Holding.{Holds}
use Rattle.words.proofs.Holding.{holds_append, holds_at}
use Rattle.trie.specs.Trie.{Forest, Node, more}
use Rattle.image_format.proofs.ByByte.{Bytes}
use Rattle.image_format.proofs.BytesRead.{list_read}
use Rattle.image_format.proofs.Holding.{list_length}
use Rattle.image_format.proofs.KindThree.{BytesAt}
use Rattle.image_format.proofs.ReadBack.{Limits}
use Rattle.image_format.specs.Held.{forest_by, list_end, lists_in, sparse_entries}
use Rattle.image_format.specs.Image.{as_child, children_of, list_bytes, lists_bytes, lists_size, node_bytes, node_size}
use Rattle.image_format.specs.Savable.{AllBytes}

-- a child that was read from x to next, of the trie t
pub record Sound (s : List ℕ) (d x next : ℕ) (t : Node) : Type 0 where
  pub holds : Holds s x (node_bytes x t.lists (children_of t.children))
  pub ends : next ≡ x + node_size t.lists (children_of t.children)
  pub grow : (b : ℕ) (later : Forest) → b < 256 → Limits d later → Limits d (more b t.lists t.children later)
  pub sized : (y : ℕ) → length (node_bytes y t.lists (children_of t.children)) ≡ node_size t.lists (children_of t.children)

module _ (s : List ℕ) (T : ℕ → Node) where
  pub sparse_length : (base m j : ℕ) → length (children_of (forest_by T (sparse_entries s base m j))) ≡ m
  unfolding forest_by sparse_entries children_of
  sparse_length base zero j = refl
  sparse_length base (suc m) j = ap suc (sparse_length base m (j + 1))

  pub sparse_bytes : (base m j : ℕ) → BytesAt s base j (children_of (forest_by T (sparse_entries s base m j)))
  unfolding forest_by sparse_entries children_of as_child BytesAt
  sparse_bytes base zero j = tt
  sparse_bytes base (suc m) j = (refl, sparse_bytes base m (j + 1))

pub sparse_small : (s : List ℕ) (T : ℕ → Node) → AllBytes s → (base m j : ℕ) → Bytes (children_of (forest_by T (sparse_entries s base m j)))
unfolding forest_by sparse_entries children_of as_child Bytes
sparse_small s T all base zero j = tt
sparse_small s T all base (suc m) j = (all (base + j * 9), sparse_small s T all base m (j + 1))

-- a node's lists stand behind its kind
pub lists_back : (s : List ℕ) → AllBytes s → (at : ℕ) → Holds s (at + 1) (lists_bytes (lists_in s at)) × (list_end s (list_end s (list_end s (at + 1))) ≡ at + 1 + lists_size (lists_in s at))
unfolding lists_bytes lists_size lists_in
lists_back s all at =
    let a1 = at + 1 in
    let a2 = list_end s a1 in
    let a3 = list_end s a2 in
    let p = locations_in s (le64 s a1) (a1 + 8) in
    let c = locations_in s (le64 s a2) (a2 + 8) in
    let u = locations_in s (le64 s a3) (a3 + 8) in
    let lp = length_locations (le64 s a1) s (a1 + 8) in
    let lc = length_locations (le64 s a2) s (a2 + 8) in
    let lu = length_locations (le64 s a3) s (a3 + 8) in (
      holds_append s a1 (8 + 24 * le64 s a1) (list_bytes p) (list_bytes c ++ list_bytes u) (list_length p ∙ ap (λ (n : ℕ). 8 + 24 * n) lp) (one_list a1)
          (holds_at s a2 (a1 + (8 + 24 * le64 s a1)) (list_bytes c ++ list_bytes u) (omega arith)
          (holds_append s a2 (8 + 24 * le64 s a2) (list_bytes c) (list_bytes u) (list_length c ∙ ap (λ (n : ℕ). 8 + 24 * n) lc) (one_list a2)
          (holds_at s a3 (a2 + (8 + 24 * le64 s a2)) (list_bytes u) (omega arith) (one_list a3)))),
      omega (arith, lp, lc, lu),
    )
  where
    one_list : (x : ℕ) → Holds s x (list_bytes (locations_in s (le64 s x) (x + 8)))
    one_list x = list_read s x all

-- Where T(j) was collected its places ascend, each once, and are those of the definitions. Assumes nothing.
use Prim.Native.Nat.{ℕ, zero, suc, ◌+◌, ◌≤◌, ◌<◌}
use native.Mathlib.Omega.{arith}
use mathlib.Core.Path.{◌≡◌, refl, sym, ap, ◌∙◌, subst}
use mathlib.Core.Logic.{◌↔◌}
use mathlib.Core.List.{List, [], ◌∷◌, Memᴰ}
use lib.ListN.{length, get_or, drop}
use lib.Dec.{eqb}
use Rattle.definitions.specs.Location.{Location, Less, Sorted}
use Rattle.definitions.specs.Places.{T, first_of, table}
use Rattle.definitions.proofs.Order.{sorted_normal}
use Rattle.definitions.proofs.Promised.{table_is_T}
use Rattle.trie.specs.Trie.{Node, root, trie_pieces}
use Rattle.trie.specs.Rule.{NodeRule}
use Rattle.trie.specs.Find.{ends_found, table_found}
use Rattle.trie.proofs.Find.{table_found_is}
use Rattle.node_joining.specs.Found.{along_from, table_from}
use Rattle.node_joining.specs.Layout.{LaidOut}
use Rattle.node_joining.proofs.Stages.{table_step}
use Rattle.searching.specs.Promises.{laid_at, StandsSorted}

-- ── T(j) in the table ──

nth_end : (n : Node) (q : List ℕ) (j : ℕ) → first_of (ends_found n (drop j q)) ≡ get_or (ends_found n q) j []
nth_end n [] zero = refl
nth_end n [] (suc j) = refl
nth_end n (b ∷ q) zero = refl
nth_end n (b ∷ q) (suc j) = nth_end n q j

nth_place : (n : Node) (q : List ℕ) (j : ℕ) → j < length q → first_of (table_from n q j) ≡ get_or (table_found (root n) q) j []
nth_place n [] j h = absurd (omega arith)
nth_place n (b ∷ q) zero h = refl
nth_place n (b ∷ q) (suc j) h = nth_end n q j

-- ── in scratch ──

module _ (n : Node) (q : List ℕ) (i : ℕ) (ends s : List ℕ) (d : LaidOut n q i ends s) (j : ℕ) (from : i ≤ j) (to : j < length q) (kept : 0 < j → j + 1 < length q) where
  stands : laid_at ends s j ≡ first_of (table_from n q j)
  stands = (d.part j from to kept).places

  ascends : Sorted Less (laid_at ends s j)
  ascends = subst (Sorted Less) (sym (stands ∙ ap first_of (table_step n q j to))) (sorted_normal (along_from (eqb j 0) n (drop j q)))

  is_t : NodeRule n → (x : Location) → Memᴰ x (laid_at ends s j) ↔ T (trie_pieces (root n)) q j x
  is_t r x =
      let e : laid_at ends s j ≡ get_or (table (trie_pieces (root n)) q) j [] =
      stands ∙ nth_place n q j to ∙ ap (λ (ts : List (List Location)). get_or ts j []) (table_found_is (root n) r q) in
      subst (λ (ls : List Location). Memᴰ x ls ↔ T (trie_pieces (root n)) q j x) (sym e) (table_is_T (trie_pieces (root n)) q j to x)

pub stands_sorted : StandsSorted
stands_sorted n q i ends s d j from to kept = record { sorted = ascends n q i ends s d j from to kept; is_t = is_t n q i ends s d j from to kept }

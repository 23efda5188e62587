-- The answer of a search by the pieces of an index that meets the rule, for whoever calls it. Assumes nothing.
use Prim.Native.Nat.{ℕ, ◌/◌, ◌<◌}
use native.Mathlib.Omega.{arith}
use mathlib.Core.Path.{◌≡◌, refl, sym, ap, ◌∙◌}
use mathlib.Core.Bool.{Bool, true, false, cond}
use mathlib.Core.List.{List, [], ◌∷◌}
use lib.ListN.{length}
use lib.Dec.{ltb}
use borrow.Author.Tests.{ltb-true, lt-ltb}
use Rattle.definitions.specs.Location.{Location}
use Rattle.definitions.specs.Blocks.{Piece}
use Rattle.definitions.specs.Places.{first_of, table, places, sizes, places_counted}
use Rattle.definitions.specs.Rows.{combine_split_times, rows}
use Rattle.definitions.specs.Causes.{number, scratch_too_small, too_many_rows}
use Rattle.trie.specs.Trie.{Trie, trie_pieces}
use Rattle.trie.specs.Rule.{Rule}
use Rattle.trie.proofs.Find.{table_found_is}
use Rattle.row_buffer.specs.Answer.{RowsFound, refused, rows_answer}
use Rattle.searching.specs.Search.{search_answer}
use Rattle.searching.specs.Promises.{RowsFoundAre, PlacesFoundCounted, ScratchFoundExact}

first_places : (ps : List Piece) (q : List ℕ) → first_of (table ps q) ≡ places ps q
first_places ps [] = refl
first_places ps (b ∷ q) = refl

pub rows_found_are : RowsFoundAre
rows_found_are t r q = ap combine_split_times (ap first_of (table_found_is t r q) ∙ first_places (trie_pieces t) q)

pub places_found_counted : PlacesFoundCounted
places_found_counted t r q = ap sizes (table_found_is t r q)

module _ (t : Trie) (r : Rule t) (q : List ℕ) where
  pub answer_by_pieces : (scratch room : ℕ)
      → search_answer t q scratch room ≡ cond (ltb (scratch / 24) (places_counted (trie_pieces t) q)) (refused (number scratch_too_small)) (rows_answer (rows (trie_pieces t) q) room)
  unfolding search_answer
  answer_by_pieces scratch room = rw (places_found_counted t r q, rows_found_are t r q) refl

-- ── refusal 10 ──

-- rows are never refused with it
rows_fit : (rs : List Location) (room : ℕ) → (rows_answer rs room).refusal ≡ number scratch_too_small → ⊥
unfolding rows_answer
rows_fit rs room h = go (ltb room (length rs)) h
  where
    go : (o : Bool) → (cond o (refused (number too_many_rows)) (record { refusal = 0; rows = rs })).refusal ≡ number scratch_too_small → ⊥
    go true e = omega arith
    go false e = omega arith

only_over : (o : Bool) (rs : List Location) (room : ℕ) → (cond o (refused (number scratch_too_small)) (rows_answer rs room)).refusal ≡ number scratch_too_small → o ≡ true
only_over true rs room h = refl
only_over false rs room h = absurd (rows_fit rs room h)

pub scratch_found_exact : ScratchFoundExact
scratch_found_exact t r q scratch room = (to, fro)
  where
    counted : ℕ
    counted = places_counted (trie_pieces t) q

    by_room : Bool → RowsFound
    by_room o = cond o (refused (number scratch_too_small)) (rows_answer (rows (trie_pieces t) q) room)

    e : search_answer t q scratch room ≡ by_room (ltb (scratch / 24) counted)
    e = answer_by_pieces t r q scratch room

    to : (search_answer t q scratch room).refusal ≡ number scratch_too_small → scratch / 24 < counted
    to h = ltb-true (scratch / 24) counted (only_over (ltb (scratch / 24) counted) (rows (trie_pieces t) q) room (sym (ap (λ (o : RowsFound). o.refusal) e) ∙ h))

    fro : scratch / 24 < counted → (search_answer t q scratch room).refusal ≡ number scratch_too_small
    fro h = ap (λ (o : RowsFound). o.refusal) (e ∙ ap by_room (lt-ltb (scratch / 24) counted h))

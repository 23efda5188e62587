-- What an image that passed the test holds, and what a search for the last query leaves of scratch. Assumes nothing.
use Prim.Native.Nat.{ℕ, ◌-◌, ◌/◌, ◌^◌, ◌≤◌, ◌<◌}
use native.Mathlib.Omega.{arith}
use mathlib.Core.Path.{◌≡◌, refl, sym}
use mathlib.Core.Bool.{Bool, true, false, ◌||◌, cond}
use mathlib.Core.List.{List}
use lib.ListN.{length, length-drop}
use lib.Dec.{ltb, eqb}
use borrow.Author.Tests.{le-ltb, ltb-false}
use Rattle.definitions.specs.Places.{first_of, sizes}
use Rattle.definitions.specs.Rows.{combine_split_times}
use Rattle.definitions.specs.Causes.{number, scratch_too_small, too_many_rows, scratch_kept, numbered, ScratchAfter}
use Rattle.trie.specs.Trie.{Trie}
use Rattle.trie.specs.Find.{table_found}
use Rattle.trie.specs.Rule.{Rule}
use Rattle.image_format.specs.Held.{trie_in}
use Rattle.image_format.specs.Reading.{right, RightImage}
use Rattle.image_format.specs.Savable.{AllBytes}
use Rattle.image_format.specs.Check.{check_image}
use Rattle.index_rule.proofs.Theorems.{check_image_is}
use Rattle.row_buffer.specs.Answer.{rows_answer, refused}
use Rattle.searching.specs.Search.{search_answer}
use Rattle.bench_parts.specs.Parts.{query_size, last_of, query_search}

pub right_image : (img : List ℕ) → AllBytes img → length img < 2 ^ 64 → {k j : ℕ} → right k j ≡ check_image img → RightImage img × Rule (trie_in img)
right_image img b l {k} {j} e = let w = (check_image_is img b l k j).0 (sym e) in (record { nodes = k; entries = j; read = w.0 }, w.1)

size_within : (qs : List ℕ) (size : ℕ) → query_size qs size ≤ length qs
size_within qs size = go (eqb size 0) (ltb (length qs) size) refl
  where
    go : (o p : Bool) → ltb (length qs) size ≡ p → cond (o || p) (length qs) size ≤ length qs
    go true p k = omega arith
    go false true k = omega arith
    go false false k = ltb-false (length qs) size k

last_length : (qs : List ℕ) (size : ℕ) → length (last_of qs size) ≤ query_size qs size
last_length qs size = omega (arith, length-drop (length qs - query_size qs size) qs, size_within qs size)

-- a search past the check of its query's length is refused, if at all, by a cause that leaves scratch free
past_nine : (t : Trie) (q : List ℕ) (scratch room : ℕ) → numbered (search_answer t q scratch room).refusal scratch_kept ≡ false
unfolding search_answer rows_answer
past_nine t q scratch room = go (ltb (scratch / 24) (sizes (table_found t q))) (ltb room (length (combine_split_times (first_of (table_found t q)))))
  where
    go : (o₁ o₂ : Bool)
        → numbered (cond o₁ (refused (number scratch_too_small)) (cond o₂ (refused (number too_many_rows)) (record { refusal = 0; rows = combine_split_times (first_of (table_found t q)) }))).refusal scratch_kept ≡ false
    go true o₂ = refl
    go false true = refl
    go false false = refl

pub scratch_free : (t : Trie) (qs : List ℕ) (size scratch room n : ℕ) (before after : List ℕ) → n ≡ query_size qs size → n ≤ 256 → length after ≡ length before
    → ScratchAfter (query_search t (last_of qs size) scratch room).refusal before after
scratch_free t qs size scratch room n before after e h l =
    let k : length (last_of qs size) ≤ 256 = omega (arith, last_length qs size) in
    rw (le-ltb 256 (length (last_of qs size)) k)
    (record { same_length = l; untouched = λ x. absurd (let y = past_nine t (last_of qs size) scratch room in let z : ◌≡◌ {A = ℕ} 0 1 = cc in omega arith) })

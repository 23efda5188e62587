-- Finding in a memory as its definition says.
use Prim.Native.Nat.{ℕ, ◌/◌, ◌≤◌}
use native.Mathlib.Omega.{arith}
use mathlib.Core.Path.{◌≡◌, refl, sym, ◌∙◌, subst}
use mathlib.Core.Bool.{Bool, true, false, cond}
use mathlib.Core.List.{List, []}
use mathlib.Core.Option.{none, some}
use lib.ListN.{length}
use lib.Dec.{ltb}
use borrow.Author.Tests.{le-ltb}
use Rattle.definitions.specs.Blocks.{Piece}
use Rattle.definitions.specs.Places.{places_counted}
use Rattle.definitions.specs.Rows.{rows}
use Rattle.definitions.specs.Causes.{scratch_too_small, too_many_rows, numbered, scratch_kept, ScratchAfter, number}
use Rattle.definitions.specs.Calls.{Capacity}
use Rattle.trie.specs.Trie.{Trie, trie_pieces}
use Rattle.trie.specs.Rule.{Rule}
use Rattle.index_memory.specs.Index.{Index, finished, read_index}
use Rattle.row_buffer.specs.Answer.{Finding, refused, finding_of, AtFront, rows_answer}
use Rattle.searching.specs.Search.{search_answer}
use Rattle.row_buffer.proofs.Answering.{Answers, none_answers}
use Rattle.searching.proofs.Equations.{answer_by_pieces}
use Rattle.finding.specs.Find.{RowsFound, rows_or_refused, find_by, find_memory}

-- a search by the nodes finds what one by the pieces does
pub by_pieces : (c : Capacity) (t : Trie) → Rule t → (q : List ℕ) (scratch room : ℕ) → length q ≤ 256 → search_answer t q scratch room ≡ find_by (finished c t) q scratch room
unfolding rows_answer
by_pieces c t rule q scratch room h =
    answer_by_pieces t rule q scratch room ∙ rw (le-ltb 256 (length q) h) (go (ltb (scratch / 24) (places_counted ps q)) (ltb room (length (rows ps q))))
  where
    ps : List Piece
    ps = trie_pieces t

    go : (o₁ o₂ : Bool)
        → cond o₁ (refused (number scratch_too_small)) (cond o₂ (refused (number too_many_rows)) (record { refusal = 0; rows = rows ps q }))
        ≡ rows_or_refused (cond o₁ (some scratch_too_small) (cond o₂ (some too_many_rows) none)) (rows ps q)
    go true o₂ = refl
    go false true = refl
    go false false = refl

-- what is said of what was found: the finding, where its rows stand, and what scratch before and after have to do with each other
abbrev pub Finds : RowsFound → List ℕ → List ℕ → Finding → Type 0
Finds o x s f = (f ≡ finding_of o) × (AtFront o.rows s × ScratchAfter o.refusal x s)

-- no rows stand in any scratch
pub none_front : (s : List ℕ) → AtFront [] s
none_front s = (none_answers {o = refused 0} s 0 refl refl).1

-- scratch that nothing was written to
pub unchanged : (n : ℕ) (x : List ℕ) → ScratchAfter n x x
unchanged n x = record { same_length = refl; untouched = λ _. refl }

-- what is refused before anything is found
pub none_finds : {o : RowsFound} {f : Finding} (x : List ℕ) (n : ℕ) → o ≡ refused n → f ≡ finding_of (refused n) → Finds o x x f
none_finds {o} x n e g =
    let w = none_answers x n e g in
    (w.0, (w.1, unchanged o.refusal x))

-- a query that is not too long is refused only past check 9
past_nine : (c : Capacity) (t : Trie) (q : List ℕ) (scratch room : ℕ) → length q ≤ 256 → numbered (find_by (finished c t) q scratch room).refusal scratch_kept ≡ false
past_nine c t q scratch room h = rw (le-ltb 256 (length q) h) (go (ltb (scratch / 24) (places_counted (trie_pieces t) q)) (ltb room (length (rows (trie_pieces t) q))))
  where
    go : (o₁ o₂ : Bool) → numbered (rows_or_refused (cond o₁ (some scratch_too_small) (cond o₂ (some too_many_rows) none)) (rows (trie_pieces t) q)).refusal scratch_kept ≡ false
    go true o₂ = refl
    go false true = refl
    go false false = refl

pub searched : (c : Capacity) (t : Trie) (q x s : List ℕ) (room : ℕ) {f : Finding} → length q ≤ 256 → length s ≡ length x → Answers (find_by (finished c t) q (length x) room) s f → Finds (find_by (finished c t) q (length x) room) x s f
searched c t q x s room h l w = (w.0, (w.1, record { same_length = l; untouched = λ k. absurd (different (sym (past_nine c t q (length x) room h) ∙ k)) }))
  where
    different : false ≡ true → ⊥
    different e = let z : ◌≡◌ {A = ℕ} 0 1 = cc in omega arith

pub finds : (m q x : List ℕ) (room : ℕ) {s : List ℕ} {f : Finding} (i : Index) → read_index m ≡ i → Finds (find_by i q (length x) room) x s f → Finds (find_memory m q (length x) room) x s f
unfolding find_memory
finds m q x room {s} {f} i e w = subst (λ (j : Index). Finds (find_by j q (length x) room) x s f) (sym e) w

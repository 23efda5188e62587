-- Document 02, request 3: searches for typed numbers after whole lists of calls. Assumes nothing.
use Rattle.std.specs.Prelude.{ℕ, ◌≤◌, ◌≡◌, true, false, ◌⊎◌, List, length}
use Rattle.definitions.specs.Location.{Location}
use Rattle.definitions.specs.Causes.{number, wrong_number, scratch_too_small, too_many_rows}
use Rattle.check_character.specs.Number.{number_in, right}
use Rattle.rows.specs.declared.Row.{Row}
use Rattle.handing_over.specs.Search.{Found, search_number_memory}
use Rattle.demand.specs.Demand.{Recording, final, HandsOver, Exactly}
use Rattle.demand.specs.Shift.{Shift, shift_final, AsSingles}

-- a search for what was typed, after the recording, with scratch of so many bytes and these rows lent
abbrev pub number_searched : Recording → List ℕ → ℕ → List Row → Found
number_searched r typed scratch lent = search_number_memory (final r) typed scratch lent

-- wherever it answers, what was typed is right, and exactly the longest runs of the 13 characters are handed over
abbrev pub NumberRowsExact : Recording → Type 0
NumberRowsExact r = (typed : List ℕ) (scratch : ℕ) (lent : List Row) → (number_searched r typed scratch lent).refusal ≡ 0
    → (right typed ≡ true) × ((rs : List Location) × HandsOver (number_searched r typed scratch lent) rs × Exactly r (number_in typed) rs)

-- a wrong number is refused with 19, and the rows are left
abbrev pub WrongRefused : Recording → Type 0
WrongRefused r = (typed : List ℕ) (scratch : ℕ) (lent : List Row) → right typed ≡ false → number_searched r typed scratch lent ≡ record { refusal = number wrong_number; count = 0; rows = lent }

-- a right one is refused by nothing but 10 and 11
abbrev pub RightByBuffers : Recording → Type 0
RightByBuffers r = (typed : List ℕ) (scratch : ℕ) (lent : List Row) → right typed ≡ true
    → ((number_searched r typed scratch lent).refusal ≡ 0) ⊎ (((number_searched r typed scratch lent).refusal ≡ number scratch_too_small) ⊎ ((number_searched r typed scratch lent).refusal ≡ number too_many_rows))

-- there are sizes of buffers with which it answers, and larger ones answer too
abbrev pub RightAnswers : Recording → Type 0
RightAnswers r = (typed : List ℕ) → right typed ≡ true → (bytes : ℕ) × (room : ℕ) × ((scratch : ℕ) (lent : List Row) → bytes ≤ scratch → room ≤ length lent → (number_searched r typed scratch lent).refusal ≡ 0)

-- the first, with stream calls among the calls
abbrev pub ShiftNumberRowsExact : Type 0
ShiftNumberRowsExact =
    (r : Shift) (w : AsSingles r) (typed : List ℕ) (scratch : ℕ) (lent : List Row) → (search_number_memory (shift_final r) typed scratch lent).refusal ≡ 0
    → (right typed ≡ true) × ((rs : List Location) × HandsOver (search_number_memory (shift_final r) typed scratch lent) rs × Exactly w.recording (number_in typed) rs)

-- what demand 3 says of typed numbers
pub record NumberDemand : Type 1 where
  pub rows_exact : (r : Recording) → NumberRowsExact r
  pub wrong_refused : (r : Recording) → WrongRefused r
  pub by_buffers : (r : Recording) → RightByBuffers r
  pub answers : (r : Recording) → RightAnswers r
  pub shift_rows_exact : ShiftNumberRowsExact

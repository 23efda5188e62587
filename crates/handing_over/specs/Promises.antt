-- What a search for a typed number has to do with the plain search; how much scratch both need. Assumes nothing.
use Rattle.std.specs.Prelude.{ℕ, ◌/◌, ◌≤◌, ◌<◌, ◌≡◌, true, false, List}
use Rattle.definitions.specs.Places.{places_counted}
use Rattle.definitions.specs.Causes.{number, scratch_too_small, first_cause, refusal_of, scratch_kept, numbered}
use Rattle.definitions.specs.Calls.{number_checks}
use Rattle.check_character.specs.Number.{number_in, right}
use Rattle.rows.specs.declared.Row.{Row}
use Rattle.index_memory.specs.Index.{standing_of, read_index}
use Rattle.handing_over.specs.Search.{Found, search_memory, search_number_memory}

pub record NumberSearches : Type 0 where
  -- of a right number it is the plain search of the 13 characters
  pub right_number : (m typed : List ℕ) (scratch : ℕ) (lent : List Row) → right typed ≡ true → search_number_memory m typed scratch lent ≡ search_memory m (number_in typed) scratch lent
  -- a wrong one is refused with 1 or 3 where these apply, else with 19, and the rows are left
  pub wrong_number : (m typed : List ℕ) (scratch : ℕ) (lent : List Row) → right typed ≡ false
      → search_number_memory m typed scratch lent ≡ record { refusal = refusal_of (first_cause (number_checks (standing_of (read_index m)) false)); count = 0; rows = lent }
  -- so it answers right numbers alone
  pub answered_right : (m typed : List ℕ) (scratch : ℕ) (lent : List Row) → (search_number_memory m typed scratch lent).refusal ≡ 0 → right typed ≡ true

-- ── scratch ──

-- the sizes of all T(i) of a query together, by the pieces that a memory holds
abbrev pub counted_in : List ℕ → List ℕ → ℕ
counted_in m q = places_counted (standing_of (read_index m)).pieces q

-- what a search answers by the bytes of scratch and the lent rows, where so many places are counted; a place takes 24 bytes
pub record ScratchFits (counted : ℕ) (answer : ℕ → List Row → Found) : Type 0 where
  -- scratch with room for exactly these places is enough: 10 does not come
  pub exact : (scratch : ℕ) (lent : List Row) → counted ≤ scratch / 24 → (answer scratch lent).refusal ≡ number scratch_too_small → ⊥
  -- and more scratch changes nothing
  pub enough : (scratch more : ℕ) (lent : List Row) → counted ≤ scratch / 24 → counted ≤ more / 24 → answer scratch lent ≡ answer more lent
  -- with room for fewer, be it one less, 10 comes and the rows are left, if the search comes past 1, 3, 19 and 9 with some scratch and rows
  pub one_less : (scratch other : ℕ) (lent others : List Row) → numbered (answer other others).refusal scratch_kept ≡ false → scratch / 24 < counted
      → answer scratch lent ≡ record { refusal = number scratch_too_small; count = 0; rows = lent }
  -- 10 comes only then
  pub exactly : (scratch : ℕ) (lent : List Row) → (answer scratch lent).refusal ≡ number scratch_too_small → scratch / 24 < counted

pub record ScratchExact : Type 0 where
  -- of a search, on any memory
  pub search : (m q : List ℕ) → ScratchFits (counted_in m q) (search_memory m q)
  -- of a search for a typed number, by the 13 characters
  pub search_number : (m typed : List ℕ) → ScratchFits (counted_in m (number_in typed)) (search_number_memory m typed)

-- Lists of locations where they stand in an image s: of each that is walked over, where it goes on and where it ends. Assumes nothing.
use Rattle.std.specs.Prelude.{ℕ, zero, suc, ◌+◌, ◌-◌, ◌*◌, ◌/◌, ◌%◌, ◌≤◌, ◌<◌, ◌≡◌, cond, List, [], ◌∷◌, length, get_or, set, eqb}
use Rattle.definitions.specs.Location.{Location}
use Rattle.definitions.specs.Location.{locations_in}
use Rattle.location_lists.specs.declared.List.{List as Listing}
use Rattle.location_lists.specs.declared.Span.{Span}
use Rattle.location_lists.specs.declared.Lists.{Lists}

-- the locations of a list
abbrev pub held : List ℕ → Listing → List Location
held s l = locations_in s l.count l.at

-- they lie within the image
abbrev pub Within : List ℕ → Listing → Type 0
Within s l = l.at + l.count * 24 ≤ length s

-- the locations from where a list goes on up to where it ends
abbrev pub list_from : List ℕ → Span → List Location
list_from s p = locations_in s ((p.end - p.at) / 24) p.at

-- list number k
abbrev pub span_of : List Span → ℕ → Span
span_of each k = get_or each k (record { at = 0; end = 0 })

-- n lists from number k on
abbrev pub lists_from : List ℕ → List Span → ℕ → ℕ → List (List Location)
lists_from s each zero k = []
lists_from s each (suc n) k = list_from s (span_of each k) ∷ lists_from s each n (k + 1)

-- all of them
abbrev pub spans_in : List ℕ → List Span → List (List Location)
spans_in s each = lists_from s each (length each) 0

-- those that count
abbrev pub lists_in : List ℕ → Lists → List (List Location)
lists_in s lists = lists_from s lists.each.now lists.count 0

-- whole locations of s stand from where a list goes on up to where it ends
pub record IsList (s : List ℕ) (p : Span) : Type 0 where
  pub ordered : p.at ≤ p.end
  pub within : p.end ≤ length s
  pub whole : (p.end - p.at) % 24 ≡ 0

-- each of them is a list of s
abbrev pub AreSpans : List ℕ → List Span → Type 0
AreSpans s each = (k : ℕ) → k < length each → IsList s (span_of each k)

-- each of those that count is
pub record AreLists (s : List ℕ) (lists : Lists) : Type 0 where
  pub room : lists.count ≤ length lists.each.now
  pub each : (k : ℕ) → k < lists.count → IsList s (span_of lists.each.now k)

-- the same spans lent, and no lists
abbrev pub emptied : Lists → Lists
emptied lists = record lists { count = 0 }

-- the lists, and one list more; no locations are no list
abbrev pub with_list : Lists → Listing → Lists
with_list lists l = cond (eqb l.count 0) lists (record lists { each = record lists.each { now = set lists.each.now lists.count (record { at = l.at; end = l.at + l.count * 24 }) }; count = lists.count + 1 })

-- the same spans are lent, as many
pub record SameSpans (xs ys : Lists) : Type 0 where
  pub same_reference : ys.each.ghost_name ≡ xs.each.ghost_name
  pub same_length : length ys.each.now ≡ length xs.each.now

-- no list of another buffer is there, and what is behind the lists is as it was
pub record Kept (xs ys : Lists) : Type 0 where
  pub count : ys.count ≡ xs.count
  pub ahead : ys.ahead ≡ xs.ahead
  pub rest : (k : ℕ) → xs.count ≤ k → span_of ys.each.now k ≡ span_of xs.each.now k
  pub same_reference : ys.each.ghost_name ≡ xs.each.ghost_name
  pub same_length : length ys.each.now ≡ length xs.each.now

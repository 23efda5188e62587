-- A step of the walk over lists: those that have a location next go on behind it. Assumes nothing.
use Rattle.std.specs.Prelude.{ℕ, zero, suc, ◌+◌, Bool, true, false, ◌&&◌, ◌||◌, cond, List, length, set, ltb, eqb}
use Rattle.std.proofs.Math.Dec.{compare_is_eq}
use Rattle.definitions.specs.Location.{Location, order, location_at}
use Rattle.location_lists.specs.declared.Span.{Span}
use Rattle.location_lists.specs.Lists.{span_of}

-- a list goes on, and with key
abbrev pub has_next : List ℕ → Location → Span → Bool
has_next s key p = ltb p.at p.end && compare_is_eq (order (location_at s p.at) key)

-- the lists with key stepped over in number k, where that has it next
abbrev pub stepped : List ℕ → Location → List Span → ℕ → List Span
stepped s key each k = cond (has_next s key (span_of each k)) (set each k (record { at = (span_of each k).at + 24; end = (span_of each k).end })) each

-- the same in n lists from number k on
abbrev pub stepped_from : List ℕ → Location → List Span → ℕ → ℕ → List Span
stepped_from s key each zero k = each
stepped_from s key each (suc n) k = stepped_from s key (stepped s key each k) n (k + 1)

-- in all of them
abbrev pub stepped_all : List ℕ → Location → List Span → List Span
stepped_all s key each = stepped_from s key each (length each) 0

-- one of n lists from number k on has key next
abbrev pub any_next : List ℕ → Location → List Span → ℕ → ℕ → Bool
any_next s key each zero k = false
any_next s key each (suc n) k = has_next s key (span_of each k) || any_next s key each n (k + 1)

-- each of n lists from number k on is at its end
abbrev pub ended_from : List Span → ℕ → ℕ → Bool
ended_from each zero k = true
ended_from each (suc n) k = eqb (span_of each k).at (span_of each k).end && ended_from each n (k + 1)

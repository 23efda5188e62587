-- How much scratch a search needs: the places that are counted, and not one less. Assumes nothing.
use Prim.Native.Nat.{ℕ, ◌/◌, ◌<◌}
use native.Mathlib.Omega.{arith}
use mathlib.Core.Path.{◌≡◌, refl, sym, ap, ◌∙◌}
use mathlib.Core.Bool.{Bool, true, false, true≢false, not, cond}
use mathlib.Core.List.{List}
use mathlib.Core.Option.{Option, none, some}
use lib.ListN.{length}
use lib.Dec.{ltb}
use borrow.Author.Tests.{ltb-true, lt-ltb, le-ltb}
use Rattle.definitions.specs.Location.{Location}
use Rattle.definitions.specs.Rows.{rows}
use Rattle.definitions.specs.Causes.{Cause, number, index_rule_broken, before_finish, wrong_number, query_too_long, scratch_too_small, too_many_rows, scratch_kept, numbered}
use Rattle.definitions.specs.Calls.{query_limit}
use Rattle.check_character.specs.Number.{number_in, right}
use Rattle.rows.specs.declared.Row.{Row}
use Rattle.index_memory.specs.Index.{standing_of, read_index}
use Rattle.handing_over.specs.Search.{Found, found_or_refused, search_memory, search_number_memory}
use Rattle.handing_over.specs.Promises.{counted_in, ScratchFits, ScratchExact}

-- ── the checks of both searches ──

-- the first cause: what applies of 1, 3, 19 and 9, then of 10 and 11
abbrev cause_of : (broken early wrong long small many : Bool) → Option Cause
cause_of broken early wrong long small many =
    cond broken (some index_rule_broken)
    (cond early (some before_finish)
    (cond wrong (some wrong_number) (cond long (some query_too_long) (cond small (some scratch_too_small) (cond many (some too_many_rows) none)))))

-- 10 is said only of scratch that is too small
only_small : (broken early wrong long small many : Bool) (rs : List Location) (lent : List Row)
    → (found_or_refused (cause_of broken early wrong long small many) rs lent).refusal ≡ number scratch_too_small → small ≡ true
only_small true early wrong long small many rs lent h = absurd (omega arith)
only_small false true wrong long small many rs lent h = absurd (omega arith)
only_small false false true long small many rs lent h = absurd (omega arith)
only_small false false false true small many rs lent h = absurd (omega arith)
only_small false false false false true many rs lent h = refl
only_small false false false false false true rs lent h = absurd (omega arith)
only_small false false false false false false rs lent h = absurd (omega arith)

-- where no check before refuses it, scratch that is too small is refused
refused_small : (broken early wrong long small many many' : Bool) (rs rs' : List Location) (lent lent' : List Row)
    → numbered (found_or_refused (cause_of broken early wrong long small many') rs' lent').refusal scratch_kept ≡ false
    → found_or_refused (cause_of broken early wrong long true many) rs lent ≡ record { refusal = number scratch_too_small; count = 0; rows = lent }
refused_small true early wrong long small many many' rs rs' lent lent' h = absurd (true≢false h)
refused_small false true wrong long small many many' rs rs' lent lent' h = absurd (true≢false h)
refused_small false false true long small many many' rs rs' lent lent' h = absurd (true≢false h)
refused_small false false false true small many many' rs rs' lent lent' h = absurd (true≢false h)
refused_small false false false false small many many' rs rs' lent lent' h = refl

-- ── an answer by these checks ──

module _ (broken early wrong long : Bool) (counted : ℕ) (rs : List Location) where
  abbrev by_small : (small : Bool) → List Row → Found
  by_small small lent = found_or_refused (cause_of broken early wrong long small (ltb (length lent) (length rs))) rs lent

  exactly : (scratch : ℕ) (lent : List Row) → (by_small (ltb (scratch / 24) counted) lent).refusal ≡ number scratch_too_small → scratch / 24 < counted
  exactly scratch lent h = ltb-true (scratch / 24) counted (only_small broken early wrong long (ltb (scratch / 24) counted) (ltb (length lent) (length rs)) rs lent h)

  fits : ScratchFits counted (λ scratch lent. by_small (ltb (scratch / 24) counted) lent)
  fits = record {
    exact = λ scratch lent h e. omega (arith, exactly scratch lent e);
    enough = λ scratch more lent h k. ap (λ (o : Bool). by_small o lent) (le-ltb (scratch / 24) counted h ∙ sym (le-ltb (more / 24) counted k));
    one_less = λ scratch other lent others p h.
        ap (λ (o : Bool). by_small o lent) (lt-ltb (scratch / 24) counted h)
        ∙ refused_small broken early wrong long (ltb (other / 24) counted) (ltb (length lent) (length rs)) (ltb (length others) (length rs)) rs rs lent others p;
    exactly = exactly;
  }

-- ── both searches ──

search_fits : (m q : List ℕ) → ScratchFits (counted_in m q) (search_memory m q)
unfolding search_memory
search_fits m q = let s = standing_of (read_index m) in fits s.broken (not s.finished) false (ltb query_limit (length q)) (counted_in m q) (rows s.pieces q)

number_fits : (m typed : List ℕ) → ScratchFits (counted_in m (number_in typed)) (search_number_memory m typed)
unfolding search_number_memory
number_fits m typed =
    let s = standing_of (read_index m) in
    let q = number_in typed in
    fits s.broken (not s.finished) (not (right typed)) (ltb query_limit (length q)) (counted_in m q) (rows s.pieces q)

pub scratch_exact : ScratchExact
scratch_exact = record { search = search_fits; search_number = number_fits }

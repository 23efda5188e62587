-- The lists that are walked over depend on their spans alone, and one more list comes behind the others. Assumes nothing.
use Prim.Native.Nat.{ℕ, zero, suc, ◌+◌, ◌-◌, ◌*◌, ◌/◌, ◌≤◌, ◌<◌}
use native.Mathlib.Omega.{arith}
use native.Mathlib.Numerals.{add-one}
use mathlib.Core.Path.{◌≡◌, refl, sym, ap, ◌∙◌}
use mathlib.Core.Bool.{Bool, true, false, cond}
use mathlib.Core.Logic.{◌⊎◌, inl, inr}
use mathlib.Core.List.{List, [], ◌∷◌, ◌++◌, append-nil, append_assoc}
use lib.ListN.{length, set, length-set, take}
use lib.Seq.{get_or-set_same, get_or-set_other}
use lib.Dec.{eqb}
use borrow.Author.Tests.{eqb-true, eqb-false}
use Rattle.std.proofs.lemmas.Bool.{cases_lt}
use Rattle.std.proofs.lemmas.List.{length-take-le, get_or-take}
use Rattle.definitions.specs.Location.{Location}
use Rattle.trie.specs.Test.{and_list}
use Rattle.definitions.specs.Location.{locations_in}
use Rattle.location_lists.specs.declared.List.{List as Listing}
use Rattle.location_lists.specs.declared.Span.{Span}
use Rattle.location_lists.specs.declared.Lists.{Lists}
use Rattle.location_lists.specs.Lists.{held, Within, list_from, span_of, lists_from, spans_in, lists_in, IsList, AreLists, with_list, SameSpans}
use Rattle.location_lists.proofs.Single.{locations_none, locations_first}

-- ── lists and spans ──

-- from number k on the same spans are the same lists
pub lists_ext : (s : List ℕ) (xs ys : List Span) (n k : ℕ) → ((j : ℕ) → k ≤ j → j < k + n → span_of xs j ≡ span_of ys j) → lists_from s xs n k ≡ lists_from s ys n k
lists_ext s xs ys zero k h = refl
lists_ext s xs ys (suc n) k h =
    let a = h k (omega arith) (omega arith) in
    let r = lists_ext s xs ys n (k + 1) (λ j p q. h j (omega arith) (omega arith)) in
    cc

-- one list more, at the end
pub lists_last : (s : List ℕ) (each : List Span) (n k m : ℕ) → m ≡ k + n → lists_from s each (suc n) k ≡ lists_from s each n k ++ (list_from s (span_of each m) ∷ [])
lists_last s each zero k m e = let f : m ≡ k = omega arith in rw f
lists_last s each (suc n) k m e =
    ap (λ (x : List (List Location)). list_from s (span_of each k) ∷ x) (lists_last s each n (k + 1) m (omega arith))

-- those that count are the lists of their own spans
pub counted : (s : List ℕ) (lists : Lists) → lists.count ≤ length lists.each.now → spans_in s (take lists.count lists.each.now) ≡ lists_in s lists
counted s lists h =
    rw (length-take-le lists.count lists.each.now h)
    (lists_ext s (take lists.count lists.each.now) lists.each.now lists.count 0 (λ j p q. get_or-take lists.count lists.each.now j (record { at = 0; end = 0 }) (omega arith)))

-- ── the spans that are lent ──

pub same_then : {xs ys zs : Lists} → SameSpans xs ys → SameSpans ys zs → SameSpans xs zs
same_then f g = record { same_reference = g.same_reference ∙ f.same_reference; same_length = g.same_length ∙ f.same_length }

-- ── adding a list ──

-- the locations from an index up to where n of them end
pub list_whole : (s : List ℕ) (l : Listing) → list_from s (record { at = l.at; end = l.at + l.count * 24 }) ≡ held s l
list_whole s l = let e : (l.at + l.count * 24 - l.at) / 24 ≡ l.count = omega arith in ap (λ (m : ℕ). locations_in s m l.at) e

-- a list among others is that list, if any, and then the others
pub and_list_first : (ls : List Location) (lss : List (List Location)) → and_list ls lss ≡ and_list ls [] ++ lss
and_list_first [] lss = refl
and_list_first (l ∷ ls) lss = refl

lt_of_ne : {n : ℕ} → (n ≡ 0 → ⊥) → 0 < n
lt_of_ne h = omega arith

and_some : (s : List ℕ) (n at : ℕ) → 0 < n → and_list (locations_in s n at) [] ≡ locations_in s n at ∷ []
and_some s n at h = rw (locations_first s n at h)

last_or_before : (j n : ℕ) → j < n + 1 → (j < n) ⊎ (j ≡ n)
last_or_before j n h = go (cases_lt j n)
  where
    go : (j < n) ⊎ (n ≤ j) → (j < n) ⊎ (j ≡ n)
    go (inl k) = inl k
    go (inr k) = inr (omega arith)

module _ (lists : Lists) (l : Listing) where
  span : Span
  span = record { at = l.at; end = l.at + l.count * 24 }

  with_span : List Span
  with_span = set lists.each.now lists.count span

  below_span : (j : ℕ) → j < lists.count → span_of with_span j ≡ span_of lists.each.now j
  unfolding with_span
  below_span j h = get_or-set_other lists.each.now lists.count j span (record { at = 0; end = 0 }) (omega arith)

  span_set : lists.count < length lists.each.now → span_of with_span lists.count ≡ span
  unfolding with_span
  span_set h = get_or-set_same lists.each.now lists.count span (record { at = 0; end = 0 }) h

  length_span : length with_span ≡ length lists.each.now
  unfolding with_span
  length_span = simp length-set

  pub length_with_list : length (with_list lists l).each.now ≡ length lists.each.now
  unfolding with_span span
  length_with_list = go (eqb l.count 0)
    where
      go : (o : Bool) → length (cond o lists (record lists { each = record lists.each { now = with_span }; count = lists.count + 1 })).each.now ≡ length lists.each.now
      go true = refl
      go false = length_span

  pub same_with_list : SameSpans lists (with_list lists l)
  same_with_list = go (eqb l.count 0)
    where
      go : (o : Bool) → SameSpans lists (cond o lists (record lists { each = record lists.each { now = set lists.each.now lists.count (record { at = l.at; end = l.at + l.count * 24 }) }; count = lists.count + 1 }))
      go true = record { same_reference = refl; same_length = refl }
      go false = record { same_reference = refl; same_length = simp length-set }

  pub count_with_le : (with_list lists l).count ≤ lists.count + 1
  count_with_le = go (eqb l.count 0)
    where
      go : (o : Bool) → (cond o lists (record lists { each = record lists.each { now = set lists.each.now lists.count (record { at = l.at; end = l.at + l.count * 24 }) }; count = lists.count + 1 })).count ≤ lists.count + 1
      go true = omega arith
      go false = omega arith

-- the lists after it are those before it, and then the added one, if it has any
pub added_lists : (s : List ℕ) (lists : Lists) (l : Listing) → lists.count < length lists.each.now
    → lists_in s (with_list lists l) ≡ lists_in s lists ++ and_list (held s l) []
unfolding with_span span
added_lists s lists l h = go (eqb l.count 0) refl
  where
    ys : List Span
    ys = with_span lists l

    go : (o : Bool) → eqb l.count 0 ≡ o → lists_in s (cond o lists (record lists { each = record lists.each { now = ys }; count = lists.count + 1 })) ≡ lists_in s lists ++ and_list (held s l) []
    go true e =
        let z : l.count ≤ 0 = omega (arith, eqb-true l.count 0 e) in
        rw (locations_none s l.count l.at z, append-nil)
    go false e =
        let z : 0 < l.count = lt_of_ne (eqb-false l.count 0 e) in
        let f : lists_from s ys lists.count 0 ≡ lists_in s lists = lists_ext s ys lists.each.now lists.count 0 (λ j p q. below_span lists l j (omega arith)) in
        let g : list_from s (span_of ys lists.count) ≡ held s l = rw (span_set lists l h) (list_whole s l) in
        let w : lists_from s ys (suc lists.count) 0 ≡ lists_from s ys lists.count 0 ++ (list_from s (span_of ys lists.count) ∷ []) = lists_last s ys lists.count 0 lists.count (omega arith) in
        let o = and_some s l.count l.at z in
        rw (add-one lists.count) (cc)

-- the same in front of others: one step of a loop that adds lists in turn
pub added_among : (s : List ℕ) (lists : Lists) (l : Listing) (lss : List (List Location)) → lists.count < length lists.each.now
    → lists_in s (with_list lists l) ++ lss ≡ lists_in s lists ++ and_list (held s l) lss
added_among s lists l lss h =
    let ls : List Location = held s l in
    let before : List (List Location) = lists_in s lists in
    ap (λ (x : List (List Location)). x ++ lss) (added_lists s lists l h)
    ∙ append_assoc before (and_list ls []) lss
    ∙ ap (λ (x : List (List Location)). before ++ x) (sym (and_list_first ls lss))

-- they are then lists of s too
pub added_valid : (s : List ℕ) (lists : Lists) (l : Listing) → lists.count < length lists.each.now → Within s l → AreLists s lists → AreLists s (with_list lists l)
unfolding with_span span
added_valid s lists l h k v = go (eqb l.count 0)
  where
    ys : List Span
    ys = with_span lists l

    one : (j : ℕ) → (j < lists.count) ⊎ (j ≡ lists.count) → IsList s (span_of ys j)
    one j (inl p) = rw (below_span lists l j p) (v.each j p)
    one j (inr p) = rw (p, span_set lists l h) (record { ordered = omega arith; within = omega arith; whole = omega arith })

    go : (o : Bool) → AreLists s (cond o lists (record lists { each = record lists.each { now = ys }; count = lists.count + 1 }))
    go true = v
    go false = record { room = omega (arith, length_span lists l); each = λ j p. one j (last_or_before j lists.count p) }

-- no list
pub no_lists : (s : List ℕ) (lists : Lists) → lists.count ≡ 0 → AreLists s lists
no_lists s lists z = record { room = omega arith; each = λ k h. absurd (omega arith) }

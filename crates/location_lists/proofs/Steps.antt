-- Stepping over a location in spans is stepping over it in their lists, and the lists stay lists. Assumes nothing.
use Prim.Native.Nat.{ℕ, zero, suc, ◌+◌, ◌-◌, ◌/◌, ◌≤◌, ◌<◌}
use native.Mathlib.Omega.{arith}
use mathlib.Core.Path.{◌≡◌, refl, sym, ap, ◌∙◌}
use mathlib.Core.Bool.{Bool, true, false, ◌&&◌, cond}
use mathlib.Core.Logic.{◌⊎◌, inl, inr}
use mathlib.Core.List.{List, [], ◌∷◌}
use lib.ListN.{length, set, length-set}
use lib.Seq.{get_or-set_same, get_or-set_other}
use lib.Dec.{ltb, eqb, compare_is_eq}
use Rattle.definitions.specs.Location.{Location, order, location_at}
use Rattle.definitions.proofs.Views.{Lt, lt, Eq, eq}
use Rattle.trie.specs.Test.{begins, step_over, any_begins, step_over_all, is_nil, all_ended}
use Rattle.definitions.specs.Location.{locations_in}
use Rattle.location_lists.specs.declared.Span.{Span}
use Rattle.location_lists.specs.Lists.{list_from, span_of, lists_from, IsList}
use Rattle.location_lists.specs.Steps.{has_next, stepped, stepped_from, any_next, ended_from}
use Rattle.location_lists.proofs.Single.{locations_none, locations_first}
use Rattle.location_lists.proofs.Buffers.{lists_ext}

-- ── one list ──

list_ended : (s : List ℕ) (p : Span) → p.end ≤ p.at → list_from s p ≡ []
list_ended s p h = locations_none s ((p.end - p.at) / 24) p.at (omega arith)

-- a list that goes on begins with the location at its start
list_begins : (s : List ℕ) (p : Span) → IsList s p → p.at < p.end → list_from s p ≡ location_at s p.at ∷ list_from s (record { at = p.at + 24; end = p.end })
list_begins s p v h =
    let f : (p.end - p.at) / 24 - 1 ≡ (p.end - (p.at + 24)) / 24 = omega arith in
    locations_first s ((p.end - p.at) / 24) p.at (omega arith) ∙ ap (λ (n : ℕ). location_at s p.at ∷ locations_in s n (p.at + 24)) f

nil_at_end : (s : List ℕ) (p : Span) → IsList s p → eqb p.at p.end ≡ is_nil (list_from s p)
nil_at_end s p v = go (eqb p.at p.end) (eq p.at p.end)
  where
    go : (o : Bool) → Eq o p.at p.end → o ≡ is_nil (list_from s p)
    go true h = rw (list_ended s p (omega arith))
    go false h = rw (list_begins s p v (omega arith))

module _ (s : List ℕ) (key : Location) where
  next_begins : (p : Span) → IsList s p → has_next s key p ≡ begins key (list_from s p)
  next_begins p v = go (ltb p.at p.end) (lt p.at p.end)
    where
      go : (o : Bool) → Lt o p.at p.end → (o && compare_is_eq (order (location_at s p.at) key)) ≡ begins key (list_from s p)
      go true h = rw (list_begins s p v h)
      go false h = rw (list_ended s p h)

  -- ── one list of several ──

  pub length_stepped : (each : List Span) (k : ℕ) → length (stepped s key each k) ≡ length each
  length_stepped each k = go (has_next s key (span_of each k))
    where
      go : (o : Bool) → length (cond o (set each k (record { at = (span_of each k).at + 24; end = (span_of each k).end })) each) ≡ length each
      go true = simp length-set
      go false = refl

  pub stepped_other : (each : List Span) (k j : ℕ) → (j ≡ k → ⊥) → span_of (stepped s key each k) j ≡ span_of each j
  stepped_other each k j h = go (has_next s key (span_of each k))
    where
      over : Span
      over = record { at = (span_of each k).at + 24; end = (span_of each k).end }

      go : (o : Bool) → span_of (cond o (set each k over) each) j ≡ span_of each j
      go true = get_or-set_other each k j over (record { at = 0; end = 0 }) h
      go false = refl

  module _ (each : List Span) (k : ℕ) (room : k < length each) (v : IsList s (span_of each k)) where
    over : Span
    over = record { at = (span_of each k).at + 24; end = (span_of each k).end }

    over_is : span_of (set each k over) k ≡ over
    over_is = get_or-set_same each k over (record { at = 0; end = 0 }) room

    stepped_is : IsList s (span_of (stepped s key each k) k)
    unfolding over
    stepped_is = go (ltb (span_of each k).at (span_of each k).end) (lt (span_of each k).at (span_of each k).end) (compare_is_eq (order (location_at s (span_of each k).at) key))
      where
        further : (span_of each k).at < (span_of each k).end → IsList s over
        further h = record { ordered = omega arith; within = omega arith; whole = omega arith }

        go : (o : Bool) → Lt o (span_of each k).at (span_of each k).end → (o₂ : Bool) → IsList s (span_of (cond (o && o₂) (set each k over) each) k)
        go true h true = rw over_is (further h)
        go true h false = v
        go false h o₂ = v

    stepped_list : list_from s (span_of (stepped s key each k) k) ≡ step_over key (list_from s (span_of each k))
    unfolding over
    stepped_list = go (ltb p.at p.end) (lt p.at p.end)
      where
        p : Span
        p = span_of each k

        first : p.at < p.end → (o : Bool) → list_from s (span_of (cond o (set each k over) each) k) ≡ cond o (list_from s over) (location_at s p.at ∷ list_from s over)
        first h true = ap (list_from s) over_is
        first h false = list_begins s p v h

        go : (o : Bool) → Lt o p.at p.end → list_from s (span_of (cond (o && compare_is_eq (order (location_at s p.at) key)) (set each k over) each) k) ≡ step_over key (list_from s p)
        go true h = first h (compare_is_eq (order (location_at s p.at) key)) ∙ sym (ap (step_over key) (list_begins s p v h))
        go false h = let f : list_from s p ≡ [] = list_ended s p h in f ∙ sym (ap (step_over key) f)

  -- ── n lists of several ──

  pub length_stepped_from : (each : List Span) (n k : ℕ) → length (stepped_from s key each n k) ≡ length each
  length_stepped_from each zero k = refl
  length_stepped_from each (suc n) k = length_stepped_from (stepped s key each k) n (k + 1) ∙ length_stepped each k

  -- what is none of them is as it was
  pub stepped_from_other : (each : List Span) (n k j : ℕ) → (j < k) ⊎ (k + n ≤ j) → span_of (stepped_from s key each n k) j ≡ span_of each j
  stepped_from_other each zero k j h = refl
  stepped_from_other each (suc n) k j (inl h) =
      stepped_from_other (stepped s key each k) n (k + 1) j (inl (omega arith)) ∙ stepped_other each k j (omega arith)
  stepped_from_other each (suc n) k j (inr h) =
      stepped_from_other (stepped s key each k) n (k + 1) j (inr (omega arith)) ∙ stepped_other each k j (omega arith)

  -- the first count of them are lists
  module _ (count : ℕ) where
    abbrev pub Valid : List Span → Type 0
    Valid each = (k : ℕ) → k < count → IsList s (span_of each k)

    pub stepped_valid : (each : List Span) (k : ℕ) → count ≤ length each → k < count → Valid each → Valid (stepped s key each k)
    stepped_valid each k room h v j p = one (eqb j k) (eq j k)
      where
        one : (o : Bool) → Eq o j k → IsList s (span_of (stepped s key each k) j)
        one true e = rw e (stepped_is each k (omega arith) (v k h))
        one false e = rw (stepped_other each k j e) (v j p)

    pub stepped_from_valid : (each : List Span) (n k : ℕ) → count ≤ length each → k + n ≤ count → Valid each → Valid (stepped_from s key each n k)
    stepped_from_valid each zero k room h v = v
    stepped_from_valid each (suc n) k room h v =
        stepped_from_valid (stepped s key each k) n (k + 1) (omega (arith, length_stepped each k)) (omega arith) (stepped_valid each k room (omega arith) v)

    -- the lists, stepped over
    pub stepped_lists : (each : List Span) (n k : ℕ) → count ≤ length each → k + n ≤ count → Valid each
        → lists_from s (stepped_from s key each n k) n k ≡ step_over_all key (lists_from s each n k)
    stepped_lists each zero k room h v = refl
    stepped_lists each (suc n) k room h v =
        let ys : List Span = stepped s key each k in
        let zs : List Span = stepped_from s key ys n (k + 1) in
        let a : span_of zs k ≡ span_of ys k = stepped_from_other ys n (k + 1) k (inl (omega arith)) in
        let f = stepped_list each k (omega arith) (v k (omega arith)) in
        let r = stepped_lists ys n (k + 1) (omega (arith, length_stepped each k)) (omega arith) (stepped_valid each k room (omega arith) v) in
        let x = lists_ext s ys each n (k + 1) (λ j p q. stepped_other each k j (omega arith)) in
        cc

    -- one of the lists begins with key if one of them has it next
    pub any_met : (each : List Span) (n k : ℕ) → k + n ≤ count → Valid each → any_next s key each n k ≡ any_begins key (lists_from s each n k)
    any_met each zero k h v = refl
    any_met each (suc n) k h v =
        let a = next_begins (span_of each k) (v k (omega arith)) in
        let r = any_met each n (k + 1) (omega arith) v in
        cc

  -- that depends on the spans alone
  pub any_ext : (xs ys : List Span) (n k : ℕ) → ((j : ℕ) → k ≤ j → span_of xs j ≡ span_of ys j) → any_next s key xs n k ≡ any_next s key ys n k
  any_ext xs ys zero k h = refl
  any_ext xs ys (suc n) k h =
      let a = h k (omega arith) in
      let r = any_ext xs ys n (k + 1) (λ j p. h j (omega arith)) in
      cc

pub ended_all : (s : List ℕ) (each : List Span) (n k : ℕ) → ((j : ℕ) → j < k + n → IsList s (span_of each j)) → ended_from each n k ≡ all_ended (lists_from s each n k)
ended_all s each zero k v = refl
ended_all s each (suc n) k v =
    let a = nil_at_end s (span_of each k) (v k (omega arith)) in
    let r = ended_all s each n (k + 1) (λ j p. v j (omega arith)) in
    cc

-- The loops over several lists: what holds at each turn, and what it says in the end. Assumes nothing.
use Prim.Native.Nat.{ℕ, suc, ◌+◌, ◌-◌, ◌*◌, ◌≤◌, ◌<◌}
use native.Mathlib.Omega.{arith}
use mathlib.Core.Path.{◌≡◌, refl, sym, ap, ◌∙◌}
use mathlib.Core.Bool.{Bool, true, false, ◌&&◌, ◌||◌, cond}
use mathlib.Core.List.{List, ◌∷◌}
use lib.ListN.{length, set}
use lib.Dec.{ltb, eqb, compare_is_eq}
use borrow.Author.Tests.{le-leb, lt-leb, lt-ltb, le-ltb, eq-eqb, ne_eqb}
use Rattle.definitions.specs.Location.{Location, order, location_at}
use Rattle.trie.specs.Test.{any_begins, all_ended, moved_back, is_union}
use Rattle.location_lists.specs.declared.List.{List as Listing}
use Rattle.location_lists.specs.declared.Span.{Span}
use Rattle.location_lists.specs.Lists.{held, span_of, spans_in, AreSpans}
use Rattle.location_lists.specs.Steps.{has_next, stepped, stepped_from, stepped_all, any_next, ended_from}
use Rattle.location_lists.proofs.Single.{rest, rest_all, rest_none, rest_first}
use Rattle.location_lists.proofs.Steps.{length_stepped, stepped_other, length_stepped_from, stepped_valid, stepped_from_valid, stepped_lists, any_met, any_ext, ended_all}

-- ── the ends of lists ──

module _ (each : List Span) (count i : ℕ) where
  pub ended_end : count ≤ i → true ≡ ended_from each (count - i) i
  ended_end h = let e : count - i ≡ 0 = omega arith in rw e

  pub ended_not : i < count → ((span_of each i).at ≡ (span_of each i).end → ⊥) → false ≡ ended_from each (count - i) i
  ended_not h k = let e : count - i ≡ suc (count - (i + 1)) = omega arith in rw (e, ne_eqb (span_of each i).at (span_of each i).end k)

  pub ended_on : i < count → (span_of each i).at ≡ (span_of each i).end → ended_from each (count - (i + 1)) (i + 1) ≡ ended_from each (count - i) i
  ended_on h k = let e : count - i ≡ suc (count - (i + 1)) = omega arith in rw (e, eq-eqb (span_of each i).at (span_of each i).end k)

-- ── stepping over a location in each list ──

-- a list at its end has nothing next, and another location is not key
pub next_ended : (s : List ℕ) (key : Location) (p : Span) → p.end ≤ p.at → has_next s key p ≡ false
next_ended s key p h = rw (le-ltb p.at p.end h) refl

pub next_other : (s : List ℕ) (key : Location) (p : Span) → compare_is_eq (order (location_at s p.at) key) ≡ false → has_next s key p ≡ false
next_other s key p h = ap (λ (o : Bool). ltb p.at p.end && o) h ∙ and_false (ltb p.at p.end)
  where
    and_false : (a : Bool) → (a && false) ≡ false
    and_false true = refl
    and_false false = refl

-- so many had key next: whether any had
abbrev pub some_met : ℕ → Bool
some_met met = cond (eqb met 0) false true

pub record Stepping (s : List ℕ) (key : Location) (each₀ each : List Span) (met : ℕ) (i : ℕ) : Type 0 where
  pub valid : AreSpans s each
  pub same_length : length each ≡ length each₀
  pub few : met ≤ i
  pub steps : stepped_from s key each (length each₀ - i) i ≡ stepped_all s key each₀
  pub any : (some_met met || any_next s key each (length each₀ - i) i) ≡ any_next s key each₀ (length each₀) 0

module _ (s : List ℕ) (key : Location) (each₀ : List Span) where
  pub stepping_start : AreSpans s each₀ → Stepping s key each₀ each₀ 0 0
  stepping_start v =
      let e : length each₀ - 0 ≡ length each₀ = omega arith in
      record { valid = v; same_length = refl; few = omega arith; steps = rw e; any = rw e }

  module _ (each : List Span) (met i : ℕ) (v : Stepping s key each₀ each met i) where
    stepping_again : i < length each₀ → (ys : List Span) → ys ≡ stepped s key each i
        → (r : Bool) (n : ℕ) → r ≡ has_next s key (span_of each i) → n ≤ i + 1 → some_met n ≡ (some_met met || r) → Stepping s key each₀ ys n (i + 1)
    stepping_again h ys e r n f few x =
        let m : length each₀ - i ≡ suc (length each₀ - (i + 1)) = omega arith in
        let same : length (stepped s key each i) ≡ length each = length_stepped s key each i in
        let g = any_ext s key (stepped s key each i) each (length each₀ - (i + 1)) (i + 1) (λ j p. stepped_other s key each i j (omega arith)) in
        let a : (some_met met || (has_next s key (span_of each i) || any_next s key each (length each₀ - (i + 1)) (i + 1))) ≡ any_next s key each₀ (length each₀) 0 = rw m at v.any in
        rw e
        (record {
          valid = λ j p. stepped_valid s key (length each) each i (omega arith) (omega (arith, v.same_length)) v.valid j (omega arith);
          same_length = same ∙ v.same_length;
          few = few;
          steps = rw m at v.steps;
          any = rw (x, f, g) (or_assoc (some_met met) (has_next s key (span_of each i)) (any_next s key each (length each₀ - (i + 1)) (i + 1)) ∙ a);
        })
      where
        or_assoc : (a b c : Bool) → ((a || b) || c) ≡ (a || (b || c))
        or_assoc true b c = refl
        or_assoc false b c = refl

    -- a list that has key next goes on behind it
    pub stepping_over : i < length each₀ → (span_of each i).at < (span_of each i).end → compare_is_eq (order (location_at s (span_of each i).at) key) ≡ true
        → Stepping s key each₀ (set each i (record { at = (span_of each i).at + 24; end = (span_of each i).end })) (met + 1) (i + 1)
    stepping_over h k q =
        let n : has_next s key (span_of each i) ≡ true = rw (lt-ltb (span_of each i).at (span_of each i).end k, q) refl in
        let z : met + 1 ≡ 0 → ⊥ = omega arith in
        let w : some_met (met + 1) ≡ true = rw (ne_eqb (met + 1) 0 z) refl in
        stepping_again h _ (sym (ap (λ (o : Bool). cond o (set each i (record { at = (span_of each i).at + 24; end = (span_of each i).end })) each) n)) true (met + 1) (sym n) (omega (arith, v.few)) (w ∙ or_true (some_met met))
      where
        or_true : (a : Bool) → true ≡ (a || true)
        or_true true = refl
        or_true false = refl

    or_false : (a : Bool) → a ≡ (a || false)
    or_false true = refl
    or_false false = refl

    -- any other stays
    pub stepping_past : i < length each₀ → has_next s key (span_of each i) ≡ false → Stepping s key each₀ each met (i + 1)
    stepping_past h n =
        stepping_again h each (sym (ap (λ (o : Bool). cond o (set each i (record { at = (span_of each i).at + 24; end = (span_of each i).end })) each) n)) false met (sym n) (omega (arith, v.few)) (or_false (some_met met))

    pub stepping_done : length each₀ ≤ i → (each ≡ stepped_all s key each₀) × (some_met met ≡ any_next s key each₀ (length each₀) 0)
    stepping_done h =
        let n : length each₀ - i ≡ 0 = omega arith in
        let a : (some_met met || false) ≡ any_next s key each₀ (length each₀) 0 = rw n at v.any in
        (rw n at v.steps, or_false (some_met met) ∙ a)

-- ── the walk ──

pub record Walking (s : List ℕ) (list : Listing) (back : ℕ) (each₀ each : List Span) (i : ℕ) : Type 0 where
  pub valid : AreSpans s each
  pub same_length : length each ≡ length each₀
  pub same : is_union back (rest s list.at list.count i) (spans_in s each) ≡ is_union back (held s list) (spans_in s each₀)

module _ (s : List ℕ) (list : Listing) (back : ℕ) (each₀ : List Span) where
  -- an answer, and how many lists there are then
  abbrev pub Answer : Bool → List Span → Type 0
  Answer r each = (r ≡ is_union back (held s list) (spans_in s each₀)) × (length each ≡ length each₀)

  pub walking_start : AreSpans s each₀ → Walking s list back each₀ each₀ 0
  walking_start v = record { valid = v; same_length = refl; same = rw (rest_all s list.at list.count) refl }

  module _ (each : List Span) (i : ℕ) (w : Walking s list back each₀ each i) where
    kept_on : (key : Location) → length (stepped_all s key each) ≡ length each₀
    kept_on key = length_stepped_from s key each (length each) 0 ∙ w.same_length

    -- nothing is left: each list is at its end, or not
    pub walking_done : list.count ≤ i → (r : Bool) → r ≡ ended_from each (length each) 0 → Answer r each
    walking_done h r f =
        let a : is_union back (rest s list.at list.count i) (spans_in s each) ≡ all_ended (spans_in s each) = rw (rest_none s list.at list.count i h) in
        (f ∙ ended_all s each (length each) 0 (λ j p. w.valid j (omega arith)) ∙ sym a ∙ w.same, w.same_length)

    -- the next location is l
    module _ (h : i < list.count) (l : Location) (e : l ≡ location_at s (list.at + i * 24)) where
      begun : is_union back (l ∷ rest s list.at list.count (i + 1)) (spans_in s each) ≡ is_union back (held s list) (spans_in s each₀)
      begun =
          let here : rest s list.at list.count i ≡ l ∷ rest s list.at list.count (i + 1) = rest_first s list.at list.count i h ∙ ap (λ (x : Location). x ∷ rest s list.at list.count (i + 1)) (sym e) in
          ap (λ (ls : List Location). is_union back ls (spans_in s each)) (sym here) ∙ w.same

      -- it does not stand so far back
      pub walking_low : l.address < back → Answer false each
      walking_low k = (rw (lt-leb back l.address k) at begun, w.same_length)

      -- it does, and is stepped over
      module _ (k : back ≤ l.address) (key : Location) (d : key ≡ moved_back l back) (ys : List Span) (f : ys ≡ stepped_all s key each) (r : Bool) (g : r ≡ any_next s key each (length each) 0) where
        begins_by : r ≡ any_begins (moved_back l back) (spans_in s each)
        begins_by = rw (g, ← d) (any_met s key (length each) each (length each) 0 (omega arith) w.valid)

        -- it is next in none
        pub walking_lone : r ≡ false → Answer false ys
        walking_lone z =
            let a : any_begins (moved_back l back) (spans_in s each) ≡ false = sym begins_by ∙ z in
            (rw (le-leb back l.address k, a) at begun, rw f (kept_on key))

        pub walking_again : r ≡ true → Walking s list back each₀ ys (i + 1)
        walking_again z =
            let a : any_begins (moved_back l back) (spans_in s each) ≡ true = sym begins_by ∙ z in
            let b = rw (le-leb back l.address k, a) at begun in
            let n : length (stepped_all s key each) ≡ length each = length_stepped_from s key each (length each) 0 in
            let t = rw d at (stepped_lists s key (length each) each (length each) 0 (omega arith) (omega arith) w.valid) in
            rw f
            (record {
              valid = λ j p. stepped_from_valid s key (length each) each (length each) 0 (omega arith) (omega arith) w.valid j (omega arith);
              same_length = kept_on key;
              same = rw (n, d) (ap (is_union back (rest s list.at list.count (i + 1))) t ∙ b);
            })

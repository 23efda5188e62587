-- `searching::search_image` meets its contract: nothing to find, no room for the places, or the rows. Assumes nothing.
use native.Mathlib.Omega.{arith}
use mathlib.Core.Path.{sym, ◌∙◌, refl}
use borrow.Author.Rules.{rules}
use borrow.Author.Tests.{eqb-true, eqb-false}
use Rattle.searching.proofs.Answering.{no_query, no_index, right_long, sound_image, places_over, hand_order, hand_within, handed}
use Rattle.searching.proofs.search_image.Goals.{then-is_empty-via-then-is_empty, then-is_empty-via-else-is_empty+then-is_empty-2}
use Rattle.searching.proofs.search_image.Goals as goal

pub is_empty-requires-else-is_empty : goal.is_empty-requires-else-is_empty
is_empty-requires-else-is_empty c = right_long c.requires.0

pub returns-then-is_empty : goal.returns-then-is_empty
returns-then-is_empty c =
    elim c.then-is_empty.branch [
      | then-is_empty-via-then-is_empty w ↦ let a = no_query _ _ _ _ _ (eqb-true _ 0 (sym c.is_empty.ensures ∙ w.if-is_empty.true)) refl in record { found = a.0; rows = a.1 }
      | then-is_empty-via-else-is_empty+then-is_empty-2 w ↦ let a = no_index _ _ _ _ _ (sym w.is_empty-else-is_empty.ensures ∙ w.if-is_empty-2.true) refl in record { found = a.0; rows = a.1 }
    ]

pub last_places-requires : goal.last_places-requires
last_places-requires c =
    let sound = sound_image (λ j. omega (arith, c.type_inv.img j)) (omega arith) c.requires.0 c.requires.1 (sym c.is_empty-else-is_empty.ensures ∙ c.if-is_empty-2.false) in
    let some = eqb-false _ 0 (sym c.is_empty.ensures ∙ c.if-is_empty.false) in
    (sound, omega (arith, some))

pub invariant_of-query : goal.invariant_of-query
invariant_of-query c =
    let some = eqb-false _ 0 (sym c.is_empty.ensures ∙ c.if-is_empty.false) in
    record { some = omega (arith, some); ending = ∣ c.last_places.ensures ∣₁ }

pub invariant_of-find_all : goal.invariant_of-find_all
invariant_of-find_all c =
    let sound = sound_image (λ j. omega (arith, c.type_inv.img j)) (omega arith) c.requires.0 c.requires.1 (sym c.is_empty-else-is_empty.ensures ∙ c.if-is_empty-2.false) in
    record { sound = ∣ sound ∣₁ }

pub returns-in_default : goal.returns-in_default
returns-in_default c =
    let sound = sound_image (λ j. omega (arith, c.type_inv.img j)) (omega arith) c.requires.0 c.requires.1 (sym c.is_empty-else-is_empty.ensures ∙ c.if-is_empty-2.false) in
    let a = places_over sound c.in_default.ensures _ _ refl in
    record { found = a.0; rows = a.1 }

pub hand_over-requires : goal.hand_over-requires
hand_over-requires c =
    let sound = sound_image (λ j. omega (arith, c.type_inv.img j)) (omega arith) c.requires.0 c.requires.1 (sym c.is_empty-else-is_empty.ensures ∙ c.if-is_empty-2.false) in
    let some = eqb-false _ 0 (sym c.is_empty.ensures ∙ c.if-is_empty.false) in
    (hand_order sound c.in-Some.ensures (omega (arith, some)), hand_within sound c.in-Some.ensures (omega (arith, some)))

pub returns : goal.returns
returns c =
    let sound = sound_image (λ j. omega (arith, c.type_inv.img j)) (omega arith) c.requires.0 c.requires.1 (sym c.is_empty-else-is_empty.ensures ∙ c.if-is_empty-2.false) in
    let some = eqb-false _ 0 (sym c.is_empty.ensures ∙ c.if-is_empty.false) in
    let a = handed sound c.in-Some.ensures (omega (arith, some)) _ (search rules) (c.hand_over.ensures.found, c.hand_over.ensures.rows) in
    record { found = a.0; rows = a.1 }

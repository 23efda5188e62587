-- Conflicts of pieces are those of the order: with a block, and of two of them; free of them, the order is in line. Assumes nothing.
use Prim.Native.Nat.{ℕ, ◌≤◌, ◌<◌}
use native.Mathlib.Omega.{arith}
use mathlib.Core.Path.{◌≡◌, sym, ap, ◌∙◌, subst}
use mathlib.Core.Bool.{true}
use mathlib.Core.Logic.{◌⊎◌, inl, inr, ◌↔◌}
use mathlib.Core.List.{List, Memᴰ as Mem}
use lib.ListN.{length}
use Rattle.std.proofs.lemmas.Bool.{cases_lt}
use Rattle.definitions.specs.Blocks.{Piece}
use Rattle.definitions.specs.Conflicts.{conflicting, free}
use Rattle.definitions.proofs.Tests.{is_false, not_both}
use Rattle.definitions.proofs.Sharing.{Sharing, shares_facts, facts_share, shares_sym}
use Rattle.definitions.proofs.Free.{Met, with_one, one_with}
use Rattle.conflicts.specs.Lined.{Ahead}
use Rattle.conflicts.specs.Order.{Entry, ordered, nothing, nth, entry}
use Rattle.conflicts.specs.Promises.{Entered, NoneInside, Numbered, Struck, OrderedStruck, OrderedLined, OrderedFree}
use Rattle.conflicts.proofs.Numbers.{At, member_at, at_member}
use Rattle.conflicts.proofs.LinedFree.{lined_free}
use Rattle.conflicts.proofs.Numbered.{free_numbers}
use Rattle.conflicts.proofs.Order.{ordered_has, ordered_entered, ordered_ascending}

-- where the piece of a number stands in the order
abbrev pub Placed : List Piece → ℕ → Type 0
Placed ps k = At (ordered ps) (record { number = 0; piece = nothing }) (record { number = k; piece = nth ps k })

pub placed : (ps : List Piece) (k : ℕ) → k < length ps → 0 < length (nth ps k).bytes → Placed ps k
placed ps k h s = member_at (ordered ps) (record { number = 0; piece = nothing }) (record { number = k; piece = nth ps k }) (ordered_has ps k h s)

piece_listed : (ps : List Piece) (i : ℕ) → i < length (ordered ps) → Mem (entry (ordered ps) i).piece ps
piece_listed ps i h =
    let w : Entered ps (entry (ordered ps) i) = ordered_entered ps i h in
    subst (λ (p : Piece). Mem p ps) w.piece (at_member ps nothing (entry (ordered ps) i).number w.inside)

-- no number stands there twice
pub ordered_different : (ps : List Piece) (i j : ℕ) → i < j → j < length (ordered ps) → (entry (ordered ps) i).number ≡ (entry (ordered ps) j).number → ⊥
ordered_different ps i j h k e =
    let p : (entry (ordered ps) i).piece ≡ (entry (ordered ps) j).piece = sym (ordered_entered ps i (omega arith)).piece ∙ ap (nth ps) e ∙ (ordered_entered ps j k).piece in
    omega (arith, (ordered_ascending ps i j h k).by_number (ap (λ (r : Piece). r.at) p))

-- ── with a block ──

pub ordered_struck : OrderedStruck
ordered_struck ps x = ((λ e. to (with_one x ps e)), λ s. one_with x (entry (ordered ps) s.index).piece ps (piece_listed ps s.index s.inside) s.is)
  where
    on : (m : Met x ps) (a : At ps nothing m.piece) → Placed ps a.index → Struck x (ordered ps)
    on m a w = record { index = w.index; inside = w.inside; is = subst (λ (p : Piece). conflicting x p ≡ true) (sym (ap (λ (e : Entry). e.piece) w.is ∙ a.is)) m.is }

    to : Met x ps → Struck x (ordered ps)
    to m =
        let a : At ps nothing m.piece = member_at ps nothing m.piece m.listed in
        let s : Sharing x m.piece = shares_facts x m.piece m.is in
        let l : 0 < length m.piece.bytes = omega (arith, s.low') in
        on m a (placed ps a.index a.inside (subst (λ (p : Piece). 0 < length p.bytes) (sym a.is) l))

-- ── of two of them ──

abbrev in_order : List Piece → ℕ → Piece
in_order ps i = (entry (ordered ps) i).piece

numbered : (ps : List Piece) → Numbered (length ps) (nth ps) → Numbered (length (ordered ps)) (in_order ps)
numbered ps g i j h k = is_false (conflicting (in_order ps i) (in_order ps j)) (λ e. go (turned e) (cases_lt a b))
  where
    a : ℕ
    a = (entry (ordered ps) i).number

    b : ℕ
    b = (entry (ordered ps) j).number

    v : Entered ps (entry (ordered ps) i)
    v = ordered_entered ps i (omega arith)

    w : Entered ps (entry (ordered ps) j)
    w = ordered_entered ps j k

    turned : conflicting (in_order ps i) (in_order ps j) ≡ true → conflicting (nth ps a) (nth ps b) ≡ true
    turned e = subst (λ (p : Piece). conflicting p (nth ps b) ≡ true) (sym v.piece) (subst (λ (p : Piece). conflicting (in_order ps i) p ≡ true) (sym w.piece) e)

    go : conflicting (nth ps a) (nth ps b) ≡ true → (a < b) ⊎ (b ≤ a) → ⊥
    go e (inl l) = not_both (g a b l w.inside) e
    go e (inr l) = let n : ¬ (a ≡ b) = ordered_different ps i j h k in not_both (g b a (omega arith) v.inside) (shares_sym (nth ps a) (nth ps b) e)

all_numbered : (ps : List Piece) → Numbered (length (ordered ps)) (in_order ps) → Numbered (length ps) (nth ps)
all_numbered ps g i j h k = is_false (conflicting (nth ps i) (nth ps j)) (λ e. met e (shares_facts (nth ps i) (nth ps j) e))
  where
    at : (k : ℕ) (w : Placed ps k) → in_order ps w.index ≡ nth ps k
    at k w = ap (λ (x : Entry). x.piece) w.is

    turned : (x : Placed ps i) (y : Placed ps j) → conflicting (nth ps i) (nth ps j) ≡ true → conflicting (in_order ps x.index) (in_order ps y.index) ≡ true
    turned x y e = subst (λ (p : Piece). conflicting p (in_order ps y.index) ≡ true) (sym (at i x)) (subst (λ (p : Piece). conflicting (nth ps i) p ≡ true) (sym (at j y)) e)

    apart : (x : Placed ps i) (y : Placed ps j) → x.index ≡ y.index → ⊥
    apart x y q = omega (arith, ap (λ (e : Entry). e.number) (sym x.is ∙ ap (entry (ordered ps)) q ∙ y.is))

    go : conflicting (nth ps i) (nth ps j) ≡ true → (x : Placed ps i) (y : Placed ps j) → (x.index < y.index) ⊎ (y.index ≤ x.index) → ⊥
    go e x y (inl l) = not_both (g x.index y.index l y.inside) (turned x y e)
    go e x y (inr l) = let n : ¬ (x.index ≡ y.index) = apart x y in not_both (g y.index x.index (omega arith) x.inside) (shares_sym (in_order ps x.index) (in_order ps y.index) (turned x y e))

    met : conflicting (nth ps i) (nth ps j) ≡ true → Sharing (nth ps i) (nth ps j) → ⊥
    met e s =
        let x : Placed ps i = placed ps i (omega arith) (omega (arith, s.low)) in
        let y : Placed ps j = placed ps j k (omega (arith, s.low')) in
        go e x y (cases_lt x.index y.index)

-- pieces are free of conflicts exactly if those of the order are
pub ordered_numbers : (ps : List Piece) → free ps ≡ true ↔ Numbered (length (ordered ps)) (λ i. (entry (ordered ps) i).piece)
ordered_numbers ps = ((λ e. numbered ps ((free_numbers ps).0 e)), λ g. (free_numbers ps).1 (all_numbered ps g))

pub ordered_free : OrderedFree
ordered_free ps s = ((λ e. q.0 ((ordered_numbers ps).0 e)), λ g. (ordered_numbers ps).1 (q.1 g))
  where
    q : Numbered (length (ordered ps)) (in_order ps) ↔ NoneInside (length (ordered ps)) (in_order ps)
    q = lined_free (length (ordered ps)) (in_order ps) s (λ i h. (ordered_entered ps i h).some)

-- ── in line ──

pub ordered_lined : OrderedLined
ordered_lined ps v e = record { ahead = ahead; alive = alive }
  where
    alive : (i : ℕ) → i < length (ordered ps) → (in_order ps i).at.created < (in_order ps i).at.destroyed
    alive i h = v (in_order ps i) (piece_listed ps i h)

    -- two at one address that live together would conflict
    life : (i j : ℕ) → i < j → j < length (ordered ps) → (in_order ps i).at.address ≡ (in_order ps j).at.address → ((in_order ps j).at.created < (in_order ps i).at.destroyed) ⊎ ((in_order ps i).at.destroyed ≤ (in_order ps j).at.created) → (in_order ps i).at.destroyed ≤ (in_order ps j).at.created
    life i j h k q (inr l) = l
    life i j h k q (inl l) = absurd (not_both ((ordered_numbers ps).0 e i j h k) (facts_share (in_order ps i) (in_order ps j) (record {
      low = omega (arith, (ordered_entered ps i (omega arith)).some);
      low' = omega (arith, (ordered_entered ps j k).some);
      across = omega (arith, (ordered_entered ps j k).some);
      across' = omega (arith, (ordered_entered ps i (omega arith)).some);
      born = alive i (omega arith);
      born' = alive j k;
      before = omega (arith, (ordered_ascending ps i j h k).by_created q, alive j k);
      before' = l;
    })))

    ahead : (i j : ℕ) → i < j → j < length (ordered ps) → Ahead (in_order ps i).at (in_order ps j).at
    ahead i j h k = record { by_address = (ordered_ascending ps i j h k).by_address; by_life = λ q. life i j h k q (cases_lt (in_order ps j).at.created (in_order ps i).at.destroyed) }

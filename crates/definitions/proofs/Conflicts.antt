-- A block conflicts with what is held exactly if one of its pieces does; blocks each taken without a clash are consistent.
-- Assumes nothing.
use Prim.Native.Nat.{ℕ, ◌-◌}
use native.Mathlib.Omega.{arith}
use mathlib.Core.Path.{◌≡◌, refl, sym, subst}
use mathlib.Core.Bool.{Bool, true, false}
use mathlib.Core.Logic.{◌↔◌}
use mathlib.Core.List.Memᴰ.{append_left}
use mathlib.Core.List.Memᴰ.{append_right}
use mathlib.Core.List.Memᴰ.{head as here}
use mathlib.Core.List.Memᴰ.{not-nil}
use mathlib.Core.List.Memᴰ.{tail as later}
use mathlib.Core.List.{List, [], ◌∷◌, ◌++◌, append-nil, Memᴰ as Mem}
use lib.ListN.{get_or}
use Rattle.definitions.specs.Location.{Lives}
use Rattle.definitions.specs.Blocks.{Block, Piece, pieces, pieces_of}
use Rattle.definitions.specs.Runs.{Holds, Covers, Consistent}
use Rattle.definitions.specs.Conflicts.{shares, conflicting, conflicts_with, clash, free}
use Rattle.definitions.specs.Promises.{SharesIs, BlockClashes, EmptyFree, OwnFree, FreeConsistent, ConsistentAdded}
use Rattle.definitions.proofs.Held.{holds_covers}
use Rattle.definitions.proofs.Cutting.{PieceOf, piece_of, pieces_added, held_by_pieces, consistent_pieces}
use Rattle.definitions.proofs.Tests.{is_false, not_both, same_test}
use Rattle.definitions.proofs.Sharing as sharing
use Rattle.definitions.proofs.Sharing.{shares_facts, apart_is, shares_sym}
use Rattle.definitions.proofs.Free.{Free, with_none, clash_none, free_is, Both, free_append, append_free}

pub shares_is : SharesIs
shares_is = sharing.shares_is

-- ── what a block covers, its pieces cover ──

-- a piece of a block that covers an address and a tick
record Covered (b : Block) (a t : ℕ) : Type 0 where
  piece : Piece
  listed : Mem piece (pieces b)
  covers : Covers piece a t

block_covers : (b : Block) (a t : ℕ) → Covers b a t → Covered b a t
block_covers b a t c = record { piece = h.block; listed = subst (Mem h.block) (append-nil (pieces b)) h.listed; covers = holds_covers h }
  where
    o : Holds (b ∷ []) (get_or b.bytes (a - b.at.address) 0) a t
    o = record { block = b; listed = here refl; offset = a - b.at.address; inside = omega (arith, c.low, c.high); is = refl; there = omega (arith, c.low); lives = c.lives }

    h : Holds (pieces b ++ []) (get_or b.bytes (a - b.at.address) 0) a t
    h = (held_by_pieces (b ∷ []) (get_or b.bytes (a - b.at.address) 0) a t).0 o

covers_block : (b : Block) (p : Piece) → Mem p (pieces b) → (a t : ℕ) → Covers p a t → Covers b a t
covers_block b p m a t c =
    let w : PieceOf b.at b.bytes p = piece_of b p m in
    let l : Lives p.at t = c.lives in
    record { low = omega (arith, w.address, c.low); high = omega (arith, w.address, w.fits, c.high); lives = record { from = omega (arith, w.created, l.from); till = omega (arith, w.destroyed, l.till) } }

-- a block clashes with what is held exactly if it shares with a piece of it
pub block_clashes : BlockClashes
block_clashes b held = same_test (clash (pieces b) held) (conflicts_with b held) (λ e. denied (conflicts_with b held) (λ n. not_both (to n) e)) (λ e. denied (clash (pieces b) held) (λ n. not_both (fro n) e))
  where
    denied : (t : Bool) → (t ≡ false → ⊥) → t ≡ true
    denied true g = refl
    denied false g = absurd (g refl)

    to : conflicts_with b held ≡ false → clash (pieces b) held ≡ false
    to n = (clash_none (pieces b) held).1 (λ p r m k. (apart_is p r).1 (λ a t c d. (apart_is b r).0 ((with_none b held).0 n r k) a t (covers_block b p m a t c) d))

    fro : clash (pieces b) held ≡ false → conflicts_with b held ≡ false
    fro n = (with_none b held).1 (λ r k. (apart_is b r).1 (λ a t c d. one r k a t d (block_covers b a t c)))
      where
        one : (r : Piece) → Mem r held → (a t : ℕ) → Covers r a t → Covered b a t → ⊥
        one r k a t d x = (apart_is x.piece r).0 ((clash_none (pieces b) held).0 n x.piece r x.listed k) a t x.covers d

-- an empty block clashes with nothing
pub empty_free : EmptyFree
empty_free b held e = is_false (conflicts_with b held) (λ h. not_both ((with_none b held).1 (λ r m. is_false (shares b r) (λ s. omega (arith, (shares_facts b r s).low)))) h)

-- ── free of conflicts is consistent ──

free_consistent : (ps : List Piece) → free ps ≡ true ↔ Consistent ps
free_consistent ps = ((λ e. to ps ((free_is ps).0 e)), λ c. (free_is ps).1 (fro ps c))
  where
    to : (ps : List Piece) → Free ps → Consistent ps
    to [] g = tt
    to (p ∷ ps) g = ((λ r m. (apart_is p r).0 (g.0 r m)), to ps g.1)

    fro : (ps : List Piece) → Consistent ps → Free ps
    fro [] c = tt
    fro (p ∷ ps) c = ((λ r m. (apart_is p r).1 (c.0 r m)), fro ps c.1)

mem_pieces : {p : Piece} (bs : List Block) (b : Block) → Mem b bs → Mem p (pieces b) → Mem p (pieces_of bs)
mem_pieces {p = p} [] b x'' k = elim x'' [ ]
mem_pieces {p} (r ∷ bs) b (here e) k = append_left (pieces_of bs) (subst (λ (y : Block). Mem p (pieces y)) e k)
mem_pieces (r ∷ bs) b (later m) k = append_right (pieces r) (mem_pieces bs b m k)

-- the pieces of blocks are free of conflicts exactly if the blocks are consistent
pub blocks_free : FreeConsistent
blocks_free bs = ((λ e. to bs ((free_is (pieces_of bs)).0 e)), λ c. (free_consistent (pieces_of bs)).1 (consistent_pieces bs c))
  where
    to : (bs : List Block) → Free (pieces_of bs) → Consistent bs
    to [] g = tt
    to (b ∷ bs) g = ((λ r m a t c d. apart r m a t (block_covers b a t c) (block_covers r a t d)), to bs x.second)
      where
        x : Both (pieces b) (pieces_of bs)
        x = append_free (pieces b) (pieces_of bs) g

        apart : (r : Block) → Mem r bs → (a t : ℕ) → Covered b a t → Covered r a t → ⊥
        apart r m a t c d = (apart_is c.piece d.piece).0 (x.between c.piece d.piece c.listed (mem_pieces bs r m d.listed)) a t c.covers d.covers

-- the pieces of one block never conflict
pub own_free : OwnFree
own_free b = (free_consistent (pieces b)).1 (subst Consistent (append-nil (pieces b)) (consistent_pieces (b ∷ []) ((λ r m. absurd (not-nil m)), tt)))

-- ── one block more ──

-- pieces free of conflicts, and behind them those of a block that clashes with none of them
pub free_added : (ps : List Piece) (b : Block) → free ps ≡ true → clash (pieces b) ps ≡ false → free (ps ++ pieces b) ≡ true
free_added ps b e h = (free_is (ps ++ pieces b)).1 (free_append ps (pieces b) (record {
  first = (free_is ps).0 e;
  second = (free_is (pieces b)).0 (own_free b);
  between = λ p r m k. is_false (conflicting p r) (λ x. not_both ((clash_none (pieces b) ps).0 h r p k m) (shares_sym p r x));
}))

pub consistent_added : ConsistentAdded
consistent_added bs b c h = (blocks_free (bs ++ (b ∷ []))).0 (subst (λ (ps : List Piece). free ps ≡ true) (sym (pieces_added bs b)) (free_added (pieces_of bs) b ((blocks_free bs).1 c) h))

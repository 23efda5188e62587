-- Demand 3, whole: every list of record, finish and search calls on a newly opened index. Assumes nothing.
use Prim.Native.Nat.{ℕ, suc, ◌+◌, ◌<◌}
use native.Mathlib.Omega.{arith}
use mathlib.Core.Path.{◌≡◌, sym, ◌∙◌, subst}
use mathlib.Core.List.Memᴰ.{head as here}
use mathlib.Core.List.Memᴰ.{tail as later}
use mathlib.Core.List.{List, [], ◌∷◌, Memᴰ as Mem}
use lib.ListN.{length, get_or}
use Rattle.definitions.specs.Blocks.{Block, Piece, pieces_of}
use Rattle.definitions.proofs.Order.{mem_get_or}
use Rattle.definitions.proofs.Cutting.{FromBlock, pieces_mem}
use Rattle.location.specs.Fits as L
use Rattle.index_memory.proofs.Holding.{opened_fresh}
use Rattle.recording.proofs.Taken.{read_appended}
use Rattle.demand.specs.Demand.{Fits, Demand3}
use Rattle.demand.proofs.Follow.{AllFit}
use Rattle.demand.proofs.SavedTrie.{PieceFits}
use Rattle.demand.proofs.ReadFinished.{read_finished}
use Rattle.demand.proofs.Demand.{piece_sound, demand_3}
use Rattle.definitions.specs.Recording.{Sound}

-- where a member stands
record At (b : ℕ) (bs : List ℕ) : Type 0 where
  index : ℕ
  inside : index < length bs
  is : get_or bs index 0 ≡ b

mem_at : {b : ℕ} (bs : List ℕ) → Mem b bs → At b bs
mem_at {b = b} [] x' = elim x' [ ]
mem_at (c ∷ bs) (here e) = record { index = 0; inside = omega arith; is = sym e }
mem_at {b} (c ∷ bs) (later h) = go (mem_at bs h)
  where
    go : At b bs → At b (c ∷ bs)
    go a = record { index = suc a.index; inside = omega (arith, a.inside); is = a.is }

pub location_fits : (b : Block) → Fits b → L.Fits b.at
location_fits b f = record { address = omega (arith, f.address); created = omega (arith, f.created); destroyed = omega (arith, f.destroyed) }

-- the pieces of blocks that were taken, of callers' blocks, can be saved
pub pieces_fit : (bs : List Block) → ((b : Block) → Mem b bs → Sound b) → AllFit bs → (p : Piece) → Mem p (pieces_of bs) → PieceFits p
pieces_fit bs s f p h = go (pieces_mem bs h)
  where
    go : FromBlock bs p → PieceFits p
    go k =
        let w : Fits k.block = f k.block k.listed in
        let v : Sound k.block = s k.block k.listed in
        record {
          sound = piece_sound bs s p h;
          bytes = λ x m. byte x (mem_at p.bytes m);
          small = record { address = omega (arith, k.piece.address, k.piece.fits, v.below); created = omega (arith, k.piece.created, w.created); destroyed = omega (arith, k.piece.destroyed, w.destroyed) };
        }
      where
        byte : (x : ℕ) → At x p.bytes → x < 256
        byte x a =
            let i : ℕ = k.piece.skip + a.index in
            let inside : i < length k.block.bytes = omega (arith, a.inside, k.piece.fits) in
            let e : get_or k.block.bytes i 0 ≡ x = sym (k.piece.same a.index a.inside) ∙ a.is in
            subst (λ (y : ℕ). y < 256) e ((f k.block k.listed).bytes (get_or k.block.bytes i 0) (mem_get_or k.block.bytes i inside))

-- demand 3
pub demand : Demand3
demand =
    demand_3 opened_fresh
    (λ c m ps b e q f. read_appended m c ps b e q (location_fits b f))
    (λ c m s r a e. read_finished m c (pieces_of s.blocks) e (pieces_fit s.blocks r.sound a))

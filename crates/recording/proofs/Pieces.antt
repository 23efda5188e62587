-- The pieces of a sound block are sound and fit into a log. Assumes nothing.
use native.Mathlib.Omega.{arith}
use Rattle.definitions.specs.Blocks.{Block, pieces}
use Rattle.definitions.specs.Recording.{Sound}
use Rattle.definitions.proofs.Cutting.{PieceOf, piece_of}
use Rattle.location.specs.Fits.{Fits}
use Rattle.index_memory.proofs.LogBytes.{AllFit, AllSound}

pub sound_pieces : (b : Block) → Sound b → AllSound (pieces b)
sound_pieces b s p k =
    let w : PieceOf b.at b.bytes p = piece_of b p k in
    record {
      small = w.small;
      alive = omega (arith, w.created, w.destroyed, s.alive);
      below = omega (arith, w.address, w.fits, s.below);
    }

pub fit_pieces : (b : Block) → Sound b → Fits b.at → AllFit (pieces b)
fit_pieces b s f p k =
    let w : PieceOf b.at b.bytes p = piece_of b p k in
    record {
      small = w.small;
      place = record {
        address = omega (arith, w.address, w.fits, s.below);
        created = omega (arith, w.created, f.created);
        destroyed = omega (arith, w.destroyed, f.destroyed);
      };
    }

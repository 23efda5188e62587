-- The pieces of the trie that a log makes are the log's. Assumes nothing.
use Prim.Native.Nat.{ℕ, ◌≤◌}
use mathlib.Core.List.{List, [], ◌∷◌, Memᴰ as Mem}
use lib.ListN.{length}
use Rattle.definitions.specs.Blocks.{Piece}
use Rattle.definitions.proofs.Chains.{SamePieces}
use Rattle.trie.specs.Trie.{root, trie_pieces}
use Rattle.trie.specs.Build.{entered_all, build, trie_of}
use Rattle.trie.proofs.Pieces.{pieces_has}
use Rattle.trie.proofs.BuildRule.{SoundPiece, apart_build, has_piece}

same_pieces : (d : ℕ) (ps : List Piece) → ((p : Piece) → Mem p ps → length p.bytes ≤ d) → SamePieces (trie_pieces (root (build d (entered_all ps)))) ps
same_pieces d ps short = record {
  to = λ p h. (has_piece d ps short p.bytes p.at).0 ((pieces_has (build d (entered_all ps)) (apart_build d (entered_all ps)) p).0 h);
  fro = λ p h. (pieces_has (build d (entered_all ps)) (apart_build d (entered_all ps)) p).1 ((has_piece d ps short p.bytes p.at).1 h);
}

pub trie_of_pieces : (ps : List Piece) → ((p : Piece) → Mem p ps → SoundPiece p) → SamePieces (trie_pieces (trie_of ps)) ps
trie_of_pieces [] sound = record { to = λ p h. h; fro = λ p h. h }
trie_of_pieces (p ∷ ps) sound = same_pieces 16 (p ∷ ps) (λ r h. (sound r h).short)

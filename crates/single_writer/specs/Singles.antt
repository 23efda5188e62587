-- The nodes of a single tail, one below the other: what is written. Assumes nothing.
use Rattle.std.specs.Prelude.{ℕ, ◌+◌, ◌-◌, ◌≡◌, List, [], ◌∷◌, ◌++◌}
use Rattle.words.specs.Words.{bytes64}
use Rattle.words.specs.Holding.{Holds}
use Rattle.tails.specs.Groups.{byte_at}
use Rattle.tail_words.specs.Tail.{tail_in}
use Rattle.list_writer.specs.declared.End.{End}
use Rattle.single_writer.specs.Heads.{Front}

-- a table of one child: the count, a byte and an offset, a flag
abbrev pub single_bytes : ℕ → ℕ → List ℕ
single_bytes b o = bytes64 1 ++ (b ∷ (bytes64 o ++ (1 ∷ [])))

-- s' is s with the node of tail i behind the end e, up to the node below it, and r is the end before that
pub record SingleWritten (s s' : List ℕ) (work i d : ℕ) (e r : End) : Type 0 where
  pub end : End
  pub front : Front s s' work i (i + 1) d 1 e end
  pub table : Holds s' end.at (single_bytes (byte_at d (tail_in s work i)) (end.at - 64 + 17))
  pub at : r.at ≡ end.at + 18
  pub nodes : r.nodes ≡ end.nodes
  pub entries : r.entries ≡ end.entries

-- s' is s with the node of tail i, which has none below it
pub record LeafWritten (s s' : List ℕ) (work i d : ℕ) (e r : End) : Type 0 where
  pub end : End
  pub front : Front s s' work i (i + 1) d 0 e end
  pub table : Holds s' end.at (bytes64 0)
  pub at : r.at ≡ end.at + 8
  pub nodes : r.nodes ≡ end.nodes
  pub entries : r.entries ≡ end.entries

-- What a call writes to an output, and where it goes on. Assumes nothing.
use Rattle.std.specs.Prelude.{ℕ, ◌+◌, ◌≡◌, List, [], ◌∷◌, ◌++◌, length}
use Rattle.std.proofs.lemmas.List.Edits.{sets}
use Rattle.definitions.specs.Program.{Reply, reply_line}

-- these bytes were written from index `at` on, and nothing else; r is the index behind them
pub record Written (before : List ℕ) (at : ℕ) (bytes after : List ℕ) (r : ℕ) : Type 0 where
  pub out : after ≡ sets before at bytes
  pub next : r ≡ at + length bytes

-- a reply's line and its newline
abbrev pub reply_bytes : Reply → List ℕ
reply_bytes p = reply_line p ++ (10 ∷ [])

-- What a call writes to an output that is lent. Assumes nothing.
use Rattle.std.specs.Prelude.{ℕ, ◌≡◌, List}
use Rattle.replies.specs.Written.{Written}
use Rattle.replies.specs.declared.Output.{Output}

-- these bytes were written where the output went on, and nothing else; it lends the same memory, and goes on behind them
pub record Writes (o : Output) (bytes : List ℕ) (o' : Output) : Type 0 where
  pub same_reference : o'.bytes.ghost_name ≡ o.bytes.ghost_name
  pub written : Written o.bytes.now o.at bytes o'.bytes.now o'.at

-- the same output, written anew from its start
abbrev pub emptied : Output → Output
emptied o = record o { at = 0 }

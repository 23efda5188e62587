-- The bytes of replies, one after the other. Assumes nothing.
use Rattle.std.specs.Prelude.{ℕ, List, [], ◌∷◌, ◌++◌}
use Rattle.definitions.specs.Program.{Reply}
use Rattle.replies.specs.Written.{reply_bytes}

-- replies as bytes, each with its newline
abbrev pub replies_bytes : List Reply → List ℕ
replies_bytes [] = []
replies_bytes (p ∷ ps) = reply_bytes p ++ replies_bytes ps

-- `words::put64` meets its contract: `set_le64` is `set_n` at eight. Assumes nothing.
use Rattle.words.specs.Words.{set_le64}
use Rattle.words.proofs.put64.Goals as goal

pub returns : goal.returns
unfolding set_le64
returns c = c.put.ensures

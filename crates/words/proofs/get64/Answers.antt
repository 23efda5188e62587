-- `words::get64` meets its contract: `le64` is `le_n` at eight. Assumes nothing.
use Rattle.words.specs.Words.{le64}
use Rattle.words.proofs.get64.Goals as goal

pub returns : goal.returns
unfolding le64
returns c = c.get.ensures

-- `test_replay::is_word` meets its contract. Assumes nothing.
use mathlib.Core.Path.{◌∙◌}
use Rattle.test_replay.proofs.Replaying.{word_is}
use Rattle.test_replay.proofs.is_word.Goals as goal

pub returns : goal.returns
returns c = c.eq.ensures ∙ word_is c.args.word.now c.args.line.now

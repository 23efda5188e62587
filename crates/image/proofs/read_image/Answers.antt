-- `image::read_image` meets its contract. Assumes nothing.
use mathlib.Core.Path.{◌∙◌, ap}
use Rattle.fields.specs.Answers.{layout_of}
use Rattle.fields.proofs.Passed.{passed}
use Rattle.image_format.proofs.Roots.{image_left_over, image_refused, image_right}
use Rattle.image.proofs.read_image.Goals as goal

pub returns-in_err-root : goal.returns-in_err-root
returns-in_err-root c = ap layout_of (passed _ _ c.from_residual.ensures.1) ∙ image_refused _ _ c.in_err-root.ensures

pub returns-then-root-s : goal.returns-then-root-s
returns-then-root-s c = image_left_over _ _ _ _ _ c.in_ok-root.ensures c.if-root-s.true

pub returns : goal.returns
returns c = image_right _ _ _ _ _ c.in_ok-root.ensures c.if-root-s.false

-- `fields::read_head` meets its contract. Assumes nothing.
use Prim.Native.Nat.{ℕ, ◌+◌, ◌<◌}
use native.Mathlib.Omega.{arith}
use mathlib.Core.List.{List}
use mathlib.Core.Logic.{◌⊎◌, inl, inr}
use mathlib.Core.Path.{◌∙◌, ◌≡◌, ap}
use lib.ListN.{get_or, length}
use Rattle.std.specs.Prelude.{Result, Err}
use Rattle.std.specs.Result.{IsErrAnd}
use Rattle.definitions.specs.declared.refusal.Refusal.{Refusal}
use Rattle.definitions.specs.declared.refusal.Refusal.TheVariants.{CutShort}
use Rattle.kinds.specs.declared.NodeKind.{NodeKind}
use Rattle.kinds.specs.Kinds.{kind_number}
use Rattle.kinds.proofs.KindRule.{number_range}
use Rattle.image_format.proofs.Heads.{head_end, head_lists, head_over, head_zero, list_bound, lists_cut, lists_cut_2, lists_cut_3, lists_ready}
use Rattle.image_format.specs.Reading.{no_head, read_head, read_lists}
use Rattle.fields.specs.declared.Head.{Head}
use Rattle.fields.specs.Answers.{head_of}
use Rattle.fields.proofs.Passed.{passed}
use Rattle.fields.proofs.read_head.Goals as goal

module _ (s : List ℕ) (at : ℕ) (h : at < length s) where
  unknown : (get_or s at 0 ≡ 0) ⊎ (3 < get_or s at 0) → no_head 14 ≡ read_head s at
  unknown (inl e) = head_zero s at h e
  unknown (inr e) = head_over s at h e

  known : (k : NodeKind) → kind_number k ≡ get_or s at 0 → read_lists s (kind_number k) (at + 1) ≡ read_head s at
  known k e = ap (λ (n : ℕ). read_lists s n (at + 1)) e ∙ head_lists s at h (omega (arith, number_range k)) (omega (arith, number_range k))

-- what is passed on of a list that is cut short
cut_short : (r : Result Head Refusal) (e : Refusal) → IsErrAnd r (λ x. x ≡ e) → e ≡ CutShort → head_of r ≡ no_head 13
cut_short r e h k = ap head_of (passed r e h ∙ ap Err k)

pub returns-then-at-s : goal.returns-then-at-s
returns-then-at-s c = head_end _ _ (omega arith)

pub returns-in_default : goal.returns-in_default
returns-in_default c = unknown _ _ (omega arith) c.in_default.ensures.1

pub read_list-requires-2 : goal.read_list-requires-2
read_list-requires-2 c = (list_bound _ _ _ _ c.in_ok-prefixes.ensures.list).1

pub read_list-requires-3 : goal.read_list-requires-3
read_list-requires-3 c = (list_bound _ _ _ _ c.in_ok-chunks.ensures.list).1

pub overflow_add-result : goal.overflow_add-result
overflow_add-result c = omega (arith, list_bound _ _ _ _ c.in_ok-prefixes.ensures.list, list_bound _ _ _ _ c.in_ok-chunks.ensures.list)

pub overflow_add-result-2 : goal.overflow_add-result-2
overflow_add-result-2 c = omega (arith, list_bound _ _ _ _ c.in_ok-prefixes.ensures.list, list_bound _ _ _ _ c.in_ok-chunks.ensures.list, list_bound _ _ _ _ c.in_ok-suffixes.ensures.list)

pub returns-in_err-prefixes : goal.returns-in_err-prefixes
returns-in_err-prefixes c =
    cut_short _ _ c.from_residual.ensures.1 c.in_err-prefixes.ensures.cut_short ∙
    lists_cut _ _ _ c.in_err-prefixes.ensures.list ∙ known _ _ (omega arith) _ c.in-Ok.ensures

pub returns-in_err-chunks : goal.returns-in_err-chunks
returns-in_err-chunks c =
    cut_short _ _ c.from_residual-in_err-chunks.ensures.1 c.in_err-chunks.ensures.cut_short ∙
    lists_cut_2 _ _ _ _ _ c.in_ok-prefixes.ensures.list c.in_err-chunks.ensures.list ∙ known _ _ (omega arith) _ c.in-Ok.ensures

pub returns-in_err-suffixes : goal.returns-in_err-suffixes
returns-in_err-suffixes c =
    cut_short _ _ c.from_residual-in_err-suffixes.ensures.1 c.in_err-suffixes.ensures.cut_short ∙
    lists_cut_3 _ _ _ _ _ _ _ c.in_ok-prefixes.ensures.list c.in_ok-chunks.ensures.list c.in_err-suffixes.ensures.list ∙ known _ _ (omega arith) _ c.in-Ok.ensures

pub returns : goal.returns
returns c =
    lists_ready _ _ _ _ _ _ _ _ _ c.in_ok-prefixes.ensures.list c.in_ok-chunks.ensures.list c.in_ok-suffixes.ensures.list ∙
    known _ _ (omega arith) _ c.in-Ok.ensures

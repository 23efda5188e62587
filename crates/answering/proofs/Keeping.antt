-- What the whole of a line is answered that was kept in parts. Assumes nothing.
use Prim.Native.Nat.{ℕ, ◌≤◌, ◌<◌}
use native.Mathlib.Omega.{arith}
use mathlib.Core.Path.{◌≡◌, refl, ap, ◌∙◌}
use mathlib.Core.Logic.{◌⊎◌, inl, inr}
use mathlib.Core.List.{List, [], ◌∷◌}
use lib.ListN.{length}
use borrow.Author.Tests.{lt-ltb}
use Rattle.std.proofs.lemmas.Bool.{cases_lt}
use Rattle.forms.specs.ReadLine.{read_line}
use Rattle.form_answers.specs.Memory.{line_answer, memory_after_line}
use Rattle.lines.specs.Kept.{Kept, part, too_long, keeps}
use Rattle.lines.proofs.Keeping.{keeps_fit, keeps_over}
use Rattle.answering.specs.Parts.{kept_answer, kept_memory, end_answer, end_memory}

-- ── the whole line ──

module _ (m l : List ℕ) where
  -- a line is answered as what is kept of it
  pub line_kept : kept_answer m (keeps (part []) l) ≡ line_answer m l
  unfolding line_answer read_line
  line_kept = go (cases_lt 1024 (length l))
    where
      go : (1024 < length l) ⊎ (length l ≤ 1024) → kept_answer m (keeps (part []) l) ≡ line_answer m l
      go (inl h) = ap (kept_answer m) (keeps_over [] l (omega arith) (omega arith)) ∙ rw (lt-ltb 1024 (length l) h) refl
      go (inr h) = ap (kept_answer m) (keeps_fit [] l (omega arith))

  pub memory_kept : kept_memory m (keeps (part []) l) ≡ memory_after_line m l
  unfolding memory_after_line read_line
  memory_kept = go (cases_lt 1024 (length l))
    where
      go : (1024 < length l) ⊎ (length l ≤ 1024) → kept_memory m (keeps (part []) l) ≡ memory_after_line m l
      go (inl h) = ap (kept_memory m) (keeps_over [] l (omega arith) (omega arith)) ∙ rw (lt-ltb 1024 (length l) h) refl
      go (inr h) = ap (kept_memory m) (keeps_fit [] l (omega arith))

-- ── the last line ──

-- some bytes are kept, or the line is too long: the end of the input ends it
pub end_kept : (m : List ℕ) (k : Kept) → (k ≡ part [] → ⊥) → (end_answer m k ≡ kept_answer m k) × (end_memory m k ≡ kept_memory m k)
end_kept m (part []) n = absurd (n refl)
end_kept m (part (b ∷ l)) n = (refl, refl)
end_kept m too_long n = (refl, refl)

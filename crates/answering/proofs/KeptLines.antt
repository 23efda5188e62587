-- Answering what is kept of a line. Assumes nothing.
use Prim.Native.Nat.{ℕ, ◌<◌}
use native.Mathlib.Omega.{arith}
use mathlib.Core.Path.{◌≡◌, refl, sym, ap, subst}
use mathlib.Core.List.{List, [], ◌∷◌}
use lib.ListN.{length}
use Rattle.definitions.specs.Program.{refused}
use Rattle.replies.specs.Written.{reply_bytes}
use Rattle.replies.specs.declared.Output.{Output}
use Rattle.replies.specs.Outputs.{Writes}
use Rattle.replies.proofs.Writing.{writes_none}
use Rattle.form_answers.specs.Memory.{line_answer, memory_after_line}
use Rattle.lines.specs.Kept.{Kept, part, too_long, keeps}
use Rattle.answering.specs.Parts.{kept_answer, kept_memory, end_answer, end_memory}
use Rattle.form_answers.specs.Answered.{AnsweredBy}
use Rattle.answering.proofs.Keeping.{line_kept, memory_kept, end_kept}
use Rattle.form_answers.proofs.Replying.{length_refused}
use Rattle.form_answers.proofs.LineForms.{same}

pub nothing_kept : (t : List ℕ) {k : Kept} → length t < 1 → part t ≡ k → k ≡ part []
nothing_kept [] h e = sym e
nothing_kept (b ∷ t) h e = absurd (omega arith)

module _ {out out' : Output} {m' : List ℕ} where
  -- what is kept is this
  pub kept_same : (m : List ℕ) {k k' : Kept} → k ≡ k' → AnsweredBy out (kept_answer m k) (kept_memory m k) out' m' → AnsweredBy out (kept_answer m k') (kept_memory m k') out' m'
  kept_same m e w = same (ap (kept_answer m) e) (ap (kept_memory m) e) w

  pub too_long_refused : Writes out (reply_bytes (refused 17)) out' → AnsweredBy out (kept_answer m' too_long) (kept_memory m' too_long) out' m'
  too_long_refused w = record { written = w; short = omega (arith, w.written.next, length_refused 17); leaves = refl }

  -- nothing was kept: the line is at hand
  pub line_at_hand : (m : List ℕ) (k : Kept) (xs : List ℕ) → k ≡ part [] → AnsweredBy out (line_answer m xs) (memory_after_line m xs) out' m' → AnsweredBy out (kept_answer m (keeps k xs)) (kept_memory m (keeps k xs)) out' m'
  line_at_hand m k xs e w = kept_same m (sym (ap (λ (k : Kept). keeps k xs) e)) (same (sym (line_kept m xs)) (sym (memory_kept m xs)) w)

  -- the end of the input
  pub end_line : (m : List ℕ) (k : Kept) → (k ≡ part [] → ⊥) → AnsweredBy out (kept_answer m k) (kept_memory m k) out' m' → AnsweredBy out (end_answer m k) (end_memory m k) out' m'
  end_line m k n w =
      let e = end_kept m k n in
      same (sym e.0) (sym e.1) w

-- nothing was kept: the end has no answer
pub end_none : (m : List ℕ) (out : Output) (k : Kept) → k ≡ part [] → AnsweredBy out (end_answer m k) (end_memory m k) out m
end_none m out k e = subst (λ (k : Kept). AnsweredBy out (end_answer m k) (end_memory m k) out m) (sym e) (record { written = writes_none out; short = omega arith; leaves = refl })

-- A line is answered as the form that it is.
use Prim.Native.Nat.{ℕ}
use mathlib.Core.Path.{◌≡◌, ap, subst}
use mathlib.Core.List.{List}
use mathlib.Core.Option.{Option}
use Rattle.definitions.specs.Program.{Form}
use Rattle.forms.specs.ReadLine.{read_line}
use Rattle.replies.specs.declared.Output.{Output}
use Rattle.replies.specs.Replies.{replies_bytes}
use Rattle.form_answers.specs.Memory.{form_answer, memory_after_form, line_answer, memory_after_line}
use Rattle.form_answers.specs.Answered.{AnsweredBy}

module _ {out out' : Output} {m' : List ℕ} where
  pub same : {a b m n : List ℕ} → a ≡ b → m ≡ n → AnsweredBy out a m out' m' → AnsweredBy out b n out' m'
  same {a} {b} {m} {n} e f w = subst (λ (x : List ℕ). AnsweredBy out b x out' m') f (subst (λ (x : List ℕ). AnsweredBy out x m out' m') e w)

  -- the form of the line was answered
  pub line_by_form : (m l : List ℕ) {o : Option Form} → o ≡ read_line l → AnsweredBy out (replies_bytes (form_answer m o)) (memory_after_form m o) out' m' → AnsweredBy out (line_answer m l) (memory_after_line m l) out' m'
  unfolding line_answer memory_after_line
  line_by_form m l e w = same (ap (λ (x : Option Form). replies_bytes (form_answer m x)) e) (ap (memory_after_form m) e) w

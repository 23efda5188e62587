-- Replies in an output: one alone, a refusal by its number, and the rows of a search. Assumes nothing.
use Prim.Native.Nat.{ℕ, ◌≤◌}
use native.Mathlib.Omega.{arith}
use mathlib.Core.Path.{◌≡◌, sym, ap, ◌∙◌}
use mathlib.Core.List.{List, [], ◌∷◌, append-nil}
use lib.ListN.{length}
use borrow.Author.Tests.{ne_eqb}
use Rattle.definitions.specs.Program.{text, decimal, Reply, refused}
use Rattle.definitions.specs.declared.refusal.Refusal.{Refusal}
use Rattle.definitions.specs.Refusals.{cause_of, number_of}
use Rattle.definitions.proofs.Checks.{number_some}
use Rattle.replies.specs.Written.{reply_bytes}
use Rattle.replies.specs.declared.Output.{Output}
use Rattle.replies.specs.Outputs.{Writes}
use Rattle.replies.proofs.Writing.{writes_same}
use Rattle.replies.specs.Replies.{replies_bytes}
use Rattle.form_answers.specs.Memory.{unless_number}
use Rattle.form_answers.specs.Answered.{AnsweredBy}
use Rattle.row_replies.proofs.PlaceReplies.{decimal_short, word_short}

-- ── how long replies are ──

pub length_refused : (n : ℕ) → length (reply_bytes (refused n)) ≤ 31
length_refused n = word_short (text "(refused ") (decimal n) (decimal_short n)

-- ── one reply ──

module _ {out out' : Output} {m m' : List ℕ} where
  -- the replies are one
  pub answered_one : (p : Reply) {rs : List Reply} → rs ≡ p ∷ [] → length (reply_bytes p) ≤ 4571 → Writes out (reply_bytes p) out' → m' ≡ m → AnsweredBy out (replies_bytes rs) m out' m'
  answered_one p {rs} e h w k = record {
    written = writes_same (sym (ap replies_bytes e ∙ append-nil (reply_bytes p))) w;
    short = omega (arith, w.written.next);
    leaves = k;
  }

  pub answered_refused : (n : ℕ) {rs : List Reply} → rs ≡ refused n ∷ [] → Writes out (reply_bytes (refused n)) out' → m' ≡ m → AnsweredBy out (replies_bytes rs) m out' m'
  answered_refused n e w k = answered_one (refused n) e (omega (arith, length_refused n)) w k

-- ── by the number of a refusal ──

pub was_done : {n : ℕ} (rs : List Reply) → 0 ≡ n → unless_number n rs ≡ rs
was_done rs e = ap (λ (k : ℕ). unless_number k rs) (sym e)

pub was_refused : {n : ℕ} (r : Refusal) (rs : List Reply) → number_of r ≡ n → unless_number n rs ≡ refused (number_of r) ∷ []
was_refused r rs e = ap (λ (k : ℕ). unless_number k rs) (sym e) ∙ rw (ne_eqb (number_of r) 0 (number_some (cause_of r)))

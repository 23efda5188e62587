-- What was found for a query, as replies. Assumes nothing.
use Prim.Native.Nat.{ℕ, ◌+◌, ◌*◌, ◌≤◌}
use native.Mathlib.Omega.{arith}
use mathlib.Core.Path.{◌≡◌, refl, sym, ap, ◌∙◌}
use mathlib.Core.List.{List}
use mathlib.Core.Option.{some}
use lib.ListN.{length}
use Rattle.std.specs.Prelude.{Ok, Err}
use Rattle.definitions.specs.Location.{Location, locations_in}
use Rattle.definitions.specs.Program.{find, refused, found}
use Rattle.definitions.specs.declared.refusal.Refusal.{Refusal}
use Rattle.definitions.specs.Refusals.{number_of}
use Rattle.row_buffer.specs.Answer.{RowsFound, Finding, finding_of, finding_in, AtFront}
use Rattle.finding.specs.Find.{find_memory}
use Rattle.handing_over.proofs.Finding.{found_fit}
use Rattle.replies.specs.Written.{reply_bytes}
use Rattle.replies.specs.declared.Output.{Output}
use Rattle.replies.specs.Outputs.{Writes}
use Rattle.replies.specs.Replies.{replies_bytes}
use Rattle.replies.proofs.Writing.{writes_same}
use Rattle.form_answers.specs.Memory.{found_replies, form_answer}
use Rattle.form_answers.specs.Answered.{AnsweredBy}
use Rattle.form_answers.proofs.Replying.{answered_refused, was_done, was_refused}

-- o is found where scratch is as large as the code has it
module _ (m q : List ℕ) (o : RowsFound) (e : o ≡ find_memory m q 6144 64) where
  pub found_none : (r : Refusal) → finding_in (Err r) ≡ finding_of o → {out out' : Output} → Writes out (reply_bytes (refused (number_of r))) out'
      → AnsweredBy out (replies_bytes (form_answer m (some (find q)))) m out' m
  found_none r f y = answered_refused (number_of r) (ap found_replies (sym e) ∙ was_refused r (found o.rows) (ap (λ (g : Finding). g.refusal) f)) y refl

  module _ (n : ℕ) (f : finding_in (Ok n) ≡ finding_of o) where
    pub found_fits : n ≤ 64
    found_fits = omega (arith, ap (λ (g : Finding). g.count) f, ap (λ (k : RowsFound). length k.rows) e, found_fit m q 6144 64)

    pub found_rows : {s : List ℕ} {out out' : Output} → AtFront o.rows s → Writes out (replies_bytes (found (locations_in s n 0))) out' → out'.at ≤ out.at + n * 71 + 27
        → AnsweredBy out (replies_bytes (form_answer m (some (find q)))) m out' m
    found_rows {s} a y l =
        let stand : locations_in s n 0 ≡ o.rows = ap (λ (k : ℕ). locations_in s k 0) (ap (λ (g : Finding). g.count) f) ∙ a.stand in
        record {
          written = writes_same
              (ap (λ (ls : List Location). replies_bytes (found ls)) stand
              ∙ ap replies_bytes (sym (ap found_replies (sym e) ∙ was_done (found o.rows) (ap (λ (g : Finding). g.refusal) f)))) y;
          short = omega (arith, found_fits);
          leaves = refl;
        }

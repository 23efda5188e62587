-- The ways to an answer by rows: none, more than have room, all of them. Assumes nothing.
use Prim.Native.Nat.{ℕ, ◌+◌, ◌*◌, ◌≤◌, ◌<◌}
use native.Mathlib.Omega.{arith}
use mathlib.Core.Path.{◌≡◌, refl, sym, ap, subst, ◌∙◌}
use mathlib.Core.List.{List}
use lib.ListN.{length, get_or}
use lib.Seq.{sets}
use borrow.Author.Tests.{lt-ltb, le-ltb}
use Rattle.definitions.specs.Location.{Location, locations_in, locations_bytes}
use Rattle.definitions.specs.Rows.{combine_split_times}
use Rattle.definitions.specs.Causes.{number, too_many_rows}
use Rattle.row_buffer.specs.Answer.{RowsFound, Finding, refused, finding_of, AtFront, rows_answer}
use Rattle.row_buffer.proofs.Standing.{rows_fit, rows_stand, rows_kept}

-- what is said of what was found: the finding, and where its rows stand
abbrev pub Answers : RowsFound → List ℕ → Finding → Type 0
Answers o s f = (f ≡ finding_of o) × AtFront o.rows s

-- nothing is found, or a refusal says why
pub none_answers : {o : RowsFound} {f : Finding} (s : List ℕ) (n : ℕ) → o ≡ refused n → f ≡ finding_of (refused n) → Answers o s f
unfolding locations_in
none_answers {o} {f} s n e g = subst (λ (x : RowsFound). Answers x s f) (sym e) (g, record { within = omega arith; stand = refl })

pub rows_refused : (rs : List Location) (room : ℕ) (s : List ℕ) {count : ℕ} {f : Finding} → count ≡ length rs → room < count → f ≡ finding_of (refused (number too_many_rows)) → Answers (rows_answer rs room) s f
unfolding rows_answer
rows_refused rs room s e h g = none_answers s (number too_many_rows) (rw (lt-ltb room (length rs) (omega arith)) refl) g

counted : {c n : ℕ} → c ≡ n → ◌≡◌ {A = Finding} (record { refusal = 0; count = c }) (record { refusal = 0; count = n })
counted e = λ i. record { refusal = 0; count = e i }

-- they are written to the front
pub rows_written : (s : List ℕ) (n at room : ℕ) {count : ℕ} {s' : List ℕ} {f : Finding} → at + n * 24 ≤ length s → ((k : ℕ) → get_or s k 0 < 256)
    → count ≡ length (combine_split_times (locations_in s n at)) → count ≤ room → s' ≡ sets s 0 (locations_bytes (combine_split_times (locations_in s n at)))
    → f ≡ record { refusal = 0; count = count } → Answers (rows_answer (combine_split_times (locations_in s n at)) room) s' f
unfolding rows_answer
rows_written s n at room {s' = s'} h b e k g f =
    let rs : List Location = combine_split_times (locations_in s n at) in
    let kept : length s' ≡ length s = ap length g ∙ rows_kept s n at h in
    rw (le-ltb room (length rs) (omega arith)) (f ∙ counted e, record { within = omega (arith, rows_fit s n at h); stand = rw g (rows_stand s n at h b) })

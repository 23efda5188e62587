-- `form_answers::answer_find` meets its contract. Assumes nothing.
use Prim.Native.Nat.{ℕ}
use native.Mathlib.Omega.{arith}
use mathlib.Core.Path.{◌≡◌, ap}
use mathlib.Core.List.{List}
use lib.ListN.{length, replicate, length-replicate}
use Rattle.row_buffer.specs.Answer.{Finding}
use Rattle.finding.specs.Find.{find_memory}
use Rattle.form_answers.proofs.Finding.{found_fits, found_none, found_rows}
use Rattle.form_answers.proofs.answer_find.Goals as goal

same : (m q : List ℕ) → find_memory m q (length {A = ℕ} (replicate 6144 0)) 64 ≡ find_memory m q 6144 64
same m q = ap (λ (k : ℕ). find_memory m q k 64) (length-replicate {A = ℕ} 6144 0)

pub put_rows-requires : goal.put_rows-requires
put_rows-requires c =
    let a = c.args in
    let k = c.in-Ok.ensures in
    let n = ap (λ (f : Finding). f.count) k.found in
    (omega (arith, found_fits a.mem.now a.q.now _ (same a.mem.now a.q.now) c.in-Ok.count k.found), omega (arith, n, k.rows.within))

pub returns-in-Ok : goal.returns-in-Ok
returns-in-Ok c =
    let a = c.args in
    let k = c.in-Ok.ensures in
    found_rows a.mem.now a.q.now _ (same a.mem.now a.q.now) c.in-Ok.count k.found k.rows c.put_rows.ensures.written c.put_rows.ensures.upper_bound

pub returns-in-Err : goal.returns-in-Err
returns-in-Err c =
    let a = c.args in
    found_none a.mem.now a.q.now _ (same a.mem.now a.q.now) c.in-Err.refusal c.in-Err.ensures.found c.put_refused.ensures

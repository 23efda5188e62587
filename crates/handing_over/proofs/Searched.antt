-- What a call hands over is what was found: the refusal, the count, the rows put over the first ones, and scratch. Assumes nothing.
use Prim.Native.Nat.{ℕ, ◌*◌, ◌≤◌}
use Rattle.std.specs.Prelude.{Result, Ok, Err, IfOk}
use Rattle.std.specs.Result.{ForOk}
use native.Mathlib.Omega.{arith}
use mathlib.Core.Path.{◌≡◌, sym, ap, ◌∙◌, subst}
use mathlib.Core.List.{List}
use lib.ListN.{length}
use Rattle.definitions.specs.Location.{locations_in}
use Rattle.definitions.specs.Causes.{ScratchAfter}
use Rattle.definitions.specs.declared.refusal.Refusal.{Refusal}
use Rattle.definitions.specs.Refusals.{number_in}
use Rattle.rows.specs.declared.Row.{Row}
use Rattle.rows.specs.Rows.{rows_of, rows_over}
use Rattle.row_buffer.specs.Answer.{Finding, finding_in}
use Rattle.finding.specs.Find.{RowsFound}
use Rattle.handing_over.specs.Lent.{put_over}
use Rattle.handing_over.specs.Search.{Found}
use Rattle.handing_over.proofs.Finding.{handed_over}
use Rattle.finding.proofs.FindCall.{Finds}

-- the answer r, the rows rs, and scratch x, which is s afterwards, are those of what was found
pub record Hands (g : Found) (r : Result ℕ Refusal) (rs : List Row) (x s : List ℕ) : Type 0 where
  pub number : number_in r ≡ g.refusal
  pub count : IfOk r (λ n. n ≡ g.count)
  pub rows : rs ≡ g.rows
  pub scratch : ScratchAfter g.refusal x s

-- o was found: f says so, and x is scratch before, s afterwards
module _ (o : RowsFound) (x : List ℕ) (rows : List Row) {s : List ℕ} {f : Finding} (found : Finds o x s f) where
  refused : f.refusal ≡ o.refusal
  refused = ap (λ (h : Finding). h.refusal) found.0

  counted : f.count ≡ length o.rows
  counted = ap (λ (h : Finding). h.count) found.0

  -- the rows have room, and stand in scratch
  pub able : length o.rows ≤ length rows → (f.count ≤ length rows) × (f.count * 24 ≤ length s)
  able fit = (omega (arith, counted), omega (arith, counted, found.1.0.within))

  handed : locations_in s f.count 0 ≡ o.rows
  handed = ap (λ (n : ℕ). locations_in s n 0) counted ∙ found.1.0.stand

  module _ {g : Found} (is : g ≡ handed_over o rows) where
    told : record { refusal = f.refusal; count = f.count; rows = rows_over (locations_in s f.count 0) rows } ≡ g
    told = sym (is ∙ (λ i. record { refusal = sym refused i; count = sym counted i; rows = rows_over (sym handed i) rows }))

    scratch_left : ScratchAfter g.refusal x s
    scratch_left = subst (λ (n : ℕ). ScratchAfter n x s) (sym refused ∙ ap (λ (h : Found). h.refusal) told) found.1.1

-- a refusal has no rows, so that those that are lent stay
pub hands : (o : RowsFound) (x : List ℕ) (rows : List Row) {s : List ℕ} {g : Found} → g ≡ handed_over o rows → (r : Result ℕ Refusal) → Finds o x s (finding_in r)
    → (rs : List Row) → rs ≡ put_over r s rows → Hands g r rs x s
unfolding locations_in rows_of
hands o x rows is (Ok n) found rs e =
    let t = told o x rows found is in
    record { number = ap (λ (h : Found). h.refusal) t; count = ap (λ (h : Found). h.count) t; rows = e ∙ ap (λ (h : Found). h.rows) t; scratch = scratch_left o x rows found is }
hands o x rows is (Err r) found rs e =
    let t = told o x rows found is in
    record { number = ap (λ (h : Found). h.refusal) t; count = tt; rows = e ∙ ap (λ (h : Found). h.rows) t; scratch = scratch_left o x rows found is }

-- what handing over asks
pub asked : (o : RowsFound) (x : List ℕ) (rows : List Row) {s : List ℕ} (r : Result ℕ Refusal) → Finds o x s (finding_in r) → length o.rows ≤ length rows → ForOk r (λ n. (n ≤ length rows) × (n * 24 ≤ length s))
asked o x rows {s} r found fit n e = able o x rows (subst (λ (y : Result ℕ Refusal). Finds o x s (finding_in y)) e found) fit

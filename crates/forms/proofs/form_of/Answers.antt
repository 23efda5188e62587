-- `forms::form_of` meets its contract: the word that a line begins with decides. Assumes nothing.
use native.Mathlib.Omega.{arith}
use mathlib.Core.Path.{sym, ◌∙◌}
use lib.ListN.{drop}
use Rattle.std.proofs.lemmas.Slice.Eq.{slice_eq-Decides}
use Rattle.std.proofs.lemmas.Bool.Decides.{Decides-eqb}
use Rattle.definitions.specs.Program.{text}
use Rattle.hex_pairs.specs.HexBytes.{last_bytes}
use Rattle.forms.proofs.Ways.{not_counted, find_counted, line_long, line_block, line_find, line_finish}
use Rattle.forms.proofs.form_of.Goals as goal

pub returns-then-line-gt-LINE_LIMIT : goal.returns-then-line-gt-LINE_LIMIT
returns-then-line-gt-LINE_LIMIT c = line_long c.args.line.now (omega arith)

pub returns-then-starts_with : goal.returns-then-starts_with
returns-then-starts_with c = c.block_form.ensures ∙ line_block c.args.line.now (omega arith) (sym c.starts_with.ensures ∙ c.if-starts_with.true)

pub returns-in_err-length : goal.returns-in_err-length
returns-in_err-length c =
    let l = c.args.line.now in
    let b = sym c.starts_with.ensures ∙ c.if-starts_with.false in
    let f = sym c.starts_with-2.ensures ∙ c.if-starts_with-2.true in
    let e = not_counted (last_bytes (drop 6 l)) c.in_err-length.ensures in
    rw (c.from_residual.ensures, ← line_find l (omega arith) b f, e)

pub returns-then-starts_with-2 : goal.returns-then-starts_with-2
returns-then-starts_with-2 c =
    let l = c.args.line.now in
    let b = sym c.starts_with.ensures ∙ c.if-starts_with.false in
    let f = sym c.starts_with-2.ensures ∙ c.if-starts_with-2.true in
    find_counted (last_bytes (drop 6 l)) c.in_ok-length.length c.in_ok-length.ensures ∙ line_find l (omega arith) b f

pub returns : goal.returns
returns c =
    let l = c.args.line.now in
    let b = sym c.starts_with.ensures ∙ c.if-starts_with.false in
    let f = sym c.starts_with-2.ensures ∙ c.if-starts_with-2.false in
    let e = rw c.as_slice.ensures at c.eq.ensures in
    c.then_some.ensures ∙ line_finish l (omega arith) b f c.eq.result (slice_eq-Decides Decides-eqb l (text "(finish)") c.eq.result e)

-- `forms::block_form` meets its contract: four numbers and the bytes, each read behind the one before. Assumes nothing.
use lib.ListN.{drop}
use Rattle.forms.proofs.Ways.{not_counted, block_counted}
use Rattle.forms.specs.ReadLine.{read_block}
use Rattle.hex_pairs.specs.HexBytes.{last_bytes}
use Rattle.forms.proofs.block_form.Goals as goal

pub returns-in_err-kind : goal.returns-in_err-kind
unfolding read_block
returns-in_err-kind c = rw (c.from_residual.ensures, ← c.in_err-kind.ensures)

pub returns-in_err-address : goal.returns-in_err-address
unfolding read_block
returns-in_err-address c = rw (c.from_residual-in_err-address.ensures, ← c.in_ok-kind.ensures, ← c.in_err-address.ensures)

pub returns-in_err-created_at : goal.returns-in_err-created_at
unfolding read_block
returns-in_err-created_at c = rw (c.from_residual-in_err-created_at.ensures, ← c.in_ok-kind.ensures, ← c.in_ok-address.ensures, ← c.in_err-created_at.ensures)

pub returns-in_err-destroyed_at : goal.returns-in_err-destroyed_at
unfolding read_block
returns-in_err-destroyed_at c =
    rw (c.from_residual-in_err-destroyed_at.ensures, ← c.in_ok-kind.ensures, ← c.in_ok-address.ensures, ← c.in_ok-created_at.ensures, ← c.in_err-destroyed_at.ensures)

pub returns-in_err-length : goal.returns-in_err-length
unfolding read_block
returns-in_err-length c =
    let e = not_counted (last_bytes (drop c.in_ok-destroyed_at.d_end c.args.line.now)) c.in_err-length.ensures in
    rw (c.from_residual-in_err-length.ensures, ← c.in_ok-kind.ensures, ← c.in_ok-address.ensures, ← c.in_ok-created_at.ensures, ← c.in_ok-destroyed_at.ensures, e)

pub returns : goal.returns
unfolding read_block
returns c =
    let e =
    block_counted c.in_ok-kind.kind c.in_ok-address.address c.in_ok-created_at.created_at c.in_ok-destroyed_at.destroyed_at
    (last_bytes (drop c.in_ok-destroyed_at.d_end c.args.line.now)) c.in_ok-length.length c.in_ok-length.ensures in
    rw (← c.in_ok-kind.ensures, ← c.in_ok-address.ensures, ← c.in_ok-created_at.ensures, ← c.in_ok-destroyed_at.ensures) e

-- `fields::open_dense` meets its contract. Assumes nothing.
use native.Mathlib.Omega.{arith}
use mathlib.Core.Path.{◌∙◌, refl}
use Rattle.image_format.proofs.Tables.{open_dense, open_dense_cut}
use Rattle.image_format.specs.Reading.{dense_table}
use Rattle.fields.proofs.Tables.{table_numbered}
use Rattle.fields.proofs.open_dense.Goals as goal

pub returns-then-s-at-lt-DENSE_SIZE-clause-table : goal.returns-then-s-at-lt-DENSE_SIZE-clause-table
returns-then-s-at-lt-DENSE_SIZE-clause-table c = open_dense_cut _ _ _ refl (omega arith)

pub returns-clause-table : goal.returns-clause-table
returns-clause-table c = table_numbered (dense_table c.args.at) _ c.number.ensures ∙ open_dense _ _ _ refl (omega arith)

-- `tail_records::put_tail` meets its contract: what it writes, one after the other, are the numbers of the tail. Assumes nothing.
use Prim.Native.Nat.{ℕ}
use mathlib.Core.Path.{ap, ◌∙◌}
use mathlib.Core.List.{List}
use lib.Seq.{sets}
use Rattle.location.specs.Plain.{plain}
use Rattle.records.specs.Records.{record_bytes}
use Rattle.tail_records.proofs.Write.{record_in_turn, tail_numbers}
use Rattle.tail_records.proofs.put_tail.Goals as goal

pub returns : goal.returns
returns c =
    let a = c.args in
    record_in_turn a.at c.high_word.result c.high_word-2.result c.third.result (plain a.l) a.arrival a.mem.now _ _ _ _ _ c.put64.ensures c.put64-2.ensures c.put64-3.ensures c.put_location.ensures c.put64-4.ensures
    ∙ ap (λ (q : List ℕ). sets a.mem.now a.at (record_bytes q))
    (tail_numbers a.path.now a.whole c.min.result c.high_word.result c.high_word-2.result c.third.result a.arrival (plain a.l) c.min.ensures c.high_word.ensures c.high_word-2.ensures c.third.ensures)

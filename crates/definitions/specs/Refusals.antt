-- The code's refusals: the cause and the number of each. Assumes nothing.
use Rattle.std.specs.Prelude.{ℕ, Result, Ok, Err}
use Rattle.definitions.specs.Causes as D
use Rattle.definitions.specs.declared.refusal.Refusal.{Refusal}
use Rattle.definitions.specs.declared.refusal.Refusal.TheVariants as R

-- the cause that a refusal names
abbrev pub cause_of : Refusal → D.Cause
cause_of R.IndexRuleBroken = D.index_rule_broken
cause_of R.RecordAfterFinish = D.record_after_finish
cause_of R.BeforeFinish = D.before_finish
cause_of R.DataTooLong = D.data_too_long
cause_of R.NoLife = D.no_life
cause_of R.AddressTooHigh = D.address_too_high
cause_of R.TooManyNodes = D.too_many_nodes
cause_of R.TooManyEntries = D.too_many_entries
cause_of R.QueryTooLong = D.query_too_long
cause_of R.ScratchTooSmall = D.scratch_too_small
cause_of R.TooManyRows = D.too_many_rows
cause_of R.SaveBufferTooShort = D.save_buffer_too_short
cause_of R.CutShort = D.cut_short
cause_of R.UnknownKind = D.unknown_kind
cause_of R.ImageBroken = D.image_broken
cause_of R.CapacityRefused = D.capacity_refused
cause_of R.NoForm = D.no_form
cause_of R.Conflict = D.conflict
cause_of R.WrongNumber = D.wrong_number

-- its number
abbrev pub number_of : Refusal → ℕ
number_of r = D.number (cause_of r)

-- the refusal for a cause
abbrev pub refusal_for : D.Cause → Refusal
refusal_for D.index_rule_broken = R.IndexRuleBroken
refusal_for D.record_after_finish = R.RecordAfterFinish
refusal_for D.before_finish = R.BeforeFinish
refusal_for D.data_too_long = R.DataTooLong
refusal_for D.no_life = R.NoLife
refusal_for D.address_too_high = R.AddressTooHigh
refusal_for D.too_many_nodes = R.TooManyNodes
refusal_for D.too_many_entries = R.TooManyEntries
refusal_for D.query_too_long = R.QueryTooLong
refusal_for D.scratch_too_small = R.ScratchTooSmall
refusal_for D.too_many_rows = R.TooManyRows
refusal_for D.save_buffer_too_short = R.SaveBufferTooShort
refusal_for D.cut_short = R.CutShort
refusal_for D.unknown_kind = R.UnknownKind
refusal_for D.image_broken = R.ImageBroken
refusal_for D.capacity_refused = R.CapacityRefused
refusal_for D.no_form = R.NoForm
refusal_for D.conflict = R.Conflict
refusal_for D.wrong_number = R.WrongNumber

-- the number of an answer: 0 where it is not refused
abbrev pub number_in : {A : Type 0} → Result A Refusal → ℕ
number_in (Ok x) = 0
number_in (Err r) = number_of r

-- What the specs promise of places, rows and recordings is proved. Assumes nothing.
use Rattle.definitions.specs.Promises.{TableIsT, TableSorted, RowsBySet, TakenSound, TakenConsistent, RecordingRows, RecordingsSame}
use Rattle.definitions.proofs.Chains as chains
use Rattle.definitions.proofs.Taken as recordings

pub table_is_T : TableIsT
table_is_T = chains.table_is_T

pub table_sorted : TableSorted
table_sorted = chains.table_sorted

pub rows_by_set : RowsBySet
rows_by_set = chains.rows_by_set

pub taken_sound : TakenSound
taken_sound = recordings.taken_sound

pub taken_consistent : TakenConsistent
taken_consistent = recordings.taken_consistent

pub recording_rows : RecordingRows
recording_rows = recordings.recording_rows

pub recordings_same : RecordingsSame
recordings_same = recordings.recordings_same

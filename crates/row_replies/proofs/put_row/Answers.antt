-- `row_replies::put_row` meets its contract. Assumes nothing.
use mathlib.Core.Path.{ap}
use Rattle.definitions.specs.Location.{Location}
use Rattle.definitions.specs.Program.{place}
use Rattle.replies.specs.Written.{reply_bytes}
use Rattle.replies.proofs.Writing.{writes_same}
use Rattle.row_replies.proofs.put_row.Goals as goal

pub returns : goal.returns
returns c = writes_same (ap (λ (l : Location). reply_bytes (place l)) c.location_at-l.ensures) c.put_place.ensures

-- What a search finds: by the nodes and by the pieces, as its callers see it, and in the rows that are lent for it. Assumes nothing.
use Prim.Native.Nat.{ℕ, ◌/◌, ◌≤◌}
use native.Mathlib.Omega.{arith}
use mathlib.Core.Path.{◌≡◌, refl}
use mathlib.Core.List.{List}
use mathlib.Core.Option.{Option, none, some}
use lib.ListN.{length}
use borrow.Author.Tests.{ltb-false}
use Rattle.definitions.specs.Location.{Location}
use Rattle.definitions.specs.Rows.{rows}
use Rattle.definitions.specs.Causes.{Cause, first_cause}
use Rattle.definitions.specs.Calls.{Standing, search_checks}
use Rattle.definitions.proofs.Checks.{none_applies}
use Rattle.rows.specs.declared.Row.{Row}
use Rattle.rows.specs.Rows.{rows_of, rows_over}
use Rattle.index_memory.specs.Index.{standing_of, read_index}
use Rattle.finding.specs.Find.{RowsFound, rows_or_refused, find_memory}
use Rattle.handing_over.specs.Search.{Found, found_or_refused, search_memory}

-- ── what a memory holds decides ──

-- the rows that are found have room
rows_have_room : (s : Standing) (q : List ℕ) (scratch room : ℕ) → length (rows_or_refused (first_cause (search_checks s q scratch room)) (rows s.pieces q)).rows ≤ room
rows_have_room s q scratch room = go (first_cause (search_checks s q scratch room)) refl
  where
    go : (o : Option Cause) → first_cause (search_checks s q scratch room) ≡ o → length (rows_or_refused o (rows s.pieces q)).rows ≤ room
    go none e = ltb-false room (length (rows s.pieces q)) (none_applies (search_checks s q scratch room) e).1.1.1.1.0
    go (some c) e = omega arith

pub found_fit : (m q : List ℕ) (scratch room : ℕ) → length (find_memory m q scratch room).rows ≤ room
unfolding find_memory
found_fit m q scratch room = rows_have_room (standing_of (read_index m)) q (scratch / 24) room

-- ── in lent rows ──

-- what is found, handed over in lent rows
abbrev pub handed_over : RowsFound → List Row → Found
handed_over o lent = record { refusal = o.refusal; count = length o.rows; rows = rows_over o.rows lent }

pub pieces_handed : (o : Option Cause) (rs : List Location) (lent : List Row) → found_or_refused o rs lent ≡ handed_over (rows_or_refused o rs) lent
unfolding rows_of
pieces_handed none rs lent = refl
pieces_handed (some c) rs lent = refl

-- a search with lent rows finds what has room there, and hands it over
pub search_is_find : (m q : List ℕ) (scratch : ℕ) (lent : List Row) → search_memory m q scratch lent ≡ handed_over (find_memory m q scratch (length lent)) lent
unfolding search_memory find_memory
search_is_find m q scratch lent =
    pieces_handed (first_cause (search_checks (standing_of (read_index m)) q (scratch / 24) (length lent))) (rows (standing_of (read_index m)).pieces q) lent

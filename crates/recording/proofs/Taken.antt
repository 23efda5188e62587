-- A block that is taken: what its checks tell, and that its pieces fit and are sound. Assumes nothing.
use Prim.Native.Nat.{ℕ, ◌+◌}
use native.Mathlib.Omega.{arith}
use mathlib.Core.Path.{◌≡◌, sym, ap, ◌∙◌, subst}
use mathlib.Core.Bool.{false}
use mathlib.Core.List.{List, ◌++◌}
use mathlib.Core.Option.{none}
use lib.ListN.{length, length-append}
use Rattle.definitions.specs.Blocks.{Block, Piece, pieces, entry_charge, nodes_tallied, entries_tallied}
use Rattle.definitions.specs.Conflicts.{clash}
use Rattle.definitions.specs.Causes.{first_cause}
use Rattle.definitions.specs.Calls.{Capacity, block_checks}
use Rattle.definitions.specs.Recording.{Sound}
use Rattle.definitions.proofs.Tallied.{nodes_with, entries_with}
use Rattle.definitions.proofs.Checks.{none_applies}
use Rattle.definitions.proofs.Conflicts.{free_added}
use Rattle.definitions.proofs.Taken.{passed}
use Rattle.memory_header.specs.Layout.{Room}
use Rattle.index_memory.specs.Index.{open_header}
use Rattle.certificate.specs.Stored.{pieces_in, Stored}
use Rattle.certificate.proofs.Counting.{filled_upto}
use Rattle.judging.specs.Judged.{piece_count, block_nodes, grown, judged_checks}
use Rattle.recording.specs.Record.{Fitting}
use Rattle.recording.specs.Promises.{ReadAppended}
use Rattle.index_memory.proofs.Charges.{charge_count}
use Rattle.recording.proofs.Cut.{pieces_nodes, pieces_entries, pieces_length}
use Rattle.index_memory.proofs.Holding.{open_is}
use Rattle.recording.proofs.Pieces.{sound_pieces, fit_pieces}
use Rattle.recording.proofs.Appending.{read_behind}

-- ---- the checks

-- the tally with a block behind the pieces
pub tally_nodes : (ps : List Piece) (b : Block) → nodes_tallied (ps ++ pieces b) ≡ nodes_tallied ps + block_nodes (length b.bytes)
tally_nodes ps b = nodes_with ps (pieces b) ∙ ap (λ (n : ℕ). nodes_tallied ps + n) (pieces_nodes b)

pub tally_entries : (ps : List Piece) (b : Block) → entries_tallied (ps ++ pieces b) ≡ entries_tallied ps + entry_charge (length b.bytes)
tally_entries ps b = entries_with ps (pieces b) ∙ ap (λ (n : ℕ). entries_tallied ps + n) (pieces_entries b)

-- a block by the header that counts the pieces: the header that counts it too
pub grown_is : (c : Capacity) (ps : List Piece) (b : Block) → grown (open_header c ps) (length b.bytes) ≡ open_header c (ps ++ pieces b)
grown_is c ps b =
    let n = sym (tally_nodes ps b) in
    let e = sym (tally_entries ps b) in
    let k : length ps + piece_count (length b.bytes) ≡ length (ps ++ pieces b) = omega (arith, length-append ps (pieces b), pieces_length b) in
    λ i. record { capacity = c; phase = 0; nodes = n i; entries = e i; payload = k i }

-- and its checks
pub checks_are : (c : Capacity) (ps : List Piece) (b : Block) → judged_checks (open_header c ps) (clash (pieces b) ps) (length b.bytes) b.at ≡ block_checks c ps b
checks_are c ps b = rw (tally_nodes ps b, tally_entries ps b)

-- a block that no check turned back fits, whatever header is written
pub fitting : (m : List ℕ) (c : Capacity) (ps : List Piece) (b : Block) (count : ℕ) → Room m c → Stored m (open_header c ps) count → pieces_in m (open_header c ps) ≡ ps
    → first_cause (block_checks c ps b) ≡ none → Fitting m (open_header c ps) count b
fitting m c ps b count r t e z =
    let p = passed c _ _ _ (length b.bytes) b.at (none_applies (block_checks c ps b) z) in
    record {
      stored = t;
      sound = record { short = p.short; alive = p.alive; below = p.below };
      apart = subst (λ (x : List Piece). clash (pieces b) x ≡ false) (sym e) p.apart;
      log_room = omega (arith, charge_count (ps ++ pieces b), length-append ps (pieces b), pieces_length b, p.few_entries);
      room = omega (arith, charge_count (ps ++ pieces b), length-append ps (pieces b), pieces_length b, p.few_entries, r.held, t.counted, filled_upto (pieces_in m (open_header c ps)), ap length e);
    }

-- ---- what is read back

-- a block that is taken goes behind the pieces that are there
pub read_appended : ReadAppended
read_appended m c ps b e q f =
    let p = passed c _ _ _ _ _ (none_applies (block_checks c ps b) q) in
    let o = open_is m c ps e in
    let s : Sound b = record { short = p.short; alive = p.alive; below = p.below } in
    read_behind m c ps (pieces b) o (fit_pieces b s f) (sound_pieces b s) p.few_nodes p.few_entries (free_added ps b o.apart p.apart)

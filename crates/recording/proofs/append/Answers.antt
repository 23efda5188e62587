-- `recording::append` meets its contract: the pieces are written behind the log, and entered into the certificate. Assumes nothing.
use Prim.Native.Nat.{ℕ, ◌+◌}
use native.Mathlib.Omega.{arith}
use mathlib.Core.Path.{sym, ◌∙◌, subst}
use mathlib.Core.List.{List}
use lib.Seq.{sets}
use Rattle.memory_header.specs.Layout.{Header, work_at}
use Rattle.memory_header.specs.Answers.{header_of}
use Rattle.conflicts.specs.Order.{certificate}
use Rattle.index_memory.specs.Log.{log_in}
use Rattle.ordering.specs.Entering.{Entering}
use Rattle.recording.proofs.Fitted.{entering, put_some, put_none}
use Rattle.recording.proofs.append.Goals as goal

-- the memory with so many new pieces entered

abbrev entered : Header → List ℕ → ℕ → List ℕ
entered h x n = sets x (work_at h.capacity) (certificate (log_in x (h.payload + n) 64))

pub returns-then-n-eq0 : goal.returns-then-n-eq0
returns-then-n-eq0 c = c.put_pieces.ensures ∙ put_none _ _ _ _ c.requires (grind arith) c.if-n-eq0.true

pub enter_pieces-requires : goal.enter_pieces-requires
enter_pieces-requires c =
    let h = header_of c.args.h in
    let e = entering _ _ _ _ c.requires (grind arith) c.if-n-eq0.false in
    subst (λ (x : List ℕ). Entering x h c.args.count c.piece_count.result) (sym c.put_pieces.ensures) (subst (Entering _ h c.args.count) (sym c.piece_count.ensures) e)

pub returns : goal.returns
returns c =
    put_some _ _ _ _ c.requires (grind arith) _
    (c.enter_pieces.ensures ∙ (λ i. entered (header_of c.args.h) (c.put_pieces.ensures i) (c.piece_count.ensures i)))

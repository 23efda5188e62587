-- Which causes turn a block of a stream back, in reading and in recording it. Assumes nothing.
use Prim.Native.Nat.{ℕ}
use native.Mathlib.Omega.{arith}
use mathlib.Core.Path.{◌≡◌, refl, subst}
use mathlib.Core.Bool.{Bool, true, false, cond}
use mathlib.Core.Logic.{◌⊎◌, inl, inr}
use mathlib.Core.List.Memᴰ.{head as here}
use mathlib.Core.List.Memᴰ.{tail as later}
use mathlib.Core.List.{List, [], ◌∷◌, Memᴰ as Mem}
use mathlib.Core.Option.{Option, none, some}
use lib.ListN.{length, take}
use lib.Dec.{ltb, eqb}
use Rattle.definitions.specs.Blocks.{Block, memory_kind}
use Rattle.definitions.specs.BlockStream.{nothing, refused, read_block_checks, read_or_refuse, read_block}
use Rattle.definitions.specs.Causes.{Cause, number, cut_short, Check, causes, first_cause, checked, record_call, read_block_call}
use Rattle.definitions.specs.Calls.{Standing, record_checks}
use Rattle.definitions.proofs.Checks.{checks_in_order}
use Rattle.memory_header.specs.Opening.{unless_refused}
use Rattle.index_memory.specs.Index.{standing_of, read_index}
use Rattle.recording.specs.Record.{record_memory}

-- a number is that of a cause in a row
pub record From (row : List Cause) (n : ℕ) : Type 0 where
  pub cause : Cause
  pub is : n ≡ number cause
  pub listed : Mem cause row

-- the cause that decides stands in the list of checks
pub decides : (cs : List Check) (c : Cause) → first_cause cs ≡ some c → Mem c (causes cs)
decides [] c e = absurd (let z : ◌≡◌ {A = ℕ} 0 1 = cc in omega arith)
decides (k ∷ cs) c e = go k.applies (decides cs c) e
  where
    go : (o : Bool) → (first_cause cs ≡ some c → Mem c (causes cs)) → cond o (some k.cause) (first_cause cs) ≡ some c → Mem c (k.cause ∷ causes cs)
    go true ih f =
        let i : c ≡ k.cause = cc in
        here i
    go false ih f = later (ih f)

-- reading is refused for a cause of its row
pub read_refused : (s : List ℕ) (at n : ℕ) → refused n ≡ read_block s at → From (checked read_block_call) n
read_refused s at n e = go (ltb (length s) at) (eqb at (length s)) (first_cause (read_block_checks s at)) refl e
  where
    from : (c : Cause) → refused n ≡ refused (number c) → Mem c (checked read_block_call) → From (checked read_block_call) n
    from c f m =
        let i : n ≡ number c = cc in
        record { cause = c; is = i; listed = m }

    go : (o₁ o₂ : Bool) (a : Option Cause) → first_cause (read_block_checks s at) ≡ a → refused n ≡ cond o₁ (refused 13) (cond o₂ nothing (read_or_refuse a s at))
        → From (checked read_block_call) n
    go true o₂ a q f = from cut_short f (here refl)
    go false true a q f = absurd (let y : ◌≡◌ {A = ℕ} 0 1 = cc in omega arith)
    go false false none q f = absurd (let y : ◌≡◌ {A = ℕ} 0 1 = cc in omega arith)
    go false false (some c) q f = from c f (checks_in_order.read_block_order s at c (decides (read_block_checks s at) c q))

-- and recording for one of its own
pub record_refused : (m : List ℕ) (kind : ℕ) (b : Block) → ((record_memory m kind b).refusal ≡ 0) ⊎ From (checked record_call) (record_memory m kind b).refusal
unfolding record_memory
record_refused m kind b = go (first_cause (record_checks s kind b)) _ _ refl
  where
    s : Standing
    s = standing_of (read_index m)

    put_to : {c : Cause} → Mem c (causes (record_checks s kind b)) → Mem c (checked record_call)
    put_to {c} w = by_kind (eqb kind memory_kind) (subst (Mem c) (checks_in_order.record_order s kind b) w)
      where
        by_kind : (o : Bool) → Mem c (cond o (checked record_call) (take 3 (checked record_call))) → Mem c (checked record_call)
        by_kind true v = v
        by_kind false (here v) = here v
        by_kind false (later (here v)) = later (here v)
        by_kind false (later (later (later x13))) = elim x13 [ ]
        by_kind false (later (later (here v))) = later (later (here v))

    go : (o : Option Cause) (x y : List ℕ) → first_cause (record_checks s kind b) ≡ o
        → ((unless_refused o x y).refusal ≡ 0) ⊎ From (checked record_call) (unless_refused o x y).refusal
    go none x y e = inl refl
    go (some c) x y e = inr (record { cause = c; is = refl; listed = put_to (decides (record_checks s kind b) c e) })

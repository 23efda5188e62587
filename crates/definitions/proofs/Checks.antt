-- The checks of each call stand in the order of the table; what a list of checks tells that turns nothing back. Assumes nothing.
use Prim.Native.Nat.{ℕ}
use native.Mathlib.Omega.{arith}
use mathlib.Core.Path.{◌≡◌, refl}
use mathlib.Core.Bool.{Bool, true, false, cond}
use mathlib.Core.List.Memᴰ.{head as here}
use mathlib.Core.List.Memᴰ.{tail as later}
use mathlib.Core.List.{List, [], ◌∷◌, Memᴰ as Mem}
use mathlib.Core.Option.{Option, none, some}
use lib.ListN.{take}
use lib.Dec.{eqb}
use Rattle.definitions.specs.Blocks.{Block, memory_kind}
use Rattle.definitions.specs.Causes.{Cause, number, capacity_refused, index_rule_broken, record_after_finish, before_finish, data_too_long, no_life, address_too_high, too_many_nodes, too_many_entries, wrong_number, query_too_long, scratch_too_small, too_many_rows, save_buffer_too_short, cut_short, unknown_kind, image_broken, no_form, conflict, Check, first_cause, refusal_of, causes, checked, record_call, read_block_call}
use Rattle.definitions.specs.Calls.{Standing, block_checks, record_checks}
use Rattle.definitions.specs.BlockStream.{read_block_checks}
use Rattle.definitions.specs.Promises.{ChecksInOrder}

-- ── the order ──

by_kind : (s : Standing) (kind : ℕ) (b : Block) → causes (record_checks s kind b) ≡ cond (eqb kind memory_kind) (checked record_call) (take 3 (checked record_call))
by_kind s kind b = go (eqb kind memory_kind)
  where
    go : (o : Bool)
        → index_rule_broken ∷ record_after_finish ∷ unknown_kind ∷ causes (cond o (block_checks s.capacity s.pieces b) [])
        ≡ cond o (checked record_call) (take 3 (checked record_call))
    go true = refl
    go false = refl

-- the kind, and then five fields that the stream may end in
fields : {c : Cause} (s : List ℕ) (at : ℕ) → Mem c (causes (read_block_checks s at)) → Mem c (checked read_block_call)
fields s at (here e) = later (here e)
fields s at (later (here e)) = here e
fields s at (later (later (here e))) = here e
fields s at (later (later (later (here e)))) = here e
fields s at (later (later (later (later (here e))))) = here e
fields {c = c} s at (later (later (later (later (later (later x24)))))) = elim x24 [ ]
fields s at (later (later (later (later (later (here e)))))) = here e

pub checks_in_order : ChecksInOrder
checks_in_order = record {
  opening_order = λ c memory. refl;
  record_order = by_kind;
  stream_order = λ s. refl;
  stream_block_order = refl;
  finish_order = λ s. refl;
  search_order = λ s q scratch room. refl;
  search_number_order = λ s is_right number scratch room. refl;
  number_order = refl;
  scratch_order = refl;
  save_order = λ s image buffer. refl;
  load_order = λ s fault nodes entries. refl;
  read_block_order = λ s at c h. fields s at h;
  line_order = λ is-form. refl;
}

-- ── none applies ──

-- none of the causes applies
abbrev pub NoneApplies : List Check → Type 0
NoneApplies [] = Unit {0}
NoneApplies (c ∷ cs) = (c.applies ≡ false) × NoneApplies cs

pub none_applies : (cs : List Check) → first_cause cs ≡ none → NoneApplies cs
none_applies [] e = tt
none_applies (c ∷ cs) e = go c.applies (none_applies cs) e
  where
    go : (o : Bool) → (first_cause cs ≡ none → NoneApplies cs) → cond o (some c.cause) (first_cause cs) ≡ none → (o ≡ false) × NoneApplies cs
    go true ih f = absurd (let z : ◌≡◌ {A = ℕ} 0 1 = cc in omega arith)
    go false ih f = (refl, ih f)

-- no cause has the number 0
pub number_some : (c : Cause) → number c ≡ 0 → ⊥
number_some capacity_refused e = omega arith
number_some index_rule_broken e = omega arith
number_some record_after_finish e = omega arith
number_some before_finish e = omega arith
number_some data_too_long e = omega arith
number_some no_life e = omega arith
number_some address_too_high e = omega arith
number_some too_many_nodes e = omega arith
number_some too_many_entries e = omega arith
number_some query_too_long e = omega arith
number_some scratch_too_small e = omega arith
number_some too_many_rows e = omega arith
number_some save_buffer_too_short e = omega arith
number_some cut_short e = omega arith
number_some unknown_kind e = omega arith
number_some image_broken e = omega arith
number_some no_form e = omega arith
number_some conflict e = omega arith
number_some wrong_number e = omega arith

pub none_refused : (o : Option Cause) → refusal_of o ≡ 0 → o ≡ none
none_refused none e = refl
none_refused (some c) e = absurd (number_some c e)

-- Opening: what it answers by the numbers that it is given, and the header that it writes. Assumes nothing.
use Prim.Native.Nat.{ℕ, ◌≤◌}
use native.Mathlib.Omega.{arith}
use mathlib.Core.Path.{◌≡◌, refl}
use mathlib.Core.Bool.{Bool, true, false, not, ◌||◌, cond}
use mathlib.Core.List.{List}
use mathlib.Core.Option.{Option, none, some}
use lib.ListN.{length}
use lib.Seq.{length-sets}
use lib.Dec.{ltb}
use Rattle.definitions.specs.Causes.{Cause, capacity_refused}
use Rattle.definitions.specs.Calls.{Capacity, out_of_range, needed}
use Rattle.definitions.proofs.Views.{Lt, lt}
use Rattle.memory_header.specs.Layout.{Room, Header, header_at, header_bytes, with_header}
use Rattle.memory_header.specs.Opening.{Done, open_memory, unless_refused, fresh_memory}
use Rattle.memory_header.proofs.HeaderBytes.{HeaderFits, header_written, first_zero, second_zero}
use Rattle.memory_header.proofs.HeaderFacts.{Range, range, HeaderFacts}

-- a call that is refused leaves the memory
pub refused_leaves : (o : Option Cause) (old new : List ℕ) → ((unless_refused o old new).refusal ≡ 0 → ⊥) → (unless_refused o old new).memory ≡ old
refused_leaves none old new f = absurd (f refl)
refused_leaves (some c) old new f = refl

module _ (m : List ℕ) (c : Capacity) where
  -- the test of opening
  abbrev refuses : Bool
  refuses = out_of_range c.nodes || (out_of_range c.entries || ltb (length m) (needed c))

  abbrev View : Bool → Type 0
  View true = Room m c → ⊥
  View false = Room m c

  view : View refuses
  view = go (out_of_range c.nodes) (out_of_range c.entries) (ltb (length m) (needed c)) (range c.nodes) (range c.entries) (lt (length m) (needed c))
    where
      go : (o₁ o₂ o₃ : Bool) → Range (not o₁) c.nodes → Range (not o₂) c.entries → Lt o₃ (length m) (needed c) → View (o₁ || (o₂ || o₃))
      go true o₂ o₃ a b l = λ f. a f.some_nodes f.few_nodes
      go false true o₃ a b l = λ f. b f.some_entries f.few_entries
      go false false true a b l = λ f. omega (arith, f.held)
      go false false false a b l = record { some_nodes = a.0; few_nodes = a.1; some_entries = b.0; few_entries = b.1; held = l }

  -- what opening makes of its test
  abbrev by_test : Bool → Done
  by_test o = unless_refused (cond o (some capacity_refused) none) m (fresh_memory m c)

  pub open_refused : (Room m c → ⊥) → (16 ≡ (open_memory m c).refusal) × (m ≡ (open_memory m c).memory)
  unfolding open_memory
  open_refused f = go refuses view
    where
      go : (o : Bool) → View o → (16 ≡ (by_test o).refusal) × (m ≡ (by_test o).memory)
      go true v = (refl, refl)
      go false v = absurd (f v)

  pub open_taken : Room m c → (0 ≡ (open_memory m c).refusal) × (fresh_memory m c ≡ (open_memory m c).memory)
  unfolding open_memory
  open_taken f = go refuses view
    where
      go : (o : Bool) → View o → (0 ≡ (by_test o).refusal) × (fresh_memory m c ≡ (by_test o).memory)
      go true v = absurd (v f)
      go false v = (refl, refl)

  -- where opening is not refused, the memory holds the capacity
  pub open_holds : (open_memory m c).refusal ≡ 0 → Room m c
  unfolding open_memory
  open_holds e = go refuses view e
    where
      go : (o : Bool) → View o → (by_test o).refusal ≡ 0 → Room m c
      go true v f = absurd (omega arith)
      go false v f = v

-- ---- a header that is written

-- it is sound where its numbers are, and reads as it was written
module _ (m : List ℕ) (c : Capacity) (nodes entries payload : ℕ) (o : Room m c) (n : nodes ≤ c.nodes) (e : entries ≤ c.entries) (p : payload ≤ c.entries) where
  abbrev head : Header
  head = record { capacity = c; phase = 0; nodes = nodes; entries = entries; payload = payload }

  room : 64 ≤ length m
  room = omega (arith, o.held)

  fits : HeaderFits head
  fits = record {
    node_room = omega (arith, o.few_nodes);
    entry_room = omega (arith, o.few_entries);
    phase = omega arith;
    nodes = omega (arith, o.few_nodes);
    entries = omega (arith, o.few_entries);
    payload = omega (arith, o.few_entries);
  }

  pub head_at : header_at (with_header m head) ≡ head
  head_at = header_written head m room fits

  pub head_facts : HeaderFacts (with_header m head) head
  head_facts =
      let l : length (with_header m head) ≡ length m = length-sets m 0 (header_bytes head) in
      record {
        room = omega (arith, room);
        some_nodes = o.some_nodes;
        few_nodes = o.few_nodes;
        some_entries = o.some_entries;
        few_entries = o.few_entries;
        held = omega (arith, o.held);
        first_zero = first_zero head m room;
        second_zero = second_zero head m room;
        phase = omega arith;
        nodes = n;
        entries = e;
        payload = p;
      }

-- What the searches of the code tell of the stored certificate answers whether a block conflicts. Assumes nothing.
use Prim.Native.Nat.{ℕ, ◌+◌, ◌-◌, ◌≤◌, ◌<◌}
use native.Mathlib.Omega.{arith}
use mathlib.Core.Path.{◌≡◌, sym, ap, ◌∙◌, subst}
use mathlib.Core.Bool.{Bool, true, false}
use mathlib.Core.List.{List}
use lib.ListN.{get_or}
use Rattle.definitions.specs.Location.{Location}
use Rattle.definitions.proofs.Conflicts.{empty_free}
use Rattle.memory_header.specs.Layout.{Header}
use Rattle.conflicts.specs.Lined.{first_from, lives_among}
use Rattle.lined_locations.specs.declared.Line.{Line}
use Rattle.lined_locations.specs.Line.{location_of}
use Rattle.certificate.specs.declared.certified.Certified.{Certified}
use Rattle.certificate.specs.Stored.{pieces_in, Stored, StandsFor}
use Rattle.clashing.specs.Strikes.{strikes, Below, SaysConflict}
use Rattle.clashing.proofs.Splitting.{Split, split_at}
use Rattle.clashing.proofs.Deciding.{Known, clash_below, clash_above}

-- a block without bytes
pub says_none : (m : List ℕ) (h : Header) (x : Location) (n : ℕ) → n ≡ 0 → SaysConflict m h x n false
says_none m h x n e b size there = sym (empty_free b (pieces_in m h) (size ∙ e))

-- the line is that of the certificate in m, and its entries that may reach the address of x begin at number `from`
pub record Begun (m : List ℕ) (h : Header) (v : Line) (x : Location) : Type 0 where
  pub known : Known h v
  pub memory : v.bytes.now ≡ m
  pub low : ℕ
  pub from : ℕ
  pub lowest : low ≡ x.address - 15
  pub begins : from ≡ first_from (location_of v) (v.count - 0) 0 low 0

abbrev pub begun : {m : List ℕ} {h : Header} {count : ℕ} → ((k : ℕ) → get_or m k 0 < 256) → Stored m h count → (v : Certified) → StandsFor m h count v.entries.line → (x : Location) → {low from : ℕ} → low ≡ x.address - 15
    → from ≡ first_from (location_of v.entries.line) (v.entries.line.count - 0) 0 low 0 → Begun m h v.entries.line x
begun {m} {h} bytes s v e x {low} {from} l f = record {
  known = record {
    bytes = subst (λ (xs : List ℕ). (k : ℕ) → get_or xs k 0 < 256) (sym e.bytes) bytes;
    stored = subst (λ (xs : List ℕ). Stored xs h v.entries.line.count) (sym e.bytes) (subst (Stored m h) (sym e.counted) s);
    kind = v.logged;
    base = e.base;
    lined = v.entries.lined;
  };
  memory = e.bytes;
  low = low;
  from = from;
  lowest = l;
  begins = f;
}

module _ {m : List ℕ} {h : Header} {v : Line} {x : Location} (s : Begun m h v x) where
  reach : Split v.count (location_of v) 0 (x.address - 15) s.from
  reach = split_at v.count (location_of v) s.known.lined 0 (x.address - 15) s.from (omega arith) (s.begins ∙ ap (λ (a : ℕ). first_from (location_of v) (v.count - 0) 0 a 0) s.lowest)

  pub from_inside : s.from ≤ v.count
  from_inside = reach.high

  -- those at that address or above begin at number `upto`
  module _ {upto : ℕ} (e : upto ≡ first_from (location_of v) (v.count - s.from) s.from x.address 0) where
    parted : Split v.count (location_of v) s.from x.address upto
    parted = split_at v.count (location_of v) s.known.lined s.from x.address upto reach.high e

    pub line_below : Below v s.from upto x
    line_below = record { low = parted.low; high = parted.high; below = parted.below; behind = parted.above }

    module _ {n : ℕ} (some : 0 < n) (alive : x.created < x.destroyed) where
      pub says_struck : true ≡ strikes v (upto - s.from) s.from x → SaysConflict m h x n true
      says_struck f = subst (λ (xs : List ℕ). SaysConflict xs h x n true) s.memory (λ b size there.
          clash_below h v s.known x n b (record { size = size; there = there; some = some; alive = alive }) s.from upto reach parted f)

      pub says_among : false ≡ strikes v (upto - s.from) s.from x → {r : Bool} → r ≡ lives_among (location_of v) (v.count - upto) upto x (x.address + n) → SaysConflict m h x n r
      says_among f {r} g = subst (λ (xs : List ℕ). SaysConflict xs h x n r) s.memory (λ b size there.
          g ∙ clash_above h v s.known x n b (record { size = size; there = there; some = some; alive = alive }) s.from upto reach parted f)

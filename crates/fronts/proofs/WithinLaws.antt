-- A test of each byte of a table's, and of each front's, one after another, and tests that tell the children of siblings. Assumes nothing.
use Prim.Native.Nat.{ℕ, ◌+◌, ◌-◌, ◌≤◌, ◌<◌}
use native.Mathlib.Omega.{arith}
use mathlib.Core.Path.{◌≡◌, refl, sym, ap, subst, ◌∙◌}
use mathlib.Core.Bool.{Bool, true, false, ◌&&◌}
use mathlib.Core.List.{List, [], ◌∷◌}
use mathlib.Core.Option.{Option, none, some}
use lib.ListN.{length}
use Rattle.trie.specs.Trie.{Forest, leaf, more, Node, child}
use Rattle.trie.specs.Test.{is_some, within, fronts_within}
use Rattle.image_format.specs.Held.{Entry}
use Rattle.image_walk.specs.Here.{Found}
use Rattle.image_walk.specs.Tables.{slot_in, entries_at, node_for}
use Rattle.node_rule.specs.Parts.{Ahead, TableOf}
use Rattle.fronts.specs.declared.Front.{Front}
use Rattle.fronts.specs.Fronts.{front_at, FrontsFrom, FrontsHere}
use Rattle.fronts.specs.Marks.{each_byte, each_front, SaysEach, SaysEachFront, is_found, has_child, marked, SaysMarks}
use Rattle.node_rule.proofs.Tables.{slot_taken, slot_empty, slots_end, table_child}
use Rattle.node_rule.proofs.Owed.{and_not, and_so}
use Rattle.fronts.proofs.Fronts.{Next, front_next, fronts_end, fronts_start}

-- ── the bytes of a table ──

module _ (s : List ℕ) (p : ℕ → Bool) (table children : ℕ) where
  -- what is ahead decides
  pub record AheadHas (d j : ℕ) (f : Forest) : Type 0 where
    pub rest : Forest
    pub ahead : Ahead s d table children j rest
    pub says : each_byte p rest ≡ each_byte p f

  -- the test held of the entries passed
  pub record Checking (j : ℕ) : Type 0 where
    pub each : (d : ℕ) (f : Forest) → TableOf s d table children f → AheadHas d j f

  pub checking_start : Checking 0
  checking_start = record { each = λ d f u. record { rest = f; ahead = u.leads; says = refl } }

  module _ (j : ℕ) (i : Checking j) (l : j < children) where
    pub checking_skip : none ≡ slot_in s table children j → Checking (j + 1)
    checking_skip q = record { each = λ d f u. record { rest = (i.each d f u).rest; ahead = slot_empty s d table children j (i.each d f u).rest l q (i.each d f u).ahead; says = (i.each d f u).says } }

    module _ (n : Entry) (q : some n ≡ slot_in s table children j) where
      pub checking_lost : false ≡ p n.byte → SaysEach s p table children false
      checking_lost z d f u =
          let y = i.each d f u in
          let x = slot_taken s d table children j y.rest n l q y.ahead in
          and_not (p n.byte) (each_byte p x.later) z ∙ ap (each_byte p) (sym x.is) ∙ y.says

      pub checking_met : true ≡ p n.byte → Checking (j + 1)
      checking_met z = record { each = step }
        where
          step : (d : ℕ) (f : Forest) → TableOf s d table children f → AheadHas d (j + 1) f
          step d f u =
              let y = i.each d f u in
              let x = slot_taken s d table children j y.rest n l q y.ahead in
              record { rest = x.later; ahead = x.ahead; says = and_so (p n.byte) (each_byte p x.later) (each_byte p x.later) z refl ∙ ap (each_byte p) (sym x.is) ∙ y.says }

  pub checking_done : (j : ℕ) → Checking j → children ≤ j → SaysEach s p table children true
  checking_done j i l d f u =
      let x = i.each d f u in
      ap (each_byte p) (sym (slots_end s d table children j x.rest l x.ahead)) ∙ x.says

-- ── the bytes of fronts ──

module _ (s : List ℕ) (p : ℕ → Bool) (fronts : List Front) where
  pub record FrontsAhead (d i : ℕ) (fs : List Node) : Type 0 where
    pub rest : List Node
    pub ahead : FrontsFrom s d fronts (0 + i) rest
    pub left : length rest ≡ length fronts - i
    pub says : each_front p rest ≡ each_front p fs

  pub record Passing (i : ℕ) : Type 0 where
    pub each : (d : ℕ) (fs : List Node) → FrontsHere s d fronts 0 (length fronts) fs → FrontsAhead d i fs

  pub passing_start : Passing 0
  passing_start = record { each = step }
    where
      step : (d : ℕ) (fs : List Node) → FrontsHere s d fronts 0 (length fronts) fs → FrontsAhead d 0 fs
      step d fs h = let m = h.many in record { rest = fs; ahead = fronts_start s d fronts 0 fs h.each; left = omega arith; says = refl }

  module _ (i : ℕ) (o : Passing i) (l : i < length fronts) where
    front_now : (d : ℕ) (fs : List Node) (h : FrontsHere s d fronts 0 (length fronts) fs) → Next s d fronts 0 (length fronts) i (o.each d fs h).rest
    front_now d fs h = let x = o.each d fs h in front_next s d fronts 0 (length fronts) i x.rest l x.left x.ahead

    one_front : (d : ℕ) (fs : List Node) (h : FrontsHere s d fronts 0 (length fronts) fs) → (each_byte p (front_now d fs h).node.children && each_front p (front_now d fs h).later) ≡ each_front p fs
    one_front d fs h = ap (each_front p) (sym (front_now d fs h).is) ∙ (o.each d fs h).says

    table_now : (d : ℕ) (fs : List Node) (h : FrontsHere s d fronts 0 (length fronts) fs) → TableOf s d (front_at fronts i).table.at (front_at fronts i).table.count (front_now d fs h).node.children
    table_now d fs h = let z : 0 + i ≡ i = omega arith in subst (λ (k : ℕ). TableOf s d (front_at fronts k).table.at (front_at fronts k).table.count (front_now d fs h).node.children) z (front_now d fs h).front.table

    module _ (r : Bool) (w : SaysEach s p (front_at fronts i).table.at (front_at fronts i).table.count r) where
      pub passing_lost : r ≡ false → SaysEachFront s p fronts false
      passing_lost z d fs h =
          let x = front_now d fs h in
          and_not (each_byte p x.node.children) (each_front p x.later) (sym z ∙ w d x.node.children (table_now d fs h)) ∙ one_front d fs h

      pub passing_on : r ≡ true → Passing (i + 1)
      passing_on z = record { each = step }
        where
          step : (d : ℕ) (fs : List Node) → FrontsHere s d fronts 0 (length fronts) fs → FrontsAhead d (i + 1) fs
          step d fs h =
              let x = front_now d fs h in
              record {
                rest = x.later;
                ahead = x.ahead;
                left = x.left;
                says = and_so (each_byte p x.node.children) (each_front p x.later) (each_front p x.later) (sym z ∙ w d x.node.children (table_now d fs h)) refl ∙ one_front d fs h;
              }

  pub passing_done : (i : ℕ) → Passing i → length fronts ≤ i → SaysEachFront s p fronts true
  passing_done i o l d fs h =
      let x = o.each d fs h in
      ap (each_front p) (sym (fronts_end x.rest (length fronts) i l x.left)) ∙ x.says

-- ── tests that tell the children of siblings ──

byte_within : (p : ℕ → Bool) (g : Forest) → ((b : ℕ) → p b ≡ is_some (child g b)) → (f : Forest) → each_byte p f ≡ within f g
byte_within p g e leaf = refl
byte_within p g e (more b x below later) = ap (λ (o : Bool). o && each_byte p later) (e b) ∙ ap (λ (o : Bool). is_some (child g b) && o) (byte_within p g e later)

front_within : (p : ℕ → Bool) (g : Forest) → ((b : ℕ) → p b ≡ is_some (child g b)) → (fs : List Node) → each_front p fs ≡ fronts_within fs g
front_within p g e [] = refl
front_within p g e (f ∷ fs) = ap (λ (o : Bool). o && each_front p fs) (byte_within p g e f.children) ∙ ap (λ (o : Bool). within f.children g && o) (front_within p g e fs)

module _ (s : List ℕ) (table children : ℕ) where
  same_found : (d : ℕ) (x : Option ℕ) (o : Option Node) → Found s d x o → is_found x ≡ is_some o
  same_found d none none f = refl
  same_found d none (some n) f = absurd f
  same_found d (some at) none f = absurd f
  same_found d (some at) (some n) f = refl

  module _ (d : ℕ) (g : Forest) (t : TableOf s d table children g) (fs : List Node) {r : Bool} where
    -- by looking for each byte in a table
    pub found_within : r ≡ each_front (has_child s table children) fs → r ≡ fronts_within fs g
    found_within e = e ∙ front_within (has_child s table children) g (λ b. same_found (d - 1) (node_for (entries_at s table children) b) (child g b) (table_child s d table children g t b)) fs

  -- by its marks
  pub marks_within : (has : List Bool) → SaysMarks s table children has → (d : ℕ) (g : Forest) → TableOf s d table children g → (fs : List Node) {r : Bool} → r ≡ each_front (marked has) fs → r ≡ fronts_within fs g
  marks_within has m d g t fs e = e ∙ front_within (marked has) g (m d g t).is fs

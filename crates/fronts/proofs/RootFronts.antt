-- The fronts of the root, one entry of its table after another. Assumes nothing.
use Prim.Native.Nat.{ℕ, ◌+◌, ◌-◌, ◌≤◌, ◌<◌}
use native.Mathlib.Omega.{arith}
use mathlib.Core.Path.{◌≡◌, refl, sym, ap, subst, ◌∙◌}
use mathlib.Core.List.{List, [], ◌∷◌, ◌++◌, append-nil, append_assoc}
use mathlib.Core.Option.{none, some}
use lib.ListN.{length, set}
use Rattle.fronts.specs.declared.Front.{Front}
use Rattle.trie.specs.Trie.{Forest, Node}
use Rattle.trie.specs.Test.{siblings}
use Rattle.image_format.specs.Held.{Entry}
use Rattle.image_walk.specs.Parts.{parts_at}
use Rattle.image_walk.specs.Tables.{slot_in}
use Rattle.image_walk.specs.Here.{Laid}
use Rattle.node_rule.specs.Parts.{Ahead, TableOf, HasTable}
use Rattle.fronts.specs.Masks.{SaysMask}
use Rattle.fronts.specs.Fronts.{FrontsFrom, FrontsHere}
use Rattle.fronts.specs.FrontRule.{RootFronts}
use Rattle.node_rule.proofs.Tables.{Next, slot_taken, slot_empty, slots_end}
use Rattle.node_rule.proofs.Children.{next_laid, next_parts}
use Rattle.fronts.proofs.Fronts.{front_length, fronts_put, length_more}
use Rattle.image_walk.specs.declared.Node.{Node as Parts}

module _ (s : List ℕ) (table children : ℕ) where
  -- the fronts put, and then the siblings ahead, are all siblings
  pub record Put (d j : ℕ) (fronts : List Front) (count : ℕ) (f : Forest) : Type 0 where
    pub rest : Forest
    pub ahead : Ahead s d table children j rest
    pub gone : List Node
    pub found : FrontsFrom s (d - 1) fronts 0 gone
    pub many : length gone ≡ count
    pub nodes : gone ++ siblings rest ≡ siblings f

  pub record Putting (j : ℕ) (fronts : List Front) (count : ℕ) : Type 0 where
    pub few : count ≤ j
    pub in_table : j ≤ children
    pub size : 256 ≤ length fronts
    pub each : (d : ℕ) (f : Forest) → TableOf s d table children f → Put d j fronts count f

  pub putting_start : (fronts : List Front) → 256 ≤ length fronts → Putting 0 fronts 0
  putting_start fronts z = record { few = omega arith; in_table = omega arith; size = z; each = λ d f t. record { rest = f; ahead = t.leads; gone = []; found = tt; many = refl; nodes = refl } }

  module _ (j : ℕ) (fronts : List Front) (count : ℕ) (i : Putting j fronts count) (l : j < children) where
    pub putting_skip : none ≡ slot_in s table children j → Putting (j + 1) fronts count
    putting_skip q = record { few = omega (arith, i.few); in_table = omega arith; size = i.size; each = step }
      where
        step : (d : ℕ) (f : Forest) → TableOf s d table children f → Put d (j + 1) fronts count f
        step d f t =
            let x = i.each d f t in
            record { rest = x.rest; ahead = slot_empty s d table children j x.rest l q x.ahead; gone = x.gone; found = x.found; many = x.many; nodes = x.nodes }

    module _ (e : Entry) (q : some e ≡ slot_in s table children j) where
      met : (d : ℕ) (f : Forest) (t : TableOf s d table children f) → Next s d table children j e (i.each d f t).rest
      met d f t = let x = i.each d f t in slot_taken s d table children j x.rest e l q x.ahead

      pub putting_laid : HasTable s table children → Laid s e.node
      putting_laid h = next_laid (met h.depth h.forest h.is)

      pub putting_table : HasTable s table children → (c : Parts) → c ≡ parts_at s e.node → HasTable s c.table.at c.table.count
      putting_table h c g = let x = met h.depth h.forest h.is in record { depth = h.depth - 1; forest = x.below; is = (next_parts c g x).table }

      pub putting_add : (c : Parts) → c ≡ parts_at s e.node → (y : Front) → y.table ≡ c.table → SaysMask s y.table.at y.table.count y.mask → HasTable s table children → Putting (j + 1) (set fronts count y) (count + 1)
      putting_add c g y w says h = record { few = omega (arith, i.few); in_table = omega arith; size = omega (arith, front_length fronts count y, i.size); each = step }
        where
          step : (d : ℕ) (f : Forest) → TableOf s d table children f → Put d (j + 1) (set fronts count y) (count + 1) f
          step d f t =
              let o = i.each d f t in
              let x = met d f t in
              let n : Node = record { lists = x.lists; children = x.below } in
              let m = o.many in
              let v : o.gone ++ (n ∷ siblings x.later) ≡ siblings f = ap (λ (z : Forest). o.gone ++ siblings z) (sym x.is) ∙ o.nodes in
              record {
                rest = x.later;
                ahead = x.ahead;
                gone = o.gone ++ (n ∷ []);
                found = fronts_put s (d - 1) fronts 0 count y o.gone n (omega arith) (omega (arith, i.few, i.size, h.is.most)) o.found (record { table = rw w (next_parts c g x).table; mask = says });
                many = length_more o.gone n count m;
                nodes = append_assoc o.gone (n ∷ []) (siblings x.later) ∙ v;
              }

  pub putting_done : (j : ℕ) (fronts : List Front) (count : ℕ) → Putting j fronts count → children ≤ j → RootFronts s table children fronts count
  putting_done j fronts count i l = record { are = end }
    where
      end : (d : ℕ) (f : Forest) → TableOf s d table children f → FrontsHere s (d - 1) fronts 0 count (siblings f)
      end d f t =
          let x = i.each d f t in
          let e = slots_end s d table children j x.rest l x.ahead in
          let w : x.gone ≡ siblings f = sym (append-nil x.gone) ∙ (rw e at x.nodes) in
          let few : count ≤ 256 = omega (arith, i.few, i.in_table, t.most) in
          subst (FrontsHere s (d - 1) fronts 0 count) w (record { many = x.many; few = few; each = x.found })

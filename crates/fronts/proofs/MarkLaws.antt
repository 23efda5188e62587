-- The marks of a table's bytes, one entry after another, and what a mark tells. Assumes nothing.
use Prim.Native.Nat.{ℕ, zero, suc, ◌+◌, ◌≤◌, ◌<◌}
use mathlib.Core.Path.{◌≡◌, refl, sym, ap, ◌∙◌}
use mathlib.Core.Bool.{Bool, true, false, ◌||◌, cond}
use mathlib.Core.List.{List}
use mathlib.Core.Option.{Option, none, some}
use lib.Dec.{eqb}
use lib.ListN.{length, get_or, set, replicate}
use lib.Seq.{get_or-set_same, get_or-set_other}
use borrow.Author.Tests.{eqb-true, eqb-false}
use Rattle.trie.specs.Trie.{Forest, Node, child}
use Rattle.trie.specs.Test.{is_some}
use Rattle.image_format.specs.Held.{Entry}
use Rattle.image_walk.specs.Tables.{slot_in}
use Rattle.node_rule.specs.Parts.{Ahead, TableOf}
use Rattle.fronts.specs.Marks.{marked, SaysMarks}
use Rattle.node_rule.proofs.Tables.{slot_taken, slot_empty, slots_end}

-- ── one mark ──

-- no byte is marked
unmarked : (n b : ℕ) → marked (replicate n false) b ≡ false
unmarked zero b = refl
unmarked (suc n) zero = refl
unmarked (suc n) (suc b) = unmarked n b

or_false : (a : Bool) → (a || false) ≡ a
or_false true = refl
or_false false = refl

or_true : (a : Bool) → (a || true) ≡ true
or_true true = refl
or_true false = refl

-- ── the marks of a table ──

module _ (s : List ℕ) (table children : ℕ) where
  -- a byte with a child is marked, or has it among the siblings ahead
  pub record Unmet (d j : ℕ) (has : List Bool) (f : Forest) : Type 0 where
    pub rest : Forest
    pub ahead : Ahead s d table children j rest
    pub says : (b : ℕ) → (marked has b || is_some (child rest b)) ≡ is_some (child f b)

  pub record Marking (j : ℕ) (has : List Bool) : Type 0 where
    pub each : (d : ℕ) (f : Forest) → TableOf s d table children f → Unmet d j has f

  pub marking_start : (n : ℕ) → Marking 0 (replicate n false)
  marking_start n = record { each = λ d f t. record { rest = f; ahead = t.leads; says = λ b. ap (λ (x : Bool). x || is_some (child f b)) (unmarked n b) } }

  module _ (j : ℕ) (has : List Bool) (i : Marking j has) (l : j < children) where
    pub marking_skip : none ≡ slot_in s table children j → Marking (j + 1) has
    marking_skip q = record { each = λ d f t. record { rest = (i.each d f t).rest; ahead = slot_empty s d table children j (i.each d f t).rest l q (i.each d f t).ahead; says = (i.each d f t).says } }

    pub marking_add : (e : Entry) → some e ≡ slot_in s table children j → e.byte < length has → Marking (j + 1) (set has e.byte true)
    marking_add e q k = record { each = step }
      where
        go : (b : ℕ) (n : Node) (o : Option Node) (x : Bool) → eqb e.byte b ≡ x → (marked (set has e.byte true) b || is_some o) ≡ (marked has b || is_some (cond x (some n) o))
        go b n o true z =
            let y : get_or (set has e.byte true) b false ≡ true = ap (λ (c : ℕ). get_or (set has e.byte true) c false) (sym (eqb-true e.byte b z)) ∙ get_or-set_same has e.byte true false k in
            ap (λ (c : Bool). c || is_some o) y ∙ sym (or_true (marked has b))
        go b n o false z =
            let y : get_or (set has e.byte true) b false ≡ get_or has b false = get_or-set_other has e.byte b true false (λ w. eqb-false e.byte b z (sym w)) in
            ap (λ (c : Bool). c || is_some o) y

        step : (d : ℕ) (f : Forest) → TableOf s d table children f → Unmet d (j + 1) (set has e.byte true) f
        step d f t =
            let o = i.each d f t in
            let x = slot_taken s d table children j o.rest e l q o.ahead in
            record {
              rest = x.later;
              ahead = x.ahead;
              says = λ b. go b (record { lists = x.lists; children = x.below }) (child x.later b) (eqb e.byte b) refl ∙ ap (λ (y : Forest). marked has b || is_some (child y b)) (sym x.is) ∙ o.says b;
            }

  pub marking_done : (j : ℕ) (has : List Bool) → Marking j has → children ≤ j → SaysMarks s table children has
  marking_done j has i l d f t = record { is = says }
    where
      says : (b : ℕ) → marked has b ≡ is_some (child f b)
      says b =
          let x = i.each d f t in
          let z = slots_end s d table children j x.rest l x.ahead in
          sym (or_false (marked has b)) ∙ ap (λ (y : Forest). marked has b || is_some (child y b)) (sym z) ∙ x.says b

-- What the counts of a node say of its lists and children, and tests joined one after another. Assumes nothing.
use Prim.Native.Nat.{ℕ, zero, suc, ◌≤◌, ◌<◌}
use native.Mathlib.Omega.{arith}
use mathlib.Core.Path.{◌≡◌, refl, sym, ap, ◌∙◌}
use mathlib.Core.Bool.{Bool, true, false, ◌&&◌, ◌||◌, cond}
use mathlib.Core.List.{List}
use lib.Dec.{eqb, ltb}
use borrow.Author.Tests.{ne_eqb, lt-ltb, ltb-false}
use Rattle.definitions.specs.Location.{locations_in}
use Rattle.trie.specs.Trie.{Forest, leaf, more, Node}
use Rattle.trie.specs.Test.{is_nil, is_owed}
use Rattle.location_lists.specs.Lists.{held}
use Rattle.node_rule.specs.Parts.{TableOf, PartsOf}
use Rattle.node_rule.specs.OneNode.{is_owed as owed}
use Rattle.node_rule.proofs.Tables.{slots_end}
use Rattle.image_walk.specs.declared.Node.{Node as Parts}

-- ── tests one after another ──

-- the first failed
pub and_not : (a b : Bool) → false ≡ a → false ≡ (a && b)
and_not a b e = ap (λ (x : Bool). x && b) e

-- the first held, so the others decide
pub and_so : (a b r : Bool) → true ≡ a → r ≡ b → r ≡ (a && b)
and_so a b r e f = f ∙ ap (λ (x : Bool). x && b) e

-- the last failed
pub and_last : (a b : Bool) → false ≡ b → false ≡ (a && b)
and_last true b e = e
and_last false b e = refl

-- the last held, so the first decides
pub and_first : (a b r : Bool) → r ≡ a → true ≡ b → r ≡ (a && b)
and_first true b r e f = e ∙ f
and_first false b r e f = e

-- ── counts ──

counted_nil : (s : List ℕ) (n at : ℕ) → eqb n 0 ≡ is_nil (locations_in s n at)
unfolding locations_in
counted_nil s zero at = refl
counted_nil s (suc n) at = let z : suc n ≡ 0 → ⊥ = omega arith in ne_eqb (suc n) 0 z

counted_some : (s : List ℕ) (n at : ℕ) → ltb 0 n ≡ cond (is_nil (locations_in s n at)) false true
unfolding locations_in
counted_some s zero at = refl
counted_some s (suc n) at = let z : 0 < suc n = omega arith in lt-ltb 0 (suc n) z

-- no entry of a table leads to no child
pub table_none : (s : List ℕ) (d table children : ℕ) (f : Forest) → TableOf s d table children f → children ≤ 0 → f ≡ leaf
table_none s d table children f t l = slots_end s d table children 0 f l t.leads

-- ── what is owed ──

module _ (s : List ℕ) (d : ℕ) (p : Parts) (n : Node) (h : PartsOf s d p n) where
  -- below the root
  owed_below : (k : ℕ) (f : Forest) → n.children ≡ f → (ltb 0 p.table.count || (ltb 0 p.prefixes.count || ltb 0 p.chunks.count)) ≡ is_owed (suc k) n.lists f
  owed_below k leaf e =
      ap (λ (m : ℕ). ltb 0 m || (ltb 0 p.prefixes.count || ltb 0 p.chunks.count)) (h.childless e)
      ∙ ap (λ (o : Bool). o || ltb 0 p.chunks.count) (counted_some s p.prefixes.count p.prefixes.at)
      ∙ ap (λ (o : Bool). cond (is_nil (held s p.prefixes)) false true || o) (counted_some s p.chunks.count p.chunks.at)
      ∙ either (is_nil (held s p.prefixes)) (is_nil (held s p.chunks))
      ∙ ap (λ (o : Bool). cond o (cond (is_nil (held s p.chunks)) false true) true) (ap is_nil h.prefixes)
      ∙ ap (λ (o : Bool). cond (is_nil n.lists.prefixes) (cond o false true) true) (ap is_nil h.chunks)
    where
      either : (a b : Bool) → (cond a false true || cond b false true) ≡ cond a (cond b false true) true
      either true b = refl
      either false b = refl
  owed_below k (more b x below later) e = some (ltb 0 p.table.count) refl
    where
      no_leaf : leaf ≡ more b x below later → ⊥
      no_leaf q = cc

      some : (o : Bool) → ltb 0 p.table.count ≡ o → (o || (ltb 0 p.prefixes.count || ltb 0 p.chunks.count)) ≡ true
      some true z = refl
      some false z = absurd (no_leaf (sym (table_none s d p.table.at p.table.count n.children h.table (ltb-false 0 p.table.count z)) ∙ e))

  pub owed_is : (depth : ℕ) → owed p depth ≡ is_owed depth n.lists n.children
  owed_is zero = counted_nil s p.prefixes.count p.prefixes.at ∙ ap is_nil h.prefixes
  owed_is (suc k) = let z : suc k ≡ 0 → ⊥ = omega arith in rw (ne_eqb (suc k) 0 z) (owed_below k n.children refl)

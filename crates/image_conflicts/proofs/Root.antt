-- From an image in place to its root: its suffixes are locations in line or not, and what its children say decides. Assumes nothing.
use Prim.Native.Nat.{ℕ, ◌+◌, ◌*◌, ◌-◌, ◌^◌, ◌<◌}
use native.Mathlib.Omega.{arith}
use mathlib.Core.Path.{◌≡◌, sym, ap, subst, ◌∙◌}
use mathlib.Core.Bool.{Bool, true, false, ◌&&◌}
use mathlib.Core.List.{List}
use lib.ListN.{length, get_or}
use lib.Dec.{eqb}
use Rattle.std.proofs.Common.{Fits, w8}
use Rattle.std.proofs.lemmas.Bool.{eqb-false}
use Rattle.std.specs.Prelude.{Option, is_some}
use Rattle.definitions.specs.Location.{Location, location_at}
use Rattle.definitions.specs.Conflicts.{free}
use Rattle.definitions.proofs.Locations.{length_locations, get_or_locations}
use Rattle.conflicts.specs.Lined.{in_line, Lined}
use Rattle.conflicts.specs.Order.{nowhere, loc}
use Rattle.conflicts.proofs.Line.{in_line_is}
use Rattle.lined_locations.specs.declared.LineKind.TheVariants.{Row}
use Rattle.lined_locations.specs.Places.{location_by, Within}
use Rattle.trie.specs.Trie.{Trie, Node, trie_pieces}
use Rattle.trie.specs.Rule.{NodeRule}
use Rattle.trie.specs.Test.{index_rule}
use Rattle.trie.proofs.Test.{rule_test_is}
use Rattle.image_format.specs.Held.{trie_in}
use Rattle.image_walk.specs.declared.Node.{Node as Parts}
use Rattle.image_walk.specs.Parts.{parts_at}
use Rattle.image_walk.specs.Here.{RootHere}
use Rattle.image_walk.proofs.Paths.{short_path}
use Rattle.image_format.specs.Reading.{RightImage}
use Rattle.image_walk.proofs.Root.{root_of, trie_empty}
use Rattle.node_rule.specs.Parts.{PartsOf}
use Rattle.node_rule.proofs.Parts.{parts_of}
use Rattle.image_conflicts.specs.Due.{forest_due, conflict_free}
use Rattle.image_conflicts.specs.Cited.{ChildrenAsked}
use Rattle.image_conflicts.proofs.Image.{all_ending, all_alive, conflict_free_is}

-- an image whose first byte is not 0 has a root
pub root_found : (s : List ℕ) → ((i : ℕ) → Fits w8 (get_or s i 0)) → length s < 2 ^ 64 → RightImage s → (b : Bool) → b ≡ eqb (get_or s 0 0) 0 → b ≡ false → RootHere s
root_found s f l r b e z = root_of s (λ i. omega (arith, f i)) l r (eqb-false _ _ (sym e ∙ z))

-- an empty index has no pieces
pub empty_free : (s : List ℕ) → get_or s 0 0 ≡ 0 → true ≡ free (trie_pieces (trie_in s))
empty_free s z = ap (λ (t : Trie). free (trie_pieces t)) (sym (trie_empty s z))

module _ (s : List ℕ) (h : RootHere s) (e : index_rule (trie_in s) ≡ true) {p : Parts} (g : p ≡ parts_at s 0) where
  rule : NodeRule h.node
  rule = (rule_test_is h.node (λ path x. short_path path 16 h.node x.node h.here.short x.there) h.here.apart).0 (subst (λ (t : Trie). index_rule t ≡ true) h.trie e)

  root_is : PartsOf s 16 p h.node
  root_is = rw g (parts_of s 16 0 h.node h.here)

  pub root_within : Within Row s p.suffixes.at p.suffixes.count
  root_within = record { numbers = λ z. absurd (cc); places = λ i k. omega (arith, root_is.suffixes_in) }

  many : p.suffixes.count ≡ length h.node.lists.suffixes
  many = sym (length_locations p.suffixes.count s p.suffixes.at) ∙ ap length root_is.suffixes

  -- the suffixes by number, in place and in the trie
  num : (i : ℕ) → i < length h.node.lists.suffixes → location_by Row s p.suffixes.at i ≡ loc h.node.lists.suffixes i
  num i k =
      let a : p.suffixes.at + 24 * i ≡ p.suffixes.at + i * 24 = omega arith in
      ap (location_at s) a ∙ sym (get_or_locations p.suffixes.count s p.suffixes.at i nowhere (omega (arith, many))) ∙ ap (λ (ls : List Location). get_or ls i nowhere) root_is.suffixes

  -- ── the answers ──

  by_test : conflict_free (location_by Row s p.suffixes.at) p.suffixes.count h.node.children ≡ free (trie_pieces (trie_in s))
  by_test = ap (λ (k : ℕ). conflict_free (location_by Row s p.suffixes.at) k h.node.children) many ∙ conflict_free_is h.node rule (location_by Row s p.suffixes.at) num ∙ ap (λ (t : Trie). free (trie_pieces t)) (sym h.trie)

  pub root_asked : ChildrenAsked s p 1 16
  root_asked = record { node = h.node; is = root_is; ending = all_ending h.node rule; levels = omega arith }

  module _ {r : Bool} (f : r ≡ in_line (location_by Row s p.suffixes.at) (p.suffixes.count - 1)) where
    pub not_in_line : r ≡ false → false ≡ free (trie_pieces (trie_in s))
    unfolding conflict_free
    not_in_line z = ap (λ (o : Bool). o && is_some (forest_due (location_by Row s p.suffixes.at) p.suffixes.count 1 h.node.children p.suffixes.count)) (sym z ∙ f) ∙ by_test

    module _ (z : r ≡ true) where
      pub root_lined : Lined p.suffixes.count (location_by Row s p.suffixes.at)
      root_lined = subst (λ (k : ℕ). Lined k (location_by Row s p.suffixes.at)) (sym many)
          ((in_line_is (length h.node.lists.suffixes) (location_by Row s p.suffixes.at) (all_alive h.node rule (location_by Row s p.suffixes.at) num)).0
          (subst (λ (k : ℕ). in_line (location_by Row s p.suffixes.at) (k - 1) ≡ true) many (sym f ∙ z)))

      pub root_says : {d : Option ℕ} → ((x : Node) → PartsOf s 16 p x → d ≡ forest_due (location_by Row s p.suffixes.at) p.suffixes.count 1 x.children p.suffixes.count) → is_some d ≡ free (trie_pieces (trie_in s))
      unfolding conflict_free
      root_says c =
          ap is_some (c h.node root_is)
          ∙ ap (λ (o : Bool). o && is_some (forest_due (location_by Row s p.suffixes.at) p.suffixes.count 1 h.node.children p.suffixes.count)) (sym z ∙ f)
          ∙ by_test

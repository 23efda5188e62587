-- An image is accepted exactly if its layout is right and the trie that it holds meets the index rule, without conflicts. Assumes nothing.
use Prim.Native.Nat.{ℕ, ◌^◌, ◌<◌}
use mathlib.Core.Path.{◌≡◌, refl}
use mathlib.Core.Bool.{true, false}
use mathlib.Core.Logic.{◌↔◌}
use mathlib.Core.List.{List}
use lib.ListN.{length}
use Rattle.definitions.specs.Conflicts.{free}
use Rattle.trie.specs.Trie.{empty, root, trie_pieces}
use Rattle.trie.specs.Rule.{Rule}
use Rattle.trie.specs.Test.{index_rule}
use Rattle.trie.proofs.Test.{rule_test_is}
use Rattle.image_walk.proofs.Paths.{short_path}
use Rattle.image_format.proofs.Theorems.{read_image_is}
use Rattle.image_format.specs.Held.{trie_in}
use Rattle.image_format.specs.Reading.{right, refused, read_image}
use Rattle.image_format.specs.Savable.{AllBytes}
use Rattle.image_format.specs.Check.{check_image}
use Rattle.index_rule.specs.Promises.{IndexRuleIs, CheckImageIs, CheckImageConflict}
use Rattle.image_format.proofs.Verdict.{check_accepts, accepts_check}

-- ── the test is the rule ──

pub index_rule_is : IndexRuleIs
index_rule_is empty v = ((λ e. tt), λ r. refl)
index_rule_is (root n) v = rule_test_is n (λ path h. short_path path 16 n h.node v.short h.there) v.apart

-- ── the whole check ──

module _ (s : List ℕ) (a : AllBytes s) (l : length s < 2 ^ 64) (k e : ℕ) where
  rule : read_image s ≡ right k e → (index_rule (trie_in s) ≡ true) ↔ Rule (trie_in s)
  rule f = index_rule_is (trie_in s) (read_image_is s a l k e f).3.shaped

  is : (check_image s ≡ right k e) ↔ ((read_image s ≡ right k e) × Rule (trie_in s) × (free (trie_pieces (trie_in s)) ≡ true))
  is = (
    (λ f. let x = check_accepts s k e f in (x.read, (rule x.read).0 x.rule, x.apart)),
    λ x. accepts_check s k e (record { read = x.0; rule = (rule x.0).1 x.1; apart = x.2 }),
  )

  conflicts : read_image s ≡ right k e → Rule (trie_in s) → free (trie_pieces (trie_in s)) ≡ false → check_image s ≡ refused 18
  unfolding check_image
  conflicts f r x = rw (f, (rule f).1 r, x)

pub check_image_is : CheckImageIs
check_image_is = is

pub check_image_conflict : CheckImageConflict
check_image_conflict = conflicts

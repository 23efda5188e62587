-- Two lists more. Assumes nothing.
use Prim.Native.Nat.{ℕ, ◌+◌, ◌≤◌, ◌<◌}
use native.Mathlib.Omega.{arith}
use mathlib.Core.Path.{◌≡◌, ◌∙◌}
use mathlib.Core.List.{List, ◌++◌}
use lib.ListN.{length}
use Rattle.definitions.specs.Location.{Location}
use Rattle.trie.specs.Test.{and_list}
use Rattle.location_lists.specs.declared.List.{List as Listing}
use Rattle.location_lists.specs.declared.Lists.{Lists}
use Rattle.location_lists.specs.Lists.{held, Within, AreLists, lists_in, with_list, SameSpans}
use Rattle.location_lists.proofs.Buffers.{added_among, added_valid, count_with_le, length_with_list, same_then, same_with_list}
use Rattle.node_rule.specs.OneNode.{with_two}

module _ (lists : Lists) (a b : Listing) where
  pub length_two : length (with_two lists a b).each.now ≡ length lists.each.now
  length_two = length_with_list (with_list lists a) b ∙ length_with_list lists a

  pub same_two : SameSpans lists (with_two lists a b)
  same_two = same_then (same_with_list lists a) (same_with_list (with_list lists a) b)

  pub count_two : (with_two lists a b).count ≤ lists.count + 2
  count_two = omega (arith, count_with_le (with_list lists a) b, count_with_le lists a)

  pub room_two : lists.count + 2 ≤ length lists.each.now → (with_list lists a).count < length (with_list lists a).each.now
  room_two h = omega (arith, count_with_le lists a, length_with_list lists a)

  -- behind those that were there, in front of others
  pub two_among : (s : List ℕ) (lss : List (List Location)) → lists.count + 2 ≤ length lists.each.now →
      lists_in s (with_two lists a b) ++ lss ≡ lists_in s lists ++ and_list (held s a) (and_list (held s b) lss)
  two_among s lss h = added_among s (with_list lists a) b lss (room_two h) ∙ added_among s lists a (and_list (held s b) lss) (omega arith)

  pub two_valid : (s : List ℕ) → lists.count + 2 ≤ length lists.each.now → Within s a → Within s b → AreLists s lists → AreLists s (with_two lists a b)
  two_valid s h i j v = added_valid s (with_list lists a) b (room_two h) j (added_valid s lists a (omega arith) i v)

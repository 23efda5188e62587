-- The image of all tails: that of the root, or 25 zero bytes where there are none. Assumes nothing.
use Prim.Native.Nat.{ℕ, ◌+◌, ◌-◌, ◌≤◌, ◌<◌}
use native.Mathlib.Omega.{arith}
use mathlib.Core.Path.{◌≡◌, refl, sym, ap, subst, ◌∙◌}
use mathlib.Core.Logic.{◌⊎◌, inl, inr}
use mathlib.Core.List.{List, []}
use lib.ListN.{length, get_or, replicate, length-replicate}
use lib.Seq.{sets, length-sets}
use Rattle.words.specs.Holding.{Holds}
use Rattle.words.proofs.Parts.{get_or_sets_out}
use Rattle.words.proofs.Holding.{holds_sets}
use Rattle.trie.specs.Trie.{Trie, empty, root, nodes, entries, forest_nodes}
use Rattle.tails.specs.Groups.{group_node}
use Rattle.image_format.specs.Image.{image, children_of, node_bytes}
use Rattle.tail_words.specs.Tail.{tails_in}
use Rattle.tail_groups.proofs.Memory.{tails_none, tails_step}
use Rattle.list_writer.specs.declared.End.{End}
use Rattle.single_writer.specs.Nodes.{node_of, SpanWritten, NodeAsked}
use Rattle.node_writer.specs.Images.{tails_trie, ImageAsked, ImageWritten}
use Rattle.single_writer.proofs.Sized.{node_long, all_sized}

-- where the image begins
abbrev pub image_start : End
image_start = record { at = 64; nodes = 0; entries = 0 }

some_nodes : (t : Trie) → 1 ≤ nodes t
some_nodes empty = omega arith
some_nodes (root n) = omega arith

module _ {s : List ℕ} {work n : ℕ} (q : ImageAsked s work n) where
  pub image_room : 128 ≤ length s
  image_room = omega (arith, q.room, q.memory, some_nodes (tails_trie (tails_in s work 0 n)))

  -- no tails
  pub image_empty : (s' : List ℕ) → n ≡ 0 → s' ≡ sets s 64 (replicate (89 - 64) 0) → ImageWritten s s' work n (record { at = 89; nodes = 1; entries = 0 })
  unfolding image
  image_empty s' e f =
      let none : tails_in s work 0 n ≡ [] = tails_none s work 0 n (omega arith) in
      let z : length (replicate {A = ℕ} 25 0) ≡ 25 = length-replicate {A = ℕ} 25 0 in
      let room : 128 ≤ work = omega (arith, rw none at q.room) in
      let same : (k : ℕ) → (k < 64) ⊎ (work ≤ k) → get_or s' k 0 ≡ get_or s k 0 = λ k o. ap (λ (x : List ℕ). get_or x k 0) f ∙ get_or_sets_out (replicate 25 0) s 64 k (outside k o z room) in
      record {
        bytes = rw (none, f) (holds_sets (replicate 25 0) s 64 (omega (arith, z, room, q.memory)));
        at = rw none (omega (arith, z));
        nodes = rw none refl;
        entries = rw none refl;
        within = omega arith;
        long = ap length f ∙ length-sets s 64 (replicate 25 0);
        before = λ k h. same k (inl h);
        behind = λ k h. same k (inr h);
      }
    where
      outside : (k : ℕ) → (k < 64) ⊎ (work ≤ k) → length (replicate {A = ℕ} 25 0) ≡ 25 → 128 ≤ work → (k < 64) ⊎ (64 + length (replicate {A = ℕ} 25 0) ≤ k)
      outside k (inl h) z room = inl h
      outside k (inr h) z room = inr (omega arith)

  module _ (some : ¬ (n ≡ 0)) where
    root_is : tails_trie (tails_in s work 0 n) ≡ root (group_node 16 0 (tails_in s work 0 n))
    root_is = rw (tails_step s work 0 n (omega (arith, some))) refl

    root_nodes : nodes (tails_trie (tails_in s work 0 n)) ≡ 1 + forest_nodes (node_of s work 0 n 0 16).children
    root_nodes =
        let e = ap nodes root_is in
        omega arith

    pub image_asked : NodeAsked s work 0 n 0 image_start 16
    image_asked = record {
      span = record {
        held = q.held;
        memory = q.memory;
        run = q.run;
        depth = refl;
        from = omega arith;
        counted_nodes = omega arith;
        counted = omega arith;
        room = omega (arith, q.room, root_nodes);
      };
      order = omega arith;
      apart = q.apart;
    }

    pub image_written : {s' : List ℕ} {r : End} → SpanWritten s s' work 0 n 0 image_start 16 r → ImageWritten s s' work n r
    unfolding image
    image_written {s'} w =
        let long = node_long 0 (node_of s work 0 n 0 16).lists (children_of (node_of s work 0 n 0 16).children) (all_sized (node_of s work 0 n 0 16).children) in
        let here : Holds s' 64 (node_bytes 0 (node_of s work 0 n 0 16).lists (children_of (node_of s work 0 n 0 16).children)) = w.bytes in
        record {
          bytes = subst (λ (t : Trie). Holds s' 64 (image t)) (sym root_is) here;
          at = w.at ∙ ap (λ (x : ℕ). 64 + x) (sym (ap (λ (t : Trie). length (image t)) root_is ∙ long));
          nodes = omega (arith, w.nodes, root_nodes);
          entries = w.entries ∙ omega (arith, ap entries root_is);
          within = omega (arith, w.lean, q.room, root_nodes);
          long = w.long;
          before = w.before;
          behind = w.behind;
        }

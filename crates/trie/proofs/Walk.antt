-- Laws of the walk: along joined paths, to the paths in front of a node's path, and from an entry to its node. Assumes nothing.
use Prim.Native.Nat.{ℕ}
use native.Mathlib.Omega.{arith}
use mathlib.Core.Path.{◌≡◌, refl, sym, ap, ◌∙◌, subst}
use mathlib.Core.List.Memᴰ.{not-nil}
use mathlib.Core.List.{List, [], ◌∷◌, ◌++◌, Memᴰ as Mem}
use mathlib.Core.Option.{Option, none, some}
use lib.Seq.{append_snoc}
use Rattle.definitions.specs.Location.{Location}
use Rattle.trie.specs.Trie.{Lists, Node, child_of, walk, node_at, IsNode, lists_or_none, lists_at}

pub walk_append : (p q : List ℕ) (o : Option Node) → walk (p ++ q) o ≡ walk q (walk p o)
walk_append [] q o = refl
walk_append (b ∷ p) q o = walk_append p q (child_of o b)

pub walk_none : (p : List ℕ) → walk p none ≡ none
walk_none [] = refl
walk_none (b ∷ p) = walk_none p

-- nothing is found where there is nothing to walk from
pub lost : (p : List ℕ) (m : Node) → walk p none ≡ some m → ⊥
lost p m e =
    let f : none ≡ some m = sym (walk_none p) ∙ e in
    let z : ◌≡◌ {A = ℕ} 0 1 = cc in
    omega arith

module _ (n : Node) where
  pub root_node : IsNode n []
  root_node = record { node = n; there = refl }

  -- a path in front of a node's path leads to a node
  pub front_node : (p q : List ℕ) → IsNode n (p ++ q) → IsNode n p
  front_node p q h = go (node_at n p) refl
    where
      go : (o : Option Node) → node_at n p ≡ o → IsNode n p
      go none e = absurd (lost q h.node (ap (walk q) (sym e) ∙ sym (walk_append p q (some n)) ∙ h.there))
      go (some m) e = record { node = m; there = e }

  -- the first byte behind p, of a node behind it
  pub next_node : (p : List ℕ) (b : ℕ) (q : List ℕ) → IsNode n (p ++ b ∷ q) → IsNode n (p ++ (b ∷ []))
  next_node p b q h = front_node (p ++ (b ∷ [])) q (subst (IsNode n) (sym (append_snoc p b q)) h)

  -- ── a list with a member is a node's ──

  in_list_node : {l : Location} (f : Lists → List Location) → f (lists_or_none none) ≡ [] → (p : List ℕ) → Mem l (f (lists_at n p)) → IsNode n p
  in_list_node {l} f z p h = go (node_at n p) refl h
    where
      go : (o : Option Node) → node_at n p ≡ o → Mem l (f (lists_or_none o)) → IsNode n p
      go none e k = absurd (not-nil (subst (Mem l) z k))
      go (some m) e k = record { node = m; there = e }

  pub in_chunks_node : {l : Location} (p : List ℕ) → Mem l (lists_at n p).chunks → IsNode n p
  in_chunks_node p h = in_list_node (λ (x : Lists). x.chunks) refl p h

  pub in_prefixes_node : {l : Location} (p : List ℕ) → Mem l (lists_at n p).prefixes → IsNode n p
  in_prefixes_node p h = in_list_node (λ (x : Lists). x.prefixes) refl p h

  pub in_suffixes_node : {l : Location} (p : List ℕ) → Mem l (lists_at n p).suffixes → IsNode n p
  in_suffixes_node p h = in_list_node (λ (x : Lists). x.suffixes) refl p h

  -- what stands behind a node's path, by a walk from the node
  pub lists_behind : (p : List ℕ) (m : Node) → node_at n p ≡ some m → (q : List ℕ) → lists_at n (p ++ q) ≡ lists_at m q
  lists_behind p m e q = ap lists_or_none (walk_append p q (some n) ∙ ap (walk q) e)

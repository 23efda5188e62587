-- A node collects the `prefixes` and `chunks` of the paths through it: the places in pieces where its path stands.
-- Assumes nothing.
use Prim.Native.Nat.{ℕ, zero, suc, ◌<◌}
use native.Mathlib.Omega.{arith}
use mathlib.Core.Path.{◌≡◌, refl, sym, ◌∙◌, subst}
use mathlib.Core.Logic.{◌⊎◌, inl, inr, ◌↔◌}
use mathlib.Core.List.Memᴰ.{append_cases}
use mathlib.Core.List.Memᴰ.{append_left}
use mathlib.Core.List.Memᴰ.{append_right}
use mathlib.Core.List.Memᴰ.{cast}
use mathlib.Core.List.Memᴰ.{not-nil}
use mathlib.Core.List.{List, [], ◌∷◌, ◌++◌, Memᴰ as Mem}
use mathlib.Core.Option.{Option, some}
use lib.ListN.{length, drop, length-append}
use Rattle.definitions.specs.Location.{Location, moved}
use Rattle.definitions.proofs.Order.{location_path}
use Rattle.trie.specs.Trie.{Lists, Forest, leaf, more, Node, node_at, IsNode, lists_or_none, lists_at, collect_forest, collect}
use Rattle.trie.specs.Rule.{Apart, Has, OwedPrefix, NodeRule}
use Rattle.trie.proofs.Walk.{front_node, lists_behind, in_chunks_node, in_prefixes_node}
use Rattle.trie.proofs.Stands.{Stands, stands_none, stands_first, stands_below, stands_later, stands_cases, apart_at}

-- l is a prefix or a chunk of a node whose path begins with this one
pub record Collected (n : Node) (path : List ℕ) (l : Location) : Type 0 where
  pub rest : List ℕ
  pub listed : Mem l (lists_at n (path ++ rest)).prefixes ⊎ Mem l (lists_at n (path ++ rest)).chunks

module _ (l : Location) where
  abbrev Ends : Lists → Type 0
  Ends h = Mem l h.prefixes ⊎ Mem l h.chunks

  abbrev EndsAt : List ℕ → Lists → Type 0
  EndsAt w h = Ends h

  ends_mem : (h : Lists) → Ends h → Mem l (h.prefixes ++ h.chunks)
  ends_mem h (inl k) = append_left h.chunks k
  ends_mem h (inr k) = append_right h.prefixes k

  forest_stands : (f : Forest) → Apart f → Mem l (collect_forest f) → Stands f EndsAt
  forest_stands leaf a m = absurd (not-nil m)
  forest_stands (more b h below later) a m = go (forest_stands below a.1) (forest_stands later a.2) (append_cases (h.prefixes ++ h.chunks ++ collect_forest below) m)
    where
      this : (Mem l (collect_forest below) → Stands below EndsAt) → Mem l (h.prefixes ++ h.chunks) ⊎ Mem l (collect_forest below) → Stands (more b h below later) EndsAt
      this ih (inl k) = stands_first EndsAt b h below later (append_cases h.prefixes k)
      this ih (inr k) = stands_below EndsAt b h below later (ih k)

      go : (Mem l (collect_forest below) → Stands below EndsAt) → (Mem l (collect_forest later) → Stands later EndsAt) → Mem l (h.prefixes ++ h.chunks ++ collect_forest below) ⊎ Mem l (collect_forest later) → Stands (more b h below later) EndsAt
      go ih jh (inl k) = this ih (append_cases (h.prefixes ++ h.chunks) k)
      go ih jh (inr k) = stands_later EndsAt b h below later a.0 (jh k)

  stands_forest : (f : Forest) → Stands f EndsAt → Mem l (collect_forest f)
  stands_forest leaf s = absurd (stands_none s)
  stands_forest (more b h below later) s = go (stands_forest below) (stands_forest later) (stands_cases EndsAt b h below later s)
    where
      go : (Stands below EndsAt → Mem l (collect_forest below)) → (Stands later EndsAt → Mem l (collect_forest later)) → Ends h ⊎ (Stands below EndsAt ⊎ Stands later EndsAt) → Mem l (collect_forest (more b h below later))
      go ih jh (inl q) = append_left (collect_forest later) (append_left (collect_forest below) (ends_mem h q))
      go ih jh (inr (inl k)) = append_left (collect_forest later) (append_right (h.prefixes ++ h.chunks) (ih k))
      go ih jh (inr (inr k)) = append_right (h.prefixes ++ h.chunks ++ collect_forest below) (jh k)

  -- of a node by a walk from itself
  collect_ends : (m : Node) → Apart m.children → Mem l (collect m) → (w : List ℕ) × Ends (lists_at m w)
  collect_ends m a k = go (append_cases (m.lists.prefixes ++ m.lists.chunks) k)
    where
      go : Mem l (m.lists.prefixes ++ m.lists.chunks) ⊎ Mem l (collect_forest m.children) → (w : List ℕ) × Ends (lists_at m w)
      go (inl k) = ([], append_cases m.lists.prefixes k)
      go (inr k) =
          let s = forest_stands m.children a k in
          (s.byte ∷ s.rest, subst (λ (o : Option Node). Ends (lists_or_none o)) (sym s.there) s.holds)

  ends_node : (n : Node) (u : List ℕ) → Ends (lists_at n u) → IsNode n u
  ends_node n u (inl k) = in_prefixes_node n u k
  ends_node n u (inr k) = in_chunks_node n u k

  ends_collect : (m : Node) (w : List ℕ) → Ends (lists_at m w) → Mem l (collect m)
  ends_collect m [] h = append_left (collect_forest m.children) (ends_mem m.lists h)
  ends_collect m (b ∷ w) h =
      let s : IsNode m (b ∷ w) = ends_node m (b ∷ w) h in
      append_right (m.lists.prefixes ++ m.lists.chunks) (stands_forest m.children (record { byte = b; rest = w; node = s.node; there = s.there; holds = subst (λ (o : Option Node). Ends (lists_or_none o)) s.there h }))

pub collect_has : (n : Node) → Apart n.children → (path : List ℕ) (m : Node) → node_at n path ≡ some m → (l : Location) → Mem l (collect m) ↔ Collected n path l
collect_has n a u m e l = ((λ k. to (collect_ends l m (apart_at n a u m e) k)), λ c. ends_collect l m c.rest (subst (Ends l) (lists_behind n u m e c.rest) c.listed))
  where
    to : (w : List ℕ) × Ends l (lists_at m w) → Collected n u l
    to t = record { rest = t.0; listed = subst (Ends l) (sym (lists_behind n u m e t.0)) t.1 }

-- ── under the index rule: where a path stands in pieces ──

-- l is where the path's bytes stand in a piece, from its byte i on
pub record InPiece (n : Node) (path : List ℕ) (l : Location) : Type 0 where
  pub bytes : List ℕ
  pub at : Location
  pub has : Has n bytes at
  pub i : ℕ
  pub inside : i < length bytes
  pub rest : List ℕ
  pub on : drop i bytes ≡ path ++ rest
  pub is : l ≡ moved at i

module _ (n : Node) (r : NodeRule n) where
  by_collected : (u : List ℕ) → 0 < length u → (l : Location) → Collected n u l → InPiece n u l
  by_collected u h l c = go c.listed
    where
      prefix : OwedPrefix n (u ++ c.rest) l → InPiece n u l
      prefix o = record { bytes = o.bytes; at = o.at; has = o.has; i = o.i; inside = o.to; rest = c.rest; on = o.there; is = o.is }

      go : Mem l (lists_at n (u ++ c.rest)).prefixes ⊎ Mem l (lists_at n (u ++ c.rest)).chunks → InPiece n u l
      go (inl k) = prefix ((r.prefixes (u ++ c.rest) l).0 k)
      go (inr k) = record { bytes = u ++ c.rest; at = l; has = k; i = 0; inside = omega (arith, length-append u c.rest); rest = c.rest; on = refl; is = location_path (omega arith) refl refl }

  by_piece : (u : List ℕ) (l : Location) → InPiece n u l → Collected n u l
  by_piece u l p = go p.i p.inside p.on p.is
    where
      go : (i : ℕ) → i < length p.bytes → drop i p.bytes ≡ u ++ p.rest → l ≡ moved p.at i → Collected n u l
      go zero f e s =
          let same : l ≡ p.at = s ∙ location_path (omega arith) refl refl in
          record { rest = p.rest; listed = inr (cast same (subst (λ (v : List ℕ). Has n v p.at) e p.has)) }
      go (suc j) f e s = record { rest = p.rest; listed = inl ((r.prefixes (u ++ p.rest) l).1 (record { bytes = p.bytes; at = p.at; has = p.has; i = suc j; from = omega arith; to = f; there = e; is = s })) }

  -- what a node other than the root collects
  pub collect_in_pieces : (path : List ℕ) → 0 < length path → (m : Node) → node_at n path ≡ some m → (l : Location) → Mem l (collect m) ↔ InPiece n path l
  collect_in_pieces u h m e l = ((λ k. by_collected u h l ((collect_has n r.apart u m e l).0 k)), λ p. (collect_has n r.apart u m e l).1 (by_piece u l p))

  -- and where there is no node, its path stands in no piece
  pub in_piece_node : (path : List ℕ) (l : Location) → InPiece n path l → IsNode n path
  in_piece_node u l p = go (by_piece u l p)
    where
      go : Collected n u l → IsNode n u
      go c = front_node n u c.rest (ends_node l n (u ++ c.rest) c.listed)

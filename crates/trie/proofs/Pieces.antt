-- The pieces of a trie are its `chunks` entries. Assumes nothing.
use Prim.Native.Nat.{ℕ}
use mathlib.Core.Path.{◌≡◌, refl, sym, ap, ◌∙◌, subst}
use mathlib.Core.Logic.{◌⊎◌, inl, inr, ◌↔◌}
use mathlib.Core.List.Memᴰ.{append_cases}
use mathlib.Core.List.Memᴰ.{append_left}
use mathlib.Core.List.Memᴰ.{append_right}
use mathlib.Core.List.Memᴰ.{head as here}
use mathlib.Core.List.Memᴰ.{not-nil}
use mathlib.Core.List.Memᴰ.{tail as behind}
use mathlib.Core.List.{List, [], ◌∷◌, ◌++◌, Memᴰ as Mem}
use mathlib.Core.Option.{Option, some}
use lib.Seq.{append_snoc}
use Rattle.definitions.specs.Location.{Location}
use Rattle.definitions.specs.Blocks.{Piece}
use Rattle.trie.specs.Trie.{Lists, Forest, leaf, more, Node, root, node_at, IsNode, lists_or_none, pieces_here, forest_pieces, trie_pieces}
use Rattle.trie.specs.Rule.{Apart, Has}
use Rattle.trie.proofs.Walk.{in_chunks_node}
use Rattle.trie.proofs.Stands.{Stands, stands_map, stands_none, stands_first, stands_below, stands_later, stands_cases}

-- ── pieces ──

pub here_mem : {p : Piece} (path : List ℕ) (ls : List Location) → Mem p (pieces_here path ls) → (p.bytes ≡ path) × Mem p.at ls
here_mem {p = p} path [] x' = elim x' [ ]
here_mem path (l ∷ ls) (here e) = (ap (λ (x : Piece). x.bytes) e, here (ap (λ (x : Piece). x.at) e))
here_mem path (l ∷ ls) (behind h) =
    let k = here_mem path ls h in
    (k.0, behind k.1)

pub mem_here : {p : Piece} (path : List ℕ) (ls : List Location) → p.bytes ≡ path → Mem p.at ls → Mem p (pieces_here path ls)
mem_here {p = p} path [] e x'' = elim x'' [ ]
mem_here path (l ∷ ls) e (here f) = here (λ i. record { bytes = e i; at = f i })
mem_here path (l ∷ ls) e (behind h) = behind (mem_here path ls e h)

module _ (p : Piece) where
  -- the piece has the bytes of the path behind `front`, and its location is a chunk there
  abbrev pub PieceAt : List ℕ → List ℕ → Lists → Type 0
  PieceAt front w h = (p.bytes ≡ front ++ w) × Mem p.at h.chunks

  pub forest_stands : (front : List ℕ) (f : Forest) → Apart f → Mem p (forest_pieces front f) → Stands f (PieceAt front)
  forest_stands front leaf a m = absurd (not-nil m)
  forest_stands front (more b h below later) a m = go (forest_stands (front ++ (b ∷ [])) below a.1) (forest_stands front later a.2) (append_cases (pieces_here (front ++ (b ∷ [])) h.chunks ++ forest_pieces (front ++ (b ∷ [])) below) m)
    where
      on : (w : List ℕ) (k : Lists) → PieceAt (front ++ (b ∷ [])) w k → PieceAt front (b ∷ w) k
      on w k q = (q.0 ∙ append_snoc front b w, q.1)

      this : (Mem p (forest_pieces (front ++ (b ∷ [])) below) → Stands below (PieceAt (front ++ (b ∷ [])))) → Mem p (pieces_here (front ++ (b ∷ [])) h.chunks) ⊎ Mem p (forest_pieces (front ++ (b ∷ [])) below) → Stands (more b h below later) (PieceAt front)
      this ih (inl k) = stands_first (PieceAt front) b h below later (here_mem (front ++ (b ∷ [])) h.chunks k)
      this ih (inr k) = stands_below (PieceAt front) b h below later (stands_map below on (ih k))

      go : (Mem p (forest_pieces (front ++ (b ∷ [])) below) → Stands below (PieceAt (front ++ (b ∷ [])))) → (Mem p (forest_pieces front later) → Stands later (PieceAt front)) → Mem p (pieces_here (front ++ (b ∷ [])) h.chunks ++ forest_pieces (front ++ (b ∷ [])) below) ⊎ Mem p (forest_pieces front later) → Stands (more b h below later) (PieceAt front)
      go ih jh (inl k) = this ih (append_cases (pieces_here (front ++ (b ∷ [])) h.chunks) k)
      go ih jh (inr k) = stands_later (PieceAt front) b h below later a.0 (jh k)

  stands_forest : (front : List ℕ) (f : Forest) → Stands f (PieceAt front) → Mem p (forest_pieces front f)
  stands_forest front leaf s = absurd (stands_none s)
  stands_forest front (more b h below later) s = go (stands_forest (front ++ (b ∷ [])) below) (stands_forest front later) (stands_cases (PieceAt front) b h below later s)
    where
      back : (w : List ℕ) (k : Lists) → PieceAt front (b ∷ w) k → PieceAt (front ++ (b ∷ [])) w k
      back w k q = (q.0 ∙ sym (append_snoc front b w), q.1)

      go : (Stands below (PieceAt (front ++ (b ∷ []))) → Mem p (forest_pieces (front ++ (b ∷ [])) below)) → (Stands later (PieceAt front) → Mem p (forest_pieces front later)) → PieceAt front (b ∷ []) h ⊎ (Stands below (λ w. PieceAt front (b ∷ w)) ⊎ Stands later (PieceAt front)) → Mem p (forest_pieces front (more b h below later))
      go ih jh (inl q) = append_left (forest_pieces front later) (append_left (forest_pieces (front ++ (b ∷ [])) below) (mem_here (front ++ (b ∷ [])) h.chunks q.0 q.1))
      go ih jh (inr (inl k)) = append_left (forest_pieces front later) (append_right (pieces_here (front ++ (b ∷ [])) h.chunks) (ih (stands_map below back k)))
      go ih jh (inr (inr k)) = append_right (pieces_here (front ++ (b ∷ [])) h.chunks ++ forest_pieces (front ++ (b ∷ [])) below) (jh k)

-- where sibling bytes differ; the walk finds the first sibling with a byte
pub pieces_has : (n : Node) → Apart n.children → (p : Piece) → Mem p (trie_pieces (root n)) ↔ Has n p.bytes p.at
pieces_has n a p = ((λ m. to (append_cases (pieces_here [] n.lists.chunks) m)), fro p.bytes refl)
  where
    has : (u : List ℕ) (m : Node) → node_at n u ≡ some m → p.bytes ≡ u → Mem p.at m.lists.chunks → Has n p.bytes p.at
    has u m e f k = subst (λ (v : List ℕ). Has n v p.at) (sym f) (subst (λ (o : Option Node). Mem p.at (lists_or_none o).chunks) (sym e) k)

    to : Mem p (pieces_here [] n.lists.chunks) ⊎ Mem p (forest_pieces [] n.children) → Has n p.bytes p.at
    to (inl k) =
        let q = here_mem [] n.lists.chunks k in
        has [] n refl q.0 q.1
    to (inr k) =
        let s = forest_stands p [] n.children a k in
        has (s.byte ∷ s.rest) s.node s.there s.holds.0 s.holds.1

    fro : (u : List ℕ) → p.bytes ≡ u → Has n u p.at → Mem p (trie_pieces (root n))
    fro [] e h = append_left (forest_pieces [] n.children) (mem_here [] n.lists.chunks e h)
    fro (b ∷ u) e h =
        let s : IsNode n (b ∷ u) = in_chunks_node n (b ∷ u) h in
        append_right (pieces_here [] n.lists.chunks) (stands_forest p [] n.children (record { byte = b; rest = u; node = s.node; there = s.there; holds = (e, subst (λ (o : Option Node). Mem p.at (lists_or_none o).chunks) s.there h) }))

-- The trie of a log free of conflicts is free of conflicts: it has none but the log's pieces, and each once. Assumes nothing.
use Prim.Native.Nat.{ℕ, zero, suc}
use native.Mathlib.Omega.{arith}
use mathlib.Core.Path.{◌≡◌, refl, sym, ap, ◌∙◌, subst}
use mathlib.Core.Bool.{true, false}
use mathlib.Core.Logic.{◌⊎◌, inl, inr}
use mathlib.Core.List.Memᴰ.{append_cases}
use mathlib.Core.List.Memᴰ.{append_left}
use mathlib.Core.List.Memᴰ.{append_right}
use mathlib.Core.List.Memᴰ.{head as here}
use mathlib.Core.List.Memᴰ.{tail as later}
use mathlib.Core.List.{List, [], ◌∷◌, ◌++◌, Memᴰ as Mem}
use lib.ListN.{length, length-append}
use lib.Seq.{append_snoc}
use Rattle.definitions.specs.Location.{Location, Sorted, Less}
use Rattle.definitions.specs.Blocks.{Piece}
use Rattle.definitions.specs.Conflicts.{conflicting}
use Rattle.definitions.proofs.Order.{less_asym, sorted_normal}
use Rattle.definitions.proofs.Tests.{is_false, not_both}
use Rattle.definitions.proofs.Sharing.{shares_sym}
use Rattle.definitions.proofs.Free.{Free, free_is, free_append}
use Rattle.trie.specs.Trie.{Forest, leaf, more, Node, walk, root, pieces_here, forest_pieces, trie_pieces}
use Rattle.trie.specs.Rule.{Absent, Apart}
use Rattle.trie.specs.Build.{Entry, in_chunks, gather, behind, entered_all, grow, build}
use Rattle.trie.specs.Promises.{TrieOfFree}
use Rattle.trie.proofs.Walk.{lost}
use Rattle.trie.proofs.Stands.{Stands, absent_child}
use Rattle.trie.proofs.Pieces.{PieceAt, here_mem, forest_stands, pieces_has}
use Rattle.trie.proofs.BuildPaths.{entry_of, onward}
use Rattle.trie.proofs.BuildLists.{chunk_entered}
use Rattle.trie.proofs.BuildEntered.{entered_mem}
use Rattle.trie.proofs.BuildRule.{apart_build}

-- of pieces free of conflicts, two that differ do not conflict
differ : (ps : List Piece) → Free ps → (p r : Piece) → Mem p ps → Mem r ps → (p ≡ r → ⊥) → conflicting p r ≡ false
differ [] g p r x4 _ n = elim x4 [ ]
differ (x ∷ ps) g p r (here e) (here f) n = absurd (n (e ∙ sym f))
differ (x ∷ ps) g p r (here e) (later k) n = subst (λ (y : Piece). conflicting y r ≡ false) (sym e) (g.0 r k)
differ (x ∷ ps) g p r (later m) (here f) n = is_false (conflicting p r) (λ h. not_both (subst (λ (y : Piece). conflicting y p ≡ false) (sym f) (g.0 p m)) (shares_sym p r h))
differ (x ∷ ps) g p r (later m) (later k) n = differ ps g.1 p r m k n

-- ── the chunks of every node are sorted ──

abbrev SortedChunks : Forest → Type 0
SortedChunks leaf = Unit {0}
SortedChunks (more b h below behind) = Sorted Less h.chunks × SortedChunks below × SortedChunks behind

sorted_node : (d : ℕ) (es : List Entry) → Sorted Less (build d es).lists.chunks
sorted_node zero es = sorted_normal (gather in_chunks es)
sorted_node (suc d) es = sorted_normal (gather in_chunks es)

sorted_grow : (d : ℕ) → ((es : List Entry) → SortedChunks (build d es).children) → (bs : List ℕ) (es : List Entry) → SortedChunks (grow (build d) bs es)
sorted_grow d ih [] es = tt
sorted_grow d ih (b ∷ bs) es = (sorted_node d (behind b es), ih (behind b es), sorted_grow d ih bs es)

sorted_build : (d : ℕ) (es : List Entry) → SortedChunks (build d es).children
sorted_build zero es = tt
sorted_build (suc d) es = sorted_grow d (sorted_build d) (onward es) es

-- ── where sibling bytes differ and chunks are sorted, no piece stands twice ──

same_byte : (front : List ℕ) (b c : ℕ) (v w : List ℕ) → front ++ (b ∷ v) ≡ front ++ (c ∷ w) → b ≡ c
same_byte [] b c v w e = cc
same_byte (x ∷ front) b c v w e = let f : front ++ (b ∷ v) ≡ front ++ (c ∷ w) = cc in same_byte front b c v w f

module _ (ps : List Piece) (g : Free ps) where
  abbrev Among : List Piece → Type 0
  Among qs = (p : Piece) → Mem p qs → Mem p ps

  free_here : (path : List ℕ) (ls : List Location) → Sorted Less ls → Among (pieces_here path ls) → Free (pieces_here path ls)
  free_here path [] s m = tt
  free_here path (l ∷ ls) s m =
      ((λ r k. differ ps g (record { bytes = path; at = l }) r (m (record { bytes = path; at = l }) (here refl)) (m r (later k)) (other r (here_mem path ls k).1)), free_here path ls s.1 (λ p k. m p (later k)))
    where
      other : (r : Piece) → Mem r.at ls → record { bytes = path; at = l } ≡ r → ⊥
      other r k e =
          let z : Less l l = subst (Less l) (sym (ap (λ (x : Piece). x.at) e)) (s.0 r.at k) in
          less_asym z z

  -- a node's own have fewer bytes than those below it
  free_node : (path : List ℕ) (ls : List Location) (f : Forest) → Sorted Less ls → Apart f → Among (pieces_here path ls ++ forest_pieces path f) → Free (forest_pieces path f) → Free (pieces_here path ls ++ forest_pieces path f)
  free_node path ls f s a m below = free_append (pieces_here path ls) (forest_pieces path f) (record {
    first = free_here path ls s (λ p k. m p (append_left (forest_pieces path f) k));
    second = below;
    between = λ p r i k. differ ps g p r (m p (append_left (forest_pieces path f) i)) (m r (append_right (pieces_here path ls) k)) (deeper p r i (forest_stands r path f a k));
  })
    where
      deeper : (p r : Piece) → Mem p (pieces_here path ls) → Stands f (PieceAt r path) → p ≡ r → ⊥
      deeper p r i t e =
          let u : path ≡ path ++ (t.byte ∷ t.rest) = sym (here_mem path ls i).0 ∙ ap (λ (x : Piece). x.bytes) e ∙ t.holds.0 in
          omega (arith, ap length u, length-append path (t.byte ∷ t.rest))

  -- those of a node and below it go on with another byte than those of its later siblings
  free_forest : (front : List ℕ) (f : Forest) → Apart f → SortedChunks f → Among (forest_pieces front f) → Free (forest_pieces front f)
  free_forest front leaf a s m = tt
  free_forest front (more b h below behind) a s m =
      let next : List ℕ = front ++ (b ∷ []) in
      let own : List Piece = pieces_here next h.chunks ++ forest_pieces next below in
      let mine : Among own = λ p k. m p (append_left (forest_pieces front behind) k) in
      let theirs : Among (forest_pieces front behind) = λ p k. m p (append_right own k) in
      free_append own (forest_pieces front behind) (record {
        first = free_node next h.chunks below s.0 a.1 mine (free_forest next below a.1 s.1 (λ p k. mine p (append_right (pieces_here next h.chunks) k)));
        second = free_forest front behind a.2 s.2 theirs;
        between = λ p r i k. differ ps g p r (mine p i) (theirs r k) (aside p r (begins p (append_cases (pieces_here next h.chunks) i)) (forest_stands r front behind a.2 k));
      })
    where
      begins : (p : Piece) → Mem p (pieces_here (front ++ (b ∷ [])) h.chunks) ⊎ Mem p (forest_pieces (front ++ (b ∷ [])) below) → (w : List ℕ) × (p.bytes ≡ front ++ (b ∷ w))
      begins p (inl k) = ([], (here_mem (front ++ (b ∷ [])) h.chunks k).0)
      begins p (inr k) =
          let t : Stands below (PieceAt p (front ++ (b ∷ []))) = forest_stands p (front ++ (b ∷ [])) below a.1 k in
          (t.byte ∷ t.rest, t.holds.0 ∙ append_snoc front b (t.byte ∷ t.rest))

      aside : (p r : Piece) → (w : List ℕ) × (p.bytes ≡ front ++ (b ∷ w)) → Stands behind (PieceAt r front) → p ≡ r → ⊥
      aside p r w t e =
          let c : b ≡ t.byte = same_byte front b t.byte w.0 t.rest (sym w.1 ∙ ap (λ (x : Piece). x.bytes) e ∙ t.holds.0) in
          lost t.rest t.node (ap (walk t.rest) (sym (absent_child t.byte behind (subst (λ (x : ℕ). Absent x behind) c a.0))) ∙ t.there)

-- ── the log's ──

pub trie_of_free : TrieOfFree
trie_of_free [] e = refl
trie_of_free (x ∷ xs) e =
    (free_is (trie_pieces (root n))).1
    (free_node (x ∷ xs) ((free_is (x ∷ xs)).0 e) [] n.lists.chunks n.children (sorted_node 16 es) (apart_build 16 es) among
    (free_forest (x ∷ xs) ((free_is (x ∷ xs)).0 e) [] n.children (apart_build 16 es) (sorted_build 16 es) (λ p k. among p (append_right (pieces_here [] n.lists.chunks) k))))
  where
    es : List Entry
    es = entered_all (x ∷ xs)

    n : Node
    n = build 16 (entered_all (x ∷ xs))

    among : (p : Piece) → Mem p (trie_pieces (root n)) → Mem p (x ∷ xs)
    among p k = (entered_mem (x ∷ xs) (entry_of p.bytes p.at true)).0 (chunk_entered 16 es p.bytes p.at ((pieces_has n (apart_build 16 es) p).0 k))

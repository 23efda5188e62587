-- What is found by the nodes of an index that meets the rule are the places of its pieces. Assumes nothing.
use Prim.Native.Nat.{ℕ, zero, suc, ◌<◌}
use native.Mathlib.Omega.{arith}
use mathlib.Core.Path.{◌≡◌, refl, sym, ap, ◌∙◌, subst}
use mathlib.Core.Logic.{◌⊎◌, inl, inr, ◌↔◌}
use mathlib.Core.List.Memᴰ.{append_cases}
use mathlib.Core.List.Memᴰ.{append_left}
use mathlib.Core.List.Memᴰ.{append_right}
use mathlib.Core.List.Memᴰ.{cast}
use mathlib.Core.List.Memᴰ.{not-nil}
use mathlib.Core.List.{List, [], ◌∷◌, ◌++◌, append-nil, Memᴰ as Mem}
use mathlib.Core.Option.{Option, none, some}
use lib.ListN.{length, drop}
use Rattle.definitions.specs.Location.{Location, moved, normal}
use Rattle.definitions.specs.Blocks.{Piece, tails}
use Rattle.definitions.specs.Places.{by_pieces, ends, places, table}
use Rattle.definitions.proofs.Order.{location_path}
use Rattle.definitions.proofs.Tails.{Tail, tails_mem, mem_tails, tail_at}
use Rattle.trie.specs.Trie.{Node, Trie, empty, root, node_at, IsNode, lists_at, trie_pieces}
use Rattle.trie.specs.Rule.{Has, NodeRule, Rule}
use Rattle.trie.specs.Find.{along, chunks_at, suffixes_and_chunks, ends_found, prefixes_and_chunks, collect_or_none, collected_at, places_found, table_found}
use Rattle.trie.proofs.BuildEntered.{as_piece}
use Rattle.trie.proofs.Pieces.{pieces_has}
use Rattle.trie.proofs.Collect.{InPiece, collect_in_pieces, in_piece_node}
use Rattle.trie.proofs.Along.{Ended, Beyond, along_is}

stays : (l : Location) → moved l 0 ≡ l
stays l = location_path (omega arith) refl refl

module _ (n : Node) (r : NodeRule n) where
  abbrev held : List Piece
  held = trie_pieces (root n)

  has_piece : (path : List ℕ) (l : Location) → Has n path l → Mem (as_piece path l) held
  has_piece path l h = (pieces_has n r.apart (as_piece path l)).1 h

  piece_has : (p : Piece) → Mem p held → Has n p.bytes p.at
  piece_has p m = (pieces_has n r.apart p).0 m

  -- ── whole pieces ──

  chunks_end : (path : List ℕ) → 0 < length path → (x : Location) → Mem x (chunks_at n path) ↔ Ended held path x
  chunks_end path h x = (to, fro)
    where
      to : Mem x (chunks_at n path) → Ended held path x
      to k = record { piece = as_piece path x; listed = has_piece path x k; bytes = refl; is = refl }

      fro : Ended held path x → Mem x (chunks_at n path)
      fro e = cast e.is (subst (λ (u : List ℕ). Mem e.piece.at (chunks_at n u)) (sym e.bytes) (piece_has e.piece e.listed))

  suffixes_beyond : (path : List ℕ) → 0 < length path → (x : Location) → Mem x (suffixes_and_chunks n path) ↔ Beyond held path x
  suffixes_beyond path h x = ((λ k. to (append_cases (lists_at n path).suffixes k)), λ b. fro b b.more refl)
    where
      to : Mem x (lists_at n path).suffixes ⊎ Mem x (lists_at n path).chunks → Beyond held path x
      to (inl k) = let o = (r.suffixes path x).0 k in record { piece = as_piece o.bytes x; listed = has_piece o.bytes x o.has; more = o.rest; bytes = o.on; is = refl }
      to (inr k) = record { piece = as_piece path x; listed = has_piece path x k; more = []; bytes = sym (append-nil path); is = refl }

      has : (b : Beyond held path x) → Has n b.piece.bytes x
      has b = cast b.is (piece_has b.piece b.listed)

      fro : (b : Beyond held path x) (more : List ℕ) → b.more ≡ more → Mem x (suffixes_and_chunks n path)
      fro b [] e =
          let f : b.piece.bytes ≡ path = b.bytes ∙ ap (λ (u : List ℕ). path ++ u) e ∙ append-nil path in
          append_right (lists_at n path).suffixes (subst (λ (u : List ℕ). Mem x (chunks_at n u)) f (has b))
      fro b (c ∷ more) e = append_left (lists_at n path).chunks ((r.suffixes path x).1 (record { bytes = b.piece.bytes; has = has b; rest = b.more; on = b.bytes; above = omega (arith, ap length e) }))

  pub ends_found_are : (q : List ℕ) → ends_found n q ≡ ends held q
  ends_found_are [] = refl
  ends_found_are (b ∷ q) = go (ends_found n q) (ends_found_are q)
    where
      go : (ts : List (List Location)) → ts ≡ ends held q → normal (along (chunks_at n) (suffixes_and_chunks n) [] (b ∷ q) ([] ∷ ts)) ∷ ts ≡ normal (by_pieces held (b ∷ q) (ends held q)) ∷ ends held q
      go ts e =
          let f : normal (along (chunks_at n) (suffixes_and_chunks n) [] (b ∷ q) ([] ∷ ts)) ≡ normal (by_pieces held (b ∷ q) ts) = along_is held (chunks_at n) (suffixes_and_chunks n) chunks_end suffixes_beyond b q ts in
          ap (λ (x : List Location). x ∷ ts) f ∙ ap (λ (us : List (List Location)). normal (by_pieces held (b ∷ q) us) ∷ us) e

  -- ── pieces from one of their bytes on ──

  prefixes_end : (path : List ℕ) → 0 < length path → (x : Location) → Mem x (prefixes_and_chunks n path) ↔ Ended (tails held) path x
  prefixes_end path h x = ((λ k. to (append_cases (lists_at n path).prefixes k)), λ e. fro e (tails_mem held e.listed))
    where
      to : Mem x (lists_at n path).prefixes ⊎ Mem x (lists_at n path).chunks → Ended (tails held) path x
      to (inl k) =
          let o = (r.prefixes path x).0 k in
          record { piece = tail_at o.at o.bytes o.i; listed = mem_tails held (as_piece o.bytes o.at) (has_piece o.bytes o.at o.has) o.i o.to; bytes = sym o.there; is = o.is }
      to (inr k) = record { piece = tail_at x path 0; listed = mem_tails held (as_piece path x) (has_piece path x k) 0 h; bytes = refl; is = sym (stays x) }

      fro : (e : Ended (tails held) path x) → Tail held e.piece → Mem x (prefixes_and_chunks n path)
      fro e t = go t.skip refl
        where
          bytes : path ≡ drop t.skip t.piece.bytes
          bytes = e.bytes ∙ ap (λ (p : Piece). p.bytes) t.is

          is : x ≡ moved t.piece.at t.skip
          is = e.is ∙ ap (λ (p : Piece). p.at) t.is

          go : (k : ℕ) → t.skip ≡ k → Mem x (prefixes_and_chunks n path)
          go zero i =
              let f : t.piece.bytes ≡ path = sym (bytes ∙ ap (λ (k : ℕ). drop k t.piece.bytes) i) in
              let g : x ≡ t.piece.at = is ∙ ap (moved t.piece.at) i ∙ stays t.piece.at in
              append_right (lists_at n path).prefixes (cast g (subst (λ (u : List ℕ). Mem t.piece.at (chunks_at n u)) f (piece_has t.piece t.listed)))
          go (suc k) i = append_left (lists_at n path).chunks ((r.prefixes path x).1 (record { bytes = t.piece.bytes; at = t.piece.at; has = piece_has t.piece t.listed; i = t.skip; from = omega arith; to = t.inside; there = sym bytes; is = is }))

  collected_beyond : (path : List ℕ) → 0 < length path → (x : Location) → Mem x (collected_at n path) ↔ Beyond (tails held) path x
  collected_beyond path h x = (to (node_at n path) refl, λ b. fro b (tails_mem held b.listed))
    where
      put : InPiece n path x → Beyond (tails held) path x
      put k = record { piece = tail_at k.at k.bytes k.i; listed = mem_tails held (as_piece k.bytes k.at) (has_piece k.bytes k.at k.has) k.i k.inside; more = k.rest; bytes = k.on; is = k.is }

      to : (o : Option Node) → node_at n path ≡ o → Mem x (collect_or_none o) → Beyond (tails held) path x
      to none e k = absurd (not-nil k)
      to (some m) e k = put ((collect_in_pieces n r path h m e x).0 k)

      fro : (b : Beyond (tails held) path x) → Tail held b.piece → Mem x (collected_at n path)
      fro b t =
          let k : InPiece n path x = record { bytes = t.piece.bytes; at = t.piece.at; has = piece_has t.piece t.listed; i = t.skip; inside = t.inside; rest = b.more; on = sym (ap (λ (p : Piece). p.bytes) t.is) ∙ b.bytes; is = b.is ∙ ap (λ (p : Piece). p.at) t.is } in
          let w : IsNode n path = in_piece_node n r path x k in
          subst (λ (o : Option Node). Mem x (collect_or_none o)) (sym w.there) ((collect_in_pieces n r path h w.node w.there x).1 k)

  pub places_found_are : (q : List ℕ) → places_found n q ≡ places held q
  places_found_are [] = refl
  places_found_are (b ∷ q) =
      along_is (tails held) (prefixes_and_chunks n) (collected_at n) prefixes_end collected_beyond b q (ends_found n q)
      ∙ ap (λ (ts : List (List Location)). normal (by_pieces (tails held) (b ∷ q) ts)) (ends_found_are q)

-- of every index that meets the rule: T(0) to T(n-1) by its nodes are those of its pieces
pub table_found_is : (t : Trie) → Rule t → (q : List ℕ) → table_found t q ≡ table (trie_pieces t) q
table_found_is empty r [] = refl
table_found_is empty r (b ∷ q) = ap (λ (ts : List (List Location)). [] ∷ ts) (nothing q)
  where
    nothing : (q : List ℕ) → table_found empty q ≡ ends [] q
    nothing [] = refl
    nothing (b ∷ q) = ap (λ (ts : List (List Location)). [] ∷ ts) (nothing q)
table_found_is (root n) r [] = refl
table_found_is (root n) r (b ∷ q) = ap (λ (t : List Location). t ∷ ends_found n q) (places_found_are n r (b ∷ q)) ∙ ap (λ (ts : List (List Location)). places (trie_pieces (root n)) (b ∷ q) ∷ ts) (ends_found_are n r q)

-- A block and its pieces: where each piece lies, what blocks hold their pieces hold, consistent blocks have consistent pieces.
-- Assumes nothing.
use Prim.Native.Nat.{ℕ, zero, suc, ◌+◌, ◌-◌, ◌%◌, ◌≤◌, ◌<◌}
use native.Mathlib.Nat.{not-suc-le-zero}
use native.Mathlib.Omega.{arith}
use mathlib.Core.Path.{◌≡◌, refl, sym, ap, ◌∙◌, subst}
use mathlib.Core.Bool.{Bool, true, false, cond}
use mathlib.Core.Logic.{◌⊎◌, inl, inr, ◌↔◌}
use mathlib.Core.List.Memᴰ.{append_cases}
use mathlib.Core.List.Memᴰ.{append_left}
use mathlib.Core.List.Memᴰ.{append_right}
use mathlib.Core.List.Memᴰ.{eq_of_singleton as only_one}
use mathlib.Core.List.Memᴰ.{head as here}
use mathlib.Core.List.Memᴰ.{not-nil}
use mathlib.Core.List.Memᴰ.{tail as later}
use mathlib.Core.List.{List, [], ◌∷◌, ◌++◌, append-nil, append_assoc, Memᴰ as Mem}
use lib.ListN.{length, get_or, take, drop, length-take, length-drop}
use lib.Seq.{get_or-take, get_or-drop}
use lib.Dec.{leb}
use Rattle.std.proofs.lemmas.Bool.{cases_lt}
use Rattle.definitions.specs.Location.{Location, moved}
use Rattle.definitions.specs.Blocks.{Block, Piece, cut, pieces, pieces_of}
use Rattle.definitions.specs.Runs.{Holds, Covers, Apart, Consistent, Alive}
use Rattle.definitions.proofs.Views.{Le, le}

abbrev block_of : Location → List ℕ → Block
block_of l bs = record { bytes = bs; at = l }

-- a piece of a block at l with the bytes bs: 16 bytes from a multiple of 16 on, the last one up to the block's end
pub record PieceOf (l : Location) (bs : List ℕ) (p : Piece) : Type 0 where
  pub skip : ℕ
  pub from_the_front : skip % 16 ≡ 0
  pub small : length p.bytes ≤ 16
  pub full : skip + length p.bytes < length bs → length p.bytes ≡ 16
  pub some : 0 < length bs → 0 < length p.bytes
  pub fits : skip + length p.bytes ≤ length bs
  pub address : p.at.address ≡ l.address + skip
  pub created : p.at.created ≡ l.created
  pub destroyed : p.at.destroyed ≡ l.destroyed
  pub same : (i : ℕ) → i < length p.bytes → get_or p.bytes i 0 ≡ get_or bs (skip + i) 0

piece_whole : (l : Location) (bs : List ℕ) → length bs ≤ 16 → PieceOf l bs (block_of l bs)
piece_whole l bs v = record {
  skip = 0;
  from_the_front = refl;
  small = v;
  full = λ h. absurd (omega arith);
  some = λ h. h;
  fits = omega arith;
  address = omega arith;
  created = refl;
  destroyed = refl;
  same = λ i h. ap (λ (k : ℕ). get_or bs k 0) (omega arith);
}

piece_front : (l : Location) (bs : List ℕ) → 16 < length bs → PieceOf l bs (block_of l (take 16 bs))
piece_front l bs v = record {
  skip = 0;
  from_the_front = refl;
  small = omega (arith, length-take 16 bs);
  full = λ h. omega (arith, length-take 16 bs);
  some = λ h. omega (arith, length-take 16 bs);
  fits = omega (arith, length-take 16 bs);
  address = omega arith;
  created = refl;
  destroyed = refl;
  same = λ i h. get_or-take 16 bs i 0 (omega (arith, length-take 16 bs)) ∙ ap (λ (k : ℕ). get_or bs k 0) (omega arith);
}

piece_back : (l : Location) (bs : List ℕ) (p : Piece) → 16 < length bs → PieceOf (moved l 16) (drop 16 bs) p → PieceOf l bs p
piece_back l bs p v w = record {
  skip = 16 + w.skip;
  from_the_front = omega (arith, w.from_the_front);
  small = w.small;
  full = λ h. w.full (omega (arith, length-drop 16 bs));
  some = λ h. w.some (omega (arith, length-drop 16 bs));
  fits = omega (arith, w.fits, length-drop 16 bs);
  address = omega (arith, w.address);
  created = w.created;
  destroyed = w.destroyed;
  same = λ i h. w.same i h ∙ get_or-drop 16 bs (w.skip + i) 0 ∙ ap (λ (k : ℕ). get_or bs k 0) (omega arith);
}

cut_pieces : {p : Piece} (n : ℕ) (l : Location) (bs : List ℕ) → Mem p (cut n l bs) → PieceOf l bs p
cut_pieces {p} zero l bs h = absurd (not-nil h)
cut_pieces {p} (suc n) l bs h = go (leb (length bs) 16) (le (length bs) 16) (cut_pieces n (moved l 16) (drop 16 bs)) h
  where
    rest : List Piece
    rest = cut n (moved l 16) (drop 16 bs)

    two : 16 < length bs → (Mem p rest → PieceOf (moved l 16) (drop 16 bs) p) → Mem p rest ⊎ Mem p (block_of l (take 16 bs) ∷ []) → PieceOf l bs p
    two v ih (inl k) = piece_back l bs p v (ih k)
    two v ih (inr k) = subst (PieceOf l bs) (sym (only_one k)) (piece_front l bs v)

    go : (o : Bool) → Le o (length bs) 16 → (Mem p rest → PieceOf (moved l 16) (drop 16 bs) p) → Mem p (cond o (block_of l bs ∷ []) (rest ++ (block_of l (take 16 bs) ∷ []))) → PieceOf l bs p
    go true v ih h = subst (PieceOf l bs) (sym (only_one h)) (piece_whole l bs v)
    go false v ih h = two v ih (append_cases rest h)

-- every piece of a block
pub piece_of : (b : Block) (p : Piece) → Mem p (pieces b) → PieceOf b.at b.bytes p
piece_of b p h = cut_pieces (suc (length b.bytes)) b.at b.bytes h

-- byte i of a block is byte `offset` of a piece of it
record Cut (l : Location) (bs : List ℕ) (ps : List Piece) (i : ℕ) : Type 0 where
  piece : Piece
  listed : Mem piece ps
  offset : ℕ
  inside : offset < length piece.bytes
  is : get_or piece.bytes offset 0 ≡ get_or bs i 0
  there : piece.at.address + offset ≡ l.address + i
  created : piece.at.created ≡ l.created
  destroyed : piece.at.destroyed ≡ l.destroyed

cut_all : (n : ℕ) (l : Location) (bs : List ℕ) → length bs < n → (i : ℕ) → i < length bs → Cut l bs (cut n l bs) i
cut_all zero l bs f i h = absurd (not-suc-le-zero f)
cut_all (suc n) l bs f i h = go (leb (length bs) 16) (le (length bs) 16) (cut_all n (moved l 16) (drop 16 bs))
  where
    rest : List Piece
    rest = cut n (moved l 16) (drop 16 bs)

    one : Piece
    one = block_of l (take 16 bs)

    on : 16 ≤ i → Cut (moved l 16) (drop 16 bs) rest (i - 16) → Cut l bs (rest ++ (one ∷ [])) i
    on k c = record {
      piece = c.piece;
      listed = append_left (one ∷ []) c.listed;
      offset = c.offset;
      inside = c.inside;
      is = c.is ∙ get_or-drop 16 bs (i - 16) 0 ∙ ap (λ (j : ℕ). get_or bs j 0) (omega arith);
      there = omega (arith, c.there);
      created = c.created;
      destroyed = c.destroyed;
    }

    two : 16 < length bs → (length (drop 16 bs) < n → (j : ℕ) → j < length (drop 16 bs) → Cut (moved l 16) (drop 16 bs) rest j) → (i < 16) ⊎ (16 ≤ i) → Cut l bs (rest ++ (one ∷ [])) i
    two v ih (inl k) = record { piece = one; listed = append_right rest (here refl); offset = i; inside = omega (arith, length-take 16 bs); is = get_or-take 16 bs i 0 k; there = refl; created = refl; destroyed = refl }
    two v ih (inr k) = on k (ih (omega (arith, length-drop 16 bs)) (i - 16) (omega (arith, length-drop 16 bs)))

    go : (o : Bool) → Le o (length bs) 16 → (length (drop 16 bs) < n → (j : ℕ) → j < length (drop 16 bs) → Cut (moved l 16) (drop 16 bs) rest j) → Cut l bs (cond o (block_of l bs ∷ []) (rest ++ (one ∷ []))) i
    go true v ih = record { piece = block_of l bs; listed = here refl; offset = i; inside = h; is = refl; there = refl; created = refl; destroyed = refl }
    go false v ih = two v ih (cases_lt i 16)

-- ── what is held ──

-- a piece of the recording, and its block
pub record FromBlock (bs : List Block) (p : Piece) : Type 0 where
  pub block : Block
  pub listed : Mem block bs
  pub piece : PieceOf block.at block.bytes p

pub pieces_mem : {p : Piece} (bs : List Block) → Mem p (pieces_of bs) → FromBlock bs p
pieces_mem {p = p} [] h = elim h [ ]
pieces_mem {p} (b ∷ bs) h = go (pieces_mem bs) (append_cases (pieces b) h)
  where
    on : FromBlock bs p → FromBlock (b ∷ bs) p
    on f = record { block = f.block; listed = later f.listed; piece = f.piece }

    go : (Mem p (pieces_of bs) → FromBlock bs p) → Mem p (pieces b) ⊎ Mem p (pieces_of bs) → FromBlock (b ∷ bs) p
    go ih (inl k) = record { block = b; listed = here refl; piece = piece_of b p k }
    go ih (inr k) = on (ih k)

-- the pieces of blocks with one more
pub pieces_added : (bs : List Block) (b : Block) → pieces_of (bs ++ (b ∷ [])) ≡ pieces_of bs ++ pieces b
pieces_added [] b = append-nil (pieces b)
pieces_added (x ∷ bs) b = ap (λ (ps : List Piece). pieces x ++ ps) (pieces_added bs b) ∙ sym (append_assoc (pieces x) (pieces_of bs) (pieces b))

mem_pieces : {p : Piece} (bs : List Block) (b : Block) → Mem b bs → Mem p (pieces b) → Mem p (pieces_of bs)
mem_pieces {p = p} [] b x'' k = elim x'' [ ]
mem_pieces {p} (r ∷ bs) b (here e) k = append_left (pieces_of bs) (subst (λ (y : Block). Mem p (pieces y)) e k)
mem_pieces (r ∷ bs) b (later m) k = append_right (pieces r) (mem_pieces bs b m k)

pub held_by_pieces : (bs : List Block) (b a t : ℕ) → Holds bs b a t ↔ Holds (pieces_of bs) b a t
held_by_pieces bs b a t = (to, λ h. fro h (pieces_mem bs h.listed))
  where
    to : Holds bs b a t → Holds (pieces_of bs) b a t
    to h =
        let p : Block = h.block in
        let c : Cut p.at p.bytes (pieces p) h.offset = cut_all (suc (length p.bytes)) p.at p.bytes (omega arith) h.offset h.inside in
        record {
          block = c.piece;
          listed = mem_pieces bs p h.listed c.listed;
          offset = c.offset;
          inside = c.inside;
          is = c.is ∙ h.is;
          there = c.there ∙ h.there;
          lives = record { from = omega (arith, c.created, h.lives.from); till = omega (arith, c.destroyed, h.lives.till) };
        }

    fro : (h : Holds (pieces_of bs) b a t) → FromBlock bs h.block → Holds bs b a t
    fro h f =
        let w : PieceOf f.block.at f.block.bytes h.block = f.piece in
        record {
          block = f.block;
          listed = f.listed;
          offset = w.skip + h.offset;
          inside = omega (arith, w.fits, h.inside);
          is = sym (w.same h.offset h.inside) ∙ h.is;
          there = omega (arith, w.address, h.there);
          lives = record { from = omega (arith, w.created, h.lives.from); till = omega (arith, w.destroyed, h.lives.till) };
        }

-- ── consistent, alive ──

piece_covers : {l : Location} {bs : List ℕ} {p : Piece} (w : PieceOf l bs p) (a t : ℕ) → Covers p a t → Covers (block_of l bs) a t
piece_covers w a t c = record { low = omega (arith, w.address, c.low); high = omega (arith, w.address, w.fits, c.high); lives = record { from = omega (arith, w.created, c.lives.from); till = omega (arith, w.destroyed, c.lives.till) } }

consistent_append : (xs ys : List Block) → Consistent xs → Consistent ys → ((x y : Block) → Mem x xs → Mem y ys → Apart x y) → Consistent (xs ++ ys)
consistent_append [] ys c d f = d
consistent_append (x ∷ xs) ys c d f = ((λ y h. go y (append_cases xs h)), consistent_append xs ys c.1 d (λ z y h k. f z y (later h) k))
  where
    go : (y : Block) → Mem y xs ⊎ Mem y ys → Apart x y
    go y (inl k) = c.0 y k
    go y (inr k) = f x y (here refl) k

cut_consistent : (n : ℕ) (l : Location) (bs : List ℕ) → Consistent (cut n l bs)
cut_consistent zero l bs = tt
cut_consistent (suc n) l bs = go (leb (length bs) 16) (cut_consistent n (moved l 16) (drop 16 bs))
  where
    rest : List Piece
    rest = cut n (moved l 16) (drop 16 bs)

    one : Piece
    one = block_of l (take 16 bs)

    alone : Consistent (one ∷ [])
    alone = ((λ y h. absurd (not-nil h)), tt)

    apart : (x y : Piece) → Mem x rest → Mem y (one ∷ []) → Apart x y
    apart x y h k a t c d =
        let e : y ≡ one = only_one k in
        let d' : Covers one a t = subst (λ (z : Piece). Covers z a t) e d in
        omega (arith, d'.high, length-take 16 bs, (cut_pieces n (moved l 16) (drop 16 bs) h).address, c.low)

    go : (o : Bool) → Consistent rest → Consistent (cond o (block_of l bs ∷ []) (rest ++ (one ∷ [])))
    go true ih = ((λ y h. absurd (not-nil h)), tt)
    go false ih = consistent_append rest (one ∷ []) ih alone apart

pub consistent_pieces : (bs : List Block) → Consistent bs → Consistent (pieces_of bs)
consistent_pieces [] c = tt
consistent_pieces (b ∷ bs) c = consistent_append (pieces b) (pieces_of bs) (cut_consistent (suc (length b.bytes)) b.at b.bytes) (consistent_pieces bs c.1) (λ x y h k. apart x y (piece_of b x h) (pieces_mem bs k))
  where
    apart : (x y : Piece) → PieceOf b.at b.bytes x → FromBlock bs y → Apart x y
    apart x y w f a t d e = c.0 f.block f.listed a t (piece_covers w a t d) (piece_covers f.piece a t e)

pub alive_pieces : (bs : List Block) → Alive bs → Alive (pieces_of bs)
alive_pieces bs v x h = go (pieces_mem bs h)
  where
    go : FromBlock bs x → x.at.created < x.at.destroyed
    go f = omega (arith, v f.block f.listed, f.piece.created, f.piece.destroyed)

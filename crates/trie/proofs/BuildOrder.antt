-- The children of every node of the trie of a log: their bytes are bytes, and more than 96 stand in ascending order.
-- Assumes nothing.
use Prim.Native.Nat.{ℕ, zero, suc, ◌<◌}
use native.Mathlib.Omega.{arith}
use mathlib.Core.Path.{◌≡◌, refl, sym, ap, subst}
use mathlib.Core.Bool.{Bool, true, false}
use mathlib.Core.List.Memᴰ.{head as here}
use mathlib.Core.List.Memᴰ.{not-nil}
use mathlib.Core.List.Memᴰ.{tail as behind_first}
use mathlib.Core.List.{List, [], ◌∷◌, Memᴰ as Mem}
use lib.ListN.{length, drop}
use Rattle.definitions.specs.Location.{Location}
use Rattle.definitions.specs.Blocks.{Piece}
use Rattle.trie.specs.Trie.{Forest, leaf, more, Node, Trie, empty, root}
use Rattle.trie.specs.Build.{Entry, entered_all, behind, arrivals, grow, build, trie_of, Rising}
use Rattle.trie.proofs.BuildBytes.{kept_rising}
use Rattle.trie.proofs.BuildPaths.{put, behind_mem, GoesOn, distinct_arrivals, onward, onward_mem}
use Rattle.trie.proofs.BuildEntered.{as_piece, EnteredBy, entered_mem}

-- the bytes of siblings, in their order
abbrev pub siblings : Forest → List ℕ
siblings leaf = []
siblings (more b h below later) = b ∷ siblings later

-- the bytes of a node's children, as an image keeps them
pub record KeptHere (bs : List ℕ) : Type 0 where
  pub bytes : (b : ℕ) → Mem b bs → b < 256
  pub rising : 96 < length bs → Rising bs

-- the children of each of these siblings and of all below them
abbrev pub KeptBelow : Forest → Type 0
KeptBelow leaf = Unit {0}
KeptBelow (more b h below later) = KeptHere (siblings below) × KeptBelow below × KeptBelow later

abbrev pub KeptForest : Forest → Type 0
KeptForest f = KeptHere (siblings f) × KeptBelow f

abbrev pub Kept : Trie → Type 0
Kept empty = Unit {0}
Kept (root n) = KeptForest n.children

-- every byte of a path is a byte
abbrev Bytes : List Entry → Type 0
Bytes es = (e : Entry) → Mem e es → (b : ℕ) → Mem b e.path → b < 256

bytes_behind : (b : ℕ) (es : List Entry) → Bytes es → Bytes (behind b es)
bytes_behind b es k e h c m = k (put (b ∷ []) e) (behind_mem b es h) c (behind_first m)

siblings_grow : (f : List Entry → Node) (bs : List ℕ) (es : List Entry) → siblings (grow f bs es) ≡ bs
siblings_grow f [] es = refl
siblings_grow f (b ∷ bs) es = ap (λ (x : List ℕ). b ∷ x) (siblings_grow f bs es)

onward_kept : (es : List Entry) → Bytes es → KeptHere (onward es)
onward_kept es k = record { bytes = λ b h. go b (onward_mem es h); rising = kept_rising (arrivals [] es) (distinct_arrivals [] es tt) }
  where
    go : (b : ℕ) → GoesOn b es → b < 256
    go b g = k (put (b ∷ []) g.entry) (behind_mem b es g.listed) b (here refl)

kept_grow : (f : List Entry → Node) → ((es : List Entry) → Bytes es → KeptForest (f es).children) → (bs : List ℕ) (es : List Entry) → Bytes es → KeptBelow (grow f bs es)
kept_grow f k [] es h = tt
kept_grow f k (b ∷ bs) es h =
    let c : KeptForest (f (behind b es)).children = k (behind b es) (bytes_behind b es h) in
    (c.0, c.1, kept_grow f k bs es h)

kept_build : (d : ℕ) (es : List Entry) → Bytes es → KeptForest (build d es).children
kept_build zero es h = (record { bytes = λ b k. absurd (not-nil k); rising = λ k. absurd (omega arith) }, tt)
kept_build (suc d) es h = (subst KeptHere (sym (siblings_grow (build d) (onward es) es)) (onward_kept es h), kept_grow (build d) (kept_build d) (onward es) es h)

-- ── a log ──

abbrev pub BytesOf : List Piece → Type 0
BytesOf ps = (p : Piece) → Mem p ps → (b : ℕ) → Mem b p.bytes → b < 256

pub mem_drop : {b : ℕ} (i : ℕ) (bs : List ℕ) → Mem b (drop i bs) → Mem b bs
mem_drop zero bs h = h
mem_drop (suc i) [] h = absurd (not-nil h)
mem_drop (suc i) (c ∷ bs) h = behind_first (mem_drop i bs h)

entered_bytes : (ps : List Piece) → BytesOf ps → Bytes (entered_all ps)
entered_bytes ps k e h b m = go e.whole e.path e.at ((entered_mem ps e).0 h) m
  where
    go : (w : Bool) (u : List ℕ) (l : Location) → EnteredBy ps w u l → Mem b u → b < 256
    go true u l h m = k (as_piece u l) h b m
    go false u l h m = k h.piece h.listed b (mem_drop h.i h.piece.bytes (subst (λ (x : List ℕ). Mem b x) (sym h.there) m))

pub trie_of_kept : (ps : List Piece) → BytesOf ps → Kept (trie_of ps)
trie_of_kept [] k = tt
trie_of_kept (p ∷ ps) k = kept_build 16 (entered_all (p ∷ ps)) (entered_bytes (p ∷ ps) k)

-- The trie of a log of sound pieces can be saved. Assumes nothing.
use Prim.Native.Nat.{ℕ, zero, suc, ◌+◌, ◌^◌, ◌≤◌, ◌<◌}
use native.Mathlib.Omega.{arith}
use mathlib.Core.Path.{◌≡◌, refl, sym, ap, subst}
use mathlib.Core.Bool.{Bool, true, false}
use mathlib.Core.Logic.{◌⊎◌, inl, inr}
use mathlib.Core.List.Memᴰ.{append_cases}
use mathlib.Core.List.Memᴰ.{eq_of_singleton as only_one}
use mathlib.Core.List.Memᴰ.{head as here}
use mathlib.Core.List.Memᴰ.{not-nil}
use mathlib.Core.List.Memᴰ.{tail as next}
use mathlib.Core.List.{List, [], ◌∷◌, Memᴰ as Mem}
use lib.ListN.{length}
use Rattle.definitions.specs.Location.{Location, moved, normal}
use Rattle.definitions.specs.Blocks.{Piece}
use Rattle.definitions.proofs.Order.{normal_mem}
use Rattle.trie.specs.Trie.{Forest, leaf, more}
use Rattle.trie.specs.Build.{Entry, entered_all, in_prefixes, in_chunks, in_suffixes, gather, lists_of, behind, arrivals, kept_order, grow, build, trie_of, Rising}
use Rattle.trie.proofs.BuildPaths.{put, behind_mem}
use Rattle.trie.proofs.BuildEntered.{as_piece, EnteredBy, entered_mem}
use Rattle.trie.proofs.BuildRule.{SoundPiece, apart_build}
use Rattle.trie.proofs.BuildOrder as K
use Rattle.image_format.specs.Savable.{LocationsFit, ListsFit, AllFit, InBytes, Short, siblings, Ascending, Kept, AllKept, Shaped}

-- ── locations of 64 bits ──

pub record Small (l : Location) : Type 0 where
  pub address : l.address < 2 ^ 64
  pub created : l.created < 2 ^ 64
  pub destroyed : l.destroyed < 2 ^ 64

locations_fit : (ls : List Location) → ((l : Location) → Mem l ls → Small l) → LocationsFit ls
locations_fit [] f = tt
locations_fit (l ∷ ls) f = let s = f l (here refl) in (s.address, s.created, s.destroyed, locations_fit ls (λ x h. f x (next h)))

abbrev SmallEntries : List Entry → Type 0
SmallEntries es = (e : Entry) → Mem e es → Small e.at

-- what is gathered is the location of an entry
one_of : (f : List ℕ → Bool → Location → List Location) → ((u : List ℕ) (w : Bool) (l x : Location) → Mem x (f u w l) → x ≡ l) → (es : List Entry) → SmallEntries es → (x : Location) → Mem x (gather f es) → Small x
one_of f g [] s x h = absurd (not-nil h)
one_of f g (e ∷ es) s x h = go (one_of f g es (λ y k. s y (next k)) x) (append_cases (f e.path e.whole e.at) h)
  where
    go : (Mem x (gather f es) → Small x) → Mem x (f e.path e.whole e.at) ⊎ Mem x (gather f es) → Small x
    go ih (inl k) = subst Small (sym (g e.path e.whole e.at x k)) (s e (here refl))
    go ih (inr k) = ih k

prefix_is : (u : List ℕ) (w : Bool) (l x : Location) → Mem x (in_prefixes u w l) → x ≡ l
prefix_is [] false l x h = only_one h
prefix_is [] true l x h = absurd (not-nil h)
prefix_is (b ∷ u) w l x h = absurd (not-nil h)

chunk_is : (u : List ℕ) (w : Bool) (l x : Location) → Mem x (in_chunks u w l) → x ≡ l
chunk_is [] true l x h = only_one h
chunk_is [] false l x h = absurd (not-nil h)
chunk_is (b ∷ u) w l x h = absurd (not-nil h)

suffix_is : (u : List ℕ) (w : Bool) (l x : Location) → Mem x (in_suffixes u w l) → x ≡ l
suffix_is [] w l x h = absurd (not-nil h)
suffix_is (b ∷ u) true l x h = only_one h
suffix_is (b ∷ u) false l x h = absurd (not-nil h)

lists_fit : (es : List Entry) → SmallEntries es → ListsFit (lists_of es)
lists_fit es s = record { prefixes = all in_prefixes prefix_is; chunks = all in_chunks chunk_is; suffixes = all in_suffixes suffix_is }
  where
    all : (f : List ℕ → Bool → Location → List Location) → ((u : List ℕ) (w : Bool) (l x : Location) → Mem x (f u w l) → x ≡ l) → LocationsFit (normal (gather f es))
    all f g = locations_fit (normal (gather f es)) (λ x h. one_of f g es s x (normal_mem (gather f es) h))

small_behind : (b : ℕ) (es : List Entry) → SmallEntries es → SmallEntries (behind b es)
small_behind b es s e h = s (put (b ∷ []) e) (behind_mem b es h)

-- ── all nodes ──

build_lists : (d : ℕ) (es : List Entry) → (build d es).lists ≡ lists_of es
build_lists zero es = refl
build_lists (suc d) es = refl

grow_fit : (d : ℕ) → ((es : List Entry) → SmallEntries es → AllFit (build d es).children) → (bs : List ℕ) (es : List Entry) → SmallEntries es → AllFit (grow (build d) bs es)
grow_fit d ih [] es s = tt
grow_fit d ih (b ∷ bs) es s = (subst ListsFit (sym (build_lists d (behind b es))) (lists_fit (behind b es) (small_behind b es s)), ih (behind b es) (small_behind b es s), grow_fit d ih bs es s)

build_fit : (d : ℕ) (es : List Entry) → SmallEntries es → AllFit (build d es).children
build_fit zero es s = tt
build_fit (suc d) es s = grow_fit d (build_fit d) (kept_order (arrivals [] es)) es s

grow_short : (d : ℕ) → ((es : List Entry) → Short d (build d es).children) → (bs : List ℕ) (es : List Entry) → Short (suc d) (grow (build d) bs es)
grow_short d ih [] es = tt
grow_short d ih (b ∷ bs) es = (ih (behind b es), grow_short d ih bs es)

build_short : (d : ℕ) (es : List Entry) → Short d (build d es).children
build_short zero es = tt
build_short (suc d) es = grow_short d (build_short d) (kept_order (arrivals [] es)) es

-- ── bytes, and their order ──

in_bytes : (f : Forest) → ((b : ℕ) → Mem b (K.siblings f) → b < 256) → K.KeptBelow f → InBytes f
in_bytes leaf k h = tt
in_bytes (more b l below later) k h = (k b (here refl), in_bytes below h.0.bytes h.1, in_bytes later (λ c m. k c (next m)) h.2)

count : (f : Forest) → siblings f ≡ length (K.siblings f)
count leaf = refl
count (more b l below later) = ap suc (count later)

rising_from : (f : Forest) (b : ℕ) → ((c : ℕ) → Mem c (K.siblings f) → b ≤ c) → Rising (K.siblings f) → Ascending b f
rising_from leaf b h r = tt
rising_from (more c l below later) b h r = (h c (here refl), rising_from later (c + 1) (λ x m. omega (arith, r.0 x m)) r.1)

kept_here : (f : Forest) → K.KeptHere (K.siblings f) → Kept f
kept_here f k h = rising_from f 0 (λ c m. omega arith) (k.rising (omega (arith, count f)))

kept_below : (f : Forest) → K.KeptBelow f → AllKept f
kept_below leaf h = tt
kept_below (more b l below later) h = (kept_here below h.0, kept_below below h.1, kept_below later h.2)

-- ── the trie of a log ──

-- pieces that callers can hand in
pub record PieceFits (p : Piece) : Type 0 where
  pub sound : SoundPiece p
  pub bytes : (b : ℕ) → Mem b p.bytes → b < 256
  pub small : Small p.at

entries_small : (ps : List Piece) → ((p : Piece) → Mem p ps → PieceFits p) → SmallEntries (entered_all ps)
entries_small ps f e h = go e.whole e.path e.at ((entered_mem ps e).0 h)
  where
    go : (w : Bool) (u : List ℕ) (l : Location) → EnteredBy ps w u l → Small l
    go true u l k = (f (as_piece u l) k).small
    go false u l k =
        let p : PieceFits k.piece = f k.piece k.listed in
        let s : Small (moved k.piece.at k.i) = record { address = omega (arith, p.sound.passes.below, k.to); created = p.small.created; destroyed = p.small.destroyed } in
        subst Small (sym k.is) s

pub trie_of_shaped : (ps : List Piece) → ((p : Piece) → Mem p ps → PieceFits p) → Shaped (trie_of ps)
trie_of_shaped [] f = tt
trie_of_shaped (p ∷ ps) f =
    let es : List Entry = entered_all (p ∷ ps) in
    let s : SmallEntries es = entries_small (p ∷ ps) f in
    let k : K.KeptForest (build 16 es).children = K.trie_of_kept (p ∷ ps) (λ x h. (f x h).bytes) in
    record {
      lists = lists_fit es s;
      all_lists = build_fit 16 es s;
      bytes = in_bytes (build 16 es).children k.0.bytes k.1;
      apart = apart_build 16 es;
      short = build_short 16 es;
      kept = kept_here (build 16 es).children k.0;
      all_kept = kept_below (build 16 es).children k.1;
    }

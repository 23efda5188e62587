-- The table computes T(i) of document 01, and the set of pieces alone decides it. No consistency is asked. Assumes nothing.
use Prim.Native.Nat.{ℕ, zero, suc, ◌+◌, ◌<◌}
use native.Mathlib.Nat.{not-suc-le-zero}
use native.Mathlib.Omega.{arith}
use mathlib.Core.Path.{◌≡◌, refl, sym, ap, ◌∙◌, subst}
use mathlib.Core.Bool.{Bool, true, false, cond}
use mathlib.Core.Logic.{◌↔◌}
use mathlib.Core.List.Memᴰ.{cast}
use mathlib.Core.List.Memᴰ.{eq_of_singleton as only_one}
use mathlib.Core.List.Memᴰ.{head as here}
use mathlib.Core.List.Memᴰ.{not-nil}
use mathlib.Core.List.{List, [], ◌∷◌, ◌++◌, Memᴰ as Mem}
use mathlib.Core.Option.{some}
use lib.ListN.{length, get_or, drop}
use lib.Dec.{eqb}
use borrow.Author.Tests.{eq-eqb}
use Rattle.definitions.specs.Location.{Location, common, overlap, normal, Sorted, Less}
use Rattle.definitions.specs.Blocks.{Piece, tails}
use Rattle.definitions.specs.Places.{Reach, misses, covers, onward, first_of, rest_of, reach, extend, by_pieces, ends, places, table, Chain, last, link, T, NeverEmpty}
use Rattle.definitions.specs.Rows.{combine_split_times, rows}
use Rattle.definitions.specs.Runs.{Alive}
pub use Rattle.definitions.specs.Promises.{SamePieces}
use Rattle.definitions.proofs.Views.{Eq, eq, Overlaps, overlap_is, overlap_some}
use Rattle.definitions.proofs.Order.{normal_mem, mem_normal, sorted_normal, same_lists}
use Rattle.definitions.proofs.Tails.{Tail, tails_mem, mem_tails}
use Rattle.definitions.proofs.Joins.{Joined, joins_mem, mem_joins, ByPiece, has_byte, by_pieces_mem, mem_by_pieces}

chain_some : {ps rs : List Piece} {q : List ℕ} {l : Location} → Chain ps rs q l → 0 < length q
chain_some (last p more m n e f) = n
chain_some {q = q} (link p rest m h n e c a v) = go p.bytes n e
  where
    go : (cs : List ℕ) → 0 < length cs → q ≡ cs ++ rest → 0 < length q
    go [] n e = absurd (not-suc-le-zero n)
    go (c ∷ cs) n e = omega (arith, ap length e)

-- the overlap of lives that are not empty is not
chain_lives : {ps rs : List Piece} {q : List ℕ} {l : Location} → Alive ps → Alive rs → Chain ps rs q l → l.created < l.destroyed
chain_lives a b (last p more m n e f) = subst (λ (x : Location). x.created < x.destroyed) (sym f) (b p m)
chain_lives {l = l} a b (link p rest next m n e c j v) =
    let k : next.created < next.destroyed = chain_lives a a c in
    let o : Overlaps p.at next l = overlap_is p.at next l v in
    subst (λ (x : Location). x.created < x.destroyed) (sym o.is) (omega (arith, b p m, o.left, o.right))

tails_alive : (ps : List Piece) → Alive ps → Alive (tails ps)
tails_alive ps a x h = go (tails_mem ps h)
  where
    go : Tail ps x → x.at.created < x.at.destroyed
    go k = subst (λ (y : Piece). y.at.created < y.at.destroyed) (sym k.is) (a k.piece k.listed)

pub never_empty : NeverEmpty
never_empty ps a q zero l c = chain_lives a (tails_alive ps a) c
never_empty ps a q (suc i) l c = chain_lives a a c

module _ (ps : List Piece) where
  -- from the table to chains
  abbrev GoodF : List ℕ → List (List Location) → Type 0
  GoodF [] ts = Unit {0}
  GoodF (b ∷ q) ts = ((m : Location) → Mem m (first_of ts) → Chain ps ps (b ∷ q) m) × GoodF q (rest_of ts)

  abbrev Lies : List ℕ → List ℕ → Reach → Type 0
  Lies cs q misses = Unit {0}
  Lies cs q covers = (more : List ℕ) × (cs ≡ q ++ more)
  Lies cs q (onward ms) = (rest : List ℕ) × (q ≡ cs ++ rest) × ((m : Location) → Mem m ms → Chain ps ps rest m)

  lies_on : (c b : ℕ) (cs q : List ℕ) (r : Reach) → c ≡ b → Lies cs q r → Lies (c ∷ cs) (b ∷ q) r
  lies_on c b cs q misses e h = tt
  lies_on c b cs q covers e h = let f : cs ≡ q ++ h.0 = h.1 in (h.0, cc)
  lies_on c b cs q (onward ms) e h = let f : q ≡ cs ++ h.0 = h.1 in (h.0, cc, h.2)

  reach_lies : (cs q : List ℕ) (ts : List (List Location)) → GoodF q ts → Lies cs q (reach cs q ts)
  reach_lies cs [] ts g = (cs, refl)
  reach_lies [] (b ∷ q) ts g = (b ∷ q, refl, g.0)
  reach_lies (c ∷ cs) (b ∷ q) ts g = go (eqb c b) (eq c b) (reach_lies cs q (rest_of ts) g.1)
    where
      go : (o : Bool) → Eq o c b → Lies cs q (reach cs q (rest_of ts)) → Lies (c ∷ cs) (b ∷ q) (cond o (reach cs q (rest_of ts)) misses)
      go true e ih = lies_on c b cs q (reach cs q (rest_of ts)) e ih
      go false e ih = tt

  extend_chain : (rs : List Piece) (p : Piece) → Mem p rs → 0 < length p.bytes → (q : List ℕ) → 0 < length q → (r : Reach) → Lies p.bytes q r → (x : Location) → Mem x (extend p.at (p.at.address + length p.bytes) r) → Chain ps rs q x
  extend_chain rs p m n q k misses l x h = absurd (not-nil h)
  extend_chain rs p m n q k covers l x h = last p l.0 m k l.1 (only_one h)
  extend_chain rs p m n q k (onward ms) l x h = go (joins_mem p.at (p.at.address + length p.bytes) ms h)
    where
      go : Joined p.at (p.at.address + length p.bytes) ms x → Chain ps rs q x
      go j =
          let meet : overlap p.at j.next ≡ some (common p.at j.next) = overlap_some p.at j.next j.joined.1 j.joined.2 in
          link p l.0 j.next m n l.1 (l.2 j.next j.listed) j.joined.0 (meet ∙ ap some (sym j.is))

  step_chain : (rs : List Piece) (b : ℕ) (q : List ℕ) (ts : List (List Location)) → GoodF q ts → (x : Location) → Mem x (normal (by_pieces rs (b ∷ q) ts)) → Chain ps rs (b ∷ q) x
  step_chain rs b q ts g x h = go (by_pieces_mem rs (b ∷ q) ts (normal_mem (by_pieces rs (b ∷ q) ts) h))
    where
      go : ByPiece rs (b ∷ q) ts x → Chain ps rs (b ∷ q) x
      go k =
          let p : Piece = k.piece in
          let n : 0 < length p.bytes = has_byte p.bytes b q ts p.at (p.at.address + length p.bytes) k.by in
          extend_chain rs p k.listed n (b ∷ q) (omega arith) (reach p.bytes (b ∷ q) ([] ∷ ts)) (reach_lies p.bytes (b ∷ q) ([] ∷ ts) ((λ m i. absurd (not-nil i)), g)) x k.by

  ends_chain : (q : List ℕ) → GoodF q (ends ps q)
  ends_chain [] = tt
  ends_chain (b ∷ q) = (step_chain ps b q (ends ps q) (ends_chain q), ends_chain q)

  -- from chains to the table
  abbrev GoodB : List ℕ → List (List Location) → Type 0
  GoodB [] ts = Unit {0}
  GoodB (b ∷ q) ts = ((m : Location) → Chain ps ps (b ∷ q) m → Mem m (first_of ts)) × GoodB q (rest_of ts)

  reach_covers : (q more : List ℕ) (ts : List (List Location)) → reach (q ++ more) q ts ≡ covers
  reach_covers [] more ts = refl
  reach_covers (b ∷ q) more ts = rw (eq-eqb b b refl) (reach_covers q more (rest_of ts))

  -- the piece ends before the query does
  record Onward (r : Reach) (m : Location) : Type 0 where
    next : List Location
    is : r ≡ onward next
    listed : Mem m next

  reach_onward : (cs rest : List ℕ) (ts : List (List Location)) (m : Location) → Chain ps ps rest m → GoodB (cs ++ rest) ts → Onward (reach cs (cs ++ rest) ts) m
  reach_onward [] [] ts m c g = absurd (not-suc-le-zero (chain_some c))
  reach_onward [] (b ∷ rest) ts m c g = record { next = first_of ts; is = refl; listed = g.0 m c }
  reach_onward (b ∷ cs) rest ts m c g = rw (eq-eqb b b refl) (reach_onward cs rest (rest_of ts) m c g.1)

  first_onward : (c : ℕ) (cs rest : List ℕ) (ts : List (List Location)) (m : Location) → Chain ps ps rest m → GoodB (cs ++ rest) ts → Onward (reach (c ∷ cs) (c ∷ (cs ++ rest)) ([] ∷ ts)) m
  first_onward c cs rest ts m k g = rw (eq-eqb c c refl) (reach_onward cs rest ts m k g)

  by_last : (l : Location) (e : ℕ) (b : ℕ) (q more cs : List ℕ) (ts : List (List Location)) → cs ≡ (b ∷ q) ++ more → Mem l (extend l e (reach cs (b ∷ q) ([] ∷ ts)))
  by_last l e b q more cs ts f = subst (λ (r : Reach). Mem l (extend l e r)) (sym (ap (λ (x : List ℕ). reach x (b ∷ q) ([] ∷ ts)) f ∙ reach_covers (b ∷ q) more ([] ∷ ts))) (here refl)

  by_link : (l : Location) (e : ℕ) (cs rest : List ℕ) (b : ℕ) (q : List ℕ) (ts : List (List Location)) (m : Location) → 0 < length cs → b ∷ q ≡ cs ++ rest → Chain ps ps rest m → GoodB q ts → m.address ≡ e → l.created < m.destroyed → m.created < l.destroyed → Mem (common l m) (extend l e (reach cs (b ∷ q) ([] ∷ ts)))
  by_link l e [] rest b q ts m n f c g a v w = absurd (not-suc-le-zero n)
  by_link l e (d ∷ cs) rest b q ts m n f c g a v w =
      let f' : q ≡ cs ++ rest = cc in
      let k : Onward (reach (d ∷ cs) (d ∷ (cs ++ rest)) ([] ∷ ts)) m = first_onward d cs rest ts m c (subst (λ (x : List ℕ). GoodB x ts) f' g) in
      let i : reach (d ∷ cs) (b ∷ q) ([] ∷ ts) ≡ onward k.next = ap (λ (x : List ℕ). reach (d ∷ cs) x ([] ∷ ts)) f ∙ k.is in
      subst (λ (r : Reach). Mem (common l m) (extend l e r)) (sym i) (mem_joins l e k.next m k.listed (a, v, w))

  step_back : (rs : List Piece) (b : ℕ) (q : List ℕ) (ts : List (List Location)) → GoodB q ts → (x : Location) → Chain ps rs (b ∷ q) x → Mem x (normal (by_pieces rs (b ∷ q) ts))
  step_back rs b q ts g x (last p more h n e f) = mem_normal (by_pieces rs (b ∷ q) ts) (mem_by_pieces rs (b ∷ q) ts p h (cast f (by_last p.at (p.at.address + length p.bytes) b q more p.bytes ts e)))
  step_back rs b q ts g x (link p rest m h n e c a v) =
      let o : Overlaps p.at m x = overlap_is p.at m x v in
      mem_normal (by_pieces rs (b ∷ q) ts) (mem_by_pieces rs (b ∷ q) ts p h (cast o.is (by_link p.at (p.at.address + length p.bytes) p.bytes rest b q ts m n e c g a o.left o.right)))

  ends_back : (q : List ℕ) → GoodB q (ends ps q)
  ends_back [] = tt
  ends_back (b ∷ q) = (step_back ps b q (ends ps q) (ends_back q), ends_back q)

  -- ── T(i) ──

  pub places_are_chains : (q : List ℕ) → 0 < length q → (x : Location) → Mem x (places ps q) ↔ Chain ps (tails ps) q x
  places_are_chains [] n x = absurd (not-suc-le-zero n)
  places_are_chains (b ∷ q) n x = (step_chain (tails ps) b q (ends ps q) (ends_chain q) x, step_back (tails ps) b q (ends ps q) (ends_back q) x)

  ends_are_chains : (q : List ℕ) (i : ℕ) → i < length q → (x : Location) → Mem x (get_or (ends ps q) i []) ↔ Chain ps ps (drop i q) x
  ends_are_chains [] i n x = absurd (not-suc-le-zero n)
  ends_are_chains (b ∷ q) zero n x = (step_chain ps b q (ends ps q) (ends_chain q) x, step_back ps b q (ends ps q) (ends_back q) x)
  ends_are_chains (b ∷ q) (suc i) n x = ends_are_chains q i (omega arith) x

  -- the table computes T(i): the same sets
  pub table_is_T : (q : List ℕ) (i : ℕ) → i < length q → (x : Location) → Mem x (get_or (table ps q) i []) ↔ T ps q i x
  table_is_T [] i n x = absurd (not-suc-le-zero n)
  table_is_T (b ∷ q) zero n x = places_are_chains (b ∷ q) n x
  table_is_T (b ∷ q) (suc i) n x = ends_are_chains q i (omega arith) x

  ends_sorted : (q : List ℕ) (i : ℕ) → Sorted Less (get_or (ends ps q) i [])
  ends_sorted [] zero = tt
  ends_sorted [] (suc i) = tt
  ends_sorted (b ∷ q) zero = sorted_normal (by_pieces ps (b ∷ q) (ends ps q))
  ends_sorted (b ∷ q) (suc i) = ends_sorted q i

  -- sorted, each place once
  pub table_sorted : (q : List ℕ) (i : ℕ) → Sorted Less (get_or (table ps q) i [])
  table_sorted [] zero = tt
  table_sorted [] (suc i) = tt
  table_sorted (b ∷ q) zero = sorted_normal (by_pieces (tails ps) (b ∷ q) (ends ps q))
  table_sorted (b ∷ q) (suc i) = ends_sorted q i

-- ── the set of pieces alone decides ──

chain_more : {ps ps' rs rs' : List Piece} {q : List ℕ} {x : Location} → ((p : Piece) → Mem p ps → Mem p ps') → ((p : Piece) → Mem p rs → Mem p rs') → Chain ps rs q x → Chain ps' rs' q x
chain_more f g (last p more h n e i) = last p more (g p h) n e i
chain_more f g (link p rest m h n e c a v) = link p rest m (g p h) n e (chain_more f f c) a v

tails_more : (ps ps' : List Piece) → ((p : Piece) → Mem p ps → Mem p ps') → (x : Piece) → Mem x (tails ps) → Mem x (tails ps')
tails_more ps ps' f x h = go (tails_mem ps h)
  where
    go : Tail ps x → Mem x (tails ps')
    go k = cast k.is (mem_tails ps' k.piece (f k.piece k.listed) k.skip k.inside)

pub places_by_set : (ps ps' : List Piece) → SamePieces ps ps' → (q : List ℕ) → places ps q ≡ places ps' q
places_by_set ps ps' s [] = refl
places_by_set ps ps' s (b ∷ q) = same_lists (places ps (b ∷ q)) (places ps' (b ∷ q)) (table_sorted ps (b ∷ q) 0) (table_sorted ps' (b ∷ q) 0) (one ps ps' s) (one ps' ps (record { to = s.fro; fro = s.to }))
  where
    one : (rs rs' : List Piece) → SamePieces rs rs' → (x : Location) → Mem x (places rs (b ∷ q)) → Mem x (places rs' (b ∷ q))
    one rs rs' s x h = (places_are_chains rs' (b ∷ q) (omega arith) x).1 (chain_more s.to (tails_more rs rs' s.to) ((places_are_chains rs (b ∷ q) (omega arith) x).0 h))

-- rows depend on the set of pieces alone
pub rows_by_set : (ps ps' : List Piece) → SamePieces ps ps' → (q : List ℕ) → rows ps q ≡ rows ps' q
rows_by_set ps ps' s q = ap combine_split_times (places_by_set ps ps' s q)

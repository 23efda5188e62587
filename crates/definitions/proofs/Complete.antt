-- Wherever the query stands, the table has a place. Assumes nothing.
use Prim.Native.Nat.{ℕ, suc, ◌+◌, ◌≤◌, ◌<◌}
use native.Mathlib.Nat.{not-suc-le-zero}
use native.Mathlib.Omega.{arith}
use mathlib.Core.Path.{◌≡◌, refl, sym, subst}
use mathlib.Core.Bool.{Bool, true, false, cond}
use mathlib.Core.List.Memᴰ.{head as here}
use mathlib.Core.List.{List, [], ◌∷◌, Memᴰ as Mem}
use lib.Dec.{eqb}
use lib.ListN.{length}
use Rattle.definitions.specs.Location.{Location, Lives, common, normal}
use Rattle.definitions.specs.Blocks.{Piece}
use Rattle.definitions.specs.Places.{Reach, misses, covers, onward, first_of, rest_of, reach, extend, by_piece, by_pieces, ends}
use Rattle.definitions.proofs.Combine.{Here}
use Rattle.definitions.proofs.Views.{Eq, eq}
use Rattle.definitions.proofs.Order.{mem_normal}
use Rattle.definitions.proofs.Held.{StandsR, Begins, Fits, Unique, fits}
use Rattle.definitions.proofs.Joins.{mem_joins, overlap_lives, mem_by_pieces}

abbrev Found : Reach → ℕ → ℕ → Type 0
Found misses e t = ⊥
Found covers e t = Unit {0}
Found (onward ms) e t = Here ms e t

extend_complete : (r : Reach) (l : Location) (e t : ℕ) → l.address ≤ e → Lives l t → Found r e t → Here (extend l e r) l.address t
extend_complete misses l e t n v f = absurd f
extend_complete covers l e t n v f = record { place = l; listed = here refl; there = refl; lives = v }
extend_complete (onward ms) l e t n v f =
    let m : Location = f.place in
    let w : Lives m t = f.lives in
    record {
      place = common l m;
      listed = mem_joins l e ms m f.listed (f.there, omega arith, omega arith);
      there = omega (arith, f.there);
      lives = overlap_lives l m t v w;
    }

module _ (ps : List Piece) where
  abbrev pub GoodC : List ℕ → List (List Location) → Type 0
  GoodC [] ts = Unit {0}
  GoodC (b ∷ q) ts = ((a t : ℕ) → StandsR ps (b ∷ q) a t → Begins ps a t → Here (first_of ts) a t) × GoodC q (rest_of ts)

  reach_complete : (cs q : List ℕ) (ts : List (List Location)) (a e t : ℕ) → e ≡ a + length cs → Fits ps cs a t → StandsR ps q a t → GoodC q ts → Found (reach cs q ts) e t
  reach_complete cs [] ts a e t n f s g = tt
  reach_complete [] (b ∷ q) ts a e t n f s g = subst (λ (x : ℕ). Here (first_of ts) x t) (omega arith) (g.0 a t s (f b s.0))
  reach_complete (c ∷ cs) (b ∷ q) ts a e t n f s g = go (eqb c b) (eq c b) (reach_complete cs q (rest_of ts) (suc a) e t (omega arith) f.2 s.1 g.1)
    where
      go : (o : Bool) → Eq o c b → Found (reach cs q (rest_of ts)) e t → Found (cond o (reach cs q (rest_of ts)) misses) e t
      go true v ih = ih
      go false v ih = v (sym (f.1 b s.0))

  -- the first step: the places of the whole query are not there yet
  first_reach : (cs : List ℕ) (b : ℕ) (q : List ℕ) (ts : List (List Location)) (a e t : ℕ) → 0 < length cs → e ≡ a + length cs → Fits ps cs a t → StandsR ps (b ∷ q) a t → GoodC q ts → Found (reach cs (b ∷ q) ([] ∷ ts)) e t
  first_reach [] b q ts a e t l n f s g = absurd (not-suc-le-zero l)
  first_reach (c ∷ cs) b q ts a e t l n f s g = go (eqb c b) (eq c b) (reach_complete cs q ts (suc a) e t (omega arith) f.2 s.1 g)
    where
      go : (o : Bool) → Eq o c b → Found (reach cs q ts) e t → Found (cond o (reach cs q ts) misses) e t
      go true v ih = ih
      go false v ih = v (sym (f.1 b s.0))

  pub step_complete : (rs : List Piece) (p : Piece) → Mem p rs → 0 < length p.bytes → (b : ℕ) (q : List ℕ) (ts : List (List Location)) → GoodC q ts → (t : ℕ) → Lives p.at t → Fits ps p.bytes p.at.address t → StandsR ps (b ∷ q) p.at.address t → Here (normal (by_pieces rs (b ∷ q) ts)) p.at.address t
  step_complete rs p m l b q ts g t v f s =
      let e : ℕ = p.at.address + length p.bytes in
      let h : Here (by_piece p (b ∷ q) ts) p.at.address t = extend_complete (reach p.bytes (b ∷ q) ([] ∷ ts)) p.at e t (omega arith) v (first_reach p.bytes b q ts p.at.address e t l refl f s g) in
      record { place = h.place; listed = mem_normal (by_pieces rs (b ∷ q) ts) (mem_by_pieces rs (b ∷ q) ts p m h.listed); there = h.there; lives = h.lives }

  pub table_complete : Unique ps → (q : List ℕ) → GoodC q (ends ps q)
  table_complete u [] = tt
  table_complete u (b ∷ q) = (one (table_complete u q), table_complete u q)
    where
      one : GoodC q (ends ps q) → (a t : ℕ) → StandsR ps (b ∷ q) a t → Begins ps a t → Here (normal (by_pieces ps (b ∷ q) (ends ps q))) a t
      one g a t s k =
          let p : Piece = k.piece in
          let s' : StandsR ps (b ∷ q) p.at.address t = subst (λ (x : ℕ). StandsR ps (b ∷ q) x t) (sym k.there) s in
          let h : Here (normal (by_pieces ps (b ∷ q) (ends ps q))) p.at.address t = step_complete ps p k.listed k.some b q (ends ps q) g t k.lives (fits ps u p k.listed k.some t k.lives) s' in
          subst (λ (x : ℕ). Here (normal (by_pieces ps (b ∷ q) (ends ps q))) x t) k.there h

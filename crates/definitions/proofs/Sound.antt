-- Every place of the table is one where the query stands. Assumes nothing.
use Prim.Native.Nat.{ℕ, suc, ◌+◌, ◌≤◌, min}
use native.Mathlib.Omega.{arith}
use mathlib.Core.Path.{◌≡◌, refl, sym, ap, subst}
use mathlib.Core.Bool.{Bool, true, false, cond}
use mathlib.Core.List.Memᴰ.{eq_of_singleton as only_one}
use mathlib.Core.List.Memᴰ.{not-nil}
use mathlib.Core.List.{List, [], ◌∷◌, Memᴰ as Mem}
use lib.Dec.{eqb}
use lib.ListN.{length}
use Rattle.definitions.specs.Location.{Location, Lives, common, normal}
use Rattle.definitions.specs.Blocks.{Piece}
use Rattle.definitions.specs.Places.{Reach, misses, covers, onward, first_of, rest_of, reach, extend, by_pieces, ends}
use Rattle.definitions.specs.Runs.{Holds}
use Rattle.definitions.proofs.Views.{Eq, eq}
use Rattle.definitions.proofs.Order.{normal_mem}
use Rattle.definitions.proofs.Held.{StandsR}
use Rattle.definitions.proofs.Joins.{Joined, joins_mem, lives_left, lives_right, ByPiece, by_pieces_mem}

-- what a reach gives of P, the rest of the query beginning at e
abbrev pub Means : Reach → ℕ → ℕ → Type 0 → Type 0
Means misses e t P = Unit {0}
Means covers e t P = P
Means (onward ms) e t P = (m : Location) → Mem m ms → m.address ≡ e → Lives m t → P

means_map : {P Q : Type 0} (r : Reach) (e t : ℕ) → (P → Q) → Means r e t P → Means r e t Q
means_map misses e t f h = tt
means_map covers e t f h = f h
means_map (onward ms) e t f h = λ m k i l. f (h m k i l)

pub means_any : (r : Reach) (e t : ℕ) → Means r e t (Unit {0})
means_any misses e t = tt
means_any covers e t = tt
means_any (onward ms) e t = λ m k i l. tt

-- a place that a piece at l makes: where it is, that the piece lives then, and P
pub record Made (l x : Location) (t : ℕ) (P : Type 0) : Type 0 where
  pub there : x.address ≡ l.address
  pub lives : Lives l t
  pub made : P

pub extend_sound : {P : Type 0} (r : Reach) (l : Location) (e t : ℕ) (x : Location) → l.address ≤ e → Mem x (extend l e r) → Lives x t → Means r e t P → Made l x t P
extend_sound misses l e t x n h v p = absurd (not-nil h)
extend_sound covers l e t x n h v p =
    let f : x ≡ l = only_one h in
    record { there = ap (λ (y : Location). y.address) f; lives = subst (λ (y : Location). Lives y t) f v; made = p }
extend_sound {P} (onward ms) l e t x n h v p = go (joins_mem l e ms h)
  where
    go : Joined l e ms x → Made l x t P
    go j =
        let w : Lives (common l j.next) t = subst (λ (y : Location). Lives y t) j.is v in
        let a : x.address ≡ min l.address j.next.address = ap (λ (y : Location). y.address) j.is in
        record { there = omega (arith, j.joined.0); lives = lives_left l j.next t w; made = p j.next j.listed j.joined.0 (lives_right l j.next t w) }

module _ (ps : List Piece) where
  -- ts has the places of a query, and of each of its ends
  abbrev pub Good : List ℕ → List (List Location) → Type 0
  Good [] ts = Unit {0}
  Good (b ∷ q) ts = ((m : Location) → Mem m (first_of ts) → (t : ℕ) → Lives m t → StandsR ps (b ∷ q) m.address t) × Good q (rest_of ts)

  reach_sound : (cs q : List ℕ) (ts : List (List Location)) (a e t : ℕ) → e ≡ a + length cs → StandsR ps cs a t → Good q ts → Means (reach cs q ts) e t (StandsR ps q a t)
  reach_sound cs [] ts a e t n s g = tt
  reach_sound [] (b ∷ q) ts a e t n s g = λ m h i l. subst (λ (x : ℕ). StandsR ps (b ∷ q) x t) (omega arith) (g.0 m h t l)
  reach_sound (c ∷ cs) (b ∷ q) ts a e t n s g = go (eqb c b) (eq c b) (reach_sound cs q (rest_of ts) (suc a) e t (omega arith) s.1 g.1)
    where
      go : (o : Bool) → Eq o c b → Means (reach cs q (rest_of ts)) e t (StandsR ps q (suc a) t) → Means (cond o (reach cs q (rest_of ts)) misses) e t (StandsR ps (b ∷ q) a t)
      go true f ih = means_map (reach cs q (rest_of ts)) e t (λ k. (subst (λ (x : ℕ). Holds ps x a t) f s.0, k)) ih
      go false f ih = tt

  -- pieces whose bytes stand in ps where they say
  abbrev pub Held : List Piece → Type 0
  Held rs = (p : Piece) → Mem p rs → (t : ℕ) → Lives p.at t → StandsR ps p.bytes p.at.address t

  pub step_sound : (rs : List Piece) → Held rs → (b : ℕ) (q : List ℕ) (ts : List (List Location)) → Good q ts → (x : Location) → Mem x (normal (by_pieces rs (b ∷ q) ts)) → (t : ℕ) → Lives x t → StandsR ps (b ∷ q) x.address t
  step_sound rs held b q ts g x h t v = go (by_pieces_mem rs (b ∷ q) ts (normal_mem (by_pieces rs (b ∷ q) ts) h))
    where
      go : ByPiece rs (b ∷ q) ts x → StandsR ps (b ∷ q) x.address t
      go k =
          let p : Piece = k.piece in
          let e : ℕ = p.at.address + length p.bytes in
          let r : Reach = reach p.bytes (b ∷ q) ([] ∷ ts) in
          let n : p.at.address ≤ e = omega arith in
          let m₁ : Made p.at x t (Unit {0}) = extend_sound r p.at e t x n k.by v (means_any r e t) in
          let s : StandsR ps p.bytes p.at.address t = held p k.listed t m₁.lives in
          let g' : Good (b ∷ q) ([] ∷ ts) = ((λ m i. absurd (not-nil i)), g) in
          let w : Means r e t (StandsR ps (b ∷ q) p.at.address t) = reach_sound p.bytes (b ∷ q) ([] ∷ ts) p.at.address e t refl s g' in
          let m₂ : Made p.at x t (StandsR ps (b ∷ q) p.at.address t) = extend_sound r p.at e t x n k.by v w in
          subst (λ (a : ℕ). StandsR ps (b ∷ q) a t) (sym m₂.there) m₂.made

  pub table_sound : Held ps → (q : List ℕ) → Good q (ends ps q)
  table_sound held [] = tt
  table_sound held (b ∷ q) = (step_sound ps held b q (ends ps q) (table_sound held q), table_sound held q)

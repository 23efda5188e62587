-- At one address and tick there is one place at most, and every place has a life. Assumes nothing.
use Prim.Native.Nat.{ℕ, ◌+◌, ◌<◌}
use native.Mathlib.Omega.{arith}
use mathlib.Core.Path.{◌≡◌, sym, ap, ◌∙◌, subst}
use mathlib.Core.Bool.{Bool, true, false, cond}
use mathlib.Core.List.Memᴰ.{eq_of_singleton as only_one}
use mathlib.Core.List.Memᴰ.{not-nil}
use mathlib.Core.List.{List, [], ◌∷◌, Memᴰ as Mem}
use lib.Dec.{eqb}
use lib.ListN.{length}
use Rattle.definitions.specs.Location.{Location, Lives, common, normal, moved}
use Rattle.definitions.specs.Blocks.{Piece, tails}
use Rattle.definitions.specs.Places.{Reach, misses, covers, onward, first_of, rest_of, reach, extend, by_piece, by_pieces, ends}
use Rattle.definitions.specs.Runs.{Alive}
use Rattle.definitions.proofs.Order.{normal_mem}
use Rattle.definitions.proofs.Held.{Unique}
use Rattle.definitions.proofs.Tails.{Tail, tails_mem, tail_at}
use Rattle.definitions.proofs.Joins.{Joined, joins_mem, lives_right, ByPiece, has_byte, by_pieces_mem}
use Rattle.definitions.proofs.Sound.{means_any, Made, extend_sound}

-- one place at an address and a tick; each with a life
pub record Single (ls : List Location) : Type 0 where
  pub one : (x y : Location) → Mem x ls → Mem y ls → x.address ≡ y.address → (t : ℕ) → Lives x t → Lives y t → x ≡ y
  pub some : (x : Location) → Mem x ls → x.created < x.destroyed

abbrev SingleR : Reach → Type 0
SingleR misses = Unit {0}
SingleR covers = Unit {0}
SingleR (onward ms) = Single ms

extend_one : (r : Reach) → SingleR r → (l : Location) (e : ℕ) (x y : Location) → Mem x (extend l e r) → Mem y (extend l e r) → (t : ℕ) → Lives x t → Lives y t → x ≡ y
extend_one misses s l e x y h k t v w = absurd (not-nil h)
extend_one covers s l e x y h k t v w = only_one h ∙ sym (only_one k)
extend_one (onward ms) s l e x y h k t v w = go (joins_mem l e ms h) (joins_mem l e ms k)
  where
    go : Joined l e ms x → Joined l e ms y → x ≡ y
    go i j =
        let v' : Lives i.next t = lives_right l i.next t (subst (λ (z : Location). Lives z t) i.is v) in
        let w' : Lives j.next t = lives_right l j.next t (subst (λ (z : Location). Lives z t) j.is w) in
        let f : i.next ≡ j.next = s.one i.next j.next i.listed j.listed (i.joined.0 ∙ sym j.joined.0) t v' w' in
        i.is ∙ ap (common l) f ∙ sym j.is

extend_some : (r : Reach) → SingleR r → (l : Location) (e : ℕ) → l.created < l.destroyed → (x : Location) → Mem x (extend l e r) → x.created < x.destroyed
extend_some misses s l e a x h = absurd (not-nil h)
extend_some covers s l e a x h = subst (λ (z : Location). z.created < z.destroyed) (sym (only_one h)) a
extend_some (onward ms) s l e a x h = go (joins_mem l e ms h)
  where
    go : Joined l e ms x → x.created < x.destroyed
    go j =
        let b : j.next.created < j.next.destroyed = s.some j.next j.listed in
        let c : (common l j.next).created < (common l j.next).destroyed = omega (arith, j.joined.1, j.joined.2) in
        subst (λ (z : Location). z.created < z.destroyed) (sym j.is) c

abbrev pub GoodS : List ℕ → List (List Location) → Type 0
GoodS [] ts = Unit {0}
GoodS (b ∷ q) ts = Single (first_of ts) × GoodS q (rest_of ts)

reach_single : (cs q : List ℕ) (ts : List (List Location)) → GoodS q ts → SingleR (reach cs q ts)
reach_single cs [] ts g = tt
reach_single [] (b ∷ q) ts g = g.0
reach_single (c ∷ cs) (b ∷ q) ts g = go (eqb c b) (reach_single cs q (rest_of ts) g.1)
  where
    go : (o : Bool) → SingleR (reach cs q (rest_of ts)) → SingleR (cond o (reach cs q (rest_of ts)) misses)
    go true ih = ih
    go false ih = tt

nothing : Single []
nothing = record { one = λ x y h. absurd (not-nil h); some = λ x h. absurd (not-nil h) }

-- pieces of which one at most begins at an address and lives at a tick
pub record SingleP (rs : List Piece) : Type 0 where
  pub one : (x y : Piece) → Mem x rs → Mem y rs → 0 < length x.bytes → 0 < length y.bytes → x.at.address ≡ y.at.address → (t : ℕ) → Lives x.at t → Lives y.at t → x ≡ y
  pub some : Alive rs

module _ (rs : List Piece) (s : SingleP rs) (b : ℕ) (q : List ℕ) (ts : List (List Location)) (g : GoodS q ts) where
  reached : (p : Piece) → SingleR (reach p.bytes (b ∷ q) ([] ∷ ts))
  reached p = reach_single p.bytes (b ∷ q) ([] ∷ ts) (nothing, g)

  -- where a piece's place is, and that the piece lives then
  made : {x : Location} (k : ByPiece rs (b ∷ q) ts x) (t : ℕ) → Lives x t → Made k.piece.at x t (Unit {0})
  made {x} k t v = extend_sound (reach k.piece.bytes (b ∷ q) ([] ∷ ts)) k.piece.at (k.piece.at.address + length k.piece.bytes) t x (omega arith) k.by v (means_any (reach k.piece.bytes (b ∷ q) ([] ∷ ts)) (k.piece.at.address + length k.piece.bytes) t)

  from_one : {x y : Location} → ByPiece rs (b ∷ q) ts x → ByPiece rs (b ∷ q) ts y → x.address ≡ y.address → (t : ℕ) → Lives x t → Lives y t → x ≡ y
  from_one {x} {y} i j a t v w =
      let m : Made i.piece.at x t (Unit {0}) = made i t v in
      let n : Made j.piece.at y t (Unit {0}) = made j t w in
      let e : ℕ = i.piece.at.address + length i.piece.bytes in
      let f : i.piece ≡ j.piece = s.one i.piece j.piece i.listed j.listed
      (has_byte i.piece.bytes b q ts i.piece.at e i.by)
      (has_byte j.piece.bytes b q ts j.piece.at (j.piece.at.address + length j.piece.bytes) j.by)
      (omega (arith, m.there, n.there)) t m.lives n.lives in
      let k : Mem y (by_piece i.piece (b ∷ q) ts) = subst (λ (p : Piece). Mem y (by_piece p (b ∷ q) ts)) (sym f) j.by in
      extend_one (reach i.piece.bytes (b ∷ q) ([] ∷ ts)) (reached i.piece) i.piece.at e x y i.by k t v w

  from_some : {x : Location} → ByPiece rs (b ∷ q) ts x → x.created < x.destroyed
  from_some {x} i = extend_some (reach i.piece.bytes (b ∷ q) ([] ∷ ts)) (reached i.piece) i.piece.at (i.piece.at.address + length i.piece.bytes) (s.some i.piece i.listed) x i.by

  pub step_single : Single (normal (by_pieces rs (b ∷ q) ts))
  step_single =
      record {
        one = λ x y h k. from_one (by_pieces_mem rs (b ∷ q) ts (normal_mem (by_pieces rs (b ∷ q) ts) h)) (by_pieces_mem rs (b ∷ q) ts (normal_mem (by_pieces rs (b ∷ q) ts) k));
        some = λ x h. from_some (by_pieces_mem rs (b ∷ q) ts (normal_mem (by_pieces rs (b ∷ q) ts) h));
      }

pub table_single : (ps : List Piece) → SingleP ps → (q : List ℕ) → GoodS q (ends ps q)
table_single ps s [] = tt
table_single ps s (b ∷ q) = (step_single ps s b q (ends ps q) (table_single ps s q), table_single ps s q)

-- ── a consistent recording has such pieces ──

pub pieces_single : (ps : List Piece) → Unique ps → Alive ps → SingleP ps
pieces_single ps u a = record { one = one; some = a }
  where
    one : (x y : Piece) → Mem x ps → Mem y ps → 0 < length x.bytes → 0 < length y.bytes → x.at.address ≡ y.at.address → (t : ℕ) → Lives x.at t → Lives y.at t → x ≡ y
    one x y h k m n e t v w = u x y h k x.at.address t (record { low = omega arith; high = omega arith; lives = v }) (record { low = omega arith; high = omega arith; lives = w })

pub tails_single : (ps : List Piece) → Unique ps → Alive ps → SingleP (tails ps)
tails_single ps u a = record { one = λ x y h k m n. one (tails_mem ps h) (tails_mem ps k); some = λ x h. some (tails_mem ps h) }
  where
    some : {x : Piece} → Tail ps x → x.at.created < x.at.destroyed
    some k = subst (λ (y : Piece). y.at.created < y.at.destroyed) (sym k.is) (a k.piece k.listed)

    one : {x y : Piece} → Tail ps x → Tail ps y → x.at.address ≡ y.at.address → (t : ℕ) → Lives x.at t → Lives y.at t → x ≡ y
    one {x} {y} i j e t v w =
        let v' : Lives (moved i.piece.at i.skip) t = subst (λ (z : Piece). Lives z.at t) i.is v in
        let w' : Lives (moved j.piece.at j.skip) t = subst (λ (z : Piece). Lives z.at t) j.is w in
        let p : x.at.address ≡ i.piece.at.address + i.skip = ap (λ (z : Piece). z.at.address) i.is in
        let q : y.at.address ≡ j.piece.at.address + j.skip = ap (λ (z : Piece). z.at.address) j.is in
        let f : i.piece ≡ j.piece = u i.piece j.piece i.listed j.listed x.at.address t
        (record { low = omega arith; high = omega (arith, i.inside); lives = record { from = v'.from; till = v'.till } })
        (record { low = omega arith; high = omega (arith, j.inside); lives = record { from = w'.from; till = w'.till } }) in
        let k : i.skip ≡ j.skip = omega (arith, ap (λ (z : Piece). z.at.address) f) in
        i.is ∙ ap (λ (z : Piece). tail_at z.at z.bytes i.skip) f ∙ ap (tail_at j.piece.at j.piece.bytes) k ∙ sym j.is

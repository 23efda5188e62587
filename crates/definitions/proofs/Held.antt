-- Where a query stands, byte by byte; and what a consistent recording has around a piece. Assumes nothing.
use Prim.Native.Nat.{ℕ, zero, suc, pred, ◌+◌, ◌<◌}
use native.Mathlib.Nat.{le_of_suc-le-suc, not-suc-le-zero}
use native.Mathlib.Omega.{arith}
use mathlib.Core.Path.{◌≡◌, refl, sym, ap, ◌∙◌, subst}
use mathlib.Core.List.Memᴰ.{head as here}
use mathlib.Core.List.Memᴰ.{tail as later}
use mathlib.Core.List.{List, [], ◌∷◌, Memᴰ as Mem}
use lib.ListN.{length, get_or, drop}
use lib.Seq.{drop-cons}
use Rattle.definitions.specs.Location.{Lives}
use Rattle.definitions.specs.Blocks.{Piece}
use Rattle.definitions.specs.Runs.{Holds, Stands, Covers, Consistent}

-- ── standing, byte by byte ──

abbrev pub StandsR : List Piece → List ℕ → ℕ → ℕ → Type 0
StandsR ps [] a t = Unit {0}
StandsR ps (b ∷ q) a t = Holds ps b a t × StandsR ps q (suc a) t

pub holds_at : {ps : List Piece} {b a a' t : ℕ} → a ≡ a' → Holds ps b a t → Holds ps b a' t
holds_at {ps} {b} {t = t} e h = subst (λ (x : ℕ). Holds ps b x t) e h

pub stands_to : (ps : List Piece) (q : List ℕ) (a t : ℕ) → Stands ps q a t → StandsR ps q a t
stands_to ps [] a t h = tt
stands_to ps (b ∷ q) a t h = (holds_at (omega arith) (h 0 (omega arith)), stands_to ps q (suc a) t (λ i l. holds_at (omega arith) (h (suc i) (omega arith))))

pub stands_from : (ps : List Piece) (q : List ℕ) (a t : ℕ) → StandsR ps q a t → Stands ps q a t
stands_from ps [] a t h i l = absurd (not-suc-le-zero l)
stands_from ps (b ∷ q) a t h zero l = holds_at (omega arith) h.0
stands_from ps (b ∷ q) a t h (suc i) l = holds_at (omega arith) (stands_from ps q (suc a) t h.1 i (le_of_suc-le-suc l))

-- ── a byte and a tick have one piece ──

abbrev pub Unique : List Piece → Type 0
Unique ps = (p p' : Piece) → Mem p ps → Mem p' ps → (a t : ℕ) → Covers p a t → Covers p' a t → p ≡ p'

pub consistent_unique : (ps : List Piece) → Consistent ps → Unique ps
consistent_unique [] c p p' x5 _ a t h k = elim x5 [ ]
consistent_unique (r ∷ ps) c p p' (here e) (here f) a t h k = e ∙ sym f
consistent_unique (r ∷ ps) c p p' (here e) (later f) a t h k = absurd (c.0 p' f a t (subst (λ (x : Piece). Covers x a t) e h) k)
consistent_unique (r ∷ ps) c p p' (later e) (here f) a t h k = absurd (c.0 p e a t (subst (λ (x : Piece). Covers x a t) f k) h)
consistent_unique (r ∷ ps) c p p' (later e) (later f) a t h k = consistent_unique ps c.1 p p' e f a t h k

pub holds_covers : {ps : List Piece} {b a t : ℕ} (h : Holds ps b a t) → Covers h.block a t
holds_covers h = record { low = omega (arith, h.there); high = omega (arith, h.there, h.inside); lives = h.lives }

-- a piece with a byte begins at a
pub record Begins (ps : List Piece) (a t : ℕ) : Type 0 where
  pub piece : Piece
  pub listed : Mem piece ps
  pub some : 0 < length piece.bytes
  pub there : piece.at.address ≡ a
  pub lives : Lives piece.at t

-- the bytes cs are at a, nothing else is at their addresses, and what is right behind them begins there
abbrev pub Fits : List Piece → List ℕ → ℕ → ℕ → Type 0
Fits ps [] a t = (b : ℕ) → Holds ps b a t → Begins ps a t
Fits ps (c ∷ cs) a t = Holds ps c a t × ((b : ℕ) → Holds ps b a t → b ≡ c) × Fits ps cs (suc a) t

pub fits_stands : (ps : List Piece) (cs : List ℕ) (a t : ℕ) → Fits ps cs a t → StandsR ps cs a t
fits_stands ps [] a t f = tt
fits_stands ps (c ∷ cs) a t f = (f.0, fits_stands ps cs (suc a) t f.2)

module _ (ps : List Piece) (u : Unique ps) (p : Piece) (mem : Mem p ps) (some : 0 < length p.bytes) (t : ℕ) (lives : Lives p.at t) where
  covered : (k a : ℕ) → a ≡ p.at.address + k → k < length p.bytes → Covers p a t
  covered k a e h = record { low = omega arith; high = omega arith; lives = lives }

  same_piece : (k a b : ℕ) → a ≡ p.at.address + k → k < length p.bytes → (h : Holds ps b a t) → h.block ≡ p
  same_piece k a b e l h = u h.block p h.listed mem a t (holds_covers h) (covered k a e l)

  only : (k a b : ℕ) → a ≡ p.at.address + k → k < length p.bytes → Holds ps b a t → b ≡ get_or p.bytes k 0
  only k a b e l h =
      let s : h.block ≡ p = same_piece k a b e l h in
      let o : h.offset ≡ k = omega (arith, ap (λ (x : Piece). x.at.address) s, h.there, e) in
      cc h.is

  -- behind the last byte
  behind : (a b : ℕ) → a ≡ p.at.address + length p.bytes → Holds ps b a t → Begins ps a t
  behind a b e h = go h.offset refl
    where
      go : (o : ℕ) → h.offset ≡ o → Begins ps a t
      go zero f = record { piece = h.block; listed = h.listed; some = omega (arith, h.inside); there = omega (arith, h.there); lives = h.lives }
      go (suc o) f =
          let s : h.block ≡ p = u h.block p h.listed mem (h.block.at.address + o) t
          (record { low = omega arith; high = omega (arith, h.inside); lives = h.lives })
          (covered (pred (length p.bytes)) (h.block.at.address + o) (omega (arith, h.there)) (omega arith)) in
          let x : h.block.at.address ≡ p.at.address = ap (λ (y : Piece). y.at.address) s in
          let y : length h.block.bytes ≡ length p.bytes = ap (λ (z : Piece). length z.bytes) s in
          absurd (omega (arith, h.there, h.inside))

  pub fits_from : (cs : List ℕ) (k a : ℕ) → a ≡ p.at.address + k → drop k p.bytes ≡ cs → k + length cs ≡ length p.bytes → Fits ps cs a t
  fits_from [] k a e d n = λ b h. behind a b (omega arith) h
  fits_from (c ∷ cs) k a e d n =
      let l : k < length p.bytes = omega arith in
      let q : get_or p.bytes k 0 ∷ drop (suc k) p.bytes ≡ c ∷ cs = sym (drop-cons p.bytes k 0 l) ∙ d in
      let i : get_or p.bytes k 0 ≡ c = cc in
      let j : drop (suc k) p.bytes ≡ cs = cc in
      (record { block = p; listed = mem; offset = k; inside = l; is = i; there = sym e; lives = lives }, (λ b h. only k a b e l h ∙ i), fits_from cs (suc k) (suc a) (omega arith) j (omega arith))

  pub fits : Fits ps p.bytes p.at.address t
  fits = fits_from p.bytes 0 p.at.address (omega arith) refl (omega arith)

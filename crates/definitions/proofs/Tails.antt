-- A piece from each of its bytes on. Assumes nothing.
use Prim.Native.Nat.{ℕ, zero, suc, ◌+◌, ◌<◌}
use native.Mathlib.Nat.{le_of_suc-le-suc, not-suc-le-zero}
use native.Mathlib.Omega.{arith}
use mathlib.Core.Path.{◌≡◌, refl, sym, ◌∙◌, subst}
use mathlib.Core.Logic.{◌⊎◌, inl, inr}
use mathlib.Core.List.Memᴰ.{append_cases}
use mathlib.Core.List.Memᴰ.{append_left}
use mathlib.Core.List.Memᴰ.{append_right}
use mathlib.Core.List.Memᴰ.{cast}
use mathlib.Core.List.Memᴰ.{head as here}
use mathlib.Core.List.Memᴰ.{tail as later}
use mathlib.Core.List.{List, [], ◌∷◌, Memᴰ as Mem}
use lib.ListN.{length, drop, length-drop}
use Rattle.definitions.specs.Location.{Location, Lives, moved}
use Rattle.definitions.specs.Blocks.{Piece, tails_of, tails}
use Rattle.definitions.proofs.Order.{location_path}
use Rattle.definitions.proofs.Held.{Unique, Fits, fits_from}

abbrev pub tail_at : Location → List ℕ → ℕ → Piece
tail_at l cs k = record { bytes = drop k cs; at = moved l k }

pub piece_path : {p r : Piece} → p.bytes ≡ r.bytes → p.at ≡ r.at → p ≡ r
piece_path e f = λ i. record { bytes = e i; at = f i }

tail_zero : (l : Location) (cs : List ℕ) → tail_at l cs 0 ≡ record { bytes = cs; at = l }
tail_zero l cs = piece_path refl (location_path (omega arith) refl refl)

tail_shift : (l : Location) (c : ℕ) (cs : List ℕ) (k : ℕ) → tail_at l (c ∷ cs) (suc k) ≡ tail_at (moved l 1) cs k
tail_shift l c cs k = piece_path refl (location_path (omega arith) refl refl)

pub mem_tails_of : (l : Location) (cs : List ℕ) (k : ℕ) → k < length cs → Mem (tail_at l cs k) (tails_of l cs)
mem_tails_of l [] k h = absurd (not-suc-le-zero h)
mem_tails_of l (c ∷ cs) zero h = here (tail_zero l (c ∷ cs))
mem_tails_of l (c ∷ cs) (suc k) h = later (cast (tail_shift l c cs k) (mem_tails_of (moved l 1) cs k (le_of_suc-le-suc h)))

record TailOf (l : Location) (cs : List ℕ) (x : Piece) : Type 0 where
  skip : ℕ
  inside : skip < length cs
  is : x ≡ tail_at l cs skip

tails_of_mem : {x : Piece} (l : Location) (cs : List ℕ) → Mem x (tails_of l cs) → TailOf l cs x
tails_of_mem {x = x} l [] x'' = elim x'' [ ]
tails_of_mem l (c ∷ cs) (here e) = record { skip = 0; inside = omega arith; is = e ∙ sym (tail_zero l (c ∷ cs)) }
tails_of_mem {x} l (c ∷ cs) (later h) = go (tails_of_mem (moved l 1) cs h)
  where
    go : TailOf (moved l 1) cs x → TailOf l (c ∷ cs) x
    go k = record { skip = suc k.skip; inside = omega (arith, k.inside); is = k.is ∙ sym (tail_shift l c cs k.skip) }

pub record Tail (ps : List Piece) (x : Piece) : Type 0 where
  pub piece : Piece
  pub listed : Mem piece ps
  pub skip : ℕ
  pub inside : skip < length piece.bytes
  pub is : x ≡ tail_at piece.at piece.bytes skip

pub tails_mem : {x : Piece} (ps : List Piece) → Mem x (tails ps) → Tail ps x
tails_mem {x = x} [] h = elim h [ ]
tails_mem {x} (p ∷ ps) h = go (tails_mem ps) (append_cases (tails_of p.at p.bytes) h)
  where
    one : TailOf p.at p.bytes x → Tail (p ∷ ps) x
    one k = record { piece = p; listed = here refl; skip = k.skip; inside = k.inside; is = k.is }

    on : Tail ps x → Tail (p ∷ ps) x
    on k = record { piece = k.piece; listed = later k.listed; skip = k.skip; inside = k.inside; is = k.is }

    go : (Mem x (tails ps) → Tail ps x) → Mem x (tails_of p.at p.bytes) ⊎ Mem x (tails ps) → Tail (p ∷ ps) x
    go ih (inl k) = one (tails_of_mem p.at p.bytes k)
    go ih (inr k) = on (ih k)

pub mem_tails : (ps : List Piece) (p : Piece) → Mem p ps → (k : ℕ) → k < length p.bytes → Mem (tail_at p.at p.bytes k) (tails ps)
mem_tails [] p x'' k h = elim x'' [ ]
mem_tails (r ∷ ps) p (here e) k h = append_left (tails ps) (subst (λ (y : Piece). Mem (tail_at p.at p.bytes k) (tails_of y.at y.bytes)) e (mem_tails_of p.at p.bytes k h))
mem_tails (r ∷ ps) p (later m) k h = append_right (tails_of r.at r.bytes) (mem_tails ps p m k h)

module _ (ps : List Piece) (u : Unique ps) where
  pub tail_fits : (p : Piece) → Mem p ps → (k : ℕ) → k < length p.bytes → (t : ℕ) → Lives p.at t → Fits ps (drop k p.bytes) (p.at.address + k) t
  tail_fits p m k h t v = fits_from ps u p m (omega arith) t v (drop k p.bytes) k (p.at.address + k) refl refl (omega (arith, length-drop k p.bytes))

  tail_at_fits : {x : Piece} → Tail ps x → (t : ℕ) → Lives x.at t → Fits ps x.bytes x.at.address t
  tail_at_fits {x} k t v =
      let w : Lives (tail_at k.piece.at k.piece.bytes k.skip).at t = subst (λ (y : Piece). Lives y.at t) k.is v in
      subst (λ (y : Piece). Fits ps y.bytes y.at.address t) (sym k.is) (tail_fits k.piece k.listed k.skip k.inside t (record { from = w.from; till = w.till }))

  pub tails_fit : (x : Piece) → Mem x (tails ps) → (t : ℕ) → Lives x.at t → Fits ps x.bytes x.at.address t
  tails_fit x h t v = tail_at_fits (tails_mem ps h) t v

-- What a log of pieces enters: each piece whole, and its bytes from i on for each i from 1 to its length - 1. Assumes nothing.
use Prim.Native.Nat.{ℕ, zero, suc, ◌≤◌, ◌<◌}
use native.Mathlib.Nat.{not-suc-le-zero}
use native.Mathlib.Omega.{arith}
use mathlib.Core.Path.{◌≡◌, refl, sym, ◌∙◌, subst}
use mathlib.Core.Bool.{Bool, true, false}
use mathlib.Core.Logic.{◌⊎◌, inl, inr, ◌↔◌}
use mathlib.Core.List.Memᴰ.{append_cases}
use mathlib.Core.List.Memᴰ.{append_left}
use mathlib.Core.List.Memᴰ.{append_right}
use mathlib.Core.List.Memᴰ.{cast}
use mathlib.Core.List.Memᴰ.{eq_of_singleton as only_one}
use mathlib.Core.List.Memᴰ.{head as here}
use mathlib.Core.List.Memᴰ.{not-nil}
use mathlib.Core.List.Memᴰ.{tail as later}
use mathlib.Core.List.{List, [], ◌∷◌, Memᴰ as Mem}
use lib.ListN.{length, drop}
use Rattle.definitions.specs.Location.{Location, moved}
use Rattle.definitions.specs.Blocks.{Piece}
use Rattle.definitions.proofs.Order.{location_path}
use Rattle.trie.specs.Build.{Entry, parts, entered, entered_all}
use Rattle.trie.proofs.BuildPaths.{entry_of, entry_path}

abbrev pub as_piece : List ℕ → Location → Piece
as_piece u l = record { bytes = u; at = l }

-- the bytes u at l are those of a piece from i on
pub record Part (ps : List Piece) (u : List ℕ) (l : Location) : Type 0 where
  pub piece : Piece
  pub listed : Mem piece ps
  pub i : ℕ
  pub from : 1 ≤ i
  pub to : i < length piece.bytes
  pub there : drop i piece.bytes ≡ u
  pub is : l ≡ moved piece.at i

-- a whole piece, or a part of one
abbrev pub EnteredBy : List Piece → Bool → List ℕ → Location → Type 0
EnteredBy ps true u l = Mem (as_piece u l) ps
EnteredBy ps false u l = Part ps u l

-- ── the parts of one piece ──

record PartOf (k : Location) (bs u : List ℕ) (l : Location) : Type 0 where
  i : ℕ
  from : 1 ≤ i
  to : i < length bs
  there : drop i bs ≡ u
  is : l ≡ moved k i

moved_on : (l : Location) (i : ℕ) → moved (moved l 1) i ≡ moved l (suc i)
moved_on l i = location_path (omega arith) refl refl

parts_mem : {e : Entry} (k : Location) (bs : List ℕ) → Mem e (parts k bs) → PartOf k bs e.path e.at × (e.whole ≡ false)
parts_mem k [] h = absurd (not-nil h)
parts_mem k (b ∷ []) h = absurd (not-nil h)
parts_mem {e} k (b ∷ c ∷ bs) (here f) = (record { i = 1; from = omega arith; to = omega arith; there = λ j. (sym f j).path; is = λ j. (f j).at }, λ j. (f j).whole)
parts_mem {e} k (b ∷ c ∷ bs) (later h) = go (parts_mem (moved k 1) (c ∷ bs) h)
  where
    go : PartOf (moved k 1) (c ∷ bs) e.path e.at × (e.whole ≡ false) → PartOf k (b ∷ c ∷ bs) e.path e.at × (e.whole ≡ false)
    go p = (record { i = suc p.0.i; from = omega arith; to = omega (arith, p.0.to); there = p.0.there; is = p.0.is ∙ moved_on k p.0.i }, p.1)

mem_parts : (k : Location) (bs : List ℕ) (i : ℕ) → 1 ≤ i → i < length bs → Mem (entry_of (drop i bs) (moved k i) false) (parts k bs)
mem_parts k [] i f t = absurd (not-suc-le-zero t)
mem_parts k (b ∷ []) i f t = absurd (omega arith)
mem_parts k (b ∷ c ∷ bs) zero f t = absurd (not-suc-le-zero f)
mem_parts k (b ∷ c ∷ bs) (suc zero) f t = here refl
mem_parts k (b ∷ c ∷ bs) (suc (suc i)) f t = later (cast (entry_path refl (sym (moved_on k (suc i))) refl) (mem_parts (moved k 1) (c ∷ bs) (suc i) (omega arith) (omega arith)))

-- ── a log ──

mem_all : {e : Entry} (ps : List Piece) (p : Piece) → Mem p ps → Mem e (entered p) → Mem e (entered_all ps)
mem_all {e = e} [] p x'' h = elim x'' [ ]
mem_all {e} (r ∷ ps) p (here f) h = append_left (entered_all ps) (subst (λ (y : Piece). Mem e (entered y)) f h)
mem_all (r ∷ ps) p (later m) h = append_right (entered r) (mem_all ps p m h)

entered_later : (r : Piece) (ps : List Piece) (w : Bool) (u : List ℕ) (l : Location) → EnteredBy ps w u l → EnteredBy (r ∷ ps) w u l
entered_later r ps true u l h = later h
entered_later r ps false u l h = record { piece = h.piece; listed = later h.listed; i = h.i; from = h.from; to = h.to; there = h.there; is = h.is }

entered_here : {e : Entry} (p : Piece) (ps : List Piece) → Mem e (parts p.at p.bytes) ⊎ Mem e (entry_of p.bytes p.at true ∷ []) → EnteredBy (p ∷ ps) e.whole e.path e.at
entered_here {e} p ps (inl k) = go (parts_mem p.at p.bytes k)
  where
    go : PartOf p.at p.bytes e.path e.at × (e.whole ≡ false) → EnteredBy (p ∷ ps) e.whole e.path e.at
    go q = subst (λ (w : Bool). EnteredBy (p ∷ ps) w e.path e.at) (sym q.1) (record { piece = p; listed = here refl; i = q.0.i; from = q.0.from; to = q.0.to; there = q.0.there; is = q.0.is })
entered_here {e} p ps (inr k) =
    let f : e ≡ entry_of p.bytes p.at true = only_one k in
    subst (λ (y : Entry). EnteredBy (p ∷ ps) y.whole y.path y.at) (sym f) (here refl)

entered_from : {e : Entry} (ps : List Piece) → Mem e (entered_all ps) → EnteredBy ps e.whole e.path e.at
entered_from [] h = absurd (not-nil h)
entered_from {e} (p ∷ ps) h = go (entered_from ps) (append_cases (entered p) h)
  where
    go : (Mem e (entered_all ps) → EnteredBy ps e.whole e.path e.at) → Mem e (entered p) ⊎ Mem e (entered_all ps) → EnteredBy (p ∷ ps) e.whole e.path e.at
    go ih (inl k) = entered_here p ps (append_cases (parts p.at p.bytes) k)
    go ih (inr k) = entered_later p ps e.whole e.path e.at (ih k)

from_entered : (ps : List Piece) (w : Bool) (u : List ℕ) (l : Location) → EnteredBy ps w u l → Mem (entry_of u l w) (entered_all ps)
from_entered ps true u l h = mem_all ps (as_piece u l) h (append_right (parts l u) (here refl))
from_entered ps false u l h =
    let p : Piece = h.piece in
    let e : entry_of u l false ≡ entry_of (drop h.i p.bytes) (moved p.at h.i) false = entry_path (sym h.there) h.is refl in
    cast e (mem_all ps p h.listed (append_left (entry_of p.bytes p.at true ∷ []) (mem_parts p.at p.bytes h.i h.from h.to)))

-- the entries of a log, member by member
pub entered_mem : (ps : List Piece) (e : Entry) → Mem e (entered_all ps) ↔ EnteredBy ps e.whole e.path e.at
entered_mem ps e = (entered_from ps, from_entered ps e.whole e.path e.at)

-- What `joins`, `extend`, `reach` and `by_pieces` hand over, by membership. Assumes nothing.
use Prim.Native.Nat.{ℕ, ◌<◌}
use native.Mathlib.Omega.{arith}
use mathlib.Core.Path.{◌≡◌, refl, sym, ap, ◌∙◌, subst}
use mathlib.Core.Bool.{Bool, true, false, cond, ◌&&◌}
use mathlib.Core.Logic.{◌⊎◌, inl, inr}
use mathlib.Core.List.Memᴰ.{append_cases}
use mathlib.Core.List.Memᴰ.{append_left}
use mathlib.Core.List.Memᴰ.{append_right}
use mathlib.Core.List.Memᴰ.{cases_cons as split}
use mathlib.Core.List.Memᴰ.{head as here}
use mathlib.Core.List.Memᴰ.{not-nil}
use mathlib.Core.List.Memᴰ.{tail as later}
use mathlib.Core.List.{List, [], ◌∷◌, Memᴰ as Mem}
use lib.ListN.{length}
use lib.Dec.{eqb}
use Rattle.definitions.specs.Location.{Location, Lives, meets, common}
use Rattle.definitions.specs.Blocks.{Piece}
use Rattle.definitions.specs.Places.{joins, reach, extend, by_piece, by_pieces}
use Rattle.definitions.proofs.Views.{Join, join}

-- x is l joined to a place of ms at e
pub record Joined (l : Location) (e : ℕ) (ms : List Location) (x : Location) : Type 0 where
  pub next : Location
  pub listed : Mem next ms
  pub joined : Join true l e next
  pub is : x ≡ common l next

pub joins_mem : {x : Location} (l : Location) (e : ℕ) (ms : List Location) → Mem x (joins l e ms) → Joined l e ms x
joins_mem {x = x} l e [] h = elim h [ ]
joins_mem {x} l e (m ∷ ms) h = go (eqb m.address e && meets l m) (join l e m) (joins_mem l e ms) h
  where
    on : Joined l e ms x → Joined l e (m ∷ ms) x
    on j = record { next = j.next; listed = later j.listed; joined = j.joined; is = j.is }

    one : Join true l e m → (Mem x (joins l e ms) → Joined l e ms x) → (x ≡ common l m) ⊎ Mem x (joins l e ms) → Joined l e (m ∷ ms) x
    one j ih (inl f) = record { next = m; listed = here refl; joined = j; is = f }
    one j ih (inr k) = on (ih k)

    go : (o : Bool) → Join o l e m → (Mem x (joins l e ms) → Joined l e ms x) → Mem x (cond o (common l m ∷ joins l e ms) (joins l e ms)) → Joined l e (m ∷ ms) x
    go true j ih h = one j ih (split h)
    go false j ih h = on (ih h)

pub mem_joins : (l : Location) (e : ℕ) (ms : List Location) (n : Location) → Mem n ms → Join true l e n → Mem (common l n) (joins l e ms)
mem_joins l e [] n h j = elim h [ ]
mem_joins l e (m ∷ ms) n h j = go (eqb m.address e && meets l m) (join l e m) (mem_joins l e ms n) (split h)
  where
    go : (o : Bool) → Join o l e m → (Mem n ms → Join true l e n → Mem (common l n) (joins l e ms)) → (n ≡ m) ⊎ Mem n ms → Mem (common l n) (cond o (common l m ∷ joins l e ms) (joins l e ms))
    go true v ih (inl f) = here (ap (common l) f)
    go true v ih (inr k) = later (ih k j)
    go false v ih (inl f) = absurd (v (ap (λ (y : Location). y.address) (sym f) ∙ j.0) (subst (λ (y : Location). l.created < y.destroyed) f j.1) (subst (λ (y : Location). y.created < l.destroyed) f j.2))
    go false v ih (inr k) = ih k j

pub overlap_lives : (l m : Location) (t : ℕ) → Lives l t → Lives m t → Lives (common l m) t
overlap_lives l m t h k = omega arith

pub lives_left : (l m : Location) (t : ℕ) → Lives (common l m) t → Lives l t
lives_left l m t h = omega arith

pub lives_right : (l m : Location) (t : ℕ) → Lives (common l m) t → Lives m t
lives_right l m t h = omega arith

-- ── pieces ──

pub record ByPiece (ps : List Piece) (q : List ℕ) (ts : List (List Location)) (x : Location) : Type 0 where
  pub piece : Piece
  pub listed : Mem piece ps
  pub by : Mem x (by_piece piece q ts)

pub by_pieces_mem : {x : Location} (ps : List Piece) (q : List ℕ) (ts : List (List Location)) → Mem x (by_pieces ps q ts) → ByPiece ps q ts x
by_pieces_mem {x = x} [] q ts h = elim h [ ]
by_pieces_mem {x} (p ∷ ps) q ts h = go (by_pieces_mem ps q ts) (append_cases (by_piece p q ts) h)
  where
    on : ByPiece ps q ts x → ByPiece (p ∷ ps) q ts x
    on b = record { piece = b.piece; listed = later b.listed; by = b.by }

    go : (Mem x (by_pieces ps q ts) → ByPiece ps q ts x) → Mem x (by_piece p q ts) ⊎ Mem x (by_pieces ps q ts) → ByPiece (p ∷ ps) q ts x
    go ih (inl k) = record { piece = p; listed = here refl; by = k }
    go ih (inr k) = on (ih k)

pub mem_by_pieces : {x : Location} (ps : List Piece) (q : List ℕ) (ts : List (List Location)) (p : Piece) → Mem p ps → Mem x (by_piece p q ts) → Mem x (by_pieces ps q ts)
mem_by_pieces {x = x} [] q ts p x3 k = elim x3 [ ]
mem_by_pieces {x} (r ∷ ps) q ts p (here e) k = append_left (by_pieces ps q ts) (subst (λ (y : Piece). Mem x (by_piece y q ts)) e k)
mem_by_pieces (r ∷ ps) q ts p (later h) k = append_right (by_piece r q ts) (mem_by_pieces ps q ts p h k)

-- a piece that gives a place has a byte
pub has_byte : {x : Location} (cs : List ℕ) (b : ℕ) (q : List ℕ) (ts : List (List Location)) (l : Location) (e : ℕ) → Mem x (extend l e (reach cs (b ∷ q) ([] ∷ ts))) → 0 < length cs
has_byte [] b q ts l e h = absurd (not-nil h)
has_byte (c ∷ cs) b q ts l e h = omega arith

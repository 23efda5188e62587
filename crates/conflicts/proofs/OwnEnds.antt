-- In line, the greatest end so far is the entry's own. Assumes nothing.
use Prim.Native.Nat.{ℕ, suc, max, ◌≤◌, ◌<◌}
use native.Mathlib.Omega.{arith}
use mathlib.Core.Path.{◌≡◌, refl, ap, ◌∙◌}
use mathlib.Core.Bool.{Bool, true, false, cond}
use mathlib.Core.List.{List, [], ◌∷◌, ◌++◌}
use lib.ListN.{length}
use lib.Dec.{eqb}
use Rattle.words.specs.Words.{bytes64}
use Rattle.definitions.specs.Location.{Location}
use Rattle.definitions.proofs.Views.{Eq, eq}
use Rattle.conflicts.specs.Lined.{Lined}
use Rattle.conflicts.specs.Order.{Entry, reach_at, entries_bytes, entry}
use Rattle.conflicts.specs.Promises.{own_bytes, OwnEnds}

reach_own : (a reach : ℕ) (l : Location) → (a ≡ l.address → reach ≤ l.destroyed) → reach_at a reach l ≡ l.destroyed
reach_own a reach l h = go (eqb a l.address) (eq a l.address)
  where
    go : (o : Bool) → Eq o a l.address → cond o (max reach l.destroyed) l.destroyed ≡ l.destroyed
    go true v = omega (arith, h v)
    go false v = refl

-- behind an entry at address a whose reach is no greater than the end of the next one there
pub own_behind : (a reach : ℕ) (es : List Entry) → (0 < length es → a ≡ (entry es 0).piece.at.address → reach ≤ (entry es 0).piece.at.destroyed) → Lined (length es) (λ i. (entry es i).piece.at) → entries_bytes a reach es ≡ own_bytes es
unfolding entries_bytes own_bytes
own_behind a reach [] h s = refl
own_behind a reach (e ∷ es) h s =
    ap (λ (d : ℕ). bytes64 e.number ++ (bytes64 d ++ entries_bytes e.piece.at.address d es)) (reach_own a reach e.piece.at (h (omega arith)))
    ∙ ap (λ (x : List ℕ). bytes64 e.number ++ (bytes64 e.piece.at.destroyed ++ x)) (own_behind e.piece.at.address e.piece.at.destroyed es next rest)
  where
    next : 0 < length es → e.piece.at.address ≡ (entry es 0).piece.at.address → e.piece.at.destroyed ≤ (entry es 0).piece.at.destroyed
    next k q = omega (arith, (s.ahead 0 1 (omega arith) (omega arith)).by_life q, s.alive 1 (omega arith))

    rest : Lined (length es) (λ i. (entry es i).piece.at)
    rest = record { ahead = λ i j l k. s.ahead (suc i) (suc j) (omega arith) (omega arith); alive = λ i l. s.alive (suc i) (omega arith) }

pub own_ends : OwnEnds
own_ends es s = own_behind 0 0 es (λ h q. omega arith) s

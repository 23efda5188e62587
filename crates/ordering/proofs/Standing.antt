-- The bytes of entries that stand in memory, and parts of them. Assumes nothing.
use Prim.Native.Nat.{ℕ, ◌+◌, ◌-◌, ◌*◌, ◌≤◌}
use native.Mathlib.Omega.{arith}
use mathlib.Core.Path.{◌≡◌, sym, ap, ◌∙◌, subst}
use mathlib.Core.Bool.{true}
use mathlib.Core.List.{List, ◌∷◌, ◌++◌, append_assoc}
use lib.ListN.{length, take, drop, length-drop}
use lib.Seq.{sets, length-take-le}
use Rattle.words.specs.Words.{bytes64}
use Rattle.words.specs.Holding.{Holds}
use Rattle.words.proofs.Parts.{sets_append, take_sets}
use Rattle.words.proofs.Holding.{holds_left, holds_right, sets_held}
use Rattle.definitions.specs.Blocks.{Piece}
use Rattle.definitions.specs.Runs.{Alive}
use Rattle.definitions.specs.Conflicts.{free}
use Rattle.conflicts.specs.Order.{Entry, ordered, certificate}
use Rattle.conflicts.specs.Promises.{own_bytes}
use Rattle.conflicts.proofs.OrderFree.{ordered_lined}
use Rattle.conflicts.proofs.OwnEnds.{own_ends}
use Rattle.conflicts.proofs.Entering.{own_append, own_length, own_parts, own_front}

-- free of conflicts, each entry of the certificate has its own end
pub own_certificate : (ps : List Piece) → Alive ps → free ps ≡ true → certificate ps ≡ own_bytes (ordered ps)
own_certificate ps v e = own_ends (ordered ps) (ordered_lined ps v e)

-- an entry's bytes, before those of others
pub own_next : (e : Entry) (es : List Entry) → (bytes64 e.number ++ bytes64 e.piece.at.destroyed) ++ own_bytes es ≡ own_bytes (e ∷ es)
unfolding own_bytes
own_next e es = append_assoc (bytes64 e.number) (bytes64 e.piece.at.destroyed) (own_bytes es)

-- what stands there is read
held_part : (s : List ℕ) (at n : ℕ) (xs : List ℕ) → n ≡ length xs → at + n ≤ length s → Holds s at xs → take n (drop at s) ≡ xs
held_part s at n xs e r h =
    ap (λ (k : ℕ). take k (drop at s)) e ∙ ap (λ (l : List ℕ). take (length xs) (drop at l)) (sym (sets_held s at xs (omega arith) h)) ∙ take_sets xs s at (omega arith)

module _ (m : List ℕ) (base : ℕ) (es : List Entry) (h : Holds m base (own_bytes es)) (upto : ℕ) (u : upto ≤ length es) (r : base + 16 * upto ≤ length m) where
  held_old : Holds m base (own_bytes (take upto es))
  held_old = holds_left m base (own_bytes (take upto es)) (own_bytes (drop upto es)) (subst (Holds m base) (own_parts upto es) h)

  -- the entries from number k on and below upto
  pub old_part : (k : ℕ) → k ≤ upto → take (16 * (upto - k)) (drop (base + 16 * k) m) ≡ own_bytes (drop k (take upto es))
  old_part k l = held_part m (base + 16 * k) (16 * (upto - k)) (own_bytes (drop k old)) (omega (arith, own_length (drop k old), length-drop k old, long)) (omega arith) (holds_right m base (16 * k) (own_bytes (take k old)) (own_bytes (drop k old)) (own_front k old (omega (arith, long))) (subst (Holds m base) (own_parts k old) held_old))
    where
      old : List Entry
      old = take upto es

      long : length old ≡ upto
      long = length-take-le upto es u

  -- others written behind the first entries are written with them
  pub old_kept : (more : List Entry) → sets m (base + 16 * upto) (own_bytes more) ≡ sets m base (own_bytes (take upto es ++ more))
  old_kept more =
      let n : length (own_bytes (take upto es)) ≡ 16 * upto = own_front upto es u in
      ap (λ (l : List ℕ). sets l (base + 16 * upto) (own_bytes more)) (sym (sets_held m base (own_bytes (take upto es)) (omega arith) held_old))
      ∙ ap (λ (k : ℕ). sets (sets m base (own_bytes (take upto es))) (base + k) (own_bytes more)) (sym n)
      ∙ sym (sets_append m base (own_bytes (take upto es)) (own_bytes more))
      ∙ ap (sets m base) (sym (own_append (take upto es) more))

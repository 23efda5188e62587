-- Slots of kind 1: a child has the slot of its byte alone. Assumes nothing.
use Prim.Native.Nat.{◌+◌, ◌<◌, suc, zero, ℕ}
use native.Mathlib.Omega.{arith}
use mathlib.Core.List.{List, [], ◌++◌, ◌∷◌}
use mathlib.Core.Path.{◌≡◌, ap, refl}
use borrow.Author.Tests.{eq-eqb, ne_eqb}
use Rattle.image_format.proofs.ByByte.{at_absent}
use Rattle.image_format.proofs.KindThree.{Missing}
use Rattle.image_format.specs.Image.{Child, slot_offsets, slot_size, slots_bytes, slots_size, with_byte}

-- a child alone has its byte
pub at_self : (seen : List Child) (k : Child) (rest : List Child) → Missing k.byte seen → Missing k.byte rest → with_byte k.byte (seen ++ (k ∷ rest)) ≡ k ∷ []
unfolding Missing with_byte
at_self [] k rest a b = simp (eq-eqb k.byte k.byte refl) (ap (λ (l : List Child). k ∷ l) (at_absent k.byte rest b))
at_self (x ∷ seen) k rest a b = simp (ne_eqb x.byte k.byte a.0) (at_self seen k rest a.1 b)

-- a child with a lower byte has no slot any more
pub past_at : (b : ℕ) (k : Child) (ks : List Child) → k.byte < b → with_byte b (k ∷ ks) ≡ with_byte b ks
unfolding with_byte
past_at b k ks h = let n : k.byte ≡ b → ⊥ = omega arith in simp (ne_eqb k.byte b n)

pub past_offsets : (m b at : ℕ) (k : Child) (ks : List Child) → k.byte < b → slot_offsets m b at (k ∷ ks) ≡ slot_offsets m b at ks
unfolding slot_offsets
past_offsets zero b at k ks h = refl
past_offsets (suc m) b at k ks h = rw (past_at b k ks h, past_offsets m (b + 1) (at + slot_size (with_byte b ks)) k ks (omega arith)) refl

pub past_slots : (m b at : ℕ) (k : Child) (ks : List Child) → k.byte < b → slots_bytes m b at (k ∷ ks) ≡ slots_bytes m b at ks
unfolding slots_bytes
past_slots zero b at k ks h = refl
past_slots (suc m) b at k ks h = rw (past_at b k ks h, past_slots m (b + 1) (at + slot_size (with_byte b ks)) k ks (omega arith)) refl

pub past_size : (m b : ℕ) (k : Child) (ks : List Child) → k.byte < b → slots_size m b (k ∷ ks) ≡ slots_size m b ks
unfolding slots_size
past_size zero b k ks h = refl
past_size (suc m) b k ks h = rw (past_at b k ks h, past_size m (b + 1) k ks (omega arith)) refl

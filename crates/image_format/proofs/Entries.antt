-- Finding an entry of a table by its byte, and the first fault of a table.
use Prim.Native.Nat.{◌*◌, ◌+◌, ◌-◌, ◌<◌, ◌≤◌, suc, ℕ}
use native.Mathlib.Omega.{arith}
use mathlib.Core.List.{List}
use mathlib.Core.Logic.{◌⊎◌, inl, inr}
use mathlib.Core.Path.{◌≡◌, refl, subst}
use lib.ListN.{get_or, length}
use borrow.Author.Tests.{eq-eqb, le-leb, le-ltb, lt-leb, lt-ltb, ne_eqb}
use Rattle.std.proofs.lemmas.Bool.{cases_lt}
use Rattle.image_format.specs.Entries.{Least, Nearer}
use Rattle.image_format.specs.Reading.{find_byte, table_fault}

pub find_end : (s : List ℕ) (base b n j : ℕ) → n ≤ j → j ≡ find_byte s base b (n - j) j
unfolding find_byte
find_end s base b n j h = let e : n - j ≡ 0 = omega arith in rw e refl

pub find_here : (s : List ℕ) (base b n j : ℕ) → j < n → get_or s (base + j * 9) 0 ≡ b → j ≡ find_byte s base b (n - j) j
unfolding find_byte
find_here s base b n j h f = let e : n - j ≡ suc (n - (j + 1)) = omega arith in rw e (simp (eq-eqb _ _ f))

pub find_on : (s : List ℕ) (base b n j : ℕ) → j < n → (get_or s (base + j * 9) 0 ≡ b → ⊥) →
    find_byte s base b (n - (j + 1)) (j + 1) ≡ find_byte s base b (n - j) j
unfolding find_byte
find_on s base b n j h f = let e : n - j ≡ suc (n - (j + 1)) = omega arith in rw e (simp (ne_eqb _ _ f))

module _ (s : List ℕ) (base n i : ℕ) (h : i < n) where
  pub fault_cut : length s ≤ base + i * 9 → 13 ≡ table_fault s base (n - i) i
  unfolding table_fault
  fault_cut f = let e : n - i ≡ suc (n - (i + 1)) = omega arith in rw e (simp (le-leb _ _ f))

  pub fault_twice : base + i * 9 < length s → find_byte s base (get_or s (base + i * 9) 0) i 0 < i → 15 ≡ table_fault s base (n - i) i
  unfolding table_fault
  fault_twice f g = let e : n - i ≡ suc (n - (i + 1)) = omega arith in rw e (simp (lt-leb _ _ f, lt-ltb _ _ g))

  pub fault_short : base + i * 9 < length s → i ≤ find_byte s base (get_or s (base + i * 9) 0) i 0 → length s < base + i * 9 + 9 →
      13 ≡ table_fault s base (n - i) i
  unfolding table_fault
  fault_short f g k = let e : n - i ≡ suc (n - (i + 1)) = omega arith in rw e (simp (lt-leb _ _ f, le-ltb _ _ g, lt-ltb _ _ k))

  pub fault_on : i ≤ find_byte s base (get_or s (base + i * 9) 0) i 0 → base + i * 9 + 9 ≤ length s →
      table_fault s base (n - (i + 1)) (i + 1) ≡ table_fault s base (n - i) i
  unfolding table_fault
  fault_on g k =
      let e : n - i ≡ suc (n - (i + 1)) = omega arith in
      let f : base + i * 9 < length s = omega arith in
      rw e (simp (lt-leb _ _ f, le-ltb _ _ g, le-ltb _ _ k))

pub fault_end : (s : List ℕ) (base n i : ℕ) → n ≤ i → 0 ≡ table_fault s base (n - i) i
unfolding table_fault
fault_end s base n i h = let e : n - i ≡ 0 = omega arith in rw e refl

pub least_none : (s : List ℕ) (base low : ℕ) → low ≤ 255 → Least s base 0 low 255
least_none s base low h = record { from = h; most = omega arith; none = λ j l. absurd (omega arith) }

pub least_more : (s : List ℕ) (base j low least r : ℕ) → Least s base j low least → Nearer low least (get_or s (base + j * 9) 0) r → Least s base (j + 1) low r
least_more s base j low least r h n = record { from = n.from; most = omega (arith, h.most, n.lower); none = each }
  where
    each : (k : ℕ) → k < j + 1 → low ≤ get_or s (base + k * 9) 0 → r ≤ get_or s (base + k * 9) 0
    each k l u = go (cases_lt k j)
      where
        go : (k < j) ⊎ (j ≤ k) → r ≤ get_or s (base + k * 9) 0
        go (inl x) = omega (arith, h.none k x u, n.lower)
        go (inr x) =
            let e : j ≡ k = omega arith in
            subst (λ (y : ℕ). low ≤ get_or s (base + y * 9) 0 → r ≤ get_or s (base + y * 9) 0) e n.kept u

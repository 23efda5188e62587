-- The mask of a table, one entry after another. Assumes nothing.
use Prim.Native.Nat.{ℕ, zero, suc, ◌+◌, ◌*◌, ◌/◌, ◌%◌, ◌^◌, ◌≤◌, ◌<◌, max}
use native.Mathlib.Nat.{max-le, le-max_left, le-max_right}
use native.Mathlib.Omega.{arith}
use mathlib.Core.Path.{◌≡◌, refl, sym, ap, subst, ◌∙◌}
use mathlib.Core.Bool.{Bool, true, false, ◌&&◌, cond}
use mathlib.Core.List.{List}
use mathlib.Core.Option.{Option, none, some}
use mathlib.Core.Logic.{◌⊎◌, inl, inr}
use lib.Dec.{eqb}
use lib.Bits.{bit_or, or_shr, or_step}
use lib.Pow.{shl_exact, shl-shr}
use borrow.Author.Tests.{eqb-true, ne_eqb}
use Rattle.std.proofs.lemmas.Bool.{cases_lt}
use Rattle.trie.specs.Trie.{Forest, Node, child}
use Rattle.image_format.specs.Held.{Entry}
use Rattle.image_walk.specs.Tables.{slot_in}
use Rattle.node_rule.specs.Parts.{Ahead, TableOf}
use Rattle.fronts.specs.Masks.{bit, is_absent, with_byte, all_bits, SaysMask}
use Rattle.node_rule.proofs.Tables.{slot_taken, slot_empty, slots_end}

-- ── a bit more ──

-- a mask with one byte more: a bit that is not set is not that byte's, and was not set
pub record Adds (m c n : ℕ) : Type 0 where
  pub other : (b : ℕ) → bit n b ≡ 0 → c ≡ b → ⊥
  pub before : (b : ℕ) → bit n b ≡ 0 → bit m b ≡ 0

-- what is not set in both together is set in neither
or_bit : (a b j : ℕ) → bit_or a b / 2 ^ j % 2 ≡ 0 → (a / 2 ^ j % 2 ≡ 0) × (b / 2 ^ j % 2 ≡ 0)
or_bit a b j e =
    let x : ℕ = a / 2 ^ j in
    let y : ℕ = b / 2 ^ j in
    let w : bit_or x y % 2 ≡ 0 = ap (λ (n : ℕ). n % 2) (sym (or_shr a b j)) ∙ e in
    let z : bit_or x y ≡ bit_or (x / 2) (y / 2) * 2 + max (x % 2) (y % 2) = or_step x y in
    let m : max (x % 2) (y % 2) ≤ 1 = max-le (omega arith) (omega arith) in
    let v : max (x % 2) (y % 2) ≡ 0 = omega arith in
    (omega (arith, v, le-max_left (x % 2) (y % 2)), omega (arith, v, le-max_right (x % 2) (y % 2)))

adds : (m c : ℕ) → Adds m c (with_byte m c)
adds m c = record { other = other; before = λ b e. (or_bit m (1 * 2 ^ (c % 64) % 18446744073709551616) (b % 64) e).0 }
  where
    other : (b : ℕ) → bit (bit_or m (1 * 2 ^ (c % 64) % 18446744073709551616)) b ≡ 0 → c ≡ b → ⊥
    other b e q =
        let o : 1 * 2 ^ (c % 64) % 18446744073709551616 / 2 ^ (b % 64) % 2 ≡ 0 = (or_bit m (1 * 2 ^ (c % 64) % 18446744073709551616) (b % 64) e).1 in
        let x : 1 * 2 ^ (c % 64) % 18446744073709551616 ≡ 1 * 2 ^ (c % 64) = shl_exact {a = 1} 1 (c % 64) 64 (omega arith) (omega arith) in
        let y : 1 * 2 ^ (c % 64) / 2 ^ (b % 64) ≡ 1 = ap (λ (k : ℕ). 1 * 2 ^ (c % 64) / 2 ^ (k % 64)) (sym q) ∙ shl-shr 1 (c % 64) in
        let z : 1 % 2 ≡ 0 = ap (λ (k : ℕ). k % 2) (sym y) ∙ ap (λ (k : ℕ). k / 2 ^ (b % 64) % 2) (sym x) ∙ o in
        omega arith

pub adds_byte : (m c n : ℕ) → n ≡ with_byte m c → Adds m c n
adds_byte m c n e = subst (Adds m c) (sym e) (adds m c)

pub absent : (m b : ℕ) → is_absent m b ≡ true → bit m b ≡ 0
absent m b e = eqb-true (bit m b) 0 e

-- ── every bit ──

-- the last k bits of the mask with every bit are set
all_set : ℕ → Bool
all_set zero = true
all_set (suc k) = eqb (all_bits / 2 ^ k % 2) 1 && all_set k

is_set : (n k : ℕ) → k < n → all_set n ≡ true → all_bits / 2 ^ k % 2 ≡ 1
unfolding all_set
is_set zero k h e = absurd (omega arith)
is_set (suc n) k h e = go (eqb (all_bits / 2 ^ n % 2) 1) (all_set n) refl refl e (λ l y. is_set n k l y)
  where
    go : (o r : Bool) → eqb (all_bits / 2 ^ n % 2) 1 ≡ o → all_set n ≡ r → (o && r) ≡ true → (k < n → all_set n ≡ true → all_bits / 2 ^ k % 2 ≡ 1) → all_bits / 2 ^ k % 2 ≡ 1
    go true true x y z ih = last (cases_lt k n)
      where
        last : (k < n) ⊎ (n ≤ k) → all_bits / 2 ^ k % 2 ≡ 1
        last (inl l) = ih l y
        last (inr l) = let q : n ≡ k = omega arith in ap (λ (i : ℕ). all_bits / 2 ^ i % 2) (sym q) ∙ eqb-true (all_bits / 2 ^ n % 2) 1 x
    go true false x y z ih = absurd (let w : true ≡ false = sym z in cc)
    go false r x y z ih = absurd (let w : true ≡ false = sym z in cc)

each_set : all_set 64 ≡ true
unfolding all_set
each_set = refl

-- it tells nothing
pub no_mask : (s : List ℕ) (table children : ℕ) → SaysMask s table children all_bits
no_mask s table children d f t b q = absurd (let e : all_bits / 2 ^ (b % 64) % 2 ≡ 1 = is_set 64 (b % 64) (omega arith) each_set in omega (arith, e, q))

-- ── the mask of a table ──

module _ (s : List ℕ) (table children : ℕ) where
  -- a byte whose bit is not set has the child that the siblings ahead have
  pub record Left (d j m : ℕ) (f : Forest) : Type 0 where
    pub rest : Forest
    pub ahead : Ahead s d table children j rest
    pub says : (b : ℕ) → bit m b ≡ 0 → child rest b ≡ child f b

  pub record Masking (j m : ℕ) : Type 0 where
    pub each : (d : ℕ) (f : Forest) → TableOf s d table children f → Left d j m f

  pub masking_start : Masking 0 0
  masking_start = record { each = λ d f t. record { rest = f; ahead = t.leads; says = λ b e. refl } }

  module _ (j m : ℕ) (i : Masking j m) (l : j < children) where
    pub masking_skip : none ≡ slot_in s table children j → Masking (j + 1) m
    masking_skip q = record { each = λ d f t. record { rest = (i.each d f t).rest; ahead = slot_empty s d table children j (i.each d f t).rest l q (i.each d f t).ahead; says = (i.each d f t).says } }

    pub masking_add : (e : Entry) → some e ≡ slot_in s table children j → (n : ℕ) → Adds m e.byte n → Masking (j + 1) n
    masking_add e q n a = record { each = step }
      where
        other : (b : ℕ) (x : Option Node) (y : Option Node) → (e.byte ≡ b → ⊥) → cond (eqb e.byte b) x y ≡ y
        other b x y z = rw (ne_eqb e.byte b z) refl

        step : (d : ℕ) (f : Forest) → TableOf s d table children f → Left d (j + 1) n f
        step d f t =
            let o = i.each d f t in
            let x = slot_taken s d table children j o.rest e l q o.ahead in
            record {
              rest = x.later;
              ahead = x.ahead;
              says = λ b z. sym (other b (some (record { lists = x.lists; children = x.below })) (child x.later b) (a.other b z)) ∙ ap (λ (y : Forest). child y b) (sym x.is) ∙ o.says b (a.before b z);
            }

  pub masking_done : (j m : ℕ) → Masking j m → children ≤ j → SaysMask s table children m
  masking_done j m i l d f t b q =
      let x = i.each d f t in
      sym (x.says b q) ∙ ap (λ (y : Forest). child y b) (slots_end s d table children j x.rest l x.ahead)

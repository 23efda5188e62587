-- Reading lists and heads: one law for each way out, and what a head that was read says.
-- Assumes nothing.
use Prim.Native.Nat.{◌*◌, ◌+◌, ◌<◌, ◌≤◌, ℕ}
use native.Mathlib.Omega.{arith}
use mathlib.Core.Bool.{Bool, cond, false, true}
use mathlib.Core.List.{List}
use mathlib.Core.Path.{◌≡◌, refl}
use lib.Dec.{eqb, leb, ltb}
use lib.ListN.{get_or, length}
use borrow.Author.Tests.{eq-eqb, le-leb, le-ltb, leb-true, lt-leb, lt-ltb, ne_eqb}
use Rattle.words.specs.Words.{le64}
use Rattle.image_format.specs.Reading.{ListRead, behind_list, cut, head, no_head, past, read_head, read_list, read_lists}

pub list_short : (s : List ℕ) (at : ℕ) → length s < at + 8 → cut ≡ read_list s at
unfolding read_list
list_short s at h = simp (lt-leb _ _ h)

pub list_cut : (s : List ℕ) (at : ℕ) → at + 8 ≤ length s → length s < at + 8 + 24 * le64 s at → cut ≡ read_list s at
unfolding read_list
list_cut s at h k = simp (le-leb _ _ h, lt-leb _ _ k)

pub list_past : (s : List ℕ) (at next n : ℕ) → n ≡ le64 s at → next ≡ at + 8 + 24 * n → next ≤ length s → past next n ≡ read_list s at
unfolding read_list
list_past s at next n e f h =
    let g : at + 8 ≤ length s = omega arith in
    let k : at + 8 + 24 * le64 s at ≤ length s = omega arith in
    rw (f, e) (simp (le-leb _ _ g, le-leb _ _ k))

list_cases : (s : List ℕ) (at next n : ℕ) (p q : Bool) →
    leb (at + 8) (length s) ≡ p → leb (at + 8 + 24 * le64 s at) (length s) ≡ q →
    past next n ≡ cond p (cond q (past (at + 8 + 24 * le64 s at) (le64 s at)) cut) cut →
    (next ≡ at + 8 + 24 * n) × (next ≤ length s) × (n ≡ le64 s at)
list_cases s at next n true true f g e =
    let a : next ≡ at + 8 + 24 * le64 s at = cc in
    let b : n ≡ le64 s at = cc in
    let k = leb-true (at + 8 + 24 * le64 s at) (length s) g in
    (omega arith, omega arith, b)
list_cases s at next n true false f g e = let z : ◌≡◌ {A = ℕ} 0 1 = cc in absurd (omega arith)
list_cases s at next n false q f g e = let z : ◌≡◌ {A = ℕ} 0 1 = cc in absurd (omega arith)

pub list_bound : (s : List ℕ) (at next n : ℕ) → past next n ≡ read_list s at →
    (next ≡ at + 8 + 24 * n) × (next ≤ length s) × (n ≡ le64 s at)
unfolding read_list
list_bound s at next n e = list_cases s at next n _ _ refl refl e

pub head_end : (s : List ℕ) (at : ℕ) → length s ≤ at → no_head 13 ≡ read_head s at
unfolding read_head
head_end s at h = simp (le-ltb _ _ h)

pub head_zero : (s : List ℕ) (at : ℕ) → at < length s → get_or s at 0 ≡ 0 → no_head 14 ≡ read_head s at
unfolding read_head
head_zero s at h e = simp (lt-ltb _ _ h, eq-eqb _ _ e)

pub head_over : (s : List ℕ) (at : ℕ) → at < length s → 3 < get_or s at 0 → no_head 14 ≡ read_head s at
unfolding read_head
head_over s at h e =
    let f : get_or s at 0 ≡ 0 → ⊥ = omega arith in
    simp (lt-ltb _ _ h, ne_eqb _ _ f, lt-ltb _ _ e)

pub head_lists : (s : List ℕ) (at : ℕ) → at < length s → (get_or s at 0 ≡ 0 → ⊥) → get_or s at 0 ≤ 3 →
    read_lists s (get_or s at 0) (at + 1) ≡ read_head s at
unfolding read_head
head_lists s at h f e = simp (lt-ltb _ _ h, ne_eqb _ _ f, le-ltb _ _ e)

module _ (s : List ℕ) (k at : ℕ) where
  pub lists_cut : cut ≡ read_list s at → no_head 13 ≡ read_lists s k at
  unfolding read_lists
  lists_cut e = rw (← e)

  pub lists_cut_2 : (a x : ℕ) → past a x ≡ read_list s at → cut ≡ read_list s a → no_head 13 ≡ read_lists s k at
  unfolding read_lists
  lists_cut_2 a x e f = rw (← e, ← f)

  pub lists_cut_3 : (a x b y : ℕ) → past a x ≡ read_list s at → past b y ≡ read_list s a → cut ≡ read_list s b → no_head 13 ≡ read_lists s k at
  unfolding read_lists
  lists_cut_3 a x b y e f g = rw (← e, ← f, ← g)

  pub lists_ready : (a x b y c z : ℕ) → past a x ≡ read_list s at → past b y ≡ read_list s a → past c z ≡ read_list s b → head k c (x + y + z) ≡ read_lists s k at
  unfolding read_lists
  lists_ready a x b y c z e f g = rw (← e, ← f, ← g)

kind_cases : (s : List ℕ) (at kind next e : ℕ) (p q r : Bool) →
    head kind next e ≡ cond p (cond q (no_head 14) (cond r (no_head 14) (read_lists s (get_or s at 0) (at + 1)))) (no_head 13) →
    head kind next e ≡ read_lists s (get_or s at 0) (at + 1)
kind_cases s at kind next e true false false f = f
kind_cases s at kind next e true false true f = let z : ◌≡◌ {A = ℕ} 0 1 = cc in absurd (omega arith)
kind_cases s at kind next e true true r f = let z : ◌≡◌ {A = ℕ} 0 1 = cc in absurd (omega arith)
kind_cases s at kind next e false q r f = let z : ◌≡◌ {A = ℕ} 0 1 = cc in absurd (omega arith)

third_cases : (s : List ℕ) (k x y b kind next e : ℕ) (v : ListRead) → v ≡ read_list s b →
    head kind next e ≡ behind_list v (λ c z. head k c (x + y + z)) → (b + 8 + 24 * e ≤ next + 24 * (x + y)) × (next ≤ length s)
third_cases s k x y b kind next e cut g f = let z : ◌≡◌ {A = ℕ} 0 1 = cc in absurd (omega arith)
third_cases s k x y b kind next e (past c z) g f =
    let h = list_bound s b c z g in
    let i : next ≡ c = cc in
    let j : e ≡ x + y + z = cc in
    (omega arith, omega arith)

second_cases : (s : List ℕ) (k x a kind next e : ℕ) (v : ListRead) → v ≡ read_list s a →
    head kind next e ≡ behind_list v (λ b y. behind_list (read_list s b) (λ c z. head k c (x + y + z))) → (a + 16 + 24 * e ≤ next + 24 * x) × (next ≤ length s)
second_cases s k x a kind next e cut g f = let z : ◌≡◌ {A = ℕ} 0 1 = cc in absurd (omega arith)
second_cases s k x a kind next e (past b y) g f =
    let h = list_bound s a b y g in
    let i = third_cases s k x y b kind next e (read_list s b) refl f in
    (omega arith, omega arith)

first_cases : (s : List ℕ) (k at kind next e : ℕ) (v : ListRead) → v ≡ read_list s at →
    head kind next e ≡ behind_list v (λ a x. behind_list (read_list s a) (λ b y. behind_list (read_list s b) (λ c z. head k c (x + y + z)))) →
    (at + 24 + 24 * e ≤ next) × (next ≤ length s)
first_cases s k at kind next e cut g f = let z : ◌≡◌ {A = ℕ} 0 1 = cc in absurd (omega arith)
first_cases s k at kind next e (past a x) g f =
    let h = list_bound s at a x g in
    let i = second_cases s k x a kind next e (read_list s a) refl f in
    (omega arith, omega arith)

-- a head takes 25 bytes and 24 for each entry, within the image
pub head_bound : (s : List ℕ) (at kind next e : ℕ) → head kind next e ≡ read_head s at → (at + 25 + 24 * e ≤ next) × (next ≤ length s)
unfolding read_head read_lists
head_bound s at kind next e f =
    let g : head kind next e ≡ read_lists s (get_or s at 0) (at + 1) =
    kind_cases s at kind next e (ltb at (length s)) (eqb (get_or s at 0) 0) (ltb 3 (get_or s at 0)) f in
    let h = first_cases s (get_or s at 0) (at + 1) kind next e (read_list s (at + 1)) refl g in
    (omega arith, omega arith)

-- Reading a node's table: one law for each way out, and where the table lies.
-- Assumes nothing.
use Prim.Native.Nat.{◌*◌, ◌+◌, ◌<◌, ◌≤◌, suc, zero, ℕ}
use native.Mathlib.Omega.{arith}
use mathlib.Core.Bool.{Bool, cond, false, true}
use mathlib.Core.List.{List}
use mathlib.Core.Path.{◌≡◌, ap, refl, sym}
use lib.Dec.{eqb, leb, ltb}
use lib.ListN.{get_or, length}
use borrow.Author.Tests.{eq-eqb, eqb-false, eqb-true, le-leb, le-ltb, leb-true, lt-leb, lt-ltb, ltb-false, ne_eqb}
use Rattle.words.specs.Words.{le64}
use Rattle.kinds.proofs.KindRule.{Fits, fits_view, one, three, two}
use Rattle.image_format.specs.Turns.{Skips, Within}
use Rattle.image_format.specs.Entries.{Least}
use Rattle.kinds.specs.Kinds.{fits}
use Rattle.image_format.specs.Reading.{Table, dense_table, find_byte, no_table, offset, open_table, skip, slot_at, sparse_table, table, table_fault}

pub find_most : (s : List ℕ) (base b k j : ℕ) → find_byte s base b k j ≤ j + k
unfolding find_byte
find_most s base b zero j = omega arith
find_most s base b (suc k) j = pick_most (eqb (get_or s (base + j * 9) 0) b) (find_most s base b k (j + 1))
  where
    pick_most : (t : Bool) {m : ℕ} → m ≤ j + 1 + k → cond t j m ≤ j + suc k
    pick_most true h = omega arith
    pick_most false h = omega arith

-- without a fault the table is within the image
pub fault_none : (s : List ℕ) (base k i : ℕ) → base + i * 9 ≤ length s → 0 ≡ table_fault s base k i → base + (i + k) * 9 ≤ length s
unfolding table_fault
fault_none s base zero i h e = omega arith
fault_none s base (suc k) i h e =
    go (leb (length s) (base + i * 9)) (ltb (find_byte s base (get_or s (base + i * 9) 0) i 0) i) (ltb (length s) (base + i * 9 + 9)) refl e (λ g f. fault_none s base k (i + 1) g f)
  where
    go : (p q r : Bool) → ltb (length s) (base + i * 9 + 9) ≡ r →
        0 ≡ cond p 13 (cond q 15 (cond r 13 (table_fault s base k (i + 1)))) →
        (base + (i + 1) * 9 ≤ length s → 0 ≡ table_fault s base k (i + 1) → base + (i + 1 + k) * 9 ≤ length s) → base + (i + suc k) * 9 ≤ length s
    go true q r d f ih = absurd (omega arith)
    go false true r d f ih = absurd (omega arith)
    go false false true d f ih = absurd (omega arith)
    go false false false d f ih =
        let l = ltb-false (length s) (base + i * 9 + 9) d in
        let m = ih (omega arith) f in
        omega arith

pub open_dense_cut : (s : List ℕ) (kind at : ℕ) → kind ≡ 1 → length s < at + 2048 → no_table 13 ≡ open_table s kind at
unfolding open_table
open_dense_cut s kind at e h = simp (eq-eqb _ _ e, lt-leb _ _ h)

pub open_dense : (s : List ℕ) (kind at : ℕ) → kind ≡ 1 → at + 2048 ≤ length s → table (dense_table at) ≡ open_table s kind at
unfolding open_table
open_dense s kind at e h = simp (eq-eqb _ _ e, le-leb _ _ h)

module _ (s : List ℕ) (kind at : ℕ) (e : kind ≡ 1 → ⊥) where
  pub open_cut : length s < at + 8 → no_table 13 ≡ open_table s kind at
  unfolding open_table
  open_cut h = simp (ne_eqb _ _ e, lt-leb _ _ h)

  pub open_count : (n : ℕ) → n ≡ le64 s at → at + 8 ≤ length s → fits kind n ≡ false → no_table 15 ≡ open_table s kind at
  unfolding open_table
  open_count n f h r = simp (ne_eqb _ _ e, le-leb _ _ h, ← f, r)

  pub open_fault : (n c : ℕ) → n ≡ le64 s at → at + 8 ≤ length s → fits kind n ≡ true → c ≡ table_fault s (at + 8) n 0 → (c ≡ 0 → ⊥) → no_table c ≡ open_table s kind at
  unfolding open_table
  open_fault n c f h r g z = simp (ne_eqb _ _ e, le-leb _ _ h, ← f, r, ← g, ne_eqb _ _ z)

  pub open_ready : (n c : ℕ) → n ≡ le64 s at → at + 8 ≤ length s → fits kind n ≡ true → c ≡ table_fault s (at + 8) n 0 → c ≡ 0 → table (sparse_table kind at n) ≡ open_table s kind at
  unfolding open_table
  open_ready n c f h r g z = simp (ne_eqb _ _ e, le-leb _ _ h, ← f, r, ← g, eq-eqb _ _ z)

-- the table, with the turns that its kind has
pub table_turns : (kind at n t : ℕ) → t ≡ cond (eqb kind 3) n 256 → table (record { kind = kind; base = at + 8; count = n; start = at + 8 + n * 9; turns = t }) ≡ table (sparse_table kind at n)
table_turns kind at n t e = ap (λ (x : ℕ). table (record { kind = kind; base = at + 8; count = n; start = at + 8 + n * 9; turns = x })) e

-- the count of a table of kind 2 or 3 is at most 96
pub range_most : (kind n : ℕ) → (kind ≡ 1 → ⊥) → fits kind n ≡ true → n ≤ 96
range_most kind n k e = go (fits_view kind n e)
  where
    go : Fits kind n → n ≤ 96
    go (three x a) = omega arith
    go (two x a b) = b
    go (one x a b) = absurd (k x)

open_cases : (s : List ℕ) (kind at : ℕ) (q : Table) (a b c d e : Bool) →
    eqb kind 1 ≡ a → leb (at + 2048) (length s) ≡ b → leb (at + 8) (length s) ≡ c → fits kind (le64 s at) ≡ d →
    eqb (table_fault s (at + 8) (le64 s at) 0) 0 ≡ e →
    table q ≡ cond a (cond b (table (dense_table at)) (no_table 13))
    (cond c (cond d (cond e (table (sparse_table kind at (le64 s at))) (no_table (table_fault s (at + 8) (le64 s at) 0))) (no_table 15)) (no_table 13)) →
    Within (length s) q × (at ≤ q.start)
open_cases s kind at q true true c d e fa fb fc fd fe f =
    let g : q ≡ dense_table at = cc in
    rw g (record { entries = omega (arith, leb-true (at + 2048) (length s) fb); offsets = λ z. leb-true (at + 2048) (length s) fb; few = λ z. absurd (omega arith); bytes = λ z. refl; turns = omega arith; start = omega (arith, leb-true (at + 2048) (length s) fb) }, omega arith)
open_cases s kind at q true false c d e fa fb fc fd fe f = let z : ◌≡◌ {A = ℕ} 0 1 = cc in absurd (omega arith)
open_cases s kind at q false b true true true fa fb fc fd fe f =
    let g : q ≡ sparse_table kind at (le64 s at) = cc in
    let n = le64 s at in
    let h = leb-true (at + 8) (length s) fc in
    let i = fault_none s (at + 8) n 0 (omega arith) (sym (eqb-true (table_fault s (at + 8) n 0) 0 fe)) in
    let j = range_most kind n (eqb-false kind 1 fa) fd in
    rw g (record { entries = omega arith; offsets = λ z. absurd (eqb-false kind 1 fa z); few = few_cases kind n; bytes = bytes_cases kind n; turns = turns_cases (eqb kind 3) n j; start = omega arith }, omega arith)
  where
    few_cases : (kind n : ℕ) → kind ≡ 3 → cond (eqb kind 3) n 256 ≤ n
    few_cases kind n z = simp (eq-eqb kind 3 z) (omega arith)

    bytes_cases : (kind n : ℕ) → kind ≡ 2 → cond (eqb kind 3) n 256 ≡ 256
    bytes_cases kind n z =
        let y : kind ≡ 3 → ⊥ = omega arith in
        simp (ne_eqb kind 3 y)

    turns_cases : (t : Bool) (n : ℕ) → n ≤ 96 → cond t n 256 ≤ 256
    turns_cases true n h = omega arith
    turns_cases false n h = omega arith
open_cases s kind at q false b true true false fa fb fc fd fe f = let z : ◌≡◌ {A = ℕ} 0 1 = cc in absurd (omega arith)
open_cases s kind at q false b true false e fa fb fc fd fe f = let z : ◌≡◌ {A = ℕ} 0 1 = cc in absurd (omega arith)
open_cases s kind at q false b false d e fa fb fc fd fe f = let z : ◌≡◌ {A = ℕ} 0 1 = cc in absurd (omega arith)

pub open_within : (s : List ℕ) (kind at : ℕ) (q : Table) → table q ≡ open_table s kind at → Within (length s) q × (at ≤ q.start)
unfolding open_table
open_within s kind at q f = open_cases s kind at q (eqb kind 1) (leb (at + 2048) (length s)) (leb (at + 8) (length s)) (fits kind (le64 s at)) (eqb (table_fault s (at + 8) (le64 s at) 0) 0) refl refl refl refl refl f

module _ (s : List ℕ) (p : Table) (i : ℕ) where
  pub slot_dense : p.kind ≡ 1 → offset (le64 s (p.base + i * 8)) ≡ slot_at s p i
  unfolding slot_at
  slot_dense e = simp (eq-eqb p.kind 1 e)

  pub slot_arrival : (p.kind ≡ 1 → ⊥) → p.kind ≡ 3 → offset (le64 s (p.base + i * 9 + 1)) ≡ slot_at s p i
  unfolding slot_at
  slot_arrival e f = simp (ne_eqb p.kind 1 e, eq-eqb p.kind 3 f)

  pub slot_byte : (p.kind ≡ 1 → ⊥) → (p.kind ≡ 3 → ⊥) → (j : ℕ) → j ≡ find_byte s p.base i p.count 0 → j < p.count → offset (le64 s (p.base + j * 9 + 1)) ≡ slot_at s p i
  unfolding slot_at
  slot_byte e f j g h = simp (ne_eqb p.kind 1 e, ne_eqb p.kind 3 f, ← g, lt-ltb j p.count h)

  pub slot_skip : (p.kind ≡ 1 → ⊥) → (p.kind ≡ 3 → ⊥) → (j : ℕ) → j ≡ find_byte s p.base i p.count 0 → p.count ≤ j → skip ≡ slot_at s p i
  unfolding slot_at
  slot_skip e f j g h = simp (ne_eqb p.kind 1 e, ne_eqb p.kind 3 f, ← g, le-ltb j p.count h)

-- ── the next turn at which an offset is judged ──

-- a byte that no entry has is not found
find_missing : (s : List ℕ) (base b k j : ℕ) → ((x : ℕ) → j ≤ x → x < j + k → get_or s (base + x * 9) 0 ≡ b → ⊥) → find_byte s base b k j ≡ j + k
unfolding find_byte
find_missing s base b zero j h = omega arith
find_missing s base b (suc k) j h =
    let n : get_or s (base + j * 9) 0 ≡ b → ⊥ = h j (omega arith) (omega arith) in
    let r = find_missing s base b k (j + 1) (λ x l u. h x (omega arith) (omega arith)) in
    simp (ne_eqb _ _ n) (omega arith)

pub skips_none : (s : List ℕ) (t : Table) (i : ℕ) → i < t.turns → Skips s t i i
skips_none s t i h = record { from = omega arith; last = h; none = λ k a b. absurd (omega arith) }

pub skips_least : (s : List ℕ) (t : Table) (i r : ℕ) → t.kind ≡ 2 → t.turns ≡ 256 → Least s t.base t.count i r → Skips s t i r
skips_least s t i r second all h = record { from = h.from; last = omega (arith, h.most); none = each }
  where
    not_one : t.kind ≡ 1 → ⊥
    not_one = omega arith

    not_three : t.kind ≡ 3 → ⊥
    not_three = omega arith

    each : (k : ℕ) → i ≤ k → k < r → skip ≡ slot_at s t k
    each k a b =
        let f = find_missing s t.base k t.count 0 (λ x l u e. absurd (omega (arith, h.none x (omega arith) (omega arith)))) in
        slot_skip s t k not_one not_three t.count (omega arith) (omega arith)

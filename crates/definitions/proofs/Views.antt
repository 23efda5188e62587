-- What a test tells, as a family over the test's answer: hand `view a b` to a helper by clauses on the Bool. Assumes nothing.
use Prim.Native.Nat.{ℕ, ◌≤◌, ◌<◌}
use native.Mathlib.Omega.{arith}
use mathlib.Core.Path.{◌≡◌, refl}
use mathlib.Core.Bool.{Bool, true, false, ◌&&◌, cond}
use mathlib.Core.Option.{none, some}
use lib.Dec.{ltb, leb, eqb}
use borrow.Author.Tests.{ltb-true, ltb-false, leb-true, leb-false, eqb-true, eqb-false, lt-ltb}
use Rattle.definitions.specs.Location.{Location, meets, common, overlap}
use Rattle.definitions.specs.Rows.{goes_on}

abbrev pub Eq : Bool → ℕ → ℕ → Type 0
Eq true a b = a ≡ b
Eq false a b = ¬ (a ≡ b)

pub eq : (a b : ℕ) → Eq (eqb a b) a b
eq a b = go (eqb a b) refl
  where
    go : (o : Bool) → eqb a b ≡ o → Eq o a b
    go true e = eqb-true a b e
    go false e = eqb-false a b e

abbrev pub Lt : Bool → ℕ → ℕ → Type 0
Lt true a b = a < b
Lt false a b = b ≤ a

pub lt : (a b : ℕ) → Lt (ltb a b) a b
lt a b = go (ltb a b) refl
  where
    go : (o : Bool) → ltb a b ≡ o → Lt o a b
    go true e = ltb-true a b e
    go false e = ltb-false a b e

abbrev pub Le : Bool → ℕ → ℕ → Type 0
Le true a b = a ≤ b
Le false a b = b < a

pub le : (a b : ℕ) → Le (leb a b) a b
le a b = go (leb a b) refl
  where
    go : (o : Bool) → leb a b ≡ o → Le o a b
    go true e = leb-true a b e
    go false e = leb-false a b e

abbrev pub GoesOn : Bool → Location → Location → Type 0
GoesOn true l m = (l.address ≡ m.address) × (l.destroyed ≡ m.created)
GoesOn false l m = l.address ≡ m.address → l.destroyed ≡ m.created → ⊥

pub goes : (l m : Location) → GoesOn (goes_on l m) l m
goes l m = go (eqb l.address m.address) (eqb l.destroyed m.created) (eq l.address m.address) (eq l.destroyed m.created)
  where
    go : (o₁ o₂ : Bool) → Eq o₁ l.address m.address → Eq o₂ l.destroyed m.created → GoesOn (o₁ && o₂) l m
    go true true p q = (p, q)
    go true false p q = λ _ f. q f
    go false o₂ p q = λ e _. p e

-- whether a place m goes on from l at address e: the test of `joins`
abbrev pub Join : Bool → Location → ℕ → Location → Type 0
Join true l e m = (m.address ≡ e) × (l.created < m.destroyed) × (m.created < l.destroyed)
Join false l e m = m.address ≡ e → l.created < m.destroyed → m.created < l.destroyed → ⊥

pub join : (l : Location) (e : ℕ) (m : Location) → Join (eqb m.address e && meets l m) l e m
join l e m = go (eqb m.address e) (ltb l.created m.destroyed) (ltb m.created l.destroyed) (eq m.address e) (lt l.created m.destroyed) (lt m.created l.destroyed)
  where
    go : (o₁ o₂ o₃ : Bool) → Eq o₁ m.address e → Lt o₂ l.created m.destroyed → Lt o₃ m.created l.destroyed → Join (o₁ && (o₂ && o₃)) l e m
    go true true true p q r = (p, q, r)
    go true true false p q r = λ x y z. omega arith
    go true false o₃ p q r = λ x y z. omega arith
    go false o₂ o₃ p q r = λ x _ _. p x

-- what an overlap tells, and where there is one
pub record Overlaps (l m x : Location) : Type 0 where
  pub left : l.created < m.destroyed
  pub right : m.created < l.destroyed
  pub is : x ≡ common l m

pub overlap_is : (l m x : Location) → overlap l m ≡ some x → Overlaps l m x
overlap_is l m x e = go (ltb l.created m.destroyed) (ltb m.created l.destroyed) (lt l.created m.destroyed) (lt m.created l.destroyed) e
  where
    go : (o₁ o₂ : Bool) → Lt o₁ l.created m.destroyed → Lt o₂ m.created l.destroyed → cond (o₁ && o₂) (some (common l m)) none ≡ some x → Overlaps l m x
    go true true h k f = record { left = h; right = k; is = cc }
    go true false h k f = absurd (let z : ◌≡◌ {A = ℕ} 0 1 = cc in omega arith)
    go false o₂ h k f = absurd (let z : ◌≡◌ {A = ℕ} 0 1 = cc in omega arith)

pub overlap_some : (l m : Location) → l.created < m.destroyed → m.created < l.destroyed → overlap l m ≡ some (common l m)
overlap_some l m h k = rw (lt-ltb l.created m.destroyed h, lt-ltb m.created l.destroyed k)

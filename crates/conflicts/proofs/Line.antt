-- Entries in line: what the tests tell, the first that does not come before a place and a tick, one that lives. Assumes nothing.
use Prim.Native.Nat.{ℕ, zero, suc, ◌+◌, ◌-◌, ◌≤◌, ◌<◌}
use native.Mathlib.Nat.{not-suc-le-zero}
use native.Mathlib.Omega.{arith}
use mathlib.Core.Path.{◌≡◌, refl, sym, subst, ◌∙◌}
use mathlib.Core.Bool.{Bool, true, false, ◌&&◌, ◌||◌, cond}
use mathlib.Core.Logic.{◌⊎◌, inl, inr, ◌↔◌}
use lib.Dec.{ltb, leb, eqb}
use borrow.Author.Tests.{ltb-true, lt-ltb}
use Rattle.std.proofs.lemmas.Bool.{cases_lt}
use Rattle.definitions.specs.Location.{Location, meets}
use Rattle.definitions.proofs.Views.{Eq, eq, Lt, lt, Le, le}
use Rattle.definitions.proofs.Tests.{both, and_true, either, or_left, or_right, not_both}
use Rattle.conflicts.specs.Lined.{is_ahead, in_line, earlier, first_from, lives_among, Ahead, Lined}
use Rattle.conflicts.specs.Promises.{InLineIs, FirstFrom, FirstFromIs, FirstFromOne, LivesAmong, LivesAmongIs}

-- ── each ahead of the next ──

ahead_is : (l m : Location) → is_ahead l m ≡ true ↔ Ahead l m
ahead_is l m = go (ltb l.address m.address) (eqb l.address m.address) (leb l.destroyed m.created) (lt l.address m.address) (eq l.address m.address) (le l.destroyed m.created)
  where
    no : {P : Type 0} → false ≡ true → P
    no e = absurd (not_both refl e)

    go : (o u w : Bool) → Lt o l.address m.address → Eq u l.address m.address → Le w l.destroyed m.created → (o || (u && w)) ≡ true ↔ Ahead l m
    go true u w h p k = ((λ _. record { by_address = omega arith; by_life = λ e. absurd (omega arith) }), λ _. refl)
    go false true true h p k = ((λ _. record { by_address = omega arith; by_life = λ e. k }), λ _. refl)
    go false true false h p k = (no, λ a. absurd (omega (arith, a.by_life p)))
    go false false w h p k = (no, λ a. absurd (p (omega (arith, a.by_address))))

-- the one between is alive
ahead_on : (l m o : Location) → m.created < m.destroyed → Ahead l m → Ahead m o → Ahead l o
ahead_on l m o h a b = record { by_address = omega arith; by_life = λ e. life e (omega arith) (omega arith) }
  where
    life : l.address ≡ o.address → l.address ≡ m.address → m.address ≡ o.address → l.destroyed ≤ o.created
    life e p q = omega (arith, a.by_life p, b.by_life q)

in_line_step : (at : ℕ → Location) (k : ℕ) → in_line at k ≡ true → (i : ℕ) → i < k → Ahead (at i) (at (suc i))
unfolding in_line
in_line_step at zero e i h = absurd (not-suc-le-zero h)
in_line_step at (suc k) e i h = go (both (in_line at k) (is_ahead (at k) (at (suc k))) e) (in_line_step at k) (cases_lt i k)
  where
    go : (in_line at k ≡ true) × (is_ahead (at k) (at (suc k)) ≡ true) → (in_line at k ≡ true → (x : ℕ) → x < k → Ahead (at x) (at (suc x))) → (i < k) ⊎ (k ≤ i) → Ahead (at i) (at (suc i))
    go b ih (inl l) = ih b.0 i l
    go b ih (inr l) = let z : k ≡ i = omega arith in subst (λ (x : ℕ). Ahead (at x) (at (suc x))) z ((ahead_is (at k) (at (suc k))).0 b.1)

in_line_true : (at : ℕ → Location) (k : ℕ) → ((i : ℕ) → i < k → Ahead (at i) (at (suc i))) → in_line at k ≡ true
unfolding in_line
in_line_true at zero f = refl
in_line_true at (suc k) f = and_true (in_line_true at k (λ i h. f i (omega arith))) ((ahead_is (at k) (at (suc k))).1 (f k (omega arith)))

-- each ahead of the next, and alive: each is ahead of all behind it
ahead_far : (n : ℕ) (at : ℕ → Location) → ((i : ℕ) → i < n → (at i).created < (at i).destroyed) → ((i : ℕ) → suc i < n → Ahead (at i) (at (suc i))) → (i j : ℕ) → i < j → j < n → Ahead (at i) (at j)
ahead_far n at a f i zero h k = absurd (not-suc-le-zero h)
ahead_far n at a f i (suc j) h k = go (ahead_far n at a f i j) (cases_lt i j)
  where
    go : (i < j → j < n → Ahead (at i) (at j)) → (i < j) ⊎ (j ≤ i) → Ahead (at i) (at (suc j))
    go ih (inl l) = ahead_on (at i) (at j) (at (suc j)) (a j (omega arith)) (ih l (omega arith)) (f j k)
    go ih (inr l) = let z : j ≡ i = omega arith in subst (λ (x : ℕ). Ahead (at x) (at (suc j))) z (f j k)

pub in_line_is : InLineIs
in_line_is n at a = (
  (λ e. record { ahead = ahead_far n at a (λ i h. in_line_step at (n - 1) e i (omega arith)); alive = a }),
  λ s. in_line_true at (n - 1) (λ i h. s.ahead i (suc i) (omega arith) (omega arith)),
)

-- what stands no later in line, as facts that hold for one and the same too
pub record Upto (l m : Location) : Type 0 where
  pub by_address : l.address ≤ m.address
  pub by_created : l.address ≡ m.address → l.created ≤ m.created
  pub by_destroyed : l.address ≡ m.address → l.destroyed ≤ m.destroyed

pub upto : (n : ℕ) (at : ℕ → Location) → Lined n at → (i j : ℕ) → i ≤ j → j < n → Upto (at i) (at j)
upto n at s i j h k = go (cases_lt i j)
  where
    far : Ahead (at i) (at j) → Upto (at i) (at j)
    far a = record {
      by_address = a.by_address;
      by_created = λ e. omega (arith, s.alive i (omega arith), a.by_life e);
      by_destroyed = λ e. omega (arith, s.alive j k, a.by_life e);
    }

    go : (i < j) ⊎ (j ≤ i) → Upto (at i) (at j)
    go (inl l) = far (s.ahead i j l k)
    go (inr l) = let z : i ≡ j = omega arith in subst (λ (x : ℕ). Upto (at i) (at x)) z (record { by_address = omega arith; by_created = λ e. omega arith; by_destroyed = λ e. omega arith })

-- ── the first that does not come before address b and tick c ──

abbrev pub Earlier : Bool → Location → ℕ → ℕ → Type 0
Earlier true l b c = (l.address ≤ b) × (l.address ≡ b → l.created < c)
Earlier false l b c = (b ≤ l.address) × (l.address ≡ b → c ≤ l.created)

pub earlier_view : (l : Location) (b c : ℕ) → Earlier (earlier l b c) l b c
earlier_view l b c = go (ltb l.address b) (eqb l.address b) (ltb l.created c) (lt l.address b) (eq l.address b) (lt l.created c)
  where
    go : (o u w : Bool) → Lt o l.address b → Eq u l.address b → Lt w l.created c → Earlier (o || (u && w)) l b c
    go true u w h p k = (omega arith, λ e. absurd (omega arith))
    go false true true h p k = (omega arith, λ e. k)
    go false true false h p k = (h, λ e. k)
    go false false w h p k = (h, λ e. absurd (p e))

pub earlier_told : (l : Location) (b c : ℕ) (o : Bool) → earlier l b c ≡ o → Earlier o l b c
earlier_told l b c o e = subst (λ (u : Bool). Earlier u l b c) e (earlier_view l b c)

-- where one does not come before them, none behind it does
pub later_not : (n : ℕ) (at : ℕ → Location) → Lined n at → (b c i j : ℕ) → i ≤ j → j < n → earlier (at i) b c ≡ false → earlier (at j) b c ≡ false
later_not n at s b c i j h k e = go (upto n at s i j h k) (earlier_told (at i) b c false e) (earlier (at j) b c) (earlier_view (at j) b c)
  where
    go : Upto (at i) (at j) → Earlier false (at i) b c → (o : Bool) → Earlier o (at j) b c → o ≡ false
    go a v false w = refl
    go a v true w = absurd (
        let p : (at i).address ≡ b = omega (arith, v.0, w.0) in
        let q : (at j).address ≡ b = omega (arith, v.0, w.0) in
        omega (arith, a.by_created (p ∙ sym q), v.1 p, w.1 q)
        )

-- where one comes before them, all that stand before it do
pub sooner : (n : ℕ) (at : ℕ → Location) → Lined n at → (b c i j : ℕ) → i ≤ j → j < n → earlier (at j) b c ≡ true → earlier (at i) b c ≡ true
sooner n at s b c i j h k e = go (earlier (at i) b c) refl
  where
    go : (o : Bool) → earlier (at i) b c ≡ o → o ≡ true
    go true f = refl
    go false f = absurd (not_both (later_not n at s b c i j h k f) e)

first_is : (n : ℕ) (at : ℕ → Location) → Lined n at → (b c k i : ℕ) → n ≡ i + k → FirstFrom n at i b c (first_from at k i b c)
unfolding first_from
first_is n at s b c zero i h = record { low = omega arith; high = omega arith; before = λ j x y. absurd (omega arith); after = λ j x y. absurd (omega arith) }
first_is n at s b c (suc k) i h = go (earlier (at i) b c) refl (first_is n at s b c k (suc i) (omega arith))
  where
    before : earlier (at i) b c ≡ true → FirstFrom n at (suc i) b c (first_from at k (suc i) b c) → (j : ℕ) → i ≤ j → j < first_from at k (suc i) b c → (i < j) ⊎ (j ≤ i) → earlier (at j) b c ≡ true
    before e f j x y (inl l) = f.before j l y
    before e f j x y (inr l) = let z : i ≡ j = omega arith in subst (λ (u : ℕ). earlier (at u) b c ≡ true) z e

    go : (o : Bool) → earlier (at i) b c ≡ o → FirstFrom n at (suc i) b c (first_from at k (suc i) b c) → FirstFrom n at i b c (cond o (first_from at k (suc i) b c) i)
    go true e f = record { low = omega (arith, f.low); high = f.high; before = λ j x y. before e f j x y (cases_lt i j); after = f.after }
    go false e f = record { low = omega arith; high = omega arith; before = λ j x y. absurd (omega arith); after = λ j x y. later_not n at s b c i j x y e }

pub first_from_is : FirstFromIs
first_from_is n at s i b c h = first_is n at s b c (n - i) i (omega arith)

first_one : (n : ℕ) (at : ℕ → Location) (b c q k i : ℕ) → n ≡ i + k → FirstFrom n at i b c q → q ≡ first_from at k i b c
unfolding first_from
first_one n at b c q zero i h f = omega (arith, f.low, f.high)
first_one n at b c q (suc k) i h f = go (earlier (at i) b c) refl (cases_lt i q) (first_one n at b c q k (suc i) (omega arith))
  where
    go : (o : Bool) → earlier (at i) b c ≡ o → (i < q) ⊎ (q ≤ i) → (FirstFrom n at (suc i) b c q → q ≡ first_from at k (suc i) b c) → q ≡ cond o (first_from at k (suc i) b c) i
    go true e (inl l) ih = ih (record { low = l; high = f.high; before = λ j x y. f.before j (omega arith) y; after = f.after })
    go true e (inr l) ih = absurd (not_both (f.after i l (omega arith)) e)
    go false e (inl l) ih = absurd (not_both e (f.before i (omega arith) l))
    go false e (inr l) ih = omega (arith, f.low)

pub first_from_one : FirstFromOne
first_from_one n at i b c q f = first_one n at b c q (n - i) i (omega (arith, f.low, f.high)) f

-- ── one that lives together with x ──

among_is : (n : ℕ) (at : ℕ → Location) (x : Location) (end k i : ℕ) → n ≡ i + k → (lives_among at k i x end ≡ true) ↔ LivesAmong n at i x end
unfolding lives_among
among_is n at x end zero i h = ((λ e. absurd (not_both refl e)), λ w. absurd (omega (arith, w.low, w.high)))
among_is n at x end (suc k) i h = go (among_is n at x end k (suc i) (omega arith))
  where
    to : (lives_among at k (suc i) x end ≡ true ↔ LivesAmong n at (suc i) x end) → ((ltb (at i).address end && meets x (at i)) ≡ true) ⊎ (lives_among at k (suc i) x end ≡ true) → LivesAmong n at i x end
    to ih (inl e) =
        let b : (ltb (at i).address end ≡ true) × (meets x (at i) ≡ true) = both (ltb (at i).address end) (meets x (at i)) e in
        record { index = i; low = omega arith; high = omega arith; below = ltb-true (at i).address end b.0; is = b.1 }
    to ih (inr e) = let w : LivesAmong n at (suc i) x end = ih.0 e in record { index = w.index; low = omega arith; high = w.high; below = w.below; is = w.is }

    fro : (lives_among at k (suc i) x end ≡ true ↔ LivesAmong n at (suc i) x end) → (w : LivesAmong n at i x end) → (i < w.index) ⊎ (w.index ≤ i) → ((ltb (at i).address end && meets x (at i)) || lives_among at k (suc i) x end) ≡ true
    fro ih w (inl l) = or_right (ltb (at i).address end && meets x (at i)) (ih.1 (record { index = w.index; low = l; high = w.high; below = w.below; is = w.is }))
    fro ih w (inr l) =
        let z : w.index ≡ i = omega arith in
        or_left (lives_among at k (suc i) x end) (subst (λ (u : ℕ). (ltb (at u).address end && meets x (at u)) ≡ true) z (and_true (lt-ltb (at w.index).address end w.below) w.is))

    go : (lives_among at k (suc i) x end ≡ true ↔ LivesAmong n at (suc i) x end) → ((ltb (at i).address end && meets x (at i)) || lives_among at k (suc i) x end) ≡ true ↔ LivesAmong n at i x end
    go ih = ((λ e. to ih (either (ltb (at i).address end && meets x (at i)) (lives_among at k (suc i) x end) e)), λ w. fro ih w (cases_lt i w.index))

pub lives_among_is : LivesAmongIs
lives_among_is n at i x end h = among_is n at x end (n - i) i (omega arith)

-- Whether one of the entries lives together with x, address by address. Assumes nothing.
use Prim.Native.Nat.{ℕ, ◌+◌, ◌-◌, ◌≤◌, ◌<◌}
use native.Mathlib.Omega.{arith}
use mathlib.Core.Path.{◌≡◌, sym, ap, subst}
use mathlib.Core.Bool.{true, false}
use mathlib.Core.Logic.{◌⊎◌, inl, inr}
use Rattle.std.proofs.lemmas.Bool.{cases_lt}
use Rattle.definitions.specs.Location.{Location}
use Rattle.definitions.proofs.Tests.{is_false, same_test}
use Rattle.conflicts.specs.Lined.{first_from, lives_among, Lined}
use Rattle.conflicts.specs.Promises.{FirstFrom, LivesAmong}
use Rattle.conflicts.proofs.Line.{upto, Earlier, earlier_told, first_from_is, lives_among_is}
use Rattle.conflicts.proofs.Together.{Together, meets_is}

module _ (n : ℕ) (at : ℕ → Location) (x : Location) (end g : ℕ) where
  -- nothing is left
  pub among_done : g ≤ n → n ≤ g → false ≡ lives_among at (n - g) g x end
  among_done h k = sym (is_false (lives_among at (n - g) g x end) (λ e. none ((lives_among_is n at g x end h).0 e)))
    where
      none : LivesAmong n at g x end → ⊥
      none w = omega (arith, w.low, w.high)

  -- the address of entry g is past the end
  pub among_past : Lined n at → g < n → end ≤ (at g).address → false ≡ lives_among at (n - g) g x end
  among_past s h k = sym (is_false (lives_among at (n - g) g x end) (λ e. none ((lives_among_is n at g x end (omega arith)).0 e)))
    where
      none : LivesAmong n at g x end → ⊥
      none w = omega (arith, w.below, (upto n at s g w.index w.low w.high).by_address)

-- entry g is at address b, and q is the first from g on that is not created there before x ends
pub record Turn (n : ℕ) (at : ℕ → Location) (x : Location) : Type 0 where
  pub lined : Lined n at
  pub g : ℕ
  pub b : ℕ
  pub q : ℕ
  pub inside : g < n
  pub address : b ≡ (at g).address
  pub found : q ≡ first_from at (n - g) g b x.destroyed

-- the entry l is read at g, and from there on q was found
abbrev pub turn : {n : ℕ} {at : ℕ → Location} (x : Location) → Lined n at → {g : ℕ} → g < n → {l : Location} → l ≡ at g → {q : ℕ} → q ≡ first_from at (n - g) g l.address x.destroyed → Turn n at x
turn x lined {g} inside {l} read {q} found = record {
  lined = lined;
  g = g;
  b = l.address;
  q = q;
  inside = inside;
  address = ap (λ (m : Location). m.address) read;
  found = found;
}

module _ {n : ℕ} {at : ℕ → Location} {x : Location} (t : Turn n at x) where
  pub first : FirstFrom n at t.g t.b x.destroyed t.q
  first = subst (λ (k : ℕ). FirstFrom n at t.g t.b x.destroyed k) (sym t.found) (first_from_is n at t.lined t.g t.b x.destroyed (omega arith))

  -- an entry before q is at address b and created before x ends
  pub created : (j : ℕ) → t.g ≤ j → j < t.q → ((at j).address ≡ t.b) × ((at j).created < x.destroyed)
  created j h k =
      let v : Earlier true (at j) t.b x.destroyed = earlier_told (at j) t.b x.destroyed true (first.before j h k) in
      let e : (at j).address ≡ t.b = omega (arith, v.0, (upto n at t.lined t.g j h (omega (arith, first.high))).by_address) in
      (e, v.1 e)

  -- the last before q lives together with x
  pub among_found : (end : ℕ) → t.g < t.q → t.b < end → x.created < (at (t.q - 1)).destroyed → true ≡ lives_among at (n - t.g) t.g x end
  among_found end h k l =
      let c : ((at (t.q - 1)).address ≡ t.b) × ((at (t.q - 1)).created < x.destroyed) = created (t.q - 1) (omega arith) (omega arith) in
      sym ((lives_among_is n at t.g x end (omega arith)).1 (record {
        index = t.q - 1;
        low = omega arith;
        high = omega (arith, first.high);
        below = omega (arith, c.0);
        is = (meets_is x (at (t.q - 1))).1 (record { left = l; right = c.1 });
      }))

  -- p is the first behind address b
  module _ (p : ℕ) (e : p ≡ first_from at (n - t.q) t.q (t.b + 1) 0) where
    pub behind : FirstFrom n at t.q (t.b + 1) 0 p
    behind = subst (λ (k : ℕ). FirstFrom n at t.q (t.b + 1) 0 k) (sym e) (first_from_is n at t.lined t.q (t.b + 1) 0 first.high)

    -- entry g is not behind its own address
    pub further : t.g < p
    further = go (cases_lt t.g p)
      where
        go : (t.g < p) ⊎ (p ≤ t.g) → t.g < p
        go (inl k) = k
        go (inr k) = absurd (omega (arith, (earlier_told (at t.g) (t.b + 1) 0 false (behind.after t.g k t.inside)).0))

    -- those from q on at address b are created when x has ended
    pub not_yet : (j : ℕ) → t.q ≤ j → j < p → Together x (at j) → ⊥
    not_yet j h k w = go (cases_lt (at j).address (t.b + 1))
      where
        go : ((at j).address < t.b + 1) ⊎ (t.b + 1 ≤ (at j).address) → ⊥
        go (inl o) =
            let v : Earlier false (at j) t.b x.destroyed = earlier_told (at j) t.b x.destroyed false (first.after j h (omega (arith, behind.high))) in
            omega (arith, w.right, v.1 (omega (arith, v.0)))
        go (inr o) =
            let v : Earlier true (at j) (t.b + 1) 0 = earlier_told (at j) (t.b + 1) 0 true (behind.before j h k) in
            omega (arith, v.1 (omega (arith, v.0)))

    -- the last before q has ended: those before it ended earlier
    ended : (t.g < t.q → (at (t.q - 1)).destroyed ≤ x.created) → (j : ℕ) → t.g ≤ j → j < p → Together x (at j) → ⊥
    ended d j h k w = go (cases_lt j t.q)
      where
        go : (j < t.q) ⊎ (t.q ≤ j) → ⊥
        go (inl l) =
            let c : ((at j).address ≡ t.b) × ((at j).created < x.destroyed) = created j h l in
            let c' : ((at (t.q - 1)).address ≡ t.b) × ((at (t.q - 1)).created < x.destroyed) = created (t.q - 1) (omega arith) (omega arith) in
            omega (arith, w.left, d (omega arith), (upto n at t.lined j (t.q - 1) (omega arith) (omega (arith, first.high))).by_destroyed (omega (arith, c.0, c'.0)))
        go (inr l) = not_yet j l k w

    pub among_on : (end : ℕ) → (t.g < t.q → (at (t.q - 1)).destroyed ≤ x.created) → lives_among at (n - p) p x end ≡ lives_among at (n - t.g) t.g x end
    among_on end d = same_test (lives_among at (n - p) p x end) (lives_among at (n - t.g) t.g x end)
        (λ f. (lives_among_is n at t.g x end (omega arith)).1 (back ((lives_among_is n at p x end behind.high).0 f)))
        (λ f. (lives_among_is n at p x end behind.high).1 (on ((lives_among_is n at t.g x end (omega arith)).0 f)))
      where
        back : LivesAmong n at p x end → LivesAmong n at t.g x end
        back w = record { index = w.index; low = omega (arith, w.low, further); high = w.high; below = w.below; is = w.is }

        on : LivesAmong n at t.g x end → LivesAmong n at p x end
        on w = go (cases_lt w.index p)
          where
            go : (w.index < p) ⊎ (p ≤ w.index) → LivesAmong n at p x end
            go (inl l) = absurd (ended d w.index w.low l ((meets_is x (at w.index)).0 w.is))
            go (inr l) = record { index = w.index; low = l; high = w.high; below = w.below; is = w.is }

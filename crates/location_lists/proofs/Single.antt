-- One list where it stands: its locations from number i on, and what the tests on them say of the whole list. Assumes nothing.
use Prim.Native.Nat.{ℕ, zero, suc, ◌+◌, ◌-◌, ◌*◌, ◌≤◌, ◌<◌}
use native.Mathlib.Nat.{not-suc-le-zero}
use native.Mathlib.Omega.{arith}
use mathlib.Core.Path.{◌≡◌, refl, sym, ap, ◌∙◌}
use mathlib.Core.Bool.{Bool, true, false, ◌&&◌}
use mathlib.Core.List.{List, [], ◌∷◌}
use borrow.Author.Tests.{lt-ltb, le-ltb, le-leb, lt-leb}
use Rattle.definitions.specs.Location.{Location, order, is_lt, location_at}
use Rattle.definitions.specs.Calls.{last_number}
use Rattle.trie.specs.Test.{ascending_from, is_ascending, all_pass}
use Rattle.definitions.specs.Location.{locations_in}

module _ (s : List ℕ) where
  -- ── the first location, and the others ──

  pub locations_none : (n at : ℕ) → n ≤ 0 → locations_in s n at ≡ []
  unfolding locations_in
  locations_none zero at h = refl
  locations_none (suc n) at h = absurd (not-suc-le-zero h)

  pub locations_first : (n at : ℕ) → 0 < n → locations_in s n at ≡ location_at s at ∷ locations_in s (n - 1) (at + 24)
  unfolding locations_in
  locations_first zero at h = absurd (not-suc-le-zero h)
  locations_first (suc n) at h = let e : suc n - 1 ≡ n = omega arith in rw e

  module _ (at n : ℕ) where
    -- location number i, and the locations from there on
    abbrev pub location_of : ℕ → Location
    location_of i = location_at s (at + i * 24)

    abbrev pub rest : ℕ → List Location
    rest i = locations_in s (n - i) (at + i * 24)

    pub rest_all : rest 0 ≡ locations_in s n at
    rest_all =
        let a : n - 0 ≡ n = omega arith in
        let b : at + 0 * 24 ≡ at = omega arith in
        rw (a, b) refl

    pub rest_none : (i : ℕ) → n ≤ i → rest i ≡ []
    rest_none i h = locations_none (n - i) (at + i * 24) (omega arith)

    pub rest_first : (i : ℕ) → i < n → rest i ≡ location_of i ∷ rest (i + 1)
    rest_first i h =
        let a : n - i - 1 ≡ n - (i + 1) = omega arith in
        let b : at + i * 24 + 24 ≡ at + (i + 1) * 24 = omega arith in
        rw (a, b) at (locations_first (n - i) (at + i * 24) (omega arith))

    -- ── a list that ascends ──

    -- up to one location ascends
    pub ascends_end : (i : ℕ) → n ≤ i → true ≡ is_ascending (rest (i - 1))
    unfolding locations_in
    ascends_end i h = go (n - (i - 1)) (omega arith)
      where
        go : (k : ℕ) → k ≤ 1 → true ≡ is_ascending (locations_in s k (at + (i - 1) * 24))
        go zero h = refl
        go (suc zero) h = refl
        go (suc (suc k)) h = absurd (omega arith)

    -- of two neighbours the test decides, and then the others do
    module _ (i : ℕ) (low : 1 ≤ i) (high : i < n) (l m : Location) (e : l ≡ location_of (i - 1)) (f : m ≡ location_of i) (r : Bool) (g : r ≡ is_lt (order l m)) where
      ascends_by : is_ascending (rest (i - 1)) ≡ (r && is_ascending (rest i))
      ascends_by =
          let j : i - 1 + 1 ≡ i = omega arith in
          let second : rest i ≡ m ∷ rest (i + 1) = rest_first i high ∙ ap (λ (x : Location). x ∷ rest (i + 1)) (sym f) in
          let first : rest (i - 1) ≡ l ∷ (m ∷ rest (i + 1)) =
          rest_first (i - 1) (omega arith) ∙ ap (λ (k : ℕ). location_of (i - 1) ∷ rest k) j ∙ ap (λ (x : Location). x ∷ rest i) (sym e) ∙ ap (λ (ls : List Location). l ∷ ls) second in
          ap is_ascending first ∙ ap (λ (o : Bool). o && ascending_from m (rest (i + 1))) (sym g) ∙ ap (λ (o : Bool). r && o) (sym (ap is_ascending second))

      pub ascends_not : r ≡ false → false ≡ is_ascending (rest (i - 1))
      ascends_not k = sym (ascends_by ∙ ap (λ (o : Bool). o && is_ascending (rest i)) k)

      pub ascends_on : r ≡ true → is_ascending (rest (i + 1 - 1)) ≡ is_ascending (rest (i - 1))
      ascends_on k =
          let j : i + 1 - 1 ≡ i = omega arith in
          rw j (sym (ascends_by ∙ ap (λ (o : Bool). o && is_ascending (rest i)) k))

    -- ── a sound list ──

    module _ (d i : ℕ) (high : i < n) (l : Location) (e : l ≡ location_of i) where
      here : rest i ≡ l ∷ rest (i + 1)
      here = rest_first i high ∙ ap (λ (x : Location). x ∷ rest (i + 1)) (sym e)

      -- a life of no tick
      pub sound_not : l.destroyed ≤ l.created → false ≡ all_pass d (rest i)
      sound_not k = rw (here, le-ltb l.created l.destroyed k) refl

      -- an address from which d bytes go past the last
      pub sound_high : l.created < l.destroyed → last_number < l.address + d → false ≡ all_pass d (rest i)
      sound_high k j = rw (here, lt-ltb l.created l.destroyed k, lt-leb (l.address + d) last_number j) refl

      pub sound_on : l.created < l.destroyed → l.address + d ≤ last_number → all_pass d (rest (i + 1)) ≡ all_pass d (rest i)
      sound_on k j = rw (here, lt-ltb l.created l.destroyed k, le-leb (l.address + d) last_number j) refl

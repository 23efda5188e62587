-- Entries in line, address by address: one pass through two addresses finds those that live together. Assumes nothing.
use Prim.Native.Nat.{ℕ, ◌+◌, ◌-◌, ◌≤◌, ◌<◌}
use native.Mathlib.Omega.{arith}
use mathlib.Core.Path.{◌≡◌, sym, ap, subst, ◌∙◌}
use mathlib.Core.Bool.{Bool, true, false, not, ◌&&◌}
use mathlib.Core.Logic.{◌⊎◌, inl, inr}
use lib.Dec.{ltb}
use borrow.Author.Tests.{ltb-true, lt-ltb}
use Rattle.std.proofs.lemmas.Bool.{cases_lt}
use Rattle.definitions.specs.Location.{Location}
use Rattle.definitions.proofs.Tests.{both, and_true, is_false, not_both, negated}
use Rattle.conflicts.specs.Lined.{Lined}
use Rattle.conflicts.specs.Promises.{LivesAmong}
use Rattle.conflicts.proofs.Together.{Together, meets_is}
use Rattle.conflicts.proofs.Line.{upto, lives_among_is}
use Rattle.certificate.specs.Entries.{all, lives_inside}
use Rattle.certificate.specs.Groups.{Group, NoneBeyond, CreatedBefore, Meeting}
use Rattle.certificate.proofs.All.{each, all_each, all_fails}

-- what holds from g to e - 1 and at e holds up to e
pub one_more : (P : ℕ → Type 0) (g e : ℕ) → ((k : ℕ) → g ≤ k → k < e → P k) → P e → (k : ℕ) → g ≤ k → k < e + 1 → P k
one_more P g e f p k h l = go (cases_lt k e)
  where
    go : (k < e) ⊎ (e ≤ k) → P k
    go (inl a) = f k h a
    go (inr a) = let z : e ≡ k = omega arith in subst P z p

-- the entries from i to j - 1 meet none from g to h - 1, and those before q are created before any from j on ends
pub record Walked (at : ℕ → Location) (end : ℕ → ℕ) (i e g h j q : ℕ) : Type 0 where
  pub from : i ≤ j
  pub upto_end : j ≤ e
  pub low : g ≤ q
  pub high : q ≤ h
  pub none : Meeting at end i j g h → ⊥
  pub sooner : (k x : ℕ) → g ≤ k → k < q → j ≤ x → x < e → (at k).created < (at x).destroyed

module _ (n : ℕ) (at : ℕ → Location) (s : Lined n at) (end : ℕ → ℕ) where
  -- ── two addresses ──

  module _ (i e g h : ℕ) (a : Group n at i e) (b : Group n at g h) where
    pub walk_start : Walked at end i e g h i g
    walk_start = record {
      from = omega arith;
      upto_end = omega (arith, a.low);
      low = omega arith;
      high = omega (arith, b.low);
      none = λ w. omega (arith, w.from_one, w.upto_one);
      sooner = λ k x c d _ _. absurd (omega arith);
    }

    module _ (j q : ℕ) (w : Walked at end i e g h j q) (l : j < e) where
      -- one more meets none where it itself doesn't
      further : ((k : ℕ) → g ≤ k → k < h → (at k).address < end j → Together (at j) (at k) → ⊥) → Meeting at end i (j + 1) g h → ⊥
      further f m = go (cases_lt m.one j)
        where
          go : (m.one < j) ⊎ (j ≤ m.one) → ⊥
          go (inl c) = w.none (record { one = m.one; other = m.other; from_one = m.from_one; upto_one = c; from_other = m.from_other; upto_other = m.upto_other; below = m.below; is = m.is })
          go (inr c) =
              let z : m.one ≡ j = omega (arith, m.upto_one) in
              f m.other m.from_other m.upto_other (subst (λ (x : ℕ). (at m.other).address < end x) z m.below) (subst (λ (x : ℕ). Together (at x) (at m.other)) z ((meets_is (at m.one) (at m.other)).0 m.is))

      -- its piece ends before the other address
      pub walk_short : end j ≤ (at g).address → Walked at end i e g h (j + 1) q
      walk_short t = record {
        from = omega (arith, w.from);
        upto_end = omega arith;
        low = w.low;
        high = w.high;
        none = further (λ k c d u _. omega (arith, b.same k c d));
        sooner = λ k x c d u v. w.sooner k x c d (omega arith) v;
      }

      -- x is read at j, and r is the first that is not created before it ends
      module _ {x : Location} (read : x ≡ at j) {r : ℕ} (created : CreatedBefore at q h x.destroyed r) where
        c : CreatedBefore at q h (at j).destroyed r
        c = subst (λ (y : Location). CreatedBefore at q h y.destroyed r) read created

        -- whether the last before it lives on when x is created
        lives : {o : Bool} → o ≡ (ltb g r && ltb x.created (at (r - 1)).destroyed) → (ltb g r && ltb (at j).created (at (r - 1)).destroyed) ≡ o
        lives e = ap (λ (y : Location). ltb g r && ltb y.created (at (r - 1)).destroyed) (sym read) ∙ sym e

        earlier : (k : ℕ) → g ≤ k → k < r → (at k).created < (at j).destroyed
        earlier k d u = go (cases_lt k q)
          where
            go : (k < q) ⊎ (q ≤ k) → (at k).created < (at j).destroyed
            go (inl t) = w.sooner k j d t (omega arith) l
            go (inr t) = c.before k t u

        -- the last that is created before it ends has ended when it is created, or there is none
        pub walk_on : {o : Bool} → o ≡ (ltb g r && ltb x.created (at (r - 1)).destroyed) → o ≡ false → Walked at end i e g h (j + 1) r
        walk_on f z = record {
          from = omega (arith, w.from);
          upto_end = omega arith;
          low = omega (arith, w.low, c.low);
          high = c.high;
          none = further (λ k d u _ m. apart k d u m (cases_lt k r));
          sooner = λ k y d u v w. omega (arith, earlier k d u, ends y v w);
        }
          where
            ends : (x : ℕ) → j + 1 ≤ x → x < e → (at j).destroyed ≤ (at x).destroyed
            ends x y z = (upto n at s j x (omega arith) (omega (arith, a.high))).by_destroyed (a.same j w.from l ∙ sym (a.same x (omega (arith, w.from)) z))

            apart : (k : ℕ) → g ≤ k → k < h → Together (at j) (at k) → (k < r) ⊎ (r ≤ k) → ⊥
            apart k d u m (inl y) =
                let p : g < r = omega arith in
                let o : (at k).destroyed ≤ (at (r - 1)).destroyed = (upto n at s k (r - 1) (omega arith) (omega (arith, c.high, b.high))).by_destroyed (b.same k d u ∙ sym (b.same (r - 1) (omega arith) (omega (arith, c.high)))) in
                not_both (lives f ∙ z) (and_true (lt-ltb g r p) (lt-ltb (at j).created (at (r - 1)).destroyed (omega (arith, o, m.left))))
            apart k d u m (inr y) =
                let p : r < h = omega arith in
                let o : (at r).created ≤ (at k).created = (upto n at s r k y (omega (arith, b.high))).by_created (b.same r (omega (arith, w.low, c.low)) p ∙ sym (b.same k d u)) in
                omega (arith, o, c.after p, m.right)

        -- it hasn't
        pub walk_met : (at g).address < end j → {o : Bool} → o ≡ (ltb g r && ltb x.created (at (r - 1)).destroyed) → o ≡ true → Meeting at end i e g h
        walk_met t f z =
            let p = both (ltb g r) (ltb (at j).created (at (r - 1)).destroyed) (lives f ∙ z) in
            let y : g < r = ltb-true g r p.0 in
            let m : Together (at j) (at (r - 1)) = record { left = ltb-true (at j).created (at (r - 1)).destroyed p.1; right = earlier (r - 1) (omega arith) (omega arith) } in
            record {
              one = j;
              other = r - 1;
              from_one = w.from;
              upto_one = l;
              from_other = omega arith;
              upto_other = omega (arith, c.high);
              below = omega (arith, b.same (r - 1) (omega arith) (omega (arith, c.high)));
              is = (meets_is (at j) (at (r - 1))).1 m;
            }

  -- ── one address and all behind it ──

  -- what is behind begins beyond the pieces
  pub group_past : (i e g : ℕ) → (Meeting at end i e e g → ⊥) → (stop : ℕ) → NoneBeyond end i e stop → stop ≤ (at g).address → Meeting at end i e e n → ⊥
  group_past i e g z stop f l m = go (cases_lt m.other g)
    where
      go : (m.other < g) ⊎ (g ≤ m.other) → ⊥
      go (inl c) = z (record { one = m.one; other = m.other; from_one = m.from_one; upto_one = m.upto_one; from_other = m.from_other; upto_other = c; below = m.below; is = m.is })
      go (inr c) = omega (arith, f m.one m.from_one m.upto_one, (upto n at s g m.other c m.upto_other).by_address, m.below)

  -- ── all addresses ──

  -- where the next is not inside a piece, none behind it is
  pub none_alone : (i : ℕ) → i < n → (ltb (i + 1) n && ltb (at (i + 1)).address (end i)) ≡ false → lives_inside at end n i ≡ false
  none_alone i l t = is_false (lives_inside at end n i) (λ u. go ((lives_among_is n at (i + 1) (at i) (end i) (omega arith)).0 u))
    where
      go : LivesAmong n at (i + 1) (at i) (end i) → ⊥
      go w =
          let b : (at (i + 1)).address < end i = omega (arith, (upto n at s (i + 1) w.index w.low w.high).by_address, w.below) in
          not_both t (and_true (lt-ltb (i + 1) n (omega (arith, w.low, w.high))) (lt-ltb (at (i + 1)).address (end i) b))

  module _ (i e : ℕ) (a : Group n at i e) where
    -- those at one address don't live together
    none_behind : (Meeting at end i e e n → ⊥) → (j : ℕ) → i ≤ j → j < e → LivesAmong n at (j + 1) (at j) (end j) → ⊥
    none_behind f j h l w = go (cases_lt w.index e) ((meets_is (at j) (at w.index)).0 w.is)
      where
        go : (w.index < e) ⊎ (e ≤ w.index) → Together (at j) (at w.index) → ⊥
        go (inl c) t = omega (arith, (s.ahead j w.index (omega (arith, w.low)) w.high).by_life (a.same j h l ∙ sym (a.same w.index (omega (arith, w.low)) c)), t.right)
        go (inr c) t = f (record { one = j; other = w.index; from_one = h; upto_one = l; from_other = c; upto_other = w.high; below = w.below; is = w.is })

    pub none_on : all (λ k. not (lives_inside at end n k)) i ≡ true → (Meeting at end i e e n → ⊥) → all (λ k. not (lives_inside at end n k)) e ≡ true
    none_on z f = all_each clear e (λ j l. go j l (cases_lt j i))
      where
        clear : ℕ → Bool
        clear k = not (lives_inside at end n k)

        go : (j : ℕ) → j < e → (j < i) ⊎ (i ≤ j) → clear j ≡ true
        go j l (inl c) = each clear i z j c
        go j l (inr c) = negated (is_false (lives_inside at end n j) (λ t. none_behind f j c l ((lives_among_is n at (j + 1) (at j) (end j) (omega (arith, a.high))).0 t)))

    pub none_met : Meeting at end i e e n → false ≡ all (λ k. not (lives_inside at end n k)) n
    none_met w =
        let t : lives_inside at end n w.one ≡ true = (lives_among_is n at (w.one + 1) (at w.one) (end w.one) (omega (arith, w.upto_one, a.high))).1 (record { index = w.other; low = omega (arith, w.upto_one, w.from_other); high = w.upto_other; below = w.below; is = w.is }) in
        sym (all_fails (λ k. not (lives_inside at end n k)) n w.one (omega (arith, w.upto_one, a.high)) (ap not t))

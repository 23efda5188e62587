-- Pieces against the sorted list of their locations: free of conflicts exactly if there are as many, the locations are in line,
-- and none inside a piece lives together with it. Assumes nothing.
use Prim.Native.Nat.{ℕ, ◌≤◌, ◌<◌}
use native.Mathlib.Omega.{arith}
use mathlib.Core.Path.{◌≡◌, refl, sym, ap, ◌∙◌, subst}
use mathlib.Core.Bool.{true, false}
use mathlib.Core.Logic.{◌⊎◌, inl, inr}
use mathlib.Core.List.{List, Memᴰ as Mem}
use lib.ListN.{length}
use Rattle.std.proofs.lemmas.Bool.{cases_lt}
use Rattle.definitions.specs.Location.{Location, meets, Less}
use Rattle.definitions.specs.Blocks.{Piece}
use Rattle.definitions.specs.Conflicts.{end, shares, conflicting, free}
use Rattle.definitions.proofs.Order.{less_asym}
use Rattle.definitions.proofs.Tests.{is_false, not_both}
use Rattle.definitions.proofs.Sharing.{facts_share, shares_sym}
use Rattle.conflicts.specs.Lined.{Ahead, Lined}
use Rattle.conflicts.specs.Order.{nothing, nowhere, nth, loc}
use Rattle.conflicts.specs.Promises.{NoneInside, Numbered, PieceAt, Locations, ClearImage, LocationsFree}
use Rattle.conflicts.proofs.Together.{Together, meets_not}
use Rattle.conflicts.proofs.Counting.{Stands, all_of_them}
use Rattle.conflicts.proofs.Numbers.{At, member_at, at_member, sorted_at, Choice, Chosen, choose, count_all, no_more_than}
use Rattle.conflicts.proofs.Numbered.{free_numbers}
use Rattle.conflicts.proofs.LinedFree.{lined_free}

module _ (ps : List Piece) (ls : List Location) (w : Locations ps ls) where
  listed : (k : ℕ) → k < length ps → Mem (nth ps k) ps
  listed k h = at_member ps nothing k h

  some : (k : ℕ) → k < length ps → 0 < length (nth ps k).bytes
  some k h = w.some (nth ps k) (listed k h)

  alive : (k : ℕ) → k < length ps → (nth ps k).at.created < (nth ps k).at.destroyed
  alive k h = w.alive (nth ps k) (listed k h)

  -- ── a piece for each location, a location for each piece ──

  -- piece k is at location i
  record Names (i k : ℕ) : Type 0 where
    inside : k < length ps
    is : (nth ps k).at ≡ loc ls i

  named : Chosen Names (length ls)
  named = choose Names (length ls) (λ i h. go i (w.fro (loc ls i) (at_member ls nowhere i h)))
    where
      on : (i : ℕ) → (p : PieceAt ps (loc ls i)) → At ps nothing p.piece → Choice Names i
      on i p a = record { number = a.index; right = record { inside = a.inside; is = ap (λ (x : Piece). x.at) a.is ∙ p.is } }

      go : (i : ℕ) → PieceAt ps (loc ls i) → Choice Names i
      go i p = on i p (member_at ps nothing p.piece p.listed)

  -- location i is piece k's
  record Placed (k i : ℕ) : Type 0 where
    inside : i < length ls
    is : loc ls i ≡ (nth ps k).at

  placed : Chosen Placed (length ps)
  placed = choose Placed (length ps) (λ k h. on k (member_at ls nowhere (nth ps k).at (w.to (nth ps k) (listed k h))))
    where
      on : (k : ℕ) → At ls nowhere (nth ps k).at → Choice Placed k
      on k a = record { number = a.index; right = record { inside = a.inside; is = a.is } }

  picked : (i : ℕ) → i < length ls → named.pick i < length ps
  picked i h = (named.right i h).inside

  at_is : (i : ℕ) → i < length ls → (nth ps (named.pick i)).at ≡ loc ls i
  at_is i h = (named.right i h).is

  -- different locations have different pieces
  different : (i j : ℕ) → i < j → j < length ls → named.pick i ≡ named.pick j → ⊥
  different i j h k q =
      let s : loc ls i ≡ loc ls j = sym (at_is i (omega arith)) ∙ ap (λ (x : ℕ). (nth ps x).at) q ∙ at_is j k in
      let z : Less (loc ls i) (loc ls i) = subst (Less (loc ls i)) (sym s) (sorted_at Less ls w.sorted i j h k) in
      less_asym z z

  pub no_fewer : length ls ≤ length ps
  no_fewer = no_more_than (length ps) (length ls) named.pick picked different

  -- ── free of conflicts, so clear ──

  module _ (f : free ps ≡ true) where
    apart : (i j : ℕ) → i < length ps → j < length ps → (i ≡ j → ⊥) → shares (nth ps i) (nth ps j) ≡ false
    apart i j h k n = go (cases_lt i j)
      where
        go : (i < j) ⊎ (j ≤ i) → shares (nth ps i) (nth ps j) ≡ false
        go (inl l) = (free_numbers ps).0 f i j l k
        go (inr l) = is_false (shares (nth ps i) (nth ps j)) (λ e. not_both ((free_numbers ps).0 f j i (omega arith) h) (shares_sym (nth ps i) (nth ps j) e))

    -- the second begins inside the first: they do not live together
    never : (i j : ℕ) → i < length ps → j < length ps → (i ≡ j → ⊥) → (nth ps i).at.address ≤ (nth ps j).at.address → (nth ps j).at.address < end (nth ps i) → Together (nth ps i).at (nth ps j).at → ⊥
    never i j h k n l m t = not_both (apart i j h k n) (facts_share (nth ps i) (nth ps j) (record {
      low = omega (arith, some i h);
      low' = omega (arith, some j k);
      across = omega (arith, some j k);
      across' = m;
      born = alive i h;
      born' = alive j k;
      before = t.left;
      before' = t.right;
    }))

    -- two pieces at one location would live together
    counted : length ps ≡ length ls
    counted = omega (arith, no_fewer, no_more_than (length ls) (length ps) placed.pick (λ k h. (placed.right k h).inside) once)
      where
        once : (i j : ℕ) → i < j → j < length ps → placed.pick i ≡ placed.pick j → ⊥
        once i j h k q =
            let s : (nth ps i).at ≡ (nth ps j).at = sym (placed.right i (omega arith)).is ∙ ap (loc ls) q ∙ (placed.right j k).is in
            let a : (nth ps i).at.address ≡ (nth ps j).at.address = ap (λ (l : Location). l.address) s in
            let c : (nth ps i).at.created ≡ (nth ps j).at.created = ap (λ (l : Location). l.created) s in
            let d : (nth ps i).at.destroyed ≡ (nth ps j).at.destroyed = ap (λ (l : Location). l.destroyed) s in
            let i-inside : i < length ps = omega arith in
            never i j i-inside k (omega arith) (omega arith) (omega (arith, some i i-inside)) (record { left = omega (arith, alive i i-inside); right = omega (arith, alive i i-inside) })

    -- the same for a piece and a location
    apart_at : (k i : ℕ) → k < length ps → i < length ls → (k ≡ named.pick i → ⊥) → (nth ps k).at.address ≤ (loc ls i).address → (loc ls i).address < end (nth ps k) → Together (nth ps k).at (loc ls i) → ⊥
    apart_at k i h l n a b t =
        never k (named.pick i) h (picked i l) n (subst (λ (m : Location). (nth ps k).at.address ≤ m.address) (sym (at_is i l)) a)
        (subst (λ (m : Location). m.address < end (nth ps k)) (sym (at_is i l)) b)
        (subst (λ (m : Location). Together (nth ps k).at m) (sym (at_is i l)) t)

    clear : ClearImage ps ls
    clear = record { count = counted; lined = record { ahead = ahead; alive = lives }; inside = λ p m i h a b. meets_not p.at (loc ls i) (within p (member_at ps nothing p m) i h a b) }
      where
        lives : (i : ℕ) → i < length ls → (loc ls i).created < (loc ls i).destroyed
        lives i h = subst (λ (l : Location). l.created < l.destroyed) (at_is i h) (alive (named.pick i) (picked i h))

        ahead : (i j : ℕ) → i < j → j < length ls → Ahead (loc ls i) (loc ls j)
        ahead i j h k = record { by_address = l.by_address; by_life = λ e. life e (cases_lt (loc ls j).created (loc ls i).destroyed) }
          where
            l : Less (loc ls i) (loc ls j)
            l = sorted_at Less ls w.sorted i j h k

            low : i < length ls
            low = omega arith

            life : (loc ls i).address ≡ (loc ls j).address → ((loc ls j).created < (loc ls i).destroyed) ⊎ ((loc ls i).destroyed ≤ (loc ls j).created) → (loc ls i).destroyed ≤ (loc ls j).created
            life e (inr o) = o
            life e (inl o) =
                let a : (nth ps (named.pick i)).at.address ≡ (loc ls i).address = ap (λ (m : Location). m.address) (at_is i low) in
                absurd (apart_at (named.pick i) j (picked i low) k (different i j h k) (omega arith) (omega (arith, some (named.pick i) (picked i low)))
                (subst (λ (m : Location). Together m (loc ls j)) (sym (at_is i low)) (record { left = omega (arith, l.by_created e, lives j k); right = o })))

        within : (p : Piece) → At ps nothing p → (i : ℕ) → i < length ls → p.at.address < (loc ls i).address → (loc ls i).address < end p → Together p.at (loc ls i) → ⊥
        within p x i h a b t = subst (λ (q : Piece). q.at.address < (loc ls i).address → (loc ls i).address < end q → Together q.at (loc ls i) → ⊥) x.is go a b t
          where
            go : (nth ps x.index).at.address < (loc ls i).address → (loc ls i).address < end (nth ps x.index) → Together (nth ps x.index).at (loc ls i) → ⊥
            go a b t = apart_at x.index i x.inside h other (omega arith) b t
              where
                other : x.index ≡ named.pick i → ⊥
                other q = omega (arith, ap (λ (m : Location). m.address) (ap (λ (y : ℕ). (nth ps y).at) q ∙ at_is i h))

  -- ── clear, so free of conflicts ──

  module _ (c : ClearImage ps ls) where
    -- as many pieces as locations: each is named at one
    stands : (k : ℕ) → k < length ps → Stands (length ls) named.pick k
    stands k h = all_of_them (λ i. true) (length ps) (length ls) named.pick picked (λ i h. refl) different (omega (arith, count_all (λ i. true) (length ps) (λ i h. refl), c.count)) k h refl

    line : Lined (length ls) (λ i. (nth ps (named.pick i)).at)
    line = record {
      ahead = λ i j h k. subst (λ (l : Location). Ahead l (nth ps (named.pick j)).at) (sym (at_is i (omega arith))) (subst (Ahead (loc ls i)) (sym (at_is j k)) (c.lined.ahead i j h k));
      alive = λ i h. alive (named.pick i) (picked i h);
    }

    insides : NoneInside (length ls) (λ i. nth ps (named.pick i))
    insides x y h k =
        subst (λ (l : Location). (nth ps (named.pick x)).at.address < l.address → l.address < end (nth ps (named.pick x)) → meets (nth ps (named.pick x)).at l ≡ false) (sym (at_is y k))
        (c.inside (nth ps (named.pick x)) (listed (named.pick x) (picked x h)) y k)

    numbered : Numbered (length ls) (λ i. nth ps (named.pick i))
    numbered = (lined_free (length ls) (λ i. nth ps (named.pick i)) line (λ i h. some (named.pick i) (picked i h))).1 insides

    none : (i j : ℕ) → i < j → Stands (length ls) named.pick i → Stands (length ls) named.pick j → conflicting (nth ps i) (nth ps j) ≡ false
    none i j h x y = subst (λ (k : ℕ). conflicting (nth ps k) (nth ps j) ≡ false) x.is (subst (λ (k : ℕ). conflicting (nth ps (named.pick x.index)) (nth ps k) ≡ false) y.is (go (cases_lt x.index y.index)))
      where
        go : (x.index < y.index) ⊎ (y.index ≤ x.index) → conflicting (nth ps (named.pick x.index)) (nth ps (named.pick y.index)) ≡ false
        go (inl l) = numbered x.index y.index l y.inside
        go (inr l) = is_false (conflicting (nth ps (named.pick x.index)) (nth ps (named.pick y.index))) (λ e. not_both (numbered y.index x.index (other (cases_lt y.index x.index)) x.inside) (shares_sym (nth ps (named.pick x.index)) (nth ps (named.pick y.index)) e))
          where
            other : (y.index < x.index) ⊎ (x.index ≤ y.index) → y.index < x.index
            other (inl o) = o
            other (inr o) =
                let q : x.index ≡ y.index = omega arith in
                absurd (omega (arith, sym x.is ∙ ap (λ (k : ℕ). named.pick k) q ∙ y.is))

    all_free : free ps ≡ true
    all_free = (free_numbers ps).1 (λ i j h k. none i j h (stands i (omega arith)) (stands j k))

pub locations_free : LocationsFree
locations_free ps ls w = (clear ps ls w, all_free ps ls w)

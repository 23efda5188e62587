-- Where an entry goes: how many stay before it, the list around it, and its 16 bytes. Assumes nothing.
use Prim.Native.Nat.{ℕ, zero, suc, ◌+◌, ◌*◌, ◌≤◌, ◌<◌}
use native.Mathlib.Nat.{le_of_suc-le-suc, not-suc-le-zero}
use native.Mathlib.Omega.{arith}
use mathlib.Core.Path.{◌≡◌, refl, sym, ap, ◌∙◌}
use mathlib.Core.Bool.{Bool, true, false, not, cond}
use mathlib.Core.Logic.{inl, inr}
use mathlib.Core.List.{List, [], ◌∷◌, ◌++◌, append_assoc}
use lib.ListN.{length, take, drop, length-append, take-append-drop}
use lib.Seq.{length-take-le, take_at, drop_at}
use Rattle.words.specs.Words.{bytes64}
use Rattle.words.proofs.Parts.{length_bytes64}
use Rattle.definitions.specs.Location.{Location, order, is_lt, Less}
use Rattle.definitions.proofs.Order.{less_asym}
use Rattle.conflicts.specs.Lined.{earlier, first_from}
use Rattle.conflicts.specs.Order.{Entry, enter, nothing, entry}
use Rattle.conflicts.specs.Promises.{own_bytes}
use Rattle.conflicts.proofs.Numbers.{at_member}
use Rattle.conflicts.proofs.Line.{Earlier, earlier_view}
use Rattle.conflicts.proofs.Order.{Ascending, Turn, turn, less_on}

-- ── how many stay before it ──

-- the entries from the front on whose location does not come after l
unfoldable pub behind : Location → List Entry → ℕ
behind l [] = 0
behind l (x ∷ xs) = cond (is_lt (order l x.piece.at)) 0 (suc (behind l xs))

pub behind_upto : (l : Location) (es : List Entry) → behind l es ≤ length es
unfolding behind
behind_upto l [] = omega arith
behind_upto l (x ∷ xs) = go (is_lt (order l x.piece.at)) (behind_upto l xs)
  where
    go : (o : Bool) → behind l xs ≤ length xs → cond o 0 (suc (behind l xs)) ≤ suc (length xs)
    go true h = omega arith
    go false h = omega arith

pub enter_splits : (e : Entry) (es : List Entry) → enter e es ≡ take (behind e.piece.at es) es ++ (e ∷ drop (behind e.piece.at es) es)
unfolding enter behind
enter_splits e [] = refl
enter_splits e (x ∷ xs) = go (is_lt (order e.piece.at x.piece.at)) (behind e.piece.at xs) (enter_splits e xs)
  where
    go : (o : Bool) (k : ℕ) → enter e xs ≡ take k xs ++ (e ∷ drop k xs) → cond o (e ∷ x ∷ xs) (x ∷ enter e xs) ≡ take (cond o 0 (suc k)) (x ∷ xs) ++ (e ∷ drop (cond o 0 (suc k)) (x ∷ xs))
    go true k h = refl
    go false k h = ap (λ (r : List Entry). x ∷ r) h

-- those before it do not come after l
pub behind_before : (l : Location) (es : List Entry) (i : ℕ) → i < behind l es → is_lt (order l (entry es i).piece.at) ≡ false
unfolding behind
behind_before l [] i h = absurd (not-suc-le-zero h)
behind_before l (x ∷ xs) i h = go (is_lt (order l x.piece.at)) refl (behind_before l xs) i h
  where
    go : (o : Bool) → is_lt (order l x.piece.at) ≡ o → ((i : ℕ) → i < behind l xs → is_lt (order l (entry xs i).piece.at) ≡ false) → (i : ℕ) → i < cond o 0 (suc (behind l xs)) → is_lt (order l (entry (x ∷ xs) i).piece.at) ≡ false
    go true e f i h = absurd (not-suc-le-zero h)
    go false e f zero h = e
    go false e f (suc i) h = f i (le_of_suc-le-suc h)

pub less_lt : (l m : Location) → Less l m → is_lt (order l m) ≡ true
less_lt l m h = go (is_lt (order l m)) (turn l m)
  where
    go : (o : Bool) → Turn o l m → o ≡ true
    go true t = refl
    go false (inl e) = absurd (omega (arith, h.by_destroyed (ap (λ (x : Location). x.address) (sym e)) (ap (λ (x : Location). x.created) (sym e)), ap (λ (x : Location). x.destroyed) e))
    go false (inr k) = absurd (less_asym h k)

-- the others do
pub behind_after : (l : Location) (es : List Entry) → Ascending es → (i : ℕ) → behind l es ≤ i → i < length es → is_lt (order l (entry es i).piece.at) ≡ true
unfolding behind
behind_after l [] s i h k = absurd (not-suc-le-zero k)
behind_after l (x ∷ xs) s i h k = go (is_lt (order l x.piece.at)) refl (turn l x.piece.at) (behind_after l xs s.1) i h k
  where
    go : (o : Bool) → is_lt (order l x.piece.at) ≡ o → Turn o l x.piece.at → ((i : ℕ) → behind l xs ≤ i → i < length xs → is_lt (order l (entry xs i).piece.at) ≡ true) → (i : ℕ) → cond o 0 (suc (behind l xs)) ≤ i → i < suc (length xs) → is_lt (order l (entry (x ∷ xs) i).piece.at) ≡ true
    go true e t f zero h k = e
    go true e t f (suc i) h k = less_lt l (entry xs i).piece.at (less_on l x (entry xs i) t (s.0 (entry xs i) (at_member xs (record { number = 0; piece = nothing }) i (le_of_suc-le-suc k))))
    go false e t f zero h k = absurd (not-suc-le-zero h)
    go false e t f (suc i) h k = f i (le_of_suc-le-suc h) (le_of_suc-le-suc k)

-- one number alone is it
pub behind_one : (l : Location) (es : List Entry) (k : ℕ) → k ≤ length es → ((i : ℕ) → i < k → is_lt (order l (entry es i).piece.at) ≡ false) → (k < length es → is_lt (order l (entry es k).piece.at) ≡ true) → behind l es ≡ k
unfolding behind
behind_one l [] k h f g = omega arith
behind_one l (x ∷ xs) zero h f g = rw (g (omega arith))
behind_one l (x ∷ xs) (suc k) h f g = rw (f 0 (omega arith)) (ap suc (behind_one l xs k (le_of_suc-le-suc h) (λ i m. f (suc i) (omega arith)) (λ m. g (omega arith))))

-- ── the first that does not come before its address and creation ──

-- where it has not both, it comes before them or the entry before it
turned : (l m : Location) → (m.address ≡ l.address → m.created ≡ l.created → ⊥) → earlier m l.address l.created ≡ not (is_lt (order l m))
turned l m n = go (is_lt (order l m)) (earlier m l.address l.created) (turn l m) (earlier_view m l.address l.created)
  where
    go : (o u : Bool) → Turn o l m → Earlier u m l.address l.created → u ≡ not o
    go true true t v = let e : l.address ≡ m.address = omega (arith, t.by_address, v.0) in absurd (omega (arith, t.by_created e, v.1 (sym e)))
    go true false t v = refl
    go false true t v = refl
    go false false (inl e) v = absurd (n (ap (λ (x : Location). x.address) e) (ap (λ (x : Location). x.created) e))
    go false false (inr t) v =
        let e : m.address ≡ l.address = omega (arith, t.by_address, v.0) in
        let c : m.created ≡ l.created = omega (arith, t.by_created e, v.1 e) in
        absurd (n e c)

-- entries from number i on, none with both
pub behind_first : (at : ℕ → Location) (l : Location) (es : List Entry) (i : ℕ) → ((j k : ℕ) → k ≡ i + j → j < length es → at k ≡ (entry es j).piece.at) → ((j : ℕ) → j < length es → (entry es j).piece.at.address ≡ l.address → (entry es j).piece.at.created ≡ l.created → ⊥)
    → first_from at (length es) i l.address l.created ≡ i + behind l es
unfolding behind first_from
behind_first at l [] i f n = omega arith
behind_first at l (x ∷ xs) i f n = ap (λ (u : Bool). cond u (first_from at (length xs) (suc i) l.address l.created) i) test ∙ go (is_lt (order l x.piece.at)) (behind_first at l xs (suc i) (λ j k e h. f (suc j) k (omega arith) (omega arith)) (λ j h. n (suc j) (omega arith)))
  where
    test : earlier (at i) l.address l.created ≡ not (is_lt (order l x.piece.at))
    test = ap (λ (m : Location). earlier m l.address l.created) (f 0 i (omega arith) (omega arith)) ∙ turned l x.piece.at (n 0 (omega arith))

    go : (o : Bool) → first_from at (length xs) (suc i) l.address l.created ≡ suc i + behind l xs → cond (not o) (first_from at (length xs) (suc i) l.address l.created) i ≡ i + cond o 0 (suc (behind l xs))
    go true h = omega arith
    go false h = omega arith

-- ── a part of the list ──

-- e comes before the first of them, if there is one
abbrev pub BeforeFirst : Entry → List Entry → Type 0
BeforeFirst e [] = Unit {0}
BeforeFirst e (y ∷ ys) = is_lt (order e.piece.at y.piece.at) ≡ true

pub enter_before : (e : Entry) (xs ys : List Entry) → BeforeFirst e ys → enter e (xs ++ ys) ≡ enter e xs ++ ys
unfolding enter
enter_before e [] [] h = refl
enter_before e [] (y ∷ ys) h = rw h
enter_before e (x ∷ xs) ys h = go (is_lt (order e.piece.at x.piece.at)) (enter_before e xs ys h)
  where
    go : (o : Bool) → enter e (xs ++ ys) ≡ enter e xs ++ ys → cond o (e ∷ x ∷ (xs ++ ys)) (x ∷ enter e (xs ++ ys)) ≡ cond o (e ∷ x ∷ xs) (x ∷ enter e xs) ++ ys
    go true h = refl
    go false h = ap (λ (r : List Entry). x ∷ r) h

-- ── the bytes ──

pub own_append : (xs ys : List Entry) → own_bytes (xs ++ ys) ≡ own_bytes xs ++ own_bytes ys
unfolding own_bytes
own_append [] ys = refl
own_append (x ∷ xs) ys =
    let a : List ℕ = bytes64 x.number in
    let b : List ℕ = bytes64 x.piece.at.destroyed in
    ap (λ (r : List ℕ). a ++ (b ++ r)) (own_append xs ys)
    ∙ ap (λ (r : List ℕ). a ++ r) (sym (append_assoc b (own_bytes xs) (own_bytes ys)))
    ∙ sym (append_assoc a (b ++ own_bytes xs) (own_bytes ys))

pub own_length : (es : List Entry) → length (own_bytes es) ≡ 16 * length es
unfolding own_bytes
own_length [] = refl
own_length (e ∷ es) =
    let a : List ℕ = bytes64 e.number in
    let b : List ℕ = bytes64 e.piece.at.destroyed in
    omega (arith, length-append a (b ++ own_bytes es), length-append b (own_bytes es), length_bytes64 e.number, length_bytes64 e.piece.at.destroyed, own_length es)

pub own_parts : (k : ℕ) (es : List Entry) → own_bytes es ≡ own_bytes (take k es) ++ own_bytes (drop k es)
own_parts k es = ap own_bytes (sym (take-append-drop k es)) ∙ own_append (take k es) (drop k es)

pub own_front : (k : ℕ) (es : List Entry) → k ≤ length es → length (own_bytes (take k es)) ≡ 16 * k
own_front k es h = omega (arith, own_length (take k es), length-take-le k es h)

pub own_take : (k : ℕ) (es : List Entry) → k ≤ length es → take (16 * k) (own_bytes es) ≡ own_bytes (take k es)
own_take k es h = ap (take (16 * k)) (own_parts k es) ∙ take_at (own_bytes (take k es)) (own_bytes (drop k es)) (16 * k) (own_front k es h)

pub own_drop : (k : ℕ) (es : List Entry) → k ≤ length es → drop (16 * k) (own_bytes es) ≡ own_bytes (drop k es)
own_drop k es h = ap (drop (16 * k)) (own_parts k es) ∙ drop_at (own_bytes (take k es)) (own_bytes (drop k es)) (16 * k) (own_front k es h)

-- an entry's bytes go between those that stay before it and the others
pub own_enter : (e : Entry) (es : List Entry) (k : ℕ) → k ≡ behind e.piece.at es → own_bytes (enter e es) ≡ take (16 * k) (own_bytes es) ++ (bytes64 e.number ++ (bytes64 e.piece.at.destroyed ++ drop (16 * k) (own_bytes es)))
unfolding own_bytes
own_enter e es k q =
    let h : k ≤ length es = omega (arith, behind_upto e.piece.at es) in
    ap own_bytes (enter_splits e es)
    ∙ ap (λ (j : ℕ). own_bytes (take j es ++ (e ∷ drop j es))) (sym q)
    ∙ own_append (take k es) (e ∷ drop k es)
    ∙ ap (λ (r : List ℕ). r ++ (bytes64 e.number ++ (bytes64 e.piece.at.destroyed ++ own_bytes (drop k es)))) (sym (own_take k es h))
    ∙ ap (λ (r : List ℕ). take (16 * k) (own_bytes es) ++ (bytes64 e.number ++ (bytes64 e.piece.at.destroyed ++ r))) (sym (own_drop k es h))

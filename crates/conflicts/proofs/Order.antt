-- Entries put in order: who is there, how many, and that they ascend by address, created, destroyed, number. Assumes nothing.
use Prim.Native.Nat.{ℕ, zero, suc, ◌+◌, ◌≤◌, ◌<◌, Ordering}
use native.Mathlib.Nat.{le_of_suc-le-suc, not-suc-le-zero}
use native.Mathlib.Omega.{arith}
use mathlib.Core.Path.{◌≡◌, refl, sym, ap, ◌∙◌, subst}
use mathlib.Core.Bool.{Bool, true, false, cond}
use mathlib.Core.Logic.{◌⊎◌, inl, inr}
use mathlib.Core.List.Memᴰ.{cases_cons as split}
use mathlib.Core.List.Memᴰ.{head as here}
use mathlib.Core.List.Memᴰ.{not-nil}
use mathlib.Core.List.Memᴰ.{tail as later}
use mathlib.Core.List.{List, [], ◌∷◌, ◌++◌, Memᴰ as Mem}
use lib.ListN.{length}
use lib.Dec.{eqb}
use Rattle.definitions.specs.Location.{Location, order, is_lt, Less}
use Rattle.definitions.specs.Blocks.{Piece}
use Rattle.definitions.proofs.Order.{Cmp, cmp}
use Rattle.definitions.proofs.Views.{Eq, eq}
use Rattle.conflicts.specs.Order.{Entry, enter, enter_piece, enter_all, ordered, nothing, nth, entry}
use Rattle.conflicts.specs.Promises.{filled, Entered, OrderedEntered, OrderedCount, OrderedAppend}
use Rattle.conflicts.proofs.Numbers.{at_member}

-- ── one entry before another ──

-- numbers decide between equal locations, so that no two entries are level
pub record Precedes (x y : Entry) : Type 0 where
  pub by_address : x.piece.at.address ≤ y.piece.at.address
  pub by_created : x.piece.at.address ≡ y.piece.at.address → x.piece.at.created ≤ y.piece.at.created
  pub by_destroyed : x.piece.at.address ≡ y.piece.at.address → x.piece.at.created ≡ y.piece.at.created → x.piece.at.destroyed ≤ y.piece.at.destroyed
  pub by_number : x.piece.at ≡ y.piece.at → x.number < y.number

less_precedes : (x y : Entry) → Less x.piece.at y.piece.at → Precedes x y
less_precedes x y h = record {
  by_address = h.by_address;
  by_created = h.by_created;
  by_destroyed = λ a c. omega (arith, h.by_destroyed a c);
  by_number = λ e. absurd (omega (arith, h.by_destroyed (ap (λ (l : Location). l.address) e) (ap (λ (l : Location). l.created) e), ap (λ (l : Location). l.destroyed) e));
}

level_precedes : (x y : Entry) → x.piece.at ≡ y.piece.at → x.number < y.number → Precedes x y
level_precedes x y e h =
    let a : x.piece.at.address ≡ y.piece.at.address = ap (λ (l : Location). l.address) e in
    let c : x.piece.at.created ≡ y.piece.at.created = ap (λ (l : Location). l.created) e in
    let d : x.piece.at.destroyed ≡ y.piece.at.destroyed = ap (λ (l : Location). l.destroyed) e in
    record { by_address = omega arith; by_created = λ _. omega arith; by_destroyed = λ _ _. omega arith; by_number = λ _. h }

-- what comes before an entry comes before all that this one precedes
pub less_on : (l : Location) (x y : Entry) → Less l x.piece.at → Precedes x y → Less l y.piece.at
less_on l x y h k = record { by_address = omega (arith, h.by_address, k.by_address); by_created = created; by_destroyed = destroyed }
  where
    left : l.address ≡ y.piece.at.address → l.address ≡ x.piece.at.address
    left a = omega (arith, h.by_address, k.by_address)

    right : l.address ≡ y.piece.at.address → x.piece.at.address ≡ y.piece.at.address
    right a = omega (arith, h.by_address, k.by_address)

    created : l.address ≡ y.piece.at.address → l.created ≤ y.piece.at.created
    created a = omega (arith, h.by_created (left a), k.by_created (right a))

    destroyed : l.address ≡ y.piece.at.address → l.created ≡ y.piece.at.created → l.destroyed < y.piece.at.destroyed
    destroyed a c =
        let p : l.created ≡ x.piece.at.created = omega (arith, h.by_created (left a), k.by_created (right a)) in
        let q : x.piece.at.created ≡ y.piece.at.created = omega arith in
        omega (arith, h.by_destroyed (left a) p, k.by_destroyed (right a) q)

-- what the test of `enter` tells
abbrev pub Turn : Bool → Location → Location → Type 0
Turn true l m = Less l m
Turn false l m = (m ≡ l) ⊎ Less m l

pub turn : (l m : Location) → Turn (is_lt (order l m)) l m
turn l m = go (order l m) (cmp l m)
  where
    go : (o : Ordering) → Cmp o l m → Turn (is_lt o) l m
    go Ordering.lt c = c
    go Ordering.eq c = inl (sym c)
    go Ordering.gt c = inr c

-- ── one entry put in ──

pub enter_new : (e : Entry) (es : List Entry) → Mem e (enter e es)
unfolding enter
enter_new e [] = here refl
enter_new e (x ∷ xs) = go (is_lt (order e.piece.at x.piece.at)) (enter_new e xs)
  where
    go : (o : Bool) → Mem e (enter e xs) → Mem e (cond o (e ∷ x ∷ xs) (x ∷ enter e xs))
    go true h = here refl
    go false h = later h

pub enter_old : {y : Entry} (e : Entry) (es : List Entry) → Mem y es → Mem y (enter e es)
unfolding enter
enter_old e [] m = later m
enter_old {y} e (x ∷ xs) m = go (is_lt (order e.piece.at x.piece.at)) (enter_old e xs) m
  where
    go : (o : Bool) → (Mem y xs → Mem y (enter e xs)) → Mem y (x ∷ xs) → Mem y (cond o (e ∷ x ∷ xs) (x ∷ enter e xs))
    go true h m = later m
    go false h (here q) = here q
    go false h (later m) = later (h m)

pub enter_mem : {y : Entry} (e : Entry) (es : List Entry) → Mem y (enter e es) → (y ≡ e) ⊎ Mem y es
unfolding enter
enter_mem e [] m = split m
enter_mem {y} e (x ∷ xs) m = go (is_lt (order e.piece.at x.piece.at)) (enter_mem e xs) m
  where
    on : (y ≡ e) ⊎ Mem y xs → (y ≡ e) ⊎ Mem y (x ∷ xs)
    on (inl q) = inl q
    on (inr m) = inr (later m)

    behind : (Mem y (enter e xs) → (y ≡ e) ⊎ Mem y xs) → (y ≡ x) ⊎ Mem y (enter e xs) → (y ≡ e) ⊎ Mem y (x ∷ xs)
    behind h (inl q) = inr (here q)
    behind h (inr m) = on (h m)

    go : (o : Bool) → (Mem y (enter e xs) → (y ≡ e) ⊎ Mem y xs) → Mem y (cond o (e ∷ x ∷ xs) (x ∷ enter e xs)) → (y ≡ e) ⊎ Mem y (x ∷ xs)
    go true h m = split m
    go false h m = behind h (split m)

pub enter_length : (e : Entry) (es : List Entry) → length (enter e es) ≡ suc (length es)
unfolding enter
enter_length e [] = refl
enter_length e (x ∷ xs) = go (is_lt (order e.piece.at x.piece.at)) (enter_length e xs)
  where
    go : (o : Bool) → length (enter e xs) ≡ suc (length xs) → length (cond o (e ∷ x ∷ xs) (x ∷ enter e xs)) ≡ suc (suc (length xs))
    go true h = refl
    go false h = omega arith

-- each precedes all behind it
abbrev pub Ascending : List Entry → Type 0
Ascending [] = Unit {0}
Ascending (e ∷ es) = ((x : Entry) → Mem x es → Precedes e x) × Ascending es

pub enter_ascending : (e : Entry) (es : List Entry) → ((x : Entry) → Mem x es → x.number < e.number) → Ascending es → Ascending (enter e es)
unfolding enter
enter_ascending e [] f s = ((λ x m. absurd (not-nil m)), tt)
enter_ascending e (x ∷ xs) f s = go (is_lt (order e.piece.at x.piece.at)) (turn e.piece.at x.piece.at) (enter_ascending e xs (λ y m. f y (later m)) s.1)
  where
    front : Less e.piece.at x.piece.at → (y : Entry) → Mem y (x ∷ xs) → Precedes e y
    front h y (here q) = subst (Precedes e) (sym q) (less_precedes e x h)
    front h y (later m) = less_precedes e y (less_on e.piece.at x y h (s.0 y m))

    new : (x.piece.at ≡ e.piece.at) ⊎ Less x.piece.at e.piece.at → Precedes x e
    new (inl q) = level_precedes x e q (f x (here refl))
    new (inr h) = less_precedes x e h

    back : Precedes x e → (y : Entry) → (y ≡ e) ⊎ Mem y xs → Precedes x y
    back h y (inl q) = subst (Precedes x) (sym q) h
    back h y (inr m) = s.0 y m

    go : (o : Bool) → Turn o e.piece.at x.piece.at → Ascending (enter e xs) → Ascending (cond o (e ∷ x ∷ xs) (x ∷ enter e xs))
    go true t h = (front t, s)
    go false t h = ((λ y m. back (new t) y (enter_mem e xs m)), h)

-- ── a piece put in ──

-- a piece that has a byte, as an entry of this number
pub record Fresh (k : ℕ) (p : Piece) (x : Entry) : Type 0 where
  pub is : x ≡ record { number = k; piece = p }
  pub some : 0 < length p.bytes

piece_mem : {x : Entry} (k : ℕ) (p : Piece) (es : List Entry) → Mem x (enter_piece k p es) → Fresh k p x ⊎ Mem x es
piece_mem {x} k p es m = go (eqb (length p.bytes) 0) (eq (length p.bytes) 0) m
  where
    on : ¬ (length p.bytes ≡ 0) → (x ≡ record { number = k; piece = p }) ⊎ Mem x es → Fresh k p x ⊎ Mem x es
    on n (inl q) = inl (record { is = q; some = omega arith })
    on n (inr m) = inr m

    go : (o : Bool) → Eq o (length p.bytes) 0 → Mem x (cond o es (enter (record { number = k; piece = p }) es)) → Fresh k p x ⊎ Mem x es
    go true v m = inr m
    go false v m = on v (enter_mem (record { number = k; piece = p }) es m)

piece_old : {x : Entry} (k : ℕ) (p : Piece) (es : List Entry) → Mem x es → Mem x (enter_piece k p es)
piece_old {x} k p es m = go (eqb (length p.bytes) 0)
  where
    go : (o : Bool) → Mem x (cond o es (enter (record { number = k; piece = p }) es))
    go true = m
    go false = enter_old (record { number = k; piece = p }) es m

piece_new : (k : ℕ) (p : Piece) (es : List Entry) → 0 < length p.bytes → Mem (record { number = k; piece = p }) (enter_piece k p es)
piece_new k p es h = go (eqb (length p.bytes) 0) (eq (length p.bytes) 0)
  where
    go : (o : Bool) → Eq o (length p.bytes) 0 → Mem (record { number = k; piece = p }) (cond o es (enter (record { number = k; piece = p }) es))
    go true v = absurd (omega arith)
    go false v = enter_new (record { number = k; piece = p }) es

piece_ascending : (k : ℕ) (p : Piece) (es : List Entry) → ((x : Entry) → Mem x es → x.number < k) → Ascending es → Ascending (enter_piece k p es)
piece_ascending k p es f s = go (eqb (length p.bytes) 0)
  where
    go : (o : Bool) → Ascending (cond o es (enter (record { number = k; piece = p }) es))
    go true = s
    go false = enter_ascending (record { number = k; piece = p }) es f s

-- ── pieces put in ──

pub enter_append : (k m : ℕ) (ps new : List Piece) (es : List Entry) → m ≡ k + length ps → enter_all k (ps ++ new) es ≡ enter_all m new (enter_all k ps es)
unfolding enter_all
enter_append k m [] new es e = let q : k ≡ m = omega arith in ap (λ (a : ℕ). enter_all a new es) q
enter_append k m (p ∷ ps) new es e = enter_append (suc k) m ps new (enter_piece k p es) (omega arith)

pub ordered_append : OrderedAppend
ordered_append ps new = enter_append 0 (length ps) ps new [] (omega arith)

pub all_length : (k : ℕ) (ps : List Piece) (es : List Entry) → length (enter_all k ps es) ≡ length es + filled ps
unfolding enter_all filled
all_length k [] es = omega arith
all_length k (p ∷ ps) es = all_length (suc k) ps (enter_piece k p es) ∙ go (eqb (length p.bytes) 0)
  where
    go : (o : Bool) → length (cond o es (enter (record { number = k; piece = p }) es)) + filled ps ≡ length es + cond o (filled ps) (suc (filled ps))
    go true = refl
    go false = omega (arith, enter_length (record { number = k; piece = p }) es)

pub ordered_count : OrderedCount
ordered_count ps = omega (arith, all_length 0 ps [])

all_old : {x : Entry} (k : ℕ) (ps : List Piece) (es : List Entry) → Mem x es → Mem x (enter_all k ps es)
unfolding enter_all
all_old k [] es m = m
all_old k (p ∷ ps) es m = all_old (suc k) ps (enter_piece k p es) (piece_old k p es m)

-- each piece that has a byte has its entry
all_new : (k m : ℕ) (ps : List Piece) (es : List Entry) (i : ℕ) → m ≡ k + i → i < length ps → 0 < length (nth ps i).bytes → Mem (record { number = m; piece = nth ps i }) (enter_all k ps es)
unfolding enter_all
all_new k m [] es i e h s = absurd (not-suc-le-zero h)
all_new k m (p ∷ ps) es zero e h s = let q : k ≡ m = omega arith in all_old (suc k) ps (enter_piece k p es) (subst (λ (a : ℕ). Mem (record { number = a; piece = p }) (enter_piece k p es)) q (piece_new k p es s))
all_new k m (p ∷ ps) es (suc i) e h s = all_new (suc k) m ps (enter_piece k p es) i (omega arith) (le_of_suc-le-suc h) s

pub ordered_has : (ps : List Piece) (i : ℕ) → i < length ps → 0 < length (nth ps i).bytes → Mem (record { number = i; piece = nth ps i }) (ordered ps)
ordered_has ps i h s = all_new 0 i ps [] i (omega arith) h s

-- pieces from number k on are those of a longer list
all_entered : (rs : List Piece) (k : ℕ) (ps : List Piece) (es : List Entry) → length rs ≡ k + length ps → ((i j : ℕ) → j ≡ k + i → i < length ps → nth rs j ≡ nth ps i) → ((x : Entry) → Mem x es → Entered rs x) → (x : Entry) → Mem x (enter_all k ps es) → Entered rs x
unfolding enter_all
all_entered rs k [] es e f g x m = g x m
all_entered rs k (p ∷ ps) es e f g x m = all_entered rs (suc k) ps (enter_piece k p es) (omega arith) (λ i j q h. f (suc i) j (omega arith) (omega arith)) (λ y n. go y (piece_mem k p es n)) x m
  where
    new : (y : Entry) → Fresh k p y → Entered rs y
    new y w = subst (Entered rs) (sym w.is) (record { inside = omega arith; piece = f 0 k (omega arith) (omega arith); some = w.some })

    go : (y : Entry) → Fresh k p y ⊎ Mem y es → Entered rs y
    go y (inl w) = new y w
    go y (inr n) = g y n

pub ordered_mem : (ps : List Piece) (x : Entry) → Mem x (ordered ps) → Entered ps x
ordered_mem ps x m = all_entered ps 0 ps [] (omega arith) (λ i j q h. let e : j ≡ i = omega arith in ap (nth ps) e) (λ y n. absurd (not-nil n)) x m

pub ordered_entered : OrderedEntered
ordered_entered ps i h = ordered_mem ps (entry (ordered ps) i) (at_member (ordered ps) (record { number = 0; piece = nothing }) i h)

-- ── the order ──

all_ascending : (k : ℕ) (ps : List Piece) (es : List Entry) → ((x : Entry) → Mem x es → x.number < k) → Ascending es → Ascending (enter_all k ps es)
unfolding enter_all
all_ascending k [] es f s = s
all_ascending k (p ∷ ps) es f s = all_ascending (suc k) ps (enter_piece k p es) (λ y n. go y (piece_mem k p es n)) (piece_ascending k p es f s)
  where
    go : (y : Entry) → Fresh k p y ⊎ Mem y es → y.number < suc k
    go y (inl w) = omega (arith, ap (λ (x : Entry). x.number) w.is)
    go y (inr n) = omega (arith, f y n)

ascending_at : (es : List Entry) → Ascending es → (i j : ℕ) → i < j → j < length es → Precedes (entry es i) (entry es j)
ascending_at [] s i j h k = absurd (not-suc-le-zero k)
ascending_at (e ∷ es) s i zero h k = absurd (not-suc-le-zero h)
ascending_at (e ∷ es) s zero (suc j) h k = s.0 (entry es j) (at_member es (record { number = 0; piece = nothing }) j (le_of_suc-le-suc k))
ascending_at (e ∷ es) s (suc i) (suc j) h k = ascending_at es s.1 i j (le_of_suc-le-suc h) (le_of_suc-le-suc k)

-- each of the order precedes all behind it
pub ordered_ascending : (ps : List Piece) (i j : ℕ) → i < j → j < length (ordered ps) → Precedes (entry (ordered ps) i) (entry (ordered ps) j)
ordered_ascending ps = ascending_at (ordered ps) (all_ascending 0 ps [] (λ x m. absurd (not-nil m)) tt)

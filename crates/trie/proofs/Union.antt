-- The simultaneous walk over sorted lists tells whether a list is the union of others. Assumes nothing.
use Prim.Native.Nat.{ℕ, ◌+◌, ◌≤◌, Ordering}
use native.Mathlib.Omega.{arith}
use mathlib.Core.Path.{◌≡◌, refl, sym, ap, ◌∙◌, subst}
use mathlib.Core.Bool.{Bool, true, false, ◌&&◌, ◌||◌, cond}
use mathlib.Core.Logic.{◌⊎◌, inl, inr, ◌↔◌}
use mathlib.Core.List.Memᴰ.{cases_cons as split}
use mathlib.Core.List.Memᴰ.{head as here}
use mathlib.Core.List.Memᴰ.{not-nil}
use mathlib.Core.List.Memᴰ.{tail as later}
use mathlib.Core.List.{List, [], ◌∷◌, Memᴰ as Mem}
use lib.Dec.{leb, compare_is_eq}
use borrow.Author.Tests.{leb-true, le-leb}
use Rattle.std.proofs.lemmas.Bool.{or_cases, or_left, or_right}
use Rattle.definitions.specs.Location.{Location, moved, order, is_lt, Sorted, Less}
use Rattle.definitions.proofs.Tests.{both, and_true}
use Rattle.definitions.proofs.Order.{less_asym, less_trans, Cmp, cmp, location_path}
use Rattle.trie.specs.Test.{is_ascending, ascending_from, and_list, moved_back, begins, step_over, any_begins, step_over_all, all_ended, is_union}

-- ── equal locations ──

abbrev pub Same : Bool → Location → Location → Type 0
Same true l m = l ≡ m
Same false l m = l ≡ m → ⊥

irreflexive : {l : Location} → Less l l → ⊥
irreflexive h = less_asym h h

pub same : (l m : Location) → Same (compare_is_eq (order l m)) l m
same l m = go (order l m) (cmp l m)
  where
    go : (o : Ordering) → Cmp o l m → Same (compare_is_eq o) l m
    go Ordering.lt c = λ e. irreflexive (subst (λ (x : Location). Less x m) e c)
    go Ordering.eq c = c
    go Ordering.gt c = λ e. irreflexive (subst (Less m) e c)

pub same_true : (l m : Location) → compare_is_eq (order l m) ≡ true → l ≡ m
same_true l m e = subst (λ (o : Bool). Same o l m) e (same l m)

pub true_same : (l m : Location) → l ≡ m → compare_is_eq (order l m) ≡ true
true_same l m e = go (compare_is_eq (order l m)) (same l m)
  where
    go : (o : Bool) → Same o l m → o ≡ true
    go true h = refl
    go false h = absurd (h e)

-- ── a member of one of several lists ──

pub record InLists (lss : List (List Location)) (m : Location) : Type 0 where
  pub list : List Location
  pub listed : Mem list lss
  pub member : Mem m list

pub in_first : {ls : List Location} {lss : List (List Location)} {m : Location} → Mem m ls → InLists (ls ∷ lss) m
in_first {ls} h = record { list = ls; listed = here refl; member = h }

pub in_later : {ls : List Location} {lss : List (List Location)} {m : Location} → InLists lss m → InLists (ls ∷ lss) m
in_later i = record { list = i.list; listed = later i.listed; member = i.member }

pub in_cases : {ls : List Location} {lss : List (List Location)} {m : Location} → InLists (ls ∷ lss) m → Mem m ls ⊎ InLists lss m
in_cases {ls} {lss} {m} i = go (split i.listed)
  where
    go : (i.list ≡ ls) ⊎ Mem i.list lss → Mem m ls ⊎ InLists lss m
    go (inl e) = inl (subst (λ (x : List Location). Mem m x) e i.member)
    go (inr k) = inr (record { list = i.list; listed = k; member = i.member })

pub in_none : {m : Location} → InLists [] m → ⊥
in_none i = not-nil i.listed

pub in_and : {m : Location} (ls : List Location) (lss : List (List Location)) → InLists (and_list ls lss) m ↔ (Mem m ls ⊎ InLists lss m)
in_and {m} [] lss = (inr, out)
  where
    out : Mem m [] ⊎ InLists lss m → InLists lss m
    out (inl h) = absurd (not-nil h)
    out (inr i) = i
in_and {m} (l ∷ ls) lss = (in_cases, out)
  where
    out : Mem m (l ∷ ls) ⊎ InLists lss m → InLists ((l ∷ ls) ∷ lss) m
    out (inl h) = in_first h
    out (inr i) = in_later i

-- ── stepping over a location ──

over_mem : {m : Location} (key : Location) (ls : List Location) → Mem m (step_over key ls) → Mem m ls
over_mem {m = m} key [] h = elim h [ ]
over_mem {m} key (l ∷ ls) h = go (compare_is_eq (order l key)) h
  where
    go : (o : Bool) → Mem m (cond o ls (l ∷ ls)) → Mem m (l ∷ ls)
    go true h = later h
    go false h = h

mem_over : {m : Location} (key : Location) (ls : List Location) → Mem m ls → (m ≡ key) ⊎ Mem m (step_over key ls)
mem_over {m = m} key [] h = elim h [ ]
mem_over {m} key (l ∷ ls) h = go (compare_is_eq (order l key)) (same l key) (split h)
  where
    go : (o : Bool) → Same o l key → (m ≡ l) ⊎ Mem m ls → (m ≡ key) ⊎ Mem m (cond o ls (l ∷ ls))
    go true e (inl f) = inl (f ∙ e)
    go true e (inr k) = inr k
    go false e (inl f) = inr (here f)
    go false e (inr k) = inr (later k)

over_all_mem : {m : Location} (key : Location) (lss : List (List Location)) → InLists (step_over_all key lss) m → InLists lss m
over_all_mem key [] i = absurd (in_none i)
over_all_mem {m} key (ls ∷ lss) i = go (over_all_mem key lss) (in_cases i)
  where
    go : (InLists (step_over_all key lss) m → InLists lss m) → Mem m (step_over key ls) ⊎ InLists (step_over_all key lss) m → InLists (ls ∷ lss) m
    go ih (inl h) = in_first (over_mem key ls h)
    go ih (inr j) = in_later (ih j)

mem_over_all : {m : Location} (key : Location) (lss : List (List Location)) → InLists lss m → (m ≡ key) ⊎ InLists (step_over_all key lss) m
mem_over_all key [] i = absurd (in_none i)
mem_over_all {m} key (ls ∷ lss) i = go (mem_over_all key lss) (in_cases i)
  where
    one : (m ≡ key) ⊎ Mem m (step_over key ls) → (m ≡ key) ⊎ InLists (step_over_all key (ls ∷ lss)) m
    one (inl e) = inl e
    one (inr h) = inr (in_first h)

    two : (m ≡ key) ⊎ InLists (step_over_all key lss) m → (m ≡ key) ⊎ InLists (step_over_all key (ls ∷ lss)) m
    two (inl e) = inl e
    two (inr j) = inr (in_later j)

    go : (InLists lss m → (m ≡ key) ⊎ InLists (step_over_all key lss) m) → Mem m ls ⊎ InLists lss m → (m ≡ key) ⊎ InLists (step_over_all key (ls ∷ lss)) m
    go ih (inl h) = one (mem_over key ls h)
    go ih (inr j) = two (ih j)

begins_mem : (key : Location) (lss : List (List Location)) → any_begins key lss ≡ true → InLists lss key
begins_mem key [] e = absurd (let z : ◌≡◌ {A = ℕ} 0 1 = cc in omega arith)
begins_mem key (ls ∷ lss) e = go ls (begins_mem key lss) (or_cases (begins key ls) (any_begins key lss) e)
  where
    go : (ks : List Location) → (any_begins key lss ≡ true → InLists lss key) → (begins key ks ≡ true) ⊎ (any_begins key lss ≡ true) → InLists (ks ∷ lss) key
    go [] ih (inl f) = absurd (let z : ◌≡◌ {A = ℕ} 0 1 = cc in omega arith)
    go (k ∷ ks) ih (inl f) = in_first (here (sym (same_true k key f)))
    go ks ih (inr f) = in_later (ih f)

ended_none : {m : Location} (lss : List (List Location)) → all_ended lss ≡ true → InLists lss m → ⊥
ended_none [] e i = in_none i
ended_none {m} ([] ∷ lss) e i = go (ended_none lss e) (in_cases i)
  where
    go : (InLists lss m → ⊥) → Mem m [] ⊎ InLists lss m → ⊥
    go ih (inl h) = not-nil h
    go ih (inr j) = ih j
ended_none ((l ∷ ls) ∷ lss) e i = let z : ◌≡◌ {A = ℕ} 0 1 = cc in omega arith

none_ended : (lss : List (List Location)) → ((m : Location) → InLists lss m → ⊥) → all_ended lss ≡ true
none_ended [] f = refl
none_ended ([] ∷ lss) f = none_ended lss (λ m i. f m (in_later i))
none_ended ((l ∷ ls) ∷ lss) f = absurd (f l (in_first (here refl)))

-- ── the union ──

-- l is, `back` addresses further on, a member of one of the lists
pub record FromLists (back : ℕ) (lss : List (List Location)) (l : Location) : Type 0 where
  pub at : Location
  pub listed : InLists lss at
  pub is : l ≡ moved at back

abbrev pub Union : ℕ → List Location → List (List Location) → Type 0
Union back xs lss = (l : Location) → Mem l xs ↔ FromLists back lss l

back_and_forth : (back : ℕ) (l : Location) → back ≤ l.address → l ≡ moved (moved_back l back) back
back_and_forth back l h = location_path (omega arith) refl refl

forth_and_back : (back : ℕ) (l m : Location) → l ≡ moved m back → moved_back l back ≡ m
forth_and_back back l m e =
    let a : l.address ≡ m.address + back = ap (λ (x : Location). x.address) e in
    location_path (omega arith) (ap (λ (x : Location). x.created) e) (ap (λ (x : Location). x.destroyed) e)

pub union_holds : (back : ℕ) (xs : List Location) (lss : List (List Location)) → is_union back xs lss ≡ true → Union back xs lss
union_holds back [] lss e l = ((λ h. absurd (not-nil h)), λ f. absurd (ended_none lss e f.listed))
union_holds back (x ∷ xs) lss e l =
    let f = both (leb back x.address) (any_begins (moved_back x back) lss && is_union back xs (step_over_all (moved_back x back) lss)) e in
    let g = both (any_begins (moved_back x back) lss) (is_union back xs (step_over_all (moved_back x back) lss)) f.1 in
    go (leb-true back x.address f.0) (begins_mem (moved_back x back) lss g.0) (union_holds back xs (step_over_all (moved_back x back) lss) g.1)
  where
    key : Location
    key = moved_back x back

    to : back ≤ x.address → InLists lss key → Union back xs (step_over_all key lss) → Mem l (x ∷ xs) → FromLists back lss l
    to far i ih (here f) = record { at = key; listed = i; is = f ∙ back_and_forth back x far }
    to far i ih (later h) = let f = (ih l).0 h in record { at = f.at; listed = over_all_mem key lss f.listed; is = f.is }

    fro : back ≤ x.address → Union back xs (step_over_all key lss) → FromLists back lss l → Mem l (x ∷ xs)
    fro far ih f = pick (mem_over_all key lss f.listed)
      where
        pick : (f.at ≡ key) ⊎ InLists (step_over_all key lss) f.at → Mem l (x ∷ xs)
        pick (inl g) = here (f.is ∙ ap (λ (y : Location). moved y back) g ∙ sym (back_and_forth back x far))
        pick (inr i) = later ((ih l).1 (record { at = f.at; listed = i; is = f.is }))

    go : back ≤ x.address → InLists lss key → Union back xs (step_over_all key lss) → Mem l (x ∷ xs) ↔ FromLists back lss l
    go far i ih = (to far i ih, fro far ih)

-- each of the lists is sorted
abbrev pub AllSorted : List (List Location) → Type 0
AllSorted lss = (ls : List Location) → Mem ls lss → Sorted Less ls

over_sorted : (key : Location) (ls : List Location) → Sorted Less ls → Sorted Less (step_over key ls)
over_sorted key [] s = tt
over_sorted key (l ∷ ls) s = go (compare_is_eq (order l key))
  where
    go : (o : Bool) → Sorted Less (cond o ls (l ∷ ls))
    go true = s.1
    go false = s

over_all_sorted : (key : Location) (lss : List (List Location)) → AllSorted lss → AllSorted (step_over_all key lss)
over_all_sorted key [] s ls x'' = elim x'' [ ]
over_all_sorted key (ks ∷ lss) s ls (here e) = subst (Sorted Less) (sym e) (over_sorted key ks (s ks (here refl)))
over_all_sorted key (ks ∷ lss) s ls (later h) = over_all_sorted key lss (λ x k. s x (later k)) ls h

less_back : (back : ℕ) (k m : Location) → Less (moved k back) (moved m back) → Less k m
less_back back k m h = record { by_address = omega (arith, h.by_address); by_created = λ e. h.by_created (omega arith); by_destroyed = λ e c. h.by_destroyed (omega arith) c }

-- where no member of a sorted list comes before key, key stands in front or not at all
in_front : (key : Location) (ls : List Location) → Sorted Less ls → ((m : Location) → Mem m ls → Less m key → ⊥) → Mem key ls → begins key ls ≡ true
in_front key [] s f x3 = elim x3 [ ]
in_front key (l ∷ ls) s f (here e) = true_same l key (sym e)
in_front key (l ∷ ls) s f (later h) = absurd (f l (here refl) (s.0 key h))

gone : (key : Location) (ls : List Location) → Sorted Less ls → ((m : Location) → Mem m ls → Less m key → ⊥) → Mem key (step_over key ls) → ⊥
gone key [] s f h = elim h [ ]
gone key (l ∷ ls) s f h = go (compare_is_eq (order l key)) (same l key) h
  where
    go : (o : Bool) → Same o l key → Mem key (cond o ls (l ∷ ls)) → ⊥
    go true e k = irreflexive (subst (λ (x : Location). Less x key) e (s.0 key k))
    go false e (here g) = e (sym g)
    go false e (later k) = f l (here refl) (s.0 key k)

all_in_front : (key : Location) (lss : List (List Location)) → AllSorted lss → ((m : Location) → InLists lss m → Less m key → ⊥) → InLists lss key → any_begins key lss ≡ true
all_in_front key [] s f i = absurd (in_none i)
all_in_front key (ls ∷ lss) s f i = go (all_in_front key lss (λ x k. s x (later k)) (λ m j. f m (in_later j))) (in_cases i)
  where
    go : (InLists lss key → any_begins key lss ≡ true) → Mem key ls ⊎ InLists lss key → (begins key ls || any_begins key lss) ≡ true
    go ih (inl h) = or_left (begins key ls) (any_begins key lss) (in_front key ls (s ls (here refl)) (λ m k. f m (in_first k)) h)
    go ih (inr j) = or_right (begins key ls) (any_begins key lss) (ih j)

all_gone : (key : Location) (lss : List (List Location)) → AllSorted lss → ((m : Location) → InLists lss m → Less m key → ⊥) → InLists (step_over_all key lss) key → ⊥
all_gone key [] s f i = in_none i
all_gone key (ls ∷ lss) s f i = go (all_gone key lss (λ x k. s x (later k)) (λ m j. f m (in_later j))) (in_cases i)
  where
    go : (InLists (step_over_all key lss) key → ⊥) → Mem key (step_over key ls) ⊎ InLists (step_over_all key lss) key → ⊥
    go ih (inl h) = gone key ls (s ls (here refl)) (λ m k. f m (in_first k)) h
    go ih (inr j) = ih j

pub holds_union : (back : ℕ) (xs : List Location) (lss : List (List Location)) → Sorted Less xs → AllSorted lss → Union back xs lss → is_union back xs lss ≡ true
holds_union back [] lss s t u = none_ended lss (λ m i. not-nil ((u (moved m back)).1 (record { at = m; listed = i; is = refl })))
holds_union back (x ∷ xs) lss s t u =
    and_true (le-leb back x.address far) (and_true (all_in_front key lss t least from_key) (holds_union back xs (step_over_all key lss) s.1 (over_all_sorted key lss t) rest))
  where
    first : FromLists back lss x
    first = (u x).0 (here refl)

    far : back ≤ x.address
    far = omega (arith, ap (λ (y : Location). y.address) first.is)

    key : Location
    key = moved_back x back

    is_key : key ≡ first.at
    is_key = forth_and_back back x first.at first.is

    from_key : InLists lss key
    from_key = subst (InLists lss) (sym is_key) first.listed

    -- no member comes before key, for x is the first of xs
    least : (m : Location) → InLists lss m → Less m key → ⊥
    least m i h = go (split ((u (moved m back)).1 (record { at = m; listed = i; is = refl })))
      where
        go : (moved m back ≡ x) ⊎ Mem (moved m back) xs → ⊥
        go (inl e) = irreflexive (subst (λ (y : Location). Less y key) (sym (forth_and_back back x m (sym e))) h)
        go (inr k) = less_asym h (less_back back key m (subst (λ (y : Location). Less y (moved m back)) (back_and_forth back x far) (s.0 (moved m back) k)))

    rest : Union back xs (step_over_all key lss)
    rest l = (to, fro)
      where
        to : Mem l xs → FromLists back (step_over_all key lss) l
        to h = go ((u l).0 (later h))
          where
            go : FromLists back lss l → FromLists back (step_over_all key lss) l
            go f = pick (mem_over_all key lss f.listed)
              where
                pick : (f.at ≡ key) ⊎ InLists (step_over_all key lss) f.at → FromLists back (step_over_all key lss) l
                pick (inl e) =
                    let g : l ≡ x = f.is ∙ ap (λ (y : Location). moved y back) e ∙ sym (back_and_forth back x far) in
                    absurd (irreflexive (subst (Less x) g (s.0 l h)))
                pick (inr i) = record { at = f.at; listed = i; is = f.is }

        fro : FromLists back (step_over_all key lss) l → Mem l xs
        fro f = go (split ((u l).1 (record { at = f.at; listed = over_all_mem key lss f.listed; is = f.is })))
          where
            go : (l ≡ x) ⊎ Mem l xs → Mem l xs
            go (inl e) =
                let g : key ≡ f.at = ap (λ (y : Location). moved_back y back) (sym e) ∙ forth_and_back back l f.at f.is in
                absurd (all_gone key lss t least (subst (InLists (step_over_all key lss)) (sym g) f.listed))
            go (inr k) = k

-- ── sorted lists ──

ascending_sorted : (l : Location) (ls : List Location) → ascending_from l ls ≡ true → Sorted Less (l ∷ ls)
ascending_sorted l [] e = ((λ m h. absurd (not-nil h)), tt)
ascending_sorted l (m ∷ ms) e = go (ascending_sorted m ms (both (is_lt (order l m)) (ascending_from m ms) e).1)
  where
    step : (o : Ordering) → Cmp o l m → is_lt o ≡ true → Less l m
    step Ordering.lt c f = c
    step Ordering.eq c f = absurd (let z : ◌≡◌ {A = ℕ} 0 1 = cc in omega arith)
    step Ordering.gt c f = absurd (let z : ◌≡◌ {A = ℕ} 0 1 = cc in omega arith)

    first : Less l m
    first = step (order l m) (cmp l m) (both (is_lt (order l m)) (ascending_from m ms) e).0

    next : Sorted Less (m ∷ ms) → (x : Location) → Mem x (m ∷ ms) → Less l x
    next ih x (here f) = subst (Less l) (sym f) first
    next ih x (later h) = less_trans first (ih.0 x h)

    go : Sorted Less (m ∷ ms) → Sorted Less (l ∷ m ∷ ms)
    go ih = (next ih, ih)

sorted_ascending : (l : Location) (ls : List Location) → Sorted Less (l ∷ ls) → ascending_from l ls ≡ true
sorted_ascending l [] s = refl
sorted_ascending l (m ∷ ms) s = and_true (step (order l m) (cmp l m) (s.0 m (here refl))) (sorted_ascending m ms s.1)
  where
    step : (o : Ordering) → Cmp o l m → Less l m → is_lt o ≡ true
    step Ordering.lt c h = refl
    step Ordering.eq c h = absurd (irreflexive (subst (Less l) (sym c) h))
    step Ordering.gt c h = absurd (less_asym c h)

pub is_ascending_sorted : (ls : List Location) → (is_ascending ls ≡ true) ↔ Sorted Less ls
is_ascending_sorted [] = ((λ e. tt), λ s. refl)
is_ascending_sorted (l ∷ ls) = (ascending_sorted l ls, sorted_ascending l ls)

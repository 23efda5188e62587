-- The places of a query path by path, each one byte longer; behind a path with no node there are none. Assumes nothing.
use Prim.Native.Nat.{ℕ, zero, suc, ◌+◌, ◌≤◌, ◌<◌}
use native.Mathlib.Omega.{arith}
use native.Mathlib.Numerals.{add-one}
use mathlib.Core.Path.{◌≡◌, refl, sym, ap, subst, ◌∙◌}
use mathlib.Core.Bool.{Bool, true, false}
use mathlib.Core.List.{List, [], ◌∷◌, ◌++◌}
use mathlib.Core.Option.{Option, none, some}
use lib.ListN.{length, take, drop, get_or, length-drop, drop_of_length-le}
use lib.Seq.{drop-length, length-take-le, take_all, take-suc, drop-cons}
use lib.Dec.{eqb}
use borrow.Author.Tests.{ne_eqb}
use Rattle.definitions.specs.Location.{Location, normal}
use Rattle.definitions.specs.Places.{first_of, rest_of, sizes}
use Rattle.trie.specs.Trie.{Node, child_of, node_at, lists_at}
use Rattle.trie.specs.Find.{joins_each, along, collect_or_none, ends_found}
use Rattle.trie.proofs.Walk.{walk_append}
use Rattle.node_joining.specs.Found.{ended_by, beyond_of, beyond_by, along_from, rest_along, table_from}

-- nothing is joined with no places
joins_nothing : (k : ℕ) (ls : List Location) → joins_each k ls [] ≡ []
joins_nothing k [] = refl
joins_nothing k (l ∷ ls) = joins_nothing k ls

-- ── what a path with a node gives, and one without ──

pub beyond_some : (front : Bool) (n : Node) (path : List ℕ) (m : Node) → node_at n path ≡ some m → beyond_by front n path ≡ beyond_of front m
beyond_some true n path m e = ap collect_or_none e
beyond_some false n path m e = rw e refl

ended_none : (front : Bool) (n : Node) (path : List ℕ) → node_at n path ≡ none → ended_by front n path ≡ []
ended_none true n path e = rw e refl
ended_none false n path e = rw e refl

beyond_none : (front : Bool) (n : Node) (path : List ℕ) → node_at n path ≡ none → beyond_by front n path ≡ []
beyond_none true n path e = rw e refl
beyond_none false n path e = rw e refl

longer_none : (n : Node) (path : List ℕ) (b : ℕ) → node_at n path ≡ none → node_at n (path ++ (b ∷ [])) ≡ none
longer_none n path b e = walk_append path (b ∷ []) (some n) ∙ ap (λ (o : Option Node). child_of o b) e

along_none : (front : Bool) (n : Node) (path q : List ℕ) (ts : List (List Location)) → node_at n path ≡ none → along (ended_by front n) (beyond_by front n) path q ts ≡ []
along_none front n path [] ts e = beyond_none front n path e
along_none front n path (b ∷ q) ts e =
    let r = along_none front n (path ++ (b ∷ [])) q (rest_of ts) (longer_none n path b e) in
    ap (λ (ls : List Location). joins_each (length path) ls (first_of ts) ++ along (ended_by front n) (beyond_by front n) (path ++ (b ∷ [])) q (rest_of ts)) (ended_none front n path e) ∙ r

-- ── one path after another ──

module _ (front : Bool) (n : Node) (w : List ℕ) where
  pub rest_none : (k : ℕ) → node_at n (take k w) ≡ none → rest_along front n w k ≡ []
  rest_none k e = along_none front n (take k w) (drop k w) (ends_found n (drop k w)) e

  pub rest_next : (k : ℕ) → k < length w → rest_along front n w k ≡ joins_each k (ended_by front n (take k w)) (first_of (ends_found n (drop k w))) ++ rest_along front n w (k + 1)
  rest_next k h =
      let d : drop k w ≡ get_or w k 0 ∷ drop (suc k) w = drop-cons w k 0 h in
      let t : take (suc k) w ≡ take k w ++ (get_or w k 0 ∷ []) = take-suc w k 0 h in
      let l : length (take k w) ≡ k = length-take-le k w (omega arith) in
      rw (add-one k, t, d, l) refl

  pub rest_end : (k : ℕ) → length w ≤ k → rest_along front n w k ≡ beyond_by front n w
  rest_end k h = rw (drop_of_length-le w h, take_all k w h) refl

pub rest_start : (front : Bool) (n : Node) (w : List ℕ) → 0 < length w → along_from front n w ≡ rest_along front n w 1
rest_start front n [] h = absurd (omega arith)
rest_start front n (b ∷ w) h =
    let e = joins_nothing 0 (ended_by front n []) in
    ap (λ (ls : List Location). ls ++ along (ended_by front n) (beyond_by front n) (b ∷ []) w (ends_found n w)) e

-- one byte alone is a path
pub along_last : (n : Node) (w : List ℕ) → length w ≡ 1 → along_from false n w ≡ (lists_at n w).suffixes ++ (lists_at n w).chunks
along_last n w h = rest_start false n w (omega arith) ∙ rest_end false n w 1 (omega arith)

-- ── the table from an end on ──

-- T(i) is what the paths from i on give
pub table_step : (n : Node) (q : List ℕ) (i : ℕ) → i < length q → table_from n q i ≡ normal (along_from (eqb i 0) n (drop i q)) ∷ table_from n q (i + 1)
table_step n [] zero h = absurd (omega arith)
table_step n (b ∷ q) zero h = refl
table_step n q (suc i) h =
    let d : drop (suc i) q ≡ get_or q (suc i) 0 ∷ drop (suc (suc i)) q = drop-cons q (suc i) 0 h in
    let off : eqb (suc i) 0 ≡ false = ne_eqb (suc i) 0 (λ e. omega arith) in
    let Step : List ℕ → Bool → ℕ → Type 0 = λ w o k. ends_found n w ≡ normal (along_from o n w) ∷ table_from n q k in
    let w : List ℕ = get_or q (suc i) 0 ∷ drop (suc (suc i)) q in
    let step : Step w false (suc (suc i)) = refl in
    subst (λ (x : List ℕ). Step x (eqb (suc i) 0) (suc i + 1)) (sym d) (subst (λ (o : Bool). Step w o (suc i + 1)) (sym off) (subst (Step w false) (sym (add-one (suc i))) step))

pub table_behind : (n : Node) (q : List ℕ) (j : ℕ) → 1 ≤ j → table_from n q j ≡ ends_found n (drop j q)
table_behind n q zero h = absurd (omega arith)
table_behind n q (suc j) h = refl

pub table_end : (n : Node) (q : List ℕ) → 0 < length q → table_from n q (length q) ≡ []
table_end n [] h = absurd (omega arith)
table_end n (b ∷ q) h = rw (drop-length q) refl

-- that of the last byte
pub table_last : (n : Node) (q : List ℕ) (j : ℕ) → 1 ≤ j → j + 1 ≡ length q → table_from n q j ≡ normal ((lists_at n (drop j q)).suffixes ++ (lists_at n (drop j q)).chunks) ∷ []
table_last n q j h e =
    let w : length (drop j q) ≡ 1 = omega (arith, length-drop j q) in
    let a : along_from (eqb j 0) n (drop j q) ≡ (lists_at n (drop j q)).suffixes ++ (lists_at n (drop j q)).chunks =
    ap (λ (o : Bool). along_from o n (drop j q)) (ne_eqb j 0 (λ z. omega arith)) ∙ along_last n (drop j q) w in
    table_step n q j (omega arith) ∙ ap (λ (ls : List Location). normal ls ∷ table_from n q (j + 1)) a
    ∙ ap (λ (ts : List (List Location)). normal ((lists_at n (drop j q)).suffixes ++ (lists_at n (drop j q)).chunks) ∷ ts) (ap (table_from n q) e ∙ table_end n q (omega arith))

-- the sizes of a table from an end on are at most those of the whole
ends_less : (n : Node) (q : List ℕ) (k : ℕ) → sizes (ends_found n (drop k q)) ≤ sizes (ends_found n q)
ends_less n q zero = omega arith
ends_less n [] (suc k) = omega arith
ends_less n (b ∷ q) (suc k) = omega (arith, ends_less n q k)

pub table_less : (n : Node) (q : List ℕ) (i : ℕ) → sizes (table_from n q i) ≤ sizes (table_from n q 0)
table_less n q zero = omega arith
table_less n [] (suc i) = omega arith
table_less n (b ∷ q) (suc i) = omega (arith, ends_less n q i)

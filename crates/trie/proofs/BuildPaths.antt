-- What the trie of a log holds at a path: the node of the entries whose paths go on from there. Assumes nothing.
use Prim.Native.Nat.{ℕ, zero, suc, ◌-◌, ◌≤◌, ◌<◌}
use native.Mathlib.Nat.{not-suc-le-zero, le_of_suc-le-suc}
use native.Mathlib.Omega.{arith}
use mathlib.Core.Path.{◌≡◌, refl, sym, ap, ◌∙◌, subst}
use mathlib.Core.Bool.{Bool, true, false, cond}
use mathlib.Core.Logic.{◌⊎◌, inl, inr}
use mathlib.Core.List.Memᴰ.{append_cases}
use mathlib.Core.List.Memᴰ.{append_left}
use mathlib.Core.List.Memᴰ.{append_right}
use mathlib.Core.List.Memᴰ.{cases_cons as split}
use mathlib.Core.List.Memᴰ.{cast}
use mathlib.Core.List.Memᴰ.{eq_of_singleton as only_one}
use mathlib.Core.List.Memᴰ.{head as here}
use mathlib.Core.List.Memᴰ.{not-nil}
use mathlib.Core.List.Memᴰ.{tail as later}
use mathlib.Core.List.{List, [], ◌∷◌, ◌++◌, Memᴰ as Mem}
use mathlib.Core.Option.{Option, none, some}
use lib.ListN.{length}
use lib.Dec.{eqb}
use borrow.Author.Tests.{eq-eqb}
use Rattle.std.proofs.lemmas.Bool.{cases_lt}
use Rattle.definitions.specs.Location.{Location}
use Rattle.definitions.proofs.Views.{Eq, eq}
use Rattle.trie.specs.Trie.{Node, child, walk, node_at, IsNode, lists_or_none, lists_at}
use Rattle.trie.specs.Build.{Entry, lists_of, behind_byte, behind, arrived, next_byte, arrivals, kept_order, grow, build}
use Rattle.trie.proofs.Walk.{walk_none}
use Rattle.trie.proofs.BuildBytes.{Distinct, arrived_mem, arrived_new, arrived_old, distinct_arrived, kept_mem, mem_kept, distinct_kept}

abbrev pub entry_of : List ℕ → Location → Bool → Entry
entry_of u l w = record { path = u; at = l; whole = w }

-- the entry whose path has these bytes in front
abbrev pub put : List ℕ → Entry → Entry
put u e = entry_of (u ++ e.path) e.at e.whole

pub entry_path : {e f : Entry} → e.path ≡ f.path → e.at ≡ f.at → e.whole ≡ f.whole → e ≡ f
entry_path p q r = λ i. record { path = p i; at = q i; whole = r i }

-- what goes on with these bytes, behind them
abbrev pub down : List ℕ → List Entry → List Entry
down [] es = es
down (b ∷ u) es = down u (behind b es)

pub down_nil : (u : List ℕ) → down u [] ≡ []
down_nil [] = refl
down_nil (b ∷ u) = down_nil u

-- ── behind a byte, behind a path ──

behind_byte_mem : {x : Entry} (b : ℕ) (path : List ℕ) (e : Entry) → Mem x (behind_byte b path e) → put (b ∷ []) x ≡ entry_of path e.at e.whole
behind_byte_mem b [] e h = absurd (not-nil h)
behind_byte_mem {x} b (c ∷ path) e h = go (eqb c b) (eq c b) h
  where
    one : c ≡ b → x ≡ entry_of path e.at e.whole → put (b ∷ []) x ≡ entry_of (c ∷ path) e.at e.whole
    one f k =
        let p : b ∷ x.path ≡ c ∷ path = λ i. sym f i ∷ (k i).path in
        entry_path p (λ i. (k i).at) (λ i. (k i).whole)

    go : (o : Bool) → Eq o c b → Mem x (cond o (entry_of path e.at e.whole ∷ []) []) → put (b ∷ []) x ≡ entry_of (c ∷ path) e.at e.whole
    go true f h = one f (only_one h)
    go false f h = absurd (not-nil h)

pub behind_mem : {x : Entry} (b : ℕ) (es : List Entry) → Mem x (behind b es) → Mem (put (b ∷ []) x) es
behind_mem {x = x} b [] h = elim h [ ]
behind_mem {x} b (e ∷ es) h = go (behind_mem b es) (append_cases (behind_byte b e.path e) h)
  where
    go : (Mem x (behind b es) → Mem (put (b ∷ []) x) es) → Mem x (behind_byte b e.path e) ⊎ Mem x (behind b es) → Mem (put (b ∷ []) x) (e ∷ es)
    go ih (inl k) = here (behind_byte_mem b e.path e k)
    go ih (inr k) = later (ih k)

here_behind : (x : Entry) (b : ℕ) → Mem x (behind_byte b (b ∷ x.path) x)
here_behind x b = rw (eq-eqb b b refl) (here refl)

pub mem_behind : {x : Entry} (b : ℕ) (es : List Entry) → Mem (put (b ∷ []) x) es → Mem x (behind b es)
mem_behind {x = x} b [] x'' = elim x'' [ ]
mem_behind {x} b (e ∷ es) (here f) = append_left (behind b es) (subst (λ (y : Entry). Mem x (behind_byte b y.path y)) f (here_behind x b))
mem_behind b (e ∷ es) (later h) = append_right (behind_byte b e.path e) (mem_behind b es h)

pub down_mem : {x : Entry} (u : List ℕ) (es : List Entry) → Mem x (down u es) → Mem (put u x) es
down_mem [] es h = h
down_mem (b ∷ u) es h = behind_mem b es (down_mem u (behind b es) h)

pub mem_down : {x : Entry} (u : List ℕ) (es : List Entry) → Mem (put u x) es → Mem x (down u es)
mem_down [] es h = h
mem_down (b ∷ u) es h = mem_down u (behind b es) (mem_behind b es h)

-- ── the bytes that go on ──

-- something goes on with byte b
pub record GoesOn (b : ℕ) (es : List Entry) : Type 0 where
  pub entry : Entry
  pub listed : Mem entry (behind b es)

goes_later : {b : ℕ} (e : Entry) (es : List Entry) → GoesOn b es → GoesOn b (e ∷ es)
goes_later {b} e es g = record { entry = g.entry; listed = append_right (behind_byte b e.path e) g.listed }

next_mem : {x : ℕ} (seen : List ℕ) (e : Entry) (es : List Entry) → Mem x (next_byte e.path seen) → Mem x seen ⊎ GoesOn x (e ∷ es)
next_mem {x} seen e es h = go e.path refl h
  where
    found : (b : ℕ) (path : List ℕ) → e.path ≡ b ∷ path → x ≡ b → GoesOn x (e ∷ es)
    found b path f k =
        let y : Entry = entry_of path e.at e.whole in
        let p : x ∷ path ≡ e.path = cc in
        record { entry = y; listed = mem_behind x (e ∷ es) (here (entry_path p refl refl)) }

    two : (b : ℕ) (path : List ℕ) → e.path ≡ b ∷ path → (x ≡ b) ⊎ Mem x seen → Mem x seen ⊎ GoesOn x (e ∷ es)
    two b path f (inl k) = inr (found b path f k)
    two b path f (inr k) = inl k

    go : (path : List ℕ) → e.path ≡ path → Mem x (next_byte path seen) → Mem x seen ⊎ GoesOn x (e ∷ es)
    go [] f h = inl h
    go (b ∷ path) f h = two b path f (arrived_mem b seen h)

pub arrivals_mem : {x : ℕ} (seen : List ℕ) (es : List Entry) → Mem x (arrivals seen es) → Mem x seen ⊎ GoesOn x es
arrivals_mem seen [] h = inl h
arrivals_mem {x} seen (e ∷ es) h = go (arrivals_mem (next_byte e.path seen) es h)
  where
    go : Mem x (next_byte e.path seen) ⊎ GoesOn x es → Mem x seen ⊎ GoesOn x (e ∷ es)
    go (inl k) = next_mem seen e es k
    go (inr g) = inr (goes_later e es g)

next_old : {x : ℕ} (path seen : List ℕ) → Mem x seen → Mem x (next_byte path seen)
next_old [] seen h = h
next_old (b ∷ path) seen h = arrived_old b seen h

next_new : {x : Entry} (b : ℕ) (path seen : List ℕ) (e : Entry) → Mem x (behind_byte b path e) → Mem b (next_byte path seen)
next_new b [] seen e h = absurd (not-nil h)
next_new {x} b (c ∷ path) seen e h = go (eqb c b) (eq c b) h
  where
    go : (o : Bool) → Eq o c b → Mem x (cond o (entry_of path e.at e.whole ∷ []) []) → Mem b (arrived c seen)
    go true f h = cast (sym f) (arrived_new c seen)
    go false f h = absurd (not-nil h)

arrivals_old : {x : ℕ} (seen : List ℕ) (es : List Entry) → Mem x seen → Mem x (arrivals seen es)
arrivals_old seen [] h = h
arrivals_old seen (e ∷ es) h = arrivals_old (next_byte e.path seen) es (next_old e.path seen h)

pub mem_arrivals : {x : Entry} (b : ℕ) (seen : List ℕ) (es : List Entry) → Mem x (behind b es) → Mem b (arrivals seen es)
mem_arrivals b seen [] h = absurd (not-nil h)
mem_arrivals {x} b seen (e ∷ es) h = go (mem_arrivals b (next_byte e.path seen) es) (append_cases (behind_byte b e.path e) h)
  where
    go : (Mem x (behind b es) → Mem b (arrivals (next_byte e.path seen) es)) → Mem x (behind_byte b e.path e) ⊎ Mem x (behind b es) → Mem b (arrivals (next_byte e.path seen) es)
    go ih (inl k) = arrivals_old (next_byte e.path seen) es (next_new b e.path seen e k)
    go ih (inr k) = ih k

distinct_next : (path seen : List ℕ) → Distinct seen → Distinct (next_byte path seen)
distinct_next [] seen d = d
distinct_next (b ∷ path) seen d = distinct_arrived b seen d

pub distinct_arrivals : (seen : List ℕ) (es : List Entry) → Distinct seen → Distinct (arrivals seen es)
distinct_arrivals seen [] d = d
distinct_arrivals seen (e ∷ es) d = distinct_arrivals (next_byte e.path seen) es (distinct_next e.path seen d)

-- the bytes of the children
abbrev pub onward : List Entry → List ℕ
onward es = kept_order (arrivals [] es)

pub distinct_onward : (es : List Entry) → Distinct (onward es)
distinct_onward es = distinct_kept (arrivals [] es) (distinct_arrivals [] es tt)

pub onward_mem : {b : ℕ} (es : List Entry) → Mem b (onward es) → GoesOn b es
onward_mem {b} es h = go (arrivals_mem [] es (kept_mem (arrivals [] es) h))
  where
    go : Mem b [] ⊎ GoesOn b es → GoesOn b es
    go (inl k) = absurd (not-nil k)
    go (inr g) = g

pub mem_onward : {x : Entry} (b : ℕ) (es : List Entry) → Mem x (behind b es) → Mem b (onward es)
mem_onward b es h = mem_kept (arrivals [] es) (mem_arrivals b [] es h)

-- ── the child for a byte ──

pub child_in : (f : List Entry → Node) (bs : List ℕ) (es : List Entry) (b : ℕ) → Mem b bs → child (grow f bs es) b ≡ some (f (behind b es))
child_in f [] es b h = elim h [ ]
child_in f (c ∷ bs) es b h = go (eqb c b) (eq c b) (child_in f bs es b) (split h)
  where
    go : (o : Bool) → Eq o c b → (Mem b bs → child (grow f bs es) b ≡ some (f (behind b es))) → (b ≡ c) ⊎ Mem b bs → cond o (some (f (behind c es))) (child (grow f bs es) b) ≡ some (f (behind b es))
    go true e ih k = ap (λ (x : ℕ). some (f (behind x es))) e
    go false e ih (inl k) = absurd (e (sym k))
    go false e ih (inr k) = ih k

pub child_out : (f : List Entry → Node) (bs : List ℕ) (es : List Entry) (b : ℕ) → (Mem b bs → ⊥) → child (grow f bs es) b ≡ none
child_out f [] es b n = refl
child_out f (c ∷ bs) es b n = go (eqb c b) (eq c b) (child_out f bs es b (λ h. n (later h)))
  where
    go : (o : Bool) → Eq o c b → child (grow f bs es) b ≡ none → cond o (some (f (behind c es))) (child (grow f bs es) b) ≡ none
    go true e ih = absurd (n (here (sym e)))
    go false e ih = ih

-- none where nothing goes on
abbrev pub node_or_none : ℕ → List Entry → Option Node
node_or_none d [] = none
node_or_none d (e ∷ es) = some (build d (e ∷ es))

pub child_build : (d : ℕ) (es : List Entry) (b : ℕ) → child (build (suc d) es).children b ≡ node_or_none d (behind b es)
child_build d es b = go (behind b es) refl
  where
    go : (xs : List Entry) → behind b es ≡ xs → child (build (suc d) es).children b ≡ node_or_none d xs
    go [] e = child_out (build d) (onward es) es b (λ h. not-nil (subst (λ (ys : List Entry). Mem (onward_mem es h).entry ys) e (onward_mem es h).listed))
    go (x ∷ xs) e = child_in (build d) (onward es) es b (mem_onward b es (subst (λ (ys : List Entry). Mem x ys) (sym e) (here refl))) ∙ ap (λ (ys : List Entry). some (build d ys)) e

-- ── the node at a path ──

walk_onward : (d : ℕ) (u : List ℕ) (es : List Entry) → length u ≤ d → walk u (node_or_none d es) ≡ node_or_none (d - length u) (down u es)
walk_onward d [] es h = ap (λ (k : ℕ). node_or_none k es) (omega arith)
walk_onward zero (b ∷ u) es h = absurd (not-suc-le-zero h)
walk_onward (suc d) (b ∷ u) [] h = walk_none u ∙ ap (node_or_none (suc d - suc (length u))) (sym (down_nil u))
walk_onward (suc d) (b ∷ u) (e ∷ es) h = ap (walk u) (child_build d (e ∷ es) b) ∙ walk_onward d u (behind b (e ∷ es)) (le_of_suc-le-suc h) ∙ ap (λ (k : ℕ). node_or_none k (down u (behind b (e ∷ es)))) (omega arith)

pub node_at_build : (d : ℕ) (u : List ℕ) (es : List Entry) → 0 < length u → length u ≤ d → node_at (build d es) u ≡ node_or_none (d - length u) (down u es)
node_at_build d [] es n h = absurd (not-suc-le-zero n)
node_at_build zero (b ∷ u) es n h = absurd (not-suc-le-zero h)
node_at_build (suc d) (b ∷ u) es n h = ap (walk u) (child_build d es b) ∙ walk_onward d u (behind b es) (le_of_suc-le-suc h) ∙ ap (λ (k : ℕ). node_or_none k (down u (behind b es))) (omega arith)

-- the depth bounds every path
walk_deep : (d : ℕ) (u : List ℕ) (es : List Entry) → d < length u → walk u (node_or_none d es) ≡ none
walk_deep d [] es h = absurd (not-suc-le-zero h)
walk_deep d (b ∷ u) [] h = walk_none u
walk_deep zero (b ∷ u) (e ∷ es) h = walk_none u
walk_deep (suc d) (b ∷ u) (e ∷ es) h = ap (walk u) (child_build d (e ∷ es) b) ∙ walk_deep d u (behind b (e ∷ es)) (le_of_suc-le-suc h)

pub node_at_deep : (d : ℕ) (u : List ℕ) (es : List Entry) → d < length u → node_at (build d es) u ≡ none
node_at_deep d [] es h = absurd (not-suc-le-zero h)
node_at_deep zero (b ∷ u) es h = walk_none u
node_at_deep (suc d) (b ∷ u) es h = ap (walk u) (child_build d es b) ∙ walk_deep d u (behind b es) (le_of_suc-le-suc h)

-- an entry's path goes through u: it begins with u
pub record Through (es : List Entry) (u : List ℕ) : Type 0 where
  pub rest : Entry
  pub listed : Mem (put u rest) es

none_not_some : {m : Node} → none ≡ some m → ⊥
none_not_some {m} e = let z : ◌≡◌ {A = ℕ} 0 1 = cc in omega arith

pub node_short : (d : ℕ) (u : List ℕ) (es : List Entry) → IsNode (build d es) u → length u ≤ d
node_short d u es n = go (cases_lt d (length u))
  where
    go : (d < length u) ⊎ (length u ≤ d) → length u ≤ d
    go (inl h) = absurd (none_not_some (sym (node_at_deep d u es h) ∙ n.there))
    go (inr h) = h

-- a node other than the root stands exactly where an entry's path goes through
pub node_through : (d : ℕ) (u : List ℕ) (es : List Entry) → 0 < length u → IsNode (build d es) u → Through es u
node_through d u es p n = go (down u es) refl
  where
    go : (xs : List Entry) → down u es ≡ xs → Through es u
    go [] e = absurd (none_not_some (sym (node_at_build d u es p (node_short d u es n) ∙ ap (node_or_none (d - length u)) e) ∙ n.there))
    go (x ∷ xs) e = record { rest = x; listed = down_mem u es (subst (λ (ys : List Entry). Mem x ys) (sym e) (here refl)) }

-- the node at a path is made of what goes on from there
pub node_there : (d : ℕ) (u : List ℕ) (es : List Entry) → length u ≤ d → Through es u → node_at (build d es) u ≡ some (build (d - length u) (down u es))
node_there d [] es h t = let e : d ≡ d - 0 = omega arith in ap (λ (k : ℕ). some (build k es)) e
node_there d (b ∷ u) es h t = go (down (b ∷ u) es) refl
  where
    go : (xs : List Entry) → down (b ∷ u) es ≡ xs → node_at (build d es) (b ∷ u) ≡ some (build (d - length (b ∷ u)) (down (b ∷ u) es))
    go [] e = absurd (not-nil (subst (λ (ys : List Entry). Mem t.rest ys) e (mem_down (b ∷ u) es t.listed)))
    go (x ∷ xs) e =
        let f : node_or_none (d - length (b ∷ u)) (down (b ∷ u) es) ≡ some (build (d - length (b ∷ u)) (down (b ∷ u) es)) = subst (λ (ys : List Entry). node_or_none (d - length (b ∷ u)) ys ≡ some (build (d - length (b ∷ u)) ys)) (sym e) refl in
        node_at_build d (b ∷ u) es (omega arith) h ∙ f

-- whichever node is found there
pub node_is : (d : ℕ) (u : List ℕ) (es : List Entry) (m : Node) → node_at (build d es) u ≡ some m → m ≡ build (d - length u) (down u es)
node_is d u es m e = go u e
  where
    go : (v : List ℕ) → node_at (build d es) v ≡ some m → m ≡ build (d - length v) (down v es)
    go [] f =
        let k : d ≡ d - 0 = omega arith in
        let g : build d es ≡ m = cc in
        sym g ∙ ap (λ (j : ℕ). build j es) k
    go (b ∷ v) f =
        let n : IsNode (build d es) (b ∷ v) = record { node = m; there = f } in
        let g : node_at (build d es) (b ∷ v) ≡ some (build (d - length (b ∷ v)) (down (b ∷ v) es)) = node_there d (b ∷ v) es (node_short d (b ∷ v) es n) (node_through d (b ∷ v) es (omega arith) n) in
        let h : some m ≡ some (build (d - length (b ∷ v)) (down (b ∷ v) es)) = sym f ∙ g in
        cc

-- the lists at a path are those of what goes on from there
pub lists_at_build : (d : ℕ) (u : List ℕ) (es : List Entry) → length u ≤ d → lists_at (build d es) u ≡ lists_of (down u es)
lists_at_build d [] es h = ap (λ (n : Node). n.lists) (made d)
  where
    made : (d : ℕ) → build d es ≡ record { lists = lists_of es; children = (build d es).children }
    made zero = refl
    made (suc d) = refl
lists_at_build d (b ∷ u) es h = ap lists_or_none (node_at_build d (b ∷ u) es (omega arith) h) ∙ here_lists (d - length (b ∷ u)) (down (b ∷ u) es)
  where
    here_lists : (k : ℕ) (xs : List Entry) → lists_or_none (node_or_none k xs) ≡ lists_of xs
    here_lists k [] = refl
    here_lists zero (x ∷ xs) = refl
    here_lists (suc k) (x ∷ xs) = refl

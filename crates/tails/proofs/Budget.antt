-- What sorted tails weigh: the entries of a node, repeats kept, and the weights of its groups add up to it. Assumes nothing.
use Prim.Native.Nat.{ℕ, suc, ◌+◌, ◌-◌, ◌*◌, ◌/◌, ◌%◌, ◌≤◌, min}
use native.Mathlib.Omega.{arith}
use mathlib.Core.Path.{◌≡◌, refl, sym, ap, ◌∙◌}
use mathlib.Core.Bool.{Bool, true, false, not, ◌&&◌, cond}
use mathlib.Core.List.Memᴰ.{head as here}
use mathlib.Core.List.Memᴰ.{tail as later}
use mathlib.Core.List.{List, [], ◌∷◌, ◌++◌}
use lib.ListN.{length, get_or}
use lib.Dec.{eqb}
use Rattle.records.specs.Records.{sorted}
use Rattle.records.proofs.Lists.{sum_of, sorted_same}
use Rattle.definitions.specs.Location.{Location, moved}
use Rattle.definitions.specs.Blocks.{Piece, entry_charge, charge}
use Rattle.definitions.proofs.Views.{Eq, eq}
use Rattle.trie.specs.Build.{Entry, parts, entered, entered_all}
use Rattle.tails.specs.Tails.{Tail, numbered, mark_of, tail_record, tail_records}
use Rattle.tails.specs.Groups.{ends_as, run, after_run, wholes, byte_at, Group, into_group, groups, below}
use Rattle.tails.specs.Runs.{Run}
use Rattle.tails.specs.Weights.{weight, weights, group_weights}
use Rattle.tails.proofs.Keep.{keep}
use Rattle.tails.proofs.Runs.{longer, parts_here, wholes_here, below_here}
use Rattle.tails.proofs.Entries.{Long}

-- ── groups leave out no tail ──

into_weights : (k d : ℕ) (t : Tail) (gs : List Group) → group_weights k (into_group d t gs) ≡ weight k t + group_weights k gs
into_weights k d t [] = omega arith
into_weights k d t (g ∷ gs) = go (eqb (byte_at d t) g.byte)
  where
    go : (o : Bool) → group_weights k (cond o (record { byte = g.byte; first = min t.arrival g.first; tails = t ∷ g.tails } ∷ gs) (record { byte = byte_at d t; first = t.arrival; tails = t ∷ [] } ∷ g ∷ gs))
        ≡ weight k t + (weights k g.tails + group_weights k gs)
    go true = omega arith
    go false = omega arith

groups_weights : (k d : ℕ) (ts : List Tail) → group_weights k (groups d ts) ≡ weights k ts
groups_weights k d [] = refl
groups_weights k d (t ∷ ts) = omega (arith, into_weights k d t (groups d ts), groups_weights k d ts)

-- ── one node ──

kept_budget : (d : ℕ) (ts : List Tail) → Long d ts
    → length (keep (ends_as d false) ts) + length (keep (ends_as d true) ts) + length (wholes (keep (longer d) ts)) + weights (suc d) (keep (longer d) ts) ≡ weights d ts
kept_budget d [] l = refl
kept_budget d (t ∷ ts) l = go (eqb (length t.entry.path) d) (eq (length t.entry.path) d) t.entry.whole refl (l t (here refl)) (kept_budget d ts (λ s m. l s (later m)))
  where
    a : List Tail
    a = keep (ends_as d false) ts

    b : List Tail
    b = keep (ends_as d true) ts

    c : List Tail
    c = keep (longer d) ts

    go : (o : Bool) → Eq o (length t.entry.path) d → (w : Bool) → t.entry.whole ≡ w → d ≤ length t.entry.path → length a + length b + length (wholes c) + weights (suc d) c ≡ weights d ts
        → length (cond (o && not w) (t ∷ a) a) + length (cond (o && w) (t ∷ b) b) + length (wholes (cond (not o) (t ∷ c) c)) + weights (suc d) (cond (not o) (t ∷ c) c) ≡ cond w (1 + (length t.entry.path - d)) 1 + weights d ts
    go true e true p h ih = omega arith
    go true e false p h ih = omega arith
    go false e true p h ih = rw p (omega arith)
    go false e false p h ih = rw p (omega arith)

-- the three lists of a node with repeats kept, and its groups one byte further on, weigh what its tails do
pub budget : (d : ℕ) (ts : List Tail) → Run d ts
    → length (run (ends_as d false) ts) + length (run (ends_as d true) (after_run (ends_as d false) ts)) + length (wholes (below d ts)) + group_weights (suc d) (groups d (below d ts)) ≡ weights d ts
budget d ts r = rw (parts_here d ts r, wholes_here d ts r, below_here d ts r, groups_weights (suc d) d (keep (longer d) ts)) (kept_budget d ts r.long)

-- ── sorting keeps the weight ──

-- the weight, read off a record
weight_of : ℕ → List ℕ → ℕ
weight_of d r = cond (eqb (get_or r 2 0 % 2) 1) (1 + (get_or r 2 0 / 2 - d)) 1

weight_record : (d : ℕ) (t : Tail) → weight_of d (tail_record t) ≡ weight d t
unfolding weight_of
weight_record d t = go t.entry.whole
  where
    n : ℕ
    n = length t.entry.path

    go : (w : Bool) → cond (eqb ((2 * n + mark_of w) % 2) 1) (1 + ((2 * n + mark_of w) / 2 - d)) 1 ≡ cond w (1 + (n - d)) 1
    go true =
        let e : (2 * n + 1) % 2 ≡ 1 = omega arith in
        rw e (omega arith)
    go false =
        let e : (2 * n + 0) % 2 ≡ 0 = omega arith in
        rw e refl

weights_records : (d : ℕ) (ts : List Tail) → sum_of (weight_of d) (tail_records ts) ≡ weights d ts
unfolding sum_of
weights_records d [] = refl
weights_records d (t ∷ ts) = omega (arith, weight_record d t, weights_records d ts)

pub sorted_weights : (d : ℕ) (ts us : List Tail) → tail_records ts ≡ sorted (tail_records us) → weights d ts ≡ weights d us
sorted_weights d ts us e =
    sym (weights_records d ts) ∙ ap (sum_of (weight_of d)) e ∙ (sorted_same (tail_records us)).sums (weight_of d) ∙ weights_records d us

-- ── the weight of a log is within what its pieces are charged for ──

abbrev entry_weights : List Entry → ℕ
entry_weights [] = 0
entry_weights (e ∷ es) = cond e.whole (1 + length e.path) 1 + entry_weights es

weights_numbered : (n : ℕ) (es : List Entry) → weights 0 (numbered n es) ≡ entry_weights es
weights_numbered n [] = refl
weights_numbered n (e ∷ es) = go e.whole (weights_numbered (suc n) es)
  where
    go : (w : Bool) → weights 0 (numbered (suc n) es) ≡ entry_weights es → cond w (1 + (length e.path - 0)) 1 + weights 0 (numbered (suc n) es) ≡ cond w (1 + length e.path) 1 + entry_weights es
    go true ih = omega arith
    go false ih = omega arith

append_weights : (xs ys : List Entry) → entry_weights (xs ++ ys) ≡ entry_weights xs + entry_weights ys
append_weights [] ys = omega arith
append_weights (x ∷ xs) ys = omega (arith, append_weights xs ys)

parts_weights : (l : Location) (b : ℕ) (bs : List ℕ) → entry_weights (parts l (b ∷ bs)) ≡ length bs
parts_weights l b [] = refl
parts_weights l b (c ∷ bs) = omega (arith, parts_weights (moved l 1) c bs)

entered_weights : (p : Piece) → entry_weights (entered p) ≡ entry_charge (length p.bytes)
entered_weights p = append_weights (parts p.at p.bytes) (record { path = p.bytes; at = p.at; whole = true } ∷ []) ∙ go p.bytes
  where
    go : (bs : List ℕ) → entry_weights (parts p.at bs) + (1 + length bs + 0) ≡ entry_charge (length bs)
    go [] = refl
    go (b ∷ bs) = omega (arith, parts_weights p.at b bs)

all_weights : (ps : List Piece) → entry_weights (entered_all ps) ≡ charge entry_charge ps
all_weights [] = refl
all_weights (p ∷ ps) = omega (arith, append_weights (entered p) (entered_all ps), entered_weights p, all_weights ps)

pub weights_charged : (n : ℕ) (ps : List Piece) → weights 0 (numbered n (entered_all ps)) ≡ charge entry_charge ps
weights_charged n ps = weights_numbered n (entered_all ps) ∙ all_weights ps

-- An image that is not accepted is refused with 13, 14, 15 or 18; its layout with one of the first three. Assumes nothing.
use Prim.Native.Nat.{ℕ, zero, suc, ◌+◌, ◌*◌}
use native.Mathlib.Omega.{arith}
use mathlib.Core.Path.{◌≡◌, refl, subst}
use mathlib.Core.Bool.{Bool, true, false, cond}
use mathlib.Core.Logic.{◌⊎◌, inl, inr}
use mathlib.Core.List.{List}
use lib.ListN.{length, get_or}
use lib.Dec.{leb, ltb, eqb}
use borrow.Author.Tests.{eqb-false}
use Rattle.words.specs.Words.{le64}
use Rattle.definitions.specs.Conflicts.{free}
use Rattle.definitions.specs.Causes.{Cause, number, cut_short, unknown_kind, image_broken, conflict}
use Rattle.trie.specs.Trie.{trie_pieces}
use Rattle.trie.specs.Test.{index_rule}
use Rattle.kinds.specs.Kinds.{fits}
use Rattle.image_format.specs.Held.{trie_in}
use Rattle.image_format.specs.Reading.{ListRead, past, cut, HeadRead, head, no_head, behind_list, read_list, read_lists, read_head, Table, find_byte, table_fault, sparse_table, TableRead, table, no_table, unless_fault, open_table, Slot, offset, skip, slot_at, Step, done, fault, behind, Turn, child, gap, none_due, wrong, slot_turn, turn_at, by_turn, read_child, all_met, read_turns, read_table, behind_table, behind_head, read_node, read_counts, read_root, Layout, right, refused, to_the_end, read_image}
use Rattle.image_format.specs.Check.{and_if, check_image}
use Rattle.saving.specs.Promises.{OnlyConflict, ConflictOnly}

-- the numbers of a layout's faults
abbrev pub Number : ℕ → Type 0
Number n = (n ≡ number cut_short) ⊎ ((n ≡ number unknown_kind) ⊎ (n ≡ number image_broken))

-- and of an image's
abbrev pub Fault : ℕ → Type 0
Fault n = Number n ⊎ (n ≡ number conflict)

thirteen : Number 13
thirteen = inl refl

fourteen : Number 14
fourteen = inr (inl refl)

fifteen : Number 15
fifteen = inr (inr refl)

-- both ways out have it
either : {A : Type 0} (P : A → Type 0) (o : Bool) {x y : A} → P x → P y → P (cond o x y)
either P true a b = a
either P false a b = b

-- ── lists and tables ──

abbrev InHead : HeadRead → Type 0
InHead (head kind next entries) = Unit {0}
InHead (no_head c) = Number c

behind_list_in : (l : ListRead) (f : ℕ → ℕ → HeadRead) → ((next n : ℕ) → InHead (f next n)) → InHead (behind_list l f)
behind_list_in cut f h = thirteen
behind_list_in (past next n) f h = h next n

head_in : (s : List ℕ) (at : ℕ) → InHead (read_head s at)
unfolding read_head read_lists
head_in s at = either InHead (ltb at (length s)) (either InHead (eqb (get_or s at 0) 0) fourteen (either InHead (ltb 3 (get_or s at 0)) fourteen lists)) thirteen
  where
    lists : InHead (behind_list (read_list s (at + 1)) (λ a x. behind_list (read_list s a) (λ b y. behind_list (read_list s b) (λ c z. head (get_or s at 0) c (x + y + z)))))
    lists =
        behind_list_in (read_list s (at + 1)) (λ a x. behind_list (read_list s a) (λ b y. behind_list (read_list s b) (λ c z. head (get_or s at 0) c (x + y + z))))
        (λ a x. behind_list_in (read_list s a) (λ b y. behind_list (read_list s b) (λ c z. head (get_or s at 0) c (x + y + z)))
        (λ b y. behind_list_in (read_list s b) (λ c z. head (get_or s at 0) c (x + y + z)) (λ c z. tt)))

abbrev IfFault : ℕ → Type 0
IfFault c = (c ≡ 0 → ⊥) → Number c

entries_in : (s : List ℕ) (base k i : ℕ) → IfFault (table_fault s base k i)
unfolding table_fault
entries_in s base zero i = λ z. absurd (z refl)
entries_in s base (suc k) i =
    either IfFault (leb (length s) (base + i * 9)) (λ z. thirteen)
    (either IfFault (ltb (find_byte s base (get_or s (base + i * 9) 0) i 0) i) (λ z. fifteen)
    (either IfFault (ltb (length s) (base + i * 9 + 9)) (λ z. thirteen) (entries_in s base k (i + 1))))

abbrev InTable : TableRead → Type 0
InTable (table t) = Unit {0}
InTable (no_table c) = Number c

unless_in : (c : ℕ) (t : Table) → IfFault c → InTable (unless_fault c t)
unless_in c t f = go (eqb c 0) refl
  where
    go : (o : Bool) → eqb c 0 ≡ o → InTable (cond o (table t) (no_table c))
    go true e = tt
    go false e = f (eqb-false c 0 e)

table_in : (s : List ℕ) (kind at : ℕ) → InTable (open_table s kind at)
unfolding open_table
table_in s kind at =
    either InTable (eqb kind 1)
    (either InTable (leb (at + 2048) (length s)) tt thirteen)
    (either InTable (leb (at + 8) (length s))
    (either InTable (fits kind (le64 s at)) (unless_in (table_fault s (at + 8) (le64 s at) 0) (sparse_table kind at (le64 s at)) (entries_in s (at + 8) (le64 s at) 0)) fifteen)
    thirteen)

-- ── children and nodes ──

abbrev InStep : Step → Type 0
InStep (done next met nodes entries) = Unit {0}
InStep (fault c) = Number c

behind_in : (x : Step) (f : ℕ → ℕ → ℕ → ℕ → Step) → InStep x → ((next met nodes entries : ℕ) → InStep (f next met nodes entries)) → InStep (behind x f)
behind_in (fault c) f i h = i
behind_in (done next met nodes entries) f i h = h next met nodes entries

abbrev InTurn : Turn → Type 0
InTurn child = Unit {0}
InTurn gap = Unit {0}
InTurn none_due = Unit {0}
InTurn (wrong c) = Number c

slot_in : (s : List ℕ) (kind at : ℕ) (x : Slot) → InTurn (slot_turn s kind at x)
slot_in s kind at skip = tt
slot_in s kind at (offset off) =
    either InTurn (eqb off at)
    (either InTurn (leb (length s) at) thirteen (either InTurn (eqb (get_or s at 0) 1) tt (either InTurn (eqb (get_or s at 0) 0) (either InTurn (eqb kind 1) tt fifteen) fifteen)))
    fifteen

module _ (s : List ℕ) (rd : ℕ → Step) (h : (at : ℕ) → InStep (rd at)) where
  turn_in : (at : ℕ) (x : Turn) → InTurn x → InStep (by_turn rd at x)
  turn_in at child i = h (at + 1)
  turn_in at gap i = tt
  turn_in at none_due i = tt
  turn_in at (wrong c) i = i

  child_in : (t : Table) (i at : ℕ) → InStep (read_child s rd t i at)
  unfolding read_child turn_at
  child_in t i at = turn_in at (slot_turn s t.kind at (slot_at s t i)) (slot_in s t.kind at (slot_at s t i))

  turns_in : (t : Table) (k i at met nodes entries : ℕ) → InStep (read_turns s rd t k i at met nodes entries)
  unfolding read_turns all_met
  turns_in t zero i at met nodes entries = either InStep (eqb t.kind 1) (either InStep (fits 1 met) tt fifteen) tt
  turns_in t (suc k) i at met nodes entries =
      behind_in (read_child s rd t i at) (λ next c a b. read_turns s rd t k (i + 1) next (met + c) (nodes + a) (entries + b)) (child_in t i at)
      (λ next c a b. turns_in t k (i + 1) next (met + c) (nodes + a) (entries + b))

  behind_table_in : (entries : ℕ) (x : TableRead) → InTable x → InStep (behind_table s rd entries x)
  unfolding read_table
  behind_table_in entries (no_table c) i = i
  behind_table_in entries (table t) i = behind_in (read_turns s rd t t.turns 0 t.start 0 0 0) (λ next met nodes more. done next 1 (nodes + 1) (entries + more)) (turns_in t t.turns 0 t.start 0 0 0) (λ next met nodes more. tt)

  behind_head_in : (x : HeadRead) → InHead x → InStep (behind_head s rd x)
  behind_head_in (no_head c) i = i
  behind_head_in (head kind next entries) i = behind_table_in entries (open_table s kind next) (table_in s kind next)

node_in : (s : List ℕ) (left at : ℕ) → InStep (read_node s left at)
unfolding read_node
node_in s zero at = fifteen
node_in s (suc left) at = behind_head_in s (read_node s left) (λ x. node_in s left x) (read_head s at) (head_in s at)

-- ── the image ──

counts_in : (s : List ℕ) (n at : ℕ) → InStep (read_counts s n at)
unfolding read_counts
counts_in s zero at = tt
counts_in s (suc n) at = either InStep (leb (at + 8) (length s)) (either InStep (eqb (le64 s at) 0) (counts_in s n (at + 8)) fifteen) thirteen

abbrev pub InLayout : Layout → Type 0
InLayout (right nodes entries) = Unit {0}
InLayout (refused c) = Number c

end_in : (s : List ℕ) (x : Step) → InStep x → InLayout (to_the_end s x)
end_in s (fault c) i = i
end_in s (done next met nodes entries) i = either InLayout (eqb next (length s)) tt fifteen

image_in : (s : List ℕ) → InLayout (read_image s)
unfolding read_image read_root
image_in s = end_in s (read_root s) (either InStep (eqb (length s) 0) thirteen (either InStep (eqb (get_or s 0 0) 0) (counts_in s 3 1) (node_in s 17 0)))

abbrev pub Faulty : Layout → Type 0
Faulty (right nodes entries) = Unit {0}
Faulty (refused c) = Fault c

layout_faulty : (x : Layout) → InLayout x → Faulty x
layout_faulty (right nodes entries) i = tt
layout_faulty (refused c) i = inl i

faulty_if : (o : Bool) (c : Cause) → Fault (number c) → (x : Layout) → Faulty x → Faulty (and_if o c x)
faulty_if o c f (refused n) i = i
faulty_if true c f (right nodes entries) i = tt
faulty_if false c f (right nodes entries) i = f

pub check_in : (s : List ℕ) → Faulty (check_image s)
unfolding check_image
check_in s =
    faulty_if (free (trie_pieces (trie_in s))) conflict (inr refl) (and_if (index_rule (trie_in s)) image_broken (read_image s))
    (faulty_if (index_rule (trie_in s)) image_broken (inl fifteen) (read_image s) (layout_faulty (read_image s) (image_in s)))

-- 18 is said of an image that is right but for it
pub only_conflict : ConflictOnly
unfolding check_image
only_conflict s e = go (read_image s) (image_in s) refl (index_rule (trie_in s)) refl (free (trie_pieces (trie_in s))) refl e
  where
    never : Number 18 → ⊥
    never (inl z) = omega arith
    never (inr (inl z)) = omega arith
    never (inr (inr z)) = omega arith

    go : (x : Layout) → InLayout x → read_image s ≡ x → (o : Bool) → index_rule (trie_in s) ≡ o → (u : Bool) → free (trie_pieces (trie_in s)) ≡ u → and_if u conflict (and_if o image_broken x) ≡ refused 18 → OnlyConflict s
    go (refused n) i q o r u f z = absurd (never (subst Number (let w : n ≡ 18 = cc in w) i))
    go (right k j) i q false r u f z = absurd (let w : ◌≡◌ {A = ℕ} 15 18 = cc in omega arith)
    go (right k j) i q true r true f z = absurd (let w : ◌≡◌ {A = ℕ} 0 1 = cc in omega arith)
    go (right k j) i q true r false f z = record { nodes = k; entries = j; read = q; rule = r; clash = f }

-- Laws of a table in place: the child for a byte by one lookup or along its entries, and its entries by number. Assumes nothing.
use Prim.Native.Nat.{ℕ, zero, suc, ◌+◌, ◌*◌, ◌-◌, ◌≤◌, ◌<◌}
use native.Mathlib.Omega.{arith}
use mathlib.Core.Path.{◌≡◌, refl, sym, ap, ◌∙◌}
use mathlib.Core.Bool.{Bool, true, false, cond}
use mathlib.Core.List.{List, ◌∷◌}
use mathlib.Core.Option.{Option, none, some}
use lib.ListN.{get_or}
use lib.Dec.{eqb}
use borrow.Author.Tests.{eq-eqb, ne_eqb}
use Rattle.words.specs.Words.{le64}
use Rattle.definitions.proofs.Views.{Eq, eq}
use Rattle.image_format.specs.Held.{Entry, sparse_entries, dense_entries, table_entries, list_end}
use Rattle.image_walk.specs.Parts.{chunk_list, suffix_list, behind_lists, table_at, children_at}
use Rattle.image_walk.specs.Tables.{sparse_slot, dense_slot, slot_in, put, slots_from, entries_at, node_for}
use Rattle.image_walk.specs.Bounds.{Bounds}

-- where the node of an entry stands
abbrev pub node_of : Option Entry → Option ℕ
node_of none = none
node_of (some e) = some e.node

-- ── kind 1: one lookup ──

-- the slots from c on have no lower byte
dense_absent : (s : List ℕ) (table n c b : ℕ) → b < c → node_for (dense_entries s table n c) b ≡ none
unfolding node_for dense_entries
dense_absent s table zero c b h = refl
dense_absent s table (suc n) c b h = go (eqb (get_or s (le64 s (table + c * 8)) 0) 1) (dense_absent s table n (c + 1) b (omega arith))
  where
    e : Entry
    e = record { byte = c; node = le64 s (table + c * 8) + 1 }

    go : (o : Bool) → node_for (dense_entries s table n (c + 1)) b ≡ none → node_for (cond o (e ∷ dense_entries s table n (c + 1)) (dense_entries s table n (c + 1))) b ≡ none
    go true ih = let z : c ≡ b → ⊥ = omega arith in rw (ne_eqb c b z) ih
    go false ih = ih

dense_here : (s : List ℕ) (table n b : ℕ) → node_for (dense_entries s table (suc n) b) b ≡ node_of (dense_slot s table b)
unfolding node_for dense_entries dense_slot
dense_here s table n b = go (eqb (get_or s (le64 s (table + b * 8)) 0) 1) (dense_absent s table n (b + 1) b (omega arith))
  where
    e : Entry
    e = record { byte = b; node = le64 s (table + b * 8) + 1 }

    go : (o : Bool) → node_for (dense_entries s table n (b + 1)) b ≡ none →
        node_for (cond o (e ∷ dense_entries s table n (b + 1)) (dense_entries s table n (b + 1))) b ≡ node_of (cond o (some e) none)
    go true ih = rw (eq-eqb b b refl) refl
    go false ih = ih

dense_later : (s : List ℕ) (table n c b : ℕ) → c < b → node_for (dense_entries s table (suc n) c) b ≡ node_for (dense_entries s table n (c + 1)) b
unfolding node_for dense_entries
dense_later s table n c b h = go (eqb (get_or s (le64 s (table + c * 8)) 0) 1)
  where
    e : Entry
    e = record { byte = c; node = le64 s (table + c * 8) + 1 }

    go : (o : Bool) → node_for (cond o (e ∷ dense_entries s table n (c + 1)) (dense_entries s table n (c + 1))) b ≡ node_for (dense_entries s table n (c + 1)) b
    go true = let z : c ≡ b → ⊥ = omega arith in rw (ne_eqb c b z) refl
    go false = refl

dense_for : (s : List ℕ) (table n c b : ℕ) → c ≤ b → b < c + n → node_for (dense_entries s table n c) b ≡ node_of (dense_slot s table b)
dense_for s table zero c b h l = absurd (omega arith)
dense_for s table (suc n) c b h l = go (eqb c b) (eq c b) (λ g. dense_for s table n (c + 1) b g (omega arith))
  where
    go : (o : Bool) → Eq o c b → (c + 1 ≤ b → node_for (dense_entries s table n (c + 1)) b ≡ node_of (dense_slot s table b)) → node_for (dense_entries s table (suc n) c) b ≡ node_of (dense_slot s table b)
    go true e ih = rw e (dense_here s table n b)
    go false e ih = let m : c < b = omega arith in dense_later s table n c b m ∙ ih (omega arith)

-- the child for a byte is what its slot holds
pub dense_child : (s : List ℕ) (table b : ℕ) → b < 256 → node_of (dense_slot s table b) ≡ node_for (entries_at s table 256) b
unfolding entries_at
dense_child s table b l = sym (dense_for s table 256 0 b (omega arith) (omega arith))

-- ── kinds 2 and 3: along the entries ──

module _ (s : List ℕ) (table n j b : ℕ) where
  pub sparse_end : n ≤ j → none ≡ node_for (sparse_entries s table (n - j) j) b
  unfolding node_for sparse_entries
  sparse_end h = let e : n - j ≡ 0 = omega arith in rw e refl

  pub sparse_met : j < n → get_or s (table + j * 9) 0 ≡ b → some (le64 s (table + j * 9 + 1) + 1) ≡ node_for (sparse_entries s table (n - j) j) b
  unfolding node_for sparse_entries
  sparse_met h f =
      let e : n - j ≡ suc (n - (j + 1)) = omega arith in
      rw e (simp (eq-eqb _ _ f))

  pub sparse_on : j < n → (get_or s (table + j * 9) 0 ≡ b → ⊥) → node_for (sparse_entries s table (n - (j + 1)) (j + 1)) b ≡ node_for (sparse_entries s table (n - j) j) b
  unfolding node_for sparse_entries
  sparse_on h f =
      let e : n - j ≡ suc (n - (j + 1)) = omega arith in
      rw e (simp (ne_eqb _ _ f))

pub sparse_child : (s : List ℕ) (table children b : ℕ) → (children ≡ 256 → ⊥) → node_for (sparse_entries s table children 0) b ≡ node_for (entries_at s table children) b
unfolding entries_at
sparse_child s table children b h = simp (ne_eqb _ _ h)

-- ── entries by number ──

dense_slots : (s : List ℕ) (table n j : ℕ) → slots_from s table 256 n j ≡ dense_entries s table n j
unfolding slots_from slot_in dense_slot dense_entries
dense_slots s table zero j = refl
dense_slots s table (suc n) j = go (eqb (get_or s (le64 s (table + j * 8)) 0) 1) (dense_slots s table n (j + 1))
  where
    e : Entry
    e = record { byte = j; node = le64 s (table + j * 8) + 1 }

    go : (o : Bool) → slots_from s table 256 n (j + 1) ≡ dense_entries s table n (j + 1) →
        put (cond o (some e) none) (slots_from s table 256 n (j + 1)) ≡ cond o (e ∷ dense_entries s table n (j + 1)) (dense_entries s table n (j + 1))
    go true ih = ap (λ (es : List Entry). e ∷ es) ih
    go false ih = ih

sparse_slots : (s : List ℕ) (table children n j : ℕ) → (children ≡ 256 → ⊥) → slots_from s table children n j ≡ sparse_entries s table n j
unfolding slots_from slot_in sparse_entries
sparse_slots s table children zero j h = refl
sparse_slots s table children (suc n) j h = rw (ne_eqb children 256 h) (ap (λ (es : List Entry). sparse_slot s table j ∷ es) (sparse_slots s table children n (j + 1) h))

-- the entries of a table by number, the empty ones left out, are its entries
pub slots_are : (s : List ℕ) (table children : ℕ) → slots_from s table children children 0 ≡ entries_at s table children
unfolding entries_at
slots_are s table children = go (eqb children 256) (eq children 256)
  where
    go : (o : Bool) → Eq o children 256 → slots_from s table children children 0 ≡ cond o (dense_entries s table 256 0) (sparse_entries s table children 0)
    go true e = rw e (dense_slots s table 256 0)
    go false e = sparse_slots s table children children 0 e

-- ── the table of a node ──

pub entries_here : (s : List ℕ) (at : ℕ) → Bounds s at → entries_at s (table_at s at) (children_at s at) ≡ table_entries s at
unfolding entries_at table_at children_at behind_lists suffix_list chunk_list table_entries
entries_here s at h = go (eqb (get_or s at 0) 1) (eq (get_or s at 0) 1)
  where
    t : ℕ
    t = list_end s (list_end s (list_end s (at + 1)))

    go : (o : Bool) → Eq o (get_or s at 0) 1 →
        cond (eqb (cond o 256 (le64 s t)) 256) (dense_entries s (cond o t (t + 8)) 256 0) (sparse_entries s (cond o t (t + 8)) (cond o 256 (le64 s t)) 0) ≡
        cond o (dense_entries s t 256 0) (sparse_entries s (t + 8) (le64 s t) 0)
    go true e = refl
    go false e = let z : le64 s t ≡ 256 → ⊥ = omega (arith, h.few e) in simp (ne_eqb _ _ z)

-- going over the numbers of a node's table gives its entries
pub slots_here : (s : List ℕ) (at : ℕ) → Bounds s at → slots_from s (table_at s at) (children_at s at) (children_at s at) 0 ≡ table_entries s at
slots_here s at h = slots_are s (table_at s at) (children_at s at) ∙ entries_here s at h

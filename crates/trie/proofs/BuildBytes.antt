-- The bytes that go on from a node: each once, and in ascending order where they are kept by byte. Assumes nothing.
use Prim.Native.Nat.{ℕ, ◌≤◌, ◌<◌}
use native.Mathlib.Omega.{arith}
use mathlib.Core.Path.{◌≡◌, refl, sym}
use mathlib.Core.Bool.{Bool, true, false, cond}
use mathlib.Core.Logic.{◌⊎◌, inl, inr}
use mathlib.Core.List.Memᴰ.{cases_cons as split}
use mathlib.Core.List.Memᴰ.{head as here}
use mathlib.Core.List.Memᴰ.{not-nil}
use mathlib.Core.List.Memᴰ.{tail as later}
use mathlib.Core.List.{List, [], ◌∷◌, Memᴰ as Mem}
use lib.ListN.{length}
use lib.Dec.{leb, eqb}
use Rattle.definitions.proofs.Views.{Eq, eq, Le, le}
use Rattle.trie.specs.Build.{arrived, by_byte, ascending, kept_order, Rising}
use Rattle.trie.proofs.Placed.{behind_mem, placed_mem, mem_placed}

-- no byte twice
abbrev pub Distinct : List ℕ → Type 0
Distinct [] = Unit {0}
Distinct (b ∷ bs) = (Mem b bs → ⊥) × Distinct bs

-- ── by arrival ──

pub arrived_mem : {x : ℕ} (b : ℕ) (cs : List ℕ) → Mem x (arrived b cs) → (x ≡ b) ⊎ Mem x cs
arrived_mem b [] h = split h
arrived_mem {x} b (c ∷ cs) h = go (eqb c b) (arrived_mem b cs) h
  where
    go : (o : Bool) → (Mem x (arrived b cs) → (x ≡ b) ⊎ Mem x cs) → Mem x (cond o (c ∷ cs) (c ∷ arrived b cs)) → (x ≡ b) ⊎ Mem x (c ∷ cs)
    go true ih h = inr h
    go false ih h = behind_mem ih h

pub arrived_new : (b : ℕ) (cs : List ℕ) → Mem b (arrived b cs)
arrived_new b [] = here refl
arrived_new b (c ∷ cs) = go (eqb c b) (eq c b) (arrived_new b cs)
  where
    go : (o : Bool) → Eq o c b → Mem b (arrived b cs) → Mem b (cond o (c ∷ cs) (c ∷ arrived b cs))
    go true e ih = here (sym e)
    go false e ih = later ih

pub arrived_old : {x : ℕ} (b : ℕ) (cs : List ℕ) → Mem x cs → Mem x (arrived b cs)
arrived_old b [] h = later h
arrived_old {x} b (c ∷ cs) h = go (eqb c b) (arrived_old b cs) h
  where
    go : (o : Bool) → (Mem x cs → Mem x (arrived b cs)) → Mem x (c ∷ cs) → Mem x (cond o (c ∷ cs) (c ∷ arrived b cs))
    go true ih h = h
    go false ih (here e) = here e
    go false ih (later k) = later (ih k)

pub distinct_arrived : (b : ℕ) (cs : List ℕ) → Distinct cs → Distinct (arrived b cs)
distinct_arrived b [] d = ((λ h. not-nil h), tt)
distinct_arrived b (c ∷ cs) d = go (eqb c b) (eq c b) (distinct_arrived b cs d.1)
  where
    new : ¬ (c ≡ b) → (c ≡ b) ⊎ Mem c cs → ⊥
    new e (inl f) = e f
    new e (inr k) = d.0 k

    go : (o : Bool) → Eq o c b → Distinct (arrived b cs) → Distinct (cond o (c ∷ cs) (c ∷ arrived b cs))
    go true e ih = d
    go false e ih = ((λ h. new e (arrived_mem b cs h)), ih)

-- ── by byte ──

pub by_byte_mem : {x : ℕ} (b : ℕ) (cs : List ℕ) → Mem x (by_byte b cs) → (x ≡ b) ⊎ Mem x cs
by_byte_mem b [] h = split h
by_byte_mem b (c ∷ cs) h = placed_mem b c cs (by_byte b cs) (leb b c) (by_byte_mem b cs) h

pub mem_by_byte : {x : ℕ} (b : ℕ) (cs : List ℕ) → (x ≡ b) ⊎ Mem x cs → Mem x (by_byte b cs)
mem_by_byte b [] (inl e) = here e
mem_by_byte b [] (inr h) = later h
mem_by_byte b (c ∷ cs) h = mem_placed b c cs (by_byte b cs) (leb b c) (mem_by_byte b cs) h

pub ascending_mem : {x : ℕ} (bs : List ℕ) → Mem x (ascending bs) → Mem x bs
ascending_mem {x = x} [] h = elim h [ ]
ascending_mem {x} (b ∷ bs) h = go (ascending_mem bs) (by_byte_mem b (ascending bs) h)
  where
    go : (Mem x (ascending bs) → Mem x bs) → (x ≡ b) ⊎ Mem x (ascending bs) → Mem x (b ∷ bs)
    go ih (inl e) = here e
    go ih (inr k) = later (ih k)

pub mem_ascending : {x : ℕ} (bs : List ℕ) → Mem x bs → Mem x (ascending bs)
mem_ascending [] x'' = elim x'' [ ]
mem_ascending (b ∷ bs) (here e) = mem_by_byte b (ascending bs) (inl e)
mem_ascending (b ∷ bs) (later h) = mem_by_byte b (ascending bs) (inr (mem_ascending bs h))

rising_by_byte : (b : ℕ) (cs : List ℕ) → (Mem b cs → ⊥) → Rising cs → Rising (by_byte b cs)
rising_by_byte b [] n r = ((λ c h. absurd (not-nil h)), tt)
rising_by_byte b (c ∷ cs) n r = go (leb b c) (le b c) (rising_by_byte b cs (λ h. n (later h)) r.1)
  where
    first : b ≤ c → b < c
    first h =
        let ne : ¬ (b ≡ c) = λ e. n (here e) in
        omega arith

    below : b < c → (x : ℕ) → Mem x (c ∷ cs) → b < x
    below h x (here e) = omega arith
    below h x (later k) = omega (arith, r.0 x k)

    above : c < b → (x : ℕ) → (x ≡ b) ⊎ Mem x cs → c < x
    above h x (inl e) = omega arith
    above h x (inr k) = r.0 x k

    go : (o : Bool) → Le o b c → Rising (by_byte b cs) → Rising (cond o (b ∷ c ∷ cs) (c ∷ by_byte b cs))
    go true h ih = (below (first h), r)
    go false h ih = ((λ x k. above h x (by_byte_mem b cs k)), ih)

pub rising_ascending : (bs : List ℕ) → Distinct bs → Rising (ascending bs)
rising_ascending [] d = tt
rising_ascending (b ∷ bs) d = rising_by_byte b (ascending bs) (λ h. d.0 (ascending_mem bs h)) (rising_ascending bs d.1)

rising_distinct : (bs : List ℕ) → Rising bs → Distinct bs
rising_distinct [] r = tt
rising_distinct (b ∷ bs) r = ((λ h. absurd (omega (arith, r.0 b h))), rising_distinct bs r.1)

-- ── as they are kept ──

pub kept_mem : {x : ℕ} (bs : List ℕ) → Mem x (kept_order bs) → Mem x bs
kept_mem {x} bs h = go (leb (length bs) 96) h
  where
    go : (o : Bool) → Mem x (cond o bs (ascending bs)) → Mem x bs
    go true h = h
    go false h = ascending_mem bs h

pub mem_kept : {x : ℕ} (bs : List ℕ) → Mem x bs → Mem x (kept_order bs)
mem_kept {x} bs h = go (leb (length bs) 96)
  where
    go : (o : Bool) → Mem x (cond o bs (ascending bs))
    go true = h
    go false = mem_ascending bs h

pub distinct_kept : (bs : List ℕ) → Distinct bs → Distinct (kept_order bs)
distinct_kept bs d = go (leb (length bs) 96)
  where
    go : (o : Bool) → Distinct (cond o bs (ascending bs))
    go true = d
    go false = rising_distinct (ascending bs) (rising_ascending bs d)

-- more than 96 stand in ascending order
pub kept_rising : (bs : List ℕ) → Distinct bs → 96 < length (kept_order bs) → Rising (kept_order bs)
kept_rising bs d = go (leb (length bs) 96) (le (length bs) 96)
  where
    go : (o : Bool) → Le o (length bs) 96 → 96 < length (cond o bs (ascending bs)) → Rising (cond o bs (ascending bs))
    go true h k = absurd (omega arith)
    go false h k = rising_ascending bs d

-- What a reading that ended well says of the bytes. Assumes nothing.
use Prim.Native.Nat.{◌*◌, ◌+◌, ◌-◌, ◌<◌, ◌≤◌, suc, zero, ℕ}
use native.Mathlib.Omega.{arith}
use mathlib.Core.Bool.{Bool, cond, false, true}
use mathlib.Core.List.{List, [], ◌++◌, ◌∷◌}
use mathlib.Core.Path.{◌∙◌, ◌≡◌, refl, subst, sym}
use lib.Dec.{eqb, leb, ltb}
use lib.ListN.{get_or, length, length-append}
use borrow.Author.Tests.{eq-eqb, eqb-false, eqb-true, leb-false, leb-true, ltb-false}
use Rattle.words.specs.Words.{le64}
use Rattle.image_format.proofs.Heads.{list_bound}
use Rattle.kinds.proofs.KindRule.{Fits, fits_view, one, three, two}
use Rattle.image_format.proofs.KindThree.{BytesAt, Distinct, Missing, bytes_snoc}
use Rattle.image_format.specs.Held.{list_end}
use Rattle.image_format.specs.Image.{Child}
use Rattle.kinds.specs.Kinds.{fits}
use Rattle.image_format.specs.Reading.{ListRead, Step, Table, all_met, behind, behind_list, by_turn, child, cut, dense_table, done, fault, find_byte, flag_turn, gap, head, no_head, no_table, offset, open_table, past, read_child, read_head, read_list, read_lists, read_turns, skip, slot_at, sparse_table, table, table_fault, turn_at, wrong}

pub never : {A : Type 0} {next k a b c : ℕ} → done next k a b ≡ fault c → A
never e = absurd (let z : ◌≡◌ {A = ℕ} 0 1 = cc in omega arith)

-- a turn that ended well
pub data Turned (s : List ℕ) (rd : ℕ → Step) (kind at next k a b : ℕ) : Type 0 where
  by_node : at < length s → get_or s at 0 ≡ 1 → done next k a b ≡ rd (at + 1) → Turned s rd kind at next k a b
  by_gap : at < length s → get_or s at 0 ≡ 0 → kind ≡ 1 → next ≡ at + 1 → k ≡ 0 → Turned s rd kind at next k a b

flag_inv : (s : List ℕ) (rd : ℕ → Step) (kind at next k a b : ℕ) → at < length s →
    done next k a b ≡ by_turn rd at (flag_turn kind (get_or s at 0)) → Turned s rd kind at next k a b
flag_inv s rd kind at next k a b l e = go (eqb (get_or s at 0) 1) refl (eqb (get_or s at 0) 0) refl (eqb kind 1) refl e
  where
    go : (p : Bool) → eqb (get_or s at 0) 1 ≡ p → (q : Bool) → eqb (get_or s at 0) 0 ≡ q → (r : Bool) → eqb kind 1 ≡ r →
        done next k a b ≡ by_turn rd at (cond p child (cond q (cond r gap (wrong 15)) (wrong 15))) → Turned s rd kind at next k a b
    go true x q y r z f = by_node l (eqb-true (get_or s at 0) 1 x) f
    go false x true y true z f =
        let n : next ≡ at + 1 = cc in
        let m : k ≡ 0 = cc in
        by_gap l (eqb-true (get_or s at 0) 0 y) (eqb-true kind 1 z) n m
    go false x true y false z f = never f
    go false x false y r z f = never f

pub child_at : (s : List ℕ) (rd : ℕ → Step) (p : Table) (i at next k a b off : ℕ) → offset off ≡ slot_at s p i → done next k a b ≡ read_child s rd p i at →
    (off ≡ at) × Turned s rd p.kind at next k a b
unfolding read_child turn_at
child_at s rd p i at next k a b off o e = go (eqb off at) refl (leb (length s) at) refl (rw (← o) at e)
  where
    go : (x : Bool) → eqb off at ≡ x → (y : Bool) → leb (length s) at ≡ y →
        done next k a b ≡ by_turn rd at (cond x (cond y (wrong 13) (flag_turn p.kind (get_or s at 0))) (wrong 15)) →
        (off ≡ at) × Turned s rd p.kind at next k a b
    go true u true v f = never f
    go true u false v f = (eqb-true off at u, flag_inv s rd p.kind at next k a b (leb-false (length s) at v) f)
    go false u y v f = never f

pub child_skipped : (s : List ℕ) (rd : ℕ → Step) (p : Table) (i at next k a b : ℕ) → skip ≡ slot_at s p i → done next k a b ≡ read_child s rd p i at → (next ≡ at) × (k ≡ 0)
unfolding read_child turn_at
child_skipped s rd p i at next k a b o e =
    let f : done next k a b ≡ done at 0 0 0 = rw (← o) at e in
    let x : next ≡ at = cc in
    let y : k ≡ 0 = cc in
    (x, y)

-- one turn of a table that ended well
pub run_turn : (s : List ℕ) (rd : ℕ → Step) (p : Table) (m i at c n e end k' n' e' : ℕ) → done end k' n' e' ≡ read_turns s rd p (suc m) i at c n e →
    (next : ℕ) × (k : ℕ) × (a : ℕ) × (b : ℕ) × (done next k a b ≡ read_child s rd p i at) × (done end k' n' e' ≡ read_turns s rd p m (i + 1) next (c + k) (n + a) (e + b))
unfolding read_turns
run_turn s rd p m i at c n e end k' n' e' f = go (read_child s rd p i at) refl f
  where
    go : (v : Step) → v ≡ read_child s rd p i at → done end k' n' e' ≡ behind v (λ next k a b. read_turns s rd p m (i + 1) next (c + k) (n + a) (e + b)) →
        (next : ℕ) × (k : ℕ) × (a : ℕ) × (b : ℕ) × (done next k a b ≡ read_child s rd p i at) × (done end k' n' e' ≡ read_turns s rd p m (i + 1) next (c + k) (n + a) (e + b))
    go (fault x) g f = never f
    go (done next k a b) g f = (next, k, a, b, g, f)

pub run_last : (s : List ℕ) (rd : ℕ → Step) (p : Table) (i at c n e end k' n' e' : ℕ) → done end k' n' e' ≡ read_turns s rd p 0 i at c n e → (end ≡ at) × (p.kind ≡ 1 → 97 ≤ c)
unfolding read_turns all_met
run_last s rd p i at c n e end k' n' e' f = go (eqb p.kind 1) refl (fits 1 c) refl f
  where
    many : Fits 1 c → 97 ≤ c
    many (three x a) = absurd (omega arith)
    many (two x a b) = absurd (omega arith)
    many (one x a b) = a

    go : (x : Bool) → eqb p.kind 1 ≡ x → (y : Bool) → fits 1 c ≡ y → done end k' n' e' ≡ cond x (cond y (done at 1 n e) (fault 15)) (done at 1 n e) → (end ≡ at) × (p.kind ≡ 1 → 97 ≤ c)
    go true u true v g = let w : end ≡ at = cc in (w, λ z. many (fits_view 1 c v))
    go true u false v g = never g
    go false u y v g = let w : end ≡ at = cc in (w, λ z. absurd (eqb-false p.kind 1 u z))

-- a byte that is not found is absent
pub find_none : (s : List ℕ) (base b j : ℕ) (ks : List Child) → BytesAt s base j ks → j + length ks ≤ find_byte s base b (length ks) j → Missing b ks
unfolding BytesAt Missing find_byte
find_none s base b j [] h f = tt
find_none s base b j (k ∷ ks) h f = go (eqb (get_or s (base + j * 9) 0) b) refl f (λ g. find_none s base b (j + 1) ks h.1 g)
  where
    go : (q : Bool) → eqb (get_or s (base + j * 9) 0) b ≡ q → j + suc (length ks) ≤ cond q j (find_byte s base b (length ks) (j + 1)) →
        (j + 1 + length ks ≤ find_byte s base b (length ks) (j + 1) → Missing b ks) → (k.byte ≡ b → ⊥) × Missing b ks
    go true x g ih = absurd (omega arith)
    go false x g ih = ((λ e. eqb-false (get_or s (base + j * 9) 0) b x (h.0 ∙ e)), ih (omega arith))

-- a table without a fault names no byte twice
pub fault_apart : (s : List ℕ) (base : ℕ) (seen rest : List Child) → BytesAt s base 0 seen → BytesAt s base (length seen) rest →
    0 ≡ table_fault s base (length rest) (length seen) → Distinct seen rest
unfolding BytesAt Distinct table_fault
fault_apart s base seen [] a b f = tt
fault_apart s base seen (k ∷ rest) a b f =
    go (leb (length s) (base + length seen * 9)) (ltb (find_byte s base (get_or s (base + length seen * 9) 0) (length seen) 0) (length seen)) refl (ltb (length s) (base + length seen * 9 + 9)) f
    (λ g. fault_apart s base (seen ++ (k ∷ [])) rest (bytes_snoc s base 0 seen k a z) (rw e b.1) (rw e g))
  where
    e : length (seen ++ (k ∷ [])) ≡ length seen + 1
    e = simp length-append (omega arith)

    z : get_or s (base + (0 + length seen) * 9) 0 ≡ k.byte
    z = let y : 0 + length seen ≡ length seen = omega arith in rw y b.0

    go : (x y : Bool) → ltb (find_byte s base (get_or s (base + length seen * 9) 0) (length seen) 0) (length seen) ≡ y → (w : Bool) →
        0 ≡ cond x 13 (cond y 15 (cond w 13 (table_fault s base (length rest) (length seen + 1)))) →
        (0 ≡ table_fault s base (length rest) (length seen + 1) → Distinct (seen ++ (k ∷ [])) rest) → Missing k.byte seen × Distinct (seen ++ (k ∷ [])) rest
    go true y u w g ih = absurd (omega arith)
    go false true u w g ih = absurd (omega arith)
    go false false u true g ih = absurd (omega arith)
    go false false u false g ih =
        let l = ltb-false (find_byte s base (get_or s (base + length seen * 9) 0) (length seen) 0) (length seen) u in
        let m : length seen ≤ find_byte s base k.byte (length seen) 0 = rw b.0 at l in
        (find_none s base k.byte 0 seen a (omega arith), ih g)

never_head : {A : Type 0} {k n e c : ℕ} → head k n e ≡ no_head c → A
never_head e = absurd (let z : ◌≡◌ {A = ℕ} 0 1 = cc in omega arith)

-- a head that was read
pub head_inv : (s : List ℕ) (at kind next e : ℕ) → head kind next e ≡ read_head s at →
    (get_or s at 0 ≡ kind) × (kind ≡ 0 → ⊥) × (kind ≤ 3) × (next ≡ list_end s (list_end s (list_end s (at + 1)))) × (next ≤ length s)
unfolding read_head read_lists
head_inv s at kind next e f = go (ltb at (length s)) (eqb (get_or s at 0) 0) refl (ltb 3 (get_or s at 0)) refl f
  where
    third : (a x b y : ℕ) (v : ListRead) → v ≡ read_list s b → head kind next e ≡ behind_list v (λ c z. head (get_or s at 0) c (x + y + z)) →
        (get_or s at 0 ≡ kind) × (next ≡ list_end s b) × (next ≤ length s)
    third a x b y cut g h = never_head h
    third a x b y (past c z) g h =
        let w = list_bound s b c z g in
        let i : next ≡ c = cc in
        let j : get_or s at 0 ≡ kind = cc in
        (j, omega arith, omega arith)

    second : (a x : ℕ) (v : ListRead) → v ≡ read_list s a → head kind next e ≡ behind_list v (λ b y. behind_list (read_list s b) (λ c z. head (get_or s at 0) c (x + y + z))) →
        (get_or s at 0 ≡ kind) × (next ≡ list_end s (list_end s a)) × (next ≤ length s)
    second a x cut g h = never_head h
    second a x (past b y) g h =
        let w = list_bound s a b y g in
        let i : b ≡ list_end s a = omega arith in
        rw (← i) (third a x b y (read_list s b) refl h)

    first : (v : ListRead) → v ≡ read_list s (at + 1) →
        head kind next e ≡ behind_list v (λ a x. behind_list (read_list s a) (λ b y. behind_list (read_list s b) (λ c z. head (get_or s at 0) c (x + y + z)))) →
        (get_or s at 0 ≡ kind) × (next ≡ list_end s (list_end s (list_end s (at + 1)))) × (next ≤ length s)
    first cut g h = never_head h
    first (past a x) g h =
        let w = list_bound s (at + 1) a x g in
        let i : a ≡ list_end s (at + 1) = omega arith in
        rw (← i) (second a x (read_list s a) refl h)

    go : (p q : Bool) → eqb (get_or s at 0) 0 ≡ q → (r : Bool) → ltb 3 (get_or s at 0) ≡ r →
        head kind next e ≡ cond p (cond q (no_head 14) (cond r (no_head 14)
        (behind_list (read_list s (at + 1)) (λ a x. behind_list (read_list s a) (λ b y. behind_list (read_list s b) (λ c z. head (get_or s at 0) c (x + y + z))))))) (no_head 13) →
        (get_or s at 0 ≡ kind) × (kind ≡ 0 → ⊥) × (kind ≤ 3) × (next ≡ list_end s (list_end s (list_end s (at + 1)))) × (next ≤ length s)
    go false q x r y h = never_head h
    go true true x r y h = never_head h
    go true false x true y h = never_head h
    go true false x false y h =
        let w = first (read_list s (at + 1)) refl h in
        let n = eqb-false (get_or s at 0) 0 x in
        let m = ltb-false 3 (get_or s at 0) y in
        (w.0, (λ z. n (w.0 ∙ z)), omega (arith, w.0), w.1, w.2)

never_open : {A : Type 0} {q : Table} {c : ℕ} → table q ≡ no_table c → A
never_open e = absurd (let z : ◌≡◌ {A = ℕ} 0 1 = cc in omega arith)

-- a table that was opened
pub data Open (s : List ℕ) (kind at : ℕ) (q : Table) : Type 0 where
  dense : kind ≡ 1 → at + 2048 ≤ length s → q ≡ dense_table at → Open s kind at q
  sparse : (kind ≡ 1 → ⊥) → at + 8 ≤ length s → fits kind (le64 s at) ≡ true → 0 ≡ table_fault s (at + 8) (le64 s at) 0 → q ≡ sparse_table kind at (le64 s at) → Open s kind at q

pub open_inv : (s : List ℕ) (kind at : ℕ) (q : Table) → table q ≡ open_table s kind at → Open s kind at q
unfolding open_table
open_inv s kind at q f =
    go (eqb kind 1) refl (leb (at + 2048) (length s)) refl (leb (at + 8) (length s)) refl (fits kind (le64 s at)) refl (eqb (table_fault s (at + 8) (le64 s at) 0) 0) refl f
  where
    go : (a : Bool) → eqb kind 1 ≡ a → (b : Bool) → leb (at + 2048) (length s) ≡ b → (c : Bool) → leb (at + 8) (length s) ≡ c → (d : Bool) → fits kind (le64 s at) ≡ d →
        (e : Bool) → eqb (table_fault s (at + 8) (le64 s at) 0) 0 ≡ e →
        table q ≡ cond a (cond b (table (dense_table at)) (no_table 13))
        (cond c (cond d (cond e (table (sparse_table kind at (le64 s at))) (no_table (table_fault s (at + 8) (le64 s at) 0))) (no_table 15)) (no_table 13)) →
        Open s kind at q
    go true x true y c z d w e v g = let h : q ≡ dense_table at = cc in dense (eqb-true kind 1 x) (leb-true (at + 2048) (length s) y) h
    go true x false y c z d w e v g = never_open g
    go false x b y true z true w true v g =
        let h : q ≡ sparse_table kind at (le64 s at) = cc in
        sparse (eqb-false kind 1 x) (leb-true (at + 8) (length s) z) w (sym (eqb-true (table_fault s (at + 8) (le64 s at) 0) 0 v)) h
    go false x b y true z true w false v g = never_open g
    go false x b y true z false w e v g = never_open g
    go false x b y false z d w e v g = never_open g

-- past entries that do not have the byte
find_past : (s : List ℕ) (base b a k j : ℕ) → j + a ≤ find_byte s base b a j → get_or s (base + (j + a) * 9) 0 ≡ b → find_byte s base b (a + suc k) j ≡ j + a
unfolding find_byte
find_past s base b zero k j h e =
    let z : 0 + suc k ≡ suc k = omega arith in
    let y : j + 0 ≡ j = omega arith in
    let e' : get_or s (base + j * 9) 0 ≡ b = rw y at e in
    rw (z, y) (simp (eq-eqb _ _ e'))
find_past s base b (suc a) k j h e = go (eqb (get_or s (base + j * 9) 0) b) refl h (λ g f. find_past s base b a k (j + 1) g f)
  where
    w : suc a + suc k ≡ suc (a + suc k)
    w = omega arith

    y : j + suc a ≡ j + 1 + a
    y = omega arith

    go : (q : Bool) → eqb (get_or s (base + j * 9) 0) b ≡ q → j + suc a ≤ cond q j (find_byte s base b a (j + 1)) →
        (j + 1 + a ≤ find_byte s base b a (j + 1) → get_or s (base + (j + 1 + a) * 9) 0 ≡ b → find_byte s base b (a + suc k) (j + 1) ≡ j + 1 + a) →
        find_byte s base b (suc a + suc k) j ≡ j + suc a
    go true x g ih = absurd (omega arith)
    go false x g ih = rw (w, y) (simp x (ih (omega arith) (rw y at e)))

-- in a table without a fault each entry is the first with its byte
fault_at : (s : List ℕ) (base k i j : ℕ) → 0 ≡ table_fault s base k i → i ≤ j → j < i + k → j ≤ find_byte s base (get_or s (base + j * 9) 0) j 0
unfolding table_fault
fault_at s base zero i j f x y = absurd (omega arith)
fault_at s base (suc k) i j f x y =
    go (leb (length s) (base + i * 9)) (ltb (find_byte s base (get_or s (base + i * 9) 0) i 0) i) refl (ltb (length s) (base + i * 9 + 9)) f (eqb i j) refl (λ g h. fault_at s base k (i + 1) j g h (omega arith))
  where
    go : (a b : Bool) → ltb (find_byte s base (get_or s (base + i * 9) 0) i 0) i ≡ b → (c : Bool) → 0 ≡ cond a 13 (cond b 15 (cond c 13 (table_fault s base k (i + 1)))) →
        (q : Bool) → eqb i j ≡ q → (0 ≡ table_fault s base k (i + 1) → i + 1 ≤ j → j ≤ find_byte s base (get_or s (base + j * 9) 0) j 0) → j ≤ find_byte s base (get_or s (base + j * 9) 0) j 0
    go true b u c g q v ih = absurd (omega arith)
    go false true u c g q v ih = absurd (omega arith)
    go false false u true g q v ih = absurd (omega arith)
    go false false u false g true v ih =
        subst (λ (n : ℕ). n ≤ find_byte s base (get_or s (base + n * 9) 0) n 0) (eqb-true i j v) (ltb-false (find_byte s base (get_or s (base + i * 9) 0) i 0) i u)
    go false false u false g false v ih = let n = eqb-false i j v in ih g (omega arith)

pub find_self : (s : List ℕ) (base n j : ℕ) → 0 ≡ table_fault s base n 0 → j < n → j ≡ find_byte s base (get_or s (base + j * 9) 0) n 0
find_self s base n j f h =
    let g = fault_at s base n 0 j f (omega arith) (omega arith) in
    let z : 0 + j ≡ j = omega arith in
    let e : get_or s (base + (0 + j) * 9) 0 ≡ get_or s (base + j * 9) 0 = rw z refl in
    let w : j + suc (n - (j + 1)) ≡ n = omega arith in
    let p = find_past s base (get_or s (base + j * 9) 0) j (n - (j + 1)) 0 (omega arith) e in
    let r : find_byte s base (get_or s (base + j * 9) 0) n 0 ≡ 0 + j = rw w at p in
    omega (arith, r)

-- Reading nodes: one law for each way out, and what is counted lies within what was read.
-- Assumes nothing.
use Prim.Native.Nat.{◌*◌, ◌+◌, ◌-◌, ◌<◌, ◌≤◌, suc, zero, ℕ}
use native.Mathlib.Nat.{add-zero}
use native.Mathlib.Omega.{arith}
use mathlib.Core.Bool.{Bool, cond, false, true}
use mathlib.Core.List.{List}
use mathlib.Core.Path.{◌∙◌, ◌≡◌, ap, refl, subst, sym}
use lib.Dec.{eqb, leb}
use lib.ListN.{get_or, length}
use borrow.Author.Tests.{eq-eqb, le-leb, leb-false, lt-leb, ne_eqb}
use Rattle.image_format.proofs.Heads.{head_bound}
use Rattle.image_format.proofs.Tables.{open_within}
use Rattle.image_format.specs.Turns.{Skips}
use Rattle.kinds.specs.Kinds.{fits}
use Rattle.image_format.specs.Reading.{HeadRead, Slot, Step, Table, TableRead, Turn, all_met, behind, behind_head, behind_table, by_turn, child, done, fault, flag_turn, gap, head, no_head, no_table, none_due, offset, open_table, read_child, read_head, read_node, read_table, read_turns, skip, slot_at, slot_turn, table, turn_at, wrong}

-- ── what stands where a flag is due ──

module _ (s : List ℕ) (kind at off : ℕ) where
  pub flag_off : (off ≡ at → ⊥) → wrong 15 ≡ slot_turn s kind at (offset off)
  flag_off f = simp (ne_eqb off at f)

  pub flag_cut : off ≡ at → length s ≤ at → wrong 13 ≡ slot_turn s kind at (offset off)
  flag_cut f g = simp (eq-eqb off at f, le-leb _ _ g)

  pub flag_node : off ≡ at → at < length s → get_or s at 0 ≡ 1 → child ≡ slot_turn s kind at (offset off)
  flag_node f g h = simp (eq-eqb off at f, lt-leb _ _ g, eq-eqb _ _ h)

  pub flag_none : off ≡ at → at < length s → get_or s at 0 ≡ 0 → kind ≡ 1 → gap ≡ slot_turn s kind at (offset off)
  flag_none f g h k =
      let n : get_or s at 0 ≡ 1 → ⊥ = omega arith in
      simp (eq-eqb off at f, lt-leb _ _ g, ne_eqb _ _ n, eq-eqb _ _ h, eq-eqb _ _ k)

  pub flag_zero : off ≡ at → at < length s → get_or s at 0 ≡ 0 → (kind ≡ 1 → ⊥) → wrong 15 ≡ slot_turn s kind at (offset off)
  flag_zero f g h k =
      let n : get_or s at 0 ≡ 1 → ⊥ = omega arith in
      simp (eq-eqb off at f, lt-leb _ _ g, ne_eqb _ _ n, eq-eqb _ _ h, ne_eqb _ _ k)

  pub flag_other : off ≡ at → at < length s → (get_or s at 0 ≡ 1 → ⊥) → (get_or s at 0 ≡ 0 → ⊥) → wrong 15 ≡ slot_turn s kind at (offset off)
  flag_other f g h k = simp (eq-eqb off at f, lt-leb _ _ g, ne_eqb _ _ h, ne_eqb _ _ k)

-- a turn, as its slot says
pub turn_by : (s : List ℕ) (p : Table) (i at : ℕ) (v : Slot) → v ≡ slot_at s p i → slot_turn s p.kind at v ≡ turn_at s p i at
unfolding turn_at
turn_by s p i at v e = ap (slot_turn s p.kind at) e

-- with the offset that was read
pub turn_read : (s : List ℕ) (p : Table) (i at : ℕ) (r : Turn) (x off : ℕ) → r ≡ slot_turn s p.kind at (offset x) → x ≡ off → offset off ≡ slot_at s p i → r ≡ turn_at s p i at
turn_read s p i at r x off a e f = a ∙ ap (λ (y : ℕ). slot_turn s p.kind at (offset y)) e ∙ turn_by s p i at (offset off) f

module _ (s : List ℕ) (rd : ℕ → Step) (p : Table) (i at : ℕ) where
  pub child_by : (v : Turn) → v ≡ turn_at s p i at → by_turn rd at v ≡ read_child s rd p i at
  unfolding read_child
  child_by v e = ap (by_turn rd at) e

  pub child_skip : skip ≡ slot_at s p i → done at 0 0 0 ≡ read_child s rd p i at
  child_skip e = child_by none_due (turn_by s p i at skip e)

  pub child_node : (off : ℕ) → offset off ≡ slot_at s p i → off ≡ at → at < length s → get_or s at 0 ≡ 1 → rd (at + 1) ≡ read_child s rd p i at
  child_node off e f g h = child_by child (flag_node s p.kind at off f g h ∙ turn_by s p i at (offset off) e)

  pub child_none : (off : ℕ) → offset off ≡ slot_at s p i → off ≡ at → at < length s → get_or s at 0 ≡ 0 → p.kind ≡ 1 → done (at + 1) 0 0 0 ≡ read_child s rd p i at
  child_none off e f g h k = child_by gap (flag_none s p.kind at off f g h k ∙ turn_by s p i at (offset off) e)

module _ (p : Table) (at met nodes entries : ℕ) where
  pub end_few : p.kind ≡ 1 → fits 1 met ≡ false → fault 15 ≡ all_met p at met nodes entries
  unfolding all_met
  end_few e h = simp (eq-eqb _ _ e, h)

  pub end_dense : p.kind ≡ 1 → fits 1 met ≡ true → done at 1 nodes entries ≡ all_met p at met nodes entries
  unfolding all_met
  end_dense e h = simp (eq-eqb _ _ e, h)

  pub end_sparse : (p.kind ≡ 1 → ⊥) → done at 1 nodes entries ≡ all_met p at met nodes entries
  unfolding all_met
  end_sparse e = simp (ne_eqb _ _ e)

module _ (s : List ℕ) (rd : ℕ → Step) (p : Table) (n i at met nodes entries : ℕ) where
  pub run_end : n ≤ i → all_met p at met nodes entries ≡ read_turns s rd p (n - i) i at met nodes entries
  unfolding read_turns
  run_end h = let e : n - i ≡ 0 = omega arith in rw e refl

  pub run_refused : (c : ℕ) → i < n → fault c ≡ read_child s rd p i at → fault c ≡ read_turns s rd p (n - i) i at met nodes entries
  unfolding read_turns
  run_refused c h f = let e : n - i ≡ suc (n - (i + 1)) = omega arith in rw e (rw (← f))

  pub run_on : (next k a b : ℕ) → i < n → done next k a b ≡ read_child s rd p i at →
      read_turns s rd p (n - (i + 1)) (i + 1) next (met + k) (nodes + a) (entries + b) ≡ read_turns s rd p (n - i) i at met nodes entries
  unfolding read_turns
  run_on next k a b h f = let e : n - i ≡ suc (n - (i + 1)) = omega arith in rw e (rw (← f))

node_step : (s : List ℕ) (left at : ℕ) → (left ≡ 0 → ⊥) → behind_head s (read_node s (left - 1)) (read_head s at) ≡ read_node s left at
unfolding read_node
node_step s zero at h = absurd (h refl)
node_step s (suc d) at h = let e : suc d - 1 ≡ d = omega arith in rw e refl

pub node_zero : (s : List ℕ) (left at : ℕ) → left ≡ 0 → fault 15 ≡ read_node s left at
unfolding read_node
node_zero s left at e = rw e refl

module _ (s : List ℕ) (left at : ℕ) (h : left ≡ 0 → ⊥) where
  pub node_head : (c : ℕ) → no_head c ≡ read_head s at → fault c ≡ read_node s left at
  node_head c e = ap (behind_head s (read_node s (left - 1))) e ∙ node_step s left at h

  pub node_open : (c kind next e : ℕ) → head kind next e ≡ read_head s at → no_table c ≡ open_table s kind next → fault c ≡ read_node s left at
  node_open c kind next e f g = ap (behind_table s (read_node s (left - 1)) e) g ∙ ap (behind_head s (read_node s (left - 1))) f ∙ node_step s left at h

  pub node_table : (c kind next e : ℕ) (p : Table) → head kind next e ≡ read_head s at → table p ≡ open_table s kind next →
      fault c ≡ read_table s (read_node s (left - 1)) p → fault c ≡ read_node s left at
  node_table c kind next e p f g t =
      ap (λ (x : Step). behind x (λ next met nodes more. done next 1 (nodes + 1) (e + more))) t ∙
      ap (behind_table s (read_node s (left - 1)) e) g ∙ ap (behind_head s (read_node s (left - 1))) f ∙ node_step s left at h

  pub node_done : (kind next e : ℕ) (p : Table) (end met nodes more : ℕ) → head kind next e ≡ read_head s at → table p ≡ open_table s kind next →
      done end met nodes more ≡ read_table s (read_node s (left - 1)) p → done end 1 (nodes + 1) (e + more) ≡ read_node s left at
  node_done kind next e p end met nodes more f g t =
      ap (λ (x : Step). behind x (λ next met nodes more. done next 1 (nodes + 1) (e + more))) t ∙
      ap (behind_table s (read_node s (left - 1)) e) g ∙ ap (behind_head s (read_node s (left - 1))) f ∙ node_step s left at h

-- what is counted, is within what was read
abbrev pub Bounded : ℕ → ℕ → Step → Type 0
Bounded n at (fault c) = Unit
Bounded n at (done next met nodes entries) = (met ≤ 1) × (at + met + nodes + entries ≤ next) × (next ≤ n)

abbrev pub Summed : ℕ → ℕ → Step → Type 0
Summed n at (fault c) = Unit
Summed n at (done next met nodes entries) = (at + nodes + entries ≤ next) × (next ≤ n)

bounded_less : (n at : ℕ) (v : Step) → Bounded n (at + 1) v → Bounded n at v
bounded_less n at (fault c) h = tt
bounded_less n at (done next met nodes entries) h = (omega arith, omega arith, omega arith)

-- a flag was read
abbrev pub Flagged : Turn → Type 0
Flagged child = Unit
Flagged gap = Unit
Flagged none_due = ⊥
Flagged (wrong c) = ⊥

pub turn_there : (s : List ℕ) (p : Table) (i at : ℕ) (v : Turn) → turn_at s p i at ≡ v → Flagged v → at < length s
unfolding turn_at
turn_there s p i at v e f = slots (slot_at s p i) e
  where
    slots : (w : Slot) → slot_turn s p.kind at w ≡ v → at < length s
    slots skip d = absurd (subst Flagged (sym d) f)
    slots (offset off) d = go (eqb off at) (leb (length s) at) refl d
      where
        go : (a b : Bool) → leb (length s) at ≡ b → cond a (cond b (wrong 13) (flag_turn p.kind (get_or s at 0))) (wrong 15) ≡ v → at < length s
        go false b x y = absurd (subst Flagged (sym y) f)
        go true true x y = absurd (subst Flagged (sym y) f)
        go true false x y = leb-false (length s) at x

-- a fault has a number that is not 0
pub turn_wrong : (s : List ℕ) (p : Table) (i at c : ℕ) → wrong c ≡ turn_at s p i at → c ≡ 0 → ⊥
unfolding turn_at
turn_wrong s p i at c e z = slots (slot_at s p i) (sym (ap wrong z) ∙ e)
  where
    numbered : {n : ℕ} → wrong 0 ≡ wrong n → 0 < n → ⊥
    numbered {n} f g = let w : ◌≡◌ {A = ℕ} 0 n = cc in omega arith

    slots : (w : Slot) → wrong 0 ≡ slot_turn s p.kind at w → ⊥
    slots skip d = let w : ◌≡◌ {A = ℕ} 0 1 = cc in omega arith
    slots (offset off) d = go (eqb off at) (leb (length s) at) (eqb (get_or s at 0) 1) (eqb (get_or s at 0) 0) (eqb p.kind 1) d
      where
        go : (a b f g h : Bool) → wrong 0 ≡ cond a (cond b (wrong 13) (cond f child (cond g (cond h gap (wrong 15)) (wrong 15)))) (wrong 15) → ⊥
        go false b f g h x = numbered x (omega arith)
        go true true f g h x = numbered x (omega arith)
        go true false true g h x = let w : ◌≡◌ {A = ℕ} 0 1 = cc in omega arith
        go true false false true true x = let w : ◌≡◌ {A = ℕ} 0 1 = cc in omega arith
        go true false false true false x = numbered x (omega arith)
        go true false false false h x = numbered x (omega arith)

module _ (s : List ℕ) (rd : ℕ → Step) (g : (x : ℕ) → x ≤ length s → Bounded (length s) x (rd x)) where
  turn_bounded : (at : ℕ) → at ≤ length s → (v : Turn) → (v ≡ child → at < length s) → (v ≡ gap → at < length s) → Bounded (length s) at (by_turn rd at v)
  turn_bounded at h child x y = bounded_less (length s) at (rd (at + 1)) (g (at + 1) (omega (arith, x refl)))
  turn_bounded at h gap x y = let k = y refl in (omega arith, omega arith, omega arith)
  turn_bounded at h none_due x y = (omega arith, omega arith, omega arith)
  turn_bounded at h (wrong c) x y = tt

  pub child_bound : (p : Table) (i at : ℕ) → at ≤ length s → Bounded (length s) at (read_child s rd p i at)
  unfolding read_child
  child_bound p i at h = turn_bounded at h (turn_at s p i at) (λ e. turn_there s p i at child e tt) (λ e. turn_there s p i at gap e tt)

  run_bound : (p : Table) (k i at met nodes entries a₀ : ℕ) → at ≤ length s → a₀ + nodes + entries ≤ at →
      Summed (length s) a₀ (read_turns s rd p k i at met nodes entries)
  unfolding read_turns all_met
  run_bound p zero i at met nodes entries a₀ h f = go (eqb p.kind 1) (fits 1 met)
    where
      go : (a b : Bool) → Summed (length s) a₀ (cond a (cond b (done at 1 nodes entries) (fault 15)) (done at 1 nodes entries))
      go true true = (f, h)
      go true false = tt
      go false b = (f, h)
  run_bound p (suc k) i at met nodes entries a₀ h f =
      go (read_child s rd p i at) (child_bound p i at h) (λ next c a b. run_bound p k (i + 1) next (met + c) (nodes + a) (entries + b) a₀)
    where
      go : (v : Step) → Bounded (length s) at v →
          ((next c a b : ℕ) → next ≤ length s → a₀ + (nodes + a) + (entries + b) ≤ next →
          Summed (length s) a₀ (read_turns s rd p k (i + 1) next (met + c) (nodes + a) (entries + b))) →
          Summed (length s) a₀ (behind v (λ next c a b. read_turns s rd p k (i + 1) next (met + c) (nodes + a) (entries + b)))
      go (fault c) e ih = tt
      go (done next c a b) e ih = ih next c a b e.2 (omega arith)

  pub table_bound : (p : Table) → p.start ≤ length s → Summed (length s) p.start (read_table s rd p)
  unfolding read_table
  table_bound p h = run_bound p p.turns 0 p.start 0 0 0 p.start h (omega arith)

  head_bounded : (at : ℕ) → (v : HeadRead) → v ≡ read_head s at → Bounded (length s) at (behind_head s rd v)
  head_bounded at (no_head c) e = tt
  head_bounded at (head kind next entries) e = open_go (open_table s kind next) refl (head_bound s at kind next entries e)
    where
      table_go : (p : Table) (v : Step) → Summed (length s) p.start v → at + 25 + 24 * entries ≤ p.start →
          Bounded (length s) at (behind v (λ next met nodes more. done next 1 (nodes + 1) (entries + more)))
      table_go p (fault c) f h = tt
      table_go p (done end met nodes more) f h = (omega arith, omega arith, f.1)

      open_go : (v : TableRead) → v ≡ open_table s kind next → (at + 25 + 24 * entries ≤ next) × (next ≤ length s) → Bounded (length s) at (behind_table s rd entries v)
      open_go (no_table c) f h = tt
      open_go (table p) f h =
          let w = open_within s kind next p f in
          table_go p (read_table s rd p) (table_bound p w.0.start) (omega arith)

pub node_bound : (s : List ℕ) (d at : ℕ) → at ≤ length s → Bounded (length s) at (read_node s d at)
unfolding read_node
node_bound s zero at h = tt
node_bound s (suc d) at h = head_bounded s (read_node s d) (λ x k. node_bound s d x k) at (read_head s at) refl

pub run_start : (s : List ℕ) (rd : ℕ → Step) (p : Table) → read_turns s rd p (p.turns - 0) 0 p.start 0 0 0 ≡ read_table s rd p
unfolding read_table
run_start s rd p = let e : p.turns - 0 ≡ p.turns = omega arith in rw e refl

pub child_sum : (s : List ℕ) (d : ℕ) (p : Table) (i at next k a b : ℕ) → at ≤ length s → done next k a b ≡ read_child s (read_node s d) p i at →
    (k ≤ 1) × (at + k + a + b ≤ next) × (next ≤ length s)
child_sum s d p i at next k a b h e =
    subst (Bounded (length s) at) (sym e) (child_bound s (read_node s d) (λ x f. node_bound s d x f) p i at h)

pub table_sum : (s : List ℕ) (d : ℕ) (p : Table) (end met nodes more : ℕ) → p.start ≤ length s → done end met nodes more ≡ read_table s (read_node s d) p →
    (p.start + nodes + more ≤ end) × (end ≤ length s)
table_sum s d p end met nodes more h e =
    subst (Summed (length s) p.start) (sym e) (table_bound s (read_node s d) (λ x f. node_bound s d x f) p h)

pub run_skip : (s : List ℕ) (rd : ℕ → Step) (p : Table) (n i at met nodes entries next : ℕ) → i < n → done next 0 0 0 ≡ read_child s rd p i at →
    read_turns s rd p (n - (i + 1)) (i + 1) next met nodes entries ≡ read_turns s rd p (n - i) i at met nodes entries
run_skip s rd p n i at met nodes entries next h f = simp add-zero at (run_on s rd p n i at met nodes entries next 0 0 0 h f)

-- turns that judge nothing
run_skips : (k : ℕ) (s : List ℕ) (rd : ℕ → Step) (p : Table) (n i at met nodes entries : ℕ) → i + k < n → ((x : ℕ) → i ≤ x → x < i + k → skip ≡ slot_at s p x) →
    read_turns s rd p (n - (i + k)) (i + k) at met nodes entries ≡ read_turns s rd p (n - i) i at met nodes entries
run_skips zero s rd p n i at met nodes entries h f = simp add-zero
run_skips (suc k) s rd p n i at met nodes entries h f =
    let e : i + suc k ≡ i + 1 + k = omega arith in
    rw e (run_skips k s rd p n (i + 1) at met nodes entries (omega arith) (λ x l u. f x (omega arith) (omega arith))) ∙
    run_skip s rd p n i at met nodes entries at (omega arith) (child_skip s rd p i at (f i (omega arith) (omega arith)))

pub run_to : (s : List ℕ) (rd : ℕ → Step) (p : Table) (i r at met nodes entries : ℕ) → Skips s p i r →
    read_turns s rd p (p.turns - r) r at met nodes entries ≡ read_turns s rd p (p.turns - i) i at met nodes entries
run_to s rd p i r at met nodes entries h =
    let e : i + (r - i) ≡ r = omega (arith, h.from) in
    rw e at (run_skips (r - i) s rd p p.turns i at met nodes entries (omega (arith, h.from, h.last)) (λ x l u. h.none x l (omega (arith, h.from))))

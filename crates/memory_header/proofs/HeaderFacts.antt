-- What a sound header tells, as facts on numbers. Assumes nothing.
use Prim.Native.Nat.{ℕ, ◌≤◌}
use native.Mathlib.Omega.{arith}
use mathlib.Core.Path.{◌≡◌, refl, subst}
use mathlib.Core.Bool.{Bool, true, false, ◌&&◌, not, ◌||◌, cond}
use mathlib.Core.List.{List}
use mathlib.Core.Option.{none, some}
use lib.ListN.{length}
use lib.Dec.{ltb, leb, eqb}
use borrow.Author.Tests.{leb-true, eqb-true, le-leb, eq-eqb}
use Rattle.words.specs.Words.{le64}
use Rattle.definitions.specs.Calls.{Capacity, out_of_range, needed}
use Rattle.definitions.proofs.Views.{Eq, eq, Lt, lt}
use Rattle.memory_header.specs.Layout.{Room, Header, header_at, header_right, header_sound, payload_size, payload_limit}
use Rattle.memory_header.specs.Answers.{heading_at}
use Rattle.definitions.proofs.Tests.{and_left, and_right, and_true}

-- ---- a number that a capacity may be

abbrev pub Range : Bool → ℕ → Type 0
Range true n = (1 ≤ n) × (n ≤ 1048576)
Range false n = 1 ≤ n → n ≤ 1048576 → ⊥

pub range : (n : ℕ) → Range (not (out_of_range n)) n
range n = go (eqb n 0) (ltb 1048576 n) (eq n 0) (lt 1048576 n)
  where
    go : (o₁ o₂ : Bool) → Eq o₁ n 0 → Lt o₂ 1048576 n → Range (not (o₁ || o₂)) n
    go true o₂ e l = λ a b. omega arith
    go false true e l = λ a b. omega arith
    go false false e l = (omega arith, l)

pub in_range : (n : ℕ) → not (out_of_range n) ≡ true → (1 ≤ n) × (n ≤ 1048576)
in_range n e = subst (λ (o : Bool). Range o n) e (range n)

pub is_in_range : (n : ℕ) → 1 ≤ n → n ≤ 1048576 → not (out_of_range n) ≡ true
is_in_range n a b = go (not (out_of_range n)) (range n)
  where
    go : (o : Bool) → Range o n → o ≡ true
    go true r = refl
    go false r = absurd (r a b)

-- ---- the rule of a header

pub record HeaderFacts (m : List ℕ) (h : Header) : Type 0 where
  pub room : 64 ≤ length m
  pub some_nodes : 1 ≤ h.capacity.nodes
  pub few_nodes : h.capacity.nodes ≤ 1048576
  pub some_entries : 1 ≤ h.capacity.entries
  pub few_entries : h.capacity.entries ≤ 1048576
  pub held : needed h.capacity ≤ length m
  pub first_zero : le64 m 48 ≡ 0
  pub second_zero : le64 m 56 ≡ 0
  pub phase : h.phase ≤ 1
  pub nodes : h.nodes ≤ h.capacity.nodes
  pub entries : h.entries ≤ h.capacity.entries
  pub payload : h.payload ≤ payload_limit h

module _ (m : List ℕ) (h : Header) where
  pub header_facts : (leb 64 (length m) && header_sound m h) ≡ true → HeaderFacts m h
  header_facts e =
      let c : Capacity = h.capacity in
      let most : ℕ = payload_limit h in
      let t₉ : Bool = leb h.payload most in
      let t₈ : Bool = leb h.entries c.entries in
      let t₇ : Bool = leb h.nodes c.nodes in
      let t₆ : Bool = leb h.phase 1 in
      let t₅ : Bool = eqb (le64 m 56) 0 in
      let t₄ : Bool = eqb (le64 m 48) 0 in
      let t₃ : Bool = leb (needed c) (length m) in
      let t₂ : Bool = not (out_of_range c.entries) in
      let t₁ : Bool = not (out_of_range c.nodes) in
      let t₀ : Bool = leb 64 (length m) in
      let s₈ : Bool = t₈ && t₉ in
      let s₇ : Bool = t₇ && s₈ in
      let s₆ : Bool = t₆ && s₇ in
      let s₅ : Bool = t₅ && s₆ in
      let s₄ : Bool = t₄ && s₅ in
      let s₃ : Bool = t₃ && s₄ in
      let s₂ : Bool = t₂ && s₃ in
      let s₁ : Bool = t₁ && s₂ in
      let e₁ : s₁ ≡ true = and_right t₀ s₁ e in
      let e₂ : s₂ ≡ true = and_right t₁ s₂ e₁ in
      let e₃ : s₃ ≡ true = and_right t₂ s₃ e₂ in
      let e₄ : s₄ ≡ true = and_right t₃ s₄ e₃ in
      let e₅ : s₅ ≡ true = and_right t₄ s₅ e₄ in
      let e₆ : s₆ ≡ true = and_right t₅ s₆ e₅ in
      let e₇ : s₇ ≡ true = and_right t₆ s₇ e₆ in
      let e₈ : s₈ ≡ true = and_right t₇ s₈ e₇ in
      let a = in_range c.nodes (and_left t₁ s₂ e₁) in
      let b = in_range c.entries (and_left t₂ s₃ e₂) in
      record {
        room = leb-true 64 (length m) (and_left t₀ s₁ e);
        some_nodes = a.0;
        few_nodes = a.1;
        some_entries = b.0;
        few_entries = b.1;
        held = leb-true (needed c) (length m) (and_left t₃ s₄ e₃);
        first_zero = eqb-true (le64 m 48) 0 (and_left t₄ s₅ e₄);
        second_zero = eqb-true (le64 m 56) 0 (and_left t₅ s₆ e₅);
        phase = leb-true h.phase 1 (and_left t₆ s₇ e₆);
        nodes = leb-true h.nodes c.nodes (and_left t₇ s₈ e₇);
        entries = leb-true h.entries c.entries (and_left t₈ t₉ e₈);
        payload = leb-true h.payload most (and_right t₈ t₉ e₈);
      }

  pub facts_header : HeaderFacts m h → (leb 64 (length m) && header_sound m h) ≡ true
  facts_header f =
      and_true (le-leb 64 (length m) f.room)
      (and_true (is_in_range h.capacity.nodes f.some_nodes f.few_nodes)
      (and_true (is_in_range h.capacity.entries f.some_entries f.few_entries)
      (and_true (le-leb (needed h.capacity) (length m) f.held)
      (and_true (eq-eqb (le64 m 48) 0 f.first_zero)
      (and_true (eq-eqb (le64 m 56) 0 f.second_zero)
      (and_true (le-leb h.phase 1 f.phase)
      (and_true (le-leb h.nodes h.capacity.nodes f.nodes)
      (and_true (le-leb h.entries h.capacity.entries f.entries)
      (le-leb h.payload (payload_limit h) f.payload)))))))))

  -- the memory has room for the capacity
  pub facts_room : HeaderFacts m h → Room m h.capacity
  facts_room f = record { some_nodes = f.some_nodes; few_nodes = f.few_nodes; some_entries = f.some_entries; few_entries = f.few_entries; held = f.held }

  -- the pieces of an open index are no more than its entries
  pub open_payload : HeaderFacts m h → h.phase ≡ 0 → h.payload ≤ h.capacity.entries
  open_payload f e = subst (λ (o : Bool). h.payload ≤ cond o h.capacity.entries (payload_size h.capacity)) (eq-eqb h.phase 0 e) f.payload

-- ---- the heading of a memory

module _ (m : List ℕ) where
  pub heading_some : HeaderFacts m (header_at m) → some (header_at m) ≡ heading_at m
  heading_some f = rw (facts_header m (header_at m) f)

  pub heading_is : (h : Header) → heading_at m ≡ some h → HeaderFacts m h × (header_at m ≡ h)
  heading_is h e = go (header_right m) refl e
    where
      go : (o : Bool) → header_right m ≡ o → cond o (some (header_at m)) none ≡ some h → HeaderFacts m h × (header_at m ≡ h)
      go true r f =
          let g : header_at m ≡ h = cc in
          (subst (HeaderFacts m) g (header_facts m (header_at m) r), g)
      go false r f = absurd (let z : ◌≡◌ {A = ℕ} 0 1 = cc in omega arith)

-- What a memory holds, by its header: what is known of an open index, and when there is one. Assumes nothing.
use Prim.Native.Nat.{ℕ, ◌+◌, ◌*◌, ◌≤◌, ◌<◌}
use native.Mathlib.Omega.{arith}
use mathlib.Core.Path.{◌≡◌, refl, sym, ap, ◌∙◌, subst}
use mathlib.Core.Bool.{Bool, true, false, ◌&&◌, cond}
use mathlib.Core.Logic.{inr}
use mathlib.Core.List.Memᴰ.{not-nil}
use mathlib.Core.List.{List, [], Memᴰ as Mem}
use mathlib.Core.Option.{Option, none, some}
use lib.ListN.{length, get_or}
use lib.Dec.{eqb}
use borrow.Author.Tests.{eqb-true, eq-eqb, ne_eqb}
use Rattle.words.specs.Holding.{Holds}
use Rattle.words.proofs.Holding.{holds_ext, stands_holds, holds_stands}
use Rattle.words.proofs.Parts.{get_or_sets_out}
use Rattle.definitions.specs.Blocks.{Piece, nodes_tallied, entries_tallied}
use Rattle.definitions.specs.Calls.{Capacity}
use Rattle.definitions.specs.Conflicts.{free}
use Rattle.conflicts.specs.Order.{enter_all, entries_bytes, certificate}
use Rattle.image_format.specs.Reading.{Layout, right, refused}
use Rattle.image_format.specs.Check.{check_image}
use Rattle.image_format.specs.Held.{trie_in}
use Rattle.memory_header.specs.Layout.{Room, Header, work_at, header_at, header_bytes, with_header, header_right}
use Rattle.memory_header.specs.Opening.{open_memory}
use Rattle.index_memory.specs.Log.{log_in, log_sound}
use Rattle.index_memory.specs.Index.{broken, opened, finished, open_header, log_right, certified, order_right, open_index, finished_index, if_right, read_index, image_part}
use Rattle.memory_header.specs.Answers.{heading_at}
use Rattle.definitions.proofs.Tests.{and_left, and_right, both, and_true}
use Rattle.index_memory.proofs.LogBytes.{AllSound, log_elsewhere, log_in_bytes, length_log_in, log_sound_is, is_log_sound}
use Rattle.index_memory.proofs.Charges.{charge_count}
use Rattle.memory_header.proofs.HeaderBytes.{length_header}
use Rattle.memory_header.proofs.HeaderFacts.{HeaderFacts, header_facts, facts_room, heading_some, open_payload}
use Rattle.memory_header.proofs.Opening.{open_holds, open_taken, head_at, head_facts}

-- ---- by the heading

-- no sound header: the memory holds nothing
pub index_broken : (m : List ℕ) → heading_at m ≡ none → read_index m ≡ broken
unfolding read_index
index_broken m e = go (header_right m) e
  where
    go : (o : Bool) → ◌≡◌ {A = Option Header} (cond o (some (header_at m)) none) none
        → cond o (cond (eqb (header_at m).phase 0) (open_index m (header_at m)) (finished_index m (header_at m))) broken ≡ broken
    go true f = absurd (let z : ◌≡◌ {A = ℕ} 0 1 = cc in omega arith)
    go false f = refl

module _ (m : List ℕ) (h : Header) where
  by_phase : heading_at m ≡ some h → read_index m ≡ cond (eqb h.phase 0) (open_index m h) (finished_index m h)
  unfolding read_index
  by_phase e = go (header_right m) e
    where
      go : (o : Bool) → cond o (some (header_at m)) none ≡ some h
          → cond o (cond (eqb (header_at m).phase 0) (open_index m (header_at m)) (finished_index m (header_at m))) broken ≡ cond (eqb h.phase 0) (open_index m h) (finished_index m h)
      go true f =
          let g : header_at m ≡ h = cc in
          ap (λ (x : Header). cond (eqb x.phase 0) (open_index m x) (finished_index m x)) g
      go false f = absurd (let z : ◌≡◌ {A = ℕ} 0 1 = cc in omega arith)

  -- phase 0: the log and its certificate decide
  pub index_by_log : heading_at m ≡ some h → h.phase ≡ 0 → read_index m ≡ open_index m h
  index_by_log e z = by_phase e ∙ rw (eq-eqb h.phase 0 z)

  pub open_by_log : heading_at m ≡ some h → h.phase ≡ 0 → log_right m h ≡ true → order_right m h ≡ true → read_index m ≡ opened h.capacity (log_in m h.payload 64)
  open_by_log e z t u = index_by_log e z ∙ rw (and_true t u)

  pub broken_by_log : heading_at m ≡ some h → h.phase ≡ 0 → log_right m h ≡ false → read_index m ≡ broken
  broken_by_log e z t = index_by_log e z ∙ rw t

  pub broken_by_order : heading_at m ≡ some h → h.phase ≡ 0 → log_right m h ≡ true → order_right m h ≡ false → read_index m ≡ broken
  broken_by_order e z t u = index_by_log e z ∙ rw (t, u)

  -- phase 1: the image decides
  pub index_by_image : heading_at m ≡ some h → (h.phase ≡ 0 → ⊥) → read_index m ≡ finished_index m h
  index_by_image e z = by_phase e ∙ rw (ne_eqb h.phase 0 z)

-- ---- an open index

pub record OpenIs (m : List ℕ) (c : Capacity) (ps : List Piece) : Type 0 where
  pub header : HeaderFacts m (header_at m)
  pub capacity : (header_at m).capacity ≡ c
  pub phase : (header_at m).phase ≡ 0
  pub nodes : (header_at m).nodes ≡ nodes_tallied ps
  pub entries : (header_at m).entries ≡ entries_tallied ps
  pub payload : (header_at m).payload ≡ length ps
  pub log : ps ≡ log_in m (header_at m).payload 64
  pub sound : AllSound ps
  pub few_nodes : nodes_tallied ps ≤ c.nodes
  pub few_entries : entries_tallied ps ≤ c.entries
  pub apart : free ps ≡ true
  pub certified : Holds m (work_at c) (certificate ps)

-- the log lies within the memory
pub open_room : (m : List ℕ) (h : Header) → HeaderFacts m h → h.phase ≡ 0 → 64 + 48 * h.payload ≤ length m
open_room m h f z = omega (arith, open_payload m h f z, f.held)

-- a finished index is not open
not_finished : (l : Layout) (h : Header) (s : List ℕ) (c : Capacity) (ps : List Piece) → if_right l h s ≡ opened c ps → ⊥
not_finished (refused n) h s c ps e = let z : ◌≡◌ {A = ℕ} 0 1 = cc in omega arith
not_finished (right nodes entries) h s c ps e = go (eqb h.nodes nodes && eqb h.entries entries) e
  where
    go : (o : Bool) → cond o (finished h.capacity (trie_in s)) broken ≡ opened c ps → ⊥
    go true f = let z : ◌≡◌ {A = ℕ} 0 1 = cc in omega arith
    go false f = let z : ◌≡◌ {A = ℕ} 0 1 = cc in omega arith

module _ (m : List ℕ) (c : Capacity) (ps : List Piece) where
  from_tests : header_right m ≡ true → (header_at m).phase ≡ 0 → log_right m (header_at m) ≡ true → order_right m (header_at m) ≡ true
      → opened (header_at m).capacity (log_in m (header_at m).payload 64) ≡ opened c ps → OpenIs m c ps
  from_tests r z t u e =
      let h : Header = header_at m in
      let f : HeaderFacts m h = header_facts m h r in
      let log : List Piece = log_in m h.payload 64 in
      let cap : h.capacity ≡ c = cc in
      let is : log ≡ ps = cc in
      let a : Bool = log_sound m h.payload 64 in
      let b : Bool = eqb h.nodes (nodes_tallied log) in
      let d : Bool = eqb h.entries (entries_tallied log) in
      let t' : (b && d) ≡ true = and_right a (b && d) t in
      let n : h.nodes ≡ nodes_tallied log = eqb-true h.nodes (nodes_tallied log) (and_left b d t') in
      let k : h.entries ≡ entries_tallied log = eqb-true h.entries (entries_tallied log) (and_right b d t') in
      let s : AllSound log = log_sound_is m h.payload 64 (open_room m h f z) (and_left a (b && d) t) in
      let o : (free log ≡ true) × (certified m h.capacity log ≡ true) = both (free log) (certified m h.capacity log) u in
      let held : Holds m (work_at h.capacity) (certificate log) = stands_holds m (work_at h.capacity) (certificate log) o.1 in
      let n' : h.nodes ≡ nodes_tallied ps = n ∙ ap nodes_tallied is in
      let k' : h.entries ≡ entries_tallied ps = k ∙ ap entries_tallied is in
      let cn : h.capacity.nodes ≡ c.nodes = ap (λ (x : Capacity). x.nodes) cap in
      let ce : h.capacity.entries ≡ c.entries = ap (λ (x : Capacity). x.entries) cap in
      record {
        header = f;
        capacity = cap;
        phase = z;
        nodes = n';
        entries = k';
        payload = sym (length_log_in m h.payload 64) ∙ ap (λ (x : List Piece). length x) is;
        log = sym is;
        sound = subst AllSound is s;
        few_nodes = omega (arith, f.nodes);
        few_entries = omega (arith, f.entries);
        apart = subst (λ (x : List Piece). free x ≡ true) is o.0;
        certified = subst (λ (x : List Piece). Holds m (work_at c) (certificate x)) is (subst (λ (x : Capacity). Holds m (work_at x) (certificate log)) cap held);
      }

  -- what is known of an open index
  pub open_is : read_index m ≡ opened c ps → OpenIs m c ps
  unfolding read_index
  open_is e = go (header_right m) refl (eqb (header_at m).phase 0) refl (log_right m (header_at m) && order_right m (header_at m)) refl e
    where
      go : (o₁ : Bool) → header_right m ≡ o₁ → (o₂ : Bool) → eqb (header_at m).phase 0 ≡ o₂ → (o₃ : Bool) → (log_right m (header_at m) && order_right m (header_at m)) ≡ o₃
          → cond o₁ (cond o₂ (cond o₃ (opened (header_at m).capacity (log_in m (header_at m).payload 64)) broken) (finished_index m (header_at m))) broken ≡ opened c ps
          → OpenIs m c ps
      go true r true p true t f = let b = both (log_right m (header_at m)) (order_right m (header_at m)) t in from_tests r (eqb-true (header_at m).phase 0 p) b.0 b.1 f
      go true r true p false t f = absurd (let z : ◌≡◌ {A = ℕ} 0 1 = cc in omega arith)
      go true r false p o₃ t f = absurd (not_finished (check_image (image_part m (header_at m))) (header_at m) (image_part m (header_at m)) c ps f)
      go false r o₂ p o₃ t f = absurd (let z : ◌≡◌ {A = ℕ} 0 1 = cc in omega arith)

-- the pieces of an open index in a memory of bytes
pub open_bytes : (m : List ℕ) (c : Capacity) (ps : List Piece) → ((k : ℕ) → get_or m k 0 < 256) → OpenIs m c ps → (p : Piece) → Mem p ps → (k : ℕ) → get_or p.bytes k 0 < 256
open_bytes m c ps b o p h = log_in_bytes m (header_at m).payload 64 b p (subst (λ (x : List Piece). Mem p x) o.log h)

-- the memory of an open index holds its capacity
pub room_open : (m : List ℕ) (c : Capacity) (ps : List Piece) → OpenIs m c ps → Room m c
room_open m c ps o = subst (Room m) o.capacity (facts_room m (header_at m) o.header)

-- and its header counts its pieces
pub open_counted : (m : List ℕ) (c : Capacity) (ps : List Piece) → OpenIs m c ps → header_at m ≡ open_header c ps
open_counted m c ps o = λ i. record { capacity = o.capacity i; phase = o.phase i; nodes = o.nodes i; entries = o.entries i; payload = o.payload i }

-- ---- a memory that an index is made in

-- with the header that counts its log, and the certificate there, a memory holds an open index
pub put_holds : (m : List ℕ) (c : Capacity) (ps : List Piece) → Room m c → nodes_tallied ps ≤ c.nodes → entries_tallied ps ≤ c.entries → AllSound ps
    → log_in m (length ps) 64 ≡ ps → free ps ≡ true → Holds m (work_at c) (certificate ps)
    → read_index (with_header m (open_header c ps)) ≡ opened c ps
put_holds m c ps o n e s l a q =
    let h : Header = open_header c ps in
    let few : length ps ≤ c.entries = omega (arith, charge_count ps) in
    let at : header_at (with_header m h) ≡ h = head_at m c (nodes_tallied ps) (entries_tallied ps) (length ps) o n e few in
    let f : HeaderFacts (with_header m h) h = head_facts m c (nodes_tallied ps) (entries_tallied ps) (length ps) o n e few in
    let log : log_in (with_header m h) (length ps) 64 ≡ ps =
    log_elsewhere (header_bytes h) m 0 (length ps) 64 (omega (arith, o.held)) (subst AllSound (sym l) s) (inr (omega (arith, length_header h))) ∙ l in
    let t : log_right (with_header m h) h ≡ true =
    and_true (is_log_sound (with_header m h) (length ps) 64 (open_room (with_header m h) h f refl) (subst AllSound (sym log) s))
    (and_true (eq-eqb (nodes_tallied ps) _ (ap nodes_tallied (sym log))) (eq-eqb (entries_tallied ps) _ (ap entries_tallied (sym log)))) in
    let behind : Holds (with_header m h) (work_at c) (certificate ps) = holds_ext m (with_header m h) (work_at c) (certificate ps) (λ k a b. get_or_sets_out (header_bytes h) m 0 k (inr (omega (arith, length_header h)))) q in
    let u : order_right (with_header m h) h ≡ true = subst (λ (x : List Piece). (free x && certified (with_header m h) c x) ≡ true) (sym log) (and_true a (holds_stands (with_header m h) (work_at c) (certificate ps) behind)) in
    let head : some h ≡ heading_at (with_header m h) = ap {B = Option Header} some (sym at) ∙ heading_some (with_header m h) (subst (HeaderFacts (with_header m h)) (sym at) f) in
    open_by_log (with_header m h) h (sym head) refl t u ∙ ap (opened c) log

-- where opening is not refused, the memory holds an open index with no pieces
pub opened_fresh : (m : List ℕ) (c : Capacity) → (open_memory m c).refusal ≡ 0 → read_index (open_memory m c).memory ≡ opened c []
unfolding log_in enter_all entries_bytes Holds
opened_fresh m c e =
    let o : Room m c = open_holds m c e in
    ap read_index (sym (open_taken m c o).1) ∙ put_holds m c [] o o.some_nodes (omega arith) (λ p k. absurd (not-nil k)) refl refl tt

-- Reading a log piece by piece: what is left to be read, with the charges so far, always decides the same. Assumes nothing.
use Prim.Native.Nat.{ℕ, suc, ◌+◌, ◌-◌, ◌*◌, ◌≤◌, ◌<◌}
use native.Mathlib.Omega.{arith}
use mathlib.Core.Path.{◌≡◌, refl, sym, ap, ◌∙◌}
use mathlib.Core.Bool.{Bool, true, false, ◌&&◌}
use mathlib.Core.List.{List}
use mathlib.Core.Option.{some}
use lib.ListN.{length}
use lib.Dec.{ltb, leb, eqb}
use borrow.Author.Tests.{eq-eqb, ne_eqb, leb-true}
use Rattle.words.specs.Words.{le64}
use Rattle.definitions.specs.Blocks.{Piece, node_charge, entry_charge, charge}
use Rattle.definitions.specs.Calls.{last_number}
use Rattle.memory_header.specs.Layout.{Header}
use Rattle.index_memory.specs.Log.{piece_in, log_in, piece_sound, log_sound}
use Rattle.index_memory.specs.Index.{log_right}
use Rattle.memory_header.specs.Answers.{heading_at}
use Rattle.index_memory.proofs.Charges.{node_bound, entry_max}
use Rattle.definitions.proofs.Tests.{and_left}
use Rattle.index_memory.proofs.LogBytes.{piece_length}
use Rattle.memory_header.proofs.HeaderFacts.{HeaderFacts, heading_is, open_payload}

-- a sound piece has at most 16 bytes
pub sound_small : (m : List ℕ) (p : ℕ) → piece_sound m p ≡ true → le64 m p ≤ 16
sound_small m p s =
    leb-true (le64 m p) 16 (and_left (leb (le64 m p) 16) (ltb (le64 m (p + 32)) (le64 m (p + 40)) && leb (le64 m (p + 24) + le64 m p) last_number) s)

-- ---- the walk along a log

-- n pieces from p on are sound, and their charges, on top of those so far, make the tally
abbrev log_test : List ℕ → ℕ → ℕ → ℕ → ℕ → Header → Bool
log_test m n p nodes entries h =
    log_sound m n p && (eqb h.nodes (nodes + charge node_charge (log_in m n p)) && eqb h.entries (entries + charge entry_charge (log_in m n p)))

module _ (m : List ℕ) (h : Header) where
  walk_on : (n p nodes entries : ℕ) → p + 48 ≤ length m → piece_sound m p ≡ true
      → log_test m (suc n) p nodes entries h ≡ log_test m n (p + 48) (nodes + node_charge (le64 m p)) (entries + entry_charge (le64 m p)) h
  unfolding log_sound log_in
  walk_on n p nodes entries r s =
      let rest : List Piece = log_in m n (p + 48) in
      let k : ℕ = length (piece_in m p).bytes in
      let l : k ≡ le64 m p = piece_length m p r (sound_small m p s) in
      let a : nodes + (node_charge k + charge node_charge rest) ≡ nodes + node_charge k + charge node_charge rest = omega arith in
      let b : entries + (entry_charge k + charge entry_charge rest) ≡ entries + entry_charge k + charge entry_charge rest = omega arith in
      rw (s, a, b, l) refl

  -- what holds between two pieces
  pub record Walking (nodes entries at left : ℕ) : Type 0 where
    pub room : at + 48 * left ≤ length m
    pub few : h.payload ≤ 1048576
    pub nodes_bound : nodes + 136 * left ≤ 1 + 136 * h.payload
    pub entries_bound : entries + 32 * left ≤ 32 * h.payload
    pub same : log_test m left at nodes entries h ≡ log_right m h

  pub walk_start : heading_at m ≡ some h → h.phase ≡ 0 → Walking 1 0 64 h.payload
  walk_start e z =
      let f : HeaderFacts m h = (heading_is m h e).0 in
      let p : h.payload ≤ h.capacity.entries = open_payload m h f z in
      record {
        room = omega (arith, f.held);
        few = omega (arith, f.few_entries);
        nodes_bound = omega arith;
        entries_bound = omega arith;
        same =
            let s : 0 + charge entry_charge (log_in m h.payload 64) ≡ charge entry_charge (log_in m h.payload 64) = omega arith in
            rw s;
      }

  pub walk_refused : {nodes entries at left : ℕ} → Walking nodes entries at left → 0 < left → (o : Bool) → o ≡ piece_sound m at → o ≡ false → false ≡ log_right m h
  unfolding log_sound
  walk_refused {nodes} {entries} {at} {left} w l o e f =
      let s : left ≡ suc (left - 1) = omega arith in
      let z : piece_sound m at ≡ false = sym e ∙ f in
      let t : log_test m (suc (left - 1)) at nodes entries h ≡ false = rw z in
      sym t ∙ sym (ap (λ (k : ℕ). log_test m k at nodes entries h) s) ∙ w.same

  pub walk_turn : {nodes entries at left : ℕ} → Walking nodes entries at left → 0 < left → (o : Bool) → o ≡ piece_sound m at → o ≡ true
      → (n : ℕ) → n ≡ le64 m at → (a b : ℕ) → a ≡ node_charge n → b ≡ entry_charge n → Walking (nodes + a) (entries + b) (at + 48) (left - 1)
  walk_turn {nodes} {entries} {at} {left} w l o e f n g a b p q =
      let s : left ≡ suc (left - 1) = omega arith in
      let sound : piece_sound m at ≡ true = sym e ∙ f in
      let small : n ≤ 16 = omega (arith, sound_small m at sound) in
      let u : log_test m (left - 1) (at + 48) (nodes + a) (entries + b) h ≡ log_test m (left - 1) (at + 48) (nodes + node_charge (le64 m at)) (entries + entry_charge (le64 m at)) h =
      rw (p, q, g) refl in
      record {
        room = omega (arith, w.room);
        few = w.few;
        nodes_bound = omega (arith, w.nodes_bound, node_bound n small);
        entries_bound = omega (arith, w.entries_bound, entry_max n);
        same =
            u ∙ sym (walk_on (left - 1) at nodes entries (omega (arith, w.room)) sound)
            ∙ sym (ap (λ (k : ℕ). log_test m k at nodes entries h) s) ∙ w.same;
      }

  walk_end : {nodes entries at left : ℕ} → Walking nodes entries at left → left ≤ 0 → (eqb h.nodes nodes && eqb h.entries entries) ≡ log_right m h
  unfolding log_sound log_in
  walk_end {nodes} {entries} {at} {left} w l =
      let s : left ≡ 0 = omega arith in
      let a : nodes + 0 ≡ nodes = omega arith in
      let b : entries + 0 ≡ entries = omega arith in
      let t : log_test m 0 at nodes entries h ≡ (eqb h.nodes nodes && eqb h.entries entries) = rw (a, b) in
      sym t ∙ sym (ap (λ (k : ℕ). log_test m k at nodes entries h) s) ∙ w.same

  -- at the end the tally decides
  pub walk_nodes : {nodes entries at left : ℕ} → Walking nodes entries at left → left ≤ 0 → (h.nodes ≡ nodes → ⊥) → false ≡ log_right m h
  walk_nodes {nodes} {entries} w l d =
      let t : (eqb h.nodes nodes && eqb h.entries entries) ≡ false = rw (ne_eqb h.nodes nodes d) in
      sym t ∙ walk_end w l

  pub walk_entries : {nodes entries at left : ℕ} → Walking nodes entries at left → left ≤ 0 → h.nodes ≡ nodes → eqb h.entries entries ≡ log_right m h
  walk_entries {nodes} {entries} w l d =
      let t : (eqb h.nodes nodes && eqb h.entries entries) ≡ eqb h.entries entries = rw (eq-eqb h.nodes nodes d) in
      sym t ∙ walk_end w l

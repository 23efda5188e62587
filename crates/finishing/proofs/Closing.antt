-- The memory in which the image of a log stands, closed. Assumes nothing.
use Prim.Native.Nat.{ℕ, ◌+◌, ◌-◌, ◌≤◌}
use native.Mathlib.Omega.{arith}
use mathlib.Core.Path.{◌≡◌, ap, subst, ◌∙◌}
use mathlib.Core.Logic.{inr}
use mathlib.Core.List.{List}
use lib.ListN.{length, get_or}
use Rattle.words.specs.Holding.{Holds}
use Rattle.records.proofs.Bytes.{Bytes}
use Rattle.definitions.specs.Calls.{Capacity, needed}
use Rattle.trie.specs.Trie.{Trie, nodes, entries}
use Rattle.trie.specs.Build.{trie_of}
use Rattle.image_format.specs.Image.{image}
use Rattle.tally.specs.Tallied.{finished}
use Rattle.tally.specs.declared.Tally.{Tally}
use Rattle.memory_header.specs.Layout.{Header, work_at}
use Rattle.memory_header.specs.Answers.{header_of}
use Rattle.header_tally.specs.Tallies.{with_tally}
use Rattle.index_memory.specs.Log.{log_in}
use Rattle.memory_header.specs.declared.Header as C
use Rattle.index_memory.proofs.Holding.{OpenIs}
use Rattle.list_writer.specs.declared.End.{End}
use Rattle.node_writer.specs.Images.{ImageWritten}
use Rattle.finished_memory.specs.Finished.{finished_header, finished_memory, closed, Closable}
use Rattle.finished_memory.proofs.Standing.{closed_is}
use Rattle.finishing.specs.Steps.{TailsSorted}
use Rattle.finishing.proofs.Image.{held_memory, small_nodes, small_entries, few_tails, trie_is}

module _ (m : List ℕ) (c : Capacity) (pieces : ℕ) (b : Bytes m) (o : OpenIs m c (log_in m pieces 64)) (work : ℕ) (at : work ≡ work_at c)
    (s : List ℕ) (n : ℕ) (w : TailsSorted m s pieces work n) (s' : List ℕ) (r : End) (v : ImageWritten s s' work n r) where
  abbrev t : Trie
  t = trie_of (log_in m pieces 64)

  -- the header that is written
  abbrev h : Header
  h = record { capacity = c; phase = 1; nodes = r.nodes; entries = r.entries; payload = r.at - 64 }

  stands : Holds s' 64 (image t)
  stands = subst (λ (u : Trie). Holds s' 64 (image u)) (trie_is m c pieces b o work at s n w) v.bytes

  ends : r.at ≡ 64 + length (image t)
  ends = v.at ∙ ap (λ (u : Trie). 64 + length (image u)) (trie_is m c pieces b o work at s n w)

  long : length s' ≡ length m
  long = v.long ∙ w.long

  is_header : h ≡ finished_header c t
  is_header =
      let e : r.nodes ≡ nodes t = v.nodes ∙ ap nodes (trie_is m c pieces b o work at s n w) in
      let f : r.entries ≡ entries t = v.entries ∙ ap entries (trie_is m c pieces b o work at s n w) in
      let g : r.at - 64 ≡ length (image t) = omega (arith, ends) in
      λ i. record { capacity = c; phase = 1; nodes = e i; entries = f i; payload = g i }

  -- the tails lie within what the capacity needs
  behind : (k : ℕ) → needed c ≤ k → get_or s' k 0 ≡ get_or m k 0
  behind k l = v.behind k (omega arith) ∙ w.kept k (inr (omega (arith, w.count, few_tails m c pieces b o)))

  -- a header of that capacity, whatever its tally and phase
  pub room_for : (g : Header) → g.capacity ≡ c → 64 + g.payload ≤ needed c → Closable s' g
  room_for g same fits =
      let n : g.capacity.nodes ≡ c.nodes = ap (λ (x : Capacity). x.nodes) same in
      let e : g.capacity.entries ≡ c.entries = ap (λ (x : Capacity). x.entries) same in
      record {
        nodes = omega (arith, small_nodes m c pieces b o);
        entries = omega (arith, small_entries m c pieces b o);
        payload = omega arith;
        held = omega (arith, long, held_memory m c pieces b o);
      }

  stand : closed s' h ≡ finished_memory m c t
  stand = ap (closed s') is_header ∙ closed_is m s' c t long stands (omega (arith, v.within, ends)) (held_memory m c pieces b o) behind

  -- that header, as it is made of the old one: the tally is lent to `finish`
  module _ (old new : C.Header) (same : (header_of old).capacity ≡ c) where
    pub closable : (y : Tally) → new ≡ with_tally old y (r.at - 64) → Closable s' (header_of new)
    closable y e = room_for (header_of new) (ap (λ (x : C.Header). (header_of x).capacity) e ∙ same) (omega (arith, ap (λ (x : C.Header). (header_of x).payload) e, v.within, ends))

    pub closes : new ≡ with_tally old (finished r.nodes r.entries) (r.at - 64) → closed s' (header_of new) ≡ finished_memory m c t
    closes e =
        let made : header_of new ≡ h = ap header_of e ∙ (λ i. record { capacity = same i; phase = 1; nodes = r.nodes; entries = r.entries; payload = r.at - 64 }) in
        ap (closed s') made ∙ stand

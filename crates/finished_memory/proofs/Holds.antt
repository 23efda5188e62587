-- The memory of a finished index holds its trie, and what a memory holds fits into it. Assumes nothing.
use Prim.Native.Nat.{ℕ, ◌+◌, ◌-◌, ◌*◌, ◌^◌, ◌≤◌, ◌<◌}
use native.Mathlib.Omega.{arith}
use mathlib.Core.Path.{◌≡◌, refl, sym, ap, ◌∙◌, subst}
use mathlib.Core.Bool.{Bool, true, false, ◌&&◌, cond}
use mathlib.Core.Logic.{◌⊎◌, inl, inr}
use mathlib.Core.List.{List, ◌++◌, append_assoc}
use mathlib.Core.Option.{some}
use lib.ListN.{length, get_or, take, drop, replicate, length-append, length-replicate, length-take, length-drop, get_or-eq_default}
use lib.Seq.{sets, length-sets, sets-eq, take-append_seam, drop-append_seam, get_or-take, get_or-drop}
use lib.Dec.{eqb}
use borrow.Author.Tests.{eq-eqb, eqb-true}
use Rattle.std.proofs.lemmas.Bool.{cases_lt}
use Rattle.words.specs.Words.{le64}
use Rattle.words.proofs.Parts.{sets_append, le64_sets_other}
use Rattle.definitions.specs.Calls.{Capacity, needed}
use Rattle.definitions.specs.Conflicts.{free}
use Rattle.trie.specs.Trie.{Trie, nodes, entries, trie_pieces}
use Rattle.trie.specs.Test.{index_rule}
use Rattle.image_format.specs.Image.{image}
use Rattle.image_format.specs.Reading.{Layout, right, refused, read_image}
use Rattle.image_format.specs.Held.{trie_in}
use Rattle.image_format.specs.Savable.{AllBytes, Savable}
use Rattle.image_format.proofs.Sizes.{image_size}
use Rattle.image_format.proofs.Theorems.{image_read, read_image_is}
use Rattle.image_format.specs.Check.{check_image}
use Rattle.image_format.proofs.Verdict.{check_accepts, image_passes}
use Rattle.memory_header.specs.Layout.{Room, Header, header_at, header_bytes, header_right}
use Rattle.memory_header.specs.Answers.{heading_at}
use Rattle.index_memory.specs.Log.{log_in}
use Rattle.index_memory.specs.Index.{Index, broken, opened, finished, log_right, order_right, open_index, read_index, image_part, if_right, finished_index}
use Rattle.memory_header.proofs.HeaderBytes.{HeaderFits, length_header, header_written, first_zero, second_zero}
use Rattle.memory_header.proofs.HeaderFacts.{HeaderFacts, header_facts, facts_room, heading_some}
use Rattle.index_memory.proofs.Holding.{index_by_image}
use Rattle.definitions.proofs.Tests.{and_left, and_right}
use Rattle.finished_memory.specs.Finished.{finished_header, finished_memory}
use Rattle.finished_memory.specs.Room.{capacity_of, Within}

-- ── the memory of a finished index holds its trie ──

module _ (m : List ℕ) (c : Capacity) (t : Trie) (r : Room m c) (w : Within c t) (v : Savable t) where
  abbrev h : Header
  h = finished_header c t

  size : length (image t) ≤ 64 * nodes t + 24 * entries t
  size = image_size t v.shaped

  abbrev rest : List ℕ
  rest = image t ++ replicate (needed c - (64 + length (image t))) 0

  abbrev written : List ℕ
  written = sets m 0 (header_bytes h)

  abbrev memory : List ℕ
  memory = finished_memory m c t

  memory_is : memory ≡ sets written 64 rest
  memory_is = sets_append m 0 (header_bytes h) rest ∙ ap (λ (k : ℕ). sets written (0 + k) rest) (length_header h)

  long : length memory ≡ length m
  long = length-sets m 0 (header_bytes h ++ rest)

  room : 64 ≤ length m
  room = omega (arith, r.held)

  fits : HeaderFits h
  fits = record { node_room = omega (arith, r.few_nodes); entry_room = omega (arith, r.few_entries); phase = omega arith; nodes = omega (arith, w.nodes, r.few_nodes); entries = omega (arith, w.entries, r.few_entries); payload = v.size }

  -- numbers of the header are not touched by what is written behind it
  same_number : (p : ℕ) → p + 8 ≤ 64 → le64 memory p ≡ le64 written p
  same_number p k = ap (λ (x : List ℕ). le64 x p) memory_is ∙ le64_sets_other rest written 64 p (inl k)

  pub header : header_at (finished_memory m c t) ≡ finished_header c t
  header =
      let w : header_at written ≡ h = header_written h m room fits in
      let a = same_number 0 (omega arith) in
      let b = same_number 8 (omega arith) in
      let d = same_number 16 (omega arith) in
      let e = same_number 24 (omega arith) in
      let g = same_number 32 (omega arith) in
      let i = same_number 40 (omega arith) in
      (λ j. record { capacity = record { nodes = a j; entries = b j }; phase = d j; nodes = e j; entries = g j; payload = i j }) ∙ w

  facts : HeaderFacts memory h
  facts = record {
    room = omega (arith, long, room);
    some_nodes = r.some_nodes;
    few_nodes = r.few_nodes;
    some_entries = r.some_entries;
    few_entries = r.few_entries;
    held = omega (arith, long, r.held);
    first_zero = same_number 48 (omega arith) ∙ first_zero h m room;
    second_zero = same_number 56 (omega arith) ∙ second_zero h m room;
    phase = omega arith;
    nodes = w.nodes;
    entries = w.entries;
    payload = omega (arith, size, w.nodes, w.entries);
  }

  -- the image stands behind the header
  abbrev all : List ℕ
  all = header_bytes h ++ rest

  all_length : length all ≡ 64 + length rest
  all_length = length-append (header_bytes h) rest ∙ ap (λ (k : ℕ). k + length rest) (length_header h)

  rest_length : length rest ≡ needed c - 64
  rest_length = length-append (image t) (replicate (needed c - (64 + length (image t))) 0) ∙ omega (arith, length-replicate {A = ℕ} (needed c - (64 + length (image t))) 0, size, w.nodes, w.entries)

  all_fits : 0 + length all ≤ length m
  all_fits = omega (arith, all_length, rest_length, r.held)

  spread : memory ≡ header_bytes h ++ (image t ++ (replicate (needed c - (64 + length (image t))) 0 ++ drop (0 + length all) m))
  spread =
      sets-eq all m 0 all_fits ∙ append_assoc (header_bytes h) rest (drop (0 + length all) m)
      ∙ ap (λ (x : List ℕ). header_bytes h ++ x) (append_assoc (image t) (replicate (needed c - (64 + length (image t))) 0) (drop (0 + length all) m))

  part : take (length (image t)) (drop 64 memory) ≡ image t
  part =
      let tail : List ℕ = replicate (needed c - (64 + length (image t))) 0 ++ drop (0 + length all) m in
      ap (λ (x : List ℕ). take (length (image t)) (drop 64 x)) spread
      ∙ ap (λ (k : ℕ). take (length (image t)) (drop k (header_bytes h ++ (image t ++ tail)))) (sym (length_header h))
      ∙ ap (take (length (image t))) (drop-append_seam (header_bytes h) (image t ++ tail))
      ∙ take-append_seam (image t) tail

  by_image : read_index memory ≡ finished_index memory h
  by_image = index_by_image memory h (sym (subst (λ (x : Header). some x ≡ heading_at memory) header (heading_some memory (subst (HeaderFacts memory) (sym header) facts)))) (λ e. omega arith)

  module _ (rule : index_rule t ≡ true) (apart : free (trie_pieces t) ≡ true) where
    right_image : (s : List ℕ) → s ≡ image t → if_right (check_image s) h s ≡ finished c t
    right_image s e =
        ap (λ (x : List ℕ). if_right (check_image x) h x) e ∙ ap (λ (l : Layout). if_right l h (image t)) (image_passes t v rule apart)
        ∙ ap (λ (u : Trie). cond (eqb (nodes t) (nodes t) && eqb (entries t) (entries t)) (finished c u) broken) (image_read t v).1
        ∙ rw (eq-eqb (nodes t) (nodes t) refl, eq-eqb (entries t) (entries t) refl) refl

    pub finished_holds : read_index (finished_memory m c t) ≡ finished c t
    finished_holds = by_image ∙ right_image (take (length (image t)) (drop 64 memory)) part

-- ── what a memory holds ──

-- the image in a memory of bytes is of bytes
pub part_bytes : (m : List ℕ) (h : Header) → AllBytes m → AllBytes (image_part m h)
part_bytes m h a i = go (cases_lt i h.payload)
  where
    go : (i < h.payload) ⊎ (h.payload ≤ i) → get_or (image_part m h) i 0 < 256
    go (inl k) = omega (arith, get_or-take h.payload (drop 64 m) i 0 k, get_or-drop 64 m i 0, a (64 + i))
    go (inr k) =
        let l : length (image_part m h) ≤ i = omega (arith, length-take h.payload (drop 64 m)) in
        omega (arith, get_or-eq_default (image_part m h) 0 l)

pub part_small : (m : List ℕ) (h : Header) → length m < 2 ^ 64 → length (image_part m h) < 2 ^ 64
part_small m h l = omega (arith, length-take h.payload (drop 64 m), length-drop 64 m)

-- what a finished index's tests tell
record Passed (h : Header) (s : List ℕ) (c : Capacity) (t : Trie) : Type 0 where
  capacity : h.capacity ≡ c
  trie : trie_in s ≡ t
  read : read_image s ≡ right h.nodes h.entries
  rule : index_rule t ≡ true
  apart : free (trie_pieces t) ≡ true

passed : (l : Layout) (h : Header) (s : List ℕ) → check_image s ≡ l → (c : Capacity) (t : Trie) → if_right l h s ≡ finished c t → Passed h s c t
passed (refused n) h s q c t e = absurd (let z : ◌≡◌ {A = ℕ} 0 1 = cc in omega arith)
passed (right k j) h s q c t e = go (eqb h.nodes k && eqb h.entries j) refl e
  where
    go : (o : Bool) → (eqb h.nodes k && eqb h.entries j) ≡ o → cond o (finished h.capacity (trie_in s)) broken ≡ finished c t → Passed h s c t
    go false p f = absurd (let z : ◌≡◌ {A = ℕ} 0 1 = cc in omega arith)
    go true p f =
        let x = check_accepts s k j q in
        let n : h.nodes ≡ k = eqb-true h.nodes k (and_left (eqb h.nodes k) (eqb h.entries j) p) in
        let i : h.entries ≡ j = eqb-true h.entries j (and_right (eqb h.nodes k) (eqb h.entries j) p) in
        let u : trie_in s ≡ t = cc in
        record { capacity = cc; trie = u; read = x.read ∙ sym (rw (n, i) refl); rule = subst (λ (y : Trie). index_rule y ≡ true) u x.rule; apart = subst (λ (y : Trie). free (trie_pieces y) ≡ true) u x.apart }

-- what is known of a finished index: it can be saved, is within its capacity, and its pieces are free of conflicts
pub record FinishedIs (m : List ℕ) (c : Capacity) (t : Trie) : Type 0 where
  pub room : Room m c
  pub within : Within c t
  pub savable : Savable t
  pub rule : index_rule t ≡ true
  pub apart : free (trie_pieces t) ≡ true

module _ (m : List ℕ) where
  abbrev there : Header
  there = header_at m

  room_by : header_right m ≡ true → (c : Capacity) → there.capacity ≡ c → Room m c
  room_by r c e = subst (Room m) e (facts_room m there (header_facts m there r))

  -- the capacity of an index in a memory is one that it has room for
  pub room_of : (c : Capacity) → capacity_of (read_index m) ≡ some c → Room m c
  unfolding read_index
  room_of c e = go (header_right m) refl (eqb there.phase 0) e
    where
      by_test : (o : Bool) (i : Index) → capacity_of i ≡ some there.capacity → capacity_of (cond o i broken) ≡ some c → there.capacity ≡ c
      by_test true i f e = cc
      by_test false i f e = absurd (let z : ◌≡◌ {A = ℕ} 0 1 = cc in omega arith)

      by_layout : (l : Layout) (s : List ℕ) → capacity_of (if_right l there s) ≡ some c → there.capacity ≡ c
      by_layout (refused n) s e = absurd (let z : ◌≡◌ {A = ℕ} 0 1 = cc in omega arith)
      by_layout (right k j) s e = by_test (eqb there.nodes k && eqb there.entries j) (finished there.capacity (trie_in s)) refl e

      go : (o : Bool) → header_right m ≡ o → (p : Bool) → capacity_of (cond o (cond p (open_index m there) (finished_index m there)) broken) ≡ some c → Room m c
      go true r true e = room_by r c (by_test (log_right m there && order_right m there) (opened there.capacity (log_in m there.payload 64)) refl e)
      go true r false e = room_by r c (by_layout (check_image (image_part m there)) (image_part m there) e)
      go false r p e = absurd (let z : ◌≡◌ {A = ℕ} 0 1 = cc in omega arith)

  pub finished_is : (c : Capacity) (t : Trie) → AllBytes m → length m < 2 ^ 64 → read_index m ≡ finished c t → FinishedIs m c t
  unfolding read_index
  finished_is c t a l e = go (header_right m) refl (eqb there.phase 0) e
    where
      never_open : (o : Bool) → cond o (opened there.capacity (log_in m there.payload 64)) broken ≡ finished c t → ⊥
      never_open true f = let z : ◌≡◌ {A = ℕ} 0 1 = cc in omega arith
      never_open false f = let z : ◌≡◌ {A = ℕ} 0 1 = cc in omega arith

      from : header_right m ≡ true → Passed there (image_part m there) c t → FinishedIs m c t
      from r p =
          let f : HeaderFacts m there = header_facts m there r in
          let s : List ℕ = image_part m there in
          let k = read_image_is s (part_bytes m there a) (part_small m there l) there.nodes there.entries p.read in
          let n : nodes t ≡ there.nodes = subst (λ (x : Trie). nodes x ≡ there.nodes) p.trie k.1 in
          let j : entries t ≡ there.entries = subst (λ (x : Trie). entries x ≡ there.entries) p.trie k.2 in
          let cn : there.capacity.nodes ≡ c.nodes = ap (λ (x : Capacity). x.nodes) p.capacity in
          let ce : there.capacity.entries ≡ c.entries = ap (λ (x : Capacity). x.entries) p.capacity in
          record { room = room_by r c p.capacity; within = record { nodes = omega (arith, f.nodes); entries = omega (arith, f.entries) }; savable = subst Savable p.trie k.3; rule = p.rule; apart = p.apart }

      go : (o : Bool) → header_right m ≡ o → (p : Bool) → cond o (cond p (open_index m there) (finished_index m there)) broken ≡ finished c t → FinishedIs m c t
      go true r true f = absurd (never_open (log_right m there && order_right m there) f)
      go true r false f = from r (passed (check_image (image_part m there)) there (image_part m there) refl c t f)
      go false r p f = absurd (let z : ◌≡◌ {A = ℕ} 0 1 = cc in omega arith)

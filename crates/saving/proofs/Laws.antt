-- What each way out of save and load says. Assumes nothing.
use Prim.Native.Nat.{ℕ, ◌+◌, ◌-◌, ◌^◌, ◌≤◌, ◌<◌}
use native.Mathlib.Omega.{arith}
use mathlib.Core.Path.{◌≡◌, sym, ap, ◌∙◌, subst}
use mathlib.Core.Logic.{inl, inr}
use mathlib.Core.List.{List}
use mathlib.Core.Option.{some}
use lib.ListN.{length, take, drop}
use lib.Seq.{sets, length-sets, take-length}
use borrow.Author.Tests.{lt-ltb, le-ltb}
use Rattle.words.specs.Holding.{Holds}
use Rattle.words.proofs.Parts.{get_or_sets_out}
use Rattle.words.proofs.Holding.{holds_sets}
use Rattle.definitions.specs.Causes.{number, index_rule_broken, save_buffer_too_short, first_cause}
use Rattle.definitions.specs.Calls.{Capacity, needed, image_checks}
use Rattle.trie.specs.Trie.{Trie, nodes, entries}
use Rattle.image_format.specs.Image.{image}
use Rattle.image_format.specs.Held.{trie_in}
use Rattle.image_format.specs.Reading.{Layout, right, refused, fault_of, nodes_in, entries_in}
use Rattle.image_format.specs.Savable.{AllBytes, Savable}
use Rattle.image_format.proofs.Sizes.{image_size}
use Rattle.image_format.proofs.Theorems.{read_image_is}
use Rattle.image_format.specs.Check.{check_image}
use Rattle.index_rule.proofs.Theorems.{check_image_is}
use Rattle.memory_header.specs.Layout.{Room, Header}
use Rattle.memory_header.specs.Opening.{Done, unless_refused}
use Rattle.index_memory.specs.Index.{Index, broken, opened, finished, image_part, read_index}
use Rattle.inspecting.specs.Held.{ImageIn}
use Rattle.inspecting.proofs.Facts.{same_part}
use Rattle.finished_memory.specs.Finished.{finished_header, finished_memory, closed, Closable}
use Rattle.finished_memory.specs.Room.{capacity_of}
use Rattle.finished_memory.proofs.Standing.{closed_is}
use Rattle.finished_memory.proofs.Holds.{part_bytes, part_small}
use Rattle.saving.specs.Saving.{Saving, save_by, save_memory, load_by, load_memory}
use Rattle.saving.proofs.Faults.{Fault}

-- ── an image that passes the test ──

-- it is the image of the trie that it holds
pub accepted : (s : List ℕ) → AllBytes s → length s < 2 ^ 64 → (n e : ℕ) → check_image s ≡ right n e → (image (trie_in s) ≡ s) × (nodes (trie_in s) ≡ n) × (entries (trie_in s) ≡ e) × Savable (trie_in s)
accepted s a l n e t = read_image_is s a l n e ((check_image_is s a l n e).0 t).0

-- ── save ──

-- the part that the code cuts out
pub cut_is : (m : List ℕ) (h : Header) → AllBytes m → length m < 2 ^ 64 → ImageIn m h → take (64 + h.payload - 64) (drop 64 m) ≡ image (trie_in (image_part m h))
cut_is m h a l w = same_part m h.payload ∙ sym (accepted (image_part m h) (part_bytes m h a) (part_small m h l) w.tested.nodes w.tested.entries (sym w.tested.is)).0

-- what a memory holds decides
pub save_as : (m buffer : List ℕ) (i : Index) → read_index m ≡ i → save_by i buffer ≡ save_memory m buffer
unfolding save_memory
save_as m buffer i e = ap (λ (x : Index). save_by x buffer) (sym e)

module _ (m s buffer : List ℕ) (c : Capacity) (t : Trie) (holds : read_index m ≡ finished c t) (is : s ≡ image t) where
  abbrev x : List ℕ
  x = image t

  pub too_short : length buffer < length s → record { refusal = number save_buffer_too_short; size = 0; buffer = buffer } ≡ save_memory m buffer
  too_short h = rw (lt-ltb (length buffer) (length x) (subst (λ (y : List ℕ). length buffer < length y) is h)) at (save_as m buffer (finished c t) holds)

  pub saved : length s ≤ length buffer → (after : List ℕ) → after ≡ sets buffer 0 (take (length s) (drop 0 s)) → record { refusal = 0; size = length s; buffer = after } ≡ save_memory m buffer
  saved h after e =
      let n : length s ≡ length x = ap length is in
      let b : after ≡ sets buffer 0 x = e ∙ ap (sets buffer 0) (take-length s ∙ is) in
      let w : ◌≡◌ {A = Saving} (record { refusal = 0; size = length s; buffer = after }) (record { refusal = 0; size = length x; buffer = sets buffer 0 x }) = λ i. record { refusal = 0; size = n i; buffer = b i } in
      w ∙ (rw (le-ltb (length buffer) (length x) (subst (λ (y : List ℕ). length y ≤ length buffer) is h)) at (save_as m buffer (finished c t) holds))

-- ── load ──

-- an image of this layout, loaded where the capacity is c
abbrev pub load_image : Layout → Capacity → List ℕ → List ℕ → Done
load_image x c m s = unless_refused (first_cause (image_checks c (fault_of x) (nodes_in x) (entries_in x))) m (finished_memory m c (trie_in s))

-- an image that is not accepted is refused with its own number
pub fault_over : (c : Capacity) (m s : List ℕ) (n : ℕ) → Fault n → ◌≡◌ {A = Done} (record { refusal = n; memory = m }) (load_image (refused n) c m s)
fault_over c m s n (inl (inl e)) = rw e
fault_over c m s n (inl (inr (inl e))) = rw e
fault_over c m s n (inl (inr (inr e))) = rw e
fault_over c m s n (inr e) = rw e

-- nothing is loaded over what breaks the index rule
pub load_broken : (m s : List ℕ) → read_index m ≡ broken → record { refusal = number index_rule_broken; memory = m } ≡ load_memory m s
unfolding load_memory
load_broken m s e = ap (λ (x : Index). load_by x m s) (sym e)

-- an open index and a finished one are replaced alike
pub load_as : (m s : List ℕ) (c : Capacity) (x : Layout) → capacity_of (read_index m) ≡ some c → check_image s ≡ x → load_image x c m s ≡ load_memory m s
unfolding load_memory
load_as m s c x e f = ap (λ (y : Layout). load_image y c m s) (sym f) ∙ go (read_index m) e
  where
    go : (i : Index) → capacity_of i ≡ some c → load_image (check_image s) c m s ≡ load_by i m s
    go broken f = absurd (let z : ◌≡◌ {A = ℕ} 0 1 = cc in omega arith)
    go (opened d ps) f =
        let q : c ≡ d = cc in
        ap (λ (y : Capacity). load_image (check_image s) y m s) q
    go (finished d t) f =
        let q : c ≡ d = cc in
        ap (λ (y : Capacity). load_image (check_image s) y m s) q

module _ (c : Capacity) (m s : List ℕ) (n e : ℕ) where
  pub nodes_over : c.nodes < n → ◌≡◌ {A = Done} (record { refusal = 7; memory = m }) (load_image (right n e) c m s)
  nodes_over h = rw (lt-ltb c.nodes n h)

  pub entries_over : n ≤ c.nodes → c.entries < e → ◌≡◌ {A = Done} (record { refusal = 8; memory = m }) (load_image (right n e) c m s)
  entries_over h k = rw (le-ltb c.nodes n h, lt-ltb c.entries e k)

  pub both_within : n ≤ c.nodes → e ≤ c.entries → ◌≡◌ {A = Done} (record { refusal = 0; memory = finished_memory m c (trie_in s) }) (load_image (right n e) c m s)
  both_within h k = rw (le-ltb c.nodes n h, le-ltb c.entries e k)

  -- the header that the code writes
  abbrev head : Header
  head = record { capacity = c; phase = 1; nodes = n; entries = e; payload = length s }

  module _ (r : Room m c) (a : AllBytes s) (l : length s < 2 ^ 64) (t : check_image s ≡ right n e) (h : n ≤ c.nodes) (k : e ≤ c.entries) where
    size : length (image (trie_in s)) ≡ length s
    size = ap length (accepted s a l n e t).0

    head_is : head ≡ finished_header c (trie_in s)
    head_is =
        let w = accepted s a l n e t in
        sym (λ i. record { capacity = c; phase = 1; nodes = w.1 i; entries = w.2 i; payload = size i })

    pub within : 64 + length s ≤ needed c
    within =
        let w = accepted s a l n e t in
        omega (arith, image_size (trie_in s) w.3.shaped, size, w.1, w.2)

    pub room : 64 + length s ≤ length m
    room = omega (arith, within, r.held)

    able : (x : List ℕ) → length x ≡ length m → Closable x head
    able x q = record { nodes = r.few_nodes; entries = r.few_entries; payload = within; held = omega (arith, r.held) }

    pub closable : (made : Header) → made ≡ head → (x : List ℕ) → length x ≡ length m → Closable x made
    closable made v x q = subst (Closable x) (sym v) (able x q)

    pub loaded : (made : Header) → made ≡ head → (x after : List ℕ) → x ≡ sets m 64 (take (length s) (drop 0 s)) → after ≡ closed x made → ◌≡◌ {A = Done} (record { refusal = 0; memory = after }) (load_image (right n e) c m s)
    loaded made is-head x after p q =
        let u : List ℕ = sets m 64 s in
        let x-is : x ≡ u = p ∙ ap (sets m 64) (take-length s) in
        let stands : Holds u 64 (image (trie_in s)) = subst (Holds u 64) (sym (accepted s a l n e t).0) (holds_sets s m 64 room) in
        let w : closed u (finished_header c (trie_in s)) ≡ finished_memory m c (trie_in s) =
        closed_is m u c (trie_in s) (length-sets m 64 s) stands (omega (arith, within, size)) r.held (λ j b. get_or_sets_out s m 64 j (inr (omega (arith, within)))) in
        let v : after ≡ finished_memory m c (trie_in s) = q ∙ ap (closed x) is-head ∙ ap (λ (y : List ℕ). closed y head) x-is ∙ ap (closed u) head_is ∙ w in
        ap done v ∙ both_within h k
      where
        done : List ℕ → Done
        done y = record { refusal = 0; memory = y }

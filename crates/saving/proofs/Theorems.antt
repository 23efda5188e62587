-- What save and load promise of each other holds. Assumes nothing.
use Prim.Native.Nat.{ℕ, ◌+◌, ◌≤◌}
use native.Mathlib.Omega.{arith}
use mathlib.Core.Path.{◌≡◌, refl, sym, ap, ◌∙◌, subst}
use mathlib.Core.Bool.{Bool, true, false, cond}
use mathlib.Core.Logic.{inl, inr}
use mathlib.Core.List.{List}
use mathlib.Core.Option.{Option, none, some}
use lib.ListN.{length, take, drop}
use lib.Seq.{sets, sets-eq, take-append_seam, take-length}
use lib.Dec.{ltb}
use borrow.Author.Tests.{ltb-false}
use Rattle.definitions.specs.Conflicts.{free}
use Rattle.definitions.specs.Causes.{Cause, save_buffer_too_short, too_many_nodes, too_many_entries, first_cause}
use Rattle.definitions.specs.Calls.{Capacity, save_checks, load_checks}
use Rattle.trie.specs.Trie.{Trie, nodes, entries, trie_pieces}
use Rattle.trie.specs.Test.{index_rule}
use Rattle.image_format.specs.Image.{image}
use Rattle.image_format.specs.Held.{trie_in}
use Rattle.image_format.specs.Reading.{Layout, right, refused, fault_of, nodes_in, entries_in}
use Rattle.image_format.specs.Savable.{Savable}
use Rattle.image_format.proofs.Theorems.{image_read}
use Rattle.image_format.specs.Check.{check_image}
use Rattle.memory_header.specs.Opening.{Done, unless_refused}
use Rattle.index_memory.specs.Index.{Index, broken, opened, finished, standing_of, read_index}
use Rattle.memory_header.proofs.Opening.{refused_leaves}
use Rattle.finished_memory.specs.Finished.{finished_memory}
use Rattle.finished_memory.specs.Room.{capacity_of, Within}
use Rattle.finished_memory.proofs.Holds.{FinishedIs, finished_holds, finished_is, room_of}
use Rattle.saving.specs.Saving.{Saving, saved_or_refused, image_of, save_by, save_memory, load_by, load_memory}
use Rattle.saving.specs.Promises.{Lent, LoadHolds, SaveOfLoaded, bytes_of, SaveIsImage, LoadOfSaved, ImageRefusal}
use Rattle.saving.proofs.Laws.{accepted, save_as, saved, load_image, fault_over, load_as, both_within}
use Rattle.saving.proofs.Faults.{Fault, Faulty, check_in}
use Rattle.image_format.proofs.Verdict.{check_accepts, image_passes}

-- ── a load that is not refused ──

-- a fault is not 0
pub fault_some : {n : ℕ} → Fault n → n ≡ 0 → ⊥
fault_some (inl (inl e)) z = omega arith
fault_some (inl (inr (inl e))) z = omega arith
fault_some (inl (inr (inr e))) z = omega arith
fault_some (inr e) z = omega arith

record Accepted (c : Capacity) (x : Layout) : Type 0 where
  nodes : ℕ
  entries : ℕ
  is : x ≡ right nodes entries
  few_nodes : nodes ≤ c.nodes
  few_entries : entries ≤ c.entries

accepted_by : (m s : List ℕ) (c : Capacity) (x : Layout) → Faulty x → (load_image x c m s).refusal ≡ 0 → Accepted c x
accepted_by m s c (refused n) i e = absurd (fault_some i (ap (λ (d : Done). d.refusal) (fault_over c m s n i) ∙ e))
accepted_by m s c (right n k) i e = go (ltb c.nodes n) refl (ltb c.entries k) refl e
  where
    go : (o₁ : Bool) → ltb c.nodes n ≡ o₁ → (o₂ : Bool) → ltb c.entries k ≡ o₂
        → (unless_refused (cond o₁ (some too_many_nodes) (cond o₂ (some too_many_entries) none)) m (finished_memory m c (trie_in s))).refusal ≡ 0 → Accepted c (right n k)
    go true a o₂ b e = absurd (omega arith)
    go false a true b e = absurd (omega arith)
    go false a false b e = record { nodes = n; entries = k; is = refl; few_nodes = ltb-false c.nodes n a; few_entries = ltb-false c.entries k b }

-- the capacity that was there
had : (m s : List ℕ) (i : Index) → (load_by i m s).refusal ≡ 0 → (c : Capacity) × (capacity_of i ≡ some c)
had m s broken e = absurd (omega arith)
had m s (opened c ps) e = (c, refl)
had m s (finished c t) e = (c, refl)

-- an image that passes the test, loaded where there is room for it
held : (m s : List ℕ) (c : Capacity) (t : Trie) → capacity_of (read_index m) ≡ some c → check_image s ≡ right (nodes t) (entries t) → trie_in s ≡ t → Within c t → Savable t → index_rule t ≡ true → free (trie_pieces t) ≡ true
    → ((load_memory m s).refusal ≡ 0) × (read_index (load_memory m s).memory ≡ finished c t)
held m s c t h e q w v rule apart =
    let is : load_memory m s ≡ record { refusal = 0; memory = finished_memory m c (trie_in s) } =
    sym (both_within c m s (nodes t) (entries t) w.nodes w.entries ∙ load_as m s c (right (nodes t) (entries t)) h e) in
    (ap (λ (d : Done). d.refusal) is, ap (λ (d : Done). read_index d.memory) is ∙ ap (λ (x : Trie). read_index (finished_memory m c x)) q ∙ finished_holds m c t (room_of m c h) w v rule apart)

-- what a load that was not refused had before it
record Before (m s : List ℕ) : Type 0 where
  capacity : Capacity
  had : capacity_of (read_index m) ≡ some capacity
  image : Accepted capacity (check_image s)

before : (m s : List ℕ) → (load_memory m s).refusal ≡ 0 → Before m s
unfolding load_memory
before m s e =
    let h = had m s (read_index m) e in
    record { capacity = h.0; had = h.1; image = accepted_by m s h.0 (check_image s) (check_in s) (ap (λ (d : Done). d.refusal) (load_as m s h.0 (check_image s) h.1 refl) ∙ e) }

pub load_holds : LoadHolds
load_holds m s l e =
    let h = before m s e in
    let i = h.image in
    let w = accepted s l.bytes l.small i.nodes i.entries i.is in
    let a = check_accepts s i.nodes i.entries i.is in
    let within : Within h.capacity (trie_in s) = record { nodes = omega (arith, w.1, i.few_nodes); entries = omega (arith, w.2, i.few_entries) } in
    let passes : check_image s ≡ right (nodes (trie_in s)) (entries (trie_in s)) = i.is ∙ sym (rw (w.1, w.2) refl) in
    record { capacity = h.capacity; had = h.had; holds = (held m s h.capacity (trie_in s) h.had passes refl within w.3 a.rule a.apart).1 }

-- ── saving what was loaded ──

-- an image that was loaded is that of its trie
loaded_is : (m s : List ℕ) → Lent s → (load_memory m s).refusal ≡ 0 → image (trie_in s) ≡ s
loaded_is m s l e =
    let i = (before m s e).image in
    (accepted s l.bytes l.small i.nodes i.entries i.is).0

pub save_of_loaded : SaveOfLoaded
save_of_loaded m s buffer l e h =
    let w = load_holds m s l e in
    sym (saved (load_memory m s).memory s buffer w.capacity (trie_in s) w.holds (sym (loaded_is m s l e)) h (sets buffer 0 s) (ap (sets buffer 0) (sym (take-length s))))

-- ── loading what was saved ──

-- a save that is not refused hands over the image
handed : (c : Capacity) (t : Trie) (buffer : List ℕ) → (save_by (finished c t) buffer).refusal ≡ 0 → bytes_of (save_by (finished c t) buffer) ≡ image t
handed c t buffer e = go (ltb (length buffer) (length s)) refl e
  where
    s : List ℕ
    s = image t

    go : (o : Bool) → ltb (length buffer) (length s) ≡ o → (saved_or_refused (cond o (some save_buffer_too_short) none) s buffer).refusal ≡ 0 → bytes_of (saved_or_refused (cond o (some save_buffer_too_short) none) s buffer) ≡ s
    go true q f = absurd (omega arith)
    go false q f = ap (take (length s)) (sets-eq s buffer 0 (omega (arith, ltb-false (length buffer) (length s) q))) ∙ take-append_seam s (drop (0 + length s) buffer)

pub save_is_image : SaveIsImage
save_is_image m buffer c t e r =
    let q : save_by (finished c t) buffer ≡ save_memory m buffer = save_as m buffer (finished c t) e in
    ap bytes_of (sym q) ∙ handed c t buffer (ap (λ (x : Saving). x.refusal) q ∙ r)

pub load_of_saved : LoadOfSaved
load_of_saved m m' buffer c c' t l e r h w =
    subst (λ (s : List ℕ). ((load_memory m' s).refusal ≡ 0) × (read_index (load_memory m' s).memory ≡ finished c' t)) (sym (save_is_image m buffer c t e r)) loaded
  where
    loaded : ((load_memory m' (image t)).refusal ≡ 0) × (read_index (load_memory m' (image t)).memory ≡ finished c' t)
    loaded =
        let f : FinishedIs m c t = finished_is m c t l.bytes l.small e in
        held m' (image t) c' t h (image_passes t f.savable f.rule f.apart) (image_read t f.savable).1 w f.savable f.rule f.apart

-- ── a call that is refused ──

pub image_refusal : ImageRefusal
image_refusal s n e = subst Faulty e (check_in s)

save_refused : (o : Option Cause) (s buffer : List ℕ) → ((saved_or_refused o s buffer).refusal ≡ 0 → ⊥) → (saved_or_refused o s buffer).buffer ≡ buffer
save_refused none s buffer f = absurd (f refl)
save_refused (some x) s buffer f = refl

-- a save's checks on what a memory holds
abbrev save_cause : Index → List ℕ → Option Cause
save_cause i buffer = first_cause (save_checks (standing_of i) (length (image_of i)) (length buffer))

-- a load that is refused leaves the memory
pub load_leaves : (m s : List ℕ) → ((load_memory m s).refusal ≡ 0 → ⊥) → (load_memory m s).memory ≡ m
unfolding load_memory
load_leaves m s f =
    refused_leaves (first_cause (load_checks (standing_of (read_index m)) (fault_of (check_image s)) (nodes_in (check_image s)) (entries_in (check_image s)))) m
    (finished_memory m (standing_of (read_index m)).capacity (trie_in s)) f

-- a save that is refused leaves the buffer
pub save_leaves : (m buffer : List ℕ) → ((save_memory m buffer).refusal ≡ 0 → ⊥) → (save_memory m buffer).buffer ≡ buffer
unfolding save_memory
save_leaves m buffer f = save_refused (save_cause (read_index m) buffer) (image_of (read_index m)) buffer f

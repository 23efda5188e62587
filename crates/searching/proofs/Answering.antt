-- The ways to an answer: nothing to find, no room for the places, the rows. Assumes nothing.
use Prim.Native.Nat.{ℕ, zero, suc, ◌-◌, ◌*◌, ◌/◌, ◌^◌, ◌≤◌, ◌<◌}
use native.Mathlib.Omega.{arith}
use mathlib.Core.Path.{◌≡◌, refl, sym, ap, subst, ◌∙◌}
use Rattle.std.specs.Prelude.{Some, None, ⊤}
use mathlib.Core.Bool.{true, false}
use mathlib.Core.List.{List, [], ◌∷◌}
use lib.ListN.{length, get_or}
use lib.Dec.{eqb}
use borrow.Author.Tests.{lt-ltb, le-ltb, eq-eqb, eqb-false}
use Rattle.definitions.specs.Location.{Location, locations_in}
use Rattle.definitions.specs.Places.{first_of, sizes}
use Rattle.definitions.specs.Rows.{combine_split_times}
use Rattle.definitions.specs.Causes.{number, scratch_too_small, cut_short}
use Rattle.trie.specs.Trie.{Trie, empty, root}
use Rattle.trie.specs.Rule.{Rule}
use Rattle.trie.specs.Find.{table_found}
use Rattle.image_format.specs.Held.{trie_in}
use Rattle.image_format.specs.Reading as R
use Rattle.image_format.specs.Savable.{AllBytes}
use Rattle.image_walk.specs.Here.{NodeHere, RootHere}
use Rattle.image_walk.proofs.Root.{here_root}
use Rattle.row_buffer.specs.Answer.{Finding, refused, finding_of, rows_answer}
use Rattle.row_buffer.proofs.Answering.{Answers, none_answers}
use Rattle.image_format.specs.Reading.{RightImage}
use Rattle.node_joining.specs.Found.{root_of, rooted}
use Rattle.node_joining.specs.Layout.{Sound, TableFound}
use Rattle.searching.specs.Search.{search_answer}

-- ── nothing to find ──

-- no places at all
none_answer : (t : Trie) (q : List ℕ) (k room : ℕ) → sizes (table_found t q) ≡ 0 → first_of (table_found t q) ≡ [] → search_answer t q k room ≡ refused 0
unfolding search_answer rows_answer
none_answer t q k room e f = rw (e, f, le-ltb (k / 24) 0 (omega arith), le-ltb room 0 (omega arith)) refl

query_empty : (t : Trie) → table_found t [] ≡ []
query_empty empty = refl
query_empty (root n) = refl

pub no_query : (t : Trie) (q : List ℕ) (k room : ℕ) (s : List ℕ) {f : Finding} → length q ≡ 0 → f ≡ finding_of (refused 0) → Answers (search_answer t q k room) s f
no_query t [] k room s h g = none_answers s 0 (none_answer t [] k room (ap sizes (query_empty t)) (ap first_of (query_empty t))) g
no_query t (b ∷ q) k room s h g = absurd (omega arith)

sizes_empty : (q : List ℕ) → sizes (table_found empty q) ≡ 0
sizes_empty [] = refl
sizes_empty (b ∷ q) = omega (arith, sizes_empty q)

first_empty : (q : List ℕ) → first_of (table_found empty q) ≡ []
first_empty [] = refl
first_empty (b ∷ q) = refl

-- a first byte 0 is the empty index
zero_empty : (img : List ℕ) → eqb (get_or img 0 0) 0 ≡ true → trie_in img ≡ empty
unfolding trie_in
zero_empty img z = rw z refl

pub no_index : (img q : List ℕ) (k room : ℕ) (s : List ℕ) {f : Finding} → eqb (get_or img 0 0) 0 ≡ true → f ≡ finding_of (refused 0) → Answers (search_answer (trie_in img) q k room) s f
no_index img q k room s z g =
    none_answers s 0 (ap (λ (t : Trie). search_answer t q k room) (zero_empty img z) ∙ none_answer empty q k room (sizes_empty q) (first_empty q)) g

-- ── an image that is right ──

no_bytes : (img : List ℕ) → length img ≡ 0 → R.read_image img ≡ R.refused (number cut_short)
unfolding R.read_image R.read_root
no_bytes img e = rw (eq-eqb (length img) 0 e) refl

-- it has a first byte
pub right_long : {img : List ℕ} → RightImage img → 0 < length img
right_long {img} h = go (length img) refl
  where
    go : (k : ℕ) → length img ≡ k → 0 < length img
    go zero e =
        let f : R.refused (number cut_short) ≡ R.right h.nodes h.entries = sym (no_bytes img e) ∙ h.read in
        absurd (let z : ◌≡◌ {A = ℕ} 0 1 = cc in omega arith)
    go (suc k) e = omega arith

pub sound_image : {img : List ℕ} → AllBytes img → length img < 2 ^ 64 → RightImage img → Rule (trie_in img) → eqb (get_or img 0 0) 0 ≡ false → Sound img
sound_image {img} a l h rule z =
    let r : RootHere img = here_root img a l h.nodes h.entries h.read (eqb-false (get_or img 0 0) 0 z) in
    let same : rooted img ≡ r.node = ap root_of r.trie in
    let whole : trie_in img ≡ root (rooted img) = r.trie ∙ ap root (sym same) in
    record { trie = whole; here = subst (NodeHere img 16 0) (sym same) r.here; rule = subst Rule whole rule }

-- ── the places are found, or have no room ──

module _ {img q s ends s' : List ℕ} (sound : Sound img) where
  pub places_over : TableFound (rooted img) q s ends s' None → (room : ℕ) (s'' : List ℕ) {g : Finding} → g ≡ finding_of (refused (number scratch_too_small)) → Answers (search_answer (trie_in img) q (length s) room) s'' g
  unfolding search_answer
  places_over f room s'' g = none_answers s'' (number scratch_too_small) (rw (sound.trie, lt-ltb (length s / 24) (sizes (table_found (root (rooted img)) q)) f.found) refl) g

  module _ {u : ⊤} (f : TableFound (rooted img) q s ends s' (Some u)) (h : 0 < length q) where
    pub hand_order : get_or ends 1 0 ≤ get_or ends 0 0
    hand_order = (f.found.laid.part 0 (omega arith) h (λ z. absurd (omega arith))).order

    pub hand_within : get_or ends 0 0 * 24 ≤ length s'
    hand_within = f.found.laid.fits

    pub handed : (room : ℕ) {s'' : List ℕ} {g : Finding} → length s' ≡ length s
        → Answers (rows_answer (combine_split_times (locations_in s' (get_or ends 0 0 - get_or ends 1 0) (get_or ends 1 0 * 24))) room) s'' g
        → Answers (search_answer (trie_in img) q (length s) room) s'' g
    unfolding search_answer
    handed room {s''} {g} l a =
        let d = f.found.laid in
        let fits : sizes (table_found (root (rooted img)) q) ≤ length s / 24 = omega (arith, f.found.fits, ap (λ (x : ℕ). x / 24) l) in
        rw (sound.trie, le-ltb (length s / 24) (sizes (table_found (root (rooted img)) q)) fits)
        (subst (λ (ls : List Location). Answers (rows_answer (combine_split_times ls) room) s'' g) (d.part 0 (omega arith) h (λ z. absurd (omega arith))).places a)

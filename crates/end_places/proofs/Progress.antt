-- The walk along the query, node by node, and what the paths of it give: those gone through are added. Assumes nothing.
use Prim.Native.Nat.{ℕ, suc, ◌+◌, ◌-◌, ◌≤◌, ◌<◌}
use native.Mathlib.Omega.{arith}
use mathlib.Core.Path.{◌≡◌, refl, sym, ap, subst, ◌∙◌}
use mathlib.Core.Bool.{Bool, false}
use mathlib.Core.List.{List, [], ◌∷◌, ◌++◌, append-nil, append_assoc}
use mathlib.Core.Option.{Option as Maybe, none, some}
use Rattle.std.specs.Prelude.{Option, Some, None, ⊤}
use mathlib.Core.List.Memᴰ.{append_left}
use lib.ListN.{length, take, drop, get_or, length-drop, drop_of_length-le}
use lib.Seq.{drop-drop, drop-cons, take_all, take-suc, get_or-drop}
use Rattle.definitions.specs.Location.{Location, locations_in}
use Rattle.definitions.specs.Places.{first_of}
use Rattle.trie.specs.Trie.{Lists, Node, child, child_of, node_at, lists_at, lists_or_none}
use Rattle.trie.specs.Rule.{ListsSorted}
use Rattle.trie.specs.Find.{joins_each, ends_found}
use Rattle.trie.proofs.Walk.{walk_append}
use Rattle.image_format.specs.Held.{Entry, table_entries}
use Rattle.image_walk.specs.declared.Node.{Node as Parts}
use Rattle.image_walk.specs.Parts.{parts_at}
use Rattle.image_walk.specs.Tables.{entries_at, node_for}
use Rattle.image_walk.specs.Bounds.{TableHere}
use Rattle.image_walk.specs.Here.{Laid, Found, FoundAt}
use Rattle.image_walk.proofs.Here.{here_bounds, here_prefixes, here_chunks, here_suffixes, here_child, found_some, found_none}
use Rattle.image_walk.proofs.Entries.{entries_here}
use Rattle.collecting.proofs.Callers.{here_more}
use Rattle.place_lookup.specs.Lookup.{Within}
use Rattle.joining.specs.Lists.{listed}
use Rattle.place_buffer.specs.declared.PlaceSet.{PlaceSet}
use Rattle.place_buffer.specs.Buffer.{Taken}
use Rattle.place_buffer.proofs.Adding.{taken_none, taken_over, taken_more}
use Rattle.node_joining.specs.Found.{rooted, last_of, ended_lists, ending_lists, beyond_of, along_from, rest_along}
use Rattle.node_joining.specs.Layout.{Sound, lists_of, Listed, Ending, Reached}
use Rattle.node_joining.proofs.Asked.{sound_here, sound_sorted}
use Rattle.node_joining.proofs.Stages.{beyond_some, rest_none, rest_next, rest_end, rest_start}

-- ── the node at the end of a path ──

-- m is the node at the end of a path
pub record Walked (img path : List ℕ) (m : Parts) : Type 0 where
  pub at : ℕ
  pub parts : m ≡ parts_at img at
  pub found : FoundAt img 16 at (node_at (rooted img) path)

pub walked_path : {img path path' : List ℕ} {m : Parts} → path ≡ path' → Walked img path m → Walked img path' m
walked_path {img} {m = m} e w = subst (λ (x : List ℕ). Walked img x m) e w

pub walked_at : {img : List ℕ} {m : Parts} {at : ℕ} (path : List ℕ) → m ≡ parts_at img at → FoundAt img 16 at (node_at (rooted img) path) → Walked img path m
walked_at {at = at} path e f = record { at = at; parts = e; found = f }

pub laid_found : {img : List ℕ} {at : ℕ} {o : Maybe Node} → FoundAt img 16 at o → Laid img at
laid_found f = record { depth = 16; node = f.node; here = f.here }

-- at most d levels are at most e
found_more : (img : List ℕ) (d e : ℕ) (o : Maybe ℕ) (n : Maybe Node) → d ≤ e → Found img d o n → Found img e o n
found_more img d e none none l f = tt
found_more img d e none (some n) l f = absurd f
found_more img d e (some at) none l f = absurd f
found_more img d e (some at) (some n) l f = here_more l f

-- the query's last byte
pub last_byte : (q : List ℕ) → 0 < length q → last_of q ≡ get_or q (length q - 1) 0 ∷ []
last_byte q h =
    drop-cons q (length q - 1) 0 (omega arith) ∙ ap (λ (x : List ℕ). get_or q (length q - 1) 0 ∷ x) (drop_of_length-le q {i = suc (length q - 1)} (omega arith))

-- one byte further along the query from i on
pub path_next : (q : List ℕ) (i j : ℕ) → i ≤ j → j < length q → take (j + 1 - i) (drop i q) ≡ take (j - i) (drop i q) ++ (get_or q j 0 ∷ [])
path_next q i j h l =
    let e : j + 1 - i ≡ suc (j - i) = omega arith in
    let f : i + (j - i) ≡ j = omega arith in
    ap (λ (k : ℕ). take k (drop i q)) e ∙ take-suc (drop i q) (j - i) 0 (omega (arith, length-drop i q))
    ∙ ap (λ (b : ℕ). take (j - i) (drop i q) ++ (b ∷ [])) (get_or-drop i q (j - i) 0 ∙ ap (λ (k : ℕ). get_or q k 0) f)

-- the byte behind it is the query's last
pub path_last : (q : List ℕ) (i j : ℕ) → i ≤ j → j < length q → length q - 1 ≤ j → take (j + 1 - i) (drop i q) ≡ take (j - i) (drop i q) ++ (get_or q (length q - 1) 0 ∷ [])
path_last q i j h l k =
    let e : j ≡ length q - 1 = omega arith in
    path_next q i j h l ∙ ap (λ (x : ℕ). take (j - i) (drop i q) ++ (get_or q x 0 ∷ [])) e

pub root_found : {img : List ℕ} → ∥ Sound img ∥₁ → FoundAt img 16 0 (node_at (rooted img) [])
root_found {img} sound = record { node = rooted img; there = refl; here = sound_here sound }

module _ {img path : List ℕ} {m : Parts} (w : Walked img path m) where
  pub walked_table : TableHere img m.table.at m.table.count
  walked_table = rw w.parts (here_bounds w.found.here).table

  -- the child for a byte is what the path with it leads to
  module _ (b : ℕ) {next : List ℕ} (en : next ≡ path ++ (b ∷ [])) where
    led : {o : Maybe ℕ} → o ≡ node_for (entries_at img m.table.at m.table.count) b → Found img 16 o (node_at (rooted img) next)
    led {o} e =
        let f = w.found in
        let es : o ≡ node_for (table_entries img w.at) b =
        e ∙ ap (λ (x : Parts). node_for (entries_at img x.table.at x.table.count) b) w.parts
        ∙ ap (λ (xs : List Entry). node_for xs b) (entries_here img w.at (here_bounds f.here)) in
        let there : node_at (rooted img) next ≡ child f.node.children b =
        ap (node_at (rooted img)) en ∙ walk_append path (b ∷ []) (some (rooted img)) ∙ ap (λ (x : Maybe Node). child_of x b) f.there in
        subst (λ (x : Maybe ℕ). Found img 16 x (node_at (rooted img) next)) (sym es)
        (subst (Found img 16 (node_for (table_entries img w.at) b)) (sym there)
        (found_more img 15 16 (node_for (table_entries img w.at) b) (child f.node.children b) (omega arith) (here_child {d = 15} f.here b)))

    pub child_found : {at : ℕ} → some at ≡ node_for (entries_at img m.table.at m.table.count) b → FoundAt img 16 at (node_at (rooted img) next)
    child_found {at} e = found_some img 16 (some at) (node_at (rooted img) next) at (led e) refl

    pub child_nothing : none ≡ node_for (entries_at img m.table.at m.table.count) b → node_at (rooted img) next ≡ none
    child_nothing e = found_none img 16 none (node_at (rooted img) next) (led e) refl

  pub walked_lists : lists_of img m ≡ lists_at (rooted img) path
  walked_lists =
      let f = w.found in
      let a : listed img m.prefixes ≡ f.node.lists.prefixes = rw w.parts (here_prefixes f.here) in
      let b : listed img m.chunks ≡ f.node.lists.chunks = rw w.parts (here_chunks f.here) in
      let c : listed img m.suffixes ≡ f.node.lists.suffixes = rw w.parts (here_suffixes f.here) in
      let e : lists_of img m ≡ f.node.lists = λ i. record { prefixes = a i; chunks = b i; suffixes = c i } in
      e ∙ ap lists_or_none (sym f.there)

  -- its lists lie within the image, each ascending
  pub walked_listed : ∥ Sound img ∥₁ → Listed img m
  walked_listed sound =
      let f = w.found in
      record {
        prefixes = rw w.parts (omega (arith, (here_bounds f.here).prefixes));
        chunks = rw w.parts (omega (arith, (here_bounds f.here).chunks));
        suffixes = rw w.parts (omega (arith, (here_bounds f.here).suffixes));
        sorted = subst ListsSorted (sym walked_lists) (sound_sorted sound path);
      }

  pub walked_ending : ∥ Sound img ∥₁ → Ending img path (record { suffixes = m.suffixes; chunks = m.chunks })
  walked_ending sound =
      let l = walked_listed sound in
      record {
        here = record { suffixes = record { within = l.suffixes; sorted = l.sorted.suffixes }; chunks = record { within = l.chunks; sorted = l.sorted.chunks } };
        lists = ap ending_lists walked_lists;
      }

-- no node, and nothing in its lists
pub nothing_ending : (img path : List ℕ) → node_at (rooted img) path ≡ none → Ending img path (record { suffixes = record { at = 0; count = 0 }; chunks = record { at = 0; count = 0 } })
unfolding locations_in
nothing_ending img path e = record {
  here = record { suffixes = record { within = omega arith; sorted = tt }; chunks = record { within = omega arith; sorted = tt } };
  lists = ap (λ (o : Maybe Node). ending_lists (lists_or_none o)) (sym e);
}

-- ── path by path ──

pub record Progress (front : Bool) (n : Node) (w : List ℕ) (k : ℕ) (p r : PlaceSet) : Type 0 where
  pub done : List Location
  pub whole : along_from front n w ≡ done ++ rest_along front n w k
  pub taken : Taken p r done (Some tt)

pub progress_start : {p : PlaceSet} → p.known.full ≡ false → (front : Bool) (n : Node) (w : List ℕ) → 0 < length w → Progress front n w 1 p p
progress_start live front n w h = record { done = []; whole = rest_start front n w h; taken = taken_none live }

pub progress_at : {front : Bool} {n : Node} {w : List ℕ} (k k' : ℕ) {p r : PlaceSet} → k ≡ k' → Progress front n w k p r → Progress front n w k' p r
progress_at {front} {n} {w} k k' {p} {r} e g = subst (λ (j : ℕ). Progress front n w j p r) e g

-- the places behind a path are those of the query behind it
pub behind_path : (n : Node) (q : List ℕ) (i j : ℕ) → i ≤ j → first_of (ends_found n (drop j q)) ≡ first_of (ends_found n (drop (j - i) (drop i q)))
behind_path n q i j h =
    let e : j ≡ i + (j - i) = omega arith in
    ap (λ (x : List ℕ). first_of (ends_found n x)) (ap (λ (k : ℕ). drop k q) e ∙ sym (drop-drop (j - i) i q))

module _ (img : List ℕ) {front : Bool} {w : List ℕ} {k : ℕ} {p r : PlaceSet} (g : Progress front (rooted img) w k p r) where
  -- the path has no node, and no longer one has
  pub progress_none : node_at (rooted img) (take k w) ≡ none → Taken p r (along_from front (rooted img) w) (Some tt)
  progress_none z =
      let whole : along_from front (rooted img) w ≡ g.done = g.whole ∙ ap (λ (ls : List Location). g.done ++ ls) (rest_none front (rooted img) w k z) ∙ append-nil g.done in
      subst (λ (ls : List Location). Taken p r ls (Some tt)) (sym whole) g.taken

  -- what ends at the path's node is joined with the places behind it
  module _ (m : Parts) (l : lists_of img m ≡ lists_at (rooted img) (take k w)) (h : k < length w) (ms : List Location) (ems : ms ≡ first_of (ends_found (rooted img) (drop k w))) where
    step : along_from front (rooted img) w ≡ g.done ++ joins_each k (ended_lists front (lists_of img m)) ms ++ rest_along front (rooted img) w (k + 1)
    step =
        let next : rest_along front (rooted img) w k ≡ joins_each k (ended_lists front (lists_of img m)) ms ++ rest_along front (rooted img) w (k + 1) =
        rest_next front (rooted img) w k h ∙ ap (λ (ls : Lists). joins_each k (ended_lists front ls) (first_of (ends_found (rooted img) (drop k w))) ++ rest_along front (rooted img) w (k + 1)) (sym l)
        ∙ ap (λ (ns : List Location). joins_each k (ended_lists front (lists_of img m)) ns ++ rest_along front (rooted img) w (k + 1)) (sym ems) in
        g.whole ∙ ap (λ (ls : List Location). g.done ++ ls) next ∙ sym (append_assoc g.done (joins_each k (ended_lists front (lists_of img m)) ms) (rest_along front (rooted img) w (k + 1)))

    pub progress_next : {r' : PlaceSet} → Taken r r' (joins_each k (ended_lists front (lists_of img m)) ms) (Some tt) → Progress front (rooted img) w (k + 1) p r'
    progress_next t = record { done = g.done ++ joins_each k (ended_lists front (lists_of img m)) ms; whole = step; taken = taken_more g.taken t }

    -- that has no room
    pub progress_over : {r' : PlaceSet} → Taken r r' (joins_each k (ended_lists front (lists_of img m)) ms) None → Taken p r' (along_from front (rooted img) w) None
    progress_over t =
        taken_over (taken_more g.taken t)
        (subst (Within (g.done ++ joins_each k (ended_lists front (lists_of img m)) ms)) (sym step) (λ x i. append_left (rest_along front (rooted img) w (k + 1)) i))

  -- the path is the query
  pub progress_end : {r' : PlaceSet} {o : Option ⊤} {at : ℕ} → FoundAt img 16 at (node_at (rooted img) (take k w)) → length w ≤ k → Reached img at front r r' o → Taken p r' (along_from front (rooted img) w) o
  progress_end {r'} {o} f h t =
      let there : node_at (rooted img) w ≡ some f.node = subst (λ (x : List ℕ). node_at (rooted img) x ≡ some f.node) (take_all k w h) f.there in
      let whole : along_from front (rooted img) w ≡ g.done ++ beyond_of front f.node = g.whole ∙ ap (λ (ls : List Location). g.done ++ ls) (rest_end front (rooted img) w k h ∙ beyond_some front (rooted img) w f.node there) in
      subst (λ (ls : List Location). Taken p r' ls o) (sym whole) (taken_more g.taken (t.taken f.node f.here))

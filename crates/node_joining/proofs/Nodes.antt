-- What the node at the end of a path gives to a set, by its lists in the image. Assumes nothing.
use Prim.Native.Nat.{ℕ, ◌+◌, ◌-◌, ◌*◌, ◌≤◌, ◌<◌}
use native.Mathlib.Omega.{arith}
use mathlib.Core.Path.{◌≡◌, refl, sym, ap, subst, ◌∙◌}
use Rattle.std.specs.Prelude.{Option, Some, None, ⊤}
use mathlib.Core.Bool.{Bool, true, false}
use mathlib.Core.List.Memᴰ.{append_left}
use mathlib.Core.List.{List, [], ◌++◌}
use lib.ListN.{length, drop, get_or}
use Rattle.definitions.specs.Location.{Location, normal, locations_in}
use Rattle.definitions.specs.Places.{first_of}
use Rattle.definitions.proofs.Order.{mem_normal, normal_mem}
use Rattle.trie.specs.Trie.{Node, lists_at}
use Rattle.trie.specs.Find.{joins_each, ends_found}
use Rattle.image_walk.specs.declared.Node.{Node as Parts}
use Rattle.place_buffer.specs.declared.PlaceSet.{PlaceSet}
use Rattle.place_buffer.specs.Buffer.{Taken}
use Rattle.place_buffer.proofs.Adding.{taken_none, taken_same, taken_over, taken_more}
use Rattle.place_buffer.proofs.Holding.{taken_elsewhere}
use Rattle.joining.specs.declared.Span.{Span}
use Rattle.joining.specs.Lists.{listed, spanned}
use Rattle.joining.proofs.Each.{each_append, each_within, each_places, places_each}
use Rattle.collecting.specs.Collected as collecting
use Rattle.node_joining.specs.Found.{rooted, last_of, ended_lists, ending_lists}
use Rattle.node_joining.specs.declared.Beyond.{Beyond}
use Rattle.node_joining.specs.declared.Ended.{Ended}
use Rattle.node_joining.specs.Layout.{lists_of, Listed, ended_at, ended_in, EndedHere, EndsNothing, ending_in, Ending, Reached, LaidOut}
use Rattle.node_joining.proofs.Asked.{ending_are}
use Rattle.node_joining.proofs.Stages.{table_behind, table_last}

-- ── what ends at a node ──

-- inside a query only whole pieces, at its front also those that began earlier
ended_same : (img : List ℕ) (front : Bool) (m : Parts) → ended_in img (ended_at front m) ≡ ended_lists front (lists_of img m)
unfolding locations_in
ended_same img true m = refl
ended_same img false m = refl

listed_here : {img : List ℕ} (front : Bool) {m : Parts} → Listed img m → EndedHere img (ended_at front m)
unfolding locations_in
listed_here true l = record {
  prefixes = record { within = l.prefixes; sorted = l.sorted.prefixes };
  chunks = record { within = l.chunks; sorted = l.sorted.chunks };
}
listed_here false l = record {
  prefixes = record { within = omega (arith, l.prefixes); sorted = tt };
  chunks = record { within = l.chunks; sorted = l.sorted.chunks };
}

pub ended_here : {img : List ℕ} (front : Bool) {m : Parts} {e : Ended} → e ≡ ended_at front m → Listed img m → EndedHere img e
ended_here {img} front ee l = subst (EndedHere img) (sym ee) (listed_here front l)

module _ (img : List ℕ) (k : ℕ) (ms : List Location) {p : PlaceSet} where
  -- one list after the other
  pub joined_ended : (e : Ended) {a r : PlaceSet} {o : Option ⊤} → Taken p a (joins_each k (listed img e.prefixes) ms) (Some tt) → Taken a r (joins_each k (listed img e.chunks) ms) o
      → Taken p r (joins_each k (ended_in img e) ms) o
  joined_ended e {r = r} {o = o} t u = subst (λ (ls : List Location). Taken p r ls o) (sym (each_append k (listed img e.prefixes) (listed img e.chunks) ms)) (taken_more t u)

  -- the first has no room
  pub ended_over : (e : Ended) {r : PlaceSet} → Taken p r (joins_each k (listed img e.prefixes) ms) None → Taken p r (joins_each k (ended_in img e) ms) None
  ended_over e {r} t = subst (λ (ls : List Location). Taken p r ls None) (sym (each_append k (listed img e.prefixes) (listed img e.chunks) ms)) (taken_over t (λ x h. append_left (joins_each k (listed img e.chunks) ms) h))

  -- the first is empty
  pub joined_chunks : (e : Ended) {r : PlaceSet} {o : Option ⊤} → e.prefixes.count ≡ 0 → Taken p r (joins_each k (listed img e.chunks) ms) o → Taken p r (joins_each k (ended_in img e) ms) o
  unfolding locations_in
  joined_chunks e {r} {o} z t =
      let none : listed img e.prefixes ≡ [] = ap (λ (n : ℕ). locations_in img n e.prefixes.at) z in
      subst (λ (ls : List Location). Taken p r (joins_each k (ls ++ listed img e.chunks) ms) o) (sym none) t

  -- nothing ends there
  pub joined_none : (e : Ended) → p.known.full ≡ false → EndsNothing e → Taken p p (joins_each k (ended_in img e) ms) (Some tt)
  unfolding locations_in
  joined_none e live z =
      let a : listed img e.prefixes ≡ [] = ap (λ (n : ℕ). locations_in img n e.prefixes.at) z.prefixes in
      let b : listed img e.chunks ≡ [] = ap (λ (n : ℕ). locations_in img n e.chunks.at) z.chunks in
      let none : ended_in img e ≡ [] = ap (λ (ls : List Location). ls ++ listed img e.chunks) a ∙ b in
      subst (λ (ls : List Location). Taken p p (joins_each k ls ms) (Some tt)) (sym none) (taken_none live)

  pub joined_at : {r : PlaceSet} {o : Option ⊤} (front : Bool) (m : Parts) {e : Ended} → e ≡ ended_at front m → Taken p r (joins_each k (ended_in img e) ms) o → Taken p r (joins_each k (ended_lists front (lists_of img m)) ms) o
  joined_at {r} {o} front m ee t =
      subst (λ (ls : List Location). Taken p r (joins_each k ls ms) o) (ap (ended_in img) ee ∙ ended_same img front m) t

-- places before the set are joined as they were
pub joined_later : (k : ℕ) (xs : List Location) (b : Span) {p a r : PlaceSet} {o o' : Option ⊤} {ls : List Location} → b.from ≤ b.to → b.to ≤ p.known.base → Taken p a ls o'
    → Taken a r (joins_each k xs (spanned a.scratch.now b)) o → Taken a r (joins_each k xs (spanned p.scratch.now b)) o
joined_later k xs b {a = a} {r = r} {o = o} h l t u =
    subst (λ (ms : List Location). Taken a r (joins_each k xs ms) o) (taken_elsewhere t (b.to - b.from) (b.from * 24) (omega arith)) u

-- ── the places behind a node ──

pub joined_with : (k : ℕ) (ls : List Location) {ms ns : List Location} {p r : PlaceSet} {o : Option ⊤} → ms ≡ ns → Taken p r (joins_each k ls ms) o → Taken p r (joins_each k ls ns) o
joined_with k ls {p = p} {r = r} {o = o} e t = subst (λ (xs : List Location). Taken p r (joins_each k ls xs) o) e t

-- two lists of them
pub joined_both : (k : ℕ) (ls ms ns : List Location) {p a r : PlaceSet} {o : Option ⊤} → Taken p a (joins_each k ls ms) (Some tt) → Taken a r (joins_each k ls ns) o → Taken p r (joins_each k ls (ms ++ ns)) o
joined_both k ls ms ns t u = taken_same (taken_more t u) (places_each k ls ms ns) (each_places k ls ms ns)

-- the first has no room
pub both_over : (k : ℕ) (ls ms ns : List Location) {p r : PlaceSet} → Taken p r (joins_each k ls ms) None → Taken p r (joins_each k ls (ms ++ ns)) None
both_over k ls ms ns t = taken_over t (each_within k ls ls ms (ms ++ ns) (λ x h. h) (λ x h. append_left ns h))

-- those of the last byte
pub behind_last : (k : ℕ) (ls : List Location) (img q : List ℕ) (j : ℕ) {last : Beyond} {p r : PlaceSet} {o : Option ⊤} → 1 ≤ j → j + 1 ≡ length q → ∥ Ending img (last_of q) last ∥₁
    → Taken p r (joins_each k ls (ending_in img last)) o → Taken p r (joins_each k ls (first_of (ends_found (rooted img) (drop j q)))) o
behind_last k ls img q j {last} {p} {r} {o} h e x t =
    let f : length q - 1 ≡ j = omega arith in
    let xs = ending_in img last in
    let same : xs ≡ ending_lists (lists_at (rooted img) (drop j q)) = ending_are x ∙ ap (λ (i : ℕ). ending_lists (lists_at (rooted img) (drop i q))) f in
    let whole : first_of (ends_found (rooted img) (drop j q)) ≡ normal xs =
    ap first_of (sym (table_behind (rooted img) q j h) ∙ table_last (rooted img) q j h e) ∙ ap normal (sym same) in
    subst (λ (ms : List Location). Taken p r (joins_each k ls ms) o) (sym whole)
    (taken_same t (each_within k ls ls xs (normal xs) (λ y i. i) (λ y i. mem_normal xs i)) (each_within k ls ls (normal xs) xs (λ y i. i) (λ y i. normal_mem xs i)))

-- those that stand in scratch
module _ (i j : ℕ) {n : Node} {q ends s : List ℕ} (d : LaidOut n q (i + 1) ends s) (h : i < j) (l : j + 1 < length q) where
  pub behind_order : get_or ends (j + 1) 0 ≤ get_or ends j 0
  behind_order = (d.part j (omega arith) (omega arith) (λ z. l)).order

  pub behind_below : get_or ends j 0 ≤ get_or ends (i + 1) 0
  behind_below = (d.part j (omega arith) (omega arith) (λ z. l)).below

  pub behind_places : locations_in s (get_or ends j 0 - get_or ends (j + 1) 0) (get_or ends (j + 1) 0 * 24) ≡ first_of (ends_found n (drop j q))
  behind_places = (d.part j (omega arith) (omega arith) (λ z. l)).places ∙ ap first_of (table_behind n q j (omega arith))

-- ── what goes beyond it ──

module _ {img : List ℕ} {at : ℕ} {p r : PlaceSet} {o : Option ⊤} where
  pub reached_front : (front : Bool) → front ≡ true → collecting.Collected img 16 at p r o → Reached img at front p r o
  reached_front front f c = record { taken = λ n h. rw f (c.taken n h) }

  pub reached_inside : (front : Bool) → front ≡ false → collecting.Ended img at p r o → Reached img at front p r o
  reached_inside front f c = record { taken = λ n h. rw f (c.taken 16 n h) }

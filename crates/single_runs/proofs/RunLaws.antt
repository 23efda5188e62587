-- A run of nodes with one child, one front and no location. Assumes nothing.
use Prim.Native.Nat.{ℕ, suc, ◌+◌, ◌*◌, ◌-◌, ◌≤◌, ◌<◌}
use native.Mathlib.Omega.{arith}
use native.Mathlib.Numerals.{add-one}
use mathlib.Core.Path.{◌≡◌, refl, sym, ap, subst, ◌∙◌}
use mathlib.Core.Bool.{Bool, true, false, cond, ◌&&◌}
use mathlib.Core.List.{List, [], ◌∷◌, ◌++◌, append-nil}
use mathlib.Core.Option.{Option, none, some}
use lib.ListN.{length, get_or}
use lib.Dec.{eqb}
use borrow.Author.Tests.{eq-eqb, eqb-true, ne_eqb}
use Rattle.std.specs.Prelude.{Some, None}
use Rattle.words.specs.Words.{le64}
use Rattle.definitions.proofs.Views.{Eq, eq}
use Rattle.definitions.specs.Location.{Location, location_at, locations_in}
use Rattle.trie.specs.Trie.{Lists, Forest, leaf, more, Node}
use Rattle.trie.specs.Test.{all_ended, and_list, child_lists, front_lists, is_union}
use Rattle.definitions.proofs.Tests.{both}
use Rattle.location_lists.specs.Lists.{held, Within, AreLists, lists_in}
use Rattle.location_lists.specs.declared.List.{List as Listing}
use Rattle.location_lists.specs.declared.Lists.{Lists as Walked}
use Rattle.image_format.specs.Held.{Entry}
use Rattle.fields.specs.Singles.{Bare, SingleWithoutLists}
use Rattle.image_walk.specs.Parts.{list_in, parts_at}
use Rattle.image_walk.specs.Tables.{slot_in}
use Rattle.image_walk.specs.Here.{Laid}
use Rattle.image_walk.proofs.Parts.{parts_are, room_last}
use Rattle.node_rule.specs.Parts.{TableOf, PartsOf, HasTable}
use Rattle.single_runs.specs.Says.{children_right}
use Rattle.node_rule.specs.OneNode.{ChildLists, with_two}
use Rattle.single_runs.specs.Runs.{SingleTable, BareSingle, byte_behind, Down, StepsTo, RunAt, RunTo, SaysNone, is_leaf, LeafSays}
use Rattle.node_rule.proofs.Tables.{Next, slot_taken, slots_end}
use Rattle.node_rule.proofs.Parts.{parts_of}
use Rattle.node_rule.proofs.Children.{next_laid}
use Rattle.node_rule.proofs.Owed.{table_none}
use Rattle.node_rule.proofs.TwoLists.{two_among, two_valid}
use Rattle.location_lists.proofs.Buffers.{no_lists}
use Rattle.single_runs.proofs.StepLaws.{steps_keep}
use Rattle.image_walk.specs.declared.Node.{Node as Parts}
use Rattle.image_walk.specs.declared.Table.{Table}
use Rattle.single_runs.specs.declared.Pair.{Pair}

-- ── one node ──

pub record LeafParts (p : Parts) : Type 0 where
  pub children : p.table.count ≡ 0
  pub chunks : p.chunks.count ≡ 0
  pub suffixes : p.suffixes.count ≡ 0
  pub prefixes : p.prefixes.count ≡ 1

pub leaf_parts : (p : Parts) → is_leaf p ≡ true → LeafParts p
leaf_parts p e =
    let x = both (eqb p.table.count 0) _ e in
    let y = both (eqb p.chunks.count 0) _ x.1 in
    let z = both (eqb p.suffixes.count 0) _ y.1 in
    record { children = eqb-true _ _ x.0; chunks = eqb-true _ _ y.0; suffixes = eqb-true _ _ z.0; prefixes = eqb-true _ _ z.1 }

-- a node has room for its counts
pub laid_room : (s : List ℕ) (at : ℕ) → Laid s at → at + 33 ≤ length s
laid_room s at h = let r = room_last s at _ refl _ refl _ refl _ refl _ refl h in omega arith

-- a list that was counted
listed : (s : List ℕ) (i n : ℕ) → n ≡ le64 s i → ◌≡◌ {A = Listing} (record { at = i + 8; count = n }) (list_in s i)
listed s i n e = λ k. record { at = i + 8; count = e k }

module _ (s : List ℕ) (at : ℕ) (b : Bare s at) (u : ℕ) (e : u ≡ le64 s (at + 17)) where
  to_chunks : at + 9 ≡ at + 1 + 8 + 0 * 24
  to_chunks = omega arith

  to_suffixes : at + 17 ≡ at + 9 + 8 + 0 * 24
  to_suffixes = omega arith

  pub bare_room : Laid s at → at + 25 + 24 * u + 8 ≤ length s
  bare_room h =
      let r = room_last s at _ (listed s (at + 1) 0 (sym b.prefixes)) (at + 9) to_chunks _ (listed s (at + 9) 0 (sym b.chunks)) (at + 17) to_suffixes _ (listed s (at + 17) u e) h in
      omega arith

  module _ (f : 1 ≡ le64 s (at + 25 + 24 * u)) where
    bare_are : ◌≡◌ {A = Parts}
        (record { prefixes = record { at = at + 1 + 8; count = 0 }; chunks = record { at = at + 9 + 8; count = 0 }; suffixes = record { at = at + 17 + 8; count = u }; table = record { at = at + 25 + 24 * u + 8; count = 1 } })
        (parts_at s at)
    bare_are =
        let z : get_or s at 0 ≡ 1 → ⊥ = omega (arith, b.kind) in
        let m : at + 25 + 24 * u ≡ at + 17 + 8 + u * 24 = omega arith in
        let t : ◌≡◌ {A = Table} (record { at = at + 25 + 24 * u + 8; count = 1 }) (record { at = at + 25 + 24 * u + 8; count = le64 s (at + 25 + 24 * u) }) = λ k. record { at = at + 25 + 24 * u + 8; count = f k } in
        parts_are s at _ (listed s (at + 1) 0 (sym b.prefixes)) (at + 9) to_chunks _ (listed s (at + 9) 0 (sym b.chunks)) (at + 17) to_suffixes _ (listed s (at + 17) u e) (at + 25 + 24 * u) m _ (rw (ne_eqb _ _ z) t)

    pub bare_parts : BareSingle (parts_at s at) (at + 25 + 24 * u + 8) × ((parts_at s at).suffixes.count ≡ u)
    bare_parts = (
      record {
        prefixes = sym (ap (λ (y : Parts). y.prefixes.count) bare_are);
        chunks = sym (ap (λ (y : Parts). y.chunks.count) bare_are);
        leads = sym (ap (λ (y : Parts). y.table.at) bare_are);
        one = sym (ap (λ (y : Parts). y.table.count) bare_are);
      },
      sym (ap (λ (y : Parts). y.suffixes.count) bare_are),
    )

    pub bare_place : (parts_at s at).suffixes.at ≡ at + 25
    bare_place = let y : at + 17 + 8 ≡ at + 25 = omega arith in sym (ap (λ (y : Parts). y.suffixes.at) bare_are) ∙ y

  pub bare_some : (r : ℕ) → SingleTable s (at + 25 + 24 * u) r → BareSingle (parts_at s at) r
  bare_some r l = subst (BareSingle (parts_at s at)) l.table_is (bare_parts (sym l.one)).0

  pub bare_none : u ≡ 0 → (r : ℕ) → SingleTable s (at + 25) r → BareSingle (parts_at s at) r
  bare_none z r l =
      let x : at + 25 ≡ at + 25 + 24 * u = omega arith in
      bare_some r (subst (λ (y : ℕ). SingleTable s y r) x l)

pub without_lists : (s : List ℕ) (at : ℕ) → SingleWithoutLists s at → BareSingle (parts_at s at) (at + 33) × ((parts_at s at).suffixes.count ≡ 0)
without_lists s at h =
    let x : at + 25 ≡ at + 25 + 24 * 0 = omega arith in
    let y : at + 25 + 24 * 0 + 8 ≡ at + 33 = omega arith in
    let p = bare_parts s at h.bare 0 (sym h.suffixes) (sym h.count ∙ ap (le64 s) x) in
    (subst (BareSingle (parts_at s at)) y p.0, p.1)

-- ── two nodes ──

pub no_locations : (s : List ℕ) (n at : ℕ) (ls : List Location) → n ≡ 0 → locations_in s n at ≡ ls → [] ≡ ls
unfolding locations_in
no_locations s n at ls z e = subst (λ (k : ℕ). locations_in s k at ≡ ls) z e

module _ (s : List ℕ) (table : ℕ) (e : Entry) (q : some e ≡ slot_in s table 1 0) where
  pub only : (d : ℕ) (g : Forest) → TableOf s d table 1 g → Next s d table 1 0 e g
  only d g t = slot_taken s d table 1 0 g e (omega arith) q t.leads

  pub only_laid : HasTable s table 1 → Laid s e.node
  only_laid h = next_laid (only h.depth h.forest h.is)

  pub only_is : (d : ℕ) (g : Forest) (t : TableOf s d table 1 g) → g ≡ more e.byte (only d g t).lists (only d g t).below leaf
  only_is d g t = let x = only d g t in x.is ∙ ap (more e.byte x.lists x.below) (slots_end s d table 1 (0 + 1) x.later (omega arith) x.ahead)

  pub only_parts : (d : ℕ) (g : Forest) (t : TableOf s d table 1 g) → PartsOf s (d - 1) (parts_at s e.node) (record { lists = (only d g t).lists; children = (only d g t).below })
  only_parts d g t = let x = only d g t in parts_of s (d - 1) e.node (record { lists = x.lists; children = x.below }) x.here

  pub only_leads : (d : ℕ) (g : Forest) (t : TableOf s d table 1 g) (n : ℕ) → BareSingle (parts_at s e.node) n → TableOf s (d - 1) n 1 (only d g t).below
  only_leads d g t n b = let p = (only_parts d g t).table in subst (λ (k : ℕ). TableOf s (d - 1) n k (only d g t).below) b.one (subst (λ (k : ℕ). TableOf s (d - 1) k (parts_at s e.node).table.count (only d g t).below) b.leads p)

pub goes_down : (s : List ℕ) (p q : Pair) (e f : Entry) → some e ≡ slot_in s p.table 1 0 → some f ≡ slot_in s p.other 1 0 → e.byte ≡ f.byte →
    BareSingle (parts_at s e.node) q.table × ((parts_at s e.node).suffixes.count ≡ 0) → BareSingle (parts_at s f.node) q.other → Down s p q
goes_down s p q e f u v z x y d c g h m n =
    let a = only s p.table e u d g m in
    let b = only s p.other f v c h n in
    let i = only_parts s p.table e u d g m in
    let k = only_parts s p.other f v c h n in
    record {
      byte = e.byte;
      lists = a.lists;
      below = a.below;
      front = record { lists = b.lists; children = b.below };
      is = only_is s p.table e u d g m;
      front_is = only_is s p.other f v c h n ∙ ap (λ (j : ℕ). more j b.lists b.below leaf) (sym z);
      prefixes = no_locations s _ _ _ x.0.prefixes i.prefixes;
      chunks = no_locations s _ _ _ x.0.chunks i.chunks;
      suffixes = no_locations s _ _ _ x.1 i.suffixes;
      front_chunks = no_locations s _ _ _ y.chunks k.chunks;
      front_prefixes = no_locations s _ _ _ y.prefixes k.prefixes;
      leads = only_leads s p.table e u d g m q.table x.0;
      front_leads = only_leads s p.other f v c h n q.other y;
      some = never i.childless x.0.one;
    }
  where
    never : {v : ℕ} {w : Forest} → (w ≡ leaf → v ≡ 0) → v ≡ 1 → w ≡ leaf → ⊥
    never i j l = let u = i l in omega arith

-- a byte of an entry whose node stands there is that of the entry
behind_is : (o : Option Entry) (due r : ℕ) → Some r ≡ byte_behind o due → some (record { byte = r; node = due }) ≡ o
behind_is none due r e = absurd (cc)
behind_is (some x) due r e = go (eqb x.node due) (eq x.node due) e
  where
    go : (t : Bool) → Eq t x.node due → Some r ≡ cond t (Some x.byte) None → some (record { byte = r; node = due }) ≡ some x
    go true z f = let b : r ≡ x.byte = cc in ap some (λ i. record { byte = b i; node = sym z i })
    go false z f = absurd (cc)

-- the same where the children stand right behind their tables
module _ (s : List ℕ) (table b : ℕ) (e : Some b ≡ byte_behind (slot_in s table 1 0) (table + 10)) where
  pub behind : some (record { byte = b; node = table + 10 }) ≡ slot_in s table 1 0
  behind = behind_is (slot_in s table 1 0) (table + 10) b e

  pub laid_behind : HasTable s table 1 → Laid s (table + 10)
  laid_behind = only_laid s table (record { byte = b; node = table + 10 }) behind

pub goes_behind : (s : List ℕ) (p q : Pair) (b c : ℕ) → Some b ≡ byte_behind (slot_in s p.table 1 0) (p.table + 10) → Some c ≡ byte_behind (slot_in s p.other 1 0) (p.other + 10) → c ≡ b →
    BareSingle (parts_at s (p.table + 10)) q.table × ((parts_at s (p.table + 10)).suffixes.count ≡ 0) → BareSingle (parts_at s (p.other + 10)) q.other → Down s p q
goes_behind s p q b c e f z =
    goes_down s p q (record { byte = b; node = p.table + 10 }) (record { byte = c; node = p.other + 10 }) (behind s p.table b e) (behind s p.other c f) (sym z)

-- ── what the child in a table owes ──

pub none_say : (s : List ℕ) (table : ℕ) (lists : Walked) (r : Bool) → ChildLists s table 1 lists → r ≡ is_union 0 (locations_in s 0 0) (lists_in s lists) → SaysNone s table r
unfolding locations_in
none_say s table lists r k e d f t = e ∙ ap all_ended (k.are d f t)

-- ── a run ──

pub and_true : (b : Bool) → (b && true) ≡ b
and_true true = refl
and_true false = refl

-- what holds before a run of no level, and is what a run of some levels says
pub passed : (k : ℕ) (b : Bool) {v : Bool} → (k ≡ 0 → b ≡ true) → ((k ≡ 0 → ⊥) → b ≡ v) → v ≡ true → b ≡ true
passed k b f g e = go (eqb k 0) (eq k 0)
  where
    go : (i : Bool) → Eq i k 0 → b ≡ true
    go true z = f z
    go false z = g z ∙ e

-- one level: all but the suffixes of the node holds, and what stands below
one_level : (depth b : ℕ) (h : Lists) (below : Forest) (front last : Node) → front.children ≡ more b last.lists last.children leaf →
    [] ≡ h.prefixes → [] ≡ h.chunks → [] ≡ h.suffixes → [] ≡ last.lists.chunks → [] ≡ last.lists.prefixes → (below ≡ leaf → ⊥) →
    (all_ended (child_lists below) && children_right (suc depth) (last ∷ []) below) ≡ children_right depth (front ∷ []) (more b h below leaf)
unfolding children_right
one_level depth b h leaf front last e p c u k l z = absurd (z refl)
one_level depth b h (more i j m n) front last e p c u k l z = rw (e, eq-eqb b b refl, ← p, ← c, ← u, ← k, ← l) (sym (and_true _))

-- the last level: the leaf has one prefix
one_leaf : (depth b : ℕ) (h : Lists) (front last : Node) (m : Location) → front.children ≡ more b last.lists last.children leaf → last.children ≡ leaf →
    m ∷ [] ≡ h.prefixes → [] ≡ h.chunks → [] ≡ h.suffixes → is_union 1 h.prefixes (front_lists (last ∷ [])) ≡ children_right depth (front ∷ []) (more b h leaf leaf)
unfolding children_right
one_leaf depth b h front last m e z p c u = rw (e, z, eq-eqb b b refl, ← p, ← c, ← u) (sym (and_true _) ∙ sym (and_true _))

-- nothing is owed to a node whose only child has neither chunk nor suffix
none_owed : (g : Forest) (b : ℕ) (h : Lists) (below : Forest) → g ≡ more b h below leaf → [] ≡ h.chunks → [] ≡ h.suffixes → all_ended (child_lists g) ≡ true
none_owed g b h below e c u = rw (e, ← c, ← u) refl

-- ── leaves ──

pub one_location : (s : List ℕ) (n at : ℕ) (ls : List Location) → n ≡ 1 → locations_in s n at ≡ ls → location_at s at ∷ [] ≡ ls
unfolding locations_in
one_location s n at ls z e = subst (λ (k : ℕ). locations_in s k at ≡ ls) z e

-- the lists of a front alone
module _ (s : List ℕ) (lists : Walked) (z : lists.count ≡ 0) (f : Parts) (d : ℕ) (n : Node) (p : PartsOf s d f n) (r : 2 ≤ length lists.each.now) where
  abbrev alone : Walked
  alone = with_two lists f.chunks f.prefixes

  pub alone_valid : AreLists s alone
  alone_valid = two_valid lists f.chunks f.prefixes s (omega arith) p.chunks_in p.prefixes_in (no_lists s lists z)

  alone_are : lists_in s alone ≡ front_lists (n ∷ [])
  alone_are =
      let o : lists_in s lists ≡ [] = rw z refl in
      let e : lists_in s alone ++ [] ≡ lists_in s lists ++ and_list (held s f.chunks) (and_list (held s f.prefixes) []) = two_among lists f.chunks f.prefixes s [] (omega arith) in
      let g : and_list (held s f.chunks) (and_list (held s f.prefixes) []) ≡ front_lists (n ∷ []) = rw (p.chunks, p.prefixes) refl in
      sym (append-nil (lists_in s alone)) ∙ e ∙ ap (λ (x : List (List Location)). x ++ and_list (held s f.chunks) (and_list (held s f.prefixes) [])) o ∙ g

module _ (s : List ℕ) (at : Pair) (e i : Entry) (q : some e ≡ slot_in s at.table 1 0) (r : some i ≡ slot_in s at.other 1 0) (c f : Parts) (g : c ≡ parts_at s e.node) (k : f ≡ parts_at s i.node) where
  child_parts : (d : ℕ) (w : Forest) (t : TableOf s d at.table 1 w) → PartsOf s (d - 1) c (record { lists = (only s at.table e q d w t).lists; children = (only s at.table e q d w t).below })
  child_parts d w t = rw g (only_parts s at.table e q d w t)

  front_parts : (d : ℕ) (w : Forest) (t : TableOf s d at.other 1 w) → PartsOf s (d - 1) f (record { lists = (only s at.other i r d w t).lists; children = (only s at.other i r d w t).below })
  front_parts d w t = rw k (only_parts s at.other i r d w t)

  pub leaf_prefixes : HasTable s at.table 1 → Within s c.prefixes
  leaf_prefixes h = (child_parts h.depth h.forest h.is).prefixes_in

  pub leaf_chunks : HasTable s at.other 1 → Within s f.chunks × Within s f.prefixes
  leaf_chunks h = let p = front_parts h.depth h.forest h.is in (p.chunks_in, p.prefixes_in)

  module _ (lists : Walked) (y : lists.count ≡ 0) (room : 2 ≤ length lists.each.now) where
    pub leaf_valid : HasTable s at.other 1 → AreLists s (with_two lists f.chunks f.prefixes)
    leaf_valid h = alone_valid s lists y f _ _ (front_parts h.depth h.forest h.is) room

    pub leaf_says : e.byte ≡ i.byte → LeafParts c → f.table.count ≡ 0 → (v : Bool) → v ≡ is_union 1 (held s c.prefixes) (lists_in s (with_two lists f.chunks f.prefixes)) → LeafSays s at v
    leaf_says z l n v u depth d j w front t o =
        let x = only s at.table e q d w t in
        let y' = only s at.other i r j front.children o in
        let last : Node = record { lists = y'.lists; children = y'.below } in
        let p = child_parts d w t in
        let m = front_parts j front.children o in
        let a : x.below ≡ leaf = table_none s (d - 1) c.table.at c.table.count x.below p.table (omega (arith, l.children)) in
        let b : y'.below ≡ leaf = table_none s (j - 1) f.table.at f.table.count y'.below m.table (omega arith) in
        let is : w ≡ more e.byte x.lists leaf leaf = only_is s at.table e q d w t ∙ ap (λ (k : Forest). more e.byte x.lists k leaf) a in
        let front_is : front.children ≡ more e.byte y'.lists y'.below leaf = only_is s at.other i r j front.children o ∙ ap (λ (k : ℕ). more k y'.lists y'.below leaf) (sym z) in
        let pre = one_location s _ _ _ l.prefixes p.prefixes in
        let chu = no_locations s _ _ _ l.chunks p.chunks in
        let suf = no_locations s _ _ _ l.suffixes p.suffixes in
        let s₁ : is_union 1 (held s c.prefixes) (lists_in s (with_two lists f.chunks f.prefixes)) ≡ is_union 1 x.lists.prefixes (front_lists (last ∷ [])) =
        ap (λ (k : List Location). is_union 1 k (lists_in s (with_two lists f.chunks f.prefixes))) p.prefixes ∙ ap (is_union 1 x.lists.prefixes) (alone_are s lists y f (j - 1) last m room) in
        record {
          none = none_owed w e.byte x.lists leaf is chu suf;
          says = u ∙ s₁ ∙ one_leaf depth e.byte x.lists front last _ front_is b pre chu suf ∙ ap (children_right depth (front ∷ [])) (sym is);
        }

module _ (s : List ℕ) (p : Pair) (most : ℕ) where
  pub run_none : RunTo s p most 0 p
  run_none = record { few = omega arith; is = is }
    where
      is : (depth d e : ℕ) (g : Forest) (front : Node) → TableOf s d p.table 1 g → TableOf s e p.other 1 front.children → RunAt s depth d e 0 p.table p.other g front
      is depth d e g front t o =
          let x : d ≡ d - 0 = omega arith in
          let y : e ≡ e - 0 = omega arith in
          let z : depth + 0 ≡ depth = omega arith in
          record {
            below = g;
            last = front;
            leads = subst (λ (k : ℕ). TableOf s k p.table 1 g) x t;
            front_leads = subst (λ (k : ℕ). TableOf s k p.other 1 front.children) y o;
            right = true;
            first = λ _. refl;
            after = λ n. absurd (n refl);
            same = ap (λ (k : ℕ). children_right k (front ∷ []) g) z;
          }

  module _ (k : ℕ) (q : Pair) (r : RunTo s p most k q) where
    pub run_tables : HasTable s p.table 1 × HasTable s p.other 1 → HasTable s q.table 1 × HasTable s q.other 1
    run_tables h =
        let f : Node = record { lists = record { prefixes = []; chunks = []; suffixes = [] }; children = h.1.forest } in
        let x = r.is 0 h.0.depth h.1.depth h.0.forest f h.0.is h.1.is in
        (record { depth = h.0.depth - k; forest = x.below; is = x.leads }, record { depth = h.1.depth - k; forest = x.last.children; is = x.front_leads })

    pub run_more : (to : Pair) → k < most → Down s q to → RunTo s p most (k + 1) to
    run_more to l w = record { few = omega arith; is = is }
      where
        more_than : k + 1 ≡ 0 → ⊥
        more_than i = omega arith

        is : (depth d e : ℕ) (g : Forest) (front : Node) → TableOf s d p.table 1 g → TableOf s e p.other 1 front.children → RunAt s depth d e (k + 1) to.table to.other g front
        is depth d e g front m n =
            let x = r.is depth d e g front m n in
            let y = w (d - k) (e - k) x.below x.last.children x.leads x.front_leads in
            let a : d - k - 1 ≡ d - (k + 1) = omega arith in
            let b : e - k - 1 ≡ e - (k + 1) = omega arith in
            let c : depth + (k + 1) ≡ depth + k + 1 = omega arith in
            let u : x.right ≡ true = passed k x.right x.first x.after (none_owed x.below y.byte y.lists y.below y.is y.chunks y.suffixes) in
            let v : (all_ended (child_lists y.below) && children_right (suc (depth + k)) (y.front ∷ []) y.below) ≡ children_right (depth + k) (x.last ∷ []) x.below =
            one_level (depth + k) y.byte y.lists y.below x.last y.front y.front_is y.prefixes y.chunks y.suffixes y.front_chunks y.front_prefixes y.some ∙ ap (children_right (depth + k) (x.last ∷ [])) (sym y.is) in
            record {
              below = y.below;
              last = y.front;
              leads = subst (λ (i : ℕ). TableOf s i to.table 1 y.below) a y.leads;
              front_leads = subst (λ (i : ℕ). TableOf s i to.other 1 y.front.children) b y.front_leads;
              right = all_ended (child_lists y.below);
              first = λ i. absurd (more_than i);
              after = λ _. refl;
              same = ap (λ (i : ℕ). all_ended (child_lists y.below) && children_right i (y.front ∷ []) y.below) (c ∙ add-one (depth + k)) ∙ v ∙ ap (λ (i : Bool). i && children_right (depth + k) (x.last ∷ []) x.below) (sym u) ∙ x.same;
            }

  -- steps down lead on
  pub run_steps : (R : Pair → Pair → Type 0) → ((a b : Pair) → R a b → Down s a b) → (k : ℕ) (q : Pair) → k ≤ most → StepsTo R p k q → RunTo s p most k q
  run_steps R down = steps_keep R (RunTo s p most) most p run_none (λ k a b l r d. run_more k a r b l (down a b d))

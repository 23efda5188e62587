-- A run of nodes with one child, one suffix and no front. Assumes nothing.
use Prim.Native.Nat.{ℕ, suc, ◌+◌, ◌*◌, ◌-◌, ◌<◌, ◌≤◌}
use native.Mathlib.Omega.{arith}
use native.Mathlib.Numerals.{add-one}
use mathlib.Core.Path.{◌≡◌, refl, sym, ap, subst, ◌∙◌}
use mathlib.Core.Bool.{Bool, true}
use mathlib.Core.List.{List, [], ◌∷◌}
use mathlib.Core.Option.{some}
use borrow.Author.Tests.{le-leb}
use Rattle.std.specs.Prelude.{Option, None, Some, is_some}
use Rattle.words.specs.Words.{le64}
use Rattle.definitions.specs.Location.{Location, location_at}
use Rattle.definitions.proofs.Order.{location_path}
use Rattle.trie.specs.Trie.{Lists, Forest, leaf, more}
use Rattle.trie.specs.Test.{is_union, moved_back}
use Rattle.trie.proofs.Union.{true_same}
use Rattle.image_format.specs.Held.{Entry}
use Rattle.fields.specs.Singles.{Bare}
use Rattle.image_walk.specs.Parts.{parts_at}
use Rattle.image_walk.specs.Tables.{slot_in}
use Rattle.image_walk.specs.Here.{Laid}
use Rattle.node_rule.specs.Parts.{TableOf, HasTable}
use Rattle.single_runs.specs.Says.{children_right}
use Rattle.single_runs.specs.Runs.{BareSingle, byte_behind, StepsTo}
use Rattle.single_runs.specs.Singles.{SingleWithSuffix, SingleTo, SingleIn, SingleBelow, SinglesAt, SinglesTo}
use Rattle.single_runs.proofs.StepLaws.{steps_keep}
use Rattle.single_runs.proofs.RunLaws.{and_true, bare_parts, bare_place, bare_room, no_locations, one_location, only, only_is, only_leads, only_parts}

-- ── one node ──

pub single_parts : (s : List ℕ) (at : ℕ) → Bare s at → Laid s at → 1 ≡ le64 s (at + 17) → 1 ≡ le64 s (at + 49) → SingleWithSuffix s at
single_parts s at b h e f =
    let x : at + 49 ≡ at + 25 + 24 * 1 = omega arith in
    let y : at + 25 + 24 * 1 + 8 ≡ at + 57 = omega arith in
    let p = bare_parts s at b 1 e (f ∙ ap (le64 s) x) in
    let r = bare_room s at b 1 e h in
    record { bare = subst (BareSingle (parts_at s at)) y p.0; one = p.1; place = bare_place s at b 1 e (f ∙ ap (le64 s) x); room = omega arith }

-- ── a table that leads to one ──

-- there is a byte where the answer is some
pub behind_some : (s : List ℕ) (table : ℕ) (r : Option ℕ) (t : Bool) → r ≡ byte_behind (slot_in s table 1 0) (table + 10) → t ≡ is_some r → t ≡ true → (b : ℕ) × (Some b ≡ byte_behind (slot_in s table 1 0) (table + 10))
behind_some s table None t e u z = absurd (cc)
behind_some s table (Some b) t e u z = (b, e)

module _ (s : List ℕ) (table : ℕ) (e : Entry) (q : some e ≡ slot_in s table 1 0) where
  single_at : (at : ℕ) → e.node ≡ at → SingleWithSuffix s at → (d : ℕ) (g : Forest) → TableOf s d table 1 g → (place to : ℕ) → at + 25 ≡ place → at + 57 ≡ to → (byte : ℕ) × (lists : Lists) × (below : Forest) ×
      (g ≡ more byte lists below leaf) × ([] ≡ lists.prefixes) × ([] ≡ lists.chunks) × (location_at s place ∷ [] ≡ lists.suffixes) × TableOf s (d - 1) to 1 below
  single_at at z x d g t place to i j =
      let w : SingleWithSuffix s e.node = subst (SingleWithSuffix s) (sym z) x in
      let a = only s table e q d g t in
      let p = only_parts s table e q d g t in
      let u : (parts_at s e.node).suffixes.at ≡ place = w.place ∙ ap (λ (y : ℕ). y + 25) z ∙ i in
      let v : e.node + 57 ≡ to = ap (λ (y : ℕ). y + 57) z ∙ j in (
        e.byte,
        a.lists,
        a.below,
        only_is s table e q d g t,
        no_locations s _ _ _ w.bare.prefixes p.prefixes,
        no_locations s _ _ _ w.bare.chunks p.chunks,
        subst (λ (y : ℕ). location_at s y ∷ [] ≡ a.lists.suffixes) u (one_location s _ _ _ w.one p.suffixes),
        subst (λ (y : ℕ). TableOf s (d - 1) y 1 a.below) v (only_leads s table e q d g t (e.node + 57) w.bare),
      )

  pub single_in : e.node ≡ table + 10 → SingleWithSuffix s (table + 10) → SingleIn s table
  single_in z x = record { room = omega (arith, x.room); is = is }
    where
      is : (d : ℕ) (g : Forest) → TableOf s d table 1 g → SingleTo s d table g
      is d g t =
          let y = single_at (table + 10) z x d g t (table + 35) (table + 67) (omega arith) (omega arith) in
          record { byte = y.0; lists = y.1; below = y.2; is = y.3; prefixes = y.4; chunks = y.5; suffixes = y.6; leads = y.7 }

-- ── one level ──

union_one : (l : Location) → is_union 0 (l ∷ []) ((l ∷ []) ∷ []) ≡ true
union_one l =
    let z : l.address ≡ l.address - 0 = omega arith in
    let e : l ≡ moved_back l 0 = location_path z refl refl in
    rw (le-leb 0 l.address (omega arith), true_same l (moved_back l 0) e) refl

-- a node whose only child has its suffix and no chunk is right
one_level : (depth b : ℕ) (h : Lists) (c : ℕ) (k : Lists) (m : Forest) (l : Location) → [] ≡ h.prefixes → [] ≡ h.chunks → l ∷ [] ≡ h.suffixes → [] ≡ k.chunks → l ∷ [] ≡ k.suffixes →
    children_right (suc depth) [] (more c k m leaf) ≡ children_right depth [] (more b h (more c k m leaf) leaf)
unfolding children_right
one_level depth b h c k m l p q r u v = rw (← p, ← q, ← r, ← u, ← v, union_one l) (sym (and_true _))

-- ── a run ──

module _ (s : List ℕ) (table most : ℕ) where
  pub singles_none : SinglesTo s table most 0 table
  singles_none = record { few = omega arith; is = is }
    where
      is : (depth d : ℕ) (g : Forest) → TableOf s d table 1 g → SinglesAt s depth d 1 0 table g
      is depth d g t =
          let x : d ≡ d - 0 = omega arith in
          let z : depth + 0 ≡ depth = omega arith in
          record { below = g; leads = subst (λ (k : ℕ). TableOf s k table 1 g) x t; same = ap (λ (k : ℕ). children_right k [] g) z }

  module _ (k t : ℕ) (r : SinglesTo s table most k t) where
    pub singles_table : HasTable s table 1 → HasTable s t 1
    singles_table h = let x = r.is 0 h.depth h.forest h.is in record { depth = h.depth - k; forest = x.below; is = x.leads }

    pub singles_more : (to : ℕ) → k < most → SingleIn s t → SingleBelow s t to → SinglesTo s table most (k + 1) to
    singles_more to l x e = record { few = omega arith; is = is }
      where
        is : (depth d : ℕ) (g : Forest) → TableOf s d table 1 g → SinglesAt s depth d 1 (k + 1) to g
        is depth d g m =
            let o = r.is depth d g m in
            let a = x.is (d - k) o.below o.leads in
            let h = subst (λ (n : ℕ). TableOf s (d - k - 1) n 1 a.below) e.place a.leads in
            let b = e.there.is (d - k - 1) a.below h in
            let i : d - k - 1 ≡ d - (k + 1) = omega arith in
            let j : depth + (k + 1) ≡ depth + k + 1 = omega arith in
            let v : location_at s (t + 35) ∷ [] ≡ b.lists.suffixes = ap (λ (n : Location). n ∷ []) e.same ∙ b.suffixes in
            let w : children_right (suc (depth + k)) [] a.below ≡ children_right (depth + k) [] o.below =
            ap (children_right (suc (depth + k)) []) b.is ∙ one_level (depth + k) a.byte a.lists b.byte b.lists b.below (location_at s (t + 35)) a.prefixes a.chunks a.suffixes b.chunks v ∙
            ap (λ (n : Forest). children_right (depth + k) [] (more a.byte a.lists n leaf)) (sym b.is) ∙ ap (children_right (depth + k) []) (sym a.is) in
            record {
              below = a.below;
              leads = subst (λ (n : ℕ). TableOf s n to 1 a.below) i h;
              same = ap (λ (n : ℕ). children_right n [] a.below) (j ∙ add-one (depth + k)) ∙ w ∙ o.same;
            }

  -- steps down lead on
  pub singles_steps : (R : ℕ → ℕ → Type 0) → ((a b : ℕ) → R a b → SingleBelow s a b) → SingleIn s table → (k t : ℕ) → k ≤ most → StepsTo R table k t → SinglesTo s table most k t × SingleIn s t
  singles_steps R down first =
      steps_keep R (λ k t. SinglesTo s table most k t × SingleIn s t) most table (singles_none, first) (λ k a b l h d. let w = down a b d in (singles_more k a h.0 b l h.1 w, w.there))

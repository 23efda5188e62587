-- Fronts on the stack: one put behind the others, the next one from an index on, and what stays below. Assumes nothing.
use Prim.Native.Nat.{ℕ, zero, suc, ◌+◌, ◌-◌, ◌≤◌, ◌<◌}
use native.Mathlib.Omega.{arith}
use mathlib.Core.Path.{◌≡◌, refl, subst, ◌∙◌}
use mathlib.Core.List.{List, [], ◌∷◌, ◌++◌}
use lib.ListN.{length, set, drop, length-set, length-append}
use Rattle.std.proofs.lemmas.List.{length-take-le, length-drop, get_or-take, get_or-drop}
use borrow.Rule.Slice.PartMut.{mid_of}
use lib.Seq.{get_or-set_same, get_or-set_other}
use Rattle.trie.specs.Trie.{Node}
use Rattle.node_rule.specs.Parts.{HasTable}
use Rattle.fronts.specs.declared.Front.{Front}
use Rattle.fronts.specs.Fronts.{front_at, FrontIs, FrontsFrom, FrontsHere, HasFronts, KeptBelow}

-- ── a front on the stack ──

module _ (fronts : List Front) (p : ℕ) (x : Front) where
  pub front_other : (k : ℕ) → (k ≡ p → ⊥) → front_at (set fronts p x) k ≡ front_at fronts k
  front_other k h = get_or-set_other fronts p k x (record { table = record { at = 0; count = 0 }; mask = 0 }) h

  front_same : p < length fronts → front_at (set fronts p x) p ≡ x
  front_same h = get_or-set_same fronts p x (record { table = record { at = 0; count = 0 }; mask = 0 }) h

  pub front_length : length (set fronts p x) ≡ length fronts
  front_length = simp length-set

-- behind others
pub fronts_put : (s : List ℕ) (d : ℕ) (fronts : List Front) (p q : ℕ) (x : Front) (gs : List Node) (f : Node) → q ≡ p + length gs → q < length fronts →
    FrontsFrom s d fronts p gs → FrontIs s d x f → FrontsFrom s d (set fronts q x) p (gs ++ (f ∷ []))
fronts_put s d fronts p q x [] f e l h t =
    let z : q ≡ p = omega arith in
    (rw (z, front_same fronts p x (omega arith)) t, tt)
fronts_put s d fronts p q x (g ∷ gs) f e l h t =
    (rw (front_other fronts q x p (omega arith)) h.0, fronts_put s d fronts (p + 1) q x gs f (omega arith) l h.1 t)

pub length_more : (gs : List Node) (f : Node) (n : ℕ) → length gs ≡ n → length (gs ++ (f ∷ [])) ≡ n + 1
length_more gs f n e = simp length-append (omega arith)

-- ── what stays ──

-- the same fronts elsewhere
fronts_moved : (s : List ℕ) (d : ℕ) (xs ys : List Front) (p q : ℕ) (fs : List Node) → ((k : ℕ) → k < length fs → front_at ys (q + k) ≡ front_at xs (p + k)) → FrontsFrom s d xs p fs → FrontsFrom s d ys q fs
fronts_moved s d xs ys p q [] e h = tt
fronts_moved s d xs ys p q (f ∷ fs) e h =
    let a : p + 0 ≡ p = omega arith in
    let b : q + 0 ≡ q = omega arith in
    let z : front_at ys q ≡ front_at xs p = rw (a, b) at (e 0 (omega arith)) in
    (rw z h.0, fronts_moved s d xs ys (p + 1) (q + 1) fs later h.1)
  where
    later : (k : ℕ) → k < length fs → front_at ys (q + 1 + k) ≡ front_at xs (p + 1 + k)
    later k l =
        let a : p + (k + 1) ≡ p + 1 + k = omega arith in
        let b : q + (k + 1) ≡ q + 1 + k = omega arith in
        rw (a, b) at (e (k + 1) (omega arith))

pub fronts_same : (s : List ℕ) (d : ℕ) (xs ys : List Front) (p : ℕ) (fs : List Node) → ((k : ℕ) → k < p + length fs → front_at ys k ≡ front_at xs k) → FrontsFrom s d xs p fs → FrontsFrom s d ys p fs
fronts_same s d xs ys p fs e h = fronts_moved s d xs ys p p fs (λ k l. e (p + k) (omega arith)) h

-- a part of the stack by itself
module _ (s : List ℕ) (fronts : List Front) (from count : ℕ) (n : ℕ) (z : n ≡ count) (w : from + count ≤ length fronts) where
  abbrev part : List Front
  part = mid_of from n fronts

  pub fronts_part : (d : ℕ) (fs : List Node) → FrontsHere s d fronts from count fs → FrontsHere s d part 0 (length part) fs
  fronts_part d fs h =
      let many = h.many in
      let l : length part ≡ n = omega (arith, length-take-le n (drop from fronts), length-drop from fronts) in
      record { many = omega arith; few = omega (arith, h.few); each = fronts_moved s d fronts part from 0 fs here h.each }
    where
      here : (k : ℕ) → k < length fs → front_at part (0 + k) ≡ front_at fronts (from + k)
      here k l =
          let many = h.many in
          let a : 0 + k ≡ k = omega arith in
          rw a (get_or-take n (drop from fronts) k none (omega arith) ∙ get_or-drop from fronts k none)
        where
          none : Front
          none = record { table = record { at = 0; count = 0 }; mask = 0 }

  pub has_part : HasFronts s fronts from count → HasFronts s part 0 (length part)
  has_part h = record { depth = h.depth; nodes = h.nodes; is = fronts_part h.depth h.nodes h.is }

pub kept_none : (m : ℕ) (xs : List Front) → KeptBelow m xs xs
kept_none m xs = record { first = λ k h. refl; same_length = refl }

pub kept_then : (m n : ℕ) (xs ys zs : List Front) → m ≤ n → KeptBelow m xs ys → KeptBelow n ys zs → KeptBelow m xs zs
kept_then m n xs ys zs l a b = record { first = λ k h. b.first k (omega arith) ∙ a.first k h; same_length = b.same_length ∙ a.same_length }

pub kept_front : (m p : ℕ) (x : Front) (xs ys : List Front) → m ≤ p → KeptBelow m xs ys → KeptBelow m xs (set ys p x)
kept_front m p x xs ys l a = record { first = λ k h. front_other ys p x k (omega arith) ∙ a.first k h; same_length = front_length ys p x ∙ a.same_length }

-- ── the next front ──

-- of the fronts from number i on, the first and the later ones
pub record Next (s : List ℕ) (d : ℕ) (fronts : List Front) (from count i : ℕ) (fs : List Node) : Type 0 where
  pub node : Node
  pub later : List Node
  pub is : fs ≡ node ∷ later
  pub front : FrontIs s d (front_at fronts (from + i)) node
  pub ahead : FrontsFrom s d fronts (from + (i + 1)) later
  pub left : length later ≡ count - (i + 1)

pub front_next : (s : List ℕ) (d : ℕ) (fronts : List Front) (from count i : ℕ) (fs : List Node) → i < count → length fs ≡ count - i → FrontsFrom s d fronts (from + i) fs → Next s d fronts from count i fs
front_next s d fronts from count i [] l e h = absurd (omega arith)
front_next s d fronts from count i (f ∷ fs) l e h =
    let z : from + i + 1 ≡ from + (i + 1) = omega arith in
    record { node = f; later = fs; is = refl; front = h.0; ahead = subst (λ (p : ℕ). FrontsFrom s d fronts p fs) z h.1; left = omega arith }

pub fronts_end : (fs : List Node) (count i : ℕ) → count ≤ i → length fs ≡ count - i → fs ≡ []
fronts_end [] count i l e = refl
fronts_end (f ∷ fs) count i l e = absurd (omega arith)

-- number 0 is where they start
pub fronts_start : (s : List ℕ) (d : ℕ) (fronts : List Front) (from : ℕ) (fs : List Node) → FrontsFrom s d fronts from fs → FrontsFrom s d fronts (from + 0) fs
fronts_start s d fronts from fs h = let z : from ≡ from + 0 = omega arith in subst (λ (p : ℕ). FrontsFrom s d fronts p fs) z h

-- the table of front number i
pub front_table : (s : List ℕ) (fronts : List Front) (from count i : ℕ) → i < count → HasFronts s fronts from count → HasTable s (front_at fronts (from + i)).table.at (front_at fronts (from + i)).table.count
front_table s fronts from count i l h = go h.nodes from i (omega (arith, h.is.many)) h.is.each
  where
    go : (fs : List Node) (p i : ℕ) → i < length fs → FrontsFrom s h.depth fronts p fs → HasTable s (front_at fronts (p + i)).table.at (front_at fronts (p + i)).table.count
    go [] p i l k = absurd (omega arith)
    go (f ∷ fs) p zero l k = let z : p ≡ p + 0 = omega arith in subst (λ (q : ℕ). HasTable s (front_at fronts q).table.at (front_at fronts q).table.count) z (record { depth = h.depth; forest = f.children; is = k.0.table })
    go (f ∷ fs) p (suc i) l k = let z : p + 1 + i ≡ p + suc i = omega arith in subst (λ (q : ℕ). HasTable s (front_at fronts q).table.at (front_at fronts q).table.count) z (go fs (p + 1) i (omega arith) k.1)

-- where they stand from the start on
pub first_table : (s : List ℕ) (fronts : List Front) (count i : ℕ) → i < count → HasFronts s fronts 0 count → HasTable s (front_at fronts i).table.at (front_at fronts i).table.count
first_table s fronts count i l h = let z : 0 + i ≡ i = omega arith in subst (λ (q : ℕ). HasTable s (front_at fronts q).table.at (front_at fronts q).table.count) z (front_table s fronts 0 count i l h)

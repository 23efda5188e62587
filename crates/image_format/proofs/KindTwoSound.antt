-- Kind 2: children that were read are those of the table, by ascending byte. Assumes nothing.
use Prim.Native.Nat.{◌*◌, ◌+◌, ◌<◌, ◌≤◌, suc, zero, ℕ}
use native.Mathlib.Omega.{arith}
use mathlib.Core.Bool.{Bool, cond, false, true}
use mathlib.Core.List.{List, [], ◌++◌, ◌∷◌}
use mathlib.Core.Path.{◌∙◌, ◌≡◌, ap, refl, subst, sym}
use lib.Dec.{eqb, ltb}
use lib.ListN.{get_or, length}
use borrow.Author.Tests.{eqb-false, eqb-true, ltb-false, ltb-true}
use Rattle.words.proofs.Parts.{length_bytes64}
use Rattle.words.specs.Words.{bytes64, le64}
use Rattle.words.specs.Holding.{Holds}
use Rattle.words.proofs.Holding.{holds_append, holds_at}
use Rattle.definitions.proofs.Views.{lt}
use Rattle.trie.specs.Trie.{Node}
use Rattle.image_format.proofs.ByByte.{One, at_absent, below_on, just, nobody, one_at}
use Rattle.image_format.proofs.BytesRead.{holds_read}
use Rattle.image_format.proofs.EndedWell.{Turned, by_gap, by_node, child_at, child_skipped, fault_apart, find_none, find_self, run_last, run_turn}
use Rattle.image_format.proofs.KindThree.{BytesAt, Distinct, Missing}
use Rattle.image_format.proofs.KindTwo.{OffsAt}
use Rattle.image_format.proofs.ReadBack.{Limits}
use Rattle.image_format.proofs.Sound.{Sound, sparse_bytes, sparse_length}
use Rattle.image_format.proofs.Tables.{slot_byte, slot_skip}
use Rattle.image_format.specs.Held.{forest_by, sparse_entries}
use Rattle.image_format.specs.Image.{Child, as_child, ascending, children_bytes, children_of, children_size, node_bytes, node_size, size_below, table_by_byte, with_byte}
use Rattle.image_format.specs.Reading.{Table, done, find_byte, read_child, read_node, read_turns, table_fault}
use Rattle.image_format.specs.Savable.{AllBytes}

-- the child that a byte finds
found_child : (s : List ℕ) (T : ℕ → Node) (base m j b i : ℕ) → i ≡ find_byte s base b m j → i < j + m → Missing b [] →
    (r : List Child) × (with_byte b (children_of (forest_by T (sparse_entries s base m j))) ≡ as_child b (T (le64 s (base + i * 9 + 1) + 1)).lists (children_of (T (le64 s (base + i * 9 + 1) + 1)).children) ∷ r)
unfolding find_byte forest_by sparse_entries children_of as_child with_byte
found_child s T base zero j b i e f x = absurd (omega arith)
found_child s T base (suc m) j b i e f x = go (eqb (get_or s (base + j * 9) 0) b) refl e (λ g h. found_child s T base m (j + 1) b i g h x)
  where
    go : (q : Bool) → eqb (get_or s (base + j * 9) 0) b ≡ q → i ≡ cond q j (find_byte s base b m (j + 1)) →
        (i ≡ find_byte s base b m (j + 1) → i < j + 1 + m →
        (r : List Child) × (with_byte b (children_of (forest_by T (sparse_entries s base m (j + 1)))) ≡ as_child b (T (le64 s (base + i * 9 + 1) + 1)).lists (children_of (T (le64 s (base + i * 9 + 1) + 1)).children) ∷ r)) →
        (r : List Child) × (cond q
        (as_child (get_or s (base + j * 9) 0) (T (le64 s (base + j * 9 + 1) + 1)).lists (children_of (T (le64 s (base + j * 9 + 1) + 1)).children) ∷ with_byte b (children_of (forest_by T (sparse_entries s base m (j + 1)))))
        (with_byte b (children_of (forest_by T (sparse_entries s base m (j + 1))))) ≡ as_child b (T (le64 s (base + i * 9 + 1) + 1)).lists (children_of (T (le64 s (base + i * 9 + 1) + 1)).children) ∷ r)
    go true y g ih =
        let w = eqb-true (get_or s (base + j * 9) 0) b y in
        (with_byte b (children_of (forest_by T (sparse_entries s base m (j + 1)))), rw (g, w) refl)
    go false y g ih =
        let w = ih g (omega arith) in
        (w.0, w.1)

module _ (s : List ℕ) (all : AllBytes s) (d : ℕ) (T : ℕ → Node)
    (snd : (x next k n e : ℕ) → done next k n e ≡ read_node s d x → Sound s d x next (T x)) where
  -- kind 2
  module _ (p : Table) (start N : ℕ) (three : p.kind ≡ 3 → ⊥) (one : p.kind ≡ 1 → ⊥) (many : p.count ≡ N) (clean : 0 ≡ table_fault s p.base N 0) where
    abbrev pub all_two : List Child
    all_two = children_of (forest_by T (sparse_entries s p.base N 0))

    pub distinct_two : Distinct [] all_two
    unfolding BytesAt
    distinct_two = fault_apart s p.base [] all_two tt (sparse_bytes s T p.base N 0) (rw (sparse_length s T p.base N 0) clean)

    -- what the turn at a byte says of its entry
    abbrev pub Seen : ℕ → Type 0
    Seen b = (i : ℕ) → i ≡ find_byte s p.base b N 0 → i < N →
        (start + size_below b all_two ≡ le64 s (p.base + i * 9 + 1)) × ((next : ℕ) × Sound s d (le64 s (p.base + i * 9 + 1) + 1) next (T (le64 s (p.base + i * 9 + 1) + 1)))

    pub two_inv : (m b at c n e end k' n' e' : ℕ) → at ≡ start + size_below b all_two → done end k' n' e' ≡ read_turns s (read_node s d) p m b at c n e →
        Holds s at (children_bytes at (ascending m b all_two)) × (end ≡ at + children_size (ascending m b all_two)) × ((x : ℕ) → b ≤ x → x < b + m → Seen x)
    unfolding ascending Holds children_bytes children_size as_child Missing
    two_inv zero b at c n e end k' n' e' g f =
        let w = run_last s (read_node s d) p b at c n e end k' n' e' f in
        (tt, omega (arith, w.0), λ x l u. absurd (omega arith))
    two_inv (suc m) b at c n e end k' n' e' g f =
        let r = run_turn s (read_node s d) p m b at c n e end k' n' e' f in
        go (ltb (find_byte s p.base b N 0) N) refl r.0 r.1 r.2 r.3 r.4
        (λ h. two_inv m (b + 1) r.0 (c + r.1) (n + r.2) (e + r.3) end k' n' e' h r.5)
      where
        both : ((x : ℕ) → b + 1 ≤ x → x < b + 1 + m → Seen x) → Seen b → (x : ℕ) → b ≤ x → x < b + suc m → Seen x
        both h k x l u = one_of (eqb x b) refl
          where
            one_of : (q : Bool) → eqb x b ≡ q → Seen x
            one_of true v = subst Seen (sym (eqb-true x b v)) k
            one_of false v = let n = eqb-false x b v in h x (omega arith) (omega arith)

        go : (q : Bool) → ltb (find_byte s p.base b N 0) N ≡ q → (next k a w : ℕ) → done next k a w ≡ read_child s (read_node s d) p b at →
            (next ≡ start + size_below (b + 1) all_two →
            Holds s next (children_bytes next (ascending m (b + 1) all_two)) × (end ≡ next + children_size (ascending m (b + 1) all_two)) × ((x : ℕ) → b + 1 ≤ x → x < b + 1 + m → Seen x)) →
            Holds s at (children_bytes at (with_byte b all_two ++ ascending m (b + 1) all_two)) × (end ≡ at + children_size (with_byte b all_two ++ ascending m (b + 1) all_two)) × ((x : ℕ) → b ≤ x → x < b + suc m → Seen x)
        go false v next k a w ch ih =
            let l = ltb-false (find_byte s p.base b N 0) N v in
            let f1 : find_byte s p.base b N 0 ≡ find_byte s p.base b p.count 0 = rw many refl in
            let sk = child_skipped s (read_node s d) p b at next k a w (slot_skip s p b one three (find_byte s p.base b N 0) f1 (omega arith)) ch in
            let len = sparse_length s T p.base N 0 in
            let nf : 0 + length all_two ≤ find_byte s p.base b (length all_two) 0 = rw len (omega arith) in
            let o : with_byte b all_two ≡ [] = at_absent b all_two (find_none s p.base b 0 all_two (sparse_bytes s T p.base N 0) nf) in
            let u : size_below (b + 1) all_two ≡ size_below b all_two + children_size [] = rw o at (below_on b all_two) in
            let i = ih (omega (arith, sk.0)) in
            let rest = ascending m (b + 1) all_two in
            (rw o (subst (λ (x : ℕ). Holds s x (children_bytes x rest)) sk.0 i.0), rw o (omega (arith, i.1, sk.0)), both i.2 (λ x e' l'. absurd (omega arith)))
        go true v next k a w ch ih =
            let l = ltb-true (find_byte s p.base b N 0) N v in
            let off = le64 s (p.base + find_byte s p.base b N 0 * 9 + 1) in
            let f1 : find_byte s p.base b N 0 ≡ find_byte s p.base b p.count 0 = rw many refl in
            let t = child_at s (read_node s d) p b at next k a w off (slot_byte s p b one three (find_byte s p.base b N 0) f1 (omega arith)) ch in
            let fk = found_child s T p.base N 0 b (find_byte s p.base b N 0) refl (omega arith) tt in
            hit t.0 t.1 l fk.0 fk.1 (one_at b [] all_two distinct_two) ih
          where
            hit : le64 s (p.base + find_byte s p.base b N 0 * 9 + 1) ≡ at → Turned s (read_node s d) p.kind at next k a w → find_byte s p.base b N 0 < N → (r : List Child) →
                with_byte b all_two ≡ as_child b (T (le64 s (p.base + find_byte s p.base b N 0 * 9 + 1) + 1)).lists (children_of (T (le64 s (p.base + find_byte s p.base b N 0 * 9 + 1) + 1)).children) ∷ r →
                One b all_two →
                (next ≡ start + size_below (b + 1) all_two →
                Holds s next (children_bytes next (ascending m (b + 1) all_two)) × (end ≡ next + children_size (ascending m (b + 1) all_two)) × ((x : ℕ) → b + 1 ≤ x → x < b + 1 + m → Seen x)) →
                Holds s at (children_bytes at (with_byte b all_two ++ ascending m (b + 1) all_two)) × (end ≡ at + children_size (with_byte b all_two ++ ascending m (b + 1) all_two)) × ((x : ℕ) → b ≤ x → x < b + suc m → Seen x)
            hit o (by_gap l z u y q) lt r q2 one2 ih = absurd (one u)
            hit o (by_node l z u) lt r q2 (nobody y) ih = absurd (let z : ◌≡◌ {A = ℕ} 0 1 = clash (sym y ∙ q2) in omega arith)
              where
                clash : {x : Child} {xs : List Child} → [] ≡ x ∷ xs → ◌≡◌ {A = ℕ} 0 1
                clash g = cc
            hit o (by_node l z u) lt r q2 (just k2 y) ih =
                let K = snd (at + 1) next k a w u in
                let h = (T (at + 1)).lists in
                let ks = children_of (T (at + 1)).children in
                let at' = at + (1 + node_size h ks) in
                let rest = ascending m (b + 1) all_two in
                let kk = as_child b h ks in
                let q3 : with_byte b all_two ≡ kk ∷ r = subst (λ (x : ℕ). with_byte b all_two ≡ as_child b (T (x + 1)).lists (children_of (T (x + 1)).children) ∷ r) o q2 in
                let q4 : r ≡ [] = tail_eq (sym q3 ∙ y) in
                let q5 : with_byte b all_two ≡ kk ∷ [] = rw q4 at q3 in
                let u1 : size_below (b + 1) all_two ≡ size_below b all_two + (1 + node_size h ks + 0) = rw q5 at (below_on b all_two) in
                let nx : next ≡ at' = omega (arith, K.ends) in
                let i = ih (omega arith) in
                let i0 : Holds s at' (children_bytes at' rest) = subst (λ (x : ℕ). Holds s x (children_bytes x rest)) nx i.0 in
                let hh : Holds s at (1 ∷ (node_bytes (at + 1) h ks ++ children_bytes at' rest)) = (
                  z,
                  holds_append s (at + 1) (node_size h ks) (node_bytes (at + 1) h ks) (children_bytes at' rest) (K.sized (at + 1)) K.holds
                      (holds_at s at' (at + 1 + node_size h ks) (children_bytes at' rest) (omega arith) i0),
                ) in
                let ee : end ≡ at + (1 + node_size h ks + children_size rest) = omega (arith, i.1) in
                let sb : Seen b = λ x e' l'. (
                  rw e' (sym (o ∙ g)),
                  (next, subst (λ (y : ℕ). Sound s d (y + 1) next (T (y + 1))) (sym (ap (λ (y : ℕ). le64 s (p.base + y * 9 + 1)) e' ∙ o)) K),
                ) in
                (rw q5 hh, rw q5 ee, both i.2 sb)
              where
                tail_eq : {x y : Child} {xs : List Child} → x ∷ xs ≡ y ∷ [] → xs ≡ []
                tail_eq g = cc

    pub limits_two : ((x : ℕ) → 0 ≤ x → x < 0 + 256 → Seen x) → (m j : ℕ) → j + m ≡ N → Limits d (forest_by T (sparse_entries s p.base m j))
    unfolding Limits forest_by sparse_entries
    limits_two seen zero j h = tt
    limits_two seen (suc m) j h =
        let b = get_or s (p.base + j * 9) 0 in
        let small = all (p.base + j * 9) in
        let w = seen b (omega arith) (omega arith) j (find_self s p.base N j clean (omega arith)) (omega arith) in
        w.1.1.grow b (forest_by T (sparse_entries s p.base m (j + 1))) small (limits_two seen m (j + 1) (omega arith))

    pub offs_two : ((x : ℕ) → 0 ≤ x → x < 0 + 256 → Seen x) → (m j : ℕ) → j + m ≡ N → OffsAt s p.base start all_two j (children_of (forest_by T (sparse_entries s p.base m j)))
    unfolding OffsAt forest_by sparse_entries children_of as_child
    offs_two seen zero j h = tt
    offs_two seen (suc m) j h =
        let b = get_or s (p.base + j * 9) 0 in
        let small = all (p.base + j * 9) in
        let w = seen b (omega arith) (omega arith) j (find_self s p.base N j clean (omega arith)) (omega arith) in
        (refl, w.0, offs_two seen m (j + 1) (omega arith))

pub offs_back : (s : List ℕ) → AllBytes s → (base at j : ℕ) (every ks : List Child) → OffsAt s base at every j ks → Holds s (base + j * 9) (table_by_byte at every ks)
unfolding OffsAt Holds table_by_byte
offs_back s all base at j every [] t = tt
offs_back s all base at j every (k ∷ ks) t =
    let l = table_by_byte at every ks in
    let o = at + size_below k.byte every in
    let n : Holds s (base + j * 9 + 1) (bytes64 o) = subst (λ (x : ℕ). Holds s (base + j * 9 + 1) (bytes64 x)) (sym t.1) (holds_read s (base + j * 9 + 1) all) in (
      t.0,
      holds_append s (base + j * 9 + 1) 8 (bytes64 o) l (length_bytes64 o) n
          (holds_at s (base + (j + 1) * 9) (base + j * 9 + 1 + 8) l (omega arith) (offs_back s all base at (j + 1) every ks t.2)),
    )

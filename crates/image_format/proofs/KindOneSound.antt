-- Kind 1: children that were read are those of the slots. Assumes nothing.
use Prim.Native.Nat.{◌*◌, ◌+◌, ◌<◌, ◌≤◌, suc, zero, ℕ}
use native.Mathlib.Omega.{arith}
use mathlib.Core.Bool.{cond}
use mathlib.Core.List.{List, [], ◌++◌, ◌∷◌}
use mathlib.Core.Path.{◌≡◌, subst, sym}
use lib.Dec.{eqb}
use lib.ListN.{get_or, length}
use borrow.Author.Tests.{eq-eqb, ne_eqb}
use Rattle.words.proofs.Parts.{length_bytes64}
use Rattle.words.specs.Words.{bytes64, le64}
use Rattle.words.specs.Holding.{Holds}
use Rattle.words.proofs.Holding.{holds_append, holds_at}
use Rattle.trie.specs.Trie.{Forest, Node, more}
use Rattle.image_format.proofs.ByByte.{Bytes, Rising, at_absent, rising_absent, rising_less}
use Rattle.image_format.proofs.BytesRead.{holds_read}
use Rattle.image_format.proofs.EndedWell.{Turned, by_gap, by_node, child_at, run_last, run_turn}
use Rattle.image_format.proofs.KindThree.{Distinct, Missing}
use Rattle.image_format.proofs.Nodes.{Bounded, node_bound}
use Rattle.image_format.proofs.ReadBack.{Limits}
use Rattle.image_format.proofs.Slots.{at_self, past_offsets, past_size, past_slots}
use Rattle.image_format.proofs.Sound.{Sound}
use Rattle.image_format.proofs.Tables.{slot_dense}
use Rattle.image_format.specs.Held.{dense_entries, forest_by}
use Rattle.image_format.specs.Image.{Child, as_child, children_of, node_bytes, node_size, slot_bytes, slot_offsets, slot_size, slots_bytes, slots_size, with_byte}
use Rattle.image_format.specs.Reading.{Table, done, read_node, read_turns}
use Rattle.image_format.specs.Savable.{AllBytes}

-- every byte is below b
unfoldable pub Lower : ℕ → List Child → Type 0
Lower b [] = Unit
Lower b (k ∷ ks) = (k.byte < b) × Lower b ks

pub lower_nil : Lower 0 []
unfolding Lower
lower_nil = tt

lower_absent : (b c : ℕ) (ks : List Child) → b ≤ c → Lower b ks → Missing c ks
unfolding Lower Missing
lower_absent b c [] h l = tt
lower_absent b c (k ∷ ks) h l = ((λ e. omega arith), lower_absent b c ks h l.1)

lower_snoc : (b c : ℕ) (ks : List Child) (k : Child) → b ≤ c → k.byte < c → Lower b ks → Lower c (ks ++ (k ∷ []))
unfolding Lower
lower_snoc b c [] k h g l = (g, tt)
lower_snoc b c (x ∷ ks) k h g l = (omega arith, lower_snoc b c ks k h g l.1)

pub apart_rising : (b : ℕ) (seen ks : List Child) → Lower b seen → Rising b ks → Distinct seen ks
unfolding Rising Distinct
apart_rising b seen [] l r = tt
apart_rising b seen (k ∷ ks) l r =
    (lower_absent b k.byte seen r.0 l, apart_rising (k.byte + 1) (seen ++ (k ∷ [])) ks (lower_snoc b (k.byte + 1) seen k (omega arith) (omega arith) l) r.1)

module _ (s : List ℕ) (all : AllBytes s) (d : ℕ) (T : ℕ → Node)
    (snd : (x next k n e : ℕ) → done next k n e ≡ read_node s d x → Sound s d x next (T x)) where
  -- kind 1
  pub record Dense (base m b at c end : ℕ) (f : Forest) : Type 0 where
    pub limits : Limits d f
    pub rising : Rising b (children_of f)
    pub bytes : Bytes (children_of f)
    pub offsets : Holds s (base + b * 8) (slot_offsets m b at (children_of f))
    pub slots : Holds s at (slots_bytes m b at (children_of f))
    pub ends : end ≡ at + slots_size m b (children_of f)
    pub count : 97 ≤ c + length (children_of f)

  offset_more : (base m b at : ℕ) (ks : List Child) → at ≡ le64 s (base + b * 8) → Holds s (base + (b + 1) * 8) (slot_offsets m (b + 1) (at + slot_size (with_byte b ks)) ks) →
      Holds s (base + b * 8) (slot_offsets (suc m) b at ks)
  unfolding slot_offsets
  offset_more base m b at ks o h =
      let l = slot_offsets m (b + 1) (at + slot_size (with_byte b ks)) ks in
      let n : Holds s (base + b * 8) (bytes64 at) = subst (λ (x : ℕ). Holds s (base + b * 8) (bytes64 x)) (sym o) (holds_read s (base + b * 8) all) in
      holds_append s (base + b * 8) 8 (bytes64 at) l (length_bytes64 at) n (holds_at s (base + (b + 1) * 8) (base + b * 8 + 8) l (omega arith) h)

  dense_gap : (base m b at c end : ℕ) (f : Forest) → at ≡ le64 s (base + b * 8) → get_or s at 0 ≡ 0 → Dense base m (b + 1) (at + 1) c end f → Dense base (suc m) b at c end f
  unfolding slots_bytes slots_size slot_bytes slot_size Holds
  dense_gap base m b at c end f o z D =
      let ks = children_of f in
      let e : with_byte b ks ≡ [] = at_absent b ks (rising_absent (b + 1) b ks (omega arith) D.rising) in
      record {
        limits = D.limits;
        rising = rising_less (b + 1) b ks (omega arith) D.rising;
        bytes = D.bytes;
        offsets = offset_more base m b at ks o (rw e D.offsets);
        slots = rw e (z, D.slots);
        ends = rw e (omega (arith, D.ends));
        count = D.count;
      }

  dense_node : (base m b at c end : ℕ) (f : Forest) → at ≡ le64 s (base + b * 8) → b < 256 → get_or s at 0 ≡ 1 → (next : ℕ) → Sound s d (at + 1) next (T (at + 1)) →
      Dense base m (b + 1) next (c + 1) end f → Dense base (suc m) b at c end (more b (T (at + 1)).lists (T (at + 1)).children f)
  unfolding slots_bytes slots_size slot_bytes slot_size Holds children_of as_child Rising Bytes Missing
  dense_node base m b at c end f o l z next K D =
      let h = (T (at + 1)).lists in
      let us = children_of (T (at + 1)).children in
      let k = as_child b h us in
      let ks = children_of f in
      let at' = at + (1 + node_size h us) in
      let nx : next ≡ at' = omega (arith, K.ends) in
      let low : b < b + 1 = omega arith in
      let e : with_byte b (k ∷ ks) ≡ k ∷ [] = at_self [] k ks tt (rising_absent (b + 1) b ks low D.rising) in
      let o1 : Holds s (base + (b + 1) * 8) (slot_offsets m (b + 1) at' (k ∷ ks)) = rw (past_offsets m (b + 1) at' k ks low) (subst (λ (x : ℕ). Holds s (base + (b + 1) * 8) (slot_offsets m (b + 1) x ks)) nx D.offsets) in
      let s1 : Holds s at' (slots_bytes m (b + 1) at' (k ∷ ks)) = rw (past_slots m (b + 1) at' k ks low) (subst (λ (x : ℕ). Holds s x (slots_bytes m (b + 1) x ks)) nx D.slots) in
      let s2 : Holds s at (1 ∷ (node_bytes (at + 1) h us ++ slots_bytes m (b + 1) at' (k ∷ ks))) = (
        z,
        holds_append s (at + 1) (node_size h us) (node_bytes (at + 1) h us) (slots_bytes m (b + 1) at' (k ∷ ks)) (K.sized (at + 1)) K.holds
            (holds_at s at' (at + 1 + node_size h us) (slots_bytes m (b + 1) at' (k ∷ ks)) (omega arith) s1),
      ) in
      let z1 = past_size m (b + 1) k ks low in
      record {
        limits = K.grow b f l D.limits;
        rising = (omega arith, D.rising);
        bytes = (l, D.bytes);
        offsets = offset_more base m b at (k ∷ ks) o (rw e o1);
        slots = rw e s2;
        ends = rw e (omega (arith, D.ends));
        count = omega (arith, D.count);
      }

  pub one_inv : (p : Table) (m b at c n e end k' n' e' : ℕ) → p.kind ≡ 1 → b + m ≡ 256 → done end k' n' e' ≡ read_turns s (read_node s d) p m b at c n e →
      Dense p.base m b at c end (forest_by T (dense_entries s p.base m b))
  unfolding Limits Holds forest_by dense_entries children_of slot_offsets slots_bytes slots_size Rising Bytes
  one_inv p zero b at c n e end k' n' e' q w f =
      let r = run_last s (read_node s d) p b at c n e end k' n' e' f in
      record { limits = tt; rising = tt; bytes = tt; offsets = tt; slots = tt; ends = omega (arith, r.0); count = omega (arith, r.1 q) }
  one_inv p (suc m) b at c n e end k' n' e' q w f =
      let r = run_turn s (read_node s d) p m b at c n e end k' n' e' f in
      let t = child_at s (read_node s d) p b at r.0 r.1 r.2 r.3 (le64 s (p.base + b * 8)) (slot_dense s p b q) r.4 in
      go r.0 r.1 r.2 r.3 t.0 t.1 (one_inv p m (b + 1) r.0 (c + r.1) (n + r.2) (e + r.3) end k' n' e' q (omega arith) r.5)
    where
      go : (next k a x : ℕ) → le64 s (p.base + b * 8) ≡ at → Turned s (read_node s d) p.kind at next k a x →
          Dense p.base m (b + 1) next (c + k) end (forest_by T (dense_entries s p.base m (b + 1))) →
          Dense p.base (suc m) b at c end (forest_by T (cond (eqb (get_or s (le64 s (p.base + b * 8)) 0) 1)
          (record { byte = b; node = le64 s (p.base + b * 8) + 1 } ∷ dense_entries s p.base m (b + 1)) (dense_entries s p.base m (b + 1))))
      go next k a x o (by_gap l z u v y) D =
          let z1 : get_or s (le64 s (p.base + b * 8)) 0 ≡ 1 → ⊥ = rw o (omega arith) in
          let c1 : c + k ≡ c = omega arith in
          let D1 : Dense p.base m (b + 1) (at + 1) c end (forest_by T (dense_entries s p.base m (b + 1))) =
          subst (λ (i : ℕ). Dense p.base m (b + 1) (at + 1) i end (forest_by T (dense_entries s p.base m (b + 1)))) c1
          (subst (λ (i : ℕ). Dense p.base m (b + 1) i (c + k) end (forest_by T (dense_entries s p.base m (b + 1)))) v D) in
          rw (ne_eqb _ _ z1) (dense_gap p.base m b at c end (forest_by T (dense_entries s p.base m (b + 1))) (sym o) z D1)
      go next k a x o (by_node l z u) D =
          let g = forest_by T (dense_entries s p.base m (b + 1)) in
          let K = snd (at + 1) next k a x u in
          let nb : (k ≤ 1) × (at + 1 + k + a + x ≤ next) × (next ≤ length s) = subst (Bounded (length s) (at + 1)) (sym u) (node_bound s d (at + 1) (omega arith)) in
          let D1 : Dense p.base m (b + 1) next (c + 1) end g =
          record { limits = D.limits; rising = D.rising; bytes = D.bytes; offsets = D.offsets; slots = D.slots; ends = D.ends; count = omega (arith, D.count, nb.0) } in
          let z1 : get_or s (le64 s (p.base + b * 8)) 0 ≡ 1 = rw o z in
          let R = dense_node p.base m b at c end g (sym o) (omega arith) z next K D1 in
          rw (eq-eqb _ _ z1) (subst (λ (y : ℕ). Dense p.base (suc m) b at c end (more b (T (y + 1)).lists (T (y + 1)).children g)) (sym o) R)

-- Each entry of a table that was written leads to its child's bytes. Assumes nothing.
use Prim.Native.Nat.{◌*◌, ◌+◌, ◌<◌, ◌^◌, ◌≤◌, suc, zero, ℕ}
use native.Mathlib.Omega.{arith}
use mathlib.Core.Bool.{Bool, false, true}
use mathlib.Core.List.{List, [], ◌++◌, ◌∷◌}
use mathlib.Core.Path.{◌∙◌, ◌≡◌, ap, refl, subst, sym}
use lib.Dec.{eqb}
use lib.ListN.{get_or, length}
use borrow.Author.Tests.{eq-eqb, eqb-false, eqb-true, ne_eqb}
use Rattle.words.proofs.Parts.{length_bytes64}
use Rattle.words.specs.Words.{bytes64, le64}
use Rattle.words.specs.Holding.{Holds}
use Rattle.words.proofs.Holding.{holds_at, holds_le, holds_left, holds_right}
use Rattle.trie.specs.Trie.{Forest, leaf, more}
use Rattle.image_format.proofs.ByByte.{Bytes, One, Rising, absent_last, at_absent, at_read, below_on, just, later_absent, nobody, one_at, rising_absent, rising_less}
use Rattle.image_format.proofs.KindThree.{AllRead, Distinct, Missing, TableAt}
use Rattle.image_format.proofs.KindTwo.{OffsAt}
use Rattle.image_format.proofs.Slots.{at_self, past_offsets, past_size, past_slots}
use Rattle.image_format.specs.Held.{Entry, dense_entries, sparse_entries}
use Rattle.image_format.specs.Image.{Child, as_child, ascending, children_bytes, children_of, children_size, node_bytes, node_size, size_below, slot_bytes, slot_offsets, slot_size, slots_bytes, slots_size, with_byte}

-- each entry leads to the child's bytes
unfoldable pub Spots : List ℕ → List Entry → Forest → Type 0
Spots s [] leaf = Unit
Spots s [] (more b h under later) = ⊥
Spots s (e ∷ es) leaf = ⊥
Spots s (e ∷ es) (more b h under later) =
    (e.byte ≡ b) × (e.node + node_size h (children_of under) ≤ length s) × Holds s e.node (node_bytes e.node h (children_of under)) × Spots s es later

-- kind 3
pub spots_three : (s : List ℕ) (d base j at : ℕ) (f : Forest) → AllRead d (children_of f) → at + children_size (children_of f) ≤ length s → TableAt s base j at (children_of f) →
    Holds s at (children_bytes at (children_of f)) → Spots s (sparse_entries s base (length (children_of f)) j) f
unfolding Spots AllRead TableAt Holds children_of as_child children_bytes children_size sparse_entries
spots_three s d base j at leaf r f t h = tt
spots_three s d base j at (more b l under later) r f t h =
    let z = node_size l (children_of under) in
    let at' = at + (1 + z) in
    let n = le64 s (base + j * 9 + 1) in
    let kb = holds_left s (at + 1) (node_bytes (at + 1) l (children_of under)) (children_bytes at' (children_of later)) h.1 in
    let kr = holds_right s (at + 1) z (node_bytes (at + 1) l (children_of under)) (children_bytes at' (children_of later)) (r.0.sized (at + 1)) h.1 in (
      t.0,
      omega (arith, t.1),
      subst (λ (x : ℕ). Holds s (x + 1) (node_bytes (x + 1) l (children_of under))) t.1 kb,
      spots_three s d base (j + 1) at' later r.1 (omega arith) t.2 (holds_at s (at + 1 + z) at' (children_bytes at' (children_of later)) (omega arith) kr),
    )

first_sized : (d : ℕ) (k : Child) → AllRead d (k ∷ []) → (at : ℕ) → length (k.bytes at) ≡ k.size
unfolding AllRead
first_sized d k g at = g.0.sized at

-- kind 2: where a byte's child stands
module _ (s : List ℕ) (d start : ℕ) (all : List Child) (apart : Distinct [] all) (reads : AllRead d all) where
  abbrev Spot : ℕ → Child → Type 0
  Spot b k = (start + size_below b all + 1 + k.size ≤ length s) × Holds s (start + size_below b all + 1) (k.bytes (start + size_below b all + 1))

  pub spot_at : (m b at : ℕ) → at ≡ start + size_below b all → at + children_size (ascending m b all) ≤ length s → Holds s at (children_bytes at (ascending m b all)) →
      (c : ℕ) → b ≤ c → c < b + m → (k : Child) → with_byte c all ≡ k ∷ [] → Spot c k
  unfolding ascending children_size children_bytes Holds
  spot_at zero b at e f h c x y k o = absurd (omega arith)
  spot_at (suc m) b at e f h c x y k o =
      go (eqb c b) refl (one_at b [] all apart) f h (λ at' e' f' h' x' y'. spot_at m (b + 1) at' e' f' h' c x' y' k o)
    where
      go : (q : Bool) → eqb c b ≡ q → One b all →
          at + children_size (with_byte b all ++ ascending m (b + 1) all) ≤ length s → Holds s at (children_bytes at (with_byte b all ++ ascending m (b + 1) all)) →
          ((at' : ℕ) → at' ≡ start + size_below (b + 1) all → at' + children_size (ascending m (b + 1) all) ≤ length s →
          Holds s at' (children_bytes at' (ascending m (b + 1) all)) → b + 1 ≤ c → c < b + 1 + m → Spot c k) → Spot c k
      go true q (nobody r) f h ih =
          let w = eqb-true c b q in
          let o' : with_byte b all ≡ k ∷ [] = subst (λ (n : ℕ). with_byte n all ≡ k ∷ []) w o in
          absurd (clash (sym r ∙ o'))
        where
          clash : [] ≡ k ∷ [] → ⊥
          clash g = let z : ◌≡◌ {A = ℕ} 0 1 = cc in omega arith
      go true q (just k' r) f h ih =
          let w = eqb-true c b q in
          let f' : at + (1 + k.size + children_size (ascending m (b + 1) all)) ≤ length s = rw (subst (λ (n : ℕ). with_byte n all ≡ k ∷ []) w o) at f in
          let h' : Holds s at (1 ∷ (k.bytes (at + 1) ++ children_bytes (at + (1 + k.size)) (ascending m (b + 1) all))) = rw (subst (λ (n : ℕ). with_byte n all ≡ k ∷ []) w o) at h in
          let u : at ≡ start + size_below c all = rw w e in
          (omega arith, subst (λ (n : ℕ). Holds s (n + 1) (k.bytes (n + 1))) u (holds_left s (at + 1) (k.bytes (at + 1)) (children_bytes (at + (1 + k.size)) (ascending m (b + 1) all)) h'.1))
      go false q (nobody r) f h ih =
          let w = eqb-false c b q in
          let u : size_below (b + 1) all ≡ size_below b all + children_size [] = rw r at (below_on b all) in
          ih at (omega arith) (rw r at f) (rw r at h) (omega arith) (omega arith)
      go false q (just k' r) f h ih =
          let w = eqb-false c b q in
          let rest = ascending m (b + 1) all in
          let at' = at + (1 + k'.size) in
          let g : AllRead d (k' ∷ []) = subst (AllRead d) r (at_read d b all reads) in
          let u : size_below (b + 1) all ≡ size_below b all + children_size (k' ∷ []) = rw r at (below_on b all) in
          let f' : at + (1 + k'.size + children_size rest) ≤ length s = rw r at f in
          let h' : Holds s at (1 ∷ (k'.bytes (at + 1) ++ children_bytes at' rest)) = rw r at h in
          let kr = holds_right s (at + 1) k'.size (k'.bytes (at + 1)) (children_bytes at' rest) (first_sized d k' g (at + 1)) h'.1 in
          ih at' (omega arith) (omega arith) (holds_at s (at + 1 + k'.size) at' (children_bytes at' rest) (omega arith) kr) (omega arith) (omega arith)

snoc : (seen : List Child) (k : Child) (rest : List Child) → (seen ++ (k ∷ [])) ++ rest ≡ seen ++ (k ∷ rest)
snoc [] k rest = refl
snoc (x ∷ seen) k rest = ap (λ (l : List Child). x ∷ l) (snoc seen k rest)

pub spots_two : (s : List ℕ) (base start j : ℕ) (all seen : List Child) (f : Forest) → seen ++ children_of f ≡ all → Distinct seen (children_of f) → Bytes (children_of f) →
    ((c : ℕ) → c < 256 → (k : Child) → with_byte c all ≡ k ∷ [] →
    (start + size_below c all + 1 + k.size ≤ length s) × Holds s (start + size_below c all + 1) (k.bytes (start + size_below c all + 1))) →
    OffsAt s base start all j (children_of f) → Spots s (sparse_entries s base (length (children_of f)) j) f
unfolding Spots Distinct Bytes OffsAt children_of as_child sparse_entries
spots_two s base start j all seen leaf e a b g o = tt
spots_two s base start j all seen (more b l under later) e a c g o =
    let k = as_child b l (children_of under) in
    let rest = children_of later in
    let alone : with_byte b all ≡ k ∷ [] = subst (λ (x : List Child). with_byte b x ≡ k ∷ []) e (at_self seen k rest a.0 (later_absent b (seen ++ (k ∷ [])) rest a.1 (λ x. absent_last b seen k x refl))) in
    let w = g b c.0 k alone in (
      o.0,
      subst (λ (x : ℕ). x + 1 + node_size l (children_of under) ≤ length s) o.1 w.0,
      subst (λ (x : ℕ). Holds s (x + 1) (node_bytes (x + 1) l (children_of under))) o.1 w.1,
      spots_two s base start (j + 1) all (seen ++ (k ∷ [])) later (snoc seen k rest ∙ e) a.1 c.1 g o.2,
    )

module _ (s : List ℕ) (base m b at : ℕ) (ks : List Child) (small : length s < 2 ^ 64) (fits : at + slots_size (suc m) b ks ≤ length s)
    (offs : Holds s (base + b * 8) (slot_offsets (suc m) b at ks)) (slots : Holds s at (slots_bytes (suc m) b at ks)) where
  dense_off : at ≡ le64 s (base + b * 8)
  unfolding slot_offsets
  dense_off = holds_le s (base + b * 8) at (omega arith) (holds_left s (base + b * 8) (bytes64 at) (slot_offsets m (b + 1) (at + slot_size (with_byte b ks)) ks) offs)

  dense_on : Holds s (base + (b + 1) * 8) (slot_offsets m (b + 1) (at + slot_size (with_byte b ks)) ks)
  unfolding slot_offsets
  dense_on =
      let l = slot_offsets m (b + 1) (at + slot_size (with_byte b ks)) ks in
      holds_at s (base + b * 8 + 8) (base + (b + 1) * 8) l (omega arith) (holds_right s (base + b * 8) 8 (bytes64 at) l (length_bytes64 at) offs)

  dense_empty : with_byte b ks ≡ [] →
      (dense_entries s base m (b + 1) ≡ dense_entries s base (suc m) b) × Holds s (base + (b + 1) * 8) (slot_offsets m (b + 1) (at + 1) ks) ×
      Holds s (at + 1) (slots_bytes m (b + 1) (at + 1) ks) × (at + 1 + slots_size m (b + 1) ks ≤ length s)
  unfolding slots_bytes slots_size slot_bytes slot_size dense_entries Holds
  dense_empty e =
      let h : Holds s at (0 ∷ slots_bytes m (b + 1) (at + 1) ks) = rw e at slots in
      let g : at + (1 + slots_size m (b + 1) ks) ≤ length s = rw e at fits in
      let z : get_or s (le64 s (base + b * 8)) 0 ≡ 1 → ⊥ = rw (← dense_off) (omega (arith, h.0)) in
      (simp (ne_eqb _ _ z), rw e at dense_on, h.1, omega arith)

  dense_full : (k : Child) → with_byte b ks ≡ k ∷ [] → ((x : ℕ) → length (k.bytes x) ≡ k.size) →
      (record { byte = b; node = at + 1 } ∷ dense_entries s base m (b + 1) ≡ dense_entries s base (suc m) b) × Holds s (base + (b + 1) * 8) (slot_offsets m (b + 1) (at + (1 + k.size)) ks) ×
      Holds s (at + (1 + k.size)) (slots_bytes m (b + 1) (at + (1 + k.size)) ks) × (at + (1 + k.size) + slots_size m (b + 1) ks ≤ length s) ×
      Holds s (at + 1) (k.bytes (at + 1))
  unfolding slots_bytes slots_size slot_bytes slot_size dense_entries Holds
  dense_full k e sized =
      let at' = at + (1 + k.size) in
      let rest = slots_bytes m (b + 1) at' ks in
      let h : Holds s at (1 ∷ (k.bytes (at + 1) ++ rest)) = rw e at slots in
      let g : at + (1 + k.size + slots_size m (b + 1) ks) ≤ length s = rw e at fits in
      let z : get_or s (le64 s (base + b * 8)) 0 ≡ 1 = rw (← dense_off) h.0 in (
        simp (eq-eqb _ _ z, ← dense_off),
        rw e at dense_on,
        holds_at s (at + 1 + k.size) at' rest (omega arith) (holds_right s (at + 1) k.size (k.bytes (at + 1)) rest (sized (at + 1)) h.1),
        omega arith,
        holds_left s (at + 1) (k.bytes (at + 1)) rest h.1,
      )

pub spots_one : (m : ℕ) (s : List ℕ) (d base b at : ℕ) (f : Forest) → length s < 2 ^ 64 → b + m ≡ 256 → AllRead d (children_of f) → Bytes (children_of f) → Rising b (children_of f) →
    at + slots_size m b (children_of f) ≤ length s → Holds s (base + b * 8) (slot_offsets m b at (children_of f)) → Holds s at (slots_bytes m b at (children_of f)) →
    Spots s (dense_entries s base m b) f
unfolding Spots AllRead Bytes Rising Missing children_of as_child dense_entries
spots_one zero s d base b at leaf q w r c u f o h = tt
spots_one zero s d base b at (more x l under later) q w r c u f o h = absurd (omega arith)
spots_one (suc m) s d base b at leaf q w r c u f o h =
    let t = dense_empty s base m b at [] q f o h (at_absent b [] (rising_absent (b + 1) b [] (omega arith) tt)) in
    subst (λ (es : List Entry). Spots s es leaf) t.0 (spots_one m s d base (b + 1) (at + 1) leaf q (omega arith) r c tt t.3 t.1 t.2)
spots_one (suc m) s d base b at (more x l under later) q w r c u f o h =
    go (eqb x b) refl
    (λ f' o' h'. spots_one m s d base (b + 1) (at + (1 + node_size l (children_of under))) later q (omega arith) r.1 c.1 (rising_less (x + 1) (b + 1) (children_of later) (omega arith) u.1) f' o' h')
    (λ g f' o' h'. spots_one m s d base (b + 1) (at + 1) (more x l under later) q (omega arith) r c (g, u.1) f' o' h')
  where
    k : Child
    k = as_child x l (children_of under)

    go : (p : Bool) → eqb x b ≡ p →
        (at + (1 + node_size l (children_of under)) + slots_size m (b + 1) (children_of later) ≤ length s → Holds s (base + (b + 1) * 8) (slot_offsets m (b + 1) (at + (1 + node_size l (children_of under))) (children_of later)) →
        Holds s (at + (1 + node_size l (children_of under))) (slots_bytes m (b + 1) (at + (1 + node_size l (children_of under))) (children_of later)) → Spots s (dense_entries s base m (b + 1)) later) →
        (b + 1 ≤ x → at + 1 + slots_size m (b + 1) (as_child x l (children_of under) ∷ children_of later) ≤ length s → Holds s (base + (b + 1) * 8) (slot_offsets m (b + 1) (at + 1) (as_child x l (children_of under) ∷ children_of later)) →
        Holds s (at + 1) (slots_bytes m (b + 1) (at + 1) (as_child x l (children_of under) ∷ children_of later)) → Spots s (dense_entries s base m (b + 1)) (more x l under later)) →
        Spots s (dense_entries s base (suc m) b) (more x l under later)
    go true e yes' no' =
        let y = eqb-true x b e in
        let ks = children_of later in
        let at' = at + (1 + node_size l (children_of under)) in
        let only : with_byte b (k ∷ ks) ≡ k ∷ [] = subst (λ (n : ℕ). with_byte n (k ∷ ks) ≡ k ∷ []) y (at_self [] k ks tt (rising_absent (x + 1) x ks (omega arith) u.1)) in
        let t = dense_full s base m b at (k ∷ ks) q f o h k only r.0.sized in
        let low : x < b + 1 = omega arith in
        let i = yes' (rw (past_size m (b + 1) k ks low) at t.3) (rw (past_offsets m (b + 1) at' k ks low) at t.1) (rw (past_slots m (b + 1) at' k ks low) at t.2) in
        subst (λ (es : List Entry). Spots s es (more x l under later)) t.0 (sym y, omega arith, t.4, i)
    go false e yes' no' =
        let y = eqb-false x b e in
        let ks = children_of later in
        let over : b + 1 ≤ x = omega (arith, u.0) in
        let t = dense_empty s base m b at (k ∷ ks) q f o h (at_absent b (k ∷ ks) (rising_absent (b + 1) b (k ∷ ks) (omega arith) (over, u.1))) in
        subst (λ (es : List Entry). Spots s es (more x l under later)) t.0 (no' over t.3 t.1 t.2)

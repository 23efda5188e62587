-- A table of kind 1 and the slots behind it, one byte at a time. Assumes nothing.
use Prim.Native.Nat.{ℕ, zero, suc, ◌+◌, ◌*◌, ◌≤◌, ◌<◌}
use native.Mathlib.Numerals.{add-one}
use native.Mathlib.Omega.{arith}
use mathlib.Core.Path.{◌≡◌, refl, sym, ap, subst, ◌∙◌}
use mathlib.Core.Logic.{inl, inr}
use mathlib.Core.List.{List, [], ◌∷◌, ◌++◌, append-nil}
use lib.ListN.{length, get_or, take, drop, set}
use lib.Seq.{sets, length-sets, take-suc, drop-cons, get_or-set_same, get_or-set_other}
use borrow.Author.Tests.{eq-eqb}
use Rattle.words.specs.Words.{bytes64}
use Rattle.words.specs.Holding.{Holds}
use Rattle.words.proofs.Laws.{Outside}
use Rattle.words.proofs.Parts.{get_or_sets_out, length_bytes64}
use Rattle.words.proofs.Holding.{holds_left, holds_right, holds_append, holds_ext, holds_sets}
use Rattle.image_format.specs.Image.{Child, with_byte, slot_size, slot_bytes, slot_offsets, slots_bytes, slots_size}
use Rattle.image_format.proofs.KindOne.{offsets_length}
use Rattle.single_writer.specs.Kids.{no_child, sizes}
use Rattle.single_writer.proofs.Sized.{Sized, sized_with, slot_length, slots_length}
use Rattle.single_writer.proofs.Orders.{Climbs, climbs_less, climbs_none}
use Rattle.image_format.proofs.Slots.{past_at}

-- ── one more slot ──

pub slots_more : (m b : ℕ) (ks : List Child) → slots_size (suc m) b ks ≡ slots_size m b ks + slot_size (with_byte (b + m) ks)
unfolding slots_size
slots_more zero b ks =
    let e : b + 0 ≡ b = omega arith in
    rw e (omega arith)
slots_more (suc m) b ks =
    let e : b + 1 + m ≡ b + suc m = omega arith in
    let r : slots_size (suc m) (b + 1) ks ≡ slots_size m (b + 1) ks + slot_size (with_byte (b + suc m) ks) = rw e at (slots_more m (b + 1) ks) in
    omega arith

pub holds_offset : (m b : ℕ) (s : List ℕ) (base o : ℕ) (ks : List Child) → Holds s base (slot_offsets m b o ks) → Holds s (base + m * 8) (bytes64 (o + slots_size m b ks))
    → Holds s base (slot_offsets (suc m) b o ks)
unfolding slot_offsets slots_size
holds_offset zero b s base o ks h c =
    let e : base + 0 * 8 ≡ base = omega arith in
    let f : o + 0 ≡ o = omega arith in
    rw (append-nil (bytes64 o)) (rw (e, f) at c)
holds_offset (suc m) b s base o ks h c =
    let w = slot_size (with_byte b ks) in
    let rest = slot_offsets m (b + 1) (o + w) ks in
    let e : base + suc m * 8 ≡ base + 8 + m * 8 = omega arith in
    let f : o + (slot_size (with_byte b ks) + slots_size m (b + 1) ks) ≡ o + slot_size (with_byte b ks) + slots_size m (b + 1) ks = omega arith in
    holds_append s base 8 (bytes64 o) (slot_offsets (suc m) (b + 1) (o + w) ks) (length_bytes64 o) (holds_left s base (bytes64 o) rest h)
    (holds_offset m (b + 1) s (base + 8) (o + w) ks (holds_right s base 8 (bytes64 o) rest (length_bytes64 o) h) (rw (e, f) at c))

pub holds_slot : (m b : ℕ) (s : List ℕ) (p o : ℕ) (ks : List Child) → Sized ks → Holds s p (slots_bytes m b o ks)
    → Holds s (p + slots_size m b ks) (slot_bytes (o + slots_size m b ks) (with_byte (b + m) ks)) → Holds s p (slots_bytes (suc m) b o ks)
unfolding slots_bytes slots_size
holds_slot zero b s p o ks z h c =
    let e : p + 0 ≡ p = omega arith in
    let f : o + 0 ≡ o = omega arith in
    let g : b + 0 ≡ b = omega arith in
    rw (append-nil (slot_bytes o (with_byte b ks))) (rw (e, f, g) at c)
holds_slot (suc m) b s p o ks z h c =
    let w = slot_size (with_byte b ks) in
    let first = slot_bytes o (with_byte b ks) in
    let long = slot_length o (with_byte b ks) (sized_with b ks z) in
    let rest = slots_bytes m (b + 1) (o + w) ks in
    let e : p + (slot_size (with_byte b ks) + slots_size m (b + 1) ks) ≡ p + slot_size (with_byte b ks) + slots_size m (b + 1) ks = omega arith in
    let f : o + (slot_size (with_byte b ks) + slots_size m (b + 1) ks) ≡ o + slot_size (with_byte b ks) + slots_size m (b + 1) ks = omega arith in
    let g : b + suc m ≡ b + 1 + m = omega arith in
    holds_append s p w first (slots_bytes (suc m) (b + 1) (o + w) ks) long (holds_left s p first rest h)
    (holds_slot m (b + 1) s (p + w) (o + w) ks z (holds_right s p w first rest long h) (rw (e, f, g) at c))

-- ── the state ──

-- the slots of the bytes below j stand from start on, with their offsets in the table from base on; met children have one
pub record Dense (base start o : ℕ) (ws : List Child) (s : List ℕ) (j met : ℕ) : Type 0 where
  pub offsets : Holds s base (slot_offsets j 0 o ws)
  pub slots : Holds s start (slots_bytes j 0 o ws)
  pub size : slots_size j 0 ws ≡ j + sizes (take met ws)
  pub passed : (b : ℕ) → j ≤ b → with_byte b ws ≡ with_byte b (drop met ws)
  pub rest : Climbs j (drop met ws)

pub dense_start : (base start o : ℕ) (ws : List Child) (s : List ℕ) → Climbs 0 ws → Dense base start o ws s 0 0
unfolding Holds slot_offsets slots_bytes slots_size
dense_start base start o ws s c = record { offsets = tt; slots = tt; size = refl; passed = λ b h. refl; rest = c }

pub sizes_snoc : (xs : List Child) (k : Child) → sizes (xs ++ (k ∷ [])) ≡ sizes xs + k.size
sizes_snoc [] k = omega arith
sizes_snoc (x ∷ xs) k = omega (arith, sizes_snoc xs k)

module _ (base start o : ℕ) (ws : List Child) (z : Sized ws) (table : base + 2048 ≤ start) where
  -- one more slot, whose bytes stand where the slots end
  slot_written : {s : List ℕ} (s₂ : List ℕ) {j met : ℕ} (m : ℕ) → Dense base start o ws s j met → j < 256 → m ≡ start + slots_size j 0 ws → m ≤ length s
      → ((k : ℕ) → k < m → Outside 8 (base + j * 8) k → get_or s₂ k 0 ≡ get_or s k 0)
      → Holds s₂ (base + j * 8) (bytes64 (o + slots_size j 0 ws))
      → Holds s₂ (start + slots_size j 0 ws) (slot_bytes (o + slots_size j 0 ws) (with_byte j ws))
      → Holds s₂ base (slot_offsets (j + 1) 0 o ws) × Holds s₂ start (slots_bytes (j + 1) 0 o ws)
  slot_written {s} s₂ {j} m w l e room kept entry slot =
      let a = holds_ext s s₂ base (slot_offsets j 0 o ws) (λ k x y. kept k (omega (arith, offsets_length j 0 o ws)) (inl (omega (arith, offsets_length j 0 o ws)))) w.offsets in
      let b = holds_ext s s₂ start (slots_bytes j 0 o ws) (λ k x y. kept k (omega (arith, slots_length j 0 o ws z)) (inr (omega arith))) w.slots in
      let u : 0 + j ≡ j = omega arith in
      rw (add-one j) (holds_offset j 0 s₂ base o ws a entry, holds_slot j 0 s₂ start o ws z b (rw u slot))

  module _ {s : List ℕ} (s₁ s₂ : List ℕ) {j met : ℕ} (m v : ℕ) (w : Dense base start o ws s j met) (l : j < 256) (here : m ≡ start + slots_size j 0 ws) (room : m + 1 ≤ length s)
      (flag : s₁ ≡ set (sets s (base + j * 8) (bytes64 (o + slots_size j 0 ws))) m v)
      (same : (k : ℕ) → k < m + 1 → get_or s₂ k 0 ≡ get_or s₁ k 0) where
    s₀ : List ℕ
    s₀ = sets s (base + j * 8) (bytes64 (o + slots_size j 0 ws))

    after : (k : ℕ) → k < m → get_or s₂ k 0 ≡ get_or s₀ k 0
    unfolding s₀
    after k h = same k (omega arith) ∙ ap (λ (x : List ℕ). get_or x k 0) flag ∙ get_or-set_other s₀ m k v 0 (omega arith)

    kept : (k : ℕ) → k < m → Outside 8 (base + j * 8) k → get_or s₂ k 0 ≡ get_or s k 0
    unfolding s₀
    kept k h (inl a) = after k h ∙ get_or_sets_out (bytes64 (o + slots_size j 0 ws)) s (base + j * 8) k (inl a)
    kept k h (inr a) = after k h ∙ get_or_sets_out (bytes64 (o + slots_size j 0 ws)) s (base + j * 8) k (inr (omega (arith, length_bytes64 (o + slots_size j 0 ws))))

    entry : Holds s₂ (base + j * 8) (bytes64 (o + slots_size j 0 ws))
    unfolding s₀
    entry =
        let n = length_bytes64 (o + slots_size j 0 ws) in
        holds_ext s₀ s₂ (base + j * 8) (bytes64 (o + slots_size j 0 ws)) (λ k a b. after k (omega (arith, n)))
        (holds_sets (bytes64 (o + slots_size j 0 ws)) s (base + j * 8) (omega (arith, n)))

    flag_stands : get_or s₂ (start + slots_size j 0 ws) 0 ≡ v
    unfolding s₀
    flag_stands =
        ap (λ (k : ℕ). get_or s₂ k 0) (sym here) ∙ same m (omega arith) ∙ ap (λ (x : List ℕ). get_or x m 0) flag
        ∙ get_or-set_same s₀ m v 0 (omega (arith, length-sets s (base + j * 8) (bytes64 (o + slots_size j 0 ws))))

    -- no child has the byte
    pub dense_none : v ≡ 0 → Climbs (j + 1) (drop met ws) → Dense base start o ws s₂ (j + 1) met
    unfolding Holds slot_bytes slot_size
    dense_none e c =
        let n : with_byte j ws ≡ [] = w.passed j (omega arith) ∙ climbs_none (j + 1) j (drop met ws) (omega arith) c in
        let r = slot_written s₂ m w l here (omega arith) kept entry (rw n (flag_stands ∙ e, tt)) in
        let u : 0 + j ≡ j = omega arith in
        record {
          offsets = r.0;
          slots = r.1;
          size = rw (add-one j, slots_more j 0 ws, u, n) (omega (arith, w.size));
          passed = λ b h. w.passed b (omega arith);
          rest = c;
        }

    -- the next child has it
    pub dense_child : v ≡ 1 → met < length ws → (get_or ws met no_child).byte ≡ j
        → Holds s₂ (start + slots_size j 0 ws + 1) ((get_or ws met no_child).bytes (o + slots_size j 0 ws + 1)) → Dense base start o ws s₂ (j + 1) (met + 1)
    unfolding Holds slot_bytes slot_size with_byte
    dense_child e i q node =
        let cut : drop met ws ≡ get_or ws met no_child ∷ drop (suc met) ws = drop-cons ws met no_child i in
        let cl : Climbs j (get_or ws met no_child ∷ drop (suc met) ws) = subst (Climbs j) cut w.rest in
        let none : with_byte j (drop (suc met) ws) ≡ [] = climbs_none ((get_or ws met no_child).byte + 1) j (drop (suc met) ws) (omega arith) cl.2 in
        let n : with_byte j ws ≡ get_or ws met no_child ∷ [] = w.passed j (omega arith) ∙ ap (with_byte j) cut ∙ rw (eq-eqb (get_or ws met no_child).byte j q, none) in
        let r = slot_written s₂ m w l here (omega arith) kept entry (rw n (flag_stands ∙ e, node)) in
        let u : 0 + j ≡ j = omega arith in
        record {
          offsets = r.0;
          slots = r.1;
          size = rw (add-one j, slots_more j 0 ws, u, n, add-one met, take-suc ws met no_child i) (omega (arith, w.size, sizes_snoc (take met ws) (get_or ws met no_child)));
          passed = λ b h. w.passed b (omega arith) ∙ ap (with_byte b) cut ∙ past_at b (get_or ws met no_child) (drop (suc met) ws) (omega arith) ∙ ap (λ (x : ℕ). with_byte b (drop x ws)) (sym (add-one met));
          rest = rw (add-one met) (climbs_less ((get_or ws met no_child).byte + 1) (j + 1) (drop (suc met) ws) (omega arith) cl.2);
        }

-- Bytes written before others that were written, and entries of 16 bytes that are moved. Assumes nothing.
use Prim.Native.Nat.{ℕ, suc, ◌+◌, ◌-◌, ◌*◌, ◌≤◌, ◌<◌}
use native.Mathlib.Omega.{arith}
use mathlib.Core.Path.{◌≡◌, refl, sym, ap, ◌∙◌}
use mathlib.Core.Logic.{inl}
use mathlib.Core.List.{List, [], ◌∷◌, ◌++◌}
use lib.ListN.{length, get_or, set, take, drop, length-append}
use lib.Seq.{sets, set_comm, take-add, drop-drop}
use Rattle.words.specs.Words.{le64, set_le64, bytes64}
use Rattle.words.proofs.Parts.{sets_append, length_bytes64, set_le64_sets, bytes64_le64, le64_sets_other}

-- ── before others ──

set_sets : (zs xs : List ℕ) (b at y : ℕ) → at < b → set (sets xs b zs) at y ≡ sets (set xs at y) b zs
set_sets [] xs b at y h = refl
set_sets (z ∷ zs) xs b at y h = set_sets zs (set xs b z) (suc b) at y (omega arith) ∙ ap (λ (l : List ℕ). sets l (suc b) zs) (set_comm xs b at z y (omega arith))

-- what is written up to where others were written is written with them
pub sets_before : (ys zs xs : List ℕ) (at b : ℕ) → b ≡ at + length ys → sets (sets xs b zs) at ys ≡ sets xs at (ys ++ zs)
sets_before [] zs xs at b e = let q : b ≡ at = omega arith in ap (λ (k : ℕ). sets xs k zs) q
sets_before (y ∷ ys) zs xs at b e = ap (λ (l : List ℕ). sets l (suc at) ys) (set_sets zs xs b at y (omega arith)) ∙ sets_before ys zs (set xs at y) (suc at) b (omega arith)

-- ── an entry ──

pub length_entry : (number end : ℕ) → length (bytes64 number ++ bytes64 end) ≡ 16
length_entry number end = omega (arith, length-append (bytes64 number) (bytes64 end), length_bytes64 number, length_bytes64 end)

-- its two numbers, written one after the other
pub put_in_turn : (xs ys zs : List ℕ) (at number end : ℕ) → ys ≡ set_le64 xs at number → zs ≡ set_le64 ys (at + 8) end → zs ≡ sets xs at (bytes64 number ++ bytes64 end)
put_in_turn xs ys zs at number end p q =
    q ∙ set_le64_sets ys (at + 8) end ∙ ap (λ (l : List ℕ). sets l (at + 8) (bytes64 end)) (p ∙ set_le64_sets xs at number)
    ∙ ap (λ (n : ℕ). sets (sets xs at (bytes64 number)) (at + n) (bytes64 end)) (sym (length_bytes64 number)) ∙ sym (sets_append xs at (bytes64 number) (bytes64 end))

-- the 16 bytes that stand there are those of its two numbers
entry_bytes : (xs : List ℕ) (at : ℕ) → ((k : ℕ) → get_or xs k 0 < 256) → at + 16 ≤ length xs → bytes64 (le64 xs at) ++ bytes64 (le64 xs (at + 8)) ≡ take 16 (drop at xs)
entry_bytes xs at b h =
    ap (λ (l : List ℕ). l ++ bytes64 (le64 xs (at + 8))) (sym (bytes64_le64 xs at b (omega arith)))
    ∙ ap (λ (l : List ℕ). take 8 (drop at xs) ++ l) (sym (bytes64_le64 xs (at + 8) b (omega arith)) ∙ ap (take 8) (sym (drop-drop 8 at xs)))
    ∙ sym (take-add 8 8 (drop at xs))

-- ── entries moved ──

-- the entries from number k on and below upto
abbrev pub part : List ℕ → (base k upto : ℕ) → List ℕ
part m base k upto = take (16 * (upto - k)) (drop (base + 16 * k) m)

-- s with those moved by so many entries further on
abbrev pub moved : List ℕ → (base k upto by : ℕ) → List ℕ
moved s base k upto by = sets s (base + 16 * (k + by)) (part s base k upto)

pub moved_none : (s : List ℕ) (base k by : ℕ) → s ≡ moved s base k k by
moved_none s base k by = let z : 0 ≡ 16 * (k - k) = omega arith in ap (λ (n : ℕ). sets s (base + 16 * (k + by)) (take n (drop (base + 16 * k) s))) z

part_step : (s : List ℕ) (base k k' upto : ℕ) → k' ≡ k + 1 → k < upto → part s base k upto ≡ take 16 (drop (base + 16 * k) s) ++ part s base k' upto
part_step s base k k' upto q h =
    let e : 16 * (upto - k) ≡ 16 + 16 * (upto - k') = omega arith in
    let f : base + 16 * k + 16 ≡ base + 16 * k' = omega arith in
    ap (λ (n : ℕ). take n (drop (base + 16 * k) s)) e
    ∙ take-add 16 (16 * (upto - k')) (drop (base + 16 * k) s)
    ∙ ap (λ (l : List ℕ). take 16 (drop (base + 16 * k) s) ++ take (16 * (upto - k')) l) (drop-drop 16 (base + 16 * k) s ∙ ap (λ (n : ℕ). drop n s) f)

-- one more, which is read where nothing was written yet
module _ (s₀ : List ℕ) (b : (k : ℕ) → get_or s₀ k 0 < 256) (base k k' upto by : ℕ) (q : k' ≡ k + 1) (h : k < upto) (r : base + 16 * (upto + by) ≤ length s₀) (s s' : List ℕ) (number end : ℕ) where
  pub moved_turn : s ≡ moved s₀ base k' upto by → number ≡ le64 s (base + 16 * k) → end ≡ le64 s (base + 16 * k + 8) → s' ≡ sets s (base + 16 * k + 16 * by) (bytes64 number ++ bytes64 end) → s' ≡ moved s₀ base k upto by
  moved_turn e n d w =
      let z : base + 16 * (k + by) ≡ base + 16 * k + 16 * by = omega arith in
      w ∙ ap (λ (l : List ℕ). sets s (base + 16 * k + 16 * by) l) body
      ∙ ap (λ (l : List ℕ). sets l (base + 16 * k + 16 * by) now) e
      ∙ ap (λ (p : ℕ). sets (moved s₀ base k' upto by) p now) (sym z)
      ∙ sets_before now (part s₀ base k' upto) s₀ (base + 16 * (k + by)) (base + 16 * (k' + by)) (omega (arith, long))
      ∙ ap (λ (l : List ℕ). sets s₀ (base + 16 * (k + by)) l) (sym (part_step s₀ base k k' upto q h))
    where
      now : List ℕ
      now = take 16 (drop (base + 16 * k) s₀)

      read : (p : ℕ) → p + 8 ≤ base + 16 * k' → le64 s p ≡ le64 s₀ p
      read p o = ap (λ (l : List ℕ). le64 l p) e ∙ le64_sets_other (part s₀ base k' upto) s₀ (base + 16 * (k' + by)) p (inl (omega arith))

      body : bytes64 number ++ bytes64 end ≡ now
      body =
          ap (λ (x : ℕ). bytes64 x ++ bytes64 end) (n ∙ read (base + 16 * k) (omega arith))
          ∙ ap (λ (x : ℕ). bytes64 (le64 s₀ (base + 16 * k)) ++ bytes64 x) (d ∙ read (base + 16 * k + 8) (omega arith))
          ∙ entry_bytes s₀ (base + 16 * k) b (omega arith)

      long : length now ≡ 16
      long = ap length (sym body) ∙ length_entry number end

-- The digits of an image, and the lines that are words. Assumes nothing.
use Prim.Native.Nat.{ℕ, ◌+◌, ◌-◌, ◌*◌, ◌/◌, ◌%◌, ◌≤◌, ◌<◌, min}
use native.Mathlib.Omega.{arith}
use native.Mathlib.Numerals.{add-one}
use mathlib.Core.Path.{◌≡◌, refl, sym, ap, subst, ◌∙◌}
use mathlib.Core.Bool.{Bool, true, false, cond}
use mathlib.Core.Logic.{◌⊎◌, inl, inr}
use mathlib.Core.List.{List, [], ◌∷◌, ◌++◌, append-nil, append_assoc}
use lib.ListN.{length, get_or, take, drop, drop_of_length-le, length-append}
use lib.Seq.{take-suc, take-length, take_all, length-take-le}
use lib.Dec.{eqb}
use lib.Pointwise.{pointwise}
use borrow.Author.Tests.{eq-eqb, ne_eqb}
use Rattle.std.proofs.lemmas.Bool.{cases_lt}
use Rattle.std.specs.Bool.{Decides}
use Rattle.std.proofs.lemmas.Slice.Eq.{slice_eq-Decides}
use Rattle.std.proofs.lemmas.Bool.Decides.{Decides-eqb}
use Rattle.definitions.specs.Program.{text, hex, hex_digit, refused}
use Rattle.definitions.proofs.Views.{Eq, eq}
use Rattle.saving.specs.Saving.{Saving}
use Rattle.definitions.specs.declared.refusal.Refusal.{Refusal}
use Rattle.definitions.specs.Refusals.{cause_of, number_of}
use Rattle.definitions.proofs.Checks.{number_some}
use Rattle.numerals.specs.Numerals.{starts}
use Rattle.forms.proofs.Words.{starts_is}
use Rattle.forms.proofs.Bytes.{length_hex}
use Rattle.forms.proofs.Lines.{starts_tells}
use Rattle.lines.specs.Cut.{line_end}
use Rattle.replies.specs.declared.Output.{Output}
use Rattle.replies.specs.Written.{reply_bytes}
use Rattle.test_replay.specs.Replay.{is_word, image_line, save_line, Replays, line_from, ReplaysNext}

-- ── digits ──

hex_append : (xs ys : List ℕ) → hex (xs ++ ys) ≡ hex xs ++ hex ys
hex_append [] ys = refl
hex_append (x ∷ xs) ys = ap (λ (l : List ℕ). hex_digit (x / 16) ∷ hex_digit (x % 16) ∷ l) (hex_append xs ys)

-- one byte more
hex_more : (s : List ℕ) (i : ℕ) → i < length s → hex (take i s) ++ hex (get_or s i 0 ∷ []) ≡ hex (take (i + 1) s)
hex_more s i h = sym (hex_append (take i s) (get_or s i 0 ∷ [])) ∙ ap hex (sym (take-suc s i 0 h) ∙ ap (λ (n : ℕ). take n s) (sym (add-one i)))

hex_all : (s : List ℕ) (i : ℕ) → i ≡ length s → hex (take i s) ≡ hex s
hex_all s i e = ap hex (ap (λ (n : ℕ). take n s) e ∙ take-length s)

-- the line of an image, as far as it is written before byte i
abbrev pub image_front : List ℕ → ℕ → List ℕ
image_front s i = text "(image " ++ hex (take i s)

pub length_front : (s : List ℕ) (i : ℕ) → i ≤ length s → length (image_front s i) ≡ 7 + 2 * i
length_front s i h =
    let k : length (take i s) ≡ i = length-take-le i s h in
    omega (arith, length_hex (take i s), k)

pub front_more : (s : List ℕ) (i : ℕ) → i < length s → image_front s i ++ hex (get_or s i 0 ∷ []) ≡ image_front s (i + 1)
front_more s i h = append_assoc (text "(image ") (hex (take i s)) (hex (get_or s i 0 ∷ [])) ∙ ap (λ (l : List ℕ). text "(image " ++ l) (hex_more s i h)

pub front_all : (s : List ℕ) (i : ℕ) → i ≡ length s → image_front s i ++ (41 ∷ 10 ∷ []) ≡ image_line s
front_all s i e = append_assoc (text "(image ") (hex (take i s)) (41 ∷ 10 ∷ []) ∙ ap (λ (l : List ℕ). text "(image " ++ l ++ (41 ∷ 10 ∷ [])) (hex_all s i e)

pub length_image : (s : List ℕ) → length (image_line s) ≡ 9 + 2 * length s
length_image s = omega (arith, length_hex s, length-append (hex s) (41 ∷ 10 ∷ []))

-- ── a save ──

-- as many as there are
take_limit : (n k : ℕ) (xs : List ℕ) → length xs ≡ k → take (min n k) xs ≡ take n xs
take_limit n k xs e = go (cases_lt n k)
  where
    go : (n < k) ⊎ (k ≤ n) → take (min n k) xs ≡ take n xs
    go (inl l) =
        let m : min n k ≡ n = omega arith in
        ap (λ (i : ℕ). take i xs) m
    go (inr l) =
        let m : min n k ≡ k = omega arith in
        ap (λ (i : ℕ). take i xs) m ∙ take_all k xs (omega arith) ∙ sym (take_all n xs (omega arith))

module _ (s : Saving) where
  pub saved_line : (n k : ℕ) (image : List ℕ) → 0 ≡ s.refusal → n ≡ s.size → image ≡ s.buffer → length image ≡ 73600 → k ≡ min n 73600 → image_line (take k image) ≡ save_line s
  saved_line n k image e z f h g =
      rw (eq-eqb s.refusal 0 (sym e))
      (ap (λ (x : ℕ). image_line (take x image)) g
      ∙ ap image_line (take_limit n 73600 image h)
      ∙ ap (λ (x : List ℕ). image_line (take n x)) f
      ∙ ap (λ (x : ℕ). image_line (take x s.buffer)) z)

  pub refused_line : (r : Refusal) → number_of r ≡ s.refusal → reply_bytes (refused (number_of r)) ≡ save_line s
  refused_line r e = rw (ne_eqb s.refusal 0 (λ z. number_some (cause_of r) (e ∙ z))) (ap (λ (x : ℕ). reply_bytes (refused x)) e)

-- ── the line ──

as_one : (a b : Bool) → (a ≡ true → b ≡ true) → (b ≡ true → a ≡ true) → a ≡ b
as_one true b f g = sym (f refl)
as_one false true f g = g refl
as_one false false f g = refl

starts_self : (w : List ℕ) → starts w w ≡ true
starts_self w = sym (starts_is w w) ∙ (slice_eq-Decides Decides-eqb w (take (length w) w) (pointwise eqb w (take (length w) w)) refl).1 (sym (take-length w))

-- a line is a word where it is the same text
pub word_is : (w l : List ℕ) → pointwise eqb l w ≡ is_word w l
word_is w l = as_one (pointwise eqb l w) (is_word w l) (λ e. forth (same.0 e)) (λ e. same.1 (back (eqb (length l) (length w)) (eq (length l) (length w)) e))
  where
    same : Decides (pointwise eqb l w) (l ≡ w)
    same = slice_eq-Decides Decides-eqb l w (pointwise eqb l w) refl

    forth : l ≡ w → is_word w l ≡ true
    forth e = rw (eq-eqb (length l) (length w) (ap length e)) (ap (starts w) e ∙ starts_self w)

    back : (o : Bool) → Eq o (length l) (length w) → cond o (starts w l) false ≡ true → l ≡ w
    back true n e =
        let k : length l ≤ length w = omega arith in
        starts_tells w l e ∙ ap (λ (t : List ℕ). w ++ t) (drop_of_length-le l k) ∙ append-nil w
    back false n e = absurd (cc)

-- ── the next line ──

module _ (s : List ℕ) (p e : ℕ) (h : e ≡ line_end s p) {m m' : List ℕ} {out out' : Output} (w : Replays m (take (e - p) (drop p s)) out m' out') where
  by_line : Replays m (line_from s p) out m' out'
  by_line = subst (λ (x : ℕ). Replays m (take (x - p) (drop p s)) out m' out') h w

  pub next_taken : ReplaysNext m s p out m' out' (e + 1)
  next_taken = record { taken = true; next = ap (λ (x : ℕ). x + 1) h; answer = by_line.written; leaves = by_line.leaves }

  pub next_end : ReplaysNext m s p out m' out' (length s)
  next_end = record { taken = false; next = refl; answer = by_line.written; leaves = by_line.leaves }

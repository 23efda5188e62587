-- What a form is answered, one law for each way out of the reader. Assumes nothing.
use Prim.Native.Nat.{ℕ, ◌+◌, ◌≤◌, ◌<◌}
use native.Mathlib.Omega.{arith}
use mathlib.Core.Path.{◌≡◌, refl, sym, ap, ◌∙◌}
use mathlib.Core.Bool.{Bool, true, false, cond}
use mathlib.Core.List.{List, [], ◌++◌}
use mathlib.Core.Option as M
use lib.ListN.{length, drop, drop_of_length-le}
use borrow.Author.Tests.{lt-ltb, le-ltb}
use Rattle.std.specs.Prelude.{Option, Some, None}
use Rattle.std.specs.Bool.{Decides, then_some}
use lib.Dec.{eqb}
use Rattle.definitions.proofs.Views.{Eq, eq}
use Rattle.definitions.specs.Program as P
use Rattle.definitions.specs.Program.{text, line_limit}
use Rattle.forms.specs.ReadLine.{with_bytes, read_block, read_line}
use Rattle.numerals.specs.Numerals.{starts}
use Rattle.hex_pairs.specs.HexBytes.{last_bytes}
use Rattle.forms.specs.Answers.{answer_of, bytes_of, answer_count}
use Rattle.hex_pairs.specs.HexAnswers.{counted}
use Rattle.forms.specs.declared.Form.{Form}
use Rattle.forms.specs.declared.Form.TheVariants as F
use Rattle.forms.proofs.Lines.{starts_tells, reads_finish}

-- ── bytes that were counted ──

pub not_counted : (o : M.Option (List ℕ)) → None ≡ counted 0 o → o ≡ M.none
not_counted M.none e = refl
not_counted (M.some bs) e = absurd (cc)

pub find_counted : (o : M.Option (List ℕ)) (n : ℕ) → Some n ≡ counted 0 o → Some (F.Find n) ≡ answer_of (with_bytes o P.find)
find_counted M.none n e = absurd (cc)
find_counted (M.some bs) n e =
    let k : n ≡ 0 + length bs = cc in
    let z : n ≡ length bs = omega arith in
    ap (λ (n : ℕ). Some (F.Find n)) z

pub block_counted : (k a c d : ℕ) (o : M.Option (List ℕ)) (n : ℕ) → Some n ≡ counted 0 o
    → Some (F.Block k a c d n) ≡ answer_of (with_bytes o (λ bs. P.block k (record { bytes = bs; at = record { address = a; created = c; destroyed = d } })))
block_counted k a c d M.none n e = absurd (cc)
block_counted k a c d (M.some bs) n e =
    let m : n ≡ 0 + length bs = cc in
    let z : n ≡ length bs = omega arith in
    ap (λ (n : ℕ). Some (F.Block k a c d n)) z

-- ── a line ──

module _ (l : List ℕ) where
  pub line_long : line_limit < length l → None ≡ answer_of (read_line l)
  unfolding read_line
  line_long h = rw (lt-ltb line_limit (length l) h)

  module _ (h : length l ≤ line_limit) where
    pub line_block : starts (text "(block ") l ≡ true → answer_of (read_block (drop 7 l)) ≡ answer_of (read_line l)
    unfolding read_line
    line_block e = rw (le-ltb line_limit (length l) h, e)

    module _ (b : starts (text "(block ") l ≡ false) where
      pub line_find : starts (text "(find ") l ≡ true → answer_of (with_bytes (last_bytes (drop 6 l)) P.find) ≡ answer_of (read_line l)
      unfolding read_line
      line_find e = rw (le-ltb line_limit (length l) h, b, e)

      module _ (f : starts (text "(find ") l ≡ false) where
        long : length l ≡ 8 → starts (text "(finish)") l ≡ true → l ≡ text "(finish)"
        long n e =
            let k : length l ≤ 8 = omega arith in
            let z : drop 8 l ≡ [] = drop_of_length-le l k in
            starts_tells (text "(finish)") l e ∙ ap (λ (t : List ℕ). text "(finish)" ++ t) z

        line_other : (l ≡ text "(finish)" → ⊥) → None ≡ answer_of (read_line l)
        unfolding read_line
        line_other n = rw (le-ltb line_limit (length l) h, b, f) (go (starts (text "(finish)") l) (eqb (length l) 8) refl (eq (length l) 8))
          where
            go : (o₁ o₂ : Bool) → starts (text "(finish)") l ≡ o₁ → Eq o₂ (length l) 8 → ◌≡◌ {A = Option Form} None (answer_of (cond o₁ (cond o₂ (M.some P.finish) M.none) M.none))
            go true true e k = absurd (n (long k e))
            go true false e k = refl
            go false o₂ e k = refl

        pub line_finish : (r : Bool) → Decides r (l ≡ text "(finish)") → then_some r F.Finish ≡ answer_of (read_line l)
        line_finish true d = sym (ap (λ (t : List ℕ). answer_of (read_line t)) (d.0 refl) ∙ ap answer_of reads_finish)
        line_finish false d = line_other (λ k. absurd (let z = d.1 k in cc))

-- ── decoding ──

-- an answer counts the bytes that were read
pub count_of_answer : (o : M.Option P.Form) → answer_count (answer_of o) ≡ length (bytes_of o)
count_of_answer M.none = refl
count_of_answer (M.some (P.block k b)) = refl
count_of_answer (M.some P.finish) = refl
count_of_answer (M.some (P.find q)) = refl

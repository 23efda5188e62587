-- The two ways out of `read_form`: with no bytes to decode, and with some. Assumes nothing.
use Prim.Native.Nat.{ℕ, ◌-◌, ◌*◌, ◌≤◌}
use native.Mathlib.Omega.{arith}
use mathlib.Core.Path.{◌≡◌, refl, sym, ap, ◌∙◌}
use mathlib.Core.Bool.{Bool, true, false}
use mathlib.Core.List.{List}
use mathlib.Core.Option as M
use lib.ListN.{length}
use lib.Seq.{sets}
use lib.Dec.{ltb}
use Rattle.std.specs.Prelude.{Option, Some, None}
use Rattle.words.proofs.Parts.{take_sets}
use Rattle.definitions.specs.Program as P
use Rattle.definitions.proofs.Views.{Lt, lt}
use Rattle.forms.specs.ReadLine.{read_line}
use Rattle.forms.specs.Answers.{answer_of, bytes_of, form_in, byte_count, answer_count, Is, Reads}
use Rattle.hex_pairs.specs.HexAnswers.{pairs_at}
use Rattle.forms.specs.declared.Form.{Form}
use Rattle.forms.proofs.Lines.{Behind, form_behind, read_line_is}
use Rattle.std.proofs.lemmas.List.{nil_from_length}
use Rattle.forms.proofs.Ways.{count_of_answer}

-- a line of 1,024 bytes has room for 511 pairs
few_bytes : (l : List ℕ) (f : P.Form) → P.IsForm l f → length (bytes_of (M.some f)) ≤ 511
few_bytes l f i = go (ltb 0 (length (bytes_of (M.some f)))) (lt 0 (length (bytes_of (M.some f))))
  where
    go : (o : Bool) → Lt o 0 (length (bytes_of (M.some f))) → length (bytes_of (M.some f)) ≤ 511
    go true h = omega (arith, i.short, (form_behind l f (length (bytes_of (M.some f))) i h refl).room)
    go false h = omega arith

-- the answer and the buffer afterwards give the form back
given_back : (l before : List ℕ) (o : M.Option P.Form) → Is l o → 511 ≤ length before → form_in (answer_of o) (sets before 0 (bytes_of o)) ≡ o
given_back l before M.none i h = refl
given_back l before (M.some (P.block k b)) i h =
    let n = few_bytes l (P.block k b) i in
    ap (λ (bs : List ℕ). M.some (P.block k (record { bytes = bs; at = b.at }))) (take_sets b.bytes before 0 (omega arith))
given_back l before (M.some P.finish) i h = refl
given_back l before (M.some (P.find q)) i h =
    let n = few_bytes l (P.find q) i in
    ap (λ (bs : List ℕ). M.some (P.find bs)) (take_sets q before 0 (omega arith))

few_read : (l : List ℕ) (o : M.Option P.Form) → Is l o → length (bytes_of o) ≤ 511
few_read l M.none i = omega arith
few_read l (M.some f) i = few_bytes l f i

module _ (l before : List ℕ) where
  pub reads_all : (r : Option Form) → r ≡ answer_of (read_line l) → (after : List ℕ) → after ≡ sets before 0 (bytes_of (read_line l)) → Reads l before r after
  reads_all r e after f = record {
    is = read_line_is l;
    answer = e;
    decoded = f;
    means = λ h. ap (λ (r : Option Form). form_in r after) e ∙ ap (form_in (answer_of (read_line l))) f ∙ given_back l before (read_line l) (read_line_is l) h;
    few = omega (arith, ap answer_count e, count_of_answer (read_line l), few_read l (read_line l) (read_line_is l));
  }

  -- no form
  pub reads_bad : None ≡ answer_of (read_line l) → Reads l before None before
  reads_bad e = reads_all None e before (go (read_line l) e)
    where
      go : (o : M.Option P.Form) → None ≡ answer_of o → before ≡ sets before 0 (bytes_of o)
      go M.none e = refl
      go (M.some (P.block k b)) e = absurd (cc)
      go (M.some P.finish) e = absurd (cc)
      go (M.some (P.find q)) e = absurd (cc)

  -- a form r with n bytes
  module _ (r : Form) (n : ℕ) (e : Some r ≡ answer_of (read_line l)) (k : n ≡ byte_count r) where
    size : n ≡ length (bytes_of (read_line l))
    size = k ∙ ap answer_count e ∙ count_of_answer (read_line l)

    pub reads_none : n ≡ 0 → Reads l before (Some r) before
    reads_none z =
        let b = nil_from_length (bytes_of (read_line l)) (sym size ∙ z) in
        reads_all (Some r) e before (ap (sets before 0) (sym b))

    pub line_behind : (n ≡ 0 → ⊥) → Behind l (bytes_of (read_line l)) n
    line_behind z = go (read_line l) (read_line_is l) size
      where
        go : (o : M.Option P.Form) → Is l o → n ≡ length (bytes_of o) → Behind l (bytes_of o) n
        go M.none i s = absurd (z s)
        go (M.some f) i s = form_behind l f n i (omega arith) s

    pub reads_some : (n ≡ 0 → ⊥) → (after : List ℕ) → after ≡ sets before 0 (pairs_at l n (length l - 2 - 2 * n)) → Reads l before (Some r) after
    reads_some z after f = reads_all (Some r) e after (f ∙ ap (sets before 0) (line_behind z).decoded)

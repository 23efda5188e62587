-- Input in parts, however it was cut, is answered line by line. Assumes nothing.
use Prim.Native.Nat.{ℕ, ◌≤◌, ◌<◌}
use native.Mathlib.Omega.{arith}
use mathlib.Core.Path.{◌≡◌, refl, sym, ap, ◌∙◌}
use mathlib.Core.Bool.{Bool, true, false, cond}
use mathlib.Core.Logic.{◌⊎◌, inl, inr}
use mathlib.Core.List.{List, [], ◌∷◌, ◌++◌, append-nil, append_assoc}
use lib.ListN.{length}
use lib.Dec.{eqb}
use Rattle.std.proofs.lemmas.Bool.{cases_lt}
use Rattle.lines.specs.Cut.{in_front, lines_of}
use Rattle.form_answers.specs.Memory.{line_answer, lines_answer}
use Rattle.lines.specs.Kept.{Kept, part, too_long, keeps, keeps_byte}
use Rattle.answering.specs.Parts.{kept_answer, kept_memory, end_answer, State, line_ended, still_kept, after_byte, after_bytes, at_start, output, all_of}
use Rattle.answering.specs.Promises.{PartsAnswered}
use Rattle.lines.proofs.Keeping.{keeps_fit, keeps_over, keeps_append}
use Rattle.answering.proofs.Keeping.{line_kept, memory_kept}

-- ── bytes in front of the first of lines ──

abbrev front : List ℕ → List (List ℕ) → List (List ℕ)
front [] ls = ls
front (b ∷ l) ls = in_front b (front l ls)

front_line : (l f : List ℕ) (ls : List (List ℕ)) → front l (f ∷ ls) ≡ (l ++ f) ∷ ls
front_line [] f ls = refl
front_line (b ∷ l) f ls = ap (in_front b) (front_line l f ls)

front_none : (b : ℕ) (l : List ℕ) → front (b ∷ l) [] ≡ (b ∷ l) ∷ []
front_none b [] = refl
front_none b (c ∷ l) = ap (in_front b) (front_none c l)

front_snoc : (l : List ℕ) (b : ℕ) (ls : List (List ℕ)) → front l (in_front b ls) ≡ front (l ++ (b ∷ [])) ls
front_snoc [] b ls = refl
front_snoc (c ∷ l) b ls = ap (in_front c) (front_snoc l b ls)

-- ── from any byte on ──

-- all answers, with that at the end of the input
abbrev whole : State → List ℕ
whole s = s.answers ++ end_answer s.memory s.kept

-- a line that has begun is answered at the end
end_begun : (m : List ℕ) (b : ℕ) (l : List ℕ) → end_answer m (keeps (part []) (b ∷ l)) ≡ line_answer m (b ∷ l)
end_begun m b l = go (cases_lt 1024 (length (b ∷ l)))
  where
    go : (1024 < length (b ∷ l)) ⊎ (length (b ∷ l) ≤ 1024) → end_answer m (keeps (part []) (b ∷ l)) ≡ line_answer m (b ∷ l)
    go (inl h) =
        let e : keeps (part []) (b ∷ l) ≡ too_long = keeps_over [] (b ∷ l) (omega arith) (omega arith) in
        ap (end_answer m) e ∙ sym (ap (kept_answer m) e) ∙ line_kept m (b ∷ l)
    go (inr h) = ap (end_answer m) (keeps_fit [] (b ∷ l) (omega arith))

end_front : (m l : List ℕ) → end_answer m (keeps (part []) l) ≡ lines_answer m (front l [])
unfolding lines_answer
end_front m [] = refl
end_front m (b ∷ l) = end_begun m b l ∙ sym (append-nil (line_answer m (b ∷ l))) ∙ ap (lines_answer m) (sym (front_none b l))

abbrev begun : List ℕ → List ℕ → List ℕ → State
begun m l a = record { memory = m; kept = keeps (part []) l; answers = a }

-- what is kept after these bytes
abbrev seen : List ℕ → Kept
seen l = keeps (part []) l

-- a newline behind them
line_read : (l m t : List ℕ) → kept_answer m (seen l) ++ lines_answer (kept_memory m (seen l)) (lines_of t) ≡ lines_answer m (front l ([] ∷ lines_of t))
unfolding lines_answer
line_read l m t =
    ap (λ (x : List ℕ). x ++ lines_answer (kept_memory m (seen l)) (lines_of t)) (line_kept m l)
    ∙ ap (λ (x : List ℕ). line_answer m l ++ lines_answer x (lines_of t)) (memory_kept m l)
    ∙ ap (λ (x : List ℕ). lines_answer m (x ∷ lines_of t)) (sym (append-nil l))
    ∙ ap (lines_answer m) (sym (front_line l [] (lines_of t)))

-- l was read of a line, and a answered before
read_on : (t l m a : List ℕ) → whole (after_bytes (begun m l a) t) ≡ a ++ lines_answer m (front l (lines_of t))
unfolding after_bytes lines_of
read_on [] l m a = ap (λ (x : List ℕ). a ++ x) (end_front m l)
read_on (b ∷ t) l m a = go (eqb b 10) (read_on t [] (kept_memory m (seen l)) (a ++ kept_answer m (seen l))) (read_on t (l ++ (b ∷ [])) m a)
  where
    go : (o : Bool)
        → whole (after_bytes (begun (kept_memory m (seen l)) [] (a ++ kept_answer m (seen l))) t) ≡ a ++ kept_answer m (seen l) ++ lines_answer (kept_memory m (seen l)) (lines_of t)
        → whole (after_bytes (begun m (l ++ (b ∷ [])) a) t) ≡ a ++ lines_answer m (front (l ++ (b ∷ [])) (lines_of t))
        → whole (after_bytes (cond o (line_ended (begun m l a)) (still_kept (begun m l a) (keeps_byte (seen l) b))) t)
        ≡ a ++ lines_answer m (front l (cond o ([] ∷ lines_of t) (in_front b (lines_of t))))
    go true r _ = r ∙ append_assoc a (kept_answer m (seen l)) (lines_answer (kept_memory m (seen l)) (lines_of t)) ∙ ap (λ (x : List ℕ). a ++ x) (line_read l m t)
    go false _ r =
        ap (λ (x : Kept). whole (after_bytes (record { memory = m; kept = x; answers = a }) t)) (sym (keeps_append (part []) l (b ∷ [])))
        ∙ r ∙ ap (λ (ls : List (List ℕ)). a ++ lines_answer m ls) (sym (front_snoc l b (lines_of t)))

-- ── part by part ──

pub after_append : (xs ys : List ℕ) (s : State) → after_bytes s (xs ++ ys) ≡ after_bytes (after_bytes s xs) ys
unfolding after_bytes
after_append [] ys s = refl
after_append (x ∷ xs) ys s = after_append xs ys (after_byte s x)

-- with answers before those of a state
abbrev pub behind : List ℕ → State → State
behind a s = record { memory = s.memory; kept = s.kept; answers = a ++ s.answers }

byte_behind : (a : List ℕ) (s : State) (b : ℕ) → after_byte (behind a s) b ≡ behind a (after_byte s b)
byte_behind a s b = go (eqb b 10)
  where
    go : (o : Bool) → cond o (line_ended (behind a s)) (still_kept (behind a s) (keeps_byte s.kept b)) ≡ behind a (cond o (line_ended s) (still_kept s (keeps_byte s.kept b)))
    go true = λ i. record { memory = kept_memory s.memory s.kept; kept = part []; answers = append_assoc a s.answers (kept_answer s.memory s.kept) i }
    go false = refl

pub after_behind : (t a : List ℕ) (s : State) → after_bytes (behind a s) t ≡ behind a (after_bytes s t)
unfolding after_bytes
after_behind [] a s = refl
after_behind (b ∷ t) a s = ap (λ (x : State). after_bytes x t) (byte_behind a s b) ∙ after_behind t a (after_byte s b)

output_whole : (ps : List (List ℕ)) (m : List ℕ) (k : Kept) → output m k ps ≡ whole (after_bytes (at_start m k) (all_of ps))
unfolding output after_bytes
output_whole [] m k = refl
output_whole (p ∷ ps) m k =
    let x : State = after_bytes (at_start m k) p in
    let y : State = after_bytes (at_start x.memory x.kept) (all_of ps) in
    let s : behind x.answers (at_start x.memory x.kept) ≡ x = λ i. record { memory = x.memory; kept = x.kept; answers = append-nil x.answers i } in
    ap (λ (l : List ℕ). x.answers ++ l) (output_whole ps x.memory x.kept)
    ∙ sym (append_assoc x.answers y.answers (end_answer y.memory y.kept))
    ∙ ap whole (sym (after_behind (all_of ps) x.answers (at_start x.memory x.kept)) ∙ ap (λ (z : State). after_bytes z (all_of ps)) s ∙ sym (after_append p (all_of ps) (at_start m k)))

pub parts_answered : PartsAnswered
parts_answered m ps = output_whole ps m (part []) ∙ read_on (all_of ps) [] m []

-- What the bytes of an input change, a line at a time: the turns of `answer_lines`. Assumes nothing.
use Prim.Native.Nat.{ℕ, suc, ◌+◌, ◌-◌, ◌≤◌, ◌<◌}
use native.Mathlib.Omega.{arith}
use native.Mathlib.Numerals.{add-one}
use mathlib.Core.Path.{◌≡◌, refl, sym, ap, ◌∙◌, subst}
use mathlib.Core.Bool.{Bool, cond}
use mathlib.Core.List.{List, [], ◌∷◌, ◌++◌, append-nil}
use lib.ListN.{length, get_or, take, drop, length-take, length-drop, take-append-drop, drop_of_length-le}
use lib.Seq.{drop-cons, drop-drop, get_or-drop, get_or-take, take-append-add, take-length, take_all}
use lib.Dec.{ltb}
use borrow.Author.Tests.{lt-ltb, le-ltb, ne_eqb}
use Rattle.lines.specs.Cut.{Ends}
use Rattle.replies.specs.declared.Output.{Output}
use Rattle.replies.specs.Outputs.{emptied}
use Rattle.replies.proofs.Writing.{writes_none, writes_both, writes_same, writes_long}
use Rattle.lines.specs.Kept.{Kept, part, keeps, keeps_byte}
use Rattle.answering.specs.Parts.{kept_answer, kept_memory, State, at_start, line_ended, still_kept, after_bytes, used}
use Rattle.answering.specs.Cited.{used_part, HoldsState, AnswersLines}
use Rattle.form_answers.specs.Answered.{AnsweredBy}

-- ── bytes without a newline ──

abbrev Plain : List ℕ → Type 0
Plain xs = (k : ℕ) → k < length xs → get_or xs k 0 ≡ 10 → ⊥

plain_tail : (x : ℕ) (xs : List ℕ) → Plain (x ∷ xs) → Plain xs
plain_tail x xs n k h e = n (suc k) (omega arith) e

after_plain : (xs ys : List ℕ) (s : State) → Plain xs → after_bytes s (xs ++ ys) ≡ after_bytes (still_kept s (keeps s.kept xs)) ys
unfolding after_bytes
after_plain [] ys s n = refl
after_plain (x ∷ xs) ys s n =
    ap (λ (o : Bool). after_bytes (cond o (line_ended s) (still_kept s (keeps_byte s.kept x))) (xs ++ ys)) (ne_eqb x 10 (n 0 (omega arith)))
    ∙ (after_plain xs ys (still_kept s (keeps_byte s.kept x)) (plain_tail x xs n))

used_plain : (room : ℕ) (xs ys : List ℕ) (s : State) → Plain xs → used room s (xs ++ ys) ≡ length xs + used room (still_kept s (keeps s.kept xs)) ys
unfolding used
used_plain room [] ys s n =
    let z : used room s ys ≡ 0 + used room s ys = omega arith in
    z
used_plain room (x ∷ xs) ys s n =
    let r : used room (still_kept s (keeps_byte s.kept x)) (xs ++ ys) ≡ length xs + used room (still_kept s (keeps s.kept (x ∷ xs))) ys = used_plain room xs ys (still_kept s (keeps_byte s.kept x)) (plain_tail x xs n) in
    rw (ne_eqb x 10 (n 0 (omega arith))) (ap suc r ∙ omega arith)

used_some : (room : ℕ) (s : State) (t : List ℕ) → 0 < length t → 0 < used room s t
unfolding used
used_some room s [] h = absurd (omega arith)
used_some room s (b ∷ t) h = omega arith

-- ── a line and what stands behind its newline ──

module _ (room : ℕ) (s : State) (xs ys : List ℕ) (plain : Plain xs) where
  abbrev next_state : State
  next_state = line_ended (still_kept s (keeps s.kept xs))

  line_used : used room s (xs ++ 10 ∷ ys) ≡ length xs + suc (cond (ltb room (length next_state.answers + 4571)) 0 (used room next_state ys))
  unfolding used
  line_used = used_plain room xs (10 ∷ ys) s plain

  line_after : (u : ℕ) → used room s (xs ++ 10 ∷ ys) ≡ length xs + suc u → after_bytes s (take (used room s (xs ++ 10 ∷ ys)) (xs ++ 10 ∷ ys)) ≡ after_bytes next_state (take u ys)
  unfolding after_bytes
  line_after u e =
      ap (λ (n : ℕ). after_bytes s (take n (xs ++ 10 ∷ ys))) e
      ∙ ap (after_bytes s) (take-append-add xs (10 ∷ ys) (suc u))
      ∙ after_plain xs (10 ∷ take u ys) s plain

-- all of an input without a newline
module _ (room : ℕ) (s : State) (xs : List ℕ) (plain : Plain xs) where
  all_used : used room s xs ≡ length xs
  unfolding used
  all_used = ap (used room s) (sym (append-nil xs)) ∙ used_plain room xs [] s plain ∙ omega arith

  all_after : after_bytes s (take (used room s xs) xs) ≡ still_kept s (keeps s.kept xs)
  unfolding after_bytes
  all_after =
      ap (λ (n : ℕ). after_bytes s (take n xs)) all_used ∙ ap (after_bytes s) (take-length xs)
      ∙ ap (after_bytes s) (sym (append-nil xs)) ∙ after_plain xs [] s plain

-- ── the part of an input up to where its line ends ──

module _ (input : List ℕ) (p e : ℕ) (w : Ends input p e) where
  abbrev line_part : List ℕ
  line_part = take (e - p) (drop p input)

  part_length : length line_part ≡ e - p
  part_length = omega (arith, length-take (e - p) (drop p input), length-drop p input, w.within)

  part_plain : Plain line_part
  part_plain k h f =
      let a : k < e - p = omega (arith, part_length) in
      w.first (p + k) (omega arith) (omega arith) (sym (get_or-drop p input k 0) ∙ sym (get_or-take (e - p) (drop p input) k 0 a) ∙ f)

  part_behind : drop p input ≡ line_part ++ drop e input
  part_behind =
      let q : p + (e - p) ≡ e = omega (arith, w.from) in
      sym (take-append-drop (e - p) (drop p input)) ∙ ap (λ (l : List ℕ). line_part ++ l) (drop-drop (e - p) p input ∙ ap (λ (n : ℕ). drop n input) q)

  -- the newline, and what stands behind it
  part_newline : e < length input → drop p input ≡ line_part ++ 10 ∷ drop (e + 1) input
  part_newline h =
      part_behind
      ∙ ap (λ (l : List ℕ). line_part ++ l)
      (drop-cons input e 0 h ∙ ap (λ (b : ℕ). b ∷ drop (suc e) input) (w.newline h) ∙ ap (λ (n : ℕ). 10 ∷ drop n input) (sym (add-one e)))

-- ── the loop ──

-- what holds when a line begins at index next: answering on from there ends as answering from the start does
pub record Going (start : State) (input : List ℕ) (p : ℕ) (out : Output) (memory : List ℕ) (line : Kept) (out' : Output) (next : ℕ) : Type 0 where
  pub state : State
  pub holds : HoldsState state (emptied out) memory line out'
  pub room : out'.at + 4571 ≤ length out.bytes.now
  pub same_end : next + used (length out.bytes.now) state (drop next input) ≡ p + used (length out.bytes.now) start (drop p input)
  pub same_state : after_bytes state (used_part (length out.bytes.now) state input next) ≡ after_bytes start (used_part (length out.bytes.now) start input p)

pub going_start : (memory : List ℕ) (line : Kept) (input : List ℕ) (p : ℕ) (out : Output) → 4571 ≤ length out.bytes.now → Going (at_start memory line) input p out memory line (emptied out) p
going_start memory line input p out k = record {
  state = at_start memory line;
  holds = record { memory_is = refl; kept_is = refl; written = writes_none (emptied out); within = omega arith };
  room = k;
  same_end = refl;
  same_state = refl;
}

-- it ends in a state where nothing more is used
ends : (m : List ℕ) (line : Kept) {input m' : List ℕ} {out out' : Output} {line' : Kept} {p next : ℕ} (s : State)
    → HoldsState s (emptied out) m' line' out'
    → next ≡ p + used (length out.bytes.now) (at_start m line) (drop p input)
    → s ≡ after_bytes (at_start m line) (used_part (length out.bytes.now) (at_start m line) input p)
    → AnswersLines m line input p out m' line' out' next
ends m line {input} {m'} {out} {out'} {line'} {p} {next} s h e f = record {
  goes_to = e;
  holds = subst (λ (x : State). HoldsState x (emptied out) m' line' out') f h;
  goes_on = λ k. omega (arith, e, used_some (length out.bytes.now) (at_start m line) (drop p input) (omega (arith, length-drop p input)));
}

module _ (m : List ℕ) (line₀ : Kept) {input mem : List ℕ} {line : Kept} {out out' : Output} {p next : ℕ} (g : Going (at_start m line₀) input p out mem line out' next) where
  -- the output keeps its length
  pub going_long : length out'.bytes.now ≡ length out.bytes.now
  going_long = writes_long g.holds.written

  pub going_room : out'.at + 4571 ≤ length out'.bytes.now
  going_room = omega (arith, g.room, going_long)

  -- at the input's end
  pub going_done : length input ≤ next → AnswersLines m line₀ input p out mem line out' next
  unfolding used after_bytes
  going_done h =
      let d : drop next input ≡ [] = drop_of_length-le input h in
      let u : used (length out.bytes.now) g.state (drop next input) ≡ 0 = ap (used (length out.bytes.now) g.state) d in
      let f : after_bytes g.state (used_part (length out.bytes.now) g.state input next) ≡ g.state = ap (λ (t : List ℕ). after_bytes g.state (take (used (length out.bytes.now) g.state t) t)) d in
      ends m line₀ g.state g.holds (omega (arith, u, g.same_end)) (sym f ∙ g.same_state)

  module _ (e : ℕ) (inside : next < length input) (w : Ends input next e) where
    abbrev xs : List ℕ
    xs = line_part input next e w

    abbrev with_part : State
    with_part = still_kept g.state (keeps g.state.kept xs)

    kept_same : keeps line xs ≡ keeps g.state.kept xs
    kept_same = ap (λ (k : Kept). keeps k xs) g.holds.kept_is

    -- a line that doesn't end is kept
    pub going_kept : e ≡ length input → {line' : Kept} → line' ≡ keeps line (take (length input - next) (drop next input)) → AnswersLines m line₀ input p out mem line' out' e
    going_kept h {line'} b =
        let t : List ℕ = drop next input in
        let same : t ≡ xs = part_behind input next e w ∙ ap (λ (l : List ℕ). xs ++ l) (drop_of_length-le input {i = e} (omega arith)) ∙ append-nil xs in
        let plain : Plain t = subst Plain (sym same) (part_plain input next e w) in
        let a : used (length out.bytes.now) g.state t ≡ length t = all_used (length out.bytes.now) g.state t plain in
        ends m line₀ (still_kept g.state (keeps g.state.kept t))
        (record {
          memory_is = g.holds.memory_is;
          kept_is = b ∙ ap (keeps line) (take_all (length input - next) t (omega (arith, length-drop next input))) ∙ ap (λ (x : Kept). keeps x t) g.holds.kept_is;
          written = g.holds.written;
          within = g.holds.within;
        })
        (omega (arith, a, length-drop next input, g.same_end))
        (sym (all_after (length out.bytes.now) g.state t plain) ∙ g.same_state)

    -- a line that ends is answered
    module _ {mem' : List ℕ} {line' : Kept} {out'' : Output} (h : e < length input) (begun : line' ≡ part [])
        (b : AnsweredBy out' (kept_answer mem (keeps line xs)) (kept_memory mem (keeps line xs)) out'' mem') where
      abbrev then : State
      then = line_ended with_part

      abbrev behind : List ℕ
      behind = drop (e + 1) input

      answer_same : kept_answer mem (keeps line xs) ≡ kept_answer g.state.memory (keeps g.state.kept xs)
      answer_same = ap (λ (x : List ℕ). kept_answer x (keeps line xs)) g.holds.memory_is ∙ ap (kept_answer g.state.memory) kept_same

      then_holds : HoldsState then (emptied out) mem' line' out''
      then_holds = record {
        memory_is = b.leaves ∙ ap (λ (x : List ℕ). kept_memory x (keeps line xs)) g.holds.memory_is ∙ ap (kept_memory g.state.memory) kept_same;
        kept_is = begun;
        written = writes_both g.holds.written (writes_same answer_same b.written);
        within = omega (arith, b.short, g.room);
      }

      cut : drop next input ≡ xs ++ 10 ∷ behind
      cut = part_newline input next e w h

      -- with u bytes used behind its newline
      turned : (u : ℕ) → cond (ltb (length out.bytes.now) (length then.answers + 4571)) 0 (used (length out.bytes.now) then behind) ≡ u
          → (e + 1 + u ≡ p + used (length out.bytes.now) (at_start m line₀) (drop p input)) × (after_bytes then (take u behind) ≡ after_bytes (at_start m line₀) (used_part (length out.bytes.now) (at_start m line₀) input p))
      turned u f =
          let a : used (length out.bytes.now) g.state (xs ++ 10 ∷ behind) ≡ length xs + suc u = line_used (length out.bytes.now) g.state xs behind (part_plain input next e w) ∙ ap (λ (x : ℕ). length xs + suc x) f in
          let c : used (length out.bytes.now) g.state (drop next input) ≡ length xs + suc u = ap (used (length out.bytes.now) g.state) cut ∙ a in (
            omega (arith, c, part_length input next e w, w.from, g.same_end),
            sym (line_after (length out.bytes.now) g.state xs behind (part_plain input next e w) u a)
                ∙ ap (λ (t : List ℕ). after_bytes g.state (take (used (length out.bytes.now) g.state t) t)) (sym cut)
                ∙ g.same_state,
          )

      reached : out''.at ≡ length then.answers
      reached = then_holds.written.written.next ∙ omega arith

      answer_long : length out''.bytes.now ≡ length out.bytes.now
      answer_long = writes_long then_holds.written

      -- and the next has room
      pub going_on : 4571 ≤ length out''.bytes.now - out''.at → Going (at_start m line₀) input p out mem' line' out'' (e + 1)
      going_on k =
          let t = turned (used (length out.bytes.now) then behind) (rw (le-ltb (length out.bytes.now) (length then.answers + 4571) (omega (arith, reached, answer_long)))) in
          record { state = then; holds = then_holds; room = omega (arith, answer_long, b.short); same_end = t.0; same_state = t.1 }

      -- or has none
      pub going_full : length out''.bytes.now - out''.at < 4571 → AnswersLines m line₀ input p out mem' line' out'' (e + 1)
      unfolding after_bytes
      going_full k =
          let t = turned 0 (rw (lt-ltb (length out.bytes.now) (length then.answers + 4571) (omega (arith, reached, answer_long)))) in
          ends m line₀ then then_holds (omega (arith, t.0)) t.1

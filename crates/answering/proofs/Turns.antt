-- A part of the input that is answered in turns, an output at a time, is answered whole. Assumes nothing.
use Prim.Native.Nat.{ℕ, ◌≤◌}
use mathlib.Core.Path.{◌≡◌, sym, ap, ◌∙◌}
use mathlib.Core.List.{List, [], append-nil}
use lib.ListN.{length, take, drop, take-append-drop, drop_of_length-le}
use lib.Seq.{drop-drop}
use Rattle.lines.specs.Kept.{Kept}
use Rattle.replies.specs.declared.Output.{Output}
use Rattle.answering.specs.Parts.{State, at_start, after_bytes, used}
use Rattle.answering.specs.Cited.{AnswersLines, TakesPart}
use Rattle.answering.proofs.Cutting.{after_append, behind, after_behind}

-- two states are the same but for what was answered
pub record Alike (s t : State) : Type 0 where
  pub memory : s.memory ≡ t.memory
  pub kept : s.kept ≡ t.kept

-- the same bytes leave them so
alike_after : (bs : List ℕ) (s : State) (m : List ℕ) (k : Kept) → m ≡ s.memory → k ≡ s.kept → Alike (after_bytes (at_start m k) bs) (after_bytes s bs)
alike_after bs s m k e f =
    let a : at_start m k ≡ at_start s.memory s.kept = λ i. record { memory = e i; kept = f i; answers = [] } in
    let b : behind s.answers (at_start s.memory s.kept) ≡ s = λ i. record { memory = s.memory; kept = s.kept; answers = append-nil s.answers i } in
    let c : after_bytes s bs ≡ behind s.answers (after_bytes (at_start s.memory s.kept) bs) = sym (ap (λ (x : State). after_bytes x bs) b) ∙ after_behind bs s.answers (at_start s.memory s.kept) in
    let d : after_bytes (at_start m k) bs ≡ after_bytes (at_start s.memory s.kept) bs = ap (λ (x : State). after_bytes x bs) a in
    record {
      memory = ap (λ (x : State). x.memory) d ∙ sym (ap (λ (x : State). x.memory) c);
      kept = ap (λ (x : State). x.kept) d ∙ sym (ap (λ (x : State). x.kept) c);
    }

-- answering on from index p ends as answering the whole part does
pub record Reached (memory : List ℕ) (line : Kept) (input : List ℕ) (p : ℕ) (memory' : List ℕ) (line' : Kept) : Type 0 where
  pub alike : Alike (after_bytes (at_start memory' line') (drop p input)) (after_bytes (at_start memory line) input)

module _ (m : List ℕ) (line : Kept) (input : List ℕ) where
  pub reached_on : (p : ℕ) (m' : List ℕ) (line' : Kept) {o o' : Output} {m'' : List ℕ} {line'' : Kept} {next : ℕ} → Reached m line input p m' line' → AnswersLines m' line' input p o m'' line'' o' next → Reached m line input next m'' line''
  reached_on p m' line' {o} {o'} {m''} {line''} {next} r a =
      let s : State = at_start m' line' in
      let t : List ℕ = drop p input in
      let u : ℕ = used (length o.bytes.now) s t in
      let x : State = after_bytes s (take u t) in
      let e : drop next input ≡ drop u t = ap (λ (k : ℕ). drop k input) a.goes_to ∙ sym (drop-drop u p input) in
      let f : after_bytes x (drop u t) ≡ after_bytes s t = sym (after_append (take u t) (drop u t) s) ∙ ap (after_bytes s) (take-append-drop u t) in
      let g : Alike (after_bytes (at_start m'' line'') (drop u t)) (after_bytes x (drop u t)) = alike_after (drop u t) x m'' line'' a.holds.memory_is a.holds.kept_is in
      record {
        alike = record {
          memory = ap (λ (k : List ℕ). (after_bytes (at_start m'' line'') k).memory) e ∙ g.memory ∙ ap (λ (k : State). k.memory) f ∙ r.alike.memory;
          kept = ap (λ (k : List ℕ). (after_bytes (at_start m'' line'') k).kept) e ∙ g.kept ∙ ap (λ (k : State). k.kept) f ∙ r.alike.kept;
        };
      }

  pub reached_end : (p : ℕ) (m' : List ℕ) (line' : Kept) → length input ≤ p → Reached m line input p m' line' → TakesPart m line input m' line'
  unfolding after_bytes
  reached_end p m' line' h r =
      let d : drop p input ≡ [] = drop_of_length-le input h in
      record {
        memory_is = sym (ap (λ (t : List ℕ). (after_bytes (at_start m' line') t).memory) d) ∙ r.alike.memory;
        kept_is = sym (ap (λ (t : List ℕ). (after_bytes (at_start m' line') t).kept) d) ∙ r.alike.kept;
      }

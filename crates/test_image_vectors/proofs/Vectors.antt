-- A byte changed and put back, and where a vector leads. Assumes nothing.
use Prim.Native.Nat.{ℕ, ◌+◌, ◌-◌, ◌≤◌, ◌<◌, min}
use native.Mathlib.Omega.{arith}
use mathlib.Core.Path.{◌≡◌, sym, ap, ◌∙◌}
use mathlib.Core.Bool.{Bool}
use mathlib.Core.List.{List}
use lib.ListN.{length, get_or, set, take, drop, length-take}
use lib.Seq.{set_out, set-set, set-get_or, take-set-lt, drop-set-add}
use lib.Dec.{eqb}
use borrow.Author.Tests.{eq-eqb, ne_eqb}
use Rattle.std.specs.Prelude.{Option}
use Rattle.words.specs.Words.{le64}
use Rattle.image_format.specs.Reading.{Layout}
use Rattle.image_format.specs.Check.{check_image}
use Rattle.test_image_vectors.specs.Said.{Saying, said_after, said_whole}
use Rattle.test_image_vectors.specs.Vector.{Reached, part, damaged_layout, after_damaged, image_length, after_whole, after_vector}

pub put_back : (s : List ℕ) (i byte : ℕ) → set (set s i byte) i (get_or s i 0) ≡ s
put_back s i byte = set-set s i byte (get_or s i 0) ∙ set-get_or s i 0

module _ (s : List ℕ) (start len index byte : ℕ) (l : Layout) where
  -- an index behind the part
  pub damaged_none : len ≤ index → l ≡ check_image (take (start + len - start) (drop start s)) → l ≡ damaged_layout s start len index byte
  unfolding damaged_layout
  damaged_none h e =
      let k : start + len - start ≡ len = omega arith in
      let small : length (take len (drop start s)) ≤ index = simp length-take (omega arith) in
      e ∙ ap (λ (x : ℕ). check_image (take x (drop start s))) k ∙ sym (ap check_image (set_out (take len (drop start s)) index byte small))

  pub damaged_one : index < len → l ≡ check_image (take (start + len - start) (drop start (set s (start + index) byte))) → l ≡ damaged_layout s start len index byte
  unfolding damaged_layout
  damaged_one h e =
      let k : start + len - start ≡ len = omega arith in
      e ∙ ap (λ (x : ℕ). check_image (take x (drop start (set s (start + index) byte)))) k
      ∙ ap check_image (ap (take len) (drop-set-add start s index byte) ∙ take-set-lt len (drop start s) index byte h)

-- ── where a vector leads ──

abbrev pub at_cursor : ℕ → ℕ → ℕ → Option Saying → Reached
at_cursor at start len said = record { at = at; start = start; len = len; said = said }

module _ (s : List ℕ) (c : Reached) where
  pub damaged_leads : (index : ℕ) (l : Layout) (next : Option Saying) → index ≡ le64 s (c.at + 1) → l ≡ damaged_layout s c.start c.len index (get_or s (c.at + 9) 0) → next ≡ said_after c.said l → at_cursor (c.at + 10) c.start c.len next ≡ after_damaged s c
  unfolding after_damaged
  damaged_leads index l next e f g =
      ap (at_cursor (c.at + 10) c.start c.len) (g ∙ ap (said_after c.said) (f ∙ ap (λ (x : ℕ). damaged_layout s c.start c.len x (get_or s (c.at + 9) 0)) e))

  pub whole_leads : (parts : Bool) (n len : ℕ) (next : Option Saying) → n ≡ le64 s (c.at + 1) → len ≡ min n (length s - (c.at + 9)) → next ≡ said_whole (take (c.at + 9 + len - (c.at + 9)) (drop (c.at + 9) s)) c.said parts → at_cursor (c.at + 9 + len) (c.at + 9) len next ≡ after_whole s c parts
  unfolding after_whole
  whole_leads parts n len next e f g =
      let k : c.at + 9 + len - (c.at + 9) ≡ len = omega arith in
      let l : len ≡ image_length s c.at = f ∙ ap (λ (x : ℕ). min x (length s - (c.at + 9))) e in
      ap (at_cursor (c.at + 9 + len) (c.at + 9) len) (g ∙ ap (λ (x : ℕ). said_whole (take x (drop (c.at + 9) s)) c.said parts) k)
      ∙ ap (λ (x : ℕ). at_cursor (c.at + 9 + x) (c.at + 9) x (said_whole (part s (c.at + 9) x) c.said parts)) l

  pub vector_damaged : (r : Reached) → get_or s c.at 0 ≡ 2 → r ≡ after_damaged s c → r ≡ after_vector s c
  unfolding after_vector
  vector_damaged r e f = rw (eq-eqb (get_or s c.at 0) 2 e) f

  pub vector_whole : (r : Reached) → (get_or s c.at 0 ≡ 2 → ⊥) → r ≡ after_whole s c (eqb (get_or s c.at 0) 1) → r ≡ after_vector s c
  unfolding after_vector
  vector_whole r h f = rw (ne_eqb (get_or s c.at 0) 2 h) f

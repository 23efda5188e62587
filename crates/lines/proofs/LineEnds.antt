-- Where a line ends: at the first newline, or at the end of the input. Assumes nothing.
use Prim.Native.Nat.{ℕ, zero, suc, max, ◌+◌, ◌-◌, ◌≤◌, ◌<◌}
use native.Mathlib.Omega.{arith}
use native.Mathlib.Numerals.{add-one}
use mathlib.Core.Path.{◌≡◌, refl, sym, ap, ◌∙◌}
use mathlib.Core.Bool.{Bool, true, false, cond}
use mathlib.Core.Logic.{◌⊎◌, inl, inr}
use mathlib.Core.List.{List, [], ◌∷◌}
use lib.ListN.{length, get_or, take, drop, drop_of_length-le, length-drop}
use lib.Seq.{drop-cons, get_or-drop}
use lib.Dec.{eqb}
use borrow.Author.Tests.{eq-eqb, ne_eqb}
use Rattle.std.proofs.lemmas.Bool.{cases_lt}
use Rattle.definitions.proofs.Views.{Eq, eq}
use Rattle.lines.specs.Cut.{first_line, line_end, Ends}

-- ── the loop of `line_end` ──

module _ (s : List ℕ) (i : ℕ) where
  pub end_out : length s ≤ i → i ≡ line_end s i
  unfolding line_end first_line
  end_out h = rw (drop_of_length-le s h) (omega arith)

  module _ (h : i < length s) where
    step : drop i s ≡ get_or s i 0 ∷ drop (i + 1) s
    step = rw (add-one i) (drop-cons s i 0 h)

    pub end_here : get_or s i 0 ≡ 10 → i ≡ line_end s i
    unfolding line_end first_line
    end_here e = rw (step, eq-eqb (get_or s i 0) 10 e) (omega arith)

    pub end_on : (get_or s i 0 ≡ 10 → ⊥) → line_end s (i + 1) ≡ line_end s i
    unfolding line_end first_line
    end_on n = rw (step, ne_eqb (get_or s i 0) 10 n) (omega arith)

-- without a newline from `at` on, the line ends with the input, or where it began behind that
pub end_none : (s : List ℕ) (at i : ℕ) → length s ≤ i → (at ≤ length s → i ≤ length s) → line_end s i ≡ line_end s at → max (length s) at ≡ line_end s at
end_none s at i h k e = go (cases_lt at (length s))
  where
    go : (at < length s) ⊎ (length s ≤ at) → max (length s) at ≡ line_end s at
    go (inl m) = omega (arith, k (omega arith), end_out s i h, e)
    go (inr m) = omega (arith, end_out s at m)

-- ── the first newline ──

-- f is the front of a text t; a newline stands behind it or nothing, and none in it
record Front (t f : List ℕ) : Type 0 where
  within : length f ≤ length t
  same : take (length f) t ≡ f
  newline : length f < length t → get_or t (length f) 0 ≡ 10
  first : (k : ℕ) → k < length f → get_or t k 0 ≡ 10 → ⊥

front : (t : List ℕ) → Front t (first_line t)
unfolding first_line
front [] = record { within = omega arith; same = refl; newline = λ h. absurd (omega arith); first = λ k h. absurd (omega arith) }
front (b ∷ bs) = go (eqb b 10) (eq b 10) (front bs)
  where
    later : (b ≡ 10 → ⊥) → Front bs (first_line bs) → (k : ℕ) → k < suc (length (first_line bs)) → get_or (b ∷ bs) k 0 ≡ 10 → ⊥
    later n r zero h e = n e
    later n r (suc k) h e = r.first k (omega arith) e

    go : (o : Bool) → Eq o b 10 → Front bs (first_line bs) → Front (b ∷ bs) (cond o [] (b ∷ first_line bs))
    go true e r = record { within = omega arith; same = refl; newline = λ h. e; first = λ k h. absurd (omega arith) }
    go false n r = record {
      within = omega (arith, r.within);
      same = ap (λ (l : List ℕ). b ∷ l) r.same;
      newline = λ h. r.newline (omega arith);
      first = λ k h. later n r k h;
    }

module _ (s : List ℕ) (at : ℕ) where
  -- the line ends at the first newline, or at the input's end
  pub line_ends : at ≤ length s → Ends s at (line_end s at)
  unfolding line_end
  line_ends h =
      let r = front (drop at s) in
      let d = length-drop at s in
      record {
        from = omega arith;
        within = omega (arith, r.within);
        newline = λ k. sym (get_or-drop at s (length (first_line (drop at s))) 0) ∙ r.newline (omega arith);
        first = λ k a b e.
            let p : at + (k - at) ≡ k = omega arith in
            r.first (k - at) (omega arith) (get_or-drop at s (k - at) 0 ∙ ap (λ (j : ℕ). get_or s j 0) p ∙ e);
      }

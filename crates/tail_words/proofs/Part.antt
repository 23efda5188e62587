-- A part of a list: its elements, and a part of it. Assumes nothing.
use Prim.Native.Nat.{ℕ, ◌+◌, ◌-◌, ◌≤◌, ◌<◌, min}
use native.Mathlib.Omega.{arith}
use mathlib.Core.Path.{◌≡◌, sym, ap, ◌∙◌}
use mathlib.Core.Logic.{◌⊎◌, inl, inr}
use mathlib.Core.List.{List}
use lib.ListN.{length, get_or, take, drop, length-take, length-drop, get_or-eq_default}
use lib.Seq.{get_or-take, get_or-drop, ext_get_or}
use Rattle.std.proofs.lemmas.Bool.{cases_lt}
use Rattle.records.proofs.Bytes.{Bytes}

module _ (n : ℕ) (s : List ℕ) (at : ℕ) where
  pub part_in : (k : ℕ) → k < n → get_or (take n (drop at s)) k 0 ≡ get_or s (at + k) 0
  part_in k l = get_or-take n (drop at s) k 0 l ∙ get_or-drop at s k 0

  pub part_out : (k : ℕ) → n ≤ k → get_or (take n (drop at s)) k 0 ≡ 0
  part_out k l = get_or-eq_default (take n (drop at s)) 0 {n = k} (omega (arith, length-take n (drop at s)))

  pub part_length : length (take n (drop at s)) ≡ min n (length s - at)
  part_length = length-take n (drop at s) ∙ ap (min n) (length-drop at s)

  pub part_bytes : Bytes s → Bytes (take n (drop at s))
  part_bytes b k = go (cases_lt k n)
    where
      go : (k < n) ⊎ (n ≤ k) → get_or (take n (drop at s)) k 0 < 256
      go (inl l) = rw (part_in k l) (b (at + k))
      go (inr l) = rw (part_out k l) (omega arith)

  -- from index i of it on
  pub part_drop : (i m to : ℕ) → m ≡ n - i → to ≡ at + i → drop i (take n (drop at s)) ≡ take m (drop to s)
  part_drop i m to e f = ext_get_or 0 _ _ same (λ k l. at_index k (omega (arith, long)))
    where
      long : length (drop i (take n (drop at s))) ≡ min n (length s - at) - i
      long = length-drop i (take n (drop at s)) ∙ ap (λ (j : ℕ). j - i) part_length

      same : length (drop i (take n (drop at s))) ≡ length (take m (drop to s))
      same = long ∙ omega (arith, length-take m (drop to s), length-drop to s)

      at_index : (k : ℕ) → k < n - i → get_or (drop i (take n (drop at s))) k 0 ≡ get_or (take m (drop to s)) k 0
      at_index k l =
          let g : at + (i + k) ≡ to + k = omega arith in
          get_or-drop i (take n (drop at s)) k 0 ∙ part_in (i + k) (omega arith) ∙ ap (λ (j : ℕ). get_or s j 0) g
          ∙ sym (get_or-take m (drop to s) k 0 (omega arith) ∙ get_or-drop to s k 0)

-- parts of lists that agree there
pub part_ext : (n : ℕ) (s s' : List ℕ) (at : ℕ) → length s' ≡ length s → ((k : ℕ) → at ≤ k → k < at + n → get_or s' k 0 ≡ get_or s k 0) → take n (drop at s') ≡ take n (drop at s)
part_ext n s s' at e h = ext_get_or 0 _ _ (part_length n s' at ∙ ap (λ (j : ℕ). min n (j - at)) e ∙ sym (part_length n s at))
    (λ k l. at_index k (omega (arith, part_length n s' at)))
  where
    at_index : (k : ℕ) → k < n → get_or (take n (drop at s')) k 0 ≡ get_or (take n (drop at s)) k 0
    at_index k l = part_in n s' at k l ∙ h (at + k) (omega arith) (omega arith) ∙ sym (part_in n s at k l)

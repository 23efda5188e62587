-- What is kept of an unfinished line, byte by byte and in a line buffer. Assumes nothing.
use Prim.Native.Nat.{ℕ, ◌+◌, ◌-◌, ◌≤◌, ◌<◌}
use native.Mathlib.Omega.{arith}
use mathlib.Core.Path.{◌≡◌, refl, sym, ap, ◌∙◌}
use mathlib.Core.Logic.{◌⊎◌, inl, inr}
use Rattle.std.specs.Prelude.{Some, None}
use mathlib.Core.List.{List, [], ◌∷◌, ◌++◌, append-nil}
use lib.ListN.{length, take, drop, length-append}
use lib.Seq.{sets, sets-eq, append_snoc, take_at, length-take-le}
use borrow.Author.Tests.{lt-ltb, le-ltb}
use Rattle.std.proofs.lemmas.Bool.{cases_lt}
use Rattle.lines.specs.Kept.{Kept, part, too_long, keeps_byte, keeps, kept_in, fits_line, KeepsBehind}

-- ── byte by byte ──

pub keeps_long : (bs : List ℕ) → keeps too_long bs ≡ too_long
keeps_long [] = refl
keeps_long (b ∷ bs) = keeps_long bs

-- what fits a line is kept
pub keeps_fit : (l bs : List ℕ) → length l + length bs ≤ 1024 → keeps (part l) bs ≡ part (l ++ bs)
keeps_fit l [] h = ap part (sym (append-nil l))
keeps_fit l (b ∷ bs) h =
    rw (lt-ltb (length l) 1024 (omega arith))
    (keeps_fit (l ++ (b ∷ [])) bs (omega (arith, length-append l (b ∷ []))) ∙ ap part (append_snoc l b bs))

-- what doesn't is too long
pub keeps_over : (l bs : List ℕ) → length l ≤ 1024 → 1024 < length l + length bs → keeps (part l) bs ≡ too_long
keeps_over l [] h k = absurd (omega arith)
keeps_over l (b ∷ bs) h k = go (cases_lt (length l) 1024) (λ f. keeps_over (l ++ (b ∷ [])) bs (omega (arith, length-append l (b ∷ []))) (omega (arith, length-append l (b ∷ []))))
  where
    go : (length l < 1024) ⊎ (1024 ≤ length l) → (length l < 1024 → keeps (part (l ++ (b ∷ []))) bs ≡ too_long) → keeps (keeps_byte (part l) b) bs ≡ too_long
    go (inl f) r = rw (lt-ltb (length l) 1024 f) (r f)
    go (inr f) r = rw (le-ltb (length l) 1024 f) (keeps_long bs)

-- one after the other
pub keeps_append : (k : Kept) (xs ys : List ℕ) → keeps k (xs ++ ys) ≡ keeps (keeps k xs) ys
keeps_append k [] ys = refl
keeps_append k (x ∷ xs) ys = keeps_append (keeps_byte k x) xs ys

-- ── in a line buffer ──

module _ (line : List ℕ) (n : ℕ) (bs : List ℕ) (room : 1024 ≤ length line) where
  kept_short : n ≤ 1024 → kept_in line (fits_line n) ≡ part (take n line)
  kept_short h = rw (le-ltb 1024 n h) refl

  over : 1024 < n + length bs → keeps (kept_in line (fits_line n)) bs ≡ too_long → KeepsBehind line n bs line None
  over h e = record { count = rw (lt-ltb 1024 (n + length bs) h) refl; buffer = rw (lt-ltb 1024 (n + length bs) h) refl; keeps_them = sym e }

  pub keep_long : 1024 < n → KeepsBehind line n bs line None
  keep_long h = over (omega arith) (rw (lt-ltb 1024 n h) (keeps_long bs))

  pub keep_over : n ≤ 1024 → 1024 - n < length bs → KeepsBehind line n bs line None
  keep_over h k =
      let l : length (take n line) ≡ n = length-take-le n line (omega arith) in
      over (omega arith) (ap (λ (x : Kept). keeps x bs) (kept_short h) ∙ keeps_over (take n line) bs (omega arith) (omega arith))

  pub keep_fit : n + length bs ≤ 1024 → (after : List ℕ) → after ≡ sets line n bs → KeepsBehind line n bs after (Some (n + length bs))
  keep_fit h after e =
      let l : length (take n line) ≡ n = length-take-le n line (omega arith) in
      let f : length (take n line ++ bs) ≡ n + length bs = omega (arith, length-append (take n line) bs) in
      let g : take (n + length bs) after ≡ take n line ++ bs = ap (take (n + length bs)) (e ∙ sets-eq bs line n (omega arith)) ∙ take_at (take n line ++ bs) (drop (n + length bs) line) (n + length bs) f in
      record {
        count = rw (le-ltb 1024 (n + length bs) h) refl;
        buffer = rw (le-ltb 1024 (n + length bs) h) e;
        keeps_them = rw (le-ltb 1024 n (omega arith)) (ap part g ∙ sym (keeps_fit (take n line) bs (omega arith)));
      }

-- Sorted tails that share their first d bytes: first those that end there, whole pieces last, then the longer ones by their next byte.
-- Assumes nothing.
use Prim.Native.Nat.{ℕ, suc, ◌≤◌}
use native.Mathlib.Nat.{not-suc-le-zero}
use native.Mathlib.Omega.{arith}
use mathlib.Core.Path.{◌≡◌, refl, sym, ap, ◌∙◌}
use mathlib.Core.Bool.{Bool, true, false, not, ◌&&◌}
use mathlib.Core.List.Memᴰ.{head as here}
use mathlib.Core.List.Memᴰ.{tail as later}
use mathlib.Core.List.{List, [], ◌∷◌, Memᴰ as Mem}
use lib.ListN.{length}
use lib.Dec.{eqb}
use borrow.Author.Tests.{eqb-true, eqb-false, eq-eqb, not-true}
use Rattle.records.specs.Records.{Ordered}
use Rattle.records.proofs.Order.{clash}
use Rattle.tails.specs.Tails.{Tail, mark_of, tail_record, tail_records}
use Rattle.tails.specs.Groups.{ends_as, run, after_run, byte_at, below}
use Rattle.tails.specs.Runs.{Agree, SoundPath, Upto, Pairs, Run}
use Rattle.tails.proofs.High.{agree_next}
use Rattle.tails.proofs.Compare.{mark_le, byte_upto, ends_upto}
use Rattle.tails.proofs.Keep.{keep, Kept, keep_mem, pairs_keep, pairs_map, keep_ext, keep_keep, Falling, run_keep, after_keep}

-- ── order ──

mem_record : {t : Tail} (ts : List Tail) → Mem t ts → Mem (tail_record t) (tail_records ts)
mem_record {t = t} [] x' = elim x' [ ]
mem_record (s ∷ ts) (here e) = here (ap tail_record e)
mem_record (s ∷ ts) (later m) = later (mem_record ts m)

pub ordered_pairs : (ts : List Tail) → Ordered (tail_records ts) → Pairs Upto ts
ordered_pairs [] o = tt
ordered_pairs (t ∷ ts) o = ((λ s m. o.0 (tail_record s) (mem_record ts m)), ordered_pairs ts o.1)

-- ── sorted tails that share their first d bytes ──

-- all sorted tails share no bytes
pub run_all : (ts : List Tail) → Ordered (tail_records ts) → ((t : Tail) → Mem t ts → SoundPath t.entry.path) → Run 0 ts
run_all ts o s = record { ordered = ordered_pairs ts o; sound = s; long = λ t m. omega arith; agree = λ t u m n k l. absurd (not-suc-le-zero l) }

-- goes on behind depth d
abbrev pub longer : ℕ → Tail → Bool
longer d t = not (eqb (length t.entry.path) d)

-- goes on with byte b
abbrev pub goes : ℕ → ℕ → Tail → Bool
goes d b t = longer d t && eqb (byte_at d t) b

pub ends_is : (d : ℕ) (w : Bool) (t : Tail) → ends_as d w t ≡ true → (length t.entry.path ≡ d) × (t.entry.whole ≡ w)
ends_is d w t e = go (eqb (length t.entry.path) d) refl w t.entry.whole refl e
  where
    go : (o : Bool) → eqb (length t.entry.path) d ≡ o → (w v : Bool) → t.entry.whole ≡ v → ends_as d w t ≡ true → (length t.entry.path ≡ d) × (t.entry.whole ≡ w)
    go true p true true q e = (eqb-true (length t.entry.path) d p, q)
    go true p false false q e = (eqb-true (length t.entry.path) d p, q)
    go true p true false q e = clash (sym e ∙ rw (p, q))
    go true p false true q e = clash (sym e ∙ rw (p, q))
    go false p true v q e = clash (sym e ∙ rw p)
    go false p false v q e = clash (sym e ∙ rw p)

is_ends : (d : ℕ) (w : Bool) (t : Tail) → length t.entry.path ≡ d → t.entry.whole ≡ w → ends_as d w t ≡ true
is_ends d true t p q = rw (eq-eqb (length t.entry.path) d p, q)
is_ends d false t p q = rw (eq-eqb (length t.entry.path) d p, q)

pub longer_is : (d : ℕ) (t : Tail) → longer d t ≡ true → ¬ (length t.entry.path ≡ d)
longer_is d t e = eqb-false (length t.entry.path) d (not-true (eqb (length t.entry.path) d) e)

pub goes_is : (d b : ℕ) (t : Tail) → goes d b t ≡ true → (longer d t ≡ true) × (byte_at d t ≡ b)
goes_is d b t e = go (longer d t) (eqb (byte_at d t) b) refl refl e
  where
    go : (o₁ o₂ : Bool) → longer d t ≡ o₁ → eqb (byte_at d t) b ≡ o₂ → o₁ && o₂ ≡ true → (longer d t ≡ true) × (byte_at d t ≡ b)
    go true true p q e = (p, eqb-true (byte_at d t) b q)
    go true false p q e = clash (sym e)
    go false o₂ p q e = clash (sym e)

whole_none : (w : Bool) → mark_of w ≤ 0 → w ≡ false
whole_none true h = absurd (omega arith)
whole_none false h = refl

module _ (d : ℕ) (ts : List Tail) (run-d : Run d ts) where
  -- before one that ends here all end here, and before one that is no whole piece none is
  ends_before : (t s : Tail) → Mem t ts → Mem s ts → Upto t s → length s.entry.path ≡ d → (length t.entry.path ≡ d) × (mark_of t.entry.whole ≤ mark_of s.entry.whole)
  ends_before t s m n h e =
      let k = ends_upto t s (run-d.sound t m) (run-d.sound s n) h d (run-d.agree t s m n) e in
      let l = run-d.long t m in
      (omega (arith, mark_le s.entry.whole), omega arith)

  falling_parts : Falling (ends_as d false) ts
  falling_parts = pairs_map Upto _ ts (λ t s m n h e. go t s m n h (ends_is d false s e)) run-d.ordered
    where
      go : (t s : Tail) → Mem t ts → Mem s ts → Upto t s → (length s.entry.path ≡ d) × (s.entry.whole ≡ false) → ends_as d false t ≡ true
      go t s m n h k =
          let b = ends_before t s m n h k.0 in
          let z : mark_of s.entry.whole ≡ 0 = ap mark_of k.1 in
          is_ends d false t b.0 (whole_none t.entry.whole (omega arith))

  falling_wholes : Falling (ends_as d true) (keep (λ t. not (ends_as d false t)) ts)
  falling_wholes = pairs_map Upto _ us (λ t s m n h e. go t s (keep_mem not_part ts m) (keep_mem not_part ts n) h (ends_is d true s e)) (pairs_keep Upto not_part ts run-d.ordered)
    where
      not_part : Tail → Bool
      not_part t = not (ends_as d false t)

      us : List Tail
      us = keep not_part ts

      whole : (t : Tail) → length t.entry.path ≡ d → not (ends_as d false t) ≡ true → (w : Bool) → t.entry.whole ≡ w → w ≡ true
      whole t p e true q = refl
      whole t p e false q = clash (sym e ∙ ap not (is_ends d false t p q))

      go : (t s : Tail) → Kept not_part ts t → Kept not_part ts s → Upto t s → (length s.entry.path ≡ d) × (s.entry.whole ≡ true) → ends_as d true t ≡ true
      go t s m n h k =
          let b = ends_before t s m.listed n.listed h k.0 in
          is_ends d true t b.0 (whole t b.0 m.passes t.entry.whole refl)

  -- ── what each run holds ──

  pub parts_here : run (ends_as d false) ts ≡ keep (ends_as d false) ts
  parts_here = run_keep (ends_as d false) ts falling_parts

  pub wholes_here : run (ends_as d true) (after_run (ends_as d false) ts) ≡ keep (ends_as d true) ts
  wholes_here =
      ap (run (ends_as d true)) (after_keep (ends_as d false) ts falling_parts)
      ∙ run_keep (ends_as d true) (keep (λ t. not (ends_as d false t)) ts) falling_wholes
      ∙ keep_keep (ends_as d true) (λ t. not (ends_as d false t)) ts
      ∙ keep_ext (λ t. not (ends_as d false t) && ends_as d true t) (ends_as d true) ts (λ t m. go (eqb (length t.entry.path) d) t.entry.whole)
    where
      go : (o w : Bool) → not (o && not w) && (o && w) ≡ o && w
      go true true = refl
      go true false = refl
      go false w = refl

  pub below_here : below d ts ≡ keep (longer d) ts
  below_here =
      ap (after_run (ends_as d true)) (after_keep (ends_as d false) ts falling_parts)
      ∙ after_keep (ends_as d true) (keep (λ t. not (ends_as d false t)) ts) falling_wholes
      ∙ keep_keep (λ t. not (ends_as d true t)) (λ t. not (ends_as d false t)) ts
      ∙ keep_ext (λ t. not (ends_as d false t) && not (ends_as d true t)) (longer d) ts (λ t m. go (eqb (length t.entry.path) d) t.entry.whole)
    where
      go : (o w : Bool) → not (o && not w) && not (o && w) ≡ not o
      go true true = refl
      go true false = refl
      go false w = refl

  -- the longer ones stand by their next byte
  pub bytes_upto : Pairs (λ t s. byte_at d t ≤ byte_at d s) ts
  bytes_upto = pairs_map Upto _ ts (λ t s m n h. byte_upto t s (run-d.sound t m) (run-d.sound s n) h d (run-d.agree t s m n)) run-d.ordered

  -- those that go on with one byte share that byte too
  pub run_goes : (b : ℕ) → Run (suc d) (keep (goes d b) ts)
  run_goes b = record {
    ordered = pairs_keep Upto (goes d b) ts run-d.ordered;
    sound = λ t m. run-d.sound t (keep_mem (goes d b) ts m).listed;
    long = λ t m. long t (keep_mem (goes d b) ts m);
    agree = λ t s m n. agree t s (keep_mem (goes d b) ts m) (keep_mem (goes d b) ts n);
  }
    where
      long : (t : Tail) → Kept (goes d b) ts t → suc d ≤ length t.entry.path
      long t k =
          let ne : ¬ (length t.entry.path ≡ d) = longer_is d t (goes_is d b t k.passes).0 in
          omega (arith, run-d.long t k.listed)

      agree : (t s : Tail) → Kept (goes d b) ts t → Kept (goes d b) ts s → Agree (suc d) t.entry.path s.entry.path
      agree t s k l = agree_next d t.entry.path s.entry.path (run-d.agree t s k.listed l.listed) ((goes_is d b t k.passes).1 ∙ sym (goes_is d b s l.passes).1)

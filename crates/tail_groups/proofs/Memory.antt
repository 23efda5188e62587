-- Tails in memory: what is written is read back, what lies elsewhere is as it was, a part stands in the whole. Assumes nothing.
use Prim.Native.Nat.{ℕ, zero, suc, ◌+◌, ◌-◌, ◌*◌, ◌≤◌, ◌<◌}
use native.Mathlib.Omega.{arith}
use mathlib.Core.Path.{◌≡◌, refl, sym, ap, subst, ◌∙◌}
use mathlib.Core.List.Memᴰ.{append_right}
use mathlib.Core.List.Memᴰ.{head as here}
use mathlib.Core.List.{List, [], ◌∷◌, ◌++◌, Memᴰ as Mem}
use lib.ListN.{length, get_or}
use lib.Seq.{sets}
use Rattle.records.specs.Records.{record_at, records, records_bytes}
use Rattle.records.proofs.Bytes.{length_records, record_at_ext, records_ext, records_sets, records_append, get_or_records}
use Rattle.records.proofs.Lists.{get_or_mem}
use Rattle.tails.specs.Tails.{Tail, tail_record, tail_records}
use Rattle.tail_words.specs.Tail.{tail_of_record, tails_of, record_in, tail_in, tails_in, ValidTail, ValidRecord, Held}
use Rattle.tail_groups.proofs.Tail.{tails_read, tails_valid, valid_fits}

-- ── lists of tails ──

pub length_tails_of : (rs : List (List ℕ)) → length (tails_of rs) ≡ length rs
length_tails_of [] = refl
length_tails_of (r ∷ rs) = ap suc (length_tails_of rs)

pub length_tail_records : (ts : List Tail) → length (tail_records ts) ≡ length ts
length_tail_records [] = refl
length_tail_records (t ∷ ts) = ap suc (length_tail_records ts)

pub tails_of_append : (rs ss : List (List ℕ)) → tails_of (rs ++ ss) ≡ tails_of rs ++ tails_of ss
tails_of_append [] ss = refl
tails_of_append (r ∷ rs) ss = ap (λ (ts : List Tail). tail_of_record r ∷ ts) (tails_of_append rs ss)

-- ── none, one more, a part ──

module _ (s : List ℕ) (work : ℕ) where
  pub tails_none : (lo hi : ℕ) → hi ≤ lo → tails_in s work lo hi ≡ []
  unfolding tails_in records
  tails_none lo hi h =
      let e : hi - lo ≡ 0 = omega arith in
      rw e

  pub tails_step : (lo hi : ℕ) → lo < hi → tails_in s work lo hi ≡ tail_in s work lo ∷ tails_in s work (lo + 1) hi
  unfolding tails_in records
  tails_step lo hi h =
      let e : hi - lo ≡ suc (hi - (lo + 1)) = omega arith in
      let f : work + 56 * lo + 8 * 7 ≡ work + 56 * (lo + 1) = omega arith in
      rw e (ap (λ (p : ℕ). tail_in s work lo ∷ tails_of (records 7 (hi - (lo + 1)) s p)) f)

  pub tails_length : (lo hi : ℕ) → length (tails_in s work lo hi) ≡ hi - lo
  unfolding tails_in
  tails_length lo hi = length_tails_of (records 7 (hi - lo) s (work + 56 * lo)) ∙ length_records 7 (hi - lo) s (work + 56 * lo)

  -- split at a middle
  pub tails_split : (lo mid hi : ℕ) → lo ≤ mid → mid ≤ hi → tails_in s work lo hi ≡ tails_in s work lo mid ++ tails_in s work mid hi
  unfolding tails_in
  tails_split lo mid hi h k =
      let e : hi - lo ≡ (mid - lo) + (hi - mid) = omega arith in
      let f : work + 56 * lo + 8 * ((mid - lo) * 7) ≡ work + 56 * mid = omega arith in
      rw (e, records_append 7 (mid - lo) (hi - mid) s (work + 56 * lo), f) (tails_of_append (records 7 (mid - lo) s (work + 56 * lo)) (records 7 (hi - mid) s (work + 56 * mid)))

-- each tail is a member
pub tails_mem : (s : List ℕ) (work lo hi i : ℕ) → lo ≤ i → i < hi → Mem (tail_in s work i) (tails_in s work lo hi)
tails_mem s work lo hi i a b =
    let e : tails_in s work lo hi ≡ tails_in s work lo i ++ (tail_in s work i ∷ tails_in s work (i + 1) hi) =
    tails_split s work lo i hi a (omega arith) ∙ ap (λ (ts : List Tail). tails_in s work lo i ++ ts) (tails_step s work i hi b) in
    subst (λ (ts : List Tail). Mem (tail_in s work i) ts) (sym e) (append_right (tails_in s work lo i) (here refl))

-- ── what lies elsewhere is as it was ──

module _ (s s' : List ℕ) (work lo hi : ℕ) (same : (k : ℕ) → work + 56 * lo ≤ k → k < work + 56 * hi → get_or s' k 0 ≡ get_or s k 0) where
  pub tails_ext : tails_in s' work lo hi ≡ tails_in s work lo hi
  unfolding tails_in
  tails_ext = ap tails_of (records_ext 7 (hi - lo) s' s (work + 56 * lo) (λ k a b. same k a (omega arith)))

  pub record_ext : (i : ℕ) → lo ≤ i → i < hi → record_in s' work i ≡ record_in s work i
  record_ext i a b = record_at_ext 7 s' s (work + 56 * i) (λ k l m. same k (omega arith) (omega arith))

  pub held_ext : Held s work lo hi → Held s' work lo hi
  held_ext v = record { each = λ i a b. subst ValidRecord (sym (record_ext i a b)) (v.each i a b) }

-- a part of what is held
pub held_part : {s : List ℕ} {work lo hi : ℕ} (lo' hi' : ℕ) → Held s work lo hi → lo ≤ lo' → hi' ≤ hi → Held s work lo' hi'
held_part lo' hi' v a b = record { each = λ i l m. v.each i (omega arith) (omega arith) }

-- ── what is written is read back ──

module _ (s : List ℕ) (work lo hi at : ℕ) (rs : List (List ℕ)) (v : (r : List ℕ) → Mem r rs → ValidRecord r)
    (start : at ≡ work + 56 * lo) (end : hi ≡ lo + length rs) (room : at + 56 * length rs ≤ length s) where
  read : records 7 (hi - lo) (sets s at (records_bytes rs)) (work + 56 * lo) ≡ rs
  read =
      let e : length rs ≡ hi - lo = omega arith in
      rw (← start) (records_sets 7 (hi - lo) rs s at e (λ r m. valid_fits (v r m)) (omega arith))

  pub records_read : tails_in (sets s at (records_bytes rs)) work lo hi ≡ tails_of rs
  unfolding tails_in
  records_read = ap tails_of read

  pub records_held : Held (sets s at (records_bytes rs)) work lo hi
  records_held = record { each = λ i a b. subst ValidRecord (sym (is i a b)) (v (get_or rs (i - lo) []) (get_or_mem rs (i - lo) (omega arith))) }
    where
      is : (i : ℕ) → lo ≤ i → i < hi → record_in (sets s at (records_bytes rs)) work i ≡ get_or rs (i - lo) []
      is i a b =
          let e : work + 56 * lo + 8 * ((i - lo) * 7) ≡ work + 56 * i = omega arith in
          sym (get_or_records 7 (hi - lo) (sets s at (records_bytes rs)) (work + 56 * lo) (i - lo) (omega arith) ∙ ap (record_at 7 (sets s at (records_bytes rs))) e)
          ∙ ap (λ (qs : List (List ℕ)). get_or qs (i - lo) []) read

module _ (s : List ℕ) (work lo hi at : ℕ) (ts : List Tail) (v : (t : Tail) → Mem t ts → ValidTail t)
    (start : at ≡ work + 56 * lo) (end : hi ≡ lo + length ts) (room : at + 56 * length ts ≤ length s) where
  pub tails_written : tails_in (sets s at (records_bytes (tail_records ts))) work lo hi ≡ ts
  tails_written =
      let e : length (tail_records ts) ≡ length ts = length_tail_records ts in
      records_read s work lo hi at (tail_records ts) (tails_valid ts v) start (omega arith) (omega arith) ∙ tails_read ts v

  pub held_written : Held (sets s at (records_bytes (tail_records ts))) work lo hi
  held_written =
      let e : length (tail_records ts) ≡ length ts = length_tail_records ts in
      records_held s work lo hi at (tail_records ts) (tails_valid ts v) start (omega arith) (omega arith)

-- ── records that are held are those of their tails ──

held_list : (n : ℕ) (s : List ℕ) (p : ℕ) → ((i : ℕ) → i < n → ValidRecord (record_at 7 s (p + 56 * i))) → records 7 n s p ≡ tail_records (tails_of (records 7 n s p))
unfolding records
held_list zero s p h = refl
held_list (suc n) s p h =
    let z : p + 56 * 0 ≡ p = omega arith in
    let a : record_at 7 s p ≡ tail_record (tail_of_record (record_at 7 s p)) = (subst (λ (q : ℕ). ValidRecord (record_at 7 s q)) z (h 0 (omega arith))).same in
    let r = held_list n s (p + 8 * 7) (λ i l. subst (λ (q : ℕ). ValidRecord (record_at 7 s q)) (next i) (h (suc i) (omega arith))) in
    cc
  where
    next : (i : ℕ) → p + 56 * suc i ≡ p + 8 * 7 + 56 * i
    next i = omega arith

pub held_records : {s : List ℕ} {work lo hi : ℕ} → Held s work lo hi → records 7 (hi - lo) s (work + 56 * lo) ≡ tail_records (tails_in s work lo hi)
unfolding tails_in
held_records {s} {work} {lo} {hi} v =
    held_list (hi - lo) s (work + 56 * lo) (λ i l. subst (λ (q : ℕ). ValidRecord (record_at 7 s q)) (at i) (v.each (lo + i) (omega arith) (omega arith)))
  where
    at : (i : ℕ) → work + 56 * (lo + i) ≡ work + 56 * lo + 56 * i
    at i = omega arith

-- The tails of a log, written and then sorted: what the work area holds. Assumes nothing.
use Prim.Native.Nat.{ℕ, zero, suc, ◌+◌, ◌*◌, ◌^◌, ◌≤◌, ◌<◌}
use native.Mathlib.Omega.{arith}
use mathlib.Core.Path.{◌≡◌, sym, ap, subst, ◌∙◌}
use mathlib.Core.Logic.{◌⊎◌}
use mathlib.Core.List.Memᴰ.{head as here}
use mathlib.Core.List.Memᴰ.{not-nil}
use mathlib.Core.List.Memᴰ.{tail as later}
use mathlib.Core.List.{List, ◌∷◌, Memᴰ as Mem}
use lib.ListN.{length, get_or}
use lib.Seq.{sets, length-sets}
use Rattle.words.proofs.Laws.{Outside}
use Rattle.words.proofs.Parts.{get_or_sets_out}
use Rattle.records.specs.Records.{records, records_bytes, sorted}
use Rattle.records.proofs.Bytes.{Bytes, length_records, length_record_at, length_records_bytes}
use Rattle.records.proofs.Lists.{sorted_mem, length_sorted}
use Rattle.trie.specs.Build.{entered_all}
use Rattle.index_memory.specs.Log.{log_in}
use Rattle.tails.specs.Tails.{Tail, numbered, tail_records}
use Rattle.tail_words.specs.Tail.{tails_in, Held}
use Rattle.tail_groups.proofs.Memory.{length_tail_records}
use Rattle.tail_groups.proofs.Results.{length_numbered, expanded_tails, expanded_held, sorted_tails, sorted_held}
use Rattle.finishing.specs.Steps.{tail_count, TailsAsked, TailsSorted}

-- a record of a tail has seven numbers
seven : {r : List ℕ} (ts : List Tail) → Mem r (tail_records ts) → length r ≡ 7
seven {r = r} mathlib.Core.List.[] x' = elim x' [ ]
seven (t ∷ ts) (here e) = ap length e
seven (t ∷ ts) (later m) = seven ts m

read_length : (w n : ℕ) (s : List ℕ) (at : ℕ) (r : List ℕ) → Mem r (records w n s at) → length r ≡ w
unfolding records
read_length w zero s at r m = absurd (not-nil m)
read_length w (suc n) s at r (here e) = ap length e ∙ length_record_at w s at
read_length w (suc n) s at r (later m) = read_length w n s (at + 8 * w) r m

module _ (s s₁ s₂ : List ℕ) (pieces work n : ℕ) (b : Bytes s) (small : length s ≤ 2 ^ 64) (a : TailsAsked s pieces work) (count : n ≡ tail_count s pieces)
    (first : s₁ ≡ sets s work (records_bytes (tail_records (numbered 0 (entered_all (log_in s pieces 64))))))
    (then : s₂ ≡ sets s₁ work (records_bytes (sorted (records 7 n s₁ work)))) where
  abbrev all : List Tail
  all = numbered 0 (entered_all (log_in s pieces 64))

  tails : tails_in s₁ work 0 n ≡ all
  tails = expanded_tails s s₁ pieces work n b a.sound a.before a.room small count first

  held : Held s₁ work 0 n
  held = expanded_held s s₁ pieces work n b a.sound a.before a.room small count first

  first_length : length s₁ ≡ length s
  first_length = ap length first ∙ length-sets s work (records_bytes (tail_records all))

  room : work + 56 * n ≤ length s₁
  room = omega (arith, a.room, first_length)

  first_bytes : length (records_bytes (tail_records all)) ≡ 56 * n
  first_bytes =
      length_records_bytes 7 (tail_records all) (λ r m. seven all m)
      ∙ omega (arith, length_tail_records all, length_numbered 0 (entered_all (log_in s pieces 64)))

  then_bytes : length (records_bytes (sorted (records 7 n s₁ work))) ≡ 56 * n
  then_bytes =
      length_records_bytes 7 (sorted (records 7 n s₁ work)) (λ r m. read_length 7 n s₁ work r (sorted_mem r (records 7 n s₁ work) m))
      ∙ omega (arith, length_sorted (records 7 n s₁ work), length_records 7 n s₁ work)

  kept : (k : ℕ) → (k < work) ⊎ (work + 56 * n ≤ k) → get_or s₂ k 0 ≡ get_or s k 0
  kept k o =
      ap (λ (x : List ℕ). get_or x k 0) then ∙ get_or_sets_out (records_bytes (sorted (records 7 n s₁ work))) s₁ work k (subst (λ (l : ℕ). Outside l work k) (sym then_bytes) o)
      ∙ ap (λ (x : List ℕ). get_or x k 0) first ∙ get_or_sets_out (records_bytes (tail_records all)) s work k (subst (λ (l : ℕ). Outside l work k) (sym first_bytes) o)

  pub tails_sorted : TailsSorted s s₂ pieces work n
  tails_sorted = record {
    count = count;
    tails = sorted_tails s₁ s₂ work n held room then ∙ ap (λ (ts : List Tail). sorted (tail_records ts)) tails;
    held = sorted_held s₁ s₂ work n held room then;
    long = ap length then ∙ length-sets s₁ work (records_bytes (sorted (records 7 n s₁ work))) ∙ first_length;
    kept = kept;
  }

-- Locations sorted, each once, with their count before them: a list of the image. Assumes nothing.
use Prim.Native.Nat.{ℕ, zero, suc, ◌+◌, ◌*◌, ◌≤◌, ◌<◌}
use native.Mathlib.Omega.{arith}
use mathlib.Core.Path.{◌≡◌, refl, sym, ap, subst, ◌∙◌}
use mathlib.Core.Logic.{◌⊎◌, inl, inr}
use mathlib.Core.List.{List}
use lib.ListN.{length, get_or}
use lib.Seq.{sets, length-sets}
use Rattle.words.specs.Words.{set_le64, bytes64}
use Rattle.words.specs.Holding.{Holds}
use Rattle.words.proofs.Laws.{length_set_le64, get_or_set_le64}
use Rattle.words.proofs.Parts.{get_or_sets_out, set_le64_sets, length_bytes64}
use Rattle.words.proofs.Holding.{holds_append, holds_ext, holds_sets}
use Rattle.records.specs.Records.{records, records_bytes, sorted, drop_repeats, drop_after, Ordered}
use Rattle.records.proofs.Bytes.{Bytes, length_records}
use Rattle.records.proofs.Lists.{length_drop_repeats, sorted_fixed}
use Rattle.records.proofs.Compare.{is_ordered_lem, ordered_few}
use Rattle.sort.proofs.Finish.{sort_ready}
use Rattle.sort.proofs.Results.{length_sorted_bytes, length_drop_repeats_bytes, records_after_sort, records_after_drop}
use Rattle.definitions.specs.Location.{Location, normal, locations_in, locations_bytes}
use Rattle.place_buffer.proofs.Triples.{triples_path, length_triples, normal_triples}
use Rattle.place_lookup.proofs.Triples.{triples, records_triples}
use Rattle.image_format.specs.Image.{list_bytes}
use Rattle.image_format.proofs.BytesRead.{locs_read}
use Rattle.list_closing.specs.Closed.{Closed}

module _ (s s₁ s₂ s₃ : List ℕ) (at n k : ℕ) (b : Bytes s) (b₁ : Bytes s₁) (b₂ : Bytes s₂) (fits : at + 8 + 24 * n ≤ length s)
    (e₁ : s₁ ≡ sets s (at + 8) (records_bytes (sorted (records 3 n s (at + 8)))))
    (e₂ : s₂ ≡ sets s₁ (at + 8) (records_bytes (drop_repeats (records 3 n s₁ (at + 8)))))
    (ek : k ≡ length (drop_repeats (records 3 n s₁ (at + 8))))
    (e₃ : s₃ ≡ set_le64 s₂ at k) where
  long : length s₁ ≡ length s
  long = ap length e₁ ∙ length-sets s (at + 8) (records_bytes (sorted (records 3 n s (at + 8))))

  long₂ : length s₂ ≡ length s₁
  long₂ = ap length e₂ ∙ length-sets s₁ (at + 8) (records_bytes (drop_repeats (records 3 n s₁ (at + 8))))

  -- the records kept are the set of places
  kept : drop_repeats (records 3 n s₁ (at + 8)) ≡ triples (normal (locations_in s n (at + 8)))
  kept =
      let a : records 3 n s₁ (at + 8) ≡ sorted (records 3 n s (at + 8)) = ap (λ (x : List ℕ). records 3 n x (at + 8)) e₁ ∙ records_after_sort 3 n s (at + 8) b (omega arith) in
      ap drop_repeats a ∙ ap (λ (x : List (List ℕ)). drop_repeats (sorted x)) (records_triples n s (at + 8)) ∙ normal_triples (locations_in s n (at + 8))

  size : k ≡ length (normal (locations_in s n (at + 8)))
  size = ek ∙ ap length kept ∙ length_triples (normal (locations_in s n (at + 8)))

  pub closed_few : k ≤ n
  closed_few = omega (arith, length_drop_repeats (records 3 n s₁ (at + 8)), length_records 3 n s₁ (at + 8))

  places : locations_in s₂ k (at + 8) ≡ normal (locations_in s n (at + 8))
  places =
      let a : records 3 k s₂ (at + 8) ≡ drop_repeats (records 3 n s₁ (at + 8)) = ap (λ (x : List ℕ). records 3 k x (at + 8)) e₂ ∙ records_after_drop 3 n s₁ (at + 8) b₁ k ek (omega (arith, long)) in
      triples_path (locations_in s₂ k (at + 8)) (normal (locations_in s n (at + 8))) (sym (records_triples k s₂ (at + 8)) ∙ a ∙ kept)

  -- the count, and behind it the locations
  count_stands : Holds s₃ at (bytes64 k)
  count_stands =
      subst (λ (x : List ℕ). Holds x at (bytes64 k)) (sym (e₃ ∙ set_le64_sets s₂ at k)) (holds_sets (bytes64 k) s₂ at (omega (arith, length_bytes64 k, long, long₂)))

  places_stand : Holds s₃ (at + 8) (locations_bytes (normal (locations_in s n (at + 8))))
  places_stand =
      holds_ext s₂ s₃ (at + 8) (locations_bytes (normal (locations_in s n (at + 8))))
      (λ j x y. ap (λ (z : List ℕ). get_or z j 0) e₃ ∙ get_or_set_le64 s₂ at k j (inr x))
      (subst (λ (ls : List Location). Holds s₂ (at + 8) (locations_bytes ls)) places (locs_read s₂ k (at + 8) b₂))

  away : (j : ℕ) → (j < at) ⊎ (at + 8 + 24 * n ≤ j) → get_or s₃ j 0 ≡ get_or s j 0
  away j o =
      ap (λ (x : List ℕ). get_or x j 0) e₃ ∙ get_or_set_le64 s₂ at k j (third o) ∙ ap (λ (x : List ℕ). get_or x j 0) e₂
      ∙ get_or_sets_out (records_bytes (drop_repeats (records 3 n s₁ (at + 8)))) s₁ (at + 8) j (second o) ∙ ap (λ (x : List ℕ). get_or x j 0) e₁
      ∙ get_or_sets_out (records_bytes (sorted (records 3 n s (at + 8)))) s (at + 8) j (first o)
    where
      first : (j < at) ⊎ (at + 8 + 24 * n ≤ j) → (j < at + 8) ⊎ (at + 8 + length (records_bytes (sorted (records 3 n s (at + 8)))) ≤ j)
      first (inl h) = inl (omega arith)
      first (inr h) = inr (omega (arith, length_sorted_bytes 3 n s (at + 8) b))

      second : (j < at) ⊎ (at + 8 + 24 * n ≤ j) → (j < at + 8) ⊎ (at + 8 + length (records_bytes (drop_repeats (records 3 n s₁ (at + 8)))) ≤ j)
      second (inl h) = inl (omega arith)
      second (inr h) = inr (omega (arith, length_drop_repeats_bytes 3 n s₁ (at + 8) b₁, closed_few, ek))

      third : (j < at) ⊎ (at + 8 + 24 * n ≤ j) → (j < at) ⊎ (at + 8 ≤ j)
      third (inl h) = inl h
      third (inr h) = inr (omega arith)

  pub closed : Closed s s₃ at n (locations_in s n (at + 8)) k
  unfolding list_bytes
  closed = record {
    count = size;
    few = closed_few;
    bytes =
        holds_append s₃ at 8 (bytes64 (length (normal (locations_in s n (at + 8))))) (locations_bytes (normal (locations_in s n (at + 8))))
        (length_bytes64 (length (normal (locations_in s n (at + 8))))) (subst (λ (x : ℕ). Holds s₃ at (bytes64 x)) size count_stands) places_stand;
    long = ap length e₃ ∙ length_set_le64 s₂ at k ∙ long₂ ∙ long;
    away = away;
  }

-- one location, or none, is a list as it stands
few_records : (n : ℕ) (s : List ℕ) (p : ℕ) → n ≤ 1 → drop_repeats (records 3 n s p) ≡ records 3 n s p
unfolding records drop_repeats drop_after
few_records zero s p h = refl
few_records (suc zero) s p h = refl
few_records (suc (suc n)) s p h = absurd (omega arith)

pub closed_few_places : (s s₃ : List ℕ) (at n : ℕ) → Bytes s → at + 8 + 24 * n ≤ length s → n ≤ 1 → s₃ ≡ set_le64 s at n → Closed s s₃ at n (locations_in s n (at + 8)) n
closed_few_places s s₃ at n b fits few e =
    let o : Ordered (records 3 n s (at + 8)) = is_ordered_lem (records 3 n s (at + 8)) (ordered_few 3 n s (at + 8) few) in
    let e₁ = sort_ready 3 n s (at + 8) b (omega arith) o in
    let d = few_records n s (at + 8) few in
    let e₂ = e₁ ∙ ap (λ (rs : List (List ℕ)). sets s (at + 8) (records_bytes rs)) (sorted_fixed (records 3 n s (at + 8)) o ∙ sym d) in
    closed s s s s₃ at n n b b b fits e₁ e₂ (sym (ap length d ∙ length_records 3 n s (at + 8))) e

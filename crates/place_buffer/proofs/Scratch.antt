-- Places in scratch: what is kept of them, one more behind them, and what `sort` and `drop_repeats` leave. Assumes nothing.
use Prim.Native.Nat.{ℕ, zero, suc, ◌+◌, ◌-◌, ◌*◌, ◌≤◌, ◌<◌}
use native.Mathlib.Omega.{arith}
use mathlib.Core.Path.{◌≡◌, refl, sym, ap, subst, ◌∙◌}
use mathlib.Core.Logic.{◌⊎◌, inl, inr}
use mathlib.Core.List.{List, [], ◌∷◌, ◌++◌}
use lib.ListN.{length, get_or}
use lib.Seq.{sets, length-sets}
use Rattle.words.specs.Words.{le_n, le64}
use Rattle.words.proofs.Laws.{le64_ext}
use Rattle.words.proofs.Parts.{get_or_sets_out}
use Rattle.records.specs.Records.{records, records_bytes, sorted, drop_repeats}
use Rattle.records.proofs.Bytes.{Bytes, length_records, records_ext}
use Rattle.records.proofs.Lists.{length_drop_repeats}
use Rattle.sort.proofs.Results.{length_sorted_bytes, length_drop_repeats_bytes, records_after_sort, records_after_drop}
use Rattle.definitions.specs.Location.{Location, normal, location_at, location_bytes, locations_in}
use Rattle.definitions.proofs.Order.{location_path, length_normal}
use Rattle.definitions.proofs.Locations.{length_locations, locations_snoc}
use Rattle.location.specs.Fits.{Fits}
use Rattle.location.proofs.Bytes.{location_written}
use Rattle.place_buffer.specs.Scratch.{Tidied}
use Rattle.place_buffer.proofs.Triples.{triples_path, length_triples, normal_triples}
use Rattle.place_lookup.proofs.Triples.{triples, records_triples}

-- the same bytes are the same places
pub location_ext : (s s' : List ℕ) (at : ℕ) → ((k : ℕ) → at ≤ k → k < at + 24 → get_or s k 0 ≡ get_or s' k 0) → location_at s at ≡ location_at s' at
location_ext s s' at h =
    location_path
    (le64_ext s s' at (λ k a b. h k a (omega arith)))
    (le64_ext s s' (at + 8) (λ k a b. h k (omega arith) (omega arith)))
    (le64_ext s s' (at + 16) (λ k a b. h k (omega arith) (omega arith)))

pub locations_ext : (n : ℕ) (s s' : List ℕ) (at : ℕ) → ((k : ℕ) → at ≤ k → k < at + n * 24 → get_or s k 0 ≡ get_or s' k 0) → locations_in s n at ≡ locations_in s' n at
locations_ext n s s' at h =
    triples_path (locations_in s n at) (locations_in s' n at)
    (sym (records_triples n s at) ∙ records_ext 3 n s s' at (λ k a b. h k a (omega arith)) ∙ records_triples n s' at)

-- and so are the same bytes elsewhere
le_n_moved : (n : ℕ) (s s' : List ℕ) (at at' : ℕ) → ((k : ℕ) → k < n → get_or s (at + k) 0 ≡ get_or s' (at' + k) 0) → le_n n s at ≡ le_n n s' at'
unfolding le_n
le_n_moved zero s s' at at' h = refl
le_n_moved (suc n) s s' at at' h =
    let a : at + 0 ≡ at = omega arith in
    let b : at' + 0 ≡ at' = omega arith in
    let first : get_or s at 0 ≡ get_or s' at' 0 = rw (a, b) at (h 0 (omega arith)) in
    let rest = le_n_moved n s s' (at + 1) (at' + 1) (λ k l. next k (omega arith)) in
    cc
  where
    next : (k : ℕ) → k < n → get_or s (at + 1 + k) 0 ≡ get_or s' (at' + 1 + k) 0
    next k l =
        let a : at + 1 + k ≡ at + suc k = omega arith in
        let b : at' + 1 + k ≡ at' + suc k = omega arith in
        rw (a, b) (h (suc k) (omega arith))

le64_moved : (s s' : List ℕ) (at at' : ℕ) → ((k : ℕ) → k < 8 → get_or s (at + k) 0 ≡ get_or s' (at' + k) 0) → le64 s at ≡ le64 s' at'
unfolding le64
le64_moved s s' at at' h = le_n_moved 8 s s' at at' h

pub locations_moved : (n : ℕ) (s s' : List ℕ) (at at' : ℕ) → ((k : ℕ) → k < n * 24 → get_or s (at + k) 0 ≡ get_or s' (at' + k) 0) → locations_in s n at ≡ locations_in s' n at'
unfolding locations_in
locations_moved zero s s' at at' h = refl
locations_moved (suc n) s s' at at' h =
    let first : location_at s at ≡ location_at s' at' =
    location_path
    (le64_moved s s' at at' (λ k l. h k (omega arith)))
    (le64_moved s s' (at + 8) (at' + 8) (λ k l. further 8 k (omega arith)))
    (le64_moved s s' (at + 16) (at' + 16) (λ k l. further 16 k (omega arith))) in
    let rest = locations_moved n s s' (at + 24) (at' + 24) (λ k l. further 24 k (omega arith)) in
    rw (first, rest)
  where
    further : (i k : ℕ) → i + k < suc n * 24 → get_or s (at + i + k) 0 ≡ get_or s' (at' + i + k) 0
    further i k l =
        let a : at + i + k ≡ at + (i + k) = omega arith in
        let b : at' + i + k ≡ at' + (i + k) = omega arith in
        rw (a, b) (h (i + k) l)

-- l written behind n places
pub locations_written : (n : ℕ) (s : List ℕ) (at : ℕ) (l : Location) → Fits l → at + n * 24 + 24 ≤ length s
    → locations_in (sets s (at + n * 24) (location_bytes l)) (n + 1) at ≡ locations_in s n at ++ (l ∷ [])
locations_written n s at l f h =
    let s' = sets s (at + n * 24) (location_bytes l) in
    let a : locations_in s' n at ≡ locations_in s n at = locations_ext n s' s at (λ k a b. get_or_sets_out (location_bytes l) s (at + n * 24) k (inl b)) in
    let b : location_at s' (at + n * 24) ≡ l = location_written s (at + n * 24) l f h in
    locations_snoc n s' at ∙ rw (a, b) refl

-- ── sorted, then without repeats ──

module _ (s s₁ s₂ : List ℕ) (base count k : ℕ) (b : Bytes s) (b₁ : Bytes s₁) (le : base ≤ count) (fits : count * 24 ≤ length s)
    (e₁ : s₁ ≡ sets s (base * 24) (records_bytes (sorted (records 3 (count - base) s (base * 24)))))
    (e₂ : s₂ ≡ sets s₁ (base * 24) (records_bytes (drop_repeats (records 3 (count - base) s₁ (base * 24)))))
    (ek : k ≡ length (drop_repeats (records 3 (count - base) s₁ (base * 24)))) where
  n : ℕ
  n = count - base

  at : ℕ
  at = base * 24

  ls : List Location
  ls = locations_in s (count - base) (base * 24)

  long : length s₁ ≡ length s
  long = ap length e₁ ∙ length-sets s (base * 24) (records_bytes (sorted (records 3 (count - base) s (base * 24))))

  long₂ : length s₂ ≡ length s₁
  long₂ = ap length e₂ ∙ length-sets s₁ (base * 24) (records_bytes (drop_repeats (records 3 (count - base) s₁ (base * 24))))

  -- the records kept are the set of places
  kept : drop_repeats (records 3 n s₁ at) ≡ triples (normal ls)
  unfolding n at ls
  kept =
      let a : records 3 n s₁ at ≡ sorted (records 3 n s at) = ap (λ (x : List ℕ). records 3 n x at) e₁ ∙ records_after_sort 3 n s at b (omega arith) in
      ap drop_repeats a ∙ ap (λ (x : List (List ℕ)). drop_repeats (sorted x)) (records_triples n s at) ∙ normal_triples ls

  size : k ≡ length (normal ls)
  unfolding n at
  size = ek ∙ ap length kept ∙ length_triples (normal ls)

  few : k ≤ count - base
  unfolding n
  few = omega (arith, length_drop_repeats (records 3 (count - base) s₁ (base * 24)), length_records 3 (count - base) s₁ (base * 24))

  places : locations_in s₂ k at ≡ normal ls
  unfolding n at
  places =
      let a : records 3 k s₂ at ≡ drop_repeats (records 3 n s₁ at) = ap (λ (x : List ℕ). records 3 k x at) e₂ ∙ records_after_drop 3 n s₁ at b₁ k ek (omega (arith, long)) in
      triples_path (locations_in s₂ k at) (normal ls) (sym (records_triples k s₂ at) ∙ a ∙ kept)

  away : (j : ℕ) → (j < base * 24) ⊎ (count * 24 ≤ j) → get_or s₂ j 0 ≡ get_or s j 0
  unfolding n at
  away j o =
      let rs = sorted (records 3 n s at) in
      let ds = drop_repeats (records 3 n s₁ at) in
      ap (λ (x : List ℕ). get_or x j 0) e₂ ∙ get_or_sets_out (records_bytes ds) s₁ at j (second o) ∙ ap (λ (x : List ℕ). get_or x j 0) e₁
      ∙ get_or_sets_out (records_bytes rs) s at j (first o)
    where
      first : (j < base * 24) ⊎ (count * 24 ≤ j) → (j < at) ⊎ (at + length (records_bytes (sorted (records 3 n s at))) ≤ j)
      first (inl h) = inl h
      first (inr h) = inr (omega (arith, length_sorted_bytes 3 (count - base) s (base * 24) b))

      second : (j < base * 24) ⊎ (count * 24 ≤ j) → (j < at) ⊎ (at + length (records_bytes (drop_repeats (records 3 n s₁ at))) ≤ j)
      second (inl h) = inl h
      second (inr h) = inr (omega (arith, length_drop_repeats_bytes 3 (count - base) s₁ (base * 24) b₁, few, ek))

  pub tidied : Tidied s s₂ base count (base + k)
  unfolding at ls
  tidied = record {
    next = ap (λ (x : ℕ). base + x) size;
    places = subst (λ (x : ℕ). locations_in s₂ x at ≡ normal ls) size places;
    same_length = long₂ ∙ long;
    before = λ j h. away j (inl h);
    behind = λ j h. away j (inr h);
  }

pub tidied_le : {s s' : List ℕ} {base count r : ℕ} → Tidied s s' base count r → base ≤ count → r ≤ count
tidied_le {s} {s'} {base} {count} t le =
    omega (arith, t.next, length_normal (locations_in s (count - base) (base * 24)), length_locations (count - base) s (base * 24))

-- A memory in which the image stands and that is closed is that of a finished index. Assumes nothing.
use Prim.Native.Nat.{ℕ, ◌+◌, ◌-◌, ◌≤◌, ◌<◌}
use native.Mathlib.Omega.{arith}
use mathlib.Core.Path.{◌≡◌, refl, sym, ◌∙◌, subst}
use mathlib.Core.Logic.{◌⊎◌, inl, inr}
use mathlib.Core.List.{List, ◌++◌}
use lib.ListN.{length, get_or, replicate, length-append, length-replicate}
use lib.Seq.{sets, length-sets, ext_get_or}
use Rattle.std.proofs.lemmas.Bool.{cases_lt}
use Rattle.words.specs.Holding.{Holds}
use Rattle.words.proofs.Parts.{get_or_sets_out, get_d_sets}
use Rattle.words.proofs.Holding.{holds_append, holds_get, holds_ext, holds_sets}
use Rattle.definitions.specs.Calls.{Capacity, needed}
use Rattle.trie.specs.Trie.{Trie}
use Rattle.image_format.specs.Image.{image}
use Rattle.memory_header.specs.Layout.{Header, header_bytes}
use Rattle.memory_header.proofs.HeaderBytes.{length_header}
use Rattle.finished_memory.specs.Finished.{finished_header, finished_memory, closed}

-- bytes that stand at the front, the rest as it was
sets_standing : (m s xs : List ℕ) → length s ≡ length m → length xs ≤ length m → Holds s 0 xs → ((k : ℕ) → length xs ≤ k → get_or s k 0 ≡ get_or m k 0) → s ≡ sets m 0 xs
sets_standing m s xs e l h f = ext_get_or 0 s (sets m 0 xs) (e ∙ sym (length-sets m 0 xs)) (λ k b. go k (cases_lt k (length xs)))
  where
    go : (k : ℕ) → (k < length xs) ⊎ (length xs ≤ k) → get_or s k 0 ≡ get_or (sets m 0 xs) k 0
    go k (inl b) =
        let z : 0 + k ≡ k = omega arith in
        subst (λ (i : ℕ). get_or s i 0 ≡ get_or (sets m 0 xs) i 0) z (sym (holds_get s 0 xs k h b) ∙ sym (get_d_sets xs m 0 k b (omega arith)))
    go k (inr b) = f k b ∙ sym (get_or_sets_out xs m 0 k (inr (omega arith)))

module _ (m s : List ℕ) (c : Capacity) (t : Trie) (long : length s ≡ length m) (stands : Holds s 64 (image t)) (within : 64 + length (image t) ≤ needed c) (held : needed c ≤ length m)
    (behind : (k : ℕ) → needed c ≤ k → get_or s k 0 ≡ get_or m k 0) where
  abbrev zeros : List ℕ
  zeros = replicate (needed c - (64 + length (image t))) 0

  zeros_length : length zeros ≡ needed c - (64 + length (image t))
  zeros_length = length-replicate {A = ℕ} (needed c - (64 + length (image t))) 0

  abbrev h : Header
  h = finished_header c t

  abbrev cleared : List ℕ
  cleared = sets s (64 + length (image t)) zeros

  abbrev after : List ℕ
  after = sets cleared 0 (header_bytes h)

  cleared_length : length cleared ≡ length s
  cleared_length = length-sets s (64 + length (image t)) zeros

  -- the header's bytes, the image's and the zeros stand one after the other
  header_stands : Holds after 0 (header_bytes h)
  header_stands = holds_sets (header_bytes h) cleared 0 (omega (arith, length_header h, cleared_length, long))

  image_stands : Holds after 64 (image t)
  image_stands =
      holds_ext s after 64 (image t)
      (λ k a b. get_or_sets_out (header_bytes h) cleared 0 k (inr (omega (arith, length_header h))) ∙ get_or_sets_out zeros s (64 + length (image t)) k (inl (omega arith))) stands

  zeros_stand : Holds after (64 + length (image t)) zeros
  zeros_stand =
      holds_ext cleared after (64 + length (image t)) zeros (λ k a b. get_or_sets_out (header_bytes h) cleared 0 k (inr (omega (arith, length_header h))))
      (holds_sets zeros s (64 + length (image t)) (omega (arith, zeros_length, long)))

  all_stands : Holds after 0 (header_bytes h ++ (image t ++ zeros))
  all_stands =
      holds_append after 0 64 (header_bytes h) (image t ++ zeros) (length_header h) header_stands
      (holds_append after 64 (length (image t)) (image t) zeros refl image_stands zeros_stand)

  all_length : length (header_bytes h ++ (image t ++ zeros)) ≡ needed c
  all_length = length-append (header_bytes h) (image t ++ zeros) ∙ omega (arith, length_header h, length-append (image t) zeros, zeros_length)

  pub closed_is : closed s (finished_header c t) ≡ finished_memory m c t
  closed_is =
      sets_standing m after (header_bytes h ++ (image t ++ zeros)) (length-sets cleared 0 (header_bytes h) ∙ cleared_length ∙ long) (omega (arith, all_length)) all_stands
      (λ k b. get_or_sets_out (header_bytes h) cleared 0 k (inr (omega (arith, length_header h, all_length))) ∙ get_or_sets_out zeros s (64 + length (image t)) k (inr (omega (arith, zeros_length, all_length))) ∙ behind k (omega (arith, all_length)))

-- A memory that follows a recording, call by call: what demand 3 knows of whole lists, for one call. Assumes nothing.
use Prim.Native.Nat.{ℕ}
use native.Mathlib.Omega.{arith}
use mathlib.Core.Path.{◌≡◌, sym, subst}
use mathlib.Core.List.Memᴰ.{eq_of_singleton as only_one}
use mathlib.Core.List.Memᴰ.{not-nil}
use mathlib.Core.List.{List, [], ◌∷◌}
use Rattle.definitions.specs.Blocks.{pieces_of}
use Rattle.definitions.specs.Calls.{Capacity, Recorded, fresh}
use Rattle.definitions.specs.Recording.{Call, after}
use Rattle.trie.specs.Build.{trie_of}
use Rattle.trie.specs.Trie.{trie_pieces}
use Rattle.trie.proofs.BuildPieces.{trie_of_pieces}
use Rattle.definitions.proofs.Chains.{SamePieces}
use Rattle.memory_header.specs.Opening.{open_memory}
use Rattle.index_memory.proofs.Holding.{opened_fresh}
use Rattle.recording.proofs.Taken.{read_appended}
use Rattle.demand.specs.Demand.{CallFits, memory_after}
use Rattle.demand.proofs.Follow.{Follows, follow_all}
use Rattle.demand.proofs.ReadFinished.{read_finished}
use Rattle.demand.proofs.Demand.{piece_sound}
use Rattle.demand.proofs.Theorem.{location_fits, pieces_fit}

module _ (c : Capacity) where
  -- the memory holds what the recording says
  abbrev pub Followed : Recorded → List ℕ → Type 0
  Followed s m =
      Follows c
      (λ m ps b e q f. read_appended m c ps b e q (location_fits b f))
      (λ m s r a e. read_finished m c (pieces_of s.blocks) e (pieces_fit s.blocks r.sound a))
      s m

  pub followed_start : (m : List ℕ) → (open_memory m c).refusal ≡ 0 → Followed fresh (open_memory m c).memory
  followed_start m e = record { right = record { sound = λ b h. absurd (not-nil h); consistent = tt; nodes = λ h. h; entries = omega arith }; fit = λ b h. absurd (not-nil h); holds_it = opened_fresh m c e }

  pub followed_on : (s : Recorded) (m : List ℕ) (k : Call) → CallFits k → Followed s m → Followed (after c s k) (memory_after m k)
  followed_on s m k f w =
      follow_all c
      (λ m ps b e q f. read_appended m c ps b e q (location_fits b f))
      (λ m s r a e. read_finished m c (pieces_of s.blocks) e (pieces_fit s.blocks r.sound a))
      s m (k ∷ []) (λ x h. subst CallFits (sym (only_one h)) f) w

  -- the pieces of the trie that it holds
  pub followed_pieces : (s : Recorded) (m : List ℕ) → Followed s m → SamePieces (trie_pieces (trie_of (pieces_of s.blocks))) (pieces_of s.blocks)
  followed_pieces s m w = trie_of_pieces (pieces_of s.blocks) (piece_sound s.blocks w.right.sound)

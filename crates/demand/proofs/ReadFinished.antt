-- The memory that finish leaves holds the trie of the log. Assumes nothing.
use Prim.Native.Nat.{ℕ}
use native.Mathlib.Omega.{arith}
use mathlib.Core.Path.{◌≡◌, refl}
use mathlib.Core.Bool.{true}
use mathlib.Core.List.{List, [], ◌∷◌, Memᴰ as Mem}
use Rattle.definitions.specs.Blocks.{Piece}
use Rattle.definitions.specs.Calls.{Capacity}
use Rattle.trie.specs.Test.{index_rule}
use Rattle.trie.specs.Build.{build, trie_of, entered_all}
use Rattle.trie.proofs.Test.{rule_test_is}
use Rattle.trie.proofs.BuildPaths.{node_short}
use Rattle.trie.proofs.BuildRule.{SoundPiece, apart_build, trie_of_rule}
use Rattle.trie.proofs.BuildFree.{trie_of_free}
use Rattle.trie.proofs.BuildCounts.{trie_of_nodes, trie_of_entries}
use Rattle.image_format.proofs.Sizes.{savable}
use Rattle.index_memory.specs.Index.{opened, finished, read_index}
use Rattle.index_memory.proofs.Holding.{OpenIs, open_is, room_open}
use Rattle.finished_memory.specs.Finished.{finished_memory}
use Rattle.finished_memory.specs.Room.{Within}
use Rattle.finished_memory.proofs.Holds.{finished_holds}
use Rattle.demand.proofs.SavedTrie.{PieceFits, trie_of_shaped}

-- the test passes on the trie of a log
rule_passes : (ps : List Piece) → ((p : Piece) → Mem p ps → SoundPiece p) → index_rule (trie_of ps) ≡ true
rule_passes [] f = refl
rule_passes (p ∷ ps) f = (rule_test_is (build 16 (entered_all (p ∷ ps))) (λ path h. node_short 16 path (entered_all (p ∷ ps)) h) (apart_build 16 (entered_all (p ∷ ps)))).1 (trie_of_rule (p ∷ ps) f)

module _ (m : List ℕ) (c : Capacity) (ps : List Piece) (o : OpenIs m c ps) where
  log_within : Within c (trie_of ps)
  log_within = record { nodes = omega (arith, trie_of_nodes ps, o.few_nodes); entries = omega (arith, trie_of_entries ps, o.few_entries) }

  pub log_finished : ((p : Piece) → Mem p ps → PieceFits p) → read_index (finished_memory m c (trie_of ps)) ≡ finished c (trie_of ps)
  log_finished f =
      let r = room_open m c ps o in
      finished_holds m c (trie_of ps) r log_within
      (savable (trie_of ps) (trie_of_shaped ps f) (omega (arith, log_within.nodes, log_within.entries, r.few_nodes, r.few_entries)))
      (rule_passes ps (λ p k. (f p k).sound))
      (trie_of_free ps o.apart)

pub read_finished : (m : List ℕ) (c : Capacity) (ps : List Piece) → read_index m ≡ opened c ps → ((p : Piece) → Mem p ps → PieceFits p) → read_index (finished_memory m c (trie_of ps)) ≡ finished c (trie_of ps)
read_finished m c ps e f = log_finished m c ps (open_is m c ps e) f

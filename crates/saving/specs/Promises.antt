-- What save and load promise of each other, on memories as they are lent. Assumes nothing.
use Rattle.std.specs.Prelude.{ℕ, ◌^◌, ◌≤◌, ◌<◌, ◌≡◌, true, false, ◌⊎◌, List, length, take}
use Rattle.std.proofs.Math.Option.{some}
use Rattle.std.proofs.lemmas.List.Edits.{sets}
use Rattle.definitions.specs.Conflicts.{free}
use Rattle.definitions.specs.Causes.{number, cut_short, unknown_kind, image_broken, conflict}
use Rattle.definitions.specs.Calls.{Capacity}
use Rattle.trie.specs.Trie.{Trie, trie_pieces}
use Rattle.trie.specs.Test.{index_rule}
use Rattle.image_format.specs.Image.{image}
use Rattle.image_format.specs.Held.{trie_in}
use Rattle.image_format.specs.Reading.{right, refused, read_image}
use Rattle.image_format.specs.Savable.{AllBytes}
use Rattle.image_format.specs.Check.{check_image}
use Rattle.index_memory.specs.Index.{finished, read_index}
use Rattle.finished_memory.specs.Room.{capacity_of, Within}
use Rattle.saving.specs.Saving.{Saving, save_memory, load_memory}

-- what is lent: bytes, as many as 64 bits count
pub record Lent (s : List ℕ) : Type 0 where
  pub bytes : AllBytes s
  pub small : length s < 2 ^ 64

-- the memory that a load leaves holds what the image says, in the capacity that was there
pub record Loads (m s : List ℕ) : Type 0 where
  pub capacity : Capacity
  pub had : capacity_of (read_index m) ≡ some capacity
  pub holds : read_index (load_memory m s).memory ≡ finished capacity (trie_in s)

abbrev pub LoadHolds : Type 0
LoadHolds = (m s : List ℕ) → Lent s → (load_memory m s).refusal ≡ 0 → Loads m s

-- saving what was loaded gives the same bytes
abbrev pub SaveOfLoaded : Type 0
SaveOfLoaded = (m s buffer : List ℕ) → Lent s → (load_memory m s).refusal ≡ 0 → length s ≤ length buffer → save_memory (load_memory m s).memory buffer ≡ record { refusal = 0; size = length s; buffer = sets buffer 0 s }

-- the bytes that a save hands over
abbrev pub bytes_of : Saving → List ℕ
bytes_of r = take r.size r.buffer

-- they are the image of what the memory holds
abbrev pub SaveIsImage : Type 0
SaveIsImage = (m buffer : List ℕ) (c : Capacity) (t : Trie) → read_index m ≡ finished c t → (save_memory m buffer).refusal ≡ 0 → bytes_of (save_memory m buffer) ≡ image t

-- loading what was saved gives the same index, in any memory whose index has capacity for it
abbrev pub LoadOfSaved : Type 0
LoadOfSaved =
    (m m' buffer : List ℕ) (c c' : Capacity) (t : Trie) → Lent m → read_index m ≡ finished c t → (save_memory m buffer).refusal ≡ 0
    → capacity_of (read_index m') ≡ some c' → Within c' t
    → ((load_memory m' (bytes_of (save_memory m buffer))).refusal ≡ 0) × (read_index (load_memory m' (bytes_of (save_memory m buffer))).memory ≡ finished c' t)

-- what an image itself is refused with: 13, 14, 15 or 18
abbrev pub ImageRefusal : Type 0
ImageRefusal = (s : List ℕ) (n : ℕ) → check_image s ≡ refused n → ((n ≡ number cut_short) ⊎ ((n ≡ number unknown_kind) ⊎ (n ≡ number image_broken))) ⊎ (n ≡ number conflict)

-- 18 is said of an image that is right but for conflicts: its layout, and the rest of the rule
pub record OnlyConflict (s : List ℕ) : Type 0 where
  pub nodes : ℕ
  pub entries : ℕ
  pub read : read_image s ≡ right nodes entries
  pub rule : index_rule (trie_in s) ≡ true
  pub clash : free (trie_pieces (trie_in s)) ≡ false

abbrev pub ConflictOnly : Type 0
ConflictOnly = (s : List ℕ) → check_image s ≡ refused (number conflict) → OnlyConflict s

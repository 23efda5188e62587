-- What a reader may conclude of images. Assumes nothing.
use Rattle.std.specs.Prelude.{ℕ, ◌+◌, ◌*◌, ◌^◌, ◌≤◌, ◌<◌, ◌≡◌, List, length}
use Rattle.trie.specs.Trie.{Trie, nodes, entries}
use Rattle.image_format.specs.Image.{image}
use Rattle.image_format.specs.Held.{trie_in}
use Rattle.image_format.specs.Reading.{right, read_image}
use Rattle.image_format.specs.Savable.{AllBytes, Shaped, Savable}

-- an image is read right, and gives back its trie
abbrev pub ImageRead : Type 0
ImageRead = (t : Trie) → Savable t → (read_image (image t) ≡ right (nodes t) (entries t)) × (trie_in (image t) ≡ t)

-- what is read right is the image of the trie that it gives, with that trie's nodes and entries
abbrev pub ReadImageIs : Type 0
ReadImageIs =
    (s : List ℕ) → AllBytes s → length s < 2 ^ 64 → (n e : ℕ) → read_image s ≡ right n e
    → (image (trie_in s) ≡ s) × (nodes (trie_in s) ≡ n) × (entries (trie_in s) ≡ e) × Savable (trie_in s)

-- an image takes at most 64 bytes a node and 24 an entry
abbrev pub ImageSize : Type 0
ImageSize = (t : Trie) → Shaped t → length (image t) ≤ 64 * nodes t + 24 * entries t

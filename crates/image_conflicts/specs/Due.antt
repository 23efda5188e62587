-- The chunks of an image against the locations of its pieces: how many are yet due, as long as each is clear. Assumes nothing.
use Rattle.std.specs.Prelude.{ℕ, ◌+◌, ◌-◌, ◌≤◌, Bool, true, not, ◌&&◌, cond, length, leb, Option, None, Some, is_some}
use mathlib.Core.List.{List, [], ◌∷◌, Memᴰ}
use Rattle.definitions.specs.Location.{Location}
use Rattle.definitions.specs.Calls.{last_number}
use Rattle.conflicts.specs.Lined.{in_line, first_from, lives_among}
use Rattle.trie.specs.Trie.{Forest, leaf, more, Node}
use Rattle.trie.specs.Test.{is_nil}

-- one of n locations at an address inside a piece of m bytes at x, behind its first, lives together with it
unfoldable pub lives_inside : (ℕ → Location) → (n m : ℕ) → Location → Bool
lives_inside at n m x = lives_among at (n - first_from at n 0 (x.address + 1) 0) (first_from at n 0 (x.address + 1) 0) x (x.address + m)

-- none does for any of the chunks of a node at depth m
unfoldable pub all_clear : (ℕ → Location) → (n m : ℕ) → List Location → Bool
all_clear at n m [] = true
all_clear at n m (x ∷ xs) = not (lives_inside at n m x) && all_clear at n m xs

-- pieces of m bytes at these locations end at a number
abbrev pub Ending : ℕ → List Location → Type 0
Ending m ls = (l : Location) → Memᴰ l ls → l.address + m ≤ last_number

-- and so do the chunks of siblings at depth m and of all below them
abbrev pub AllEnding : ℕ → Forest → Type 0
AllEnding m leaf = Unit {0}
AllEnding m (more b h below later) = Ending m h.chunks × AllEnding (m + 1) below × AllEnding m later

-- how many are due behind these chunks; none where there are more than due, or one is not clear
unfoldable pub chunks_due : (ℕ → Location) → (n m : ℕ) → List Location → ℕ → Option ℕ
chunks_due at n m xs due = cond (leb (length xs) due) (cond (all_clear at n m xs) (Some (due - length xs)) None) None

abbrev pub then_due : Option ℕ → (ℕ → Option ℕ) → Option ℕ
then_due None f = None
then_due (Some k) f = f k

-- behind siblings at depth m and all below them; what is below a node with no suffixes is not looked at
unfoldable pub forest_due : (ℕ → Location) → (n m : ℕ) → Forest → ℕ → Option ℕ
forest_due at n m leaf due = Some due
forest_due at n m (more b h below later) due =
    then_due (then_due (chunks_due at n m h.chunks due) (λ k. cond (is_nil h.suffixes) (Some k) (forest_due at n (m + 1) below k)))
    (λ k. forest_due at n m later k)

-- behind a node at depth m and all below it
unfoldable pub node_due : (ℕ → Location) → (n m : ℕ) → Node → ℕ → Option ℕ
node_due at n m x due =
    then_due (chunks_due at n m x.lists.chunks due) (λ k. cond (is_nil x.lists.suffixes) (Some k) (forest_due at n (m + 1) x.children k))

-- the n locations are in line, and the chunks below the root are clear and no more
unfoldable pub conflict_free : (ℕ → Location) → ℕ → Forest → Bool
conflict_free at n f = in_line at (n - 1) && is_some (forest_due at n 1 f n)

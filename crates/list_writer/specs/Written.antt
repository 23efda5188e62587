-- A list in memory: its locations copied, and the list that is made of them. Assumes nothing.
use Rattle.std.specs.Prelude.{ℕ, ◌+◌, ◌*◌, ◌≤◌, ◌<◌, ◌≡◌, ◌⊎◌, Bool, true, List, length, get_or}
use Rattle.words.specs.Holding.{Holds}
use Rattle.definitions.specs.Location.{Location, normal, locations_in}
use Rattle.image_format.specs.Image.{list_bytes}
use Rattle.tails.specs.Tails.{Tail}
use Rattle.tails.specs.Groups.{wholes}
use Rattle.list_writer.specs.declared.End.{End}
use Rattle.list_writer.specs.declared.Listed.{Listed}
use Rattle.list_writer.specs.declared.Listed.TheVariants.{All, Wholes}

-- whether a tail is taken: each is, or whole pieces alone
abbrev pub takes : Listed → Tail → Bool
takes All t = true
takes Wholes t = t.entry.whole

-- those that are taken
abbrev pub taken : Listed → List Tail → List Tail
taken All ts = ts
taken Wholes ts = wholes ts

-- s' is s with the n locations ls behind the eight bytes at an index
pub record Copied (s s' : List ℕ) (at n : ℕ) (ls : List Location) : Type 0 where
  pub count : n ≡ length ls
  pub places : locations_in s' n (at + 8) ≡ ls
  pub long : length s' ≡ length s
  pub away : (k : ℕ) → (k < at + 8) ⊎ (at + 8 + 24 * n ≤ k) → get_or s' k 0 ≡ get_or s k 0

-- s' is s with the list of the locations ls behind the end e, and r is the end behind it
pub record ListWritten (s s' : List ℕ) (ls : List Location) (e r : End) : Type 0 where
  pub bytes : Holds s' e.at (list_bytes (normal ls))
  pub at : r.at ≡ e.at + 8 + 24 * length (normal ls)
  pub few : length (normal ls) ≤ length ls
  pub nodes : r.nodes ≡ e.nodes
  pub entries : r.entries ≡ e.entries + length (normal ls)
  pub long : length s' ≡ length s
  pub before : (k : ℕ) → k < e.at → get_or s' k 0 ≡ get_or s k 0
  pub behind : (k : ℕ) → e.at + 8 + 24 * length ls ≤ k → get_or s' k 0 ≡ get_or s k 0

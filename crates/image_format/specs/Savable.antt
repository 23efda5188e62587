-- What an image can hold: a trie whose image gives it back. Assumes nothing.
use Rattle.std.specs.Prelude.{ℕ, zero, suc, ◌+◌, ◌^◌, ◌≤◌, ◌<◌, List, [], ◌∷◌, length, get_or}
use Rattle.definitions.specs.Location.{Location}
use Rattle.trie.specs.Trie.{Lists, Forest, leaf, more, Node, Trie, empty, root}
use Rattle.trie.specs.Rule.{Apart}
use Rattle.image_format.specs.Image.{image}

-- a list of bytes
abbrev pub AllBytes : List ℕ → Type 0
AllBytes s = (i : ℕ) → get_or s i 0 < 256

-- an address and two ticks are of 64 bits
abbrev pub LocationsFit : List Location → Type 0
LocationsFit [] = Unit {0}
LocationsFit (l ∷ ls) = (l.address < 2 ^ 64) × (l.created < 2 ^ 64) × (l.destroyed < 2 ^ 64) × LocationsFit ls

pub record ListsFit (h : Lists) : Type 0 where
  pub prefixes : LocationsFit h.prefixes
  pub chunks : LocationsFit h.chunks
  pub suffixes : LocationsFit h.suffixes

abbrev pub AllFit : Forest → Type 0
AllFit leaf = Unit {0}
AllFit (more b h below later) = ListsFit h × AllFit below × AllFit later

-- every byte is below 256
abbrev pub InBytes : Forest → Type 0
InBytes leaf = Unit {0}
InBytes (more b h below later) = (b < 256) × InBytes below × InBytes later

-- no path exceeds d
abbrev pub Short : ℕ → Forest → Type 0
Short d leaf = Unit {0}
Short zero (more b h below later) = ⊥
Short (suc d) (more b h below later) = Short d below × Short (suc d) later

abbrev pub siblings : Forest → ℕ
siblings leaf = 0
siblings (more b h below later) = suc (siblings later)

-- siblings by ascending byte, from b on
abbrev pub Ascending : ℕ → Forest → Type 0
Ascending b leaf = Unit {0}
Ascending b (more c h below later) = (b ≤ c) × Ascending (c + 1) later

-- an image keeps the arrival of at most 96 siblings; more stand by ascending byte, here and below
abbrev pub Kept : Forest → Type 0
Kept f = 96 < siblings f → Ascending 0 f

abbrev pub AllKept : Forest → Type 0
AllKept leaf = Unit {0}
AllKept (more b h below later) = Kept below × AllKept below × AllKept later

pub record ShapedNode (n : Node) : Type 0 where
  -- every location field is below 2^64
  pub lists : ListsFit n.lists
  pub all_lists : AllFit n.children
  -- sibling bytes are below 256, and differ
  pub bytes : InBytes n.children
  pub apart : Apart n.children
  -- no path exceeds 16
  pub short : Short 16 n.children
  -- more than 96 children stand by ascending byte
  pub kept : Kept n.children
  pub all_kept : AllKept n.children

abbrev pub Shaped : Trie → Type 0
Shaped empty = Unit {0}
Shaped (root n) = ShapedNode n

pub record Savable (t : Trie) : Type 0 where
  pub shaped : Shaped t
  pub size : length (image t) < 2 ^ 64

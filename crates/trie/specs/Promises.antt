-- What a reader may conclude of tries: the rule and its test, finish's trie, and places found by nodes. Assumes nothing.
use Rattle.std.specs.Prelude.{ℕ, ◌≤◌, ◌≡◌, true, ◌↔◌, length}
use mathlib.Core.List.{List, Memᴰ}
use Rattle.definitions.specs.Blocks.{Piece, nodes_tallied, entries_tallied}
use Rattle.definitions.specs.Conflicts.{free}
use Rattle.definitions.specs.Places.{table}
use Rattle.definitions.specs.Promises.{SamePieces}
use Rattle.trie.specs.Trie.{Node, Trie, IsNode, nodes, entries, trie_pieces}
use Rattle.trie.specs.Rule.{Apart, Passes, NodeRule, Rule}
use Rattle.trie.specs.Local.{LocalRule}
use Rattle.trie.specs.Test.{rule_test}
use Rattle.trie.specs.Build.{trie_of}
use Rattle.trie.specs.Find.{table_found}

-- the rule by local conditions is the rule in the document's words
abbrev pub LocalIsRule : Type 0
LocalIsRule = (n : Node) → LocalRule n ↔ NodeRule n

-- and so is the test, on a trie of paths up to 16 bytes whose sibling bytes differ
abbrev pub RuleTestIs : Type 0
RuleTestIs = (n : Node) → ((path : List ℕ) → IsNode n path → length path ≤ 16) → Apart n.children → (rule_test n ≡ true) ↔ NodeRule n

-- a piece that an index takes
pub record SoundPiece (p : Piece) : Type 0 where
  pub short : length p.bytes ≤ 16
  pub passes : Passes (length p.bytes) p.at

abbrev pub AllSound : List Piece → Type 0
AllSound ps = (p : Piece) → Memᴰ p ps → SoundPiece p

-- the trie that finish makes of sound pieces meets the rule and has their pieces
abbrev pub TrieOfRule : Type 0
TrieOfRule = (ps : List Piece) → AllSound ps → Rule (trie_of ps)

abbrev pub TrieOfPieces : Type 0
TrieOfPieces = (ps : List Piece) → AllSound ps → SamePieces (trie_pieces (trie_of ps)) ps

-- and is free of conflicts if they are
abbrev pub TrieOfFree : Type 0
TrieOfFree = (ps : List Piece) → free ps ≡ true → free (trie_pieces (trie_of ps)) ≡ true

-- it has no more nodes and entries than were charged
abbrev pub TrieOfNodes : Type 0
TrieOfNodes = (ps : List Piece) → nodes (trie_of ps) ≤ nodes_tallied ps

abbrev pub TrieOfEntries : Type 0
TrieOfEntries = (ps : List Piece) → entries (trie_of ps) ≤ entries_tallied ps

-- the places found by the nodes of a sound index are those of its pieces
abbrev pub TableFoundIs : Type 0
TableFoundIs = (t : Trie) → Rule t → (q : List ℕ) → table_found t q ≡ table (trie_pieces t) q

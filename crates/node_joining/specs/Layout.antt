-- What the search goes by: an image that is sound, and the places of a query's ends in scratch, one end behind another. Assumes nothing.
use Rattle.std.specs.Prelude.{ℕ, ◌+◌, ◌-◌, ◌*◌, ◌≤◌, ◌<◌, ◌≡◌, Bool, cond, List, ◌++◌, length, get_or, set, Option, MatchOption, ⊤}
use Rattle.definitions.specs.Location.{Location, locations_in}
use Rattle.definitions.specs.Places.{first_of, sizes}
use Rattle.trie.specs.Trie.{Lists, Node, root, lists_at}
use Rattle.trie.specs.Rule.{ListsSorted, NodeRule}
use Rattle.image_format.specs.Held.{trie_in}
use Rattle.image_walk.specs.declared.Node.{Node as Parts}
use Rattle.image_walk.specs.Here.{NodeHere}
use Rattle.place_buffer.specs.declared.PlaceSet.{PlaceSet}
use Rattle.place_buffer.specs.Scratch.{room}
use Rattle.place_buffer.specs.Buffer.{Taken}
use Rattle.joining.specs.Lists.{Inside, Ascends, listed}
use Rattle.node_joining.specs.declared.Beyond.{Beyond}
use Rattle.node_joining.specs.declared.Ended.{Ended}
use Rattle.node_joining.specs.Found.{rooted, ending_lists, beyond_of, table_from}

-- the trie of an image has a root, which stands at its start and meets the rule
pub record Sound (img : List ℕ) : Type 0 where
  pub trie : trie_in img ≡ root (rooted img)
  pub here : NodeHere img 16 0 (rooted img)
  pub rule : NodeRule (rooted img)

-- the lists of a node in place
abbrev pub lists_of : List ℕ → Parts → Lists
lists_of img m = record {
  prefixes = listed img m.prefixes;
  chunks = listed img m.chunks;
  suffixes = listed img m.suffixes;
}

-- they lie within the image, each ascending
pub record Listed (img : List ℕ) (m : Parts) : Type 0 where
  pub prefixes : Inside img m.prefixes
  pub chunks : Inside img m.chunks
  pub suffixes : Inside img m.suffixes
  pub sorted : ListsSorted (lists_of img m)

-- what ends at a node as the code hands it over: inside a query its prefixes are an empty list
abbrev pub ended_at : Bool → Parts → Ended
ended_at front m = record {
  prefixes = record { at = m.prefixes.at; count = cond front m.prefixes.count 0 };
  chunks = m.chunks;
}

-- its locations
abbrev pub ended_in : List ℕ → Ended → List Location
ended_in img e = listed img e.prefixes ++ listed img e.chunks

-- they lie within the image, each list ascending
pub record EndedHere (img : List ℕ) (e : Ended) : Type 0 where
  pub prefixes : Ascends img e.prefixes
  pub chunks : Ascends img e.chunks

-- there are none
pub record EndsNothing (e : Ended) : Type 0 where
  pub prefixes : e.prefixes.count ≡ 0
  pub chunks : e.chunks.count ≡ 0

-- the locations of what ends at a node or goes beyond it, inside a query
abbrev pub ending_in : List ℕ → Beyond → List Location
ending_in img m = listed img m.suffixes ++ listed img m.chunks

-- they lie within the image, each list ascending
pub record EndingHere (img : List ℕ) (m : Beyond) : Type 0 where
  pub suffixes : Ascends img m.suffixes
  pub chunks : Ascends img m.chunks

-- they are those of the node at the end of a path, none where there is none
pub record Ending (img path : List ℕ) (m : Beyond) : Type 0 where
  pub here : EndingHere img m
  pub lists : ending_in img m ≡ ending_lists (lists_at (rooted img) path)

-- what ends at the node at index `at` or goes beyond it is added to a set
pub record Reached (img : List ℕ) (at : ℕ) (front : Bool) (p r : PlaceSet) (o : Option ⊤) : Type 0 where
  pub taken : (n : Node) → NodeHere img 16 at n → Taken p r (beyond_of front n) o

-- T(j) stands from place number ends[j + 1] to ends[j] - 1
pub record Part (n : Node) (q : List ℕ) (ends s : List ℕ) (bound j : ℕ) : Type 0 where
  pub order : get_or ends (j + 1) 0 ≤ get_or ends j 0
  pub below : get_or ends j 0 ≤ bound
  pub places : locations_in s (get_or ends j 0 - get_or ends (j + 1) 0) (get_or ends (j + 1) 0 * 24) ≡ first_of (table_from n q j)

-- T(i) and all behind it stand in scratch, but for that of the last byte, which is only counted unless it is the query
pub record LaidOut (n : Node) (q : List ℕ) (i : ℕ) (ends s : List ℕ) : Type 0 where
  pub long : length q < length ends
  pub fits : get_or ends i 0 * 24 ≤ length s
  pub part : (j : ℕ) → i ≤ j → j < length q → (0 < j → j + 1 < length q) → Part n q ends s (get_or ends i 0) j

-- T(i) is found behind what stands there, up to place number next
pub record EndLaid (n : Node) (q : List ℕ) (i : ℕ) (ends s' : List ℕ) (next : ℕ) : Type 0 where
  pub laid : LaidOut n q i (set ends i next) s'
  pub size : next ≡ get_or ends (i + 1) 0 + length (first_of (table_from n q i))

-- so it is, or has no room
pub record EndFound (n : Node) (q : List ℕ) (i : ℕ) (ends s s' : List ℕ) (o : Option ℕ) : Type 0 where
  pub found : MatchOption o (room s < get_or ends (i + 1) 0 + length (first_of (table_from n q i))) (EndLaid n q i ends s')

-- how many places the last byte has
abbrev pub last_size : Node → List ℕ → ℕ
last_size n q = sizes (table_from n q (length q - 1))

-- all T(i) are found with count places kept for that of the last byte
pub record AllLaid (n : Node) (q : List ℕ) (count : ℕ) (ends s' : List ℕ) : Type 0 where
  pub laid : LaidOut n q 0 ends s'
  pub size : get_or ends 0 0 + last_size n q ≡ count + sizes (table_from n q 0)

-- so they are, or have no room then
pub record AllFound (n : Node) (q : List ℕ) (count : ℕ) (s ends' s' : List ℕ) (o : Option ⊤) : Type 0 where
  pub found : MatchOption o (room s + last_size n q < count + sizes (table_from n q 0)) (λ _. AllLaid n q count ends' s')

-- all T(i) are found and have room
pub record Tabled (n : Node) (q ends s : List ℕ) : Type 0 where
  pub laid : LaidOut n q 0 ends s
  pub fits : sizes (table_from n q 0) ≤ room s

-- all T(i) are found, or have more places than there is room
pub record TableFound (n : Node) (q s ends' s' : List ℕ) (o : Option ⊤) : Type 0 where
  pub found : MatchOption o (room s < sizes (table_from n q 0)) (λ _. Tabled n q ends' s')

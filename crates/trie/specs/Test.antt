-- The index rule as a test: one pass over the nodes, with each node's fronts, the nodes whose path has one byte more in front.
-- Assumes nothing.
use Rattle.std.specs.Prelude.{ℕ, zero, suc, ◌+◌, ◌-◌, Bool, true, false, ◌&&◌, ◌||◌, cond, List, [], ◌∷◌, ltb, leb}
use Rattle.std.proofs.Math.Option.{Option, none, some}
use Rattle.std.proofs.Math.Dec.{compare_is_eq}
use Rattle.definitions.specs.Location.{Location, order, is_lt}
use Rattle.definitions.specs.Calls.{last_number}
use Rattle.trie.specs.Trie.{Lists, Forest, leaf, more, Node, Trie, empty, root, child}

-- ── a list by itself ──

-- each location comes before the next
abbrev pub ascending_from : Location → List Location → Bool
ascending_from l [] = true
ascending_from l (m ∷ ms) = is_lt (order l m) && ascending_from m ms

abbrev pub is_ascending : List Location → Bool
is_ascending [] = true
is_ascending (l ∷ ls) = ascending_from l ls

-- each location passes the checks behind refusals 5 and 6 for a piece of m bytes
abbrev pub all_pass : ℕ → List Location → Bool
all_pass m [] = true
all_pass m (l ∷ ls) = ltb l.created l.destroyed && (leb (l.address + m) last_number && all_pass m ls)

-- ── a list against others ──

-- a list among others, left out where it is empty
abbrev pub and_list : List Location → List (List Location) → List (List Location)
and_list [] lss = lss
and_list (l ∷ ls) lss = (l ∷ ls) ∷ lss

-- the same life, k bytes back
abbrev pub moved_back : Location → ℕ → Location
moved_back l k = record { address = l.address - k; created = l.created; destroyed = l.destroyed }

abbrev pub begins : Location → List Location → Bool
begins l [] = false
begins l (m ∷ ms) = compare_is_eq (order m l)

-- a list without its first, where that is l
abbrev pub step_over : Location → List Location → List Location
step_over l [] = []
step_over l (m ∷ ms) = cond (compare_is_eq (order m l)) ms (m ∷ ms)

abbrev pub any_begins : Location → List (List Location) → Bool
any_begins l [] = false
any_begins l (ls ∷ lss) = begins l ls || any_begins l lss

abbrev pub step_over_all : Location → List (List Location) → List (List Location)
step_over_all l [] = []
step_over_all l (ls ∷ lss) = step_over l ls ∷ step_over_all l lss

abbrev pub is_nil : List Location → Bool
is_nil [] = true
is_nil (l ∷ ls) = false

abbrev pub all_ended : List (List Location) → Bool
all_ended [] = true
all_ended (ls ∷ lss) = is_nil ls && all_ended lss

-- the locations of a list, each `back` addresses back, are those of the others: a simultaneous walk
abbrev pub is_union : ℕ → List Location → List (List Location) → Bool
is_union back [] lss = all_ended lss
is_union back (l ∷ ls) lss = leb back l.address && (any_begins (moved_back l back) lss && is_union back ls (step_over_all (moved_back l back) lss))

-- ── a node against its children ──

-- the chunks and suffixes of siblings
abbrev pub child_lists : Forest → List (List Location)
child_lists leaf = []
child_lists (more b h below later) = and_list h.chunks (and_list h.suffixes (child_lists later))

abbrev pub no_child : Forest → Bool
no_child leaf = true
no_child (more b h below later) = false

-- the root has no prefix; another node has a child, a prefix or a chunk
abbrev pub is_owed : ℕ → Lists → Forest → Bool
is_owed zero h f = is_nil h.prefixes
is_owed (suc d) h leaf = cond (is_nil h.prefixes) (cond (is_nil h.chunks) false true) true
is_owed (suc d) h (more b k below later) = true

abbrev pub lists_right : ℕ → Lists → Bool
lists_right d h = is_ascending h.prefixes && (is_ascending h.chunks && (is_ascending h.suffixes && all_pass d h.chunks))

-- a node at depth d
abbrev pub node_right : ℕ → Lists → Forest → Bool
node_right d h f = is_owed d h f && (lists_right d h && is_union 0 h.suffixes (child_lists f))

-- ── a node against its fronts ──

abbrev pub and_node : Option Node → List Node → List Node
and_node none fs = fs
and_node (some f) fs = f ∷ fs

-- the children by a byte of the fronts are the fronts of the child by that byte
abbrev pub next_fronts : ℕ → List Node → List Node
next_fronts b [] = []
next_fronts b (f ∷ fs) = and_node (child f.children b) (next_fronts b fs)

-- the chunks and prefixes of fronts
abbrev pub front_lists : List Node → List (List Location)
front_lists [] = []
front_lists (f ∷ fs) = and_list f.lists.chunks (and_list f.lists.prefixes (front_lists fs))

abbrev pub is_some : Option Node → Bool
is_some none = false
is_some (some n) = true

-- there is a child in g for each byte of these siblings
abbrev pub within : Forest → Forest → Bool
within leaf g = true
within (more b h below later) g = is_some (child g b) && within later g

abbrev pub fronts_within : List Node → Forest → Bool
fronts_within [] g = true
fronts_within (f ∷ fs) g = within f.children g && fronts_within fs g

-- ── all nodes ──

-- siblings at depth d, with the fronts of their parent: each against its fronts and its children, then those below it
abbrev pub forest_right : List Node → ℕ → Forest → Bool
forest_right fs d leaf = true
forest_right fs d (more b h below later) =
    (is_union 1 h.prefixes (front_lists (next_fronts b fs)) && (node_right d h below && (fronts_within (next_fronts b fs) below && forest_right (next_fronts b fs) (suc d) below)))
    && forest_right fs d later

-- the fronts of the root are its children
abbrev pub siblings : Forest → List Node
siblings leaf = []
siblings (more b h below later) = record { lists = h; children = below } ∷ siblings later

abbrev pub rule_test : Node → Bool
rule_test n = node_right 0 n.lists n.children && (fronts_within (siblings n.children) n.children && forest_right (siblings n.children) 1 n.children)

-- the finished index rule, where paths are short and siblings differ already
abbrev pub index_rule : Trie → Bool
index_rule empty = true
index_rule (root n) = rule_test n

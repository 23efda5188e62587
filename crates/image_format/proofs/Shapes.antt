-- What can be saved, said of the trie and of its nodes' children. Assumes nothing.
use Prim.Native.Nat.{◌+◌, suc, zero, ℕ}
use native.Mathlib.Omega.{arith}
use mathlib.Core.List.{List, [], ◌++◌, ◌∷◌}
use mathlib.Core.Path.{◌≡◌, ap, refl, subst, sym}
use lib.ListN.{length}
use Rattle.definitions.specs.Location.{locations_in}
use Rattle.words.proofs.Laws.{le64_lt}
use Rattle.trie.specs.Rule.{Absent, Apart}
use Rattle.trie.specs.Trie.{Forest, Lists, Node, forest_entries, forest_nodes, leaf, more}
use Rattle.image_format.proofs.ByByte.{Bytes, Rising, absent_last, later_absent}
use Rattle.image_format.proofs.KindThree.{Distinct, Missing}
use Rattle.image_format.proofs.ReadBack.{Limits, Up}
use Rattle.image_format.specs.Held.{Entry, forest_by, lists_in, node_in, table_entries}
use Rattle.image_format.specs.Image.{Child, as_child, children_of, entries_in, nodes_in}
use Rattle.image_format.specs.Savable.{AllBytes, AllFit, AllKept, Ascending, InBytes, Kept, ListsFit, LocationsFit, ShapedNode, Short, siblings}

-- ── from the trie to its children ──

pub count_siblings : (f : Forest) → siblings f ≡ length (children_of f)
unfolding children_of
count_siblings leaf = refl
count_siblings (more b h under later) = ap suc (count_siblings later)

bytes_of : (f : Forest) → InBytes f → Bytes (children_of f)
unfolding Bytes children_of as_child
bytes_of leaf i = tt
bytes_of (more b h under later) i = (i.0, bytes_of later i.2)

rising_of : (b : ℕ) (f : Forest) → Ascending b f → Rising b (children_of f)
unfolding Rising children_of as_child
rising_of b leaf r = tt
rising_of b (more c h under later) r = (r.0, rising_of (c + 1) later r.1)

pub up_of : (f : Forest) → Kept f → Up f
up_of f k h = rising_of 0 f (k (omega (arith, count_siblings f)))

-- the bytes of earlier siblings are absent from these
Clear : List Child → Forest → Type 0
Clear [] f = Unit
Clear (k ∷ ks) f = Absent k.byte f × Clear ks f

clear_first : (seen : List Child) (b : ℕ) (h : Lists) (under later : Forest) → Clear seen (more b h under later) → Missing b seen
unfolding Clear Missing
clear_first [] b h under later c = tt
clear_first (k ∷ seen) b h under later c = ((λ e. c.0.0 (sym e)), clear_first seen b h under later c.1)

clear_later : (seen : List Child) (k : Child) (b : ℕ) (h : Lists) (under later : Forest) → Clear seen (more b h under later) → k.byte ≡ b → Absent b later → Clear (seen ++ (k ∷ [])) later
unfolding Clear
clear_later [] k b h under later c e a = (subst (λ (x : ℕ). Absent x later) (sym e) a, tt)
clear_later (x ∷ seen) k b h under later c e a = (c.0.1, clear_later seen k b h under later c.1 e a)

distinct_from : (seen : List Child) (f : Forest) → Clear seen f → Apart f → Distinct seen (children_of f)
unfolding Distinct children_of as_child
distinct_from seen leaf c a = tt
distinct_from seen (more b h under later) c a =
    let k = as_child b h (children_of under) in
    (clear_first seen b h under later c, distinct_from (seen ++ (k ∷ [])) later (clear_later seen k b h under later c refl a.0) a.2)

distinct_of : (f : Forest) → Apart f → Distinct [] (children_of f)
unfolding Clear
distinct_of f a = distinct_from [] f tt a

pub limits_of : (d : ℕ) (f : Forest) → InBytes f → Apart f → Short d f → AllKept f → Limits d f
unfolding Limits
limits_of d leaf i a s k = tt
limits_of zero (more b h under later) i a s k = absurd s
limits_of (suc d) (more b h under later) i a s k =
    (bytes_of under i.1, distinct_of under a.1, up_of under k.0, limits_of d under i.1 a.1 s.0 k.1, limits_of (suc d) later i.2 a.2 s.1 k.2)

-- what a node that can be saved says of its children
pub record Fitting (n : Node) : Type 0 where
  pub limits : Limits 16 n.children
  pub bytes : Bytes (children_of n.children)
  pub distinct : Distinct [] (children_of n.children)
  pub up : Up n.children

pub fitting : (n : Node) → ShapedNode n → Fitting n
fitting n s =
    let f = n.children in
    record { limits = limits_of 16 f s.bytes s.apart s.short s.all_kept; bytes = bytes_of f s.bytes; distinct = distinct_of f s.apart; up = up_of f s.kept }

-- ── from the children back to the trie ──

in_bytes : (d : ℕ) (f : Forest) → Bytes (children_of f) → Limits d f → InBytes f
unfolding Bytes Limits children_of as_child
in_bytes d leaf b l = tt
in_bytes zero (more c h under later) b l = absurd l
in_bytes (suc d) (more c h under later) b l = (b.0, in_bytes d under l.0 l.3, in_bytes (suc d) later b.1 l.4)

absent_of : (b : ℕ) (f : Forest) → Missing b (children_of f) → Absent b f
unfolding Missing children_of as_child
absent_of b leaf m = tt
absent_of b (more c h under later) m = (m.0, absent_of b later m.1)

apart_of : (d : ℕ) (seen : List Child) (f : Forest) → Distinct seen (children_of f) → Limits d f → Apart f
unfolding Distinct Limits children_of as_child
apart_of d seen leaf a l = tt
apart_of zero seen (more b h under later) a l = absurd l
apart_of (suc d) seen (more b h under later) a l =
    let k = as_child b h (children_of under) in (
      absent_of b later (later_absent b (seen ++ (k ∷ [])) (children_of later) a.1 (λ x. absent_last b seen k x refl)),
      apart_of d [] under l.1 l.3,
      apart_of (suc d) (seen ++ (k ∷ [])) later a.1 l.4,
    )

short_of : (d : ℕ) (f : Forest) → Limits d f → Short d f
unfolding Limits
short_of d leaf l = tt
short_of zero (more b h under later) l = absurd l
short_of (suc d) (more b h under later) l = (short_of d under l.3, short_of (suc d) later l.4)

ascending_of : (b : ℕ) (f : Forest) → Rising b (children_of f) → Ascending b f
unfolding Rising children_of as_child
ascending_of b leaf r = tt
ascending_of b (more c h under later) r = (r.0, ascending_of (c + 1) later r.1)

kept_of : (f : Forest) → Up f → Kept f
kept_of f u h = ascending_of 0 f (u (omega (arith, count_siblings f)))

all_kept_of : (d : ℕ) (f : Forest) → Limits d f → AllKept f
unfolding Limits
all_kept_of d leaf l = tt
all_kept_of zero (more b h under later) l = absurd l
all_kept_of (suc d) (more b h under later) l = (kept_of under l.2, all_kept_of d under l.3, all_kept_of (suc d) later l.4)

pub shaped_of : (n : Node) → ListsFit n.lists → AllFit n.children → Fitting n → ShapedNode n
shaped_of n h a f =
    let c = n.children in
    record {
      lists = h;
      all_lists = a;
      bytes = in_bytes 16 c f.bytes f.limits;
      apart = apart_of 16 [] c f.distinct f.limits;
      short = short_of 16 c f.limits;
      kept = kept_of c f.up;
      all_kept = all_kept_of 16 c f.limits;
    }

-- ── numbers that were read ──

locations_fit : (s : List ℕ) → AllBytes s → (n at : ℕ) → LocationsFit (locations_in s n at)
unfolding locations_in
locations_fit s a zero at = tt
locations_fit s a (suc n) at = (le64_lt s at a, le64_lt s (at + 8) a, le64_lt s (at + 16) a, locations_fit s a n (at + 24))

lists_fit : (s : List ℕ) → AllBytes s → (at : ℕ) → ListsFit (lists_in s at)
unfolding lists_in
lists_fit s a at = record { prefixes = locations_fit s a _ _; chunks = locations_fit s a _ _; suffixes = locations_fit s a _ _ }

pub record NodeFits (n : Node) : Type 0 where
  pub lists : ListsFit n.lists
  pub all_lists : AllFit n.children

forest_fits : (T : ℕ → Node) → ((x : ℕ) → NodeFits (T x)) → (es : List Entry) → AllFit (forest_by T es)
unfolding forest_by
forest_fits T h [] = tt
forest_fits T h (e ∷ es) = ((h e.node).lists, (h e.node).all_lists, forest_fits T h es)

pub node_fits : (s : List ℕ) → AllBytes s → (d at : ℕ) → NodeFits (node_in s d at)
unfolding node_in
node_fits s a zero at = record { lists = lists_fit s a at; all_lists = tt }
node_fits s a (suc d) at = record { lists = lists_fit s a at; all_lists = forest_fits (node_in s d) (λ x. node_fits s a d x) (table_entries s at) }

-- ── counts ──

pub count_nodes : (f : Forest) → nodes_in (children_of f) ≡ forest_nodes f
unfolding nodes_in children_of as_child
count_nodes leaf = refl
count_nodes (more b h under later) = omega (arith, count_nodes under, count_nodes later)

pub count_entries : (f : Forest) → entries_in (children_of f) ≡ forest_entries f
unfolding entries_in children_of as_child
count_entries leaf = refl
count_entries (more b h under later) = omega (arith, count_entries under, count_entries later)

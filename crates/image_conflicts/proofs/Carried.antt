-- What the test of the index rule tells of chunks: they end at a number, and there are none below a node that has no suffixes. Assumes nothing.
use Prim.Native.Nat.{ℕ, suc, ◌+◌, ◌≤◌}
use native.Mathlib.Numerals.{add-one}
use mathlib.Core.Path.{◌≡◌, refl, sym, subst}
use mathlib.Core.Bool.{Bool, true, ◌&&◌}
use mathlib.Core.List.Memᴰ.{head as here}
use mathlib.Core.List.Memᴰ.{tail as later}
use mathlib.Core.List.{List, [], ◌∷◌}
use lib.Dec.{ltb, leb}
use borrow.Author.Tests.{leb-true}
use Rattle.definitions.specs.Location.{Location}
use Rattle.definitions.specs.Calls.{last_number}
use Rattle.definitions.proofs.Tests.{and_left, and_right, not_both}
use Rattle.trie.specs.Trie.{Lists, Forest, leaf, more, Node}
use Rattle.trie.specs.Test.{is_ascending, all_pass, and_list, all_ended, is_union, child_lists, is_owed, lists_right, node_right, next_fronts, front_lists, fronts_within, forest_right}
use Rattle.image_conflicts.specs.Due.{Ending, AllEnding}

-- no chunks at all
abbrev pub NoChunks : Forest → Type 0
NoChunks leaf = Unit {0}
NoChunks (more b h below behind) = (h.chunks ≡ []) × NoChunks below × NoChunks behind

-- so below each node that has no suffixes
abbrev pub Carried : Forest → Type 0
Carried leaf = Unit {0}
Carried (more b h below behind) = (h.suffixes ≡ [] → NoChunks below) × Carried below × Carried behind

-- ── the test, taken apart ──

-- a sibling: it is right, and so are those below it and behind it
record Right (fs : List Node) (d : ℕ) (b : ℕ) (h : Lists) (below behind : Forest) : Type 0 where
  passes : all_pass d h.chunks ≡ true
  union : is_union 0 h.suffixes (child_lists below) ≡ true
  under : forest_right (next_fronts b fs) (suc d) below ≡ true
  after : forest_right fs d behind ≡ true

right : (fs : List Node) (d b : ℕ) (h : Lists) (below behind : Forest) → forest_right fs d (more b h below behind) ≡ true → Right fs d b h below behind
right fs d b h below behind e = record {
  passes = and_right (is_ascending h.suffixes) (all_pass d h.chunks) (and_right (is_ascending h.chunks) _ (and_right (is_ascending h.prefixes) _ (and_left (lists_right d h) union lists)));
  union = and_right (lists_right d h) union lists;
  under = and_right (fronts_within (next_fronts b fs) below) under (and_right (node_right d h below) (fronts_within (next_fronts b fs) below && under) node);
  after = and_right this (forest_right fs d behind) e;
}
  where
    union : Bool
    union = is_union 0 h.suffixes (child_lists below)

    under : Bool
    under = forest_right (next_fronts b fs) (suc d) below

    prefixes : Bool
    prefixes = is_union 1 h.prefixes (front_lists (next_fronts b fs))

    this : Bool
    this = prefixes && (node_right d h below && (fronts_within (next_fronts b fs) below && under))

    node : (node_right d h below && (fronts_within (next_fronts b fs) below && under)) ≡ true
    node = and_right prefixes (node_right d h below && (fronts_within (next_fronts b fs) below && under)) (and_left this (forest_right fs d behind) e)

    lists : (lists_right d h && union) ≡ true
    lists = and_right (is_owed d h below) (lists_right d h && union) (and_left (node_right d h below) (fronts_within (next_fronts b fs) below && under) node)

-- ── chunks end at a number ──

pass_ending : (m : ℕ) (ls : List Location) → all_pass m ls ≡ true → Ending m ls
pass_ending m [] e x x3 = elim x3 [ ]
pass_ending m (l ∷ ls) e x (here q) = subst (λ (y : Location). y.address + m ≤ last_number) (sym q) (leb-true (l.address + m) last_number (and_left (leb (l.address + m) last_number) (all_pass m ls) (and_right (ltb l.created l.destroyed) (leb (l.address + m) last_number && all_pass m ls) e)))
pass_ending m (l ∷ ls) e x (later k) = pass_ending m ls (and_right (leb (l.address + m) last_number) (all_pass m ls) (and_right (ltb l.created l.destroyed) (leb (l.address + m) last_number && all_pass m ls) e)) x k

pub right_ending : (fs : List Node) (d : ℕ) (f : Forest) → forest_right fs d f ≡ true → AllEnding d f
right_ending fs d leaf e = tt
right_ending fs d (more b h below behind) e =
    let r = right fs d b h below behind e in
    (pass_ending d h.chunks r.passes, subst (λ (k : ℕ). AllEnding k below) (sym (add-one d)) (right_ending (next_fronts b fs) (suc d) below r.under), right_ending fs d behind r.after)

-- ── no chunks below no suffixes ──

ended : (ls : List Location) (lss : List (List Location)) → all_ended (and_list ls lss) ≡ true → (ls ≡ []) × (all_ended lss ≡ true)
ended [] lss e = (refl, e)
ended (l ∷ ls) lss e = absurd (not_both refl e)

-- siblings with neither chunk nor suffix
ended_none : (fs : List Node) (d : ℕ) (f : Forest) → forest_right fs d f ≡ true → all_ended (child_lists f) ≡ true → NoChunks f
ended_none fs d leaf e z = tt
ended_none fs d (more b h below behind) e z =
    let r = right fs d b h below behind e in
    let x = ended h.chunks (and_list h.suffixes (child_lists behind)) z in
    let y = ended h.suffixes (child_lists behind) x.1 in
    (x.0, ended_none (next_fronts b fs) (suc d) below r.under (subst (λ (ls : List Location). is_union 0 ls (child_lists below) ≡ true) y.0 r.union), ended_none fs d behind r.after y.1)

pub right_carried : (fs : List Node) (d : ℕ) (f : Forest) → forest_right fs d f ≡ true → Carried f
right_carried fs d leaf e = tt
right_carried fs d (more b h below behind) e =
    let r = right fs d b h below behind e in (
      (λ z. ended_none (next_fronts b fs) (suc d) below r.under (subst (λ (ls : List Location). is_union 0 ls (child_lists below) ≡ true) z r.union)),
      right_carried (next_fronts b fs) (suc d) below r.under,
      right_carried fs d behind r.after,
    )

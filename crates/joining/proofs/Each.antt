-- What `joins_each` hands over, by membership: what a location and a place that begins where it ends have in common. Assumes nothing.
use Prim.Native.Nat.{ℕ, ◌+◌}
use mathlib.Core.Path.{◌≡◌, refl, subst}
use mathlib.Core.Bool.{true}
use mathlib.Core.Logic.{◌⊎◌, inl, inr}
use mathlib.Core.List.Memᴰ.{append_cases}
use mathlib.Core.List.Memᴰ.{append_left}
use mathlib.Core.List.Memᴰ.{append_right}
use mathlib.Core.List.Memᴰ.{cast}
use mathlib.Core.List.Memᴰ.{head as here}
use mathlib.Core.List.Memᴰ.{tail as later}
use mathlib.Core.List.{List, [], ◌∷◌, ◌++◌, append_assoc, Memᴰ as Mem}
use Rattle.definitions.specs.Location.{Location, common}
use Rattle.definitions.specs.Places.{joins}
use Rattle.definitions.proofs.Views.{Join}
use Rattle.definitions.proofs.Joins.{joins_mem, mem_joins}
use Rattle.trie.specs.Find.{joins_each}
use Rattle.place_lookup.specs.Lookup.{Within}
use Rattle.place_lookup.proofs.Sets.{append_within}

-- x is what a location of ls and a place of ms have in common, which begins k bytes further on
pub record Pair (k : ℕ) (ls ms : List Location) (x : Location) : Type 0 where
  pub left : Location
  pub left_listed : Mem left ls
  pub right : Location
  pub right_listed : Mem right ms
  pub joined : Join true left (left.address + k) right
  pub is : x ≡ common left right

pub joins_each_mem : {x : Location} (k : ℕ) (ls ms : List Location) → Mem x (joins_each k ls ms) → Pair k ls ms x
joins_each_mem {x = x} k [] ms h = elim h [ ]
joins_each_mem {x} k (l ∷ ls) ms h = go (joins_each_mem k ls ms) (append_cases (joins l (l.address + k) ms) h)
  where
    on : Pair k ls ms x → Pair k (l ∷ ls) ms x
    on f = record { left = f.left; left_listed = later f.left_listed; right = f.right; right_listed = f.right_listed; joined = f.joined; is = f.is }

    go : (Mem x (joins_each k ls ms) → Pair k ls ms x) → Mem x (joins l (l.address + k) ms) ⊎ Mem x (joins_each k ls ms) → Pair k (l ∷ ls) ms x
    go ih (inl j) =
        let f = joins_mem l (l.address + k) ms j in
        record { left = l; left_listed = here refl; right = f.next; right_listed = f.listed; joined = f.joined; is = f.is }
    go ih (inr j) = on (ih j)

mem_joins_of : {x : Location} (k : ℕ) (ls ms : List Location) (l : Location) → Mem l ls → Mem x (joins l (l.address + k) ms) → Mem x (joins_each k ls ms)
mem_joins_of {x = x} k [] ms l x3 h = elim x3 [ ]
mem_joins_of {x} k (m ∷ ls) ms l (here e) h = append_left (joins_each k ls ms) (subst (λ (y : Location). Mem x (joins y (y.address + k) ms)) e h)
mem_joins_of k (m ∷ ls) ms l (later j) h = append_right (joins m (m.address + k) ms) (mem_joins_of k ls ms l j h)

pub mem_joins_each : {x : Location} (k : ℕ) (ls ms : List Location) → Pair k ls ms x → Mem x (joins_each k ls ms)
mem_joins_each k ls ms f =
    cast f.is (mem_joins_of k ls ms f.left f.left_listed (mem_joins f.left (f.left.address + k) ms f.right f.right_listed f.joined))

-- ── the members of both lists decide ──

pub each_within : (k : ℕ) (ls ls' ms ms' : List Location) → Within ls ls' → Within ms ms' → Within (joins_each k ls ms) (joins_each k ls' ms')
each_within k ls ls' ms ms' f g x h =
    let j = joins_each_mem k ls ms h in
    mem_joins_each k ls' ms'
    (record { left = j.left; left_listed = f j.left j.left_listed; right = j.right; right_listed = g j.right j.right_listed; joined = j.joined; is = j.is })

-- ── one list after another, on either side ──

module _ (k : ℕ) (ls ms ns : List Location) where
  pub each_places : Within (joins_each k ls (ms ++ ns)) (joins_each k ls ms ++ joins_each k ls ns)
  each_places x h = go (append_cases ms j.right_listed)
    where
      j : Pair k ls (ms ++ ns) x
      j = joins_each_mem k ls (ms ++ ns) h

      go : Mem j.right ms ⊎ Mem j.right ns → Mem x (joins_each k ls ms ++ joins_each k ls ns)
      go (inl i) =
          append_left (joins_each k ls ns)
          (mem_joins_each k ls ms (record { left = j.left; left_listed = j.left_listed; right = j.right; right_listed = i; joined = j.joined; is = j.is }))
      go (inr i) =
          append_right (joins_each k ls ms)
          (mem_joins_each k ls ns (record { left = j.left; left_listed = j.left_listed; right = j.right; right_listed = i; joined = j.joined; is = j.is }))

  pub places_each : Within (joins_each k ls ms ++ joins_each k ls ns) (joins_each k ls (ms ++ ns))
  places_each =
      append_within {xs = joins_each k ls ms} {ys = joins_each k ls ns}
      (each_within k ls ls ms (ms ++ ns) (λ x h. h) (λ x h. append_left ns h))
      (each_within k ls ls ns (ms ++ ns) (λ x h. h) (λ x h. append_right ms h))

pub each_append : (k : ℕ) (ls ls' ms : List Location) → joins_each k (ls ++ ls') ms ≡ joins_each k ls ms ++ joins_each k ls' ms
each_append k [] ls' ms = refl
each_append k (l ∷ ls) ls' ms =
    let r = each_append k ls ls' ms in
    rw (r, append_assoc)

-- ── nothing to join ──

-- no place begins where a location ends
pub none_joined : {x : Location} (k : ℕ) (ls ms : List Location) → ((l m : Location) → Mem l ls → Mem m ms → m.address ≡ l.address + k → ⊥) → Mem x (joins_each k ls ms) → ⊥
none_joined k ls ms f h =
    let j = joins_each_mem k ls ms h in
    f j.left j.right j.left_listed j.right_listed j.joined.0

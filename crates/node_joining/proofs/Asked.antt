-- What a query's facts give: what has one proof at most is taken out of them. Assumes nothing.
use Prim.Native.Nat.{ℕ, zero, suc, ◌+◌}
use mathlib.Core.Path.{◌≡◌}
use mathlib.Core.Logic.{∥∥₁_elim}
use Rattle.std.proofs.Props.{props}
use mathlib.Core.List.{List, [], ◌∷◌}
use Rattle.words.specs.Holding.{Holds}
use Rattle.definitions.specs.Location.{Location, Less, Sorted}
use Rattle.trie.specs.Trie.{Forest, leaf, more, lists_at}
use Rattle.trie.specs.Rule.{Absent, Apart, ListsSorted}
use Rattle.image_format.specs.Savable.{LocationsFit, AllFit, InBytes, Short, Ascending, AllKept}
use Rattle.image_walk.specs.Here.{NodeHere}
use Rattle.node_joining.specs.declared.Beyond.{Beyond}
use Rattle.node_joining.specs.Found.{rooted, ending_lists}
use Rattle.node_joining.specs.Layout.{Sound, Ending, EndingHere, ending_in}

holds_prop : (s : List ℕ) (at : ℕ) (xs : List ℕ) → IsProp (Holds s at xs)
unfolding Holds
holds_prop s at [] = hlevel props
holds_prop s at (x ∷ xs) = hlevel (props, holds_prop s (at + 1) xs)

fit_prop : (ls : List Location) → IsProp (LocationsFit ls)
fit_prop [] = hlevel props
fit_prop (l ∷ ls) = hlevel (props, fit_prop ls)

all_fit_prop : (f : Forest) → IsProp (AllFit f)
all_fit_prop leaf = hlevel props
all_fit_prop (more b h below later) = hlevel (props, fit_prop, all_fit_prop below, all_fit_prop later)

in_bytes_prop : (f : Forest) → IsProp (InBytes f)
in_bytes_prop leaf = hlevel props
in_bytes_prop (more b h below later) = hlevel (props, in_bytes_prop below, in_bytes_prop later)

absent_prop : (b : ℕ) (f : Forest) → IsProp (Absent b f)
absent_prop b leaf = hlevel props
absent_prop b (more c h below later) = hlevel (props, absent_prop b later)

apart_prop : (f : Forest) → IsProp (Apart f)
apart_prop leaf = hlevel props
apart_prop (more b h below later) = hlevel (props, absent_prop, apart_prop below, apart_prop later)

short_prop : (d : ℕ) (f : Forest) → IsProp (Short d f)
short_prop d leaf = hlevel props
short_prop zero (more b h below later) = hlevel props
short_prop (suc d) (more b h below later) = hlevel (props, short_prop d below, short_prop (suc d) later)

ascending_prop : (b : ℕ) (f : Forest) → IsProp (Ascending b f)
ascending_prop b leaf = hlevel props
ascending_prop b (more c h below later) = hlevel (props, ascending_prop (c + 1) later)

all_kept_prop : (f : Forest) → IsProp (AllKept f)
all_kept_prop leaf = hlevel props
all_kept_prop (more b h below later) = hlevel (props, ascending_prop, all_kept_prop below, all_kept_prop later)

sorted_prop : (ls : List Location) → IsProp (Sorted Less ls)
sorted_prop [] = hlevel props
sorted_prop (l ∷ ls) = hlevel (props, sorted_prop ls)

here_prop : (img : List ℕ) → IsProp (NodeHere img 16 0 (rooted img))
here_prop img = hlevel (props, holds_prop, fit_prop, all_fit_prop, in_bytes_prop, apart_prop, short_prop, ascending_prop, all_kept_prop)

-- ── a sound image ──

module _ {img : List ℕ} (sound : ∥ Sound img ∥₁) where
  pub sound_here : NodeHere img 16 0 (rooted img)
  sound_here = ∥∥₁_elim sound (here_prop img) (λ s. s.here)

  pub sound_sorted : (path : List ℕ) → ListsSorted (lists_at (rooted img) path)
  sound_sorted path = ∥∥₁_elim sound (hlevel (props, sorted_prop)) (λ s. s.rule.sorted path)

-- ── the places of the last byte ──

module _ {img path : List ℕ} {last : Beyond} (ending : ∥ Ending img path last ∥₁) where
  pub ending_here : EndingHere img last
  ending_here = ∥∥₁_elim ending (hlevel (props, sorted_prop)) (λ e. e.here)

  pub ending_are : ending_in img last ≡ ending_lists (lists_at (rooted img) path)
  ending_are = ∥∥₁_elim ending (hlevel props) (λ e. e.lists)

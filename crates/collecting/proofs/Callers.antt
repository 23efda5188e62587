-- What a caller goes by: that a node stands at an index, with more levels allowed than there are. Assumes nothing.
use Prim.Native.Nat.{ℕ, zero, suc, ◌≤◌}
use native.Mathlib.Omega.{arith}
use mathlib.Core.List.{List}
use mathlib.Core.Option.{Option}
use Rattle.trie.specs.Trie.{Forest, leaf, more, Node}
use Rattle.image_format.specs.Savable.{Short}
use Rattle.image_walk.specs.Here.{NodeHere, Laid, FoundAt}
use Rattle.collecting.specs.Collected.{Standing}

short_more : (d e : ℕ) (f : Forest) → d ≤ e → Short d f → Short e f
short_more d e leaf h k = tt
short_more zero e (more b x below later) h k = absurd k
short_more (suc d) zero (more b x below later) h k = absurd (omega arith)
short_more (suc d) (suc e) (more b x below later) h k = (short_more d e below (omega arith) k.0, short_more (suc d) (suc e) later h k.1)

-- at most d levels are at most e
pub here_more : {img : List ℕ} {d e at : ℕ} {n : Node} → d ≤ e → NodeHere img d at n → NodeHere img e at n
here_more {d = d} {e = e} {n = n} l h = record {
  holds = h.holds;
  within = h.within;
  small = h.small;
  lists = h.lists;
  all_lists = h.all_lists;
  bytes = h.bytes;
  apart = h.apart;
  short = short_more d e n.children l h.short;
  kept = h.kept;
  all_kept = h.all_kept;
}

pub standing_laid : {img : List ℕ} {d at : ℕ} → Standing img d at → Laid img at
standing_laid {d = d} h = record { depth = d; node = h.node; here = h.here }

pub standing_found : {img : List ℕ} {d at : ℕ} {o : Option Node} → FoundAt img d at o → Standing img d at
standing_found f = record { node = f.node; here = f.here }

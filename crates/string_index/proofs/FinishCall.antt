-- Finishing a memory as its definition says.
use Prim.Native.Nat.{ℕ}
use mathlib.Core.Path.{◌≡◌, sym, ap}
use mathlib.Core.List.{List}
use Rattle.index_memory.specs.Index.{Index, read_index}
use Rattle.string_index.specs.Finish.{finish_by, finish_memory}

pub finish_as : (m : List ℕ) (i : Index) → read_index m ≡ i → finish_by i m ≡ finish_memory m
unfolding finish_memory
finish_as m i e = ap (λ (x : Index). finish_by x m) (sym e)

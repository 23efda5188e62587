-- What holds of the kinds of a node. Assumes nothing.
use Rattle.std.specs.Prelude.{ℕ, ◌≤◌, ◌≡◌, true}
use Rattle.kinds.specs.Kinds.{fits, kind_of}

-- every count of children has its kind, and no other kind's range has it
abbrev pub SomeRange : Type 0
SomeRange = (n : ℕ) → n ≤ 256 → fits (kind_of n) n ≡ true

abbrev pub OneRange : Type 0
OneRange = (k n : ℕ) → fits k n ≡ true → (n ≤ 256) × (k ≡ kind_of n)

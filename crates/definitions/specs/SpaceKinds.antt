-- The code's kinds of a block by their numbers. Assumes nothing.
use Rattle.std.specs.Prelude.{ℕ, ◌≡◌, ◌<◌, Result, Ok, Err}
use Rattle.definitions.specs.declared.space_kind.SpaceKind.{SpaceKind}
use Rattle.definitions.specs.declared.space_kind.UnknownKind.{UnknownKind}
use Rattle.definitions.specs.declared.space_kind.SpaceKind.TheVariants as K

abbrev pub kind_number : SpaceKind → ℕ
kind_number K.Constant = 0
kind_number K.Memory = 1
kind_number K.Register = 2
kind_number K.Unique = 3
kind_number K.Other = 4

-- a number is that of the kind, or over the last and no kind's
abbrev pub Decodes : ℕ → Result SpaceKind UnknownKind → Type 0
Decodes n (Ok k) = kind_number k ≡ n
Decodes n (Err e) = (e.0 ≡ n) × (4 < n)

-- What reading a block answers and leaves. Assumes nothing.
use Rattle.std.specs.Prelude.{ℕ, List, [], ◌∷◌, length, set}
use Rattle.std.proofs.lemmas.List.Edits.{sets}
use Rattle.definitions.specs.BlockStream.{Read, block, nothing, refused}

-- the number of a refusal, 0 where there is none
abbrev pub stream_number : Read → ℕ
stream_number (block kind b next) = 0
stream_number nothing = 0
stream_number (refused n) = n

-- 1 and the block's fields; 0 alone at the stream's end; a refusal leaves them
abbrev pub with_fields : Read → List ℕ → List ℕ
with_fields (block kind b next) xs = sets xs 0 (1 ∷ kind ∷ b.at.address ∷ length b.bytes ∷ b.at.created ∷ b.at.destroyed ∷ next ∷ [])
with_fields nothing xs = set xs 0 0
with_fields (refused n) xs = xs

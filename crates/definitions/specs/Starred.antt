-- Document 01, "Recordings to try": the starred recordings 1 to 10 as one proved table. Assumes nothing.
use Rattle.std.specs.Prelude.{ℕ, ◌≡◌, refl, List, [], ◌∷◌, ◌++◌}
use Rattle.definitions.specs.Location.{location, normal}
use Rattle.definitions.specs.Blocks.{bytes_at, pieces}
use Rattle.definitions.specs.Calls.{fresh}
use Rattle.definitions.specs.Program.{Form, block, finish, find, Reply, taken, finished, place, end, refused, run, text, line, reply_line}

abbrev memory : List ℕ → ℕ → ℕ → ℕ → Form
memory bs a c d = block 1 (bytes_at bs a c d)

abbrev row : ℕ → ℕ → ℕ → Reply
row a c d = place (location a c d)

-- the document's sample, up to its query
abbrev pub sample : List Form
sample = memory (0x61 ∷ 0x62 ∷ 0x63 ∷ []) 100 10 50 ∷ memory (0x64 ∷ 0x65 ∷ []) 103 10 30 ∷ memory (0x64 ∷ 0x65 ∷ []) 103 30 50 ∷ finish ∷ []

-- 17 bytes, 00 to 10 hex
abbrev pub seventeen : List ℕ
seventeen = 0 ∷ 1 ∷ 2 ∷ 3 ∷ 4 ∷ 5 ∷ 6 ∷ 7 ∷ 8 ∷ 9 ∷ 10 ∷ 11 ∷ 12 ∷ 13 ∷ 14 ∷ 15 ∷ 16 ∷ []

pub record Entry : Type 0 where
  pub input : List Form
  pub output : List Reply

abbrev answered : List Reply → List Reply
answered rs = taken ∷ taken ∷ taken ∷ finished ∷ rs

abbrev pub starred : List Entry
starred =
    record { input = sample ++ (find (0x63 ∷ 0x64 ∷ []) ∷ []); output = answered (row 102 10 50 ∷ end 1 ∷ []) } ∷
    record { input = sample ++ (find (0x61 ∷ 0x62 ∷ 0x63 ∷ 0x64 ∷ 0x65 ∷ []) ∷ []); output = answered (row 100 10 50 ∷ end 1 ∷ []) } ∷
    record { input = sample ++ (find (0x64 ∷ []) ∷ []); output = answered (row 103 10 50 ∷ end 1 ∷ []) } ∷
    record { input = sample ++ (find [] ∷ []); output = answered (end 0 ∷ []) } ∷
    record { input = memory (0x61 ∷ 0x62 ∷ []) 0 1 5 ∷ memory (0x63 ∷ []) 2 5 9 ∷ finish ∷ find (0x61 ∷ 0x62 ∷ 0x63 ∷ []) ∷ []; output = taken ∷ taken ∷ finished ∷ end 0 ∷ [] } ∷
    record { input = memory (0x61 ∷ 0x61 ∷ 0x61 ∷ []) 10 1 4 ∷ finish ∷ find (0x61 ∷ 0x61 ∷ []) ∷ []; output = taken ∷ finished ∷ row 10 1 4 ∷ row 11 1 4 ∷ end 2 ∷ [] } ∷
    record { input = memory (0x61 ∷ []) 0 1 3 ∷ memory (0x61 ∷ []) 0 5 7 ∷ memory (0x62 ∷ []) 0 3 5 ∷ finish ∷ find (0x61 ∷ []) ∷ []; output = answered (row 0 1 3 ∷ row 0 5 7 ∷ end 2 ∷ []) } ∷
    record { input = memory seventeen 200 1 2 ∷ finish ∷ find (0x0f ∷ 0x10 ∷ []) ∷ []; output = taken ∷ finished ∷ row 215 1 2 ∷ end 1 ∷ [] } ∷
    record { input = memory (0x61 ∷ []) 0 5 5 ∷ memory (0x61 ∷ []) 0 5 6 ∷ []; output = refused 5 ∷ taken ∷ [] } ∷
    record { input = memory (0x61 ∷ []) 18446744073709551614 1 2 ∷ memory (0x61 ∷ []) 18446744073709551615 1 2 ∷ []; output = taken ∷ refused 6 ∷ [] } ∷ []

-- every entry of the table is answered as it says
abbrev Right : List Entry → Type 0
Right [] = Unit {0}
Right (e ∷ es) = (run fresh e.input ≡ e.output) × Right es

starred_right : Right starred
starred_right = (refl, (refl, (refl, (refl, (refl, (refl, (refl, (refl, (refl, (refl, tt))))))))))

-- equal addresses are looked up from the first on, in every list (docs/DIFFERENCES.md)
abbrev pub equal_addresses : List Entry
equal_addresses =
    record { input = memory (0x61 ∷ []) 0 1 9 ∷ memory (0x62 ∷ []) 1 1 3 ∷ memory (0x62 ∷ []) 1 3 5 ∷ finish ∷ find (0x61 ∷ 0x62 ∷ []) ∷ []; output = answered (row 0 1 5 ∷ end 1 ∷ []) } ∷
    record { input = memory (0x61 ∷ []) 0 1 3 ∷ memory (0x61 ∷ []) 0 3 5 ∷ memory (0x62 ∷ 0x63 ∷ []) 1 1 9 ∷ finish ∷ find (0x61 ∷ 0x62 ∷ 0x63 ∷ []) ∷ []; output = answered (row 0 1 5 ∷ end 1 ∷ []) } ∷
    record { input = memory (0x61 ∷ []) 0 1 9 ∷ memory (0x62 ∷ 0x63 ∷ []) 1 1 3 ∷ memory (0x62 ∷ []) 1 3 9 ∷ finish ∷ find (0x61 ∷ 0x62 ∷ []) ∷ []; output = answered (row 0 1 9 ∷ end 1 ∷ []) } ∷ []

equal_addresses_right : Right equal_addresses
equal_addresses_right = (refl, (refl, (refl, tt)))

-- recording 8's pieces: cut from the front, the hindmost first
pieces_from_the_front : pieces (bytes_at seventeen 200 1 2) ≡ bytes_at (16 ∷ []) 216 1 2 ∷ bytes_at (0 ∷ 1 ∷ 2 ∷ 3 ∷ 4 ∷ 5 ∷ 6 ∷ 7 ∷ 8 ∷ 9 ∷ 10 ∷ 11 ∷ 12 ∷ 13 ∷ 14 ∷ 15 ∷ []) 200 1 2 ∷ []
pieces_from_the_front = refl

-- the end is part of the order
ends_are_ordered : normal (location 0 1 3 ∷ location 0 1 2 ∷ []) ≡ location 0 1 2 ∷ location 0 1 3 ∷ []
ends_are_ordered = refl

-- the sample's lines, in and out
first_line : line (memory (0x61 ∷ 0x62 ∷ 0x63 ∷ []) 100 10 50) ≡ text "(block 1 100 10 50 (616263))"
first_line = refl

query_line : line (find (0x63 ∷ 0x64 ∷ [])) ≡ text "(find (6364))"
query_line = refl

row_line : reply_line (row 102 10 50) ≡ text "(place 102 10 50)"
row_line = refl

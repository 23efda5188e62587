-- A donation number and its check character (document 02, request 3; ISO/IEC 7064 MOD 37-2). Assumes nothing.
use Rattle.std.specs.Prelude.{ℕ, ◌+◌, ◌-◌, ◌*◌, ◌^◌, ◌%◌, Bool, true, cond, ◌&&◌, List, [], ◌∷◌, length, get_or, take, ltb, leb, eqb}

-- the value of a character: 0 to 9, 10 to 35 for A to Z, 36 for `*`; 37 where it is none of these
unfoldable pub value : ℕ → ℕ
value b =
    cond (leb 48 b && leb b 57) (b - 48)
    (cond (leb 65 b && leb b 90) (b - 55)
    (cond (eqb b 42) 36 37))

-- the values of typed characters
abbrev pub values : List ℕ → List ℕ
values [] = []
values (b ∷ bs) = value b ∷ values bs

-- whether each can stand in a number: its value is below 36
unfoldable pub characters : List ℕ → Bool
characters [] = true
characters (b ∷ bs) = ltb (value b) 36 && characters bs

-- value v at place p, from 1 to 13: an entry of the table
abbrev pub weighted : ℕ → ℕ → ℕ
weighted v p = v * 2 ^ (14 - p) % 37

-- the sum of values that stand at place p and behind it
unfoldable pub sum_from : ℕ → List ℕ → ℕ
sum_from p [] = 0
sum_from p (v ∷ vs) = weighted v p + sum_from (p + 1) vs

-- the check of a sum P
abbrev pub check : ℕ → ℕ
check P = (38 - P % 37) % 37

-- the check of the values of a number
abbrev pub check_of : List ℕ → ℕ
check_of vs = check (sum_from 1 vs)

-- the number in what was typed: its first 13 characters
abbrev pub number_in : List ℕ → List ℕ
number_in typed = take 13 typed

-- what was typed is right: 14 bytes, 13 characters of a number and one whose value is their check
unfoldable pub right : List ℕ → Bool
right typed =
    eqb (length typed) 14
    && characters (number_in typed)
    && eqb (value (get_or typed 13 0)) (check_of (values (number_in typed)))

-- What a reader may conclude of entries in line and of the order of pieces. Assumes nothing.
use Rattle.std.specs.Prelude.{ℕ, suc, ◌-◌, ◌≤◌, ◌<◌, ◌≡◌, true, false, cond, ◌↔◌, length, eqb}
use mathlib.Core.List.{List, [], ◌∷◌, ◌++◌, Memᴰ}
use Rattle.words.specs.Words.{bytes64}
use Rattle.definitions.specs.Location.{Location, meets, Sorted, Less}
use Rattle.definitions.specs.Blocks.{Block, Piece}
use Rattle.definitions.specs.Runs.{Alive}
use Rattle.definitions.specs.Conflicts.{end, conflicting, conflicts_with, free}
use Rattle.conflicts.specs.Lined.{in_line, earlier, first_from, lives_among, Lined}
use Rattle.conflicts.specs.Order.{Entry, enter_all, ordered, entries_bytes, nth, loc, entry}

-- ── entries in line ──

-- entries that live are in line exactly if each is ahead of the next
abbrev pub InLineIs : Type 0
InLineIs = (n : ℕ) (at : ℕ → Location) → ((i : ℕ) → i < n → (at i).created < (at i).destroyed) → (in_line at (n - 1) ≡ true) ↔ Lined n at

-- the entries from i on and before q come before address b and tick c, those from q on and below n do not
pub record FirstFrom (n : ℕ) (at : ℕ → Location) (i b c q : ℕ) : Type 0 where
  pub low : i ≤ q
  pub high : q ≤ n
  pub before : (j : ℕ) → i ≤ j → j < q → earlier (at j) b c ≡ true
  pub after : (j : ℕ) → q ≤ j → j < n → earlier (at j) b c ≡ false

-- in entries in line, one number alone is the first
abbrev pub FirstFromIs : Type 0
FirstFromIs = (n : ℕ) (at : ℕ → Location) → Lined n at → (i b c : ℕ) → i ≤ n → FirstFrom n at i b c (first_from at (n - i) i b c)

abbrev pub FirstFromOne : Type 0
FirstFromOne = (n : ℕ) (at : ℕ → Location) (i b c q : ℕ) → FirstFrom n at i b c q → q ≡ first_from at (n - i) i b c

-- an entry from i on and below n at an address below `end` that lives together with x
pub record LivesAmong (n : ℕ) (at : ℕ → Location) (i : ℕ) (x : Location) (end : ℕ) : Type 0 where
  pub index : ℕ
  pub low : i ≤ index
  pub high : index < n
  pub below : (at index).address < end
  pub is : meets x (at index) ≡ true

abbrev pub LivesAmongIs : Type 0
LivesAmongIs = (n : ℕ) (at : ℕ → Location) (i : ℕ) (x : Location) (end : ℕ) → i ≤ n → (lives_among at (n - i) i x end ≡ true) ↔ LivesAmong n at i x end

-- at no address inside a piece does another of them live together with it
abbrev pub NoneInside : ℕ → (ℕ → Piece) → Type 0
NoneInside n e = (x y : ℕ) → x < n → y < n → (e x).at.address < (e y).at.address → (e y).at.address < end (e x) → meets (e x).at (e y).at ≡ false

-- no two of them conflict
abbrev pub Numbered : ℕ → (ℕ → Piece) → Type 0
Numbered n e = (i j : ℕ) → i < j → j < n → conflicting (e i) (e j) ≡ false

-- pieces in line, each with a byte, are free of conflicts exactly if none lives inside another
abbrev pub LinedFree : Type 0
LinedFree = (n : ℕ) (e : ℕ → Piece) → Lined n (λ i. (e i).at) → ((i : ℕ) → i < n → 0 < length (e i).bytes) → Numbered n e ↔ NoneInside n e

-- ── the order of pieces ──

-- how many of the pieces have a byte
unfoldable pub filled : List Piece → ℕ
filled [] = 0
filled (p ∷ ps) = cond (eqb (length p.bytes) 0) (filled ps) (suc (filled ps))

-- an entry has the number of its piece, which has a byte
pub record Entered (ps : List Piece) (e : Entry) : Type 0 where
  pub inside : e.number < length ps
  pub piece : nth ps e.number ≡ e.piece
  pub some : 0 < length e.piece.bytes

abbrev pub OrderedEntered : Type 0
OrderedEntered = (ps : List Piece) (i : ℕ) → i < length (ordered ps) → Entered ps (entry (ordered ps) i)

-- there are as many as have a byte
abbrev pub OrderedCount : Type 0
OrderedCount = (ps : List Piece) → length (ordered ps) ≡ filled ps

-- pieces behind others are entered behind them
abbrev pub OrderedAppend : Type 0
OrderedAppend = (ps new : List Piece) → ordered (ps ++ new) ≡ enter_all (length ps) new (ordered ps)

-- as many different numbers of pieces with a byte, in line, are the order
abbrev pub OrderedOne : Type 0
OrderedOne =
    (ps : List Piece) (num : ℕ → ℕ) → ((i : ℕ) → i < filled ps → num i < length ps) → ((i : ℕ) → i < filled ps → 0 < length (nth ps (num i)).bytes)
    → Lined (filled ps) (λ i. (nth ps (num i)).at) → (i : ℕ) → i < filled ps → (entry (ordered ps) i).number ≡ num i

-- the order of pieces free of conflicts is in line
abbrev pub OrderedLined : Type 0
OrderedLined = (ps : List Piece) → Alive ps → free ps ≡ true → Lined (length (ordered ps)) (λ i. (entry (ordered ps) i).piece.at)

-- pieces whose order is in line are free of conflicts exactly if none lives inside another
abbrev pub OrderedFree : Type 0
OrderedFree =
    (ps : List Piece) → Lined (length (ordered ps)) (λ i. (entry (ordered ps) i).piece.at)
    → (free ps ≡ true) ↔ NoneInside (length (ordered ps)) (λ i. (entry (ordered ps) i).piece)

-- an entry whose piece conflicts with x
pub record Struck (x : Block) (es : List Entry) : Type 0 where
  pub index : ℕ
  pub inside : index < length es
  pub is : conflicting x (entry es index).piece ≡ true

-- a block conflicts with pieces exactly if it does with one of the order
abbrev pub OrderedStruck : Type 0
OrderedStruck = (ps : List Piece) (x : Block) → (conflicts_with x ps ≡ true) ↔ Struck x (ordered ps)

-- ── the certificate ──

-- number and own end of each entry
unfoldable pub own_bytes : List Entry → List ℕ
own_bytes [] = []
own_bytes (e ∷ es) = bytes64 e.number ++ (bytes64 e.piece.at.destroyed ++ own_bytes es)

-- in line, the greatest end so far is the entry's own
abbrev pub OwnEnds : Type 0
OwnEnds = (es : List Entry) → Lined (length es) (λ i. (entry es i).piece.at) → entries_bytes 0 0 es ≡ own_bytes es

-- ── images ──

-- a piece of the list at l
pub record PieceAt (ps : List Piece) (l : Location) : Type 0 where
  pub piece : Piece
  pub listed : Memᴰ piece ps
  pub is : piece.at ≡ l

-- ls has the locations of pieces that have a byte and a life, sorted, each once
pub record Locations (ps : List Piece) (ls : List Location) : Type 0 where
  pub sorted : Sorted Less ls
  pub to : (p : Piece) → Memᴰ p ps → Memᴰ p.at ls
  pub fro : (l : Location) → Memᴰ l ls → PieceAt ps l
  pub some : (p : Piece) → Memᴰ p ps → 0 < length p.bytes
  pub alive : Alive ps

-- as many pieces as locations, the locations in line, and none inside a piece lives together with it
pub record ClearImage (ps : List Piece) (ls : List Location) : Type 0 where
  pub count : length ps ≡ length ls
  pub lined : Lined (length ls) (loc ls)
  pub inside : (p : Piece) → Memᴰ p ps → (i : ℕ) → i < length ls → p.at.address < (loc ls i).address → (loc ls i).address < end p → meets p.at (loc ls i) ≡ false

-- pieces are free of conflicts exactly so
abbrev pub LocationsFree : Type 0
LocationsFree = (ps : List Piece) (ls : List Location) → Locations ps ls → (free ps ≡ true) ↔ ClearImage ps ls

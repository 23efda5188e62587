-- Entries in line, address by address, and those of them that live together. Assumes nothing.
use Rattle.std.specs.Prelude.{ℕ, ◌≤◌, ◌<◌, ◌≡◌, Bool, true, false}
use Rattle.definitions.specs.Location.{Location, meets}

-- of n entries those from g to e - 1 are all that stand at one address from g on
pub record Group (n : ℕ) (at : ℕ → Location) (g e : ℕ) : Type 0 where
  pub low : g < e
  pub high : e ≤ n
  pub same : (k : ℕ) → g ≤ k → k < e → (at k).address ≡ (at g).address
  pub past : e < n → (at g).address < (at e).address

-- none of the entries from i to e - 1 ends beyond an address
abbrev pub NoneBeyond : (ℕ → ℕ) → (i e address : ℕ) → Type 0
NoneBeyond end i e address = (j : ℕ) → i ≤ j → j < e → end j ≤ address

-- the entries from q to r - 1 are created before a tick, and entry r is not, or is h
pub record CreatedBefore (at : ℕ → Location) (q h tick r : ℕ) : Type 0 where
  pub low : q ≤ r
  pub high : r ≤ h
  pub before : (k : ℕ) → q ≤ k → k < r → (at k).created < tick
  pub after : r < h → tick ≤ (at r).created

-- one of the entries from i to e - 1 lives together with one of those from g to h - 1 at an address before its end
pub record Meeting (at : ℕ → Location) (end : ℕ → ℕ) (i e g h : ℕ) : Type 0 where
  pub one : ℕ
  pub other : ℕ
  pub from_one : i ≤ one
  pub upto_one : one < e
  pub from_other : g ≤ other
  pub upto_other : other < h
  pub below : (at other).address < end one
  pub is : meets (at one) (at other) ≡ true

-- whether there is none
abbrev pub Apart : Bool → (ℕ → Location) → (ℕ → ℕ) → (i e g h : ℕ) → Type 0
Apart true at end i e g h = Meeting at end i e g h → ⊥
Apart false at end i e g h = Meeting at end i e g h

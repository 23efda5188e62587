-- Where a vector of the images' file leads. Assumes nothing.
use Rattle.std.specs.Prelude.{ℕ, ◌+◌, ◌-◌, min, Bool, cond, List, length, get_or, set, take, drop, eqb, Option}
use Rattle.words.specs.Words.{le64}
use Rattle.image_format.specs.Reading.{Layout}
use Rattle.image_format.specs.Check.{check_image}
use Rattle.test_image_vectors.specs.Said.{Saying, said_in, said_after, said_whole}
use Rattle.test_image_vectors.specs.declared.Cursor.{Cursor}
use Rattle.test_image_vectors.specs.declared.page.Said.{Said}

-- where the next vector begins, the image that was judged last, and what was said last
pub record Reached : Type 0 where
  pub at : ℕ
  pub start : ℕ
  pub len : ℕ
  pub said : Option Saying

abbrev pub reached : Cursor → Option Said → Reached
reached c last = record { at = c.at; start = c.start; len = c.len; said = said_in last }

-- so many bytes from an index on
abbrev pub part : List ℕ → ℕ → ℕ → List ℕ
part s start len = take len (drop start s)

-- what is said of a part with another byte at an index; an index behind it changes nothing
unfoldable pub damaged_layout : List ℕ → ℕ → ℕ → ℕ → ℕ → Layout
damaged_layout s start len index byte = check_image (set (part s start len) index byte)

-- mode 2: an index and a byte for the image that was judged last
unfoldable pub after_damaged : List ℕ → Reached → Reached
after_damaged s c = record {
  at = c.at + 10;
  start = c.start;
  len = c.len;
  said = said_after c.said (damaged_layout s c.start c.len (le64 s (c.at + 1)) (get_or s (c.at + 9) 0));
}

-- the length of the image behind an index, at most the bytes that are left
abbrev pub image_length : List ℕ → ℕ → ℕ
image_length s at = min (le64 s (at + 1)) (length s - (at + 9))

-- modes 0 and 1: a length and an image
unfoldable pub after_whole : List ℕ → Reached → Bool → Reached
after_whole s c parts = record {
  at = c.at + 9 + image_length s c.at;
  start = c.at + 9;
  len = image_length s c.at;
  said = said_whole (part s (c.at + 9) (image_length s c.at)) c.said parts;
}

-- one vector: its mode is the first byte
unfoldable pub after_vector : List ℕ → Reached → Reached
after_vector s c = cond (eqb (get_or s c.at 0) 2) (after_damaged s c) (after_whole s c (eqb (get_or s c.at 0) 1))

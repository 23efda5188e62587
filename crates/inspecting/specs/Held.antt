-- What an inspection answers is what the memory holds. Assumes nothing.
use Rattle.std.specs.Prelude.{ℕ, ◌+◌, ◌≤◌, ◌≡◌, Bool, true, cond, List, length, Result, Ok, Err}
use Rattle.definitions.specs.Calls.{header_size}
use Rattle.definitions.specs.declared.refusal.Refusal.{Refusal}
use Rattle.definitions.specs.declared.refusal.Refusal.TheVariants.{IndexRuleBroken}
use Rattle.image_format.specs.Held.{trie_in}
use Rattle.image_format.specs.Reading.{right}
use Rattle.image_format.specs.Check.{check_image}
use Rattle.memory_header.specs.Layout.{Header, header_at}
use Rattle.memory_header.specs.Answers.{header_of}
use Rattle.index_memory.specs.Log.{log_in}
use Rattle.index_memory.specs.Index.{Index, broken, opened, finished, image_part, finished_index, read_index}
use Rattle.inspecting.specs.declared.Held.{Held}
use Rattle.inspecting.specs.declared.Held.TheVariants.{Open, Finished}

-- an image that passes the whole test
pub record AcceptedImage (s : List ℕ) : Type 0 where
  pub nodes : ℕ
  pub entries : ℕ
  pub is : right nodes entries ≡ check_image s

-- a finished index that is right has the trie of its image
pub record SaysImage (m : List ℕ) (h : Header) (r : Bool) : Type 0 where
  pub is : finished_index m h ≡ cond r (finished h.capacity (trie_in (image_part m h))) broken
  pub tested : r ≡ true → AcceptedImage (image_part m h)

-- the index that an answer stands for
abbrev pub held_in : List ℕ → Result Held Refusal → Index
held_in m (Ok (Open h)) = opened (header_of h).capacity (log_in m h.payload header_size)
held_in m (Ok (Finished h)) = finished (header_of h).capacity (trie_in (image_part m (header_of h)))
held_in m (Err r) = broken

-- the header is that of the memory, and the image behind it passed the test and lies within the memory
pub record ImageIn (m : List ℕ) (h : Header) : Type 0 where
  pub header : header_at m ≡ h
  pub tested : AcceptedImage (image_part m h)
  pub within : header_size + h.payload ≤ length m

-- the header is that of the memory, in both cases; what holds no index breaks the index rule
abbrev pub Told : List ℕ → Result Held Refusal → Type 0
Told m (Ok (Open h)) = header_at m ≡ header_of h
Told m (Ok (Finished h)) = ImageIn m (header_of h)
Told m (Err r) = r ≡ IndexRuleBroken

pub record Inspects (m : List ℕ) (r : Result Held Refusal) : Type 0 where
  pub holds : read_index m ≡ held_in m r
  pub told : Told m r

-- The tails of a log, sorted in the work area: what is asked, and what is left. Assumes nothing.
use Rattle.std.specs.Prelude.{ℕ, ◌+◌, ◌*◌, ◌≤◌, ◌<◌, ◌≡◌, ◌⊎◌, List, length, get_or}
use Rattle.records.specs.Records.{sorted}
use Rattle.trie.specs.Build.{entered_all}
use Rattle.index_memory.specs.Log.{log_in}
use Rattle.tails.specs.Tails.{numbered, tail_records}
use Rattle.tail_words.specs.Tail.{tails_in, Held}
use Rattle.tail_records.specs.Log.{SoundLog}

-- how many tails a log has
abbrev pub tail_count : List ℕ → ℕ → ℕ
tail_count s pieces = length (entered_all (log_in s pieces 64))

pub record TailsAsked (s : List ℕ) (pieces work : ℕ) : Type 0 where
  pub sound : SoundLog s pieces 64
  pub before : 64 + 48 * pieces ≤ work
  pub room : work + 56 * tail_count s pieces ≤ length s

-- s' is s with the n sorted tails of its log from byte `work` on
pub record TailsSorted (s s' : List ℕ) (pieces work n : ℕ) : Type 0 where
  pub count : n ≡ tail_count s pieces
  pub tails : tail_records (tails_in s' work 0 n) ≡ sorted (tail_records (numbered 0 (entered_all (log_in s pieces 64))))
  pub held : Held s' work 0 n
  pub long : length s' ≡ length s
  pub kept : (k : ℕ) → (k < work) ⊎ (work + 56 * n ≤ k) → get_or s' k 0 ≡ get_or s k 0

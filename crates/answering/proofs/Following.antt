-- The memory that the program opens answers each line as document 01 does: it follows what was recorded. Assumes nothing.
use Prim.Native.Nat.{ℕ, ◌≤◌}
use mathlib.Core.Path.{◌≡◌, refl, sym, ap, ◌∙◌}
use mathlib.Core.Bool.{Bool, true, false, cond}
use mathlib.Core.List.{List, [], ◌∷◌, ◌++◌}
use mathlib.Core.Option.{Option, none, some}
use lib.ListN.{length}
use lib.Dec.{ltb, eqb}
use borrow.Author.Tests.{le-ltb, ne_eqb}
use Rattle.definitions.specs.Location.{Location}
use Rattle.definitions.specs.Blocks.{Block, Piece, pieces, pieces_of, memory_kind}
use Rattle.definitions.specs.Places.{places_counted}
use Rattle.definitions.specs.Rows.{rows}
use Rattle.definitions.specs.Causes.{Cause, number, query_too_long, scratch_too_small, too_many_rows, first_cause}
use Rattle.definitions.specs.Calls.{Recorded, fresh, Standing, record_checks, search_checks, needed}
use Rattle.definitions.specs.Recording.{record_block}
use Rattle.definitions.specs.Recording as C
use Rattle.definitions.specs.Program.{Form, block, finish, find, Reply, taken, finished, refused, found, or_refused, form_replies, replies, program_capacity}
use Rattle.definitions.proofs.Chains.{SamePieces, rows_by_set}
use Rattle.definitions.proofs.Checks.{number_some}
use Rattle.trie.specs.Trie.{trie_pieces}
use Rattle.trie.specs.Build.{trie_of}
use Rattle.index_memory.specs.Index.{Index, opened, standing_of, read_index}
use Rattle.index_memory.specs.Index as I
use Rattle.memory_header.specs.Opening.{open_memory, unless_refused}
use Rattle.recording.specs.Record.{appended, record_by, record_memory}
use Rattle.finding.specs.Find.{rows_or_refused, find_by, find_memory}
use Rattle.string_index.specs.Finish.{finish_by, finish_memory}
use Rattle.demand.proofs.Following.{Followed, followed_start, followed_on, followed_pieces}
use Rattle.forms.specs.ReadLine.{read_line}
use Rattle.forms.specs.Answers.{Is}
use Rattle.forms.proofs.Lines.{read_line_is}
use Rattle.lines.specs.Cut.{lines_of}
use Rattle.answering.specs.Program.{after_form, line_replies}
use Rattle.replies.specs.Replies.{replies_bytes}
use Rattle.form_answers.specs.Memory.{unless_number, found_replies, form_answer, memory_after_form, line_answer, memory_after_line, lines_answer}
use Rattle.answering.specs.Parts.{all_of}
use Rattle.answering.specs.Promises.{MemoryAnswers, PartsProgram}
use Rattle.row_replies.proofs.PlaceReplies.{replies_append}
use Rattle.definitions.proofs.Counted.{counted_by_set}
use Rattle.answering.proofs.Cutting.{parts_answered}

-- ── a refusal by its number and by its cause ──

number_tells : (c : Cause) (rs : List Reply) → unless_number (number c) rs ≡ refused (number c) ∷ []
number_tells c rs = rw (ne_eqb (number c) 0 (number_some c)) refl

recorded_tells : (o : Option Cause) (m n : List ℕ) (rs : List Reply) → unless_number (unless_refused o m n).refusal rs ≡ or_refused o rs
recorded_tells none m n rs = refl
recorded_tells (some c) m n rs = number_tells c rs

found_tells : (o : Option Cause) (ls : List Location) → found_replies (rows_or_refused o ls) ≡ or_refused o (found ls)
found_tells none ls = refl
found_tells (some c) ls = number_tells c (found [])

-- ── each form ──

-- the pieces of what was taken, and of the trie that a finished memory holds
abbrev taken_pieces : Recorded → List Piece
taken_pieces s = pieces_of s.blocks

abbrev held_pieces : Recorded → List Piece
held_pieces s = trie_pieces (trie_of (pieces_of s.blocks))

-- what a memory holds that is open or finished
abbrev index_held : Recorded → Bool → Index
index_held s o = cond o (I.finished program_capacity (trie_of (pieces_of s.blocks))) (opened program_capacity (pieces_of s.blocks))

-- what the checks look at
abbrev standing_as : Recorded → Bool → Standing
standing_as s o = record { broken = false; finished = o; capacity = program_capacity; pieces = pieces_of s.blocks }

-- what decides a search of a finished index, by its places and its rows
abbrev decided : List ℕ → ℕ → List Location → List Reply
decided q n ls =
    or_refused
    (first_cause
    (record { applies = ltb 256 (length q); cause = query_too_long } ∷
    record { applies = ltb 256 n; cause = scratch_too_small } ∷
    record { applies = ltb 64 (length ls); cause = too_many_rows } ∷ []))
    (found ls)

module _ (s : Recorded) (m : List ℕ) (w : Followed program_capacity s m) where
  -- what is open or finished decides
  held : (o : Bool) → s.finished ≡ o → read_index m ≡ index_held s o
  held o e = w.holds_it ∙ ap (index_held s) e

  record_follows : (kind : ℕ) (b : Block) → form_answer m (some (block kind b)) ≡ replies s (block kind b)
  unfolding record_memory
  record_follows kind b = go s.finished refl
    where
      both : (o : Bool) → unless_number (record_by (index_held s o) m kind b).refusal (taken ∷ []) ≡ or_refused (first_cause (record_checks (standing_as s o) kind b)) (taken ∷ [])
      both true = refl
      both false =
          recorded_tells (first_cause (record_checks (standing_as s false) kind b)) m
          (cond (eqb kind memory_kind) (appended m program_capacity (taken_pieces s) (pieces b)) m) (taken ∷ [])

      go : (o : Bool) → s.finished ≡ o → unless_number (record_by (read_index m) m kind b).refusal (taken ∷ []) ≡ replies s (block kind b)
      go o e =
          ap (λ (i : Index). unless_number (record_by i m kind b).refusal (taken ∷ [])) (held o e) ∙ both o
          ∙ ap (λ (x : Bool). or_refused (first_cause (record_checks (standing_as s x) kind b)) (taken ∷ [])) (sym e)

  finish_follows : form_answer m (some finish) ≡ replies s finish
  unfolding finish_memory
  finish_follows = go s.finished refl
    where
      both : (o : Bool) → unless_number (finish_by (index_held s o) m).refusal (finished ∷ []) ≡ finished ∷ []
      both true = refl
      both false = refl

      go : (o : Bool) → s.finished ≡ o → unless_number (finish_by (read_index m) m).refusal (finished ∷ []) ≡ finished ∷ []
      go o e = ap (λ (i : Index). unless_number (finish_by i m).refusal (finished ∷ [])) (held o e) ∙ both o

  find_follows : (q : List ℕ) → form_answer m (some (find q)) ≡ replies s (find q)
  unfolding find_memory
  find_follows q = go s.finished refl
    where
      same : SamePieces (held_pieces s) (taken_pieces s)
      same = followed_pieces program_capacity s m w

      both : (o : Bool) → found_replies (find_by (index_held s o) q 6144 64) ≡ or_refused (first_cause (search_checks (standing_as s o) q 256 64)) (found (rows (taken_pieces s) q))
      both true =
          found_tells (first_cause (search_checks (standing_of (index_held s true)) q 256 64)) (rows (held_pieces s) q)
          ∙ ap (decided q (places_counted (held_pieces s) q)) (rows_by_set (held_pieces s) (taken_pieces s) same q)
          ∙ ap (λ (n : ℕ). decided q n (rows (taken_pieces s) q)) (counted_by_set (held_pieces s) (taken_pieces s) same q)
      both false = refl

      go : (o : Bool) → s.finished ≡ o → found_replies (find_by (read_index m) q 6144 64) ≡ replies s (find q)
      go o e =
          ap (λ (i : Index). found_replies (find_by i q 6144 64)) (held o e) ∙ both o
          ∙ ap (λ (x : Bool). or_refused (first_cause (search_checks (standing_as s x) q 256 64)) (found (rows (taken_pieces s) q))) (sym e)

-- ── line by line ──

-- the answer to a line, and that the memory follows on
record Line (s : Recorded) (m : List ℕ) (o : Option Form) : Type 0 where
  answer : form_answer m o ≡ form_replies s o
  follows : Followed program_capacity (after_form s o) (memory_after_form m o)

line_follows : (s : Recorded) (m l : List ℕ) (o : Option Form) → Is l o → Followed program_capacity s m → Line s m o
line_follows s m l none i w = record { answer = refl; follows = w }
line_follows s m l (some (block kind b)) i w = record {
  answer = record_follows s m w kind b;
  follows = followed_on program_capacity s m (record_block kind b) (record { bytes = i.fits.4; address = i.fits.1; created = i.fits.2; destroyed = i.fits.3 }) w;
}
line_follows s m l (some finish) i w = record { answer = finish_follows s m w; follows = followed_on program_capacity s m C.finish tt w }
line_follows s m l (some (find q)) i w = record { answer = find_follows s m w q; follows = w }

lines_follow : (ls : List (List ℕ)) (s : Recorded) (m : List ℕ) → Followed program_capacity s m → lines_answer m ls ≡ replies_bytes (line_replies s ls)
unfolding lines_answer line_answer memory_after_line line_replies
lines_follow [] s m w = refl
lines_follow (l ∷ ls) s m w =
    let k : Line s m (read_line l) = line_follows s m l (read_line l) (read_line_is l) w in
    let r : lines_answer (memory_after_form m (read_line l)) ls ≡ replies_bytes (line_replies (after_form s (read_line l)) ls) = lines_follow ls (after_form s (read_line l)) (memory_after_form m (read_line l)) k.follows in
    ap (λ (x : List Reply). replies_bytes x ++ lines_answer (memory_after_form m (read_line l)) ls) k.answer
    ∙ ap (λ (x : List ℕ). replies_bytes (form_replies s (read_line l)) ++ x) r
    ∙ sym (replies_append (form_replies s (read_line l)) (line_replies (after_form s (read_line l)) ls))

-- the capacity of the program is in range
opens : (m : List ℕ) → needed program_capacity ≤ length m → (open_memory m program_capacity).refusal ≡ 0
unfolding open_memory
opens m h = rw (le-ltb (length m) 105664 h) refl

pub memory_answers : MemoryAnswers
memory_answers m input h = lines_follow (lines_of input) fresh (open_memory m program_capacity).memory (followed_start program_capacity m (opens m h))

pub parts_program : PartsProgram
parts_program m ps h = parts_answered (open_memory m program_capacity).memory ps ∙ memory_answers m (all_of ps) h

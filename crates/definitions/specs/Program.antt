-- Document 01, "The program `places`": the forms of a line, and what each is answered. Assumes nothing.
use Rattle.std.specs.Prelude.{ℕ, zero, suc, ◌+◌, ◌/◌, ◌%◌, ◌≤◌, ◌<◌, ◌≡◌, Bool, true, false, not, cond, length, ltb}
use Prim.Native.Char.{code}
use Prim.Native.String.{String, [] as empty, ◌∷◌ as ◌then◌}
use mathlib.Core.List.{List, [], ◌∷◌, ◌++◌, Memᴰ}
use Rattle.std.proofs.Math.Option.{Option, none, some}
use Rattle.definitions.specs.Location.{Location}
use Rattle.definitions.specs.Blocks.{Block, pieces_of}
use Rattle.definitions.specs.Rows.{rows}
use Rattle.definitions.specs.Causes.{Cause, number, no_form, Check, first_cause}
use Rattle.definitions.specs.Calls.{Capacity, Recorded, record_answer, recorded, finished_now, search_answer, last_number}

-- ── text ──

abbrev pub text : String → List ℕ
text empty = []
text (c then s) = code c ∷ text s

-- decimals without leading zeros; n digits are enough
abbrev pub digits : ℕ → ℕ → List ℕ
digits zero x = []
digits (suc n) x = cond (ltb x 10) ((48 + x) ∷ []) (digits n (x / 10) ++ ((48 + x % 10) ∷ []))

-- a number below 2^64 has at most 20 digits
abbrev pub decimal : ℕ → List ℕ
decimal x = digits 20 x

-- a lower_case hexadecimal digit
abbrev pub hex_digit : ℕ → ℕ
hex_digit d = cond (ltb d 10) (48 + d) (87 + d)

-- lower_case hex pairs or none
abbrev pub hex : List ℕ → List ℕ
hex [] = []
hex (b ∷ bs) = hex_digit (b / 16) ∷ hex_digit (b % 16) ∷ hex bs

-- ── forms ──

pub data Form : Type 0 where
  block : (kind : ℕ) → Block → Form
  finish : Form
  find : List ℕ → Form

-- the line of a form, without its newline: single spaces
abbrev pub line : Form → List ℕ
line (block kind b) =
    text "(block " ++ decimal kind ++ text " " ++ decimal b.at.address ++ text " " ++ decimal b.at.created ++ text " " ++
    decimal b.at.destroyed ++ text " (" ++ hex b.bytes ++ text "))"
line finish = text "(finish)"
line (find q) = text "(find (" ++ hex q ++ text "))"

abbrev pub line_limit : ℕ
line_limit = 1024

abbrev pub Bytes : List ℕ → Type 0
Bytes bs = (b : ℕ) → Memᴰ b bs → b < 256

-- numbers below 2^64, bytes below 256
abbrev pub Fits : Form → Type 0
Fits (block kind b) = (kind ≤ last_number) × (b.at.address ≤ last_number) × (b.at.created ≤ last_number) × (b.at.destroyed ≤ last_number) × Bytes b.bytes
Fits finish = Unit {0}
Fits (find q) = Bytes q

-- a line, without its newline, is this form; a line that is no form is refused with 17
pub record IsForm (l : List ℕ) (f : Form) : Type 0 where
  pub short : length l ≤ line_limit
  pub fits : Fits f
  pub is : l ≡ line f

-- ── answers ──

pub data Reply : Type 0 where
  taken : Reply
  finished : Reply
  place : Location → Reply
  end : ℕ → Reply
  refused : ℕ → Reply

abbrev pub reply_line : Reply → List ℕ
reply_line taken = text "(taken)"
reply_line finished = text "(finished)"
reply_line (place l) = text "(place " ++ decimal l.address ++ text " " ++ decimal l.created ++ text " " ++ decimal l.destroyed ++ text ")"
reply_line (end n) = text "(end " ++ decimal n ++ text ")"
reply_line (refused n) = text "(refused " ++ decimal n ++ text ")"

abbrev pub program_capacity : Capacity
program_capacity = record { nodes = 1000; entries = 400 }

abbrev pub program_places : ℕ
program_places = 256

abbrev pub program_rows : ℕ
program_rows = 64

abbrev pub place_each : List Location → List Reply
place_each [] = []
place_each (l ∷ ls) = place l ∷ place_each ls

-- the rows, then their count
abbrev pub found : List Location → List Reply
found ls = place_each ls ++ (end (length ls) ∷ [])

abbrev pub or_refused : Option Cause → List Reply → List Reply
or_refused none rs = rs
or_refused (some c) rs = refused (number c) ∷ []

-- what a form is answered
abbrev pub replies : Recorded → Form → List Reply
replies s (block kind b) = or_refused (record_answer program_capacity s kind b) (taken ∷ [])
replies s finish = finished ∷ []
replies s (find q) = or_refused (search_answer program_capacity s q program_places program_rows) (found (rows (pieces_of s.blocks) q))

-- what a line is put to, whether it is a form or not
abbrev pub line_checks : Bool → List Check
line_checks is-form = record { applies = not is-form; cause = no_form } ∷ []

-- what a line is answered that is this form, or none
abbrev pub form_replies : Recorded → Option Form → List Reply
form_replies s none = or_refused (first_cause (line_checks false)) []
form_replies s (some f) = or_refused (first_cause (line_checks true)) (replies s f)

-- what it leaves behind
abbrev pub next : Recorded → Form → Recorded
next s (block kind b) = recorded program_capacity s kind b
next s finish = finished_now s
next s (find q) = s

-- what forms, a line each, are answered
abbrev pub run : Recorded → List Form → List Reply
run s [] = []
run s (f ∷ fs) = replies s f ++ run (next s f) fs

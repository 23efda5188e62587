-- Document 01, "Causes and their numbers", and 18 and 19 of document 02: each cause, its number, and the order in which each call checks them.
-- Assumes nothing.
use Rattle.std.specs.Prelude.{ℕ, ◌≡◌, Bool, true, false, ◌||◌, cond, List, [], ◌∷◌, length, eqb}
use Rattle.std.proofs.Math.Option.{Option, none, some}

pub data Cause : Type 0 where
  -- opening with 0 or over 1,048,576 nodes or entries, or with more than the lent memory holds
  capacity_refused : Cause
  -- lent memory breaks the index rule
  index_rule_broken : Cause
  record_after_finish : Cause
  -- search or save before finish
  before_finish : Cause
  -- data over 4,096 bytes
  data_too_long : Cause
  -- created_at >= destroyed_at
  no_life : Cause
  -- address + length > 2^64 - 1
  address_too_high : Cause
  -- a block shares a byte address and a live tick with a piece held (load: two pieces do)
  conflict : Cause
  -- node charge over capacity (load: nodes)
  too_many_nodes : Cause
  -- entry charge over capacity (load: entries)
  too_many_entries : Cause
  -- what was typed is no donation number with its check character: the length, a character or the check is wrong
  wrong_number : Cause
  -- query over 256 bytes
  query_too_long : Cause
  -- sizes of all T(i) together exceed scratch
  scratch_too_small : Cause
  -- more rows than the row buffer
  too_many_rows : Cause
  save_buffer_too_short : Cause
  -- stream or image ends inside a field
  cut_short : Cause
  -- space kind over 4, node kind unknown
  unknown_kind : Cause
  -- image layout or index rule broken, bytes left over
  image_broken : Cause
  -- program line is no form
  no_form : Cause

abbrev pub number : Cause → ℕ
number capacity_refused = 16
number index_rule_broken = 1
number record_after_finish = 2
number before_finish = 3
number data_too_long = 4
number no_life = 5
number address_too_high = 6
number too_many_nodes = 7
number too_many_entries = 8
number query_too_long = 9
number scratch_too_small = 10
number too_many_rows = 11
number save_buffer_too_short = 12
number cut_short = 13
number unknown_kind = 14
number image_broken = 15
number no_form = 17
number conflict = 18
number wrong_number = 19

-- ── the order in which each call checks them ──

pub data CallName : Type 0 where
  opening : CallName
  record_call : CallName
  record_stream_call : CallName
  finish_call : CallName
  search_call : CallName
  search_number_call : CallName
  save_call : CallName
  load_call : CallName
  read_block_call : CallName
  line_call : CallName

-- a block that is not of kind Memory is not put to the causes behind its kind;
-- in loading and in reading a block, the first faulty field in layout order decides between 13, 14 and 15;
-- a stream is put to 1 and 2 once, and each of its blocks to the others
abbrev pub checked : CallName → List Cause
checked opening = capacity_refused ∷ []
checked record_call = index_rule_broken ∷ record_after_finish ∷ unknown_kind ∷ data_too_long ∷ no_life ∷ address_too_high ∷ conflict ∷ too_many_nodes ∷ too_many_entries ∷ []
checked record_stream_call = index_rule_broken ∷ record_after_finish ∷ cut_short ∷ unknown_kind ∷ data_too_long ∷ no_life ∷ address_too_high ∷ conflict ∷ too_many_nodes ∷ too_many_entries ∷ []
checked finish_call = index_rule_broken ∷ []
checked search_call = index_rule_broken ∷ before_finish ∷ query_too_long ∷ scratch_too_small ∷ too_many_rows ∷ []
checked search_number_call = index_rule_broken ∷ before_finish ∷ wrong_number ∷ query_too_long ∷ scratch_too_small ∷ too_many_rows ∷ []
checked save_call = index_rule_broken ∷ before_finish ∷ save_buffer_too_short ∷ []
checked load_call = index_rule_broken ∷ cut_short ∷ unknown_kind ∷ image_broken ∷ conflict ∷ too_many_nodes ∷ too_many_entries ∷ []
checked read_block_call = cut_short ∷ unknown_kind ∷ []
checked line_call = no_form ∷ []

-- ── checks ──

-- whether a cause applies
pub record Check : Type 0 where
  pub applies : Bool
  pub cause : Cause

-- the first cause that applies decides; none where no cause does
abbrev pub first_cause : List Check → Option Cause
first_cause [] = none
first_cause (c ∷ cs) = cond c.applies (some c.cause) (first_cause cs)

-- the number of a refusal, 0 where there is none
abbrev pub refusal_of : Option Cause → ℕ
refusal_of none = 0
refusal_of (some c) = number c

abbrev pub causes : List Check → List Cause
causes [] = []
causes (c ∷ cs) = c.cause ∷ causes cs

-- ── what a search leaves of scratch ──

-- causes that leave scratch as it was; scratch contents are free after a search past check 9
abbrev pub scratch_kept : List Cause
scratch_kept = index_rule_broken ∷ before_finish ∷ wrong_number ∷ query_too_long ∷ []

-- whether a number is that of one of these causes
abbrev pub numbered : ℕ → List Cause → Bool
numbered n [] = false
numbered n (c ∷ cs) = eqb n (number c) || numbered n cs

-- scratch after a search with this refusal's number (0 for none): as long as it was, and untouched by those causes
pub record ScratchAfter (refusal : ℕ) (before after : List ℕ) : Type 0 where
  pub same_length : length after ≡ length before
  pub untouched : numbered refusal scratch_kept ≡ true → after ≡ before

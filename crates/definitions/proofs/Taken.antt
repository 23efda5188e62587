-- What was taken passed the checks; the theorems on rows for whole recordings. Assumes nothing.
use Prim.Native.Nat.{ℕ, ◌+◌, ◌≤◌, ◌<◌}
use native.Mathlib.Omega.{arith}
use mathlib.Core.Path.{◌≡◌, refl, sym, subst}
use mathlib.Core.Bool.{Bool, true, false, cond}
use mathlib.Core.Logic.{◌⊎◌, inl, inr, ◌↔◌}
use mathlib.Core.List.Memᴰ.{append_cases}
use mathlib.Core.List.Memᴰ.{eq_of_singleton as only_one}
use mathlib.Core.List.Memᴰ.{head as here}
use mathlib.Core.List.Memᴰ.{not-nil}
use mathlib.Core.List.Memᴰ.{tail as later}
use mathlib.Core.List.{List, [], ◌∷◌, ◌++◌, Memᴰ as Mem}
use mathlib.Core.Option.{Option, none, some}
use lib.ListN.{length}
use lib.Dec.{eqb}
use borrow.Author.Tests.{ltb-false, leb-false}
use Rattle.definitions.specs.Location.{Location}
use Rattle.definitions.specs.Blocks.{Block, Piece, pieces, pieces_of, nodes_tallied, entries_tallied}
use Rattle.definitions.specs.Runs.{Holds, RowsAreRuns, Consistent, Alive, SameRows, SameHeld}
use Rattle.definitions.specs.Conflicts.{clash}
use Rattle.definitions.specs.Causes.{Cause}
use Rattle.definitions.specs.Calls.{Capacity, Recorded, fresh, standing, added, data_limit, last_number, memory_checks, block_checks, record_checks, record_answer, unless_refused, recorded}
use Rattle.definitions.specs.Recording.{Call, record_block, finish, search, after, after_all, taken, Finished, Sound}
use Rattle.definitions.proofs.Checks.{NoneApplies, none_applies}
use Rattle.definitions.proofs.Cutting.{pieces_added}
use Rattle.definitions.proofs.Conflicts.{consistent_added}
use Rattle.definitions.proofs.Theorems.{rows_are_runs, same_rows_same_held}

-- ── a block that is taken ──

-- what is known of a Memory block that no check turned back
pub record Passed (c : Capacity) (clashes : Bool) (nodes entries n : ℕ) (l : Location) : Type 0 where
  pub short : n ≤ data_limit
  pub alive : l.created < l.destroyed
  pub below : l.address + n ≤ last_number
  pub apart : clashes ≡ false
  pub few_nodes : nodes ≤ c.nodes
  pub few_entries : entries ≤ c.entries

pub passed : (c : Capacity) (clashes : Bool) (nodes entries n : ℕ) (l : Location) → NoneApplies (memory_checks c clashes nodes entries n l) → Passed c clashes nodes entries n l
passed c clashes nodes entries n l f = record {
  short = ltb-false data_limit n f.0;
  alive = leb-false l.destroyed l.created f.1.0;
  below = ltb-false last_number (l.address + n) f.1.1.0;
  apart = f.1.1.1.0;
  few_nodes = ltb-false c.nodes nodes f.1.1.1.1.0;
  few_entries = ltb-false c.entries entries f.1.1.1.1.1.0;
}

-- of a block behind pieces
abbrev PassedBehind : Capacity → List Piece → Block → Type 0
PassedBehind c ps b = Passed c (clash (pieces b) ps) (nodes_tallied (ps ++ pieces b)) (entries_tallied (ps ++ pieces b)) (length b.bytes) b.at

-- ── what the calls of a recording have made of a fresh index ──

pub record Right (c : Capacity) (s : Recorded) : Type 0 where
  pub sound : (b : Block) → Mem b s.blocks → Sound b
  pub consistent : Consistent s.blocks
  pub nodes : 1 ≤ c.nodes → nodes_tallied (pieces_of s.blocks) ≤ c.nodes
  pub entries : entries_tallied (pieces_of s.blocks) ≤ c.entries

right_added : (c : Capacity) (s : Recorded) (b : Block) → Right c s → PassedBehind c (pieces_of s.blocks) b → Right c (record { blocks = added s b; finished = s.finished })
right_added c s b r p = record {
  sound = λ x h. go x (append_cases s.blocks h);
  consistent = consistent_added s.blocks b r.consistent p.apart;
  nodes = λ h. subst (λ (ps : List Piece). nodes_tallied ps ≤ c.nodes) (sym (pieces_added s.blocks b)) p.few_nodes;
  entries = subst (λ (ps : List Piece). entries_tallied ps ≤ c.entries) (sym (pieces_added s.blocks b)) p.few_entries;
}
  where
    go : (x : Block) → Mem x s.blocks ⊎ Mem x (b ∷ []) → Sound x
    go x (inl k) = r.sound x k
    go x (inr k) = subst Sound (sym (only_one k)) (record { short = p.short; alive = p.alive; below = p.below })

right_recorded : (c : Capacity) (s : Recorded) (kind : ℕ) (b : Block) → Right c s → Right c (recorded c s kind b)
right_recorded c s kind b r = go (eqb kind 1) refl (record_answer c s kind b) refl
  where
    memory : eqb kind 1 ≡ true → record_answer c s kind b ≡ none → PassedBehind c (pieces_of s.blocks) b
    memory e f = passed c _ _ _ _ _ (subst (λ (x : Bool). NoneApplies (cond x (block_checks c (pieces_of s.blocks) b) [])) e (none_applies (record_checks (standing c s) kind b) f).1.1.1)

    go : (o : Bool) → eqb kind 1 ≡ o → (a : Option Cause) → record_answer c s kind b ≡ a → Right c (unless_refused a s (cond o (record { blocks = added s b; finished = s.finished }) s))
    go o e (some x) f = r
    go true e none f = right_added c s b r (memory e f)
    go false e none f = r

pub right_after : (c : Capacity) (s : Recorded) (k : Call) → Right c s → Right c (after c s k)
right_after c s (record_block kind b) r = right_recorded c s kind b r
right_after c s finish r = record { sound = r.sound; consistent = r.consistent; nodes = r.nodes; entries = r.entries }
right_after c s (search q scratch room) r = r

right_after_all : (c : Capacity) (s : Recorded) (ks : List Call) → Right c s → Right c (after_all c s ks)
right_after_all c s [] r = r
right_after_all c s (k ∷ ks) r = right_after_all c (after c s k) ks (right_after c s k r)

pub right_recording : (c : Capacity) (ks : List Call) → Right c (after_all c fresh ks)
right_recording c ks = right_after_all c fresh ks (record { sound = λ b h. absurd (not-nil h); consistent = tt; nodes = λ h. h; entries = omega arith })

pub taken_sound : (c : Capacity) (ks : List Call) (b : Block) → Mem b (taken c ks) → Sound b
taken_sound c ks b h = (right_recording c ks).sound b h

pub taken_alive : (c : Capacity) (ks : List Call) → Alive (taken c ks)
taken_alive c ks b h = (taken_sound c ks b h).alive

-- an address over 2^64 - 1 holds none
pub none_beyond : (c : Capacity) (ks : List Call) (b a t : ℕ) → Holds (taken c ks) b a t → a ≤ last_number
none_beyond c ks b a t h = omega (arith, h.there, h.inside, (taken_sound c ks h.block h.listed).below)

-- ── finished ──

stays_finished : (c : Capacity) (s : Recorded) (k : Call) → s.finished ≡ true → (after c s k).finished ≡ true
stays_finished c s (record_block kind b) e = go (record_answer c s kind b) (eqb kind 1)
  where
    go : (a : Option Cause) (o : Bool) → (unless_refused a s (cond o (record { blocks = added s b; finished = s.finished }) s)).finished ≡ true
    go (some x) o = e
    go none true = e
    go none false = e
stays_finished c s finish e = refl
stays_finished c s (search q scratch room) e = e

stay_finished : (c : Capacity) (s : Recorded) (ks : List Call) → s.finished ≡ true → (after_all c s ks).finished ≡ true
stay_finished c s [] e = e
stay_finished c s (k ∷ ks) e = stay_finished c (after c s k) ks (stays_finished c s k e)

-- a recording with a finish in it is finished
pub finished_recording : (c : Capacity) (s : Recorded) (ks : List Call) → Finished ks → (after_all c s ks).finished ≡ true
finished_recording c s [] x' = elim x' [ ]
finished_recording c s (k ∷ ks) (here e) = stay_finished c (after c s k) ks (subst (λ (x : Call). (after c s x).finished ≡ true) e refl)
finished_recording c s (k ∷ ks) (later h) = finished_recording c (after c s k) ks h

-- ── rows of whole recordings ──

pub taken_consistent : (c : Capacity) (ks : List Call) → Consistent (taken c ks)
taken_consistent c ks = (right_recording c ks).consistent

-- for every capacity and list of calls: the rows are exactly the longest runs
pub recording_rows : (c : Capacity) (ks : List Call) → (q : List ℕ) → 0 < length q → RowsAreRuns (taken c ks) q
recording_rows c ks q l = rows_are_runs (taken c ks) (taken_consistent c ks) (taken_alive c ks) q l

-- two recordings, of any capacities and lengths: the same rows exactly when they hold the same bytes
pub recordings_same : (c c' : Capacity) (ks ks' : List Call) → SameRows (taken c ks) (taken c' ks') ↔ SameHeld (taken c ks) (taken c' ks')
recordings_same c c' ks ks' = same_rows_same_held (taken c ks) (taken c' ks') (taken_consistent c ks) (taken_alive c ks) (taken_consistent c' ks') (taken_alive c' ks')

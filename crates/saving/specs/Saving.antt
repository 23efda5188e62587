-- Save and load as functions on memory: the answer, and each lent slice afterwards. Assumes nothing.
use Rattle.std.specs.Prelude.{ℕ, List, [], length}
use Rattle.std.proofs.Math.Option.{Option, none, some}
use Rattle.std.proofs.lemmas.List.Edits.{sets}
use Rattle.definitions.specs.Causes.{Cause, number, first_cause}
use Rattle.definitions.specs.Calls.{save_checks, load_checks}
use Rattle.image_format.specs.Image.{image}
use Rattle.image_format.specs.Held.{trie_in}
use Rattle.image_format.specs.Reading.{fault_of, nodes_in, entries_in}
use Rattle.image_format.specs.Check.{check_image}
use Rattle.memory_header.specs.Opening.{Done, unless_refused}
use Rattle.index_memory.specs.Index.{Index, broken, opened, finished, standing_of, read_index}
use Rattle.finished_memory.specs.Finished.{finished_memory}

-- ── save ──

-- a refusal's number (0 for none), how many bytes the image has, and the save buffer afterwards
pub record Saving : Type 0 where
  pub refusal : ℕ
  pub size : ℕ
  pub buffer : List ℕ

-- the image goes to the front of the buffer, bytes after it stay
abbrev pub saved_or_refused : Option Cause → List ℕ → List ℕ → Saving
saved_or_refused none s buffer = record { refusal = 0; size = length s; buffer = sets buffer 0 s }
saved_or_refused (some c) s buffer = record { refusal = number c; size = 0; buffer = buffer }

-- the image of a finished index
abbrev pub image_of : Index → List ℕ
image_of broken = []
image_of (opened c ps) = []
image_of (finished c t) = image t

abbrev pub save_by : Index → List ℕ → Saving
save_by i buffer = saved_or_refused (first_cause (save_checks (standing_of i) (length (image_of i)) (length buffer))) (image_of i) buffer

unfoldable pub save_memory : List ℕ → List ℕ → Saving
save_memory m buffer = save_by (read_index m) buffer

-- ── load: what is loaded replaces what was held, and is finished ──

-- an open index and a finished one alike
abbrev pub load_by : Index → List ℕ → List ℕ → Done
load_by i m s =
    unless_refused (first_cause (load_checks (standing_of i) (fault_of (check_image s)) (nodes_in (check_image s)) (entries_in (check_image s)))) m
    (finished_memory m (standing_of i).capacity (trie_in s))

unfoldable pub load_memory : List ℕ → List ℕ → Done
load_memory m s = load_by (read_index m) m s

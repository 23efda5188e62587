-- The code's answers as what the definitions read. Assumes nothing.
use Rattle.std.specs.Prelude.{ℕ, ◌≤◌, ◌≡◌, List, [], length, take, Option, Some, None}
use Rattle.std.proofs.Math.Option as M
use Rattle.std.proofs.lemmas.List.Edits.{sets}
use Rattle.definitions.specs.Program as P
use Rattle.forms.specs.ReadLine.{read_line}
use Rattle.forms.specs.declared.Form.{Form}
use Rattle.forms.specs.declared.Form.TheVariants as F

-- a form that was read: its numbers, and how many bytes it has
abbrev pub answer_of : M.Option P.Form → Option Form
answer_of M.none = None
answer_of (M.some (P.block kind b)) = Some (F.Block kind b.at.address b.at.created b.at.destroyed (length b.bytes))
answer_of (M.some P.finish) = Some F.Finish
answer_of (M.some (P.find q)) = Some (F.Find (length q))

-- the bytes of a form that was read
abbrev pub bytes_of : M.Option P.Form → List ℕ
bytes_of M.none = []
bytes_of (M.some (P.block kind b)) = b.bytes
bytes_of (M.some P.finish) = []
bytes_of (M.some (P.find q)) = q

-- the form that an answer and the bytes in a buffer give
abbrev pub form_in : Option Form → List ℕ → M.Option P.Form
form_in (Some (F.Block kind address created destroyed n)) bs =
    M.some (P.block kind (record { bytes = take n bs; at = record { address = address; created = created; destroyed = destroyed } }))
form_in (Some F.Finish) bs = M.some P.finish
form_in (Some (F.Find n)) bs = M.some (P.find (take n bs))
form_in None bs = M.none

-- how many bytes a form has
abbrev pub byte_count : Form → ℕ
byte_count (F.Block kind address created destroyed n) = n
byte_count F.Finish = 0
byte_count (F.Find n) = n

-- what holds of a line by what was read from it: it is that form, or there is none that it is
abbrev pub Is : List ℕ → M.Option P.Form → Type 0
Is l M.none = (f : P.Form) → P.IsForm l f → ⊥
Is l (M.some f) = P.IsForm l f

-- how many bytes an answer has
abbrev pub answer_count : Option Form → ℕ
answer_count None = 0
answer_count (Some f) = byte_count f

-- a line was read: the answer, and the buffer with the form's bytes in front, as many as have room there; it has at most 511
pub record Reads (l before : List ℕ) (r : Option Form) (after : List ℕ) : Type 0 where
  pub is : Is l (read_line l)
  pub answer : r ≡ answer_of (read_line l)
  pub decoded : after ≡ sets before 0 (bytes_of (read_line l))
  pub means : 511 ≤ length before → form_in r after ≡ read_line l
  pub few : answer_count r ≤ 511

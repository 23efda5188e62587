-- The form that a line is, from its numbers and the bytes in the buffer. Assumes nothing.
use Prim.Native.Nat.{ℕ, ◌≤◌}
use native.Mathlib.Omega.{arith}
use mathlib.Core.Path.{◌≡◌, ap, subst}
use mathlib.Core.List.{List}
use mathlib.Core.Option as M
use lib.ListN.{length, take, replicate, length-replicate}
use lib.Seq.{length-sets}
use Rattle.std.specs.Prelude.{Option, Some}
use Rattle.definitions.specs.Location.{Location}
use Rattle.definitions.specs.Program as P
use Rattle.forms.specs.ReadLine.{read_line}
use Rattle.forms.specs.declared.Form.{Form}
use Rattle.forms.specs.declared.Form.TheVariants as F
use Rattle.forms.specs.Answers.{Reads, bytes_of, form_in, answer_count}

-- a line was read as v into a buffer of 512 bytes
pub record ReadAs (l after : List ℕ) (v : Option Form) : Type 0 where
  pub room : length after ≡ 512
  pub few : answer_count v ≤ 511
  pub form : form_in v after ≡ read_line l

pub read_as : (l after : List ℕ) {r v : Option Form} → Reads l (replicate 512 0) r after → r ≡ v → ReadAs l after v
read_as l after {r} {v} f e = record {
  room = omega (arith, ap length f.decoded, length-sets (replicate 512 0) 0 (bytes_of (read_line l)), length-replicate {A = ℕ} 512 0);
  few = subst (λ (x : Option Form). answer_count x ≤ 511) e f.few;
  form = subst (λ (x : Option Form). form_in x after ≡ read_line l) e (f.means (omega (arith, length-replicate {A = ℕ} 512 0)));
}

pub block_form : (bytes : List ℕ) (n kind address created destroyed : ℕ) (p : Location) → p ≡ record { address = address; created = created; destroyed = destroyed }
    → M.some (P.block kind (record { bytes = take n bytes; at = p })) ≡ form_in (Some (F.Block kind address created destroyed n)) bytes
block_form bytes n kind address created destroyed p g = ap (λ (l : Location). M.some (P.block kind (record { bytes = take n bytes; at = l }))) g

-- Locations copied, then made a list. Assumes nothing.
use Prim.Native.Nat.{ℕ, ◌+◌, ◌*◌, ◌≤◌}
use native.Mathlib.Omega.{arith}
use mathlib.Core.Path.{◌≡◌, ap, subst, ◌∙◌}
use mathlib.Core.Logic.{inl, inr}
use mathlib.Core.List.{List, []}
use lib.ListN.{length}
use Rattle.words.specs.Holding.{Holds}
use Rattle.definitions.specs.Location.{Location, normal, locations_in}
use Rattle.image_format.specs.Image.{list_bytes}
use Rattle.tails.specs.Tails.{Tail}
use Rattle.tails.specs.Groups.{locations_of}
use Rattle.tail_words.specs.Tail.{tails_in}
use Rattle.tail_groups.proofs.Memory.{tails_none}
use Rattle.list_closing.specs.Closed.{Closed}
use Rattle.list_writer.specs.Written.{taken, Copied, ListWritten}
use Rattle.list_writer.specs.declared.End.{End}
use Rattle.list_writer.specs.declared.Listed.{Listed}
use Rattle.list_writer.proofs.Copying.{length_locations_of, taken_none}

-- locations copied, then made a list
pub written : {s s₁ s₂ : List ℕ} {n k : ℕ} {ls : List Location} (e r : End) → Copied s s₁ e.at n ls → Closed s₁ s₂ e.at n (locations_in s₁ n (e.at + 8)) k
    → (r.at ≡ e.at + 8 + 24 * k) × (r.nodes ≡ e.nodes) × (r.entries ≡ e.entries + k) → ListWritten s s₂ ls e r
written {s} {s₁} {s₂} {n} {k} {ls} e r w c q =
    let p : locations_in s₁ n (e.at + 8) ≡ ls = w.places in
    let m : k ≡ length (normal ls) = c.count ∙ ap (λ (x : List Location). length (normal x)) p in
    record {
      bytes = subst (λ (x : List Location). Holds s₂ e.at (list_bytes (normal x))) p c.bytes;
      at = q.0 ∙ ap (λ (x : ℕ). e.at + 8 + 24 * x) m;
      few = omega (arith, c.few, w.count, m);
      nodes = q.1;
      entries = q.2 ∙ ap (λ (x : ℕ). e.entries + x) m;
      long = c.long ∙ w.long;
      before = λ j h. c.away j (inl h) ∙ w.away j (inl (omega arith));
      behind = λ j h. c.away j (inr (omega (arith, w.count))) ∙ w.away j (inr (omega (arith, w.count)));
    }

-- the copies lie before the work area
pub copied_within : {s s₁ : List ℕ} {at n work : ℕ} (ts : List Tail) → Copied s s₁ at n (locations_of ts) → at + 8 + 24 * length ts ≤ work → at + 8 + 24 * n ≤ work
copied_within ts w h = omega (arith, w.count, length_locations_of ts)

-- no tails
module _ {s s₁ : List ℕ} {e r : End} (o : Listed) (t : List ℕ) (work lo hi : ℕ) where
  pub written_none : hi ≡ lo → ListWritten s s₁ [] e r → ListWritten s s₁ (locations_of (taken o (tails_in t work lo hi))) e r
  written_none h w = rw (tails_none t work lo hi (omega arith), taken_none o) w

-- A turn of the loop that enters new pieces, once the place of the next is found. Assumes nothing.
use Rattle.lined_locations.specs.declared.LineKind.TheVariants.{Logged}
use Prim.Native.Nat.{ℕ, ◌+◌, ◌-◌, ◌*◌, ◌≤◌, ◌<◌}
use native.Mathlib.Omega.{arith}
use mathlib.Core.Path.{◌≡◌, refl, sym, ap, ◌∙◌, subst}
use mathlib.Core.List.{List, ◌++◌}
use lib.ListN.{length, get_or}
use lib.Seq.{sets}
use Rattle.words.specs.Words.{bytes64}
use Rattle.definitions.specs.Location.{Location, location_at}
use Rattle.memory_header.specs.Layout.{Header, work_at}
use Rattle.conflicts.specs.Lined.{first_from, Lined}
use Rattle.conflicts.specs.Order.{nth}
use Rattle.lined_locations.specs.Places.{Within}
use Rattle.certificate.specs.Entries.{entry_at}
use Rattle.ordering.specs.Entering.{Entering}
use Rattle.ordering.proofs.Writes.{moved}
use Rattle.ordering.proofs.Moving.{new_pieces, Moving, moving_within, moving_lined, moving_piece, moving_low, moving_turn}

-- before the next piece is entered
pub record Turn (m₀ : List ℕ) (h : Header) (count new : ℕ) : Type 0 where
  pub bytes : (k : ℕ) → get_or m₀ k 0 < 256
  pub entering : Entering m₀ h count new
  pub base : ℕ
  pub there : base ≡ work_at h.capacity
  pub m : List ℕ
  pub upto : ℕ
  pub j : ℕ
  pub moving : Moving m₀ h count new m upto j
  pub more : j < new

abbrev pub turn : {m₀ : List ℕ} {h : Header} {count new : ℕ} → ((k : ℕ) → get_or m₀ k 0 < 256) → Entering m₀ h count new → {base : ℕ} → base ≡ work_at h.capacity → {m : List ℕ} {upto j : ℕ} → Moving m₀ h count new m upto j → j < new
    → Turn m₀ h count new
turn bytes e {base} p {m} {upto} {j} w l = record {
  bytes = bytes;
  entering = e;
  base = base;
  there = p;
  m = m;
  upto = upto;
  j = j;
  moving = w;
  more = l;
}

module _ {m₀ : List ℕ} {h : Header} {count new : ℕ} (t : Turn m₀ h count new) where
  pub turn_within : Within Logged t.m t.base t.upto
  turn_within = subst (λ (a : ℕ). Within Logged t.m a t.upto) (sym t.there) (moving_within m₀ t.bytes h count new t.entering t.m t.upto t.j t.moving)

  pub turn_lined : Lined t.upto (entry_at t.m t.base)
  turn_lined = subst (λ (a : ℕ). Lined t.upto (entry_at t.m a)) (sym t.there) (moving_lined m₀ t.bytes h count new t.entering t.m t.upto t.j t.moving)

  -- its location, as it was read, and its place, as it was found
  module _ {x : Location} (r : x ≡ location_at t.m (64 + 48 * (h.payload + t.j) + 24)) {k : ℕ} (f : k ≡ first_from (entry_at t.m t.base) (t.upto - 0) 0 x.address x.created) where
    piece : x ≡ (nth (new_pieces m₀ h new) t.j).at
    piece = r ∙ moving_piece m₀ t.bytes h count new t.entering t.m t.upto t.j t.moving t.more

    found : k ≡ first_from (entry_at t.m (work_at h.capacity)) t.upto 0 (nth (new_pieces m₀ h new) t.j).at.address (nth (new_pieces m₀ h new) t.j).at.created
    found =
        let z : t.upto - 0 ≡ t.upto = omega arith in
        f ∙ ap (λ (n : ℕ). first_from (entry_at t.m t.base) n 0 x.address x.created) z
        ∙ ap (λ (a : ℕ). first_from (entry_at t.m a) t.upto 0 x.address x.created) t.there
        ∙ ap (λ (y : Location). first_from (entry_at t.m (work_at h.capacity)) t.upto 0 y.address y.created) piece

    pub turn_low : k ≤ t.upto
    turn_low = moving_low m₀ t.bytes h count new t.entering t.m t.upto t.j t.moving t.more k found

    -- the entries up to its place, moved, lie within the memory
    pub turn_held : t.base + 16 * (k + new) ≤ length m₀
    turn_held = omega (arith, turn_low, t.entering.room, t.there, t.moving.old)

    pub turn_on : {m₁ m₂ : List ℕ} → m₁ ≡ moved t.m t.base k t.upto (new - t.j) → m₂ ≡ sets m₁ (t.base + 16 * (k + new - t.j - 1)) (bytes64 (h.payload + t.j) ++ bytes64 x.destroyed) → Moving m₀ h count new m₂ k (t.j + 1)
    turn_on {m₁} {m₂} u v =
        moving_turn m₀ t.bytes h count new t.entering t.m t.upto t.j t.moving t.more k found m₁ m₂ (h.payload + t.j) x.destroyed refl (ap (λ (y : Location). y.destroyed) piece)
        (u ∙ ap (λ (a : ℕ). moved t.m a k t.upto (new - t.j)) t.there)
        (v ∙ ap (λ (a : ℕ). sets m₁ (a + 16 * (k + new - t.j - 1)) (bytes64 (h.payload + t.j) ++ bytes64 x.destroyed)) t.there)

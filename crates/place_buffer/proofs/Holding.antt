-- The laws of `Holding`, which a user of the set goes by: none, one more, a list more, tidied, refused. Assumes nothing.
use Prim.Native.Nat.{ℕ, ◌+◌, ◌-◌, ◌*◌, ◌/◌, ◌≤◌}
use native.Mathlib.Omega.{arith}
use mathlib.Core.Path.{◌≡◌, sym, ap, subst, ◌∙◌}
use Rattle.std.specs.Prelude.{Option, Some, None, ⊤}
use mathlib.Core.Bool.{false}
use mathlib.Core.List.Memᴰ.{append_left}
use mathlib.Core.List.Memᴰ.{append_right}
use mathlib.Core.List.Memᴰ.{not-nil}
use mathlib.Core.List.{List, [], ◌++◌}
use lib.ListN.{length}
use Rattle.definitions.specs.Location.{Location, normal, location_at, locations_in}
use Rattle.definitions.proofs.Order.{length_normal}
use Rattle.place_buffer.specs.declared.PlaceSet.{PlaceSet}
use Rattle.place_buffer.specs.Scratch.{Tidied, room}
use Rattle.place_buffer.specs.Buffer.{held, TidiedTo, Over, Taken}
use Rattle.place_lookup.specs.Lookup.{Within}
use Rattle.place_buffer.specs.Holding.{Holding, Settled}
use Rattle.place_buffer.proofs.Sets.{fewer}
use Rattle.place_lookup.proofs.Sets.{normal_same, append_within}
use Rattle.place_buffer.proofs.Scratch.{location_ext, locations_ext}
use Rattle.definitions.proofs.Locations.{length_locations}

-- a set of which nothing was added yet
pub holding_none : {p : PlaceSet} → p.known.count ≡ p.known.base → p.known.full ≡ false → Holding p []
unfolding locations_in
holding_none {p} e live =
    let z : p.known.count - p.known.base ≡ 0 = omega arith in
    let none : held p ≡ [] = ap (λ (n : ℕ). locations_in p.scratch.now n (p.known.base * 24)) z in
    record {
      only = subst (λ (ls : List Location). Within ls []) (sym none) (λ x k. k);
      all = λ x k. absurd (not-nil k);
      live = live;
    }

module _ {p : PlaceSet} {xs : List Location} (h : Holding p xs) where
  with_held : (ls : List Location) → Within (ls ++ held p) (ls ++ xs)
  with_held ls = append_within {xs = ls} {ys = held p} (λ x k. append_left xs k) (λ x k. append_right ls (h.only x k))

  -- a list was added
  pub holding_taken : {r : PlaceSet} {ls : List Location} → Taken p r ls (Some tt) → Holding r (ls ++ xs)
  holding_taken {ls = ls} t = record {
    only = λ x k. with_held ls x (t.set.only x k);
    all = λ x k. t.set.all x (append_within {xs = ls} {ys = xs} (λ y j. append_left (held p) j) (λ y j. append_right ls (h.all y j)) x k);
    live = t.set.live;
  }

  -- it has no room
  pub holding_over : {r : PlaceSet} {ls : List Location} → Taken p r ls None → Over p.scratch.now p.known.base (ls ++ xs)
  holding_over {ls = ls} t = omega (arith, t.set.over h.live, fewer (ls ++ held p) (ls ++ xs) (with_held ls))

  same_set : normal (held p) ≡ normal xs
  same_set = normal_same (held p) xs h.only h.all

  -- its places have room
  pub holding_fits : p.known.base + length (normal xs) ≤ room p.scratch.now
  holding_fits =
      omega (arith, ap length same_set, length_normal (held p), length_locations (p.known.count - p.known.base) p.scratch.now (p.known.base * 24), p.valid.from, p.valid.within)

  -- tidied, it is the ascending list of its places
  pub holding_tidy : {r : PlaceSet} → TidiedTo p r → Settled r.scratch.now p.known.base xs r.known.count
  holding_tidy {r} t =
      let same : normal (held p) ≡ normal xs = same_set in
      let n : r.known.count ≡ p.known.base + length (normal xs) = t.tidied.next ∙ ap (λ (ls : List Location). p.known.base + length ls) same in
      let k : r.known.count - p.known.base ≡ length (normal (held p)) = omega (arith, ap length same) in
      record {
        count = n;
        within = omega (arith, holding_fits, ap (λ (m : ℕ). m / 24) t.tidied.same_length);
        places = rw k (t.tidied.places ∙ same);
      }

-- ── places before the set are as they were ──

pub taken_elsewhere : {p r : PlaceSet} {o : Option ⊤} {ls : List Location} → Taken p r ls o → (n at : ℕ) → at + n * 24 ≤ p.known.base * 24 → locations_in r.scratch.now n at ≡ locations_in p.scratch.now n at
taken_elsewhere {p} {r} t n at h = locations_ext n r.scratch.now p.scratch.now at (λ k a b. t.before k (omega arith))

pub taken_location : {p r : PlaceSet} {o : Option ⊤} {ls : List Location} → Taken p r ls o → (at : ℕ) → at + 24 ≤ p.known.base * 24 → location_at r.scratch.now at ≡ location_at p.scratch.now at
taken_location {p} {r} t at h = location_ext r.scratch.now p.scratch.now at (λ k a b. t.before k (omega arith))

pub tidied_elsewhere : {s s' : List ℕ} {base count r : ℕ} → Tidied s s' base count r → (n at : ℕ) → at + n * 24 ≤ base * 24 → locations_in s' n at ≡ locations_in s n at
tidied_elsewhere {s} {s'} t n at h = locations_ext n s' s at (λ k a b. t.before k (omega arith))

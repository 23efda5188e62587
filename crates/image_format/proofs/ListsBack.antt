-- The lists of a node that was written are those that it holds. Assumes nothing.
use Prim.Native.Nat.{◌*◌, ◌+◌, ◌<◌, ◌^◌, ◌≤◌, ℕ}
use native.Mathlib.Omega.{arith}
use mathlib.Core.List.{List, [], ◌++◌, ◌∷◌}
use mathlib.Core.Path.{◌≡◌, refl}
use lib.ListN.{length, length-append}
use Rattle.words.proofs.Parts.{length_bytes64}
use Rattle.words.specs.Words.{bytes64, le64}
use Rattle.words.specs.Holding.{Holds}
use Rattle.words.proofs.Holding.{holds_at, holds_le, holds_left, holds_right}
use Rattle.definitions.specs.Location.{Location, locations_in, locations_bytes}
use Rattle.trie.specs.Trie.{Lists, entries_of}
use Rattle.image_format.proofs.Holding.{list_length}
use Rattle.image_format.specs.Held.{list_end, lists_in}
use Rattle.image_format.specs.Image.{list_bytes, lists_bytes, lists_size}
use Rattle.image_format.specs.Savable.{ListsFit, LocationsFit}

holds_locs : (s : List ℕ) (at : ℕ) (ls : List Location) → LocationsFit ls → Holds s at (locations_bytes ls) → locations_in s (length ls) at ≡ ls
unfolding locations_bytes locations_in
holds_locs s at [] f h = refl
holds_locs s at (l ∷ ls) f h =
    let a = bytes64 l.address in
    let b = bytes64 l.created in
    let c = bytes64 l.destroyed in
    let one = holds_left s at (a ++ b ++ c) (locations_bytes ls) h in
    let two = holds_left s at (a ++ b) c one in
    let ab : length (a ++ b) ≡ 16 = simp (length-append, length_bytes64) in
    let e1 = holds_le s at l.address f.0 (holds_left s at a b two) in
    let e2 = holds_le s (at + 8) l.created f.1 (holds_right s at 8 a b (length_bytes64 l.address) two) in
    let e3 = holds_le s (at + 16) l.destroyed f.2 (holds_right s at 16 (a ++ b) c ab one) in
    let len : length (a ++ b ++ c) ≡ 24 = simp (length-append, length_bytes64) in
    let ih = holds_locs s (at + 24) ls f.3 (holds_right s at 24 (a ++ b ++ c) (locations_bytes ls) len h) in
    rw (← e1, ← e2, ← e3, ih) refl

-- a list of locations is read back
list_held : (s : List ℕ) (at : ℕ) (ls : List Location) → length ls < 2 ^ 64 → LocationsFit ls → Holds s at (list_bytes ls) →
    (length ls ≡ le64 s at) × (locations_in s (le64 s at) (at + 8) ≡ ls)
unfolding list_bytes
list_held s at ls b f h =
    let e = holds_le s at (length ls) b (holds_left s at (bytes64 (length ls)) (locations_bytes ls) h) in
    let r = holds_locs s (at + 8) ls f (holds_right s at 8 (bytes64 (length ls)) (locations_bytes ls) (length_bytes64 (length ls)) h) in
    (e, rw (← e) r)

-- a node's lists are read back, and its table is where it was written
pub holds_lists : (s : List ℕ) (at : ℕ) (h : Lists) → entries_of h < 2 ^ 64 → ListsFit h → Holds s (at + 1) (lists_bytes h) →
    (lists_in s at ≡ h) × (list_end s (list_end s (list_end s (at + 1))) ≡ at + 1 + lists_size h)
unfolding lists_bytes lists_size lists_in
holds_lists s at h b f g =
    let p = h.prefixes in
    let c = h.chunks in
    let u = h.suffixes in
    let a1 = at + 1 in
    let hp = holds_left s a1 (list_bytes p) (list_bytes c ++ list_bytes u) g in
    let hr = holds_right s a1 (8 + 24 * length p) (list_bytes p) (list_bytes c ++ list_bytes u) (list_length p) g in
    let rp = list_held s a1 p (omega arith) f.prefixes hp in
    let a2 = list_end s a1 in
    let z2 : a1 + (8 + 24 * length p) ≡ a2 = omega (arith, rp.0) in
    let hr2 = holds_at s (a1 + (8 + 24 * length p)) a2 (list_bytes c ++ list_bytes u) z2 hr in
    let rc = list_held s a2 c (omega arith) f.chunks (holds_left s a2 (list_bytes c) (list_bytes u) hr2) in
    let a3 = list_end s a2 in
    let z3 : a2 + (8 + 24 * length c) ≡ a3 = omega (arith, rc.0) in
    let hr3 = holds_at s (a2 + (8 + 24 * length c)) a3 (list_bytes u) z3 (holds_right s a2 (8 + 24 * length c) (list_bytes c) (list_bytes u) (list_length c) hr2) in
    let ru = list_held s a3 u (omega arith) f.suffixes hr3 in
    (same rp.1 rc.1 ru.1, omega (arith, rp.0, rc.0, ru.0))
  where
    same : {p c u : List Location} → p ≡ h.prefixes → c ≡ h.chunks → u ≡ h.suffixes → ◌≡◌ {A = Lists} (record { prefixes = p; chunks = c; suffixes = u }) h
    same x y z = rw (x, y, z) refl

pub entries_within : (h : Lists) → entries_of h ≤ lists_size h
unfolding lists_size
entries_within h = omega arith

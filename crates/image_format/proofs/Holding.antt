-- Reading lists and heads that stand in a list of bytes.
-- Assumes nothing.
use Prim.Native.Nat.{◌*◌, ◌+◌, ◌<◌, ◌^◌, ◌≤◌, ℕ}
use native.Mathlib.Omega.{arith}
use mathlib.Core.List.{List, [], ◌++◌, ◌∷◌}
use mathlib.Core.Path.{◌∙◌, ◌≡◌, refl}
use lib.ListN.{get_or, length, length-append}
use Rattle.words.proofs.Parts.{length_bytes64}
use Rattle.words.specs.Words.{bytes64}
use Rattle.words.specs.Holding.{Holds}
use Rattle.words.proofs.Holding.{holds_at, holds_left, holds_right, holds_le}
use Rattle.definitions.specs.Location.{Location, locations_bytes}
use Rattle.trie.specs.Trie.{Lists, entries_of}
use Rattle.image_format.proofs.Heads.{head_lists, list_past, lists_ready}
use Rattle.image_format.specs.Image.{list_bytes, lists_bytes, lists_size}
use Rattle.image_format.specs.Reading.{head, past, read_head, read_list, read_lists}

locs_length : (ls : List Location) → length (locations_bytes ls) ≡ 24 * length ls
unfolding locations_bytes
locs_length [] = refl
locs_length (l ∷ ls) = let h = locs_length ls in simp (length-append, length_bytes64) (omega arith)

pub list_length : (ls : List Location) → length (list_bytes ls) ≡ 8 + 24 * length ls
unfolding list_bytes
list_length ls = simp (length-append, length_bytes64, locs_length)

-- a list of locations is passed
pub holds_list : (s : List ℕ) (at : ℕ) (ls : List Location) → length s < 2 ^ 64 → at + 8 + 24 * length ls ≤ length s → Holds s at (list_bytes ls) →
    past (at + 8 + 24 * length ls) (length ls) ≡ read_list s at
unfolding list_bytes
holds_list s at ls b f h =
    list_past s at (at + 8 + 24 * length ls) (length ls) (holds_le s at (length ls) (omega arith) (holds_left s at (bytes64 (length ls)) (locations_bytes ls) h)) refl f

pub head_length : (h : Lists) → length (lists_bytes h) ≡ lists_size h
unfolding lists_bytes lists_size
head_length h = simp (length-append, list_length) (omega arith)

-- a node's kind and lists are passed
pub holds_head : (s : List ℕ) (at k : ℕ) (h : Lists) (rest : List ℕ) → length s < 2 ^ 64 → at + 1 + lists_size h ≤ length s →
    (k ≡ 0 → ⊥) → k ≤ 3 → Holds s at (k ∷ (lists_bytes h ++ rest)) →
    (head k (at + 1 + lists_size h) (entries_of h) ≡ read_head s at) × Holds s (at + 1 + lists_size h) rest
unfolding Holds lists_bytes lists_size
holds_head s at k h rest b f z t g =
    let p = length h.prefixes in
    let c = length h.chunks in
    let u = length h.suffixes in
    let all : Holds s (at + 1) (lists_bytes h) = holds_left s (at + 1) (lists_bytes h) rest g.1 in
    let hp = holds_left s (at + 1) (list_bytes h.prefixes) (list_bytes h.chunks ++ list_bytes h.suffixes) all in
    let hr = holds_right s (at + 1) (8 + 24 * p) (list_bytes h.prefixes) (list_bytes h.chunks ++ list_bytes h.suffixes) (list_length h.prefixes) all in
    let hc = holds_left s (at + 1 + (8 + 24 * p)) (list_bytes h.chunks) (list_bytes h.suffixes) hr in
    let hs = holds_right s (at + 1 + (8 + 24 * p)) (8 + 24 * c) (list_bytes h.chunks) (list_bytes h.suffixes) (list_length h.chunks) hr in
    let a1 = at + 1 + 8 + 24 * p in
    let a2 = a1 + 8 + 24 * c in
    let a3 = a2 + 8 + 24 * u in
    let e1 : past a1 p ≡ read_list s (at + 1) = holds_list s (at + 1) h.prefixes b (omega arith) hp in
    let e2 : past a2 c ≡ read_list s a1 = holds_list s a1 h.chunks b (omega arith) (holds_at s (at + 1 + (8 + 24 * p)) a1 (list_bytes h.chunks) (omega arith) hc) in
    let e3 : past a3 u ≡ read_list s a2 = holds_list s a2 h.suffixes b (omega arith) (holds_at s (at + 1 + (8 + 24 * p) + (8 + 24 * c)) a2 (list_bytes h.suffixes) (omega arith) hs) in
    let w = g.0 in
    let nz : get_or s at 0 ≡ 0 → ⊥ = omega arith in
    let le3 : get_or s at 0 ≤ 3 = omega arith in
    let end : at + 1 + (24 + 24 * (p + c + u)) ≡ a3 = omega arith in
    let r : head k (at + 1 + (24 + 24 * (p + c + u))) (p + c + u) ≡ read_lists s (get_or s at 0) (at + 1) =
    rw (w, end) (lists_ready s k (at + 1) a1 p a2 c a3 u e1 e2 e3) in
    (r ∙ head_lists s at (omega arith) nz le3, holds_right s (at + 1) (lists_size h) (lists_bytes h) rest (head_length h) g.1)

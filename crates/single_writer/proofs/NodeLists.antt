-- The three lists of a node, one after the other. Assumes nothing.
use Prim.Native.Nat.{ℕ, ◌+◌, ◌*◌, ◌≤◌}
use native.Mathlib.Omega.{arith}
use mathlib.Core.Path.{◌≡◌, ap, subst, ◌∙◌}
use mathlib.Core.List.{List, ◌++◌}
use lib.ListN.{length, get_or}
use Rattle.words.specs.Holding.{Holds}
use Rattle.words.proofs.Holding.{holds_at, holds_append, holds_ext}
use Rattle.definitions.specs.Location.{Location, normal}
use Rattle.trie.specs.Trie.{Lists}
use Rattle.tails.specs.Tails.{Tail}
use Rattle.tails.specs.Groups.{locations_of, wholes}
use Rattle.image_format.specs.Image.{list_bytes, lists_bytes, lists_size}
use Rattle.image_format.proofs.Holding.{list_length}
use Rattle.tail_words.specs.Tail.{tails_in}
use Rattle.tail_groups.proofs.Memory.{tails_ext}
use Rattle.list_writer.specs.declared.End.{End}
use Rattle.list_writer.specs.Written.{ListWritten}
use Rattle.list_writer.proofs.Copying.{length_locations_of}
use Rattle.single_writer.specs.Heads.{cut_lists, ListsAsked, ListsWritten}

-- the tails are not written by a list before the work area
module _ {s s' : List ℕ} (ts : List Tail) {e r : End} (w : ListWritten s s' (locations_of ts) e r) (work : ℕ) (h : e.at + 8 + 24 * length ts ≤ work) where
  pub list_behind : (k : ℕ) → work ≤ k → get_or s' k 0 ≡ get_or s k 0
  list_behind k l = w.behind k (omega (arith, length_locations_of ts))

  pub list_tails : (lo hi : ℕ) → tails_in s' work lo hi ≡ tails_in s work lo hi
  list_tails lo hi = tails_ext s s' work lo hi (λ k a b. list_behind k (omega arith))

  pub list_end : r.at ≤ e.at + 8 + 24 * length ts
  list_end = omega (arith, w.at, w.few, length_locations_of ts)

  pub list_counted : e.entries ≤ e.at → r.entries ≤ r.at
  list_counted c = omega (arith, w.at, w.entries)

-- what is asked of the second list and of the third
pub record ListAsked (len work hi count : ℕ) (e : End) : Type 0 where
  pub memory : work + 56 * hi ≤ len
  pub room : e.at + 8 + 24 * count ≤ work
  pub counted : e.entries ≤ e.at

module _ {s : List ℕ} {work lo parts below hi : ℕ} {e : End} (q : ListsAsked s work lo parts below hi e) where
  module _ {s₁ : List ℕ} {e₁ : End} (w₁ : ListWritten s s₁ (locations_of (tails_in s work lo parts)) e e₁) where
    first_room : e.at + 8 + 24 * length (tails_in s work lo parts) ≤ work
    first_room = omega (arith, q.room)

    pub second_asked : ListAsked (length s₁) work below (length (tails_in s₁ work parts below)) e₁
    second_asked =
        let t = ap length (list_tails (tails_in s work lo parts) w₁ work first_room parts below) in
        record {
          memory = omega (arith, q.memory, q.third, w₁.long);
          room = omega (arith, t, q.room, list_end (tails_in s work lo parts) w₁ work first_room);
          counted = list_counted (tails_in s work lo parts) w₁ work first_room q.counted;
        }

    module _ {s₂ : List ℕ} {e₂ : End} (w₂ : ListWritten s₁ s₂ (locations_of (tails_in s₁ work parts below)) e₁ e₂) where
      tails₂ : (a b : ℕ) → tails_in s₂ work a b ≡ tails_in s work a b
      tails₂ a b = list_tails (tails_in s₁ work parts below) w₂ work second_asked.room a b ∙ list_tails (tails_in s work lo parts) w₁ work first_room a b

      pub third_asked : ListAsked (length s₂) work hi (length (wholes (tails_in s₂ work below hi))) e₂
      third_asked =
          let t = ap length (list_tails (tails_in s work lo parts) w₁ work first_room parts below) in
          let u = ap (λ (ts : List Tail). length (wholes ts)) (tails₂ below hi) in
          record {
            memory = omega (arith, q.memory, w₁.long, w₂.long);
            room = omega (arith, t, u, q.room, list_end (tails_in s work lo parts) w₁ work first_room, list_end (tails_in s₁ work parts below) w₂ work second_asked.room);
            counted = list_counted (tails_in s₁ work parts below) w₂ work second_asked.room second_asked.counted;
          }

      module _ {s₃ : List ℕ} {e₃ : End} (w₃ : ListWritten s₂ s₃ (locations_of (wholes (tails_in s₂ work below hi))) e₂ e₃) where
        h : Lists
        h = cut_lists s work lo parts below hi

        c_same : normal (locations_of (tails_in s₁ work parts below)) ≡ h.chunks
        unfolding h
        c_same = ap (λ (ts : List Tail). normal (locations_of ts)) (list_tails (tails_in s work lo parts) w₁ work first_room parts below)

        s_same : normal (locations_of (wholes (tails_in s₂ work below hi))) ≡ h.suffixes
        unfolding h
        s_same = ap (λ (ts : List Tail). normal (locations_of (wholes ts))) (tails₂ below hi)

        c_length : length (normal (locations_of (tails_in s₁ work parts below))) ≡ length h.chunks
        c_length = ap length c_same

        s_length : length (normal (locations_of (wholes (tails_in s₂ work below hi)))) ≡ length h.suffixes
        s_length = ap length s_same

        pub lists_written : ListsWritten s s₃ work lo parts below hi e e₃
        unfolding h lists_bytes lists_size
        lists_written =
            let p = list_length h.prefixes in
            let c = list_length h.chunks in
            let a₁ = w₁.at in
            let a₂ = w₂.at in
            let t = ap length (list_tails (tails_in s work lo parts) w₁ work first_room parts below) in
            let u = ap (λ (ts : List Tail). length (wholes ts)) (tails₂ below hi) in
            let b₁ : Holds s₃ e.at (list_bytes h.prefixes) =
            holds_ext s₁ s₃ e.at (list_bytes h.prefixes) (λ k x y. w₃.before k (omega (arith, p, a₁, a₂)) ∙ w₂.before k (omega (arith, p, a₁))) w₁.bytes in
            let b₂ : Holds s₂ e₁.at (list_bytes h.chunks) = subst (λ (ls : List Location). Holds s₂ e₁.at (list_bytes ls)) c_same w₂.bytes in
            let b₂₃ : Holds s₃ e₁.at (list_bytes h.chunks) = holds_ext s₂ s₃ e₁.at (list_bytes h.chunks) (λ k x y. w₃.before k (omega (arith, c, a₂, c_length))) b₂ in
            let b₃ : Holds s₃ e₂.at (list_bytes h.suffixes) = subst (λ (ls : List Location). Holds s₃ e₂.at (list_bytes ls)) s_same w₃.bytes in
            record {
              bytes = holds_append s₃ e.at (8 + 24 * length h.prefixes) (list_bytes h.prefixes) (list_bytes h.chunks ++ list_bytes h.suffixes) p b₁
                  (holds_at s₃ e₁.at (e.at + (8 + 24 * length h.prefixes)) (list_bytes h.chunks ++ list_bytes h.suffixes) (omega (arith, a₁))
                  (holds_append s₃ e₁.at (8 + 24 * length h.chunks) (list_bytes h.chunks) (list_bytes h.suffixes) c b₂₃
                  (holds_at s₃ e₂.at (e₁.at + (8 + 24 * length h.chunks)) (list_bytes h.suffixes) (omega (arith, a₂, c_length)) b₃)));
              at = omega (arith, a₁, a₂, w₃.at, c_length, s_length);
              few = omega (arith, w₁.few, w₂.few, w₃.few, c_length, s_length, t, u, length_locations_of (tails_in s work lo parts), length_locations_of (tails_in s₁ work parts below), length_locations_of (wholes (tails_in s₂ work below hi)));
              nodes = w₃.nodes ∙ w₂.nodes ∙ w₁.nodes;
              entries = omega (arith, w₁.entries, w₂.entries, w₃.entries, c_length, s_length);
              long = w₃.long ∙ w₂.long ∙ w₁.long;
              before = λ k l. w₃.before k (omega (arith, a₁, a₂)) ∙ w₂.before k (omega (arith, a₁)) ∙ w₁.before k l;
              behind = λ k l. list_behind (wholes (tails_in s₂ work below hi)) w₃ work third_asked.room k l ∙ list_behind (tails_in s₁ work parts below) w₂ work second_asked.room k l ∙ list_behind (tails_in s work lo parts) w₁ work first_room k l;
            }

-- What an inspection tells the calls. Assumes nothing.
use Prim.Native.Nat.{ℕ, ◌+◌, ◌-◌, ◌≤◌, ◌<◌, ◌^◌}
use mathlib.Core.Path.{◌≡◌, sym, ap, ◌∙◌, subst}
use mathlib.Core.Bool.{true}
use mathlib.Core.List.{List}
use lib.ListN.{length, take, drop}
use Rattle.definitions.specs.Conflicts.{free}
use Rattle.trie.specs.Trie.{trie_pieces}
use Rattle.trie.specs.Rule.{Rule}
use Rattle.image_format.specs.Held.{trie_in}
use Rattle.image_format.specs.Reading.{read_image, right, RightImage}
use Rattle.image_format.specs.Savable.{AllBytes}
use Rattle.index_rule.proofs.Theorems.{check_image_is}
use Rattle.memory_header.specs.Layout.{Header}
use Rattle.index_memory.specs.Index.{finished, image_part}
use Rattle.finished_memory.proofs.Holds.{part_bytes, part_small}
use Rattle.inspecting.specs.Held.{AcceptedImage, ImageIn}
use Rattle.inspecting.proofs.Facts.{same_part}
use Rattle.searching.specs.Search.{search_answer}
use Rattle.row_buffer.specs.Answer.{Finding}
use Rattle.row_buffer.proofs.Answering.{Answers}
use Rattle.finding.specs.Find.{RowsFound, find_by}
use Rattle.finding.proofs.FindCall.{by_pieces, Finds, searched}

-- ── what a memory holds decides ──

-- ── the image ──

module _ (s : List ℕ) (a : AllBytes s) (l : length s < 2 ^ 64) (t : AcceptedImage s) where
  accepted : (read_image s ≡ right t.nodes t.entries) × Rule (trie_in s) × (free (trie_pieces (trie_in s)) ≡ true)
  accepted = (check_image_is s a l t.nodes t.entries).0 (sym t.is)

  right_image : RightImage s
  right_image = record { nodes = t.nodes; entries = t.entries; read = accepted.0 }

  rule_image : Rule (trie_in s)
  rule_image = accepted.1

-- ── the part that the code cuts out ──

module _ (m : List ℕ) (h : Header) (a : AllBytes m) (l : length m < 2 ^ 64) (w : ImageIn m h) where
  right_part : RightImage (image_part m h)
  right_part = right_image (image_part m h) (part_bytes m h a) (part_small m h l) w.tested

  rule_part : Rule (trie_in (image_part m h))
  rule_part = rule_image (image_part m h) (part_bytes m h a) (part_small m h l) w.tested

  pub searchable : RightImage (take (64 + h.payload - 64) (drop 64 m)) × Rule (trie_in (take (64 + h.payload - 64) (drop 64 m)))
  searchable = subst (λ (s : List ℕ). RightImage s × Rule (trie_in s)) (sym (same_part m h.payload)) (right_part, rule_part)

  pub answered_part : (q x s : List ℕ) (room : ℕ) {f : Finding} → length q ≤ 256 → length s ≡ length x
      → Answers (search_answer (trie_in (take (64 + h.payload - 64) (drop 64 m))) q (length x) room) s f → Finds (find_by (finished h.capacity (trie_in (image_part m h))) q (length x) room) x s f
  answered_part q x s room {f} k e w =
      searched h.capacity (trie_in (image_part m h)) q x s room k e
      (subst (λ (o : RowsFound). Answers o s f)
      (ap (λ (y : List ℕ). search_answer (trie_in y) q (length x) room) (same_part m h.payload) ∙ by_pieces h.capacity (trie_in (image_part m h)) rule_part q (length x) room k)
      w)

-- Kind 1: a node with 97 to 256 children is read back. Assumes nothing.
use Prim.Native.Nat.{◌*◌, ◌+◌, ◌-◌, ◌<◌, ◌^◌, ◌≤◌, suc, zero, ℕ}
use native.Mathlib.Nat.{add-zero}
use native.Mathlib.Omega.{arith}
use mathlib.Core.List.{List, [], ◌++◌, ◌∷◌}
use mathlib.Core.Path.{◌∙◌, ◌≡◌, refl, subst, sym}
use lib.ListN.{get_or, length, length-append}
use Rattle.words.proofs.Parts.{length_bytes64}
use Rattle.words.specs.Words.{bytes64, le64}
use Rattle.words.specs.Holding.{Holds}
use Rattle.words.proofs.Holding.{holds_at, holds_le, holds_left, holds_right}
use Rattle.trie.specs.Trie.{Lists, entries_of}
use Rattle.image_format.proofs.ByByte.{Bytes, One, all_entries, all_length, all_nodes, at_most, at_read, just, nobody, one_at}
use Rattle.image_format.proofs.Holding.{holds_head}
use Rattle.kinds.proofs.KindRule.{fits_one, kind_one}
use Rattle.image_format.proofs.KindThree.{AllRead, Distinct}
use Rattle.image_format.proofs.Nodes.{child_node, child_none, end_dense, node_done}
use Rattle.image_format.proofs.Tables.{open_dense, slot_dense}
use Rattle.image_format.specs.Image.{Child, ascending, entries_in, lists_bytes, lists_size, node_bytes, node_size, nodes_in, slot_bytes, slot_offsets, slot_size, slots_bytes, slots_size, table_bytes, table_size, with_byte}
use Rattle.image_format.specs.Reading.{Table, all_met, behind, dense_table, done, open_table, read_child, read_node, read_table, read_turns, table}

pub offsets_length : (m b at : ℕ) (ks : List Child) → length (slot_offsets m b at ks) ≡ m * 8
unfolding slot_offsets
offsets_length zero b at ks = refl
offsets_length (suc m) b at ks = simp (length-append, length_bytes64) (omega (arith, offsets_length m (b + 1) (at + slot_size (with_byte b ks)) ks))

pub slot_length : (d at : ℕ) (l : List Child) → AllRead d l → length (slot_bytes at l) ≡ slot_size l
unfolding slot_bytes slot_size AllRead
slot_length d at [] x = refl
slot_length d at (k ∷ l) x = omega (arith, x.0.sized (at + 1))

module _ (s : List ℕ) (d : ℕ) (p : Table) (ks : List Child) (small : length s < 2 ^ 64) (one : p.kind ≡ 1) (apart : Distinct [] ks) (reads : AllRead d ks) where
  turn_none : (b at : ℕ) → at ≡ le64 s (p.base + b * 8) → at + 1 ≤ length s → get_or s at 0 ≡ 0 → done (at + 1) 0 0 0 ≡ read_child s (read_node s d) p b at
  turn_none b at o g h = child_none s (read_node s d) p b at (le64 s (p.base + b * 8)) (slot_dense s p b one) (sym o) (omega arith) h one

  turn_some : (b at : ℕ) (k : Child) → with_byte b ks ≡ k ∷ [] → at ≡ le64 s (p.base + b * 8) → at + 1 + k.size ≤ length s →
      Holds s at (1 ∷ k.bytes (at + 1)) → done (at + (1 + k.size)) 1 k.nodes k.entries ≡ read_child s (read_node s d) p b at
  unfolding Holds AllRead
  turn_some b at k o f g h =
      let x : AllRead d (k ∷ []) = subst (AllRead d) o (at_read d b ks reads) in
      let z : at + 1 + k.size ≡ at + (1 + k.size) = omega arith in
      let r : done (at + 1 + k.size) 1 k.nodes k.entries ≡ read_node s d (at + 1) = x.0.back s (at + 1) small g h.1 in
      rw z at r ∙ child_node s (read_node s d) p b at (le64 s (p.base + b * 8)) (slot_dense s p b one) (sym f) (omega arith) h.0

  slot_sized : (b at : ℕ) → length (slot_bytes at (with_byte b ks)) ≡ slot_size (with_byte b ks)
  unfolding slot_bytes slot_size AllRead
  slot_sized b at = go (with_byte b ks) (at_read d b ks reads)
    where
      go : (l : List Child) → AllRead d l → length (slot_bytes at l) ≡ slot_size l
      go [] x = refl
      go (k ∷ l) x = omega (arith, x.0.sized (at + 1))

  run_dense : (m b at c n e : ℕ) → at + slots_size m b ks ≤ length s → Holds s (p.base + b * 8) (slot_offsets m b at ks) → Holds s at (slots_bytes m b at ks) →
      all_met p (at + slots_size m b ks) (c + length (ascending m b ks)) (n + nodes_in (ascending m b ks)) (e + entries_in (ascending m b ks)) ≡
      read_turns s (read_node s d) p m b at c n e
  unfolding ascending slots_size slot_size slot_offsets slots_bytes slot_bytes nodes_in entries_in read_turns Holds
  run_dense zero b at c n e g o h = simp add-zero
  run_dense (suc m) b at c n e g o h =
      let x = with_byte b ks in
      let at' = at + slot_size x in
      let off : at ≡ le64 s (p.base + b * 8) = holds_le s (p.base + b * 8) at (omega arith) (holds_left s (p.base + b * 8) (bytes64 at) (slot_offsets m (b + 1) at' ks) o) in
      let o' : Holds s (p.base + (b + 1) * 8) (slot_offsets m (b + 1) at' ks) =
      holds_at s (p.base + b * 8 + 8) (p.base + (b + 1) * 8) (slot_offsets m (b + 1) at' ks) (omega arith)
      (holds_right s (p.base + b * 8) 8 (bytes64 at) (slot_offsets m (b + 1) at' ks) (length_bytes64 at) o) in
      let h1 = holds_left s at (slot_bytes at x) (slots_bytes m (b + 1) at' ks) h in
      let h2 = holds_right s at (slot_size x) (slot_bytes at x) (slots_bytes m (b + 1) at' ks) (slot_sized b at) h in
      go (one_at b [] ks apart) off h1 (λ c' n' e'. run_dense m (b + 1) at' c' n' e' (omega arith) o' h2)
    where
      go : One b ks → at ≡ le64 s (p.base + b * 8) → Holds s at (slot_bytes at (with_byte b ks)) →
          ((c' n' e' : ℕ) → all_met p (at + slot_size (with_byte b ks) + slots_size m (b + 1) ks) (c' + length (ascending m (b + 1) ks)) (n' + nodes_in (ascending m (b + 1) ks)) (e' + entries_in (ascending m (b + 1) ks)) ≡
          read_turns s (read_node s d) p m (b + 1) (at + slot_size (with_byte b ks)) c' n' e') →
          all_met p (at + (slot_size (with_byte b ks) + slots_size m (b + 1) ks)) (c + length (with_byte b ks ++ ascending m (b + 1) ks)) (n + nodes_in (with_byte b ks ++ ascending m (b + 1) ks)) (e + entries_in (with_byte b ks ++ ascending m (b + 1) ks)) ≡
          behind (read_child s (read_node s d) p b at) (λ next k a x. read_turns s (read_node s d) p m (b + 1) next (c + k) (n + a) (e + x))
      go (nobody r) off w ih =
          let g' : at + (1 + slots_size m (b + 1) ks) ≤ length s = rw r at g in
          let w' : Holds s at (0 ∷ []) = rw r at w in
          let i : all_met p (at + 1 + slots_size m (b + 1) ks) (c + length (ascending m (b + 1) ks)) (n + nodes_in (ascending m (b + 1) ks)) (e + entries_in (ascending m (b + 1) ks)) ≡
          read_turns s (read_node s d) p m (b + 1) (at + 1) c n e = rw r at (ih c n e) in
          let z : at + (1 + slots_size m (b + 1) ks) ≡ at + 1 + slots_size m (b + 1) ks = omega arith in
          rw (r, z, ← turn_none b at off (omega arith) w'.0) (simp add-zero i)
      go (just k r) off w ih =
          let rest = ascending m (b + 1) ks in
          let g' : at + (1 + k.size + slots_size m (b + 1) ks) ≤ length s = rw r at g in
          let w' : Holds s at (1 ∷ k.bytes (at + 1)) = rw r at w in
          let i : all_met p (at + (1 + k.size) + slots_size m (b + 1) ks) (c + 1 + length rest) (n + k.nodes + nodes_in rest) (e + k.entries + entries_in rest) ≡
          read_turns s (read_node s d) p m (b + 1) (at + (1 + k.size)) (c + 1) (n + k.nodes) (e + k.entries) = rw r at (ih (c + 1) (n + k.nodes) (e + k.entries)) in
          let e1 : at + (1 + k.size + slots_size m (b + 1) ks) ≡ at + (1 + k.size) + slots_size m (b + 1) ks = omega arith in
          let e2 : c + suc (length rest) ≡ c + 1 + length rest = omega arith in
          let e3 : n + (k.nodes + nodes_in rest) ≡ n + k.nodes + nodes_in rest = omega arith in
          let e4 : e + (k.entries + entries_in rest) ≡ e + k.entries + entries_in rest = omega arith in
          rw (r, e1, e2, e3, e4, ← turn_some b at k r off (omega arith) w') i

module _ (s : List ℕ) (d at : ℕ) (h : Lists) (ks : List Child) (over : 96 < length ks) (bytes : Bytes ks) (apart : Distinct [] ks) (reads : AllRead d ks) where
  pub size_one : node_size h ks ≡ 1 + lists_size h + (2048 + slots_size 256 0 ks)
  unfolding node_size table_size
  size_one = simp (kind_one _ over (at_most ks bytes apart))

  pub bytes_one : node_bytes at h ks ≡ 1 ∷ (lists_bytes h ++ (slot_offsets 256 0 (at + 1 + lists_size h + 2048) ks ++ slots_bytes 256 0 (at + 1 + lists_size h + 2048) ks))
  unfolding node_bytes table_bytes
  bytes_one = simp (kind_one _ over (at_most ks bytes apart))

  pub back_one : length s < 2 ^ 64 → at + node_size h ks ≤ length s → Holds s at (node_bytes at h ks) →
      done (at + node_size h ks) 1 (nodes_in ks + 1) (entries_of h + entries_in ks) ≡ read_node s (suc d) at
  unfolding read_table
  back_one b f g =
      let asc = ascending 256 0 ks in
      let a1 = at + 1 + lists_size h in
      let a3 = a1 + 2048 in
      let sz = size_one in
      let rest = slot_offsets 256 0 a3 ks ++ slots_bytes 256 0 a3 ks in
      let g' : Holds s at (1 ∷ (lists_bytes h ++ rest)) = subst (Holds s at) bytes_one g in
      let hd = holds_head s at 1 h rest b (omega arith) (omega arith) (omega arith) g' in
      let z : a1 ≡ a1 + 0 * 8 = omega arith in
      let ho = holds_at s a1 (a1 + 0 * 8) (slot_offsets 256 0 a3 ks) z (holds_left s a1 (slot_offsets 256 0 a3 ks) (slots_bytes 256 0 a3 ks) hd.1) in
      let hk = holds_right s a1 2048 (slot_offsets 256 0 a3 ks) (slots_bytes 256 0 a3 ks) (offsets_length 256 0 a3 ks) hd.1 in
      let p = dense_table a1 in
      let op : table p ≡ open_table s 1 a1 = open_dense s 1 a1 refl (omega arith) in
      let run = run_dense s d p ks b refl apart reads 256 0 a3 0 0 0 (omega arith) ho hk in
      let en = end_dense p (a3 + slots_size 256 0 ks) (0 + length asc) (0 + nodes_in asc) (0 + entries_in asc) refl (fits_one (0 + length asc) (omega (arith, all_length ks bytes)) (omega (arith, all_length ks bytes, at_most ks bytes apart))) in
      let e1 : at + node_size h ks ≡ a3 + slots_size 256 0 ks = omega arith in
      let e2 : nodes_in ks ≡ 0 + nodes_in asc = omega (arith, all_nodes ks bytes) in
      let e3 : entries_in ks ≡ 0 + entries_in asc = omega (arith, all_entries ks bytes) in
      let l : suc d - 1 ≡ d = omega arith in
      let tab : done (a3 + slots_size 256 0 ks) 1 (0 + nodes_in asc) (0 + entries_in asc) ≡ read_table s (read_node s (suc d - 1)) p = rw l (en ∙ run) in
      rw (e1, e2, e3) (node_done s (suc d) at (omega arith) 1 a1 (entries_of h) p (a3 + slots_size 256 0 ks) 1 (0 + nodes_in asc) (0 + entries_in asc) hd.0 op tab)

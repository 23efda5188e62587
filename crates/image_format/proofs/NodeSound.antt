-- write after read: a node that is read to its end has the bytes of the node that it holds. Assumes nothing.
use Prim.Native.Nat.{◌*◌, ◌+◌, ◌<◌, ◌≤◌, suc, zero, ℕ}
use native.Mathlib.Omega.{arith}
use mathlib.Core.List.{List, [], ◌++◌, ◌∷◌}
use mathlib.Core.Path.{◌∙◌, ◌≡◌, refl, subst, sym}
use lib.ListN.{get_or, length}
use Rattle.words.proofs.Parts.{length_bytes64}
use Rattle.words.specs.Words.{bytes64, le64}
use Rattle.words.specs.Holding.{Holds}
use Rattle.words.proofs.Holding.{holds_append, holds_at}
use Rattle.trie.specs.Trie.{Forest, Lists, Node, leaf, more}
use Rattle.image_format.proofs.ByByte.{Bytes, below_zero}
use Rattle.image_format.proofs.BytesRead.{holds_read}
use Rattle.image_format.proofs.EndedWell.{Open, dense, fault_apart, head_inv, never, open_inv, sparse}
use Rattle.image_format.proofs.Holding.{head_length}
use Rattle.image_format.proofs.KindOne.{bytes_one, offsets_length, size_one}
use Rattle.image_format.proofs.KindOneSound.{apart_rising, lower_nil, one_inv}
use Rattle.kinds.proofs.KindRule.{Fits, fits_view, one, three, two}
use Rattle.image_format.proofs.KindThree.{BytesAt, Distinct, bytes_three, size_three, table_length}
use Rattle.image_format.proofs.KindThreeSound.{table_back, three_inv}
use Rattle.image_format.proofs.KindTwo.{bytes_two, offs_length, size_two}
use Rattle.image_format.proofs.KindTwoSound.{distinct_two, limits_two, offs_back, offs_two, two_inv}
use Rattle.image_format.proofs.ReadBack.{Limits, Up, all_read, node_length}
use Rattle.image_format.proofs.Sound.{Sound, lists_back, sparse_bytes, sparse_length, sparse_small}
use Rattle.image_format.proofs.TrieBack.{entries_dense, entries_sparse}
use Rattle.image_format.specs.Held.{Entry, dense_entries, forest_by, list_end, lists_in, node_in, sparse_entries, table_entries}
use Rattle.image_format.specs.Image.{ascending, children_bytes, children_of, lists_bytes, lists_size, node_bytes, node_size, slot_offsets, slots_bytes, table_by_arrival, table_by_byte}
use Rattle.image_format.specs.Reading.{HeadRead, Step, Table, TableRead, behind, behind_head, behind_table, dense_table, done, fault, head, no_head, no_table, open_table, read_head, read_node, read_table, sparse_table, table, table_fault}
use Rattle.image_format.specs.Savable.{AllBytes}

module _ (s : List ℕ) (all : AllBytes s) (d : ℕ) (T : ℕ → Node)
    (snd : (x next k n e : ℕ) → done next k n e ≡ read_node s d x → Sound s d x next (T x)) where
  -- a node that was read from at to next, of the trie (h, f)
  record Whole (at next : ℕ) (h : Lists) (f : Forest) : Type 0 where
    holds : Holds s at (node_bytes at h (children_of f))
    ends : next ≡ at + node_size h (children_of f)
    limits : Limits d f
    up : Up f
    bytes : Bytes (children_of f)
    apart : Distinct [] (children_of f)

  whole_dense : (at nx end k n e : ℕ) → get_or s at 0 ≡ 1 → nx ≡ list_end s (list_end s (list_end s (at + 1))) → done end k n e ≡ read_table s (read_node s d) (dense_table nx) →
      Whole at end (lists_in s at) (forest_by T (table_entries s at))
  unfolding read_table Holds
  whole_dense at nx end k n e g z f =
      let F = forest_by T (dense_entries s nx 256 0) in
      let D = one_inv s all d T snd (dense_table nx) 256 0 (nx + 2048) 0 0 0 end k n e refl refl f in
      let h = lists_in s at in
      let ks = children_of F in
      let hl = lists_back s all at in
      let over : 96 < length ks = omega (arith, D.count) in
      let ap = apart_rising 0 [] ks lower_nil D.rising in
      let rd = all_read d F D.limits in
      let a1 = at + 1 + lists_size h in
      let zz : nx ≡ a1 = z ∙ hl.1 in
      let es : dense_entries s nx 256 0 ≡ table_entries s at = entries_dense s at nx g (sym z) in
      let o1 : Holds s a1 (slot_offsets 256 0 (a1 + 2048) ks) = holds_at s (a1 + 0 * 8) a1 (slot_offsets 256 0 (a1 + 2048) ks) (omega arith) (subst (λ (x : ℕ). Holds s (x + 0 * 8) (slot_offsets 256 0 (x + 2048) ks)) zz D.offsets) in
      let s1 : Holds s (a1 + 2048) (slots_bytes 256 0 (a1 + 2048) ks) = subst (λ (x : ℕ). Holds s (x + 2048) (slots_bytes 256 0 (x + 2048) ks)) zz D.slots in
      let tl = holds_append s a1 2048 (slot_offsets 256 0 (a1 + 2048) ks) (slots_bytes 256 0 (a1 + 2048) ks) (offsets_length 256 0 (a1 + 2048) ks) o1 s1 in
      let w : Holds s at (1 ∷ (lists_bytes h ++ (slot_offsets 256 0 (a1 + 2048) ks ++ slots_bytes 256 0 (a1 + 2048) ks))) =
      (g, holds_append s (at + 1) (lists_size h) (lists_bytes h) (slot_offsets 256 0 (a1 + 2048) ks ++ slots_bytes 256 0 (a1 + 2048) ks) (head_length h) hl.0 tl) in
      let sz = size_one s d at h ks over D.bytes ap rd in
      subst (λ (x : List Entry). Whole at end h (forest_by T x)) es
      (record { holds = subst (Holds s at) (sym (bytes_one s d at h ks over D.bytes ap rd)) w; ends = omega (arith, D.ends); limits = D.limits; up = λ _. D.rising; bytes = D.bytes; apart = ap })

  whole_three : (at nx end k n e : ℕ) → get_or s at 0 ≡ 3 → nx ≡ list_end s (list_end s (list_end s (at + 1))) → le64 s nx ≤ 8 → 0 ≡ table_fault s (nx + 8) (le64 s nx) 0 →
      done end k n e ≡ read_table s (read_node s d) (sparse_table 3 nx (le64 s nx)) → Whole at end (lists_in s at) (forest_by T (table_entries s at))
  unfolding read_table Holds BytesAt
  whole_three at nx end k n e g z few clean f =
      let N = le64 s nx in
      let F = forest_by T (sparse_entries s (nx + 8) N 0) in
      let D = three_inv s all d T snd (sparse_table 3 nx N) N 0 (nx + 8 + N * 9) 0 0 0 end k n e refl f in
      let h = lists_in s at in
      let ks = children_of F in
      let hl = lists_back s all at in
      let len = sparse_length s T (nx + 8) N 0 in
      let small : length ks ≤ 8 = omega arith in
      let ap = fault_apart s (nx + 8) [] ks tt (sparse_bytes s T (nx + 8) N 0) (rw len clean) in
      let rd = all_read d F D.0 in
      let a1 = at + 1 + lists_size h in
      let a3 = a1 + 8 + length ks * 9 in
      let zz : nx ≡ a1 = z ∙ hl.1 in
      let no1 : get_or s at 0 ≡ 1 → ⊥ = omega arith in
      let es : sparse_entries s (nx + 8) N 0 ≡ table_entries s at = entries_sparse s at nx N no1 (sym z) refl in
      let z3 : nx + 8 + N * 9 ≡ a3 = omega arith in
      let n1 : Holds s a1 (bytes64 (length ks)) = rw len (subst (λ (x : ℕ). Holds s x (bytes64 (le64 s nx))) zz (holds_read s nx all)) in
      let t0 : Holds s (nx + 8 + 0 * 9) (table_by_arrival (nx + 8 + N * 9) ks) = table_back s all (nx + 8) 0 (nx + 8 + N * 9) ks D.1 in
      let t1 : Holds s (a1 + 8) (table_by_arrival a3 ks) = holds_at s (nx + 8 + 0 * 9) (a1 + 8) (table_by_arrival a3 ks) (omega arith) (subst (λ (x : ℕ). Holds s (nx + 8 + 0 * 9) (table_by_arrival x ks)) z3 t0) in
      let k1 : Holds s a3 (children_bytes a3 ks) = subst (λ (x : ℕ). Holds s x (children_bytes x ks)) z3 D.2 in
      let tk = holds_append s (a1 + 8) (length ks * 9) (table_by_arrival a3 ks) (children_bytes a3 ks) (table_length a3 ks) t1 k1 in
      let tl = holds_append s a1 8 (bytes64 (length ks)) (table_by_arrival a3 ks ++ children_bytes a3 ks) (length_bytes64 (length ks)) n1 tk in
      let w : Holds s at (3 ∷ (lists_bytes h ++ (bytes64 (length ks) ++ (table_by_arrival a3 ks ++ children_bytes a3 ks)))) =
      (g, holds_append s (at + 1) (lists_size h) (lists_bytes h) (bytes64 (length ks) ++ (table_by_arrival a3 ks ++ children_bytes a3 ks)) (head_length h) hl.0 tl) in
      let sz = size_three s d at h ks small ap rd in
      subst (λ (x : List Entry). Whole at end h (forest_by T x)) es
      (record { holds = subst (Holds s at) (sym (bytes_three s d at h ks small ap rd)) w; ends = omega (arith, D.3); limits = D.0; up = λ o. absurd (omega arith); bytes = sparse_small s T all (nx + 8) N 0; apart = ap })

  whole_two : (at nx end k n e : ℕ) → get_or s at 0 ≡ 2 → nx ≡ list_end s (list_end s (list_end s (at + 1))) → 9 ≤ le64 s nx → le64 s nx ≤ 96 → 0 ≡ table_fault s (nx + 8) (le64 s nx) 0 →
      done end k n e ≡ read_table s (read_node s d) (sparse_table 2 nx (le64 s nx)) → Whole at end (lists_in s at) (forest_by T (table_entries s at))
  unfolding read_table Holds BytesAt
  whole_two at nx end k n e g z least few clean f =
      let N = le64 s nx in
      let P = sparse_table 2 nx N in
      let F = forest_by T (sparse_entries s (nx + 8) N 0) in
      let st = nx + 8 + N * 9 in
      let no3 : P.kind ≡ 3 → ⊥ = omega arith in
      let no1' : P.kind ≡ 1 → ⊥ = omega arith in
      let ks = children_of F in
      let D = two_inv s all d T snd P st N no3 no1' refl clean 256 0 st 0 0 0 end k n e (omega (arith, below_zero ks)) f in
      let lim = limits_two s all d T snd P st N no3 no1' refl clean D.2 N 0 (omega arith) in
      let off = offs_two s all d T snd P st N no3 no1' refl clean D.2 N 0 (omega arith) in
      let h = lists_in s at in
      let hl = lists_back s all at in
      let len = sparse_length s T (nx + 8) N 0 in
      let over : 8 < length ks = omega arith in
      let small : length ks ≤ 96 = omega arith in
      let ap = distinct_two s all d T snd P st N no3 no1' refl clean in
      let by = sparse_small s T all (nx + 8) N 0 in
      let rd = all_read d F lim in
      let a1 = at + 1 + lists_size h in
      let a3 = a1 + 8 + length ks * 9 in
      let asc = ascending 256 0 ks in
      let zz : nx ≡ a1 = z ∙ hl.1 in
      let no1 : get_or s at 0 ≡ 1 → ⊥ = omega arith in
      let es : sparse_entries s (nx + 8) N 0 ≡ table_entries s at = entries_sparse s at nx N no1 (sym z) refl in
      let z3 : st ≡ a3 = omega arith in
      let n1 : Holds s a1 (bytes64 (length ks)) = rw len (subst (λ (x : ℕ). Holds s x (bytes64 (le64 s nx))) zz (holds_read s nx all)) in
      let t0 : Holds s (nx + 8 + 0 * 9) (table_by_byte st ks ks) = offs_back s all (nx + 8) st 0 ks ks off in
      let t1 : Holds s (a1 + 8) (table_by_byte a3 ks ks) = holds_at s (nx + 8 + 0 * 9) (a1 + 8) (table_by_byte a3 ks ks) (omega arith) (subst (λ (x : ℕ). Holds s (nx + 8 + 0 * 9) (table_by_byte x ks ks)) z3 t0) in
      let k1 : Holds s a3 (children_bytes a3 asc) = subst (λ (x : ℕ). Holds s x (children_bytes x asc)) z3 D.0 in
      let tk = holds_append s (a1 + 8) (length ks * 9) (table_by_byte a3 ks ks) (children_bytes a3 asc) (offs_length a3 ks ks) t1 k1 in
      let tl = holds_append s a1 8 (bytes64 (length ks)) (table_by_byte a3 ks ks ++ children_bytes a3 asc) (length_bytes64 (length ks)) n1 tk in
      let w : Holds s at (2 ∷ (lists_bytes h ++ (bytes64 (length ks) ++ (table_by_byte a3 ks ks ++ children_bytes a3 asc)))) =
      (g, holds_append s (at + 1) (lists_size h) (lists_bytes h) (bytes64 (length ks) ++ (table_by_byte a3 ks ks ++ children_bytes a3 asc)) (head_length h) hl.0 tl) in
      let sz = size_two s d at h ks over small by ap rd in
      subst (λ (x : List Entry). Whole at end h (forest_by T x)) es
      (record { holds = subst (Holds s at) (sym (bytes_two s d at h ks over small by ap rd)) w; ends = omega (arith, D.1); limits = lim; up = λ o. absurd (omega arith); bytes = by; apart = ap })

  -- whatever its kind
  whole_open : (at nx end k n e kind : ℕ) (q : Table) → get_or s at 0 ≡ kind → (kind ≡ 0 → ⊥) → kind ≤ 3 → nx ≡ list_end s (list_end s (list_end s (at + 1))) → Open s kind nx q →
      done end k n e ≡ read_table s (read_node s d) q → Whole at end (lists_in s at) (forest_by T (table_entries s at))
  whole_open at nx end k n e kind q g z m x (dense y l r) f =
      whole_dense at nx end k n e (g ∙ y) x (rw r at f)
  whole_open at nx end k n e kind q g z m x (sparse y l i c r) f = go (fits_view kind (le64 s nx) i)
    where
      go : Fits kind (le64 s nx) → Whole at end (lists_in s at) (forest_by T (table_entries s at))
      go (three w few) =
          whole_three at nx end k n e (g ∙ w) x few c (subst (λ (y : ℕ). done end k n e ≡ read_table s (read_node s d) (sparse_table y nx (le64 s nx))) w (rw r at f))
      go (two w least few) =
          whole_two at nx end k n e (g ∙ w) x least few c (subst (λ (y : ℕ). done end k n e ≡ read_table s (read_node s d) (sparse_table y nx (le64 s nx))) w (rw r at f))
      go (one w a b) = absurd (y w)

  whole_node : (at next k n e : ℕ) → done next k n e ≡ read_node s (suc d) at → Whole at next (lists_in s at) (forest_by T (table_entries s at))
  unfolding read_node
  whole_node at next k n e f = heads (read_head s at) refl f
    where
      tables : (kind nx en : ℕ) (q : Table) → head kind nx en ≡ read_head s at → table q ≡ open_table s kind nx → (v : Step) → v ≡ read_table s (read_node s d) q →
          done next k n e ≡ behind v (λ end c x y. done end 1 (x + 1) (en + y)) → Whole at next (lists_in s at) (forest_by T (table_entries s at))
      tables kind nx en q h o (fault c) g f = never f
      tables kind nx en q h o (done end c x y) g f =
          let w : next ≡ end = cc in
          let i = head_inv s at kind nx en h in
          subst (λ (z : ℕ). Whole at z (lists_in s at) (forest_by T (table_entries s at))) (sym w)
          (whole_open at nx end c x y kind q i.0 i.1 i.2 i.3 (open_inv s kind nx q o) g)

      opens : (kind nx en : ℕ) → head kind nx en ≡ read_head s at → (v : TableRead) → v ≡ open_table s kind nx → done next k n e ≡ behind_table s (read_node s d) en v →
          Whole at next (lists_in s at) (forest_by T (table_entries s at))
      opens kind nx en h (no_table c) g f = never f
      opens kind nx en h (table q) g f = tables kind nx en q h g (read_table s (read_node s d) q) refl f

      heads : (v : HeadRead) → v ≡ read_head s at → done next k n e ≡ behind_head s (read_node s d) v → Whole at next (lists_in s at) (forest_by T (table_entries s at))
      heads (no_head c) g f = never f
      heads (head kind nx en) g f = opens kind nx en g (open_table s kind nx) refl f

-- the trie of a child, with d levels for it and those below it
abbrev child_tree : List ℕ → ℕ → ℕ → Node
child_tree s zero x = record { lists = lists_in s x; children = leaf }
child_tree s (suc d) x = node_in s d x

no_children : (f : Forest) → Limits 0 f → leaf ≡ f
unfolding Limits
no_children leaf l = refl
no_children (more b h under later) l = absurd l

zero_node : (s : List ℕ) (x : ℕ) → read_node s 0 x ≡ fault 15
unfolding read_node
zero_node s x = refl

sound_node : (s : List ℕ) (d x next : ℕ) (h : Lists) (g : Forest) → Holds s x (node_bytes x h (children_of g)) → next ≡ x + node_size h (children_of g) → Limits d g → Up g → Bytes (children_of g) → Distinct [] (children_of g) →
    Sound s (suc d) x next (record { lists = h; children = g })
unfolding Limits
sound_node s d x next h g u v l up b p = record { holds = u; ends = v; grow = λ c later m w. (b, p, up, l, w); sized = λ y. node_length d y h (children_of g) (all_read d g l) }

tree_made : (s : List ℕ) (d x next : ℕ) → Limits d (forest_by (child_tree s d) (table_entries s x)) → Sound s (suc d) x next (record { lists = lists_in s x; children = forest_by (child_tree s d) (table_entries s x) }) → Sound s (suc d) x next (node_in s d x)
unfolding node_in
tree_made s zero x next l K = subst (λ (f : Forest). Sound s 1 x next (record { lists = lists_in s x; children = f })) (sym (no_children (forest_by (child_tree s 0) (table_entries s x)) l)) K
tree_made s (suc d) x next l K = K

pub child_sound : (s : List ℕ) → AllBytes s → (d x next k n e : ℕ) → done next k n e ≡ read_node s d x → Sound s d x next (child_tree s d x)
child_sound s a zero x next k n e f = never (f ∙ zero_node s x)
child_sound s a (suc d) x next k n e f =
    let W = whole_node s a d (child_tree s d) (λ y m i j l g. child_sound s a d y m i j l g) x next k n e f in
    tree_made s d x next W.limits (sound_node s d x next (lists_in s x) (forest_by (child_tree s d) (table_entries s x)) W.holds W.ends W.limits W.up W.bytes W.apart)

-- A turn of a table: which group it is for, and what is written. Assumes nothing.
use Prim.Native.Nat.{ℕ, suc, ◌+◌, ◌-◌, ◌*◌, ◌≤◌, ◌<◌}
use native.Mathlib.Omega.{arith}
use mathlib.Core.Path.{◌≡◌, refl, sym, ap, subst, ◌∙◌}
use mathlib.Core.List.{List, ◌∷◌}
use lib.ListN.{length, get_or, set, take}
use lib.Seq.{sets}
use Rattle.words.specs.Words.{bytes64}
use Rattle.tails.specs.Groups.{byte_at, Group}
use Rattle.kinds.specs.Kinds.{kind_number}
use Rattle.kinds.specs.declared.NodeKind.{NodeKind}
use Rattle.kinds.specs.declared.NodeKind.TheVariants as K
use Rattle.tail_words.specs.Tail.{tail_in, record_in, ValidRecord}
use Rattle.tail_groups.specs.Ranks.{rank_of, with_rank, firsts}
use Rattle.tail_groups.proofs.Buffer.{grouped_firsts}
use Rattle.tail_groups.proofs.Arrival.{rank_inside, arrived, arrived_inside, with_rank_found}
use Rattle.tail_groups.specs.declared.Grouping.{Grouping}
use Rattle.std.specs.Prelude.{Option, Some, None}
use Rattle.slot_writer.specs.declared.Table.{Table}
use Rattle.slot_writer.specs.Turns.{groups_in, group_in, group_bytes, Known, GroupEntry, DensePicked, TurnAsked, Picked}

-- ── kinds ──

-- a kind with the number 1 is the dense one
pub dense_is : (k : NodeKind) → kind_number k ≡ 1 → k ≡ K.Dense
dense_is K.Dense e = refl
dense_is K.ByByte e = absurd (omega arith)
dense_is K.ByArrival e = absurd (omega arith)

-- ── what is known of groups ──

module _ {s : List ℕ} {work lo hi d n : ℕ} {x : Grouping} (w : Known s work lo hi d n x) where
  count : n ≡ length (groups_in s work lo hi d)
  count = w.grouped.count

  few : n ≤ 256
  few = w.grouped.few

  same_firsts : take n x.firsts ≡ firsts (groups_in s work lo hi d)
  same_firsts = grouped_firsts w.grouped

  -- the bytes of its tails can be read
  pub known_readable : (g : ℕ) → g < n → (d < 16) × (work + 56 * get_or x.starts g 0 + 56 ≤ length s) × ValidRecord (record_in s work (get_or x.starts g 0))
  known_readable g l =
      let y = w.grouped.each g l in
      (w.depth, omega (arith, y.some, y.upto, w.memory), w.held.each (get_or x.starts g 0) y.from (omega (arith, y.some, y.upto)))

  pub known_rank : (g r : ℕ) → g < n → r ≡ rank_of (get_or x.firsts g 0) (take n x.firsts)
      → r ≡ rank_of (group_in s work lo hi d g).first (firsts (groups_in s work lo hi d))
  known_rank g r l e =
      e ∙ ap (λ (ns : List ℕ). rank_of (get_or x.firsts g 0) ns) same_firsts
      ∙ ap (λ (k : ℕ). rank_of k (firsts (groups_in s work lo hi d))) (w.grouped.each g l).first

  pub known_inside : (g r : ℕ) → g < n → r ≡ rank_of (get_or x.firsts g 0) (take n x.firsts) → r < n
  known_inside g r l e = omega (arith, known_rank g r l e, rank_inside (groups_in s work lo hi d) w.different g (omega (arith, count)), count)

  pub known_byte : (g b : ℕ) → g < n → b ≡ byte_at d (tail_in s work (get_or x.starts g 0)) → b ≡ (group_in s work lo hi d g).byte
  known_byte g b l e = e ∙ (w.grouped.each g l).byte

  -- the entry written byte by byte
  pub entry_put : (base g r b at : ℕ) (s' : List ℕ) → g < n → r ≡ rank_of (get_or x.firsts g 0) (take n x.firsts)
      → b ≡ byte_at d (tail_in s work (get_or x.starts g 0)) → s' ≡ set (sets (set s (base + r * 9) b) (base + r * 9 + 1) (bytes64 (at - 64))) at 1
      → GroupEntry s s' work lo hi d base g at
  entry_put base g r b at s' l e f q = record { is = q ∙ go r b (known_rank g r l e) (known_byte g b l f) }
    where
      go : (r b : ℕ) → r ≡ rank_of (group_in s work lo hi d g).first (firsts (groups_in s work lo hi d)) → b ≡ (group_in s work lo hi d g).byte
          → set (sets (set s (base + r * 9) b) (base + r * 9 + 1) (bytes64 (at - 64))) at 1
          ≡ set (sets s (base + rank_of (group_in s work lo hi d g).first (firsts (groups_in s work lo hi d)) * 9) (group_bytes (group_in s work lo hi d g) (at - 64))) at 1
      go r b e f =
          let p : base + r * 9 + 1 ≡ suc (base + r * 9) = omega arith in
          ap (λ (x : ℕ). set (sets (set s (base + r * 9) b) x (bytes64 (at - 64))) at 1) p
          ∙ ap (λ (x : ℕ). set (sets s (base + x * 9) (b ∷ bytes64 (at - 64))) at 1) e
          ∙ ap (λ (x : ℕ). set (sets s (base + rank_of (group_in s work lo hi d g).first (firsts (groups_in s work lo hi d)) * 9) (x ∷ bytes64 (at - 64))) at 1) f

-- ── which group ──

module _ {s : List ℕ} {work lo hi d n : ℕ} {x : Grouping} {j met : ℕ} (w : Known s work lo hi d n x) where
  pub dense_late : n ≤ met → DensePicked s work lo hi d n j met None
  dense_late h = record { none = λ i k. absurd (omega arith); one = λ g i. absurd (cc) }

  pub dense_none : (b : ℕ) → met < n → b ≡ byte_at d (tail_in s work (get_or x.starts met 0)) → ¬ (b ≡ j) → DensePicked s work lo hi d n j met None
  dense_none b h e f = record { none = λ i k y. f (known_byte w met b h e ∙ y); one = λ g i. absurd (cc) }

module _ {s : List ℕ} {work lo hi d : ℕ} {t : Table} {n : ℕ} {x : Grouping} {j met : ℕ} (q : TurnAsked s work lo hi d t n x j met) where
  -- the kinds with a table of their own have a turn for each group
  sparse_turn : ¬ (kind_number t.kind ≡ 1) → j < n
  sparse_turn k = omega (arith, q.turn, (q.sparse (λ h. k (q.kind ∙ h))).0)

  pub picked_three : {r : Option ℕ} → kind_number t.kind ≡ 3 → r ≡ with_rank (take n x.firsts) j → Picked s work lo hi d t n j met r
  picked_three {r} k e = record {
    three = λ h. f;
    two = λ h. absurd (omega arith);
    none = λ h. absurd (nothing h);
    one = λ g h i. absurd (omega arith);
    inside = λ g h. inside g h;
  }
    where
      gs : List Group
      gs = groups_in s work lo hi d

      turn : j < length gs
      turn = omega (arith, sparse_turn (λ h. absurd (omega arith)), count q.known)

      f : r ≡ with_rank (firsts gs) j
      f = e ∙ ap (λ (ns : List ℕ). with_rank ns j) (same_firsts q.known)

      found : r ≡ Some (arrived gs j)
      found = f ∙ with_rank_found gs q.known.different j turn

      nothing : r ≡ None → ⊥
      nothing h =
          let e : Some (arrived gs j) ≡ None = sym found ∙ h in
          cc

      inside : (g : ℕ) → r ≡ Some g → g < n
      inside g h =
          let m : arrived gs j ≡ g = cc found in
          omega (arith, arrived_inside gs q.known.different j turn, count q.known)

  pub picked_two : kind_number t.kind ≡ 2 → Picked s work lo hi d t n j met (Some j)
  picked_two k =
      let l : j < n = sparse_turn (λ h. absurd (omega arith)) in
      record { three = λ h. absurd (omega arith); two = λ h. refl; none = λ h. absurd (cc); one = λ g h i. absurd (omega arith); inside = λ g h. subst (λ (k : ℕ). k < n) (cc) l }

  pub picked_dense : {r : Option ℕ} → kind_number t.kind ≡ 1 → DensePicked s work lo hi d n j met r → Picked s work lo hi d t n j met r
  picked_dense k w = record {
    three = λ h. absurd (omega arith);
    two = λ h. absurd (omega arith);
    none = λ h. (k, w.none h);
    one = λ g h i. ((w.one g h).0, (w.one g h).1);
    inside = λ g h. (w.one g h).2;
  }

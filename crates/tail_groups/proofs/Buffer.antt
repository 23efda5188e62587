-- What is known of groups holds on where the tails are not written. Assumes nothing.
use Prim.Native.Nat.{ℕ, ◌+◌, ◌*◌, ◌≤◌, ◌<◌}
use native.Mathlib.Omega.{arith}
use mathlib.Core.Path.{◌≡◌, sym, ap, ◌∙◌}
use mathlib.Core.List.{List}
use lib.ListN.{length, get_or, take, length-take}
use lib.Seq.{ext_get_or, get_or-take}
use Rattle.tails.specs.Groups.{byte_at, Group, groups}
use Rattle.tail_words.specs.Tail.{tail_of_record, tail_in, tails_in}
use Rattle.tail_groups.specs.Found.{no_group, IsGroup, Grouped}
use Rattle.tail_groups.specs.Ranks.{firsts}
use Rattle.tail_groups.specs.declared.Grouping.{Grouping}
use Rattle.tail_groups.proofs.Memory.{tails_ext, record_ext}
use Rattle.tail_groups.proofs.Arrival.{length_firsts, get_or_firsts}

-- the bytes of the tails are as they were
pub grouped_memory : {s : List ℕ} (s' : List ℕ) {work lo hi d : ℕ} {x : Grouping} {n : ℕ} → Grouped s work lo hi d x n
    → ((k : ℕ) → work + 56 * lo ≤ k → k < work + 56 * hi → get_or s' k 0 ≡ get_or s k 0) → Grouped s' work lo hi d x n
grouped_memory {s} s' {work} {lo} {hi} {d} {x} {n} w h =
    record { count = w.count ∙ ap length (sym all); few = w.few; room = w.room; begins = w.begins; ends = w.ends; each = λ g l. each g (w.each g l) }
  where
    all : groups d (tails_in s' work lo hi) ≡ groups d (tails_in s work lo hi)
    all = ap (groups d) (tails_ext s s' work lo hi h)

    each : (g : ℕ) {a b f : ℕ} → IsGroup s work lo hi d (get_or (groups d (tails_in s work lo hi)) g no_group) a b f
        → IsGroup s' work lo hi d (get_or (groups d (tails_in s' work lo hi)) g no_group) a b f
    each g {a} {b} {f} x =
        let same : tails_in s' work a b ≡ tails_in s work a b = tails_ext s s' work a b (λ k p q. h k (omega (arith, x.from)) (omega (arith, x.upto))) in
        let one : tail_in s' work a ≡ tail_in s work a = ap tail_of_record (record_ext s s' work lo hi h a x.from (omega (arith, x.some, x.upto))) in
        rw all (record {
          from = x.from;
          some = x.some;
          upto = x.upto;
          tails = same ∙ x.tails;
          byte = ap (byte_at d) one ∙ x.byte;
          first = x.first;
        })

-- the numbers that `rank` and `with_rank` are asked for are those of the groups
pub grouped_firsts : {s : List ℕ} {work lo hi d : ℕ} {x : Grouping} {n : ℕ} → Grouped s work lo hi d x n → take n x.firsts ≡ firsts (groups d (tails_in s work lo hi))
grouped_firsts {s} {work} {lo} {hi} {d} {x} {n} w =
    ext_get_or 0 _ _ (long ∙ w.count ∙ sym (length_firsts gs)) (λ k l. get_or-take n x.firsts k 0 (omega (arith, long)) ∙ (w.each k (omega (arith, long))).first ∙ sym (get_or_firsts gs k))
  where
    gs : List Group
    gs = groups d (tails_in s work lo hi)

    long : length (take n x.firsts) ≡ n
    long = length-take n x.firsts ∙ omega (arith, w.room)

-- What each test of the order tells, from the header and the log on. Assumes nothing.
use Rattle.lined_locations.specs.declared.LineKind.TheVariants.{Logged}
use Prim.Native.Nat.{ℕ, ◌+◌, ◌-◌, ◌*◌, ◌≤◌, ◌<◌}
use native.Mathlib.Omega.{arith}
use mathlib.Core.Path.{◌≡◌, sym, ◌∙◌}
use mathlib.Core.Bool.{Bool, true, false, not, ◌&&◌}
use mathlib.Core.List.{List}
use mathlib.Core.Option.{some}
use lib.ListN.{length, get_or}
use lib.Dec.{eqb}
use Rattle.definitions.specs.Blocks.{nodes_tallied, entries_tallied}
use Rattle.definitions.specs.Calls.{last_number}
use Rattle.definitions.proofs.Tests.{and_left, is_false, not_both, same_test}
use Rattle.memory_header.specs.Layout.{Header, work_at}
use Rattle.memory_header.specs.Answers.{heading_at}
use Rattle.memory_header.proofs.HeaderFacts.{HeaderFacts, heading_is, open_payload}
use Rattle.conflicts.specs.Lined.{in_line, Lined}
use Rattle.conflicts.specs.Promises.{filled}
use Rattle.lined_locations.specs.Places.{Within}
use Rattle.index_memory.specs.Log.{log_in, log_sound}
use Rattle.index_memory.specs.Index.{log_right, order_right}
use Rattle.certificate.specs.Entries.{all, entry_right, entry_at, entry_end, lives_inside, LogWithin}
use Rattle.certificate.specs.Stored.{pieces_in}
use Rattle.certificate.proofs.Right as right

module _ (m : List ℕ) (b : (k : ℕ) → get_or m k 0 < 256) {h : Header} (r : (heading_at m ≡ some h) × (h.phase ≡ 0) × (log_right m h ≡ true)) where
  f : HeaderFacts m h
  f = (heading_is m h r.0).0

  pub sound : log_sound m h.payload 64 ≡ true
  sound = and_left (log_sound m h.payload 64) (eqb h.nodes (nodes_tallied (log_in m h.payload 64)) && eqb h.entries (entries_tallied (log_in m h.payload 64))) r.2

  pub log_within : LogWithin m h.payload
  log_within = (omega (arith, right.log_room m b h f r.1 sound, right.entry_room m b h f r.1 sound), omega (arith, open_payload m h f r.1, f.few_entries))

  module _ {base count : ℕ} (p : base ≡ work_at h.capacity) (q : count ≡ filled (pieces_in m h)) where
    pub entries_room : base + 16 * count ≤ length m
    entries_room = omega (arith, p, q, right.entry_room m b h f r.1 sound)

    module _ {o : Bool} (a : o ≡ all (entry_right m base h.payload) count) where
      pub entries_wrong : o ≡ false → false ≡ order_right m h
      entries_wrong c = sym (is_false (order_right m h) (λ w. not_both (sym a ∙ c) (right.right_entries m b h f r.1 sound base count p q w)))

      module _ (c : o ≡ true) where
        pub within : Within Logged m base count
        within = right.tested_within m b h f r.1 sound base count p q (sym a ∙ c)

        pub below : (i : ℕ) → i < count → entry_end m base i ≤ last_number
        below = right.tested_below m b h f r.1 sound base count p q (sym a ∙ c)

        module _ {u : Bool} (l : u ≡ in_line (entry_at m base) (count - 1)) where
          pub line_wrong : u ≡ false → false ≡ order_right m h
          line_wrong g = sym (is_false (order_right m h) (λ w. not_both (sym l ∙ g) (right.right_line m b h f r.1 sound base count p q w)))

          module _ (g : u ≡ true) where
            pub lined : Lined count (entry_at m base)
            lined = (right.tested_line m b h f r.1 sound base count p q (sym a ∙ c)).0 (sym l ∙ g)

            pub none_decides : {w : Bool} → w ≡ all (λ i. not (lives_inside (entry_at m base) (entry_end m base) count i)) count → w ≡ order_right m h
            none_decides {w} n =
                same_test w (order_right m h) (λ x. right.tested_right m b h f r.1 sound base count p q (sym a ∙ c) lined (sym n ∙ x)) (λ x. n ∙ right.right_none m b h f r.1 sound base count p q x)

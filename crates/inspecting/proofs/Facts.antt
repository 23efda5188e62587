-- What each test tells of the memory. Assumes nothing.
use Prim.Native.Nat.{ℕ, ◌+◌, ◌-◌, ◌≤◌}
use Rattle.std.specs.Prelude.{Ok, Err, ok_or}
use Rattle.std.specs.Prelude.{Option as Maybe, Some, None}
use native.Mathlib.Omega.{arith}
use mathlib.Core.Path.{◌≡◌, refl, sym, ap, ◌∙◌, subst}
use mathlib.Core.Bool.{Bool, true, false, ◌&&◌, cond}
use mathlib.Core.List.{List}
use mathlib.Core.Option.{some}
use lib.ListN.{length, take, drop}
use lib.Dec.{eqb}
use borrow.Author.Tests.{ne_eqb}
use Rattle.image_format.specs.Held.{trie_in}
use Rattle.image_format.specs.Reading.{Layout, right}
use Rattle.image_format.specs.Check.{check_image}
use Rattle.memory_header.specs.Layout.{Header, payload_size}
use Rattle.memory_header.specs.Answers.{header_of, heading_of, heading_at}
use Rattle.index_memory.specs.Index.{broken, finished, image_part, if_right, read_index, log_right, order_right}
use Rattle.memory_header.specs.declared.Header as C
use Rattle.memory_header.proofs.HeaderFacts.{HeaderFacts, heading_is}
use Rattle.index_memory.proofs.Holding.{index_broken, open_by_log, broken_by_log, broken_by_order, index_by_image}
use Rattle.definitions.specs.declared.refusal.Refusal.{Refusal}
use Rattle.definitions.specs.declared.refusal.Refusal.TheVariants.{IndexRuleBroken}
use Rattle.inspecting.specs.Held.{SaysImage, Inspects}
use Rattle.inspecting.specs.declared.Held.TheVariants.{Open, Finished}

-- ── the image of a finished index ──

finished_payload : (m : List ℕ) (h : Header) → HeaderFacts m h → h.phase ≡ 1 → h.payload ≤ payload_size h.capacity
finished_payload m h f z = subst (λ (o : Bool). h.payload ≤ cond o h.capacity.entries (payload_size h.capacity)) (ne_eqb h.phase 0 (λ k. omega arith)) f.payload

-- it lies within the memory
pub image_room : (m : List ℕ) (h : Header) → heading_at m ≡ some h → h.phase ≡ 1 → 64 + h.payload ≤ length m
image_room m h e z =
    let f : HeaderFacts m h = (heading_is m h e).0 in
    omega (arith, finished_payload m h f z, f.held)

-- the part from byte 64 on
pub same_part : (m : List ℕ) (n : ℕ) → take (64 + n - 64) (drop 64 m) ≡ take n (drop 64 m)
same_part m n = ap (λ (k : ℕ). take k (drop 64 m)) (let e : 64 + n - 64 ≡ n = omega arith in e)

-- an image that is right: the tally decides
pub image_right : (m : List ℕ) (h : Header) (k j : ℕ) → right k j ≡ check_image (image_part m h) → (r : Bool) → r ≡ (eqb h.nodes k && eqb h.entries j) → SaysImage m h r
image_right m h k j e r q = record {
  is = ap (λ (x : Layout). if_right x h (image_part m h)) (sym e) ∙ ap (λ (o : Bool). cond o (finished h.capacity (trie_in (image_part m h))) broken) (sym q);
  tested = λ t. record { nodes = k; entries = j; is = e };
}

-- ── the whole memory ──

module _ (m : List ℕ) where
  pub no_header : (o : Maybe C.Header) (r : Refusal) → heading_of o ≡ heading_at m → Err r ≡ ok_or o IndexRuleBroken → Inspects m (Err r)
  no_header None r e f = record { holds = index_broken m (sym e); told = cc }
  no_header (Some h) r e f = cc

  module _ (h : C.Header) (e : some (header_of h) ≡ heading_at m) where
    module _ (phase : (header_of h).phase ≡ 0) where
      pub log_broken : log_right m (header_of h) ≡ false → Inspects m (Err IndexRuleBroken)
      log_broken q = record { holds = broken_by_log m (header_of h) (sym e) phase q; told = refl }

      module _ (l : log_right m (header_of h) ≡ true) where
        pub held_open : order_right m (header_of h) ≡ true → Inspects m (Ok (Open h))
        held_open q = record { holds = open_by_log m (header_of h) (sym e) phase l q; told = (heading_is m (header_of h) (sym e)).1 }

        pub order_broken : order_right m (header_of h) ≡ false → Inspects m (Err IndexRuleBroken)
        order_broken q = record { holds = broken_by_order m (header_of h) (sym e) phase l q; told = refl }

    module _ (one : (header_of h).phase ≡ 1) where
      by_image : (r : Bool) → SaysImage m (header_of h) r → read_index m ≡ cond r (finished (header_of h).capacity (trie_in (image_part m (header_of h)))) broken
      by_image r q = index_by_image m (header_of h) (sym e) (λ k. omega (arith, one)) ∙ q.is

      pub held_finished : SaysImage m (header_of h) true → Inspects m (Ok (Finished h))
      held_finished q = record {
        holds = by_image true q;
        told = record { header = (heading_is m (header_of h) (sym e)).1; tested = q.tested refl; within = image_room m (header_of h) (sym e) one };
      }

      pub image_broken : SaysImage m (header_of h) false → Inspects m (Err IndexRuleBroken)
      image_broken q = record { holds = by_image false q; told = refl }

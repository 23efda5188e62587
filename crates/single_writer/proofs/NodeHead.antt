-- A node up to its table: where its runs end, and what its kind and its lists are. Assumes nothing.
use Prim.Native.Nat.{ℕ, suc, ◌+◌, ◌-◌, ◌≤◌, ◌<◌}
use native.Mathlib.Omega.{arith}
use mathlib.Core.Path.{◌≡◌, refl, sym, ap, subst, ◌∙◌}
use mathlib.Core.Bool.{Bool, true, false}
use mathlib.Core.List.{List, [], ◌∷◌, ◌++◌, Memᴰ as Mem}
use lib.ListN.{length, get_or, set, length-set, length-append}
use lib.Seq.{get_or-set_same, get_or-set_other}
use Rattle.words.specs.Holding.{Holds}
use Rattle.words.proofs.Holding.{holds_at}
use Rattle.definitions.specs.Location.{normal}
use Rattle.trie.specs.Trie.{Lists, entries_of}
use Rattle.tails.specs.Tails.{Tail}
use Rattle.tails.specs.Groups.{ends_as, run, after_run, wholes, below, byte_at, locations_of, group_lists, groups}
use Rattle.tails.proofs.High.{sound_bytes}
use Rattle.tails.proofs.Keep.{keep, keep_mem, Kept, pairs_keep}
use Rattle.tails.proofs.Runs.{longer, longer_is, below_here, bytes_upto}
use Rattle.tails.proofs.Budget.{budget}
use Rattle.kinds.specs.Kinds.{kind_of}
use Rattle.image_format.specs.Image.{lists_bytes, lists_size}
use Rattle.tails.specs.Runs.{Pairs, Run}
use Rattle.tails.specs.Weights.{weights, group_weights}
use Rattle.tail_words.specs.Tail.{tails_in, Held}
use Rattle.tail_groups.specs.Found.{Longer, Grouped}
use Rattle.tail_groups.specs.declared.Grouping.{Grouping}
use Rattle.tail_groups.proofs.Memory.{tails_split, tails_length, tails_ext, held_part}
use Rattle.tail_groups.proofs.Front.{run_after}
use Rattle.tail_groups.proofs.Buffer.{grouped_memory}
use Rattle.tail_groups.proofs.Distinct.{ByByte, few_groups}
use Rattle.list_writer.specs.declared.End.{End}
use Rattle.single_writer.specs.Heads.{copies, cut_lists, ListsAsked, ListsWritten, HeadAsked, Front, HeadWritten}

-- ── runs as parts of the tails in memory ──

same_parts : (xs us ys vs : List Tail) → xs ++ ys ≡ us ++ vs → length xs ≡ length us → (xs ≡ us) × (ys ≡ vs)
same_parts [] [] ys vs e l = (refl, e)
same_parts [] (u ∷ us) ys vs e l = absurd (omega arith)
same_parts (x ∷ xs) [] ys vs e l = absurd (omega arith)
same_parts (x ∷ xs) (u ∷ us) ys vs e l =
    let h : x ≡ u = cc in
    let t : xs ++ ys ≡ us ++ vs = cc in
    let r = same_parts xs us ys vs t (omega arith) in
    ((λ i. h i ∷ r.0 i), r.1)

-- where a run ends, the tails are cut into it and what comes after it
pub record RunCut (s : List ℕ) (work lo mid hi : ℕ) (f : Tail → Bool) : Type 0 where
  pub from : lo ≤ mid
  pub upto : mid ≤ hi
  pub run_is : tails_in s work lo mid ≡ run f (tails_in s work lo hi)
  pub after_is : tails_in s work mid hi ≡ after_run f (tails_in s work lo hi)

pub run_cut : (s : List ℕ) (work lo mid hi : ℕ) (f : Tail → Bool) → lo ≤ hi → mid ≡ lo + length (run f (tails_in s work lo hi)) → RunCut s work lo mid hi f
run_cut s work lo mid hi f h e =
    let all = run_after f (tails_in s work lo hi) in
    let n : length (run f (tails_in s work lo hi)) + length (after_run f (tails_in s work lo hi)) ≡ hi - lo =
    sym (length-append (run f (tails_in s work lo hi)) (after_run f (tails_in s work lo hi))) ∙ ap length all ∙ tails_length s work lo hi in
    let le : mid ≤ hi = omega arith in
    let p = same_parts (tails_in s work lo mid) (run f (tails_in s work lo hi)) (tails_in s work mid hi) (after_run f (tails_in s work lo hi))
    (sym (tails_split s work lo mid hi (omega arith) le) ∙ sym all) (tails_length s work lo mid ∙ omega arith) in
    record { from = omega arith; upto = le; run_is = p.0; after_is = p.1 }

-- ── those that go on ──

pairs_by_byte : (d : ℕ) (ts : List Tail) → Pairs (λ t u. byte_at d t ≤ byte_at d u) ts → ByByte d ts
pairs_by_byte d [] p = tt
pairs_by_byte d (t ∷ ts) p = (p.0, pairs_by_byte d ts p.1)

pub below_longer : (d : ℕ) (ts us : List Tail) → Run d ts → us ≡ below d ts → Longer d us
below_longer d ts us r e t m = go (keep_mem (longer d) ts (subst (λ (l : List Tail). Mem t l) (e ∙ below_here d ts r) m))
  where
    go : Kept (longer d) ts t → d < length t.entry.path
    go k =
        let ne = longer_is d t k.passes in
        omega (arith, ne, r.long t k.listed)

pub below_few : (d : ℕ) (ts us : List Tail) → Run d ts → us ≡ below d ts → length (groups d us) ≤ 256
below_few d ts us r e =
    subst (λ (l : List Tail). length (groups d l) ≤ 256) (sym (e ∙ below_here d ts r))
    (few_groups d (keep (longer d) ts) (pairs_by_byte d (keep (longer d) ts) (pairs_keep (λ t u. byte_at d t ≤ byte_at d u) (longer d) ts (bytes_upto d ts r)))
    (λ t m. sound_bytes t.entry.path (r.sound t (keep_mem (longer d) ts m).listed) d))

-- ── the head ──

module _ {s : List ℕ} {work lo hi d : ℕ} {e : End} (q : HeadAsked s work lo hi d e) {parts : ℕ}
    (first : parts ≡ lo + length (run (ends_as d false) (tails_in s work lo hi))) where
  cut : RunCut s work lo parts hi (ends_as d false)
  cut = run_cut s work lo parts hi (ends_as d false) q.order first

  pub parts_held : Held s work parts hi
  parts_held = held_part parts hi q.held cut.from (omega arith)

  pub parts_upto : parts ≤ hi
  parts_upto = cut.upto

  module _ {mid : ℕ} (second : mid ≡ parts + length (run (ends_as d true) (tails_in s work parts hi))) where
    cut₂ : RunCut s work parts mid hi (ends_as d true)
    cut₂ = run_cut s work parts mid hi (ends_as d true) cut.upto second

    rest : tails_in s work mid hi ≡ below d (tails_in s work lo hi)
    rest = cut₂.after_is ∙ ap (after_run (ends_as d true)) cut.after_is

    chunks : tails_in s work parts mid ≡ run (ends_as d true) (after_run (ends_as d false) (tails_in s work lo hi))
    chunks = cut₂.run_is ∙ ap (run (ends_as d true)) cut.after_is

    pub mid_held : Held s work mid hi
    mid_held = held_part mid hi q.held (omega (arith, cut.from, cut₂.from)) (omega arith)

    pub mid_upto : mid ≤ hi
    mid_upto = cut₂.upto

    pub mid_longer : Longer d (tails_in s work mid hi)
    mid_longer = below_longer d (tails_in s work lo hi) (tails_in s work mid hi) q.run rest

    pub mid_few : length (groups d (tails_in s work mid hi)) ≤ 256
    mid_few = below_few d (tails_in s work lo hi) (tails_in s work mid hi) q.run rest

    -- the copies and the groups weigh what the tails do
    copied : copies s work lo parts mid hi + group_weights (suc d) (groups d (below d (tails_in s work lo hi))) ≡ weights d (tails_in s work lo hi)
    copied = rw (cut.run_is, chunks, rest) (budget d (tails_in s work lo hi) q.run)

    lists_are : cut_lists s work lo parts mid hi ≡ group_lists d (tails_in s work lo hi)
    lists_are = λ i. record {
      prefixes = normal (locations_of (cut.run_is i));
      chunks = normal (locations_of (chunks i));
      suffixes = normal (locations_of (wholes (rest i)));
    }

    pub head_written : {s₂ : List ℕ} {x : Grouping} {e₂ : End} → Front s s₂ work lo hi d x.count e e₂ → Grouped s work mid hi d x x.count → HeadWritten s s₂ work lo hi d e x (record { below = mid; end = e₂ })
    head_written {s₂} f grouped = record {
      from = omega (arith, cut.from, cut₂.from);
      upto = cut₂.upto;
      rest = rest;
      front = f;
      grouped = grouped_memory s₂ grouped (λ k a b. f.behind k (omega arith));
    }

    module _ (n kind : ℕ) (is-kind : kind ≡ kind_of n) {e₁ : End} (behind-kind : (e₁.at ≡ e.at + 1) × (e₁.nodes ≡ e.nodes + 1) × (e₁.entries ≡ e.entries)) where
      kept : (k : ℕ) → ¬ (k ≡ e.at) → get_or (set s e.at kind) k 0 ≡ get_or s k 0
      kept k h = get_or-set_other s e.at k kind 0 h

      same_tails : (a b : ℕ) → tails_in (set s e.at kind) work a b ≡ tails_in s work a b
      same_tails a b = tails_ext s (set s e.at kind) work a b (λ k x y. kept k (λ z. absurd (omega (arith, q.room))))

      same_copies : copies (set s e.at kind) work lo parts mid hi ≡ copies s work lo parts mid hi
      same_copies = rw (same_tails lo parts, same_tails parts mid, same_tails mid hi)

      pub lists_asked : ListsAsked (set s e.at kind) work lo parts mid hi e₁
      lists_asked = record {
        first = cut.from;
        second = cut₂.from;
        third = cut₂.upto;
        memory = omega (arith, length-set s e.at kind, q.memory);
        room = omega (arith, same_copies, copied, q.room, behind-kind.0);
        counted = omega (arith, behind-kind, q.counted);
      }

      module _ {s₂ : List ℕ} {e₂ : End} (w : ListsWritten (set s e.at kind) s₂ work lo parts mid hi e₁ e₂) where
        same_lists : cut_lists (set s e.at kind) work lo parts mid hi ≡ group_lists d (tails_in s work lo hi)
        same_lists = (λ i. record {
          prefixes = normal (locations_of (same_tails lo parts i));
          chunks = normal (locations_of (same_tails parts mid i));
          suffixes = normal (locations_of (wholes (same_tails mid hi i)));
        }) ∙ lists_are

        unchanged : (k : ℕ) → work ≤ k → get_or s₂ k 0 ≡ get_or s k 0
        unchanged k h = w.behind k h ∙ kept k (λ z. absurd (omega (arith, q.room)))

        kind_stands : get_or s₂ e.at 0 ≡ kind_of n
        kind_stands = w.before e.at (omega (arith, behind-kind.0)) ∙ get_or-set_same s e.at kind 0 (omega (arith, q.room, q.memory)) ∙ is-kind

        pub front_written : Front s s₂ work lo hi d n e e₂
        unfolding Holds
        front_written =
            let few = w.few in
            let size = ap lists_size same_lists in
            let count = ap entries_of same_lists in
            record {
              bytes = (
                kind_stands,
                holds_at s₂ e₁.at (e.at + 1) (lists_bytes (group_lists d (tails_in s work lo hi))) behind-kind.0
                    (subst (λ (h : Lists). Holds s₂ e₁.at (lists_bytes h)) same_lists w.bytes),
              );
              at = omega (arith, w.at, behind-kind.0, size);
              few = omega (arith, few, count, same_copies, copied);
              nodes = w.nodes ∙ behind-kind.1;
              entries = omega (arith, w.entries, behind-kind.2, count);
              long = w.long ∙ length-set s e.at kind;
              before = λ k h. w.before k (omega (arith, behind-kind.0)) ∙ kept k (omega arith);
              behind = unchanged;
            }

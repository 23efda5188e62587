-- The node of sorted tails is the node by arrival. Assumes nothing.
use Prim.Native.Nat.{ℕ, zero, suc, ◌≤◌}
use native.Mathlib.Omega.{arith}
use mathlib.Core.Path.{◌≡◌, refl, sym, ap, ◌∙◌, subst}
use mathlib.Core.List.Memᴰ.{head as here}
use mathlib.Core.List.Memᴰ.{tail as later}
use mathlib.Core.List.{List, [], ◌∷◌, Memᴰ as Mem}
use Rattle.records.specs.Records.{Ordered}
use Rattle.trie.specs.Trie.{leaf, Node}
use Rattle.trie.specs.Build.{Entry, behind, arrivals, kept_order, grow, build}
use Rattle.tails.specs.Tails.{Tail, numbered, tail_records}
use Rattle.tails.specs.Groups.{Group, groups, kept_groups, below, group_forest, group_node, bytes_of}
use Rattle.tails.specs.Runs.{SoundPath, Pairs, Run}
use Rattle.tails.proofs.Keep.{keep, SameTails, same_keep, pairs_keep}
use Rattle.tails.proofs.Runs.{run_all, goes}
use Rattle.tails.proofs.Groups.{group_of, group_run}
use Rattle.tails.proofs.Entries.{entries_from, Long, lists_same, behind_from}
use Rattle.tails.proofs.Arrivals.{Earlier}
use Rattle.tails.proofs.ByArrival.{kept_groups_mem}
use Rattle.tails.proofs.Children.{kept_bytes}

-- ── a forest, group by group ──

forest_grow : (f : List Tail → Node) (h : List Entry → Node) (gs : List Group) (es : List Entry) → ((g : Group) → Mem g gs → f g.tails ≡ h (behind g.byte es)) → group_forest f gs ≡ grow h (bytes_of gs) es
forest_grow f h [] es e = refl
forest_grow f h (g ∷ gs) es e = rw (e g (here refl), forest_grow f h gs es (λ x m. e x (later m)))

-- ── the induction ──

-- ts sorted, us the same tails by arrival
pub node_by_arrival : (n d : ℕ) (ts us : List Tail) → Run d ts → SameTails ts us → Pairs Earlier us → group_node n d ts ≡ build n (entries_from d us)
node_by_arrival zero d ts us r s p = λ i. record { lists = lists_same d ts us r s i; children = leaf }
node_by_arrival (suc n) d ts us r s p =
    let each : (g : Group) → Mem g (groups d (below d ts)) → group_node n (suc d) g.tails ≡ build n (behind g.byte (entries_from d us)) =
    λ g m. node_by_arrival n (suc d) g.tails (keep (goes d g.byte) us) (group_run d ts r g m) (part g m) (pairs_keep Earlier (goes d g.byte) us p) ∙ ap (build n) (sym (behind_from d g.byte us long)) in
    let kept : List Group = kept_groups (groups d (below d ts)) in
    let children : group_forest (group_node n (suc d)) kept ≡ grow (build n) (kept_order (arrivals [] (entries_from d us))) (entries_from d us) =
    forest_grow (group_node n (suc d)) (build n) kept (entries_from d us) (λ g m. each g (kept_groups_mem (groups d (below d ts)) m)) ∙ ap (λ (bs : List ℕ). grow (build n) bs (entries_from d us)) (kept_bytes d ts us r s p) in
    λ i. record { lists = lists_same d ts us r s i; children = children i }
  where
    long : Long d us
    long t m = r.long t (s.fro t m)

    part : (g : Group) → Mem g (groups d (below d ts)) → SameTails g.tails (keep (goes d g.byte) us)
    part g m = subst (λ (x : List Tail). SameTails x (keep (goes d g.byte) us)) (sym (group_of d ts r g m).tails) (same_keep (goes d g.byte) ts us s)

-- ── entries numbered from 0 ──

pub numbered_from : {t : Tail} (n : ℕ) (es : List Entry) → Mem t (numbered n es) → n ≤ t.arrival
numbered_from {t = t} n [] x' = elim x' [ ]
numbered_from n (e ∷ es) (here f) = omega (arith, ap (λ (x : Tail). x.arrival) f)
numbered_from n (e ∷ es) (later m) = omega (arith, numbered_from (suc n) es m)

pub numbered_early : (n : ℕ) (es : List Entry) → Pairs Earlier (numbered n es)
numbered_early n [] = tt
numbered_early n (e ∷ es) = ((λ s m. numbered_from (suc n) es m), numbered_early (suc n) es)

pub numbered_entries : (n : ℕ) (es : List Entry) → entries_from 0 (numbered n es) ≡ es
numbered_entries n [] = refl
numbered_entries n (e ∷ es) = rw (numbered_entries (suc n) es)

pub numbered_mem : {t : Tail} (n : ℕ) (es : List Entry) → Mem t (numbered n es) → Mem t.entry es
numbered_mem {t = t} n [] x' = elim x' [ ]
numbered_mem n (e ∷ es) (here f) = here (λ i. (f i).entry)
numbered_mem n (e ∷ es) (later m) = later (numbered_mem (suc n) es m)

-- every path has at most 16 bytes
abbrev pub SoundEntries : List Entry → Type 0
SoundEntries es = (e : Entry) → Mem e es → SoundPath e.path

-- sorted by their records, the tails make the node that they make by arrival
pub grouped : (es : List Entry) (ts : List Tail) → SoundEntries es → Ordered (tail_records ts) → SameTails ts (numbered 0 es) → group_node 16 0 ts ≡ build 16 es
grouped es ts sound o s =
    let r : Run 0 ts = run_all ts o (λ t m. sound t.entry (numbered_mem 0 es (s.to t m))) in
    node_by_arrival 16 0 ts (numbered 0 es) r s (numbered_early 0 es) ∙ ap (build 16) (numbered_entries 0 es)

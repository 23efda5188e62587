-- The fronts of a child by a byte, one front of its parent after another. Assumes nothing.
use Prim.Native.Nat.{ℕ, ◌+◌, ◌*◌, ◌-◌, ◌≤◌, ◌<◌}
use native.Mathlib.Omega.{arith}
use mathlib.Core.Path.{◌≡◌, refl, sym, ap, subst, ◌∙◌}
use mathlib.Core.List.{List, [], ◌∷◌, ◌++◌, append-nil, append_assoc}
use mathlib.Core.Option.{Option, none, some}
use lib.ListN.{length, set}
use Rattle.definitions.specs.Location.{Location}
use Rattle.trie.specs.Trie.{Node, child}
use Rattle.trie.specs.Test.{and_list, and_node, next_fronts, front_lists}
use Rattle.location_lists.specs.declared.Lists.{Lists}
use Rattle.location_lists.specs.Lists.{held, AreLists, lists_in}
use Rattle.location_lists.proofs.Buffers.{no_lists}
use Rattle.image_walk.specs.Parts.{parts_at}
use Rattle.image_walk.specs.Tables.{entries_at, node_for}
use Rattle.image_walk.specs.Bounds.{TableHere}
use Rattle.image_walk.specs.Here.{Laid, Found, FoundAt}
use Rattle.image_walk.proofs.Here.{found_none, found_some}
use Rattle.node_rule.specs.Parts.{PartsOf, HasParts, HasTable}
use Rattle.fronts.specs.Masks.{bit, SaysMask}
use Rattle.fronts.specs.Fronts.{front_at, FrontsFrom, FrontsHere, HasFronts, KeptBelow}
use Rattle.fronts.specs.declared.Front.{Front}
use Rattle.node_rule.specs.OneNode.{with_two}
use Rattle.node_rule.proofs.Tables.{table_child}
use Rattle.node_rule.proofs.Parts.{parts_of}
use Rattle.node_rule.proofs.TwoLists.{count_two, length_two, two_among, two_valid}
use Rattle.fronts.proofs.Fronts.{Next, front_next, fronts_end, fronts_put, fronts_start, kept_front, kept_none, length_more}
use Rattle.image_walk.specs.declared.Node.{Node as Parts}

-- fronts from `from` on stand in `old`; those of their children by byte b are put from `to` on
module _ (s : List ℕ) (b from to : ℕ) (old : List Front) (count : ℕ) where
  -- what was found, and then what the fronts ahead lead to, is all
  pub record FoundSoFar (d i : ℕ) (fronts : List Front) (met : ℕ) (lists : Lists) (fs : List Node) : Type 0 where
    pub rest : List Node
    pub ahead : FrontsFrom s d old (from + i) rest
    pub left : length rest ≡ count - i
    pub gone : List Node
    pub found : FrontsFrom s (d - 1) fronts to gone
    pub many : length gone ≡ met
    pub nodes : gone ++ next_fronts b rest ≡ next_fronts b fs
    pub lists_are : lists_in s lists ++ front_lists (next_fronts b rest) ≡ front_lists (next_fronts b fs)

  pub record Finding (i : ℕ) (fronts : List Front) (met : ℕ) (lists : Lists) : Type 0 where
    pub kept : KeptBelow to old fronts
    pub valid : AreLists s lists
    pub met_few : met ≤ i
    pub in_count : i ≤ count
    pub few : lists.count ≤ met * 2
    pub size : 512 ≤ length lists.each.now
    pub each : (d : ℕ) (fs : List Node) → FrontsHere s d old from count fs → FoundSoFar d i fronts met lists fs

  pub finding_start : (lists : Lists) → lists.count ≡ 0 → 512 ≤ length lists.each.now → Finding 0 old 0 lists
  finding_start lists z k = record { kept = kept_none to old; valid = no_lists s lists z; met_few = omega arith; in_count = omega arith; few = omega arith; size = k; each = step }
    where
      step : (d : ℕ) (fs : List Node) → FrontsHere s d old from count fs → FoundSoFar d 0 old 0 lists fs
      step d fs h =
          let m = h.many in
          record { rest = fs; ahead = fronts_start s d old from fs h.each; left = omega arith; gone = []; found = tt; many = refl; nodes = refl; lists_are = rw z refl }

  module _ (i : ℕ) (fronts : List Front) (met : ℕ) (lists : Lists) (o : Finding i fronts met lists) (l : i < count) where
    -- what the front's table has for the byte
    abbrev now : Front
    now = front_at old (from + i)

    abbrev found_now : Option ℕ
    found_now = node_for (entries_at s now.table.at now.table.count) b

    front_now : (d : ℕ) (fs : List Node) (h : FrontsHere s d old from count fs) → Next s d old from count i (o.each d fs h).rest
    front_now d fs h = let x = o.each d fs h in front_next s d old from count i x.rest l x.left x.ahead

    child_now : (d : ℕ) (fs : List Node) (h : FrontsHere s d old from count fs) → Found s (d - 1) found_now (child (front_now d fs h).node.children b)
    child_now d fs h = let x = front_now d fs h in table_child s d now.table.at now.table.count x.node.children x.front.table b

    -- the stack has it still
    abbrev read : Front
    read = front_at fronts (from + i)

    front_here : from + i < to → read ≡ now
    front_here h = o.kept.first (from + i) h

    abbrev found_read : Option ℕ
    found_read = node_for (entries_at s read.table.at read.table.count) b

    found_here : from + i < to → found_read ≡ found_now
    found_here h = ap (λ (x : Front). node_for (entries_at s x.table.at x.table.count) b) (front_here h)

    pub finding_here : from + i < to → HasFronts s old from count → TableHere s read.table.at read.table.count
    finding_here l h = let x = front_now h.depth h.nodes h.is in rw (front_here l) x.front.table.within

    -- the fronts of the child, where that of this front is c
    nodes_now : (d : ℕ) (fs : List Node) (h : FrontsHere s d old from count fs) (c : Option Node) → child (front_now d fs h).node.children b ≡ c →
        and_node c (next_fronts b (front_now d fs h).later) ≡ next_fronts b (o.each d fs h).rest
    nodes_now d fs h c e = let x = front_now d fs h in ap (λ (y : Option Node). and_node y (next_fronts b x.later)) (sym e) ∙ ap (next_fronts b) (sym x.is)

    -- this front leads to none
    finding_past : (d : ℕ) (fs : List Node) (h : FrontsHere s d old from count fs) → child (front_now d fs h).node.children b ≡ none → FoundSoFar d (i + 1) fronts met lists fs
    finding_past d fs h c =
        let x = o.each d fs h in
        let f = front_now d fs h in
        let e = nodes_now d fs h none c in
        record {
          rest = f.later;
          ahead = f.ahead;
          left = f.left;
          gone = x.gone;
          found = x.found;
          many = x.many;
          nodes = ap (λ (y : List Node). x.gone ++ y) e ∙ x.nodes;
          lists_are = ap (λ (y : List Node). lists_in s lists ++ front_lists y) e ∙ x.lists_are;
        }

    pub finding_none : from + i < to → none ≡ found_read → Finding (i + 1) fronts met lists
    finding_none r q = record { kept = o.kept; valid = o.valid; met_few = omega (arith, o.met_few); in_count = omega arith; few = o.few; size = o.size; each = step }
      where
        step : (d : ℕ) (fs : List Node) → FrontsHere s d old from count fs → FoundSoFar d (i + 1) fronts met lists fs
        step d fs h = finding_past d fs h (found_none s (d - 1) found_now (child (front_now d fs h).node.children b) (child_now d fs h) (sym (q ∙ found_here r)))

    -- the mask tells that there is none
    pub finding_absent : from + i < to → bit read.mask b ≡ 0 → Finding (i + 1) fronts met lists
    finding_absent r q = record { kept = o.kept; valid = o.valid; met_few = omega (arith, o.met_few); in_count = omega arith; few = o.few; size = o.size; each = λ d fs k. finding_past d fs k ((front_now d fs k).front.mask d (front_now d fs k).node.children (front_now d fs k).front.table b (rw (front_here r) at q)) }

    module _ (r : from + i < to) (at : ℕ) (q : some at ≡ found_read) where
      met_now : (d : ℕ) (fs : List Node) (h : FrontsHere s d old from count fs) → FoundAt s (d - 1) at (child (front_now d fs h).node.children b)
      met_now d fs h = found_some s (d - 1) found_now (child (front_now d fs h).node.children b) at (child_now d fs h) (sym (q ∙ found_here r))

      pub finding_laid : HasFronts s old from count → Laid s at
      finding_laid h = let x = met_now h.depth h.nodes h.is in record { depth = h.depth - 1; node = x.node; here = x.here }

      module _ (c : Parts) (g : c ≡ parts_at s at) where
        parts_now : (d : ℕ) (fs : List Node) (h : FrontsHere s d old from count fs) → PartsOf s (d - 1) c (met_now d fs h).node
        parts_now d fs h = let x = met_now d fs h in rw g (parts_of s (d - 1) at x.node x.here)

        pub finding_parts : HasFronts s old from count → HasParts s c
        finding_parts h = record { depth = h.depth - 1; node = (met_now h.depth h.nodes h.is).node; is = parts_now h.depth h.nodes h.is }

        pub finding_leads : HasFronts s old from count → HasTable s c.table.at c.table.count
        finding_leads h = let p = finding_parts h in record { depth = p.depth; forest = p.node.children; is = p.is.table }

        module _ (y : Front) (w : y.table ≡ c.table) where
          abbrev lists_now : Lists
          lists_now = with_two lists c.chunks c.prefixes

          abbrev fronts_now : List Front
          fronts_now = set fronts (to + met) y

          -- there is room for two lists
          room : HasFronts s old from count → lists.count + 2 ≤ length lists.each.now
          room h = omega (arith, o.few, o.met_few, o.size, h.is.few)

          pub finding_some : HasFronts s old from count → SaysMask s y.table.at y.table.count y.mask → to + met < length fronts → Finding (i + 1) fronts_now (met + 1) lists_now
          finding_some k says u =
              let p = (finding_parts k).is in
              record {
                kept = kept_front to (to + met) y old fronts (omega arith) o.kept;
                valid = two_valid lists c.chunks c.prefixes s (room k) p.chunks_in p.prefixes_in o.valid;
                met_few = omega (arith, o.met_few);
                in_count = omega arith;
                few = omega (arith, o.few, count_two lists c.chunks c.prefixes);
                size = omega (arith, length_two lists c.chunks c.prefixes, o.size);
                each = step;
              }
            where
              step : (d : ℕ) (fs : List Node) → FrontsHere s d old from count fs → FoundSoFar d (i + 1) fronts_now (met + 1) lists_now fs
              step d fs h =
                  let x = o.each d fs h in
                  let f = front_now d fs h in
                  let n = (met_now d fs h).node in
                  let p = parts_now d fs h in
                  let m = x.many in
                  let e = nodes_now d fs h (some n) (met_now d fs h).there in
                  let after : List Node = next_fronts b f.later in
                  let later : List (List Location) = front_lists after in
                  let before : List (List Location) = lists_in s lists in
                  let a₁ = two_among lists c.chunks c.prefixes s later (room k) in
                  let a₂ : before ++ and_list (held s c.chunks) (and_list (held s c.prefixes) later) ≡ before ++ and_list n.lists.chunks (and_list n.lists.prefixes later) = rw (p.chunks, p.prefixes) refl in
                  let a₃ : before ++ and_list n.lists.chunks (and_list n.lists.prefixes later) ≡ front_lists (next_fronts b fs) = ap (λ (z : List Node). before ++ front_lists z) e ∙ x.lists_are in
                  record {
                    rest = f.later;
                    ahead = f.ahead;
                    left = f.left;
                    gone = x.gone ++ (n ∷ []);
                    found = fronts_put s (d - 1) fronts to (to + met) y x.gone n (omega arith) u x.found (record { table = rw w p.table; mask = says });
                    many = length_more x.gone n met m;
                    nodes = append_assoc x.gone (n ∷ []) after ∙ ap (λ (z : List Node). x.gone ++ z) e ∙ x.nodes;
                    lists_are = a₁ ∙ a₂ ∙ a₃;
                  }

  module _ (i : ℕ) (fronts : List Front) (met : ℕ) (lists : Lists) (o : Finding i fronts met lists) (l : count ≤ i) where
    -- no front is ahead
    pub fronts_done : (d : ℕ) (fs : List Node) → FrontsHere s d old from count fs → FrontsHere s (d - 1) fronts to met (next_fronts b fs)
    fronts_done d fs h =
        let x = o.each d fs h in
        let z = fronts_end x.rest count i l x.left in
        let w : x.gone ≡ next_fronts b fs = sym (append-nil x.gone) ∙ ap (λ (y : List Node). x.gone ++ next_fronts b y) (sym z) ∙ x.nodes in
        let few : met ≤ 256 = omega (arith, o.met_few, o.in_count, h.few) in
        subst (FrontsHere s (d - 1) fronts to met) w (record { many = x.many; few = few; each = x.found })

    pub lists_done : (d : ℕ) (fs : List Node) → FrontsHere s d old from count fs → lists_in s lists ≡ front_lists (next_fronts b fs)
    lists_done d fs h =
        let x = o.each d fs h in
        let z = fronts_end x.rest count i l x.left in
        sym (append-nil (lists_in s lists)) ∙ ap (λ (y : List Node). lists_in s lists ++ front_lists (next_fronts b y)) (sym z) ∙ x.lists_are

-- A run below a node, with its fronts on the stack, and what is said behind it. Assumes nothing.
use Prim.Native.Nat.{ℕ, ◌+◌, ◌*◌, ◌-◌, ◌<◌}
use native.Mathlib.Omega.{arith}
use mathlib.Core.Path.{◌≡◌, refl, sym, ap, subst, ◌∙◌}
use mathlib.Core.Bool.{Bool, true, false, ◌&&◌}
use mathlib.Core.List.{List, [], ◌∷◌}
use lib.ListN.{length, set}
use Rattle.trie.specs.Trie.{Forest, Node}
use Rattle.node_rule.specs.Parts.{TableOf, HasTable}
use Rattle.image_walk.specs.declared.Table.{Table}
use Rattle.fronts.specs.Fronts.{FrontsFrom, FrontsHere, front_at}
use Rattle.fronts.specs.Masks.{all_bits}
use Rattle.fronts.specs.declared.Front.{Front}
use Rattle.single_runs.specs.Says.{children_right}
use Rattle.single_runs.specs.Runs.{RunAt, RunTo, LeafSays, SaysNone}
use Rattle.single_runs.specs.Singles.{SinglesTo}
use Rattle.single_runs.specs.declared.Pair.{Pair}
use Rattle.forest_rule.specs.Says.{ChildrenAsked, ChildrenSays, Further, RunLeads, deeper}
use Rattle.forest_rule.specs.declared.Siblings.{Siblings}
use Rattle.fronts.proofs.MaskLaws.{no_mask}
use Rattle.fronts.proofs.Fronts.{fronts_put, kept_front, kept_none, kept_then}
use Rattle.single_runs.proofs.RunLaws.{passed}

-- the one front on the stack
record OneFront (s : List ℕ) (d : ℕ) (x : Front) (fs : List Node) : Type 0 where
  pub node : Node
  pub is : node ∷ [] ≡ fs
  pub leads : TableOf s d x.table.at x.table.count node.children

one_front : (s : List ℕ) (d : ℕ) (fronts : List Front) (p : ℕ) (fs : List Node) → length fs ≡ 1 → FrontsFrom s d fronts p fs → OneFront s d (front_at fronts p) fs
one_front s d fronts p [] e h = absurd (omega arith)
one_front s d fronts p (f ∷ []) e h = record { node = f; is = refl; leads = h.0.table }
one_front s d fronts p (f ∷ (g ∷ fs)) e h = absurd (omega arith)

-- the siblings themselves, no level below them
same_siblings : (b : Siblings) → b ≡ deeper b 0 b.table.at
same_siblings b =
    let x : b.depth ≡ b.depth + 0 = omega arith in
    let y : b.left ≡ b.left - 0 = omega arith in
    λ i. record { table = b.table; depth = x i; left = y i }

module _ (s : List ℕ) (b : Siblings) (old : List Front) (count : ℕ) where
  pub below_none : RunLeads s b old count old 0 b.table.at
  below_none = record {
    few = omega arith;
    kept = kept_none ((b.depth + 1) * 256) old;
    is = λ g fs t w. subst (λ (v : Siblings). Further s v count old b.depth g fs) (same_siblings b) (record { below = g; nodes = fs; leads = t; fronts_here = w; same = refl });
  }

  -- ── without fronts ──

  pub below_singles : (k t : ℕ) → count ≡ 0 → b.table.count ≡ 1 → SinglesTo s b.table.at b.left k t → RunLeads s b old count old k t
  below_singles k t z c r = record { few = r.few; kept = kept_none ((b.depth + 1) * 256) old; is = is }
    where
      no_fronts : (fs : List Node) → length fs ≡ count → fs ≡ []
      no_fronts [] e = refl
      no_fronts (f ∷ fs) e = absurd (omega arith)

      is : (g : Forest) (fs : List Node) → TableOf s b.left b.table.at b.table.count g → FrontsHere s (b.left - 1) old (b.depth * 256) count fs → Further s (deeper b k t) count old b.depth g fs
      is g fs h w =
          let x = r.is b.depth b.left g (subst (λ (n : ℕ). TableOf s b.left b.table.at n g) c h) in
          record {
            below = x.below;
            nodes = [];
            leads = subst (λ (n : ℕ). TableOf s (b.left - k) t n x.below) (sym c) x.leads;
            fronts_here = record { many = sym z; few = w.few; each = tt };
            same = x.same ∙ ap (λ (n : List Node). children_right b.depth n g) (sym (no_fronts fs w.many));
          }

  -- ── what a run asks ──

  -- the first front on the stack
  abbrev first : Table
  first = (front_at old (b.depth * 256)).table

  module _ (a : ChildrenAsked s b old count) where
    pub below_table : b.table.count ≡ 1 → HasTable s b.table.at 1
    below_table e = record { depth = b.left; forest = a.forest; is = subst (λ (x : ℕ). TableOf s b.left b.table.at x a.forest) e a.is }

    -- its own table, and that of its one front
    pub below_tables : b.table.count ≡ 1 → count ≡ 1 → first.count ≡ 1 → HasTable s b.table.at 1 × HasTable s first.at 1
    below_tables c e f =
        let x = one_front s (b.left - 1) old (b.depth * 256) a.nodes (a.fronts_here.many ∙ e) a.fronts_here.each in
        (below_table c, record { depth = b.left - 1; forest = x.node.children; is = subst (λ (y : ℕ). TableOf s (b.left - 1) first.at y x.node.children) f x.leads })

  -- ── a run with one front ──

  abbrev tables : Pair
  tables = record { table = b.table.at; other = first.at }

  module _ (k : ℕ) (q : Pair) (run : RunTo s tables b.left k q) (c : b.table.count ≡ 1) (n : count ≡ 1) (f : first.count ≡ 1) where
    -- the front, and what stands where the run ends
    record Ran (g : Forest) (fs : List Node) : Type 0 where
      pub front : Node
      pub is : front ∷ [] ≡ fs
      pub end : RunAt s b.depth b.left (b.left - 1) k q.table q.other g front

    ran : (g : Forest) (fs : List Node) → TableOf s b.left b.table.at b.table.count g → FrontsHere s (b.left - 1) old (b.depth * 256) count fs → Ran g fs
    ran g fs h w =
        let x = one_front s (b.left - 1) old (b.depth * 256) fs (w.many ∙ n) w.each in
        record {
          front = x.node;
          is = x.is;
          end = run.is b.depth b.left (b.left - 1) g x.node (subst (λ (i : ℕ). TableOf s b.left b.table.at i g) c h) (subst (λ (i : ℕ). TableOf s (b.left - 1) first.at i x.node.children) f x.leads);
        }

    -- a run that ends at leaves
    pub below_leaves : (right : Bool) → LeafSays s q right → ChildrenSays s b old count old right
    below_leaves right r = record { kept = kept_none ((b.depth + 1) * 256) old; says = says }
      where
        says : (g : Forest) (fs : List Node) → TableOf s b.left b.table.at b.table.count g → FrontsHere s (b.left - 1) old (b.depth * 256) count fs → right ≡ children_right b.depth fs g
        says g fs h w =
            let x = ran g fs h w in
            let y = x.end in
            let l = r (b.depth + k) (b.left - k) (b.left - 1 - k) y.below y.last y.leads y.front_leads in
            let u : y.right ≡ true = passed k y.right y.first y.after l.none in
            l.says ∙ ap (λ (i : Bool). i && children_right (b.depth + k) (y.last ∷ []) y.below) (sym u) ∙ y.same ∙ ap (λ (i : List Node). children_right b.depth i g) x.is

    -- one that goes some levels, and whether its last node is right
    module _ (z : k ≡ 0 → ⊥) (right : Bool) (r : SaysNone s q.table right) where
      same_right : (g : Forest) (fs : List Node) (h : TableOf s b.left b.table.at b.table.count g) (w : FrontsHere s (b.left - 1) old (b.depth * 256) count fs) →
          (right && children_right (b.depth + k) ((ran g fs h w).end.last ∷ []) (ran g fs h w).end.below) ≡ children_right b.depth fs g
      same_right g fs h w =
          let x = ran g fs h w in
          let y = x.end in
          let v : right ≡ y.right = r (b.left - k) y.below y.leads ∙ sym (y.after z) in
          ap (λ (i : Bool). i && children_right (b.depth + k) (y.last ∷ []) y.below) v ∙ y.same ∙ ap (λ (i : List Node). children_right b.depth i g) x.is

      pub below_wrong : right ≡ false → ChildrenSays s b old count old false
      below_wrong e = record {
        kept = kept_none ((b.depth + 1) * 256) old;
        says = λ g fs h w. let y = (ran g fs h w).end in ap (λ (i : Bool). i && children_right (b.depth + k) (y.last ∷ []) y.below) (sym e) ∙ same_right g fs h w;
      }

      -- its last front, and the stack with that
      abbrev put : Front
      put = record { table = record { at = q.other; count = 1 }; mask = all_bits }

      abbrev stack : List Front
      stack = set old ((b.depth + k) * 256) put

      pub below_run : right ≡ true → (b.depth + k) * 256 < length old → RunLeads s b old count stack k q.table
      below_run e room = record { few = run.few; kept = kept_front ((b.depth + 1) * 256) ((b.depth + k) * 256) put old old (omega arith) (kept_none ((b.depth + 1) * 256) old); is = is }
        where
          is : (g : Forest) (fs : List Node) → TableOf s b.left b.table.at b.table.count g → FrontsHere s (b.left - 1) old (b.depth * 256) count fs → Further s (deeper b k q.table) count stack b.depth g fs
          is g fs h w =
              let y = (ran g fs h w).end in
              let a : b.left - 1 - k ≡ b.left - k - 1 = omega arith in
              record {
                below = y.below;
                nodes = y.last ∷ [];
                leads = subst (λ (i : ℕ). TableOf s (b.left - k) q.table i y.below) (sym c) y.leads;
                fronts_here = record {
                  many = sym n;
                  few = w.few;
                  each = fronts_put s (b.left - k - 1) old ((b.depth + k) * 256) ((b.depth + k) * 256) put [] y.last (omega arith) room tt (record { table = subst (λ (i : ℕ). TableOf s i q.other 1 y.last.children) a y.front_leads; mask = no_mask s q.other 1 });
                };
                same = ap (λ (i : Bool). i && children_right (b.depth + k) (y.last ∷ []) y.below) (sym e) ∙ same_right g fs h w;
              }

  -- ── behind a run ──

  module _ (fronts : List Front) (k t : ℕ) (l : RunLeads s b old count fronts k t) where
    pub below_asked : ChildrenAsked s b old count → ChildrenAsked s (deeper b k t) fronts count
    below_asked a =
        let x = l.is a.forest a.nodes a.is a.fronts_here in
        record { forest = x.below; is = x.leads; nodes = x.nodes; fronts_here = x.fronts_here; levels = omega (arith, a.levels, l.few) }

    pub below_then : (last : List Front) (r : Bool) → ChildrenSays s (deeper b k t) fronts count last r → ChildrenSays s b old count last r
    below_then last r y = record {
      kept = kept_then ((b.depth + 1) * 256) ((b.depth + k + 1) * 256) old fronts last (omega arith) l.kept y.kept;
      says = λ g fs h w. let x = l.is g fs h w in y.says x.below x.nodes x.leads x.fronts_here ∙ x.same;
    }

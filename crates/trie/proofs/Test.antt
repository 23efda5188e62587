-- The test over all nodes tells whether the local conditions hold, so it tells whether the index rule does. Assumes nothing.
use Prim.Native.Nat.{ℕ, zero, suc, ◌+◌, ◌≤◌, ◌<◌}
use native.Mathlib.Nat.{not-suc-le-zero}
use native.Mathlib.Omega.{arith}
use mathlib.Core.Path.{◌≡◌, refl, sym, ap, ◌∙◌, subst}
use mathlib.Core.Bool.{Bool, true, false, ◌&&◌, cond}
use mathlib.Core.Logic.{◌⊎◌, inl, inr, ◌↔◌}
use mathlib.Core.List.Memᴰ.{cases_cons as split}
use mathlib.Core.List.Memᴰ.{head as here}
use mathlib.Core.List.Memᴰ.{not-nil}
use mathlib.Core.List.Memᴰ.{tail as later}
use mathlib.Core.List.{List, [], ◌∷◌, ◌++◌, append-nil, Memᴰ as Mem}
use mathlib.Core.Option.{Option, none, some}
use lib.ListN.{length, length-append}
use lib.Seq.{append_snoc}
use lib.Dec.{ltb, leb, eqb}
use borrow.Author.Tests.{ltb-true, lt-ltb, leb-true, le-leb}
use Rattle.definitions.specs.Location.{Location, moved, Sorted, Less}
use Rattle.definitions.specs.Calls.{last_number}
use Rattle.definitions.proofs.Order.{location_path}
use Rattle.definitions.proofs.Views.{Eq, eq}
use Rattle.trie.specs.Trie.{Lists, Forest, leaf, more, Node, child, walk, node_at, IsNode, lists_or_none, lists_at}
use Rattle.trie.specs.Rule.{Apart, Has, ListsSorted, Passes, NodeRule}
use Rattle.trie.specs.Local.{FromChild, FromFront, HasChild, HasEnd, LocalRule}
use Rattle.trie.specs.Test.{is_ascending, all_pass, and_list, is_nil, is_union, child_lists, is_owed, lists_right, node_right, next_fronts, front_lists, is_some, within, fronts_within, forest_right, siblings, rule_test}
use Rattle.trie.proofs.Walk.{lost, in_chunks_node, in_prefixes_node, in_suffixes_node}
use Rattle.trie.proofs.Stands.{apart_at}
use Rattle.definitions.proofs.Tests.{both, and_true}
use Rattle.trie.proofs.Union.{FromLists, Union, union_holds, AllSorted, holds_union, is_ascending_sorted}
use Rattle.trie.proofs.Fronts.{never_some, same_some, child_first, child_later, ChildOf, FrontOf, Fronts, fronts_root, walk_last, fronts_next, Ends, front_lists_are, Under, child_lists_are}
use Rattle.trie.proofs.Local.{local_is_rule}

pub lists_here : (n : Node) (path : List ℕ) (m : Node) → node_at n path ≡ some m → lists_at n path ≡ m.lists
lists_here n path m e = ap lists_or_none e

longer : (path : List ℕ) (b : ℕ) → suc (length path) ≡ length (path ++ (b ∷ []))
longer path b = omega (arith, length-append path (b ∷ []))

-- ── one node ──

all_pass_is : (m : ℕ) (ls : List Location) → (all_pass m ls ≡ true) ↔ ((l : Location) → Mem l ls → Passes m l)
all_pass_is m [] = ((λ e l h. absurd (not-nil h)), λ f. refl)
all_pass_is m (l ∷ ls) = ((λ e x h. to e (all_pass_is m ls).0 x (split h)), λ f. fro f (all_pass_is m ls).1)
  where
    to : all_pass m (l ∷ ls) ≡ true → (all_pass m ls ≡ true → (x : Location) → Mem x ls → Passes m x) → (x : Location) → (x ≡ l) ⊎ Mem x ls → Passes m x
    to e ih x h = go h
      where
        f : (ltb l.created l.destroyed ≡ true) × ((leb (l.address + m) last_number && all_pass m ls) ≡ true)
        f = both (ltb l.created l.destroyed) (leb (l.address + m) last_number && all_pass m ls) e

        g : (leb (l.address + m) last_number ≡ true) × (all_pass m ls ≡ true)
        g = both (leb (l.address + m) last_number) (all_pass m ls) f.1

        go : (x ≡ l) ⊎ Mem x ls → Passes m x
        go (inl i) = subst (Passes m) (sym i) (record { alive = ltb-true l.created l.destroyed f.0; below = leb-true (l.address + m) last_number g.0 })
        go (inr k) = ih g.1 x k

    fro : ((x : Location) → Mem x (l ∷ ls) → Passes m x) → (((x : Location) → Mem x ls → Passes m x) → all_pass m ls ≡ true) → all_pass m (l ∷ ls) ≡ true
    fro f ih =
        let p : Passes m l = f l (here refl) in
        and_true (lt-ltb l.created l.destroyed p.alive) (and_true (le-leb (l.address + m) last_number p.below) (ih (λ x h. f x (later h))))

-- what the test says of one node
record NodeFacts (d : ℕ) (h : Lists) (f : Forest) : Type 0 where
  owed : is_owed d h f ≡ true
  sorted : ListsSorted h
  passes : (l : Location) → Mem l h.chunks → Passes d l
  suffixes : Union 0 h.suffixes (child_lists f)

node_facts : (d : ℕ) (h : Lists) (f : Forest) → node_right d h f ≡ true → NodeFacts d h f
node_facts d h f e =
    let e₁ = both (is_owed d h f) (lists_right d h && is_union 0 h.suffixes (child_lists f)) e in
    let e₂ = both (lists_right d h) (is_union 0 h.suffixes (child_lists f)) e₁.1 in
    let e₃ = both (is_ascending h.prefixes) (is_ascending h.chunks && (is_ascending h.suffixes && all_pass d h.chunks)) e₂.0 in
    let e₄ = both (is_ascending h.chunks) (is_ascending h.suffixes && all_pass d h.chunks) e₃.1 in
    let e₅ = both (is_ascending h.suffixes) (all_pass d h.chunks) e₄.1 in
    record {
      owed = e₁.0;
      sorted = record { prefixes = (is_ascending_sorted h.prefixes).0 e₃.0; chunks = (is_ascending_sorted h.chunks).0 e₄.0; suffixes = (is_ascending_sorted h.suffixes).0 e₅.0 };
      passes = (all_pass_is d h.chunks).0 e₅.1;
      suffixes = union_holds 0 h.suffixes (child_lists f) e₂.1;
    }

-- ── every node, from the test ──

record ChildFacts (fs : List Node) (d b : ℕ) (c : Node) : Type 0 where
  prefixes : is_union 1 c.lists.prefixes (front_lists (next_fronts b fs)) ≡ true
  node : node_right d c.lists c.children ≡ true
  inside : fronts_within (next_fronts b fs) c.children ≡ true
  below : forest_right (next_fronts b fs) (suc d) c.children ≡ true

forest_child : (fs : List Node) (d : ℕ) (f : Forest) → forest_right fs d f ≡ true → (b : ℕ) (c : Node) → child f b ≡ some c → ChildFacts fs d b c
forest_child fs d leaf e b c i = never_some i
forest_child fs d (more a h under rest) e b c i = go (eqb a b) (eq a b) (forest_child fs d rest e₁.1 b c) i
  where
    gs : List Node
    gs = next_fronts a fs

    own : Bool
    own = is_union 1 h.prefixes (front_lists gs) && (node_right d h under && (fronts_within gs under && forest_right gs (suc d) under))

    e₁ : (own ≡ true) × (forest_right fs d rest ≡ true)
    e₁ = both own (forest_right fs d rest) e

    first : ChildFacts fs d a (record { lists = h; children = under })
    first =
        let e₂ = both (is_union 1 h.prefixes (front_lists gs)) (node_right d h under && (fronts_within gs under && forest_right gs (suc d) under)) e₁.0 in
        let e₃ = both (node_right d h under) (fronts_within gs under && forest_right gs (suc d) under) e₂.1 in
        let e₄ = both (fronts_within gs under) (forest_right gs (suc d) under) e₃.1 in
        record { prefixes = e₂.0; node = e₃.0; inside = e₄.0; below = e₄.1 }

    go : (o : Bool) → Eq o a b → (child rest b ≡ some c → ChildFacts fs d b c) → cond o (some (record { lists = h; children = under })) (child rest b) ≡ some c → ChildFacts fs d b c
    go true j ih k = subst (ChildFacts fs d b) (same_some k) (subst (λ (x : ℕ). ChildFacts fs d x (record { lists = h; children = under })) j first)
    go false j ih k = ih k

-- what is known at a node: its fronts, and what the test said there
record Context (n : Node) (path : List ℕ) (m : Node) : Type 0 where
  fs : List Node
  there : node_at n path ≡ some m
  fronts : Fronts n path fs
  node : node_right (length path) m.lists m.children ≡ true
  prefixes : 0 < length path → is_union 1 m.lists.prefixes (front_lists fs) ≡ true
  inside : fronts_within fs m.children ≡ true
  below : forest_right fs (suc (length path)) m.children ≡ true

down : (n : Node) (path : List ℕ) (m : Node) → Context n path m → (b : ℕ) (c : Node) → child m.children b ≡ some c → Context n (path ++ (b ∷ [])) c
down n path m k b c e =
    let f : ChildFacts k.fs (suc (length path)) b c = forest_child k.fs (suc (length path)) m.children k.below b c e in
    let d : suc (length path) ≡ length (path ++ (b ∷ [])) = longer path b in
    record {
      fs = next_fronts b k.fs;
      there = walk_last n path b m k.there ∙ e;
      fronts = fronts_next n path k.fs b k.fronts;
      node = subst (λ (x : ℕ). node_right x c.lists c.children ≡ true) d f.node;
      prefixes = λ h. f.prefixes;
      inside = f.inside;
      below = subst (λ (x : ℕ). forest_right (next_fronts b k.fs) (suc x) c.children ≡ true) d f.below;
    }

context_behind : (n : Node) (rest path : List ℕ) (m : Node) → Context n path m → (g : Node) → node_at m rest ≡ some g → Context n (path ++ rest) g
context_behind n [] path m k g e = subst (λ (p : List ℕ). Context n p g) (sym (append-nil path)) (subst (Context n path) (same_some e) k)
context_behind n (b ∷ rest) path m k g e = go (child m.children b) refl e (λ c i. context_behind n rest (path ++ (b ∷ [])) c i g)
  where
    go : (o : Option Node) → child m.children b ≡ o → walk rest o ≡ some g → ((c : Node) → Context n (path ++ (b ∷ [])) c → node_at c rest ≡ some g → Context n ((path ++ (b ∷ [])) ++ rest) g) → Context n (path ++ b ∷ rest) g
    go none i j ih = absurd (lost rest g j)
    go (some c) i j ih = subst (λ (p : List ℕ). Context n p g) (append_snoc path b rest) (ih c (down n path m k b c i) j)

module _ (n : Node) (short : (path : List ℕ) → IsNode n path → length path ≤ 16) (apart : Apart n.children) where
  root_context : rule_test n ≡ true → Context n [] n
  root_context e =
      let e₁ = both (node_right 0 n.lists n.children) (fronts_within (siblings n.children) n.children && forest_right (siblings n.children) 1 n.children) e in
      let e₂ = both (fronts_within (siblings n.children) n.children) (forest_right (siblings n.children) 1 n.children) e₁.1 in
      record { fs = siblings n.children; there = refl; fronts = fronts_root n apart; node = e₁.0; prefixes = λ h. absurd (not-suc-le-zero h); inside = e₂.0; below = e₂.1 }

  -- ── from lists to paths and back ──

  from_child : (path : List ℕ) (m : Node) → node_at n path ≡ some m → (l : Location) → FromLists 0 (child_lists m.children) l ↔ FromChild n path l
  from_child path m e l = (to, fro)
    where
      same : (x : Location) → moved x 0 ≡ x
      same x = location_path (omega arith) refl refl

      to : FromLists 0 (child_lists m.children) l → FromChild n path l
      to f =
          let u : Under m.children f.at = (child_lists_are m.children (apart_at n apart path m e) f.at).0 f.listed in
          let b : ℕ = u.child_of_it.byte in
          let i : lists_at n (path ++ (b ∷ [])) ≡ u.node.lists = lists_here n (path ++ (b ∷ [])) u.node (walk_last n path b m e ∙ u.child_of_it.there) in
          record { byte = b; listed = subst (λ (x : Location). Mem x (lists_at n (path ++ (b ∷ []))).chunks ⊎ Mem x (lists_at n (path ++ (b ∷ []))).suffixes) (sym (same f.at) ∙ sym f.is) (subst (λ (h : Lists). Mem f.at h.chunks ⊎ Mem f.at h.suffixes) (sym i) u.member) }

      stands : (f : FromChild n path l) → Mem l (lists_at n (path ++ (f.byte ∷ []))).chunks ⊎ Mem l (lists_at n (path ++ (f.byte ∷ []))).suffixes → IsNode n (path ++ (f.byte ∷ []))
      stands f (inl h) = in_chunks_node n (path ++ (f.byte ∷ [])) h
      stands f (inr h) = in_suffixes_node n (path ++ (f.byte ∷ [])) h

      fro : FromChild n path l → FromLists 0 (child_lists m.children) l
      fro f =
          let w : IsNode n (path ++ (f.byte ∷ [])) = stands f f.listed in
          let i : child m.children f.byte ≡ some w.node = sym (walk_last n path f.byte m e) ∙ w.there in
          let j : lists_at n (path ++ (f.byte ∷ [])) ≡ w.node.lists = lists_here n (path ++ (f.byte ∷ [])) w.node w.there in
          record {
            at = l;
            listed = (child_lists_are m.children (apart_at n apart path m e) l).1 (record { node = w.node; child_of_it = record { byte = f.byte; there = i }; member = subst (λ (h : Lists). Mem l h.chunks ⊎ Mem l h.suffixes) j f.listed });
            is = sym (same l);
          }

  from_front : (path : List ℕ) (fs : List Node) → Fronts n path fs → (l : Location) → FromLists 1 (front_lists fs) l ↔ FromFront n path l
  from_front path fs w l = (to, fro)
    where
      to : FromLists 1 (front_lists fs) l → FromFront n path l
      to f =
          let u : Ends fs f.at = (front_lists_are fs f.at).0 f.listed in
          let k : FrontOf n path u.node = (w u.node).0 u.listed in
          let i : lists_at n (k.byte ∷ path) ≡ u.node.lists = lists_here n (k.byte ∷ path) u.node k.there in
          record { byte = k.byte; at = f.at; listed = subst (λ (h : Lists). Mem f.at h.chunks ⊎ Mem f.at h.prefixes) (sym i) u.member; is = f.is }

      stands : (f : FromFront n path l) → Mem f.at (lists_at n (f.byte ∷ path)).chunks ⊎ Mem f.at (lists_at n (f.byte ∷ path)).prefixes → IsNode n (f.byte ∷ path)
      stands f (inl h) = in_chunks_node n (f.byte ∷ path) h
      stands f (inr h) = in_prefixes_node n (f.byte ∷ path) h

      fro : FromFront n path l → FromLists 1 (front_lists fs) l
      fro f =
          let s : IsNode n (f.byte ∷ path) = stands f f.listed in
          let j : lists_at n (f.byte ∷ path) ≡ s.node.lists = lists_here n (f.byte ∷ path) s.node s.there in
          record {
            at = f.at;
            listed = (front_lists_are fs f.at).1 (record { node = s.node; listed = (w s.node).1 (record { byte = f.byte; there = s.there }); member = subst (λ (h : Lists). Mem f.at h.chunks ⊎ Mem f.at h.prefixes) j f.listed });
            is = f.is;
          }

  -- ── a child for each child of a front ──

  within_child : (f g : Forest) → within f g ≡ true → (b : ℕ) (c : Node) → child f b ≡ some c → is_some (child g b) ≡ true
  within_child leaf g e b c i = never_some i
  within_child (more a h under rest) g e b c i = go (eqb a b) (eq a b) (within_child rest g e₁.1 b c) i
    where
      e₁ : (is_some (child g a) ≡ true) × (within rest g ≡ true)
      e₁ = both (is_some (child g a)) (within rest g) e

      go : (o : Bool) → Eq o a b → (child rest b ≡ some c → is_some (child g b) ≡ true) → cond o (some (record { lists = h; children = under })) (child rest b) ≡ some c → is_some (child g b) ≡ true
      go true j ih k = subst (λ (x : ℕ). is_some (child g x) ≡ true) j e₁.0
      go false j ih k = ih k

  child_within : (f g : Forest) → ((b : ℕ) (c : Node) → child f b ≡ some c → is_some (child g b) ≡ true) → Apart f → within f g ≡ true
  child_within leaf g h a = refl
  child_within (more b k under rest) g h a = and_true (h b (record { lists = k; children = under }) (child_first b k under rest)) (child_within rest g (λ x c e. h x c (child_later b k under rest a.0 x c e)) a.2)

  each_within : (fs : List Node) (g : Forest) → fronts_within fs g ≡ true → (f : Node) → Mem f fs → within f.children g ≡ true
  each_within [] g e f x'' = elim x'' [ ]
  each_within (x ∷ fs) g e f (here i) = subst (λ (y : Node). within y.children g ≡ true) (sym i) (both (within x.children g) (fronts_within fs g) e).0
  each_within (x ∷ fs) g e f (later h) = each_within fs g (both (within x.children g) (fronts_within fs g) e).1 f h

  within_each : (fs : List Node) (g : Forest) → ((f : Node) → Mem f fs → within f.children g ≡ true) → fronts_within fs g ≡ true
  within_each [] g h = refl
  within_each (x ∷ fs) g h = and_true (h x (here refl)) (within_each fs g (λ f k. h f (later k)))

  some_node : (g : Forest) (b : ℕ) → is_some (child g b) ≡ true → (c : Node) × (child g b ≡ some c)
  some_node g b e = go (child g b) refl e
    where
      go : (o : Option Node) → child g b ≡ o → is_some o ≡ true → (c : Node) × (child g b ≡ some c)
      go none i j = absurd (let z : ◌≡◌ {A = ℕ} 0 1 = cc in omega arith)
      go (some c) i j = (c, i)

  -- ── the test holds: so do the local conditions ──

  module _ (e : rule_test n ≡ true) where
    at : (path : List ℕ) (m : Node) → node_at n path ≡ some m → Context n path m
    at path m i = context_behind n path [] n (root_context e) m i

    facts : (path : List ℕ) (m : Node) → node_at n path ≡ some m → NodeFacts (length path) m.lists m.children
    facts path m i = node_facts (length path) m.lists m.children (at path m i).node

    -- along a path, with a front beside the node
    shorter_behind : (byte : ℕ) (rest path : List ℕ) (m : Node) → Context n path m → (f : Node) → node_at n (byte ∷ path) ≡ some f → (g : Node) → node_at f rest ≡ some g → IsNode n (path ++ rest)
    shorter_behind byte [] path m k f i g j = record { node = m; there = ap (node_at n) (append-nil path) ∙ k.there }
    shorter_behind byte (c ∷ rest) path m k f i g j = go (child f.children c) refl j (λ x y z w. shorter_behind byte rest (path ++ (c ∷ [])) x y z w g)
      where
        go : (o : Option Node) → child f.children c ≡ o → walk rest o ≡ some g → ((x : Node) → Context n (path ++ (c ∷ [])) x → (y : Node) → node_at n (byte ∷ (path ++ (c ∷ []))) ≡ some y → node_at y rest ≡ some g → IsNode n ((path ++ (c ∷ [])) ++ rest)) → IsNode n (path ++ c ∷ rest)
        go none p q ih = absurd (lost rest g q)
        go (some y) p q ih =
            let w : within f.children m.children ≡ true = each_within k.fs m.children k.inside f ((k.fronts f).1 (record { byte = byte; there = i })) in
            let s = some_node m.children c (within_child f.children m.children w c y p) in
            subst (IsNode n) (append_snoc path c rest) (ih s.0 (down n path m k c s.0 s.1) y (walk_last n (byte ∷ path) c f i ∙ p) q)

    shorter : (byte : ℕ) (path : List ℕ) → IsNode n (byte ∷ path) → IsNode n path
    shorter byte path w = go (child n.children byte) refl w.there
      where
        go : (o : Option Node) → child n.children byte ≡ o → walk path o ≡ some w.node → IsNode n path
        go none i j = absurd (lost path w.node j)
        go (some f) i j = shorter_behind byte path [] n (root_context e) f i w.node j

    ended : (path : List ℕ) → 0 < length path → IsNode n path → HasChild n path ⊎ HasEnd n path
    ended path h w = go (length path) h m.children refl m.lists.prefixes refl m.lists.chunks refl (facts path m w.there).owed
      where
        m : Node
        m = w.node

        lists : lists_at n path ≡ m.lists
        lists = lists_here n path m w.there

        first : (b : ℕ) (k : Lists) (under rest : Forest) → m.children ≡ more b k under rest → HasChild n path
        first b k under rest i = record { byte = b; there = record { node = record { lists = k; children = under }; there = walk_last n path b m w.there ∙ ap (λ (x : Forest). child x b) i ∙ child_first b k under rest } }

        go : (d : ℕ) → 0 < d → (f : Forest) → m.children ≡ f → (ps : List Location) → m.lists.prefixes ≡ ps → (cs : List Location) → m.lists.chunks ≡ cs → is_owed d (record { prefixes = ps; chunks = cs; suffixes = m.lists.suffixes }) f ≡ true → HasChild n path ⊎ HasEnd n path
        go zero h f i ps j cs k o = absurd (not-suc-le-zero h)
        go (suc d) h (more b x under rest) i ps j cs k o = inl (first b x under rest i)
        go (suc d) h leaf i (p ∷ ps) j cs k o = inr (record { at = p; listed = inl (subst (λ (x : List Location). Mem p x) (sym (ap (λ (x : Lists). x.prefixes) lists ∙ j)) (here refl)) })
        go (suc d) h leaf i [] j (c ∷ cs) k o = inr (record { at = c; listed = inr (subst (λ (x : List Location). Mem c x) (sym (ap (λ (x : Lists). x.chunks) lists ∙ k)) (here refl)) })
        go (suc d) h leaf i [] j [] k o = absurd (let z : ◌≡◌ {A = ℕ} 0 1 = cc in omega arith)

    no_prefix : (ls : List Location) → is_nil ls ≡ true → (l : Location) → Mem l ls → ⊥
    no_prefix [] i l h = not-nil h
    no_prefix (x ∷ ls) i l h = let z : ◌≡◌ {A = ℕ} 0 1 = cc in omega arith

    pub local_of_test : LocalRule n
    local_of_test = record {
      short = short;
      apart = apart;
      suffixes = λ path w l. suffixes path w.node w.there l;
      root_prefixes = λ l h. no_prefix n.lists.prefixes (facts [] n refl).owed l h;
      prefixes = λ path h w l. prefixes path h w.node w.there l;
      shorter = shorter;
      ended = ended;
      sorted = λ path w. subst ListsSorted (sym (lists_here n path w.node w.there)) (facts path w.node w.there).sorted;
      passes = λ path l h. passes path l h (in_chunks_node n path h);
    }
      where
        suffixes : (path : List ℕ) (m : Node) → node_at n path ≡ some m → (l : Location) → Mem l (lists_at n path).suffixes ↔ FromChild n path l
        suffixes path m i l =
            let u = (facts path m i).suffixes l in
            let s : (lists_at n path).suffixes ≡ m.lists.suffixes = ap (λ (x : Lists). x.suffixes) (lists_here n path m i) in
            ((λ h. (from_child path m i l).0 (u.0 (subst (λ (x : List Location). Mem l x) s h))), λ f. subst (λ (x : List Location). Mem l x) (sym s) (u.1 ((from_child path m i l).1 f)))

        prefixes : (path : List ℕ) → 0 < length path → (m : Node) → node_at n path ≡ some m → (l : Location) → Mem l (lists_at n path).prefixes ↔ FromFront n path l
        prefixes path h m i l =
            let k : Context n path m = at path m i in
            let u = union_holds 1 m.lists.prefixes (front_lists k.fs) (k.prefixes h) l in
            let s : (lists_at n path).prefixes ≡ m.lists.prefixes = ap (λ (x : Lists). x.prefixes) (lists_here n path m i) in
            ((λ g. (from_front path k.fs k.fronts l).0 (u.0 (subst (λ (x : List Location). Mem l x) s g))), λ f. subst (λ (x : List Location). Mem l x) (sym s) (u.1 ((from_front path k.fs k.fronts l).1 f)))

        passes : (path : List ℕ) (l : Location) → Has n path l → IsNode n path → Passes (length path) l
        passes path l h w = (facts path w.node w.there).passes l (subst (λ (x : List Location). Mem l x) (ap (λ (x : Lists). x.chunks) (lists_here n path w.node w.there)) h)

  -- ── the local conditions hold: so does the test ──

  module _ (r : LocalRule n) where
    sorted_here : (path : List ℕ) (m : Node) → node_at n path ≡ some m → ListsSorted m.lists
    sorted_here path m e = subst ListsSorted (lists_here n path m e) (r.sorted path (record { node = m; there = e }))

    and_sorted : (ls : List Location) (lss : List (List Location)) → Sorted Less ls → AllSorted lss → AllSorted (and_list ls lss)
    and_sorted [] lss s t xs h = t xs h
    and_sorted (l ∷ ls) lss s t xs (here e) = subst (Sorted Less) (sym e) s
    and_sorted (l ∷ ls) lss s t xs (later h) = t xs h

    child_lists_sorted : (f : Forest) → Apart f → ((c : Node) → ChildOf f c → ListsSorted c.lists) → AllSorted (child_lists f)
    child_lists_sorted leaf a s = λ xs h. absurd (not-nil h)
    child_lists_sorted (more b h under rest) a s =
        let own : ListsSorted h = s (record { lists = h; children = under }) (record { byte = b; there = child_first b h under rest }) in
        let others : AllSorted (child_lists rest) = child_lists_sorted rest a.2 (λ c k. s c (record { byte = k.byte; there = child_later b h under rest a.0 k.byte c k.there })) in
        and_sorted h.chunks (and_list h.suffixes (child_lists rest)) own.chunks (and_sorted h.suffixes (child_lists rest) own.suffixes others)

    front_lists_sorted : (fs : List Node) → ((f : Node) → Mem f fs → ListsSorted f.lists) → AllSorted (front_lists fs)
    front_lists_sorted [] s = λ xs h. absurd (not-nil h)
    front_lists_sorted (f ∷ fs) s =
        let own : ListsSorted f.lists = s f (here refl) in
        and_sorted f.lists.chunks (and_list f.lists.prefixes (front_lists fs)) own.chunks (and_sorted f.lists.prefixes (front_lists fs) own.prefixes (front_lists_sorted fs (λ g h. s g (later h))))

    is_nil_true : (ls : List Location) → ((l : Location) → Mem l ls → ⊥) → is_nil ls ≡ true
    is_nil_true [] f = refl
    is_nil_true (l ∷ ls) f = absurd (f l (here refl))

    owed_true : (path : List ℕ) (m : Node) → node_at n path ≡ some m → is_owed (length path) m.lists m.children ≡ true
    owed_true [] m e = is_nil_true m.lists.prefixes (λ l h. r.root_prefixes l (subst (λ (x : Node). Mem l x.lists.prefixes) (sym (same_some e)) h))
    owed_true (b ∷ path) m e = go m.children refl m.lists.prefixes refl m.lists.chunks refl (r.ended (b ∷ path) (omega arith) (record { node = m; there = e }))
      where
        lists : lists_at n (b ∷ path) ≡ m.lists
        lists = lists_here n (b ∷ path) m e

        no_child : m.children ≡ leaf → HasChild n (b ∷ path) → ⊥
        no_child i k = never_some (sym (ap (λ (x : Forest). child x k.byte) i) ∙ sym (walk_last n (b ∷ path) k.byte m e) ∙ k.there.there)

        no_end : m.lists.prefixes ≡ [] → m.lists.chunks ≡ [] → (k : HasEnd n (b ∷ path)) → Mem k.at (lists_at n (b ∷ path)).prefixes ⊎ Mem k.at (lists_at n (b ∷ path)).chunks → ⊥
        no_end i j k (inl h) = not-nil (subst (λ (x : List Location). Mem k.at x) (ap (λ (x : Lists). x.prefixes) lists ∙ i) h)
        no_end i j k (inr h) = not-nil (subst (λ (x : List Location). Mem k.at x) (ap (λ (x : Lists). x.chunks) lists ∙ j) h)

        none_of : m.children ≡ leaf → m.lists.prefixes ≡ [] → m.lists.chunks ≡ [] → HasChild n (b ∷ path) ⊎ HasEnd n (b ∷ path) → ⊥
        none_of i j k (inl h) = no_child i h
        none_of i j k (inr h) = no_end j k h h.listed

        go : (f : Forest) → m.children ≡ f → (ps : List Location) → m.lists.prefixes ≡ ps → (cs : List Location) → m.lists.chunks ≡ cs → HasChild n (b ∷ path) ⊎ HasEnd n (b ∷ path) → is_owed (suc (length path)) (record { prefixes = ps; chunks = cs; suffixes = m.lists.suffixes }) f ≡ true
        go (more x k under rest) i ps j cs w o = refl
        go leaf i (p ∷ ps) j cs w o = refl
        go leaf i [] j (c ∷ cs) w o = refl
        go leaf i [] j [] w o = absurd (none_of i j w o)

    node_true : (path : List ℕ) (m : Node) → node_at n path ≡ some m → node_right (length path) m.lists m.children ≡ true
    node_true path m e =
        let s : ListsSorted m.lists = sorted_here path m e in
        let i : lists_at n path ≡ m.lists = lists_here n path m e in
        let passes : (l : Location) → Mem l m.lists.chunks → Passes (length path) l = λ l h. r.passes path l (subst (λ (x : Lists). Mem l x.chunks) (sym i) h) in
        let a : Apart m.children = apart_at n apart path m e in
        and_true (owed_true path m e)
        (and_true
        (and_true ((is_ascending_sorted m.lists.prefixes).1 s.prefixes) (and_true ((is_ascending_sorted m.lists.chunks).1 s.chunks) (and_true ((is_ascending_sorted m.lists.suffixes).1 s.suffixes) ((all_pass_is (length path) m.lists.chunks).1 passes))))
        (holds_union 0 m.lists.suffixes (child_lists m.children) s.suffixes (child_lists_sorted m.children a children_sorted) union))
      where
        children_sorted : (c : Node) → ChildOf m.children c → ListsSorted c.lists
        children_sorted c k = sorted_here (path ++ (k.byte ∷ [])) c (walk_last n path k.byte m e ∙ k.there)

        union : Union 0 m.lists.suffixes (child_lists m.children)
        union l =
            let u = r.suffixes path (record { node = m; there = e }) l in
            let i : lists_at n path ≡ m.lists = lists_here n path m e in
            ((λ h. (from_child path m e l).1 (u.0 (subst (λ (x : Lists). Mem l x.suffixes) (sym i) h))), λ f. subst (λ (x : Lists). Mem l x.suffixes) i (u.1 ((from_child path m e l).0 f)))

    prefixes_true : (path : List ℕ) → 0 < length path → (m : Node) → node_at n path ≡ some m → (fs : List Node) → Fronts n path fs → is_union 1 m.lists.prefixes (front_lists fs) ≡ true
    prefixes_true path h m e fs w = holds_union 1 m.lists.prefixes (front_lists fs) (sorted_here path m e).prefixes (front_lists_sorted fs sorted) union
      where
        sorted : (f : Node) → Mem f fs → ListsSorted f.lists
        sorted f k = let o = (w f).0 k in sorted_here (o.byte ∷ path) f o.there

        union : Union 1 m.lists.prefixes (front_lists fs)
        union l =
            let u = r.prefixes path h (record { node = m; there = e }) l in
            let i : lists_at n path ≡ m.lists = lists_here n path m e in
            ((λ k. (from_front path fs w l).1 (u.0 (subst (λ (x : Lists). Mem l x.prefixes) (sym i) k))), λ f. subst (λ (x : Lists). Mem l x.prefixes) i (u.1 ((from_front path fs w l).0 f)))

    is_some_true : (o : Option Node) (c : Node) → o ≡ some c → is_some o ≡ true
    is_some_true o c e = ap is_some e

    within_true : (path : List ℕ) (m : Node) → node_at n path ≡ some m → (fs : List Node) → Fronts n path fs → fronts_within fs m.children ≡ true
    within_true path m e fs w = within_each fs m.children (λ f h. one f ((w f).0 h))
      where
        one : (f : Node) → FrontOf n path f → within f.children m.children ≡ true
        one f o = child_within f.children m.children step (apart_at n apart (o.byte ∷ path) f o.there)
          where
            step : (b : ℕ) (c : Node) → child f.children b ≡ some c → is_some (child m.children b) ≡ true
            step b c i =
                let s : IsNode n (path ++ (b ∷ [])) = r.shorter o.byte (path ++ (b ∷ [])) (record { node = c; there = walk_last n (o.byte ∷ path) b f o.there ∙ i }) in
                is_some_true (child m.children b) s.node (sym (walk_last n path b m e) ∙ s.there)

    -- siblings that stand at the path, some of its node's children
    forest_true : (f : Forest) (path : List ℕ) (d : ℕ) → d ≡ suc (length path) → Apart f → ((b : ℕ) (c : Node) → child f b ≡ some c → node_at n (path ++ (b ∷ [])) ≡ some c) → (fs : List Node) → Fronts n path fs → forest_right fs d f ≡ true
    forest_true leaf path d i a part fs w = refl
    forest_true (more b h under rest) path d i a part fs w =
        let m : Node = record { lists = h; children = under } in
        let p : List ℕ = path ++ (b ∷ []) in
        let e : node_at n p ≡ some m = part b m (child_first b h under rest) in
        let k : d ≡ length p = i ∙ longer path b in
        let gs : List Node = next_fronts b fs in
        let v : Fronts n p gs = fronts_next n path fs b w in
        and_true
        (and_true (prefixes_true p (omega (arith, longer path b)) m e gs v)
        (and_true (subst (λ (x : ℕ). node_right x h under ≡ true) (sym k) (node_true p m e))
        (and_true (within_true p m e gs v)
        (forest_true under p (suc d) (ap suc k) a.1 (λ c x j. walk_last n p c m e ∙ j) gs v))))
        (forest_true rest path d i a.2 (λ c x j. part c x (child_later b h under rest a.0 c x j)) fs w)

    pub test_of_local : rule_test n ≡ true
    test_of_local =
        and_true (node_true [] n refl)
        (and_true (within_true [] n refl (siblings n.children) (fronts_root n apart))
        (forest_true n.children [] 1 refl apart (λ b c e. e) (siblings n.children) (fronts_root n apart)))

-- where paths are short and siblings differ, the test tells whether the index rule holds
pub rule_test_is : (n : Node) → ((path : List ℕ) → IsNode n path → length path ≤ 16) → Apart n.children → (rule_test n ≡ true) ↔ NodeRule n
rule_test_is n short apart = ((λ e. (local_is_rule n).0 (local_of_test n short apart e)), λ r. test_of_local n short apart ((local_is_rule n).1 r))

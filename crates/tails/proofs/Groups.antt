-- The groups of sorted tails: their bytes ascend, and each group is the tails with its byte. Assumes nothing.
use Prim.Native.Nat.{ℕ, suc, ◌≤◌, ◌<◌, min}
use native.Mathlib.Omega.{arith}
use mathlib.Core.Path.{◌≡◌, refl, sym, ap, ◌∙◌, subst}
use mathlib.Core.Bool.{Bool, true, false, cond}
use mathlib.Core.Logic.{◌⊎◌, inl, inr}
use mathlib.Core.List.Memᴰ.{cast}
use mathlib.Core.List.Memᴰ.{head as here}
use mathlib.Core.List.Memᴰ.{not-nil}
use mathlib.Core.List.Memᴰ.{tail as later}
use mathlib.Core.List.{List, [], ◌∷◌, Memᴰ as Mem}
use lib.Dec.{eqb}
use borrow.Author.Tests.{eqb-true, eq-eqb, ne_eqb}
use Rattle.std.proofs.lemmas.Bool.{cases_lt}
use Rattle.definitions.proofs.Views.{Eq, eq}
use Rattle.trie.specs.Build.{Rising}
use Rattle.tails.specs.Tails.{Tail}
use Rattle.tails.specs.Groups.{byte_at, Group, into_group, groups, below, bytes_of}
use Rattle.tails.specs.Runs.{Pairs, Run}
use Rattle.tails.proofs.Keep.{keep, keep_mem, mem_keep, pairs_keep, keep_none, keep_keep}
use Rattle.tails.proofs.Runs.{longer, goes, goes_is, below_here, bytes_upto, run_goes}

pub mem_bytes : {g : Group} (gs : List Group) → Mem g gs → Mem g.byte (bytes_of gs)
mem_bytes {g = g} [] x' = elim x' [ ]
mem_bytes (h ∷ gs) (here e) = here (λ i. (e i).byte)
mem_bytes (h ∷ gs) (later m) = later (mem_bytes gs m)

-- the tail has byte b at d
abbrev pub has : ℕ → ℕ → Tail → Bool
has d b t = eqb (byte_at d t) b

-- the tails that pass a test, with the least of their arrival numbers
pub record GroupOf (f : Tail → Bool) (ts : List Tail) (g : Group) : Type 0 where
  pub tails : g.tails ≡ keep f ts
  pub least : (t : Tail) → Mem t g.tails → g.first ≤ t.arrival
  pub earliest : Tail
  pub there : Mem earliest g.tails
  pub is : earliest.arrival ≡ g.first

pub record Grouped (d : ℕ) (ss : List Tail) (gs : List Group) : Type 0 where
  pub rising : Rising (bytes_of gs)
  pub each : (g : Group) → Mem g gs → GroupOf (has d g.byte) ss g
  pub covers : (t : Tail) → Mem t ss → Mem (byte_at d t) (bytes_of gs)

-- ── one tail in front of groups ──

module _ (d : ℕ) (t : Tail) (ss : List Tail) where
  -- a group of another byte stays
  other : (x : Group) → ¬ (byte_at d t ≡ x.byte) → GroupOf (has d x.byte) ss x → GroupOf (has d x.byte) (t ∷ ss) x
  other x n g = record {
    tails = rw (ne_eqb (byte_at d t) x.byte n) g.tails;
    least = g.least;
    earliest = g.earliest;
    there = g.there;
    is = g.is;
  }

  -- a group of one
  abbrev alone : Group
  alone = record { byte = byte_at d t; first = t.arrival; tails = t ∷ [] }

  alone_of : ((s : Tail) → Mem s ss → ¬ (byte_at d s ≡ byte_at d t)) → GroupOf (has d (byte_at d t)) (t ∷ ss) alone
  alone_of n =
      let none : keep (has d (byte_at d t)) ss ≡ [] = keep_none (has d (byte_at d t)) ss (λ s m. ne_eqb (byte_at d s) (byte_at d t) (n s m)) in
      record {
        tails = rw (eq-eqb (byte_at d t) (byte_at d t) refl, none);
        least = λ s m. least s m;
        earliest = t;
        there = here refl;
        is = refl;
      }
    where
      least : (s : Tail) → Mem s (t ∷ []) → t.arrival ≤ s.arrival
      least s (here e) = omega (arith, ap (λ (x : Tail). x.arrival) e)
      least s (later m) = absurd (not-nil m)

  -- put into the group with its byte
  abbrev joined : Group → Group
  joined g = record { byte = g.byte; first = min t.arrival g.first; tails = t ∷ g.tails }

  joined_of : (g : Group) → byte_at d t ≡ g.byte → GroupOf (has d g.byte) ss g → GroupOf (has d g.byte) (t ∷ ss) (joined g)
  joined_of g e k = go (cases_lt g.first t.arrival)
    where
      all : t ∷ g.tails ≡ keep (has d g.byte) (t ∷ ss)
      all = rw (eq-eqb (byte_at d t) g.byte e) (ap (λ (x : List Tail). t ∷ x) k.tails)

      least : (s : Tail) → Mem s (t ∷ g.tails) → min t.arrival g.first ≤ s.arrival
      least s (here f) = omega (arith, ap (λ (x : Tail). x.arrival) f)
      least s (later m) = omega (arith, k.least s m)

      go : (g.first < t.arrival) ⊎ (t.arrival ≤ g.first) → GroupOf (has d g.byte) (t ∷ ss) (joined g)
      go (inl h) = record { tails = all; least = least; earliest = k.earliest; there = later k.there; is = omega (arith, k.is) }
      go (inr h) = record { tails = all; least = least; earliest = t; there = here refl; is = omega arith }

  module _ (upto : (s : Tail) → Mem s ss → byte_at d t ≤ byte_at d s) where
    -- a group's byte is that of a tail, so it is not below t's
    group_upto : (g : Group) → GroupOf (has d g.byte) ss g → byte_at d t ≤ g.byte
    group_upto g k =
        let m = keep_mem (has d g.byte) ss (subst (λ (x : List Tail). Mem k.earliest x) k.tails k.there) in
        omega (arith, upto k.earliest m.listed, eqb-true (byte_at d k.earliest) g.byte m.passes)

    into_grouped : (gs : List Group) → Grouped d ss gs → Grouped d (t ∷ ss) (into_group d t gs)
    into_grouped [] k = record { rising = ((λ c m. absurd (not-nil m)), tt); each = each; covers = covers }
      where
        none : (s : Tail) → Mem s ss → ⊥
        none s m = not-nil (k.covers s m)

        each : (g : Group) → Mem g (alone ∷ []) → GroupOf (has d g.byte) (t ∷ ss) g
        each g (here e) = subst (λ (x : Group). GroupOf (has d x.byte) (t ∷ ss) x) (sym e) (alone_of (λ s m. absurd (none s m)))
        each g (later m) = absurd (not-nil m)

        covers : (s : Tail) → Mem s (t ∷ ss) → Mem (byte_at d s) (byte_at d t ∷ [])
        covers s (here e) = here (ap (byte_at d) e)
        covers s (later m) = absurd (none s m)
    into_grouped (g ∷ gs) k = go (eqb (byte_at d t) g.byte) (eq (byte_at d t) g.byte)
      where
        -- t into the first group
        join : byte_at d t ≡ g.byte → Grouped d (t ∷ ss) (joined g ∷ gs)
        join e = record { rising = k.rising; each = each; covers = covers }
          where
            each : (x : Group) → Mem x (joined g ∷ gs) → GroupOf (has d x.byte) (t ∷ ss) x
            each x (here f) = subst (λ (y : Group). GroupOf (has d y.byte) (t ∷ ss) y) (sym f) (joined_of g e (k.each g (here refl)))
            each x (later m) =
                let l : g.byte < x.byte = k.rising.0 x.byte (mem_bytes gs m) in
                other x (omega arith) (k.each x (later m))

            covers : (s : Tail) → Mem s (t ∷ ss) → Mem (byte_at d s) (g.byte ∷ bytes_of gs)
            covers s (here f) = here (ap (byte_at d) f ∙ e)
            covers s (later m) = k.covers s m

        -- t before all groups
        put : ¬ (byte_at d t ≡ g.byte) → Grouped d (t ∷ ss) (alone ∷ g ∷ gs)
        put n = record { rising = (lower, k.rising); each = each; covers = covers }
          where
            lower : (c : ℕ) → Mem c (bytes_of (g ∷ gs)) → byte_at d t < c
            lower c (here f) = omega (arith, group_upto g (k.each g (here refl)))
            lower c (later m) = omega (arith, group_upto g (k.each g (here refl)), k.rising.0 c m)

            each : (x : Group) → Mem x (alone ∷ g ∷ gs) → GroupOf (has d x.byte) (t ∷ ss) x
            each x (here f) = subst (λ (y : Group). GroupOf (has d y.byte) (t ∷ ss) y) (sym f) (alone_of (λ s m. omega (arith, lower (byte_at d s) (k.covers s m))))
            each x (later m) = other x (omega (arith, lower x.byte (mem_bytes (g ∷ gs) m))) (k.each x m)

            covers : (s : Tail) → Mem s (t ∷ ss) → Mem (byte_at d s) (byte_at d t ∷ bytes_of (g ∷ gs))
            covers s (here f) = here (ap (byte_at d) f)
            covers s (later m) = later (k.covers s m)

        go : (o : Bool) → Eq o (byte_at d t) g.byte → Grouped d (t ∷ ss) (cond o (joined g ∷ gs) (alone ∷ g ∷ gs))
        go true e = join e
        go false n = put n

pub groups_grouped : (d : ℕ) (ss : List Tail) → Pairs (λ t s. byte_at d t ≤ byte_at d s) ss → Grouped d ss (groups d ss)
groups_grouped d [] p = record { rising = tt; each = λ g m. absurd (not-nil m); covers = λ t m. absurd (not-nil m) }
groups_grouped d (t ∷ ss) p = into_grouped d t ss p.0 (groups d ss) (groups_grouped d ss p.1)

-- ── the groups of a run ──

pub bytes_mem : {b : ℕ} (gs : List Group) → Mem b (bytes_of gs) → (g : Group) × Mem g gs × (b ≡ g.byte)
bytes_mem {b = b} [] x' = elim x' [ ]
bytes_mem (g ∷ gs) (here e) = (g, here refl, e)
bytes_mem {b} (g ∷ gs) (later m) = on (bytes_mem gs m)
  where
    on : (h : Group) × Mem h gs × (b ≡ h.byte) → (h : Group) × Mem h (g ∷ gs) × (b ≡ h.byte)
    on k = (k.0, later k.1, k.2)

module _ (d : ℕ) (ts : List Tail) (run-d : Run d ts) where
  run_grouped : Grouped d (keep (longer d) ts) (groups d (below d ts))
  run_grouped =
      let p = pairs_keep (λ t s. byte_at d t ≤ byte_at d s) (longer d) ts (bytes_upto d ts run-d) in
      rw (below_here d ts run-d) (groups_grouped d (keep (longer d) ts) p)

  pub groups_rising : Rising (bytes_of (groups d (below d ts)))
  groups_rising = run_grouped.rising

  -- each group is the tails that go on with its byte
  pub group_of : (g : Group) → Mem g (groups d (below d ts)) → GroupOf (goes d g.byte) ts g
  group_of g m =
      let k = run_grouped.each g m in
      record { tails = k.tails ∙ keep_keep (has d g.byte) (longer d) ts; least = k.least; earliest = k.earliest; there = k.there; is = k.is }

  pub group_run : (g : Group) → Mem g (groups d (below d ts)) → Run (suc d) g.tails
  group_run g m = subst (Run (suc d)) (sym (group_of g m).tails) (run_goes d ts run-d g.byte)

  -- the groups' bytes are those with which tails go on
  pub byte_goes : {b : ℕ} → Mem b (bytes_of (groups d (below d ts))) → (t : Tail) × Mem t (keep (goes d b) ts)
  byte_goes {b} m = go (bytes_mem (groups d (below d ts)) m)
    where
      go : (g : Group) × Mem g (groups d (below d ts)) × (b ≡ g.byte) → (t : Tail) × Mem t (keep (goes d b) ts)
      go k =
          let o = group_of k.0 k.1 in
          let l : Mem o.earliest (keep (goes d k.0.byte) ts) = subst (λ (x : List Tail). Mem o.earliest x) o.tails o.there in
          (o.earliest, subst (λ (c : ℕ). Mem o.earliest (keep (goes d c) ts)) (sym k.2) l)

  pub goes_byte : {b : ℕ} (t : Tail) → Mem t (keep (goes d b) ts) → Mem b (bytes_of (groups d (below d ts)))
  goes_byte {b} t m =
      let k = keep_mem (goes d b) ts m in
      let e = goes_is d b t k.passes in
      cast (sym e.1) (run_grouped.covers t (mem_keep (longer d) ts k.listed e.0))

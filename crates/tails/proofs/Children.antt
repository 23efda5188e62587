-- The children of sorted tails stand as those by arrival do: by first arrival, and more than 96 by byte. Assumes nothing.
use Prim.Native.Nat.{ℕ, suc, ◌<◌}
use native.Mathlib.Omega.{arith}
use mathlib.Core.Path.{◌≡◌, refl, sym, ap, ◌∙◌, subst}
use mathlib.Core.Bool.{Bool, true, false, cond}
use mathlib.Core.Logic.{◌⊎◌, inl, inr}
use mathlib.Core.List.Memᴰ.{cast}
use mathlib.Core.List.Memᴰ.{head as here}
use mathlib.Core.List.Memᴰ.{not-nil}
use mathlib.Core.List.Memᴰ.{tail as later}
use mathlib.Core.List.{List, [], ◌∷◌, Memᴰ as Mem}
use lib.ListN.{length}
use lib.Dec.{leb}
use Rattle.trie.specs.Build.{Entry, arrivals, by_byte, ascending, kept_order, Rising}
use Rattle.trie.proofs.BuildBytes.{ascending_mem, mem_ascending, rising_ascending}
use Rattle.trie.proofs.BuildPaths.{GoesOn, arrivals_mem, mem_arrivals, distinct_arrivals}
use Rattle.tails.specs.Tails.{Tail}
use Rattle.tails.specs.Groups.{byte_at, Group, groups, by_arrival, kept_groups, below, bytes_of, Different}
use Rattle.tails.specs.Runs.{Pairs, Run}
use Rattle.tails.proofs.ByArrival.{by_arrival_mem, mem_by_arrival, Arriving, arriving}
use Rattle.tails.proofs.Keep.{keep, keep_mem, SameTails, same_keep}
use Rattle.tails.proofs.Runs.{goes, goes_is}
use Rattle.tails.proofs.Groups.{mem_bytes, bytes_mem, GroupOf, groups_rising, group_of, byte_goes, goes_byte}
use Rattle.tails.proofs.Entries.{entries_from, Long, behind_from}
use Rattle.tails.proofs.Arrivals.{RisingBy, rising_by, rising_unique, Earlier, first_of, first_le, first_there, arrivals_by_first}

-- the bytes of such groups, by a number that is each group's first arrival
arriving_bytes : (f : ℕ → ℕ) (gs : List Group) → ((g : Group) → Mem g gs → f g.byte ≡ g.first) → Arriving gs → RisingBy f (bytes_of gs)
arriving_bytes f [] e a = tt
arriving_bytes f (g ∷ gs) e a = ((λ c m. go c (bytes_mem gs m)), arriving_bytes f gs (λ h m. e h (later m)) a.1)
  where
    go : (c : ℕ) → (h : Group) × Mem h gs × (c ≡ h.byte) → f g.byte < f c
    go c k = omega (arith, e g (here refl), e k.0 (later k.1), a.0 k.0 k.1, ap f k.2)

-- ── lengths ──

length_bytes_of : (gs : List Group) → length (bytes_of gs) ≡ length gs
length_bytes_of [] = refl
length_bytes_of (g ∷ gs) = ap suc (length_bytes_of gs)

length_by_byte : (b : ℕ) (cs : List ℕ) → length (by_byte b cs) ≡ suc (length cs)
length_by_byte b [] = refl
length_by_byte b (c ∷ cs) = go (leb b c) (length_by_byte b cs)
  where
    go : (o : Bool) → length (by_byte b cs) ≡ suc (length cs) → length (cond o (b ∷ c ∷ cs) (c ∷ by_byte b cs)) ≡ suc (suc (length cs))
    go true ih = refl
    go false ih = ap suc ih

length_ascending : (bs : List ℕ) → length (ascending bs) ≡ length bs
length_ascending [] = refl
length_ascending (b ∷ bs) = length_by_byte b (ascending bs) ∙ ap suc (length_ascending bs)

-- ── the children of a run ──

arrival_injective : (ts : List Tail) → Pairs Earlier ts → (t s : Tail) → Mem t ts → Mem s ts → t.arrival ≡ s.arrival → t ≡ s
arrival_injective [] p t s x4 _ h = elim x4 [ ]
arrival_injective (u ∷ ts) p t s (here e) (here f) h = e ∙ sym f
arrival_injective (u ∷ ts) p t s (here e) (later m) h = absurd (omega (arith, p.0 s m, ap (λ (x : Tail). x.arrival) e))
arrival_injective (u ∷ ts) p t s (later m) (here f) h = absurd (omega (arith, p.0 t m, ap (λ (x : Tail). x.arrival) f))
arrival_injective (u ∷ ts) p t s (later m) (later n) h = arrival_injective ts p.1 t s m n h

module _ (d : ℕ) (ts us : List Tail) (run-d : Run d ts) (same : SameTails ts us) (early : Pairs Earlier us) where
  abbrev gs : List Group
  gs = groups d (below d ts)

  abbrev es : List Entry
  es = entries_from d us

  long : Long d us
  long t m = run-d.long t (same.fro t m)

  -- the same bytes go on
  byte_to : (b : ℕ) → Mem b (bytes_of gs) → Mem b (arrivals [] es)
  byte_to b m = go (byte_goes d ts run-d m)
    where
      entry_there : (t : Tail) (vs : List Tail) → Mem t vs → (e : Entry) × Mem e (entries_from (suc d) vs)
      entry_there t [] x' = elim x' [ ]
      entry_there t (v ∷ vs) (here q) = (_, here refl)
      entry_there t (v ∷ vs) (later q) =
          let k = entry_there t vs q in
          (k.0, later k.1)

      go : (t : Tail) × Mem t (keep (goes d b) ts) → Mem b (arrivals [] es)
      go k =
          let e = entry_there k.0 (keep (goes d b) us) ((same_keep (goes d b) ts us same).to k.0 k.1) in
          mem_arrivals b [] es (subst (λ (x : List Entry). Mem e.0 x) (sym (behind_from d b us long)) e.1)

  byte_fro : (b : ℕ) → Mem b (arrivals [] es) → Mem b (bytes_of gs)
  byte_fro b m = go (arrivals_mem [] es m)
    where
      tail_there : (e : Entry) (vs : List Tail) → Mem e (entries_from (suc d) vs) → (t : Tail) × Mem t vs
      tail_there e [] x' = elim x' [ ]
      tail_there e (v ∷ vs) (here q) = (v, here refl)
      tail_there e (v ∷ vs) (later q) =
          let k = tail_there e vs q in
          (k.0, later k.1)

      on : (t : Tail) × Mem t (keep (goes d b) us) → Mem b (bytes_of gs)
      on k = goes_byte d ts run-d k.0 ((same_keep (goes d b) ts us same).fro k.0 k.1)

      go : Mem b [] ⊎ GoesOn b es → Mem b (bytes_of gs)
      go (inl k) = absurd (not-nil k)
      go (inr k) = on (tail_there k.entry (keep (goes d b) us) (subst (λ (x : List Entry). Mem k.entry x) (behind_from d b us long) k.listed))

  by_bytes : bytes_of gs ≡ ascending (arrivals [] es)
  by_bytes = rising_unique (λ b. b) (bytes_of gs) (ascending (arrivals [] es)) (rising_by (bytes_of gs) (groups_rising d ts run-d)) (rising_by (ascending (arrivals [] es)) (rising_ascending (arrivals [] es) (distinct_arrivals [] es tt))) (λ b m. mem_ascending (arrivals [] es) (byte_to b m)) (λ b m. byte_fro b (ascending_mem (arrivals [] es) m))

  same_length : length gs ≡ length (arrivals [] es)
  same_length = sym (length_bytes_of gs) ∙ ap length by_bytes ∙ length_ascending (arrivals [] es)

  -- the tails of a group, by arrival
  in_group : (g : Group) (m : Mem g gs) (t : Tail) → Mem t g.tails → Mem t (keep (goes d g.byte) us)
  in_group g m t k = (same_keep (goes d g.byte) ts us same).to t (subst (λ (x : List Tail). Mem t x) (group_of d ts run-d g m).tails k)

  group_first : (g : Group) → Mem g gs → first_of d g.byte us ≡ g.first
  group_first g m = go (first_there d g.byte us o.earliest (in_group g m o.earliest o.there))
    where
      o : GroupOf (goes d g.byte) ts g
      o = group_of d ts run-d g m

      back : (s : Tail) → Mem s (keep (goes d g.byte) us) → Mem s g.tails
      back s k = subst (λ (x : List Tail). Mem s x) (sym o.tails) ((same_keep (goes d g.byte) ts us same).fro s k)

      go : (s : Tail) × Mem s (keep (goes d g.byte) us) × (s.arrival ≡ first_of d g.byte us) → first_of d g.byte us ≡ g.first
      go k = omega (arith, k.2, o.least k.0 (back k.0 k.1), o.is, first_le d g.byte us early o.earliest (in_group g m o.earliest o.there))

  -- two groups with the same first arrival have the same byte
  first_byte : (g h : Group) → Mem g gs → Mem h gs → g.first ≡ h.first → g.byte ≡ h.byte
  first_byte g h m n e =
      let o = group_of d ts run-d g m in
      let q = group_of d ts run-d h n in
      let i = keep_mem (goes d g.byte) us (in_group g m o.earliest o.there) in
      let j = keep_mem (goes d h.byte) us (in_group h n q.earliest q.there) in
      let f : o.earliest ≡ q.earliest = arrival_injective us early o.earliest q.earliest i.listed j.listed (o.is ∙ e ∙ sym q.is) in
      sym (goes_is d g.byte o.earliest i.passes).1 ∙ ap (byte_at d) f ∙ (goes_is d h.byte q.earliest j.passes).1

  apart : (hs : List Group) → ((h : Group) → Mem h hs → Mem h gs) → Rising (bytes_of hs) → Different hs
  apart [] i r = tt
  apart (h ∷ hs) i r = ((λ g m e. absurd (omega (arith, r.0 g.byte (mem_bytes hs m), first_byte h g (i h (here refl)) (i g (later m)) e))), apart hs (λ g m. i g (later m)) r.1)

  by_first : bytes_of (by_arrival gs) ≡ arrivals [] es
  by_first = rising_unique (λ b. first_of d b us) (bytes_of (by_arrival gs)) (arrivals [] es) groups_by_first (arrivals_by_first d us long early) (λ b m. byte_to b (from b (bytes_mem (by_arrival gs) m))) (λ b m. into b (bytes_mem gs (byte_fro b m)))
    where
      groups_by_first : RisingBy (λ b. first_of d b us) (bytes_of (by_arrival gs))
      groups_by_first = arriving_bytes (λ b. first_of d b us) (by_arrival gs) (λ g m. group_first g (by_arrival_mem gs m)) (arriving gs (apart gs (λ h m. m) (groups_rising d ts run-d)))

      from : (b : ℕ) → (g : Group) × Mem g (by_arrival gs) × (b ≡ g.byte) → Mem b (bytes_of gs)
      from b k = cast k.2 (mem_bytes gs (by_arrival_mem gs k.1))

      into : (b : ℕ) → (g : Group) × Mem g gs × (b ≡ g.byte) → Mem b (bytes_of (by_arrival gs))
      into b k = cast k.2 (mem_bytes (by_arrival gs) (mem_by_arrival gs k.1))

  -- the groups as they are kept have the bytes of the children as they are kept
  pub kept_bytes : bytes_of (kept_groups (groups d (below d ts))) ≡ kept_order (arrivals [] (entries_from d us))
  kept_bytes = rw same_length (go (leb (length (arrivals [] es)) 96))
    where
      go : (o : Bool) → bytes_of (cond o (by_arrival gs) gs) ≡ cond o (arrivals [] es) (ascending (arrivals [] es))
      go true = by_first
      go false = by_bytes

-- What tails enter at a depth: the lists there are those of the runs, and behind a byte stand the tails that go on with it.
-- Assumes nothing.
use Prim.Native.Nat.{ℕ, suc, ◌≤◌}
use native.Mathlib.Omega.{arith}
use mathlib.Core.Path.{◌≡◌, refl, ap, ◌∙◌}
use mathlib.Core.Bool.{Bool, true, false, not, ◌&&◌, cond}
use mathlib.Core.List.Memᴰ.{head as here}
use mathlib.Core.List.Memᴰ.{tail as later}
use mathlib.Core.List.{List, [], ◌∷◌, ◌++◌, Memᴰ as Mem}
use lib.ListN.{length, get_or, drop, drop_of_length-le}
use lib.Seq.{drop-cons}
use lib.Dec.{eqb}
use Rattle.definitions.specs.Location.{Location, normal}
use Rattle.definitions.proofs.Order.{mem_normal, normal_mem, sorted_normal, same_lists}
use Rattle.definitions.proofs.Views.{Eq, eq}
use Rattle.trie.specs.Build.{Entry, in_prefixes, in_chunks, in_suffixes, gather, lists_of, behind_byte, behind}
use Rattle.tails.specs.Tails.{Tail}
use Rattle.tails.specs.Groups.{locations_of, ends_as, run, after_run, wholes, byte_at, below, group_lists}
use Rattle.tails.specs.Runs.{Run}
use Rattle.tails.proofs.Keep.{keep, SameTails, same_keep, wholes_keep}
use Rattle.tails.proofs.Runs.{longer, goes, parts_here, wholes_here, below_here}

-- the entries of tails, their paths from depth d on
abbrev pub entries_from : ℕ → List Tail → List Entry
entries_from d [] = []
entries_from d (t ∷ ts) = record { path = drop d t.entry.path; at = t.entry.at; whole = t.entry.whole } ∷ entries_from d ts

-- no tail ends above depth d
abbrev pub Long : ℕ → List Tail → Type 0
Long d ts = (t : Tail) → Mem t ts → d ≤ length t.entry.path

-- whether the path ends at d, and what stands there else
abbrev pub Front : Bool → ℕ → List ℕ → Type 0
Front true d path = drop d path ≡ []
Front false d path = drop d path ≡ get_or path d 0 ∷ drop (suc d) path

pub front : (d : ℕ) (path : List ℕ) → d ≤ length path → Front (eqb (length path) d) d path
front d path h = go (eqb (length path) d) (eq (length path) d)
  where
    go : (o : Bool) → Eq o (length path) d → Front o d path
    go true e = drop_of_length-le path {i = d} (omega arith)
    go false e = drop-cons path d 0 (omega arith)

-- ── lists ──

pub gather_parts : (d : ℕ) (ts : List Tail) → Long d ts → gather in_prefixes (entries_from d ts) ≡ locations_of (keep (ends_as d false) ts)
gather_parts d [] l = refl
gather_parts d (t ∷ ts) l = go (eqb (length t.entry.path) d) (front d t.entry.path (l t (here refl))) t.entry.whole (gather_parts d ts (λ s m. l s (later m)))
  where
    go : (o : Bool) → Front o d t.entry.path → (w : Bool) → gather in_prefixes (entries_from d ts) ≡ locations_of (keep (ends_as d false) ts)
        → in_prefixes (drop d t.entry.path) w t.entry.at ++ gather in_prefixes (entries_from d ts) ≡ locations_of (cond (o && not w) (t ∷ keep (ends_as d false) ts) (keep (ends_as d false) ts))
    go true e true ih = rw e ih
    go true e false ih = rw (e, ih)
    go false e w ih = rw e ih

pub gather_wholes : (d : ℕ) (ts : List Tail) → Long d ts → gather in_chunks (entries_from d ts) ≡ locations_of (keep (ends_as d true) ts)
gather_wholes d [] l = refl
gather_wholes d (t ∷ ts) l = go (eqb (length t.entry.path) d) (front d t.entry.path (l t (here refl))) t.entry.whole (gather_wholes d ts (λ s m. l s (later m)))
  where
    go : (o : Bool) → Front o d t.entry.path → (w : Bool) → gather in_chunks (entries_from d ts) ≡ locations_of (keep (ends_as d true) ts)
        → in_chunks (drop d t.entry.path) w t.entry.at ++ gather in_chunks (entries_from d ts) ≡ locations_of (cond (o && w) (t ∷ keep (ends_as d true) ts) (keep (ends_as d true) ts))
    go true e true ih = rw (e, ih)
    go true e false ih = rw e ih
    go false e w ih = rw e ih

pub gather_below : (d : ℕ) (ts : List Tail) → Long d ts → gather in_suffixes (entries_from d ts) ≡ locations_of (wholes (keep (longer d) ts))
gather_below d [] l = refl
gather_below d (t ∷ ts) l = go (eqb (length t.entry.path) d) (front d t.entry.path (l t (here refl))) t.entry.whole refl (gather_below d ts (λ s m. l s (later m)))
  where
    go : (o : Bool) → Front o d t.entry.path → (w : Bool) → t.entry.whole ≡ w → gather in_suffixes (entries_from d ts) ≡ locations_of (wholes (keep (longer d) ts))
        → in_suffixes (drop d t.entry.path) w t.entry.at ++ gather in_suffixes (entries_from d ts) ≡ locations_of (wholes (cond (not o) (t ∷ keep (longer d) ts) (keep (longer d) ts)))
    go true e w p ih = rw e ih
    go false e true p ih = rw (e, ih, p)
    go false e false p ih = rw (e, p) ih

-- ── the same tails give the same lists ──

location_mem : {l : Location} (ts : List Tail) → Mem l (locations_of ts) → (t : Tail) × Mem t ts × (l ≡ t.entry.at)
location_mem {l = l} [] x' = elim x' [ ]
location_mem (t ∷ ts) (here e) = (t, here refl, e)
location_mem {l} (t ∷ ts) (later m) = on (location_mem ts m)
  where
    on : (s : Tail) × Mem s ts × (l ≡ s.entry.at) → (s : Tail) × Mem s (t ∷ ts) × (l ≡ s.entry.at)
    on k = (k.0, later k.1, k.2)

mem_location : {l : Location} (ts : List Tail) (t : Tail) → Mem t ts → l ≡ t.entry.at → Mem l (locations_of ts)
mem_location {l = l} [] t x'' f = elim x'' [ ]
mem_location (s ∷ ts) t (here e) f = here (f ∙ ap (λ (x : Tail). x.entry.at) e)
mem_location (s ∷ ts) t (later m) f = later (mem_location ts t m f)

normal_same : (ts us : List Tail) → SameTails ts us → normal (locations_of ts) ≡ normal (locations_of us)
normal_same ts us s =
    same_lists (normal (locations_of ts)) (normal (locations_of us)) (sorted_normal (locations_of ts)) (sorted_normal (locations_of us)) (λ l m. mem_normal (locations_of us) (to l (location_mem ts (normal_mem (locations_of ts) m)))) (λ l m. mem_normal (locations_of ts) (fro l (location_mem us (normal_mem (locations_of us) m))))
  where
    to : (l : Location) → (t : Tail) × Mem t ts × (l ≡ t.entry.at) → Mem l (locations_of us)
    to l k = mem_location us k.0 (s.to k.0 k.1) k.2

    fro : (l : Location) → (t : Tail) × Mem t us × (l ≡ t.entry.at) → Mem l (locations_of ts)
    fro l k = mem_location ts k.0 (s.fro k.0 k.1) k.2

same_wholes : (ts us : List Tail) → SameTails ts us → SameTails (wholes ts) (wholes us)
same_wholes ts us s = rw (wholes_keep ts, wholes_keep us) (same_keep (λ t. t.entry.whole) ts us s)

-- the lists of sorted tails are those of the same tails in any order
pub lists_same : (d : ℕ) (ts us : List Tail) → Run d ts → SameTails ts us → group_lists d ts ≡ lists_of (entries_from d us)
lists_same d ts us r s = λ i. record { prefixes = p i; chunks = c i; suffixes = x i }
  where
    long : Long d us
    long t m = r.long t (s.fro t m)

    p : normal (locations_of (run (ends_as d false) ts)) ≡ normal (gather in_prefixes (entries_from d us))
    p = rw (parts_here d ts r, gather_parts d us long) (normal_same (keep (ends_as d false) ts) (keep (ends_as d false) us) (same_keep (ends_as d false) ts us s))

    c : normal (locations_of (run (ends_as d true) (after_run (ends_as d false) ts))) ≡ normal (gather in_chunks (entries_from d us))
    c = rw (wholes_here d ts r, gather_wholes d us long) (normal_same (keep (ends_as d true) ts) (keep (ends_as d true) us) (same_keep (ends_as d true) ts us s))

    x : normal (locations_of (wholes (below d ts))) ≡ normal (gather in_suffixes (entries_from d us))
    x = rw (below_here d ts r, gather_below d us long) (normal_same (wholes (keep (longer d) ts)) (wholes (keep (longer d) us)) (same_wholes (keep (longer d) ts) (keep (longer d) us) (same_keep (longer d) ts us s)))

-- ── behind a byte ──

pub behind_from : (d b : ℕ) (ts : List Tail) → Long d ts → behind b (entries_from d ts) ≡ entries_from (suc d) (keep (goes d b) ts)
behind_from d b [] l = refl
behind_from d b (t ∷ ts) l = go (eqb (length t.entry.path) d) (front d t.entry.path (l t (here refl))) (behind_from d b ts (λ s m. l s (later m)))
  where
    deeper : Entry
    deeper = record { path = drop (suc d) t.entry.path; at = t.entry.at; whole = t.entry.whole }

    this : Entry
    this = record { path = drop d t.entry.path; at = t.entry.at; whole = t.entry.whole }

    byte : (o : Bool) → behind b (entries_from d ts) ≡ entries_from (suc d) (keep (goes d b) ts)
        → cond o (deeper ∷ []) [] ++ behind b (entries_from d ts) ≡ entries_from (suc d) (cond o (t ∷ keep (goes d b) ts) (keep (goes d b) ts))
    byte true ih = rw ih
    byte false ih = ih

    go : (o : Bool) → Front o d t.entry.path → behind b (entries_from d ts) ≡ entries_from (suc d) (keep (goes d b) ts)
        → behind_byte b (drop d t.entry.path) this ++ behind b (entries_from d ts) ≡ entries_from (suc d) (cond (not o && eqb (byte_at d t) b) (t ∷ keep (goes d b) ts) (keep (goes d b) ts))
    go true e ih = ap (λ (u : List ℕ). behind_byte b u this ++ behind b (entries_from d ts)) e ∙ ih
    go false e ih = ap (λ (u : List ℕ). behind_byte b u this ++ behind b (entries_from d ts)) e ∙ byte (eqb (byte_at d t) b) ih

-- The lists that the trie of a log holds at a path, member by member. Assumes nothing.
use Prim.Native.Nat.{ℕ, ◌≤◌, ◌<◌}
use native.Mathlib.Nat.{not-suc-le-zero}
use native.Mathlib.Omega.{arith}
use mathlib.Core.Path.{◌≡◌, refl, sym, ap, ◌∙◌, subst}
use mathlib.Core.Bool.{Bool, true, false}
use mathlib.Core.Logic.{◌⊎◌, inl, inr, ◌↔◌}
use mathlib.Core.List.Memᴰ.{append_cases}
use mathlib.Core.List.Memᴰ.{append_left}
use mathlib.Core.List.Memᴰ.{append_right}
use mathlib.Core.List.Memᴰ.{cast}
use mathlib.Core.List.Memᴰ.{eq_of_singleton as only_one}
use mathlib.Core.List.Memᴰ.{head as here}
use mathlib.Core.List.Memᴰ.{not-nil}
use mathlib.Core.List.Memᴰ.{tail as later}
use mathlib.Core.List.{List, [], ◌∷◌, ◌++◌, append-nil, Memᴰ as Mem}
use lib.ListN.{length, length-append}
use Rattle.std.proofs.lemmas.Bool.{cases_lt}
use Rattle.definitions.specs.Location.{Location}
use Rattle.definitions.proofs.Order.{mem_normal, normal_mem, sorted_normal}
use Rattle.trie.specs.Trie.{Lists, lists_or_none, lists_at}
use Rattle.trie.specs.Rule.{ListsSorted}
use Rattle.trie.specs.Build.{Entry, in_prefixes, in_chunks, in_suffixes, gather, lists_of, build}
use Rattle.trie.proofs.Walk.{in_chunks_node}
use Rattle.trie.proofs.BuildPaths.{entry_of, entry_path, put, down, down_mem, mem_down, node_at_deep, node_short, lists_at_build}

-- ── from what is entered at a node or below it ──

-- the entry that put l into the list
record Source (f : List ℕ → Bool → Location → List Location) (es : List Entry) (l : Location) : Type 0 where
  entry : Entry
  listed : Mem entry es
  gives : Mem l (f entry.path entry.whole entry.at)

gather_mem : {l : Location} (f : List ℕ → Bool → Location → List Location) (es : List Entry) → Mem l (gather f es) → Source f es l
gather_mem {l = l} f [] h = elim h [ ]
gather_mem {l} f (e ∷ es) h = go (gather_mem f es) (append_cases (f e.path e.whole e.at) h)
  where
    on : Source f es l → Source f (e ∷ es) l
    on s = record { entry = s.entry; listed = later s.listed; gives = s.gives }

    go : (Mem l (gather f es) → Source f es l) → Mem l (f e.path e.whole e.at) ⊎ Mem l (gather f es) → Source f (e ∷ es) l
    go ih (inl k) = record { entry = e; listed = here refl; gives = k }
    go ih (inr k) = on (ih k)

mem_gather : {l : Location} (f : List ℕ → Bool → Location → List Location) (es : List Entry) (e : Entry) → Mem e es → Mem l (f e.path e.whole e.at) → Mem l (gather f es)
mem_gather {l = l} f [] e x'' h = elim x'' [ ]
mem_gather {l} f (x ∷ es) e (here k) h = append_left (gather f es) (subst (λ (y : Entry). Mem l (f y.path y.whole y.at)) k h)
mem_gather f (x ∷ es) e (later k) h = append_right (f x.path x.whole x.at) (mem_gather f es e k h)

prefixes_gathered : {l : Location} (es : List Entry) → Mem l (gather in_prefixes es) ↔ Mem (entry_of [] l false) es
prefixes_gathered {l} es = (λ h. to (gather_mem in_prefixes es h), λ h. mem_gather in_prefixes es (entry_of [] l false) h (here refl))
  where
    one : (path : List ℕ) (w : Bool) (k : Location) → Mem l (in_prefixes path w k) → entry_of [] l false ≡ entry_of path k w
    one [] false k h = entry_path refl (only_one h) refl
    one [] true k h = absurd (not-nil h)
    one (b ∷ path) w k h = absurd (not-nil h)

    to : Source in_prefixes es l → Mem (entry_of [] l false) es
    to s = cast (one s.entry.path s.entry.whole s.entry.at s.gives) s.listed

chunks_gathered : {l : Location} (es : List Entry) → Mem l (gather in_chunks es) ↔ Mem (entry_of [] l true) es
chunks_gathered {l} es = (λ h. to (gather_mem in_chunks es h), λ h. mem_gather in_chunks es (entry_of [] l true) h (here refl))
  where
    one : (path : List ℕ) (w : Bool) (k : Location) → Mem l (in_chunks path w k) → entry_of [] l true ≡ entry_of path k w
    one [] true k h = entry_path refl (only_one h) refl
    one [] false k h = absurd (not-nil h)
    one (b ∷ path) w k h = absurd (not-nil h)

    to : Source in_chunks es l → Mem (entry_of [] l true) es
    to s = cast (one s.entry.path s.entry.whole s.entry.at s.gives) s.listed

-- a chunk at a path is entered whole there, however deep the trie is
pub chunk_entered : (d : ℕ) (es : List Entry) (u : List ℕ) (l : Location) → Mem l (lists_at (build d es) u).chunks → Mem (entry_of u l true) es
chunk_entered d es u l h =
    let short : length u ≤ d = node_short d u es (in_chunks_node (build d es) u h) in
    let k : Mem l (lists_of (down u es)).chunks = subst (λ (x : Lists). Mem l x.chunks) (lists_at_build d u es short) h in
    cast (entry_path (sym (append-nil u)) refl refl) (down_mem u es ((chunks_gathered (down u es)).0 (normal_mem (gather in_chunks (down u es)) k)))

-- a whole piece at l goes on below u
pub record Below (es : List Entry) (u : List ℕ) (l : Location) : Type 0 where
  pub rest : List ℕ
  pub some : 0 < length rest
  pub listed : Mem (entry_of (u ++ rest) l true) es

suffixes_gathered : {l : Location} (es : List Entry) → Mem l (gather in_suffixes es) ↔ Below es [] l
suffixes_gathered {l} es = (λ h. to (gather_mem in_suffixes es h), λ b. fro b.rest b.some b.listed)
  where
    one : (path : List ℕ) (w : Bool) (k : Location) → Mem l (in_suffixes path w k) → (0 < length path) × (entry_of path l true ≡ entry_of path k w)
    one [] w k h = absurd (not-nil h)
    one (b ∷ path) true k h = (omega arith, entry_path refl (only_one h) refl)
    one (b ∷ path) false k h = absurd (not-nil h)

    to : Source in_suffixes es l → Below es [] l
    to s =
        let k : (0 < length s.entry.path) × (entry_of s.entry.path l true ≡ entry_of s.entry.path s.entry.at s.entry.whole) = one s.entry.path s.entry.whole s.entry.at s.gives in
        record { rest = s.entry.path; some = k.0; listed = cast k.1 s.listed }

    fro : (rest : List ℕ) → 0 < length rest → Mem (entry_of rest l true) es → Mem l (gather in_suffixes es)
    fro [] n h = absurd (not-suc-le-zero n)
    fro (b ∷ rest) n h = mem_gather in_suffixes es (entry_of (b ∷ rest) l true) h (here refl)

-- ── at a path ──

-- no entry's path is longer than d
abbrev pub Within : ℕ → List Entry → Type 0
Within d es = (e : Entry) → Mem e es → length e.path ≤ d

none_left : (xs : List Entry) → ((x : Entry) → Mem x xs → ⊥) → xs ≡ []
none_left [] n = refl
none_left (x ∷ xs) n = absurd (n x (here refl))

module _ (d : ℕ) (es : List Entry) (within : Within d es) where
  too_deep : (u : List ℕ) → d < length u → down u es ≡ []
  too_deep u h = none_left (down u es) (λ x k. omega (arith, within (put u x) (down_mem u es k), length-append u x.path))

  pub lists_at_all : (u : List ℕ) → lists_at (build d es) u ≡ lists_of (down u es)
  lists_at_all u = go (cases_lt d (length u))
    where
      go : (d < length u) ⊎ (length u ≤ d) → lists_at (build d es) u ≡ lists_of (down u es)
      go (inl h) = ap lists_or_none (node_at_deep d u es h) ∙ ap lists_of (sym (too_deep u h))
      go (inr h) = lists_at_build d u es h

  -- an entry of these bytes, from what goes on at its end
  ends_here : (u : List ℕ) (l : Location) (w : Bool) → Mem (entry_of [] l w) (down u es) ↔ Mem (entry_of u l w) es
  ends_here u l w =
      let e : entry_of u l w ≡ put u (entry_of [] l w) = entry_path (sym (append-nil u)) refl refl in
      (λ h. cast e (down_mem u es h), λ h. mem_down u es (cast (sym e) h))

  pub prefixes_at : (u : List ℕ) (l : Location) → Mem l (lists_at (build d es) u).prefixes ↔ Mem (entry_of u l false) es
  prefixes_at u l = (
    λ h. (ends_here u l false).0 ((prefixes_gathered (down u es)).0 (normal_mem (gather in_prefixes (down u es)) (subst (λ (x : Lists). Mem l x.prefixes) (lists_at_all u) h))),
    λ h. subst (λ (x : Lists). Mem l x.prefixes) (sym (lists_at_all u)) (mem_normal (gather in_prefixes (down u es)) ((prefixes_gathered (down u es)).1 ((ends_here u l false).1 h))),
  )

  pub chunks_at : (u : List ℕ) (l : Location) → Mem l (lists_at (build d es) u).chunks ↔ Mem (entry_of u l true) es
  chunks_at u l = (
    chunk_entered d es u l,
    λ h. subst (λ (x : Lists). Mem l x.chunks) (sym (lists_at_all u)) (mem_normal (gather in_chunks (down u es)) ((chunks_gathered (down u es)).1 ((ends_here u l true).1 h))),
  )

  below_here : (u : List ℕ) (l : Location) → Below (down u es) [] l ↔ Below es u l
  below_here u l = (
    λ b. record { rest = b.rest; some = b.some; listed = down_mem u es b.listed },
    λ b. record { rest = b.rest; some = b.some; listed = mem_down u es b.listed },
  )

  pub suffixes_at : (u : List ℕ) (l : Location) → Mem l (lists_at (build d es) u).suffixes ↔ Below es u l
  suffixes_at u l = (
    λ h. (below_here u l).0 ((suffixes_gathered (down u es)).0 (normal_mem (gather in_suffixes (down u es)) (subst (λ (x : Lists). Mem l x.suffixes) (lists_at_all u) h))),
    λ h. subst (λ (x : Lists). Mem l x.suffixes) (sym (lists_at_all u)) (mem_normal (gather in_suffixes (down u es)) ((suffixes_gathered (down u es)).1 ((below_here u l).1 h))),
  )

  lists_sorted : (xs : List Entry) → ListsSorted (lists_of xs)
  lists_sorted xs = record { prefixes = sorted_normal (gather in_prefixes xs); chunks = sorted_normal (gather in_chunks xs); suffixes = sorted_normal (gather in_suffixes xs) }

  pub sorted_at : (u : List ℕ) → ListsSorted (lists_at (build d es) u)
  sorted_at u = subst ListsSorted (sym (lists_at_all u)) (lists_sorted (down u es))

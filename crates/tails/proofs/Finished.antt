-- A log's trie is the node of its sorted tails, and such sorted tails exist. Assumes nothing.
use Prim.Native.Nat.{ℕ, ◌<◌}
use native.Mathlib.Nat.{not-suc-le-zero}
use native.Mathlib.Omega.{arith}
use mathlib.Core.Path.{◌≡◌, refl, sym, ap, ◌∙◌, subst}
use mathlib.Core.Bool.{Bool, true, false, cond}
use mathlib.Core.Logic.{◌⊎◌, inl, inr}
use mathlib.Core.List.Memᴰ.{cases_cons as split}
use mathlib.Core.List.Memᴰ.{head as here}
use mathlib.Core.List.Memᴰ.{tail as later}
use mathlib.Core.List.{List, [], ◌∷◌, Memᴰ as Mem}
use lib.ListN.{length, drop, length-drop}
use Rattle.records.specs.Records.{lex_lt, insert, sorted, Ordered}
use Rattle.records.proofs.Lists.{sorted_ordered}
use Rattle.definitions.specs.Location.{Location}
use Rattle.definitions.specs.Blocks.{Piece}
use Rattle.trie.proofs.Placed.{behind_mem}
use Rattle.trie.specs.Trie.{root}
use Rattle.trie.specs.Build.{entered_all, trie_of}
use Rattle.trie.proofs.BuildEntered.{as_piece, EnteredBy, entered_mem}
use Rattle.trie.proofs.BuildOrder.{mem_drop}
use Rattle.tails.specs.Tails.{Tail, numbered, tail_record, tail_records}
use Rattle.tails.specs.Groups.{group_node}
use Rattle.tails.specs.Runs.{SoundPath}
use Rattle.tails.proofs.Keep.{SameTails}
use Rattle.tails.proofs.Grouped.{SoundEntries, grouped}

-- ── what sound pieces enter ──

-- every piece has at most 16 bytes
abbrev pub SoundPieces : List Piece → Type 0
SoundPieces ps = (p : Piece) → Mem p ps → SoundPath p.bytes

sound_drop : (i : ℕ) (bs : List ℕ) → SoundPath bs → SoundPath (drop i bs)
sound_drop i bs s = record { short = omega (arith, s.short, length-drop i bs); bytes = λ b m. s.bytes b (mem_drop i bs m) }

pub sound_entered : (ps : List Piece) → SoundPieces ps → SoundEntries (entered_all ps)
sound_entered ps s e m = go e.whole e.path e.at ((entered_mem ps e).0 m)
  where
    go : (w : Bool) (u : List ℕ) (l : Location) → EnteredBy ps w u l → SoundPath u
    go true u l h = s (as_piece u l) h
    go false u l h = subst SoundPath h.there (sound_drop h.i h.piece.bytes (s h.piece h.listed))

-- ── the trie of a log ──

pub finished_node : (ps : List Piece) → 0 < length ps → SoundPieces ps → (ts : List Tail) → tail_records ts ≡ sorted (tail_records (numbered 0 (entered_all ps)))
    → SameTails ts (numbered 0 (entered_all ps)) → root (group_node 16 0 ts) ≡ trie_of ps
finished_node [] l s ts e k = absurd (not-suc-le-zero l)
finished_node (p ∷ ps) l s ts e k =
    let o : Ordered (tail_records ts) = subst Ordered (sym e) (sorted_ordered (tail_records (numbered 0 (entered_all (p ∷ ps))))) in
    ap root (grouped (entered_all (p ∷ ps)) ts (sound_entered (p ∷ ps) s) o k)

-- ── sorted tails ──

abbrev pub insert_tail : Tail → List Tail → List Tail
insert_tail t [] = t ∷ []
insert_tail t (s ∷ ss) = cond (lex_lt (tail_record s) (tail_record t)) (s ∷ insert_tail t ss) (t ∷ s ∷ ss)

abbrev pub sort_tails : List Tail → List Tail
sort_tails [] = []
sort_tails (t ∷ ts) = insert_tail t (sort_tails ts)

insert_records : (t : Tail) (ss : List Tail) → tail_records (insert_tail t ss) ≡ insert (tail_record t) (tail_records ss)
unfolding insert
insert_records t [] = refl
insert_records t (s ∷ ss) = go (lex_lt (tail_record s) (tail_record t)) (insert_records t ss)
  where
    go : (o : Bool) → tail_records (insert_tail t ss) ≡ insert (tail_record t) (tail_records ss)
        → tail_records (cond o (s ∷ insert_tail t ss) (t ∷ s ∷ ss)) ≡ cond o (tail_record s ∷ insert (tail_record t) (tail_records ss)) (tail_record t ∷ tail_record s ∷ tail_records ss)
    go true ih = ap (λ (x : List (List ℕ)). tail_record s ∷ x) ih
    go false ih = refl

sort_records : (ts : List Tail) → tail_records (sort_tails ts) ≡ sorted (tail_records ts)
unfolding sorted
sort_records [] = refl
sort_records (t ∷ ts) = insert_records t (sort_tails ts) ∙ ap (insert (tail_record t)) (sort_records ts)

insert_mem : {x : Tail} (t : Tail) (ss : List Tail) → Mem x (insert_tail t ss) → (x ≡ t) ⊎ Mem x ss
insert_mem t [] m = split m
insert_mem {x} t (s ∷ ss) m = go (lex_lt (tail_record s) (tail_record t)) (insert_mem t ss) m
  where
    go : (o : Bool) → (Mem x (insert_tail t ss) → (x ≡ t) ⊎ Mem x ss) → Mem x (cond o (s ∷ insert_tail t ss) (t ∷ s ∷ ss)) → (x ≡ t) ⊎ Mem x (s ∷ ss)
    go true ih k = behind_mem ih k
    go false ih k = split k

mem_insert : {x : Tail} (t : Tail) (ss : List Tail) → (x ≡ t) ⊎ Mem x ss → Mem x (insert_tail t ss)
mem_insert t [] (inl e) = here e
mem_insert t [] (inr m) = later m
mem_insert {x} t (s ∷ ss) m = go (lex_lt (tail_record s) (tail_record t)) (mem_insert t ss) m
  where
    go : (o : Bool) → ((x ≡ t) ⊎ Mem x ss → Mem x (insert_tail t ss)) → (x ≡ t) ⊎ Mem x (s ∷ ss) → Mem x (cond o (s ∷ insert_tail t ss) (t ∷ s ∷ ss))
    go true ih (inl e) = later (ih (inl e))
    go true ih (inr (here e)) = here e
    go true ih (inr (later k)) = later (ih (inr k))
    go false ih (inl e) = here e
    go false ih (inr k) = later k

sort_mem : {x : Tail} (ts : List Tail) → Mem x (sort_tails ts) → Mem x ts
sort_mem {x = x} [] m = elim m [ ]
sort_mem {x} (t ∷ ts) m = go (sort_mem ts) (insert_mem t (sort_tails ts) m)
  where
    go : (Mem x (sort_tails ts) → Mem x ts) → (x ≡ t) ⊎ Mem x (sort_tails ts) → Mem x (t ∷ ts)
    go ih (inl e) = here e
    go ih (inr k) = later (ih k)

mem_sort : {x : Tail} (ts : List Tail) → Mem x ts → Mem x (sort_tails ts)
mem_sort [] x'' = elim x'' [ ]
mem_sort (t ∷ ts) (here e) = mem_insert t (sort_tails ts) (inl e)
mem_sort (t ∷ ts) (later m) = mem_insert t (sort_tails ts) (inr (mem_sort ts m))

-- tails with the sorted records of T, and no others than T's
pub sorted_tails : (T : List Tail) → (ts : List Tail) × (tail_records ts ≡ sorted (tail_records T)) × SameTails ts T
sorted_tails T = (sort_tails T, sort_records T, record { to = λ t m. sort_mem T m; fro = λ t m. mem_sort T m })

-- A walk along the query finds what the pieces one by one give, if it is handed what ends at a path and what goes beyond it.
-- Assumes nothing.
use Prim.Native.Nat.{ℕ, ◌+◌, ◌<◌}
use native.Mathlib.Omega.{arith}
use mathlib.Core.Path.{◌≡◌, refl, sym, ap, ◌∙◌, subst}
use mathlib.Core.Bool.{Bool, true, false, cond}
use mathlib.Core.Logic.{◌⊎◌, inl, inr, ◌↔◌}
use mathlib.Core.List.Memᴰ.{append_cases}
use mathlib.Core.List.Memᴰ.{append_left}
use mathlib.Core.List.Memᴰ.{append_right}
use mathlib.Core.List.Memᴰ.{eq_of_singleton as only_one}
use mathlib.Core.List.Memᴰ.{head as here}
use mathlib.Core.List.Memᴰ.{not-nil}
use mathlib.Core.List.Memᴰ.{tail as later}
use mathlib.Core.List.{List, [], ◌∷◌, ◌++◌, append-nil, Memᴰ as Mem}
use lib.ListN.{length, length-append}
use lib.Seq.{append_snoc}
use lib.Dec.{eqb}
use borrow.Author.Tests.{eq-eqb}
use Rattle.definitions.specs.Location.{Location, normal}
use Rattle.definitions.specs.Blocks.{Piece}
use Rattle.definitions.specs.Places.{joins, misses, first_of, rest_of, reach, extend, by_pieces}
use Rattle.definitions.proofs.Views.{Eq, eq}
use Rattle.definitions.proofs.Order.{mem_normal, normal_mem, sorted_normal, same_lists}
use Rattle.definitions.proofs.Joins.{ByPiece, by_pieces_mem, mem_by_pieces}
use Rattle.trie.specs.Find.{joins_each, along}

-- sorted lists of the same members, each once, are equal
pub normal_same : (ls ms : List Location) → ((x : Location) → Mem x ls → Mem x ms) → ((x : Location) → Mem x ms → Mem x ls) → normal ls ≡ normal ms
normal_same ls ms f g = same_lists (normal ls) (normal ms) (sorted_normal ls) (sorted_normal ms) (λ x h. mem_normal ms (f x (normal_mem ls h))) (λ x h. mem_normal ls (g x (normal_mem ms h)))

-- ── what ends at a path, and what goes beyond it ──

-- x is the location of a piece whose bytes are the path
pub record Ended (ps : List Piece) (path : List ℕ) (x : Location) : Type 0 where
  pub piece : Piece
  pub listed : Mem piece ps
  pub bytes : path ≡ piece.bytes
  pub is : x ≡ piece.at

-- x is the location of a piece whose bytes begin with the path
pub record Beyond (ps : List Piece) (path : List ℕ) (x : Location) : Type 0 where
  pub piece : Piece
  pub listed : Mem piece ps
  pub more : List ℕ
  pub bytes : piece.bytes ≡ path ++ more
  pub is : x ≡ piece.at

joins_each_mem : {x : Location} (n : ℕ) (ls ms : List Location) → Mem x (joins_each n ls ms) → (l : Location) × Mem l ls × Mem x (joins l (l.address + n) ms)
joins_each_mem {x = x} n [] ms h = elim h [ ]
joins_each_mem {x} n (l ∷ ls) ms h = go (joins_each_mem n ls ms) (append_cases (joins l (l.address + n) ms) h)
  where
    Found : List Location → Type 0
    Found ks = (k : Location) × Mem k ks × Mem x (joins k (k.address + n) ms)

    go : (Mem x (joins_each n ls ms) → Found ls) → Mem x (joins l (l.address + n) ms) ⊎ Mem x (joins_each n ls ms) → Found (l ∷ ls)
    go ih (inl k) = (l, here refl, k)
    go ih (inr k) = let f = ih k in (f.0, later f.1, f.2)

mem_joins_each : {x : Location} (n : ℕ) (ls ms : List Location) (l : Location) → Mem l ls → Mem x (joins l (l.address + n) ms) → Mem x (joins_each n ls ms)
mem_joins_each {x = x} n [] ms l x3 h = elim x3 [ ]
mem_joins_each {x} n (k ∷ ls) ms l (here e) h = append_left (joins_each n ls ms) (subst (λ (y : Location). Mem x (joins y (y.address + n) ms)) e h)
mem_joins_each n (k ∷ ls) ms l (later m) h = append_right (joins k (k.address + n) ms) (mem_joins_each n ls ms l m h)

-- ── along the query ──

-- the lists handed in are those of the pieces, behind the path that is gone already
module _ (ps : List Piece) (ended beyond : List ℕ → List Location) (at_end : (path : List ℕ) → 0 < length path → (x : Location) → Mem x (ended path) ↔ Ended ps path x) (past_end : (path : List ℕ) → 0 < length path → (x : Location) → Mem x (beyond path) ↔ Beyond ps path x) where
  record Along (path q : List ℕ) (ts : List (List Location)) (x : Location) : Type 0 where
    piece : Piece
    listed : Mem piece ps
    rest : List ℕ
    bytes : piece.bytes ≡ path ++ rest
    by : Mem x (extend piece.at (piece.at.address + length piece.bytes) (reach rest q ts))

  along_mem : {x : Location} (q path : List ℕ) (ts : List (List Location)) → 0 < length path → Mem x (along ended beyond path q ts) → Along path q ts x
  along_mem {x} [] path ts n h = go ((past_end path n x).0 h)
    where
      go : Beyond ps path x → Along path [] ts x
      go a = record { piece = a.piece; listed = a.listed; rest = a.more; bytes = a.bytes; by = here a.is }
  along_mem {x} (b ∷ q) path ts n h = go (along_mem q (path ++ (b ∷ [])) (rest_of ts) (omega (arith, length-append path (b ∷ [])))) (append_cases (joins_each (length path) (ended path) (first_of ts)) h)
    where
      near : (l : Location) → Ended ps path l → Mem x (joins l (l.address + length path) (first_of ts)) → Along path (b ∷ q) ts x
      near l e k = record {
        piece = e.piece;
        listed = e.listed;
        rest = [];
        bytes = sym e.bytes ∙ sym (append-nil path);
        by = subst (λ (m : ℕ). Mem x (joins e.piece.at (e.piece.at.address + m) (first_of ts))) (ap length e.bytes) (subst (λ (y : Location). Mem x (joins y (y.address + length path) (first_of ts))) e.is k);
      }

      far : Along (path ++ (b ∷ [])) q (rest_of ts) x → Along path (b ∷ q) ts x
      far w = record { piece = w.piece; listed = w.listed; rest = b ∷ w.rest; bytes = w.bytes ∙ append_snoc path b w.rest; by = rw (eq-eqb b b refl) w.by }

      go : (Mem x (along ended beyond (path ++ (b ∷ [])) q (rest_of ts)) → Along (path ++ (b ∷ [])) q (rest_of ts) x) → Mem x (joins_each (length path) (ended path) (first_of ts)) ⊎ Mem x (along ended beyond (path ++ (b ∷ [])) q (rest_of ts)) → Along path (b ∷ q) ts x
      go ih (inl k) = let j = joins_each_mem (length path) (ended path) (first_of ts) k in near j.0 ((at_end path n j.0).0 j.1) j.2
      go ih (inr k) = far (ih k)

  mem_along : {x : Location} (q path : List ℕ) (ts : List (List Location)) → 0 < length path → (p : Piece) → Mem p ps → (rest : List ℕ) → p.bytes ≡ path ++ rest → Mem x (extend p.at (p.at.address + length p.bytes) (reach rest q ts)) → Mem x (along ended beyond path q ts)
  mem_along {x} [] path ts n p m rest e h = (past_end path n x).1 (record { piece = p; listed = m; more = rest; bytes = e; is = only_one h })
  mem_along {x} (b ∷ q) path ts n p m [] e h =
      let f : path ≡ p.bytes = sym (e ∙ append-nil path) in
      append_left (along ended beyond (path ++ (b ∷ [])) q (rest_of ts)) (mem_joins_each (length path) (ended path) (first_of ts) p.at ((at_end path n p.at).1 (record { piece = p; listed = m; bytes = f; is = refl }))
      (subst (λ (k : ℕ). Mem x (joins p.at (p.at.address + k) (first_of ts))) (sym (ap length f)) h))
  mem_along {x} (b ∷ q) path ts n p m (c ∷ rest) e h = append_right (joins_each (length path) (ended path) (first_of ts)) (go (eqb c b) (eq c b) (mem_along q (path ++ (b ∷ [])) (rest_of ts) (omega (arith, length-append path (b ∷ []))) p m rest) h)
    where
      go : (o : Bool) → Eq o c b → (p.bytes ≡ path ++ (b ∷ []) ++ rest → Mem x (extend p.at (p.at.address + length p.bytes) (reach rest q (rest_of ts))) → Mem x (along ended beyond (path ++ (b ∷ [])) q (rest_of ts))) → Mem x (extend p.at (p.at.address + length p.bytes) (cond o (reach rest q (rest_of ts)) misses)) → Mem x (along ended beyond (path ++ (b ∷ [])) q (rest_of ts))
      go true v ih h = ih (e ∙ ap (λ (d : ℕ). path ++ (d ∷ rest)) v ∙ sym (append_snoc path b rest)) h
      go false v ih h = absurd (not-nil h)

  -- nothing is joined at the root: the places of the whole query are not there yet
  none_joined : {x : Location} (n : ℕ) (ls : List Location) → Mem x (joins_each n ls []) → ⊥
  none_joined n [] h = elim h [ ]
  none_joined n (l ∷ ls) h = none_joined n ls h

  from_root : {x : Location} (b : ℕ) (q : List ℕ) (ts : List (List Location)) → Mem x (along ended beyond [] (b ∷ q) ([] ∷ ts)) → Mem x (along ended beyond (b ∷ []) q ts)
  from_root {x} b q ts h = go (append_cases (joins_each 0 (ended []) []) h)
    where
      go : Mem x (joins_each 0 (ended []) []) ⊎ Mem x (along ended beyond (b ∷ []) q ts) → Mem x (along ended beyond (b ∷ []) q ts)
      go (inl k) = absurd (none_joined 0 (ended []) k)
      go (inr k) = k

  pub along_is : (b : ℕ) (q : List ℕ) (ts : List (List Location)) → normal (along ended beyond [] (b ∷ q) ([] ∷ ts)) ≡ normal (by_pieces ps (b ∷ q) ts)
  along_is b q ts = normal_same (along ended beyond [] (b ∷ q) ([] ∷ ts)) (by_pieces ps (b ∷ q) ts) (λ x h. to (along_mem q (b ∷ []) ts (omega arith) (from_root b q ts h))) (λ x h. fro (by_pieces_mem ps (b ∷ q) ts h))
    where
      to : {x : Location} → Along (b ∷ []) q ts x → Mem x (by_pieces ps (b ∷ q) ts)
      to {x} w =
          let h : Mem x (extend w.piece.at (w.piece.at.address + length w.piece.bytes) (reach (b ∷ w.rest) (b ∷ q) ([] ∷ ts))) = rw (eq-eqb b b refl) w.by in
          mem_by_pieces ps (b ∷ q) ts w.piece w.listed (subst (λ (cs : List ℕ). Mem x (extend w.piece.at (w.piece.at.address + length w.piece.bytes) (reach cs (b ∷ q) ([] ∷ ts)))) (sym w.bytes) h)

      fro : {x : Location} → ByPiece ps (b ∷ q) ts x → Mem x (along ended beyond [] (b ∷ q) ([] ∷ ts))
      fro {x} k = append_right (joins_each 0 (ended []) []) (go k.piece.bytes refl k.by)
        where
          go : (cs : List ℕ) → k.piece.bytes ≡ cs → Mem x (extend k.piece.at (k.piece.at.address + length k.piece.bytes) (reach cs (b ∷ q) ([] ∷ ts))) → Mem x (along ended beyond (b ∷ []) q ts)
          go [] e h = absurd (not-nil h)
          go (c ∷ cs) e h = pick (eqb c b) (eq c b) h
            where
              pick : (o : Bool) → Eq o c b → Mem x (extend k.piece.at (k.piece.at.address + length k.piece.bytes) (cond o (reach cs q ts) misses)) → Mem x (along ended beyond (b ∷ []) q ts)
              pick true v i = mem_along q (b ∷ []) ts (omega arith) k.piece k.listed cs (e ∙ ap (λ (d : ℕ). d ∷ cs) v) i
              pick false v i = absurd (not-nil i)

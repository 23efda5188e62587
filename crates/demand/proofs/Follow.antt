-- The memory follows the recording: after each call it holds what the definitions say was taken. Assumes nothing.
use Prim.Native.Nat.{ℕ}
use native.Mathlib.Omega.{arith}
use mathlib.Core.Path.{◌≡◌, refl, sym, ap, ◌∙◌, subst}
use mathlib.Core.Bool.{Bool, true, false, cond}
use mathlib.Core.Logic.{◌⊎◌, inl, inr}
use mathlib.Core.List.Memᴰ.{append_cases}
use mathlib.Core.List.Memᴰ.{eq_of_singleton as only_one}
use mathlib.Core.List.Memᴰ.{head as here}
use mathlib.Core.List.Memᴰ.{tail as later}
use mathlib.Core.List.{List, [], ◌∷◌, ◌++◌, Memᴰ as Mem}
use mathlib.Core.Option.{Option, none, some}
use lib.Dec.{ltb, eqb}
use Rattle.definitions.specs.Blocks.{Block, Piece, pieces, pieces_of, memory_kind, last_kind}
use Rattle.definitions.specs.Causes.{Cause, record_after_finish, unknown_kind, first_cause}
use Rattle.definitions.specs.Calls.{Capacity, Recorded, added, block_checks, record_answer, recorded, finished_now}
use Rattle.definitions.specs.Calls as D
use Rattle.definitions.specs.Recording.{Call, record_block, finish, search, after, after_all}
use Rattle.definitions.proofs.Cutting.{pieces_added}
use Rattle.definitions.proofs.Taken.{Right, right_after}
use Rattle.trie.specs.Build.{trie_of}
use Rattle.memory_header.specs.Opening.{unless_refused}
use Rattle.index_memory.specs.Index.{Index, opened, finished, read_index}
use Rattle.recording.specs.Record.{appended, record_by, record_memory}
use Rattle.finished_memory.specs.Finished.{finished_memory}
use Rattle.string_index.specs.Finish.{finish_by, finish_memory}
use Rattle.demand.specs.Demand.{memory_after, memory_after_all, Fits, CallFits}

-- what a memory holds after calls
abbrev pub holds : Capacity → Recorded → Index
holds c s = cond s.finished (finished c (trie_of (pieces_of s.blocks))) (opened c (pieces_of s.blocks))

-- the pieces of blocks that callers can hand in
abbrev pub AllFit : List Block → Type 0
AllFit bs = (b : Block) → Mem b bs → Fits b

module _ (c : Capacity)
    (read_appended : (m : List ℕ) (ps : List Piece) (b : Block) → read_index m ≡ opened c ps → first_cause (block_checks c ps b) ≡ none → Fits b → read_index (appended m c ps (pieces b)) ≡ opened c (ps ++ pieces b))
    (read_finished : (m : List ℕ) (s : Recorded) → Right c s → AllFit s.blocks → read_index m ≡ opened c (pieces_of s.blocks) → read_index (finished_memory m c (trie_of (pieces_of s.blocks))) ≡ finished c (trie_of (pieces_of s.blocks))) where
  -- a record call on an open index
  follow_open : (m : List ℕ) (s : Recorded) (kind : ℕ) (b : Block) → Fits b → s.finished ≡ false → read_index m ≡ opened c (pieces_of s.blocks) → read_index (record_by (opened c (pieces_of s.blocks)) m kind b).memory ≡ holds c (recorded c s kind b)
  follow_open m s kind b f o e = go s.finished (ltb last_kind kind) (eqb kind memory_kind) o (first_cause (block_checks c ps b)) refl
    where
      ps : List Piece
      ps = pieces_of s.blocks

      stay : read_index m ≡ holds c s
      stay = e ∙ sym (ap (λ (x : Bool). cond x (finished c (trie_of ps)) (opened c ps)) o)

      new : Recorded
      new = record { blocks = added s b; finished = s.finished }

      take : first_cause (block_checks c ps b) ≡ none → read_index (appended m c ps (pieces b)) ≡ holds c new
      take k =
          read_appended m ps b e k f ∙ ap (opened c) (sym (pieces_added s.blocks b))
          ∙ sym (ap (λ (x : Bool). cond x (finished c (trie_of (pieces_of (added s b)))) (opened c (pieces_of (added s b)))) o)

      -- the tests of both sides replaced by their answers
      go : (o₀ o₁ o₂ : Bool) → o₀ ≡ false → (a : Option Cause) → first_cause (block_checks c ps b) ≡ a
          → read_index (unless_refused (cond o₁ (some unknown_kind) (first_cause (cond o₂ (block_checks c ps b) []))) m (cond o₂ (appended m c ps (pieces b)) m)).memory
          ≡ holds c (D.unless_refused (cond o₀ (some record_after_finish) (cond o₁ (some unknown_kind) (first_cause (cond o₂ (block_checks c ps b) [])))) s (cond o₂ new s))
      go true o₁ o₂ k a q = absurd (let z : ◌≡◌ {A = ℕ} 0 1 = cc in omega arith)
      go false true o₂ k a q = stay
      go false false true k none q = rw q (take q)
      go false false true k (some x) q = rw q stay
      go false false false k a q = stay

  -- what is known between two calls
  pub record Follows (s : Recorded) (m : List ℕ) : Type 0 where
    pub right : Right c s
    pub fit : AllFit s.blocks
    pub holds_it : read_index m ≡ holds c s

  finished_is : (s : Recorded) → s.finished ≡ true → holds c s ≡ finished c (trie_of (pieces_of s.blocks))
  finished_is s e = ap (λ (x : Bool). cond x (finished c (trie_of (pieces_of s.blocks))) (opened c (pieces_of s.blocks))) e

  open_is : (s : Recorded) → s.finished ≡ false → holds c s ≡ opened c (pieces_of s.blocks)
  open_is s e = ap (λ (x : Bool). cond x (finished c (trie_of (pieces_of s.blocks))) (opened c (pieces_of s.blocks))) e

  -- a record call on a finished index changes nothing
  refused_finished : (s : Recorded) (kind : ℕ) (b : Block) → s.finished ≡ true → recorded c s kind b ≡ s
  refused_finished s kind b e = go s.finished e
    where
      go : (o : Bool) → o ≡ true → D.unless_refused (cond o (some record_after_finish) (first_cause (record { applies = ltb last_kind kind; cause = unknown_kind } ∷ cond (eqb kind memory_kind) (block_checks c (pieces_of s.blocks) b) []))) s (cond (eqb kind memory_kind) (record { blocks = added s b; finished = s.finished }) s) ≡ s
      go true k = refl
      go false k = absurd (let z : ◌≡◌ {A = ℕ} 0 1 = cc in omega arith)

  follow_record : (s : Recorded) (m : List ℕ) (kind : ℕ) (b : Block) → Fits b → Follows s m → read_index (record_memory m kind b).memory ≡ holds c (recorded c s kind b)
  unfolding record_memory
  follow_record s m kind b f w = go s.finished refl
    where
      go : (o : Bool) → s.finished ≡ o → read_index (record_by (read_index m) m kind b).memory ≡ holds c (recorded c s kind b)
      go true e =
          let i : read_index m ≡ finished c (trie_of (pieces_of s.blocks)) = w.holds_it ∙ finished_is s e in
          ap (λ (x : Index). read_index (record_by x m kind b).memory) i ∙ w.holds_it ∙ ap (holds c) (sym (refused_finished s kind b e))
      go false e =
          let i : read_index m ≡ opened c (pieces_of s.blocks) = w.holds_it ∙ open_is s e in
          ap (λ (x : Index). read_index (record_by x m kind b).memory) i ∙ follow_open m s kind b f e i

  follow_finish : (s : Recorded) (m : List ℕ) → Follows s m → read_index (finish_memory m).memory ≡ holds c (finished_now s)
  unfolding finish_memory
  follow_finish s m w = go s.finished refl
    where
      go : (o : Bool) → s.finished ≡ o → read_index (finish_by (read_index m) m).memory ≡ finished c (trie_of (pieces_of s.blocks))
      go true e =
          let i : read_index m ≡ finished c (trie_of (pieces_of s.blocks)) = w.holds_it ∙ finished_is s e in
          ap (λ (x : Index). read_index (finish_by x m).memory) i ∙ i
      go false e =
          let i : read_index m ≡ opened c (pieces_of s.blocks) = w.holds_it ∙ open_is s e in
          ap (λ (x : Index). read_index (finish_by x m).memory) i ∙ read_finished m s w.right w.fit i

  fit_recorded : (s : Recorded) (kind : ℕ) (b : Block) → Fits b → AllFit s.blocks → AllFit (recorded c s kind b).blocks
  fit_recorded s kind b f a = go (record_answer c s kind b) (eqb kind memory_kind)
    where
      more : (x : Block) → Mem x s.blocks ⊎ Mem x (b ∷ []) → Fits x
      more x (inl k) = a x k
      more x (inr k) = subst Fits (sym (only_one k)) f

      go : (r : Option Cause) (o : Bool) → AllFit (D.unless_refused r s (cond o (record { blocks = added s b; finished = s.finished }) s)).blocks
      go (some x) o = a
      go none true = λ x h. more x (append_cases s.blocks h)
      go none false = a

  follow : (s : Recorded) (m : List ℕ) (k : Call) → CallFits k → Follows s m → Follows (after c s k) (memory_after m k)
  follow s m (record_block kind b) f w = record { right = right_after c s (record_block kind b) w.right; fit = fit_recorded s kind b f w.fit; holds_it = follow_record s m kind b f w }
  follow s m finish f w = record { right = right_after c s finish w.right; fit = w.fit; holds_it = follow_finish s m w }
  follow s m (search q scratch room) f w = w

  pub follow_all : (s : Recorded) (m : List ℕ) (ks : List Call) → ((k : Call) → Mem k ks → CallFits k) → Follows s m → Follows (after_all c s ks) (memory_after_all m ks)
  follow_all s m [] f w = w
  follow_all s m (k ∷ ks) f w = follow_all (after c s k) (memory_after m k) ks (λ x h. f x (later h)) (follow s m k (f k (here refl)) w)

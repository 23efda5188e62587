-- Demand 3 holds. Assumes nothing.
use Prim.Native.Nat.{ℕ, ◌*◌, ◌/◌, ◌≤◌}
use native.Mathlib.Omega.{arith}
use mathlib.Core.Path.{◌≡◌, refl, sym, ap, ◌∙◌, subst}
use mathlib.Core.Bool.{Bool, true, false, cond}
use mathlib.Core.Logic.{◌⊎◌, inl, inr, ◌↔◌}
use mathlib.Core.List.Memᴰ.{not-nil}
use mathlib.Core.List.{List, [], ◌++◌, Memᴰ as Mem}
use mathlib.Core.Option.{Option, none, some}
use lib.ListN.{length, take, replicate, length-replicate}
use lib.Dec.{ltb}
use borrow.Author.Tests.{le-ltb}
use Rattle.definitions.specs.Location.{Location}
use Rattle.definitions.specs.Blocks.{Block, Piece, pieces, pieces_of}
use Rattle.definitions.specs.Places.{places_counted}
use Rattle.definitions.specs.Rows.{rows}
use Rattle.definitions.specs.Runs.{RowsAreRuns, SameRows, SameHeld}
use Rattle.definitions.specs.Causes.{Cause, number, scratch_too_small, too_many_rows, first_cause}
use Rattle.definitions.specs.Calls.{Capacity, Recorded, fresh, query_limit, block_checks, search_checks}
use Rattle.definitions.specs.Recording.{Sound, after_all}
use Rattle.definitions.proofs.Chains.{SamePieces, rows_by_set}
use Rattle.definitions.proofs.Checks.{none_refused}
use Rattle.definitions.proofs.Cutting.{FromBlock, pieces_mem}
use Rattle.definitions.proofs.Taken.{Right, finished_recording, taken_sound, taken_consistent, recording_rows, recordings_same}
use Rattle.trie.specs.Trie.{Trie, trie_pieces}
use Rattle.trie.specs.Build.{trie_of}
use Rattle.trie.proofs.BuildRule.{SoundPiece}
use Rattle.trie.proofs.BuildPieces.{trie_of_pieces}
use Rattle.memory_header.specs.Opening.{open_memory}
use Rattle.index_memory.specs.Index.{Index, opened, finished, standing_of, read_index}
use Rattle.recording.specs.Record.{appended}
use Rattle.rows.specs.declared.Row.{Row}
use Rattle.rows.specs.Rows.{rows_of, rows_over}
use Rattle.rows.proofs.Rows.{rows_fix, first_over}
use Rattle.finished_memory.specs.Finished.{finished_memory}
use Rattle.handing_over.specs.Search.{Found, found_or_refused, search_by, search_memory}
use Rattle.demand.specs.Demand.{Fits, Recording, final, taken_in, searched, HandsOver, RowsExact, EmptyQuery, OnlyBuffers, Answers, SameAnswers, Demand3}
use Rattle.demand.proofs.Follow.{AllFit, Follows, follow_all}

-- ── pieces of what was taken ──

pub piece_sound : (bs : List Block) → ((b : Block) → Mem b bs → Sound b) → (p : Piece) → Mem p (pieces_of bs) → SoundPiece p
piece_sound bs f p h = go (pieces_mem bs h)
  where
    go : FromBlock bs p → SoundPiece p
    go k =
        let s : Sound k.block = f k.block k.listed in
        record { short = k.piece.small; passes = record { alive = omega (arith, s.alive, k.piece.created, k.piece.destroyed); below = omega (arith, s.below, k.piece.address, k.piece.fits) } }

-- ── a search of a finished index ──

-- refused by nothing but the two buffers
abbrev ByBuffers : ℕ → Type 0
ByBuffers n = (n ≡ 0) ⊎ ((n ≡ number scratch_too_small) ⊎ (n ≡ number too_many_rows))

answered : (c : Capacity) (t : Trie) (q : List ℕ) (scratch : ℕ) (lent : List Row) → length q ≤ query_limit → ByBuffers (search_by (finished c t) q scratch lent).refusal
answered c t q scratch lent h = rw (le-ltb query_limit (length q) h) (go (ltb (scratch / 24) (places_counted (trie_pieces t) q)) (ltb (length lent) (length (rows (trie_pieces t) q))))
  where
    go : (o₁ o₂ : Bool) → ByBuffers (found_or_refused (cond o₁ (some scratch_too_small) (cond o₂ (some too_many_rows) none)) (rows (trie_pieces t) q) lent).refusal
    go true o₂ = inr (inl refl)
    go false true = inr (inr refl)
    go false false = inl refl

-- an answer hands all rows over
answer_is : (c : Capacity) (t : Trie) (q : List ℕ) (scratch : ℕ) (lent : List Row) → (search_by (finished c t) q scratch lent).refusal ≡ 0
    → search_by (finished c t) q scratch lent ≡ record { refusal = 0; count = length (rows (trie_pieces t) q); rows = rows_over (rows (trie_pieces t) q) lent }
answer_is c t q scratch lent e = go (first_cause (search_checks (standing_of (finished c t)) q (scratch / 24) (length lent))) e
  where
    ps : List Piece
    ps = trie_pieces t

    go : (o : Option Cause) → (found_or_refused o (rows ps q) lent).refusal ≡ 0 → found_or_refused o (rows ps q) lent ≡ record { refusal = 0; count = length (rows ps q); rows = rows_over (rows ps q) lent }
    go none k = refl
    go (some x) k =
        let n : some x ≡ none = none_refused (some x) k in
        absurd (let z : ◌≡◌ {A = ℕ} 0 1 = cc in omega arith)

room_answers : (c : Capacity) (t : Trie) (q : List ℕ) (scratch : ℕ) (lent : List Row) → length q ≤ query_limit → 24 * places_counted (trie_pieces t) q ≤ scratch → length (rows (trie_pieces t) q) ≤ length lent → (search_by (finished c t) q scratch lent).refusal ≡ 0
room_answers c t q scratch lent h k l = rw (le-ltb query_limit (length q) h, le-ltb (scratch / 24) (places_counted (trie_pieces t) q) (omega arith), le-ltb (length lent) (length (rows (trie_pieces t) q)) (omega arith))

module _
    (opened_fresh : (m : List ℕ) (c : Capacity) → (open_memory m c).refusal ≡ 0 → read_index (open_memory m c).memory ≡ opened c [])
    (read_appended : (c : Capacity) (m : List ℕ) (ps : List Piece) (b : Block) → read_index m ≡ opened c ps → first_cause (block_checks c ps b) ≡ none → Fits b → read_index (appended m c ps (pieces b)) ≡ opened c (ps ++ pieces b))
    (read_finished : (c : Capacity) (m : List ℕ) (s : Recorded) → Right c s → AllFit s.blocks → read_index m ≡ opened c (pieces_of s.blocks) → read_index (finished_memory m c (trie_of (pieces_of s.blocks))) ≡ finished c (trie_of (pieces_of s.blocks))) where
  -- after a recording the memory holds the trie of what was taken
  final_holds : (r : Recording) → read_index (final r) ≡ finished r.capacity (trie_of (pieces_of (taken_in r)))
  final_holds r = w.holds_it ∙ ap (λ (x : Bool). cond x (finished c (trie_of (pieces_of (taken_in r)))) (opened c (pieces_of (taken_in r)))) (finished_recording c fresh r.calls r.finished)
    where
      c : Capacity
      c = r.capacity

      start : Follows c (read_appended c) (read_finished c) fresh (open_memory r.memory c).memory
      start = record { right = record { sound = λ b h. absurd (not-nil h); consistent = tt; nodes = λ h. h; entries = omega arith }; fit = λ b h. absurd (not-nil h); holds_it = opened_fresh r.memory c r.opened }

      w : Follows c (read_appended c) (read_finished c) (after_all c fresh r.calls) (final r)
      w = follow_all c (read_appended c) (read_finished c) fresh (open_memory r.memory c).memory r.calls r.fit start

  -- that trie, and its pieces
  abbrev ended : Recording → Trie
  ended r = trie_of (pieces_of (taken_in r))

  abbrev held : Recording → List Piece
  held r = trie_pieces (ended r)

  held_same : (r : Recording) → SamePieces (held r) (pieces_of (taken_in r))
  held_same r = trie_of_pieces (pieces_of (taken_in r)) (piece_sound (taken_in r) (λ b h. taken_sound r.capacity r.calls b h))

  rows_same : (r : Recording) (q : List ℕ) → rows (held r) q ≡ rows (pieces_of (taken_in r)) q
  rows_same r q = rows_by_set (held r) (pieces_of (taken_in r)) (held_same r) q

  searched_is : (r : Recording) (q : List ℕ) (scratch : ℕ) (lent : List Row) → searched r q scratch lent ≡ search_by (finished r.capacity (ended r)) q scratch lent
  unfolding search_memory
  searched_is r q scratch lent = ap (λ (x : Index). search_by x q scratch lent) (final_holds r)

  hands_over : (r : Recording) (q : List ℕ) (scratch : ℕ) (lent : List Row) → (searched r q scratch lent).refusal ≡ 0 → HandsOver (searched r q scratch lent) (rows (pieces_of (taken_in r)) q)
  hands_over r q scratch lent e =
      let i = searched_is r q scratch lent in
      let j = i ∙ answer_is r.capacity (ended r) q scratch lent (sym (ap (λ (f : Found). f.refusal) i) ∙ e) in
      let h : HandsOver (searched r q scratch lent) (rows (held r) q) = record {
        count = ap (λ (f : Found). f.count) j;
        records = ap (λ (f : Found). take (length (rows (held r) q)) f.rows) j ∙ first_over (rows (held r) q) lent;
      } in
      subst (HandsOver (searched r q scratch lent)) (rows_same r q) h

  -- two lists that a search hands over are the same
  only_rows : {f : Found} {rs rs' : List Location} → HandsOver f rs → HandsOver f rs' → rs ≡ rs'
  only_rows {f} {rs} {rs'} h h' =
      let n : length rs ≡ length rs' = omega (arith, h.count, h'.count) in
      rows_fix rs rs' (sym h.records ∙ ap (λ (k : ℕ). take k f.rows) n ∙ h'.records)

  rows_exact : (r : Recording) → RowsExact r
  rows_exact r q w l scratch lent e =
      let m : RowsAreRuns (taken_in r) q = recording_rows r.capacity r.calls q l in
      (rows (pieces_of (taken_in r)) q, hands_over r q scratch lent e, record { runs = m.exactly; in_order = m.in_order })

  empty_query : (r : Recording) → EmptyQuery r
  unfolding rows_of
  empty_query r scratch lent =
      let i = searched_is r [] scratch lent in
      let z : ◌≡◌ {A = Found} (search_by (finished r.capacity (ended r)) [] scratch lent) (record { refusal = 0; count = 0; rows = lent }) = rw (le-ltb (scratch / 24) 0 (omega arith), le-ltb (length lent) 0 (omega arith)) in
      (ap (λ (f : Found). f.refusal) (i ∙ z), ap (λ (f : Found). f.count) (i ∙ z), ap (λ (f : Found). f.rows) (i ∙ z))

  only_buffers : (r : Recording) → OnlyBuffers r
  only_buffers r q w scratch lent = subst (λ (f : Found). ByBuffers f.refusal) (sym (searched_is r q scratch lent)) (answered r.capacity (ended r) q scratch lent w.short)

  answers : (r : Recording) → Answers r
  answers r q w = (24 * places_counted (held r) q, length (rows (held r) q), λ scratch lent h k. ap (λ (f : Found). f.refusal) (searched_is r q scratch lent) ∙ room_answers r.capacity (ended r) q scratch lent w.short h k)

  same_rows : (r r' : Recording) → SameAnswers r r' ↔ SameHeld (taken_in r) (taken_in r')
  same_rows r r' = ((λ s. main.0 (to s)), λ h. fro (main.1 h))
    where
      main : SameRows (taken_in r) (taken_in r') ↔ SameHeld (taken_in r) (taken_in r')
      main = recordings_same r.capacity r'.capacity r.calls r'.calls

      blank : ℕ → List Row
      blank n = replicate n (record { address = 0; created_at = 0; destroyed_at = 0 })

      blanks : (n : ℕ) → n ≤ length (blank n)
      blanks n = omega (arith, length-replicate {A = Row} n (record { address = 0; created_at = 0; destroyed_at = 0 }))

      to : SameAnswers r r' → SameRows (taken_in r) (taken_in r')
      to s q w =
          let a = answers r q w in
          let a' = answers r' q w in
          let b : List Row = blank a.1 in
          let b' : List Row = blank a'.1 in
          let e = a.2 a.0 b (omega arith) (blanks a.1) in
          let e' = a'.2 a'.0 b' (omega arith) (blanks a'.1) in
          let k = s q w a.0 a'.0 b b' e e' in
          only_rows (hands_over r q a.0 b e) k.1 ∙ only_rows k.2 (hands_over r' q a'.0 b' e')

      fro : SameRows (taken_in r) (taken_in r') → SameAnswers r r'
      fro s q w scratch scratch' lent lent' e e' = (rows (pieces_of (taken_in r)) q, hands_over r q scratch lent e, subst (HandsOver (searched r' q scratch' lent')) (sym (s q w)) (hands_over r' q scratch' lent' e'))

  pub demand_3 : Demand3
  demand_3 = record { consistent = λ r. taken_consistent r.capacity r.calls; rows_exact = rows_exact; empty_query = empty_query; only_buffers = only_buffers; answers = answers; same_rows = same_rows }

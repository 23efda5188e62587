-- The theorems on rows: they are exactly the longest runs, and two recordings have the same rows exactly when they hold the same.
-- Assumes nothing.
use Prim.Native.Nat.{ℕ, ◌+◌, ◌≤◌, ◌<◌}
use native.Mathlib.Nat.{not-suc-le-zero}
use native.Mathlib.Omega.{arith}
use mathlib.Core.Path.{◌≡◌, refl, sym, ap, subst}
use mathlib.Core.Logic.{◌⊎◌, inl, inr, ◌↔◌}
use mathlib.Core.List.Memᴰ.{eq_of_singleton as only_one}
use mathlib.Core.List.Memᴰ.{head as here}
use mathlib.Core.List.Memᴰ.{tail as later}
use mathlib.Core.List.{List, [], ◌∷◌, Memᴰ as Mem}
use lib.ListN.{length, get_or, drop, length-drop}
use Rattle.std.proofs.lemmas.Bool.{cases_lt}
use Rattle.definitions.specs.Location.{Location, Lives, Sorted, Less}
use Rattle.definitions.specs.Blocks.{Block, Piece, pieces_of, tails}
use Rattle.definitions.specs.Places.{ends, by_pieces, places}
use Rattle.definitions.specs.Rows.{Before, combine_split_times, rows}
use Rattle.definitions.specs.Runs.{Holds, Stands, LongestRun, RowsAreRuns, Consistent, Alive, Query, SameRows, SameHeld}
use Rattle.definitions.proofs.Order.{less_asym, sorted_normal, same_lists, mem_get_or}
use Rattle.definitions.proofs.Combine.{Here, Near, Spread, combined_spread, combined_here, here_combined}
use Rattle.definitions.proofs.Runs.{spread_sorted, before_less, row_is_run, run_is_row}
use Rattle.definitions.proofs.Held.{Unique, consistent_unique, StandsR, stands_to, stands_from, fits, fits_stands}
use Rattle.definitions.proofs.Tails.{tail_at, mem_tails, tail_fits, tails_fit}
use Rattle.definitions.proofs.Sound.{Held, step_sound, table_sound}
use Rattle.definitions.proofs.Complete.{step_complete, table_complete}
use Rattle.definitions.proofs.Cutting.{held_by_pieces, consistent_pieces, alive_pieces}
use Rattle.definitions.proofs.Single.{Single, step_single, table_single, pieces_single, tails_single}

-- ── every place of a query is one where it stands, and none is missed ──

module _ (ps : List Piece) (u : Unique ps) where
  pieces_held : Held ps ps
  pieces_held p m t v = go p.bytes refl
    where
      go : (cs : List ℕ) → p.bytes ≡ cs → StandsR ps cs p.at.address t
      go [] e = tt
      go (c ∷ cs) e = subst (λ (x : List ℕ). StandsR ps x p.at.address t) e (fits_stands ps p.bytes p.at.address t (fits ps u p m (omega (arith, ap length e)) t v))

  tails_held : Held ps (tails ps)
  tails_held p m t v = fits_stands ps p.bytes p.at.address t (tails_fit ps u p m t v)

  places_sound : (q : List ℕ) (a t : ℕ) → Here (places ps q) a t → StandsR ps q a t
  places_sound [] a t h = tt
  places_sound (b ∷ q) a t h = subst (λ (x : ℕ). StandsR ps (b ∷ q) x t) h.there (step_sound ps (tails ps) tails_held b q (ends ps q) (table_sound ps pieces_held q) h.place h.listed t h.lives)

  places_complete : (q : List ℕ) → 0 < length q → (a t : ℕ) → StandsR ps q a t → Here (places ps q) a t
  places_complete [] l a t s = absurd (not-suc-le-zero l)
  places_complete (b ∷ q) l a t s =
      let h : Holds ps b a t = s.0 in
      let p : Piece = h.block in
      let k : ℕ = h.offset in
      let x : Piece = tail_at p.at p.bytes k in
      let v : Lives x.at t = record { from = h.lives.from; till = h.lives.till } in
      let n : 0 < length (drop k p.bytes) = omega (arith, length-drop k p.bytes, h.inside) in
      subst (λ (y : ℕ). Here (places ps (b ∷ q)) y t) h.there
      (step_complete ps (tails ps) x (mem_tails ps p h.listed k h.inside) n b q (ends ps q) (table_complete ps u q) t v
      (tail_fits ps u p h.listed k h.inside t h.lives)
      (subst (λ (y : ℕ). StandsR ps (b ∷ q) y t) (sym h.there) s))

pub places_cover : (ps : List Piece) → Consistent ps → (q : List ℕ) → 0 < length q → (a t : ℕ) → Here (places ps q) a t ↔ Stands ps q a t
places_cover ps c q l a t = (
  (λ h. stands_from ps q a t (places_sound ps (consistent_unique ps c) q a t h)),
  λ s. places_complete ps (consistent_unique ps c) q l a t (stands_to ps q a t s),
)

-- ── rows ──

near : (ls : List Location) → Sorted Less ls → Single ls → Spread Near ls
near [] s o = tt
near (l ∷ ls) s o = (o.some l (here refl), next, near ls s.1 (record { one = λ x y h k. o.one x y (later h) (later k); some = λ x h. o.some x (later h) }))
  where
    next : (m : Location) → Mem m ls → Near l m
    next m h = record { address_le = k.by_address; touch = λ e. go e (cases_lt m.created l.destroyed) }
      where
        k : Less l m
        k = s.0 m h

        go : l.address ≡ m.address → (m.created < l.destroyed) ⊎ (l.destroyed ≤ m.created) → l.destroyed ≤ m.created
        go e (inr i) = i
        go e (inl i) =
            let f : l ≡ m = o.one l m (here refl) (later h) e m.created (record { from = k.by_created e; till = i }) (record { from = omega arith; till = o.some m (later h) }) in
            let z : Less l l = subst (Less l) (sym f) k in
            absurd (less_asym z z)

places_spread : (ps : List Piece) → Consistent ps → Alive ps → (q : List ℕ) → Spread Near (places ps q)
places_spread ps c a [] = tt
places_spread ps c a (b ∷ q) =
    let u : Unique ps = consistent_unique ps c in
    near (places ps (b ∷ q)) (sorted_normal (by_pieces (tails ps) (b ∷ q) (ends ps q)))
    (step_single (tails ps) (tails_single ps u a) b q (ends ps q) (table_single ps (pieces_single ps u a) q))

rows_spread : (ls : List Location) → Spread Near ls → Spread Before (combine_split_times ls)
rows_spread [] s = tt
rows_spread (l ∷ ls) s = combined_spread l ls s

rows_here : {a t : ℕ} (ls : List Location) → Spread Near ls → Here (combine_split_times ls) a t ↔ Here ls a t
rows_here [] s = ((λ h. h), λ h. h)
rows_here (l ∷ ls) s = (combined_here l ls, here_combined l ls s)

-- the rows cover what the query stands at
rows_cover : (ps : List Piece) → Consistent ps → Alive ps → (q : List ℕ) → 0 < length q → (a t : ℕ) → Here (rows ps q) a t ↔ Stands ps q a t
rows_cover ps c i q l a t = (
  (λ h. (places_cover ps c q l a t).0 ((rows_here (places ps q) (places_spread ps c i q)).0 h)),
  λ s. (rows_here (places ps q) (places_spread ps c i q)).1 ((places_cover ps c q l a t).1 s),
)

-- where all is held alike, a query's longest runs are the same
runs_alike : (bs bs' : List Block) (q : List ℕ) → ((b a t : ℕ) → Mem b q → Holds bs b a t ↔ Holds bs' b a t) → (r : Location) → LongestRun bs q r → LongestRun bs' q r
runs_alike bs bs' q e r k = record {
  some = k.some;
  all = λ t v i l. (e (get_or q i 0) (r.address + i) t (mem_get_or q i l)).0 (k.all t v i l);
  ends = λ s. k.ends (λ i l. (e (get_or q i 0) (r.address + i) r.destroyed (mem_get_or q i l)).1 (s i l));
  begins = λ t f s. k.begins t f (λ i l. (e (get_or q i 0) (r.address + i) t (mem_get_or q i l)).1 (s i l));
}

-- the rows of consistent pieces are their longest runs
piece_rows : (ps : List Piece) → Consistent ps → Alive ps → (q : List ℕ) → 0 < length q → (r : Location) → Mem r (rows ps q) ↔ LongestRun ps q r
piece_rows ps c i q l r =
    let s : Spread Before (rows ps q) = rows_spread (places ps q) (places_spread ps c i q) in
    let to : (a t : ℕ) → Stands ps q a t → Here (rows ps q) a t = λ a t. (rows_cover ps c i q l a t).1 in
    let fro : (a t : ℕ) → Here (rows ps q) a t → Stands ps q a t = λ a t. (rows_cover ps c i q l a t).0 in
    (row_is_run (rows ps q) s ps q to fro r, run_is_row (rows ps q) s ps q to fro r)

-- for consistent blocks and every non-empty query, the rows are exactly the longest runs, each once, in order
pub rows_are_runs : (bs : List Block) → Consistent bs → Alive bs → (q : List ℕ) → 0 < length q → RowsAreRuns bs q
rows_are_runs bs c v q l = record { exactly = λ r. (to r, fro r); in_order = spread_sorted Before (rows ps q) (rows_spread (places ps q) (places_spread ps pc pv q)) }
  where
    ps : List Piece
    ps = pieces_of bs

    pc : Consistent ps
    pc = consistent_pieces bs c

    pv : Alive ps
    pv = alive_pieces bs v

    to : (r : Location) → Mem r (rows ps q) → LongestRun bs q r
    to r h = runs_alike ps bs q (λ b a t m. ((held_by_pieces bs b a t).1, (held_by_pieces bs b a t).0)) r ((piece_rows ps pc pv q l r).0 h)

    fro : (r : Location) → LongestRun bs q r → Mem r (rows ps q)
    fro r k = (piece_rows ps pc pv q l r).1 (runs_alike bs ps q (λ b a t m. held_by_pieces bs b a t) r k)

-- an empty query has none
pub no_rows : (ps : List Piece) → rows ps [] ≡ []
no_rows ps = refl

-- ── two recordings ──

-- a byte is held where the query of that byte alone has a row
held_of_rows : (bs bs' : List Block) → Consistent bs → Alive bs → Consistent bs' → Alive bs' → SameRows bs bs' → (b a t : ℕ) → b < 256 → Holds bs b a t → Holds bs' b a t
held_of_rows bs bs' c v c' v' e b a t n h =
    let q : List ℕ = b ∷ [] in
    let s : Stands (pieces_of bs) q a t = stands_from (pieces_of bs) q a t ((held_by_pieces bs b a t).0 h, tt) in
    let x : Here (rows (pieces_of bs) q) a t = (rows_cover (pieces_of bs) (consistent_pieces bs c) (alive_pieces bs v) q (omega arith) a t).1 s in
    let y : Here (rows (pieces_of bs') q) a t = subst (λ (rs : List Location). Here rs a t) (e q (one_byte b n)) x in
    (held_by_pieces bs' b a t).1 (stands_to (pieces_of bs') q a t ((rows_cover (pieces_of bs') (consistent_pieces bs' c') (alive_pieces bs' v') q (omega arith) a t).0 y)).0
  where
    one_byte : (b : ℕ) → b < 256 → Query (b ∷ [])
    one_byte b n = record { short = omega arith; bytes = λ x h. subst (λ (y : ℕ). y < 256) (sym (only_one h)) n }

-- of two consistent recordings: the same rows for all queries of 0 to 256 bytes exactly when they hold the same bytes
pub same_rows_same_held : (bs bs' : List Block) → Consistent bs → Alive bs → Consistent bs' → Alive bs' → SameRows bs bs' ↔ SameHeld bs bs'
same_rows_same_held bs bs' c v c' v' = (to, fro)
  where
    to : SameRows bs bs' → SameHeld bs bs'
    to e b a t n = (held_of_rows bs bs' c v c' v' e b a t n, held_of_rows bs' bs c' v' c v (λ q w. sym (e q w)) b a t n)

    strict : (cs : List Block) → Consistent cs → Alive cs → (q : List ℕ) → Sorted Less (rows (pieces_of cs) q)
    strict cs d w q = before_less (rows (pieces_of cs) q) (rows_spread (places (pieces_of cs) q) (places_spread (pieces_of cs) (consistent_pieces cs d) (alive_pieces cs w) q))

    some_query : SameHeld bs bs' → (q : List ℕ) → Query q → 0 < length q → rows (pieces_of bs) q ≡ rows (pieces_of bs') q
    some_query e q w l =
        let m : RowsAreRuns bs q = rows_are_runs bs c v q l in
        let m' : RowsAreRuns bs' q = rows_are_runs bs' c' v' q l in
        same_lists (rows (pieces_of bs) q) (rows (pieces_of bs') q) (strict bs c v q) (strict bs' c' v' q)
        (λ r h. (m'.exactly r).1 (runs_alike bs bs' q (λ b a t k. e b a t (w.bytes b k)) r ((m.exactly r).0 h)))
        (λ r h. (m.exactly r).1 (runs_alike bs' bs q (λ b a t k. ((e b a t (w.bytes b k)).1, (e b a t (w.bytes b k)).0)) r ((m'.exactly r).0 h)))

    fro : SameHeld bs bs' → SameRows bs bs'
    fro e [] w = refl
    fro e (b ∷ q) w = some_query e (b ∷ q) w (omega arith)

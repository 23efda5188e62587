-- One end of the query more in scratch: its places stand behind those of the shorter ends, or have no room. Assumes nothing.
use Prim.Native.Nat.{ℕ, ◌+◌, ◌-◌, ◌*◌, ◌/◌, ◌≤◌, ◌<◌}
use native.Mathlib.Omega.{arith}
use mathlib.Core.Path.{◌≡◌, sym, ap, subst, ◌∙◌}
use Rattle.std.proofs.lemmas.Bool.{cases_lt}
use Rattle.std.specs.Prelude.{Option, Some, None, MatchOption, OnSome, ⊤}
use mathlib.Core.Logic.{◌⊎◌, inl, inr}
use mathlib.Core.List.{List, [], append-nil}
use lib.ListN.{length, drop, get_or, set, length-set, length-append}
use lib.Seq.{get_or-set_same, get_or-set_other}
use lib.Dec.{eqb}
use Rattle.definitions.specs.Location.{Location, normal, locations_in}
use Rattle.definitions.specs.Places.{first_of, sizes}
use Rattle.trie.specs.Trie.{Node}
use Rattle.place_buffer.specs.declared.PlaceSet.{PlaceSet}
use Rattle.std.specs.Borrow.{MutBor}
use Rattle.place_buffer.specs.Scratch.{room}
use Rattle.place_buffer.specs.Buffer.{Behind, TidiedTo, Over, Taken}
use Rattle.place_buffer.specs.Holding.{Holding, Settled}
use Rattle.definitions.proofs.Order.{length_normal}
use Rattle.definitions.proofs.Locations.{length_locations}
use Rattle.place_buffer.proofs.Holding.{holding_none, holding_taken, holding_over, holding_tidy, taken_elsewhere, tidied_elsewhere}
use Rattle.node_joining.specs.Found.{rooted, last_of, along_from, table_from}
use Rattle.node_joining.specs.Layout.{ending_in, Ending, Part, LaidOut, EndFound, last_size, AllLaid, AllFound, Tabled, TableFound}
use Rattle.node_joining.proofs.Asked.{ending_are}
use Rattle.node_joining.proofs.Stages.{table_step, table_end, table_last, table_less}
use Rattle.node_joining.specs.declared.Beyond.{Beyond}
use Rattle.joining.specs.Lists.{listed}

lt_or_same : (i j : ℕ) → i ≤ j → (i < j) ⊎ (j ≡ i)
lt_or_same i j h = go (cases_lt i j)
  where
    go : (i < j) ⊎ (j ≤ i) → (i < j) ⊎ (j ≡ i)
    go (inl l) = inl l
    go (inr l) = inr (omega arith)

module _ (i : ℕ) {n : Node} {q ends : List ℕ} {s : MutBor (List ℕ)} {p : PlaceSet} (h : i < length q) (d : LaidOut n q (i + 1) ends s.now) (e : Behind s (get_or ends (i + 1) 0) p) where
  counted : length (first_of (table_from n q i)) ≡ length (normal (along_from (eqb i 0) n (drop i q)))
  counted = ap (λ (ts : List (List Location)). length (first_of ts)) (table_step n q i h)

  none_yet : Holding p []
  none_yet = holding_none (e.empty ∙ sym e.from) e.live

  pub end_over : {r : PlaceSet} {s₁ : List ℕ} → Taken p r (along_from (eqb i 0) n (drop i q)) None → EndFound n q i ends s.now s₁ None
  end_over t =
      let over : Over p.scratch.now p.known.base (along_from (eqb i 0) n (drop i q)) =
      subst (Over p.scratch.now p.known.base) (append-nil (along_from (eqb i 0) n (drop i q))) (holding_over none_yet t) in
      record { found = omega (arith, over, counted, e.from, ap (λ (x : List ℕ). length x / 24) e.same_bytes) }

  module _ {r r' : PlaceSet} (t : Taken p r (along_from (eqb i 0) n (drop i q)) (Some tt)) (u : TidiedTo r r') where
    base : r.known.base ≡ get_or ends (i + 1) 0
    base = t.same_base ∙ e.from

    settled : Settled r'.scratch.now r.known.base (along_from (eqb i 0) n (drop i q)) r'.known.count
    settled = holding_tidy (subst (Holding r) (append-nil (along_from (eqb i 0) n (drop i q))) (holding_taken none_yet t)) u

    at_i : get_or (set ends i r'.known.count) i 0 ≡ r'.known.count
    at_i = get_or-set_same ends i r'.known.count 0 (omega (arith, d.long))

    behind_i : (j : ℕ) → i < j → get_or (set ends i r'.known.count) j 0 ≡ get_or ends j 0
    behind_i j l = get_or-set_other ends i j r'.known.count 0 (λ f. omega arith)

    -- T(i)
    part_new : Part n q (set ends i r'.known.count) r'.scratch.now r'.known.count i
    part_new =
        let a = at_i in
        let b : get_or (set ends i r'.known.count) (i + 1) 0 ≡ r.known.base = behind_i (i + 1) (omega arith) ∙ sym base in
        record {
          order = omega (arith, settled.count);
          below = omega arith;
          places = rw (a, b) (settled.places ∙ sym (ap first_of (table_step n q i h)));
        }

    -- those behind it are as they were
    part_old : (j : ℕ) → i < j → j < length q → (0 < j → j + 1 < length q) → Part n q (set ends i r'.known.count) r'.scratch.now r'.known.count j
    part_old j l k g =
        let a = behind_i j l in
        let b = behind_i (j + 1) (omega arith) in
        let o = d.part j (omega arith) k g in
        let c = settled.count in
        let low : get_or ends (j + 1) 0 * 24 + (get_or ends j 0 - get_or ends (j + 1) 0) * 24 ≤ r.known.base * 24 = omega (arith, o.order, o.below, base) in
        record {
          order = omega (arith, o.order);
          below = omega (arith, o.below, base);
          places =
              rw (a, b)
              (tidied_elsewhere u.tidied (get_or ends j 0 - get_or ends (j + 1) 0) (get_or ends (j + 1) 0 * 24) low
              ∙ taken_elsewhere t (get_or ends j 0 - get_or ends (j + 1) 0) (get_or ends (j + 1) 0 * 24) (omega (arith, base, t.same_base)) ∙ ap (λ (x : List ℕ). locations_in x (get_or ends j 0 - get_or ends (j + 1) 0) (get_or ends (j + 1) 0 * 24)) e.same_bytes ∙ o.places);
        }

    laid_there : EndFound n q i ends s.now r'.scratch.now (Some r'.known.count)
    laid_there = record {
      found = record {
        laid = record {
          long = omega (arith, d.long, length-set ends i r'.known.count);
          fits = omega (arith, at_i, settled.within);
          part = λ j l k g. subst (λ (x : ℕ). Part n q (set ends i r'.known.count) r'.scratch.now x j) (sym at_i) (go j (lt_or_same i j l) k g);
        };
        size = omega (arith, settled.count, counted, base);
      };
    }
      where
        go : (j : ℕ) → (i < j) ⊎ (j ≡ i) → j < length q → (0 < j → j + 1 < length q) → Part n q (set ends i r'.known.count) r'.scratch.now r'.known.count j
        go j (inl l) k g = part_old j l k g
        go j (inr f) k g = subst (Part n q (set ends i r'.known.count) r'.scratch.now r'.known.count) (sym f) part_new

    -- what was lent is what the set leaves there
    pub end_laid : {s₂ : List ℕ} → s₂ ≡ r'.scratch.now → EndFound n q i ends s.now s₂ (Some r'.known.count)
    end_laid f = subst (λ (x : List ℕ). EndFound n q i ends s.now x (Some r'.known.count)) (sym f) laid_there

-- ── the loop ──

-- nothing stands behind a query of one byte
pub laid_one : (n : Node) (q ends s : List ℕ) → length q ≡ 1 → 1 < length ends → LaidOut n q 1 (set ends 1 0) s
laid_one n q ends s h l =
    let a : get_or (set ends 1 0) 1 0 ≡ 0 = get_or-set_same ends 1 0 0 l in
    record { long = omega (arith, length-set ends 1 0); fits = omega arith; part = λ j f g x. absurd (omega arith) }

-- so many places are kept for those of the last byte
pub laid_last : (n : Node) (q ends s : List ℕ) (count : ℕ) → 1 < length q → length q < length ends → count ≤ length s / 24 → LaidOut n q (length q - 1) (set ends (length q - 1) count) s
laid_last n q ends s count h l r =
    let a : get_or (set ends (length q - 1) count) (length q - 1) 0 ≡ count = get_or-set_same ends (length q - 1) count 0 (omega arith) in
    record { long = omega (arith, length-set ends (length q - 1) count); fits = omega arith; part = λ j f g x. absurd (omega (arith, x (omega arith))) }

pub kept_last : (n : Node) (q ends : List ℕ) (count : ℕ) → 1 < length q → length q < length ends → get_or (set ends (length q - 1) count) (length q - 1) 0 + last_size n q ≡ count + sizes (table_from n q (length q - 1))
kept_last n q ends count h l = omega (arith, get_or-set_same ends (length q - 1) count 0 (omega arith))

-- what `last` holds
module _ {img : List ℕ} (q : List ℕ) {m : Beyond} (h : 1 < length q) (x : ∥ Ending img (last_of q) m ∥₁) where
  ending_size : length (normal (ending_in img m)) ≡ last_size (rooted img) q
  ending_size =
      ap (λ (ls : List Location). length (normal ls)) (ending_are x) ∙ omega (arith, ap sizes (table_last (rooted img) q (length q - 1) (omega arith) (omega arith)))

  pub ending_counted : {count : ℕ} → count ≡ length (normal (ending_in img m)) → count ≡ last_size (rooted img) q
  ending_counted e = e ∙ ending_size

  pub ending_most : last_size (rooted img) q ≤ m.suffixes.count + m.chunks.count
  ending_most =
      omega (arith, ending_size, length_normal (ending_in img m), length-append (listed img m.suffixes) (listed img m.chunks), length_locations m.suffixes.count img m.suffixes.at, length_locations m.chunks.count img m.chunks.at)

-- what is added behind them leaves them as they were
pub laid_taken : (i : ℕ) {n : Node} {q ends : List ℕ} {p r : PlaceSet} {o : Option ⊤} {ls : List Location} → LaidOut n q (i + 1) ends p.scratch.now → p.known.base ≡ get_or ends (i + 1) 0 → Taken p r ls o → LaidOut n q (i + 1) ends r.scratch.now
laid_taken i {n} {q} {ends} {p} {r} d b t = record {
  long = d.long;
  fits = omega (arith, d.fits, t.same_length);
  part = λ j l k g.
      let x = d.part j l k g in
      record {
        order = x.order;
        below = x.below;
        places = taken_elsewhere t (get_or ends j 0 - get_or ends (j + 1) 0) (get_or ends (j + 1) 0 * 24) (omega (arith, x.order, x.below, b)) ∙ x.places;
      };
}

pub laid_at : {n : Node} {q ends s : List ℕ} (i j : ℕ) → i ≡ j → LaidOut n q i ends s → LaidOut n q j ends s
laid_at {n} {q} {ends} {s} i j e d = subst (λ (k : ℕ). LaidOut n q k ends s) e d

sizes_step : (n : Node) (q : List ℕ) (i : ℕ) → i < length q → sizes (table_from n q i) ≡ length (first_of (table_from n q i)) + sizes (table_from n q (i + 1))
sizes_step n q i h =
    let e = table_step n q i h in
    ap sizes e ∙ ap (λ (ts : List (List Location)). length (first_of ts) + sizes (table_from n q (i + 1))) (sym e)

module _ (n : Node) (q ends : List ℕ) (count i j : ℕ) (h : i < length q) (same : j ≡ i + 1) (k : get_or ends j 0 + last_size n q ≡ count + sizes (table_from n q j)) where
  here : get_or ends (i + 1) 0 + last_size n q ≡ count + sizes (table_from n q (i + 1))
  here = subst (λ (x : ℕ). get_or ends x 0 + last_size n q ≡ count + sizes (table_from n q x)) same k

  -- an end without room leaves none for the whole
  pub all_over : {s s₁ s₂ ends' s' : List ℕ} → EndFound n q i ends s₁ s₂ None → length s₁ ≡ length s → AllFound n q count s ends' s' None
  all_over f l = record { found = omega (arith, here, f.found, table_less n q i, sizes_step n q i h, ap (λ (x : ℕ). x / 24) l) }

  pub all_kept : {s₁ s₂ : List ℕ} {next : ℕ} → i < length ends → EndFound n q i ends s₁ s₂ (Some next) → get_or (set ends i next) i 0 + last_size n q ≡ count + sizes (table_from n q i)
  all_kept {next = next} l f = omega (arith, here, f.found.size, sizes_step n q i h, get_or-set_same ends i next 0 l)

-- ── all of them ──

-- with so many places kept for the last byte as it has
pub found_exactly : {n : Node} {q s ends s' : List ℕ} {o : Option ⊤} {count : ℕ} → count ≡ last_size n q → AllFound n q count s ends s' o → length s' ≡ length s → TableFound n q s ends s' o
found_exactly {n} {q} {s} {ends} {s'} {o} {count} e f l = record { found = go o f.found }
  where
    go : (o : Option ⊤) → MatchOption o (room s + last_size n q < count + sizes (table_from n q 0)) (λ _. AllLaid n q count ends s') → MatchOption o (room s < sizes (table_from n q 0)) (λ _. Tabled n q ends s')
    go None g = omega (arith, e, g)
    go (Some x) g = record { laid = g.laid; fits = omega (arith, e, g.size, g.laid.fits, ap (λ (x : ℕ). x / 24) l) }

-- with at least so many
pub found_loosely : {n : Node} {q s ends s' : List ℕ} {o : Option ⊤} {count : ℕ} → last_size n q ≤ count → AllFound n q count s ends s' o → OnSome o (Tabled n q ends s')
found_loosely {n} {q} {s} {ends} {s'} {o} {count} e f = go o f.found
  where
    go : (o : Option ⊤) → MatchOption o (room s + last_size n q < count + sizes (table_from n q 0)) (λ _. AllLaid n q count ends s') → OnSome o (Tabled n q ends s')
    go None g = tt
    go (Some x) g = record { laid = g.laid; fits = omega (arith, e, g.size, g.laid.fits) }

pub found_not : {n : Node} {q s ends s' : List ℕ} {count : ℕ} → count ≡ last_size n q → length s / 24 < count → TableFound n q s ends s' None
found_not {n} {q} e r = record { found = omega (arith, e, r, table_less n q (length q - 1)) }

pub found_after : {n : Node} {q s s₁ ends s' : List ℕ} {o : Option ⊤} → TableFound n q s₁ ends s' o → length s₁ ≡ length s → TableFound n q s ends s' o
found_after {n} {q} {s} {s₁} {ends} {s'} {o} f l = record { found = go o f.found }
  where
    go : (o : Option ⊤) → MatchOption o (room s₁ < sizes (table_from n q 0)) (λ _. Tabled n q ends s') → MatchOption o (room s < sizes (table_from n q 0)) (λ _. Tabled n q ends s')
    go None g = omega (arith, g, ap (λ (x : ℕ). x / 24) l)
    go (Some x) g = g

-- of one byte
module _ (n : Node) (q : List ℕ) (h : length q ≡ 1) where
  none_behind : sizes (table_from n q 1) ≡ 0
  none_behind = ap sizes (ap (table_from n q) (sym h) ∙ table_end n q (omega arith))

  pub one_over : {ends s s' ends' : List ℕ} → get_or ends 1 0 ≡ 0 → EndFound n q 0 ends s s' None → TableFound n q s ends' s' None
  one_over z f = record { found = omega (arith, f.found, z, none_behind, sizes_step n q 0 (omega arith)) }

  pub one_laid : {ends s s' : List ℕ} {next : ℕ} → get_or ends 1 0 ≡ 0 → EndFound n q 0 ends s s' (Some next) → TableFound n q s (set ends 0 next) s' (Some tt)
  one_laid {ends} {next = next} z f =
      let there : 0 < length ends = omega (arith, f.found.laid.long, length-set ends 0 next) in
      record {
        found = record {
          laid = f.found.laid;
          fits = omega (arith, f.found.size, f.found.laid.fits, z, none_behind, sizes_step n q 0 (omega arith), get_or-set_same ends 0 next 0 there);
        };
      }

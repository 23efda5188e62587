-- A block conflicts with a stored piece exactly if it strikes an entry below its address or lives among those from there on. Assumes nothing.
use Prim.Native.Nat.{ℕ, ◌+◌, ◌-◌, ◌≤◌, ◌<◌}
use native.Mathlib.Omega.{arith}
use mathlib.Core.Path.{◌≡◌, sym, ap, ◌∙◌, subst}
use mathlib.Core.Bool.{true, false}
use mathlib.Core.Logic.{◌⊎◌, inl, inr, ◌↔◌}
use mathlib.Core.List.{List}
use lib.ListN.{length, get_or}
use Rattle.std.proofs.lemmas.Bool.{cases_lt}
use Rattle.definitions.specs.Location.{Location}
use Rattle.definitions.specs.Blocks.{Block, Piece}
use Rattle.definitions.specs.Conflicts.{conflicting, conflicts_with}
use Rattle.definitions.proofs.Tests.{not_both, same_test}
use Rattle.definitions.proofs.Sharing.{Sharing, shares_facts, facts_share}
use Rattle.memory_header.specs.Layout.{Header, work_at}
use Rattle.conflicts.specs.Lined.{lives_among, Lined}
use Rattle.conflicts.specs.Order.{Entry, ordered, entry}
use Rattle.conflicts.specs.Promises as promises
use Rattle.conflicts.specs.Promises.{LivesAmong}
use Rattle.conflicts.proofs.Line.{lives_among_is}
use Rattle.conflicts.proofs.Together.{Together, meets_is}
use Rattle.conflicts.proofs.OrderFree.{ordered_struck}
use Rattle.lined_locations.specs.declared.Line.{Line}
use Rattle.lined_locations.specs.declared.LineKind.{LineKind}
use Rattle.lined_locations.specs.declared.LineKind.TheVariants.{Logged}
use Rattle.lined_locations.specs.Places.{location_by}
use Rattle.lined_locations.specs.Line.{location_of}
use Rattle.certificate.specs.Entries.{piece_end}
use Rattle.certificate.specs.Stored.{pieces_in, Stored}
use Rattle.certificate.proofs.Stored.{stored_count, stored_location, stored_length, stored_some, stored_small}
use Rattle.clashing.specs.Strikes.{strikes}
use Rattle.clashing.proofs.Striking.{Struck, strikes_is}
use Rattle.clashing.proofs.Splitting.{Split}

-- a block of n bytes, one or more, that lives at x
pub record Asked (x : Location) (n : ℕ) (b : Block) : Type 0 where
  pub size : length b.bytes ≡ n
  pub there : b.at ≡ x
  pub some : 0 < n
  pub alive : x.created < x.destroyed

-- entry i of the line lives together with x, and the two have an address in common
record Hit (v : Line) (x : Location) (n i : ℕ) : Type 0 where
  together : Together x (location_of v i)
  across : x.address < piece_end v i
  across' : (location_of v i).address < x.address + n

-- the line is that of the certificate of the pieces that h counts
pub record Known (h : Header) (v : Line) : Type 0 where
  pub bytes : (k : ℕ) → get_or v.bytes.now k 0 < 256
  pub stored : Stored v.bytes.now h v.count
  pub kind : v.kind ≡ Logged
  pub base : v.base ≡ work_at h.capacity
  pub lined : Lined v.count (location_of v)

module _ (h : Header) (v : Line) (s : Known h v) (x : Location) (n : ℕ) (b : Block) (a : Asked x n b) where
  abbrev ps : List Piece
  ps = pieces_in v.bytes.now h

  abbrev es : List Entry
  es = ordered (pieces_in v.bytes.now h)

  count : v.count ≡ length es
  count = stored_count v.bytes.now s.bytes h v.count s.stored

  module _ (i : ℕ) (l : i < v.count) where
    here : location_of v i ≡ (entry es i).piece.at
    here = ap (λ (k : LineKind). location_by k v.bytes.now v.base i) s.kind ∙ stored_location v.bytes.now s.bytes h v.count s.stored v.base s.base i l

    has_address : (location_of v i).address ≡ (entry es i).piece.at.address
    has_address = ap (λ (y : Location). y.address) here

    has_size : piece_end v i ≡ (location_of v i).address + length (entry es i).piece.bytes
    has_size = ap (λ (k : ℕ). (location_of v i).address + k) (stored_length v.bytes.now s.bytes h v.count s.stored v.base s.base i l)

    some_bytes : 0 < length (entry es i).piece.bytes
    some_bytes = stored_some v.bytes.now s.bytes h v.count s.stored v.base s.base i l

    hit_is : conflicting b (entry es i).piece ≡ true ↔ Hit v x n i
    hit_is = ((λ e. to (shares_facts b (entry es i).piece e)), λ t. facts_share b (entry es i).piece (fro t))
      where
        address : b.at.address ≡ x.address
        address = ap (λ (y : Location). y.address) a.there

        to : Sharing b (entry es i).piece → Hit v x n i
        to f = record {
          together = subst (λ (y : Location). Together x y) (sym here) (subst (λ (y : Location). Together y (entry es i).piece.at) a.there (record { left = f.before; right = f.before' }));
          across = omega (arith, f.across, address, has_address, has_size);
          across' = omega (arith, f.across', address, has_address, a.size);
        }

        fro : Hit v x n i → Sharing b (entry es i).piece
        fro t =
            let w : Together b.at (entry es i).piece.at = subst (λ (y : Location). Together y (entry es i).piece.at) (sym a.there) (subst (λ (y : Location). Together x y) here t.together) in
            record {
              low = omega (arith, a.size, a.some);
              low' = omega (arith, some_bytes);
              across = omega (arith, t.across, address, has_address, has_size);
              across' = omega (arith, t.across', address, has_address, a.size);
              born = subst (λ (y : Location). y.created < y.destroyed) (sym a.there) a.alive;
              born' = subst (λ (y : Location). y.created < y.destroyed) here (s.lined.alive i l);
              before = w.left;
              before' = w.right;
            }

  -- the entries that reach the address of x begin at number `from`, those at it or above at number `upto`
  module _ (from upto : ℕ) (p : Split v.count (location_of v) 0 (x.address - 15) from) (q : Split v.count (location_of v) from x.address upto) where
    struck : conflicts_with b (pieces_in v.bytes.now h) ≡ true → Struck v x from upto ⊎ LivesAmong v.count (location_of v) upto x (x.address + n)
    struck e = one ((ordered_struck (pieces_in v.bytes.now h) b).0 e)
      where
        one : promises.Struck b es → Struck v x from upto ⊎ LivesAmong v.count (location_of v) upto x (x.address + n)
        one w = go (cases_lt w.index from) (cases_lt w.index upto)
          where
            inside : w.index < v.count
            inside = omega (arith, w.inside, count)

            hit : Hit v x n w.index
            hit = (hit_is w.index inside).0 w.is

            go : (w.index < from) ⊎ (from ≤ w.index) → (w.index < upto) ⊎ (upto ≤ w.index) → Struck v x from upto ⊎ LivesAmong v.count (location_of v) upto x (x.address + n)
            go (inl l) o = absurd (omega (arith, p.below w.index (omega arith) l, hit.across, has_size w.index inside, stored_small v.bytes.now s.bytes h v.count s.stored v.base s.base w.index inside))
            go (inr l) (inl o) = inl (record { index = w.index; low = l; high = o; together = hit.together; beyond = hit.across })
            go (inr l) (inr o) = inr (record { index = w.index; low = o; high = inside; below = hit.across'; is = (meets_is x (location_of v w.index)).1 hit.together })

    by_number : (i : ℕ) → i < v.count → Hit v x n i → conflicts_with b (pieces_in v.bytes.now h) ≡ true
    by_number i l t = (ordered_struck (pieces_in v.bytes.now h) b).1 (record { index = i; inside = omega (arith, count); is = (hit_is i l).1 t })

    below : Struck v x from upto → conflicts_with b (pieces_in v.bytes.now h) ≡ true
    below w = by_number w.index (omega (arith, w.high, q.high)) (record {
      together = w.together;
      across = w.beyond;
      across' = omega (arith, q.below w.index w.low w.high);
    })

    above : LivesAmong v.count (location_of v) upto x (x.address + n) → conflicts_with b (pieces_in v.bytes.now h) ≡ true
    above w = by_number w.index w.high (record {
      together = (meets_is x (location_of v w.index)).0 w.is;
      across = omega (arith, q.above w.index w.low w.high, has_size w.index w.high, some_bytes w.index w.high);
      across' = w.below;
    })

    -- an entry below the address of x is struck
    pub clash_below : true ≡ strikes v (upto - from) from x → true ≡ conflicts_with b (pieces_in v.bytes.now h)
    clash_below e = sym (below ((strikes_is v x from upto q.low).0 (sym e)))

    -- none is: the others decide
    pub clash_above : false ≡ strikes v (upto - from) from x → lives_among (location_of v) (v.count - upto) upto x (x.address + n) ≡ conflicts_with b (pieces_in v.bytes.now h)
    clash_above f = same_test (lives_among (location_of v) (v.count - upto) upto x (x.address + n)) (conflicts_with b (pieces_in v.bytes.now h))
        (λ e. above ((lives_among_is v.count (location_of v) upto x (x.address + n) q.high).0 e))
        (λ e. (lives_among_is v.count (location_of v) upto x (x.address + n) q.high).1 (go (struck e)))
      where
        go : Struck v x from upto ⊎ LivesAmong v.count (location_of v) upto x (x.address + n) → LivesAmong v.count (location_of v) upto x (x.address + n)
        go (inl w) = absurd (not_both (sym f) ((strikes_is v x from upto q.low).1 w))
        go (inr w) = w

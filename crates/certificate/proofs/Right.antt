-- The entries of a certificate pass the tests exactly if the pieces are free of conflicts and the certificate is theirs. Assumes nothing.
use Prim.Native.Nat.{ℕ, ◌+◌, ◌-◌, ◌*◌, ◌≤◌, ◌<◌}
use native.Mathlib.Omega.{arith}
use mathlib.Core.Path.{◌≡◌, sym, ap, ◌∙◌, subst}
use mathlib.Core.Bool.{true, false, not, ◌&&◌}
use mathlib.Core.Logic.{◌⊎◌, inl, inr, ◌↔◌}
use mathlib.Core.List.{List}
use lib.ListN.{length, get_or}
use lib.Dec.{ltb, eqb}
use borrow.Author.Tests.{ltb-true, lt-ltb, eqb-true, eqb-false, eq-eqb, ne_eqb, not-true}
use Rattle.std.proofs.lemmas.Bool.{cases_lt}
use Rattle.words.specs.Words.{le64, bytes64}
use Rattle.words.specs.Holding.{Holds}
use Rattle.words.proofs.Holding.{le_holds, stands_holds, holds_stands}
use Rattle.definitions.specs.Location.{Location, meets}
use Rattle.definitions.specs.Blocks.{Piece}
use Rattle.definitions.specs.Conflicts.{free}
use Rattle.definitions.specs.Calls.{last_number}
use Rattle.definitions.proofs.Tests.{both, and_true, is_false, not_both, negated}
use Rattle.memory_header.specs.Layout.{Header, work_at}
use Rattle.memory_header.proofs.HeaderFacts.{HeaderFacts, open_payload}
use Rattle.conflicts.specs.Lined.{in_line, Lined, Ahead}
use Rattle.conflicts.specs.Order.{ordered, certificate, nothing, nth, entry}
use Rattle.conflicts.specs.Promises.{LivesAmong, NoneInside, filled}
use Rattle.conflicts.proofs.Together.{meets_is}
use Rattle.conflicts.proofs.Numbers.{at_member}
use Rattle.conflicts.proofs.Line.{in_line_is, lives_among_is}
use Rattle.conflicts.proofs.Order.{ordered_count, ordered_entered}
use Rattle.conflicts.proofs.OrderFree.{ordered_free}
use Rattle.conflicts.proofs.OrderOne.{ordered_one}
use Rattle.conflicts.proofs.OwnEnds.{own_ends}
use Rattle.lined_locations.specs.declared.LineKind.TheVariants.{Logged}
use Rattle.lined_locations.specs.Places.{number_at, Within}
use Rattle.index_memory.specs.Log.{piece_in, log_sound}
use Rattle.index_memory.specs.Index.{certified, order_right}
use Rattle.index_memory.proofs.LogBytes.{AllSound, PieceSound, log_sound_is, length_log_in, piece_length, piece_small}
use Rattle.certificate.specs.Entries.{all, piece_at, entry_right, entry_at, entry_end, lives_inside}
use Rattle.certificate.specs.Stored.{pieces_in, Stored}
use Rattle.certificate.proofs.All.{each, all_each}
use Rattle.certificate.proofs.Bytes.{log_nth, EntryHeld, entries_held}
use Rattle.certificate.proofs.Counting.{filled_upto}
use Rattle.certificate.proofs.Stored as stored

module _ (m : List ℕ) (b : (k : ℕ) → get_or m k 0 < 256) (h : Header) (f : HeaderFacts m h) (z : h.phase ≡ 0) (t : log_sound m h.payload 64 ≡ true) where
  abbrev ps : List Piece
  ps = pieces_in m h

  few : h.payload ≤ h.capacity.entries
  few = open_payload m h f z

  pub log_room : 64 + 48 * h.payload ≤ work_at h.capacity
  log_room = omega (arith, few)

  pub entry_room : work_at h.capacity + 16 * filled (pieces_in m h) ≤ length m
  entry_room = omega (arith, few, filled_upto ps, length_log_in m h.payload 64, f.held)

  sound : AllSound ps
  sound = log_sound_is m h.payload 64 (omega (arith, log_room, entry_room)) t

  -- ── so many entries from index `base` on ──

  module _ (base n : ℕ) (p : base ≡ work_at h.capacity) (q : n ≡ filled (pieces_in m h)) where
    abbrev num : ℕ → ℕ
    num i = number_at m base i

    -- ── the tests tell ──

    module _ (a : all (entry_right m base h.payload) n ≡ true) where
      module _ (i : ℕ) (l : i < n) where
        abbrev at : ℕ
        at = piece_at m base i

        tests : (num i < h.payload) × (eqb (le64 m at) 0 ≡ false) × (eqb (le64 m (base + 16 * i + 8)) (le64 m (at + 40)) ≡ true)
        tests =
            let x = both (ltb (num i) h.payload) (not (eqb (le64 m at) 0) && eqb (le64 m (base + 16 * i + 8)) (le64 m (at + 40))) (each (entry_right m base h.payload) n a i l) in
            let y = both (not (eqb (le64 m at) 0)) (eqb (le64 m (base + 16 * i + 8)) (le64 m (at + 40))) x.1 in
            (ltb-true (num i) h.payload x.0, not-true (eqb (le64 m at) 0) y.0, y.1)

        room : at + 48 ≤ length m
        room = omega (arith, tests.0, log_room, entry_room)

        piece : nth ps (num i) ≡ piece_in m at
        piece = log_nth m h.payload 64 (num i) tests.0

        inside : num i < length ps
        inside = omega (arith, tests.0, length_log_in m h.payload 64)

        piece_right : PieceSound (nth ps (num i))
        piece_right = sound (nth ps (num i)) (at_member ps nothing (num i) inside)

        long : le64 m at ≡ length (nth ps (num i)).bytes
        long =
            let e : length (nth ps (num i)).bytes ≡ length (piece_in m at).bytes = ap (λ (x : Piece). length x.bytes) piece in
            omega (arith, e, piece_length m at room (piece_small m at room (omega (arith, e, piece_right.small))))

        some : 0 < length (nth ps (num i)).bytes
        some = omega (arith, long, eqb-false (le64 m at) 0 tests.1)

        located : entry_at m base i ≡ (nth ps (num i)).at
        located = ap (λ (x : Piece). x.at) (sym piece)

        living : (entry_at m base i).created < (entry_at m base i).destroyed
        living = subst (λ (x : Location). x.created < x.destroyed) (sym located) piece_right.alive

        pub tested_below : entry_end m base i ≤ last_number
        tested_below = omega (arith, ap (λ (x : Location). x.address) located, long, piece_right.below)

        ended : le64 m (base + 16 * i + 8) ≡ (nth ps (num i)).at.destroyed
        ended =
            let e : at + 40 ≡ at + 24 + 16 = omega arith in
            eqb-true (le64 m (base + 16 * i + 8)) (le64 m (at + 40)) tests.2 ∙ ap (le64 m) e ∙ ap (λ (x : Piece). x.at.destroyed) (sym piece)

      pub tested_within : Within Logged m base n
      tested_within = record { numbers = λ e. omega (arith, p, q, entry_room); places = λ i l. omega (arith, room i l) }

      pub tested_line : (in_line (entry_at m base) (n - 1) ≡ true) ↔ Lined n (entry_at m base)
      tested_line = in_line_is n (entry_at m base) living

      module _ (l : Lined n (entry_at m base)) where
        lined : Lined n (λ i. (nth ps (num i)).at)
        lined = record {
          ahead = λ i j g k. subst (λ (x : Location). Ahead x (nth ps (num j)).at) (located i (omega arith)) (subst (Ahead (entry_at m base i)) (located j k) (l.ahead i j g k));
          alive = λ i g. (piece_right i g).alive;
        }

        count : length (ordered ps) ≡ n
        count = ordered_count ps ∙ sym q

        numbers : (i : ℕ) → i < n → (entry (ordered ps) i).number ≡ num i
        numbers i g = ordered_one ps num (λ j k. inside j (omega (arith, q))) (λ j k. some j (omega (arith, q))) (subst (λ (k : ℕ). Lined k (λ j. (nth ps (num j)).at)) q lined) i (omega (arith, q))

        pieces_are : (i : ℕ) → i < n → (entry (ordered ps) i).piece ≡ nth ps (num i)
        pieces_are i g = sym (ordered_entered ps i (omega (arith, count))).piece ∙ ap (nth ps) (numbers i g)

        located_entry : (i : ℕ) → i < n → entry_at m base i ≡ (entry (ordered ps) i).piece.at
        located_entry i g = located i g ∙ ap (λ (x : Piece). x.at) (sym (pieces_are i g))

        order_lined : Lined (length (ordered ps)) (λ i. (entry (ordered ps) i).piece.at)
        order_lined = record {
          ahead = λ i j g k. subst (λ (x : Location). Ahead x (entry (ordered ps) j).piece.at) (located_entry i (omega (arith, count))) (subst (Ahead (entry_at m base i)) (located_entry j (omega (arith, count))) (l.ahead i j g (omega (arith, count))));
          alive = λ i g. subst (λ (x : Location). x.created < x.destroyed) (located_entry i (omega (arith, count))) (l.alive i (omega (arith, count)));
        }

        entry_here : (i : ℕ) → i < n → EntryHeld m (base + 16 * i) (entry (ordered ps) i)
        entry_here i g =
            let e : le64 m (base + 16 * i + 8) ≡ (entry (ordered ps) i).piece.at.destroyed = ended i g ∙ ap (λ (x : Piece). x.at.destroyed) (sym (pieces_are i g)) in
            record {
              number = subst (λ (x : ℕ). Holds m (base + 16 * i) (bytes64 x)) (sym (numbers i g)) (le_holds m (base + 16 * i) b (omega (arith, p, q, entry_room)));
              end = subst (λ (x : ℕ). Holds m (base + 16 * i + 8) (bytes64 x)) e (le_holds m (base + 16 * i + 8) b (omega (arith, p, q, entry_room)));
            }

        held : Holds m base (certificate ps)
        held = subst (Holds m base) (sym (own_ends (ordered ps) order_lined)) (entries_held m base (ordered ps) (λ i g. entry_here i (omega (arith, count))))

        module _ (c : all (λ i. not (lives_inside (entry_at m base) (entry_end m base) n i)) n ≡ true) where
          -- one behind another in line at a greater address
          later : (x y : ℕ) → x < n → y < n → (entry_at m base x).address < (entry_at m base y).address → x < y
          later x y g k a = go (cases_lt x y)
            where
              go : (x < y) ⊎ (y ≤ x) → x < y
              go (inl c) = c
              go (inr c) = same (cases_lt y x)
                where
                  same : (y < x) ⊎ (x ≤ y) → x < y
                  same (inl d) = absurd (omega (arith, (l.ahead y x d g).by_address))
                  same (inr d) = let e : x ≡ y = omega arith in absurd (omega (arith, ap (λ (i : ℕ). (entry_at m base i).address) e))

          clear : (x y : ℕ) → x < n → y < n → (entry_at m base x).address < (entry_at m base y).address → (entry_at m base y).address < (entry_at m base x).address + le64 m (piece_at m base x) → meets (entry_at m base x) (entry_at m base y) ≡ false
          clear x y g k a d = is_false (meets (entry_at m base x) (entry_at m base y)) (λ e.
              not_both (not-true (lives_inside (entry_at m base) (entry_end m base) n x) (each (λ i. not (lives_inside (entry_at m base) (entry_end m base) n i)) n c x g))
              ((lives_among_is n (entry_at m base) (x + 1) (entry_at m base x) ((entry_at m base x).address + le64 m (piece_at m base x)) (omega arith)).1
              (record { index = y; low = omega (arith, later x y g k a); high = k; below = d; is = e })))

          none : NoneInside (length (ordered ps)) (λ i. (entry (ordered ps) i).piece)
          none x y g k a c =
              let gx : x < n = omega (arith, count) in
              let ky : y < n = omega (arith, count) in
              let ex : entry_at m base x ≡ (entry (ordered ps) x).piece.at = located_entry x gx in
              let ey : entry_at m base y ≡ (entry (ordered ps) y).piece.at = located_entry y ky in
              let ax : (entry_at m base x).address ≡ (entry (ordered ps) x).piece.at.address = ap (λ (v : Location). v.address) ex in
              let ay : (entry_at m base y).address ≡ (entry (ordered ps) y).piece.at.address = ap (λ (v : Location). v.address) ey in
              let w : le64 m (piece_at m base x) ≡ length (entry (ordered ps) x).piece.bytes = long x gx ∙ ap (λ (x : Piece). length x.bytes) (sym (pieces_are x gx)) in
              (λ i. meets (sym ex i) (sym ey i)) ∙ clear x y gx ky (omega arith) (omega arith)

          pub tested_right : order_right m h ≡ true
          tested_right = and_true ((ordered_free ps order_lined).1 none) (holds_stands m (work_at h.capacity) (certificate ps) (subst (λ (k : ℕ). Holds m k (certificate (pieces_in m h))) p held))

    -- ── and are passed ──

    module _ (o : order_right m h ≡ true) where
      pub right_stored : Stored m h n
      right_stored =
          let x = both (free ps) (certified m h.capacity ps) o in
          record {
            sound = t;
            apart = x.0;
            certified = stands_holds m (work_at h.capacity) (certificate ps) x.1;
            counted = q;
            some_nodes = f.few_nodes;
            some_entries = f.few_entries;
            log_room = log_room;
            room = omega (arith, q, entry_room);
          }

      pub right_entries : all (entry_right m base h.payload) n ≡ true
      right_entries = all_each (entry_right m base h.payload) n one
        where
          one : (i : ℕ) → i < n → entry_right m base h.payload i ≡ true
          one i l =
              let s = right_stored in
              let some = stored.stored_some m b h n s base p i l in
              let long = stored.stored_length m b h n s base p i l in
              and_true (lt-ltb (num i) h.payload (stored.number_inside m b h n s base p i l))
              (and_true (negated (ne_eqb (le64 m (piece_at m base i)) 0 (λ e. omega (arith, long, some))))
              (eq-eqb (le64 m (base + 16 * i + 8)) (le64 m (piece_at m base i + 40)) (stored.stored_end m b h n s base p i l)))

      pub right_line : in_line (entry_at m base) (n - 1) ≡ true
      right_line = (tested_line right_entries).1 (stored.stored_lined m b h n right_stored base p)

      pub right_none : all (λ i. not (lives_inside (entry_at m base) (entry_end m base) n i)) n ≡ true
      right_none = all_each (λ i. not (lives_inside (entry_at m base) (entry_end m base) n i)) n (λ i l. negated (is_false (lives_inside (entry_at m base) (entry_end m base) n i) (λ e. go i l ((lives_among_is n (entry_at m base) (i + 1) (entry_at m base i) ((entry_at m base i).address + le64 m (piece_at m base i)) (omega arith)).0 e))))
        where
          s : Stored m h n
          s = right_stored

          count : n ≡ length (ordered ps)
          count = stored.stored_count m b h n s

          lined : Lined n (entry_at m base)
          lined = stored.stored_lined m b h n s base p

          go : (i : ℕ) → i < n → LivesAmong n (entry_at m base) (i + 1) (entry_at m base i) ((entry_at m base i).address + le64 m (piece_at m base i)) → ⊥
          go i l w =
              let j : ℕ = w.index in
              let ei : entry_at m base i ≡ (entry (ordered ps) i).piece.at = stored.stored_location m b h n s base p i l in
              let ej : entry_at m base j ≡ (entry (ordered ps) j).piece.at = stored.stored_location m b h n s base p j w.high in
              let ai : (entry_at m base i).address ≡ (entry (ordered ps) i).piece.at.address = ap (λ (v : Location). v.address) ei in
              let aj : (entry_at m base j).address ≡ (entry (ordered ps) j).piece.at.address = ap (λ (v : Location). v.address) ej in
              let k : le64 m (piece_at m base i) ≡ length (entry (ordered ps) i).piece.bytes = stored.stored_length m b h n s base p i l in
              let d : Ahead (entry_at m base i) (entry_at m base j) = lined.ahead i j (omega (arith, w.low)) w.high in
              let free_is : free ps ≡ true = s.apart in
              let none : NoneInside (length (ordered ps)) (λ x. (entry (ordered ps) x).piece) = (ordered_free ps (stored.in_line m b h n s)).0 free_is in
              apart i j ei ej d w.is (λ less. none i j (omega (arith, count)) (omega (arith, w.high, count)) less (omega (arith, w.below)))
            where
              -- at one address they do not live together
              apart : (i j : ℕ) → entry_at m base i ≡ (entry (ordered ps) i).piece.at → entry_at m base j ≡ (entry (ordered ps) j).piece.at → Ahead (entry_at m base i) (entry_at m base j)
                  → meets (entry_at m base i) (entry_at m base j) ≡ true
                  → ((entry (ordered ps) i).piece.at.address < (entry (ordered ps) j).piece.at.address → meets (entry (ordered ps) i).piece.at (entry (ordered ps) j).piece.at ≡ false) → ⊥
              apart i j ei ej d e g = split (cases_lt (entry_at m base i).address (entry_at m base j).address)
                where
                  ai : (entry_at m base i).address ≡ (entry (ordered ps) i).piece.at.address
                  ai = ap (λ (v : Location). v.address) ei

                  aj : (entry_at m base j).address ≡ (entry (ordered ps) j).piece.at.address
                  aj = ap (λ (v : Location). v.address) ej

                  split : ((entry_at m base i).address < (entry_at m base j).address) ⊎ ((entry_at m base j).address ≤ (entry_at m base i).address) → ⊥
                  split (inl c) = not_both ((λ x. meets (ei x) (ej x)) ∙ g (omega (arith, ai, aj))) e
                  split (inr c) =
                      let u : (entry_at m base i).address ≡ (entry_at m base j).address = omega (arith, d.by_address) in
                      omega (arith, d.by_life u, ((meets_is (entry_at m base i) (entry_at m base j)).0 e).right)

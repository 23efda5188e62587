-- New pieces entered into a certificate in memory: what stands where after each. Assumes nothing.
use Prim.Native.Nat.{ℕ, suc, ◌+◌, ◌-◌, ◌*◌, ◌≤◌, ◌<◌}
use native.Mathlib.Omega.{arith}
use mathlib.Core.Path.{◌≡◌, refl, sym, ap, ◌∙◌, subst}
use mathlib.Core.Logic.{inl}
use mathlib.Core.List.{List, [], ◌∷◌, ◌++◌}
use lib.ListN.{length, get_or, take, drop, length-drop}
use lib.Seq.{sets, length-sets, length-take-le}
use Rattle.words.specs.Words.{le64, bytes64}
use Rattle.words.specs.Holding.{Holds}
use Rattle.words.proofs.Parts.{le64_sets_other}
use Rattle.definitions.specs.Location.{Location, location_at}
use Rattle.definitions.specs.Blocks.{Piece}
use Rattle.definitions.specs.Runs.{Alive}
use Rattle.definitions.specs.Conflicts.{free}
use Rattle.memory_header.specs.Layout.{Header, work_at}
use Rattle.memory_header.proofs.Numbers.{part_other}
use Rattle.location.proofs.Bytes.{location_other}
use Rattle.conflicts.specs.Lined.{first_from, Ahead, Lined}
use Rattle.conflicts.specs.Order.{Entry, ordered, certificate, nth}
use Rattle.conflicts.specs.Promises.{own_bytes}
use Rattle.conflicts.proofs.Entering.{behind, behind_upto, own_append, own_length}
use Rattle.lined_locations.specs.declared.LineKind.TheVariants.{Logged}
use Rattle.lined_locations.specs.Places.{number_at, Within}
use Rattle.index_memory.specs.Log.{piece_in, log_in}
use Rattle.index_memory.proofs.LogBytes.{log_sound_is, length_log_in, log_append}
use Rattle.certificate.specs.Entries.{entry_at}
use Rattle.certificate.specs.Stored.{pieces_in}
use Rattle.certificate.proofs.Bytes.{log_nth}
use Rattle.certificate.proofs.Stored.{all_sound, stored_count, number_inside, stored_location, stored_lined}
use Rattle.ordering.specs.Entering.{all_pieces, Entering}
use Rattle.ordering.proofs.Writes.{part, moved, sets_before, length_entry}
use Rattle.ordering.proofs.Merging.{Coming, Merged, merge_start, merge_turn, merge_end, place}
use Rattle.ordering.proofs.Standing.{own_certificate, own_next, old_part, old_kept}

-- the new pieces
abbrev pub new_pieces : List ℕ → Header → ℕ → List Piece
new_pieces m h new = log_in m new (64 + 48 * h.payload)

-- j of them are entered: the first `upto` entries are as they were, and there is room before the others for those to come
pub record Moving (m₀ : List ℕ) (h : Header) (count new : ℕ) (m : List ℕ) (upto j : ℕ) : Type 0 where
  pub merged : List Entry
  pub order : Merged (pieces_in m₀ h) (new_pieces m₀ h new) upto j merged
  pub old : upto ≤ count
  pub few : j ≤ new
  pub long : length m ≡ length m₀
  pub memory : m ≡ sets m₀ (work_at h.capacity + 16 * (upto + (new - j))) (own_bytes merged)

-- the first of locations in line are in line
lined_first : (n k : ℕ) (at at' : ℕ → Location) → k ≤ n → ((i : ℕ) → i < k → at i ≡ at' i) → Lined n at → Lined k at'
lined_first n k at at' h f s = record {
  ahead = λ i j l o. subst (λ (x : Location). Ahead x (at' j)) (f i (omega arith)) (subst (Ahead (at i)) (f j o) (s.ahead i j l (omega arith)));
  alive = λ i l. subst (λ (x : Location). x.created < x.destroyed) (f i l) (s.alive i (omega arith));
}

module _ (m₀ : List ℕ) (b : (k : ℕ) → get_or m₀ k 0 < 256) (h : Header) (count new : ℕ) (s : Entering m₀ h count new) where
  abbrev base : ℕ
  base = work_at h.capacity

  abbrev ps : List Piece
  ps = pieces_in m₀ h

  abbrev news : List Piece
  news = new_pieces m₀ h new

  abbrev es : List Entry
  es = ordered ps

  -- ── the pieces ──

  whole : all_pieces m₀ h new ≡ ps ++ news
  whole = log_append m₀ h.payload new 64

  old_count : length ps ≡ h.payload
  old_count = length_log_in m₀ h.payload 64

  new_count : length news ≡ new
  new_count = length_log_in m₀ new (64 + 48 * h.payload)

  entries : count ≡ length es
  entries = stored_count m₀ b h count s.stored

  new_piece : (j : ℕ) → j < new → nth (all_pieces m₀ h new) (h.payload + j) ≡ nth news j
  new_piece j l =
      let e : 64 + 48 * (h.payload + j) ≡ 64 + 48 * h.payload + 48 * j = omega arith in
      log_nth m₀ (h.payload + new) 64 (h.payload + j) (omega arith) ∙ ap (piece_in m₀) e ∙ sym (log_nth m₀ new (64 + 48 * h.payload) j l)

  all_alive : Alive (all_pieces m₀ h new)
  all_alive p k = (log_sound_is m₀ (h.payload + new) 64 (omega (arith, s.log_room, s.room)) s.sound p k).alive

  coming : Coming ps news
  coming = record {
    alive = subst Alive whole all_alive;
    apart = ap free (sym whole) ∙ s.apart;
    some = λ j l. subst (λ (p : Piece). 0 < length p.bytes) (new_piece j (omega (arith, new_count))) (s.some j (omega (arith, new_count)));
    descend = λ j l. subst (λ (p : Piece). p.at.address < (nth news j).at.address) (new_piece (suc j) (omega (arith, new_count))) (subst (λ (p : Piece). (nth (all_pieces m₀ h new) (h.payload + suc j)).at.address < p.at.address) (new_piece j (omega (arith, new_count))) (s.descend j (omega (arith, new_count))));
  }

  -- the entries as they stood
  held : Holds m₀ base (own_bytes es)
  held = subst (Holds m₀ base) (own_certificate ps (λ p k. (all_sound m₀ b h count s.stored p k).alive) s.stored.apart) s.stored.certified

  -- ── the first of all, and the last ──

  pub moving_start : Moving m₀ h count new m₀ count 0
  unfolding own_bytes
  moving_start = record { merged = []; order = merge_start ps news count entries; old = omega arith; few = omega arith; long = refl; memory = refl }

  module _ (m : List ℕ) (upto j : ℕ) (w : Moving m₀ h count new m upto j) where
    pub moving_end : j ≡ new → m ≡ sets m₀ (work_at h.capacity) (certificate (all_pieces m₀ h new))
    moving_end e =
        let z : base + 16 * (upto + (new - j)) ≡ base + 16 * upto = omega (arith, w.few) in
        w.memory ∙ ap (λ (k : ℕ). sets m₀ k (own_bytes w.merged)) z
        ∙ old_kept m₀ base es held upto w.order.some_old (omega (arith, w.old, s.room)) w.merged
        ∙ ap (λ (l : List Entry). sets m₀ base (own_bytes l)) (sym (ap ordered whole ∙ merge_end ps news upto j w.merged w.order (omega (arith, new_count))))
        ∙ ap (sets m₀ base) (sym (own_certificate (all_pieces m₀ h new) all_alive s.apart))

    -- ── the line of the entries that stand as they were ──

    abbrev at : ℕ
    at = base + 16 * (upto + (new - j))

    old_length : length (take upto es) ≡ upto
    old_length = length-take-le upto es w.order.some_old

    same_number : (i : ℕ) → i < upto → number_at m base i ≡ number_at m₀ base i
    same_number i l = ap (λ (x : List ℕ). le64 x (base + 16 * i)) w.memory ∙ le64_sets_other (own_bytes w.merged) m₀ at (base + 16 * i) (inl (omega arith))

    inside : (i : ℕ) → i < upto → number_at m₀ base i < h.payload
    inside i l = number_inside m₀ b h count s.stored base refl i (omega (arith, w.old))

    same_place : (p : ℕ) → p + 24 ≤ base → location_at m p ≡ location_at m₀ p
    same_place p l = ap (λ (x : List ℕ). location_at x p) w.memory ∙ location_other (own_bytes w.merged) m₀ at p (inl (omega arith))

    same_location : (i : ℕ) → i < upto → entry_at m₀ base i ≡ entry_at m base i
    same_location i l =
        let p : ℕ = 64 + 48 * number_at m₀ base i + 24 in
        let e : 64 + 48 * number_at m base i + 24 ≡ p = omega (arith, same_number i l) in
        sym (same_place p (omega (arith, inside i l, s.stored.log_room))) ∙ ap (location_at m) (sym e)

    pub moving_within : Within Logged m (work_at h.capacity) upto
    moving_within = record {
      numbers = λ e. omega (arith, w.old, w.long, s.room);
      places = λ i l. omega (arith, same_number i l, inside i l, s.stored.log_room, s.room, w.long);
    }

    pub moving_lined : Lined upto (entry_at m (work_at h.capacity))
    moving_lined = lined_first count upto (entry_at m₀ base) (entry_at m base) w.old same_location (stored_lined m₀ b h count s.stored base refl)

    -- ── the next piece ──

    module _ (l : j < new) where
      pub moving_piece : location_at m (64 + 48 * (h.payload + j) + 24) ≡ (nth (new_pieces m₀ h new) j).at
      moving_piece =
          same_place (64 + 48 * (h.payload + j) + 24) (omega (arith, s.log_room))
          ∙ ap (λ (p : Piece). p.at) (sym (log_nth m₀ (h.payload + new) 64 (h.payload + j) (omega arith)) ∙ new_piece j l)

      abbrev found : ℕ → Type 0
      found k = k ≡ first_from (entry_at m (work_at h.capacity)) upto 0 (nth (new_pieces m₀ h new) j).at.address (nth (new_pieces m₀ h new) j).at.created

      behind_it : (k : ℕ) → found k → k ≡ behind (nth news j).at (take upto es)
      behind_it k e = e ∙ place ps news coming upto j w.merged w.order (omega (arith, new_count)) (entry_at m base) (λ i o. sym (same_location i o) ∙ stored_location m₀ b h count s.stored base refl i (omega (arith, w.old)))

      module _ (k : ℕ) (e : found k) where
        pub moving_low : k ≤ upto
        moving_low = omega (arith, behind_it k e, behind_upto (nth news j).at (take upto es), old_length)

        -- the entries from its place on, moved, and its own before them
        pub moving_turn : (m₁ m₂ : List ℕ) (number end : ℕ) → number ≡ h.payload + j → end ≡ (nth (new_pieces m₀ h new) j).at.destroyed → m₁ ≡ moved m (work_at h.capacity) k upto (new - j) → m₂ ≡ sets m₁ (work_at h.capacity + 16 * (k + new - j - 1)) (bytes64 number ++ bytes64 end) → Moving m₀ h count new m₂ k (j + 1)
        moving_turn m₁ m₂ number end n d u v = record {
          merged = next ∷ (rest ++ w.merged);
          order = merge_turn ps news coming upto j w.merged w.order (omega (arith, new_count)) number (omega (arith, old_count)) k (behind_it k e);
          old = omega (arith, moving_low, w.old);
          few = omega arith;
          long = ap length after ∙ length-sets m₀ (base + 16 * (k + (new - (j + 1)))) (own_bytes (next ∷ (rest ++ w.merged)));
          memory = after;
        }
          where
            rest : List Entry
            rest = drop k (take upto es)

            next : Entry
            next = record { number = number; piece = nth news j }

            moved_bytes : part m base k upto ≡ own_bytes rest
            moved_bytes =
                ap (λ (l : List ℕ). part l base k upto) w.memory
                ∙ part_other (16 * (upto - k)) (base + 16 * k) (own_bytes w.merged) m₀ at (inl (omega (arith, moving_low)))
                ∙ old_part m₀ base es held upto w.order.some_old (omega (arith, w.old, s.room)) k moving_low

            before : m₁ ≡ sets m₀ (base + 16 * (k + (new - j))) (own_bytes (rest ++ w.merged))
            before =
                u ∙ ap (sets m (base + 16 * (k + (new - j)))) moved_bytes
                ∙ ap (λ (l : List ℕ). sets l (base + 16 * (k + (new - j))) (own_bytes rest)) w.memory
                ∙ sets_before (own_bytes rest) (own_bytes w.merged) m₀ (base + 16 * (k + (new - j))) at (omega (arith, own_length rest, length-drop k (take upto es), old_length, moving_low))
                ∙ ap (sets m₀ (base + 16 * (k + (new - j)))) (sym (own_append rest w.merged))

            bytes : (bytes64 number ++ bytes64 end) ++ own_bytes (rest ++ w.merged) ≡ own_bytes (next ∷ (rest ++ w.merged))
            bytes = ap (λ (x : ℕ). (bytes64 number ++ bytes64 x) ++ own_bytes (rest ++ w.merged)) d ∙ own_next next (rest ++ w.merged)

            after : m₂ ≡ sets m₀ (base + 16 * (k + (new - (j + 1)))) (own_bytes (next ∷ (rest ++ w.merged)))
            after =
                let z : base + 16 * (k + new - j - 1) ≡ base + 16 * (k + (new - (j + 1))) = omega arith in
                v ∙ ap (λ (l : List ℕ). sets l (base + 16 * (k + new - j - 1)) (bytes64 number ++ bytes64 end)) before
                ∙ ap (λ (p : ℕ). sets (sets m₀ (base + 16 * (k + (new - j))) (own_bytes (rest ++ w.merged))) p (bytes64 number ++ bytes64 end)) z
                ∙ sets_before (bytes64 number ++ bytes64 end) (own_bytes (rest ++ w.merged)) m₀ (base + 16 * (k + (new - (j + 1)))) (base + 16 * (k + (new - j))) (omega (arith, length_entry number end))
                ∙ ap (sets m₀ (base + 16 * (k + (new - (j + 1))))) bytes

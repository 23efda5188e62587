-- New pieces whose addresses descend, entered into the order of others: each goes before the one entered last. Assumes nothing.
use Prim.Native.Nat.{ℕ, suc, ◌+◌, ◌-◌, ◌≤◌, ◌<◌}
use native.Mathlib.Numerals.{add-one}
use native.Mathlib.Omega.{arith}
use mathlib.Core.Path.{◌≡◌, sym, ap, ◌∙◌, subst}
use mathlib.Core.Bool.{Bool, true, cond}
use mathlib.Core.List.{List, [], ◌∷◌, ◌++◌, append_assoc, append-nil}
use lib.ListN.{length, take, drop, length-append, length-drop, get_or-append}
use lib.Seq.{length-take-le, take-length, take-suc, take-take, get_or-take, get_or-append-add}
use borrow.Author.Tests.{ne_eqb}
use Rattle.definitions.specs.Location.{Location}
use Rattle.definitions.specs.Blocks.{Piece}
use Rattle.definitions.specs.Runs.{Alive}
use Rattle.definitions.specs.Conflicts.{conflicting, free}
use Rattle.definitions.proofs.Tests.{not_both}
use Rattle.definitions.proofs.Sharing.{facts_share}
use Rattle.location.proofs.Order.{by_address_lt}
use Rattle.conflicts.specs.Lined.{first_from}
use Rattle.conflicts.specs.Order.{Entry, enter, enter_piece, enter_all, ordered, nothing, nth, entry}
use Rattle.conflicts.specs.Promises.{Entered}
use Rattle.conflicts.proofs.Numbers.{at_member}
use Rattle.conflicts.proofs.Numbered.{free_numbers}
use Rattle.conflicts.proofs.Order.{ordered_append, ordered_entered, enter_append}
use Rattle.conflicts.proofs.Entering.{behind, behind_upto, behind_first, enter_splits, BeforeFirst, enter_before}

-- new pieces behind others: alive, free of conflicts, each with a byte, by address from the highest down
pub record Coming (ps new : List Piece) : Type 0 where
  pub alive : Alive (ps ++ new)
  pub apart : free (ps ++ new) ≡ true
  pub some : (j : ℕ) → j < length new → 0 < length (nth new j).bytes
  pub descend : (j : ℕ) → suc j < length new → (nth new (suc j)).at.address < (nth new j).at.address

-- j new pieces are entered: the first `upto` entries are those of old, behind them stand the others
pub record Merged (ps new : List Piece) (upto j : ℕ) (merged : List Entry) : Type 0 where
  pub some_old : upto ≤ length (ordered ps)
  pub some_new : j ≤ length new
  pub is : enter_all (length ps) (take j new) (ordered ps) ≡ take upto (ordered ps) ++ merged
  pub long : upto + length merged ≡ length (ordered ps) + j
  pub first : (e : Entry) → (0 < j → e.piece.at.address < (nth new (j - 1)).at.address) → BeforeFirst e merged

pub merge_start : (ps new : List Piece) (upto : ℕ) → upto ≡ length (ordered ps) → Merged ps new upto 0 []
unfolding enter_all
merge_start ps new upto e = record {
  some_old = omega arith;
  some_new = omega arith;
  is = sym (append-nil (take upto (ordered ps)) ∙ ap (λ (n : ℕ). take n (ordered ps)) e ∙ take-length (ordered ps));
  long = omega arith;
  first = λ e h. tt;
}

pub merge_end : (ps new : List Piece) (upto j : ℕ) (merged : List Entry) → Merged ps new upto j merged → j ≡ length new → ordered (ps ++ new) ≡ take upto (ordered ps) ++ merged
merge_end ps new upto j merged w e =
    ordered_append ps new ∙ ap (λ (l : List Piece). enter_all (length ps) l (ordered ps)) (sym (ap (λ (n : ℕ). take n new) e ∙ take-length new)) ∙ w.is

-- a piece with a byte is entered
entered : (k : ℕ) (p : Piece) (es : List Entry) → 0 < length p.bytes → enter_piece k p es ≡ enter (record { number = k; piece = p }) es
entered k p es h = ap (λ (o : Bool). cond o es (enter (record { number = k; piece = p }) es)) (ne_eqb (length p.bytes) 0 (λ e. omega arith))

-- one more piece is entered behind the others
one_more : (k m j : ℕ) (new : List Piece) (es : List Entry) → j < length new → m ≡ k + j → 0 < length (nth new j).bytes → enter_all k (take (j + 1) new) es ≡ enter (record { number = m; piece = nth new j }) (enter_all k (take j new) es)
unfolding enter_all
one_more k m j new es h e s =
    ap (λ (n : ℕ). enter_all k (take n new) es) (add-one j)
    ∙ ap (λ (l : List Piece). enter_all k l es) (take-suc new j nothing h)
    ∙ enter_append k m (take j new) (nth new j ∷ []) es (omega (arith, length-take-le j new (omega arith)))
    ∙ entered m (nth new j) (enter_all k (take j new) es) s

module _ (ps new : List Piece) (c : Coming ps new) (upto j : ℕ) (merged : List Entry) (w : Merged ps new upto j merged) (l : j < length new) where
  abbrev es : List Entry
  es = ordered ps

  -- the entries before those that stand at their place
  abbrev old : List Entry
  old = take upto (ordered ps)

  -- ── its place ──

  old_length : length old ≡ upto
  old_length = length-take-le upto es w.some_old

  old_entry : (i : ℕ) → i < upto → entry old i ≡ entry es i
  old_entry i h = get_or-take upto es i (record { number = 0; piece = nothing }) h

  all_length : length (ps ++ new) ≡ length ps + length new
  all_length = length-append ps new

  new_piece : nth (ps ++ new) (length ps + j) ≡ nth new j
  new_piece = get_or-append-add ps new j nothing

  -- an entry at its address and creation would conflict with it
  different : (i : ℕ) → i < length es → (entry es i).piece.at.address ≡ (nth new j).at.address → (entry es i).piece.at.created ≡ (nth new j).at.created → ⊥
  different i h a d = not_both ((free_numbers (ps ++ new)).0 c.apart number (length ps + j) (omega (arith, e.inside)) (omega (arith, all_length))) (subst (λ (p : Piece). conflicting p (nth (ps ++ new) (length ps + j)) ≡ true) (sym there) (subst (λ (p : Piece). conflicting x p ≡ true) (sym new_piece) (facts_share x y (record {
    low = omega (arith, e.some);
    low' = omega (arith, c.some j l);
    across = omega (arith, c.some j l);
    across' = omega (arith, e.some);
    born = born;
    born' = born';
    before = omega (arith, born');
    before' = omega (arith, born);
  }))))
    where
      number : ℕ
      number = (entry es i).number

      x : Piece
      x = (entry es i).piece

      y : Piece
      y = nth new j

      e : Entered ps (entry es i)
      e = ordered_entered ps i h

      there : nth (ps ++ new) number ≡ x
      there = get_or-append ps new nothing number e.inside ∙ e.piece

      born : x.at.created < x.at.destroyed
      born = subst (λ (p : Piece). p.at.created < p.at.destroyed) there (c.alive (nth (ps ++ new) number) (at_member (ps ++ new) nothing number (omega (arith, e.inside, all_length))))

      born' : y.at.created < y.at.destroyed
      born' = subst (λ (p : Piece). p.at.created < p.at.destroyed) new_piece (c.alive (nth (ps ++ new) (length ps + j)) (at_member (ps ++ new) nothing (length ps + j) (omega (arith, all_length))))

  -- where it goes among locations in line that are those of the entries
  pub place : (at : ℕ → Location) → ((i : ℕ) → i < upto → at i ≡ (entry (ordered ps) i).piece.at) → first_from at upto 0 (nth new j).at.address (nth new j).at.created ≡ behind (nth new j).at (take upto (ordered ps))
  place at f =
      ap (λ (n : ℕ). first_from at n 0 (nth new j).at.address (nth new j).at.created) (sym old_length)
      ∙ behind_first at (nth new j).at old 0 here there
      ∙ omega arith
    where
      here : (i k : ℕ) → k ≡ 0 + i → i < length old → at k ≡ (entry old i).piece.at
      here i k e h =
          let q : k ≡ i = omega arith in
          ap at q ∙ f i (omega (arith, old_length)) ∙ ap (λ (x : Entry). x.piece.at) (sym (old_entry i (omega (arith, old_length))))

      there : (i : ℕ) → i < length old → (entry old i).piece.at.address ≡ (nth new j).at.address → (entry old i).piece.at.created ≡ (nth new j).at.created → ⊥
      there i h a d =
          let q : entry old i ≡ entry es i = old_entry i (omega (arith, old_length)) in
          different i (omega (arith, old_length, w.some_old)) (ap (λ (x : Entry). x.piece.at.address) (sym q) ∙ a) (ap (λ (x : Entry). x.piece.at.created) (sym q) ∙ d)

  -- ── entering it ──

  module _ (number : ℕ) (n : number ≡ length ps + j) where
    abbrev next : Entry
    next = record { number = number; piece = nth new j }

    -- it comes before those entered already
    before_first : BeforeFirst next merged
    before_first = w.first next (λ h. let q : suc (j - 1) ≡ j = omega arith in subst (λ (i : ℕ). (nth new i).at.address < (nth new (j - 1)).at.address) q (c.descend (j - 1) (omega arith)))

    -- behind it stand those that came after its place, then those entered already
    pub merge_turn : (k : ℕ) → k ≡ behind (nth new j).at (take upto (ordered ps)) → Merged ps new k (j + 1) (record { number = number; piece = nth new j } ∷ (drop k (take upto (ordered ps)) ++ merged))
    merge_turn k q = record {
      some_old = omega (arith, w.some_old, low);
      some_new = omega arith;
      is = one_more (length ps) number j new es l n (c.some j l) ∙ ap (enter next) w.is ∙ enter_before next old merged before_first ∙ ap (λ (l : List Entry). l ++ merged) split ∙ append_assoc (take k es) (next ∷ drop k old) merged;
      long = omega (arith, length-append (drop k old) merged, length-drop k old, old_length, low, w.long);
      first = λ e h. sym (by_address_lt e.piece.at (nth new j).at (let z : j + 1 - 1 ≡ j = omega arith in subst (λ (i : ℕ). e.piece.at.address < (nth new i).at.address) z (h (omega arith))));
    }
      where
        low : k ≤ upto
        low = omega (arith, behind_upto (nth new j).at old, old_length)

        split : enter next old ≡ take k es ++ (next ∷ drop k old)
        split =
            enter_splits next old ∙ ap (λ (i : ℕ). take i old ++ (next ∷ drop i old)) (sym q)
            ∙ ap (λ (l : List Entry). l ++ (next ∷ drop k old)) (take-take k upto es low)

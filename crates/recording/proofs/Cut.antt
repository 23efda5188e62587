-- The pieces of a block by their number, and what they charge together. Assumes nothing.
use Prim.Native.Nat.{ℕ, zero, suc, ◌+◌, ◌-◌, ◌*◌, ◌/◌, ◌%◌, ◌≤◌, ◌<◌}
use native.Mathlib.Nat.{not-suc-le-zero}
use native.Mathlib.Omega.{arith}
use mathlib.Core.Path.{◌≡◌, refl, sym, ap, ◌∙◌}
use mathlib.Core.Bool.{Bool, true, false, cond}
use mathlib.Core.Logic.{◌⊎◌, inl, inr}
use mathlib.Core.List.{List, [], ◌∷◌, ◌++◌}
use lib.ListN.{length, take, drop, length-take, length-drop}
use lib.Seq.{take_all, drop-drop}
use lib.Dec.{leb}
use Rattle.std.proofs.lemmas.Bool.{cases_lt}
use Rattle.definitions.specs.Location.{Location, moved}
use Rattle.definitions.specs.Blocks.{Block, Piece, cut, pieces, node_charge, entry_charge, charge}
use Rattle.definitions.proofs.Views.{Le, le}
use Rattle.definitions.proofs.Tallied.{charge_append}
use Rattle.recording.specs.Cut.{part, parts}
use Rattle.judging.specs.Judged.{piece_count, block_nodes}
use Rattle.index_memory.proofs.Charges.{entry_max}
use Rattle.index_memory.proofs.PieceBytes.{piece_path}

-- ---- sums of charges

-- a charge of one for each piece counts them
charge_one : (ps : List Piece) → charge (λ _. 1) ps ≡ length ps
charge_one [] = refl
charge_one (p ∷ ps) = omega (arith, charge_one ps)

-- a total that is right for one piece, and grows by a full piece's charge with each 16 bytes
cut_charge : (f total : ℕ → ℕ) → ((m : ℕ) → m ≤ 16 → f m ≡ total m) → ((m : ℕ) → 16 < m → total (m - 16) + f 16 ≡ total m)
    → (n : ℕ) (l : Location) (bs : List ℕ) → length bs < n → charge f (cut n l bs) ≡ total (length bs)
cut_charge f total one more zero l bs h = absurd (not-suc-le-zero h)
cut_charge f total one more (suc n) l bs h = go (leb (length bs) 16) (le (length bs) 16) (cut_charge f total one more n (moved l 16) (drop 16 bs))
  where
    rest : List Piece
    rest = cut n (moved l 16) (drop 16 bs)

    front : Piece
    front = record { bytes = take 16 bs; at = l }

    go : (o : Bool) → Le o (length bs) 16 → (length (drop 16 bs) < n → charge f rest ≡ total (length (drop 16 bs)))
        → charge f (cond o (record { bytes = bs; at = l } ∷ []) (rest ++ (front ∷ []))) ≡ total (length bs)
    go true v ih = omega (arith, one (length bs) v)
    go false v ih =
        let a : charge f rest ≡ total (length bs - 16) = ih (omega (arith, length-drop 16 bs)) ∙ ap total (length-drop 16 bs) in
        let t : length (take 16 bs) ≡ 16 = omega (arith, length-take 16 bs) in
        let b : f (length (take 16 bs)) ≡ f 16 = ap f t in
        omega (arith, charge_append f rest (front ∷ []), more (length bs) v)

nodes_one : (m : ℕ) → m ≤ 16 → node_charge m ≡ block_nodes m
nodes_one m h = go (cases_lt m 16)
  where
    go : (m < 16) ⊎ (16 ≤ m) → node_charge m ≡ block_nodes m
    go (inl k) =
        let e : m / 16 ≡ 0 = omega arith in
        let f : m % 16 ≡ m = omega arith in
        rw (e, f) (omega arith)
    go (inr k) =
        let e : m ≡ 16 = omega arith in
        rw e

nodes_more : (m : ℕ) → 16 < m → block_nodes (m - 16) + node_charge 16 ≡ block_nodes m
nodes_more m h =
    let e : (m - 16) % 16 ≡ m % 16 = omega arith in
    let f : m / 16 ≡ suc ((m - 16) / 16) = omega arith in
    rw (e, f) (omega arith)

entries_more : (m : ℕ) → 16 < m → entry_charge (m - 16) + entry_charge 16 ≡ entry_charge m
entries_more m h = omega (arith, entry_max (m - 16), entry_max m)

module _ (b : Block) where
  -- the nodes that the pieces of a block charge together
  pub pieces_nodes : charge node_charge (pieces b) ≡ block_nodes (length b.bytes)
  pieces_nodes = cut_charge node_charge block_nodes nodes_one nodes_more (suc (length b.bytes)) b.at b.bytes (omega arith)

  -- the entries
  pub pieces_entries : charge entry_charge (pieces b) ≡ entry_charge (length b.bytes)
  pieces_entries = cut_charge entry_charge entry_charge (λ m h. refl) entries_more (suc (length b.bytes)) b.at b.bytes (omega arith)

  -- how many they are
  pub pieces_length : length (pieces b) ≡ piece_count (length b.bytes)
  pieces_length =
      sym (charge_one (pieces b))
      ∙ cut_charge (λ _. 1) piece_count (λ m h. omega arith) (λ m h. omega arith) (suc (length b.bytes)) b.at b.bytes (omega arith)

-- ---- the pieces by their number

-- what is left of a block behind its first 16 bytes
abbrev behind : Block → Block
behind b = record { bytes = drop 16 b.bytes; at = moved b.at 16 }

part_behind : (b : Block) (k : ℕ) → part (behind b) (16 * k) ≡ part b (16 * suc k)
part_behind b k =
    let e : 16 + 16 * k ≡ 16 * suc k = omega arith in
    let f : take 16 (drop (16 * k) (drop 16 b.bytes)) ≡ take 16 (drop (16 * suc k) b.bytes) =
    ap (take 16) (drop-drop (16 * k) 16 b.bytes ∙ ap (λ (n : ℕ). drop n b.bytes) e) in
    let a : b.at.address + 16 + 16 * k ≡ b.at.address + 16 * suc k = omega arith in
    piece_path f a refl refl

-- the first piece is the last one written
parts_behind : (b : Block) (k : ℕ) → parts b (suc k) ≡ parts (behind b) k ++ (part b 0 ∷ [])
unfolding parts
parts_behind b zero = refl
parts_behind b (suc k) =
    let e = part_behind b k in
    let f = parts_behind b k in
    cc

cut_parts : (n : ℕ) (b : Block) → length b.bytes < n → cut n b.at b.bytes ≡ parts b (piece_count (length b.bytes))
unfolding parts
cut_parts zero b h = absurd (not-suc-le-zero h)
cut_parts (suc n) b h = go (leb (length b.bytes) 16) (le (length b.bytes) 16) (cut_parts n (behind b))
  where
    size : ℕ
    size = length b.bytes

    rest : List Piece
    rest = cut n (moved b.at 16) (drop 16 b.bytes)

    first : part b 0 ≡ record { bytes = take 16 b.bytes; at = b.at }
    first = piece_path refl (omega arith) refl refl

    go : (o : Bool) → Le o size 16 → (length (drop 16 b.bytes) < n → rest ≡ parts (behind b) (piece_count (length (drop 16 b.bytes))))
        → cond o (b ∷ []) (rest ++ (record { bytes = take 16 b.bytes; at = b.at } ∷ [])) ≡ parts b (piece_count size)
    go true v ih =
        let e : piece_count size ≡ 1 = omega arith in
        let f : b ≡ part b 0 = piece_path (sym (take_all 16 b.bytes v)) (omega arith) refl refl in
        ap (λ (p : Piece). p ∷ []) f ∙ sym (ap (parts b) e)
    go false v ih =
        let e : piece_count size ≡ suc (piece_count (length (drop 16 b.bytes))) = omega (arith, length-drop 16 b.bytes) in
        let r = ih (omega (arith, length-drop 16 b.bytes)) in
        let p = parts_behind b (piece_count (length (drop 16 b.bytes))) in
        cc first

-- the pieces of a block, the hindmost first
pub pieces_parts : (b : Block) → pieces b ≡ parts b (piece_count (length b.bytes))
pieces_parts b = cut_parts (suc (length b.bytes)) b (omega arith)

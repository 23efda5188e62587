-- The count behind refusal 10 depends on the set of pieces alone. Assumes nothing.
use Prim.Native.Nat.{ℕ, ◌+◌}
use mathlib.Core.Path.{◌≡◌, refl, ap, ◌∙◌}
use mathlib.Core.List.{List, [], ◌∷◌, Memᴰ as Mem}
use lib.ListN.{length}
use Rattle.definitions.specs.Location.{Location, normal}
use Rattle.definitions.specs.Blocks.{Piece}
use Rattle.definitions.specs.Places.{by_pieces, ends, places, sizes, places_counted}
use Rattle.definitions.proofs.Order.{mem_normal, normal_mem, sorted_normal, same_lists}
use Rattle.definitions.proofs.Joins.{ByPiece, by_pieces_mem, mem_by_pieces}
use Rattle.definitions.proofs.Chains.{SamePieces, places_by_set}

places_more : (ps rs : List Piece) → ((p : Piece) → Mem p ps → Mem p rs) → (q : List ℕ) (ts : List (List Location)) (x : Location) → Mem x (normal (by_pieces ps q ts)) → Mem x (normal (by_pieces rs q ts))
places_more ps rs f q ts x h = go (by_pieces_mem ps q ts (normal_mem (by_pieces ps q ts) h))
  where
    go : ByPiece ps q ts x → Mem x (normal (by_pieces rs q ts))
    go k = mem_normal (by_pieces rs q ts) (mem_by_pieces rs q ts k.piece (f k.piece k.listed) k.by)

ends_by_set : (ps rs : List Piece) → SamePieces ps rs → (q : List ℕ) → ends ps q ≡ ends rs q
ends_by_set ps rs s [] = refl
ends_by_set ps rs s (b ∷ q) =
    let e : ends ps q ≡ ends rs q = ends_by_set ps rs s q in
    let f : normal (by_pieces ps (b ∷ q) (ends ps q)) ≡ normal (by_pieces rs (b ∷ q) (ends ps q)) =
    same_lists (normal (by_pieces ps (b ∷ q) (ends ps q))) (normal (by_pieces rs (b ∷ q) (ends ps q)))
    (sorted_normal (by_pieces ps (b ∷ q) (ends ps q))) (sorted_normal (by_pieces rs (b ∷ q) (ends ps q)))
    (places_more ps rs s.to (b ∷ q) (ends ps q)) (places_more rs ps s.fro (b ∷ q) (ends ps q)) in
    ap (λ (t : List Location). t ∷ ends ps q) f ∙ ap (λ (ts : List (List Location)). normal (by_pieces rs (b ∷ q) ts) ∷ ts) e

pub counted_by_set : (ps rs : List Piece) → SamePieces ps rs → (q : List ℕ) → places_counted ps q ≡ places_counted rs q
counted_by_set ps rs s [] = refl
counted_by_set ps rs s (b ∷ q) =
    ap (λ (t : List Location). length t + sizes (ends ps q)) (places_by_set ps rs s (b ∷ q))
    ∙ ap (λ (ts : List (List Location)). length (places rs (b ∷ q)) + sizes ts) (ends_by_set ps rs s q)

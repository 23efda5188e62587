-- The replies with a search's places: how long they are, and one place more.
use Prim.Native.Nat.{ℕ, ◌+◌, ◌*◌, ◌≤◌}
use native.Mathlib.Omega.{arith}
use mathlib.Core.Path.{◌≡◌, refl, sym, ap, ◌∙◌}
use mathlib.Core.List.{List, [], ◌∷◌, ◌++◌, append-nil, append_assoc}
use lib.ListN.{length, length-append}
use Rattle.definitions.specs.Location.{Location, location_at, locations_in}
use Rattle.definitions.specs.Program.{text, decimal, Reply, place, end, place_each, found}
use Rattle.definitions.proofs.Decimal.{dec_decimal, length_dec}
use Rattle.definitions.proofs.Locations.{length_locations, locations_snoc}
use Rattle.replies.specs.Written.{reply_bytes}
use Rattle.replies.specs.Outputs.{Writes}
use Rattle.replies.specs.declared.Output.{Output}
use Rattle.replies.proofs.Writing.{writes_none}
use Rattle.replies.specs.Replies.{replies_bytes}

pub decimal_short : (x : ℕ) → length (decimal x) ≤ 20
decimal_short x = omega (arith, ap length (dec_decimal x), length_dec x)

pub word_short : (W D : List ℕ) → length D ≤ 20 → length (W ++ D ++ text ")" ++ (10 ∷ [])) ≤ length W + 22
word_short W D h = simp length-append (omega arith)

place_short : (A C D : List ℕ) → length A ≤ 20 → length C ≤ 20 → length D ≤ 20 → length (text "(place " ++ A ++ text " " ++ C ++ text " " ++ D ++ text ")" ++ (10 ∷ [])) ≤ 71
place_short A C D a c d = simp length-append (omega arith)

pub length_place : (l : Location) → length (reply_bytes (place l)) ≤ 71
length_place l = place_short (decimal l.address) (decimal l.created) (decimal l.destroyed) (decimal_short l.address) (decimal_short l.created) (decimal_short l.destroyed)

pub length_end : (n : ℕ) → length (reply_bytes (end n)) ≤ 27
length_end n = word_short (text "(end ") (decimal n) (decimal_short n)

pub replies_append : (ps qs : List Reply) → replies_bytes (ps ++ qs) ≡ replies_bytes ps ++ replies_bytes qs
replies_append [] qs = refl
replies_append (p ∷ ps) qs = ap (λ (bs : List ℕ). reply_bytes p ++ bs) (replies_append ps qs) ∙ sym (append_assoc (reply_bytes p) (replies_bytes ps) (replies_bytes qs))

-- one reply behind others
replies_snoc : (ps : List Reply) (p : Reply) → replies_bytes ps ++ reply_bytes p ≡ replies_bytes (ps ++ (p ∷ []))
replies_snoc ps p = ap (λ (bs : List ℕ). replies_bytes ps ++ bs) (sym (append-nil (reply_bytes p))) ∙ sym (replies_append ps (p ∷ []))

place_snoc : (ls : List Location) (l : Location) → place_each (ls ++ (l ∷ [])) ≡ place_each ls ++ (place l ∷ [])
place_snoc [] l = refl
place_snoc (k ∷ ls) l = ap (λ (ps : List Reply). place k ∷ ps) (place_snoc ls l)

-- the bytes of the first n rows
abbrev pub places_bytes : List ℕ → ℕ → List ℕ
places_bytes s n = replies_bytes (place_each (locations_in s n 0))

pub no_places : (s : List ℕ) (out : Output) → Writes out (places_bytes s 0) out
unfolding locations_in
no_places s out = writes_none out

pub place_more : (s : List ℕ) (n : ℕ) → places_bytes s n ++ reply_bytes (place (location_at s (n * 24))) ≡ places_bytes s (n + 1)
place_more s n =
    let e : 0 + n * 24 ≡ n * 24 = omega arith in
    replies_snoc (place_each (locations_in s n 0)) (place (location_at s (n * 24)))
    ∙ ap replies_bytes
    (sym (place_snoc (locations_in s n 0) (location_at s (n * 24))) ∙ ap place_each (ap (λ (p : ℕ). locations_in s n 0 ++ (location_at s p ∷ [])) (sym e) ∙ sym (locations_snoc n s 0)))

pub places_end : (s : List ℕ) (i n : ℕ) → i ≡ n → places_bytes s i ++ reply_bytes (end n) ≡ replies_bytes (found (locations_in s n 0))
places_end s i n e =
    ap (λ (k : ℕ). places_bytes s k ++ reply_bytes (end n)) e
    ∙ replies_snoc (place_each (locations_in s n 0)) (end n)
    ∙ ap (λ (k : ℕ). replies_bytes (place_each (locations_in s n 0) ++ (end k ∷ []))) (sym (length_locations n s 0))

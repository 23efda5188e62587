-- A tail and its record: the record of a tail has that tail, and its numbers are of 64 bits. Assumes nothing.
use Prim.Native.Nat.{ℕ, zero, suc, ◌+◌, ◌-◌, ◌*◌, ◌/◌, ◌%◌, ◌^◌, ◌≤◌, ◌<◌}
use native.Mathlib.Omega.{arith}
use mathlib.Core.Path.{◌≡◌, refl, sym, ap, subst, ◌∙◌}
use mathlib.Core.Bool.{Bool, true, false}
use mathlib.Core.Logic.{◌⊎◌, inl, inr}
use mathlib.Core.List.Memᴰ.{head as here}
use mathlib.Core.List.Memᴰ.{tail as later}
use mathlib.Core.List.{List, [], ◌∷◌, ◌++◌, Memᴰ as Mem}
use lib.ListN.{length, get_or, take, drop, length-append, length-take, get_or-append}
use lib.Seq.{get_or-append-add, get_or-take, get_or-drop, ext_get_or}
use lib.Dec.{eqb}
use borrow.Author.Tests.{eq-eqb, ne_eqb}
use Rattle.std.proofs.lemmas.Bool.{cases_lt}
use Rattle.words.proofs.Laws.{top}
use Rattle.records.proofs.Bytes.{Bytes, Fits}
use Rattle.tails.specs.Tails.{Tail, mark_of, tail_record, tail_records}
use Rattle.tails.proofs.High.{high_lt}
use Rattle.tail_words.specs.Tail.{high_bytes, sixteen, tail_of_record, tails_of, ValidTail, ValidRecord}
use Rattle.tail_words.proofs.High.{length_high_bytes, high_bytes_high}

-- ── the 16 bytes ──

pub length_sixteen : (r : List ℕ) → length (sixteen r) ≡ 16
length_sixteen r =
    omega (arith, length-append (high_bytes 8 (get_or r 0 0)) (high_bytes 8 (get_or r 1 0)), length_high_bytes 8 (get_or r 0 0), length_high_bytes 8 (get_or r 1 0))

module _ (r : List ℕ) (d : ℕ) where
  pub sixteen_first : d < 8 → get_or (sixteen r) d 0 ≡ get_or (high_bytes 8 (get_or r 0 0)) d 0
  sixteen_first l = get_or-append (high_bytes 8 (get_or r 0 0)) (high_bytes 8 (get_or r 1 0)) 0 d (omega (arith, length_high_bytes 8 (get_or r 0 0)))

  pub sixteen_second : 8 ≤ d → get_or (sixteen r) d 0 ≡ get_or (high_bytes 8 (get_or r 1 0)) (d - 8) 0
  sixteen_second l =
      let a : List ℕ = high_bytes 8 (get_or r 0 0) in
      let b : List ℕ = high_bytes 8 (get_or r 1 0) in
      let e : d ≡ length a + (d - 8) = omega (arith, length_high_bytes 8 (get_or r 0 0)) in
      ap (λ (k : ℕ). get_or (a ++ b) k 0) e ∙ get_or-append-add a b (d - 8) 0

-- those of a tail's record are its path, and zeros
pub sixteen_record : (t : Tail) → Bytes t.entry.path → (d : ℕ) → d < 16 → get_or (sixteen (tail_record t)) d 0 ≡ get_or t.entry.path d 0
sixteen_record t b d l = go (cases_lt d 8)
  where
    path : List ℕ
    path = t.entry.path

    rest : Bytes (drop 8 path)
    rest k = rw (get_or-drop 8 path k 0) (b (8 + k))

    go : (d < 8) ⊎ (8 ≤ d) → get_or (sixteen (tail_record t)) d 0 ≡ get_or path d 0
    go (inl h) = sixteen_first (tail_record t) d h ∙ high_bytes_high 8 path d b h
    go (inr h) =
        let e : 8 + (d - 8) ≡ d = omega arith in
        sixteen_second (tail_record t) d h ∙ high_bytes_high 8 (drop 8 path) (d - 8) rest (omega arith) ∙ get_or-drop 8 path (d - 8) 0
        ∙ ap (λ (k : ℕ). get_or path k 0) e

-- ── the third number ──

pub mark_small : (w : Bool) → mark_of w ≤ 1
mark_small true = omega arith
mark_small false = omega arith

mark_whole : (n : ℕ) (w : Bool) → eqb ((2 * n + mark_of w) % 2) 1 ≡ w
mark_whole n true = eq-eqb ((2 * n + 1) % 2) 1 (omega arith)
mark_whole n false = ne_eqb ((2 * n + 0) % 2) 1 (omega arith)

-- ── the record of a tail has that tail ──

pub tail_read : (t : Tail) → length t.entry.path ≤ 16 → Bytes t.entry.path → tail_of_record (tail_record t) ≡ t
unfolding tail_of_record
tail_read t h b = λ i. record { entry = record { path = path_read i; at = t.entry.at; whole = mark_whole n t.entry.whole i }; arrival = t.arrival }
  where
    path : List ℕ
    path = t.entry.path

    n : ℕ
    n = length path

    half : (2 * n + mark_of t.entry.whole) / 2 ≡ n
    half = omega (arith, mark_small t.entry.whole)

    long : length (take n (sixteen (tail_record t))) ≡ n
    long = length-take n (sixteen (tail_record t)) ∙ omega (arith, length_sixteen (tail_record t))

    path_read : take ((2 * n + mark_of t.entry.whole) / 2) (sixteen (tail_record t)) ≡ path
    path_read =
        ap (λ (k : ℕ). take k (sixteen (tail_record t))) half
        ∙ ext_get_or 0 _ _ long (λ d l. get_or-take n (sixteen (tail_record t)) d 0 (omega (arith, long)) ∙ sixteen_record t b d (omega (arith, long)))

pub valid_read : (t : Tail) → ValidTail t → tail_of_record (tail_record t) ≡ t
valid_read t v = tail_read t v.short v.bytes

pub tails_read : (ts : List Tail) → ((t : Tail) → Mem t ts → ValidTail t) → tails_of (tail_records ts) ≡ ts
tails_read [] v = refl
tails_read (t ∷ ts) v =
    let e = valid_read t (v t (here refl)) in
    let r = tails_read ts (λ u m. v u (later m)) in
    cc

-- ── its numbers are of 64 bits ──

pub tail_fits : (t : Tail) → ValidTail t → Fits 7 (tail_record t)
unfolding top
tail_fits t v = record { size = refl; small = small }
  where
    path : List ℕ
    path = t.entry.path

    rest : Bytes (drop 8 path)
    rest k = rw (get_or-drop 8 path k 0) (v.bytes (8 + k))

    small : (k : ℕ) → get_or (tail_record t) k 0 < 2 ^ 64
    small zero = high_lt 8 path v.bytes
    small (suc zero) = high_lt 8 (drop 8 path) rest
    small (suc (suc zero)) = omega (arith, mark_small t.entry.whole, v.short)
    small (suc (suc (suc zero))) = v.location.address
    small (suc (suc (suc (suc zero)))) = v.location.created
    small (suc (suc (suc (suc (suc zero))))) = v.location.destroyed
    small (suc (suc (suc (suc (suc (suc zero)))))) = v.arrival
    small (suc (suc (suc (suc (suc (suc (suc k))))))) = omega arith

pub tail_valid : (t : Tail) → ValidTail t → ValidRecord (tail_record t)
tail_valid t v =
    let e = valid_read t v in
    record { tail = subst ValidTail (sym e) v; same = ap tail_record (sym e) }

pub valid_fits : {r : List ℕ} → ValidRecord r → Fits 7 r
valid_fits {r} v = subst (Fits 7) (sym v.same) (tail_fits (tail_of_record r) v.tail)

pub tails_valid : (ts : List Tail) → ((t : Tail) → Mem t ts → ValidTail t) → (r : List ℕ) → Mem r (tail_records ts) → ValidRecord r
tails_valid [] v r x'' = elim x'' [ ]
tails_valid (t ∷ ts) v r (here e) = subst ValidRecord (sym e) (tail_valid t (v t (here refl)))
tails_valid (t ∷ ts) v r (later m) = tails_valid ts (λ u n. v u (later n)) r m

-- The locations of tails copied one behind the other, all of them or those of whole pieces. Assumes nothing.
use Prim.Native.Nat.{ℕ, suc, ◌+◌, ◌*◌, ◌%◌, ◌≤◌, ◌<◌}
use native.Mathlib.Omega.{arith}
use mathlib.Core.Path.{◌≡◌, refl, sym, ap, subst, ◌∙◌}
use mathlib.Core.Bool.{Bool, true, false, cond}
use mathlib.Core.Logic.{◌⊎◌, inl, inr}
use mathlib.Core.List.{List, [], ◌∷◌, ◌++◌, append-nil}
use lib.ListN.{length, get_or, length-append}
use lib.Seq.{sets, length-sets}
use lib.Dec.{eqb}
use Rattle.words.specs.Words.{le64}
use Rattle.words.proofs.Parts.{get_or_sets_out}
use Rattle.records.specs.Records.{record_at}
use Rattle.records.proofs.Bytes.{Bytes}
use Rattle.definitions.specs.Location.{Location, location_at, location_bytes, locations_in}
use Rattle.definitions.proofs.Order.{location_path}
use Rattle.location.specs.Fits.{Fits}
use Rattle.location.proofs.Bytes.{length_location, location_fits}
use Rattle.tails.specs.Tails.{Tail}
use Rattle.tails.specs.Groups.{locations_of, wholes}
use Rattle.tail_words.specs.Tail.{tail_of_record, tail_in, tails_in}
use Rattle.tail_groups.proofs.Memory.{tails_none, tails_step, tails_split, record_ext}
use Rattle.place_buffer.proofs.Scratch.{locations_written}
use Rattle.list_writer.specs.Written.{takes, taken, Copied}
use Rattle.list_writer.specs.declared.Listed.{Listed}
use Rattle.list_writer.specs.declared.Listed.TheVariants.{All, Wholes}

-- ── a tail's numbers in memory ──

-- the location of tail i
pub tail_location : (s : List ℕ) (work i : ℕ) → location_at s (work + 56 * i + 24) ≡ (tail_in s work i).entry.at
unfolding record_at tail_of_record
tail_location s work i =
    let a : work + 56 * i + 24 ≡ work + 56 * i + 8 + 8 + 8 = omega arith in
    let b : work + 56 * i + 24 + 8 ≡ work + 56 * i + 8 + 8 + 8 + 8 = omega arith in
    let c : work + 56 * i + 24 + 16 ≡ work + 56 * i + 8 + 8 + 8 + 8 + 8 = omega arith in
    location_path (ap (le64 s) a) (ap (le64 s) b) (ap (le64 s) c)

-- whether tail i is a whole piece
pub tail_whole : (s : List ℕ) (work i : ℕ) → (tail_in s work i).entry.whole ≡ eqb (le64 s (work + 56 * i + 16) % 2) 1
unfolding record_at tail_of_record
tail_whole s work i =
    let a : work + 56 * i + 8 + 8 ≡ work + 56 * i + 16 = omega arith in
    ap (λ (p : ℕ). eqb (le64 s p % 2) 1) a

pub whole_taken : (s : List ℕ) (work i x : ℕ) {r : Bool} → x ≡ le64 s (work + 56 * i + 16) → r ≡ eqb (x % 2) 1 → r ≡ (tail_in s work i).entry.whole
whole_taken s work i x got e = e ∙ ap (λ (y : ℕ). eqb (y % 2) 1) got ∙ sym (tail_whole s work i)

pub tail_fits : (s : List ℕ) (work i : ℕ) → Bytes s → Fits (tail_in s work i).entry.at
tail_fits s work i b = subst Fits (tail_location s work i) (location_fits s (work + 56 * i + 24) b)

-- ── one more ──

module _ (s : List ℕ) (at : ℕ) where
  pub copied_none : Copied s s at 0 []
  unfolding locations_in
  copied_none = record { count = refl; places = refl; long = refl; away = λ k o. refl }

  pub copied_one : {s₁ : List ℕ} (s₂ : List ℕ) {n : ℕ} {ls : List Location} (l : Location) → Copied s s₁ at n ls → Fits l → at + 8 + 24 * n + 24 ≤ length s
      → s₂ ≡ sets s₁ (at + 8 + 24 * n) (location_bytes l) → Copied s s₂ at (n + 1) (ls ++ (l ∷ []))
  copied_one {s₁} s₂ {n} {ls} l w f room e = record {
    count = omega (arith, length-append ls (l ∷ []), w.count);
    places = places;
    long = ap length e ∙ length-sets s₁ (at + 8 + 24 * n) (location_bytes l) ∙ w.long;
    away = λ k o. ap (λ (x : List ℕ). get_or x k 0) e ∙ get_or_sets_out (location_bytes l) s₁ (at + 8 + 24 * n) k (here k o) ∙ w.away k (there k o);
  }
    where
      p : at + 8 + 24 * n ≡ at + 8 + n * 24
      p = omega arith

      places : locations_in s₂ (n + 1) (at + 8) ≡ ls ++ (l ∷ [])
      places =
          ap (λ (x : List ℕ). locations_in x (n + 1) (at + 8)) (e ∙ ap (λ (q : ℕ). sets s₁ q (location_bytes l)) p)
          ∙ locations_written n s₁ (at + 8) l f (omega (arith, w.long)) ∙ ap (λ (x : List Location). x ++ (l ∷ [])) w.places

      here : (k : ℕ) → (k < at + 8) ⊎ (at + 8 + 24 * (n + 1) ≤ k) → (k < at + 8 + 24 * n) ⊎ (at + 8 + 24 * n + length (location_bytes l) ≤ k)
      here k (inl h) = inl (omega arith)
      here k (inr h) = inr (omega (arith, length_location l))

      there : (k : ℕ) → (k < at + 8) ⊎ (at + 8 + 24 * (n + 1) ≤ k) → (k < at + 8) ⊎ (at + 8 + 24 * n ≤ k)
      there k (inl h) = inl h
      there k (inr h) = inr (omega arith)

-- ── lists of tails, with one more at the end ──

pub length_locations_of : (ts : List Tail) → length (locations_of ts) ≡ length ts
length_locations_of [] = refl
length_locations_of (t ∷ ts) = ap suc (length_locations_of ts)

locations_of_append : (ts us : List Tail) → locations_of (ts ++ us) ≡ locations_of ts ++ locations_of us
locations_of_append [] us = refl
locations_of_append (t ∷ ts) us = ap (λ (ls : List Location). t.entry.at ∷ ls) (locations_of_append ts us)

wholes_append : (ts us : List Tail) → wholes (ts ++ us) ≡ wholes ts ++ wholes us
wholes_append [] us = refl
wholes_append (t ∷ ts) us = go t.entry.whole (wholes_append ts us)
  where
    go : (o : Bool) → wholes (ts ++ us) ≡ wholes ts ++ wholes us → cond o (t ∷ wholes (ts ++ us)) (wholes (ts ++ us)) ≡ cond o (t ∷ wholes ts) (wholes ts) ++ wholes us
    go true e = ap (λ (vs : List Tail). t ∷ vs) e
    go false e = e

taken_append : (w : Listed) (ts us : List Tail) → taken w (ts ++ us) ≡ taken w ts ++ taken w us
taken_append All ts us = refl
taken_append Wholes ts us = wholes_append ts us

taken_one : (w : Listed) (t : Tail) → taken w (t ∷ []) ≡ cond (takes w t) (t ∷ []) []
taken_one All t = refl
taken_one Wholes t = refl

pub taken_none : (w : Listed) → taken w [] ≡ []
taken_none All = refl
taken_none Wholes = refl

module _ (w : Listed) (s : List ℕ) (work lo : ℕ) where
  -- those taken up to i
  taken_snoc : (i : ℕ) → lo ≤ i → taken w (tails_in s work lo (i + 1)) ≡ taken w (tails_in s work lo i) ++ cond (takes w (tail_in s work i)) (tail_in s work i ∷ []) []
  taken_snoc i h =
      let one : tails_in s work i (i + 1) ≡ tail_in s work i ∷ [] =
      tails_step s work i (i + 1) (omega arith) ∙ ap (λ (ts : List Tail). tail_in s work i ∷ ts) (tails_none s work (i + 1) (i + 1) (omega arith)) in
      ap (taken w) (tails_split s work lo i (i + 1) h (omega arith)) ∙ taken_append w (tails_in s work lo i) (tails_in s work i (i + 1))
      ∙ ap (λ (ts : List Tail). taken w (tails_in s work lo i) ++ ts) (ap (taken w) one ∙ taken_one w (tail_in s work i))

  -- there are at most as many up to i as up to hi
  pub taken_within : (i hi : ℕ) → lo ≤ i → i ≤ hi → length (taken w (tails_in s work lo i)) ≤ length (taken w (tails_in s work lo hi))
  taken_within i hi a b =
      let e : taken w (tails_in s work lo hi) ≡ taken w (tails_in s work lo i) ++ taken w (tails_in s work i hi) =
      ap (taken w) (tails_split s work lo i hi a b) ∙ taken_append w (tails_in s work lo i) (tails_in s work i hi) in
      omega (arith, ap length e, length-append (taken w (tails_in s work lo i)) (taken w (tails_in s work i hi)))

-- ── the loops ──

-- s₁ has the locations of the tails from lo to i - 1 that are taken
pub record OnCopy (w : Listed) (s s₁ : List ℕ) (work lo hi at n i : ℕ) : Type 0 where
  pub from : lo ≤ i
  pub upto : i ≤ hi
  pub bytes : Bytes s₁
  pub copied : Copied s s₁ at n (locations_of (taken w (tails_in s work lo i)))

-- the tails are not written
same_tail : (s s₁ : List ℕ) (work at n i : ℕ) {ls : List Location} → Copied s s₁ at n ls → at + 8 + 24 * n ≤ work → tail_in s₁ work i ≡ tail_in s work i
same_tail s s₁ work at n i w h = ap tail_of_record (record_ext s s₁ work i (i + 1) (λ k a b. w.away k (inr (omega arith))) i (omega arith) (omega arith))

module _ (o : Listed) (s : List ℕ) (work lo hi at : ℕ) (le : lo ≤ hi) (held : work + 56 * hi ≤ length s) where
  pub copy_start : Bytes s → OnCopy o s s work lo hi at 0 lo
  copy_start b = record { from = omega arith; upto = le; bytes = b; copied = rw (tails_none s work lo lo (omega arith), taken_none o) (copied_none s at) }

  pub copy_done : {s₁ : List ℕ} {n i : ℕ} → OnCopy o s s₁ work lo hi at n i → hi ≤ i → Copied s s₁ at n (locations_of (taken o (tails_in s work lo hi)))
  copy_done {s₁} {n} {i} w h =
      let e : i ≡ hi = omega (arith, w.upto) in
      subst (λ (j : ℕ). Copied s s₁ at n (locations_of (taken o (tails_in s work lo j)))) e w.copied

  module _ (room : at + 8 + 24 * length (taken o (tails_in s work lo hi)) ≤ work) {s₁ : List ℕ} {n i : ℕ} (w : OnCopy o s s₁ work lo hi at n i) (h : i < hi) where
    copy_count : n ≡ length (taken o (tails_in s work lo i))
    copy_count = w.copied.count ∙ length_locations_of (taken o (tails_in s work lo i))

    -- there is room for one more, where tail i is taken
    copy_room : (c : Bool) → c ≡ takes o (tail_in s work i) → at + 8 + 24 * (n + cond c 1 0) ≤ work
    copy_room true e =
        let x : taken o (tails_in s work lo (i + 1)) ≡ taken o (tails_in s work lo i) ++ (tail_in s work i ∷ []) =
        taken_snoc o s work lo i w.from ∙ ap (λ (c : Bool). taken o (tails_in s work lo i) ++ cond c (tail_in s work i ∷ []) []) (sym e) in
        omega (arith, copy_count, ap length x, length-append (taken o (tails_in s work lo i)) (tail_in s work i ∷ []), taken_within o s work lo (i + 1) hi (omega (arith, w.from)) (omega arith))
    copy_room false e = omega (arith, copy_count, taken_within o s work lo i hi w.from w.upto)

    copy_same : tail_in s₁ work i ≡ tail_in s work i
    copy_same = same_tail s s₁ work at n i w.copied (omega (arith, copy_count, taken_within o s work lo i hi w.from w.upto))

    pub copy_asks : at + 8 + 24 * (n + cond (takes o (tail_in s₁ work i)) 1 0) ≤ work
    copy_asks = copy_room (takes o (tail_in s₁ work i)) (ap (takes o) copy_same)

    pub copy_turn : (s₂ : List ℕ) (m : ℕ) → Bytes s₂ → m ≡ n + cond (takes o (tail_in s₁ work i)) 1 0
        → s₂ ≡ cond (takes o (tail_in s₁ work i)) (sets s₁ (at + 8 + 24 * n) (location_bytes (tail_in s₁ work i).entry.at)) s₁ → OnCopy o s s₂ work lo hi at m (i + 1)
    copy_turn s₂ m b p e = record { from = omega (arith, w.from); upto = omega arith; bytes = b; copied = rw (taken_snoc o s work lo i w.from) (go (takes o (tail_in s work i)) refl p' e') }
      where
        l : Location
        l = (tail_in s work i).entry.at

        p' : m ≡ n + cond (takes o (tail_in s work i)) 1 0
        p' = p ∙ ap (λ (t : Tail). n + cond (takes o t) 1 0) copy_same

        e' : s₂ ≡ cond (takes o (tail_in s work i)) (sets s₁ (at + 8 + 24 * n) (location_bytes (tail_in s work i).entry.at)) s₁
        e' = e ∙ ap (λ (t : Tail). cond (takes o t) (sets s₁ (at + 8 + 24 * n) (location_bytes t.entry.at)) s₁) copy_same

        fits : Fits (tail_in s work i).entry.at
        fits = subst (λ (t : Tail). Fits t.entry.at) copy_same (tail_fits s₁ work i w.bytes)

        go : (c : Bool) → c ≡ takes o (tail_in s work i) → m ≡ n + cond c 1 0 → s₂ ≡ cond c (sets s₁ (at + 8 + 24 * n) (location_bytes (tail_in s work i).entry.at)) s₁
            → Copied s s₂ at m (locations_of (taken o (tails_in s work lo i) ++ cond c (tail_in s work i ∷ []) []))
        go true q p e =
            let r = copy_room true q in
            let c : Copied s s₂ at (n + 1) (locations_of (taken o (tails_in s work lo i)) ++ ((tail_in s work i).entry.at ∷ [])) =
            copied_one s at s₂ (tail_in s work i).entry.at w.copied fits (omega arith) e in
            rw (p, locations_of_append (taken o (tails_in s work lo i)) (tail_in s work i ∷ [])) c
        go false q p e =
            let z : n + 0 ≡ n = omega arith in
            rw (p, z, e, locations_of_append (taken o (tails_in s work lo i)) []) (nil w.copied)
          where
            nil : Copied s s₁ at n (locations_of (taken o (tails_in s work lo i))) → Copied s s₁ at n (locations_of (taken o (tails_in s work lo i)) ++ [])
            nil c = rw append-nil c

-- ── a single tail ──

module _ (o : Listed) (s : List ℕ) (work i at : ℕ) (held : work + 56 * (i + 1) ≤ length s) (b : Bytes s) (room : at + 8 + 24 * length (taken o (tails_in s work i (i + 1))) ≤ work) where
  first : OnCopy o s s work i (i + 1) at 0 i
  first = copy_start o s work i (i + 1) at (omega arith) held b

  pub single_asks : at + 8 + 24 * (0 + cond (takes o (tail_in s work i)) 1 0) ≤ work
  single_asks = copy_asks o s work i (i + 1) at (omega arith) held room first (omega arith)

  pub single_copied : (s₁ : List ℕ) (n : ℕ) → Bytes s₁ → n ≡ 0 + cond (takes o (tail_in s work i)) 1 0
      → s₁ ≡ cond (takes o (tail_in s work i)) (sets s (at + 8 + 24 * 0) (location_bytes (tail_in s work i).entry.at)) s → Copied s s₁ at n (locations_of (taken o (tails_in s work i (i + 1))))
  single_copied s₁ n b₁ en es =
      copy_done o s work i (i + 1) at (omega arith) held (copy_turn o s work i (i + 1) at (omega arith) held room first (omega arith) s₁ n b₁ en es) (omega arith)

-- one at most
pub few_taken : (c : Bool) (n : ℕ) → n ≡ 0 + cond c 1 0 → n ≤ 1
few_taken true n e = omega arith
few_taken false n e = omega arith

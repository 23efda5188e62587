-- A line is read as a form exactly where it is that form. Assumes nothing.
use Prim.Native.Nat.{ℕ, ◌+◌, ◌-◌, ◌*◌, ◌≤◌, ◌<◌}
use native.Mathlib.Omega.{arith}
use mathlib.Core.Path.{◌≡◌, refl, sym, ap, subst, ◌∙◌}
use mathlib.Core.Bool.{Bool, true, false, cond}
use mathlib.Core.List.{List, [], ◌∷◌, ◌++◌, append_assoc}
use mathlib.Core.Option.{Option, none, some}
use lib.ListN.{length, drop, drop_of_length-le, length-append}
use lib.Seq.{drop_at}
use lib.Dec.{ltb, eqb}
use borrow.Author.Tests.{le-ltb}
use Rattle.definitions.specs.Calls.{last_number}
use Rattle.definitions.specs.Program.{Form, block, finish, find, text, decimal, hex, line, line_limit, Bytes, IsForm}
use Rattle.definitions.proofs.Views.{Eq, eq, Lt, lt}
use Rattle.definitions.proofs.Decimal.{dec}
use Rattle.forms.specs.ReadLine.{with_number, with_bytes, read_block, read_line}
use Rattle.numerals.specs.Numerals.{Numeral, number, starts}
use Rattle.hex_pairs.specs.HexBytes.{last_bytes}
use Rattle.forms.specs.Answers.{Is, bytes_of}
use Rattle.hex_pairs.specs.HexAnswers.{pairs_at}
use Rattle.forms.proofs.Numbers.{number_back, number_stands}
use Rattle.forms.proofs.Bytes.{last_back, last_stands, length_hex, pairs_back}

-- ── the line of a form, grouped as it is read ──

-- a block's line behind its word; A to D are its numbers and H its bytes
behind_word : (A B C D H : List ℕ) → List ℕ
behind_word A B C D H = A ++ 32 ∷ (B ++ 32 ∷ (C ++ 32 ∷ (D ++ 32 ∷ 40 ∷ (H ++ 41 ∷ 41 ∷ []))))

grouped : (A B C D H : List ℕ)
    → text "(block " ++ A ++ text " " ++ B ++ text " " ++ C ++ text " " ++ D ++ text " (" ++ H ++ text "))" ≡ text "(block " ++ behind_word A B C D H
unfolding behind_word
grouped A B C D H = simp append_assoc

module _ (k a c d : ℕ) (bs : List ℕ) where
  the_block : Form
  the_block = block k (record { bytes = bs; at = record { address = a; created = c; destroyed = d } })

  block_line : line the_block ≡ text "(block " ++ behind_word (dec k) (dec a) (dec c) (dec d) (hex bs)
  unfolding the_block dec
  block_line = grouped (decimal k) (decimal a) (decimal c) (decimal d) (hex bs)

-- ── a form's line is read back ──

module _ (l r : List ℕ) (h : length l ≤ line_limit) where
  reads_block : l ≡ text "(block " ++ r → read_line l ≡ read_block r
  unfolding read_line starts
  reads_block e = rw (le-ltb line_limit (length l) h, e)

  reads_find : l ≡ text "(find " ++ r → read_line l ≡ with_bytes (last_bytes r) find
  unfolding read_line starts
  reads_find e = rw (le-ltb line_limit (length l) h, e)

pub reads_finish : read_line (text "(finish)") ≡ some finish
unfolding read_line starts
reads_finish = refl

block_back : (k a c d : ℕ) (bs : List ℕ) → k ≤ last_number → a ≤ last_number → c ≤ last_number → d ≤ last_number → Bytes bs
    → read_block (behind_word (dec k) (dec a) (dec c) (dec d) (hex bs)) ≡ some (the_block k a c d bs)
unfolding read_block behind_word the_block
block_back k a c d bs hk ha hc hd hb =
    let t₄ : List ℕ = 40 ∷ (hex bs ++ 41 ∷ 41 ∷ []) in
    let t₃ : List ℕ = dec d ++ 32 ∷ t₄ in
    let t₂ : List ℕ = dec c ++ 32 ∷ t₃ in
    let t₁ : List ℕ = dec a ++ 32 ∷ t₂ in
    rw (number_back k t₁ hk, number_back a t₂ ha, number_back c t₃ hc, number_back d t₄ hd, last_back bs hb)

-- a line that is a form is read as that form
pub read_line_complete : (l : List ℕ) (f : Form) → IsForm l f → read_line l ≡ some f
unfolding the_block
read_line_complete l (block k b) i =
    let p = b.at in
    let w = i.fits in
    reads_block l _ i.short (i.is ∙ block_line k p.address p.created p.destroyed b.bytes)
    ∙ block_back k p.address p.created p.destroyed b.bytes w.0 w.1 w.2 w.3 w.4
read_line_complete l finish i = ap read_line i.is ∙ reads_finish
read_line_complete l (find q) i =
    reads_find l (40 ∷ (hex q ++ 41 ∷ 41 ∷ [])) i.short i.is ∙ ap (λ (o : Option (List ℕ)). with_bytes o find) (last_back q i.fits)

-- ── what is read is a form's line ──

pub starts_tells : (w l : List ℕ) → starts w l ≡ true → l ≡ w ++ drop (length w) l
unfolding starts
starts_tells [] l e = refl
starts_tells (w ∷ ws) [] e = absurd (let z : ◌≡◌ {A = ℕ} 0 1 = cc in omega arith)
starts_tells (w ∷ ws) (b ∷ bs) e = go (eqb b w) (eq b w) e (λ f. starts_tells ws bs f)
  where
    go : (o : Bool) → Eq o b w → cond o (starts ws bs) false ≡ true → (starts ws bs ≡ true → bs ≡ ws ++ drop (length ws) bs) → b ∷ bs ≡ w ∷ (ws ++ drop (length ws) bs)
    go true h f ih =
        let t = ih f in
        cc
    go false h f ih = absurd (let z : ◌≡◌ {A = ℕ} 0 1 = cc in omega arith)

-- a number was read, and what follows is read from the text behind it
record Goes (l : List ℕ) (g : ℕ → List ℕ → Option Form) (f : Form) : Type 0 where
  value : ℕ
  rest : List ℕ
  text_is : l ≡ dec value ++ 32 ∷ rest
  fits : value ≤ last_number
  then : g value rest ≡ some f

goes : (l : List ℕ) (g : ℕ → List ℕ → Option Form) (f : Form) → with_number (number l) g ≡ some f → Goes l g f
goes l g f e = go (number l) refl e
  where
    go : (o : Option Numeral) → number l ≡ o → with_number o g ≡ some f → Goes l g f
    go none p q = absurd (let z : ◌≡◌ {A = ℕ} 0 1 = cc in omega arith)
    go (some n) p q =
        let s = number_stands l n p in
        record { value = n.value; rest = n.rest; text_is = s.text; fits = s.fits; then = q }

-- bytes were read
record Ends (l : List ℕ) (g : List ℕ → Form) (f : Form) : Type 0 where
  bytes : List ℕ
  text_is : l ≡ 40 ∷ (hex bytes ++ 41 ∷ 41 ∷ [])
  fits : Bytes bytes
  form : g bytes ≡ f

ends : (l : List ℕ) (g : List ℕ → Form) (f : Form) → with_bytes (last_bytes l) g ≡ some f → Ends l g f
ends l g f e = go (last_bytes l) refl e
  where
    go : (o : Option (List ℕ)) → last_bytes l ≡ o → with_bytes o g ≡ some f → Ends l g f
    go none p q = absurd (let z : ◌≡◌ {A = ℕ} 0 1 = cc in omega arith)
    go (some bs) p q =
        let s = last_stands l bs p in
        record { bytes = bs; text_is = s.0; fits = s.1; form = cc }

abbrev after_destroyed : ℕ → ℕ → ℕ → ℕ → List ℕ → Option Form
after_destroyed k a c d l = with_bytes (last_bytes l) (λ bs. block k (record { bytes = bs; at = record { address = a; created = c; destroyed = d } }))

abbrev after_created : ℕ → ℕ → ℕ → List ℕ → Option Form
after_created k a c l = with_number (number l) (λ d t. after_destroyed k a c d t)

abbrev after_address : ℕ → ℕ → List ℕ → Option Form
after_address k a l = with_number (number l) (λ c t. after_created k a c t)

abbrev after_kind : ℕ → List ℕ → Option Form
after_kind k l = with_number (number l) (λ a t. after_address k a t)

joined : (A B C D H r t₁ t₂ t₃ t₄ : List ℕ) → r ≡ A ++ 32 ∷ t₁ → t₁ ≡ B ++ 32 ∷ t₂ → t₂ ≡ C ++ 32 ∷ t₃ → t₃ ≡ D ++ 32 ∷ t₄ → t₄ ≡ 40 ∷ (H ++ 41 ∷ 41 ∷ []) → r ≡ behind_word A B C D H
unfolding behind_word
joined A B C D H r t₁ t₂ t₃ t₄ e₀ e₁ e₂ e₃ e₄ = cc

block_is : (k a c d : ℕ) (bs l r : List ℕ) → length l ≤ line_limit → k ≤ last_number → a ≤ last_number → c ≤ last_number → d ≤ last_number → Bytes bs
    → l ≡ text "(block " ++ r → r ≡ behind_word (dec k) (dec a) (dec c) (dec d) (hex bs) → IsForm l (the_block k a c d bs)
unfolding the_block
block_is k a c d bs l r h hk ha hc hd hb w e = record {
  short = h;
  fits = (hk, ha, hc, hd, hb);
  is = w ∙ ap (λ (t : List ℕ). text "(block " ++ t) e ∙ sym (block_line k a c d bs);
}

-- what is read behind a word is the rest of the form's line
block_sound : (l r : List ℕ) (f : Form) → length l ≤ line_limit → l ≡ text "(block " ++ r → read_block r ≡ some f → IsForm l f
unfolding read_block the_block
block_sound l r f h w e = kind (goes r (λ k t. after_kind k t) f e)
  where
    bytes : (k a c d : ℕ) (t : List ℕ) → k ≤ last_number → a ≤ last_number → c ≤ last_number → d ≤ last_number
        → ((H : List ℕ) → t ≡ 40 ∷ (H ++ 41 ∷ 41 ∷ []) → r ≡ behind_word (dec k) (dec a) (dec c) (dec d) H)
        → Ends t (λ bs. the_block k a c d bs) f → IsForm l f
    bytes k a c d t hk ha hc hd j v =
        subst (λ (f : Form). IsForm l f) v.form (block_is k a c d v.bytes l r h hk ha hc hd v.fits w (j (hex v.bytes) v.text_is))

    destroyed : (p : Goes r (λ k t. after_kind k t) f) (q : Goes p.rest (λ a t. after_address p.value a t) f) (s : Goes q.rest (λ c t. after_created p.value q.value c t) f)
        → Goes s.rest (λ d t. after_destroyed p.value q.value s.value d t) f → IsForm l f
    destroyed p q s u =
        bytes p.value q.value s.value u.value u.rest p.fits q.fits s.fits u.fits
        (λ H g. joined (dec p.value) (dec q.value) (dec s.value) (dec u.value) H r p.rest q.rest s.rest u.rest p.text_is q.text_is s.text_is u.text_is g)
        (ends u.rest (λ bs. the_block p.value q.value s.value u.value bs) f u.then)

    created : (p : Goes r (λ k t. after_kind k t) f) (q : Goes p.rest (λ a t. after_address p.value a t) f) → Goes q.rest (λ c t. after_created p.value q.value c t) f → IsForm l f
    created p q s = destroyed p q s (goes s.rest (λ d t. after_destroyed p.value q.value s.value d t) f s.then)

    address : (p : Goes r (λ k t. after_kind k t) f) → Goes p.rest (λ a t. after_address p.value a t) f → IsForm l f
    address p q = created p q (goes q.rest (λ c t. after_created p.value q.value c t) f q.then)

    kind : Goes r (λ k t. after_kind k t) f → IsForm l f
    kind p = address p (goes p.rest (λ a t. after_address p.value a t) f p.then)

find_sound : (l r : List ℕ) (f : Form) → length l ≤ line_limit → l ≡ text "(find " ++ r → with_bytes (last_bytes r) find ≡ some f → IsForm l f
find_sound l r f h w e =
    let v = ends r find f e in
    let i : IsForm l (find v.bytes) = record { short = h; fits = v.fits; is = w ∙ ap (λ (t : List ℕ). text "(find " ++ t) v.text_is } in
    subst (λ (f : Form). IsForm l f) v.form i

finish_sound : (l : List ℕ) (f : Form) → length l ≤ line_limit → l ≡ text "(finish)" ++ drop 8 l → length l ≡ 8 → some finish ≡ some f → IsForm l f
finish_sound l f h w n e =
    let k : length l ≤ 8 = omega arith in
    let z : finish ≡ f = cc in
    let d : drop 8 l ≡ [] = drop_of_length-le l k in
    let i : IsForm l finish = record { short = h; fits = tt; is = w ∙ ap (λ (t : List ℕ). text "(finish)" ++ t) d } in
    subst (λ (f : Form). IsForm l f) z i

-- a line that is read as a form is that form
pub read_line_sound : (l : List ℕ) (f : Form) → read_line l ≡ some f → IsForm l f
unfolding read_line
read_line_sound l f e = long (ltb line_limit (length l)) (lt line_limit (length l)) e
  where
    eight : (o : Bool) → Eq o (length l) 8 → length l ≤ line_limit → starts (text "(finish)") l ≡ true → cond o (some finish) none ≡ some f → IsForm l f
    eight true n h w g = finish_sound l f h (starts_tells (text "(finish)") l w) n g
    eight false n h w g = absurd (let z : ◌≡◌ {A = ℕ} 0 1 = cc in omega arith)

    third : (o : Bool) → starts (text "(finish)") l ≡ o → length l ≤ line_limit → cond o (cond (eqb (length l) 8) (some finish) none) none ≡ some f → IsForm l f
    third true w h g = eight (eqb (length l) 8) (eq (length l) 8) h w g
    third false w h g = absurd (let z : ◌≡◌ {A = ℕ} 0 1 = cc in omega arith)

    second : (o : Bool) → starts (text "(find ") l ≡ o → length l ≤ line_limit
        → cond o (with_bytes (last_bytes (drop 6 l)) find) (cond (starts (text "(finish)") l) (cond (eqb (length l) 8) (some finish) none) none) ≡ some f → IsForm l f
    second true w h g = find_sound l (drop 6 l) f h (starts_tells (text "(find ") l w) g
    second false w h g = third (starts (text "(finish)") l) refl h g

    first : (o : Bool) → starts (text "(block ") l ≡ o → length l ≤ line_limit
        → cond o (read_block (drop 7 l)) (cond (starts (text "(find ") l) (with_bytes (last_bytes (drop 6 l)) find) (cond (starts (text "(finish)") l) (cond (eqb (length l) 8) (some finish) none) none)) ≡ some f
        → IsForm l f
    first true w h g = block_sound l (drop 7 l) f h (starts_tells (text "(block ") l w) g
    first false w h g = second (starts (text "(find ") l) refl h g

    long : (o : Bool) → Lt o line_limit (length l)
        → cond o none (cond (starts (text "(block ") l) (read_block (drop 7 l)) (cond (starts (text "(find ") l) (with_bytes (last_bytes (drop 6 l)) find) (cond (starts (text "(finish)") l) (cond (eqb (length l) 8) (some finish) none) none))) ≡ some f
        → IsForm l f
    long true h g = absurd (let z : ◌≡◌ {A = ℕ} 0 1 = cc in omega arith)
    long false h g = first (starts (text "(block ") l) refl h g

-- what is read from a line is what it is
pub read_line_is : (l : List ℕ) → Is l (read_line l)
read_line_is l = go (read_line l) refl
  where
    go : (o : Option Form) → read_line l ≡ o → Is l o
    go none e = λ f i. let g = read_line_complete l f i in let z : ◌≡◌ {A = ℕ} 0 1 = cc in omega arith
    go (some f) e = read_line_sound l f e

-- ── where a form's bytes stand ──

-- n pairs and two parentheses end the line, and are decoded to these bytes
pub record Behind (l bs : List ℕ) (n : ℕ) : Type 0 where
  pub room : 2 * n + 2 ≤ length l
  pub decoded : pairs_at l n (length l - 2 - 2 * n) ≡ bs

behind : (l pre bs : List ℕ) (n : ℕ) → Bytes bs → n ≡ length bs → l ≡ pre ++ (hex bs ++ 41 ∷ 41 ∷ []) → Behind l bs n
behind l pre bs n h k e =
    let x = hex bs ++ 41 ∷ 41 ∷ [] in
    let m : length l ≡ length pre + (2 * n + 2) = ap length e ∙ simp length-append (omega (arith, length_hex bs)) in
    let p : length l - 2 - 2 * n ≡ length pre = omega arith in
    let d : drop (length pre) l ≡ x = ap (drop (length pre)) e ∙ drop_at pre x (length pre) refl in
    record { room = omega arith; decoded = rw (p, k) (pairs_back bs l (41 ∷ 41 ∷ []) (length pre) h d) }

-- a block's line up to its bytes
before_bytes : (A B C D : List ℕ) → List ℕ
before_bytes A B C D = text "(block " ++ A ++ text " " ++ B ++ text " " ++ C ++ text " " ++ D ++ text " ("

block_apart : (A B C D H : List ℕ)
    → text "(block " ++ A ++ text " " ++ B ++ text " " ++ C ++ text " " ++ D ++ text " (" ++ H ++ text "))" ≡ before_bytes A B C D ++ (H ++ 41 ∷ 41 ∷ [])
unfolding before_bytes
block_apart A B C D H = simp append_assoc

pub form_behind : (l : List ℕ) (f : Form) (n : ℕ) → IsForm l f → 0 < n → n ≡ length (bytes_of (some f)) → Behind l (bytes_of (some f)) n
form_behind l (block k b) n i h e =
    behind l (before_bytes (decimal k) (decimal b.at.address) (decimal b.at.created) (decimal b.at.destroyed)) b.bytes n i.fits.4 e
    (i.is ∙ block_apart (decimal k) (decimal b.at.address) (decimal b.at.created) (decimal b.at.destroyed) (hex b.bytes))
form_behind l finish n i h e = absurd (omega arith)
form_behind l (find q) n i h e = behind l (text "(find (") q n i.fits e i.is

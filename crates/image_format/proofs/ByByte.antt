-- Children by ascending byte: all of them come, each once. Assumes nothing.
use Prim.Native.Nat.{◌+◌, ◌<◌, ◌≤◌, suc, zero, ℕ}
use native.Mathlib.Omega.{arith}
use mathlib.Core.Bool.{Bool, cond, false, true}
use mathlib.Core.List.{List, [], ◌++◌, ◌∷◌}
use mathlib.Core.Path.{◌∙◌, ◌≡◌, ap, refl, subst, sym}
use lib.Dec.{eqb, ltb}
use lib.ListN.{length}
use borrow.Author.Tests.{eqb-false, eqb-true, le-ltb, lt-ltb, ltb-false, ltb-true, ne_eqb}
use Rattle.image_format.proofs.KindThree.{AllRead, Distinct, Missing}
use Rattle.image_format.specs.Image.{Child, ascending, children_size, entries_in, nodes_in, size_below, with_byte}

-- the sum of a measure
unfoldable pub total : (Child → ℕ) → List Child → ℕ
total f [] = 0
total f (k ∷ ks) = f k + total f ks

pub total_append : (f : Child → ℕ) (xs ys : List Child) → total f (xs ++ ys) ≡ total f xs + total f ys
unfolding total
total_append f [] ys = omega arith
total_append f (x ∷ xs) ys = let h = total_append f xs ys in omega arith

pub total_size : (ks : List Child) → children_size ks ≡ total (λ k. 1 + k.size) ks
unfolding total children_size
total_size [] = refl
total_size (k ∷ ks) = let h = total_size ks in omega arith

pub total_nodes : (ks : List Child) → nodes_in ks ≡ total (λ k. k.nodes) ks
unfolding total nodes_in
total_nodes [] = refl
total_nodes (k ∷ ks) = let h = total_nodes ks in omega arith

pub total_entries : (ks : List Child) → entries_in ks ≡ total (λ k. k.entries) ks
unfolding total entries_in
total_entries [] = refl
total_entries (k ∷ ks) = let h = total_entries ks in omega arith

pub total_length : (ks : List Child) → length ks ≡ total (λ k. 1) ks
unfolding total
total_length [] = refl
total_length (k ∷ ks) = let h = total_length ks in omega arith

-- the measure of those with a byte from b up to b + m
share : (f : Child → ℕ) → ℕ → ℕ → Child → ℕ
share f m b k = cond (ltb k.byte b) 0 (cond (ltb k.byte (b + m)) (f k) 0)

shares : (f : Child → ℕ) → ℕ → ℕ → List Child → ℕ
shares f m b [] = 0
shares f m b (k ∷ ks) = share f m b k + shares f m b ks

total_at : (f : Child → ℕ) (b : ℕ) (ks : List Child) → total f (with_byte b ks) ≡ shares f 1 b ks
unfolding total with_byte shares share
total_at f b [] = refl
total_at f b (k ∷ ks) = go (ltb k.byte b) refl (eqb k.byte b) refl (total_at f b ks)
  where
    go : (p : Bool) → ltb k.byte b ≡ p → (q : Bool) → eqb k.byte b ≡ q → total f (with_byte b ks) ≡ shares f 1 b ks →
        total f (cond q (k ∷ with_byte b ks) (with_byte b ks)) ≡ cond p 0 (cond (ltb k.byte (b + 1)) (f k) 0) + shares f 1 b ks
    go true x true y ih = absurd (omega (arith, ltb-true k.byte b x, eqb-true k.byte b y))
    go true x false y ih = omega arith
    go false x true y ih =
        let l : k.byte < b + 1 = omega (arith, eqb-true k.byte b y) in
        simp (lt-ltb k.byte (b + 1) l) (omega arith)
    go false x false y ih =
        let n = eqb-false k.byte b y in
        let m = ltb-false k.byte b x in
        let l : b + 1 ≤ k.byte = omega arith in
        simp (le-ltb k.byte (b + 1) l) (omega arith)

share_split : (f : Child → ℕ) (m b : ℕ) (k : Child) → share f (suc m) b k ≡ share f 1 b k + share f m (b + 1) k
unfolding share
share_split f m b k = go (ltb k.byte b) refl (ltb k.byte (b + 1)) refl (ltb k.byte (b + suc m)) refl (ltb k.byte (b + 1 + m)) refl
  where
    go : (p : Bool) → ltb k.byte b ≡ p → (q : Bool) → ltb k.byte (b + 1) ≡ q → (r : Bool) → ltb k.byte (b + suc m) ≡ r →
        (t : Bool) → ltb k.byte (b + 1 + m) ≡ t →
        cond p 0 (cond r (f k) 0) ≡ cond p 0 (cond q (f k) 0) + cond q 0 (cond t (f k) 0)
    go true x true y r z t w = omega arith
    go true x false y r z t w = absurd (omega (arith, ltb-true k.byte b x, ltb-false k.byte (b + 1) y))
    go false x true y true z t w = omega arith
    go false x true y false z t w = absurd (omega (arith, ltb-true k.byte (b + 1) y, ltb-false k.byte (b + suc m) z))
    go false x false y true z true w = omega arith
    go false x false y true z false w = absurd (omega (arith, ltb-true k.byte (b + suc m) z, ltb-false k.byte (b + 1 + m) w))
    go false x false y false z true w = absurd (omega (arith, ltb-false k.byte (b + suc m) z, ltb-true k.byte (b + 1 + m) w))
    go false x false y false z false w = omega arith

shares_split : (f : Child → ℕ) (m b : ℕ) (ks : List Child) → shares f (suc m) b ks ≡ shares f 1 b ks + shares f m (b + 1) ks
unfolding shares
shares_split f m b [] = refl
shares_split f m b (k ∷ ks) = omega (arith, share_split f m b k, shares_split f m b ks)

shares_none : (f : Child → ℕ) (b : ℕ) (ks : List Child) → shares f 0 b ks ≡ 0
unfolding shares share
shares_none f b [] = refl
shares_none f b (k ∷ ks) = go (ltb k.byte b) refl (ltb k.byte (b + 0)) refl (shares_none f b ks)
  where
    go : (p : Bool) → ltb k.byte b ≡ p → (q : Bool) → ltb k.byte (b + 0) ≡ q → shares f 0 b ks ≡ 0 → cond p 0 (cond q (f k) 0) + shares f 0 b ks ≡ 0
    go true x q y ih = omega arith
    go false x true y ih = absurd (omega (arith, ltb-false k.byte b x, ltb-true k.byte (b + 0) y))
    go false x false y ih = omega arith

total_ascending : (f : Child → ℕ) (m b : ℕ) (ks : List Child) → total f (ascending m b ks) ≡ shares f m b ks
unfolding ascending total
total_ascending f zero b ks = sym (shares_none f b ks)
total_ascending f (suc m) b ks =
    omega (arith, total_append f (with_byte b ks) (ascending m (b + 1) ks), total_at f b ks, total_ascending f m (b + 1) ks, shares_split f m b ks)

-- every byte is below 256
unfoldable pub Bytes : List Child → Type 0
Bytes [] = Unit
Bytes (k ∷ ks) = (k.byte < 256) × Bytes ks

shares_all : (f : Child → ℕ) (ks : List Child) → Bytes ks → shares f 256 0 ks ≡ total f ks
unfolding shares share total Bytes
shares_all f [] h = refl
shares_all f (k ∷ ks) h =
    let z : 0 ≤ k.byte = omega arith in
    let l : k.byte < 0 + 256 = omega arith in
    simp (le-ltb k.byte 0 z, lt-ltb k.byte (0 + 256) l) (omega (arith, shares_all f ks h.1))

-- by ascending byte all children come, each as often as it is there
pub total_all : (f : Child → ℕ) (ks : List Child) → Bytes ks → total f (ascending 256 0 ks) ≡ total f ks
total_all f ks h = total_ascending f 256 0 ks ∙ shares_all f ks h

-- below the next byte are those below b and those with b
pub below_on : (b : ℕ) (ks : List Child) → size_below (b + 1) ks ≡ size_below b ks + children_size (with_byte b ks)
unfolding size_below with_byte children_size
below_on b [] = refl
below_on b (k ∷ ks) = go (ltb k.byte b) refl (ltb k.byte (b + 1)) refl (eqb k.byte b) refl (below_on b ks)
  where
    go : (p : Bool) → ltb k.byte b ≡ p → (q : Bool) → ltb k.byte (b + 1) ≡ q → (r : Bool) → eqb k.byte b ≡ r →
        size_below (b + 1) ks ≡ size_below b ks + children_size (with_byte b ks) →
        cond q (1 + k.size) 0 + size_below (b + 1) ks ≡ cond p (1 + k.size) 0 + size_below b ks + children_size (cond r (k ∷ with_byte b ks) (with_byte b ks))
    go true x true y true z ih = absurd (omega (arith, ltb-true k.byte b x, eqb-true k.byte b z))
    go true x true y false z ih = omega arith
    go true x false y r z ih = absurd (omega (arith, ltb-true k.byte b x, ltb-false k.byte (b + 1) y))
    go false x true y true z ih = omega arith
    go false x true y false z ih = absurd (eqb-false k.byte b z (omega (arith, ltb-false k.byte b x, ltb-true k.byte (b + 1) y)))
    go false x false y true z ih = absurd (omega (arith, ltb-false k.byte (b + 1) y, eqb-true k.byte b z))
    go false x false y false z ih = omega arith

pub below_zero : (ks : List Child) → size_below 0 ks ≡ 0
unfolding size_below
below_zero [] = refl
below_zero (k ∷ ks) = let z : 0 ≤ k.byte = omega arith in simp (le-ltb k.byte 0 z) (omega (arith, below_zero ks))

pub at_read : (d b : ℕ) (ks : List Child) → AllRead d ks → AllRead d (with_byte b ks)
unfolding AllRead with_byte
at_read d b [] h = tt
at_read d b (k ∷ ks) h = go (eqb k.byte b) (at_read d b ks h.1)
  where
    go : (q : Bool) → AllRead d (with_byte b ks) → AllRead d (cond q (k ∷ with_byte b ks) (with_byte b ks))
    go true r = (h.0, r)
    go false r = r

-- where no child has b, none is found
pub at_absent : (b : ℕ) (ks : List Child) → Missing b ks → with_byte b ks ≡ []
unfolding Missing with_byte
at_absent b [] h = refl
at_absent b (k ∷ ks) h = simp (ne_eqb k.byte b h.0) (at_absent b ks h.1)

pub absent_at : (b : ℕ) (ks : List Child) → with_byte b ks ≡ [] → Missing b ks
unfolding Missing with_byte
absent_at b [] h = tt
absent_at b (k ∷ ks) h = go (eqb k.byte b) refl h (λ f. absent_at b ks f)
  where
    go : (q : Bool) → eqb k.byte b ≡ q → cond q (k ∷ with_byte b ks) (with_byte b ks) ≡ [] → (with_byte b ks ≡ [] → Missing b ks) → (k.byte ≡ b → ⊥) × Missing b ks
    go true e f r = absurd (let z : ◌≡◌ {A = ℕ} 0 1 = cons_nil f in omega arith)
      where
        cons_nil : {x : Child} {xs : List Child} → x ∷ xs ≡ [] → ◌≡◌ {A = ℕ} 0 1
        cons_nil g = cc
    go false e f r = (eqb-false k.byte b e, r f)

-- a byte has no child, or one
pub data One (b : ℕ) (ks : List Child) : Type 0 where
  nobody : with_byte b ks ≡ [] → One b ks
  just : (k : Child) → with_byte b ks ≡ k ∷ [] → One b ks

absent_left : (b : ℕ) (xs ys : List Child) → Missing b (xs ++ ys) → Missing b xs
unfolding Missing
absent_left b [] ys h = tt
absent_left b (x ∷ xs) ys h = (h.0, absent_left b xs ys h.1)

pub absent_last : (b : ℕ) (xs : List Child) (k : Child) → Missing b (xs ++ (k ∷ [])) → k.byte ≡ b → ⊥
unfolding Missing
absent_last b [] k h e = h.0 e
absent_last b (x ∷ xs) k h e = absent_last b xs k h.1 e

pub later_absent : (b : ℕ) (seen ks : List Child) → Distinct seen ks → (Missing b seen → ⊥) → Missing b ks
unfolding Distinct Missing
later_absent b seen [] a h = tt
later_absent b seen (k ∷ ks) a h =
    ((λ e. h (subst (λ (n : ℕ). Missing n seen) e a.0)), later_absent b (seen ++ (k ∷ [])) ks a.1 (λ x. h (absent_left b seen (k ∷ []) x)))

pub one_at : (b : ℕ) (seen ks : List Child) → Distinct seen ks → One b ks
unfolding Distinct with_byte
one_at b seen [] a = nobody refl
one_at b seen (k ∷ ks) a = go (eqb k.byte b) refl (one_at b (seen ++ (k ∷ [])) ks a.1)
  where
    turn : (q : Bool) → eqb k.byte b ≡ q → cond q (k ∷ with_byte b ks) (with_byte b ks) ≡ with_byte b (k ∷ ks)
    turn q e = rw (← e) refl

    go : (q : Bool) → eqb k.byte b ≡ q → One b ks → One b (k ∷ ks)
    go true e o =
        let r = at_absent b ks (later_absent b (seen ++ (k ∷ [])) ks a.1 (λ x. absent_last b seen k x (eqb-true k.byte b e))) in
        just k (sym (turn true e) ∙ ap (λ (l : List Child). k ∷ l) r)
    go false e (nobody f) = nobody (sym (turn false e) ∙ f)
    go false e (just x f) = just x (sym (turn false e) ∙ f)

pub below_most : (b : ℕ) (ks : List Child) → size_below b ks ≤ children_size ks
unfolding size_below children_size
below_most b [] = omega arith
below_most b (k ∷ ks) = go (ltb k.byte b) (below_most b ks)
  where
    go : (p : Bool) → size_below b ks ≤ children_size ks → cond p (1 + k.size) 0 + size_below b ks ≤ 1 + k.size + children_size ks
    go true h = omega arith
    go false h = omega arith

pub all_size : (ks : List Child) → Bytes ks → children_size (ascending 256 0 ks) ≡ children_size ks
all_size ks h = total_size (ascending 256 0 ks) ∙ total_all (λ k. 1 + k.size) ks h ∙ sym (total_size ks)

pub all_nodes : (ks : List Child) → Bytes ks → nodes_in (ascending 256 0 ks) ≡ nodes_in ks
all_nodes ks h = total_nodes (ascending 256 0 ks) ∙ total_all (λ k. k.nodes) ks h ∙ sym (total_nodes ks)

pub all_entries : (ks : List Child) → Bytes ks → entries_in (ascending 256 0 ks) ≡ entries_in ks
all_entries ks h = total_entries (ascending 256 0 ks) ∙ total_all (λ k. k.entries) ks h ∙ sym (total_entries ks)

pub all_length : (ks : List Child) → Bytes ks → length (ascending 256 0 ks) ≡ length ks
all_length ks h = total_length (ascending 256 0 ks) ∙ total_all (λ k. 1) ks h ∙ sym (total_length ks)

ascending_most : (m b : ℕ) (ks : List Child) → Distinct [] ks → length (ascending m b ks) ≤ m
unfolding ascending
ascending_most zero b ks a = omega arith
ascending_most (suc m) b ks a = go (one_at b [] ks a) (ascending_most m (b + 1) ks a)
  where
    go : One b ks → length (ascending m (b + 1) ks) ≤ m → length (with_byte b ks ++ ascending m (b + 1) ks) ≤ suc m
    go (nobody e) h = rw e (omega arith)
    go (just k e) h = rw e (omega arith)

-- different bytes are at most 256
pub at_most : (ks : List Child) → Bytes ks → Distinct [] ks → length ks ≤ 256
at_most ks b a = omega (arith, all_length ks b, ascending_most 256 0 ks a)

-- children by ascending byte, from b on
unfoldable pub Rising : ℕ → List Child → Type 0
Rising b [] = Unit
Rising b (k ∷ ks) = (b ≤ k.byte) × Rising (k.byte + 1) ks

pub rising_absent : (b c : ℕ) (ks : List Child) → c < b → Rising b ks → Missing c ks
unfolding Rising Missing
rising_absent b c [] h r = tt
rising_absent b c (k ∷ ks) h r = ((λ e. omega arith), rising_absent (k.byte + 1) c ks (omega arith) r.1)

pub rising_less : (b c : ℕ) (ks : List Child) → c ≤ b → Rising b ks → Rising c ks
unfolding Rising
rising_less b c [] h r = tt
rising_less b c (k ∷ ks) h r = (omega arith, r.1)

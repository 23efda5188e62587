-- The tails that pass a test, in their order: members and pairs; a run of sorted tails is those that pass its test.
-- Assumes nothing.
use mathlib.Core.Path.{◌≡◌, refl, sym, ap, ◌∙◌}
use mathlib.Core.Bool.{Bool, true, false, not, ◌&&◌, cond}
use mathlib.Core.List.Memᴰ.{head as here}
use mathlib.Core.List.Memᴰ.{tail as later}
use mathlib.Core.List.{List, [], ◌∷◌, Memᴰ as Mem}
use Rattle.records.proofs.Order.{clash}
use Rattle.tails.specs.Tails.{Tail}
use Rattle.tails.specs.Groups.{run, after_run, wholes}
use Rattle.tails.specs.Runs.{Pairs}

abbrev pub keep : (Tail → Bool) → List Tail → List Tail
keep f [] = []
keep f (t ∷ ts) = cond (f t) (t ∷ keep f ts) (keep f ts)

-- ── members ──

-- a tail of the list that passes the test
pub record Kept (f : Tail → Bool) (ts : List Tail) (x : Tail) : Type 0 where
  pub listed : Mem x ts
  pub passes : f x ≡ true

pub keep_mem : {x : Tail} (f : Tail → Bool) (ts : List Tail) → Mem x (keep f ts) → Kept f ts x
keep_mem {x = x} f [] h = elim h [ ]
keep_mem {x} f (t ∷ ts) h = go (f t) refl (keep_mem f ts) h
  where
    on : Kept f ts x → Kept f (t ∷ ts) x
    on k = record { listed = later k.listed; passes = k.passes }

    go : (o : Bool) → f t ≡ o → (Mem x (keep f ts) → Kept f ts x) → Mem x (cond o (t ∷ keep f ts) (keep f ts)) → Kept f (t ∷ ts) x
    go true e ih (here k) = record { listed = here k; passes = ap f k ∙ e }
    go true e ih (later k) = on (ih k)
    go false e ih k = on (ih k)

pub mem_keep : {x : Tail} (f : Tail → Bool) (ts : List Tail) → Mem x ts → f x ≡ true → Mem x (keep f ts)
mem_keep {x = x} f [] x3 e = elim x3 [ ]
mem_keep f (t ∷ ts) (here k) e =
    let p : f t ≡ true = sym (ap f k) ∙ e in
    rw p (here k)
mem_keep {x} f (t ∷ ts) (later k) e = go (f t) (mem_keep f ts k e)
  where
    go : (o : Bool) → Mem x (keep f ts) → Mem x (cond o (t ∷ keep f ts) (keep f ts))
    go true m = later m
    go false m = m

-- the same tails, whatever their order
pub record SameTails (ts us : List Tail) : Type 0 where
  pub to : (t : Tail) → Mem t ts → Mem t us
  pub fro : (t : Tail) → Mem t us → Mem t ts

pub same_keep : (f : Tail → Bool) (ts us : List Tail) → SameTails ts us → SameTails (keep f ts) (keep f us)
same_keep f ts us s = record {
  to = λ t m. mem_keep f us (s.to t (keep_mem f ts m).listed) (keep_mem f ts m).passes;
  fro = λ t m. mem_keep f ts (s.fro t (keep_mem f us m).listed) (keep_mem f us m).passes;
}

-- ── pairs ──

pub pairs_keep : (R : Tail → Tail → Type 0) (f : Tail → Bool) (ts : List Tail) → Pairs R ts → Pairs R (keep f ts)
pairs_keep R f [] p = tt
pairs_keep R f (t ∷ ts) p = go (f t) (pairs_keep R f ts p.1)
  where
    go : (o : Bool) → Pairs R (keep f ts) → Pairs R (cond o (t ∷ keep f ts) (keep f ts))
    go true ih = ((λ s m. p.0 s (keep_mem f ts m).listed), ih)
    go false ih = ih

-- from what all members have
pub pairs_map : (R S : Tail → Tail → Type 0) (ts : List Tail) → ((t s : Tail) → Mem t ts → Mem s ts → R t s → S t s) → Pairs R ts → Pairs S ts
pairs_map R S [] f p = tt
pairs_map R S (t ∷ ts) f p = ((λ s m. f t s (here refl) (later m) (p.0 s m)), pairs_map R S ts (λ x y m n. f x y (later m) (later n)) p.1)

-- ── tests ──

pub keep_ext : (f g : Tail → Bool) (ts : List Tail) → ((t : Tail) → Mem t ts → f t ≡ g t) → keep f ts ≡ keep g ts
keep_ext f g [] h = refl
keep_ext f g (t ∷ ts) h =
    let e : f t ≡ g t = h t (here refl) in
    let r : keep f ts ≡ keep g ts = keep_ext f g ts (λ s m. h s (later m)) in
    rw (e, r)

pub keep_none : (f : Tail → Bool) (ts : List Tail) → ((t : Tail) → Mem t ts → f t ≡ false) → keep f ts ≡ []
keep_none f [] h = refl
keep_none f (t ∷ ts) h = rw (h t (here refl)) (keep_none f ts (λ s m. h s (later m)))

pub keep_all : (f : Tail → Bool) (ts : List Tail) → ((t : Tail) → Mem t ts → f t ≡ true) → keep f ts ≡ ts
keep_all f [] h = refl
keep_all f (t ∷ ts) h = rw (h t (here refl)) (ap (λ (x : List Tail). t ∷ x) (keep_all f ts (λ s m. h s (later m))))

pub keep_keep : (f g : Tail → Bool) (ts : List Tail) → keep f (keep g ts) ≡ keep (λ t. g t && f t) ts
keep_keep f g [] = refl
keep_keep f g (t ∷ ts) = go (g t) (keep_keep f g ts)
  where
    go : (o : Bool) → keep f (keep g ts) ≡ keep (λ t. g t && f t) ts
        → keep f (cond o (t ∷ keep g ts) (keep g ts)) ≡ cond (o && f t) (t ∷ keep (λ t. g t && f t) ts) (keep (λ t. g t && f t) ts)
    go true ih = rw ih
    go false ih = ih

pub wholes_keep : (ts : List Tail) → wholes ts ≡ keep (λ t. t.entry.whole) ts
wholes_keep [] = refl
wholes_keep (t ∷ ts) = rw (wholes_keep ts)

-- ── runs ──

-- before one that passes, all pass
abbrev pub Falling : (Tail → Bool) → List Tail → Type 0
Falling f ts = Pairs (λ t s. f s ≡ true → f t ≡ true) ts

-- none passes behind one that does not
none_behind : (f : Tail → Bool) (t s : Tail) → f t ≡ false → (f s ≡ true → f t ≡ true) → f s ≡ false
none_behind f t s e h = go (f s) h
  where
    go : (o : Bool) → (o ≡ true → f t ≡ true) → o ≡ false
    go true k = clash (sym (k refl) ∙ e)
    go false k = refl

pub run_keep : (f : Tail → Bool) (ts : List Tail) → Falling f ts → run f ts ≡ keep f ts
run_keep f [] p = refl
run_keep f (t ∷ ts) p = go (f t) refl (run_keep f ts p.1)
  where
    go : (o : Bool) → f t ≡ o → run f ts ≡ keep f ts → cond o (t ∷ run f ts) [] ≡ cond o (t ∷ keep f ts) (keep f ts)
    go true e ih = rw ih
    go false e ih = sym (keep_none f ts (λ s m. none_behind f t s e (p.0 s m)))

pub after_keep : (f : Tail → Bool) (ts : List Tail) → Falling f ts → after_run f ts ≡ keep (λ t. not (f t)) ts
after_keep f [] p = refl
after_keep f (t ∷ ts) p = go (f t) refl (after_keep f ts p.1)
  where
    go : (o : Bool) → f t ≡ o → after_run f ts ≡ keep (λ t. not (f t)) ts
        → cond o (after_run f ts) (t ∷ ts) ≡ cond (not o) (t ∷ keep (λ t. not (f t)) ts) (keep (λ t. not (f t)) ts)
    go true e ih = ih
    go false e ih = ap (λ (x : List Tail). t ∷ x) (sym (keep_all (λ t. not (f t)) ts (λ s m. ap not (none_behind f t s e (p.0 s m)))))

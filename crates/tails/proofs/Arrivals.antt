-- Bytes by first arrival: ordered by the number of the first tail that goes on with them. Assumes nothing.
use Prim.Native.Nat.{ℕ, ◌≤◌, ◌<◌}
use native.Mathlib.Omega.{arith}
use mathlib.Core.Path.{◌≡◌, refl, sym, ap, ◌∙◌, subst}
use mathlib.Core.Bool.{Bool, true, false, cond}
use mathlib.Core.Logic.{◌⊎◌, inl, inr}
use mathlib.Core.List.Memᴰ.{append_cases}
use mathlib.Core.List.Memᴰ.{append_left}
use mathlib.Core.List.Memᴰ.{append_right}
use mathlib.Core.List.Memᴰ.{cases_cons as split}
use mathlib.Core.List.Memᴰ.{eq_of_singleton as only_one}
use mathlib.Core.List.Memᴰ.{head as here}
use mathlib.Core.List.Memᴰ.{not-nil}
use mathlib.Core.List.Memᴰ.{tail as later}
use mathlib.Core.List.{List, [], ◌∷◌, ◌++◌, Memᴰ as Mem}
use lib.ListN.{length, drop}
use lib.Dec.{eqb}
use borrow.Author.Tests.{eq-eqb, ne_eqb}
use Rattle.definitions.proofs.Views.{Eq, eq}
use Rattle.trie.specs.Build.{arrived, next_byte, arrivals, Rising}
use Rattle.tails.specs.Tails.{Tail}
use Rattle.tails.specs.Groups.{byte_at}
use Rattle.tails.specs.Runs.{Pairs}
use Rattle.tails.proofs.Keep.{keep, keep_mem}
use Rattle.tails.proofs.Runs.{goes}
use Rattle.tails.proofs.Entries.{entries_from, Long, Front, front}

-- ── lists ordered by a number of each member ──

abbrev pub RisingBy : (ℕ → ℕ) → List ℕ → Type 0
RisingBy f [] = Unit {0}
RisingBy f (b ∷ bs) = ((c : ℕ) → Mem c bs → f b < f c) × RisingBy f bs

pub rising_by : (bs : List ℕ) → Rising bs → RisingBy (λ b. b) bs
rising_by [] r = tt
rising_by (b ∷ bs) r = (r.0, rising_by bs r.1)

-- such lists with the same members are equal
pub rising_unique : (f : ℕ → ℕ) (bs cs : List ℕ) → RisingBy f bs → RisingBy f cs → ((x : ℕ) → Mem x bs → Mem x cs) → ((x : ℕ) → Mem x cs → Mem x bs) → bs ≡ cs
rising_unique f [] [] r s to fro = refl
rising_unique f [] (c ∷ cs) r s to fro = absurd (not-nil (fro c (here refl)))
rising_unique f (b ∷ bs) [] r s to fro = absurd (not-nil (to b (here refl)))
rising_unique f (b ∷ bs) (c ∷ cs) r s to fro = both (rising_unique f bs cs r.1 s.1 to' fro')
  where
    heads : (b ≡ c) ⊎ Mem b cs → (c ≡ b) ⊎ Mem c bs → b ≡ c
    heads (inl e) k = e
    heads (inr h) (inl e) = sym e
    heads (inr h) (inr k) = absurd (omega (arith, r.0 c k, s.0 b h))

    head : b ≡ c
    head = heads (split (to b (here refl))) (split (fro c (here refl)))

    to' : (x : ℕ) → Mem x bs → Mem x cs
    to' x h = go (split (to x (later h)))
      where
        go : (x ≡ c) ⊎ Mem x cs → Mem x cs
        go (inl e) = absurd (omega (arith, r.0 x h, ap f (e ∙ sym head)))
        go (inr k) = k

    fro' : (x : ℕ) → Mem x cs → Mem x bs
    fro' x h = go (split (fro x (later h)))
      where
        go : (x ≡ b) ⊎ Mem x bs → Mem x bs
        go (inl e) = absurd (omega (arith, s.0 x h, ap f (e ∙ head)))
        go (inr k) = k

    both : bs ≡ cs → b ∷ bs ≡ c ∷ cs
    both e = cc head

rising_end : (f : ℕ → ℕ) (bs : List ℕ) (c : ℕ) → RisingBy f bs → ((b : ℕ) → Mem b bs → f b < f c) → RisingBy f (bs ++ (c ∷ []))
rising_end f [] c r h = ((λ x m. absurd (not-nil m)), tt)
rising_end f (b ∷ bs) c r h = ((λ x m. go x (append_cases bs m)), rising_end f bs c r.1 (λ x m. h x (later m)))
  where
    go : (x : ℕ) → Mem x bs ⊎ Mem x (c ∷ []) → f b < f x
    go x (inl m) = r.0 x m
    go x (inr m) = omega (arith, h b (here refl), ap f (only_one m))

-- ── a byte that arrives ──

mem_or_not : (b : ℕ) (cs : List ℕ) → Mem b cs ⊎ (Mem b cs → ⊥)
mem_or_not b [] = inr (λ m. not-nil m)
mem_or_not b (c ∷ cs) = go (eqb b c) (eq b c) (mem_or_not b cs)
  where
    neither : ¬ (b ≡ c) → (Mem b cs → ⊥) → (b ≡ c) ⊎ Mem b cs → ⊥
    neither e n (inl f) = e f
    neither e n (inr m) = n m

    go : (o : Bool) → Eq o b c → Mem b cs ⊎ (Mem b cs → ⊥) → Mem b (c ∷ cs) ⊎ (Mem b (c ∷ cs) → ⊥)
    go true e ih = inl (here e)
    go false e (inl m) = inl (later m)
    go false e (inr n) = inr (λ m. neither e n (split m))

arrived_again : (b : ℕ) (cs : List ℕ) → Mem b cs → arrived b cs ≡ cs
arrived_again b [] m = elim m [ ]
arrived_again b (c ∷ cs) m = go (eqb c b) (eq c b) (arrived_again b cs) (split m)
  where
    go : (o : Bool) → Eq o c b → (Mem b cs → arrived b cs ≡ cs) → (b ≡ c) ⊎ Mem b cs → cond o (c ∷ cs) (c ∷ arrived b cs) ≡ c ∷ cs
    go true e ih k = refl
    go false e ih (inl k) = absurd (e (sym k))
    go false e ih (inr k) = rw (ih k)

arrived_last : (b : ℕ) (cs : List ℕ) → (Mem b cs → ⊥) → arrived b cs ≡ cs ++ (b ∷ [])
arrived_last b [] n = refl
arrived_last b (c ∷ cs) n = go (eqb c b) (eq c b) (arrived_last b cs (λ m. n (later m)))
  where
    go : (o : Bool) → Eq o c b → arrived b cs ≡ cs ++ (b ∷ []) → cond o (c ∷ cs) (c ∷ arrived b cs) ≡ c ∷ (cs ++ (b ∷ []))
    go true e ih = absurd (n (here (sym e)))
    go false e ih = rw ih

-- ── the first to go on with a byte ──

-- arrived before
abbrev pub Earlier : Tail → Tail → Type 0
Earlier t s = t.arrival < s.arrival

-- the number of the first tail that goes on with b
abbrev pub first_of : ℕ → ℕ → List Tail → ℕ
first_of d b [] = 0
first_of d b (t ∷ ts) = cond (goes d b t) t.arrival (first_of d b ts)

pub first_le : (d b : ℕ) (ts : List Tail) → Pairs Earlier ts → (t : Tail) → Mem t (keep (goes d b) ts) → first_of d b ts ≤ t.arrival
first_le d b [] p t m = absurd (not-nil m)
first_le d b (s ∷ ts) p t m = go (goes d b s) (first_le d b ts p.1 t) m
  where
    go : (o : Bool) → (Mem t (keep (goes d b) ts) → first_of d b ts ≤ t.arrival) → Mem t (cond o (s ∷ keep (goes d b) ts) (keep (goes d b) ts)) → cond o s.arrival (first_of d b ts) ≤ t.arrival
    go true ih (here e) = omega (arith, ap (λ (x : Tail). x.arrival) e)
    go true ih (later k) = omega (arith, p.0 t (keep_mem (goes d b) ts k).listed)
    go false ih k = ih k

pub first_there : (d b : ℕ) (ts : List Tail) (t : Tail) → Mem t (keep (goes d b) ts) → (s : Tail) × Mem s (keep (goes d b) ts) × (s.arrival ≡ first_of d b ts)
first_there d b [] t m = absurd (not-nil m)
first_there d b (u ∷ ts) t m = go (goes d b u) (first_there d b ts t) m
  where
    go : (o : Bool) → (Mem t (keep (goes d b) ts) → (s : Tail) × Mem s (keep (goes d b) ts) × (s.arrival ≡ first_of d b ts))
        → Mem t (cond o (u ∷ keep (goes d b) ts) (keep (goes d b) ts)) → (s : Tail) × Mem s (cond o (u ∷ keep (goes d b) ts) (keep (goes d b) ts)) × (s.arrival ≡ cond o u.arrival (first_of d b ts))
    go true ih k = (u, here refl, refl)
    go false ih k = ih k

-- ── the arrivals ──

-- what is known of the bytes seen before
record Seen (d : ℕ) (f : ℕ → ℕ) (seen : List ℕ) (ts : List Tail) : Type 0 where
  rising : RisingBy f seen
  before : (b : ℕ) → Mem b seen → (t : Tail) → Mem t ts → f b < t.arrival
  new : (b : ℕ) → (Mem b seen → ⊥) → f b ≡ first_of d b ts

arrivals_rising : (d : ℕ) (f : ℕ → ℕ) (seen : List ℕ) (ts : List Tail) → Long d ts → Pairs Earlier ts → Seen d f seen ts → RisingBy f (arrivals seen (entries_from d ts))
arrivals_rising d f seen [] l p k = k.rising
arrivals_rising d f seen (t ∷ ts) l p k = go (eqb (length t.entry.path) d) refl (front d t.entry.path (l t (here refl))) (λ s h. arrivals_rising d f s ts (λ x m. l x (later m)) p.1 h)
  where
    c : ℕ
    c = byte_at d t

    -- no byte arrives
    same : ((b : ℕ) → (Mem b seen → ⊥) → goes d b t ≡ false) → Seen d f seen ts
    same n = record { rising = k.rising; before = λ b m s i. k.before b m s (later i); new = λ b m. k.new b m ∙ rw (n b m) }

    -- t goes on with another byte
    passed : eqb (length t.entry.path) d ≡ false → (b : ℕ) → ¬ (c ≡ b) → goes d b t ≡ false
    passed e b n = rw (e, ne_eqb c b n)

    -- byte c is new
    next : eqb (length t.entry.path) d ≡ false → (Mem c seen → ⊥) → Seen d f (seen ++ (c ∷ [])) ts
    next e n = record { rising = rising_end f seen c k.rising (λ b m. omega (arith, first, k.before b m t (here refl))); before = λ b m s i. before b s i (append_cases seen m); new = new }
      where
        first : f c ≡ t.arrival
        first = k.new c n ∙ rw (e, eq-eqb c c refl)

        before : (b : ℕ) (s : Tail) → Mem s ts → Mem b seen ⊎ Mem b (c ∷ []) → f b < s.arrival
        before b s i (inl m) = k.before b m s (later i)
        before b s i (inr m) = omega (arith, first, p.0 s i, ap f (only_one m))

        new : (b : ℕ) → (Mem b (seen ++ (c ∷ [])) → ⊥) → f b ≡ first_of d b ts
        new b m =
            let z : goes d b t ≡ false = passed e b (λ q. m (append_right seen (here (sym q)))) in
            k.new b (λ i. m (append_left (c ∷ []) i)) ∙ rw z

    byte : eqb (length t.entry.path) d ≡ false → ((s : List ℕ) → Seen d f s ts → RisingBy f (arrivals s (entries_from d ts))) → Mem c seen ⊎ (Mem c seen → ⊥) → RisingBy f (arrivals (arrived c seen) (entries_from d ts))
    byte e ih (inl m) = rw (arrived_again c seen m) (ih seen (same (λ b n. passed e b (λ q. n (subst (λ (x : ℕ). Mem x seen) q m)))))
    byte e ih (inr n) = rw (arrived_last c seen n) (ih (seen ++ (c ∷ [])) (next e n))

    go : (o : Bool) → eqb (length t.entry.path) d ≡ o → Front o d t.entry.path → ((s : List ℕ) → Seen d f s ts → RisingBy f (arrivals s (entries_from d ts)))
        → RisingBy f (arrivals (next_byte (drop d t.entry.path) seen) (entries_from d ts))
    go true e h ih = rw h (ih seen (same (λ b n. rw e)))
    go false e h ih = rw h (byte e ih (mem_or_not c seen))

-- the bytes that go on, by the number of the first tail that goes on with each
pub arrivals_by_first : (d : ℕ) (ts : List Tail) → Long d ts → Pairs Earlier ts → RisingBy (λ b. first_of d b ts) (arrivals [] (entries_from d ts))
arrivals_by_first d ts l p = arrivals_rising d (λ b. first_of d b ts) [] ts l p (record { rising = tt; before = λ b m. absurd (not-nil m); new = λ b n. refl })

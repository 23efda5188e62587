-- The members of a list where an element was put before its first, or somewhere behind it. Assumes nothing.
use mathlib.Core.Path.{◌≡◌}
use mathlib.Core.Bool.{Bool, true, false, cond}
use mathlib.Core.Logic.{◌⊎◌, inl, inr}
use mathlib.Core.List.Memᴰ.{cases_cons as split}
use mathlib.Core.List.Memᴰ.{head as here}
use mathlib.Core.List.Memᴰ.{tail as later}
use mathlib.Core.List.{List, ◌∷◌, Memᴰ as Mem}

module _ {A : Type 0} {x : A} where
  -- behind the first
  pub behind_mem : {a b : A} {bs more : List A} → (Mem x more → (x ≡ a) ⊎ Mem x bs) → Mem x (b ∷ more) → (x ≡ a) ⊎ Mem x (b ∷ bs)
  behind_mem ih (here e) = inr (here e)
  behind_mem {a} {b} {bs} ih (later k) = go (ih k)
    where
      go : (x ≡ a) ⊎ Mem x bs → (x ≡ a) ⊎ Mem x (b ∷ bs)
      go (inl e) = inl e
      go (inr m) = inr (later m)

  -- where a test decides
  module _ (a b : A) (bs more : List A) where
    pub placed_mem : (o : Bool) → (Mem x more → (x ≡ a) ⊎ Mem x bs) → Mem x (cond o (a ∷ b ∷ bs) (b ∷ more)) → (x ≡ a) ⊎ Mem x (b ∷ bs)
    placed_mem true ih h = split h
    placed_mem false ih h = behind_mem ih h

    pub mem_placed : (o : Bool) → ((x ≡ a) ⊎ Mem x bs → Mem x more) → (x ≡ a) ⊎ Mem x (b ∷ bs) → Mem x (cond o (a ∷ b ∷ bs) (b ∷ more))
    mem_placed true ih (inl e) = here e
    mem_placed true ih (inr k) = later k
    mem_placed false ih (inl e) = later (ih (inl e))
    mem_placed false ih (inr (here e)) = here e
    mem_placed false ih (inr (later k)) = later (ih (inr k))

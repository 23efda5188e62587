-- Sorted records of locations without repeats are the set of places. Assumes nothing.
use Prim.Native.Nat.{ℕ, suc}
use native.Mathlib.Omega.{arith}
use mathlib.Core.Path.{◌≡◌, refl, sym, ap, subst}
use mathlib.Core.List.Memᴰ.{head as here}
use mathlib.Core.List.Memᴰ.{tail as later}
use mathlib.Core.List.{List, [], ◌∷◌, Memᴰ as Mem}
use lib.ListN.{length}
use Rattle.records.specs.Records.{sorted, drop_repeats}
use Rattle.records.proofs.Lists.{sorted_mem, mem_sorted, sorted_ordered, drop_repeats_mem, mem_drop_repeats, drop_repeats_ascending, ascending_unique}
use Rattle.definitions.specs.Location.{Location, normal}
use Rattle.definitions.proofs.Order.{location_path, mem_normal, normal_mem, sorted_normal}
use Rattle.place_lookup.proofs.Triples.{triple, triples, triples_mem, triples_ascending}

pub triple_path : (l m : Location) → triple l ≡ triple m → l ≡ m
triple_path l m e = location_path (cc) (cc) (cc)

pub triples_path : (ls ms : List Location) → triples ls ≡ triples ms → ls ≡ ms
triples_path [] [] e = refl
triples_path [] (m ∷ ms) e = absurd (let z : ◌≡◌ {A = ℕ} 0 1 = cc in omega arith)
triples_path (l ∷ ls) [] e = absurd (let z : ◌≡◌ {A = ℕ} 0 1 = cc in omega arith)
triples_path (l ∷ ls) (m ∷ ms) e =
    let a : l ≡ m = triple_path l m (cc) in
    let r : ls ≡ ms = triples_path ls ms (cc) in
    cc

pub length_triples : (ls : List Location) → length (triples ls) ≡ length ls
length_triples [] = refl
length_triples (l ∷ ls) = ap suc (length_triples ls)

pub mem_triples : {l : Location} (ls : List Location) → Mem l ls → Mem (triple l) (triples ls)
mem_triples {l = l} [] x' = elim x' [ ]
mem_triples (l ∷ ls) (here e) = here (ap triple e)
mem_triples (l ∷ ls) (later h) = later (mem_triples ls h)

-- sorting, then dropping repeats
pub normal_triples : (ls : List Location) → drop_repeats (sorted (triples ls)) ≡ triples (normal ls)
normal_triples ls =
    ascending_unique (drop_repeats (sorted (triples ls))) (triples (normal ls))
    (drop_repeats_ascending (sorted (triples ls)) (sorted_ordered (triples ls)))
    (triples_ascending (normal ls) (sorted_normal ls))
    to
    fro
  where
    to : (x : List ℕ) → Mem x (drop_repeats (sorted (triples ls))) → Mem x (triples (normal ls))
    to x h =
        let f = triples_mem ls (sorted_mem x (triples ls) (drop_repeats_mem x (sorted (triples ls)) h)) in
        subst (λ (y : List ℕ). Mem y (triples (normal ls))) (sym f.is) (mem_triples (normal ls) (mem_normal ls f.listed))

    fro : (x : List ℕ) → Mem x (triples (normal ls)) → Mem x (drop_repeats (sorted (triples ls)))
    fro x h =
        let f = triples_mem (normal ls) h in
        mem_drop_repeats x (sorted (triples ls)) (mem_sorted x (triples ls) (subst (λ (y : List ℕ). Mem y (triples ls)) (sym f.is) (mem_triples ls (normal_mem ls f.listed))))

-- Two pieces share exactly where some address and tick is covered by both. Assumes nothing.
use Prim.Native.Nat.{ℕ, ◌<◌, min, max}
use native.Mathlib.Omega.{arith}
use mathlib.Core.Path.{◌≡◌}
use mathlib.Core.Bool.{true, false}
use mathlib.Core.Logic.{◌↔◌}
use lib.Dec.{ltb}
use borrow.Author.Tests.{ltb-true, lt-ltb}
use Rattle.definitions.specs.Location.{Lives}
use Rattle.definitions.specs.Blocks.{Piece}
use Rattle.definitions.specs.Runs.{Covers, Apart}
use Rattle.definitions.specs.Conflicts.{end, shares, Common}
use Rattle.definitions.proofs.Tests.{both, and_true, is_false, not_both}

-- the two tests of `shares`, as facts on the numbers
pub record Sharing (p r : Piece) : Type 0 where
  pub low : p.at.address < end p
  pub low' : r.at.address < end r
  pub across : p.at.address < end r
  pub across' : r.at.address < end p
  pub born : p.at.created < p.at.destroyed
  pub born' : r.at.created < r.at.destroyed
  pub before : p.at.created < r.at.destroyed
  pub before' : r.at.created < p.at.destroyed

pub shares_facts : (p r : Piece) → shares p r ≡ true → Sharing p r
shares_facts p r e =
    let a : ℕ = max p.at.address r.at.address in
    let b : ℕ = min (end p) (end r) in
    let c : ℕ = max p.at.created r.at.created in
    let d : ℕ = min p.at.destroyed r.at.destroyed in
    let t : (ltb a b ≡ true) × (ltb c d ≡ true) = both (ltb a b) (ltb c d) e in
    let x : max p.at.address r.at.address < min (end p) (end r) = ltb-true a b t.0 in
    let y : max p.at.created r.at.created < min p.at.destroyed r.at.destroyed = ltb-true c d t.1 in
    record { low = omega arith; low' = omega arith; across = omega arith; across' = omega arith; born = omega arith; born' = omega arith; before = omega arith; before' = omega arith }

pub facts_share : (p r : Piece) → Sharing p r → shares p r ≡ true
facts_share p r s = and_true
    (lt-ltb (max p.at.address r.at.address) (min (end p) (end r)) (omega arith))
    (lt-ltb (max p.at.created r.at.created) (min p.at.destroyed r.at.destroyed) (omega arith))

-- they share exactly where some address and tick is covered by both
pub shares_is : (p r : Piece) → shares p r ≡ true ↔ Common p r
shares_is p r = (λ e. to (shares_facts p r e), λ c. facts_share p r (fro c))
  where
    to : Sharing p r → Common p r
    to s = record {
      address = max p.at.address r.at.address;
      tick = max p.at.created r.at.created;
      left = record { low = omega arith; high = omega arith; lives = record { from = omega arith; till = omega arith } };
      right = record { low = omega arith; high = omega arith; lives = record { from = omega arith; till = omega arith } };
    }

    fro : Common p r → Sharing p r
    fro c =
        let u : Covers p c.address c.tick = c.left in
        let v : Covers r c.address c.tick = c.right in
        let l : Lives p.at c.tick = u.lives in
        let m : Lives r.at c.tick = v.lives in
        record { low = omega arith; low' = omega arith; across = omega arith; across' = omega arith; born = omega arith; born' = omega arith; before = omega arith; before' = omega arith }

-- they do not share exactly where they are apart
pub apart_is : (p r : Piece) → shares p r ≡ false ↔ Apart p r
apart_is p r = (
  (λ e a t u v. not_both e ((shares_is p r).1 (record { address = a; tick = t; left = u; right = v }))),
  λ f. is_false (shares p r) (λ e. let c : Common p r = (shares_is p r).0 e in f c.address c.tick c.left c.right),
)

pub shares_sym : (p r : Piece) → shares p r ≡ true → shares r p ≡ true
shares_sym p r e = let s : Sharing p r = shares_facts p r e in facts_share r p (record { low = s.low'; low' = s.low; across = s.across'; across' = s.across; born = s.born'; born' = s.born; before = s.before'; before' = s.before })

-- The verdict on an image: accepted is what is right, meets the rule and is free of conflicts. Assumes nothing.
use Prim.Native.Nat.{ℕ}
use native.Mathlib.Omega.{arith}
use mathlib.Core.Path.{◌≡◌, refl, ap, ◌∙◌}
use mathlib.Core.Bool.{Bool, true, false}
use mathlib.Core.Logic.{◌↔◌}
use mathlib.Core.List.{List}
use Rattle.definitions.specs.Conflicts.{free}
use Rattle.definitions.specs.Causes.{Cause, image_broken, conflict}
use Rattle.trie.specs.Trie.{Trie, nodes, entries, trie_pieces}
use Rattle.trie.specs.Test.{index_rule}
use Rattle.image_format.specs.Image.{image}
use Rattle.image_format.specs.Reading.{Layout, right, refused, read_image}
use Rattle.image_format.specs.Held.{trie_in}
use Rattle.image_format.specs.Savable.{Savable}
use Rattle.image_format.specs.Check.{and_if, check_image}
use Rattle.image_format.proofs.Theorems.{image_read}

pub accepted : (o : Bool) (c : Cause) (l : Layout) (k e : ℕ) → (and_if o c l ≡ right k e) ↔ ((l ≡ right k e) × (o ≡ true))
accepted o c (refused n) k e = ((λ f. absurd (other f)), λ f. f.0)
  where
    other : refused n ≡ right k e → ⊥
    other f = let z : ◌≡◌ {A = ℕ} 0 1 = cc in omega arith
accepted true c (right m n) k e = ((λ f. (f, refl)), λ f. f.0)
accepted false c (right m n) k e = ((λ f. absurd (let z : ◌≡◌ {A = ℕ} 0 1 = cc in omega arith)), λ f. absurd (never f.1))
  where
    never : false ≡ true → ⊥
    never f = let z : ◌≡◌ {A = ℕ} 0 1 = cc in omega arith

-- what an accepted image is
pub record Accepted (s : List ℕ) (k e : ℕ) : Type 0 where
  pub read : read_image s ≡ right k e
  pub rule : index_rule (trie_in s) ≡ true
  pub apart : free (trie_pieces (trie_in s)) ≡ true

pub check_accepts : (s : List ℕ) (k e : ℕ) → check_image s ≡ right k e → Accepted s k e
unfolding check_image
check_accepts s k e f =
    let x = (accepted (free (trie_pieces (trie_in s))) conflict (and_if (index_rule (trie_in s)) image_broken (read_image s)) k e).0 f in
    let y = (accepted (index_rule (trie_in s)) image_broken (read_image s) k e).0 x.0 in
    record { read = y.0; rule = y.1; apart = x.1 }

pub accepts_check : (s : List ℕ) (k e : ℕ) → Accepted s k e → check_image s ≡ right k e
unfolding check_image
accepts_check s k e a =
    (accepted (free (trie_pieces (trie_in s))) conflict (and_if (index_rule (trie_in s)) image_broken (read_image s)) k e).1
    ((accepted (index_rule (trie_in s)) image_broken (read_image s) k e).1 (a.read, a.rule), a.apart)

-- the image of what can be saved, meets the rule and is free of conflicts passes the test
pub image_passes : (t : Trie) → Savable t → index_rule t ≡ true → free (trie_pieces t) ≡ true → check_image (image t) ≡ right (nodes t) (entries t)
image_passes t v rule apart =
    let r = image_read t v in
    accepts_check (image t) (nodes t) (entries t) (record { read = r.0; rule = ap index_rule r.1 ∙ rule; apart = ap (λ (u : Trie). free (trie_pieces u)) r.1 ∙ apart })

-- What is owed at a path, by one byte: suffixes from one byte further on, prefixes from one byte more in front.
-- Assumes nothing.
use Prim.Native.Nat.{ℕ, zero, suc, ◌+◌, ◌-◌, ◌≤◌, ◌<◌}
use native.Mathlib.Nat.{not-suc-le-zero}
use native.Mathlib.Omega.{arith}
use mathlib.Core.Path.{◌≡◌, refl, sym, ap, ◌∙◌, subst}
use mathlib.Core.Logic.{◌⊎◌, inl, inr}
use mathlib.Core.List.{List, [], ◌∷◌, ◌++◌}
use lib.ListN.{length, get_or, drop, length-drop}
use lib.Seq.{append_snoc, drop-cons, drop-drop}
use Rattle.definitions.specs.Location.{Location, moved}
use Rattle.definitions.proofs.Order.{location_path}
use Rattle.trie.specs.Trie.{Node}
use Rattle.trie.specs.Rule.{Has, OwedPrefix, OwedSuffix}

module _ (n : Node) where
  -- ── suffixes ──

  -- a chunk or what is owed one byte further on
  pub record NextSuffix (path : List ℕ) (l : Location) : Type 0 where
    pub byte : ℕ
    pub next : Has n (path ++ (byte ∷ [])) l ⊎ OwedSuffix n (path ++ (byte ∷ [])) l

  pub suffix_up : (u : List ℕ) (l : Location) → NextSuffix u l → OwedSuffix n u l
  suffix_up u l s = go s.next
    where
      b : ℕ
      b = s.byte

      go : Has n (u ++ (b ∷ [])) l ⊎ OwedSuffix n (u ++ (b ∷ [])) l → OwedSuffix n u l
      go (inl h) = record { bytes = u ++ (b ∷ []); has = h; rest = b ∷ []; on = refl; above = omega arith }
      go (inr o) = record { bytes = o.bytes; has = o.has; rest = b ∷ o.rest; on = o.on ∙ append_snoc u b o.rest; above = omega arith }

  pub suffix_down : (u : List ℕ) (l : Location) → OwedSuffix n u l → NextSuffix u l
  suffix_down u l o = go o.rest o.on o.above
    where
      go : (rest : List ℕ) → o.bytes ≡ u ++ rest → 0 < length rest → NextSuffix u l
      go [] e h = absurd (not-suc-le-zero h)
      go (b ∷ []) e h = record { byte = b; next = inl (subst (λ (p : List ℕ). Has n p l) e o.has) }
      go (b ∷ c ∷ rest) e h = record { byte = b; next = inr (record { bytes = o.bytes; has = o.has; rest = c ∷ rest; on = e ∙ sym (append_snoc u b (c ∷ rest)); above = omega arith }) }

  -- ── prefixes ──

  -- a chunk or what is owed with one byte more in front, one address back
  pub record NextPrefix (path : List ℕ) (l : Location) : Type 0 where
    pub byte : ℕ
    pub at : Location
    pub next : Has n (byte ∷ path) at ⊎ OwedPrefix n (byte ∷ path) at
    pub is : l ≡ moved at 1

  pub prefix_up : (u : List ℕ) (l : Location) → 0 < length u → NextPrefix u l → OwedPrefix n u l
  prefix_up u l h s = go s.next
    where
      go : Has n (s.byte ∷ u) s.at ⊎ OwedPrefix n (s.byte ∷ u) s.at → OwedPrefix n u l
      go (inl k) = record { bytes = s.byte ∷ u; at = s.at; has = k; i = 1; from = omega arith; to = omega arith; there = refl; is = s.is }
      go (inr o) =
          let long : length o.bytes - o.i ≡ suc (length u) = sym (length-drop o.i o.bytes) ∙ ap length o.there in
          let shift : moved s.at 1 ≡ moved (moved o.at o.i) 1 = ap (λ (m : Location). moved m 1) o.is in
          record {
            bytes = o.bytes;
            at = o.at;
            has = o.has;
            i = o.i + 1;
            from = omega arith;
            to = omega arith;
            there = sym (drop-drop 1 o.i o.bytes) ∙ ap (drop 1) o.there;
            is = s.is ∙ shift ∙ location_path (omega arith) refl refl;
          }

  pub prefix_down : (u : List ℕ) (l : Location) → OwedPrefix n u l → NextPrefix u l
  prefix_down u l o = go o.i o.from o.to o.there o.is
    where
      -- the path with one byte more in front
      more : (j : ℕ) → suc j < length o.bytes → drop (suc j) o.bytes ≡ u → drop j o.bytes ≡ get_or o.bytes j 0 ∷ u
      more j h e = drop-cons o.bytes j 0 (omega arith) ∙ ap (λ (p : List ℕ). get_or o.bytes j 0 ∷ p) e

      go : (i : ℕ) → 1 ≤ i → i < length o.bytes → drop i o.bytes ≡ u → l ≡ moved o.at i → NextPrefix u l
      go zero f h e s = absurd (not-suc-le-zero f)
      go (suc zero) f h e s = record { byte = get_or o.bytes 0 0; at = o.at; next = inl (subst (λ (p : List ℕ). Has n p o.at) (more 0 h e) o.has); is = s }
      go (suc (suc j)) f h e s =
          record {
            byte = get_or o.bytes (suc j) 0;
            at = moved o.at (suc j);
            next = inr (record { bytes = o.bytes; at = o.at; has = o.has; i = suc j; from = omega arith; to = omega arith; there = more (suc j) h e; is = refl });
            is = s ∙ location_path (omega arith) refl refl;
          }

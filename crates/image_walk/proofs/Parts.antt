-- Where the parts of a node stand, from the counts that were read one after another. Assumes nothing.
use Prim.Native.Nat.{ℕ, ◌+◌, ◌*◌, ◌≤◌}
use native.Mathlib.Omega.{arith}
use mathlib.Core.Path.{◌≡◌, refl, ap, ◌∙◌}
use mathlib.Core.Bool.{Bool, true, false, cond}
use mathlib.Core.List.{List}
use lib.ListN.{length, get_or}
use lib.Dec.{eqb}
use Rattle.words.specs.Words.{le64}
use Rattle.location_lists.specs.declared.List.{List as Listing}
use Rattle.image_format.specs.Held.{list_end}
use Rattle.image_walk.specs.Parts.{prefix_list, chunk_list, suffix_list, behind_lists, table_at, children_at, list_in, parts_at}
use Rattle.image_walk.specs.Here.{Laid}
use Rattle.image_walk.specs.declared.Node.{Node}
use Rattle.image_walk.specs.declared.Table.{Table}
use Rattle.image_walk.specs.Bounds.{Bounds}
use Rattle.image_walk.proofs.Here.{here_bounds}

-- a table is where it stands and its count
of_kind : (o : Bool) (b n : ℕ) → ◌≡◌ {A = Table} (cond o (record { at = b; count = 256 }) (record { at = b + 8; count = n })) (record { at = cond o b (b + 8); count = cond o 256 n })
of_kind true b n = refl
of_kind false b n = refl

laid_bounds : (s : List ℕ) (at : ℕ) → Laid s at → Bounds s at
laid_bounds s at h = here_bounds h.here

pub room_first : (s : List ℕ) (at : ℕ) → Laid s at → at + 1 + 8 ≤ length s
room_first s at h = let b = laid_bounds s at h in omega arith

-- a list that was read ends where the next one is read
ends : (s : List ℕ) (i : ℕ) (l : Listing) → l ≡ list_in s i → l.at + l.count * 24 ≡ list_end s i
ends s i l e = rw e (omega arith)

-- the prefixes were read behind the kind, then the chunks behind those, then the suffixes
module _ (s : List ℕ) (at : ℕ) (p : Listing) (e : p ≡ list_in s (prefix_list at)) where
  past_prefixes : p.at + p.count * 24 ≡ chunk_list s at
  unfolding chunk_list
  past_prefixes = ends s (prefix_list at) p e

  pub room_second : Laid s at → p.at + p.count * 24 + 8 ≤ length s
  room_second h =
      let b = laid_bounds s at h in
      let x = past_prefixes in
      omega arith

  module _ (i : ℕ) (f : i ≡ p.at + p.count * 24) (c : Listing) (g : c ≡ list_in s i) where
    chunks_are : c ≡ list_in s (chunk_list s at)
    chunks_are = g ∙ ap (list_in s) (f ∙ past_prefixes)

    past_chunks : c.at + c.count * 24 ≡ suffix_list s at
    unfolding suffix_list
    past_chunks = ends s (chunk_list s at) c chunks_are

    pub room_third : Laid s at → c.at + c.count * 24 + 8 ≤ length s
    room_third h =
        let b = laid_bounds s at h in
        let x = past_chunks in
        omega arith

    module _ (j : ℕ) (k : j ≡ c.at + c.count * 24) (u : Listing) (l : u ≡ list_in s j) where
      suffixes_are : u ≡ list_in s (suffix_list s at)
      suffixes_are = l ∙ ap (list_in s) (k ∙ past_chunks)

      past_suffixes : u.at + u.count * 24 ≡ behind_lists s at
      unfolding behind_lists
      past_suffixes = ends s (suffix_list s at) u suffixes_are

      pub room_last : Laid s at → u.at + u.count * 24 + 8 ≤ length s
      room_last h =
          let b = laid_bounds s at h in
          let x = past_suffixes in
          omega arith

      -- the node that was put together is the one that stands there
      pub parts_are : (m : ℕ) → m ≡ u.at + u.count * 24 → (t : Table) → t ≡ cond (eqb (get_or s at 0) 1) (record { at = m; count = 256 }) (record { at = m + 8; count = le64 s m }) →
          ◌≡◌ {A = Node} (record { prefixes = p; chunks = c; suffixes = u; table = t }) (parts_at s at)
      unfolding table_at children_at
      parts_are m n t x =
          let o = eqb (get_or s at 0) 1 in
          let F : ℕ → Table = λ b. cond o (record { at = b; count = 256 }) (record { at = b + 8; count = le64 s b }) in
          let y : t ≡ record { at = table_at s at; count = children_at s at } = x ∙ ap F (n ∙ past_suffixes) ∙ of_kind o (behind_lists s at) (le64 s (behind_lists s at)) in
          λ i. record { prefixes = e i; chunks = chunks_are i; suffixes = suffixes_are i; table = y i }

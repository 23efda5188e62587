-- The index rule holds exactly if the local conditions do. Assumes nothing.
use Prim.Native.Nat.{ℕ, zero, suc, ◌+◌, ◌-◌, ◌≤◌, ◌<◌}
use native.Mathlib.Nat.{not-suc-le-zero}
use native.Mathlib.Omega.{arith}
use mathlib.Core.Path.{◌≡◌, refl, sym, ap, ◌∙◌, subst}
use mathlib.Core.Logic.{◌⊎◌, inl, inr, ◌↔◌}
use mathlib.Core.List.Memᴰ.{cast}
use mathlib.Core.List.{List, [], ◌∷◌, ◌++◌, append-nil, Memᴰ as Mem}
use mathlib.Core.Option.{Option, none, some}
use lib.ListN.{length, get_or, drop, length-append, length-drop}
use lib.Seq.{append_snoc, drop-cons, drop-drop}
use Rattle.definitions.specs.Location.{Location, moved}
use Rattle.definitions.proofs.Order.{location_path}
use Rattle.trie.specs.Trie.{Node, node_at, IsNode, lists_or_none, lists_at}
use Rattle.trie.specs.Rule.{Has, OwedPrefix, OwedSuffix, OwedPath, ListsSorted, NodeRule}
use Rattle.trie.specs.Local.{FromChild, FromFront, HasChild, HasEnd, LocalRule}
use Rattle.trie.proofs.Walk.{root_node, front_node, next_node, in_chunks_node, in_prefixes_node, in_suffixes_node}
use Rattle.trie.proofs.Owed.{NextSuffix, suffix_up, suffix_down, NextPrefix, prefix_up, prefix_down}

-- one byte more at the end
length_snoc : (u : List ℕ) (b : ℕ) → length (u ++ (b ∷ [])) ≡ suc (length u)
length_snoc u b = length-append u (b ∷ []) ∙ omega arith

-- ── from the local conditions to the rule ──

module _ (n : Node) (r : LocalRule n) where
  -- no node is so deep; k is what is left of the depth
  too_deep : (u : List ℕ) → 16 < length u + 0 → IsNode n u → ⊥
  too_deep u f h = omega (arith, r.short u h)

  suffix_owed : (k : ℕ) (u : List ℕ) → 16 < length u + k → (l : Location) → Mem l (lists_at n u).suffixes → OwedSuffix n u l
  suffix_owed zero u f l h = absurd (too_deep u f (in_suffixes_node n u h))
  suffix_owed (suc k) u f l h = go (suffix_owed k) ((r.suffixes u (in_suffixes_node n u h) l).0 h)
    where
      go : ((v : List ℕ) → 16 < length v + k → (m : Location) → Mem m (lists_at n v).suffixes → OwedSuffix n v m) → FromChild n u l → OwedSuffix n u l
      go ih c = suffix_up n u l (record { byte = c.byte; next = next c.listed })
        where
          next : Has n (u ++ (c.byte ∷ [])) l ⊎ Mem l (lists_at n (u ++ (c.byte ∷ []))).suffixes → Has n (u ++ (c.byte ∷ [])) l ⊎ OwedSuffix n (u ++ (c.byte ∷ [])) l
          next (inl k) = inl k
          next (inr k) = inr (ih (u ++ (c.byte ∷ [])) (omega (arith, length_snoc u c.byte)) l k)

  suffix_held : (u rest : List ℕ) (l : Location) → 0 < length rest → Has n (u ++ rest) l → Mem l (lists_at n u).suffixes
  suffix_held u [] l f h = absurd (not-suc-le-zero f)
  suffix_held u (b ∷ []) l f h = (r.suffixes u (front_node n u (b ∷ []) (in_chunks_node n (u ++ (b ∷ [])) h)) l).1 (record { byte = b; listed = inl h })
  suffix_held u (b ∷ c ∷ rest) l f h =
      let k : Has n (u ++ (b ∷ []) ++ c ∷ rest) l = subst (λ (p : List ℕ). Has n p l) (sym (append_snoc u b (c ∷ rest))) h in
      let s : Mem l (lists_at n (u ++ (b ∷ []))).suffixes = suffix_held (u ++ (b ∷ [])) (c ∷ rest) l (omega arith) k in
      (r.suffixes u (front_node n u (b ∷ c ∷ rest) (in_chunks_node n (u ++ b ∷ c ∷ rest) h)) l).1 (record { byte = b; listed = inr s })

  suffix_back : (u : List ℕ) (l : Location) → OwedSuffix n u l → Mem l (lists_at n u).suffixes
  suffix_back u l o = suffix_held u o.rest l o.above (subst (λ (p : List ℕ). Has n p l) o.on o.has)

  prefix_owed : (k : ℕ) (u : List ℕ) → 16 < length u + k → (l : Location) → Mem l (lists_at n u).prefixes → OwedPrefix n u l
  prefix_owed zero u f l h = absurd (too_deep u f (in_prefixes_node n u h))
  prefix_owed (suc k) [] f l h = absurd (r.root_prefixes l h)
  prefix_owed (suc k) (c ∷ u) f l h = go (prefix_owed k) ((r.prefixes (c ∷ u) (omega arith) (in_prefixes_node n (c ∷ u) h) l).0 h)
    where
      go : ((v : List ℕ) → 16 < length v + k → (m : Location) → Mem m (lists_at n v).prefixes → OwedPrefix n v m) → FromFront n (c ∷ u) l → OwedPrefix n (c ∷ u) l
      go ih t = prefix_up n (c ∷ u) l (omega arith) (record { byte = t.byte; at = t.at; next = next t.listed; is = t.is })
        where
          next : Has n (t.byte ∷ c ∷ u) t.at ⊎ Mem t.at (lists_at n (t.byte ∷ c ∷ u)).prefixes → Has n (t.byte ∷ c ∷ u) t.at ⊎ OwedPrefix n (t.byte ∷ c ∷ u) t.at
          next (inl k) = inl k
          next (inr k) = inr (ih (t.byte ∷ c ∷ u) (omega arith) t.at k)

  -- the bytes from j on, without their first
  one_less : (j : ℕ) (bytes : List ℕ) → j < length bytes → IsNode n (drop j bytes) → IsNode n (drop (suc j) bytes)
  one_less j bytes h k = r.shorter (get_or bytes j 0) (drop (suc j) bytes) (subst (IsNode n) (drop-cons bytes j 0 h) k)

  prefix_held : (j : ℕ) (bytes : List ℕ) (at : Location) → Has n bytes at → suc j < length bytes → Mem (moved at (suc j)) (lists_at n (drop (suc j) bytes)).prefixes
  prefix_held zero bytes at h f =
      (r.prefixes (drop 1 bytes) (omega (arith, length-drop 1 bytes)) (one_less 0 bytes (omega arith) (in_chunks_node n bytes h)) (moved at 1)).1
      (record { byte = get_or bytes 0 0; at = at; listed = inl (subst (λ (p : List ℕ). Has n p at) (drop-cons bytes 0 0 (omega arith)) h); is = refl })
  prefix_held (suc j) bytes at h f =
      let k : Mem (moved at (suc j)) (lists_at n (drop (suc j) bytes)).prefixes = prefix_held j bytes at h (omega arith) in
      (r.prefixes (drop (suc (suc j)) bytes) (omega (arith, length-drop (suc (suc j)) bytes)) (one_less (suc j) bytes (omega arith) (in_prefixes_node n (drop (suc j) bytes) k)) (moved at (suc (suc j)))).1
      (record {
        byte = get_or bytes (suc j) 0;
        at = moved at (suc j);
        listed = inr (subst (λ (p : List ℕ). Mem (moved at (suc j)) (lists_at n p).prefixes) (drop-cons bytes (suc j) 0 (omega arith)) k);
        is = location_path (omega arith) refl refl;
      })

  prefix_back : (u : List ℕ) (l : Location) → OwedPrefix n u l → Mem l (lists_at n u).prefixes
  prefix_back u l o = go o.i o.from o.to o.there o.is
    where
      go : (i : ℕ) → 1 ≤ i → i < length o.bytes → drop i o.bytes ≡ u → l ≡ moved o.at i → Mem l (lists_at n u).prefixes
      go zero f h e s = absurd (not-suc-le-zero f)
      go (suc j) f h e s = cast s (subst (λ (p : List ℕ). Mem (moved o.at (suc j)) (lists_at n p).prefixes) e (prefix_held j o.bytes o.at o.has h))

  -- down to a node with a prefix or a chunk
  path_owed : (k : ℕ) (u : List ℕ) → 16 < length u + k → 0 < length u → IsNode n u → OwedPath n u
  path_owed zero u f h s = absurd (too_deep u f s)
  path_owed (suc k) u f h s = go (path_owed k) (r.ended u h s)
    where
      on : (b : ℕ) → OwedPath n (u ++ (b ∷ [])) → OwedPath n u
      on b o = record { bytes = o.bytes; at = o.at; has = o.has; i = o.i; inside = o.inside; rest = b ∷ o.rest; on = o.on ∙ append_snoc u b o.rest }

      by_prefix : {l : Location} → OwedPrefix n u l → OwedPath n u
      by_prefix o = record { bytes = o.bytes; at = o.at; has = o.has; i = o.i; inside = o.to; rest = []; on = o.there ∙ sym (append-nil u) }

      end : (l : Location) → Mem l (lists_at n u).prefixes ⊎ Mem l (lists_at n u).chunks → OwedPath n u
      end l (inl m) = by_prefix (prefix_owed (suc k) u f l m)
      end l (inr m) = record { bytes = u; at = l; has = m; i = 0; inside = h; rest = []; on = sym (append-nil u) }

      go : ((v : List ℕ) → 16 < length v + k → 0 < length v → IsNode n v → OwedPath n v) → HasChild n u ⊎ HasEnd n u → OwedPath n u
      go ih (inl c) = on c.byte (ih (u ++ (c.byte ∷ [])) (omega (arith, length_snoc u c.byte)) (omega (arith, length_snoc u c.byte)) c.there)
      go ih (inr e) = end e.at e.listed

  -- where no node is, the lists are empty
  all_sorted : (u : List ℕ) → ListsSorted (lists_at n u)
  all_sorted u = go (node_at n u) refl
    where
      go : (o : Option Node) → node_at n u ≡ o → ListsSorted (lists_or_none o)
      go none e = record { prefixes = tt; chunks = tt; suffixes = tt }
      go (some m) e = subst (λ (o : Option Node). ListsSorted (lists_or_none o)) e (r.sorted u (record { node = m; there = e }))

  pub rule_of_local : NodeRule n
  rule_of_local = record {
    short = r.short;
    apart = r.apart;
    owed = λ u h s. path_owed 17 u (omega arith) h s;
    prefixes = λ u l. (prefix_owed 17 u (omega arith) l, prefix_back u l);
    suffixes = λ u l. (suffix_owed 17 u (omega arith) l, suffix_back u l);
    sorted = all_sorted;
    passes = r.passes;
  }

-- ── from the rule to the local conditions ──

module _ (n : Node) (r : NodeRule n) where
  suffix_from : (u : List ℕ) (l : Location) → NextSuffix n u l → FromChild n u l
  suffix_from u l s = record { byte = s.byte; listed = go s.next }
    where
      go : Has n (u ++ (s.byte ∷ [])) l ⊎ OwedSuffix n (u ++ (s.byte ∷ [])) l → Has n (u ++ (s.byte ∷ [])) l ⊎ Mem l (lists_at n (u ++ (s.byte ∷ []))).suffixes
      go (inl h) = inl h
      go (inr o) = inr ((r.suffixes (u ++ (s.byte ∷ [])) l).1 o)

  suffix_next : (u : List ℕ) (l : Location) → FromChild n u l → NextSuffix n u l
  suffix_next u l s = record { byte = s.byte; next = go s.listed }
    where
      go : Has n (u ++ (s.byte ∷ [])) l ⊎ Mem l (lists_at n (u ++ (s.byte ∷ []))).suffixes → Has n (u ++ (s.byte ∷ [])) l ⊎ OwedSuffix n (u ++ (s.byte ∷ [])) l
      go (inl h) = inl h
      go (inr o) = inr ((r.suffixes (u ++ (s.byte ∷ [])) l).0 o)

  prefix_from : (u : List ℕ) (l : Location) → NextPrefix n u l → FromFront n u l
  prefix_from u l s = record { byte = s.byte; at = s.at; listed = go s.next; is = s.is }
    where
      go : Has n (s.byte ∷ u) s.at ⊎ OwedPrefix n (s.byte ∷ u) s.at → Has n (s.byte ∷ u) s.at ⊎ Mem s.at (lists_at n (s.byte ∷ u)).prefixes
      go (inl h) = inl h
      go (inr o) = inr ((r.prefixes (s.byte ∷ u) s.at).1 o)

  prefix_next : (u : List ℕ) (l : Location) → FromFront n u l → NextPrefix n u l
  prefix_next u l s = record { byte = s.byte; at = s.at; next = go s.listed; is = s.is }
    where
      go : Has n (s.byte ∷ u) s.at ⊎ Mem s.at (lists_at n (s.byte ∷ u)).prefixes → Has n (s.byte ∷ u) s.at ⊎ OwedPrefix n (s.byte ∷ u) s.at
      go (inl h) = inl h
      go (inr o) = inr ((r.prefixes (s.byte ∷ u) s.at).0 o)

  no_root_prefix : (l : Location) → OwedPrefix n [] l → ⊥
  no_root_prefix l o = omega (arith, length-drop o.i o.bytes, ap length o.there, o.to)

  -- the bytes of a piece from i on are in a list at the end of their path
  entry : (bytes : List ℕ) (at : Location) → Has n bytes at → (i : ℕ) → i < length bytes → (u : List ℕ) → drop i bytes ≡ u → HasEnd n u
  entry bytes at h zero f u e = record { at = at; listed = inr (subst (λ (p : List ℕ). Has n p at) e h) }
  entry bytes at h (suc j) f u e = record { at = moved at (suc j); listed = inl ((r.prefixes u (moved at (suc j))).1 (record { bytes = bytes; at = at; has = h; i = suc j; from = omega arith; to = f; there = e; is = refl })) }

  end_node : (u : List ℕ) → HasEnd n u → IsNode n u
  end_node u e = go e.listed
    where
      go : Mem e.at (lists_at n u).prefixes ⊎ Mem e.at (lists_at n u).chunks → IsNode n u
      go (inl m) = in_prefixes_node n u m
      go (inr m) = in_chunks_node n u m

  one_shorter : (b : ℕ) (u : List ℕ) → IsNode n (b ∷ u) → IsNode n u
  one_shorter b [] h = root_node n
  one_shorter b (c ∷ u) h = go (r.owed (b ∷ c ∷ u) (omega arith) h)
    where
      go : OwedPath n (b ∷ c ∷ u) → IsNode n (c ∷ u)
      go o =
          let long : length o.bytes - o.i ≡ suc (suc (length (u ++ o.rest))) = sym (length-drop o.i o.bytes) ∙ ap length o.on in
          let e : drop (o.i + 1) o.bytes ≡ (c ∷ u) ++ o.rest = sym (drop-drop 1 o.i o.bytes) ∙ ap (drop 1) o.on in
          front_node n (c ∷ u) o.rest (end_node ((c ∷ u) ++ o.rest) (entry o.bytes o.at o.has (o.i + 1) (omega arith) ((c ∷ u) ++ o.rest) e))

  on_path : (u : List ℕ) → OwedPath n u → HasChild n u ⊎ HasEnd n u
  on_path u o = go o.rest o.on
    where
      go : (rest : List ℕ) → drop o.i o.bytes ≡ u ++ rest → HasChild n u ⊎ HasEnd n u
      go [] e = inr (entry o.bytes o.at o.has o.i o.inside u (e ∙ append-nil u))
      go (b ∷ rest) e = inl (record { byte = b; there = next_node n u b rest (end_node (u ++ b ∷ rest) (entry o.bytes o.at o.has o.i o.inside (u ++ b ∷ rest) e)) })

  pub local_of_rule : LocalRule n
  local_of_rule = record {
    short = r.short;
    apart = r.apart;
    suffixes = λ u h l. ((λ m. suffix_from u l (suffix_down n u l ((r.suffixes u l).0 m))), λ c. (r.suffixes u l).1 (suffix_up n u l (suffix_next u l c)));
    root_prefixes = λ l m. no_root_prefix l ((r.prefixes [] l).0 m);
    prefixes = λ u h s l. ((λ m. prefix_from u l (prefix_down n u l ((r.prefixes u l).0 m))), λ c. (r.prefixes u l).1 (prefix_up n u l h (prefix_next u l c)));
    shorter = one_shorter;
    ended = λ u h s. on_path u (r.owed u h s);
    sorted = λ u h. r.sorted u;
    passes = r.passes;
  }

pub local_is_rule : (n : Node) → LocalRule n ↔ NodeRule n
local_is_rule n = (rule_of_local n, local_of_rule n)

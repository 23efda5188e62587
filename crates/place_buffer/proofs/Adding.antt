-- What adding places to a set makes of it: each way that `place` goes, and one list after another. Assumes nothing.
use Prim.Native.Nat.{ℕ, suc, ◌+◌, ◌-◌, ◌*◌, ◌/◌, ◌≤◌, ◌<◌}
use native.Mathlib.Omega.{arith}
use mathlib.Core.Path.{◌≡◌, refl, sym, ap, subst, ◌∙◌}
use mathlib.Core.Bool.{true, false}
use mathlib.Core.Logic.{◌⊎◌, inl, inr}
use mathlib.Core.List.Memᴰ.{append_left}
use mathlib.Core.List.Memᴰ.{append_right}
use mathlib.Core.List.Memᴰ.{cases_cons as split}
use mathlib.Core.List.Memᴰ.{cast}
use mathlib.Core.List.Memᴰ.{head as here}
use mathlib.Core.List.Memᴰ.{not-nil}
use mathlib.Core.List.Memᴰ.{tail as later}
use mathlib.Core.List.{List, [], ◌∷◌, ◌++◌, Memᴰ as Mem}
use Rattle.std.specs.Prelude.{Option, Some, None, MatchOption, ⊤}
use lib.ListN.{length, get_or, take, drop, length-take, length-drop}
use lib.Seq.{sets, length-sets, get_or-take, get_or-drop}
use Rattle.words.proofs.Parts.{get_d_sets, get_or_sets_out}
use Rattle.records.proofs.Order.{clash}
use Rattle.definitions.specs.Location.{Location, normal, location_at, location_bytes, locations_in}
use Rattle.definitions.proofs.Order.{mem_normal, normal_mem, sorted_normal}
use Rattle.location.specs.Fits.{Fits}
use Rattle.place_buffer.specs.declared.PlaceSet.{PlaceSet}
use Rattle.place_lookup.specs.Lookup.{Ascending, Within}
use Rattle.place_buffer.specs.Scratch.{room, Valid}
use Rattle.place_buffer.specs.Buffer.{held, TidiedTo, Added, Refused, Taken}
use Rattle.place_lookup.proofs.Sets.{normal_same, normal_ascending, append_within, normal_new}
use Rattle.place_buffer.proofs.Sets.{fewer}
use Rattle.place_buffer.proofs.Scratch.{locations_ext, locations_moved, locations_written, tidied_le}
use Rattle.definitions.proofs.Locations.{length_locations, locations_append, locations_snoc}

-- ── members ──

only_one : {xs : List Location} {l : Location} → Mem l xs → Within (l ∷ []) xs
only_one {xs} {l} h x k = go (split k)
  where
    go : (x ≡ l) ⊎ Mem x [] → Mem x xs
    go (inl e) = cast e h
    go (inr j) = absurd (not-nil j)

-- ── the ways of `place` ──

-- a refused set stays refused
pub taken_full : {p : PlaceSet} → p.known.full ≡ true → (ls : List Location) → Taken p p ls None
taken_full e ls = record {
  same_reference = refl;
  same_base = refl;
  same_length = refl;
  before = λ k h. refl;
  stays_full = λ f. (refl, refl);
  set = record { full = e; over = λ f. clash (sym e ∙ f) };
}

-- nothing is added
pub taken_none : {p : PlaceSet} → p.known.full ≡ false → Taken p p [] (Some tt)
taken_none live = record {
  same_reference = refl;
  same_base = refl;
  same_length = refl;
  before = λ k h. refl;
  stays_full = λ f. clash (sym f ∙ live);
  set = record { only = λ x h. h; all = λ x h. h; live = live };
}

module _ {p : PlaceSet} (l : Location) (live : p.known.full ≡ false) where
  -- l is there already
  pub taken_there : Mem l (held p) → Taken p p (l ∷ []) (Some tt)
  taken_there m = record {
    same_reference = refl;
    same_base = refl;
    same_length = refl;
    before = λ k h. refl;
    stays_full = λ f. clash (sym f ∙ live);
    set = record {
      only = λ x h. later h;
      all = append_within {xs = l ∷ []} {ys = held p} (only_one m) (λ x h. h);
      live = live;
    };
  }

  -- there is no room, and l is none of them
  pub taken_new : {r : PlaceSet} → r.scratch.ghost_name ≡ p.scratch.ghost_name → r.scratch.now ≡ p.scratch.now → r.known.base ≡ p.known.base → r.known.full ≡ true
      → p.known.tight ≡ true → (Mem l (held p) → ⊥) → Taken p r (l ∷ []) None
  taken_new en es eb ef t n =
      let v = p.valid in
      let size : length (normal (l ∷ held p)) ≡ suc (length (held p)) = normal_new l (held p) n ∙ ap (λ (ls : List Location). suc (length ls)) (normal_ascending (held p) (v.ascending t)) in
      record {
        same_reference = en;
        same_base = eb;
        same_length = ap length es;
        before = λ k h. ap (λ (x : List ℕ). get_or x k 0) es;
        stays_full = λ f. clash (sym f ∙ live);
        set = record { full = ef; over = λ f. omega (arith, size, length_locations (p.known.count - p.known.base) p.scratch.now (p.known.base * 24), v.no_room t) };
      }

  -- l is written behind the others
  pub taken_behind : {r : PlaceSet} → r.scratch.ghost_name ≡ p.scratch.ghost_name → r.known.base ≡ p.known.base → r.known.count ≡ p.known.count + 1 → r.known.full ≡ p.known.full
      → Fits l → p.known.count * 24 + 24 ≤ length p.scratch.now → r.scratch.now ≡ sets p.scratch.now (p.known.count * 24) (location_bytes l) → Taken p r (l ∷ []) (Some tt)
  taken_behind {r} same eb ec ef f h e =
      let s = p.scratch.now in
      let from : p.known.base ≤ p.known.count = p.valid.from in
      let more : r.known.count - r.known.base ≡ p.known.count - p.known.base + 1 = omega arith in
      let at : p.known.base * 24 + (p.known.count - p.known.base) * 24 ≡ p.known.count * 24 = omega arith in
      let long : length r.scratch.now ≡ length s = ap length e ∙ length-sets s (p.known.count * 24) (location_bytes l) in
      let places : held r ≡ held p ++ (l ∷ []) =
      rw (more, eb, e, ← at) (locations_written (p.known.count - p.known.base) s (p.known.base * 24) l f (omega arith)) in
      record {
        same_reference = same;
        same_base = eb;
        same_length = long;
        before = λ k j. ap (λ (x : List ℕ). get_or x k 0) e ∙ get_or_sets_out (location_bytes l) s (p.known.count * 24) k (inl (omega arith));
        stays_full = λ g. clash (sym g ∙ live);
        set = record {
          only = subst (λ (x : List Location). Within x (l ∷ held p)) (sym places) (append_within {xs = held p} {ys = l ∷ []} (λ x k. later k) (only_one (here refl)));
          all = subst (λ (x : List Location). Within (l ∷ held p) x) (sym places) (append_within {xs = l ∷ []} {ys = held p} (only_one (append_right (held p) (here refl))) (λ x k. append_left (l ∷ []) k));
          live = ef ∙ live;
        };
      }

-- ── a list copied as a whole ──

-- n locations of one list of bytes, copied to another
copied_locations : (n : ℕ) (img s : List ℕ) (at to : ℕ) → at + n * 24 ≤ length img → to + n * 24 ≤ length s → locations_in (sets s to (take (n * 24) (drop at img))) n to ≡ locations_in img n at
copied_locations n img s at to h k =
    let part = take (n * 24) (drop at img) in
    let s' = sets s to part in
    let size : length part ≡ n * 24 = simp (length-take, length-drop) (omega arith) in
    locations_moved n s' img to at
    (λ j l. get_d_sets part s to j (omega arith) (omega arith) ∙ get_or-take (n * 24) (drop at img) j 0 l ∙ get_or-drop at img j 0)

module _ {p r : PlaceSet} where
  pub taken_copied : (img : List ℕ) (at n : ℕ) → r.scratch.ghost_name ≡ p.scratch.ghost_name → r.known.base ≡ p.known.base → r.known.count ≡ p.known.count + n → r.known.full ≡ p.known.full → p.known.full ≡ false
      → at + n * 24 ≤ length img → p.known.count * 24 + n * 24 ≤ length p.scratch.now → r.scratch.now ≡ sets p.scratch.now (p.known.count * 24) (take (n * 24) (drop at img))
      → Taken p r (locations_in img n at) (Some tt)
  taken_copied img at n same eb ec ef live h k e =
      let s = p.scratch.now in
      let s' = r.scratch.now in
      let ls = locations_in img n at in
      let part = take (n * 24) (drop at img) in
      let from : p.known.base ≤ p.known.count = p.valid.from in
      let long : length s' ≡ length s = ap length e ∙ length-sets s (p.known.count * 24) part in
      let more : r.known.count - r.known.base ≡ p.known.count - p.known.base + n = omega arith in
      let to : p.known.base * 24 + (p.known.count - p.known.base) * 24 ≡ p.known.count * 24 = omega arith in
      let front : locations_in s' (p.known.count - p.known.base) (p.known.base * 24) ≡ held p =
      locations_ext (p.known.count - p.known.base) s' s (p.known.base * 24) (λ j a b. ap (λ (x : List ℕ). get_or x j 0) e ∙ get_or_sets_out part s (p.known.count * 24) j (inl (omega arith))) in
      let back : locations_in s' n (p.known.count * 24) ≡ ls = ap (λ (x : List ℕ). locations_in x n (p.known.count * 24)) e ∙ copied_locations n img s at (p.known.count * 24) h k in
      let places : held r ≡ held p ++ ls =
      rw (more, eb) (locations_append (p.known.count - p.known.base) n s' (p.known.base * 24) ∙ rw (to, front, back) refl) in
      record {
        same_reference = same;
        same_base = eb;
        same_length = long;
        before = λ j b. ap (λ (x : List ℕ). get_or x j 0) e ∙ get_or_sets_out part s (p.known.count * 24) j (inl (omega arith));
        stays_full = λ g. clash (sym g ∙ live);
        set = record {
          only = subst (λ (x : List Location). Within x (ls ++ held p)) (sym places) (append_within {xs = held p} {ys = ls} (λ x j. append_right ls j) (λ x j. append_left (held p) j));
          all = subst (λ (x : List Location). Within (ls ++ held p) x) (sym places) (append_within {xs = ls} {ys = held p} (λ x j. append_right (held p) j) (λ x j. append_left ls j));
          live = ef ∙ live;
        };
      }

-- ── after the same set was tidied ──

module _ {p q : PlaceSet} (t : TidiedTo p q) where
  -- the places that are left
  pub tidied_held : held q ≡ normal (held p)
  tidied_held =
      let e : q.known.count - q.known.base ≡ length (normal (held p)) = omega (arith, t.tidied.next, t.same_base) in
      rw (e, t.same_base) t.tidied.places

  pub tidied_fewer : q.known.count ≤ p.known.count
  tidied_fewer = tidied_le t.tidied p.valid.from

  -- none was dropped where there is no room
  pub tidied_tight : p.known.count ≤ q.known.count → p.known.count ≡ room p.scratch.now → Valid q.scratch.now q.known.base q.known.count true
  tidied_tight h e =
      let v = q.valid in
      record {
        from = v.from;
        within = v.within;
        ascending = λ g. subst Ascending (sym tidied_held) (sorted_normal (held p));
        no_room = λ g. omega (arith, tidied_fewer, ap (λ (n : ℕ). n / 24) t.tidied.same_length);
      }

  -- and then a place is added
  pub taken_tidied : {q' r : PlaceSet} {o : Option ⊤} {ls : List Location} → p.known.full ≡ false → q'.known.full ≡ q.known.full → q'.scratch.ghost_name ≡ q.scratch.ghost_name → q'.scratch.now ≡ q.scratch.now → q'.known.base ≡ q.known.base → q'.known.count ≡ q.known.count
      → Taken q' r ls o → Taken p r ls o
  taken_tidied {q'} {r} {o} {ls} live ef en es eb ec u = record {
    same_reference = u.same_reference ∙ en ∙ t.same_reference;
    same_base = u.same_base ∙ base;
    same_length = u.same_length ∙ ap length es ∙ t.tidied.same_length;
    before = λ k h. u.before k (subst (λ (b : ℕ). k < b * 24) (sym base) h) ∙ ap (λ (x : List ℕ). get_or x k 0) es ∙ t.tidied.before k h;
    stays_full = λ f. clash (sym f ∙ live);
    set = go o u.set;
  }
    where
      base : q'.known.base ≡ p.known.base
      base = eb ∙ t.same_base

      places : held q' ≡ normal (held p)
      places = rw (es, eb, ec) tidied_held

      to : Within (ls ++ held q') (ls ++ held p)
      to = append_within {xs = ls} {ys = held q'} (λ x h. append_left (held p) h) (λ x h. append_right ls (normal_mem (held p) (subst (Mem x) places h)))

      fro : Within (ls ++ held p) (ls ++ held q')
      fro = append_within {xs = ls} {ys = held p} (λ x h. append_left (held q') h) (λ x h. append_right ls (subst (Mem x) (sym places) (mem_normal (held p) h)))

      go : (o : Option ⊤) → MatchOption o (Refused q' ls r) (λ _. Added q' ls r) → MatchOption o (Refused p ls r) (λ _. Added p ls r)
      go None h = record {
        full = h.full;
        over = λ f. omega (arith, h.over (ef ∙ t.same_full ∙ live), ap length (normal_same (ls ++ held q') (ls ++ held p) to fro), ap (λ (n : ℕ). n / 24) (ap length es ∙ t.tidied.same_length), base);
      }
      go (Some x) h = record {
        only = λ x k. to x (h.only x k);
        all = λ x k. h.all x (fro x k);
        live = h.live;
      }

-- ── one list after another ──

-- only the members of what is added count
pub taken_same : {p r : PlaceSet} {o : Option ⊤} {ls ms : List Location} → Taken p r ls o → Within ls ms → Within ms ls → Taken p r ms o
taken_same {p} {r} {o} {ls} {ms} t f g = record {
  same_reference = t.same_reference;
  same_base = t.same_base;
  same_length = t.same_length;
  before = t.before;
  stays_full = t.stays_full;
  set = go o t.set;
}
  where
    to : Within (ls ++ held p) (ms ++ held p)
    to = append_within {xs = ls} {ys = held p} (λ x k. append_left (held p) (f x k)) (λ x k. append_right ms k)

    fro : Within (ms ++ held p) (ls ++ held p)
    fro = append_within {xs = ms} {ys = held p} (λ x k. append_left (held p) (g x k)) (λ x k. append_right ls k)

    go : (o : Option ⊤) → MatchOption o (Refused p ls r) (λ _. Added p ls r) → MatchOption o (Refused p ms r) (λ _. Added p ms r)
    go None h = record { full = h.full; over = λ e. omega (arith, h.over e, fewer (ls ++ held p) (ms ++ held p) to) }
    go (Some x) h = record { only = λ x k. to x (h.only x k); all = λ x k. h.all x (fro x k); live = h.live }

-- what has no room has none, whatever else were added
pub taken_over : {p r : PlaceSet} {ls ms : List Location} → Taken p r ls None → Within ls ms → Taken p r ms None
taken_over {p} {r} {ls} {ms} t f = record {
  same_reference = t.same_reference;
  same_base = t.same_base;
  same_length = t.same_length;
  before = t.before;
  stays_full = t.stays_full;
  set = record {
    full = t.set.full;
    over = λ e. omega (arith, t.set.over e, fewer (ls ++ held p) (ms ++ held p) (append_within {xs = ls} {ys = held p} (λ x j. append_left (held p) (f x j)) (λ x j. append_right ms j)));
  };
}

-- a set to which places were added was not refused
pub taken_live : {p q : PlaceSet} {ls : List Location} → Taken p q ls (Some tt) → p.known.full ≡ true → {A : Type 0} → A
taken_live t f = clash (sym f ∙ ap (λ (x : PlaceSet). x.known.full) (sym (t.stays_full f).0) ∙ t.set.live)

module _ {p q r : PlaceSet} {o : Option ⊤} {ls ms : List Location} (t : Taken p q ls (Some tt)) (u : Taken q r ms o) where
  within : Within (ms ++ held q) (ls ++ ms ++ held p)
  within = append_within {xs = ms} {ys = held q}
      (λ x h. append_left (held p) (append_right ls h))
      (λ x h. append_within {xs = ls} {ys = held p} (λ y k. append_left (held p) (append_left ms k)) (λ y k. append_right (ls ++ ms) k) x (t.set.only x h))

  back : Within (ls ++ ms ++ held p) (ms ++ held q)
  back = append_within {xs = ls ++ ms} {ys = held p}
      (append_within {xs = ls} {ys = ms} (λ x h. append_right ms (t.set.all x (append_left (held p) h))) (λ x h. append_left (held q) h))
      (λ x h. append_right ms (t.set.all x (append_right ls h)))

  more_set : (o : Option ⊤) → MatchOption o (Refused q ms r) (λ _. Added q ms r) → MatchOption o (Refused p (ls ++ ms) r) (λ _. Added p (ls ++ ms) r)
  more_set None h = record {
    full = h.full;
    over = λ f. omega (arith, h.over t.set.live, fewer (ms ++ held q) (ls ++ ms ++ held p) within, ap (λ (n : ℕ). n / 24) t.same_length, t.same_base);
  }
  more_set (Some x) h = record {
    only = λ x k. within x (h.only x k);
    all = λ x k. h.all x (back x k);
    live = h.live;
  }

  pub taken_more : Taken p r (ls ++ ms) o
  taken_more = record {
    same_reference = u.same_reference ∙ t.same_reference;
    same_base = u.same_base ∙ t.same_base;
    same_length = u.same_length ∙ t.same_length;
    before = λ k h. u.before k (subst (λ (b : ℕ). k < b * 24) (sym t.same_base) h) ∙ t.before k h;
    stays_full = λ f. taken_live t f;
    set = more_set o u.set;
  }

-- ── the loop of `take_list`: i of the n locations are added ──

module _ (img : List ℕ) (at i : ℕ) {p r : PlaceSet} where
  pub take_next : {r' : PlaceSet} {o : Option ⊤} {l : Location} → Taken p r (locations_in img i at) (Some tt) → l ≡ location_at img (at + i * 24) → Taken r r' (l ∷ []) o → Taken p r' (locations_in img (i + 1) at) o
  take_next {r'} {o} t e u =
      subst (λ (ls : List Location). Taken p r' ls o) (sym (locations_snoc i img at)) (taken_more t (subst (λ (x : Location). Taken r r' (x ∷ []) o) e u))

  -- one has no room, whatever else were added
  pub take_refused : (n : ℕ) → i ≤ n → Taken p r (locations_in img i at) None → Taken p r (locations_in img n at) None
  take_refused n h t =
      let more : n ≡ i + (n - i) = omega arith in
      let whole : locations_in img n at ≡ locations_in img i at ++ locations_in img (n - i) (at + i * 24) = ap (λ (k : ℕ). locations_in img k at) more ∙ locations_append i (n - i) img at in
      taken_over t (subst (Within (locations_in img i at)) (sym whole) (λ x k. append_left (locations_in img (n - i) (at + i * 24)) k))

  pub take_done : {o : Option ⊤} (n : ℕ) → i ≤ n → n ≤ i → Taken p r (locations_in img i at) o → Taken p r (locations_in img n at) o
  take_done {o} n h k t =
      let e : i ≡ n = omega arith in
      subst (λ (j : ℕ). Taken p r (locations_in img j at) o) e t

pub take_start : {p : PlaceSet} (img : List ℕ) (at : ℕ) → p.known.full ≡ false → Taken p p (locations_in img 0 at) (Some tt)
unfolding locations_in
take_start img at live = taken_none live

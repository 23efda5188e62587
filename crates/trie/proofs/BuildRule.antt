-- The trie that a log of sound pieces makes meets the index rule. Assumes nothing.
use Prim.Native.Nat.{ℕ, zero, suc, ◌≤◌, ◌<◌}
use native.Mathlib.Omega.{arith}
use mathlib.Core.Path.{refl, sym, ap, subst}
use mathlib.Core.Bool.{Bool, true, false}
use mathlib.Core.Logic.{◌↔◌}
use mathlib.Core.List.Memᴰ.{head as here}
use mathlib.Core.List.Memᴰ.{tail as later}
use mathlib.Core.List.{List, [], ◌∷◌, ◌++◌, Memᴰ as Mem}
use lib.ListN.{length, length-append, length-drop}
use Rattle.definitions.specs.Location.{Location}
use Rattle.definitions.specs.Blocks.{Piece}
use Rattle.trie.specs.Trie.{Node, IsNode, lists_at}
use Rattle.trie.specs.Rule.{Absent, Apart, Has, OwedPrefix, OwedSuffix, OwedPath, Passes, NodeRule, Rule}
use Rattle.trie.specs.Build.{Entry, entered_all, behind, grow, build, trie_of}
pub use Rattle.trie.specs.Promises.{SoundPiece}
use Rattle.trie.proofs.BuildBytes.{Distinct}
use Rattle.trie.proofs.BuildPaths.{entry_of, put, onward, distinct_onward, Through, node_short, node_through}
use Rattle.trie.proofs.BuildLists.{Below, Within, prefixes_at, chunks_at, suffixes_at, sorted_at}
use Rattle.trie.proofs.BuildEntered.{as_piece, Part, EnteredBy, entered_mem}

-- ── sibling bytes differ ──

absent_grow : (f : List Entry → Node) (b : ℕ) (bs : List ℕ) (es : List Entry) → (Mem b bs → ⊥) → Absent b (grow f bs es)
absent_grow f b [] es n = tt
absent_grow f b (c ∷ bs) es n = ((λ e. n (here (sym e))), absent_grow f b bs es (λ h. n (later h)))

apart_grow : (f : List Entry → Node) → ((es : List Entry) → Apart (f es).children) → (bs : List ℕ) (es : List Entry) → Distinct bs → Apart (grow f bs es)
apart_grow f a [] es d = tt
apart_grow f a (b ∷ bs) es d = (absent_grow f b bs es d.0, a (behind b es), apart_grow f a bs es d.1)

pub apart_build : (d : ℕ) (es : List Entry) → Apart (build d es).children
apart_build zero es = tt
apart_build (suc d) es = apart_grow (build d) (apart_build d) (onward es) es (distinct_onward es)

-- ── the rule ──

module _ (d : ℕ) (ps : List Piece) (short : (p : Piece) → Mem p ps → length p.bytes ≤ d) where
  entered_within : Within d (entered_all ps)
  entered_within e h = go e.whole e.path e.at ((entered_mem ps e).0 h)
    where
      go : (w : Bool) (u : List ℕ) (l : Location) → EnteredBy ps w u l → length u ≤ d
      go true u l h = short (as_piece u l) h
      go false u l h = omega (arith, short h.piece h.listed, length-drop h.i h.piece.bytes, ap length h.there)

  -- a `chunks` entry is a piece of the log
  pub has_piece : (u : List ℕ) (l : Location) → Has (build d (entered_all ps)) u l ↔ Mem (as_piece u l) ps
  has_piece u l = (
    λ h. (entered_mem ps (entry_of u l true)).0 ((chunks_at d (entered_all ps) entered_within u l).0 h),
    λ h. (chunks_at d (entered_all ps) entered_within u l).1 ((entered_mem ps (entry_of u l true)).1 h),
  )

  owed_path : (u : List ℕ) → 0 < length u → IsNode (build d (entered_all ps)) u → OwedPath (build d (entered_all ps)) u
  owed_path u n k = go (node_through d u (entered_all ps) n k)
    where
      by : (w : Bool) (rest : List ℕ) (l : Location) → EnteredBy ps w (u ++ rest) l → OwedPath (build d (entered_all ps)) u
      by true rest l h = record { bytes = u ++ rest; at = l; has = (has_piece (u ++ rest) l).1 h; i = 0; inside = omega (arith, length-append u rest); rest = rest; on = refl }
      by false rest l h = record { bytes = h.piece.bytes; at = h.piece.at; has = (has_piece h.piece.bytes h.piece.at).1 h.listed; i = h.i; inside = h.to; rest = rest; on = h.there }

      go : Through (entered_all ps) u → OwedPath (build d (entered_all ps)) u
      go t = by t.rest.whole t.rest.path t.rest.at ((entered_mem ps (put u t.rest)).0 t.listed)

  owed_prefixes : (u : List ℕ) (l : Location) → Mem l (lists_at (build d (entered_all ps)) u).prefixes ↔ OwedPrefix (build d (entered_all ps)) u l
  owed_prefixes u l = (λ h. to ((entered_mem ps (entry_of u l false)).0 ((prefixes_at d (entered_all ps) entered_within u l).0 h)), fro)
    where
      to : Part ps u l → OwedPrefix (build d (entered_all ps)) u l
      to h = record { bytes = h.piece.bytes; at = h.piece.at; has = (has_piece h.piece.bytes h.piece.at).1 h.listed; i = h.i; from = h.from; to = h.to; there = h.there; is = h.is }

      part : OwedPrefix (build d (entered_all ps)) u l → Part ps u l
      part o = record { piece = as_piece o.bytes o.at; listed = (has_piece o.bytes o.at).0 o.has; i = o.i; from = o.from; to = o.to; there = o.there; is = o.is }

      fro : OwedPrefix (build d (entered_all ps)) u l → Mem l (lists_at (build d (entered_all ps)) u).prefixes
      fro o = (prefixes_at d (entered_all ps) entered_within u l).1 ((entered_mem ps (entry_of u l false)).1 (part o))

  owed_suffixes : (u : List ℕ) (l : Location) → Mem l (lists_at (build d (entered_all ps)) u).suffixes ↔ OwedSuffix (build d (entered_all ps)) u l
  owed_suffixes u l = (λ h. to ((suffixes_at d (entered_all ps) entered_within u l).0 h), fro)
    where
      to : Below (entered_all ps) u l → OwedSuffix (build d (entered_all ps)) u l
      to b = record { bytes = u ++ b.rest; has = (chunks_at d (entered_all ps) entered_within (u ++ b.rest) l).1 b.listed; rest = b.rest; on = refl; above = b.some }

      whole : (o : OwedSuffix (build d (entered_all ps)) u l) → Mem (entry_of (u ++ o.rest) l true) (entered_all ps)
      whole o = (chunks_at d (entered_all ps) entered_within (u ++ o.rest) l).0 (subst (λ (x : List ℕ). Has (build d (entered_all ps)) x l) o.on o.has)

      fro : OwedSuffix (build d (entered_all ps)) u l → Mem l (lists_at (build d (entered_all ps)) u).suffixes
      fro o = (suffixes_at d (entered_all ps) entered_within u l).1 (record { rest = o.rest; some = o.above; listed = whole o })

  node_rule : d ≤ 16 → ((p : Piece) → Mem p ps → Passes (length p.bytes) p.at) → NodeRule (build d (entered_all ps))
  node_rule h passes = record {
    short = λ u n. omega (arith, node_short d u (entered_all ps) n);
    apart = apart_build d (entered_all ps);
    owed = owed_path;
    prefixes = owed_prefixes;
    suffixes = owed_suffixes;
    sorted = sorted_at d (entered_all ps) entered_within;
    passes = λ u l k. passes (as_piece u l) ((has_piece u l).0 k);
  }

pub trie_of_rule : (ps : List Piece) → ((p : Piece) → Mem p ps → SoundPiece p) → Rule (trie_of ps)
trie_of_rule [] sound = tt
trie_of_rule (p ∷ ps) sound = node_rule 16 (p ∷ ps) (λ r h. (sound r h).short) (omega arith) (λ r h. (sound r h).passes)

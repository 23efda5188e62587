-- What recording into an open index answers and leaves, by what entering the block gives. Assumes nothing.
use Prim.Native.Nat.{ℕ, ◌+◌, ◌*◌, ◌≤◌, ◌<◌}
use native.Mathlib.Omega.{arith}
use mathlib.Core.Path.{◌≡◌, refl, sym, ap, ◌∙◌, subst}
use mathlib.Core.Bool.{true, cond}
use mathlib.Core.List.{List}
use lib.ListN.{length, get_or}
use lib.Dec.{eqb}
use Rattle.definitions.specs.Blocks.{Block, Piece, pieces, memory_kind}
use Rattle.definitions.specs.Causes.{first_cause}
use Rattle.definitions.specs.Calls.{record_checks}
use Rattle.memory_header.specs.Layout.{Header, header_at, with_header}
use Rattle.memory_header.specs.Opening.{Done}
use Rattle.memory_header.proofs.HeaderBytes.{header_same}
use Rattle.memory_header.proofs.HeaderFacts.{open_payload}
use Rattle.memory_header.proofs.Opening.{refused_leaves}
use Rattle.index_memory.specs.Log.{log_in, log_sound}
use Rattle.index_memory.proofs.LogBytes.{is_log_sound}
use Rattle.index_memory.specs.Index.{Index, opened, standing_of, read_index}
use Rattle.index_memory.proofs.Holding.{OpenIs, open_is, open_room, open_counted}
use Rattle.certificate.specs.Entries.{LogWithin}
use Rattle.judging.specs.Judged.{Verdict, counted, refused}
use Rattle.recording.specs.Record.{appended, record_by, record_memory}
use Rattle.recording.specs.Enter.{Pending, settled}
use Rattle.recording.proofs.Entering.{Enters, entered_records}

-- what a memory holds decides
pub record_as : (m : List ℕ) (kind : ℕ) (b : Block) (i : Index) → read_index m ≡ i → record_by i m kind b ≡ record_memory m kind b
unfolding record_memory
record_as m kind b i e = ap (λ (x : Index). record_by x m kind b) (sym e)

-- a block that is refused leaves the memory as it was
pub record_leaves : (m : List ℕ) (kind : ℕ) (b : Block) → ((record_memory m kind b).refusal ≡ 0 → ⊥) → (record_memory m kind b).memory ≡ m
unfolding record_memory
record_leaves m kind b =
    refused_leaves (first_cause (record_checks (standing_of (read_index m)) kind b)) m
    (cond (eqb kind memory_kind) (appended m (standing_of (read_index m)).capacity (standing_of (read_index m)).pieces (pieces b)) m)

-- the number of an answer and a memory are those of a recording
abbrev pub Answers : ℕ → List ℕ → Done → Type 0
Answers n m d = (n ≡ d.refusal) × (m ≡ d.memory)

-- what counting the pieces that have a byte asks for
pub log_asked : (m : List ℕ) (h : Header) → header_at m ≡ h → read_index m ≡ opened h.capacity (log_in m h.payload 64) → LogWithin m h.payload × (log_sound m h.payload 64 ≡ true)
log_asked m h e q =
    let o = open_is m h.capacity (log_in m h.payload 64) q in
    let f = o.header in
    let p : (header_at m).payload ≡ h.payload = ap (λ (x : Header). x.payload) e in
    let c : (header_at m).payload ≤ (header_at m).capacity.entries = open_payload m (header_at m) f o.phase in
    let r : 64 + 48 * h.payload ≤ length m = omega (arith, open_room m (header_at m) f o.phase, p) in
    ((r, omega (arith, c, p, f.few_entries)), is_log_sound m h.payload 64 r o.sound)

module _ (m : List ℕ) (h : Header) (e : header_at m ≡ h) (q : read_index m ≡ opened h.capacity (log_in m h.payload 64)) (bytes : (k : ℕ) → get_or m k 0 < 256) where
  abbrev log : List Piece
  log = log_in m h.payload 64

  is : OpenIs m h.capacity log
  is = open_is m h.capacity log q

  -- the header that stands there
  pub standing : with_header m h ≡ m
  standing = ap (with_header m) (sym e) ∙ header_same m bytes is.header.room is.header.first_zero is.header.second_zero

  pub pending : Pending m h
  pending = record { pieces = log; counts = sym e ∙ open_counted m h.capacity log is; holds = ap read_index standing ∙ q }

  module _ (kind : ℕ) (b : Block) where
    by_verdict : (v : Verdict) (m₁ : List ℕ) → Enters m h kind b v m₁ → settled v h m₁ ≡ record_memory m kind b
    by_verdict v m₁ w =
        (λ i. settled (w.0 i) h (w.1 i)) ∙ sym (entered_records m h kind b pending) ∙ ap (λ (x : List ℕ). record_memory x kind b) standing

    -- the pieces, and then the header that counts them
    pub taken_by : (h' : Header) (m₁ m₂ : List ℕ) → Enters m h kind b (counted h') m₁ → m₂ ≡ with_header m₁ h' → Answers 0 m₂ (record_memory m kind b)
    taken_by h' m₁ m₂ w v = subst (Answers 0 m₂) (by_verdict (counted h') m₁ w) (refl, v)

    pub refused_by : (n : ℕ) (m₁ : List ℕ) → Enters m h kind b (refused n) m₁ → Answers n m₁ (record_memory m kind b)
    refused_by n m₁ w =
        let s : m₁ ≡ m = w.1 ∙ rw (← w.0) in
        subst (Answers n m₁) (by_verdict (refused n) m₁ w) (refl, s ∙ sym standing ∙ ap (λ (x : List ℕ). with_header x h) (sym s))

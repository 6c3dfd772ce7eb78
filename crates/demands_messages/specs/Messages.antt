-- The demands on messages, in document 01's words, as statements. The proofs are in proofs/Messages.antt and proofs/Trips.antt.
-- Assumes nothing.
use Rattle.std.specs.Prelude.{ℕ, ◌+◌, ◌*◌, ◌≤◌, ◌<◌, ◌≡◌, ◌⊎◌, Bool, true, false, List, [], ◌∷◌, ◌++◌, ltb, ℤ, pos, length, get_or, drop, Some}
use Rattle.arith.specs.First.{first}
use Rattle.record_rows.specs.Numbers.{says, values_of, present_of}
use Rattle.layout.specs.Layout.{size, total, zero_from, all_take, decode_all}
use Rattle.record_transformations.specs.declared.Name.{Name}
use Rattle.message_rows.specs.Message.{number_of, source_count, target_count, sin_of, layout, refusal, row, Outcome, write_row}
use Rattle.message_records.specs.Kinds.{read_helmert, read_molodenski_badekas, read_grid, read_projection, read_lambert, read_oblique_mercator, write_helmert, write_molodenski_badekas, write_grid, write_projection, write_lambert, write_oblique_mercator}
use Rattle.std.proofs.Math.ListN as ListN

-- a list of bytes
abbrev pub Bytes : List ℕ → Type 0
Bytes s = (i : ℕ) → get_or s i 0 < 256

-- ---- demand 1: "A refusal is the first that applies in document 01's order, is given only then". The premises of the six parts exclude one another and leave nothing out

pub record FirstThatApplies (s : List ℕ) : Type 0 where
  pub short : length s < 2 → refusal s ≡ 1
  pub number : 2 ≤ length s → (number_of s < 1021) ⊎ (1027 < number_of s) → refusal s ≡ 2
  pub wrong_length : 2 ≤ length s → 1021 ≤ number_of s → number_of s ≤ 1027 → (length s ≡ size (layout s) → ⊥) → refusal s ≡ 3
  pub fill : 2 ≤ length s → 1021 ≤ number_of s → number_of s ≤ 1027 → length s ≡ size (layout s) → zero_from s (total (layout s)) ≡ false → refusal s ≡ 4
  pub range : 2 ≤ length s → 1021 ≤ number_of s → number_of s ≤ 1027 → length s ≡ size (layout s) → zero_from s (total (layout s)) ≡ true
      → all_take (layout s) (decode_all (layout s) 0 s) ≡ false → refusal s ≡ 5
  pub done : 2 ≤ length s → 1021 ≤ number_of s → number_of s ≤ 1027 → length s ≡ size (layout s) → zero_from s (total (layout s)) ≡ true
      → all_take (layout s) (decode_all (layout s) 0 s) ≡ true → refusal s ≡ 0

-- "a name counter can't be read" is LENGTH
abbrev pub CounterCut : Type 0
CounterCut = (s : List ℕ) → 2 ≤ length s → 1021 ≤ number_of s → number_of s ≤ 1022 → (length s < 3) ⊎ (length s < source_count s + 3) → refusal s ≡ 3

-- ---- demand 2: "1021 has 52 to 114 bytes, 1022 has 65 to 127, the others 73, 74, 25, 30, 33"

pub record Lengths (s : List ℕ) : Type 0 where
  pub l1021 : number_of s ≡ 1021 → (length s ≡ 52 + source_count s + target_count s) × (length s ≤ 114)
  pub l1022 : number_of s ≡ 1022 → (length s ≡ 65 + source_count s + target_count s) × (length s ≤ 127)
  pub l1023 : number_of s ≡ 1023 → length s ≡ 73
  pub l1024 : number_of s ≡ 1024 → length s ≡ 74
  pub l1025 : number_of s ≡ 1025 → length s ≡ 25
  pub l1026 : number_of s ≡ 1026 → length s ≡ 30
  pub l1027 : number_of s ≡ 1027 → length s ≡ 33
  -- "Totals: 412 and 517 bits plus 8(N+M); 578; 590; 196; 234; 258"
  pub b1021 : number_of s ≡ 1021 → total (layout s) ≡ 412 + 8 * (source_count s + target_count s)
  pub b1022 : number_of s ≡ 1022 → total (layout s) ≡ 517 + 8 * (source_count s + target_count s)
  pub b1023 : number_of s ≡ 1023 → total (layout s) ≡ 578
  pub b1024 : number_of s ≡ 1024 → total (layout s) ≡ 590
  pub b1025 : number_of s ≡ 1025 → total (layout s) ≡ 196
  pub b1026 : number_of s ≡ 1026 → total (layout s) ≡ 234
  pub b1027 : number_of s ≡ 1027 → total (layout s) ≡ 258

abbrev pub AcceptedLengths : Type 0
AcceptedLengths = (s : List ℕ) → refusal s ≡ 0 → Lengths s

-- DF147 stands behind both names of 1021 and 1022, and at place 1 of the other rows
pub record SinPlace (s : List ℕ) : Type 0 where
  pub named : number_of s ≤ 1022 → says (row s) (3 + source_count s + target_count s) ≡ Some (pos (sin_of s))
  pub fixed : 1023 ≤ number_of s → says (row s) 1 ≡ Some (pos (sin_of s))

abbrev pub SinFound : Type 0
SinFound = (s : List ℕ) → refusal s ≡ 0 → SinPlace s

-- ---- demand 2: both round trips, the reported length, and a writer's refusals, once over what a reader and a writer of one thing promise

-- written: "it fills the first bytes and keeps the rest"; not written: zero results, and the output as it was
abbrev pub written : List ℕ → List ℕ → Outcome
written m out = record { answer = record { refusal = 0; length = length m }; output = m ++ drop (length m) out }

abbrev pub unwritten : ℕ → List ℕ → Outcome
unwritten n out = record { answer = record { refusal = n; length = 0 }; output = out }

-- the output of w begins with an accepted message, of which the value r is read again; "The length reported by the writer is the layout's"
pub record Back {R : Type 0} (refused : List ℕ → ℕ) (value : List ℕ → R) (r : R) (out : List ℕ) (w : Outcome) : Type 0 where
  pub bytes : List ℕ
  pub is : w ≡ written bytes out
  pub room : length bytes ≤ length out
  pub sized : length bytes ≡ size (layout bytes)
  pub accepted : refused bytes ≡ 0
  pub same : value bytes ≡ r

-- 5 RANGE whatever the output is, then 6 ROOM where it is shorter than the message; a refused one writes nothing
pub record Ordered (write : List ℕ → Outcome) : Type 0 where
  pub range : Bool
  pub length : ℕ
  pub number : (out : List ℕ) → (write out).answer.refusal ≡ first ((5, range) ∷ (6, ltb (ListN.length out) length) ∷ [])
  pub kept : (out : List ℕ) → ((write out).answer.refusal ≡ 0 → ⊥) → write out ≡ unwritten (write out).answer.refusal out

-- of a thing R the reader answers `refused` and `value` for a message, the writer `write` for a value and an output; Whole is what the code's types say of a value
pub record RoundTrips {R : Type 0} (Whole : R → Type 0) (refused : List ℕ → ℕ) (value : List ℕ → R) (write : R → List ℕ → Outcome) : Type 0 where
  -- an accepted message, read and written again wherever there is room for it, gives the same bytes: so a writer that only refuses is none
  pub again : (s out : List ℕ) → Bytes s → refused s ≡ 0 → length s ≤ length out → write (value s) out ≡ written s out
  -- what is written reads back as itself
  pub back : (r : R) (out : List ℕ) → Whole r → (write r out).answer.refusal ≡ 0 → Back refused value r out (write r out)
  -- 5, 6
  pub order : (r : R) → Ordered (write r)

-- a row as its two buffers
pub record Buffers : Type 0 where
  pub values : List ℤ
  pub present : List ℕ

abbrev pub buffers_in : List ℕ → Buffers
buffers_in s = record { values = values_of (row s); present = present_of (row s) }

abbrev pub write_buffers : Buffers → List ℕ → Outcome
write_buffers b out = write_row b.values b.present out

-- a name as a record has it: 31 bytes
pub record NameBytes (n : Name) : Type 0 where
  pub long : length n.chars ≡ 31
  pub bytes : (j : ℕ) → j < n.length → get_or n.chars j 0 < 256

-- of rows, and of each kind of record
pub record BothTrips : Type 0 where
  pub rows : RoundTrips (λ b. Unit {0}) refusal buffers_in write_buffers
  pub helmert : RoundTrips (λ r. NameBytes r.source × NameBytes r.target) (λ s. (read_helmert s).refusal) (λ s. (read_helmert s).value) write_helmert
  pub molodenski_badekas : RoundTrips (λ r. NameBytes r.source × NameBytes r.target) (λ s. (read_molodenski_badekas s).refusal) (λ s. (read_molodenski_badekas s).value) write_molodenski_badekas
  pub grid : RoundTrips (λ r. length r.nodes ≡ 16) (λ s. (read_grid s).refusal) (λ s. (read_grid s).value) write_grid
  pub projection : RoundTrips (λ r. Unit {0}) (λ s. (read_projection s).refusal) (λ s. (read_projection s).value) write_projection
  pub lambert : RoundTrips (λ r. Unit {0}) (λ s. (read_lambert s).refusal) (λ s. (read_lambert s).value) write_lambert
  pub oblique_mercator : RoundTrips (λ r. Unit {0}) (λ s. (read_oblique_mercator s).refusal) (λ s. (read_oblique_mercator s).value) write_oblique_mercator

-- What holds of files of sample answers, in the words of request A13 of document 02.
-- Assumes nothing.
use Rattle.std.specs.Prelude.{ℕ, suc, ◌+◌, ◌*◌, ◌^◌, ◌≤◌, ◌<◌, ◌≡◌, true, false, List, ◌++◌, ℤ, pos, length, get_or, take}
use Rattle.std.specs.Int.Signed.{mag}
use Rattle.grid_shifts.specs.Shift.{message_shift}
use Rattle.sample_numbers.specs.Number.{number, bytes_of, whole, whole_bytes, put_bytes}
use Rattle.sample_files.specs.declared.SamplePoint.{SamplePoint}
use Rattle.sample_files.specs.File.{file_of, message_of, points_of, shape, no_point}
use Rattle.sample_files.specs.Held.{AllHeld}
use Rattle.sample_checks.specs.Check.{message_refusal, right, checked, refused_with}
use Rattle.sample_checks.specs.declared.Checked.{Checked}
use Rattle.sample_writer.specs.Refusals.{asked_of}
use Rattle.sample_writer.specs.Write.{samples_file, write_refusal}

-- what slices of u8 and of i64 hold
abbrev pub Bytes : List ℕ → Type 0
Bytes s = (i : ℕ) → get_or s i 0 < 256

abbrev pub Wholes : List ℤ → Type 0
Wholes s = (i : ℕ) → mag (get_or s i (pos 0)) < 2 ^ 63

-- ---- numbers in bytes, both ways, over the number of bytes, and whole numbers in 8 bytes

abbrev pub NumberBack : Type 0
NumberBack = (k v : ℕ) (t : List ℕ) → v < 2 ^ (8 * k) → number k (bytes_of k v ++ t) ≡ v

abbrev pub BytesBack : Type 0
BytesBack = (s : List ℕ) → Bytes s → (k : ℕ) → k ≤ length s → bytes_of k (number k s) ≡ take k s

abbrev pub WholeBack : Type 0
WholeBack = (z : ℤ) (t : List ℕ) → mag z < 2 ^ 63 → whole (whole_bytes z ++ t) ≡ z

abbrev pub WholeBytesBack : Type 0
WholeBytesBack = (s : List ℕ) → Bytes s → 8 ≤ length s → whole_bytes (whole s) ≡ take 8 s

-- ---- the file

-- the bytes of a message and points have the right shape, and give both back
pub record ReadBack (m : List ℕ) (ps : List SamplePoint) : Type 0 where
  pub shaped : shape (file_of m ps) ≡ true
  pub message : message_of (file_of m ps) ≡ m
  pub points : points_of (file_of m ps) ≡ ps

abbrev pub FileBack : Type 0
FileBack = (m : List ℕ) (ps : List SamplePoint) → length m ≤ 65535 → length ps ≤ 1000 → AllHeld ps → ReadBack m ps

-- a file has the right shape exactly if it is the bytes of some message of at most 65,535 bytes and "at most 1,000" points
pub record Made (f : List ℕ) : Type 0 where
  pub message : List ℕ
  pub points : List SamplePoint
  pub short : length message ≤ 65535
  pub few : length points ≤ 1000
  pub held : AllHeld points
  pub made : f ≡ file_of message points

pub record ShapeOf (f : List ℕ) : Type 0 where
  pub only : shape f ≡ true → Made f
  pub whenever : Made f → shape f ≡ true

abbrev pub ShapeExactly : Type 0
ShapeExactly = (f : List ℕ) → Bytes f → ShapeOf f

-- ---- the checker

-- "accepted exactly if shape and grid message are right and every point is answered 0 with the claimed count"
pub record Accepted (f : List ℕ) : Type 0 where
  pub shaped : shape f ≡ true
  pub message : message_refusal (message_of f) ≡ 0
  pub points : (k : ℕ) → k < length (points_of f) → right (message_of f) (get_or (points_of f) k no_point) ≡ true

pub record Exactly (f : List ℕ) : Type 0 where
  pub only : (checked f).refusal ≡ 0 → Accepted f
  pub whenever : Accepted f → checked f ≡ refused_with 0

abbrev pub AcceptedExactly : Type 0
AcceptedExactly = (f : List ℕ) → Exactly f

-- "The checker names the first bad point, from 1": point k is bad, and none before it
pub record FirstBad (f : List ℕ) (k : ℕ) : Type 0 where
  pub within : k < length (points_of f)
  pub bad : right (message_of f) (get_or (points_of f) k no_point) ≡ false
  pub before : (j : ℕ) → j < k → right (message_of f) (get_or (points_of f) j no_point) ≡ true

-- that point and no other, and 0 without CLAIM
pub record Place (f : List ℕ) : Type 0 where
  pub first : (checked f).refusal ≡ 25 → (k : ℕ) → (checked f).place ≡ suc k → FirstBad f k
  pub only : (checked f).refusal ≡ 25 → (k : ℕ) → FirstBad f k → (checked f).place ≡ suc k
  pub some : (checked f).refusal ≡ 25 → 1 ≤ (checked f).place
  pub none : ((checked f).refusal ≡ 25 → ⊥) → (checked f).place ≡ 0

abbrev pub PlaceIsFirst : Type 0
PlaceIsFirst = (f : List ℕ) → Place f

-- ---- what is written

-- "Every file that our writer writes is accepted"
abbrev pub WrittenAccepted : Type 0
WrittenAccepted =
    (m cs : List ℕ) (ns es : List ℤ) (room : ℕ) → Bytes cs → Wholes ns → Wholes es
    → write_refusal m cs ns es room ≡ 0 → checked (samples_file m (asked_of cs ns es)) ≡ refused_with 0

-- the byte of a file where the claim of point k, from 0, begins
abbrev pub claim_place : List ℕ → ℕ → ℕ
claim_place m k = 3 + length m + 28 * k + 20

-- a written file with another claim in it is refused CLAIM with its place
abbrev pub ClaimChanged : Type 0
ClaimChanged =
    (m cs : List ℕ) (ns es : List ℤ) (room : ℕ) → Bytes cs → Wholes ns → Wholes es
    → write_refusal m cs ns es room ≡ 0 → (k : ℕ) (z : ℤ) → k < length cs → mag z < 2 ^ 63
    → (z ≡ (message_shift m (get_or cs k 0) (get_or ns k (pos 0)) (get_or es k (pos 0))).count → ⊥)
    → ◌≡◌ {A = Checked} (checked (put_bytes (samples_file m (asked_of cs ns es)) (claim_place m k) (whole_bytes z))) (record { refusal = 25; place = suc k })

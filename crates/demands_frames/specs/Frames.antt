-- Request A1 in its own words, as statements about the bytes lent and the answers to the real calls.
-- Assumes nothing.
use Rattle.std.specs.Prelude.{ℕ, ◌+◌, ◌≤◌, ◌<◌, Bool, true, List, [], ◌∷◌, ◌++◌, ◌≡◌, length, drop}
use Rattle.frame_crc.specs.Crc.{crc}
use Rattle.frame.specs.Frames.{frame, found, need, no_frame, find_frame}
use Rattle.frame.specs.Stream.{stream, Short, ReadsBack}
use Rattle.frame.specs.Words.{Calls, Stands}
use Rattle.frame_search.specs.Steps.{step_of, frames_from, reported, moved}
use Rattle.frame_writer.specs.Refusals.{frame_refusal}

-- ---- "frames written one after another are read back in order, each from the last one's end"

-- what is written is found at its place with its length, whatever stands before it and follows
abbrev pub WrittenFound : Type 0
WrittenFound =
    (before m behind : List ℕ) → length m ≤ 1023 → find_frame (before ++ (frame m ++ behind)) (length before) ≡ found (length before) (length m)

-- any list of messages of at most 1,023 bytes, and then 20 NOFRAME
abbrev pub ReadBack : Type 0
ReadBack = (before : List ℕ) (ms : List (List ℕ)) → Short ms → ReadsBack (before ++ stream ms) (length before) ms

-- ---- bytes that arrive behind

-- they change no answer 0
abbrev pub FoundStays : Type 0
FoundStays = (s more : List ℕ) (from f n : ℕ) → find_frame s from ≡ found f n → find_frame (s ++ more) from ≡ found f n

-- after 19 NEED the search goes on from the place named, and misses no frame by that
abbrev pub NeedGoesOn : Type 0
NeedGoesOn = (s more : List ℕ) (from u : ℕ) → find_frame s from ≡ need u → find_frame (s ++ more) from ≡ find_frame (s ++ more) u

-- and no answer then names an earlier place
abbrev pub NeedNotEarlier : Type 0
NeedNotEarlier =
    (s more : List ℕ) (from u : ℕ) → find_frame s from ≡ need u → ((find_frame (s ++ more) from).refusal ≡ 20 → ⊥) → u ≤ (find_frame (s ++ more) from).at

-- ---- "the first place at or after it where a whole frame with a right CRC stands, with its message's length, unless an earlier D3 with six zero

-- bits calls for bytes that have not arrived; then, and where no such frame stands, it names the first such D3"

-- neither stands at place i
pub record Empty (s : List ℕ) (i : ℕ) : Type 0 where
  pub no-frame : (n : ℕ) → Stands (drop i s) n → ⊥
  pub no_call : Calls (drop i s) → ⊥

-- place f is the first from `from` on where one of them stands, and it is this one
pub record FirstAt (Here : List ℕ → Type 0) (s : List ℕ) (from f : ℕ) : Type 0 where
  pub start : from ≤ f
  pub here : Here (drop f s)
  pub before : (i : ℕ) → from ≤ i → i < f → Empty s i

abbrev pub NothingFrom : List ℕ → ℕ → Type 0
NothingFrom s from = (i : ℕ) → from ≤ i → Empty s i

-- each answer is given exactly then
pub record Exactly (s : List ℕ) (from : ℕ) : Type 0 where
  pub found-then : (f n : ℕ) → find_frame s from ≡ found f n → FirstAt (λ (t : List ℕ). Stands t n) s from f
  pub found-when : (f n : ℕ) → FirstAt (λ (t : List ℕ). Stands t n) s from f → find_frame s from ≡ found f n
  pub need-then : (u : ℕ) → find_frame s from ≡ need u → FirstAt Calls s from u
  pub need-when : (u : ℕ) → FirstAt Calls s from u → find_frame s from ≡ need u
  pub none_then : find_frame s from ≡ no_frame → NothingFrom s from
  pub none-when : NothingFrom s from → find_frame s from ≡ no_frame

-- ---- frames found by steps over a window that slides

-- w are the bytes that are there, x those that still come: what the search finds from a place is what the step reports and what it finds from the step's next place
abbrev pub StepRight : Type 0
StepRight =
    (w x : List ℕ) (from : ℕ) (ended : Bool) → from ≤ length w → (ended ≡ true → x ≡ [])
    → frames_from (w ++ x) from ≡ reported (step_of w from ended) ++ frames_from (w ++ x) (step_of w from ended).next

-- the frames from a place on are those of the bytes behind the first k, k places further on
abbrev pub SlideRight : Type 0
SlideRight = (s : List ℕ) (k : ℕ) → k ≤ length s → (from : ℕ) → frames_from s (k + from) ≡ moved k (frames_from (drop k s) from)

-- ---- "the writer gives LENGTH above 1,023 bytes, then ROOM"

pub record WriterRefusals : Type 0 where
  pub long : (m : List ℕ) (room : ℕ) → 1023 < length m → frame_refusal m room ≡ 3
  pub narrow : (m : List ℕ) (room : ℕ) → length m ≤ 1023 → room < length m + 6 → frame_refusal m room ≡ 6
  pub written : (m : List ℕ) (room : ℕ) → length m ≤ 1023 → length m + 6 ≤ room → frame_refusal m room ≡ 0

-- ---- published values

-- the message 1005 of RTCM 10403, section 4
abbrev pub message1005 : List ℕ
message1005 =
    0x3E ∷ 0xD7 ∷ 0xD3 ∷ 0x02 ∷ 0x02 ∷ 0x98 ∷ 0x0E ∷ 0xDE ∷ 0xEF ∷ 0x34 ∷ 0xB4 ∷ 0xBD ∷ 0x62 ∷ 0xAC ∷ 0x09 ∷ 0x41 ∷ 0x98 ∷ 0x6F ∷ 0x33 ∷ []

pub record PublishedFrames : Type 0 where
  -- CRC-24Q of the nine characters "123456789"
  pub digits : crc (0x31 ∷ 0x32 ∷ 0x33 ∷ 0x34 ∷ 0x35 ∷ 0x36 ∷ 0x37 ∷ 0x38 ∷ 0x39 ∷ []) ≡ 0xCDE703
  pub frame1005 : frame message1005 ≡ (0xD3 ∷ 0x00 ∷ 0x13 ∷ message1005) ++ (0x36 ∷ 0x0B ∷ 0x98 ∷ [])

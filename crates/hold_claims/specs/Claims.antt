-- What a crew can have checked of a year's report without reading a proof, in the words of the request (RULES 21.5 to 21.8).
-- `claims` of proofs/Claims proves all of it, for every text.
-- Assumes nothing.
use Rattle.std.specs.Prelude.{ℕ, ◌<◌, ◌≤◌, ◌≡◌, ◌≢◌, true, false, List, [], ◌∷◌, ◌++◌, ℤ, pos, negsuc, ◌+ℤ◌, ◌*ℤ◌, length}
use Rattle.std.specs.Prelude.{None, Some}
use Rattle.std.specs.Int.Signed.{lt_z}
use Rattle.refusals.specs.declared.Refusal.TheVariants as Refusals
use Rattle.lent.specs.Listed.{listed}
use Rattle.lent.specs.Outcome.{Refuses}
use Rattle.texts.specs.Letters.{bytes_of}
use Rattle.texts.specs.Numerals.{decimal_of, signed_text}
use Rattle.reply_lines.specs.Lines.{line}
use Rattle.hold_lines.specs.Text.{Held, lines_in, line_in}
use Rattle.hold_figures.specs.Crews.{holds_of, total_of, largest_of, mean_of, remainder_of, is_signed64}
use Rattle.hold_report.specs.Report.{crew_line}
use Rattle.hold_year.specs.Year.{Taken, Refused, year_from, year_in, year_reply}

-- The holds of all lines, whosever they are.
unfoldable pub all_holds : List Held → List ℤ
all_holds [] = []
all_holds (h ∷ hs) = h.hold ∷ all_holds hs

-- A number is one of a list's.
pub data AmongHolds (z : ℤ) : List ℤ → Type 0 where
  Here : (zs : List ℤ) → AmongHolds z (z ∷ zs)
  Later : (y : ℤ) (zs : List ℤ) → AmongHolds z zs → AmongHolds z (y ∷ zs)

-- Lines that say these things, each in turn.
pub data SayThese : List (List ℕ) → List Held → Type 0 where
  NoMore : SayThese [] []
  And : (line : List ℕ) (lines : List (List ℕ)) (h : Held) (hs : List Held) → line_in line ≡ Some h → SayThese lines hs →
      SayThese (line ∷ lines) (h ∷ hs)

-- Two years that are the same but for lines of one crew, of which either may have more, fewer or others.
pub data SameBut (crew : ℕ) : List Held → List Held → Type 0 where
  BothEnd : SameBut crew [] []
  BothHave : (h : Held) (hs others : List Held) → SameBut crew hs others → SameBut crew (h ∷ hs) (h ∷ others)
  OneHas : (h : Held) (hs others : List Held) → h.crew ≡ crew → SameBut crew hs others → SameBut crew (h ∷ hs) others
  OtherHas : (h : Held) (hs others : List Held) → h.crew ≡ crew → SameBut crew hs others → SameBut crew hs (h ∷ others)

-- The line at which a text is refused: those before it are all taken.
pub record RefusedAt (text : List ℕ) : Type 0 where
  pub before : List (List ℕ)
  pub line : List ℕ
  pub behind : List (List ℕ)
  pub read : List Held
  pub parted : lines_in text ≡ before ++ (line ∷ behind)
  pub taken : year_from [] before ≡ Taken read

-- It is the 100,001st, or malformed.
pub data BadLine (text : List ℕ) (r : RefusedAt text) : Type 0 where
  TooMany : length r.before ≡ 100_000 → BadLine text r
  Malformed : line_in r.line ≡ None → BadLine text r

-- It is a line within the 100,000, and with it its crew's total leaves 64 bits.
pub record Overflows (text : List ℕ) (r : RefusedAt text) : Type 0 where
  pub in_number : length r.before < 100_000
  pub held : Held
  pub says : line_in r.line ≡ Some held
  pub leaves : is_signed64 (total_of (holds_of held.crew (r.read ++ (held ∷ [])))) ≡ false

-- A text is taken whole, or refused at its first line that is bad, or with which a total leaves 64 bits; of one line the first
-- of the two decides (RULES 21.5, 21.6). What is answered then is its number alone, 14 or 15 (RULES 4.16, 4.17).
pub data Decided (text : List ℕ) : Type 0 where
  AllTaken : (hs : List Held) → year_in text ≡ Taken hs → length hs ≤ 100_000 → SayThese (lines_in text) hs → Decided text
  ByLine : (r : RefusedAt text) → BadLine text r → year_in text ≡ Refused Refusals.Line → year_reply text ≡ Refuses 14 →
      Decided text
  ByTotal : (r : RefusedAt text) → Overflows text r → year_in text ≡ Refused Refusals.Overflow → year_reply text ≡ Refuses 15 →
      Decided text

-- What holds of a crew with rounds: z is its first hold, zs are those that follow.
pub record RowClaims (z : ℤ) (zs : List ℤ) : Type 0 where
  -- The largest is one of its holds, and none of them is above it.
  pub largest_among : AmongHolds (largest_of z zs) (z ∷ zs)
  pub none_above : (y : ℤ) → AmongHolds y (z ∷ zs) → lt_z (largest_of z zs) y ≡ false
  -- The total is the mean times the rounds and the remainder, which is below the rounds; and no other two numbers are so.
  pub mean_times :
      let total = total_of (z ∷ zs) in
      let rounds = length (z ∷ zs) in
      total ≡ mean_of total rounds *ℤ pos rounds +ℤ pos (remainder_of total rounds)
  pub remainder_below : remainder_of (total_of (z ∷ zs)) (length (z ∷ zs)) < length (z ∷ zs)
  pub no_other : (mean : ℤ) (remainder : ℕ) →
      let total = total_of (z ∷ zs) in
      let rounds = length (z ∷ zs) in
      total ≡ mean *ℤ pos rounds +ℤ pos remainder → remainder < rounds →
      (mean ≡ mean_of total rounds) × (remainder ≡ remainder_of total rounds)

-- What holds of the lines that a text was taken for.
pub record YearClaims (hs : List Held) : Type 0 where
  -- All totals together are the sum over the file, over the integers and with no bound (RULES 21.7).
  pub totals_together : total_of (listed (λ crew. total_of (holds_of crew hs)) 64 0) ≡ total_of (all_holds hs)
  -- No total that is printed is cut: each is a signed number of 64 bits.
  pub totals_fit : (crew : ℕ) → is_signed64 (total_of (holds_of crew hs)) ≡ true
  -- A line counts for its own crew and for no other: with one crew's lines changed, every other crew's line is the same.
  pub own_crew_alone : (crew changed : ℕ) (others : List Held) → crew ≢ changed → SameBut changed hs others →
      crew_line crew (holds_of crew hs) ≡ crew_line crew (holds_of crew others)
  -- What is printed for a crew are these numbers, in decimal: no total, largest or mean is cut to its last 64 bits.
  pub printed_whole : (crew : ℕ) (z : ℤ) (zs : List ℤ) → holds_of crew hs ≡ z ∷ zs →
      let total = total_of (z ∷ zs) in
      let rounds = length (z ∷ zs) in
      crew_line crew (z ∷ zs) ≡
      line "crew"
      ((32 ∷ decimal_of crew) ++
      ((32 ∷ decimal_of rounds) ++
      ((32 ∷ signed_text total) ++
      ((32 ∷ signed_text (largest_of z zs)) ++
      ((32 ∷ signed_text (mean_of total rounds)) ++ (32 ∷ decimal_of (remainder_of total rounds)))))))

-- A text whose second line is of no crew, and one whose second total is too low.
abbrev no_crew : List ℕ
no_crew = bytes_of "0 1 5\n64 0 -7\n"

abbrev too_low : List ℕ
too_low = bytes_of "0 1 -9223372036854775808\n0 0 -1\n\n"

-- A year of three lines, and two texts that are refused: there are such.
pub record Examples : Type 0 where
  pub a_year :
      year_in (bytes_of "0 1 5\n63 0 -7\n0 4294967295 -8") ≡
      Taken
      (record { crew = 0; hold = pos 5 } ∷ record { crew = 63; hold = negsuc 6 } ∷ record { crew = 0; hold = negsuc 7 } ∷ [])
  pub a_bad_line : year_in no_crew ≡ Refused Refusals.Line
  pub a_bad_line_number : year_reply no_crew ≡ Refuses 14
  pub a_total_too_low : year_in too_low ≡ Refused Refusals.Overflow
  pub a_total_too_low_number : year_reply too_low ≡ Refuses 15

pub record Claims : Type 0 where
  pub decided : (text : List ℕ) → Decided text
  -- And whichever line of a text is so, all before it taken, the text is refused by it, and its number is answered.
  pub refused_14 : (text : List ℕ) (r : RefusedAt text) → BadLine text r → year_in text ≡ Refused Refusals.Line
  pub told_14 : (text : List ℕ) (r : RefusedAt text) → BadLine text r → year_reply text ≡ Refuses 14
  pub refused_15 : (text : List ℕ) (r : RefusedAt text) → Overflows text r → year_in text ≡ Refused Refusals.Overflow
  pub told_15 : (text : List ℕ) (r : RefusedAt text) → Overflows text r → year_reply text ≡ Refuses 15
  pub of_a_year : (text : List ℕ) (hs : List Held) → year_in text ≡ Taken hs → YearClaims hs
  pub of_a_crew : (z : ℤ) (zs : List ℤ) → RowClaims z zs
  pub examples : Examples

-- How a line's end, a byte and a part go on or are refused, as their definitions say, case by case.
-- Assumes nothing.
use Prim.Native.Nat.{ℕ, ◌+◌, ◌≤◌, ◌<◌}
use mathlib.Core.Path.{◌≡◌, refl, sym}
use mathlib.Core.Bool.{Bool, true, false, cond}
use mathlib.Core.List.{List}
use native.Mathlib.Numerals.{add-one}
use native.Mathlib.Omega.{arith}
use borrow.Author.Tests.{lt-ltb, le-ltb}
use lib.Dec.{ltb}
use lib.ListN.{length, get_or, drop, replicate}
use lib.Seq.{drop-cons, drop-length}
use Rattle.std.specs.Prelude.{Result, Ok, Err, Some, None}
use Rattle.refusals.specs.Names.{refusal_number}
use Rattle.refusals.specs.declared.Refusal.{Refusal}
use Rattle.refusals.specs.declared.Refusal.TheVariants as Refusals
use Rattle.lent.specs.Outcome.{Gives, Refuses}
use Rattle.hold_lines.specs.Place.{closed}
use Rattle.hold_figures.specs.Words.{tallied}
use Rattle.hold_report.specs.Told.{words_report}
use Rattle.hold_year.specs.Parts.{Going, On, Over, counting, line_ended, byte_fed, going_on, fed_by}
use Rattle.hold_year.specs.Parts.{text_ended, finished, Goes, Feeds}
use Rattle.hold_year.specs.declared.year.Reading.{Reading}

-- ---- The end of a line.

-- A line too many, one that is none, and one that is taken.
pub too_many : (s : Reading) (words : List ℕ) → 100_000 ≤ s.lines → line_ended s words ≡ Over Refusals.Line
unfolding line_ended
too_many s words many = rw (le-ltb s.lines 100_000 many)

pub no_line : (s : Reading) (words : List ℕ) → closed s.place ≡ None → line_ended s words ≡ Over Refusals.Line
unfolding line_ended
no_line s words broken = rw broken (by (ltb s.lines 100_000))
  where
    by : (few : Bool) → cond few (Over Refusals.Line) (Over Refusals.Line) ≡ Over Refusals.Line
    by true = refl
    by false = refl

pub a_line : (s : Reading) (words : List ℕ) (crew hold : ℕ) → s.lines < 100_000 →
    closed s.place ≡ Some (record { crew = crew; raised = hold }) →
    line_ended s words ≡ counting (tallied words crew hold) s.lines
unfolding line_ended
a_line s words crew hold few line = rw (lt-ltb s.lines 100_000 few, line)

-- A refusal where no word was touched.
pub over_goes : (g : Going) (lent : List ℕ) (why : Refusal) → g ≡ Over why → Goes g lent lent (Err why)
over_goes g lent why over = record { answer = rw over; words = rw over }

-- What is promised says which of the two it was.
pub goes_on : (g : Going) (lent left : List ℕ) (r : Result Reading Refusal) (t : Reading) → Goes g lent left r → r ≡ Ok t →
    g ≡ On t left
goes_on (On s words) lent left r t goes e =
    let a : r ≡ Ok s = goes.answer in let w : left ≡ words = goes.words in cc
goes_on (Over why) lent left r t goes e =
    let a : r ≡ Err why = goes.answer in absurd (let z : ◌≡◌ {A = ℕ} 0 1 = cc in omega arith)

pub goes_over : (g : Going) (lent left : List ℕ) (r : Result Reading Refusal) (why : Refusal) → Goes g lent left r →
    r ≡ Err why → g ≡ Over why
goes_over (On s words) lent left r why goes e =
    let a : r ≡ Ok s = goes.answer in absurd (let z : ◌≡◌ {A = ℕ} 0 1 = cc in omega arith)
goes_over (Over other) lent left r why goes e = let a : r ≡ Err other = goes.answer in cc

-- ---- A byte, and a part: what is left of it at its end, and at a byte before.

-- At the part's end nothing is left to take.
pub fed_done : (s : Reading) (words part : List ℕ) (i : ℕ) → i ≡ length part → On s words ≡ fed_by s words (drop i part)
unfolding fed_by
fed_done s words part i end = rw (end, drop-length part)

-- Before the part's end the next byte is taken.
pub fed_next : (s : Reading) (words part : List ℕ) (i : ℕ) → i < length part →
    fed_by s words (drop i part) ≡ going_on (byte_fed s words (get_or part i 0)) (λ t left. fed_by t left (drop (i + 1) part))
unfolding fed_by
fed_next s words part i h = rw (add-one i, drop-cons part i 0 h)

-- A part that is refused leaves zero, and one that is read to its end the words as they are.
pub feeds_over : (s : Reading) (part lent left : List ℕ) (r : Result Reading Refusal) (why : Refusal) → r ≡ Err why →
    Over why ≡ fed_by s lent part → left ≡ replicate 192 0 → Feeds s part lent left r
feeds_over s part lent left r why e over zero = record { answer = rw (sym over) e; words = rw (sym over) zero }

pub feeds_on : (s : Reading) (part lent left : List ℕ) (t : Reading) → On t left ≡ fed_by s lent part →
    Feeds s part lent left (Ok t)
feeds_on s part lent left t on = record { answer = rw (sym on); words = rw (sym on) }

-- ---- The end of the text.

-- Where the last line is refused so is the year, and else its report is given.
pub finish_over : (s : Reading) (words : List ℕ) (why : Refusal) → text_ended s words ≡ Over why →
    finished s words ≡ Refuses (refusal_number why)
unfolding finished
finish_over s words why over = rw over

pub finish_on : (s : Reading) (words : List ℕ) (t : Reading) (left : List ℕ) → text_ended s words ≡ On t left →
    finished s words ≡ Gives (words_report t.lines left)
unfolding finished
finish_on s words t left on = rw on

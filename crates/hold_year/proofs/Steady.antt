-- What every byte leaves as it was, a whole text leaves: the crews' words stay as many as they are, and a reading that goes on is
-- never broken.
-- Assumes nothing.
use Prim.Native.Nat.{ℕ, ◌+◌, ◌*◌}
use mathlib.Core.Path.{◌≡◌, refl, ap, ◌∙◌}
use mathlib.Core.Bool.{Bool, true, false, cond}
use mathlib.Core.List.{List, [], ◌∷◌}
use native.Mathlib.Omega.{arith}
use Rattle.refusals.specs.declared.Refusal.TheVariants as Refusals
use Rattle.std.proofs.Common.{Option, Some, None}
use lib.Dec.{eqb, leb, ltb}
use lib.ListN.{length, get_or, set, length-set}
use Rattle.hold_lines.specs.Place.{stepped, closed}
use Rattle.hold_lines.specs.declared.place.Line.{Line}
use Rattle.hold_figures.specs.Words.{Tally, Grown, Stopped, raised_sum, with_crew, grown_by, tallied}
use Rattle.hold_year.specs.Parts.{
  Going,
  On,
  Over,
  counting,
  line_taken,
  line_ended,
  is_broken,
  byte_fed,
  going_on,
  fed_by,
  words_or_zero,
  Feeds,
}
use Rattle.hold_year.specs.declared.year.Reading.{Reading}
use Rattle.std.specs.Prelude.{Result}
use Rattle.refusals.specs.declared.Refusal.{Refusal}

-- What goes on is so; nothing is claimed of a refusal.
abbrev pub Holds : (Reading → List ℕ → Type 0) → Going → Type 0
Holds Q (On t left) = Q t left
Holds Q (Over why) = Unit {0}

-- The number counts the bytes that were fed.
pub fed_holds : (Q : ℕ → Reading → List ℕ → Type 0) →
    ((k : ℕ) (s : Reading) (words : List ℕ) (b : ℕ) → Q k s words → Holds (Q (k + 1)) (byte_fed s words b)) →
    (k : ℕ) (s : Reading) (words text : List ℕ) → Q k s words → Holds (Q (k + length text)) (fed_by s words text)
unfolding fed_by
fed_holds Q step k s words [] q = let same : k + 0 ≡ k = omega arith in rw same q
fed_holds Q step k s words (b ∷ text) q =
    let more : k + length (b ∷ text) ≡ k + 1 + length text = omega arith in
    rw more (by (byte_fed s words b) (step k s words b q) (λ t left. fed_holds Q step (k + 1) t left text))
  where
    by : (g : Going) → Holds (Q (k + 1)) g →
        ((t : Reading) (left : List ℕ) → Q (k + 1) t left → Holds (Q (k + 1 + length text)) (fed_by t left text)) →
        Holds (Q (k + 1 + length text)) (going_on g (λ t left. fed_by t left text))
    by (On t left) h rest = rest t left h
    by (Over why) h rest = tt

-- ---- The number of the words.

abbrev Long : ℕ → Reading → List ℕ → Type 0
Long n s words = length words ≡ n

crew_long : (words : List ℕ) (crew rounds total largest : ℕ) → length (with_crew words crew rounds total largest) ≡ length words
unfolding with_crew
crew_long words crew rounds total largest =
    length-set (set (set words (3 * crew) rounds) (3 * crew + 1) total) (3 * crew + 2) largest
    ∙ length-set (set words (3 * crew) rounds) (3 * crew + 1) total
    ∙ length-set words (3 * crew) rounds

tally_long : (lines crew hold : ℕ) (words : List ℕ) → Holds (Long (length words)) (counting (tallied words crew hold) lines)
unfolding tallied
tally_long lines crew hold words =
    by (leb crew 63) (eqb (get_or words (3 * crew) 0) 0) (ltb (get_or words (3 * crew) 0) 100_000)
    (raised_sum (get_or words (3 * crew + 1) 0) hold)
  where
    by : (low first few : Bool) (sum : Option ℕ) →
        Holds (Long (length words))
        (counting
        (cond low
        (cond first (Grown (with_crew words crew 1 hold hold)) (cond few (grown_by words crew hold sum) (Stopped Refusals.Line)))
        (Stopped Refusals.Line))
        lines)
    by true true few sum = crew_long words crew 1 hold hold
    by true false true (Some total) = crew_long words crew _ total _
    by true false true None = tt
    by true false false sum = tt
    by false first few sum = tt

line_long : (s : Reading) (words : List ℕ) → Holds (Long (length words)) (line_ended s words)
unfolding line_ended
line_long s words = by (ltb s.lines 100_000) (closed s.place)
  where
    by : (few : Bool) (line : Option Line) →
        Holds (Long (length words)) (cond few (line_taken line s.lines words) (Over Refusals.Line))
    by true (Some line) = tally_long s.lines line.crew line.raised words
    by true None = tt
    by false line = tt

byte_long : (n : ℕ) (s : Reading) (words : List ℕ) (b : ℕ) → length words ≡ n → Holds (Long n) (byte_fed s words b)
unfolding byte_fed
byte_long n s words b long = rw (← long) (by (eqb b 10) (is_broken (stepped s.place b)))
  where
    by : (newline broken : Bool) →
        Holds (Long (length words))
        (cond newline
        (line_ended s words)
        (cond broken (Over Refusals.Line) (On (record { lines = s.lines; place = stepped s.place b }) words)))
    by true broken = line_long s words
    by false true = tt
    by false false = refl

pub fed_long : (n : ℕ) (s : Reading) (words text : List ℕ) → length words ≡ n → Holds (Long n) (fed_by s words text)
fed_long n s words text long = fed_holds (λ k. Long n) (λ k. byte_long n) 0 s words text long

-- The words of 64 crews are those of 64 crews behind a part, too.
pub feeds_long : (s : Reading) (part lent left : List ℕ) (r : Result Reading Refusal) → Feeds s part lent left r →
    length lent ≡ 192 → length left ≡ 192
feeds_long s part lent left r feeds long = by (fed_by s lent part) (fed_long 192 s lent part long) feeds.words
  where
    by : (g : Going) → Holds (Long 192) g → left ≡ words_or_zero g → length left ≡ 192
    by (On t words) k e = rw e k
    by (Over why) k e = ap length e

-- ---- The place.

abbrev Whole : Reading → List ℕ → Type 0
Whole s words = is_broken s.place ≡ false

line_whole : (s : Reading) (words : List ℕ) → Holds Whole (line_ended s words)
unfolding line_ended
line_whole s words = by (ltb s.lines 100_000) (closed s.place)
  where
    counted : (t : Tally) → Holds Whole (counting t s.lines)
    counted (Grown left) = refl
    counted (Stopped why) = tt

    by : (few : Bool) (line : Option Line) → Holds Whole (cond few (line_taken line s.lines words) (Over Refusals.Line))
    by true (Some line) = counted (tallied words line.crew line.raised)
    by true None = tt
    by false line = tt

byte_whole : (s : Reading) (words : List ℕ) (b : ℕ) → Whole s words → Holds Whole (byte_fed s words b)
unfolding byte_fed
byte_whole s words b whole = by (eqb b 10) (is_broken (stepped s.place b)) refl
  where
    by : (newline broken : Bool) → is_broken (stepped s.place b) ≡ broken →
        Holds Whole
        (cond newline
        (line_ended s words)
        (cond broken (Over Refusals.Line) (On (record { lines = s.lines; place = stepped s.place b }) words)))
    by true broken e = line_whole s words
    by false true e = tt
    by false false e = e

pub fed_whole : (s : Reading) (words text : List ℕ) → is_broken s.place ≡ false → Holds Whole (fed_by s words text)
fed_whole s words text whole = fed_holds (λ k. Whole) (λ k. byte_whole) 0 s words text whole

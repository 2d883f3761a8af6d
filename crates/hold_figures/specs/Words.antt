-- The crews' figures in words, and how a round is counted there; `counted_round` of proofs/Counting says that both are one.
-- Assumes nothing.
use Rattle.std.specs.Prelude.{◌≡◌, ℕ, ◌+◌, ◌-◌, ◌*◌, ◌^◌, max, cond, ◌&&◌, List, [], ◌∷◌, length, Option, Some, None, ℤ, ◌==◌, nat_le, nat_lt, slice_index, slice_index_or, slice_set}
use Rattle.lent.specs.Listed.{listed}
use Rattle.lent.specs.Rows.{words_in}
use Rattle.hold_lines.specs.Text.{Held, raised_of}
use Rattle.hold_figures.specs.Crews.{holds_of, total_of, largest_of}
use Rattle.std.specs.Prelude.{Result, Ok, Err}
use Rattle.refusals.specs.declared.Refusal.{Refusal}
use Rattle.refusals.specs.declared.Refusal.TheVariants as Refusals

-- The three words of a crew with these holds.
unfoldable pub crew_words : List ℤ → List ℕ
crew_words [] = 0 ∷ 0 ∷ 0 ∷ []
crew_words (z ∷ zs) = length (z ∷ zs) ∷ raised_of (total_of (z ∷ zs)) ∷ raised_of (largest_of z zs) ∷ []

-- The words of all 64 crews, for the lines read so far.
unfoldable pub figures_of : List Held → List ℕ
figures_of hs = words_in (listed (λ crew. crew_words (holds_of crew hs)) 64 0)

-- Raised by 2^63 once, and not twice; the sum leaves 64 bits below 0 and from 2^64 on.
unfoldable pub raised_sum : ℕ → ℕ → Option ℕ
raised_sum x y = cond (nat_le (2 ^ 63) (x + y) && nat_lt (x + y) (2 ^ 63 + 2 ^ 64)) (Some (x + y - 2 ^ 63)) None

-- The words with those of a crew anew.
unfoldable pub with_crew : List ℕ → ℕ → ℕ → ℕ → ℕ → List ℕ
with_crew words crew rounds total largest =
    slice_set (slice_set (slice_set words (3 * crew) rounds) (3 * crew + 1) total) (3 * crew + 2) largest

-- The words with a round counted, or a refusal.
pub data Tally : Type 0 where
  Grown : List ℕ → Tally
  Stopped : Refusal → Tally

abbrev pub grown_by : List ℕ → ℕ → ℕ → Option ℕ → Tally
grown_by words crew hold (Some total) =
    Grown (with_crew words crew (slice_index words (3 * crew) + 1) total (max (slice_index words (3 * crew + 2)) hold))
grown_by words crew hold None = Stopped Refusals.Overflow

-- A crew's first round is its total and its largest. A crew past 63, and a round more than a year has lines, belong to no line that
-- may be there (RULES 21.3, 21.5); a total that leaves 64 bits is refused (RULES 21.6).
unfoldable pub tallied : List ℕ → ℕ → ℕ → Tally
tallied words crew hold =
    let rounds = slice_index_or words (3 * crew) 0 in
    cond (nat_le crew 63)
    (cond (rounds == 0)
    (Grown (with_crew words crew 1 hold hold))
    (cond (nat_lt rounds 100_000)
    (grown_by words crew hold (raised_sum (slice_index words (3 * crew + 1)) hold))
    (Stopped Refusals.Line)))
    (Stopped Refusals.Line)

abbrev pub counted_by : Tally → Result Unit Refusal
counted_by (Grown words) = Ok tt
counted_by (Stopped why) = Err why

abbrev pub words_after : Tally → List ℕ → List ℕ
words_after (Grown words) lent = words
words_after (Stopped why) lent = lent

-- The promise of counting a round: `lent` are the words before it, `left` those behind it.
pub record CountsRound (crew hold : ℕ) (lent left : List ℕ) (r : Result Unit Refusal) : Type 0 where
  pub answer : r ≡ counted_by (tallied lent crew hold)
  pub words : left ≡ words_after (tallied lent crew hold) lent

-- The cases of a tally, each from the tests that lead to it, and what is promised in each.
-- Assumes nothing.
use Rattle.std.proofs.Common.{◌≡◌, ℕ, ◌+◌, ◌*◌, ◌<◌, ◌≤◌, List, get_or, sym, ap, le-ltb, lt-ltb, eq-eqb, ne_eqb, le-leb}
use borrow.Author.Tests.{lt-leb}
use Rattle.std.specs.Prelude.{Ok, Err}
use Rattle.refusals.specs.declared.Refusal.{Refusal}
use Rattle.refusals.specs.declared.Refusal.TheVariants as Refusals
use Rattle.hold_figures.specs.Words.{raised_sum, with_crew, tallied, CountsRound}
use Rattle.hold_figures.specs.Words.{Grown, Stopped, grown_by, counted_by, words_after}

module _ (words : List ℕ) (crew hold : ℕ) where
  -- A crew past 63, a crew's first round, a round more than a year has lines, and any other round.
  pub tallied_past : 63 < crew → tallied words crew hold ≡ Stopped Refusals.Line
  unfolding tallied
  tallied_past h = rw (lt-leb crew 63 h)

  pub tallied_first : crew ≤ 63 → get_or words (3 * crew) 0 ≡ 0 → tallied words crew hold ≡ Grown (with_crew words crew 1 hold hold)
  unfolding tallied
  tallied_first h e = rw (le-leb crew 63 h, eq-eqb (get_or words (3 * crew) 0) 0 e)

  pub tallied_full : crew ≤ 63 → ¬ (get_or words (3 * crew) 0 ≡ 0) → 100_000 ≤ get_or words (3 * crew) 0 →
      tallied words crew hold ≡ Stopped Refusals.Line
  unfolding tallied
  tallied_full h e m =
      rw (le-leb crew 63 h, ne_eqb (get_or words (3 * crew) 0) 0 e, le-ltb (get_or words (3 * crew) 0) 100_000 m)

  pub tallied_more : crew ≤ 63 → ¬ (get_or words (3 * crew) 0 ≡ 0) → get_or words (3 * crew) 0 < 100_000 →
      tallied words crew hold ≡ grown_by words crew hold (raised_sum (get_or words (3 * crew + 1) 0) hold)
  unfolding tallied
  tallied_more h e m =
      rw (le-leb crew 63 h, ne_eqb (get_or words (3 * crew) 0) 0 e, lt-ltb (get_or words (3 * crew) 0) 100_000 m)

-- A round that is counted leaves the words grown, and one that is refused leaves them as they were.
pub counts_grown : {lent left : List ℕ} {crew hold : ℕ} →
    tallied lent crew hold ≡ Grown left → CountsRound crew hold lent left (Ok tt)
counts_grown {lent} e =
    record { answer = sym (ap counted_by e); words = sym (ap (λ t. words_after t lent) e) }

pub counts_stopped : {lent : List ℕ} {crew hold : ℕ} {why : Refusal} →
    tallied lent crew hold ≡ Stopped why → CountsRound crew hold lent lent (Err why)
counts_stopped {lent} e =
    record { answer = sym (ap counted_by e); words = sym (ap (λ t. words_after t lent) e) }

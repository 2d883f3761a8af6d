-- The words that are put for a raised number, by its sign: those of the number itself, and of a mean and its remainder.
-- Assumes nothing.
use Rattle.std.proofs.Common.{◌≡◌, ℕ, suc, ◌+◌, ◌-◌, ◌/◌, ◌%◌, ◌^◌, ◌<◌, ◌≤◌, pos, negsuc, sym, ◌∙◌, arith, le-ltb, lt-ltb, inl, inr}
use Rattle.std.proofs.lemmas.Bool.{cases_lt}
use Rattle.number_words.specs.Word.{word_of}
use Rattle.hold_figures.specs.Crews.{mean_of, remainder_of}
use Rattle.hold_report.specs.Told.{lowered_of}

pub lowered_below : (w : ℕ) → w < 2 ^ 63 → lowered_of w ≡ negsuc (2 ^ 63 - 1 - w)
unfolding lowered_of
lowered_below w h = rw (lt-ltb w (2 ^ 63) h)

pub lowered_above : (w : ℕ) → 2 ^ 63 ≤ w → lowered_of w ≡ pos (w - 2 ^ 63)
unfolding lowered_of
lowered_above w h = rw (le-ltb w (2 ^ 63) h)

-- The number itself, below zero and above it, and of either sign.
pub word_below : (w : ℕ) → w < 2 ^ 63 → word_of (lowered_of w) ≡ w + 9223372036854775808
word_below w h = rw (lowered_below w h) (omega arith)

pub word_above : (w : ℕ) → 2 ^ 63 ≤ w → word_of (lowered_of w) ≡ w - 9223372036854775808
word_above w h = rw (lowered_above w h)

pub word_lowered : (w : ℕ) → w < 2 ^ 64 → word_of (lowered_of w) ≡ (w + 2 ^ 63) % 2 ^ 64
word_lowered w fits =
    elim (cases_lt w (2 ^ 63)) [
      | inl h ↦ rw (lowered_below w h) (omega arith)
      | inr h ↦ rw (lowered_above w h) (omega arith)
    ]

-- The mean.
pub mean_below : (w rounds word : ℕ) → w < 2 ^ 63 → word ≡ 2 ^ 64 - ((9223372036854775807 - w) / rounds + 1) →
    word_of (mean_of (lowered_of w) rounds) ≡ word
unfolding mean_of
mean_below w rounds word h e = rw (lowered_below w h) (same ((9223372036854775807 - w) / rounds) ∙ sym e)
  where
    same : (q : ℕ) → 2 ^ 64 - suc q ≡ 2 ^ 64 - (q + 1)
    same q = omega arith

pub mean_above : (w rounds : ℕ) → 2 ^ 63 ≤ w →
    word_of (mean_of (lowered_of w) rounds) ≡ (w - 9223372036854775808) / rounds
unfolding mean_of
mean_above w rounds h = rw (lowered_above w h)

-- What is left above it.
pub remainder_below : (w rounds : ℕ) → w < 2 ^ 63 →
    remainder_of (lowered_of w) rounds ≡ rounds - 1 - (9223372036854775807 - w) % rounds
unfolding remainder_of
remainder_below w rounds h = rw (lowered_below w h)

pub remainder_above : (w rounds : ℕ) → 2 ^ 63 ≤ w → remainder_of (lowered_of w) rounds ≡ (w - 9223372036854775808) % rounds
unfolding remainder_of
remainder_above w rounds h = rw (lowered_above w h)

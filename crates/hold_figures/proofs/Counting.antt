-- Counting a round in the crews' words is counting it among the lines: `tallied` of the words of some lines is the words of those
-- lines and one more, or the refusal of the total.
-- Assumes nothing.
use Rattle.std.proofs.Common.{Some, None, ◌≡◌, ℕ, ◌+◌, ◌*◌, ◌<◌, ◌≤◌, max, Bool, true, false, cond, List, [], ◌∷◌, ◌++◌, length, get_or, replicate, ℤ, ◌+ℤ◌, sym, refl, ap, ◌∙◌, subst, add-zero, zero-add, arith, length-append}
use lib.IntN.{+ℤ_idr}
use Rattle.refusals.specs.declared.Refusal.TheVariants as Refusals
use Rattle.lent.specs.Listed.{listed}
use Rattle.lent.specs.Rows.{words_in}
use Rattle.hold_lines.specs.Text.{Held, raised_of}
use Rattle.hold_figures.specs.Crews.{holds_of, total_of, largest_of, is_signed64}
use Rattle.hold_figures.specs.Words.{crew_words, figures_of, raised_sum, with_crew, Tally, Grown, Stopped, grown_by, tallied}
use Rattle.hold_figures.proofs.Raised.{raised_sum_law, raised_larger}
use Rattle.hold_figures.proofs.Tallying.{tallied_first, tallied_more}
use Rattle.hold_figures.proofs.Threes.{three_read, three_put}
use Rattle.hold_figures.proofs.Holds.{Sound, holds_own, holds_other, holds_few, total_more, largest_more}

-- Without a line every word is zero.
pub figures_none : figures_of [] ≡ replicate 192 0
unfolding figures_of words_in listed crew_words holds_of
figures_none = refl

length_crew : (zs : List ℤ) → length (crew_words zs) ≡ 3
unfolding crew_words
length_crew [] = refl
length_crew (z ∷ zs) = refl

-- Word k of a crew with these holds, and its first.
pub figures_read : (hs : List Held) (crew k : ℕ) (zs : List ℤ) → holds_of crew hs ≡ zs → crew ≤ 63 → k < 3 →
    get_or (figures_of hs) (3 * crew + k) 0 ≡ get_or (crew_words zs) k 0
unfolding figures_of
figures_read hs crew k zs e h l =
    three_read (λ c. crew_words (holds_of c hs)) (λ c. length_crew (holds_of c hs)) 64 0 crew k (omega arith) l ∙
    ap (λ (c : ℕ). get_or (crew_words (holds_of c hs)) k 0) (zero-add crew) ∙ ap (λ (ys : List ℤ). get_or (crew_words ys) k 0) e

pub figures_rounds : (hs : List Held) (crew : ℕ) (zs : List ℤ) → holds_of crew hs ≡ zs → crew ≤ 63 →
    get_or (figures_of hs) (3 * crew) 0 ≡ length zs
unfolding crew_words
figures_rounds hs crew zs e h =
    ap (λ (k : ℕ). get_or (figures_of hs) k 0) (sym (add-zero (3 * crew))) ∙ figures_read hs crew 0 zs e h (omega arith) ∙ count zs
  where
    count : (zs : List ℤ) → get_or (crew_words zs) 0 0 ≡ length zs
    count [] = refl
    count (z ∷ zs) = refl

-- The words of a line more are those of its crew anew.
figures_put : (hs : List Held) (h : Held) (rounds total largest : ℕ) → h.crew ≤ 63 →
    crew_words (holds_of h.crew hs ++ (h.hold ∷ [])) ≡ rounds ∷ (total ∷ (largest ∷ [])) →
    with_crew (figures_of hs) h.crew rounds total largest ≡ figures_of (hs ++ (h ∷ []))
unfolding figures_of
figures_put hs h rounds total largest low own =
    three_put (λ c. crew_words (holds_of c hs)) (λ c. crew_words (holds_of c (hs ++ (h ∷ [])))) (λ c. length_crew (holds_of c hs))
    64 0 h.crew rounds total largest (omega arith)
    (λ c other. ap crew_words (sym (holds_other hs h c (λ e. other (e ∙ sym (zero-add h.crew))))))
    (ap (λ (c : ℕ). crew_words (holds_of c (hs ++ (h ∷ [])))) (zero-add h.crew) ∙ ap crew_words (holds_own hs h) ∙ own)

module _ (hs : List Held) (h : Held) (low : h.crew ≤ 63) where
  abbrev words : List ℕ
  words = figures_of hs

  abbrev hold : ℕ
  hold = raised_of h.hold

  -- The words with the round counted, or the refusal of the total.
  abbrev counted : ℤ → Tally
  counted total = cond (is_signed64 total) (Grown (figures_of (hs ++ (h ∷ [])))) (Stopped Refusals.Overflow)

  -- A crew's first round.
  counted_first : is_signed64 h.hold ≡ true → holds_of h.crew hs ≡ [] →
      tallied words h.crew hold ≡ counted (total_of (h.hold ∷ []))
  unfolding crew_words total_of largest_of
  counted_first signed e =
      let own : crew_words (holds_of h.crew hs ++ (h.hold ∷ [])) ≡ 1 ∷ (hold ∷ (hold ∷ [])) =
      ap (λ (zs : List ℤ). crew_words (zs ++ (h.hold ∷ []))) e ∙
      ap (λ (z : ℤ). 1 ∷ (raised_of z ∷ (hold ∷ []))) (+ℤ_idr h.hold)
      in
      rw (+ℤ_idr h.hold, signed)
      (tallied_first words h.crew hold low (figures_rounds hs h.crew [] e low) ∙
      ap Grown (figures_put hs h 1 hold hold low own))

  -- The words of a crew that has rounds, with one more.
  words_more : (y : ℤ) (ys : List ℤ) → holds_of h.crew hs ≡ y ∷ ys →
      crew_words (holds_of h.crew hs ++ (h.hold ∷ [])) ≡
      (get_or words (3 * h.crew) 0 + 1) ∷
      (raised_of (total_of (y ∷ ys) +ℤ h.hold) ∷ (max (get_or words (3 * h.crew + 2) 0) hold ∷ []))
  unfolding crew_words
  words_more y ys e =
      let zs : List ℤ = y ∷ ys in
      let count : length (zs ++ (h.hold ∷ [])) ≡ get_or words (3 * h.crew) 0 + 1 =
      length-append zs (h.hold ∷ []) ∙ ap (λ (n : ℕ). n + 1) (sym (figures_rounds hs h.crew zs e low))
      in
      let largest : raised_of (largest_of y (ys ++ (h.hold ∷ []))) ≡ max (get_or words (3 * h.crew + 2) 0) hold =
      ap raised_of (largest_more y ys h.hold) ∙
      raised_larger (largest_of y ys) h.hold ∙
      ap (λ (w : ℕ). max w hold) (sym (figures_read hs h.crew 2 zs e low (omega arith)))
      in
      ap (λ (xs : List ℤ). crew_words (xs ++ (h.hold ∷ []))) e ∙
      (λ i. count i ∷ (raised_of (total_more zs h.hold i) ∷ (largest i ∷ [])))

  -- Where the total stays within 64 bits the words grow, and else it is refused.
  grown_more : (t : Bool) (y : ℤ) (ys : List ℤ) → holds_of h.crew hs ≡ y ∷ ys →
      grown_by words h.crew hold (cond t (Some (raised_of (total_of (y ∷ ys) +ℤ h.hold))) None) ≡
      cond t (Grown (figures_of (hs ++ (h ∷ [])))) (Stopped Refusals.Overflow)
  grown_more true y ys e =
      let count : ℕ = get_or words (3 * h.crew) 0 + 1 in
      ap Grown
      (figures_put hs h count (raised_of (total_of (y ∷ ys) +ℤ h.hold)) (max (get_or words (3 * h.crew + 2) 0) hold) low
      (words_more y ys e))
  grown_more false y ys e = refl

  counted_more : is_signed64 h.hold ≡ true → is_signed64 (total_of (holds_of h.crew hs)) ≡ true → length hs < 100_000 →
      (y : ℤ) (ys : List ℤ) → holds_of h.crew hs ≡ y ∷ ys →
      tallied words h.crew hold ≡ counted (total_of ((y ∷ ys) ++ (h.hold ∷ [])))
  unfolding crew_words
  counted_more signed fits few y ys e =
      let total : ℤ = total_of (y ∷ ys) in
      let count : get_or words (3 * h.crew) 0 ≡ length (y ∷ ys) =
      figures_rounds hs h.crew (y ∷ ys) e low
      in
      let within : length (y ∷ ys) ≤ length hs =
      subst (λ (zs : List ℤ). length zs ≤ length hs) e (holds_few h.crew hs)
      in
      let sum : raised_sum (get_or words (3 * h.crew + 1) 0) hold ≡
      cond (is_signed64 (total +ℤ h.hold)) (Some (raised_of (total +ℤ h.hold))) None =
      ap (λ (w : ℕ). raised_sum w hold) (figures_read hs h.crew 1 (y ∷ ys) e low (omega arith)) ∙
      raised_sum_law total h.hold (subst (λ (zs : List ℤ). is_signed64 (total_of zs) ≡ true) e fits) signed
      in
      tallied_more words h.crew hold low (λ z. omega arith) (omega arith) ∙
      ap (grown_by words h.crew hold) sum ∙
      grown_more (is_signed64 (total +ℤ h.hold)) y ys e ∙ ap counted (sym (total_more (y ∷ ys) h.hold))

-- A round counted in the words is the line counted (RULES 21.6, 21.7).
pub counted_round : (hs : List Held) (h : Held) → Sound hs → length hs < 100_000 → h.crew ≤ 63 →
    is_signed64 h.hold ≡ true →
    tallied (figures_of hs) h.crew (raised_of h.hold) ≡
    cond (is_signed64 (total_of (holds_of h.crew (hs ++ (h ∷ [])))))
    (Grown (figures_of (hs ++ (h ∷ []))))
    (Stopped Refusals.Overflow)
counted_round hs h sound few low signed = rw (holds_own hs h) (by (holds_of h.crew hs) refl)
  where
    by : (zs : List ℤ) → holds_of h.crew hs ≡ zs →
        tallied (figures_of hs) h.crew (raised_of h.hold) ≡
        cond (is_signed64 (total_of (zs ++ (h.hold ∷ [])))) (Grown (figures_of (hs ++ (h ∷ [])))) (Stopped Refusals.Overflow)
    by [] e = counted_first hs h low signed e
    by (y ∷ ys) e = counted_more hs h low signed (sound.totals h.crew) few y ys e

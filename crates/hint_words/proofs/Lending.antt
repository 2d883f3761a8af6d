-- Lent hints: what is known of those that are not refused, with which numbers others are, and how an answer is read back.
-- Assumes nothing.
use Prim.Native.Nat.{ℕ, ◌+◌, ◌-◌, ◌*◌, ◌≤◌, ◌<◌, min}
use mathlib.Core.Path.{◌≡◌, refl, ap, ◌∙◌}
use mathlib.Core.Logic.{◌⊎◌, inl, inr}
use mathlib.Core.Bool.{Bool, true, false, not, ◌&&◌, cond}
use mathlib.Core.List.{List, [], ◌∷◌, ◌++◌}
use native.Mathlib.Omega.{arith}
use borrow.Author.Tests.{leb-true, le-leb}
use lib.Dec.{leb}
use lib.Ieee
use lib.Ieee.{Float}
use lib.ListN.{length, get_or, take, drop, replicate, length-append, get_or-append}
use lib.Seq.{length-take-le, get_or-take}
use Rattle.std.specs.Prelude.{Result, Ok, Err}
use Rattle.refusals.specs.declared.Refusal.{Refusal}
use Rattle.refusals.specs.declared.Refusal.TheVariants as Refusals
use Rattle.lent.specs.Listed.{listed, every}
use Rattle.lent.proofs.Listed.{length_listed, listed_same, every_done, every_fails, every_passes}
use Rattle.floats.specs.Compare.{is_between}
use Rattle.floats.proofs.Tests.{passed, is_true}
use Rattle.floats.proofs.Preorder.{right_known}
use Rattle.times.specs.Time.{is_exact}
use Rattle.times.proofs.Exact.{both}
use Rattle.hint_list.specs.Words.{count_in, hint_in, hints_in, all_words}
use Rattle.hint_list.specs.declared.hint.RankedHint.{RankedHint}
use Rattle.hint_list.proofs.Reading.{few, counted, hint_there, no_hints}
use Rattle.hint_list.proofs.Words.{AllRankedKept, length_words, drop_zeros, hints_back, held_kept}
use Rattle.hint_ranking.specs.Ranked.{is_known, sorted}
use Rattle.hint_ranking.specs.Hints.{Of, Refused, Ranks, filled_by, ranked_words}
use Rattle.hint_words.specs.Lent.{is_finite, is_hint, are_shaped, lent_hints}

-- ---- The words.

-- The hints that stand in lent words, by the count in front of them.
abbrev pub hints_lent : List ℕ → List RankedHint
hints_lent words = listed (hint_in words) (get_or words 0 0) 0

-- They are as many as the count says,
pub lent_count : (words : List ℕ) → length (hints_lent words) ≡ get_or words 0 0
lent_count words = length_listed (hint_in words) (get_or words 0 0) 0

-- 64 at most, and all of their words are there.
pub shaped_few : (words : List ℕ) → are_shaped words ≡ true → get_or words 0 0 ≤ 64
unfolding are_shaped
shaped_few words e =
    let n = get_or words 0 0 in leb-true n 64 (both (leb n 64) (leb (1 + 6 * n) (length words)) e).0

pub shaped_reach : (words : List ℕ) → are_shaped words ≡ true → 1 + 6 * get_or words 0 0 ≤ length words
unfolding are_shaped
shaped_reach words e =
    let n = get_or words 0 0 in leb-true (1 + 6 * n) (length words) (both (leb n 64) (leb (1 + 6 * n) (length words)) e).1

-- A copy of those words, whatever stands behind them, holds the same hints.
module _ (words rest : List ℕ) (shaped : are_shaped words ≡ true) where
  abbrev copy : List ℕ
  copy = take (1 + 6 * get_or words 0 0) words ++ rest

  copied_word : (k : ℕ) → k < 1 + 6 * get_or words 0 0 → get_or copy k 0 ≡ get_or words k 0
  copied_word k there =
      let end = 1 + 6 * get_or words 0 0 in
      let all : length (take end words) ≡ end = length-take-le end words (shaped_reach words shaped) in
      get_or-append (take end words) rest 0 k (omega arith) ∙ get_or-take end words k 0 there

  copied_hint : (i : ℕ) → i < get_or words 0 0 → hint_in copy i ≡ hint_in words i
  unfolding hint_in
  copied_hint i there =
      rw (
        copied_word (6 * i + 1) (omega arith),
        copied_word (6 * i + 2) (omega arith),
        copied_word (6 * i + 3) (omega arith),
        copied_word (6 * i + 4) (omega arith),
        copied_word (6 * i + 5) (omega arith),
        copied_word (6 * i + 6) (omega arith),
      )

  pub copied_hints : hints_in copy ≡ hints_lent words
  unfolding hints_in count_in
  copied_hints =
      let n = get_or words 0 0 in
      let count : min 64 (get_or copy 0 0) ≡ n = omega (arith, copied_word 0 (omega arith), shaped_few words shaped) in
      ap (λ (m : ℕ). listed (hint_in copy) m 0) count ∙
      listed_same (hint_in copy) (hint_in words) n 0 (λ i lo hi. copied_hint i (omega arith))

-- Behind them in a list of 385 zeros stand these.
pub zeros_behind : (words : List ℕ) → are_shaped words ≡ true →
    drop {A = ℕ} (1 + 6 * get_or words 0 0) (replicate 385 0) ≡ replicate (384 - 6 * get_or words 0 0) 0
zeros_behind words shaped =
    let few = shaped_few words shaped in
    let rest : 385 - (1 + 6 * get_or words 0 0) ≡ 384 - 6 * get_or words 0 0 = omega arith in
    drop_zeros 385 (1 + 6 * get_or words 0 0) (omega arith) ∙ ap (λ (k : ℕ). replicate k 0) rest

-- What is handed back with a refusal, or with hints.
pub refused_filled : (why : Refusal) → filled_by (Refused why) ≡ Err why
unfolding filled_by
refused_filled why = refl

pub given_filled : (l : List RankedHint) → filled_by (Of l) ≡ Ok (length l)
unfolding filled_by
given_filled l = refl

-- What a test of every hint needs, and what the call that takes them over does.
pub ruleset testing = (hint_there, every_done, every_fails, every_passes)

pub ruleset lending = (counted, no_hints, lent_count, copied_hints, refused_filled, given_filled)

-- ---- What the tests tell.

between_known : (lo hi x : Float) → is_between lo hi x ≡ true → not (Ieee.is_nan x) ≡ true
unfolding is_between
between_known lo hi x e =
    is_true (not (Ieee.is_nan x)) (right_known lo x (passed (both (Ieee.le lo x) (Ieee.le x hi) e).0))

hint_known : (obstacles : ℕ) (h : RankedHint) → is_hint obstacles h ≡ true → is_known h ≡ true
unfolding is_hint is_finite
hint_known obstacles h e = between_known _ _ h.reach (both _ _ (both (is_exact h.contour.0) _ e).1).0

every_known : (obstacles : ℕ) (l : List RankedHint) → every (is_hint obstacles) l ≡ true → every is_known l ≡ true
unfolding every
every_known obstacles [] e = refl
every_known obstacles (h ∷ l) e =
    let parts = both (is_hint obstacles h) (every (is_hint obstacles) l) e in
    rw (hint_known obstacles h parts.0) (every_known obstacles l parts.1)

-- ---- The laws.

-- Hints that are lent and not refused: those that stand in the words, in their order, 64 at most, each in the table, no reach a
-- NaN, none before the one in front of it (RULES 11.9, 11.10).
pub record Taken (obstacles : ℕ) (words : List ℕ) (l : List RankedHint) : Type 0 where
  pub held : l ≡ hints_lent words
  pub few : length l ≤ 64
  pub in_table : every (is_hint obstacles) l ≡ true
  pub all_known : every is_known l ≡ true
  pub in_order : sorted l ≡ true

-- What is known of lent hints that are not refused.
pub lent_taken : (obstacles : ℕ) (words : List ℕ) (l : List RankedHint) →
    lent_hints obstacles words ≡ Of l → Taken obstacles words l
unfolding lent_hints
lent_taken obstacles words l e = by (are_shaped words) (every (is_hint obstacles) given && sorted given) refl refl e
  where
    given : List RankedHint
    given = hints_lent words

    by : (shaped tested : Bool) → are_shaped words ≡ shaped → (every (is_hint obstacles) given && sorted given) ≡ tested →
        cond shaped (cond tested (Of given) (Refused Refusals.Number)) (Refused Refusals.Shape) ≡ Of l → Taken obstacles words l
    by true true s t e =
        let same : l ≡ given = cc in
        let tests = both (every (is_hint obstacles) given) (sorted given) t in
        record {
          held = same;
          few = omega (arith, ap length same, lent_count words, shaped_few words s);
          in_table = rw same tests.0;
          all_known = rw same (every_known obstacles given tests.0);
          in_order = rw same tests.1;
        }
    by true false s t e = absurd (cc)
    by false tested s t e = absurd (cc)

-- They are refused 2 for their count, 1 for what is asked of them, and with no other number (RULES 11.9, 11.10).
pub lent_refusal : (obstacles : ℕ) (words : List ℕ) (why : Refusal) → lent_hints obstacles words ≡ Refused why →
    (why ≡ Refusals.Number) ⊎ (why ≡ Refusals.Shape)
unfolding lent_hints
lent_refusal obstacles words why e =
    by (are_shaped words) (every (is_hint obstacles) given && sorted given) e
  where
    given : List RankedHint
    given = hints_lent words

    by : (shaped tested : Bool) → cond shaped (cond tested (Of given) (Refused Refusals.Number)) (Refused Refusals.Shape) ≡ Refused why →
        (why ≡ Refusals.Number) ⊎ (why ≡ Refusals.Shape)
    by true true e = cc
    by true false e = inl (cc)
    by false tested e = inr (cc)

-- Hints in the table, 64 at most and ranked, are taken from the words of an answer as they are, whatever stands behind
-- (RULES 11.8 to 11.10).
pub lent_again : (obstacles : ℕ) (l : List RankedHint) (rest : List ℕ) →
    length l ≤ 64 → AllRankedKept l → every (is_hint obstacles) l ≡ true → sorted l ≡ true →
    lent_hints obstacles (length l ∷ (all_words l ++ rest)) ≡ Of l
unfolding lent_hints are_shaped
lent_again obstacles l rest few kept hints order =
    let words = length l ∷ (all_words l ++ rest) in
    let inside : 1 + 6 * length l ≤ length words = omega (arith, length-append (all_words l) rest, length_words l) in
    let same : hints_lent words ≡ l = hints_back words (length l ∷ []) l rest 0 refl refl kept in
    rw (le-leb (length l) 64 few, le-leb (1 + 6 * length l) (length words) inside, same, hints, order)

-- So hints that were handed out, and are in the table and ranked, are taken as they were.
pub handed_again : (obstacles : ℕ) (l : List RankedHint) (words : List ℕ) (r : Result ℕ Refusal) →
    Ranks (Of l) words r → every (is_hint obstacles) l ≡ true → sorted l ≡ true → lent_hints obstacles words ≡ Of l
unfolding ranked_words
handed_again obstacles l words r handed hints order =
    let room : length l ≤ 64 = omega (arith, ap length handed.held, counted words, few words) in
    rw handed.words
    (lent_again obstacles l (replicate (384 - 6 * length l) 0) room (rw handed.held at (held_kept words)) hints order)

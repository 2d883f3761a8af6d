-- The hints of a list, measured one by one and ranked in their place: those that were put so far stand in front, and the others are
-- as they were found (RULES 11.5 to 11.7).
-- Assumes nothing.
use Prim.Native.Nat.{ℕ, ◌+◌, ◌<◌}
use mathlib.Core.Path.{◌≡◌, refl, sym, ap, ◌∙◌}
use mathlib.Core.Logic.{inr}
use mathlib.Core.List.{List, [], ◌∷◌}
use native.Mathlib.Omega.{arith}
use lib.ListN.{length, drop, get_or, length-map, drop_of_length-le, get_or-map}
use Rattle.std.proofs.lemmas.List.{drop_more}
use Rattle.std.specs.Prelude.{Result, Ok}
use Rattle.refusals.specs.declared.Refusal.{Refusal}
use Rattle.refusals.specs.declared.Refusal.TheVariants as Refusals
use Rattle.times.specs.Time.{strayed}
use Rattle.hint_list.specs.Words.{blank_hint, blank_ranked, count_in, hint_in, hints_in, laid}
use Rattle.hint_list.specs.declared.hint.WaitHint.{WaitHint}
use Rattle.hint_list.specs.declared.hint.RankedHint.{RankedHint}
use Rattle.hint_list.proofs.Reading.{counted, hint_there}
use Rattle.hint_list.proofs.Words.{KeptRanked, AllRankedKept, laid_count, laid_apart, laid_held}
use Rattle.hint_ranking.specs.Ranked.{inserted}
use Rattle.hint_ranking.specs.Hints.{Of, Refused, Ranks, filled_by, ranked_words, ranked_into}
use Rattle.hint_ranking.proofs.OneByOne.{length_inserted, inserted_kept, ranked_into_law}
use Rattle.hints.specs.Contour.{grade_of, graded_onto}
use Rattle.hints.specs.Ranking.{found_in, ranked_over, RanksOver}
use Rattle.hints.specs.declared.contour.Scale.{Scale}

-- The first i hints of `words` are measured, and stand ranked in `now`.
pub record SoFar (scale : Scale) (words now : List ℕ) (i : ℕ) : Type 0 where
  pub done : List RankedHint
  pub size : length done ≡ i
  pub kept : AllRankedKept done
  pub in_front_law : now ≡ laid words 0 done
  -- With those that are left, they come to all.
  pub onward : graded_onto scale done (drop i (found_in words)) ≡ graded_onto scale [] (found_in words)

pub none_yet : (scale : Scale) (words : List ℕ) → SoFar scale words words 0
unfolding laid
none_yet scale words = record { done = []; size = refl; kept = tt; in_front_law = refl; onward = refl }

-- The hints that are left: the one at place i and the others.
from : (words : List ℕ) (i : ℕ) → i < count_in words → drop i (found_in words) ≡ (hint_in words i).hint ∷ drop (i + 1) (found_in words)
unfolding found_in
from words i there =
    let hint : RankedHint → WaitHint = λ r. r.hint in
    let many : i < length (found_in words) = omega (arith, length-map (hints_in words) hint, counted words) in
    let here : get_or (found_in words) i blank_hint ≡ (hint_in words i).hint =
    get_or-map hint (hints_in words) i blank_ranked ∙ ap hint (hint_there words i there) in
    drop_more (found_in words) i blank_hint many ∙ ap (λ (h : WaitHint). h ∷ drop (i + 1) (found_in words)) here

module _ (scale : Scale) (words now : List ℕ) (i : ℕ) (s : SoFar scale words now i) where
  count : count_in now ≡ count_in words
  count = ap count_in s.in_front_law ∙ laid_count words 0 s.done

  -- The hint at place i is read as it was found,
  pub found_next : i < count_in words → get_or (hints_in now) i blank_ranked ≡ hint_in words i
  found_next there =
      hint_there now i (omega (arith, count)) ∙ ap (λ (m : List ℕ). hint_in m i) s.in_front_law ∙
      laid_apart words 0 s.done i (inr (omega (arith, s.size)))

  -- and is put at its place (RULES 11.5, 11.6);
  pub one_more : (r : RankedHint) → length words ≡ 385 → i < count_in words → grade_of scale (hint_in words i).hint ≡ Ok r →
      KeptRanked r → SoFar scale words (ranked_into now i r) (i + 1)
  unfolding graded_onto
  one_more r long there e k =
      record {
        done = inserted r s.done;
        size = length_inserted r s.done ∙ ap (λ (n : ℕ). n + 1) s.size;
        kept = inserted_kept r s.done k s.kept;
        in_front_law =
            ap (λ (m : List ℕ). ranked_into m i r) s.in_front_law ∙ ranked_into_law words s.done i r long s.size there s.kept;
        onward = rw (from words i there, e) at s.onward;
      }

  -- where it strays, all are refused 7 (RULES 4.7, 11.3, 11.4).
  pub one_strays : i < count_in words → grade_of scale (hint_in words i).hint ≡ strayed →
      graded_onto scale [] (found_in words) ≡ Refused Refusals.Strayed
  unfolding graded_onto
  one_strays there e = sym (rw (from words i there, e) at s.onward)

  -- In the end they are the answer.
  pub all_ranked : length words ≡ 385 → count_in words ≡ i → RanksOver (graded_onto scale [] (found_in words)) words now (Ok i)
  unfolding graded_onto filled_by ranked_over found_in
  all_ranked long end =
      let none : drop i (found_in words) ≡ [] =
      drop_of_length-le (found_in words) {i = i} (omega (arith, length-map (hints_in words) (λ r. r.hint), counted words)) in
      let answer : graded_onto scale [] (found_in words) ≡ Of s.done = sym (rw none at s.onward) in
      let read = laid_held words s.done long (end ∙ sym s.size) s.kept in
      rw answer (record { filled = ap Ok (sym s.size); words = s.in_front_law; held = ap hints_in s.in_front_law ∙ read })

-- ---- A refusal.

-- Zeros are left, whatever was there.
pub refused_over : (why : Refusal) (lent left : List ℕ) (r : Result ℕ Refusal) →
    Ranks (Refused why) left r → RanksOver (Refused why) lent left r
unfolding ranked_words ranked_over
refused_over why lent left r ranks = record { filled = ranks.filled; words = ranks.words; held = ranks.held }

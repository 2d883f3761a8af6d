-- Hints that are measured and put at their places in turn: one of them strays, or all are measured (RULES 11.2 to 11.5).
-- Assumes nothing.
use mathlib.Core.Path.{◌≡◌, refl}
use mathlib.Core.Logic.{◌⊎◌, inl, inr}
use mathlib.Core.Bool.{true}
use mathlib.Core.List.{List, [], ◌∷◌, map, Memᴰ}
use Rattle.std.specs.Prelude.{Result, Ok, Err}
use Rattle.refusals.specs.declared.Refusal.TheVariants as Refusals
use Rattle.lent.specs.Listed.{every}
use Rattle.times.specs.Time.{strayed}
use Rattle.times.specs.declared.time.Strayed.{Strayed}
use Rattle.times.proofs.Exact.{both}
use Rattle.domain.specs.Domain.{is_leg}
use Rattle.shapes.specs.declared.waypoint.Leg.{Leg}
use Rattle.hint_list.specs.declared.hint.WaitHint.{WaitHint}
use Rattle.hint_list.proofs.Sound.{has_place}
use Rattle.hint_list.specs.declared.hint.RankedHint.{RankedHint}
use Rattle.hint_ranking.specs.Ranked.{is_known, inserted, ranked_onto}
use Rattle.hint_ranking.specs.Hints as R
use Rattle.hints.specs.Contour.{scale_of, grade_of, graded_onto}
use Rattle.hints.specs.declared.contour.Scale.{Scale}
use Rattle.hints.proofs.Reaches.{Measured, grade_measured}

-- `l` has each hint of `found`, in the order of finding, with its contour and its reach, no NaN (RULES 11.2 to 11.5, 11.8).
pub record InTurn (scale : Scale) (found : List WaitHint) (l : List RankedHint) : Type 0 where
  pub as_graded : map (grade_of scale) found ≡ map Ok l
  pub as_found : map (λ r. r.hint) l ≡ found
  pub known : every is_known l ≡ true

-- The wait or the contour of one of them is out of reach (RULES 4.7, 11.3, 11.4).
pub record Strays (scale : Scale) (found : List WaitHint) : Type 0 where
  pub hint : WaitHint
  pub among : Memᴰ hint found
  pub strays : grade_of scale hint ≡ strayed

-- All are measured, and each is put at its place among those that are ranked already.
pub record Graded (scale : Scale) (done : List RankedHint) (found : List WaitHint) : Type 0 where
  pub measured : List RankedHint
  pub in_turn : InTurn scale found measured
  pub onto : graded_onto scale done found ≡ R.Of (ranked_onto done measured)

-- The one, and refused 7, or the other.
abbrev pub Grading : Scale → List RankedHint → List WaitHint → Type 0
Grading scale done found = (Strays scale found × (graded_onto scale done found ≡ R.Refused Refusals.Strayed)) ⊎ Graded scale done found

-- One that is measured, and then the others.
one_more : (scale : Scale) (done : List RankedHint) (h : WaitHint) (hs : List WaitHint) (r : RankedHint) →
    grade_of scale h ≡ Ok r → Measured h r → Grading scale (inserted r done) hs → Grading scale done (h ∷ hs)
unfolding graded_onto ranked_onto every
one_more scale done h hs r e m (inl (s, refused)) =
    inl (record { hint = s.hint; among = Memᴰ.tail s.among; strays = s.strays }, rw e refused)
one_more scale done h hs r e m (inr g) =
    let others = g.in_turn in
    inr (record {
      measured = r ∷ g.measured;
      in_turn = record {
        as_graded = λ i. e i ∷ others.as_graded i;
        as_found = λ i. m.same_hint i ∷ others.as_found i;
        known = rw m.reach_known others.known;
      };
      onto = rw e g.onto;
    })

-- By the scale of a leg of the table, hints at places that they may have.
module _ (leg : Leg) (scale : Scale) (legal : is_leg leg ≡ true) (line : scale_of leg ≡ Ok scale) where
  pub graded : (done : List RankedHint) (found : List WaitHint) → every has_place found ≡ true → Grading scale done found
  unfolding graded_onto ranked_onto every
  graded done [] e =
      inr (record { measured = []; in_turn = record { as_graded = refl; as_found = refl; known = refl }; onto = refl })
  graded done (h ∷ hs) e =
      let here = both (has_place h) (every has_place hs) e in by (grade_of scale h) refl here.0 (λ next. graded next hs here.1)
    where
      by : (grade : Result RankedHint Strayed) → grade_of scale h ≡ grade → has_place h ≡ true →
          ((next : List RankedHint) → Grading scale next hs) → Grading scale done (h ∷ hs)
      by (Ok r) q placed rest = one_more scale done h hs r q (grade_measured leg h legal line placed q) (rest (inserted r done))
      by (Err _) q placed rest = inl (record { hint = h; among = Memᴰ.head refl; strays = q }, rw q)

-- What the call for hints answers: a refusal by 4, 7 or 10, or the one ranking of all hints found (RULES sections 10 and 11).
-- Assumes nothing.
use Prim.Native.Nat.{◌≤◌}
use mathlib.Core.Path.{◌≡◌, refl, sym, ap, subst, ◌∙◌}
use mathlib.Core.Logic.{◌⊎◌, inl, inr}
use mathlib.Core.Bool.{true, false}
use mathlib.Core.List.{List, []}
use native.Mathlib.Omega.{arith}
use lib.ListN.{length, length-map}
use Rattle.std.specs.Prelude.{Result, Ok, Err}
use Rattle.refusals.specs.declared.Refusal.{Refusal as Why}
use Rattle.refusals.specs.declared.Refusal.TheVariants as Refusals
use Rattle.shapes.specs.Box.{box_of_leg}
use Rattle.shapes.specs.Leg.{is_rising, is_brief}
use Rattle.shapes.specs.declared.bounding_box.BoundingBox.{BoundingBox}
use Rattle.shapes.specs.declared.profile.CircularProfile.{CircularProfile}
use Rattle.shapes.specs.declared.waypoint.Leg.{Leg}
use Rattle.table.specs.Obstacle.{Obstacle}
use Rattle.table.specs.Lent.{Lent, obstacles_of}
use Rattle.table.specs.Examined.{agent_examined}
use Rattle.table.proofs.Accepted.{Accepted, accepted}
use Rattle.hint_list.specs.Hints as W
use Rattle.hint_list.specs.Hints.{Hints}
use Rattle.hint_list.specs.declared.hint.WaitHint.{WaitHint}
use Rattle.hint_list.specs.declared.hint.RankedHint.{RankedHint}
use Rattle.hint_list.proofs.Sound.{Sound}
use Rattle.hint_ranking.specs.Ranked.{ranked, Ranking}
use Rattle.hint_ranking.specs.Hints.{Ranked, Of, Refused, ranked_in}
use Rattle.hint_ranking.proofs.Theorems.{ranked_ranking, only_ranked}
use Rattle.hint_walk.specs.Walk.{hints_of}
use Rattle.hint_walk.proofs.Sound.{hints_sound, lasting_rises}
use Rattle.hints.specs.Contour.{scale_of, measured_by, ranked_hints}
use Rattle.hints.specs.Asked.{asked_hints}
use Rattle.hints.specs.declared.contour.Scale.{Scale}
use Rattle.hints.proofs.Reaches.{Scaled, scale_given}
use Rattle.hints.proofs.Graded.{InTurn, Strays, Graded, Grading, graded}

-- ---- What is said of an answer.

-- Why it is refused: the search was, the agent's leg is no line, or a hint strayed (RULES 4.4, 4.7, 5.7).
pub data Ground (agent : Leg) (found : Hints) (why : Why) : Type 0 where
  Search : found ≡ W.Refused why → Ground agent found why
  NoLine : (hs : List WaitHint) → found ≡ W.Of hs → scale_of agent ≡ Err why → Ground agent found why
  Strayed : (hs : List WaitHint) → found ≡ W.Of hs → (scale : Scale) → scale_of agent ≡ Ok scale → Strays scale hs →
      why ≡ Refusals.Strayed → Ground agent found why

-- By 4, 7 or 10, and by that alone (RULES 4.4, 4.7, 4.10, 4.14).
pub record Refusal (agent : Leg) (found : Hints) (given : Ranked) : Type 0 where
  pub why : Why
  pub ground : Ground agent found why
  pub told : (why ≡ Refusals.NoLine) ⊎ ((why ≡ Refusals.Strayed) ⊎ (why ≡ Refusals.Full))
  pub alone : given ≡ Refused why

-- All hints that were found, at most 64, measured along the agent's leg and ranked.
pub record Answer (agent : Leg) (found : Hints) (given : Ranked) : Type 0 where
  -- The search was not refused, and the agent's leg is a line (RULES 11.1).
  pub hints : List WaitHint
  pub searched : found ≡ W.Of hints
  pub scale : Scale
  pub line : scale_of agent ≡ Ok scale
  -- A ranked hint for each hint found, in the order of finding (RULES 10.41, 11.5).
  pub measured : List RankedHint
  pub in_turn : InTurn scale hints measured
  pub few : length measured ≤ 64
  -- The answer is all of them, in order, and where they are level as they were found (RULES 11.6, 11.7).
  pub as_ranked : given ≡ Of (ranked measured)
  pub ranking : Ranking (ranked_in given) measured
  -- No other list is such a ranking (RULES 18.2).
  pub only : (m : List RankedHint) → Ranking m measured → m ≡ ranked_in given

-- ---- Found, measured, ranked.

answer : (agent : Leg) (found : Hints) (hs : List WaitHint) (scale : Scale) (given : Ranked) →
    found ≡ W.Of hs → length hs ≤ 64 → scale_of agent ≡ Ok scale →
    (g : Graded scale [] hs) → given ≡ Of (ranked g.measured) → Answer agent found given
answer agent found hs scale given searched few line g same =
    let l = g.measured in
    let count : length l ≡ length hs = sym (length-map l (λ r. r.hint)) ∙ ap length g.in_turn.as_found in
    let these : ranked_in given ≡ ranked l = ap ranked_in same in
    record {
      hints = hs;
      searched = searched;
      scale = scale;
      line = line;
      measured = l;
      in_turn = g.in_turn;
      few = omega arith;
      as_ranked = same;
      ranking = subst (λ (m : List RankedHint). Ranking m l) (sym these) (ranked_ranking l g.in_turn.known);
      only = λ m r. only_ranked l m g.in_turn.known r ∙ sym these;
    }

-- Of a leg that ends after it starts, in any box, among obstacles of the table (RULES 10.1, 11.1).
pub hints_answered : (p : CircularProfile) (leg : Leg) (bounds : BoundingBox) (obstacles : List Obstacle) →
    Accepted p leg obstacles → is_rising leg ≡ true →
    let found = hints_of p leg bounds obstacles in
    let given = ranked_hints p leg bounds obstacles in
    Refusal leg found given ⊎ Answer leg found given
unfolding ranked_hints measured_by
hints_answered p leg bounds obstacles a rising =
    search found refl (hints_sound p leg bounds obstacles a.profile a.own rising a.others)
  where
    found : Hints
    found = hints_of p leg bounds obstacles

    given : Ranked
    given = ranked_hints p leg bounds obstacles

    by_grades : (hs : List WaitHint) (scale : Scale) → found ≡ W.Of hs → length hs ≤ 64 → scale_of leg ≡ Ok scale →
        Grading scale [] hs → Refusal leg found given ⊎ Answer leg found given
    by_grades hs scale e few line (inl (strays, refused)) =
        inl (record {
          why = Refusals.Strayed;
          ground = Strayed hs e scale line strays refl;
          told = inr (inl refl);
          alone = rw (e, line) refused;
        })
    by_grades hs scale e few line (inr g) = inr (answer leg found hs scale given e few line g (rw (e, line) g.onto))

    by_scale : (hs : List WaitHint) (scaling : Result Scale Why) → found ≡ W.Of hs → Sound 0 (W.Of hs) → scale_of leg ≡ scaling →
        Scaled scaling → Refusal leg found given ⊎ Answer leg found given
    by_scale hs (Ok scale) e s line v =
        by_grades hs scale e (omega arith) line (graded leg scale a.own line [] hs s.1)
    by_scale hs (Err why) e s line four =
        inl (record { why = why; ground = NoLine hs e line; told = inl four; alone = rw (e, line) })

    search : (hints : Hints) → found ≡ hints → Sound 0 hints → Refusal leg found given ⊎ Answer leg found given
    search (W.Of hs) e s = by_scale hs (scale_of leg) e s refl (scale_given leg a.own)
    search (W.Refused why) e told = inl (record { why = why; ground = Search e; told = told; alone = rw e })

-- ---- The call.

-- An input that is refused is refused by its own fault (RULES 5.1),
pub asked_refused : (p : CircularProfile) (agent : Leg) (lent : Lent) (why : Why) →
    agent_examined p agent lent ≡ Err why → asked_hints p agent lent ≡ Refused why
unfolding asked_hints
asked_refused p agent lent why e = rw e

-- one of less than 10 ns by 4 (RULES 4.13),
pub asked_short : (p : CircularProfile) (agent : Leg) (lent : Lent) →
    agent_examined p agent lent ≡ (Ok tt) → is_brief agent ≡ true → asked_hints p agent lent ≡ Refused Refusals.NoLine
unfolding asked_hints
asked_short p agent lent fine e = rw (fine, e)

-- and any other is refused 4, 7 or 10 or answered by the one ranking of the hints found (RULES 5.7, 10.4).
pub asked_answered : (p : CircularProfile) (agent : Leg) (lent : Lent) →
    agent_examined p agent lent ≡ (Ok tt) → is_brief agent ≡ false →
    let found = hints_of p agent (box_of_leg p.footprint agent) (obstacles_of lent) in
    let given = asked_hints p agent lent in
    Refusal agent found given ⊎ Answer agent found given
unfolding asked_hints
asked_answered p agent lent fine e =
    let a = accepted p agent lent fine in
    rw (fine, e) (hints_answered p agent (box_of_leg p.footprint agent) (obstacles_of lent) a (lasting_rises agent a.own e))

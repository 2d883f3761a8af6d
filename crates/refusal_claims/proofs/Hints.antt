-- Hints alone are refused by 1, 2, 3, 4, 7 or 10 (RULES 4.13, 5.1 to 5.7).
-- Assumes nothing.
use mathlib.Core.Path.{◌≡◌, refl}
use mathlib.Core.Logic.{◌⊎◌, inl, inr, ⊎_elim}
use mathlib.Core.Bool.{Bool, true, false, true≢false}
use Rattle.shapes.specs.Leg.{is_brief}
use Rattle.shapes.specs.declared.profile.CircularProfile.{CircularProfile}
use Rattle.shapes.specs.declared.waypoint.Leg.{Leg}
use Rattle.table.specs.Examined.{agent_examined}
use Rattle.table.specs.Lent.{Lent}
use Rattle.hint_ranking.specs.Hints.{Refused}
use Rattle.hints.specs.Asked.{asked_hints}
use Rattle.hints.proofs.Answered.{asked_refused, asked_short, asked_answered}
use Rattle.refusal_claims.specs.Numbers.{HintsRefusal, Number, Shape, Backward, NoLine, Strayed, Full}
use Rattle.refusal_claims.proofs.Examined.{Finds, agent_finds}
use Rattle.std.specs.Prelude.{Result, Ok, Err}
use Rattle.refusals.specs.declared.Refusal.{Refusal}
use Rattle.refusals.specs.declared.Refusal.TheVariants as Refusals

by_number : {why : Refusal} → (why ≡ Refusals.NoLine) ⊎ ((why ≡ Refusals.Strayed) ⊎ (why ≡ Refusals.Full)) → HintsRefusal why
by_number (inl four) = rw four NoLine
by_number (inr (inl seven)) = rw seven Strayed
by_number (inr (inr ten)) = rw ten Full

pub hints_refused : (p : CircularProfile) (agent : Leg) (lent : Lent) {why : Refusal} →
    asked_hints p agent lent ≡ Refused why → HintsRefusal why
hints_refused p agent lent {why} refused =
    by (agent_examined p agent lent) refl (agent_finds HintsRefusal Number Shape Backward p agent lent)
  where
    told : {own : Refusal} → asked_hints p agent lent ≡ Refused own → HintsRefusal own → HintsRefusal why
    told {own} e h = let same : own ≡ why = cc (e, refused) in rw same at h

    lasting : (brief : Bool) → is_brief agent ≡ brief → agent_examined p agent lent ≡ (Ok tt) → HintsRefusal why
    lasting true b e = told (asked_short p agent lent e b) NoLine
    lasting false b e =
        ⊎_elim (λ r. told r.alone (by_number r.told)) (λ a. absurd (true≢false (cc (a.as_ranked, refused))))
        (asked_answered p agent lent e b)

    by : (x : Result Unit Refusal) → agent_examined p agent lent ≡ x → Finds HintsRefusal x → HintsRefusal why
    by (Ok tt) e h = lasting (is_brief agent) refl e
    by (Err own) e h = told (asked_refused p agent lent own e) h

-- No second answer and no second room meet the promise of building (RULES 4.14, 13.23).
-- Assumes nothing.
use Prim.Native.Nat.{ℕ}
use mathlib.Core.Path.{◌≡◌, refl, sym, ◌∙◌}
use mathlib.Core.List.{List}
use Rattle.path_actions.specs.Built.{Built, Of, Refused}
use Rattle.path_actions.specs.Laid.{PutActions}
use Rattle.std.specs.Prelude.{Result, Ok, Err}
use Rattle.refusals.specs.declared.Refusal.{Refusal}
use Rattle.times.specs.declared.time.Duration.{Duration}

pub only_put : (answer : Built) {lent left left' : List ℕ} {row : ℕ} {r r' : Result Duration Refusal} →
    PutActions answer lent left row r → PutActions answer lent left' row r' → (r ≡ r') × (left ≡ left')
only_put (Of actions hold) p q = (p.hold ∙ sym q.hold, p.rows actions hold refl ∙ sym (q.rows actions hold refl))
only_put (Refused n) p q = (p.hold ∙ sym q.hold, p.refused n refl ∙ sym (q.refused n refl))

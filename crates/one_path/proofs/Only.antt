-- No second answer and no second room meet the promise of the search for one path (RULES 4.14, 13.5 to 13.26).
-- Assumes nothing.
use Prim.Native.Nat.{ℕ}
use mathlib.Core.Path.{◌≡◌, refl, sym, ◌∙◌}
use mathlib.Core.List.{List}
use Rattle.one_path.specs.Path.{Sought, Path, Missing, Refused}
use Rattle.one_path.specs.Laid.{PutPath}
use Rattle.one_path.specs.declared.arrival_path.Found.{Found}
use Rattle.std.specs.Prelude.{Result}
use Rattle.refusals.specs.declared.Refusal.{Refusal}

pub only_path : (answer : Sought) {lent left left' : List ℕ} {row : ℕ} {r r' : Result Found Refusal} →
    PutPath answer lent left row r → PutPath answer lent left' row r' → (r ≡ r') × (left ≡ left')
only_path (Path actions pops hold) p q =
    (p.found ∙ sym q.found, p.rows actions pops hold refl ∙ sym (q.rows actions pops hold refl))
only_path (Missing pops) p q = (p.found ∙ sym q.found, p.none pops refl ∙ sym (q.none pops refl))
only_path (Refused n) p q = (p.found ∙ sym q.found, p.refused n refl ∙ sym (q.refused n refl))

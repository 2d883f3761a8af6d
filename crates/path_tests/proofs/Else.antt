-- What is known where a test is not passed: it is failed or refused, and nothing follows it.
-- Assumes nothing.
use mathlib.Core.Path.{◌≡◌, refl}
use Rattle.std.specs.Prelude.{Result, Ok, Err}
use Rattle.refusals.specs.declared.Refusal.{Refusal}
use Rattle.path_search.specs.declared.trial.Trial.{Trial}
use Rattle.path_search.specs.declared.trial.Trial.TheVariants.{Passed, Failed}
use Rattle.path_tests.specs.Way.{next}

pub not_passed : (t : Result Trial Refusal) {test : Result Trial Refusal} (go : Unit {0} → Result Trial Refusal) →
    (t ≡ Ok Passed → ⊥) → t ≡ test → t ≡ next test go
not_passed (Ok Passed) go other e = absurd (other refl)
not_passed (Ok Failed) go other e = rw (← e)
not_passed (Err why) go other e = rw (← e)

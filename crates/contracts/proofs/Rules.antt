-- The rules by which two answers that meet one contract are found to be the same, one equation each.
-- Assumes nothing.
use Prim.Native.Nat.{ℕ}
use mathlib.Core.Path.{◌≡◌}
use mathlib.Core.List.{List}
use Rattle.settling.proofs.Facts.{one_equation}
use Rattle.path_actions.specs.Built.{Built}
use Rattle.path_actions.specs.Laid as A
use Rattle.path_actions.proofs.Only.{only_put}
use Rattle.one_path.specs.Path.{Sought}
use Rattle.one_path.specs.Laid.{PutPath}
use Rattle.one_path.specs.declared.arrival_path.Found.{Found}
use Rattle.one_path.proofs.Only.{only_path}
use Rattle.std.specs.Prelude.{Result, Ok, Err}
use Rattle.refusals.specs.declared.Refusal.{Refusal}
use Rattle.times.specs.declared.time.Duration.{Duration}

-- The actions of a path that is built, and the room with them.
pub put_number : {answer : Built} {lent left left' : List ℕ} {row : ℕ} {r r' : Result Duration Refusal} →
    A.PutActions answer lent left row r → A.PutActions answer lent left' row r' → r ≡ r'
put_number {answer} p q = (only_put answer p q).0

pub put_room : {answer : Built} {lent left left' : List ℕ} {row : ℕ} {r r' : Result Duration Refusal} →
    A.PutActions answer lent left row r → A.PutActions answer lent left' row r' → left ≡ left'
put_room {answer} p q = (only_put answer p q).1

-- The same of a path that is sought.
pub path_number : {answer : Sought} {lent left left' : List ℕ} {row : ℕ} {r r' : Result Found Refusal} →
    PutPath answer lent left row r → PutPath answer lent left' row r' → r ≡ r'
path_number {answer} p q = (only_path answer p q).0

pub path_room : {answer : Sought} {lent left left' : List ℕ} {row : ℕ} {r r' : Result Found Refusal} →
    PutPath answer lent left row r → PutPath answer lent left' row r' → left ≡ left'
path_room {answer} p q = (only_path answer p q).1

-- Whatever else a clause states is an equation or a record, whose fields are equations.
pub ruleset one_answer = (one_equation, put_number, put_room, path_number, path_room)

-- The refusals by their numbers, as the rules write them (RULES, section 4). No two have one number: so a law that names a refusal
-- says its number, and a law that says a number names the refusal.
-- Assumes nothing.
use Prim.Native.Nat.{ℕ}
use mathlib.Core.Path.{◌≡◌, refl, sym, ap, ◌∙◌}
use Rattle.std.specs.Prelude.{Option, Some, None, List, [], ◌∷◌, get_or}
use Rattle.refusals.specs.Names.{refusal_number}
use Rattle.refusals.specs.declared.Refusal.{Refusal}
use Rattle.refusals.specs.declared.Refusal.TheVariants.{Number, Shape, Backward, NoLine, Creep, Apart, Strayed}
use Rattle.refusals.specs.declared.Refusal.TheVariants.{Stuck, Late, Full, Spent, NoRoom, Line, Overflow}

pub record ByNumber : Type 0 where
  pub one : refusal_number Number ≡ 1
  pub two : refusal_number Shape ≡ 2
  pub three : refusal_number Backward ≡ 3
  pub four : refusal_number NoLine ≡ 4
  pub five : refusal_number Creep ≡ 5
  pub six : refusal_number Apart ≡ 6
  pub seven : refusal_number Strayed ≡ 7
  pub eight : refusal_number Stuck ≡ 8
  pub nine : refusal_number Late ≡ 9
  pub ten : refusal_number Full ≡ 10
  pub eleven : refusal_number Spent ≡ 11
  pub twelve : refusal_number NoRoom ≡ 12
  pub fourteen : refusal_number Line ≡ 14
  pub fifteen : refusal_number Overflow ≡ 15

pub by_number : ByNumber
by_number =
    record {
      one = refl;
      two = refl;
      three = refl;
      four = refl;
      five = refl;
      six = refl;
      seven = refl;
      eight = refl;
      nine = refl;
      ten = refl;
      eleven = refl;
      twelve = refl;
      fourteen = refl;
      fifteen = refl;
    }

-- The refusal of a number, if there is one.
named : ℕ → Option Refusal
named n = get_or refusals n None
  where
    refusals : List (Option Refusal)
    refusals =
        None ∷ (Some Number ∷ (Some Shape ∷ (Some Backward ∷ (Some NoLine ∷ (Some Creep ∷ (Some Apart ∷ (Some Strayed ∷
        (Some Stuck ∷ (Some Late ∷ (Some Full ∷ (Some Spent ∷ (Some NoRoom ∷ (None ∷ (Some Line ∷ (Some Overflow ∷
        [])))))))))))))))

back : (why : Refusal) → named (refusal_number why) ≡ Some why
unfolding named
back Number = refl
back Shape = refl
back Backward = refl
back NoLine = refl
back Creep = refl
back Apart = refl
back Strayed = refl
back Stuck = refl
back Late = refl
back Full = refl
back Spent = refl
back NoRoom = refl
back Line = refl
back Overflow = refl

pub same : (a b : Refusal) → refusal_number a ≡ refusal_number b → a ≡ b
same a b e = let both : Some a ≡ Some b = sym (back a) ∙ ap named e ∙ back b in cc both

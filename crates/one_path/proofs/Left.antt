-- What each part of the search for a path leaves in its room.
-- Assumes nothing.
use Prim.Native.Nat.{ℕ}
use mathlib.Core.Path.{◌≡◌, refl, sym, ap, subst, ◌∙◌}
use mathlib.Core.List.{List}
use lib.ListN.{length, replicate, length-replicate}
use Rattle.lent.specs.Outcome.{wiped}
use Rattle.lent.specs.Rows.{with_rows}
use Rattle.lent.proofs.Filling.{wiped_whole}
use Rattle.lent.proofs.Fours.{length_rows}
use Rattle.times.specs.declared.time.Duration.{Duration}
use Rattle.path_actions.specs.Action.{action_rows}
use Rattle.path_actions.specs.Built as B
use Rattle.path_actions.specs.Built.{Built}
use Rattle.path_actions.specs.Laid.{PutActions}
use Rattle.path_actions.specs.declared.action.SafeAction.{SafeAction}
use Rattle.path_actions.proofs.Rowed.{actions_fours}
use Rattle.path_actions.proofs.Known.{actions_of, held_is, unheld_is}
use Rattle.path_actions.proofs.Counted.{Counts}
use Rattle.one_path.specs.Path as P
use Rattle.one_path.specs.Path.{Sought, with_pops}
use Rattle.one_path.specs.Laid.{PutPath, found_of}
use Rattle.one_path.specs.declared.arrival_path.Found.{Found}
use Rattle.one_path.specs.declared.arrival_path.Found.TheVariants as F
use Rattle.one_path.proofs.Known.{actions_in}
use Rattle.std.specs.Prelude.{Result, Ok, Err}
use Rattle.refusals.specs.declared.Refusal.{Refusal}

-- A refusal keeps nothing of the room, whichever row it was to begin at.
pub put_wiped : {lent left : List ℕ} {row : ℕ} (n : Refusal) → left ≡ wiped lent 0 → PutPath (P.Refused n) lent left row (Err n)
unfolding found_of
put_wiped {lent} {left} n wipes =
    let zeros : left ≡ replicate (length lent) 0 = wipes ∙ wiped_whole lent in
    record {
      found = refl;
      long = ap length zeros ∙ length-replicate (length lent) 0;
      rows = λ actions pops d e. cc;
      none = λ pops e. cc;
      refused = λ m e. zeros;
    }

pub put_refused : {lent left : List ℕ} {row other : ℕ} {r : Result Found Refusal} (n : Refusal) →
    PutPath (P.Refused n) lent left other r → PutPath (P.Refused n) lent left row r
put_refused n p =
    record { found = p.found; long = p.long; rows = λ actions pops d e. cc; none = p.none; refused = p.refused }

pub put_missing : {lent : List ℕ} {row : ℕ} (pops : ℕ) → PutPath (P.Missing pops) lent lent row (Ok (F.Missing pops))
unfolding found_of
put_missing pops = record { found = refl; long = refl; rows = λ actions p d e. cc; none = λ p e. refl; refused = λ n e. cc }

pub put_path : {lent left : List ℕ} {row : ℕ} (actions : List SafeAction) (pops : ℕ) (hold : Duration) →
    left ≡ with_rows lent row (action_rows actions) →
    PutPath (P.Path actions pops hold) lent left row (Ok (F.Path (length actions) pops hold))
unfolding found_of
put_path {lent} {left} {row} actions pops hold put =
    record {
      found = refl;
      long = ap length put ∙ length_rows lent row (action_rows actions) (actions_fours actions);
      rows = λ more p d e. put ∙ ap (λ (s : Sought). with_rows lent row (action_rows (actions_in s))) e;
      none = λ p e. cc;
      refused = λ n e. cc;
    }

-- What was built, with its pops.
pops_back : (b : Built) (pops p : ℕ) (actions : List SafeAction) (d : Duration) →
    with_pops pops b ≡ P.Path actions p d → b ≡ B.Of actions d
pops_back (B.Of more hold) pops p actions d e = cc
pops_back (B.Refused n) pops p actions d e = cc

refused_back : (b : Built) (pops : ℕ) (n : Refusal) → with_pops pops b ≡ P.Refused n → b ≡ B.Refused n
refused_back (B.Of more hold) pops n e = cc
refused_back (B.Refused m) pops n e = cc

never_missing : {lent left : List ℕ} (b : Built) (pops p : ℕ) → with_pops pops b ≡ P.Missing p → left ≡ lent
never_missing (B.Of more hold) pops p e = cc
never_missing (B.Refused n) pops p e = cc

put_along : {lent left : List ℕ} {row : ℕ} {r : Result Duration Refusal} {found : Result Found Refusal} (b : Built) (pops : ℕ) →
    PutActions b lent left row r → found ≡ found_of (with_pops pops b) → PutPath (with_pops pops b) lent left row found
put_along b pops p e =
    record {
      found = e;
      long = p.long;
      rows = λ actions q d f. p.rows actions d (pops_back b pops q actions d f);
      none = λ q f. never_missing b pops q f;
      refused = λ n f. p.refused n (refused_back b pops n f);
    }

module _ {lent left : List ℕ} {row : ℕ} {r : Result Duration Refusal} (b : Built) (pops : ℕ) (p : PutActions b lent left row r) where
  abbrev found_with : Built → Result Found Refusal
  found_with x = found_of (with_pops pops x)

  pub along_refused : (n : Refusal) → r ≡ Err n → PutPath (with_pops pops b) lent left row (Err n)
  unfolding found_of
  along_refused n e = put_along b pops p (sym (ap found_with (unheld_is b n (sym p.hold ∙ e))))

  pub along_found : (many : ℕ) (hold : Duration) → Counts many b → r ≡ Ok hold →
      PutPath (with_pops pops b) lent left row (Ok (F.Path many pops hold))
  unfolding found_of
  along_found many hold counts e =
      let is : b ≡ B.Of (actions_of b) hold = held_is b hold (sym p.hold ∙ e) in
      let counted : length (actions_of b) ≡ many = subst (Counts many) is counts in
      put_along b pops p (sym (ap found_with is ∙ ap (λ (n : ℕ). Ok (F.Path n pops hold)) counted))

-- What a call hands over of the path that was sought (RULES 4.12, 4.14, 15.2 to 15.4).
-- Assumes nothing.
use Prim.Native.Nat.{ℕ, ◌+◌}
use mathlib.Core.Path.{◌≡◌, refl, sym, ◌∙◌}
use mathlib.Core.List.{List, [], ◌∷◌}
use native.Mathlib.Omega.{arith}
use lib.ListN.{length, length-map}
use Rattle.lent.specs.Outcome.{Handed, number_of, room_of}
use Rattle.lent.specs.Rows.{with_row, with_rows, words_in, Settled}
use Rattle.lent.proofs.Fours.{rows_one, head_last, settled_rows}
use Rattle.number_words.specs.Word.{word_of}
use Rattle.times.specs.declared.time.Duration.{Duration}
use Rattle.path_actions.specs.Action.{action_words, action_rows}
use Rattle.path_actions.specs.declared.action.SafeAction.{SafeAction}
use Rattle.path_actions.proofs.Rowed.{actions_fours}
use Rattle.one_path.specs.Path as P
use Rattle.one_path.specs.Path.{Sought}
use Rattle.one_path.specs.Laid.{PutPath}
use Rattle.one_path.specs.Asked.{path_outcome}
use Rattle.one_path.specs.declared.arrival_path.Found.{Found}
use Rattle.one_path.specs.declared.arrival_path.Found.TheVariants as F
use Rattle.one_path.proofs.Known.{actions_in, path_is, path_counts_law, missing_is, refused_is}
use Rattle.std.specs.Prelude.{Result, Ok, Err}
use Rattle.refusals.specs.Names.{refusal_number}
use Rattle.refusals.specs.declared.Refusal.{Refusal}

pub given_refused : {s : Sought} {lent room : List ℕ} {found : Result Found Refusal} → PutPath s lent room 1 found → (n : Refusal) →
    found ≡ Err n → Handed (path_outcome s) lent room (refusal_number n)
unfolding path_outcome number_of room_of
given_refused {s} p n e =
    let is : s ≡ P.Refused n = refused_is s n (sym p.found ∙ e) in
    rw is (record { number = refl; room = p.refused n is })

module _ {s : Sought} {lent room left : List ℕ} {found : Result Found Refusal} {r : ℕ} (p : PutPath s lent room 1 found) where
  pub given_missing : {full : List ℕ} (pops : ℕ) → found ≡ Ok (F.Missing pops) →
      full ≡ with_row room 0 (0 ∷ (pops ∷ (0 ∷ (0 ∷ [])))) → Settled 1 full left r → Handed (path_outcome s) lent left r
  unfolding path_outcome words_in
  given_missing {full} pops e put settled =
      let head : List ℕ = 0 ∷ (pops ∷ (0 ∷ (0 ∷ []))) in
      let is : s ≡ P.Missing pops = missing_is s pops (sym p.found ∙ e) in
      let all : full ≡ with_rows lent 0 (head ∷ []) = put ∙ rw (p.none pops is) (sym (rows_one lent 0 head)) in
      rw is (settled_rows (head ∷ []) (refl, tt) (rw (← all) settled))

  pub given_path : {full : List ℕ} (many pops : ℕ) (hold : Duration) → found ≡ Ok (F.Path many pops hold) →
      full ≡ with_row room 0 (1 ∷ (pops ∷ (word_of hold.0 ∷ (many ∷ [])))) →
      Settled (1 + many) full left r → Handed (path_outcome s) lent left r
  unfolding path_outcome words_in
  given_path {full} many pops hold e put settled =
      let actions : List SafeAction = actions_in s in
      let is : s ≡ P.Path actions pops hold = path_is s many pops hold (sym p.found ∙ e) in
      let counted : many ≡ length actions = path_counts_law s many pops hold (sym p.found ∙ e) in
      let head : List ℕ = 1 ∷ (pops ∷ (word_of hold.0 ∷ (length actions ∷ []))) in
      let rows : List (List ℕ) = head ∷ action_rows actions in
      let all : full ≡ with_rows lent 0 rows =
      put ∙ rw (counted, p.rows actions pops hold is) (head_last lent head (action_rows actions) refl (actions_fours actions))
      in
      let size : length rows ≡ 1 + many = omega (arith, length-map actions action_words) in
      rw is (settled_rows rows (refl, actions_fours actions) (rw (size, ← all) settled))

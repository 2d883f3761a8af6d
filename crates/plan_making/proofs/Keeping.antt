-- What is kept from one arrival time to the next: the paths found so far, and their rows (RULES 13.1, 13.22).
-- Assumes nothing.
use Prim.Native.Nat.{ℕ, ◌+◌, ◌*◌, ◌≤◌, ◌<◌}
use mathlib.Core.Path.{◌≡◌, refl, sym, ap, ◌∙◌}
use mathlib.Core.List.{List, [], ◌∷◌, ◌++◌, append_assoc, append-nil}
use native.Mathlib.Numerals.{add-one}
use native.Mathlib.Omega.{arith}
use lib.IntN.{ℤ, pos}
use lib.ListN.{length, drop, get_or, length-append, drop_of_length-le}
use lib.Seq.{drop-cons}
use Rattle.lent.specs.Rows.{with_row, with_rows}
use Rattle.lent.proofs.Fours.{fours_map, length_rows, rows_one}
use Rattle.number_words.specs.Word.{word_of}
use Rattle.times.specs.declared.time.Duration.{Duration}
use Rattle.times.specs.declared.time.TimePoint.{TimePoint}
use Rattle.table.specs.Obstacle.{Obstacle}
use Rattle.hint_list.specs.declared.hint.RankedHint.{RankedHint}
use Rattle.path_tests.specs.declared.trip.Trip.{Trip}
use Rattle.path_actions.specs.Action.{action_words, action_rows}
use Rattle.path_actions.specs.declared.action.SafeAction.{SafeAction}
use Rattle.path_actions.proofs.Rowed.{actions_fours, rows_behind}
use Rattle.one_path.specs.Path as P
use Rattle.one_path.specs.Path.{Sought, path_for}
use Rattle.one_path.specs.Laid.{PutPath}
use Rattle.one_path.specs.declared.arrival_path.Found.{Found}
use Rattle.one_path.specs.declared.arrival_path.Found.TheVariants as F
use Rattle.one_path.proofs.Known.{actions_in, path_is, path_counts_law, missing_is, refused_is}
use Rattle.one_path.proofs.Short.{path_short}
use Rattle.plan_model.specs.Plan.{Path, Paths, Of, Refused, first, sought, paths_for, instants_of, path_words, path_rows, all_actions}
use Rattle.plan_model.specs.Laid.{PutPaths, path_counts}
use Rattle.std.specs.Prelude.{Result, Ok, Err}
use Rattle.refusals.specs.declared.Refusal.{Refusal}
use Rattle.plan_model.specs.declared.rooms.Paths as Counts

-- ---- Paths behind others.

abbrev behind : List Path → Paths → Paths
behind done (Of ps) = Of (done ++ ps)
behind done (Refused n) = Refused n

behind_none : (ps : Paths) → ps ≡ behind [] ps
behind_none (Of ps) = refl
behind_none (Refused n) = refl

behind_first : (done : List Path) (p : Path) (ps : Paths) → behind done (first p ps) ≡ behind (done ++ (p ∷ [])) ps
behind_first done p (Of ps) = rw (append_assoc done (p ∷ []) ps)
behind_first done p (Refused n) = refl

-- The actions of a path behind those of others.
actions_last : (done : List Path) (p : Path) → all_actions (done ++ (p ∷ [])) ≡ all_actions done ++ p.actions
unfolding all_actions
actions_last [] p = append-nil p.actions
actions_last (q ∷ done) p =
    ap (λ (l : List SafeAction). q.actions ++ l) (actions_last done p) ∙
    sym (append_assoc q.actions (all_actions done) p.actions)

-- ---- The rows of paths, and one more behind them.

rows_long : (lent : List ℕ) (ps : List Path) → length (with_rows lent 1 (path_rows ps)) ≡ length lent
rows_long lent ps = length_rows lent 1 (path_rows ps) (fours_map path_words (λ p. refl) ps)

actions_long : (lent : List ℕ) (actions : List SafeAction) → length (with_rows lent 0 (action_rows actions)) ≡ length lent
actions_long lent actions = length_rows lent 0 (action_rows actions) (actions_fours actions)

row_last : (lent : List ℕ) (done : List Path) (p : Path) →
    with_row (with_rows lent 1 (path_rows done)) (1 + length done) (path_words p) ≡ with_rows lent 1 (path_rows (done ++ (p ∷ [])))
row_last lent done p =
    sym (rows_one (with_rows lent 1 (path_rows done)) (1 + length done) (path_words p)) ∙
    rows_behind path_words lent 1 done (p ∷ [])

module _ (trip : Trip) (os : List Obstacle) (hints : List RankedHint) (budget : ℕ) (list : List ℤ) where
  -- The paths for all arrival times, and for those from the one at i on.
  abbrev all : Paths
  all = paths_for trip os hints budget (instants_of list)

  abbrev rest : ℕ → Paths
  rest i = paths_for trip os hints budget (instants_of (drop i list))

  -- The arrival time at i.
  abbrev time : ℕ → TimePoint
  time i = record { 0 = get_or list i (pos 0) }

  at_time : (i : ℕ) → i < length list →
      rest i ≡ sought (path_for trip os hints budget (time i)) (time i) (λ _. rest (i + 1))
  unfolding paths_for instants_of
  at_time i h = rw (add-one i, drop-cons list i (pos 0) h)

  at_end : (i : ℕ) → length list ≤ i → rest i ≡ Of []
  unfolding paths_for instants_of
  at_end i h = rw (drop_of_length-le list {i = i} h)

  module _ (lent lentActions : List ℕ) where
    -- The first i arrival times are worked through.
    pub record Kept (i found row : ℕ) (paths actions : List ℕ) : Type 0 where
      pub done : List Path
      pub on : all ≡ behind done (rest i)
      pub counted : length done ≡ found
      pub listed : length (all_actions done) ≡ row
      pub rows : paths ≡ with_rows lent 1 (path_rows done)
      pub action_rows_law : actions ≡ with_rows lentActions 0 (action_rows (all_actions done))
      -- One path at most for each, with at most 129 actions.
      pub fewer : found ≤ i
      pub few : row ≤ 129 * i

    pub kept_start : Kept 0 0 0 lent lentActions
    unfolding with_rows all_actions
    kept_start =
        record {
          done = [];
          on = behind_none all;
          counted = refl;
          listed = refl;
          rows = refl;
          action_rows_law = refl;
          fewer = omega arith;
          few = omega arith;
        }

module _ {trip : Trip} {os : List Obstacle} {hints : List RankedHint} {budget : ℕ} {list : List ℤ}
    {lent lentActions : List ℕ} {i found row : ℕ} {paths actions : List ℕ}
    (k : Kept trip os hints budget list lent lentActions i found row paths actions) where
  abbrev whole : Paths
  whole = all trip os hints budget list

  abbrev onward : Paths
  onward = rest trip os hints budget list (i + 1)

  abbrev arrival : TimePoint
  arrival = time trip os hints budget list i

  pub kept_long : length paths ≡ length lent
  kept_long = ap length k.rows ∙ rows_long lent k.done

  pub kept_long_actions : length actions ≡ length lentActions
  kept_long_actions = ap length k.action_rows_law ∙ actions_long lentActions (all_actions k.done)

  -- All are worked through.
  pub kept_end : length list ≤ i → PutPaths whole lent paths lentActions actions (Ok (record { paths = found; actions = row }))
  unfolding path_counts
  kept_end h =
      let these : whole ≡ Of k.done =
      k.on ∙ ap (behind k.done) (at_end trip os hints budget list i h) ∙ ap Of (append-nil k.done) in
      let same : (ps : List Path) → whole ≡ Of ps → k.done ≡ ps = λ ps e. cc (sym these ∙ e) in
      record {
        counts = rw (these, k.counted, k.listed);
        long = kept_long;
        long_actions = kept_long_actions;
        rows = λ ps e. rw (← same ps e) k.rows;
        action_rows_law = λ ps e. rw (← same ps e) k.action_rows_law;
      }

  abbrev here : Sought
  here = path_for trip os hints budget arrival

  -- What the search for the arrival time at i leaves.
  module _ (h : i < length list) {left : List ℕ} {r : Result Found Refusal} (p : PutPath here actions left row r) where
    goes : {s : Sought} → here ≡ s → whole ≡ behind k.done (sought s arrival (λ _. onward))
    goes e =
        k.on ∙
        ap (behind k.done)
        (at_time trip os hints budget list i h ∙ ap (λ (x : Sought). sought x arrival (λ _. onward)) e)

    -- A refusal ends the work (RULES 15.11).
    pub kept_refused : {n : Refusal} → r ≡ Err n → PutPaths whole lent paths lentActions left (Err n)
    unfolding path_counts
    kept_refused {n} e =
        let none : whole ≡ Refused n = goes (refused_is here n (sym p.found ∙ e)) in
        record {
          counts = rw none;
          long = kept_long;
          long_actions = p.long ∙ kept_long_actions;
          rows = λ ps f. cc (sym none ∙ f);
          action_rows_law = λ ps f. cc (sym none ∙ f);
        }

    -- An arrival time with no path adds none (RULES 13.22).
    pub kept_missing : {pops : ℕ} → r ≡ Ok (F.Missing pops) →
        Kept trip os hints budget list lent lentActions (i + 1) found row paths left
    kept_missing {pops} e =
        let none : here ≡ P.Missing pops = missing_is here pops (sym p.found ∙ e) in
        let fewer = k.fewer in
        let few = k.few in
        record {
          done = k.done;
          on = goes none;
          counted = k.counted;
          listed = k.listed;
          rows = k.rows;
          action_rows_law = p.none pops none ∙ k.action_rows_law;
          fewer = omega arith;
          few = omega arith;
        }

    -- Where there are at most 64 hints.
    module _ (few-hints : length hints ≤ 64) {many pops : ℕ} {hold : Duration} (e : r ≡ Ok (F.Path many pops hold)) where
      abbrev these : List SafeAction
      these = actions_in here

      is : here ≡ P.Path these pops hold
      is = path_is here many pops hold (sym p.found ∙ e)

      counts : many ≡ length these
      counts = path_counts_law here many pops hold (sym p.found ∙ e)

      pub path_few : many ≤ 129
      path_few = let short = path_short trip os hints few-hints budget arrival these pops hold is in omega (arith, counts)

      -- A path is put behind the others.
      pub kept_path : {next : List ℕ} →
          next ≡ with_row paths (1 + found) (word_of arrival.0 ∷ (pops ∷ (word_of hold.0 ∷ (many ∷ [])))) →
          Kept trip os hints budget list lent lentActions (i + 1) (found + 1) (row + many) next left
      kept_path put =
          let this : Path = record { arrival = arrival; pops = pops; hold = hold; actions = these } in
          let fewer = k.fewer in
          let few = k.few in
          let short = path_few in
          let longer = length-append k.done (this ∷ []) in
          let last : all_actions (k.done ++ (this ∷ [])) ≡ all_actions k.done ++ these = actions_last k.done this in
          let more = length-append (all_actions k.done) these in
          let at : row ≡ 0 + length (all_actions k.done) = omega (arith, k.listed) in
          record {
            done = k.done ++ (this ∷ []);
            on = goes is ∙ behind_first k.done this onward;
            counted = omega (arith, k.counted);
            listed = ap length last ∙ omega (arith, k.listed, counts);
            rows = put ∙ rw (k.rows, ← k.counted, counts) (row_last lent k.done this);
            action_rows_law =
                p.rows these pops hold is ∙
                rw (last, k.action_rows_law, at) (rows_behind action_words lentActions 0 (all_actions k.done) these);
            fewer = omega arith;
            few = omega arith;
          }

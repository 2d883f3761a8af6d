-- Building a path hint by hint: what is built from a hint on, behind what is built, is the whole (RULES 13.23 to 13.26).
-- Assumes nothing.
use Prim.Native.Nat.{ℕ, suc, ◌+◌, ◌*◌, ◌≤◌, ◌<◌}
use mathlib.Core.Path.{◌≡◌, refl, sym, ap, subst, ◌∙◌}
use mathlib.Core.List.{List, [], ◌++◌, append_assoc}
use native.Mathlib.Numerals.{add-one}
use native.Mathlib.Omega.{arith}
use lib.ListN.{length, drop, replicate, get_or, length-append, drop_of_length-le}
use lib.Seq.{drop-cons}
use Rattle.lent.specs.Rows.{with_rows}
use Rattle.lent.proofs.Fours.{length_rows}
use Rattle.times.specs.declared.time.Duration.{Duration}
use Rattle.shapes.specs.declared.waypoint.Waypoint.{Waypoint}
use Rattle.hint_list.specs.declared.hint.WaitHint.{WaitHint}
use Rattle.hint_list.specs.Words.{blank_ranked}
use Rattle.hint_list.specs.declared.hint.RankedHint.{RankedHint}
use Rattle.path_tests.specs.Travel.{hint_waypoint}
use Rattle.path_tests.specs.declared.trip.Trip.{Trip}
use Rattle.path_actions.specs.Action.{action_words, action_rows}
use Rattle.path_actions.specs.Built.{Built, Of, Refused, stopped, ended, in_front, and_on, built, hints_at, unheld}
use Rattle.path_actions.specs.Laid.{PutActions, hold_of}
use Rattle.path_actions.specs.declared.action.SafeAction.{SafeAction}
use Rattle.path_actions.proofs.Rowed.{actions_fours, rows_behind}
use Rattle.path_actions.proofs.Known.{actions_of, held_is, unheld_is}
use Rattle.path_actions.proofs.Counted.{Counts, stopped_counts}
use Rattle.std.specs.Prelude.{Result, Ok, Err}
use Rattle.refusals.specs.declared.Refusal.{Refusal}

before_none : (b : Built) → b ≡ in_front [] b
before_none (Of actions hold) = refl
before_none (Refused n) = refl

before_both : (done more : List SafeAction) (b : Built) → in_front done (in_front more b) ≡ in_front (done ++ more) b
before_both done more (Of actions hold) = rw (append_assoc done more actions)
before_both done more (Refused n) = refl

hold_before : (done : List SafeAction) (b : Built) → hold_of b ≡ hold_of (in_front done b)
unfolding hold_of
hold_before done (Of actions hold) = refl
hold_before done (Refused n) = refl

before_refused : (done : List SafeAction) (b : Built) (n : Refusal) → in_front done b ≡ Refused n → b ≡ Refused n
before_refused done (Of actions hold) n e = cc
before_refused done (Refused m) n e = e

refused_on : (b : Built) (go : Duration → Built) (n : Refusal) → b ≡ Refused n → and_on b go ≡ b
refused_on b go n e = rw e

-- What is built of a whole chain, and from link k on.
abbrev whole_of : Trip → List RankedHint → List ℕ → Built
whole_of trip hints links = built trip trip.leg.start unheld (hints_at hints links)

abbrev rest_of : Trip → List RankedHint → List ℕ → Waypoint → Duration → ℕ → Built
rest_of trip hints links from hold k = built trip from hold (hints_at hints (drop k links))

module _ (trip : Trip) (hints : List RankedHint) (links : List ℕ) (lent : List ℕ) (row : ℕ) where
  -- The rows of the first k hints are put.
  pub record Going (from : Waypoint) (hold : Duration) (at k : ℕ) (left : List ℕ) : Type 0 where
    pub done : List SafeAction
    pub counted : length done ≡ 2 * k
    pub place : at ≡ row + length done
    pub rows : left ≡ with_rows lent row (action_rows done)
    pub on : whole_of trip hints links ≡ in_front done (rest_of trip hints links from hold k)

  pub going_begin : Going trip.leg.start unheld row 0 lent
  unfolding with_rows
  going_begin =
      record {
        done = [];
        counted = omega arith;
        place = omega arith;
        rows = refl;
        on = before_none (whole_of trip hints links);
      }

module _
    {trip : Trip} {hints : List RankedHint} {links lent : List ℕ} {row : ℕ}
    {from : Waypoint} {hold : Duration} {at k : ℕ} {left : List ℕ}
    (g : Going trip hints links lent row from hold at k left)
  where
    abbrev whole : Built
    whole = whole_of trip hints links

    abbrev rest : Waypoint → Duration → ℕ → Built
    rest = rest_of trip hints links

    pub going_long : length left ≡ length lent
    going_long = ap length g.rows ∙ length_rows lent row (action_rows g.done) (actions_fours g.done)

    more_rows : {left' : List ℕ} (more : List SafeAction) →
        left' ≡ with_rows left at (action_rows more) → left' ≡ with_rows lent row (action_rows (g.done ++ more))
    more_rows more e = e ∙ rw (g.rows, g.place) (rows_behind action_words lent row g.done more)

    -- What is put behind the rows so far, where the whole is those and that.
    rows_of : {left' : List ℕ} (b : Built) → whole ≡ in_front g.done b →
        ((more : List SafeAction) (d : Duration) → b ≡ Of more d → left' ≡ with_rows left at (action_rows more)) →
        (actions : List SafeAction) (d : Duration) → whole ≡ Of actions d → left' ≡ with_rows lent row (action_rows actions)
    rows_of (Of more d') w put actions d e =
        more_rows more (put more d' refl) ∙
        ap (λ (l : List SafeAction). with_rows lent row (action_rows l)) (ap actions_of (sym w ∙ e))
    rows_of (Refused n) w put actions d e = let no : Refused n ≡ Of actions d = sym w ∙ e in cc

    put_whole : {left' : List ℕ} {r : Result Duration Refusal} (b : Built) → whole ≡ in_front g.done b →
        PutActions b left left' at r → PutActions whole lent left' row r
    put_whole b w p =
        record {
          hold = p.hold ∙ hold_before g.done b ∙ ap hold_of (sym w);
          long = p.long ∙ going_long;
          rows = rows_of b w p.rows;
          refused = λ n e. p.refused n (before_refused g.done b n (sym w ∙ e)) ∙ ap (λ k. replicate k 0) going_long;
        }

    at_end : length links ≤ k → rest from hold k ≡ ended trip from hold
    unfolding built hints_at
    at_end past = rw (drop_of_length-le links {i = k} past)

    -- The last move ends it.
    pub going_end : {left' : List ℕ} {r : Result Duration Refusal} → length links ≤ k →
        PutActions (ended trip from hold) left left' at r → PutActions whole lent left' row r
    going_end past p = put_whole (ended trip from hold) (g.on ∙ ap (in_front g.done) (at_end past)) p

    -- The hint at link k.
    module _ (h : WaitHint) (there : k < length links) (e : h ≡ (get_or hints (get_or links k 0) blank_ranked).hint) where
      abbrev next : Duration → Built
      next sum = rest (hint_waypoint h) sum (k + 1)

      abbrev stop_at : WaitHint → ℕ → Built
      stop_at x m = and_on (stopped trip from x hold) (λ sum. rest (hint_waypoint x) sum m)

      at_link : rest from hold k ≡ and_on (stopped trip from h hold) next
      unfolding built hints_at
      at_link =
          ap (λ (l : List ℕ). built trip from hold (hints_at hints l)) (drop-cons links k 0 there) ∙
          ap (λ (x : WaitHint). stop_at x (suc k)) (sym e) ∙
          ap (stop_at h) (sym (add-one k))

      -- A refusal ends it,
      pub going_refused : {left' : List ℕ} {r : Result Duration Refusal} (n : Refusal) → r ≡ Err n →
          PutActions (stopped trip from h hold) left left' at r → PutActions whole lent left' row r
      going_refused n f p =
          let b : Built = stopped trip from h hold in
          let ends = refused_on b next n (unheld_is b n (sym p.hold ∙ f)) in
          put_whole b (g.on ∙ ap (in_front g.done) (at_link ∙ ends)) p

      -- and a hold goes on.
      pub going_on : {left' : List ℕ} {r : Result Duration Refusal} (sum : Duration) → r ≡ Ok sum →
          PutActions (stopped trip from h hold) left left' at r →
          Going trip hints links lent row (hint_waypoint h) sum (at + 2) (k + 1) left'
      going_on sum f p =
          let b : Built = stopped trip from h hold in
          let more : List SafeAction = actions_of b in
          let is : b ≡ Of more sum = held_is b sum (sym p.hold ∙ f) in
          let two : length more ≡ 2 = subst (Counts 2) is (stopped_counts trip from h hold) in
          let both : length (g.done ++ more) ≡ length g.done + length more = length-append g.done more in
          record {
            done = g.done ++ more;
            counted = omega (arith, g.counted);
            place = omega (arith, g.place);
            rows = more_rows more (p.rows more sum is);
            on =
                g.on ∙ ap (in_front g.done) (at_link ∙ ap (λ (x : Built). and_on x next) is) ∙
                before_both g.done more (next sum);
          }

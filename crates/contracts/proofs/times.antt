-- Each public function of times has one answer and one lent memory. tools/contracts.py writes this file.
-- Assumes nothing.
use mathlib.Core.Path.{refl}
use base.Logic.{id⊢, emp}
use Rattle.times.specs.contracts.time.TimePoint.since as time_time_point_since
use Rattle.times.proofs.time.TimePoint.since.Symbol as time_time_point_since_symbol
use Rattle.times.proofs.time.TimePoint.since.Met as time_time_point_since_met
use Rattle.times.specs.contracts.time.TimePoint.plus as time_time_point_plus
use Rattle.times.proofs.time.TimePoint.plus.Symbol as time_time_point_plus_symbol
use Rattle.times.proofs.time.TimePoint.plus.Met as time_time_point_plus_met
use Rattle.times.specs.contracts.time.TimePoint.plus_secs_f64 as time_time_point_plus_secs_f64
use Rattle.times.proofs.time.TimePoint.plus_secs_f64.Symbol as time_time_point_plus_secs_f64_symbol
use Rattle.times.proofs.time.TimePoint.plus_secs_f64.Met as time_time_point_plus_secs_f64_met
use Rattle.times.specs.contracts.time.TimePoint.is_exact as time_time_point_is_exact
use Rattle.times.proofs.time.TimePoint.is_exact.Symbol as time_time_point_is_exact_symbol
use Rattle.times.proofs.time.TimePoint.is_exact.Met as time_time_point_is_exact_met
use Rattle.times.specs.contracts.time.TimePoint.is_before as time_time_point_is_before
use Rattle.times.proofs.time.TimePoint.is_before.Symbol as time_time_point_is_before_symbol
use Rattle.times.proofs.time.TimePoint.is_before.Met as time_time_point_is_before_met
use Rattle.times.specs.contracts.time.TimePoint.max as time_time_point_max
use Rattle.times.proofs.time.TimePoint.max.Symbol as time_time_point_max_symbol
use Rattle.times.proofs.time.TimePoint.max.Met as time_time_point_max_met
use Rattle.times.specs.contracts.time.TimePoint.min as time_time_point_min
use Rattle.times.proofs.time.TimePoint.min.Symbol as time_time_point_min_symbol
use Rattle.times.proofs.time.TimePoint.min.Met as time_time_point_min_met
use Rattle.times.specs.contracts.time.TimePoint.as_secs_f64 as time_time_point_as_secs_f64
use Rattle.times.proofs.time.TimePoint.as_secs_f64.Symbol as time_time_point_as_secs_f64_symbol
use Rattle.times.proofs.time.TimePoint.as_secs_f64.Met as time_time_point_as_secs_f64_met
use Rattle.times.specs.contracts.time.TimePoint.from_secs_f64 as time_time_point_from_secs_f64
use Rattle.times.proofs.time.TimePoint.from_secs_f64.Symbol as time_time_point_from_secs_f64_symbol
use Rattle.times.proofs.time.TimePoint.from_secs_f64.Met as time_time_point_from_secs_f64_met
use Rattle.times.specs.contracts.time.Duration.is_exact as time_duration_is_exact
use Rattle.times.proofs.time.Duration.is_exact.Symbol as time_duration_is_exact_symbol
use Rattle.times.proofs.time.Duration.is_exact.Met as time_duration_is_exact_met
use Rattle.times.specs.contracts.time.Duration.plus as time_duration_plus
use Rattle.times.proofs.time.Duration.plus.Symbol as time_duration_plus_symbol
use Rattle.times.proofs.time.Duration.plus.Met as time_duration_plus_met
use Rattle.times.specs.contracts.time.Duration.is_below as time_duration_is_below
use Rattle.times.proofs.time.Duration.is_below.Symbol as time_duration_is_below_symbol
use Rattle.times.proofs.time.Duration.is_below.Met as time_duration_is_below_met
use Rattle.times.specs.contracts.time.Duration.as_secs_f64 as time_duration_as_secs_f64
use Rattle.times.proofs.time.Duration.as_secs_f64.Symbol as time_duration_as_secs_f64_symbol
use Rattle.times.proofs.time.Duration.as_secs_f64.Met as time_duration_as_secs_f64_met
use Rattle.times.specs.contracts.time.Duration.from_secs_f64 as time_duration_from_secs_f64
use Rattle.times.proofs.time.Duration.from_secs_f64.Symbol as time_duration_from_secs_f64_symbol
use Rattle.times.proofs.time.Duration.from_secs_f64.Met as time_duration_from_secs_f64_met
use Rattle.times.specs.contracts.time.RefusalFromStrayed.from as time_refusal_from_strayed_from
use Rattle.times.proofs.time.RefusalFromStrayed.from.Symbol as time_refusal_from_strayed_from_symbol
use Rattle.times.proofs.time.RefusalFromStrayed.from.Met as time_refusal_from_strayed_from_met
use Rattle.times.specs.contracts.time.TimePointPartialEq.eq as time_time_point_partial_eq_eq
use Rattle.times.proofs.time.TimePointPartialEq.eq.Symbol as time_time_point_partial_eq_eq_symbol
use Rattle.times.proofs.time.TimePointPartialEq.eq.Met as time_time_point_partial_eq_eq_met
use Rattle.times.specs.contracts.time.TimePointPartialOrd.partial_cmp as time_time_point_partial_ord_partial_cmp
use Rattle.times.proofs.time.TimePointPartialOrd.partial_cmp.Symbol as time_time_point_partial_ord_partial_cmp_symbol
use Rattle.times.proofs.time.TimePointPartialOrd.partial_cmp.Met as time_time_point_partial_ord_partial_cmp_met
use Rattle.times.specs.contracts.time.TimePointOrd.cmp as time_time_point_ord_cmp
use Rattle.times.proofs.time.TimePointOrd.cmp.Symbol as time_time_point_ord_cmp_symbol
use Rattle.times.proofs.time.TimePointOrd.cmp.Met as time_time_point_ord_cmp_met
use Rattle.times.specs.contracts.time.DurationPartialEq.eq as time_duration_partial_eq_eq
use Rattle.times.proofs.time.DurationPartialEq.eq.Symbol as time_duration_partial_eq_eq_symbol
use Rattle.times.proofs.time.DurationPartialEq.eq.Met as time_duration_partial_eq_eq_met
use Rattle.times.specs.contracts.time.DurationPartialOrd.partial_cmp as time_duration_partial_ord_partial_cmp
use Rattle.times.proofs.time.DurationPartialOrd.partial_cmp.Symbol as time_duration_partial_ord_partial_cmp_symbol
use Rattle.times.proofs.time.DurationPartialOrd.partial_cmp.Met as time_duration_partial_ord_partial_cmp_met
use Rattle.times.specs.contracts.time.DurationOrd.cmp as time_duration_ord_cmp
use Rattle.times.proofs.time.DurationOrd.cmp.Symbol as time_duration_ord_cmp_symbol
use Rattle.times.proofs.time.DurationOrd.cmp.Met as time_duration_ord_cmp_met
use Rattle.times.specs.contracts.time.StrayedPartialEq.eq as time_strayed_partial_eq_eq
use Rattle.times.proofs.time.StrayedPartialEq.eq.Symbol as time_strayed_partial_eq_eq_symbol
use Rattle.times.proofs.time.StrayedPartialEq.eq.Met as time_strayed_partial_eq_eq_met
use Rattle.settling.specs.Determined.{Determined}
use Rattle.settling.proofs.Facts.{by_clause}
use Rattle.contracts.proofs.Rules.{one_answer}

pub time_time_point_since_determined :
    Determined time_time_point_since_symbol.code time_time_point_since_symbol.name time_time_point_since.ended (λ M 𝓤. time_time_point_since.clauses)
time_time_point_since_determined = record {
  met = λ M. time_time_point_since_met.met;
  kept = refl;
  free = λ M 𝓤 𝓛 mem run κs a. (tt, id⊢ 𝓤 (emp 𝓤));
  one = λ M 𝓤 𝓛 mem run κs a g g' r r' left left' s s'.
      by_clause 𝓤 time_time_point_since.ended κs a r r' left left' (λ p q. (search one_answer, search one_answer)) s s';
}

pub time_time_point_plus_determined :
    Determined time_time_point_plus_symbol.code time_time_point_plus_symbol.name time_time_point_plus.ended (λ M 𝓤. time_time_point_plus.clauses)
time_time_point_plus_determined = record {
  met = λ M. time_time_point_plus_met.met;
  kept = refl;
  free = λ M 𝓤 𝓛 mem run κs a. (tt, id⊢ 𝓤 (emp 𝓤));
  one = λ M 𝓤 𝓛 mem run κs a g g' r r' left left' s s'.
      by_clause 𝓤 time_time_point_plus.ended κs a r r' left left' (λ p q. (search one_answer, search one_answer)) s s';
}

pub time_time_point_plus_secs_f64_determined :
    Determined time_time_point_plus_secs_f64_symbol.code time_time_point_plus_secs_f64_symbol.name time_time_point_plus_secs_f64.ended (λ M 𝓤. time_time_point_plus_secs_f64.clauses)
time_time_point_plus_secs_f64_determined = record {
  met = λ M. time_time_point_plus_secs_f64_met.met;
  kept = refl;
  free = λ M 𝓤 𝓛 mem run κs a. (tt, id⊢ 𝓤 (emp 𝓤));
  one = λ M 𝓤 𝓛 mem run κs a g g' r r' left left' s s'.
      by_clause 𝓤 time_time_point_plus_secs_f64.ended κs a r r' left left' (λ p q. (search one_answer, search one_answer)) s s';
}

pub time_time_point_is_exact_determined :
    Determined time_time_point_is_exact_symbol.code time_time_point_is_exact_symbol.name time_time_point_is_exact.ended (λ M 𝓤. time_time_point_is_exact.clauses)
time_time_point_is_exact_determined = record {
  met = λ M. time_time_point_is_exact_met.met;
  kept = refl;
  free = λ M 𝓤 𝓛 mem run κs a. (tt, id⊢ 𝓤 (emp 𝓤));
  one = λ M 𝓤 𝓛 mem run κs a g g' r r' left left' s s'.
      by_clause 𝓤 time_time_point_is_exact.ended κs a r r' left left' (λ p q. (search one_answer, search one_answer)) s s';
}

pub time_time_point_is_before_determined :
    Determined time_time_point_is_before_symbol.code time_time_point_is_before_symbol.name time_time_point_is_before.ended (λ M 𝓤. time_time_point_is_before.clauses)
time_time_point_is_before_determined = record {
  met = λ M. time_time_point_is_before_met.met;
  kept = refl;
  free = λ M 𝓤 𝓛 mem run κs a. (tt, id⊢ 𝓤 (emp 𝓤));
  one = λ M 𝓤 𝓛 mem run κs a g g' r r' left left' s s'.
      by_clause 𝓤 time_time_point_is_before.ended κs a r r' left left' (λ p q. (search one_answer, search one_answer)) s s';
}

pub time_time_point_max_determined :
    Determined time_time_point_max_symbol.code time_time_point_max_symbol.name time_time_point_max.ended (λ M 𝓤. time_time_point_max.clauses)
time_time_point_max_determined = record {
  met = λ M. time_time_point_max_met.met;
  kept = refl;
  free = λ M 𝓤 𝓛 mem run κs a. (tt, id⊢ 𝓤 (emp 𝓤));
  one = λ M 𝓤 𝓛 mem run κs a g g' r r' left left' s s'.
      by_clause 𝓤 time_time_point_max.ended κs a r r' left left' (λ p q. (search one_answer, search one_answer)) s s';
}

pub time_time_point_min_determined :
    Determined time_time_point_min_symbol.code time_time_point_min_symbol.name time_time_point_min.ended (λ M 𝓤. time_time_point_min.clauses)
time_time_point_min_determined = record {
  met = λ M. time_time_point_min_met.met;
  kept = refl;
  free = λ M 𝓤 𝓛 mem run κs a. (tt, id⊢ 𝓤 (emp 𝓤));
  one = λ M 𝓤 𝓛 mem run κs a g g' r r' left left' s s'.
      by_clause 𝓤 time_time_point_min.ended κs a r r' left left' (λ p q. (search one_answer, search one_answer)) s s';
}

pub time_time_point_as_secs_f64_determined :
    Determined time_time_point_as_secs_f64_symbol.code time_time_point_as_secs_f64_symbol.name time_time_point_as_secs_f64.ended (λ M 𝓤. time_time_point_as_secs_f64.clauses)
time_time_point_as_secs_f64_determined = record {
  met = λ M. time_time_point_as_secs_f64_met.met;
  kept = refl;
  free = λ M 𝓤 𝓛 mem run κs a. (tt, id⊢ 𝓤 (emp 𝓤));
  one = λ M 𝓤 𝓛 mem run κs a g g' r r' left left' s s'.
      by_clause 𝓤 time_time_point_as_secs_f64.ended κs a r r' left left' (λ p q. (search one_answer, search one_answer)) s s';
}

pub time_time_point_from_secs_f64_determined :
    Determined time_time_point_from_secs_f64_symbol.code time_time_point_from_secs_f64_symbol.name time_time_point_from_secs_f64.ended (λ M 𝓤. time_time_point_from_secs_f64.clauses)
time_time_point_from_secs_f64_determined = record {
  met = λ M. time_time_point_from_secs_f64_met.met;
  kept = refl;
  free = λ M 𝓤 𝓛 mem run κs a. (tt, id⊢ 𝓤 (emp 𝓤));
  one = λ M 𝓤 𝓛 mem run κs a g g' r r' left left' s s'.
      by_clause 𝓤 time_time_point_from_secs_f64.ended κs a r r' left left' (λ p q. (search one_answer, search one_answer)) s s';
}

pub time_duration_is_exact_determined :
    Determined time_duration_is_exact_symbol.code time_duration_is_exact_symbol.name time_duration_is_exact.ended (λ M 𝓤. time_duration_is_exact.clauses)
time_duration_is_exact_determined = record {
  met = λ M. time_duration_is_exact_met.met;
  kept = refl;
  free = λ M 𝓤 𝓛 mem run κs a. (tt, id⊢ 𝓤 (emp 𝓤));
  one = λ M 𝓤 𝓛 mem run κs a g g' r r' left left' s s'.
      by_clause 𝓤 time_duration_is_exact.ended κs a r r' left left' (λ p q. (search one_answer, search one_answer)) s s';
}

pub time_duration_plus_determined :
    Determined time_duration_plus_symbol.code time_duration_plus_symbol.name time_duration_plus.ended (λ M 𝓤. time_duration_plus.clauses)
time_duration_plus_determined = record {
  met = λ M. time_duration_plus_met.met;
  kept = refl;
  free = λ M 𝓤 𝓛 mem run κs a. (tt, id⊢ 𝓤 (emp 𝓤));
  one = λ M 𝓤 𝓛 mem run κs a g g' r r' left left' s s'.
      by_clause 𝓤 time_duration_plus.ended κs a r r' left left' (λ p q. (search one_answer, search one_answer)) s s';
}

pub time_duration_is_below_determined :
    Determined time_duration_is_below_symbol.code time_duration_is_below_symbol.name time_duration_is_below.ended (λ M 𝓤. time_duration_is_below.clauses)
time_duration_is_below_determined = record {
  met = λ M. time_duration_is_below_met.met;
  kept = refl;
  free = λ M 𝓤 𝓛 mem run κs a. (tt, id⊢ 𝓤 (emp 𝓤));
  one = λ M 𝓤 𝓛 mem run κs a g g' r r' left left' s s'.
      by_clause 𝓤 time_duration_is_below.ended κs a r r' left left' (λ p q. (search one_answer, search one_answer)) s s';
}

pub time_duration_as_secs_f64_determined :
    Determined time_duration_as_secs_f64_symbol.code time_duration_as_secs_f64_symbol.name time_duration_as_secs_f64.ended (λ M 𝓤. time_duration_as_secs_f64.clauses)
time_duration_as_secs_f64_determined = record {
  met = λ M. time_duration_as_secs_f64_met.met;
  kept = refl;
  free = λ M 𝓤 𝓛 mem run κs a. (tt, id⊢ 𝓤 (emp 𝓤));
  one = λ M 𝓤 𝓛 mem run κs a g g' r r' left left' s s'.
      by_clause 𝓤 time_duration_as_secs_f64.ended κs a r r' left left' (λ p q. (search one_answer, search one_answer)) s s';
}

pub time_duration_from_secs_f64_determined :
    Determined time_duration_from_secs_f64_symbol.code time_duration_from_secs_f64_symbol.name time_duration_from_secs_f64.ended (λ M 𝓤. time_duration_from_secs_f64.clauses)
time_duration_from_secs_f64_determined = record {
  met = λ M. time_duration_from_secs_f64_met.met;
  kept = refl;
  free = λ M 𝓤 𝓛 mem run κs a. (tt, id⊢ 𝓤 (emp 𝓤));
  one = λ M 𝓤 𝓛 mem run κs a g g' r r' left left' s s'.
      by_clause 𝓤 time_duration_from_secs_f64.ended κs a r r' left left' (λ p q. (search one_answer, search one_answer)) s s';
}

pub time_refusal_from_strayed_from_determined :
    Determined time_refusal_from_strayed_from_symbol.code time_refusal_from_strayed_from_symbol.name time_refusal_from_strayed_from.ended (λ M 𝓤. time_refusal_from_strayed_from.clauses)
time_refusal_from_strayed_from_determined = record {
  met = λ M. time_refusal_from_strayed_from_met.met;
  kept = refl;
  free = λ M 𝓤 𝓛 mem run κs a. (tt, id⊢ 𝓤 (emp 𝓤));
  one = λ M 𝓤 𝓛 mem run κs a g g' r r' left left' s s'.
      by_clause 𝓤 time_refusal_from_strayed_from.ended κs a r r' left left' (λ p q. (search one_answer, search one_answer)) s s';
}

pub time_time_point_partial_eq_eq_determined :
    Determined time_time_point_partial_eq_eq_symbol.code time_time_point_partial_eq_eq_symbol.name time_time_point_partial_eq_eq.ended (λ M 𝓤. time_time_point_partial_eq_eq.clauses)
time_time_point_partial_eq_eq_determined = record {
  met = λ M. time_time_point_partial_eq_eq_met.met;
  kept = refl;
  free = λ M 𝓤 𝓛 mem run κs a. (tt, id⊢ 𝓤 (emp 𝓤));
  one = λ M 𝓤 𝓛 mem run κs a g g' r r' left left' s s'.
      by_clause 𝓤 time_time_point_partial_eq_eq.ended κs a r r' left left' (λ p q. (search one_answer, search one_answer)) s s';
}

pub time_time_point_partial_ord_partial_cmp_determined :
    Determined time_time_point_partial_ord_partial_cmp_symbol.code time_time_point_partial_ord_partial_cmp_symbol.name time_time_point_partial_ord_partial_cmp.ended (λ M 𝓤. time_time_point_partial_ord_partial_cmp.clauses)
time_time_point_partial_ord_partial_cmp_determined = record {
  met = λ M. time_time_point_partial_ord_partial_cmp_met.met;
  kept = refl;
  free = λ M 𝓤 𝓛 mem run κs a. (tt, id⊢ 𝓤 (emp 𝓤));
  one = λ M 𝓤 𝓛 mem run κs a g g' r r' left left' s s'.
      by_clause 𝓤 time_time_point_partial_ord_partial_cmp.ended κs a r r' left left' (λ p q. (search one_answer, search one_answer)) s s';
}

pub time_time_point_ord_cmp_determined :
    Determined time_time_point_ord_cmp_symbol.code time_time_point_ord_cmp_symbol.name time_time_point_ord_cmp.ended (λ M 𝓤. time_time_point_ord_cmp.clauses)
time_time_point_ord_cmp_determined = record {
  met = λ M. time_time_point_ord_cmp_met.met;
  kept = refl;
  free = λ M 𝓤 𝓛 mem run κs a. (tt, id⊢ 𝓤 (emp 𝓤));
  one = λ M 𝓤 𝓛 mem run κs a g g' r r' left left' s s'.
      by_clause 𝓤 time_time_point_ord_cmp.ended κs a r r' left left' (λ p q. (search one_answer, search one_answer)) s s';
}

pub time_duration_partial_eq_eq_determined :
    Determined time_duration_partial_eq_eq_symbol.code time_duration_partial_eq_eq_symbol.name time_duration_partial_eq_eq.ended (λ M 𝓤. time_duration_partial_eq_eq.clauses)
time_duration_partial_eq_eq_determined = record {
  met = λ M. time_duration_partial_eq_eq_met.met;
  kept = refl;
  free = λ M 𝓤 𝓛 mem run κs a. (tt, id⊢ 𝓤 (emp 𝓤));
  one = λ M 𝓤 𝓛 mem run κs a g g' r r' left left' s s'.
      by_clause 𝓤 time_duration_partial_eq_eq.ended κs a r r' left left' (λ p q. (search one_answer, search one_answer)) s s';
}

pub time_duration_partial_ord_partial_cmp_determined :
    Determined time_duration_partial_ord_partial_cmp_symbol.code time_duration_partial_ord_partial_cmp_symbol.name time_duration_partial_ord_partial_cmp.ended (λ M 𝓤. time_duration_partial_ord_partial_cmp.clauses)
time_duration_partial_ord_partial_cmp_determined = record {
  met = λ M. time_duration_partial_ord_partial_cmp_met.met;
  kept = refl;
  free = λ M 𝓤 𝓛 mem run κs a. (tt, id⊢ 𝓤 (emp 𝓤));
  one = λ M 𝓤 𝓛 mem run κs a g g' r r' left left' s s'.
      by_clause 𝓤 time_duration_partial_ord_partial_cmp.ended κs a r r' left left' (λ p q. (search one_answer, search one_answer)) s s';
}

pub time_duration_ord_cmp_determined :
    Determined time_duration_ord_cmp_symbol.code time_duration_ord_cmp_symbol.name time_duration_ord_cmp.ended (λ M 𝓤. time_duration_ord_cmp.clauses)
time_duration_ord_cmp_determined = record {
  met = λ M. time_duration_ord_cmp_met.met;
  kept = refl;
  free = λ M 𝓤 𝓛 mem run κs a. (tt, id⊢ 𝓤 (emp 𝓤));
  one = λ M 𝓤 𝓛 mem run κs a g g' r r' left left' s s'.
      by_clause 𝓤 time_duration_ord_cmp.ended κs a r r' left left' (λ p q. (search one_answer, search one_answer)) s s';
}

pub time_strayed_partial_eq_eq_determined :
    Determined time_strayed_partial_eq_eq_symbol.code time_strayed_partial_eq_eq_symbol.name time_strayed_partial_eq_eq.ended (λ M 𝓤. time_strayed_partial_eq_eq.clauses)
time_strayed_partial_eq_eq_determined = record {
  met = λ M. time_strayed_partial_eq_eq_met.met;
  kept = refl;
  free = λ M 𝓤 𝓛 mem run κs a. (tt, id⊢ 𝓤 (emp 𝓤));
  one = λ M 𝓤 𝓛 mem run κs a g g' r r' left left' s s'.
      by_clause 𝓤 time_strayed_partial_eq_eq.ended κs a r r' left left' (λ p q. (search one_answer, search one_answer)) s s';
}

-- The worked examples hold: each is worked out by the prover (RULES, section 10).
-- Assumes nothing.
use mathlib.Core.Path.{refl}
use lib.Ieee
use Rattle.lent.specs.Listed.{listed, every}
use Rattle.floats.specs.Compare.{larger_of, smaller_of, is_between}
use Rattle.root.specs.Root.{least_units, root_of}
use Rattle.root.specs.Digits.{whole_root, root_pattern}
use Rattle.times.specs.Time.{is_exact, span_between, span_sum, instant_after, earlier_of, seconds_of, span_of_seconds}
use Rattle.times.specs.Time.{instant_of_seconds, instant_after_seconds}
use Rattle.shapes.specs.Box.{box_of_point, incorporating, inflated, box_of_leg, overlap}
use Rattle.shapes.specs.Distance.{critical_distance, critical_distance_squared, follow_distance}
use Rattle.domain.specs.Domain.{is_time, is_coordinate, is_radius, is_limit, is_waypoint, is_leg, is_profile}
use Rattle.shapes.specs.Leg.{place_of, is_backward, is_rising, is_brief}
use Rattle.shapes.specs.Vector.{vector_sum, vector_difference, scaled, divided, dot_of}
use Rattle.courses.specs.Course.{run_of, course_of}
use Rattle.courses.specs.Norm.{norm_of, direction_of}
use Rattle.line_proximity.specs.NearLine.{across_quadratic, outlasting, past_end, spell_of, near_line}
use Rattle.line_proximity.specs.Stationary.{stationary_proximity}
use Rattle.hint_list.specs.Hint.{is_within_million, is_placed}
use Rattle.hint_list.specs.Hints.{one_hint, one_wait, found_then}
use Rattle.hint_waits.specs.Crossing.{before_crossing, beside_line, crossing_wait}
use Rattle.hint_waits.specs.Parts.{agent_after}
use Rattle.hint_waits.specs.Standing.{first_begin, near_ends, standing_wait}
use Rattle.hint_waits.specs.Oncoming.{oncoming_wait}
use Rattle.hint_chasing.specs.Chase.{first_seen, chase_of, opening_of}
use Rattle.hint_sawtooth.specs.Rounds.{stride_of, round_of, rounds_in}
use Rattle.hint_following.specs.Follow.{stop_hint, opened, is_followed, follow_hints}
use Rattle.hint_ranking.specs.Ranked.{goes_before, inserted}
use Rattle.table.specs.Obstacle.{legs_of, widened, box_of_trajectory}
use Rattle.table.specs.Lent.{waypoints_listed, obstacles_of}
use Rattle.table.specs.Examined.{tiles, is_laid, is_trajectory, legs_in_all, is_few, are_trajectories, is_shaped, is_allowed}
use Rattle.table.specs.Examined.{are_allowed, table_examined, agent_examined}
use Rattle.hint_walk.specs.LegHints.{part_of, part_hints, leg_hints}
use Rattle.hint_walk.specs.Walk.{gaps_of, other_of, near_leg, near_legs, near_obstacle, near_obstacles, hints_of}
use Rattle.hints.specs.Asked.{asked_hints}
use Rattle.hints.specs.Contour.{scale_of, contour_of, grade_of, graded_onto, measured_by, ranked_hints}
use Rattle.hint_examples.specs.Worked.{Worked}

pub worked : Worked
unfolding asked_hints agent_examined table_examined is_shaped is_laid tiles listed every is_few legs_in_all is_trajectory
    are_trajectories are_allowed is_allowed is_profile is_radius is_between is_leg is_waypoint is_time is_coordinate is_limit is_backward
    is_rising is_brief obstacles_of waypoints_listed box_of_trajectory widened legs_of critical_distance_squared critical_distance
    follow_distance larger_of smaller_of box_of_point incorporating inflated box_of_leg overlap place_of vector_sum vector_difference
    scaled divided dot_of run_of course_of across_quadratic outlasting past_end spell_of near_line norm_of direction_of
    stationary_proximity one_hint one_wait found_then is_within_million is_placed crossing_wait beside_line before_crossing
    agent_after standing_wait first_begin near_ends oncoming_wait first_seen chase_of opening_of stride_of round_of rounds_in
    stop_hint opened is_followed follow_hints hints_of near_obstacles near_obstacle near_legs near_leg other_of gaps_of leg_hints
    part_hints part_of ranked_hints measured_by graded_onto grade_of contour_of scale_of goes_before inserted root_of least_units
    root_pattern whole_root earlier_of span_between span_sum is_exact seconds_of instant_of_seconds instant_after_seconds
    span_of_seconds instant_after Ieee.of_bits Ieee.of_int Ieee.add Ieee.sub Ieee.mul Ieee.div Ieee.neg Ieee.le Ieee.lt
    Ieee.to_signed
worked =
    record {
      following =
          record {
            half_as_fast = refl;
            half_as_fast_ranked = refl;
            within_follow_distance = refl;
            within_follow_distance_ranked = refl;
            caught_up = refl;
            set_out_before = refl;
            as_fast = refl;
            at_the_start = refl;
            behind = refl;
          };
      chases =
          record {
            until_gone = refl;
            until_gone_ranked = refl;
            to_the_end = refl;
            too_many = refl;
            too_many_number = refl;
          };
      standing =
          record {
            on_the_way = refl;
            on_the_way_ranked = refl;
            stands_behind = refl;
            beyond_the_goal = refl;
            beside_the_way = refl;
            draws_onto_the_way = refl;
            leaves_the_way = refl;
          };
      oncoming =
          record {
            comes_to_meet = refl;
            comes_to_meet_ranked = refl;
            comes_past = refl;
            turns_off = refl;
            gone_before = refl;
            gone_before_ranked = refl;
          };
      past_end =
          record {
            goes_on_beyond = refl;
            goes_on_beyond_ranked = refl;
            comes_from_beyond = refl;
          };
    }

-- The marked examples hold: each is worked out by the prover (RULES, section 16, 18.10).
-- Assumes nothing.
use mathlib.Core.Path.{refl}
use lib.Ieee
use Rattle.lent.specs.Listed.{listed, every}
use Rattle.lent.specs.Rows.{words_in, has_room}
use Rattle.floats.specs.Compare.{larger_of, smaller_of, is_between, size_of}
use Rattle.root.specs.Root.{least_units, root_of}
use Rattle.root.specs.Digits.{whole_root, root_pattern}
use Rattle.times.specs.Time.{is_exact, span_between, span_sum, instant_after, later_of, earlier_of, seconds_of, span_of_seconds}
use Rattle.times.specs.Time.{instant_after_seconds}
use Rattle.shapes.specs.Box.{box_of_point, incorporating, inflated, box_of_leg, overlap}
use Rattle.shapes.specs.Distance.{critical_distance, critical_distance_squared}
use Rattle.domain.specs.Domain.{is_time, is_coordinate, is_radius, is_limit, is_waypoint, is_leg, is_profile}
use Rattle.shapes.specs.Leg.{place_of, holds, is_inside, is_backward, is_rising, is_brief}
use Rattle.shapes.specs.Vector.{vector_sum, vector_difference, scaled, divided, dot_of}
use Rattle.proximity.specs.Asked.{legs_examined, asked_proximity}
use Rattle.motions.specs.Motion.{motion_at}
use Rattle.motions.specs.Quadratic.{meeting_from}
use Rattle.proximity.specs.Proximity.{passage, by_roots, long_range, proximity_of}
use Rattle.conflicts.specs.Asked.{carts_examined, asked_conflict}
use Rattle.conflicts.specs.Conflict.{closing_at, entered_at, conflict_of}
use Rattle.courses.specs.Course.{run_of, course_of}
use Rattle.line_proximity.specs.NearLine.{across_quadratic, outlasting, past_end, spell_of, near_line}
use Rattle.courses.specs.Norm.{norm_of, direction_of}
use Rattle.line_proximity.specs.Stationary.{stationary_proximity}
use Rattle.hint_list.specs.Hint.{is_placed, is_within_million}
use Rattle.hint_list.specs.Hints as W
use Rattle.hint_waits.specs.Crossing.{before_crossing, beside_line, crossing_wait}
use Rattle.hint_waits.specs.Parts.{agent_after}
use Rattle.hint_waits.specs.Standing.{standing_wait}
use Rattle.hint_ranking.specs.Ranked.{inserted}
use Rattle.table.specs.Obstacle.{legs_of, widened, box_of_trajectory}
use Rattle.table.specs.Lent.{waypoints_listed, obstacles_of}
use Rattle.table.specs.Examined.{tiles, is_laid, is_trajectory, legs_in_all, is_few, are_trajectories, is_shaped, is_allowed, are_allowed}
use Rattle.table.specs.Examined.{table_examined, agent_examined}
use Rattle.hints.specs.Asked.{asked_hints}
use Rattle.hints.specs.Contour.{scale_of, contour_of, grade_of, graded_onto, measured_by, ranked_hints}
use Rattle.hint_walk.specs.LegHints.{part_of, part_hints, leg_hints}
use Rattle.hint_walk.specs.Walk.{gaps_of, other_of, near_leg, near_legs, near_obstacle, near_obstacles, hints_of}
use Rattle.segments.specs.Segment.{is_during, leg_verdict, first_of, obstacle_verdict, segment_of}
use Rattle.arrival_search.specs.Legs.{meets, follows, relieved, sooner}
use Rattle.arrival_search.specs.Search.{legs_in, watched_obstacles, look, adjust, next_in, next, soonest, sweep, turn, search, arrivals, flee}
use Rattle.arrival_legs.specs.Watched.{standing_leg, near_of, watched_legs, watched_all, arrivals_at, ends_near}
use Rattle.path_search.specs.Recursive.{recursive_search}
use Rattle.path_roots.specs.Roots.{lateness, goal_contour, count_below, count_level, first_root}
use Rattle.path_tests.specs.Tests.{to_end, to_goal, waits_at, from_start, straight}
use Rattle.path_tests.specs.Travel.{hint_waypoint, reached_from}
use Rattle.path_tests.specs.Way.{way_of, both_ways}
use Rattle.path_chains.specs.Trying.{stop_in, to_parent, starts_at, chain_from}
use Rattle.path_actions.specs.Action.{action_words}
use Rattle.path_actions.specs.Built.{hold_after, stopped, ended, built, hints_at}
use Rattle.domain.specs.Beside.{is_budget, with_numbers}
use Rattle.one_path.specs.Path.{along_hints, taken, by_hints, path_for}
use Rattle.plan_model.specs.Asked.{table_plan, asked_plan}
use Rattle.plan_model.specs.Laid.{plan_number, plan_room, action_room_of}
use Rattle.plan_model.specs.Plan.{paths_for, paths_planned, times_planned, hints_planned, long_plan, short_plan, plan_of, all_actions}
use Rattle.arrival_times.specs.Asked.{asked_arrivals}
use Rattle.arrival_times.specs.Words.{arrivals_outcome}
use Rattle.marked_examples.specs.Marked.{Marked}
use Rattle.marked_examples.proofs.Printed.{crossing_printed}

pub marked : Marked
unfolding asked_proximity asked_conflict carts_examined legs_examined asked_hints asked_plan table_plan with_numbers is_budget agent_examined table_examined
    is_shaped are_trajectories is_laid tiles listed every is_few legs_in_all is_trajectory are_allowed is_allowed is_profile is_radius is_between is_leg
    is_waypoint is_time is_coordinate is_limit is_backward is_rising is_brief obstacles_of waypoints_listed
    box_of_trajectory widened legs_of critical_distance_squared critical_distance larger_of smaller_of size_of box_of_point
    incorporating inflated box_of_leg overlap place_of vector_sum vector_difference scaled divided dot_of proximity_of long_range meeting_from
    motion_at holds is_inside by_roots passage conflict_of closing_at entered_at segment_of obstacle_verdict first_of leg_verdict
    is_during run_of course_of across_quadratic outlasting past_end spell_of near_line norm_of direction_of stationary_proximity
    W.one_hint W.one_wait W.found_then is_within_million is_placed crossing_wait beside_line before_crossing
    agent_after standing_wait hints_of near_obstacles near_obstacle near_legs near_leg other_of gaps_of leg_hints part_hints part_of ranked_hints measured_by
    graded_onto grade_of contour_of scale_of inserted arrivals_at watched_all
    watched_legs standing_leg near_of arrivals legs_in watched_obstacles search turn sweep adjust look meets follows soonest next next_in
    chain_from recursive_search to_parent starts_at stop_in straight from_start waits_at to_goal to_end reached_from
    hint_waypoint way_of both_ways first_root count_level count_below goal_contour lateness plan_of short_plan long_plan hints_planned times_planned
    paths_planned paths_for path_for by_hints taken along_hints hints_at built ended stopped hold_after plan_number plan_room
    action_room_of has_room words_in all_actions action_words root_of least_units root_pattern whole_root later_of earlier_of span_between
    span_sum is_exact seconds_of instant_after_seconds span_of_seconds instant_after Ieee.of_bits Ieee.of_int Ieee.add Ieee.sub
    Ieee.mul Ieee.div Ieee.le Ieee.to_signed Ieee.to_bits asked_arrivals arrivals_outcome ends_near flee relieved sooner Ieee.lt
marked =
    record {
      limit = refl;
      p1_near = refl;
      p1 = refl;
      p2 = refl;
      p3 = refl;
      p4 = refl;
      p5 = refl;
      p5_number = refl;
      p6 = refl;
      p6_number = refl;
      p7 = refl;
      p8_near = refl;
      p8 = refl;
      p9_near = refl;
      p9 = refl;
      p10_hints = refl;
      p10 = refl;
      p10_number = refl;
      p10_paths = refl;
      p10_actions = refl;
      p10_printed = crossing_printed refl;
      p10_spent = refl;
      p10_spent_number = refl;
      p10_brief = refl;
    }

-- `hints::path_hints::rank` meets its contract: at each turn the hints so far are ranked in front of the others.
-- Assumes nothing.
use Rattle.std.proofs.Common.{rules}
use Prim.Native.Nat.{◌<◌}
use mathlib.Core.Path.{◌≡◌, sym, ap, ◌∙◌}
use native.Mathlib.Omega.{arith}
use lib.Ieee.{binary64}
use lib.Ieee.Bits.{of_bits-to_bits}
use Rattle.refusals.specs.declared.Refusal.TheVariants as Refusals
use Rattle.number_words.proofs.Words.{signed_back}
use Rattle.hint_list.specs.Words.{count_in, hint_in}
use Rattle.hint_list.specs.declared.hint.RankedHint.{RankedHint}
use Rattle.hint_list.proofs.Words.{KeptRanked}
use Rattle.hints.specs.Contour.{grade_of}
use Rattle.hints.proofs.Walking.{none_yet, found_next, one_more, one_strays, all_ranked, refused_over}
use Rattle.hints.proofs.path_hints.rank.Goals as goal
use Rattle.hints.proofs.path_hints.rank.Goals.{After-grade_of, In-Ok, In-loop-i}

pub loop-i-init : goal.loop-i-init
loop-i-init c = none_yet c.args.scale c.args.hints.now

-- There is a hint at place i,
there : (c : In-loop-i) →
    c.loop-i.i < count_in c.args.hints.now
there c = omega (arith, c.count_of-n.ensures)

-- and it is measured as it was found.
graded : (c : After-grade_of) →
    let a = c.args in
    c.grade_of.result ≡ grade_of a.scale (hint_in a.hints.now c.loop-i.i).hint
graded c =
    let a = c.args in
    let place = there c.before.before.before in
    let read = found_next a.scale a.hints.now c.loop-i.hints c.loop-i.i c.loop-i.invariant place in
    c.grade_of.ensures ∙ ap (λ (r : RankedHint). grade_of a.scale r.hint) (c.hint_at-found.ensures ∙ read)

pub returns-in_default : goal.returns-in_default
returns-in_default c =
    let a = c.args in
    let words = a.hints.now in
    let strays = sym (graded (goal.at.returns-in_default c).After-grade_of) ∙ c.in_default.is in
    let place = there (goal.at.returns-in_default c).In-loop-i in
    rw (one_strays a.scale words c.loop-i.hints c.loop-i.i c.loop-i.invariant place strays)
    (refused_over Refusals.Strayed words c.refuse.new.hints c.refuse.result c.refuse.ensures)

-- The numbers of a ranked hint are machine numbers.
kept : (c : In-Ok) → KeptRanked c.in-Ok.ranked
kept c =
    let h = c.in-Ok.ranked.hint in
    record {
      contour = search rules;
      reach = search rules;
      hint = record {
        x = of_bits-to_bits binary64 h.place.x (search rules);
        y = of_bits-to_bits binary64 h.place.y (search rules);
        until = signed_back h.until.0 (search rules);
      };
    }

pub loop-i-preserved : goal.loop-i-preserved
loop-i-preserved c =
    let a = c.args in
    let words = a.hints.now in
    let given = sym (graded (goal.at.loop-i-preserved c).After-grade_of) ∙ c.in-Ok.is in
    let place = there (goal.at.loop-i-preserved c).In-loop-i in
    let next =
    one_more a.scale words c.loop-i.hints c.loop-i.i c.loop-i.invariant c.in-Ok.ranked c.requires place given
    (kept (goal.at.loop-i-preserved c).In-Ok) in
    rw c.put_in_rank.ensures next

pub returns : goal.returns
returns c =
    let words = c.args.hints.now in
    let end : count_in words ≡ c.loop-i.i = omega (arith, c.count_of-n.ensures) in
    let all : c.count_of-n.result ≡ c.loop-i.i = omega arith in
    rw all (all_ranked c.args.scale words c.loop-i.hints c.loop-i.i c.loop-i.invariant c.requires end)

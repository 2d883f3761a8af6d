-- `hints::path_hints::compute_safe_linear_path_wait_hints` meets its contract: the refusal of the search, or all hints, ranked.
-- Assumes nothing.
use Rattle.std.proofs.Common.{rules, ◌≡◌}
use Rattle.std.specs.Prelude.{Err}
use Rattle.hint_list.proofs.Added.{answer_given, answer_refused}
use Rattle.hints.specs.Contour.{ranked_hints}
use Rattle.hints.proofs.Found.{refused_ranks}
use Rattle.hints.proofs.path_hints.compute_safe_linear_path_wait_hints.Goals as goal

pub returns-in_err-n : goal.returns-in_err-n
unfolding ranked_hints
returns-in_err-n c =
    let added = c.in_err-n.ensures in
    let refused = answer_refused _ 0 _ added in
    let told : c.from_residual.result ≡ Err c.in_err-n.field-0.0 = search rules in
    rw (refused, told) (refused_ranks _ _ _ (rw refused at added))

pub returns : goal.returns
unfolding ranked_hints
returns c =
    let added = c.in_ok-n.ensures in
    let given = answer_given _ 0 _ added in
    rw given.1 (c.measure.ensures given.0 (rw given.1 at added))

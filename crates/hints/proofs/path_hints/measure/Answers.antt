-- `hints::path_hints::measure` meets its contract: the refusal of the scale, or the hints ranked by it.
-- Assumes nothing.
use mathlib.Core.Path.{sym, ◌∙◌}
use Rattle.hints.specs.Contour.{measured_by}
use Rattle.hints.proofs.Found.{found_hints, ranked_words_law}
use Rattle.hints.proofs.path_hints.measure.Goals as goal

pub returns-in-Ok : goal.returns-in-Ok
unfolding measured_by
returns-in-Ok c hs added =
    let a = c.args in
    let found = found_hints hs a.n a.hints.now added in
    rw (sym c.scale_of.ensures ∙ c.in-Ok.is)
    (ranked_words_law hs a.n a.hints.now added _ c.rank.new.hints c.rank.result (rw found at c.rank.ensures))

-- `hints::path_hints::refuse` meets its contract: the number, and zeros throughout.
-- Assumes nothing.
use mathlib.Core.Path.{refl}
use Rattle.hint_list.proofs.Reading.{no_hints}
use Rattle.hint_ranking.specs.Hints.{filled_by, ranked_words}
use Rattle.hints.proofs.path_hints.refuse.Goals as goal

pub returns : goal.returns
unfolding filled_by ranked_words
returns c = record { filled = refl; words = refl; held = no_hints }

-- A year in a caller's memory: what the words say, and what the calls leave there (RULES 21.12).
-- Assumes nothing.
use Rattle.std.specs.Prelude.{ℕ, cond, ◌&&◌, List, ◌∷◌, Option, Some, None, eqb, leb, length, take, drop, get_or, replicate}
use Rattle.refusals.specs.Names.{SHAPE, refusal_number}
use Rattle.lent.specs.Outcome.{Outcome, Gives, Refuses}
use Rattle.hold_lines.specs.declared.place.Place.{Place}
use Rattle.hold_lines.specs.declared.place.Place.TheVariants as P
use Rattle.hold_year.specs.declared.year.Reading.{Reading}
use Rattle.hold_year.specs.Parts.{Going, On, Over, begun, fed_by, finished}
use Rattle.hold_exports.specs.declared.kept.Spelt.{Spelt}

-- ---- A place in three words: its kind, the crew's number, and the digits so far. A broken place is never kept.

abbrev pub spelling : Place → Spelt
spelling P.Start = record { 0 = 0; 1 = 0; 2 = 0 }
spelling (P.Crew n) = record { 0 = 1; 1 = 0; 2 = n }
spelling (P.BeforeRound crew) = record { 0 = 2; 1 = crew; 2 = 0 }
spelling (P.Round crew n) = record { 0 = 3; 1 = crew; 2 = n }
spelling (P.BeforeHold crew) = record { 0 = 4; 1 = crew; 2 = 0 }
spelling (P.BeforeSize crew) = record { 0 = 5; 1 = crew; 2 = 0 }
spelling (P.Hold crew n) = record { 0 = 6; 1 = crew; 2 = n }
spelling (P.Below crew n) = record { 0 = 7; 1 = crew; 2 = n }
spelling P.Broken = record { 0 = 8; 1 = 0; 2 = 0 }

unfoldable pub place_in : ℕ → ℕ → ℕ → Option Place
place_in kind crew digits =
    cond (eqb kind 0) (Some P.Start)
    (cond (eqb kind 1) (Some (P.Crew digits))
    (cond (eqb kind 2) (Some (P.BeforeRound crew))
    (cond (eqb kind 3) (Some (P.Round crew digits))
    (cond (eqb kind 4) (Some (P.BeforeHold crew))
    (cond (eqb kind 5) (Some (P.BeforeSize crew))
    (cond (eqb kind 6) (Some (P.Hold crew digits))
    (cond (eqb kind 7) (Some (P.Below crew digits)) None)))))))

-- ---- A memory: 1, the lines taken, the place, and the crews' 192 words.

unfoldable pub memory_words : Reading → List ℕ → List ℕ
memory_words s figures = let p = spelling s.place in 1 ∷ s.lines ∷ p.0 ∷ p.1 ∷ p.2 ∷ figures

abbrev pub kept_at : Option Place → ℕ → Option Reading
kept_at (Some place) lines = Some (record { lines = lines; place = place })
kept_at None lines = None

-- Words that are too few, that do not begin with 1 or that name no place are no year that was begun.
unfoldable pub reading_in : List ℕ → Option Reading
reading_in memory =
    cond (leb 197 (length memory) && eqb (get_or memory 0 0) 1)
    (kept_at (place_in (get_or memory 2 0) (get_or memory 3 0) (get_or memory 4 0)) (get_or memory 1 0))
    None

unfoldable pub figures_in : List ℕ → List ℕ
figures_in memory = take 192 (drop 5 memory)

-- ---- What the calls answer.

-- A year that is begun.
unfoldable pub begun_memory : Outcome
begun_memory = Gives (memory_words begun (replicate 192 0))

abbrev pub kept_going : Going → Outcome
kept_going (On s words) = Gives (memory_words s words)
kept_going (Over why) = Refuses (refusal_number why)

abbrev pub fed_from : Option Reading → List ℕ → List ℕ → Outcome
fed_from (Some s) figures part = kept_going (fed_by s figures part)
fed_from None figures part = Refuses SHAPE

-- A part is fed to what the memory holds.
unfoldable pub fed_memory : List ℕ → List ℕ → Outcome
fed_memory memory part = fed_from (reading_in memory) (figures_in memory) part

abbrev pub finished_from : Option Reading → List ℕ → Outcome
finished_from (Some s) figures = finished s figures
finished_from None figures = Refuses SHAPE

-- The answer where the text ends with what was fed so far.
unfoldable pub finished_memory : List ℕ → Outcome
finished_memory memory = finished_from (reading_in memory) (figures_in memory)

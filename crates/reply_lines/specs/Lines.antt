-- The lines of `plan`, and what is printed of an answer (RULES 15.1 to 15.8).
-- Assumes nothing.
use Rattle.std.specs.Prelude.{ℕ, List, [], ◌∷◌, ◌++◌}
use Prim.Native.String.{String}
use Rattle.lent.specs.Outcome.{Outcome, Gives, Refuses}
use Rattle.texts.specs.Letters.{bytes_of}
use Rattle.texts.specs.Numerals.{count_field, time_field, bits_field}

-- A line is a word, its fields and a newline, the byte 10 (RULES 15.8).
unfoldable pub line : String → List ℕ → List ℕ
line word fields = bytes_of word ++ (fields ++ (10 ∷ []))

-- Hints, arrival times, sweeps and paths (RULES 15.1).
unfoldable pub ok_line : ℕ → ℕ → ℕ → ℕ → List ℕ
ok_line hints times sweeps paths = line "ok" (count_field hints ++ (count_field times ++ (count_field sweeps ++ count_field paths)))

-- Arrival time, pops, hold (RULES 15.2).
unfoldable pub path_line : ℕ → ℕ → ℕ → List ℕ
path_line arrival pops hold = line "path" (time_field arrival ++ (count_field pops ++ time_field hold))

-- Time, x, y (RULES 15.3).
unfoldable pub move_line : ℕ → ℕ → ℕ → List ℕ
move_line time x y = line "move" (time_field time ++ (bits_field x ++ bits_field y))

-- Obstacle, end (RULES 15.4).
unfoldable pub wait_line : ℕ → ℕ → List ℕ
wait_line obstacle end = line "wait" (count_field obstacle ++ time_field end)

-- The number of a refusal (RULES 15.5).
unfoldable pub refused_line : ℕ → List ℕ
refused_line number = line "refused" (count_field number)

-- A text is printed as it is, a refusal as its one line (RULES 15.5, 15.6).
unfoldable pub printed : Outcome → List ℕ
printed (Gives text) = text
printed (Refuses n) = refused_line n

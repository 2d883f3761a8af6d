-- A word as the bytes of its letters.
-- Assumes nothing.
use Rattle.std.specs.Prelude.{ℕ, List}
use Prim.Native.Char.{code}
use Prim.Native.String.{String, [], ◌∷◌}
use mathlib.Core.List as L

unfoldable pub bytes_of : String → List ℕ
bytes_of [] = L.[]
bytes_of (c ∷ s) = L.◌∷◌ (code c) (bytes_of s)

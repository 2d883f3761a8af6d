-- A leg of plain numbers: its times travel as their 64 bits, and the leg of what is read back is the leg of the times.
-- Assumes nothing.
use mathlib.Core.Path.{◌≡◌, ◌∙◌}
use lib.IntN.{ℤ}
use lib.Ieee.{Float}
use mir.Syntax.{w64}
use mir.Val.{SFits}
use Rattle.number_words.proofs.ReadBack.{read, read_back}
use Rattle.shapes.specs.declared.waypoint.Leg.{Leg}
use Rattle.shapes.specs.Plain.{plain_leg}

pub leg_read : {leg : Leg} (t0 t1 : ℤ) (x0 y0 x1 y1 : Float) → SFits w64 t0 → SFits w64 t1 →
    leg ≡ plain_leg (read t0) x0 y0 (read t1) x1 y1 → leg ≡ plain_leg t0 x0 y0 t1 x1 y1
leg_read t0 t1 x0 y0 x1 y1 h0 h1 e = e ∙ (λ i. plain_leg (read_back t0 h0 i) x0 y0 (read_back t1 h1 i) x1 y1)

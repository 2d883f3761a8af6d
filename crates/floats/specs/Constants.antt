-- Numbers that the rules name, each by its value.
-- Assumes nothing.
use Rattle.std.specs.Prelude.{false, pos, from_bits, Float}
use Rattle.std.specs.Float.{fin, binary64}

-- +0, which compares equal to -0.
abbrev pub nought : Float
nought = fin false 0 (pos 0)

-- The double nearest to 1e-3 (RULES 7.2, 10.4).
abbrev pub thousandth : Float
thousandth = from_bits binary64 0x3f50_624d_d2f1_a9fc

-- 1e-4 (RULES 8.6, 8.13).
abbrev pub ten_thousandth : Float
ten_thousandth = from_bits binary64 0x3f1a_36e2_eb1c_432d

-- 1e-6 (RULES 9.5).
abbrev pub millionth : Float
millionth = from_bits binary64 0x3eb0_c6f7_a0b5_ed8d

-- 1e-8 (RULES 2.14, 8.12).
abbrev pub hundred_millionth : Float
hundred_millionth = from_bits binary64 0x3e45_798e_e230_8c3a

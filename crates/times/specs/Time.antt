-- Instants, spans and seconds (docs/RULES.md, section 6).
-- Assumes nothing.
use Rattle.std.specs.Prelude.{◌^◌, Bool, cond, ◌&&◌, [], ◌∷◌, ℤ, pos, ◌+ℤ◌, ◌-ℤ◌, int_lt, nat_le, unsigned_abs, Float}
use Rattle.std.specs.Float.Ieee
use Rattle.std.specs.Float.{binary64}
use Rattle.refusals.specs.Names.{STRAYED}
use Rattle.lent.specs.Outcome.{Outcome, Gives, Refuses}
use Rattle.number_words.specs.Word.{word_of}
use Rattle.times.specs.declared.time.TimePoint.{TimePoint}
use Rattle.times.specs.declared.time.Duration.{Duration}
use Rattle.std.specs.Prelude.{Result, Ok, Err}
use Rattle.times.specs.declared.time.Strayed.{Strayed}

-- A number of nanoseconds at most 2^53 in size: past it an instant or a span is refused 7 (RULES 4.7).
unfoldable pub is_exact : ℤ → Bool
is_exact ns = nat_le (unsigned_abs ns) (2 ^ 53)

-- A time that is refused 7.
abbrev pub strayed : {A : Type 0} → Result A Strayed
strayed = Err (record {})

-- The number itself where it is exact, and refusal 7 where it is not (RULES 4.7).
abbrev pub exact : ℤ → Result ℤ Strayed
exact ns = cond (is_exact ns) (Ok ns) strayed

-- The difference of two instants is a span, and nothing else (RULES 6.4).
unfoldable pub span_between : TimePoint → TimePoint → Result Duration Strayed
span_between earlier later =
    cond (is_exact later.0 && (is_exact earlier.0 && is_exact (later.0 -ℤ earlier.0)))
    (Ok (record { 0 = later.0 -ℤ earlier.0 }))
    strayed

-- An instant and a span make an instant (RULES 6.4).
unfoldable pub instant_after : TimePoint → Duration → Result TimePoint Strayed
instant_after t d =
    cond (is_exact t.0 && (is_exact d.0 && is_exact (t.0 +ℤ d.0)))
    (Ok (record { 0 = t.0 +ℤ d.0 }))
    strayed

-- Two spans make a span (RULES 6.4).
unfoldable pub span_sum : Duration → Duration → Result Duration Strayed
span_sum d e =
    cond (is_exact d.0 && (is_exact e.0 && is_exact (d.0 +ℤ e.0))) (Ok (record { 0 = d.0 +ℤ e.0 })) strayed

-- The later and the earlier of two instants, the first where they are one (RULES 6.6).
unfoldable pub later_of : TimePoint → TimePoint → TimePoint
later_of t u = cond (int_lt t.0 u.0) u t

unfoldable pub earlier_of : TimePoint → TimePoint → TimePoint
earlier_of t u = cond (int_lt u.0 t.0) u t

-- 1e9, exactly.
abbrev pub billion : Float
billion = Ieee.of_int binary64 (pos 1000000000)

-- 2^53, exactly.
abbrev pub two_to_53 : Float
two_to_53 = Ieee.of_int binary64 (pos (2 ^ 53))

-- Seconds: the nanoseconds as a double, divided by 1e9 (RULES 6.2).
unfoldable pub seconds_of : ℤ → Float
seconds_of ns = Ieee.div binary64 (Ieee.of_int binary64 ns) billion

-- Nanoseconds of seconds: one product with 1e9, cut toward zero; refused 7 for NaN or past 2^53 in size (RULES 6.3, 4.7).
unfoldable pub span_of_seconds : Float → Result Duration Strayed
span_of_seconds s =
    let p = Ieee.mul binary64 s billion in
    cond (Ieee.le (Ieee.neg two_to_53) p && Ieee.le p two_to_53) (Ok (record { 0 = Ieee.to_signed 63 p })) strayed

-- The instant that many seconds after the start, by the same rule (RULES 6.3).
unfoldable pub instant_of_seconds : Float → Result TimePoint Strayed
instant_of_seconds s = from_start (span_of_seconds s)
  where
    from_start : Result Duration Strayed → Result TimePoint Strayed
    from_start (Ok d) = Ok (record { 0 = d.0 })
    from_start (Err _) = strayed

-- The instant that many seconds after an instant: the seconds turned into a span, and that put after it (RULES 6.3, 6.4).
unfoldable pub instant_after_seconds : TimePoint → Float → Result TimePoint Strayed
instant_after_seconds t s = after (span_of_seconds s)
  where
    after : Result Duration Strayed → Result TimePoint Strayed
    after (Ok d) = instant_after t d
    after (Err _) = strayed

-- ---- Going on with a time; what follows one that strayed is said first.

abbrev pub with_span : {A : Type 0} → A → Result Duration Strayed → (Duration → A) → A
with_span lost (Ok d) go = go d
with_span lost (Err _) go = lost

abbrev pub with_instant : {A : Type 0} → A → Result TimePoint Strayed → (TimePoint → A) → A
with_instant lost (Ok t) go = go t
with_instant lost (Err _) go = lost

-- ---- The number and the word of each case (RULES 4.7).

abbrev pub span_outcome : Result Duration Strayed → Outcome
span_outcome (Ok d) = Gives (word_of d.0 ∷ [])
span_outcome (Err _) = Refuses STRAYED

abbrev pub instant_outcome : Result TimePoint Strayed → Outcome
instant_outcome (Ok t) = Gives (word_of t.0 ∷ [])
instant_outcome (Err _) = Refuses STRAYED

-- No line has more than 34 bytes, so that no year has more than 3,500,000: a longer text is refused while it is read.
-- Assumes nothing.
use Prim.Native.Nat.{ℕ, zero, suc, ◌+◌, ◌-◌, ◌*◌, ◌^◌, ◌≤◌, ◌<◌}
use mathlib.Core.Path.{◌≡◌, refl, sym, ap, ◌∙◌, subst}
use mathlib.Core.Bool.{Bool, true, false, cond, not, ◌&&◌, true≢false}
use mathlib.Core.List.{List, [], ◌∷◌, ◌++◌, append-nil}
use borrow.Author.Tests.{leb-true, leb-false, ltb-true, eqb-false}
use native.Mathlib.Nat.{pow-suc, pow-le-pow_right}
use native.Mathlib.Numerals.{add-one}
use native.Mathlib.Omega.{arith}
use Rattle.refusals.specs.Names.{LINE, refusal_number}
use Rattle.refusals.specs.declared.Refusal.TheVariants as Refusals
use Rattle.std.proofs.Common.{Option, Some, None}
use lib.Dec.{eqb, leb, ltb}
use lib.ListN.{length, replicate}
use Rattle.lent.specs.Outcome.{Gives, Refuses}
use Rattle.lent.specs.Rows.{words_in}
use Rattle.texts.specs.Reading.{is_digit}
use Rattle.hold_lines.specs.Place.{first_digit, next_digit, with_digits, size_from, stepped, closed}
use Rattle.hold_lines.specs.declared.place.Place.{Place}
use Rattle.hold_lines.specs.declared.place.Place.TheVariants as P
use Rattle.hold_lines.specs.declared.place.Line.{Line}
use Rattle.hold_figures.specs.Words.{Tally, Grown, Stopped, tallied}
use Rattle.hold_year.specs.Year.{year_reply}
use Rattle.hold_year.specs.Parts.{
  Going,
  On,
  Over,
  begun,
  counting,
  line_taken,
  line_ended,
  is_broken,
  byte_fed,
  going_on,
  fed_by,
  fed_parts,
  is_start,
  text_ended,
  reported,
  finished,
  answer_after,
}
use Rattle.hold_year.specs.declared.year.Reading.{Reading}
use Rattle.hold_year.proofs.Cut.{cut_anyhow}
use Rattle.hold_year.proofs.Steady.{Holds, fed_holds}

-- ---- Digits.

-- What m digits make, of which the first is 0 only if it is the only one.
record Makes (m n : ℕ) : Type 0 where
  none : n ≡ 0 → m ≤ 1
  some : 0 < n → 10 ^ m ≤ 10 * n

-- Behind `base` bytes of a line digits make a number to `most`, and m bytes of the line were read so far.
record Behind (base m n most : ℕ) : Type 0 where
  digits : ℕ
  within : m ≤ base + digits
  makes : Makes digits n
  limit : n ≤ most

abbrev Digital : (ℕ → Type 0) → Option ℕ → Type 0
Digital Q (Some n) = Q n
Digital Q None = Unit {0}

first_behind : (base m most b : ℕ) → m ≤ base → 9 ≤ most → Digital (λ n. Behind base (m + 1) n most) (first_digit b)
unfolding first_digit is_digit
first_behind base m most b h k = by (leb 48 b) (leb b 57) refl
  where
    by : (low high : Bool) → leb b 57 ≡ high →
        Digital (λ n. Behind base (m + 1) n most) (cond (low && high) (Some (b - 48)) None)
    by true true e =
        record {
          digits = 1;
          within = omega arith;
          makes = record { none = λ z. omega arith; some = λ p. omega arith };
          limit = omega (arith, leb-true b 57 e);
        }
    by true false e = tt
    by false high e = tt

not_zero : (n : ℕ) → (n ≡ 0 → ⊥) → 0 < n
not_zero zero never = absurd (never refl)
not_zero (suc n) never = omega arith

next_behind : (base m n most b : ℕ) → Behind base m n most → Digital (λ n. Behind base (m + 1) n most) (next_digit most n b)
unfolding next_digit
next_behind base m n most b h = by (eqb n 0) refl (is_digit b) (leb (n * 10 + (b - 48)) most) refl
  where
    by : (none : Bool) → eqb n 0 ≡ none → (digit fits : Bool) → leb (n * 10 + (b - 48)) most ≡ fits →
        Digital (λ n. Behind base (m + 1) n most) (cond (not none && (digit && fits)) (Some (n * 10 + (b - 48))) None)
    by true e digit fits k = tt
    by false e false fits k = tt
    by false e true false k = tt
    by false e true true k =
        let never : n ≡ 0 → ⊥ = eqb-false n 0 e in
        let above : 0 < n = not_zero n never in
        let more : 10 ^ (h.digits + 1) ≡ 10 ^ h.digits * 10 = rw add-one (pow-suc 10 h.digits) in
        record {
          digits = h.digits + 1;
          within = omega (arith, h.within);
          makes =
              record {
                none = λ z. absurd (never (omega arith));
                some = λ p. omega (arith, more, h.makes.some above);
              };
          limit = leb-true _ _ k;
        }

-- No more digits than the largest number has.
behind_short : (base m n most k : ℕ) → Behind base m n most → 1 ≤ k → 10 * most < 10 ^ (k + 1) → m ≤ base + k
behind_short base m n most k h one less = omega (arith, h.within, few n h.makes h.limit)
  where
    few : (n : ℕ) → Makes h.digits n → n ≤ most → h.digits ≤ k
    few zero makes limit = omega (arith, makes.none refl)
    few (suc n) makes limit = by (leb (k + 1) h.digits) refl
      where
        by : (long : Bool) → leb (k + 1) h.digits ≡ long → h.digits ≤ k
        by true e =
            let grown : 10 ^ (k + 1) ≤ 10 ^ h.digits = pow-le-pow_right (omega arith) (leb-true (k + 1) h.digits e) in
            absurd (omega (arith, grown, makes.some (omega arith), less))
        by false e = omega (arith, leb-false (k + 1) h.digits e)

-- ---- Places.

-- Where a line stands behind m bytes.
abbrev Reach : ℕ → Place → Type 0
Reach m P.Start = m ≡ 0
Reach m (P.Crew n) = Behind 0 m n 63
Reach m (P.BeforeRound crew) = m ≤ 3
Reach m (P.Round crew n) = Behind 3 m n (2 ^ 32 - 1)
Reach m (P.BeforeHold crew) = m ≤ 14
Reach m (P.BeforeSize crew) = m ≤ 15
Reach m (P.Hold crew n) = Behind 14 m n (2 ^ 63 - 1)
Reach m (P.Below crew n) = Behind 15 m n (2 ^ 63)
Reach m P.Broken = Unit {0}

step_reach : (place : Place) (m b : ℕ) → Reach m place → Reach (m + 1) (stepped place b)
unfolding stepped
step_reach place m b = by place
  where
    digits : (Q : ℕ → Type 0) (go : ℕ → Place) (d : Option ℕ) → Digital Q d → ((n : ℕ) → Q n → Reach (m + 1) (go n)) →
        Reach (m + 1) (with_digits d go)
    digits Q go (Some n) q h = h n q
    digits Q go None q h = tt

    either : (test : Bool) (p q : Place) → Reach (m + 1) p → Reach (m + 1) q → Reach (m + 1) (cond test p q)
    either true p q h k = h
    either false p q h k = k

    by : (place : Place) → Reach m place → Reach (m + 1) (stepped place b)
    by P.Start h = digits _ P.Crew (first_digit b) (first_behind 0 m 63 b (omega arith) (omega arith)) (λ n q. q)
    by (P.Crew n) h =
        either (eqb b 32) _ _ (omega (arith, behind_short 0 m n 63 2 h (omega arith) (omega arith)))
        (digits _ P.Crew (next_digit 63 n b) (next_behind 0 m n 63 b h) (λ n q. q))
    by (P.BeforeRound crew) h =
        digits _ (P.Round crew) (first_digit b) (first_behind 3 m (2 ^ 32 - 1) b h (omega arith)) (λ n q. q)
    by (P.Round crew n) h =
        either (eqb b 32) _ _ (omega (arith, behind_short 3 m n (2 ^ 32 - 1) 10 h (omega arith) (omega arith)))
        (digits _ (P.Round crew) (next_digit (2 ^ 32 - 1) n b) (next_behind 3 m n (2 ^ 32 - 1) b h) (λ n q. q))
    by (P.BeforeHold crew) h =
        either (eqb b 45) _ _ (omega arith)
        (digits _ (P.Hold crew) (first_digit b) (first_behind 14 m (2 ^ 63 - 1) b h (omega arith)) (λ n q. q))
    by (P.BeforeSize crew) h =
        digits _ (size_from crew) (first_digit b) (first_behind 15 m (2 ^ 63) b h (omega arith))
        (λ n q. either (eqb n 0) P.Broken (P.Below crew n) tt q)
    by (P.Hold crew n) h =
        digits _ (P.Hold crew) (next_digit (2 ^ 63 - 1) n b) (next_behind 14 m n (2 ^ 63 - 1) b h) (λ n q. q)
    by (P.Below crew n) h = digits _ (P.Below crew) (next_digit (2 ^ 63) n b) (next_behind 15 m n (2 ^ 63) b h) (λ n q. q)
    by P.Broken h = tt

-- A line has at most 34 bytes: two digits, ten, a minus sign and 19, and two spaces.
reach_short : (place : Place) (m : ℕ) → Reach m place → is_broken place ≡ false → m ≤ 34
reach_short P.Start m h e = omega arith
reach_short (P.Crew n) m h e = omega (arith, behind_short 0 m n 63 2 h (omega arith) (omega arith))
reach_short (P.BeforeRound crew) m h e = omega arith
reach_short (P.Round crew n) m h e = omega (arith, behind_short 3 m n (2 ^ 32 - 1) 10 h (omega arith) (omega arith))
reach_short (P.BeforeHold crew) m h e = omega arith
reach_short (P.BeforeSize crew) m h e = omega arith
reach_short (P.Hold crew n) m h e = omega (arith, behind_short 14 m n (2 ^ 63 - 1) 19 h (omega arith) (omega arith))
reach_short (P.Below crew n) m h e = omega (arith, behind_short 15 m n (2 ^ 63) 19 h (omega arith) (omega arith))
reach_short P.Broken m h e = absurd (true≢false e)

-- ---- A text.

-- How far a reading is behind k bytes of a text: no line that was taken has more than 35, its newline counted.
record Far (k : ℕ) (s : Reading) (words : List ℕ) : Type 0 where
  bytes : ℕ
  reach : Reach bytes s.place
  whole : is_broken s.place ≡ false
  lines : s.lines ≤ 100_000
  within : k ≤ 35 * s.lines + bytes

line_far : (k : ℕ) (s : Reading) (words : List ℕ) → Far k s words → Holds (Far (k + 1)) (line_ended s words)
unfolding line_ended
line_far k s words far = by (ltb s.lines 100_000) refl (closed s.place)
  where
    short : far.bytes ≤ 34
    short = reach_short s.place far.bytes far.reach far.whole

    counted : s.lines < 100_000 → (t : Tally) → Holds (Far (k + 1)) (counting t s.lines)
    counted few (Grown left) =
        record { bytes = 0; reach = refl; whole = refl; lines = omega arith; within = omega (arith, short, far.within) }
    counted few (Stopped why) = tt

    by : (few : Bool) → ltb s.lines 100_000 ≡ few → (line : Option Line) →
        Holds (Far (k + 1)) (cond few (line_taken line s.lines words) (Over Refusals.Line))
    by true e (Some line) = counted (ltb-true _ _ e) (tallied words line.crew line.raised)
    by true e None = tt
    by false e line = tt

byte_far : (k : ℕ) (s : Reading) (words : List ℕ) (b : ℕ) → Far k s words → Holds (Far (k + 1)) (byte_fed s words b)
unfolding byte_fed
byte_far k s words b far = by (eqb b 10) (is_broken (stepped s.place b)) refl
  where
    by : (newline broken : Bool) → is_broken (stepped s.place b) ≡ broken →
        Holds (Far (k + 1))
        (cond newline
        (line_ended s words)
        (cond broken (Over Refusals.Line) (On (record { lines = s.lines; place = stepped s.place b }) words)))
    by true broken e = line_far k s words far
    by false true e = tt
    by false false e =
        record {
          bytes = far.bytes + 1;
          reach = step_reach s.place far.bytes b far.reach;
          whole = e;
          lines = far.lines;
          within = omega (arith, far.within);
        }

begun_far : (words text : List ℕ) → Holds (Far (0 + length text)) (fed_by begun words text)
unfolding begun
begun_far words text =
    fed_holds Far byte_far 0 begun words text
    (record { bytes = 0; reach = refl; whole = refl; lines = omega arith; within = omega arith })

-- While it goes on a text has at most 3,500,034 bytes: those of 100,000 lines, and what may be read of one more.
pub long_refused : (words text left : List ℕ) (t : Reading) → fed_by begun words text ≡ On t left → length text ≤ 3_500_034
long_refused words text left t e = end (subst (Holds (Far (0 + length text))) e (begun_far words text))
  where
    end : Far (0 + length text) t left → length text ≤ 3_500_034
    end far = omega (arith, far.within, far.lines, reach_short t.place far.bytes far.reach far.whole)

-- ---- A text that ends.

start_reach : (place : Place) (m : ℕ) → Reach m place → is_start place ≡ true → m ≡ 0
start_reach P.Start m h e = h
start_reach (P.Crew n) m h e = absurd (true≢false (sym e))
start_reach (P.BeforeRound crew) m h e = absurd (true≢false (sym e))
start_reach (P.Round crew n) m h e = absurd (true≢false (sym e))
start_reach (P.BeforeHold crew) m h e = absurd (true≢false (sym e))
start_reach (P.BeforeSize crew) m h e = absurd (true≢false (sym e))
start_reach (P.Hold crew n) m h e = absurd (true≢false (sym e))
start_reach (P.Below crew n) m h e = absurd (true≢false (sym e))
start_reach P.Broken m h e = absurd (true≢false (sym e))

not_given : (n : ℕ) (report : List ℕ) → Refuses n ≡ Gives report → ⊥
not_given n report e = let z : ◌≡◌ {A = ℕ} 0 1 = cc in omega arith

ended_short : (k : ℕ) (s : Reading) (words report : List ℕ) → Far k s words → finished s words ≡ Gives report → k ≤ 3_500_000
unfolding finished text_ended line_ended
ended_short k s words report far = by (is_start s.place) refl (ltb s.lines 100_000) refl
  where
    by : (start : Bool) → is_start s.place ≡ start → (few : Bool) → ltb s.lines 100_000 ≡ few →
        reported (cond start (On s words) (cond few (line_taken (closed s.place) s.lines words) (Over Refusals.Line))) ≡
        Gives report → k ≤ 3_500_000
    by true e few f r = omega (arith, far.within, far.lines, start_reach s.place far.bytes far.reach e)
    by false e true f r =
        omega (
          arith,
          far.within,
          ltb-true s.lines 100_000 f,
          reach_short s.place far.bytes far.reach far.whole,
        )
    by false e false f r = absurd (not_given LINE report r)

-- A text that is taken has at most 3,500,000 bytes.
pub taken_short : (text report : List ℕ) → year_reply text ≡ Gives report → length text ≤ 3_500_000
unfolding fed_parts words_in
taken_short text report e =
    by (fed_by begun (replicate 192 0) text) (begun_far (replicate 192 0) text) (cut_anyhow (text ∷ []))
  where
    by : (g : Going) → Holds (Far (0 + length text)) g →
        answer_after (going_on g (λ t left. On t left)) ≡ year_reply (text ++ []) → length text ≤ 3_500_000
    by (On t left) far r =
        omega (arith, ended_short (0 + length text) t left report far (r ∙ ap year_reply (append-nil text) ∙ e))
    by (Over why) far r = absurd (not_given (refusal_number why) report (r ∙ ap year_reply (append-nil text) ∙ e))

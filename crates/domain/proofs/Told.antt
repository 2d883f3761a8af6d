-- What is found, told by its number, is the number of what is found (RULES 5.1, 11.9, 11.10).
-- Assumes nothing.
use Prim.Native.Nat.{ℕ}
use mathlib.Core.Path.{◌≡◌, refl, ◌∙◌}
use mathlib.Core.Bool.{Bool, true, false, cond, true≢false}
use lib.Dec.{eqb}
use Rattle.std.specs.Prelude.{Result, Ok, Err, MatchResult, IsErrAnd, IfErr}
use Rattle.refusals.specs.Names.{NUMBER, SHAPE, refusal_number}
use Rattle.refusals.specs.declared.Refusal.{Refusal}
use Rattle.refusals.specs.declared.Refusal.TheVariants as Refusals
use Rattle.domain.specs.Beside.{numbered, with_numbers, with_lent, found_told, numbered_told, with_numbers_told, with_lent_told}
use Rattle.domain.specs.Beside.{shape_or_number}

numbered_tells : (e : Result Unit Refusal) → numbered_told (found_told e) ≡ found_told (numbered e)
numbered_tells (Ok _) = refl
numbered_tells (Err why) =
    elim why as (λ k. numbered_told (found_told (Err k)) ≡ found_told (numbered (Err k))) [ Refusals.Shape ↦ refl | _ ↦ refl ]

pub numbers_tell : (ok : Bool) (e : Result Unit Refusal) → with_numbers_told ok (found_told e) ≡ found_told (with_numbers ok e)
unfolding with_numbers with_numbers_told
numbers_tell true e = refl
numbers_tell false e = numbered_tells e

pub lent_tells : (number : ℕ) (e : Result Unit Refusal) → with_lent_told number (found_told e) ≡ found_told (with_lent number e)
unfolding with_lent with_lent_told
lent_tells number e = by (eqb number 2)
  where
    by : (count : Bool) →
        cond count (Err SHAPE) (numbered_told (found_told e)) ≡ found_told (cond count (Err Refusals.Shape) (numbered e))
    by true = refl
    by false = numbered_tells e

-- ---- What is told is what is found: nothing, or a refusal by its number.

pub fine_told : (e : Result Unit Refusal) → found_told e ≡ Ok tt → e ≡ Ok tt
fine_told (Ok tt) f = refl
fine_told (Err why) f = absurd (true≢false (cc f))

pub refused_told : (e : Result Unit Refusal) (n : ℕ) → found_told e ≡ Err n →
    (why : Refusal) × ((e ≡ Err why) × (n ≡ refusal_number why))
refused_told (Ok tt) n f = absurd (true≢false (cc f))
refused_told (Err why) n f = (why, (refl, cc f))

-- ---- What is told of refusals that `map_err` turned into their numbers.

mapped_told : (e : Result Unit Refusal) (r : Result Unit ℕ) →
    MatchResult e (λ x. r ≡ Ok x) (λ why. IsErrAnd r (λ n. n ≡ refusal_number why)) → r ≡ found_told e
mapped_told (Ok tt) r h = h
mapped_told (Err why) (Ok tt) h = absurd h
mapped_told (Err why) (Err n) h = cc h

pub numbers_mapped : (ok : Bool) (e : Result Unit Refusal) (mapped : Result Unit ℕ) {r : Result Unit ℕ} →
    MatchResult e (λ x. mapped ≡ Ok x) (λ why. IsErrAnd mapped (λ n. n ≡ refusal_number why)) →
    r ≡ with_numbers_told ok mapped → r ≡ found_told (with_numbers ok e)
numbers_mapped ok e mapped h t = t ∙ rw (mapped_told e mapped h) (numbers_tell ok e)

-- ---- What was found with a ground for 1 is 2 or 1, and so again what its number tells.

-- The refusal that a number tells of.
abbrev named : Result Unit ℕ → Result Unit Refusal
named (Ok _) = Ok tt
named (Err n) = Err (shape_or_number n)

numbered_named : (e : Result Unit Refusal) → named (found_told (numbered e)) ≡ numbered e
numbered_named (Ok _) = refl
numbered_named (Err why) =
    elim why as (λ k. named (found_told (numbered (Err k))) ≡ numbered (Err k)) [ Refusals.Shape ↦ refl | _ ↦ refl ]

mapped_named : (told : Result Unit ℕ) (r : Result Unit Refusal) →
    MatchResult told (λ x. r ≡ Ok x) (λ n. IsErrAnd r (λ why. why ≡ shape_or_number n)) → r ≡ named told
mapped_named (Ok tt) r h = h
mapped_named (Err n) (Ok tt) h = absurd h
mapped_named (Err n) (Err why) h = cc h

pub numbers_named : (e : Result Unit Refusal) (mapped told : Result Unit ℕ) {r : Result Unit Refusal} →
    MatchResult e (λ x. mapped ≡ Ok x) (λ why. IsErrAnd mapped (λ n. n ≡ refusal_number why)) →
    told ≡ with_numbers_told false mapped →
    MatchResult told (λ x. r ≡ Ok x) (λ n. IsErrAnd r (λ why. why ≡ shape_or_number n)) → r ≡ with_numbers false e
unfolding with_numbers
numbers_named e mapped told {r} h t back =
    mapped_named told r back ∙ rw (numbers_mapped false e mapped h t) (numbered_named e)

pub lent_named : (number : ℕ) (e : Result Unit Refusal) (mapped told : Result Unit ℕ) {r : Result Unit Refusal} →
    MatchResult e (λ x. mapped ≡ Ok x) (λ why. IsErrAnd mapped (λ n. n ≡ refusal_number why)) →
    told ≡ with_lent_told number mapped →
    MatchResult told (λ x. r ≡ Ok x) (λ n. IsErrAnd r (λ why. why ≡ shape_or_number n)) → r ≡ with_lent number e
unfolding with_lent
lent_named number e mapped told {r} h t back =
    mapped_named told r back ∙ rw (t, mapped_told e mapped h, lent_tells number e) (by (eqb number 2))
  where
    by : (count : Bool) →
        named (found_told (cond count (Err Refusals.Shape) (numbered e))) ≡ cond count (Err Refusals.Shape) (numbered e)
    by true = refl
    by false = numbered_named e

-- ---- With more asked, what is told is 1, 2 or what was told without (RULES 5.1).

module _ (N : ℕ → Type 0) (one : N NUMBER) (two : N SHAPE) where
  numbered_told_finds : (e : Result Unit ℕ) → IfErr (numbered_told e) N
  numbered_told_finds (Ok _) = one
  numbered_told_finds (Err n) = by (eqb n 2)
    where
      by : (b : Bool) → IfErr {T = Unit {0}} (cond b (Err SHAPE) (Err NUMBER)) N
      by true = two
      by false = one

  pub numbers_told_find : (ok : Bool) (e : Result Unit ℕ) → IfErr e N → IfErr (with_numbers_told ok e) N
  unfolding with_numbers_told
  numbers_told_find true e h = h
  numbers_told_find false e h = numbered_told_finds e

  pub lent_told_finds : (number : ℕ) (e : Result Unit ℕ) → IfErr (with_lent_told number e) N
  unfolding with_lent_told
  lent_told_finds number e = by (eqb number 2)
    where
      by : (count : Bool) → IfErr (cond count (Err SHAPE) (numbered_told e)) N
      by true = two
      by false = numbered_told_finds e

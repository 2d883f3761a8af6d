-- Two numbers and what is made of them, as `since` and `plus` test them: each exact, and then the result.
-- Assumes nothing.
use Rattle.std.proofs.Common.{◌≡◌, Bool, true, false, cond, ◌&&◌, ℤ, sym, refl, ap, ◌∙◌, w64, SFits, Result, Ok, Err}
use Rattle.std.specs.Result.{IsErr}
use Rattle.times.specs.Time.{is_exact, exact, strayed}
use Rattle.times.specs.declared.time.Strayed.{Strayed}
use Rattle.number_words.proofs.ReadBack.{read, read_back}

-- There is one way to be refused.
pub only_strayed : {A : Type 0} (r : Result A Strayed) → IsErr r → r ≡ strayed
only_strayed (Ok a) e = cc
only_strayed (Err e) h = refl

not_told : (z : ℤ) (b : Bool) (e : Strayed) → cond b (Ok z) strayed ≡ Err e → b ≡ false
not_told z true e p = cc
not_told z false e p = refl

told : (z y : ℤ) (b : Bool) → cond b (Ok z) strayed ≡ Ok y → (b ≡ true) × (y ≡ z)
told z y true p = (refl, cc)
told z y false p = (cc, cc)

-- What a test said of a number as it was read is so of the number.
pub one_out : {z : ℤ} → SFits w64 z → {r : Result ℤ Strayed} {e : Strayed} → r ≡ exact (read z) → r ≡ Err e → is_exact z ≡ false
one_out {z} f {r} {e} p q = not_told z (is_exact z) e (rw (read_back z f) at (sym p ∙ q))

pub one_held : {z y : ℤ} → SFits w64 z → {r : Result ℤ Strayed} → r ≡ exact (read z) → r ≡ Ok y → (is_exact z ≡ true) × (y ≡ z)
one_held {z} {y} f {r} p q = told z y (is_exact z) (rw (read_back z f) at (sym p ∙ q))

-- Both were found exact, and the result is made of them.
pub record Operands (op : ℤ → ℤ → ℤ) (x y a b : ℤ) : Type 0 where
  pub fits_first : SFits w64 x
  pub fits_second : SFits w64 y
  pub fits_result : (is_exact x && is_exact y) ≡ true → SFits w64 (op x y)
  pub first : (is_exact x ≡ true) × (a ≡ x)
  pub second : (is_exact y ≡ true) × (b ≡ y)

module _ {op : ℤ → ℤ → ℤ} {x y a b : ℤ} (o : Operands op x y a b) where
  result_fits : SFits w64 (op x y)
  result_fits = o.fits_result (rw (o.first.0, o.second.0))

  read_is : op (read a) (read b) ≡ op x y
  read_is = rw (o.first.1, o.second.1, read_back x o.fits_first, read_back y o.fits_second)

  pub read_fits : SFits w64 (op (read a) (read b))
  read_fits = rw (read_is) result_fits

  pub result_out : {r : Result ℤ Strayed} {e : Strayed} →
      r ≡ exact (read (op (read a) (read b))) → r ≡ Err e → is_exact (op x y) ≡ false
  result_out p q = one_out result_fits (p ∙ ap (λ z. exact (read z)) read_is) q

  pub result_held : {r : Result ℤ Strayed} {z : ℤ} →
      r ≡ exact (read (op (read a) (read b))) → r ≡ Ok z → (is_exact (op x y) ≡ true) × (z ≡ op x y)
  result_held p q = one_held result_fits (p ∙ ap (λ z. exact (read z)) read_is) q

  pub read_result : {z : ℤ} → z ≡ op x y → read z ≡ op x y
  read_result e = ap read e ∙ read_back (op x y) result_fits

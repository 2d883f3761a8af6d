-- What holds of all elements of a list, and a list of instants that grows at its end.
-- Assumes nothing.
use mathlib.Core.Path.{refl}
use mathlib.Core.List.{List, [], ◌∷◌, ◌++◌, Memᴰ}
use lib.Signed.{◌<ℤ◌}
use Rattle.times.specs.declared.time.TimePoint.{TimePoint}
use Rattle.arrival_search.specs.Sweeps.{All, Rising}

module _ {A : Type 0} where
  -- What holds of everything holds of all elements,
  pub all_of : (F : A → Type 0) → ((x : A) → F x) → (l : List A) → All F l
  all_of F f [] = tt
  all_of F f (x ∷ l) = (f x, all_of F f l)

  -- and so does what holds of every member.
  pub all_members : (F : A → Type 0) (l : List A) → ((x : A) → Memᴰ x l → F x) → All F l
  all_members F [] f = tt
  all_members F (x ∷ l) f = (f x (Memᴰ.head refl), all_members F l (λ y m. f y (Memᴰ.tail m)))

  -- What follows for each follows for all,
  pub all_map : (F G : A → Type 0) → ((x : A) → F x → G x) → (l : List A) → All F l → All G l
  all_map F G f [] h = tt
  all_map F G f (x ∷ l) h = (f x h.0, all_map F G f l h.1)

  -- from two facts too,
  pub all_both : (F G : A → Type 0) (l : List A) → All F l → All G l → All (λ x. F x × G x) l
  all_both F G [] h k = tt
  all_both F G (x ∷ l) h k = ((h.0, k.0), all_both F G l h.1 k.1)

  -- and holds of one more element.
  pub all_end : (F : A → Type 0) (l : List A) (x : A) → All F l → F x → All F (l ++ (x ∷ []))
  all_end F [] x h p = (p, tt)
  all_end F (y ∷ l) x h p = (h.0, all_end F l x h.1 p)

-- A list still rises with one behind it that is after all of it (RULES D3b).
pub rising_end : (l : List TimePoint) (t : TimePoint) → Rising l → All (λ u. u.0 <ℤ t.0) l → Rising (l ++ (t ∷ []))
rising_end [] t r h = (tt, tt)
rising_end (u ∷ l) t r h = (all_end (λ w. u.0 <ℤ w.0) l t r.0 h.0, rising_end l t r.1 h.1)

-- Pieces put one behind another: two of them are one, and what is left of a text, put from where its front ends, is the whole.
-- Assumes nothing.
use Prim.Native.Nat.{ℕ, suc, ◌+◌, ◌≤◌, ◌<◌, min}
use mathlib.Core.Path.{◌≡◌, refl, sym, ap, ◌∙◌}
use mathlib.Core.List.{List, [], ◌∷◌, ◌++◌}
use borrow.Author.Tests.{le-leb, lt-leb}
use native.Mathlib.Nat.{add-zero}
use native.Mathlib.Omega.{arith}
use lib.ListN.{length, set, length-set, length-append}
pub use lib.Seq.{set_out}
use Rattle.lent.proofs.Fours.{either}
use Rattle.texts.specs.Room.{with_bytes, reached, PutText}

-- ---- The room.

pub length_bytes : (room : List ℕ) (at : ℕ) (xs : List ℕ) → length (with_bytes room at xs) ≡ length room
unfolding with_bytes
length_bytes room at [] = refl
length_bytes room at (x ∷ xs) = length_bytes (set room at x) (at + 1) xs ∙ length-set room at x

bytes_append : (room : List ℕ) (at : ℕ) (xs ys : List ℕ) →
    with_bytes room at (xs ++ ys) ≡ with_bytes (with_bytes room at xs) (at + length xs) ys
unfolding with_bytes
bytes_append room at [] ys = rw (add-zero at)
bytes_append room at (x ∷ xs) ys =
    let on : at + 1 + length xs ≡ at + suc (length xs) = omega arith in
    bytes_append (set room at x) (at + 1) xs ys ∙ ap (λ (k : ℕ). with_bytes (with_bytes (set room at x) (at + 1) xs) k ys) on

-- Past its end nothing changes.
bytes_past : (room : List ℕ) (at : ℕ) (xs : List ℕ) → length room ≤ at → with_bytes room at xs ≡ room
unfolding with_bytes
bytes_past room at [] h = refl
bytes_past room at (x ∷ xs) h = rw (set_out room at x h) (bytes_past room (at + 1) xs (omega arith))

-- ---- The place.

-- Where the room reaches, the place behind n bytes, and else the one past its end.
pub reached_fits : (room at n : ℕ) → at + n ≤ room → reached room at n ≡ at + n
unfolding reached
reached_fits room at n h = rw (le-leb (at + n) room h)

pub reached_short : (room at n : ℕ) → room < at + n → reached room at n ≡ room + 1
unfolding reached
reached_short room at n h = rw (lt-leb (at + n) room h)

reached_append : (room at n m : ℕ) → reached room (reached room at n) m ≡ reached room at (n + m)
reached_append room at n m = either (at + n) room Same fits short
  where
    Same : Type 0
    Same = reached room (reached room at n) m ≡ reached room at (n + m)

    fits : at + n ≤ room → Same
    fits h =
        rw (reached_fits room at n h)
        (either (at + n + m) room (reached room (at + n) m ≡ reached room at (n + m))
        (λ k. reached_fits room (at + n) m k ∙ omega arith ∙ sym (reached_fits room at (n + m) (omega arith)))
        (λ k. reached_short room (at + n) m k ∙ sym (reached_short room at (n + m) (omega arith))))

    short : room < at + n → Same
    short h =
        rw (reached_short room at n h)
        (reached_short room (room + 1) m (omega arith) ∙ sym (reached_short room at (n + m) (omega arith)))

-- What is put there may as well be put at the sum.
bytes_reached : (room : List ℕ) (at n : ℕ) (xs : List ℕ) →
    with_bytes room (reached (length room) at n) xs ≡ with_bytes room (at + n) xs
bytes_reached room at n xs =
    either (at + n) (length room) (with_bytes room (reached (length room) at n) xs ≡ with_bytes room (at + n) xs)
    (λ h. ap (λ (k : ℕ). with_bytes room k xs) (reached_fits (length room) at n h))
    (λ h. rw (reached_short (length room) at n h)
    (bytes_past room (length room + 1) xs (omega arith) ∙ sym (bytes_past room (at + n) xs (omega arith))))

pub reached_none : (room at : ℕ) → at ≤ room + 1 → reached room at 0 ≡ at
reached_none room at h =
    either (at + 0) room (reached room at 0 ≡ at) (λ k. reached_fits room at 0 k ∙ add-zero at)
    (λ k. reached_short room at 0 k ∙ omega arith)

-- A piece never ends further than one past the room.
reached_within : (room at n : ℕ) → reached room at n ≤ room + 1
reached_within room at n =
    either (at + n) room (reached room at n ≤ room + 1) (λ k. rw (reached_fits room at n k) (omega arith))
    (λ k. rw (reached_short room at n k) (omega arith))

-- What setting a byte does, before the room's end and past it.
pub ruleset byte_told = (reached_fits, reached_short, set_out)

-- ---- Pieces.

module _ {xs room left : List ℕ} {at r : ℕ} (p : PutText xs room at left r) where
  pub put_kept : length left ≡ length room
  put_kept = ap length p.room ∙ length_bytes room at xs

  pub put_within : r ≤ length left + 1
  put_within = rw (p.place, put_kept) (reached_within (length room) at (length xs))

  rest_room : (ys : List ℕ) → with_bytes left r ys ≡ with_bytes room at (xs ++ ys)
  rest_room ys =
      ap (λ (k : ℕ). with_bytes left k ys) p.place ∙
      ap (λ (n : ℕ). with_bytes left (reached n at (length xs)) ys) (sym put_kept) ∙
      bytes_reached left at (length xs) ys ∙
      ap (λ (l : List ℕ). with_bytes l (at + length xs) ys) p.room ∙ sym (bytes_append room at xs ys)

  rest_place : (ys : List ℕ) → reached (length left) r (length ys) ≡ reached (length room) at (length (xs ++ ys))
  rest_place ys =
      rw (put_kept, p.place, reached_append, length-append)

pub put_both : {xs ys room left left' : List ℕ} {at r r' : ℕ} →
    PutText xs room at left r → PutText ys left r left' r' → PutText (xs ++ ys) room at left' r'
put_both {xs} {ys} p q = record { room = q.room ∙ rest_room p ys; place = q.place ∙ rest_place p ys }

-- What is left of a whole text, put from `at` on, comes to the whole text, put into the lent room from `from` on.
pub record Goes (rest room : List ℕ) (at : ℕ) (whole lent : List ℕ) (from : ℕ) : Type 0 where
  pub same_room : with_bytes room at rest ≡ with_bytes lent from whole
  pub same_place : reached (length room) at (length rest) ≡ reached (length lent) from (length whole)
  pub kept : length room ≡ length lent

pub goes_all : (whole lent : List ℕ) (from : ℕ) → Goes whole lent from whole lent from
goes_all whole lent from = record { same_room = refl; same_place = refl; kept = refl }

-- Past the room's end every place is as good as another,
pub goes_past : (whole lent : List ℕ) (at from : ℕ) → length lent < at → length lent < from → Goes whole lent at whole lent from
goes_past whole lent at from h k =
    record {
      same_room = bytes_past lent at whole (omega arith) ∙ sym (bytes_past lent from whole (omega arith));
      same_place =
          reached_short (length lent) at (length whole) (omega arith) ∙
          sym (reached_short (length lent) from (length whole) (omega arith));
      kept = refl;
    }

-- and so as the one right behind it.
pub goes_near : (whole lent : List ℕ) (from : ℕ) → Goes whole lent (min from (length lent + 1)) whole lent from
goes_near whole lent from = either from (length lent + 1) Near near far
  where
    Near : Type 0
    Near = Goes whole lent (min from (length lent + 1)) whole lent from

    near : from ≤ length lent + 1 → Near
    near h = let same : min from (length lent + 1) ≡ from = omega arith in rw same (goes_all whole lent from)

    far : length lent + 1 < from → Near
    far h =
        let end : min from (length lent + 1) ≡ length lent + 1 = omega arith in
        rw end (goes_past whole lent (length lent + 1) from (omega arith) (omega arith))

pub goes_on : {xs ys room left whole lent : List ℕ} {at r from : ℕ} →
    Goes (xs ++ ys) room at whole lent from → PutText xs room at left r → Goes ys left r whole lent from
goes_on {xs} {ys} g p =
    record {
      same_room = rest_room p ys ∙ g.same_room;
      same_place = rest_place p ys ∙ g.same_place;
      kept = put_kept p ∙ g.kept;
    }

pub goes_done : {room whole lent : List ℕ} {at from : ℕ} →
    Goes [] room at whole lent from → at ≤ length room + 1 → PutText whole lent from room at
unfolding with_bytes
goes_done {room} {whole} {lent} {at} g h =
    record { room = g.same_room; place = sym (reached_none (length room) at h) ∙ g.same_place }

-- The writer fixes the reader: the streams that are read are those of requests that fit, one for each (RULES 14.17).
-- Assumes nothing.
use Prim.Native.Nat.{ℕ}
use mathlib.Core.Path.{◌≡◌, refl, sym, ap, ◌∙◌}
use mathlib.Core.Bool.{true}
use mathlib.Core.List.{List}
use native.Mathlib.Omega.{arith}
use Rattle.request_format.specs.Request.{Request, Reading, Of, Malformed}
use Rattle.request_format.specs.Format.{request_at, are_counted, read_of}
use Rattle.request_format.specs.Written.{written, request_fits}
use Rattle.request_format.proofs.Packing.{are_bytes}
use Rattle.request_format.proofs.ReadBack.{fields_back, written_read}
use Rattle.request_format.proofs.WrittenBack.{read_fits, read_counted, read_written}

-- No request whose fields fit and whose counts are those of the table has this stream.
abbrev pub Unwritten : List ℕ → Type 0
Unwritten s = (r : Request) → request_fits r ≡ true → are_counted r.obstacles ≡ true → written r ≡ s → ⊥

-- A malformed stream is one that is written for no such request,
pub malformed_unwritten : (s : List ℕ) → read_of s ≡ Malformed → Unwritten s
malformed_unwritten s e r fits counted w =
    let read : read_of s ≡ Of r = ap read_of (sym w) ∙ written_read r fits counted in
    let z : ◌≡◌ {A = ℕ} 0 1 = cc in
    omega arith

-- and bytes that are written for none are malformed.
pub unwritten_malformed : (s : List ℕ) → are_bytes s ≡ true → Unwritten s → read_of s ≡ Malformed
unwritten_malformed s bytes none = by (read_of s) refl
  where
    by : (a : Reading) → read_of s ≡ a → a ≡ Malformed
    by (Of r) e = absurd (none r (read_fits s r e) (read_counted s r e) (read_written s r bytes e))
    by Malformed e = refl

-- Two requests that fit and have the same stream are the same.
pub same_stream : (q r : Request) → request_fits q ≡ true → request_fits r ≡ true → written q ≡ written r → q ≡ r
same_stream q r fits-q fits-r e = sym (fields_back q fits-q) ∙ ap request_at e ∙ fields_back r fits-r

-- Bytes that are read as the same request are the same.
pub same_request : (s t : List ℕ) (r : Request) →
    are_bytes s ≡ true → are_bytes t ≡ true → read_of s ≡ Of r → read_of t ≡ Of r → s ≡ t
same_request s t r bytes-s bytes-t e d = sym (read_written s r bytes-s e) ∙ read_written t r bytes-t d

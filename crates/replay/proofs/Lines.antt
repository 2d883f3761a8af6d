-- A list judged line by line: the verdict from a line on is that of the line, or the verdict from the next line on.
-- Assumes nothing.
use Rattle.std.proofs.Common.{◌≡◌, ℕ, suc, ◌+◌, ◌-◌, ◌*◌, ◌<◌, ◌≤◌, min, List, [], ◌++◌, Option, length, take, drop, sym, ap, ◌∙◌, arith, length-append, length-drop, append-nil, inl, inr}
use Rattle.std.proofs.lemmas.Bool.{cases_lt}
use Rattle.std.proofs.lemmas.List.{nil_from_length, take_all, drop-drop}
use Rattle.std.proofs.Math.ListN.{drop_of_length-le}
use Rattle.std.proofs.Math.Seq.{take-append_seam, drop-append_seam}
use Rattle.replay.specs.Line.{line_of}
use Rattle.replay.specs.Listed.{judged_line, verdict_from, line_count}
use Rattle.replay.specs.declared.calls.Verdict.{Verdict}
use Rattle.replay.specs.declared.calls.Verdict.TheVariants.{AsListed}
use Rattle.replay.specs.declared.list.Answer.{Answer}

-- The verdict from a line on.
abbrev pub from : List ℕ → ℕ → Verdict
from s lines = verdict_from s (line_count s - lines) lines

abbrev pub line_at : List ℕ → ℕ → List ℕ
line_at s lines = take 85 (drop (lines * 85) s)

pub no_line : (s : List ℕ) (lines : ℕ) → length s ≤ lines * 85 → from s lines ≡ AsListed lines
unfolding verdict_from
no_line s lines h = let none : line_count s - lines ≡ 0 = omega arith in rw none

-- A chunk of 85 bytes, or of all that is left.
first_chunk : (left chunk after : List ℕ) → left ≡ chunk ++ after → length chunk ≡ min 85 (length left) →
    (chunk ≡ take 85 left) × (after ≡ drop 85 left)
first_chunk left chunk after parts size =
    let sum = ap length parts ∙ length-append chunk after in
    elim (cases_lt (length left) 85) [
      | inl short ↦
          let none : after ≡ [] = nil_from_length after (omega arith) in
          let all : chunk ≡ left = sym (parts ∙ ap (λ t. chunk ++ t) none ∙ append-nil chunk) in
          (all ∙ sym (take_all 85 left (omega arith)), none ∙ sym (drop_of_length-le left {i = 85} (omega arith)))
      | inr long ↦
          let whole : length chunk ≡ 85 = omega arith in
          (rw (parts, ← whole, take-append_seam), rw (parts, ← whole, drop-append_seam))
    ]

-- One line more, which is the next chunk.
module _ (s left chunk after : List ℕ) (lines : ℕ)
    (begins : left ≡ drop (lines * 85) s) (parts : left ≡ chunk ++ after) (size : length chunk ≡ min 85 (length left)) where
  pub left_after : after ≡ drop ((lines + 1) * 85) s
  left_after =
      let next : (lines + 1) * 85 ≡ lines * 85 + 85 = omega arith in
      (first_chunk left chunk after parts size).1 ∙ ap (drop 85) begins ∙ drop-drop 85 (lines * 85) s ∙ sym (ap (λ n. drop n s) next)

  pub judged : (found : Option Answer) → 0 < length left → line_of chunk ≡ found →
      from s lines ≡ judged_line found (verdict_from s (line_count s - (lines + 1))) (lines + 1)
  unfolding verdict_from
  judged found some is =
      let more : lines * 85 < length s = omega (arith, ap length begins, length-drop (lines * 85) s) in
      let one : line_count s - lines ≡ suc (line_count s - (lines + 1)) = omega arith in
      let line : line_of (line_at s lines) ≡ found = ap line_of (sym ((first_chunk left chunk after parts size).0 ∙ ap (take 85) begins)) ∙ is in
      rw (one, line)

-- How additions to a lent list of hints follow one another: what is added in two steps is what is added in one (RULES 10.41).
-- Assumes nothing.
use Prim.Native.Nat.{ℕ, ◌+◌}
use mathlib.Core.Path.{◌≡◌, refl, sym, ap, ◌∙◌}
use mathlib.Core.List.{List, [], ◌∷◌, ◌++◌, map, map-append}
use native.Mathlib.Nat.{add-zero}
use native.Mathlib.Omega.{arith}
use lib.ListN.{length, length-append, length-map, length-replicate}
use Rattle.hint_list.specs.Hints.{Hints, Of, Refused, found_first, found_then}
use Rattle.hint_list.specs.Words.{unranked, laid}
use Rattle.hint_list.specs.Adding.{Added, AllKept, KeptBy, filled_of, laid_by}
use Rattle.hint_list.specs.declared.hint.WaitHint.{WaitHint}
use Rattle.hint_list.proofs.Words.{laid_long, laid_append}
use Rattle.hint_list.specs.Numbered.{AddedNumbered, numbered_hints}
use Rattle.std.specs.Prelude.{Result, Ok, Err}
use Rattle.refusals.specs.declared.Refusal.{Refusal}
use Rattle.refusals.specs.Names.{refusal_number}

-- Nothing is added.
pub added_none : (n : ℕ) (words : List ℕ) → Added (Of []) n words words (Ok n)
unfolding filled_of laid_by laid
added_none n words = record { filled = ap Ok (sym (add-zero n)); words = refl; kept = (tt, λ few. omega arith) }

-- Hints and refusals are told apart by what is handed back.
abbrev is_refusal : Result ℕ Refusal → ℕ
is_refusal (Ok n) = 0
is_refusal (Err k) = 1

-- ---- Two steps.

laid_more : (words : List ℕ) (n m : ℕ) (hs more : List WaitHint) → m ≡ n + length hs →
    laid (laid words n (map unranked hs)) m (map unranked more) ≡ laid words n (map unranked (hs ++ more))
laid_more words n m hs more e =
    let end : n + length (map unranked hs) ≡ m = omega (arith, length-map hs unranked) in
    rw (map-append unranked hs more, laid_append words n (map unranked hs) (map unranked more), end)

kept_more : (hs more : List WaitHint) → AllKept hs → AllKept more → AllKept (hs ++ more)
kept_more [] more k j = j
kept_more (h ∷ hs) more k j = (k.0, kept_more hs more k.1 j)

behind : (n m : ℕ) (hs : List WaitHint) (next : Hints) {lent mid left : List ℕ} {r : Result ℕ Refusal} →
    m ≡ n + length hs → mid ≡ laid lent n (map unranked hs) → KeptBy n (Of hs) → Added next m mid left r →
    Added (found_first hs next) n lent left r
unfolding filled_of laid_by
behind n m hs (Of more) {lent} e w k a =
    let long : length (hs ++ more) ≡ length hs + length more = length-append hs more in
    let sum : m + length more ≡ n + length (hs ++ more) = omega (arith, long) in
    record {
      filled = a.filled ∙ ap Ok sum;
      words = a.words ∙ ap (λ (l : List ℕ). laid l m (map unranked more)) w ∙ laid_more lent n m hs more e;
      kept = (
        kept_more hs more k.0 a.kept.0,
        λ few. let first = k.1 few in let all = a.kept.1 (omega arith) in omega (arith, sum),
      );
    }
behind n m hs (Refused why) e w k a = record { filled = a.filled; words = a.words; kept = tt }

-- The second step begins behind the hints of the first.
pub added_then : (n m : ℕ) (first : Hints) (go : ℕ → Hints) {lent mid left : List ℕ} {r : Result ℕ Refusal} →
    Added first n lent mid (Ok m) → Added (go m) m mid left r → Added (found_then n first go) n lent left r
unfolding filled_of laid_by found_then
added_then n m (Of hs) go {lent} {mid} {left} {r} a b =
    let count : m ≡ n + length hs = cc a.filled in
    behind n m hs (go (n + length hs)) count a.words a.kept (rw (sym count) b)
added_then n m (Refused why) go a b = absurd (omega (arith, ap is_refusal a.filled))

-- A refusal of the first is the answer.
pub added_ended : (n : ℕ) (why : Refusal) (first : Hints) (go : ℕ → Hints) {lent left : List ℕ} →
    Added first n lent left (Err why) → Added (found_then n first go) n lent left (Err why)
unfolding filled_of laid_by found_then
added_ended n why (Of hs) go a = absurd (omega (arith, ap is_refusal a.filled))
added_ended n why (Refused k) go a = record { filled = a.filled; words = a.words; kept = tt }

-- ---- What is left.

-- A list of 385 words keeps its length.
pub added_long : (answer : Hints) (n : ℕ) {lent left : List ℕ} {r : Result ℕ Refusal} →
    Added answer n lent left r → length lent ≡ 385 → length left ≡ 385
unfolding laid_by
added_long (Of hs) n {lent} a long = ap length a.words ∙ laid_long lent n (map unranked hs) ∙ long
added_long (Refused why) n a long = ap length a.words ∙ length-replicate {A = ℕ} 385 0

-- ---- What is handed back.

-- What was handed back says whether there are hints.
pub answer_given : (answer : Hints) (n m : ℕ) {lent left : List ℕ} →
    Added answer n lent left (Ok m) → (hs : List WaitHint) × (answer ≡ Of hs)
unfolding filled_of
answer_given (Of hs) n m a = (hs, refl)
answer_given (Refused why) n m a = absurd (omega (arith, ap is_refusal a.filled))

pub answer_refused : (answer : Hints) (n : ℕ) (why : Refusal) {lent left : List ℕ} →
    Added answer n lent left (Err why) → answer ≡ Refused why
unfolding filled_of
answer_refused (Of hs) n why a = absurd (omega (arith, ap is_refusal a.filled))
answer_refused (Refused k) n why a = cc a.filled

-- ---- Refusals by their numbers.

abbrev pub told_number : Result ℕ Refusal → Result ℕ ℕ
told_number (Ok n) = Ok n
told_number (Err why) = Err (refusal_number why)

pub added_numbered : (answer : Hints) (n : ℕ) {lent left : List ℕ} {r : Result ℕ Refusal} →
    Added answer n lent left r → AddedNumbered (numbered_hints answer) n lent left (told_number r)
unfolding filled_of laid_by numbered_hints
added_numbered (Of hs) n a = record { filled = ap told_number a.filled; words = a.words; kept = a.kept }
added_numbered (Refused why) n a = record { filled = ap told_number a.filled; words = a.words; kept = tt }

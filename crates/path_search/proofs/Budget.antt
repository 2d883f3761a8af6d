-- Two budgets: the smaller gives the answer of the larger where its pops fit, and else is refused 11 with all its pops made
-- (RULES 13.21). So a larger budget changes no answer but a refusal 11.
-- Assumes nothing.
use mathlib.Core.Path.{◌≡◌, refl, sym, ap, ◌∙◌}
use mathlib.Core.Bool.{Bool, true, false, true≢false}
use mathlib.Core.List.{[], ◌∷◌}
use Rattle.std.specs.Prelude.{Option, Some, None}
use Prim.Native.Nat.{ℕ, zero, suc, ◌+◌, ◌-◌, ◌≤◌, ◌<◌}
use native.Mathlib.Omega.{arith}
use borrow.Author.Tests.{leb-true, leb-false}
use lib.Dec.{ltb, leb}
use Rattle.path_search.specs.declared.trial.Trial.{Trial}
use Rattle.path_search.specs.declared.trial.Trial.TheVariants as T
use Rattle.path_search.specs.Answer.{Chained, Refused, pops_of, is_spent}
use Rattle.path_search.specs.Stack as S
use Rattle.path_search.specs.Recursive as R
use Rattle.path_search.specs.Recursive.{Tried, Found, Blocked, Unreached, Stopped}
use Rattle.path_search.specs.Recursive.{popped, arrived_by, started_by, offer, after_child, at_root}
use Rattle.path_search.proofs.Agree.{stack_is_recursion}
use Rattle.path_search.proofs.Pops.{tried_pops}
use Rattle.path_search.proofs.Growing.{Grows, popped_grows, arrived_grows, children_grows, roots_grow}
use Rattle.std.specs.Prelude.{Result, Ok, Err}
use Rattle.refusals.specs.declared.Refusal.{Refusal}
use Rattle.refusals.specs.declared.Refusal.TheVariants as Refusals

module _ (b c : ℕ) (le : b ≤ c) where
  -- What a hint comes to under the budget b, t, and under c, u.
  record Cut (t u : Tried) : Type 0 where
    pub same : tried_pops u ≤ b → t ≡ u
    pub short : b < tried_pops u → t ≡ Stopped Refusals.Spent b

  -- The same of whole searches.
  pub record CutAnswer (t u : Chained) : Type 0 where
    pub same : pops_of u ≤ b → t ≡ u
    pub short : b < pops_of u → t ≡ Refused Refusals.Spent b

  abbrev Cuts : (ℕ → Tried) → (ℕ → Tried) → Type 0
  Cuts f g = (p : ℕ) → p ≤ b → Cut (f p) (g p)

  alike : (t : Tried) → tried_pops t ≤ b → Cut t t
  alike t h = record { same = λ few. refl; short = λ many. absurd (omega arith) }

  popped_cut : (f g : ℕ → Tried) → Cuts f g → Grows g → Cuts (λ p. popped (leb b p) f p) (λ p. popped (leb c p) g p)
  popped_cut f g cuts grows p h = by (leb b p) refl (leb c p) refl
    where
      by : (x : Bool) → leb b p ≡ x → (y : Bool) → leb c p ≡ y → Cut (popped x f p) (popped y g p)
      by true e true d = alike (Stopped Refusals.Spent p) h
      by true e false d =
          let all : b ≤ p = leb-true b p e in
          let met : p ≡ b = omega arith in
          record { same = λ few. absurd (omega (arith, grows (p + 1))); short = λ many. ap (Stopped Refusals.Spent) met }
      by false e true d = absurd (omega (arith, leb-false b p e, leb-true c p d))
      by false e false d = cuts (p + 1) (omega (arith, leb-false b p e))

  arrived_cut : (t : Result Trial Refusal) (f g : ℕ → Tried) → Cuts f g → Cuts (arrived_by t f) (arrived_by t g)
  arrived_cut (Ok T.Passed) f g cuts p h = cuts p h
  arrived_cut (Ok T.Failed) f g cuts p h = alike (Blocked p) h
  arrived_cut (Err n) f g cuts p h = alike (Stopped n p) h

  started_cut : (t : Result Trial Refusal) (i : ℕ) → Cuts (started_by t i) (started_by t i)
  started_cut (Ok T.Passed) i p h = alike (Found (i ∷ []) p) h
  started_cut (Ok T.Failed) i p h = alike (Unreached p) h
  started_cut (Err n) i p h = alike (Stopped n p) h

  offer_cut : (x : Bool) (f g : ℕ → Tried) → Cuts f g → Cuts (offer x f) (offer x g)
  offer_cut true f g cuts p h = cuts p h
  offer_cut false f g cuts p h = alike (Unreached p) h

  -- Hint i goes on after a child with p pops, where those fit b; where they do not, it is refused under b.
  onward : (t : Tried) (i p : ℕ) (f g : ℕ → Tried) → (p ≤ b → after_child t i f ≡ f p) → (b < p → after_child t i f ≡ Stopped Refusals.Spent b) →
      Cuts f g → Grows g → Cut (after_child t i f) (g p)
  onward t i p f g fit past cuts grows = record {
    same = λ few. let h : p ≤ b = omega (arith, grows p) in fit h ∙ (cuts p h).same few;
    short = λ many. by (leb p b) refl many;
  }
    where
      by : (x : Bool) → leb p b ≡ x → b < tried_pops (g p) → after_child t i f ≡ Stopped Refusals.Spent b
      by true e many = let h : p ≤ b = leb-true p b e in fit h ∙ (cuts p h).short many
      by false e many = past (leb-false p b e)

  after_cut : (t u : Tried) (i : ℕ) (f g : ℕ → Tried) → Cut t u → Cuts f g → Grows g → Cut (after_child t i f) (after_child u i g)
  after_cut t (Found l p) i f g k cuts grows = record { same = λ h. rw (k.same h); short = λ h. rw (k.short h) }
  after_cut t (Blocked p) i f g k cuts grows = onward t i p f g (λ h. rw (k.same h)) (λ h. rw (k.short h)) cuts grows
  after_cut t (Unreached p) i f g k cuts grows = onward t i p f g (λ h. rw (k.same h)) (λ h. rw (k.short h)) cuts grows
  after_cut t (Stopped n p) i f g k cuts grows = record { same = λ h. rw (k.same h); short = λ h. rw (k.short h) }

  rooted_cut : (t u : Tried) (f g : ℕ → Chained) → Cut t u → ((p : ℕ) → p ≤ b → CutAnswer (f p) (g p)) →
      ((p : ℕ) → p ≤ pops_of (g p)) → CutAnswer (at_root t f) (at_root u g)
  rooted_cut t (Found l p) f g k cuts grows = record { same = λ h. rw (k.same h); short = λ h. rw (k.short h) }
  rooted_cut t (Blocked p) f g k cuts grows = record {
    same = λ few. let h : p ≤ b = omega (arith, grows p) in rw (k.same h) ((cuts p h).same few);
    short = λ many. by (leb p b) refl many;
  }
    where
      by : (x : Bool) → leb p b ≡ x → b < pops_of (g p) → at_root t f ≡ Refused Refusals.Spent b
      by true e many = let h : p ≤ b = leb-true p b e in rw (k.same h) ((cuts p h).short many)
      by false e many = rw (k.short (leb-false p b e))
  rooted_cut t (Unreached p) f g k cuts grows = record { same = λ h. rw (k.same h); short = λ h. rw (k.short h) }
  rooted_cut t (Stopped n p) f g k cuts grows = record { same = λ h. rw (k.same h); short = λ h. rw (k.short h) }

  past_cut : (x : Bool) → leb b 0 ≡ x → (y : Bool) → leb c 0 ≡ y → CutAnswer (R.past_last_root x) (R.past_last_root y)
  past_cut true e true d = record { same = λ few. refl; short = λ many. absurd (omega arith) }
  past_cut true e false d =
      let all : b ≤ 0 = leb-true b 0 e in
      let none_left : 0 ≡ b = omega arith in
      record { same = λ few. absurd (omega arith); short = λ many. ap (Refused Refusals.Spent) none_left }
  past_cut false e true d = absurd (omega (arith, leb-false b 0 e, leb-true c 0 d))
  past_cut false e false d =
      let left : 0 < b = leb-false b 0 e in
      record { same = λ few. refl; short = λ many. absurd (omega arith) }

  module _ (to_parent : ℕ → Option ℕ → Result Trial Refusal) (from_start : ℕ → Result Trial Refusal) (reaches : ℕ → ℕ → Bool) where
    abbrev children_in : ℕ → ℕ → ℕ → ℕ → Tried
    children_in = R.try_children to_parent from_start reaches

    abbrev hint_in : ℕ → (ℕ → Tried) → ℕ → Option ℕ → ℕ → Tried
    hint_in = R.hint_by to_parent from_start reaches

    abbrev roots_in : ℕ → ℕ → ℕ → ℕ → Chained
    roots_in = R.try_roots to_parent from_start reaches

    abbrev search_in : ℕ → ℕ → Option ℕ → Chained
    search_in budget count = R.recursive_search to_parent from_start reaches count budget

    hint_cut : (i : ℕ) (parent : Option ℕ) (f g : ℕ → Tried) → Cuts f g → Grows g →
        Cuts (hint_in b f i parent) (hint_in c g i parent)
    hint_cut i parent f g cuts grows =
        let t : Result Trial Refusal = to_parent i parent in
        popped_cut (arrived_by t f) (arrived_by t g) (arrived_cut t f g cuts) (arrived_grows t g grows)

    children_grow : (i k : ℕ) → Grows (children_in c i k)
    children_grow = children_grows to_parent from_start reaches c

    children_cut : (i k : ℕ) → Cuts (children_in b i k) (children_in c i k)
    unfolding R.try_children
    children_cut i zero p h = started_cut (from_start i) i p h
    children_cut i (suc k) p h =
        let f : ℕ → Tried = hint_in b (children_in b k k) k (Some i) in
        let g : ℕ → Tried = hint_in c (children_in c k k) k (Some i) in
        let hint : Cuts f g = hint_cut k (Some i) (children_in b k k) (children_in c k k) (children_cut k k) (children_grow k k) in
        after_cut (offer (reaches k i) f p) (offer (reaches k i) g p) i
        (λ q. popped (leb b q) (children_in b i k) q)
        (λ q. popped (leb c q) (children_in c i k) q)
        (offer_cut (reaches k i) f g hint p h)
        (popped_cut (children_in b i k) (children_in c i k) (children_cut i k) (children_grow i k))
        (λ q. popped_grows (leb c q) (children_in c i k) (children_grow i k) q)

    roots_cut : (n r p : ℕ) → p ≤ b → CutAnswer (roots_in b n r p) (roots_in c n r p)
    unfolding R.try_roots R.try_hint
    roots_cut zero r p h = record { same = λ few. refl; short = λ many. absurd (omega arith) }
    roots_cut (suc n) r p h =
        rooted_cut (hint_in b (children_in b r r) r None p) (hint_in c (children_in c r r) r None p)
        (roots_in b n (r + 1))
        (roots_in c n (r + 1))
        (hint_cut r None (children_in b r r) (children_in c r r) (children_cut r r) (children_grow r r) p h)
        (roots_cut n (r + 1))
        (roots_grow to_parent from_start reaches c n (r + 1))

    module _ (count : ℕ) (r : Option ℕ) where
      -- The answer under b by the answer under c.
      pub budget_cut : CutAnswer (search_in b count r) (search_in c count r)
      unfolding R.recursive_search
      budget_cut = by r
        where
          from : (i : ℕ) (there : Bool) → CutAnswer
              (R.from_root to_parent from_start reaches count b there i) (R.from_root to_parent from_start reaches count c there i)
          from i true = roots_cut (count - i) i 0 (omega arith)
          from i false = past_cut (leb b 0) refl (leb c 0) refl

          by : (r : Option ℕ) → CutAnswer (search_in b count r) (search_in c count r)
          by None = record { same = λ few. refl; short = λ many. absurd (omega arith) }
          by (Some i) = from i (ltb i count)

      -- An answer that is no refusal 11 is given under every larger budget, with the same pops.
      pub budget_kept : is_spent (search_in b count r) ≡ false → search_in c count r ≡ search_in b count r
      budget_kept answered = by (leb (pops_of (search_in c count r)) b) refl
        where
          by : (fits : Bool) → leb (pops_of (search_in c count r)) b ≡ fits → search_in c count r ≡ search_in b count r
          by true e = sym (budget_cut.same (leb-true _ b e))
          by false e = absurd (true≢false (sym (ap is_spent (budget_cut.short (leb-false _ b e))) ∙ answered))

      -- The same of the stack machine.
      pub stack_kept : (a : Chained) → S.stack_search to_parent from_start reaches count b r ≡ S.Done a → is_spent a ≡ false →
          S.stack_search to_parent from_start reaches count c r ≡ S.Done a
      stack_kept a e answered =
          let small : search_in b count r ≡ a = cc (stack_is_recursion to_parent from_start reaches count b r) in
          stack_is_recursion to_parent from_start reaches count c r ∙ ap S.Done (budget_kept (ap is_spent small ∙ answered) ∙ small)

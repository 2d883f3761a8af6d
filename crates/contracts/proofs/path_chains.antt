-- Each public function of path_chains has one answer and one lent memory. tools/contracts.py writes this file.
-- Assumes nothing.
use mathlib.Core.Path.{refl}
use base.Logic.{id⊢, emp}
use Rattle.path_chains.specs.contracts.trying.find_chain as trying_find_chain
use Rattle.path_chains.proofs.trying.find_chain.Symbol as trying_find_chain_symbol
use Rattle.path_chains.proofs.trying.find_chain.Met as trying_find_chain_met
use Rattle.settling.specs.Determined.{Determined}
use Rattle.settling.proofs.Facts.{by_clause}
use Rattle.contracts.proofs.Rules.{one_answer}

pub trying_find_chain_determined :
    Determined trying_find_chain_symbol.code trying_find_chain_symbol.name trying_find_chain.ended (λ M 𝓤. trying_find_chain.clauses)
trying_find_chain_determined = record {
  met = λ M. trying_find_chain_met.met;
  kept = refl;
  free = λ M 𝓤 𝓛 mem run κs a. (tt, id⊢ 𝓤 (emp 𝓤));
  one = λ M 𝓤 𝓛 mem run κs a g g' r r' left left' s s'.
      by_clause 𝓤 trying_find_chain.ended κs a r r' left left' (λ p q. (search one_answer, search one_answer)) s s';
}

-- Refusals over lists of clauses that have the same literals place by place.
use Rattle.std.proofs.Common.{◌≡◌, ◌∙◌, true, false, List, [], ◌∷◌, refl, arith}
use Rattle.std.specs.Prelude.{Bool}
use Rattle.net_model.proofs.Elements.{none_in}
use Rattle.clause_pool.specs.Clauses.{Clause, numbered_clause}
use Rattle.pair_miter.specs.ChainView.{ChainView}
use Rattle.pair_miter.specs.Resolution.{SameLiterals, AreAlike, chain_end}
use Rattle.pair_miter.proofs.SameLiterals.{same_sym, can_alike, empty_alike}
use Rattle.pair_miter.proofs.Alike.{alike_some, alike_none, numbered_alike, chain_alike, fresh_alike}
use Rattle.evidence_rules.specs.declared.refusal.EvidenceKind.{EvidenceKind}
use Rattle.evidence_rules.specs.declared.refusal.EvidenceKind.TheVariants.{Covered, Refuted, Spent}
use Rattle.evidence_rules.specs.declared.refusal.RefusalKind.{RefusalKind}
use Rattle.evidence_rules.specs.LogRefusal.{ChainStops, no_start, no_clause, no_pivot, chain_before, IsRightEnd, end_refusal}

module _ (cs ds : List Clause) (are : AreAlike cs ds) where
  pub stops_alike : (chain : ChainView) (kind : RefusalKind) → ChainStops ds chain kind → ChainStops cs chain kind
  stops_alike chain kind (no_start absent is) = no_start (alike_none (numbered_clause cs chain.start) (numbered_clause ds chain.start) (numbered_alike cs ds are chain.start) absent) is
  stops_alike chain kind (no_clause at step clause end_is step_is absent is) =
      let own = alike_some (chain_end cs (chain_before at chain)) (chain_end ds (chain_before at chain)) clause (chain_alike cs ds are (chain_before at chain)) end_is in
      no_clause at step own.0 own.1 step_is (alike_none (numbered_clause cs step.1) (numbered_clause ds step.1) (numbered_alike cs ds are step.1) absent) is
  stops_alike chain kind (no_pivot at step clause other end_is step_is other_is cannot is) =
      let own = alike_some (chain_end cs (chain_before at chain)) (chain_end ds (chain_before at chain)) clause (chain_alike cs ds are (chain_before at chain)) end_is in
      let named = alike_some (numbered_clause cs step.1) (numbered_clause ds step.1) other (numbered_alike cs ds are step.1) other_is in
      no_pivot at step own.0 named.0 own.1 step_is named.1 (can_alike step.0 own.0 clause named.0 other own.2 named.2 ∙ cannot) is

  pub right_alike : (kind : EvidenceKind) (last : Bool) (chain : ChainView) (a b : Clause) → SameLiterals a b → IsRightEnd kind last ds chain b → IsRightEnd kind last cs chain a
  right_alike Covered last chain a b s r = tt
  right_alike Refuted true chain a b s r = empty_alike a b s r
  right_alike Refuted false chain a b s r = λ e. r (empty_alike b a (same_sym a b s) e)
  right_alike Spent last chain a b s r = record { nonempty = λ e. r.nonempty (empty_alike b a (same_sym a b s) e); at = r.at; is_at = r.is_at; fresh = fresh_alike cs ds are a b r.at s r.fresh }

pub refusal_alike : (kind : EvidenceKind) (last : Bool) (a b : Clause) → SameLiterals a b → end_refusal kind last a ≡ end_refusal kind last b
refusal_alike Spent last [] [] s = refl
refusal_alike Spent last [] (m ∷ ms) s = absurd (none_in m ((s m).1 (0, omega arith, refl)))
refusal_alike Spent last (l ∷ ls) [] s = absurd (none_in l ((s l).0 (0, omega arith, refl)))
refusal_alike Spent last (l ∷ ls) (m ∷ ms) s = refl
refusal_alike Covered true a b s = refl
refusal_alike Covered false a b s = refl
refusal_alike Refuted true a b s = refl
refusal_alike Refuted false a b s = refl

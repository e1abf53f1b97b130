use Rattle.std.proofs.Common.{ℕ, List, sym, subst}
use Rattle.compact_tests.specs.Thinning.{AreRemainingPlaces}
use Rattle.compact_tests.proofs.CompactLemmas.{checked_answers}
use Rattle.compact_tests.proofs.compacting.compact_subject.Goals as goal

pub needed_patterns-requires-clause-answered : goal.needed_patterns-requires-clause-answered
needed_patterns-requires-clause-answered c = rw c.circuit-circuit.ensures.value (checked_answers c.args.subject.now c.requires.records c.args.checked.now c.requires.accepted)

pub thin_with-requires-clause-needed : goal.thin_with-requires-clause-needed
thin_with-requires-clause-needed c = subst (λ (places : List ℕ). AreRemainingPlaces c.circuit-circuit.result.now c.args.checked.now.patterns c.args.checked.now.classes places) (sym c.as_slice.ensures.value) c.in_ok-needed.ensures

use Rattle.std.proofs.Common.{subst}
use Rattle.net_model.specs.Circuit.{IsCircuit}
use Rattle.run_steps.proofs.SuspectLemmas.{valid_bytes}
use Rattle.listing_commands.proofs.AlikeLemmas.{joined_alike}
use Rattle.listing_commands.proofs.applied.joined_classes.Goals as goal

pub classes_of-requires-clause-one : goal.classes_of-requires-clause-one
classes_of-requires-clause-one c = rw c.as_slice.ensures c.requires.patterns

pub classes_of-requires-clause-other : goal.classes_of-requires-clause-other
classes_of-requires-clause-other c = rw c.as_slice-2.ensures c.requires.list

pub returns-clause-numbers : goal.returns-clause-numbers
returns-clause-numbers c = c.in_ok-classes.ensures.parted.numbers

pub returns-clause-alike : goal.returns-clause-alike
returns-clause-alike c =
    let keeps = rw (c.as_slice.ensures, c.as_slice-2.ensures) at c.in_ok-classes.ensures.keeps in
    let parted = rw (c.as_slice.ensures, c.as_slice-2.ensures) at c.in_ok-classes.ensures.parted in
    joined_alike c.args.checked.now.patterns keeps.0 (subst IsCircuit c.circuit.ensures.value c.stands.ensures) keeps.1 parted

pub returns-clause-are : goal.returns-clause-are
returns-clause-are c = λ records accepted.
    let keeps = rw (c.as_slice.ensures, c.as_slice-2.ensures, accepted.patterns) at c.in_ok-classes.ensures.keeps in
    let parted = rw (c.as_slice.ensures, c.as_slice-2.ensures, accepted.patterns) at c.in_ok-classes.ensures.parted in
    record { of = valid_bytes accepted; kept = keeps.0; keeps = keeps.1; parted = parted }

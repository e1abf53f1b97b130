use Rattle.std.proofs.Common.{◌≡◌, ◌∙◌, sym, ap, subst}
use Rattle.std.proofs.lemmas.Bool.{false≢true}
use Rattle.net_model.specs.Circuit.{Circuit, IsCircuit}
use Rattle.net_model.specs.ClassTable.{first_table}
use Rattle.net_model.specs.FaultList.{fault_count}
use Rattle.net_model.proofs.Listed.{some_number}
use Rattle.word_sim.specs.StreamState.{stream_at}
use Rattle.kept_vectors.specs.Keeper.{keeper_with, IsKeeper}
use Rattle.kept_vectors.specs.Kept.{nothing_kept}
use Rattle.kept_vectors.proofs.KeepLemmas.{keeper_first}
use Rattle.kept_vectors.proofs.keeper.Keeper.new.Goals as goal

pub new-requires : goal.new-requires
new-requires c = rw c.numbers.ensures.value (some_number c.args.subject.now)

first_keeper : (c : goal.After-new-stream) → keeper_with c.in_ok-scan.scan.good.circuit (record { vectors = c.new-vectors.result.items; table = c.in_ok-classes.classes }) ≡ keeper_with c.args.subject.now (nothing_kept (fault_count c.args.subject.now))
first_keeper c =
    let table = c.in_ok-classes.ensures ∙ ap first_table c.numbers.ensures.value in
    λ i. keeper_with (c.in_ok-scan.ensures.circuit i) (record { vectors = c.new-vectors.ensures.items i; table = table i })

pub invariant_of-result : goal.invariant_of-result
invariant_of-result c =
    let scan = c.in_ok-scan.ensures in
    record {
      scan = scan.scan;
      keeper = subst IsKeeper (sym (first_keeper c)) (keeper_first c.args.subject.now (subst IsCircuit c.circuit.ensures.value c.circuit.ensures.circuit));
      stream = (0, c.new-stream.ensures ∙ ap (λ n. stream_at n 0) (c.sources.ensures.value ∙ ap (λ (k : Circuit). k.sources) (c.circuit.ensures.value ∙ sym scan.circuit)));
      stands = λ is. absurd (false≢true is);
    }

pub returns : goal.returns
returns c = first_keeper c

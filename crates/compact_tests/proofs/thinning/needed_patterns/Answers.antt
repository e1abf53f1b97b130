use Rattle.std.proofs.Common.{◌≡◌, ◌∙◌, ◌<◌, length, ap, subst, sym}
use Rattle.std.specs.Prelude.{All}
use Rattle.std.specs.Borrow.{Bor}
use Rattle.net_model.specs.ClassTable.{ClassTable}
use Rattle.net_model.specs.FaultList.{fault_count}
use Rattle.compact_tests.specs.Remaining.{answered_rows}
use Rattle.compact_tests.specs.Thinning.{IsThinnedTo}
use Rattle.compact_tests.proofs.TableLemmas.{numbers-table}
use Rattle.compact_tests.proofs.SimulatedLemmas.{as_many_answered}
use Rattle.compact_tests.proofs.thinning.needed_patterns.Goals as goal

pub pass_all-requires-clause-numbers : goal.pass_all-requires-clause-numbers
pass_all-requires-clause-numbers c =
    let a = c.requires.answered in
    let circuit = c.args.circuit.now in
    ap (λ (t : ClassTable). length t.class_of) a.answered.table ∙ numbers-table (fault_count circuit) (answered_rows a.all)

pub returns : goal.returns
returns c =
    let circuit = c.args.circuit.now in
    let checked = c.args.checked.now in
    let a = c.requires.answered in
    let self = c.pass_all.new.self in
    let thinned = c.in_ok-pass_all.ensures.thinned in
    let classes : self.classes.now ≡ checked.classes = ap (λ (b : Bor ClassTable). b.now) c.in_ok-pass_all.ensures.classes ∙ c.in_ok-thinning.ensures.thinning.classes in
    record {
      within = subst (λ n. All (λ place. place < n) c.into_needed.result.items) (as_many_answered circuit checked.patterns checked.classes a.all a.answered) (c.into_needed.ensures.places a.all (thinned a.all a.answered).places);
      remain = λ all answered. c.into_needed.ensures.needed (fault_count circuit) all (subst (λ (t : ClassTable). IsThinnedTo (fault_count circuit) t all 0 self) (sym classes) (thinned all answered));
    }

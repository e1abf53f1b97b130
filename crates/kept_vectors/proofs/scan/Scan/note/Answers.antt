use Rattle.std.proofs.Common.{◌≡◌, ◌∙◌, ℕ, List, length, sym, ap, subst}
use Rattle.std.proofs.lemmas.Result.{on_ok_weaker}
use Rattle.net_model.specs.FaultList.{fault_count}
use Rattle.word_sim.specs.GoodSim.{GoodSim}
use Rattle.kept_vectors.proofs.GroupLemmas.{known_or_alike}
use Rattle.kept_vectors.specs.Units.{AreTogether}
use Rattle.kept_vectors.proofs.RootLemmas.{has_unit}
use Rattle.kept_vectors.proofs.ScanLemmas.{block_run}
use Rattle.kept_vectors.proofs.scan.Scan.note.Goals as goal

pub note_classes-requires-clause-run : goal.note_classes-requires-clause-run
note_classes-requires-clause-run c = block_run c.requires.scan c.run.ensures c.requires.block

pub returns-clause-told : goal.returns-clause-told
returns-clause-told c =
    let run = block_run c.requires.scan c.run.ensures c.requires.block in
    let good = c.run.new.self in
    let numbers : length c.args.classes.now.class_of ≡ fault_count good.circuit = c.requires.numbers ∙ ap (λ (g : GoodSim). fault_count g.circuit) (sym c.run.ensures) in
    on_ok_weaker c.note_classes.result (λ asked. record {
      circuit = run.circuit;
      ran = ap (λ (g : GoodSim). g.ran) c.run.ensures;
      whole = c.requires.whole;
      numbers = numbers;
      roots = c.note_classes.ensures.of.roots.whole ∙ sym numbers;
      units = has_unit good run.circuit c.note_classes.new.self.units.roots.now c.note_classes.ensures.of.roots run.widths c.args.classes.now numbers (subst (λ (rs : List ℕ). AreTogether rs c.args.classes.now) (sym c.note_classes.ensures.units) c.requires.together);
      mates = known_or_alike asked;
    }) c.note_classes.ensures.asked

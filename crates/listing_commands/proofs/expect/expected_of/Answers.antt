use Rattle.std.proofs.Common.{◌≤◌, ◌<◌, ◌∙◌, ℕ, List, length, sym, ap, ap₂, subst, arith}
use Rattle.net_model.specs.Circuit.{Circuit, IsCircuit}
use Rattle.net_model.proofs.Listed.{some_number}
use Rattle.table_dicts.proofs.FailLemmas.{is_table}
use Rattle.table_dicts.proofs.OneTable.{answers_exist}
use Rattle.diagnose.specs.Lines.{text_limit}
use Rattle.listing_commands.specs.Texts.{expected_counts_text}
use Rattle.listing_commands.proofs.expect.expected_of.Goals as goal

pub returns : goal.returns
returns c =
    let circuit = c.args.setting.now.subject.now in
    let patterns = c.args.setting.now.patterns.now in
    let made = answers_exist circuit (subst IsCircuit c.circuit.ensures.value c.circuit.ensures.circuit) patterns in
    let answers = made.0 in
    let are = made.1 in
    let file_is = c.in_ok-file.ensures answers are in
    record {
      each = λ classes. record {
        table = answers;
        answers = are;
        file_is = file_is;
        text_is = c.in_ok-text.ensures ∙ ap₂ expected_counts_text (ap length c.as_slice.ensures) (ap length (c.positions.ensures.value ∙ ap (λ (k : Circuit). k.positions) c.circuit.ensures.value));
        read_back = λ short.
            c.expected_log_lists_nothing.ensures.read answers (is_table circuit patterns answers are) (subst (λ (n : ℕ). 0 < n) (sym are.numbers) (some_number circuit)) (subst (λ (t : List ℕ). length t ≤ text_limit) file_is short);
        nothing = c.expected_log_lists_nothing.ensures.nothing classes answers;
      };
    }

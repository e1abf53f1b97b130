use Rattle.std.proofs.Common.{◌∙◌, ap₂, sym, subst}
use Rattle.net_model.specs.Circuit.{IsCircuit}
use Rattle.table_dicts.proofs.OneTable.{answers_exist}
use Rattle.bridging_faults.specs.Texts.{bridges_text}
use Rattle.bridging_faults.specs.Printed.{AreBridgesOf}
use Rattle.bridging_faults.proofs.Promised.{promised}
use Rattle.text_fields.specs.Fields.{Text}
use Rattle.listing_commands.proofs.BridgeLemmas.{first_named, second_named}
use Rattle.listing_commands.proofs.bridges.text_at.Goals as goal

pub bridges_text-requires-clause-first : goal.bridges_text-requires-clause-first
bridges_text-requires-clause-first c =
    let made = answers_exist c.args.setting.now.subject.now (subst IsCircuit c.circuit.ensures.value c.stands.ensures) c.args.setting.now.patterns.now in
    first_named (c.in_ok-listed.ensures c.args.partial.now made.0 c.in_ok-logged.ensures made.1) c.requires.named

pub bridges_text-requires-clause-second : goal.bridges_text-requires-clause-second
bridges_text-requires-clause-second c =
    let made = answers_exist c.args.setting.now.subject.now (subst IsCircuit c.circuit.ensures.value c.stands.ensures) c.args.setting.now.patterns.now in
    second_named (c.in_ok-listed.ensures c.args.partial.now made.0 c.in_ok-logged.ensures made.1) c.requires.named

pub returns : goal.returns
returns c =
    let circuit = c.args.setting.now.subject.now in
    let names = c.args.names.now in
    let patterns = c.args.setting.now.patterns.now in
    let lines = c.args.partial.now in
    let logged = c.in_ok-logged.ensures in
    let list = c.in_ok-listed.listed in
    let made = answers_exist circuit (subst IsCircuit c.circuit.ensures.value c.stands.ensures) patterns in
    let answers = made.0 in
    let are = made.1 in
    let Is : Text → Type 0 = λ text. AreBridgesOf circuit names patterns lines c.args.within c.args.most text in
    let text_is = c.in_ok-text.ensures ∙ ap₂ (bridges_text names list) (c.count_failing-failing.ensures c.args.setting.now lines answers logged are) c.len.ensures in
    subst Is (sym text_is) (promised circuit names patterns answers lines c.args.within c.args.most list are (c.in_ok-listed.ensures lines answers logged are))

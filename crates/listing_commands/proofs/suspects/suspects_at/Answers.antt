use Rattle.std.proofs.Common.{refl, sym, subst, inl, inr}
use Rattle.net_model.specs.Circuit.{IsCircuit}
use Rattle.table_dicts.proofs.SettingLemmas.{scored}
use Rattle.result_records.specs.Spelling.{text_of}
use Rattle.listing_commands.specs.Suspects.{IsSuspectsText}
use Rattle.run_steps.proofs.SuspectLemmas.{valid_bytes}
use Rattle.run_steps.proofs.Followed.{ends_at_file, goes_on, no_memory_after}
use Rattle.run_steps.proofs.PlanEnds.{three_read, says_follows}
use Rattle.listing_commands.proofs.AlikeLemmas.{own_alike, own_classes}
use Rattle.listing_commands.proofs.suspects.suspects_at.Goals as goal

pub text_at-requires-clause-scored : goal.text_at-requires-clause-scored
text_at-requires-clause-scored g c = scored c.setting_of-setting.ensures.setting

pub text_at-requires-clause-alike : goal.text_at-requires-clause-alike
text_at-requires-clause-alike g c =
    let is : IsCircuit c.args.subject.now = subst IsCircuit c.circuit.ensures.value c.stands.ensures in
    own_alike (subst IsCircuit (sym c.setting_of-setting.ensures.circuit) is) c.setting_of-setting.ensures.setting.classes

pub text_at-requires-clause-partial : goal.text_at-requires-clause-partial
text_at-requires-clause-partial g c = rw (c.setting_of-setting.ensures.circuit, c.setting_of-setting.ensures.patterns) c.in_ok-partial.ensures.lines

pub returns-in_err-partial : goal.returns-in_err-partial
returns-in_err-partial g c = λ records accepted.
    ends_at_file three_read (inr (inr (inr (inl refl)))) c.from_residual.result c.from_residual.ensures.1 (c.in_err-partial.ensures.err records accepted)

pub returns-in_err-text : goal.returns-in_err-text
returns-in_err-text g c = λ records accepted.
    no_memory_after (c.in_ok-partial.ensures.ok records accepted) three_read c.from_residual-in_err-text.result c.from_residual-in_err-text.ensures.1 (g.met.S.Shelf.sure_tells _)

pub returns : goal.returns
returns g c = λ records accepted.
    let circuit = c.args.subject.now in
    let file = text_of records in
    let lines = c.in_ok-partial.partial in
    let listed = rw (c.setting_of-setting.ensures.circuit, c.setting_of-setting.ensures.patterns, c.setting_of-setting.ensures.classes, accepted.patterns, ← c.as_bytes.ensures.value) at c.in_ok-text.ensures in
    let w : IsCircuit circuit = subst IsCircuit c.circuit.ensures.value c.stands.ensures in
    let is : IsSuspectsText circuit file lines c.args.most c.as_bytes.result.now = record { of = valid_bytes accepted; classes = c.args.checked.now.classes; classes_are = accepted.table; are = own_classes w accepted.table listed } in
    goes_on (c.in_ok-partial.ensures.ok records accepted) (g.met.S.Shelf.sure_tells _) (says_follows (IsSuspectsText circuit file lines c.args.most) three_read.breaks (inl refl) is c.say.ensures)

use Rattle.std.proofs.Common.{refl, inl, inr}
use Rattle.table_dicts.proofs.SettingLemmas.{scored}
use Rattle.result_records.specs.Spelling.{text_of}
use Rattle.listing_commands.specs.Bridges.{IsBridgesText}
use Rattle.run_steps.proofs.SuspectLemmas.{valid_bytes}
use Rattle.run_steps.proofs.Followed.{ends_at_file, goes_on, no_memory_after}
use Rattle.run_steps.proofs.PlanEnds.{three_read, says_follows}
use Rattle.listing_commands.proofs.bridges.bridges_at.Goals as goal

pub text_at-requires-clause-named : goal.text_at-requires-clause-named
text_at-requires-clause-named g c = rw c.setting_of-setting.ensures.circuit c.requires.named

pub text_at-requires-clause-scored : goal.text_at-requires-clause-scored
text_at-requires-clause-scored g c = scored c.setting_of-setting.ensures.setting

pub text_at-requires-clause-partial : goal.text_at-requires-clause-partial
text_at-requires-clause-partial g c = rw (c.setting_of-setting.ensures.circuit, c.setting_of-setting.ensures.patterns) c.in_ok-partial.ensures.lines

pub returns-in_err-partial : goal.returns-in_err-partial
returns-in_err-partial g c = λ records accepted.
    ends_at_file three_read (inr (inr (inr (inl refl)))) c.from_residual.result c.from_residual.ensures.1 (c.in_err-partial.ensures.err records accepted)

pub returns-in_err-text : goal.returns-in_err-text
returns-in_err-text g c = λ records accepted.
    no_memory_after (c.in_ok-partial.ensures.ok records accepted) three_read c.from_residual-in_err-text.result c.from_residual-in_err-text.ensures.1 (g.met.S.Shelf.sure_tells _)

pub returns : goal.returns
returns g c = λ records accepted.
    let circuit = c.args.subject.now in
    let file = text_of records in
    let lines = c.in_ok-partial.partial in
    let names = c.args.names.now in
    let listed = rw (c.setting_of-setting.ensures.circuit, c.setting_of-setting.ensures.patterns, accepted.patterns) at c.in_ok-text.ensures in
    let is : IsBridgesText circuit names file lines c.args.within c.args.most c.in_ok-text.text.items = record { of = valid_bytes accepted; are = listed } in
    goes_on (c.in_ok-partial.ensures.ok records accepted) (g.met.S.Shelf.sure_tells _) (says_follows (IsBridgesText circuit names file lines c.args.within c.args.most) three_read.breaks (inl refl) is (rw c.deref.ensures.value at c.say.ensures))

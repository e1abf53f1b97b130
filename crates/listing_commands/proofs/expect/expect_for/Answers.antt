use Rattle.std.proofs.Common.{refl, inl, inr}
use Rattle.table_dicts.proofs.SettingLemmas.{scored}
use Rattle.result_records.specs.Spelling.{text_of}
use Rattle.result_records.specs.Marks.{patterns_in}
use Rattle.listing_commands.specs.Applied.{IsExpectedAt}
use Rattle.listing_commands.specs.Suspects.{IsExpectedLog}
use Rattle.run_steps.proofs.CheckedLemmas.{checked_widths, checked_table}
use Rattle.run_steps.proofs.SuspectLemmas.{valid_bytes}
use Rattle.run_steps.proofs.Followed.{ends_at_file, goes_on, no_memory_after}
use Rattle.run_steps.proofs.PlanEnds.{two_read, makes_follows}
use Rattle.listing_commands.proofs.expect.expect_for.Goals as goal

pub returns-in_err-checked : goal.returns-in_err-checked
returns-in_err-checked g c = ends_at_file two_read (inr (inr (inl refl))) c.from_residual.result c.from_residual.ensures.1 c.in_err-checked.ensures.err

pub setting_of-setting-requires-clause-widths : goal.setting_of-setting-requires-clause-widths
setting_of-setting-requires-clause-widths g c = checked_widths c.in_ok-checked.ensures.ok.1

pub setting_of-setting-requires-clause-table : goal.setting_of-setting-requires-clause-table
setting_of-setting-requires-clause-table g c = checked_table c.in_ok-checked.ensures.ok.1

pub expected_of-requires : goal.expected_of-requires
expected_of-requires g c = scored c.setting_of-setting.ensures.setting

pub returns-in_err-made : goal.returns-in_err-made
returns-in_err-made g c =
    no_memory_after c.in_ok-checked.ensures.ok.2 two_read c.from_residual-in_err-made.result c.from_residual-in_err-made.ensures.1 (g.met.S.Shelf.sure_tells _)

pub returns : goal.returns
returns g c =
    let circuit = c.args.subject.now in
    let read = c.in_ok-checked.ensures.ok in
    let made : IsExpectedAt circuit (patterns_in read.0) c.deref.result.now c.as_bytes.result.now =
    rw (c.setting_of-setting.ensures.circuit, c.setting_of-setting.ensures.patterns, read.1.patterns, ← c.deref.ensures.value, ← c.as_bytes.ensures.value) at c.in_ok-made.ensures in
    let classes = c.in_ok-checked.checked.classes in
    let is : IsExpectedLog circuit (text_of read.0) c.deref.result.now c.as_bytes.result.now = record { of = valid_bytes read.1; classes = classes; classes_are = read.1.table; expected = made.each classes } in
    goes_on read.2 (g.met.S.Shelf.sure_tells _) (makes_follows (IsExpectedLog circuit (text_of read.0)) two_read.breaks (inl refl) (inl refl) is c.save.ensures)

use Rattle.std.proofs.Common.{refl, inl, inr}
use Rattle.result_records.specs.Spelling.{text_of}
use Rattle.dictionary_commands.specs.Dictionaries.{IsMadeDictionary}
use Rattle.run_steps.proofs.CheckedLemmas.{checked_widths, checked_table}
use Rattle.run_steps.proofs.Followed.{ends_at_file, goes_on, no_memory_after}
use Rattle.run_steps.proofs.PlanEnds.{two_read, makes_follows}
use Rattle.dictionary_commands.proofs.dict.make_dictionary.Goals as goal

pub returns-in_err-design : goal.returns-in_err-design
returns-in_err-design g c = ends_at_file two_read (inr (inl refl)) c.from_residual.result c.from_residual.ensures.1 c.in_err-design.ensures.err

pub returns-in_err-subject : goal.returns-in_err-subject
returns-in_err-subject g c =
    no_memory_after c.in_ok-design.ensures.ok two_read c.from_residual-in_err-subject.result c.from_residual-in_err-subject.ensures.1 (g.met.S.Shelf.sure_tells _)

pub returns-in_err-checked : goal.returns-in_err-checked
returns-in_err-checked g c =
    let over = rw c.in_ok-subject.ensures at c.in_err-checked.ensures.err in
    goes_on c.in_ok-design.ensures.ok (g.met.S.Shelf.sure_tells _) (ends_at_file two_read (inr (inr (inl refl))) c.from_residual-in_err-checked.result c.from_residual-in_err-checked.ensures.1 over)

pub setting_of-setting-requires-clause-widths : goal.setting_of-setting-requires-clause-widths
setting_of-setting-requires-clause-widths g c = checked_widths c.in_ok-checked.ensures.ok.1

pub setting_of-setting-requires-clause-table : goal.setting_of-setting-requires-clause-table
setting_of-setting-requires-clause-table g c = checked_table c.in_ok-checked.ensures.ok.1

pub returns-in_err-made : goal.returns-in_err-made
returns-in_err-made g c =
    let read = rw c.in_ok-subject.ensures at c.in_ok-checked.ensures.ok.2 in
    goes_on c.in_ok-design.ensures.ok (g.met.S.Shelf.sure_tells _) (no_memory_after read two_read c.from_residual-in_err-made.result c.from_residual-in_err-made.ensures.1 (g.met.S.Shelf.sure_tells _))

pub returns : goal.returns
returns g c =
    let circuit = c.in_ok-design.design.circuit in
    let read = rw c.in_ok-subject.ensures at c.in_ok-checked.ensures.ok in
    let made = rw (c.setting_of-setting.ensures.circuit, c.setting_of-setting.ensures.patterns, c.setting_of-setting.ensures.classes, read.1.patterns, c.in_ok-subject.ensures, ← c.deref.ensures.value, ← c.as_bytes.ensures.value) at c.in_ok-made.ensures in
    let is : IsMadeDictionary circuit c.args.kind (text_of read.0) c.deref.result.now c.as_bytes.result.now = record { records = read.0; spelled = refl; valid = read.1.valid; classes = c.in_ok-checked.checked.classes; table = read.1.table; made = made } in
    goes_on c.in_ok-design.ensures.ok (g.met.S.Shelf.sure_tells _)
    (goes_on read.2 (g.met.S.Shelf.sure_tells _) (makes_follows (IsMadeDictionary circuit c.args.kind (text_of read.0)) two_read.breaks (inl refl) (inl refl) is c.save.ensures))

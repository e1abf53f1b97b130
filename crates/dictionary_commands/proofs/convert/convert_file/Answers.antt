use Rattle.std.proofs.Common.{◌≡◌, ◌∙◌, ap, refl, inl, inr, length}
use Rattle.dict_file.specs.declared.fault.DictVersion.TheVariants.{Two}
use Rattle.dict_file.specs.Spelling.{dict_spelling}
use Rattle.dictionary_commands.specs.Texts.{groups_text}
use Rattle.dictionary_commands.specs.Dictionaries.{IsConverted}
use Rattle.run_steps.proofs.Followed.{ends_at_file, goes_on, no_memory_after}
use Rattle.run_steps.proofs.PlanEnds.{dictionary_read, makes_follows}
use Rattle.dictionary_commands.proofs.convert.convert_file.Goals as goal

pub returns-in_err-dict : goal.returns-in_err-dict
returns-in_err-dict g c = ends_at_file dictionary_read (inr (inl refl)) c.from_residual.result c.from_residual.ensures.1 c.in_err-dict.ensures.err

pub encode-requires-clause-grouped : goal.encode-requires-clause-grouped
encode-requires-clause-grouped g c = c.in_ok-dict.ensures.spelled.grouped

pub encode-requires-clause-shaped : goal.encode-requires-clause-shaped
encode-requires-clause-shaped g c = c.in_ok-dict.ensures.spelled.shaped

pub returns-in_err-file : goal.returns-in_err-file
returns-in_err-file g c = no_memory_after c.in_ok-dict.ensures.ok dictionary_read c.from_residual-in_err-file.result c.from_residual-in_err-file.ensures.1 (g.met.S.Shelf.sure_tells _)

pub group_count-requires : goal.group_count-requires
group_count-requires g c = c.in_ok-dict.ensures.spelled.grouped

pub returns-in_err-text : goal.returns-in_err-text
returns-in_err-text g c = no_memory_after c.in_ok-dict.ensures.ok dictionary_read c.from_residual-in_err-text.result c.from_residual-in_err-text.ensures.1 (g.met.S.Shelf.sure_tells _)

pub returns : goal.returns
returns g c =
    let d = c.in_ok-dict.dict in
    let file : c.deref.result.now ≡ dict_spelling Two d = c.deref.ensures.value ∙ c.in_ok-file.ensures in
    let text : c.as_bytes.result.now ≡ groups_text d.numbers d.patterns (length d.entries) = c.as_bytes.ensures.value ∙ (c.in_ok-text.ensures ∙ ap (λ k. groups_text d.numbers d.patterns k) c.group_count.ensures) in
    goes_on c.in_ok-dict.ensures.ok (g.met.S.Shelf.sure_tells _) (makes_follows (IsConverted d) dictionary_read.breaks (inl refl) (inl refl) (record { file_is = file; text_is = text }) c.save.ensures)

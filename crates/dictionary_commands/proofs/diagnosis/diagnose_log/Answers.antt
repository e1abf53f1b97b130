use Rattle.std.proofs.Common.{◌∙◌, refl, inl, inr}
use Rattle.dictionary_commands.specs.Dictionaries.{IsDiagnosis}
use Rattle.run_steps.proofs.Followed.{ends_at_file, goes_on, no_memory_after}
use Rattle.run_steps.proofs.PlanEnds.{log_read, says_follows}
use Rattle.dictionary_commands.proofs.diagnosis.diagnose_log.Goals as goal

pub returns-in_err-dict : goal.returns-in_err-dict
returns-in_err-dict g c = ends_at_file log_read (inr (inl refl)) c.from_residual.result c.from_residual.ensures.1 c.in_err-dict.ensures.err

pub returns-in_err-observed : goal.returns-in_err-observed
returns-in_err-observed g c =
    goes_on c.in_ok-dict.ensures.ok (g.met.S.Shelf.sure_tells _)
    (ends_at_file log_read (inr (inr (inl refl))) c.from_residual-in_err-observed.result c.from_residual-in_err-observed.ensures.1 c.in_err-observed.ensures.err)

pub diagnosis-requires-clause-dictionary : goal.diagnosis-requires-clause-dictionary
diagnosis-requires-clause-dictionary g c = c.in_ok-dict.ensures.spelled

pub returns-in_err-text : goal.returns-in_err-text
returns-in_err-text g c =
    goes_on c.in_ok-dict.ensures.ok (g.met.S.Shelf.sure_tells _)
    (no_memory_after c.in_ok-observed.ensures.ok log_read c.from_residual-in_err-text.result c.from_residual-in_err-text.ensures.1 (g.met.S.Shelf.sure_tells _))

pub returns : goal.returns
returns g c =
    let d = c.in_ok-dict.dict in
    let observed = c.in_ok-observed.observed in
    let is : IsDiagnosis d observed c.deref.result.now = c.deref.ensures.value ∙ c.in_ok-text.ensures in
    goes_on c.in_ok-dict.ensures.ok (g.met.S.Shelf.sure_tells _)
    (goes_on c.in_ok-observed.ensures.ok (g.met.S.Shelf.sure_tells _) (says_follows (IsDiagnosis d observed) log_read.breaks (inl refl) is c.say.ensures))

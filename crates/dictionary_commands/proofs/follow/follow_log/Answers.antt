use Rattle.std.proofs.Common.{◌∙◌, refl, inl, inr}
use Rattle.dictionary_commands.specs.AdaptivePlans.{IsOutcomeText}
use Rattle.run_steps.proofs.Followed.{ends_at_file, goes_on, no_memory_after}
use Rattle.run_steps.proofs.PlanEnds.{walk_read, says_follows}
use Rattle.dictionary_commands.proofs.follow.follow_log.Goals as goal

pub returns-in_err-adaptive : goal.returns-in_err-adaptive
returns-in_err-adaptive g c = ends_at_file walk_read (inr (inl refl)) c.from_residual.result c.from_residual.ensures.1 c.in_err-adaptive.ensures.err

pub read_walk-requires : goal.read_walk-requires
read_walk-requires g c = c.in_ok-adaptive.ensures.formed

pub returns-in_err-outcome : goal.returns-in_err-outcome
returns-in_err-outcome g c =
    goes_on c.in_ok-adaptive.ensures.ok (g.met.S.Shelf.sure_tells _)
    (ends_at_file walk_read (inr (inr (inl refl))) c.from_residual-in_err-outcome.result c.from_residual-in_err-outcome.ensures.1 c.in_err-outcome.ensures.err)

pub returns-in_err-text : goal.returns-in_err-text
returns-in_err-text g c =
    goes_on c.in_ok-adaptive.ensures.ok (g.met.S.Shelf.sure_tells _)
    (no_memory_after c.in_ok-outcome.ensures.ok walk_read c.from_residual-in_err-text.result c.from_residual-in_err-text.ensures.1 (g.met.S.Shelf.sure_tells _))

pub returns : goal.returns
returns g c =
    let outcome = c.in_ok-outcome.outcome in
    let is : IsOutcomeText outcome c.as_bytes.result.now = c.as_bytes.ensures.value ∙ c.in_ok-text.ensures in
    goes_on c.in_ok-adaptive.ensures.ok (g.met.S.Shelf.sure_tells _)
    (goes_on c.in_ok-outcome.ensures.ok (g.met.S.Shelf.sure_tells _) (says_follows (IsOutcomeText outcome) walk_read.breaks (inl refl) is c.say.ensures))

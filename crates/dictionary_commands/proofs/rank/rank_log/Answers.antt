use Rattle.std.proofs.Common.{refl, inl, inr}
use Rattle.dictionary_commands.specs.Rankings.{IsRankText}
use Rattle.run_steps.proofs.Followed.{ends_at_file, goes_on, no_memory_after}
use Rattle.run_steps.proofs.PlanEnds.{log_read, says_follows}
use Rattle.dictionary_commands.proofs.rank.rank_log.Goals as goal

pub returns-in_err-dict : goal.returns-in_err-dict
returns-in_err-dict g c = ends_at_file log_read (inr (inl refl)) c.from_residual.result c.from_residual.ensures.1 c.in_err-dict.ensures.err

pub returns-in_err-partial : goal.returns-in_err-partial
returns-in_err-partial g c =
    goes_on c.in_ok-dict.ensures.ok (g.met.S.Shelf.sure_tells _)
    (ends_at_file log_read (inr (inr (inl refl))) c.from_residual-in_err-partial.result c.from_residual-in_err-partial.ensures.1 c.in_err-partial.ensures.err)

pub ranked_text-requires-clause-dictionary : goal.ranked_text-requires-clause-dictionary
ranked_text-requires-clause-dictionary g c = c.in_ok-dict.ensures.spelled

pub ranked_text-requires-clause-partial : goal.ranked_text-requires-clause-partial
ranked_text-requires-clause-partial g c = c.in_ok-partial.ensures.lines

pub returns-in_err-text : goal.returns-in_err-text
returns-in_err-text g c =
    goes_on c.in_ok-dict.ensures.ok (g.met.S.Shelf.sure_tells _)
    (no_memory_after c.in_ok-partial.ensures.ok log_read c.from_residual-in_err-text.result c.from_residual-in_err-text.ensures.1 (g.met.S.Shelf.sure_tells _))

pub returns : goal.returns
returns g c =
    let d = c.in_ok-dict.dict in
    let lines = c.in_ok-partial.partial in
    let is : IsRankText d lines c.args.within c.as_bytes.result.now = rw c.as_bytes.ensures.value c.in_ok-text.ensures in
    goes_on c.in_ok-dict.ensures.ok (g.met.S.Shelf.sure_tells _)
    (goes_on c.in_ok-partial.ensures.ok (g.met.S.Shelf.sure_tells _) (says_follows (IsRankText d lines c.args.within) log_read.breaks (inl refl) is c.say.ensures))

use Rattle.std.proofs.Common.{refl, arith}
use Rattle.dict_rows.proofs.RowLemmas.{rows_all}
use Rattle.samediff_dict.specs.Numbered.{baselines_at}
use Rattle.samediff_dict.proofs.CandidateLemmas.{length-baselines}
use Rattle.samediff_dict.proofs.setting.baselines.Goals as goal

pub copy_range-requires : goal.copy_range-requires
copy_range-requires g c = (c.requires, (omega (arith, c.end_after-end.ensures.more), (c.end_after-end.ensures.within, c.loop-first.invariant.begun)))

pub loop-first-preserved : goal.loop-first-preserved
loop-first-preserved g c = record { within = c.end_after-end.ensures.within; begun = c.in_ok-copy_range.ensures }

pub returns-clause-rows : goal.returns-clause-rows
returns-clause-rows g c =
    let k = c.args.setting.now.classes.now in
    let chosen = c.args.chosen.now in
    rows_all (baselines_at k g.t.rows chosen) c.loop-first.invariant.begun (omega arith) (length-baselines k g.t.rows chosen) (λ row h. refl)

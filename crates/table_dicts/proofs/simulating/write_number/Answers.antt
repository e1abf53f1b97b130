use Rattle.std.proofs.Common.{length, sym, subst}
use Rattle.table_dicts.specs.declared.pattern_sim.PatternSim.{PatternSim}
use Rattle.dict_rows.specs.AnswerTable.{IsNumberSet}
use Rattle.table_dicts.specs.Blocks.{FitsAt, IsKeptBit}
use Rattle.table_dicts.proofs.simulating.write_number.Goals as goal

pub write-requires-clause-fits : goal.write-requires-clause-fits
write-requires-clause-fits c =
    let fits = c.requires.fits in
    subst (λ (b : PatternSim). FitsAt c.args.kept b c.args.table.now c.args.first) (sym c.inject.ensures.kept) (record { width = fits.width; aligned = fits.aligned; within = fits.within })

pub returns-clause-set : goal.returns-clause-set
returns-clause-set c =
    let old = c.args.table.now in
    subst (λ (b : PatternSim). IsNumberSet (λ lane at. IsKeptBit c.args.kept b.good.circuit b.block.vectors lane c.args.number) (length b.block.vectors) old c.write.new.table c.args.place c.args.first old.positions) c.inject.ensures.kept c.write.ensures

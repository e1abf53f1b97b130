use Rattle.std.proofs.Common.{◌≡◌, ◌∙◌, ◌<◌, length, get_or, refl, sym, ap, subst, arith}
use Rattle.std.proofs.lemmas.List.Elements.{All-get_or}
use Rattle.net_model.specs.FaultList.{fault_count}
use Rattle.table_dicts.specs.declared.pattern_sim.PatternSim.{PatternSim}
use Rattle.dict_rows.specs.AnswerTable.{IsNumberSet}
use Rattle.table_dicts.specs.Blocks.{FitsAt, IsKeptBit, IsListedBit, AreNumbersSet}
use Rattle.dict_rows.proofs.BlockWordLemmas.{number_as}
use Rattle.table_dicts.proofs.BlockLemmas.{numbers_none, numbers_more}
use Rattle.table_dicts.proofs.simulating.write_block.Goals as goal

pub loop-place-init : goal.loop-place-init
loop-place-init c =
    let pattern_sim = c.args.pattern_sim.now in
    record { pattern_sim = refl; run = c.requires.run; set = numbers_none (IsListedBit c.args.kept pattern_sim.good.circuit pattern_sim.block.vectors c.args.numbers.now) (length pattern_sim.block.vectors) c.args.table.now c.args.first }

pub write_number-requires-clause-number : goal.write_number-requires-clause-number
write_number-requires-clause-number c =
    omega (arith, All-get_or (λ number. number < fault_count c.args.pattern_sim.now.good.circuit) c.args.numbers.now c.loop-place.place 0 (omega arith) c.requires.numbers, ap (λ (b : PatternSim). fault_count b.good.circuit) c.loop-place.invariant.pattern_sim)

pub write_number-requires-clause-place : goal.write_number-requires-clause-place
write_number-requires-clause-place c = omega (arith, c.requires.rows, c.loop-place.invariant.set.sizes.numbers_are)

pub write_number-requires-clause-fits : goal.write_number-requires-clause-fits
write_number-requires-clause-fits c =
    let sizes = c.loop-place.invariant.set.sizes in
    subst (λ (b : PatternSim). FitsAt c.args.kept b c.loop-place.table c.args.first) (sym c.loop-place.invariant.pattern_sim)
    (record { width = sizes.positions_are ∙ c.requires.fits.width; aligned = c.requires.fits.aligned; within = omega (arith, c.requires.fits.within, sizes.patterns_are) })

pub loop-place-preserved : goal.loop-place-preserved
loop-place-preserved c =
    let so_far = c.loop-place.invariant in
    let new = c.write_number.new.pattern_sim in
    let pattern_sim = c.args.pattern_sim.now in
    let place = c.loop-place.place in
    let number = get_or c.args.numbers.now place 0 in
    let vectors = pattern_sim.block.vectors in
    let Set : PatternSim → Type 0 = λ b. IsNumberSet (λ lane at. IsKeptBit c.args.kept b.good.circuit b.block.vectors lane number) (length b.block.vectors) c.loop-place.table c.write_number.new.table place c.args.first c.loop-place.table.positions in
    let one = number_as (IsListedBit c.args.kept pattern_sim.good.circuit vectors c.args.numbers.now) (λ lane k bit hl hk right. right) (subst Set so_far.pattern_sim c.write_number.ensures.set) in
    record {
      pattern_sim = c.write_number.ensures.pattern_sim ∙ ap (λ (b : PatternSim). let made : PatternSim = record b { sim = new.sim } in made) so_far.pattern_sim;
      run = c.write_number.ensures.run;
      set = numbers_more c.loop-place.table.positions so_far.set one so_far.set.sizes.positions_are c.requires.fits.within (omega (arith, c.requires.rows));
    }

pub returns-clause-set : goal.returns-clause-set
returns-clause-set c =
    let pattern_sim = c.args.pattern_sim.now in
    let all : c.loop-place.place ≡ length c.args.numbers.now = omega arith in
    subst (λ n. AreNumbersSet (IsListedBit c.args.kept pattern_sim.good.circuit pattern_sim.block.vectors c.args.numbers.now) (length pattern_sim.block.vectors) c.args.table.now c.loop-place.table n c.args.first) all c.loop-place.invariant.set

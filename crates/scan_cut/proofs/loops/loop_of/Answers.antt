use Rattle.std.proofs.Common.{◌≡◌, ◌∙◌, ◌-◌, get_or, refl, sym, arith}
use Rattle.std.specs.Prelude.{slice_get}
use Rattle.net_model.proofs.Elements.{slice_get-none}
use Rattle.net_model.proofs.WalkReach.{all_reach}
use Rattle.scan_cut.specs.Cut.{gate_words, cut_circuit}
use Rattle.scan_cut.proofs.LoopLemmas.{first_from, first_within, few_steps, walk_within}
use Rattle.scan_cut.proofs.loops.loop_of.Goals as goal

pub overflow_sub-walk : goal.overflow_sub-walk
overflow_sub-walk c = let from = first_from c.args.statements.now c.as_slice-list.ensures.driven c.args.walk.now c.requires.walk in omega (arith, from, c.requires.sources)

pub unreachable-requires : goal.unreachable-requires
unreachable-requires c =
    let n = c.args.statements.now in
    let within = first_within n c.as_slice-list.ensures.driven c.args.walk.now c.requires.walk in
    let found : c.word_of_gate.result ≡ slice_get (gate_words n.statements) (get_or c.args.walk.now 0 0 - (cut_circuit n).sources) = rw (c.as_slice-list.ensures.statements, c.requires.sources) at c.word_of_gate.ensures in
    omega (arith, within, slice_get-none (gate_words n.statements) (get_or c.args.walk.now 0 0 - (cut_circuit n).sources) (sym found ∙ c.in_default.is))

pub names_along-requires-clause-few : goal.names_along-requires-clause-few
names_along-requires-clause-few c = few_steps c.args.statements.now c.as_slice-list.ensures.driven c.args.walk.now c.requires.walk

pub names_along-requires-clause-inside : goal.names_along-requires-clause-inside
names_along-requires-clause-inside c = rw c.requires.names (walk_within c.args.statements.now c.as_slice-list.ensures.driven c.args.walk.now c.requires.walk)

pub returns : goal.returns
unfolding cut_circuit
returns c =
    let n = c.args.statements.now in
    let found = rw (c.as_slice-list.ensures.statements, c.requires.sources) at c.word_of_gate.ensures in
    record {
      walk = c.args.walk.now;
      is_walk = c.requires.walk;
      reaching = all_reach (cut_circuit n) c.args.walk.now c.requires.walk;
      first = c.in-Some.word;
      first_is = sym found ∙ c.in-Some.is;
      place_is = refl;
      names_are = rw c.requires.names at c.in_ok-names_along.ensures;
    }

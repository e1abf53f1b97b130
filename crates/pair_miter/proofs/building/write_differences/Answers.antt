use Rattle.std.proofs.Common.{◌≡◌, ◌∙◌, ◌≤◌, ℕ, List, [], ◌∷◌, ◌++◌, get_or, refl, arith, ap, sym, subst}
use Rattle.std.specs.Prelude.{All, flat_map, map}
use Rattle.std.proofs.lemmas.List.{take_all}
use Rattle.net_model.specs.declared.fault.Fault.{Fault}
use Rattle.net_model.specs.Circuit.{Circuit}
use Rattle.net_model.specs.Scope.{reached_positions}
use Rattle.clause_pool.specs.Literal.{Literal, pos_literal}
use Rattle.clause_pool.specs.Clauses.{Clause, Clauses}
use Rattle.pair_miter.specs.Adds.{Adds}
use Rattle.pair_miter.specs.Miter.{difference_clauses, differences_part, tidy}
use Rattle.pair_miter.specs.Variables.{variable_count}
use Rattle.pair_miter.proofs.AddSteps.{Remains, writes_err, writes_last, adds_none, adds_keeps, next_fails}
use Rattle.pair_miter.proofs.MiterParts.{part_of_differences, added_more}
use Rattle.pair_miter.proofs.Differences.{difference_literal, differences_more, differences_within}
use Rattle.pair_miter.proofs.Numbers.{position_listed, difference_at, difference_within}
use Rattle.pair_miter.proofs.TidyParts.{tidy_none}
use Rattle.pair_miter.proofs.building.write_differences.Goals as goal

-- the last clause is left
last_left : (c : Circuit) (f g : Fault) {xs : List ℕ} {last : Clause} {old now : Clauses} → xs ≡ reached_positions c f g → last ≡ map (difference_literal c f g) xs
    → Adds old now (tidy (flat_map (difference_clauses c f g) xs)) → Remains old now (differences_part c f g) (last ∷ [])
last_left c f g {xs} {last} {old} {now} done is adds = record {
  done = flat_map (difference_clauses c f g) (reached_positions c f g);
  parted = record { are = ap (λ (l : Clause). flat_map (difference_clauses c f g) (reached_positions c f g) ++ l ∷ []) (sym (is ∙ ap (map (difference_literal c f g)) done)) };
  adds = subst (λ xs. Adds old now (tidy (flat_map (difference_clauses c f g) xs))) done adds;
}

pub loop-position-init : goal.loop-position-init
loop-position-init c = record {
  adds = subst (Adds c.args.pool.now c.args.pool.now) (sym tidy_none) (adds_none c.args.pool.now);
  last = c.new-differences.ensures.items;
  difference = omega (arith, c.requires.difference);
  variables = refl;
}

pub write_difference-requires-clause-position : goal.write_difference-requires-clause-position
write_difference-requires-clause-position c =
    let p = c.args.numbering.now in
    (position_listed p.circuit p.f p.g c.reached_positions-position-items.result.now c.reached_positions-position-items.ensures.value c.loop-position.position-index c.loop-position-test.true).0

pub write_difference-requires-clause-reached : goal.write_difference-requires-clause-reached
write_difference-requires-clause-reached c =
    let p = c.args.numbering.now in
    (position_listed p.circuit p.f p.g c.reached_positions-position-items.result.now c.reached_positions-position-items.ensures.value c.loop-position.position-index c.loop-position-test.true).1

pub write_difference-requires-clause-difference : goal.write_difference-requires-clause-difference
write_difference-requires-clause-difference c =
    let p = c.args.numbering.now in
    c.loop-position.invariant.difference
    ∙ sym (difference_at p.circuit p.f p.g c.reached_positions-position-items.result.now c.reached_positions-position-items.ensures.value c.loop-position.position-index c.loop-position-test.true)

pub returns-in_err-write_difference-clause-written : goal.returns-in_err-write_difference-clause-written
returns-in_err-write_difference-clause-written c =
    let p = c.args.numbering.now in
    let next = part_of_differences p.circuit p.f p.g c.reached_positions-position-items.result.now c.reached_positions-position-items.ensures.value c.loop-position.position-index c.loop-position-test.true in
    writes_err c.from_residual.result c.from_residual.ensures.0 (next_fails next c.loop-position.invariant.adds c.in_err-write_difference.ensures.written)

pub literal-requires : goal.literal-requires
literal-requires c =
    let p = c.args.numbering.now in
    let positions = c.reached_positions-position-items.result.now in
    let i = c.loop-position.position-index in
    let listed = position_listed p.circuit p.f p.g positions c.reached_positions-position-items.ensures.value i c.loop-position-test.true in
    let here = c.loop-position.invariant.difference ∙ sym (difference_at p.circuit p.f p.g positions c.reached_positions-position-items.ensures.value i c.loop-position-test.true) in
    difference_within p.circuit p.f p.g (get_or positions i 0) c.loop-position.difference c.write_difference.new.self.tidier here
    (c.in_ok-write_difference.ensures.variables ∙ (c.loop-position.invariant.variables ∙ c.requires.variables)) listed.0 listed.1

pub returns-in_err-push-clause-written : goal.returns-in_err-push-clause-written
returns-in_err-push-clause-written c =
    let p = c.args.numbering.now in
    let positions = c.reached_positions-position-items.result.now in
    let next = part_of_differences p.circuit p.f p.g positions c.reached_positions-position-items.ensures.value c.loop-position.position-index c.loop-position-test.true in
    let keeps = adds_keeps c.loop-position.pool c.write_difference.new.pool (tidy (difference_clauses p.circuit p.f p.g (get_or positions c.loop-position.position-index 0))) c.in_ok-write_difference.ensures.written in
    writes_err c.from_residual-in_err-push.result c.from_residual-in_err-push.ensures.0 (next_fails next c.loop-position.invariant.adds keeps)

pub loop-position-preserved : goal.loop-position-preserved
loop-position-preserved c =
    let p = c.args.numbering.now in
    let positions = c.reached_positions-position-items.result.now in
    let i = c.loop-position.position-index in
    let inside = c.loop-position-test.true in
    let h = c.loop-position.invariant in
    let here = h.difference ∙ sym (difference_at p.circuit p.f p.g positions c.reached_positions-position-items.ensures.value i inside) in
    let literal : c.literal.result ≡ difference_literal p.circuit p.f p.g (get_or positions i 0) = c.literal.ensures ∙ ap pos_literal here in
    record {
      adds = added_more (difference_clauses p.circuit p.f p.g) positions i inside h.adds c.in_ok-write_difference.ensures.written;
      last = differences_more p.circuit p.f p.g positions i c.loop-position.differences.items c.push.new.self.items c.literal.result inside h.last literal c.in_ok-push.ensures.items;
      difference = omega (arith, h.difference);
      variables = c.in_ok-write_difference.ensures.variables ∙ h.variables;
    }

pub write-requires : goal.write-requires
write-requires c =
    let p = c.args.numbering.now in
    let all = take_all c.loop-position.position-index c.reached_positions-position-items.result.now c.loop-position-test.false ∙ c.reached_positions-position-items.ensures.value in
    let same : c.as_slice.result.now ≡ map (difference_literal p.circuit p.f p.g) (reached_positions p.circuit p.f p.g) = c.as_slice.ensures.value ∙ (c.loop-position.invariant.last ∙ ap (map (difference_literal p.circuit p.f p.g)) all) in
    let many : variable_count p.circuit p.f p.g ≡ c.loop-position.writer.tidier = sym c.requires.variables ∙ sym c.loop-position.invariant.variables in
    subst (λ (n : ℕ). All (λ (l : Literal). l.variable ≤ n) c.as_slice.result.now) many
    (subst (λ (xs : Clause). All (λ (l : Literal). l.variable ≤ variable_count p.circuit p.f p.g) xs) (sym same) (differences_within p.circuit p.f p.g))

pub returns-clause-written : goal.returns-clause-written
returns-clause-written c =
    let p = c.args.numbering.now in
    let all = take_all c.loop-position.position-index c.reached_positions-position-items.result.now c.loop-position-test.false ∙ c.reached_positions-position-items.ensures.value in
    writes_last c.write.result c.write.new.pool (last_left p.circuit p.f p.g all (c.as_slice.ensures.value ∙ c.loop-position.invariant.last) c.loop-position.invariant.adds) c.write.ensures.written

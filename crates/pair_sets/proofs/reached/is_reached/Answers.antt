use Rattle.std.proofs.Common.{◌≡◌, ◌<◌, ◌∙◌, ℕ, List, length, get_or, sym, ap, arith}
use Rattle.std.specs.Prelude.{Bool, All, ◌||◌, is_some}
use Rattle.net_model.specs.declared.fault.Fault.{Fault}
use Rattle.net_model.specs.Answer.{bit_at}
use Rattle.net_model.specs.Circuit.{Circuit, line_count}
use Rattle.net_model.specs.Fault.{stuck_position}
use Rattle.net_model.specs.Scope.{is_split, is_reached}
use Rattle.fault_list.specs.Scope.{AreMarksOfTest}
use Rattle.pair_sets.proofs.reached.is_reached.Goals as goal

-- a position is reached if the line that it shows is marked or a fault sticks the position
reached_from : (c : Circuit) (f g : Fault) (marks : List Bool) (positions : List ℕ) (at : ℕ) (mark : Bool) → AreMarksOfTest (is_split c f g) (line_count c) marks → positions ≡ c.positions → All (λ line. line < line_count c) positions → at < length c.positions
    → mark ≡ bit_at marks (get_or positions at 0) → (mark || is_some (stuck_position f at) || is_some (stuck_position g at)) ≡ is_reached c f g at
unfolding is_reached
reached_from c f g marks positions at mark are same inside h read =
    let within = inside at 0 (omega (arith, h, ap length same)) in
    ap (λ b. b || is_some (stuck_position f at) || is_some (stuck_position g at)) (read ∙ are.each (get_or positions at 0) within ∙ ap (λ xs. is_split c f g (get_or xs at 0)) same)

pub returns-then-has : goal.returns-then-has
returns-then-has c =
    let f = c.args.pair.now.f in
    let g = c.args.pair.now.g in
    let at = c.args.at in
    c.if-has.true ∙ ap (λ b. b || is_some (stuck_position f at) || is_some (stuck_position g at)) (sym c.if-has.true)
    ∙ reached_from c.args.pair.now.circuit.now f g c.args.cone.now c.positions.result.now at c.has.result c.requires.cone c.positions.ensures.value c.positions.ensures.inside c.requires.position c.has.ensures

pub returns-else-has : goal.returns-else-has
returns-else-has c =
    let f = c.args.pair.now.f in
    let g = c.args.pair.now.g in
    let at = c.args.at in
    c.is_site.ensures ∙ ap (λ b. b || is_some (stuck_position f at) || is_some (stuck_position g at)) (sym c.if-has.false)
    ∙ reached_from c.args.pair.now.circuit.now f g c.args.cone.now c.positions.result.now at c.has.result c.requires.cone c.positions.ensures.value c.positions.ensures.inside c.requires.position c.has.ensures

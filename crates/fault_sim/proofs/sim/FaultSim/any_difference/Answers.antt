use Rattle.std.proofs.Common.{◌≡◌, ◌<◌, ◌∙◌, ℕ, length, get_or, take, true, false, refl, sym, ap, subst, arith, inl, inr}
use Rattle.std.specs.Prelude.{Bool, Contains, IsTrue, ◌||◌, ◌⊎◌}
use Rattle.std.proofs.lemmas.List.{take_more, take_all}
use Rattle.std.proofs.lemmas.List.Elements.{Contains-push_cases}
use Rattle.net_model.specs.Answer.{bit_at}
use Rattle.net_model.proofs.Elements.{true_false}
use Rattle.word_sim.specs.declared.lanes.TheConstants.{LANES}
use Rattle.fault_sim.specs.FaultSim.{FaultSim, lanes_at}
use Rattle.fault_sim.proofs.sim.FaultSim.any_difference.Goals as goal

either : (a b : Bool) → IsTrue (a || b) → IsTrue a ⊎ IsTrue b
either true b t = inl refl
either false b t = inr t

left_one : (a b : Bool) → IsTrue a → IsTrue (a || b)
left_one true b t = refl
left_one false b t = absurd (true_false false t refl)

right_one : (a b : Bool) → IsTrue b → IsTrue (a || b)
right_one true b t = refl
right_one false b t = t

true_or : (b : Bool) → (b ≡ false → ⊥) → IsTrue b
true_or true h = refl
true_or false h = absurd (h refl)

pub loop-position-preserved : goal.loop-position-preserved
loop-position-preserved c =
    let sim = c.args.self.now in
    let items = c.listed-position-items.result.now in
    let i = c.loop-position.position-index in
    let at = get_or items i 0 in
    let lanes = c.loop-position.lanes in
    let row_is : c.row.result ≡ lanes_at sim at = c.row.ensures ∙ ap (λ (s : FaultSim). lanes_at s at) c.self.view_is in
    let whole : length c.self.inside.positions.rows ≡ length sim.circuit.positions = c.self.invariant.positions_whole ∙ ap (λ (s : FaultSim). length s.circuit.positions) c.self.view_is in
    let inside : at < length sim.circuit.positions = omega (arith, whole, c.listed-position-items.ensures.within i 0 c.loop-position-test.true) in
    let or_is : (lane : ℕ) → lane < LANES → bit_at c.or-lanes.result lane ≡ (bit_at lanes lane || bit_at (lanes_at sim at) lane) =
    λ lane h. c.or-lanes.ensures lane h ∙ ap (λ row. bit_at lanes lane || bit_at row lane) row_is in
    record {
      some = λ lane h t. elim (either (bit_at lanes lane) (bit_at (lanes_at sim at) lane) (subst IsTrue (or_is lane h) t)) [
        | inl was ↦ c.loop-position.invariant.some lane h was
        | inr here ↦ (at, inside, here)
      ];
      all = λ lane position h has t. subst IsTrue (sym (or_is lane h))
          (elim (Contains-push_cases (take i items) at position (subst (λ ls. Contains ls position) (take_more items i 0 c.loop-position-test.true) has)) [
            | inl earlier ↦ left_one (bit_at lanes lane) (bit_at (lanes_at sim at) lane) (c.loop-position.invariant.all lane position h earlier t)
            | inr same ↦ right_one (bit_at lanes lane) (bit_at (lanes_at sim at) lane) (subst (λ k. IsTrue (bit_at (lanes_at sim k) lane)) (sym same) t)
          ]);
    }

pub returns : goal.returns
returns c = λ lane h.
    let sim = c.args.self.now in
    let items = c.listed-position-items.result.now in
    let whole : length c.self.inside.positions.rows ≡ length sim.circuit.positions = c.self.invariant.positions_whole ∙ ap (λ (s : FaultSim). length s.circuit.positions) c.self.view_is in
    let done : take c.loop-position.position-index items ≡ items = take_all c.loop-position.position-index items c.loop-position-test.false in (
      c.loop-position.invariant.some lane h,
      λ (position, inside, t).
          let bit = bit_at c.loop-position.lanes lane in
          let unlisted : bit ≡ false → Contains c.self.inside.positions.listed position → ⊥ =
          λ e has.
          let there : Contains (take c.loop-position.position-index items) position = subst (λ ls. Contains ls position) (sym c.listed-position-items.ensures.value ∙ sym done) has in
          true_false bit (c.loop-position.invariant.all lane position h there t) e in
          let dark : bit ≡ false → ⊥ =
          λ e.
          let row_false = c.listed-position-items.ensures.others position (omega (arith, whole, inside)) (unlisted e) lane h in
          true_false (bit_at (lanes_at sim position) lane) t (sym (ap (λ (s : FaultSim). bit_at (lanes_at s position) lane) c.self.view_is) ∙ row_false) in
          true_or bit dark,
    )

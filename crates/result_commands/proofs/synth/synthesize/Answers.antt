use Rattle.std.proofs.Common.{◌∙◌, ◌∷◌, [], ℕ, List, refl, ap, inl, inr, subst}
use Rattle.result_commands.specs.Synthesis.{synth_budgets}
use Rattle.synth_netlist.specs.Synth.{synth_text}
use Rattle.run_steps.specs.Texts.{refusal_text, loop_text}
use Rattle.run_steps.specs.Netlists.{IsDesign, IsRefused}
use Rattle.run_steps.specs.Steps.{fault_text}
use Rattle.result_commands.specs.Plans.{SavesResult, IsGenerated}
use Rattle.result_commands.proofs.NumberLemmas.{never_with_text}
use Rattle.run_steps.proofs.Followed.{handed_follows, follows_nothing}
use Rattle.run_steps.proofs.PlanEnds.{no_read}
use Rattle.result_commands.proofs.Generated.{both_follows}
use Rattle.result_commands.proofs.synth.synthesize.Goals as goal

pub unreachable-requires : goal.unreachable-requires
unreachable-requires g c =
    let text = refusal_text c.in-Err-At.field-0-0 c.in-Err-At.field-0-1 in
    let refused : IsRefused (synth_text c.args.n) text = subst (λ (b : List ℕ). IsRefused b text) (c.deref.ensures.value ∙ c.in_ok-text.ensures) (c.in-Err-At.ensures.refused text (ap fault_text c.in-Err-At.field-0-is)) in
    never_with_text (c.no_number_is_refused.ensures c.args.n c.requires.most) refused

pub unreachable-requires-in-Err-Loop : goal.unreachable-requires-in-Err-Loop
unreachable-requires-in-Err-Loop g c =
    let text = loop_text c.in-Err-Loop.field-0-0 c.in-Err-Loop.field-0-1 in
    let refused : IsRefused (synth_text c.args.n) text = subst (λ (b : List ℕ). IsRefused b text) (c.deref.ensures.value ∙ c.in_ok-text.ensures) (c.in-Err-Loop.ensures.refused text (ap fault_text c.in-Err-Loop.field-0-is)) in
    never_with_text (c.no_number_is_refused.ensures c.args.n c.requires.most) refused

pub returns-in-Ok : goal.returns-in-Ok
returns-in-Ok g c =
    let n = c.args.n in
    let bench = c.args.bench.now in
    let output = c.args.output.now in
    let design = c.in-Ok.design in
    let state = g.S.Shelf.state in
    let accepted : IsDesign (synth_text n) design = subst (λ (b : List ℕ). IsDesign b design) (c.deref.ensures.value ∙ c.in_ok-text.ensures) c.in-Ok.ensures.ok in
    let saves : SavesResult design.circuit (IsGenerated design.circuit synth_budgets) ((bench, synth_text n) ∷ []) output c.save_both.result (state c.args.shelf.now) (state c.save_both.new.shelf) =
    subst (λ (text : List ℕ). SavesResult design.circuit (IsGenerated design.circuit synth_budgets) ((bench, text) ∷ []) output c.save_both.result (state c.args.shelf.now) (state c.save_both.new.shelf)) (c.deref-in-Ok.ensures.value ∙ c.in_ok-text.ensures) c.save_both.ensures in
    both_follows bench (synth_text n) output no_read (inl refl) (λ file. (inl refl, (inr (inl refl), tt))) accepted saves

pub returns-in_err-text : goal.returns-in_err-text
returns-in_err-text g c = handed_follows c.from_residual.result c.from_residual.ensures.1 (follows_nothing (g.S.Shelf.state c.args.shelf.now) no_read)

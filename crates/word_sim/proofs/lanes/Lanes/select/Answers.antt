use Rattle.std.proofs.Common.{◌≡◌, refl, ap, ◌∙◌}
use Rattle.std.specs.Prelude.{Bool, true, false, not, ◌&&◌, ◌||◌, if◌then◌else◌}
use Rattle.net_model.specs.Answer.{bit_at}
use Rattle.word_sim.proofs.lanes.Lanes.select.Goals as goal

chosen : (s one zero : Bool) → ((s && one) || (not s && zero)) ≡ (if s then one else zero)
chosen true true zero = refl
chosen true false zero = refl
chosen false one zero = refl

pub returns : goal.returns
returns c = λ lane h.
    let zero = bit_at c.args.zero lane in
    c.or.ensures lane h ∙ (λ i. c.and.ensures lane h i || (c.and-2.ensures lane h ∙ ap (λ b. b && zero) (c.not.ensures lane h)) i)
    ∙ chosen (bit_at c.args.self lane) (bit_at c.args.one lane) zero

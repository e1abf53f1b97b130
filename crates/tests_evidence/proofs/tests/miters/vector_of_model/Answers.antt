use Rattle.std.proofs.Common.{◌∙◌, length, ap, sym}
use Rattle.pair_miter.specs.Variables.{variable_count}
use Rattle.pair_miter.specs.Miter.{is_model, miter}
use Rattle.pair_miter.specs.MiterView.{Miter}
use Rattle.pair_miter.proofs.Examples.{and_variables, and_model}
use Rattle.tests_evidence.proofs.tests.miters.vector_of_model.Goals as goal

pub vector_of-requires-clause-whole : goal.vector_of-requires-clause-whole
vector_of-requires-clause-whole c = ap length c.in_ok-model.ensures ∙ sym (ap (λ (p : Miter). variable_count p.circuit p.f p.g) c.requires ∙ and_variables)

pub vector_of-requires-clause-satisfies : goal.vector_of-requires-clause-satisfies
vector_of-requires-clause-satisfies c = (λ i. is_model (c.in_ok-model.ensures i) (miter (c.requires i).circuit (c.requires i).f (c.requires i).g)) ∙ and_model

use Rattle.std.proofs.Common.{◌+◌, Bool, List, subst}
use Rattle.std.specs.Prelude.{slice_range}
use Rattle.std.specs.String.{string_bytes}
use Rattle.net_model.specs.Circuit.{Circuit}
use Rattle.sim_listing.specs.SimText.{IsSimTextFrom}
use Rattle.sim_listing.proofs.vector_texts.VectorTexts.text.Goals as goal

pub returns-clause-text : goal.returns-clause-text
returns-clause-text c =
    let number = c.args.number in
    let old = c.args.self.now in
    let bytes = string_bytes c.in_ok-text.text in
    let same = c.in_ok-reach.ensures.same in
    subst (λ (k : Circuit). IsSimTextFrom k number (slice_range old.vectors number (number + 1)) bytes) same.circuit
    (subst (λ (vs : List (List Bool)). IsSimTextFrom c.reach.new.self.circuit number (slice_range vs number (number + 1)) bytes) same.vectors c.in_ok-text.ensures)

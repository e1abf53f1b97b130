use Rattle.std.proofs.Common.{◌∙◌, ◌++◌, ◌∷◌, [], List, Bool, ap}
use Rattle.kept_vectors.specs.Scan.{kept_now}
use Rattle.kept_vectors.proofs.LeaveLemmas.{cut_by}
use Rattle.kept_vectors.proofs.scan.Kept.offer.Goals as goal

pub returns-clause-ok : goal.returns-clause-ok
returns-clause-ok c row are =
    let leavers = c.args.leaving.now.leavers.items in
    let positions = c.args.leaving.now.positions.items in
    let v = c.args.v in
    let cut = c.in_ok-part.ensures.cut row (rw (c.as_slice-leavers.ensures.value, c.as_slice-positions.ensures.value) are) in
    (λ i. record { vectors = (c.push_reserved.ensures.items ∙ ap (λ (vs : List (List Bool)). vs ++ v ∷ []) c.in_ok-reserve.ensures.items) i; table = c.part.new.self })
    ∙ cut_by (kept_now c.args.self.now) v row leavers positions c.part.new.self c.in_ok-part.field-0 c.requires.whole c.requires.some are cut

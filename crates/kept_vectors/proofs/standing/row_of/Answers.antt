use Rattle.std.proofs.Common.{◌≡◌, ◌∙◌, ap, arith, refl}
use Rattle.net_model.specs.ClassTable.{representative, class_at}
use Rattle.kept_vectors.specs.Notes.{noted_by, number_notes}
use Rattle.kept_vectors.proofs.WaitLemmas.{led_by_bit}
use Rattle.kept_vectors.proofs.standing.row_of.Goals as goal

pub returns : goal.returns
returns c lane live =
    let good = c.args.good.now in
    let t = c.args.classes.now in
    let noted = noted_by c.args.differences.now in
    let number = c.args.number in
    let lead = c.representative-lead.result in
    let lead_is : lead ≡ representative t (class_at t number) = c.representative-lead.ensures.value ∙ ap (representative t) c.class_of.ensures.value in
    let one = (c.requires.noted lead c.representative-lead.ensures.within (c.representative-lead.ensures.member ∙ c.class_of.ensures.value)).report lane live in
    let other = (c.requires.noted number c.requires.number refl).report lane live in
    led_by_bit good c.requires.circuit t number lead lane c.apart.result (number_notes noted lead lane) (number_notes noted number lane) lead_is one other live (c.apart.ensures lane (omega (arith, live, c.requires.few)))

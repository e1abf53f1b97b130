use Rattle.std.proofs.Common.{◌∙◌, []}
use Rattle.dict_file.proofs.GroupReading.{one_group_of}
use Rattle.dict_file.proofs.group_numbers.group.Goals as goal

pub returns-then-width-eq0 : goal.returns-then-width-eq0
returns-then-width-eq0 c =
    let groups = rw c.rows.ensures at c.in_ok-grouped.ensures.groups in
    one_group_of c.args.rows.now c.in_ok-grouped.grouped.groups c.in_ok-grouped.grouped.entries c.requires.some (λ k h. c.width.ensures.each k [] h ∙ c.if-width-eq0.true) groups c.in_ok-grouped.ensures.entries

use Rattle.std.proofs.Common.{◌∙◌, ap, map}
use Rattle.net_model.specs.Rows.{row_at}
use Rattle.dict_rows.proofs.GroupLemmas.{grouped_by}
use Rattle.dict_rows.proofs.grouping.group_rows.Goals as goal

pub rows_at-requires : goal.rows_at-requires
rows_at-requires c = rw c.as_slice.ensures.value c.in_ok-sorted.ensures.inside

pub returns : goal.returns
returns c =
    grouped_by c.args.rows.now c.in_ok-sorted.sorted.groups c.in_ok-sorted.sorted.firsts.items c.in_ok-sorted.ensures c.in_ok-entries.entries
    (c.in_ok-entries.ensures ∙ ap (map (row_at c.args.rows.now)) c.as_slice.ensures.value)

use Rattle.std.proofs.Common.{[], length, map, refl, arith}
use Rattle.std.specs.List.{range_with_len}
use Rattle.std.proofs.lemmas.List.FromFn.{get_or-map-range_with_len, length-map-range_with_len}
use Rattle.dict_rows.proofs.RowLemmas.{rows_all, rows_more, width_at, zeros_begun}
use Rattle.samediff_dict.specs.Copied.{class_entry}
use Rattle.samediff_dict.proofs.differing.class_entries.Goals as goal

pub write_entry-requires-clause-numbers : goal.write_entry-requires-clause-numbers
write_entry-requires-clause-numbers c = record { count = c.requires.count; each = λ pattern d h. omega (arith, (c.requires.each pattern d h).one_each) }

pub write_entry-requires-clause-width : goal.write_entry-requires-clause-width
write_entry-requires-clause-width c = width_at c.loop-class.invariant.are c.loop-class.class (omega arith)

pub loop-class-preserved : goal.loop-class-preserved
loop-class-preserved c = rows_more c.loop-class.invariant c.write_entry.ensures

pub returns-clause-entries : goal.returns-clause-entries
returns-clause-entries c =
    let entry = class_entry c.args.patterns.now c.args.chosen.now in
    rows_all (map entry (range_with_len 0 c.args.classes)) c.loop-class.invariant (omega arith) (length-map-range_with_len entry 0 c.args.classes) (λ class h. get_or-map-range_with_len entry 0 c.args.classes class class [] h (omega arith))

pub loop-class-init : goal.loop-class-init
loop-class-init c =
    let width = length c.args.chosen.now in
    zeros_begun c.args.classes width c.args.classes width (class_entry c.args.patterns.now c.args.chosen.now) c.in_ok-entries.ensures refl refl

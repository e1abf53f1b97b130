use Rattle.std.proofs.Common.{sym, subst, arith}
use Rattle.dict_file.specs.Places.{IsPlaced}
use Rattle.dict_file.specs.Reading.{new_row_part}
use Rattle.dict_file.proofs.PlaceLemmas.{entries_placed, entries_moved, read_moved, refused_moved}
use Rattle.dict_file.proofs.reading.new_entries.Goals as goal

pub read_new_rows-requires : goal.read_new_rows-requires
read_new_rows-requires c =
    subst (IsPlaced c.args.bytes.now) (sym (c.entries_at-rows.ensures _ c.requires.head))
    (entries_placed c.args.bytes.now c.args.from c.args.count c.requires.head.right c.requires.short c.requires.begins (omega arith))

pub returns-clause-read : goal.returns-clause-read
returns-clause-read c = read_moved c.args.bytes.now (new_row_part c.args.bytes.now) c.read_new_rows.result (entries_moved c.args.bytes.now (c.entries_at-rows.ensures _ c.requires.head) c.requires.from c.requires.count) c.read_new_rows.ensures.read

pub returns-clause-refused : goal.returns-clause-refused
returns-clause-refused c = refused_moved (new_row_part c.args.bytes.now) c.read_new_rows.result (entries_moved c.args.bytes.now (c.entries_at-rows.ensures _ c.requires.head) c.requires.from c.requires.count) c.read_new_rows.ensures.refused

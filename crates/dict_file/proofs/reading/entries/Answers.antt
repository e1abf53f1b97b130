use Rattle.std.proofs.Common.{sym, subst, arith}
use Rattle.dict_file.specs.Places.{IsPlaced}
use Rattle.dict_file.specs.Reading.{row_part}
use Rattle.dict_file.proofs.PlaceLemmas.{entries_placed, entries_moved, read_moved, refused_moved}
use Rattle.dict_file.proofs.reading.entries.Goals as goal

pub read_rows-requires : goal.read_rows-requires
read_rows-requires c =
    let bytes = c.args.bytes.now in
    let head = c.requires.head in
    subst (IsPlaced bytes) (sym (c.entries_at-rows.ensures bytes head)) (entries_placed bytes c.args.from c.args.head.numbers head.right c.requires.short c.requires.begins (omega (arith, head.numbers_are, head.right.1.1.1.1.1.0.1)))

pub returns-clause-read : goal.returns-clause-read
returns-clause-read c =
    let head = c.requires.head in
    read_moved c.args.bytes.now (row_part c.args.bytes.now) c.read_rows.result (entries_moved c.args.bytes.now (c.entries_at-rows.ensures _ head) c.requires.from head.numbers_are) c.read_rows.ensures.read

pub returns-clause-refused : goal.returns-clause-refused
returns-clause-refused c =
    let head = c.requires.head in
    refused_moved (row_part c.args.bytes.now) c.read_rows.result (entries_moved c.args.bytes.now (c.entries_at-rows.ensures _ head) c.requires.from head.numbers_are) c.read_rows.ensures.refused

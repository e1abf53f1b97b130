use Rattle.std.proofs.Common.{sym, subst}
use Rattle.dict_file.specs.Places.{IsPlaced}
use Rattle.dict_file.specs.Reading.{row_part}
use Rattle.dict_file.proofs.PlaceLemmas.{baselines_placed, read_moved, refused_moved}
use Rattle.dict_file.proofs.reading.baselines.Goals as goal

pub read_rows-requires : goal.read_rows-requires
read_rows-requires c =
    let bytes = c.args.bytes.now in
    subst (IsPlaced bytes) (sym (c.baselines_at-rows.ensures bytes c.requires.head)) (baselines_placed bytes c.args.from c.requires.head.right c.requires.short c.requires.begins)

pub returns-clause-read : goal.returns-clause-read
returns-clause-read c = read_moved c.args.bytes.now (row_part c.args.bytes.now) c.read_rows.result (c.baselines_at-rows.ensures _ c.requires.head) c.read_rows.ensures.read

pub returns-clause-refused : goal.returns-clause-refused
returns-clause-refused c = refused_moved (row_part c.args.bytes.now) c.read_rows.result (c.baselines_at-rows.ensures _ c.requires.head) c.read_rows.ensures.refused

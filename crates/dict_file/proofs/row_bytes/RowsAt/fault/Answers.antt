use Rattle.std.proofs.Common.{arith}
use Rattle.dict_file.proofs.BitLemmas.{fits_tight}
use Rattle.dict_file.proofs.row_bytes.RowsAt.fault.Goals as goal

pub overflow_add-end : goal.overflow_add-end
overflow_add-end c = omega (arith, c.start.ensures, c.size.ensures, c.requires.row, c.requires.placed.short, c.requires.placed.narrow, fits_tight c.args.self.width)

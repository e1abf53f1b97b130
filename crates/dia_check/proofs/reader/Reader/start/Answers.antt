use Rattle.std.proofs.Common.{refl}
use Rattle.dia_check.proofs.ReaderLemmas.{reading_none}
use Rattle.dia_check.proofs.reader.Reader.start.Goals as goal

pub returns : goal.returns
returns c = reading_none _ c.in_ok-start.ensures c.new.ensures refl refl

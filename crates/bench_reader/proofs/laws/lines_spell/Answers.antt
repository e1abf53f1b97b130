use Rattle.bench_reader.proofs.LineLemmas.{lines_spell}
use Rattle.bench_reader.proofs.laws.lines_spell.Goals as goal

pub returns : goal.returns
returns c = lines_spell

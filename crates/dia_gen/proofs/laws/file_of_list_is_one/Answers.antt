use Rattle.dia_gen.proofs.OneFile.{one_file}
use Rattle.dia_gen.proofs.laws.file_of_list_is_one.Goals as goal

pub returns : goal.returns
returns c = one_file

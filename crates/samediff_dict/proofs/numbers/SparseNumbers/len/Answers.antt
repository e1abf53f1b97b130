use Rattle.std.proofs.Common.{sym}
use Rattle.samediff_dict.proofs.SparseLemmas.{list_length}
use Rattle.samediff_dict.proofs.numbers.SparseNumbers.len.Goals as goal

pub returns : goal.returns
returns c = let a = c.self.inside in sym (list_length a.marks.items a.before.items a.others.items c.args.self.now a.len c.self.view_is)

use Rattle.std.proofs.Common.{◌∙◌, ℕ, List, Vec, Global, set, ap}
use Rattle.std.proofs.lemmas.List.{map-set}
use Rattle.samediff_dict.proofs.gain_table.GainTable.set.Goals as goal

pub returns : goal.returns
returns c = map-set (λ (row : Vec ℕ Global). row.items) c.self.inside.rows.items c.args.pattern c.args.gains ∙ ap (λ (xs : List (List ℕ)). set xs c.args.pattern c.args.gains.items) c.self.view_is

use Rattle.std.proofs.Common.{ℕ, List, false, sym, subst}
use Rattle.samediff_dict.specs.GainTable.{HaveGains}
use Rattle.samediff_dict.proofs.TableLemmas.{no_gains}
use Rattle.samediff_dict.proofs.choosing.BaselineChoice.counted.Goals as goal

pub run-requires-clause-gains : goal.run-requires-clause-gains
run-requires-clause-gains g c = subst (λ (rows : List (List ℕ)). HaveGains c.args.self.now.patterns.now (λ _ _ _. false) rows) (sym c.in_ok-table.ensures) (no_gains c.args.self.now.patterns.now)

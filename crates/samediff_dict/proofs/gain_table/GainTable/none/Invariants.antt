use Rattle.std.proofs.Common.{◌≡◌, ℕ, map, replicate, take}
use Rattle.samediff_dict.proofs.gain_table.GainTable.none.Given as goal

abbrev pub invariant-loop-pattern : goal.invariant-loop-pattern
invariant-loop-pattern l = map (λ row. row.items) l.rows.items ≡ map (λ candidates. replicate {A = ℕ} candidates.count 0) (take l.pattern l.patterns)

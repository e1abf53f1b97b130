use Rattle.std.proofs.Common.{◌≡◌, ℕ, [], get_or, below_more, arith}
use Rattle.diagnose.proofs.ListingLemmas.{told_same, told_other}
use Rattle.diagnose.proofs.listing.find_row.Goals as goal

pub returns-then-is_same : goal.returns-then-is_same
returns-then-is_same c = (omega (arith, c.rows-count.ensures, c.loop-row-test.true), told_same (get_or c.args.rows.now c.loop-row.row []) (get_or c.args.one.now 0 []) c.if-is_same.ensures)

pub loop-row-preserved : goal.loop-row-preserved
loop-row-preserved c =
    below_more (λ (k : ℕ). get_or c.args.rows.now k [] ≡ get_or c.args.one.now 0 [] → ⊥) c.loop-row.row c.loop-row.invariant
    (told_other (get_or c.args.rows.now c.loop-row.row []) (get_or c.args.one.now 0 []) c.if-is_same.ensures)

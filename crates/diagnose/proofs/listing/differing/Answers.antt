use Rattle.std.proofs.Common.{rules, ◌≡◌, ◌∙◌, not, sym, arith}
use Rattle.std.specs.Prelude.{slice_index_or, []}
use Rattle.net_model.specs.ClassTable.{same_bits}
use Rattle.dict_rows.specs.Entries.{differences}
use Rattle.dict_rows.proofs.EntryLemmas.{length-differences, difference_at}
use Rattle.diagnose.proofs.ListingLemmas.{entry_tested}
use Rattle.diagnose.proofs.listing.differing.Goals as goal

pub returns : goal.returns
returns c =
    let observed = c.args.observed.now in
    let baselines = c.args.baselines.now in
    entry_tested (differences observed baselines) c.in_ok-bits.ensures c.write_row.ensures (length-differences observed baselines c.requires.rows ∙ sym c.rows.ensures) (λ row bit h answered.
    let told : bit ≡ not (same_bits (slice_index_or observed row []) (slice_index_or baselines row [])) = search rules in
    told ∙ sym (difference_at observed baselines row c.requires.rows (omega (arith, h, c.rows.ensures))))

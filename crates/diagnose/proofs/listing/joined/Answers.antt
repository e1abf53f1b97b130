use Rattle.std.proofs.Common.{rules, ◌≡◌, ◌∙◌, ◌+◌, ◌*◌, ◌/◌, ◌%◌, ◌<◌, ℕ, length, false, sym, ap, arith, get_or}
use Rattle.std.specs.Prelude.{flat_map}
use Rattle.std.proofs.Math.Nat.{div-add-mod}
use Rattle.std.proofs.lemmas.Nat.{mod_below, div_below}
use Rattle.net_model.specs.Rows.{row_bit}
use Rattle.diagnose.proofs.ListingLemmas.{entry_tested, some_width, flat_bit, length-flat}
use Rattle.diagnose.proofs.listing.joined.Goals as goal

pub returns : goal.returns
returns c =
    let observed = c.args.observed.now in
    let width = c.args.width in
    let rows = c.requires.rows in
    let long = length-flat observed width rows.width_is ∙ ap (λ (n : ℕ). n * width) rows.count_is in
    entry_tested (flat_map (λ bits. bits) observed) c.in_ok-bits.ensures c.write_row.ensures long (λ at bit h answered.
    let some : 0 < width = some_width c.args.rows width at h in
    let place : at / width * width + at % width ≡ at = omega (arith, div-add-mod at width) in
    let low : at / width < length observed = omega (arith, div_below at width c.args.rows some h, rows.count_is) in
    let told : bit ≡ row_bit observed (at / width) (at % width) = search rules in
    told ∙ (sym (flat_bit observed width (at / width) (at % width) rows.width_is low (mod_below at width some)) ∙ ap (λ (n : ℕ). get_or (flat_map (λ bits. bits) observed) n false) place))

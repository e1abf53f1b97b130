use Rattle.std.proofs.Common.{◌≡◌, subst, get_or, []}
use Rattle.std.proofs.lemmas.Bool.Decides.{Decides-eqb}
use Rattle.std.proofs.lemmas.Slice.Eq.{slice_eq-Decides}
use Rattle.net_model.specs.Rows.{IsPacked}
use Rattle.net_model.proofs.RowLemmas.{packed_once, unpacked_once}
use Rattle.diagnose.proofs.ListingLemmas.{by_same}
use Rattle.diagnose.proofs.listing.is_same.Goals as goal

pub returns : goal.returns
returns c =
    let one = get_or c.args.rows.now c.args.row [] in
    let other = get_or c.args.others.now c.args.other [] in
    let test = slice_eq-Decides Decides-eqb c.row_words.result.now c.row_words-2.result.now c.eq.result c.eq.ensures in
    by_same one other c.eq.result (
      λ t. let e : c.row_words.result.now ≡ c.row_words-2.result.now = test.0 t in unpacked_once one other c.row_words-2.result.now (subst (IsPacked one) e c.row_words.ensures.packed) c.row_words-2.ensures.packed c.requires.wide,
      λ e. test.1 (packed_once other c.row_words.result.now c.row_words-2.result.now (subst (λ r. IsPacked r c.row_words.result.now) {x = one} {y = other} e c.row_words.ensures.packed) c.row_words-2.ensures.packed),
    )

use Rattle.std.proofs.Common.{◌∙◌, ◌∷◌, [], ap, refl, sym}
use Rattle.std.specs.Prelude.{unwrap_or}
use Rattle.std.specs.FinMap.{get}
use Rattle.diag_shelf.proofs.FileMaps.{get_at_insert}
use Rattle.tests_results.proofs.tests.compacted.thinned.Goals as goal

-- the file that is checked is the text that was put there
pub compact-requires : goal.compact-requires
compact-requires c =
    let found = c.in-Ok.ensures.valid in
    let put = c.in_ok-put_file.ensures.ok in
    let rest = c.in_ok-open_file.ensures.opened.rest ∙ (ap (λ v. get v.world.files (114 ∷ [])) put ∙ get_at_insert c.new-shelf.result.world.files (114 ∷ []) c.as_bytes.result.now) in
    record {
      records = found.0;
      accepted = found.1;
      text_is = c.as_bytes-in-Ok.ensures.value ∙ (sym c.as_bytes.ensures.value ∙ (sym (ap (λ r. unwrap_or r []) rest) ∙ found.2 refl));
    }

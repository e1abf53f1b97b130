-- How many vectors are kept at first.
use Rattle.std.proofs.Common.{◌≡◌, ◌∙◌, Bool, List, length, ap}
use Rattle.kept_vectors.specs.Keeper.{IsKeeper}
use Rattle.kept_vectors.specs.Kept.{IsKeptOf}
use Rattle.kept_vectors.proofs.KeepLemmas.{table_patterns}
use Rattle.kept_vectors.proofs.ListLemmas.{one_list_kept}
use Rattle.dia_gen.specs.declared.draft.Draft.{Draft}
use Rattle.dia_gen.specs.GenerationSetting.{GenerationSetting}
use Rattle.dia_gen.specs.Draft.{IsBegun}
use Rattle.dia_gen.proofs.BeginLemmas.{begun}

pub kept_at_first : {s : GenerationSetting} {d : Draft} {kept : List (List Bool)} → IsBegun s d → IsKeeper d.keeper → IsKeptOf s.circuit s.vectors kept → d.keeper.kept.table.patterns ≡ length kept
kept_at_first {s} {d} {kept} b keeper of = table_patterns keeper.table ∙ ap (λ (vs : List (List Bool)). length vs) (one_list_kept b.is_circuit (begun b keeper).first of)

-- What a result is made for.
use Rattle.std.specs.Prelude.{◌≡◌, Bool, List, length, All, ⊤}
use Rattle.net_model.specs.Circuit.{Circuit}
use Rattle.result_records.specs.declared.record.Budgets.{Budgets}
use Rattle.word_sim.specs.Stream.{stream}
use Rattle.dia_gen.specs.declared.setting.FirstVectors.{FirstVectors}
use Rattle.dia_gen.specs.declared.setting.FirstVectors.TheVariants.{OfStream, OfList}

-- The circuit, the budgets, and the first vectors of a result.
pub record GenerationSetting : Type 0 where
  pub circuit : Circuit
  pub budgets : Budgets
  -- Each of these vectors that splits a class is kept before any pair is searched.
  pub vectors : List (List Bool)

abbrev pub setting_from : Circuit → Budgets → List (List Bool) → GenerationSetting
setting_from circuit budgets vectors = record { circuit = circuit; budgets = budgets; vectors = vectors }

-- The first blocks of the stream, as many as the budget has, or the vectors of the list.
abbrev pub first_vectors : Circuit → Budgets → FirstVectors → List (List Bool)
first_vectors circuit budgets OfStream = stream circuit.sources budgets.blocks
first_vectors circuit budgets (OfList vectors) = vectors.now

-- Each vector of a list has a bit for each source.
abbrev pub HaveWidth : Circuit → FirstVectors → Type 0
HaveWidth circuit OfStream = ⊤
HaveWidth circuit (OfList vectors) = All (λ v. length v ≡ circuit.sources) vectors.now

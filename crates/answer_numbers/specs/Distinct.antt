-- Answers without repeats.
use Rattle.std.specs.Prelude.{Bool, not, List, [], ◌∷◌, filter}
use Rattle.net_model.specs.ClassTable.{same_bits}

-- each answer once, at its first place
abbrev pub distinct_answers : List (List Bool) → List (List Bool)
distinct_answers [] = []
distinct_answers (answer ∷ answers) = answer ∷ filter (λ other. not (same_bits answer other)) (distinct_answers answers)

-- The patterns of right records split classes in turn.
use Rattle.std.proofs.Common.{◌≡◌, ◌∙◌, ℕ, zero, suc, ◌<◌, Bool, List, [], ◌∷◌, ◌++◌, length, take, get_or, refl, sym, ap, subst, append_assoc, arith}
use Rattle.std.specs.Prelude.{All}
use Rattle.std.proofs.lemmas.List.{append-nil}
use Rattle.std.proofs.lemmas.List.Elements.{All-cons, filter_map-append}
use Rattle.net_model.specs.Circuit.{Circuit}
use Rattle.net_model.specs.PatternRows.{SplitsClass}
use Rattle.result_records.specs.declared.record.Record.{Record}
use Rattle.result_records.specs.declared.record.Record.TheVariants.{Head, Budget, Pattern, Same, Class, Member, End}
use Rattle.result_records.specs.Marks.{pattern_of, patterns_in}
use Rattle.result_file.specs.Valid.{AreRightLines}
use Rattle.result_file.specs.Meaning.{StatedResult, stated_records}
use Rattle.result_file.proofs.StatedLines.{pattern_right}
use Rattle.dia_gen.specs.Laws.{PatternsSplitInTurn}

-- Each of these vectors, which come after others, has a bit for each source and splits a class of those before it.
record AreInTurn (c : Circuit) (before vectors : List (List Bool)) : Type 0 where
  widths : All (λ v. length v ≡ c.sources) vectors
  splits : (at : ℕ) → at < length vectors → SplitsClass c (before ++ take at vectors) (get_or vectors at [])

splits_next : (c : Circuit) (before : List (List Bool)) (v : List Bool) (vectors : List (List Bool)) → SplitsClass c before v → AreInTurn c (before ++ v ∷ []) vectors
    → (at : ℕ) → at < length (v ∷ vectors) → SplitsClass c (before ++ take at (v ∷ vectors)) (get_or (v ∷ vectors) at [])
splits_next c before v vectors first later zero below = subst (λ (vs : List (List Bool)). SplitsClass c vs v) (sym (append-nil before)) first
splits_next c before v vectors first later (suc at) below =
    subst (λ (vs : List (List Bool)). SplitsClass c vs (get_or vectors at [])) (append_assoc before (v ∷ []) (take at vectors)) (later.splits at (omega arith))

module _ (c : Circuit) (s : StatedResult) (right : AreRightLines c (stated_records c s)) where
  -- After a record with these patterns.
  pass : (before : List Record) (r : Record) (vectors : List (List Bool)) (more : List (List Bool)) → patterns_in (r ∷ []) ≡ more → AreInTurn c (patterns_in (before ++ r ∷ [])) vectors → AreInTurn c (patterns_in before ++ more) vectors
  pass before r vectors more is turn =
      subst (λ (vs : List (List Bool)). AreInTurn c vs vectors) (filter_map-append pattern_of before (r ∷ []) ∙ ap (λ (vs : List (List Bool)). patterns_in before ++ vs) is) turn

  skip : (before : List Record) (r : Record) (vectors : List (List Bool)) → patterns_in (r ∷ []) ≡ [] → AreInTurn c (patterns_in (before ++ r ∷ [])) vectors → AreInTurn c (patterns_in before) vectors
  skip before r vectors is turn = subst (λ (vs : List (List Bool)). AreInTurn c vs vectors) (append-nil (patterns_in before)) (pass before r vectors [] is turn)

  in_turn : (before rest : List Record) → s.body ≡ before ++ rest → AreInTurn c (patterns_in before) (patterns_in rest)
  in_turn before [] e = record { widths = λ k d below. absurd (omega arith); splits = λ at below. absurd (omega arith) }
  in_turn before (Pattern v ∷ rest) e =
      let one = pattern_right c s right before v rest e in
      let later = pass before (Pattern v) (patterns_in rest) (v ∷ []) refl (in_turn (before ++ Pattern v ∷ []) rest (e ∙ sym (append_assoc before (Pattern v ∷ []) rest))) in
      record {
        widths = All-cons (λ v. length v ≡ c.sources) v (patterns_in rest) one.0 later.widths;
        splits = splits_next c (patterns_in before) v (patterns_in rest) one.1 later;
      }
  in_turn before (Head a p n ∷ rest) e = skip before (Head a p n) (patterns_in rest) refl (in_turn (before ++ Head a p n ∷ []) rest (e ∙ sym (append_assoc before (Head a p n ∷ []) rest)))
  in_turn before (Budget b ∷ rest) e = skip before (Budget b) (patterns_in rest) refl (in_turn (before ++ Budget b ∷ []) rest (e ∙ sym (append_assoc before (Budget b ∷ []) rest)))
  in_turn before (Same x ∷ rest) e = skip before (Same x) (patterns_in rest) refl (in_turn (before ++ Same x ∷ []) rest (e ∙ sym (append_assoc before (Same x ∷ []) rest)))
  in_turn before (Class n birth ∷ rest) e = skip before (Class n birth) (patterns_in rest) refl (in_turn (before ++ Class n birth ∷ []) rest (e ∙ sym (append_assoc before (Class n birth ∷ []) rest)))
  in_turn before (Member n k m ∷ rest) e = skip before (Member n k m) (patterns_in rest) refl (in_turn (before ++ Member n k m ∷ []) rest (e ∙ sym (append_assoc before (Member n k m ∷ []) rest)))
  in_turn before (End ∷ rest) e = skip before End (patterns_in rest) refl (in_turn (before ++ End ∷ []) rest (e ∙ sym (append_assoc before (End ∷ []) rest)))

pub split_in_turn : PatternsSplitInTurn
split_in_turn c s right = let turn = in_turn c s right [] s.body refl in record { widths = turn.widths; splits = turn.splits }

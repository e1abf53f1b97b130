-- The classes that a file made from a list states and those of the list, and where its patterns come from.
use Rattle.std.proofs.Common.{◌≡◌, ◌∙◌, ℕ, suc, ◌<◌, Bool, List, [], ◌∷◌, ◌++◌, map, take, drop, Some, refl, sym, ap, subst, append_assoc, arith}
use Rattle.std.specs.Prelude.{All, Contains, slice_get}
use Rattle.std.proofs.lemmas.List.{append-nil, map-id}
use Rattle.std.proofs.lemmas.List.Elements.{All-contains_itself, Contains-append_left, filter_map-append}
use Rattle.std.proofs.lemmas.Option.{slice_get_within, get_or_from_slice_get}
use Rattle.net_model.specs.Circuit.{Circuit, IsCircuit}
use Rattle.net_model.specs.FaultList.{fault_count}
use Rattle.net_model.specs.ClassTable.{ClassTable, class_at}
use Rattle.net_model.specs.PatternRows.{IsTableOf}
use Rattle.net_model.proofs.OneAnswer.{one_table}
use Rattle.result_records.specs.declared.record.Budgets.{Budgets}
use Rattle.result_records.specs.declared.record.Record.{Record}
use Rattle.result_records.specs.declared.record.Record.TheVariants.{Head, Budget, Pattern, Same, Class, Member, End}
use Rattle.result_records.specs.Marks.{pattern_of, patterns_in}
use Rattle.result_records.proofs.RecordLists.{read_all}
use Rattle.result_file.specs.declared.checked.Summary.{Summary}
use Rattle.result_file.specs.Meaning.{stated_class}
use Rattle.result_file.proofs.StatedLines.{parts_at, pattern_right, IsStatedIn, is_stated}
use Rattle.text_fields.specs.Fields.{Text}
use Rattle.kept_vectors.specs.Laws.{AnswerAlike}
use Rattle.kept_vectors.proofs.PartedLemmas.{tables_parted, kept_alike, none_splits}
use Rattle.dia_gen.specs.Made.{IsMadeFrom}
use Rattle.dia_gen.specs.Laws.{ListIsGraded}

-- Lines of patterns, and other lines after them.
patterns_then : (kept : List (List Bool)) (later : List Record) → patterns_in (map Pattern kept ++ later) ≡ kept ++ patterns_in later
patterns_then kept later = filter_map-append pattern_of (map Pattern kept) later ∙ ap (λ (vs : List (List Bool)). vs ++ patterns_in later) (read_all Pattern pattern_of (λ v. v) (λ v. refl) kept ∙ map-id kept)

-- Records without a pattern.
no_patterns : (later : List Record) → ((at : ℕ) (v : List Bool) → slice_get later at ≡ Some (Pattern v) → ⊥) → patterns_in later ≡ []
no_patterns [] none = refl
no_patterns (Head s p n ∷ later) none = no_patterns later (λ at. none (suc at))
no_patterns (Budget b ∷ later) none = no_patterns later (λ at. none (suc at))
no_patterns (Pattern v ∷ later) none = absurd (none 0 v refl)
no_patterns (Same e ∷ later) none = no_patterns later (λ at. none (suc at))
no_patterns (Class n birth ∷ later) none = no_patterns later (λ at. none (suc at))
no_patterns (Member n class m ∷ later) none = no_patterns later (λ at. none (suc at))
no_patterns (End ∷ later) none = no_patterns later (λ at. none (suc at))

module _ (c : Circuit) (vectors : List (List Bool)) (budgets : Budgets) (summary : Summary) (file : Text) (made : IsMadeFrom c vectors budgets summary file) (is : IsCircuit c) where
  -- The kept vectors are among the patterns that begin with them.
  kept_among : (more : List (List Bool)) → All (Contains (made.kept ++ more)) made.kept
  kept_among more k d below = Contains-append_left made.kept more _ (All-contains_itself made.kept k d below)

  body_patterns : patterns_in made.is_true.stated.body ≡ made.kept ++ patterns_in made.later
  body_patterns = ap patterns_in made.body ∙ patterns_then made.kept made.later

  -- The stated class of a number is that in the table of all patterns.
  stated_in : (n : ℕ) → n < fault_count c → (t : ClassTable) × IsStatedIn c made.is_true.stated made.valid.lines n t
  stated_in n below = is_stated c made.is_true.stated made.valid.lines n (omega (arith, below, made.is_true.is_true.numbers))

  -- Numbers are stated to be of one class exactly if they are in one class of that table.
  module _ (m n : ℕ) (hm : m < fault_count c) (hn : n < fault_count c) where
    abbrev t : ClassTable
    t = (stated_in m hm).0

    table : IsTableOf c (made.kept ++ patterns_in made.later) t
    table = subst (λ (vs : List (List Bool)). IsTableOf c vs t) body_patterns (stated_in m hm).1.table

    other_is : stated_class made.is_true.stated n ≡ class_at t n
    other_is =
        let other = stated_in n hn in
        other.1.class_is ∙ ap (λ (u : ClassTable). class_at u n) (one_table c is other.1.table (stated_in m hm).1.table)

    alike_of_kept : stated_class made.is_true.stated m ≡ stated_class made.is_true.stated n → AnswerAlike c made.kept m n
    alike_of_kept same v first second has =
        let alike = ((tables_parted c (made.kept ++ patterns_in made.later) t is table).together m n hm hn).0 (sym (stated_in m hm).1.class_is ∙ (same ∙ other_is)) in
        alike v first second (Contains-append_left made.kept (patterns_in made.later) v has)

    of_kept_alike : patterns_in made.later ≡ [] → AnswerAlike c made.kept m n → stated_class made.is_true.stated m ≡ stated_class made.is_true.stated n
    of_kept_alike none alike =
        let all : made.kept ++ patterns_in made.later ≡ made.kept = ap (λ (vs : List (List Bool)). made.kept ++ vs) none ∙ append-nil made.kept in
        let of_kept : IsTableOf c made.kept t = subst (λ (vs : List (List Bool)). IsTableOf c vs t) all table in
        (stated_in m hm).1.class_is ∙ (((tables_parted c made.kept t is of_kept).together m n hm hn).1 alike ∙ sym other_is)

  found_new : (at : ℕ) (v : List Bool) → slice_get made.later at ≡ Some (Pattern v) → Contains vectors v → ⊥
  found_new at v there has =
      let before = map Pattern made.kept ++ take at made.later in
      let within = slice_get_within made.later at (Pattern v) there in
      let parts : made.later ≡ take at made.later ++ Pattern v ∷ drop (suc at) made.later =
      parts_at made.later at End within ∙ ap (λ (r : Record). take at made.later ++ r ∷ drop (suc at) made.later) (get_or_from_slice_get made.later at (Pattern v) End there) in
      let body = made.body ∙ (ap (λ (rs : List Record). map Pattern made.kept ++ rs) parts ∙ sym (append_assoc (map Pattern made.kept) (take at made.later) (Pattern v ∷ drop (suc at) made.later))) in
      let splits = (pattern_right c made.is_true.stated made.valid.lines before v (drop (suc at) made.later) body).1 in
      let among = subst (λ (vs : List (List Bool)). All (Contains vs) made.kept) (sym (patterns_then made.kept (take at made.later))) (kept_among (patterns_in (take at made.later))) in
      none_splits c vectors made.kept (patterns_in before) v is made.kept_are among has splits

pub list_graded : ListIsGraded
list_graded c vectors budgets summary file made is = record {
  tells = λ m n hm hn same. (kept_alike c vectors made.kept m n is made.kept_are hm hn).0 (alike_of_kept c vectors budgets summary file made is m n hm hn same);
  found = found_new c vectors budgets summary file made is;
  exact = λ m n cubes conflicts hm hn alike.
      let none = no_patterns made.later (λ at v. made.no_choice at v cubes conflicts) in
      of_kept_alike c vectors budgets summary file made is m n hm hn none ((kept_alike c vectors made.kept m n is made.kept_are hm hn).1 alike);
}

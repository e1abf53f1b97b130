-- What valid records state is true of the circuit.
use Rattle.std.proofs.Common.{◌≡◌, ◌∙◌, ℕ, ◌<◌, Bool, cond, List, [], ◌∷◌, ◌++◌, length, refl, ap, subst, arith}
use Rattle.std.specs.Prelude.{All}
use Rattle.std.proofs.lemmas.List.Elements.{All-nil}
use Rattle.std.proofs.lemmas.List.Sums.{sum_by-append}
use Rattle.net_model.specs.Circuit.{Circuit}
use Rattle.net_model.specs.FaultList.{fault_count}
use Rattle.net_model.specs.ClassTable.{ClassTable}
use Rattle.net_model.specs.PatternRows.{IsTableOf}
use Rattle.result_records.specs.declared.record.Budgets.{Budgets}
use Rattle.result_records.specs.declared.record.Record.{Record}
use Rattle.result_records.specs.declared.record.Record.TheVariants.{Head, Budget, Pattern, Same, Class, Member, End}
use Rattle.result_records.specs.Marks.{is_end, end_lines, patterns_in, class_lines}
use Rattle.result_file.specs.Lines.{IsInPlace}
use Rattle.result_file.specs.Valid.{AreRightLines, IsValid}
use Rattle.result_file.specs.Meaning.{StatedResult, stated_records, class_records, member_records, IsTrueResult}
use Rattle.result_file.proofs.FileLemmas.{next_right}
use Rattle.result_file.proofs.ShapeLemmas.{HasShape, HasSome, shaped}
use Rattle.result_file.proofs.Truth.{AreSound, IsSoundTable, lines_true}

-- The tables of patterns that are as wide as the circuit are sound.
abbrev pub AreSoundTables : Circuit → Type 0
AreSoundTables c = (patterns : List (List Bool)) (t : ClassTable) → All (λ v. length v ≡ c.sources) patterns → IsTableOf c patterns t → IsSoundTable c patterns t

module _ (c : Circuit) (sound : AreSound c) (tables : AreSoundTables c) where
  has_some : (patterns : List (List Bool)) (t : ClassTable) → All (λ v. length v ≡ c.sources) patterns → IsTableOf c patterns t → HasSome t
  has_some patterns t widths table = let is = tables patterns t widths table in (omega (arith, is.classes 0 is.some), is.some)

  -- only these records are allowed on the first two lines
  not_first : (u : ClassTable) (r : Record) → IsTableOf c [] u → ((s p n : ℕ) → r ≡ Head s p n → ⊥) → IsInPlace u [] r → ⊥
  not_first u (Head s p n) table other place = other s p n refl
  not_first u (Budget b) table other place = cc
  not_first u (Pattern bits) table other place = omega (arith, place.0)
  not_first u (Same e) table other place = omega (arith, place.0)
  not_first u (Class n birth) table other place = omega (arith, place.0)
  not_first u (Member n class m) table other place = omega (arith, place.0, (has_some [] u (All-nil (λ v. length v ≡ c.sources)) table).0)
  not_first u End table other place = omega (arith, place.0, (has_some [] u (All-nil (λ v. length v ≡ c.sources)) table).0)

  not_second : (u : ClassTable) (sources positions numbers : ℕ) (r : Record) → IsTableOf c [] u → ((b : Budgets) → r ≡ Budget b → ⊥) → IsInPlace u (Head sources positions numbers ∷ []) r → ⊥
  not_second u sources positions numbers (Head s p n) table other place = cc
  not_second u sources positions numbers (Budget b) table other place = other b refl
  not_second u sources positions numbers (Pattern bits) table other place = omega (arith, place.0)
  not_second u sources positions numbers (Same e) table other place = omega (arith, place.0)
  not_second u sources positions numbers (Class n birth) table other place = omega (arith, place.0)
  not_second u sources positions numbers (Member n class m) table other place =
      let none : class_lines (Head sources positions numbers ∷ []) ≡ 0 = refl in
      omega (arith, none, place.0, (has_some [] u (All-nil (λ v. length v ≡ c.sources)) table).0)
  not_second u sources positions numbers End table other place =
      let none : class_lines (Head sources positions numbers ∷ []) ≡ 0 = refl in
      omega (arith, none, place.0, (has_some [] u (All-nil (λ v. length v ≡ c.sources)) table).0)

  some_end : (records : List Record) → IsValid c records → 0 < end_lines records
  some_end records valid =
      let one : ◌≡◌ {A = ℕ} (cond (is_end End) 1 0) 1 = refl in
      omega (arith, ap end_lines valid.ended, sum_by-append (λ r. cond (is_end r) 1 0) valid.before (End ∷ []))

  stated_by : (sources positions numbers : ℕ) (b : Budgets) (rest : List Record) → AreRightLines c (Head sources positions numbers ∷ Budget b ∷ rest) → HasShape c sources positions numbers b (Head sources positions numbers ∷ Budget b ∷ rest)
      → (s : StatedResult) × (Head sources positions numbers ∷ Budget b ∷ rest ≡ stated_records c s) × IsTrueResult c s
  stated_by sources positions numbers b rest right shape =
      let s : StatedResult = record { budgets = b; body = shape.body; births = shape.t.births; members = shape.members } in
      let content = (next_right [] (Head sources positions numbers) (Budget b ∷ rest) right refl).right.content in
      let head : Head sources positions numbers ≡ Head c.sources (length c.positions) (fault_count c) = λ i. Head (content.0 i) (content.1 i) (content.2 i) in
      let e : Head sources positions numbers ∷ Budget b ∷ rest ≡ stated_records c s =
      shape.whole ∙ ap (λ (r : Record). r ∷ Budget b ∷ shape.body ++ class_records shape.t.births ++ member_records shape.members ++ End ∷ []) head in
      (s, e, lines_true c b shape.body shape.t shape.members sound (subst (AreRightLines c) e right) shape.inside (tables (patterns_in shape.body) shape.t shape.widths shape.table) shape.are)

  -- what valid records state is true
  pub valid_true : (records : List Record) → IsValid c records → (s : StatedResult) × (records ≡ stated_records c s) × IsTrueResult c s
  valid_true [] valid = absurd (omega (arith, some_end [] valid))
  valid_true (Head sources positions numbers ∷ []) valid = absurd (omega (arith, some_end (Head sources positions numbers ∷ []) valid))
  valid_true (Head sources positions numbers ∷ Budget b ∷ rest) valid =
      let all = Head sources positions numbers ∷ Budget b ∷ rest in
      stated_by sources positions numbers b rest valid.lines (shaped c sound.circuit sources positions numbers b all valid.lines (some_end all valid) has_some rest refl)
  valid_true (Head sources positions numbers ∷ r ∷ rest) valid =
      let next = next_right (Head sources positions numbers ∷ []) r rest valid.lines refl in
      absurd (not_second next.right.t sources positions numbers r next.right.table (λ b e. cc) next.right.place)
  valid_true (r ∷ rest) valid =
      let next = next_right [] r rest valid.lines refl in
      absurd (not_first next.right.t r next.right.table (λ s p n e. cc) next.right.place)

-- The classes of the first patterns, by the births of all.
use Rattle.std.proofs.Common.{◌≡◌, ◌∙◌, ℕ, zero, suc, ◌+◌, ◌<◌, ◌≤◌, List, [], ◌∷◌, length, take, drop, get_or, refl, sym, ap, subst, arith, inl, inr, Bool, Option, None, Some, fold, cond, ltb, MatchOption}
use Rattle.std.specs.Option.{option_map_or}
use Rattle.std.proofs.lemmas.Bool.{cases_lt}
use Rattle.std.proofs.lemmas.Bool.Decides.{nat_tests}
use Rattle.std.proofs.lemmas.List.{take_all, take-append-drop, length-replicate, length-take-le}
use Rattle.std.proofs.lemmas.List.Sums.{fold-append}
use Rattle.net_model.specs.ClassTable.{ClassTable, class_count, class_at, new_lowest, refined_table, class_table, first_table}
use Rattle.class_refine.specs.Laws.{class_before_within, BirthsTellEarlier}
use Rattle.class_refine.proofs.Pieces.{IsSound, piece_is, after_cases}
use Rattle.class_refine.proofs.Refined.{sound-refined, numbers-refined, count-refined, class-refined, birth_old, birth_new, patterns-refined}
use Rattle.class_refine.proofs.Names.{Continues, reached, numbers_after}

abbrev Births : Type 0
Births = List (Option (ℕ × ℕ))

-- the earlier class of a class, by its birth
abbrev before_at : Births → ℕ → ℕ → ℕ → Option (ℕ × ℕ) → ℕ
before_at births first n class birth = option_map_or (λ birth. cond (ltb birth.1 first) class (class_before_within births first n birth.0)) birth class

born_early : (births : Births) (first n class patterns : ℕ) (birth : Option (ℕ × ℕ)) → patterns ≤ first → MatchOption birth (class ≡ 0) (λ birth. (birth.0 < class) × (birth.1 < patterns)) → before_at births first n class birth ≡ class
born_early births first n class patterns None few is = refl
born_early births first n class patterns (Some birth) few is = let early : birth.1 < first = omega (arith, is.1) in grind (arith, nat_tests, early)

-- a class of a table of at most `first` patterns is its own earlier class
own_before : (t : ClassTable) → IsSound t → (births : Births) → Continues t births → (first : ℕ) → t.patterns ≤ first → (steps class : ℕ) → class < class_count t → class_before_within births first steps class ≡ class
own_before t sound births more first few zero class old = refl
own_before t sound births more first few (suc n) class old = ap (before_at births first n class) (more class old) ∙ born_early births first n class t.patterns (get_or t.births class None) few (sound.births class old)

module _ (first n : ℕ) where
  -- the class of the number leads to this one
  record LeadsTo (class : ℕ) (t : ClassTable) : Type 0 where
    sound : IsSound t
    inside : n < length t.class_of
    late : first ≤ t.patterns
    leads : (births : Births) → Continues t births → (steps : ℕ) → class_at t n ≤ steps → class_before_within births first steps (class_at t n) ≡ class

  late_by : (births : Births) (steps class parent patterns : ℕ) → get_or births class None ≡ Some (parent, patterns) → first ≤ patterns → class_before_within births first (suc steps) class ≡ class_before_within births first steps parent
  late_by births steps class parent patterns birth late =
      let later : cond (ltb patterns first) class (class_before_within births first steps parent) ≡ class_before_within births first steps parent = grind (arith, nat_tests, late) in
      ap (before_at births first steps class) birth ∙ later

  module _ (class : ℕ) (t : ClassTable) (row : List (List Bool)) (is : LeadsTo class t) where
    from_new : (births : Births) → Continues (refined_table t row) births → (k : ℕ) → k < length (new_lowest t row) → class_at t (get_or (new_lowest t row) k 0) ≡ class_at t n → (steps : ℕ) → class_count t + k ≤ steps
        → class_before_within births first steps (class_count t + k) ≡ class
    from_new births more k within parent zero le = absurd (omega (arith, is.sound.classes n is.inside))
    from_new births more k within parent (suc s) le =
        let place = class_count t + k in
        let birth : get_or births place None ≡ Some (class_at t n, t.patterns) =
        more place (omega (arith, within, count-refined t row)) ∙ (birth_new t row k within ∙ ap (λ (p : ℕ). Some (p, t.patterns)) parent) in
        late_by births s place (class_at t n) t.patterns birth is.late
        ∙ is.leads births (λ c h. more c (omega (arith, h, count-refined t row)) ∙ birth_old t row c h) s (omega (arith, le, is.sound.classes n is.inside))

    leads-refined : LeadsTo class (refined_table t row)
    leads-refined = record {
      sound = sound-refined t row is.sound;
      inside = omega (arith, is.inside, numbers-refined t row);
      late = omega (arith, is.late, patterns-refined t row);
      leads = λ births more steps le.
          let now = class-refined t row n is.inside in
          elim (after_cases t row is.sound n is.inside) [
            | inl stays ↦
                let same : class_at (refined_table t row) n ≡ class_at t n = now ∙ stays.after in
                rw same (is.leads births (λ c h. more c (omega (arith, h, count-refined t row)) ∙ birth_old t row c h) steps (omega (arith, le, same)))
            | inr moves ↦
                let same : class_at (refined_table t row) n ≡ class_count t + moves.0 = now ∙ moves.1.after in
                rw same (from_new births more moves.0 moves.1.within (ap (class_at t) moves.1.lowest ∙ (piece_is t row n is.inside).class) steps (omega (arith, le, same)))
          ];
    }

  leads_after : (class : ℕ) (t : ClassTable) (rows : List (List (List Bool))) → LeadsTo class t → LeadsTo class (fold refined_table t rows)
  leads_after class t [] is = is
  leads_after class t (row ∷ rows) is = leads_after class (refined_table t row) rows (leads-refined class t row is)

pub births_tell : BirthsTellEarlier
births_tell numbers first rows n h =
    let t = class_table numbers (take first rows) in
    let u = class_table numbers rows in
    let so_far = reached numbers (take first rows) in
    let inside : n < length t.class_of = omega (arith, h, numbers_after (take first rows) (first_table numbers), length-replicate {A = ℕ} numbers 0) in
    elim (cases_lt (length rows) first) [
      | inl short ↦
          let all : take first rows ≡ rows = take_all first rows (omega arith) in
          let few = reached numbers rows in
          let class : class_at t n ≡ class_at u n = ap (λ (rs : List (List (List Bool))). class_at (class_table numbers rs) n) all in
          class ∙ sym (own_before u few.sound u.births (λ c h. refl) first (omega (arith, few.patterns, short)) (class_at u n) (class_at u n)
          (few.sound.classes n (omega (arith, h, numbers_after rows (first_table numbers), length-replicate {A = ℕ} numbers 0))))
      | inr long ↦
          let count : t.patterns ≡ first = so_far.patterns ∙ length-take-le first rows long in
          let start : LeadsTo first n (class_at t n) t = record {
            sound = so_far.sound;
            inside = inside;
            late = omega (arith, count);
            leads = λ births more steps le. own_before t so_far.sound births more first (omega (arith, count)) steps (class_at t n) (so_far.sound.classes n inside);
          } in
          let whole : fold refined_table t (drop first rows) ≡ u =
          sym (fold-append refined_table (first_table numbers) (take first rows) (drop first rows)) ∙ ap (fold refined_table (first_table numbers)) (take-append-drop first rows) in
          let end : LeadsTo first n (class_at t n) u = subst (LeadsTo first n (class_at t n)) whole (leads_after first n (class_at t n) t (drop first rows) start) in
          sym (end.leads u.births (λ c h. refl) (class_at u n) (omega arith))
    ]

-- The class of a number by the patterns before one is the class that its class was before that one.
use Rattle.std.proofs.Common.{◌≡◌, ◌∙◌, ℕ, ◌+◌, ◌<◌, inl, inr, Bool, List, [], ◌∷◌, length, take, drop, get_or, fold, cond, eqb, Option, None, Some, MatchOption, refl, sym, ap, arith}
use Rattle.std.specs.Option.{option_map_or}
use Rattle.std.proofs.lemmas.Bool.{eq-eqb, ne_eqb}
use Rattle.std.proofs.lemmas.List.{take_more, take-append-drop, length-take-le}
use Rattle.std.proofs.lemmas.List.Sums.{fold-append}
use Rattle.net_model.specs.ClassTable.{ClassTable, class_table, class_count, class_at, new_lowest, refined_table, first_table}
use Rattle.class_refine.proofs.Pieces.{IsSound, after_cases, piece_is}
use Rattle.class_refine.proofs.Refined.{count-refined, class-refined, birth_old, birth_new}
use Rattle.compact_tests.specs.Earlier.{class_before}
use Rattle.compact_tests.proofs.TableLemmas.{filled-table, numbers-table}
use Rattle.compact_tests.proofs.SplitLemmas.{patterns_table}

abbrev Births : Type 0
Births = List (Option (ℕ × ℕ))

-- Later rows leave the birth of a class as it is.
births-fold : (rows : List (List (List Bool))) (t : ClassTable) (class : ℕ) → class < class_count t → get_or (fold refined_table t rows).births class None ≡ get_or t.births class None
births-fold [] t class h = refl
births-fold (row ∷ rows) t class h = births-fold rows (refined_table t row) class (omega (arith, h, count-refined t row)) ∙ birth_old t row class h

-- The class before, by the birth.
abbrev by_birth : ℕ → ℕ → Option (ℕ × ℕ) → ℕ
by_birth pattern class birth = option_map_or (λ birth. cond (eqb birth.1 pattern) birth.0 class) birth class

born_before : (pattern class : ℕ) (birth : Option (ℕ × ℕ)) → MatchOption birth (class ≡ 0) (λ birth. (birth.0 < class) × (birth.1 < pattern)) → by_birth pattern class birth ≡ class
born_before pattern class None is = refl
born_before pattern class (Some birth) is = ap (λ (b : Bool). cond b birth.0 class) (ne_eqb birth.1 pattern (λ e. absurd (omega (arith, e, is.1))))

module _ (births : Births) (u : ClassTable) (row : List (List Bool)) (sound : IsSound u) (more : (class : ℕ) → class < class_count (refined_table u row) → get_or births class None ≡ get_or (refined_table u row).births class None) where
  -- The class that a number's class was before the row.
  before_row : (n : ℕ) → n < length u.class_of → class_before births u.patterns (class_at (refined_table u row) n) ≡ class_at u n
  before_row n h = elim (after_cases u row sound n h) [
    | inl stays ↦
        let class : class_at (refined_table u row) n ≡ class_at u n = class-refined u row n h ∙ stays.after in
        let old : class_at u n < class_count u = sound.classes n h in
        let birth : get_or births (class_at u n) None ≡ get_or u.births (class_at u n) None = more (class_at u n) (omega (arith, old, count-refined u row)) ∙ birth_old u row (class_at u n) old in
        ap (class_before births u.patterns) class ∙ ap (by_birth u.patterns (class_at u n)) birth ∙ born_before u.patterns (class_at u n) (get_or u.births (class_at u n) None) (sound.births (class_at u n) old)
    | inr moves ↦
        let k = moves.0 in
        let is = moves.1 in
        let lowest = get_or (new_lowest u row) k 0 in
        let class : class_at (refined_table u row) n ≡ class_count u + k = class-refined u row n h ∙ is.after in
        let birth : get_or births (class_count u + k) None ≡ Some (class_at u lowest, u.patterns) = more (class_count u + k) (omega (arith, is.within, count-refined u row)) ∙ birth_new u row k is.within in
        ap (class_before births u.patterns) class ∙ ap (by_birth u.patterns (class_count u + k)) birth ∙ ap (λ (b : Bool). cond b (class_at u lowest) (class_count u + k)) (eq-eqb u.patterns u.patterns refl)
        ∙ ap (class_at u) is.lowest ∙ (piece_is u row n h).class
  ]

module _ (numbers : ℕ) (some : 0 < numbers) (rows : List (List (List Bool))) (place : ℕ) (within : place < length rows) where
  abbrev u : ClassTable
  u = class_table numbers (take place rows)

  abbrev row : List (List Bool)
  row = get_or rows place []

  next_table : class_table numbers (take (place + 1) rows) ≡ refined_table u row
  next_table = ap (class_table numbers) (take_more rows place [] within) ∙ fold-append refined_table (first_table numbers) (take place rows) (row ∷ [])

  whole_table : class_table numbers rows ≡ fold refined_table (refined_table u row) (drop (place + 1) rows)
  whole_table =
      ap (class_table numbers) (sym (take-append-drop (place + 1) rows)) ∙ fold-append refined_table (first_table numbers) (take (place + 1) rows) (drop (place + 1) rows)
      ∙ ap (λ (t : ClassTable). fold refined_table t (drop (place + 1) rows)) next_table

  pub before_pattern : (n : ℕ) → n < numbers → class_before (class_table numbers rows).births place (class_at (class_table numbers (take (place + 1) rows)) n) ≡ class_at u n
  before_pattern n h =
      let patterns : u.patterns ≡ place = patterns_table numbers (take place rows) ∙ length-take-le place rows (omega (arith, within)) in
      let step = before_row (class_table numbers rows).births u row (filled-table numbers (take place rows) some).sound
      (λ class hc. ap (λ (t : ClassTable). get_or t.births class None) whole_table ∙ births-fold (drop (place + 1) rows) (refined_table u row) class hc) n (omega (arith, h, numbers-table numbers (take place rows))) in
      ap (λ (t : ClassTable). class_before (class_table numbers rows).births place (class_at t n)) next_table
      ∙ ap (λ (p : ℕ). class_before (class_table numbers rows).births p (class_at (refined_table u row) n)) (sym patterns) ∙ step

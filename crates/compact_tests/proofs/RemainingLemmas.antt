-- The patterns that remain make all classes, and each of them is needed.
use Rattle.std.proofs.Common.{◌≡◌, ◌∙◌, ℕ, zero, suc, ◌<◌, ◌≤◌, Bool, true, false, cond, eqb, List, [], ◌∷◌, ◌++◌, length, refl, sym, ap, subst, append_assoc, arith, inl, inr}
use Rattle.std.specs.Prelude.{All, remove, slice_index_or}
use Rattle.std.proofs.lemmas.Bool.{eqb-true, eqb-false, ne_eqb, cases_lt}
use Rattle.std.proofs.lemmas.List.{map-append}
use Rattle.std.proofs.lemmas.List.Elements.{All-append, All-cons, All-head, All-tail}
use Rattle.net_model.specs.ClassTable.{class_table}
use Rattle.net_model.proofs.Elements.{All-left, All-right}
use Rattle.compact_tests.specs.Remaining.{Answered, answered_rows, classes_by, with_needed, remaining_behind, remaining}
use Rattle.compact_tests.specs.Compacted.{HaveSameClasses}
use Rattle.compact_tests.specs.Thinning.{HaveSameAnswers}
use Rattle.compact_tests.proofs.TableLemmas.{fewer_classes, as_many}

-- ---- parts of patterns

abbrev pub Alike : List Answered → ℕ → ℕ → Type 0
Alike patterns m n = HaveSameAnswers (answered_rows patterns) m n

module _ (m n : ℕ) where
  abbrev pub SameAnswer : List (List Bool) → Type 0
  SameAnswer row = slice_index_or row m [] ≡ slice_index_or row n []

  pub alike_both : (first second : List Answered) → Alike first m n → Alike second m n → Alike (first ++ second) m n
  alike_both first second a b = subst (All SameAnswer) (sym (map-append (λ (p : Answered). p.1) first second)) (All-append SameAnswer (answered_rows first) (answered_rows second) a b)

  pub alike_first : (first second : List Answered) → Alike (first ++ second) m n → Alike first m n
  alike_first first second both = All-left SameAnswer (answered_rows first) (answered_rows second) (subst (All SameAnswer) (map-append (λ (p : Answered). p.1) first second) both)

  pub alike_second : (first second : List Answered) → Alike (first ++ second) m n → Alike second m n
  alike_second first second both = All-right SameAnswer (answered_rows first) (answered_rows second) (subst (All SameAnswer) (map-append (λ (p : Answered). p.1) first second) both)

  -- Numbers that answer alike to all patterns answer alike if one pattern is left out.
  alike_without : (before : List Answered) (pattern : Answered) (behind : List Answered) → Alike ((before ++ pattern ∷ []) ++ behind) m n → Alike (before ++ behind) m n
  alike_without before pattern behind all =
      alike_both before behind (alike_first before (pattern ∷ []) (alike_first (before ++ pattern ∷ []) behind all)) (alike_second (before ++ pattern ∷ []) behind all)

below_other : (a b : ℕ) → a ≤ b → (a ≡ b → ⊥) → a < b
below_other a b le other = elim (cases_lt a b) [ inl lt ↦ lt | inr ge ↦ absurd (other (omega (arith, le, ge))) ]

-- ---- the patterns that remain

module _ (numbers : ℕ) (some : 0 < numbers) where
  -- One pattern less gives no more classes.
  no_more : (before : List Answered) (pattern : Answered) (behind : List Answered) → classes_by numbers (before ++ behind) ≤ classes_by numbers ((before ++ pattern ∷ []) ++ behind)
  no_more before pattern behind =
      fewer_classes numbers (answered_rows (before ++ behind)) (answered_rows ((before ++ pattern ∷ []) ++ behind)) (λ m n hm hn. alike_without m n before pattern behind) some

  again : (before : List Answered) (pattern : Answered) (behind : List Answered) → classes_by numbers ((before ++ pattern ∷ []) ++ behind) ≡ classes_by numbers (before ++ pattern ∷ behind)
  again before pattern behind = ap (classes_by numbers) (append_assoc before (pattern ∷ []) behind)

  module _ (classes : ℕ) where
    make_more : (before : List Answered) (pattern : Answered) (behind : List Answered) → classes_by numbers ((before ++ pattern ∷ []) ++ behind) ≡ classes → classes_by numbers (before ++ with_needed numbers classes before pattern behind) ≡ classes
    make_more before pattern behind later = by (eqb (classes_by numbers (before ++ behind)) classes) refl
      where
        by : (b : Bool) → eqb (classes_by numbers (before ++ behind)) classes ≡ b → classes_by numbers (before ++ cond b behind (pattern ∷ behind)) ≡ classes
        by true e = eqb-true (classes_by numbers (before ++ behind)) classes e
        by false e = sym (again before pattern behind) ∙ later

    -- What remains after some patterns makes with them as many classes.
    remaining_make : (before patterns : List Answered) → classes_by numbers (before ++ patterns) ≡ classes → classes_by numbers (before ++ remaining_behind numbers classes before patterns) ≡ classes
    remaining_make before [] count = count
    remaining_make before (pattern ∷ patterns) count =
        make_more before pattern (remaining_behind numbers classes (before ++ pattern ∷ []) patterns) (remaining_make (before ++ pattern ∷ []) patterns (again before pattern patterns ∙ count))

    -- Leaving out any one of them gives fewer classes.
    abbrev AreNeeded : List Answered → List Answered → Type 0
    AreNeeded before patterns = (at : ℕ) → at < length patterns → classes_by numbers (before ++ remove patterns at) < classes

    needed_more : (before : List Answered) (pattern : Answered) (behind : List Answered) → classes_by numbers ((before ++ pattern ∷ []) ++ behind) ≡ classes → AreNeeded (before ++ pattern ∷ []) behind → AreNeeded before (with_needed numbers classes before pattern behind)
    needed_more before pattern behind later needed = by (eqb (classes_by numbers (before ++ behind)) classes) refl
      where
        first : (eqb (classes_by numbers (before ++ behind)) classes ≡ false) → AreNeeded before (pattern ∷ behind)
        first e zero h = below_other (classes_by numbers (before ++ behind)) classes (omega (arith, no_more before pattern behind, later)) (eqb-false (classes_by numbers (before ++ behind)) classes e)
        first e (suc at) h = rw (sym (again before pattern (remove behind at))) (needed at (omega (arith, h)))

        by : (b : Bool) → eqb (classes_by numbers (before ++ behind)) classes ≡ b → AreNeeded before (cond b behind (pattern ∷ behind))
        by true e = λ at h. let one = needed at h in omega (arith, no_more before pattern (remove behind at), one)
        by false e = first e

    remaining_needed : (before patterns : List Answered) → classes_by numbers (before ++ patterns) ≡ classes → AreNeeded before (remaining_behind numbers classes before patterns)
    remaining_needed before [] count = λ at h. absurd (omega (arith, h))
    remaining_needed before (pattern ∷ patterns) count =
        let on = again before pattern patterns ∙ count in
        needed_more before pattern (remaining_behind numbers classes (before ++ pattern ∷ []) patterns) (remaining_make (before ++ pattern ∷ []) patterns on) (remaining_needed (before ++ pattern ∷ []) patterns on)

    -- If all are needed, all remain.
    needed_remain : (before patterns : List Answered) → AreNeeded before patterns → remaining_behind numbers classes before patterns ≡ patterns
    needed_remain before [] needed = refl
    needed_remain before (pattern ∷ patterns) needed =
        let rest : remaining_behind numbers classes (before ++ pattern ∷ []) patterns ≡ patterns =
        needed_remain (before ++ pattern ∷ []) patterns (λ at h. rw (again before pattern (remove patterns at)) (needed (suc at) (omega (arith, h)))) in
        let first : classes_by numbers (before ++ patterns) < classes = needed 0 (omega arith) in
        let test : eqb (classes_by numbers (before ++ patterns)) classes ≡ false = ne_eqb (classes_by numbers (before ++ patterns)) classes (λ e. absurd (omega (arith, first, e))) in
        ap (with_needed numbers classes before pattern) rest ∙ ap (λ (b : Bool). cond b patterns (pattern ∷ patterns)) test

-- ---- all patterns

module _ (numbers : ℕ) (patterns : List Answered) (some : 0 < numbers) where
  pub make_all : classes_by numbers (remaining numbers patterns) ≡ classes_by numbers patterns
  unfolding remaining
  make_all = remaining_make numbers some (classes_by numbers patterns) [] patterns refl

  pub remaining_are_needed : (at : ℕ) → at < length (remaining numbers patterns) → classes_by numbers (remove (remaining numbers patterns) at) < classes_by numbers (remaining numbers patterns)
  unfolding remaining
  remaining_are_needed at h = omega (arith, make_all, remaining_needed numbers some (classes_by numbers patterns) [] patterns refl at h)

  pub remaining_remain : remaining numbers (remaining numbers patterns) ≡ remaining numbers patterns
  unfolding remaining
  remaining_remain = needed_remain numbers some (classes_by numbers (remaining numbers patterns)) [] (remaining numbers patterns) remaining_are_needed

-- Numbers that answer alike to all patterns answer alike to those that remain.
pub part_alike : (numbers classes : ℕ) (m n : ℕ) (before patterns : List Answered) → Alike patterns m n → Alike (remaining_behind numbers classes before patterns) m n
part_alike numbers classes m n before [] all = all
part_alike numbers classes m n before (pattern ∷ patterns) all =
    one_more (remaining_behind numbers classes (before ++ pattern ∷ []) patterns) (part_alike numbers classes m n (before ++ pattern ∷ []) patterns (All-tail (SameAnswer m n) pattern.1 (answered_rows patterns) all))
  where
    one_more : (behind : List Answered) → Alike behind m n → Alike (with_needed numbers classes before pattern behind) m n
    one_more behind rest = by (eqb (classes_by numbers (before ++ behind)) classes)
      where
        by : (b : Bool) → Alike (cond b behind (pattern ∷ behind)) m n
        by true = rest
        by false = All-cons (SameAnswer m n) pattern.1 (answered_rows behind) (All-head (SameAnswer m n) pattern.1 (answered_rows patterns) all) rest

pub remaining_keep_classes : (numbers : ℕ) (patterns : List Answered) → 0 < numbers → HaveSameClasses (class_table numbers (answered_rows patterns)) (class_table numbers (answered_rows (remaining numbers patterns)))
unfolding remaining
remaining_keep_classes numbers patterns some =
    as_many numbers (answered_rows (remaining numbers patterns)) (answered_rows patterns) (λ m n hm hn. part_alike numbers (classes_by numbers patterns) m n [] patterns) some (make_all numbers patterns some)

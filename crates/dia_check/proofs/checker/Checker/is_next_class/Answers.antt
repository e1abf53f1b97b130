use Rattle.std.proofs.lemmas.Grind.{common_steps}
use Rattle.std.proofs.Common.{rules, ◌≡◌, ◌∙◌, ◌<◌, ℕ, false, not, length, refl, sym, ap, arith}
use Rattle.std.specs.Prelude.{Option, None, Some, IsTrue, is_some, slice_index_or}
use Rattle.std.proofs.lemmas.Option.{slice_get-get_or, slice_get_within, get_or_from_slice_get}
use Rattle.std.proofs.lemmas.Bool.{not-false}
use Rattle.net_model.specs.ClassTable.{class_count}
use Rattle.net_model.proofs.Elements.{none_is}
use Rattle.result_records.specs.Marks.{evidence_in, next_member}
use Rattle.member_marks.proofs.MarkLemmas.{open_is_next}
use Rattle.dia_check.proofs.checker.Checker.is_next_class.Goals.{then-number-self-via-then-number-self, then-number-self-via-else-number-self+then-number-count}
use Rattle.dia_check.proofs.checker.Checker.is_next_class.Goals as goal

never : ¬ IsTrue false
never bad = cc

pub returns-then-number-self : goal.returns-then-number-self
returns-then-number-self c = λ circuit seen is. (
  λ bad. absurd (never bad),
  λ right. absurd (elim c.then-number-self.branch [
    | then-number-self-via-then-number-self w ↦ let h = w.if-number-self.true in omega (arith, h, right.next, is.progress.classes)
    | then-number-self-via-else-number-self+then-number-count w ↦
        let few = rw c.classes-classes.ensures.value at w.count.ensures.value in
        let h = w.if-number-count.true in
        omega (arith, h, few, slice_get_within c.args.self.now.keeper.kept.table.births c.args.number c.args.birth right.birth_is)
  ]),
)

pub returns-then-ne : goal.returns-then-ne
returns-then-ne c = λ circuit seen is. (
  λ bad. absurd (never bad),
  λ right.
      let births = c.args.self.now.keeper.kept.table.births in
      let born = rw c.classes-classes.ensures.value at c.born.ensures.value in
      let same = born ∙ get_or_from_slice_get births c.args.number c.args.birth None right.birth_is in
      let differ : c.born.result ≡ c.args.birth → ⊥ = first_of (search rules, grind (arith, common_steps)) in
      absurd (differ same),
)

pub returns-then-number-gt0 : goal.returns-then-number-gt0
returns-then-number-gt0 c = λ circuit seen is.
    let births = c.args.self.now.keeper.kept.table.births in
    let few = rw c.classes-classes.ensures.value at c.count.ensures.value in
    let below : c.args.number < length births = let h = c.if-number-count.false in omega (arith, h, few) in
    let born = rw c.classes-classes.ensures.value at c.born.ensures.value in
    let birth : slice_index_or births c.args.number None ≡ c.args.birth = sym born ∙ first_of (search rules, grind (arith, common_steps)) in (
      λ right. record {
        next = let h = c.if-number-self.false in omega (arith, h, is.progress.classes);
        birth_is = slice_get-get_or births c.args.number None below ∙ ap (λ (o : Option (ℕ × ℕ)). Some o) birth;
        complete = is.complete (let h = c.if-number-gt0.true in let k = c.if-number-self.false in omega (arith, h, k, is.progress.classes));
      },
      λ right. refl,
    )

pub returns : goal.returns
returns c = λ circuit seen is.
    let t = c.args.self.now.keeper.kept.table in
    let found = rw c.classes-classes.ensures.value at c.next_open.ensures in
    let next : next_member t (evidence_in seen) ≡ c.next_open.result = open_is_next t (evidence_in seen) c.args.self.now.marks is.marks c.next_open.result found in
    let few = rw c.classes-classes.ensures.value at c.count.ensures.value in
    let below : c.args.number < class_count t = let h = c.if-number-count.false in omega (arith, h, few) in
    let born = rw c.classes-classes.ensures.value at c.born.ensures.value in
    let birth : slice_index_or t.births c.args.number None ≡ c.args.birth = sym born ∙ first_of (search rules, grind (arith, common_steps)) in (
      λ none. record {
        next = let h = c.if-number-self.false in omega (arith, h, is.progress.classes);
        birth_is = slice_get-get_or t.births c.args.number None below ∙ ap (λ (o : Option (ℕ × ℕ)). Some o) birth;
        complete = next ∙ none_is c.next_open.result (c.is_none.ensures ∙ ap not none);
      },
      λ right. not-false c.is_none.result (sym c.is_none.ensures ∙ ap is_some (sym next ∙ right.complete)),
    )

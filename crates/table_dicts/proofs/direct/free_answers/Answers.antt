use Rattle.std.proofs.Common.{◌≡◌, ◌∙◌, List, Bool, [], ◌∷◌, length, sym, subst, arith}
use Rattle.std.proofs.lemmas.Result.{IfOk-weaker}
use Rattle.net_model.proofs.Listed.{some_number}
use Rattle.table_dicts.specs.declared.simulating.Kept.TheVariants.{Bits}
use Rattle.dict_rows.specs.AnswerTable.{Answers, AreAnswerable, AreAnswers}
use Rattle.table_dicts.specs.Blocks.{IsListedBit, AreRightBits}
use Rattle.dict_rows.specs.Entries.{answers_of, free_baselines}
use Rattle.dict_rows.specs.Rows.{AreRows}
use Rattle.table_dicts.proofs.FailLemmas.{baselines_are}
use Rattle.table_dicts.proofs.direct.free_answers.Goals as goal
use Rattle.table_dicts.proofs.direct.free_answers.Goals.{In_ok-free}

pub tabulate-requires-clause-answerable : goal.tabulate-requires-clause-answerable
tabulate-requires-clause-answerable c = subst (AreAnswerable c.args.setting.now.subject.now) (sym c.as_slice-patterns.ensures) c.requires.answerable

pub tabulate-requires-clause-numbers : goal.tabulate-requires-clause-numbers
tabulate-requires-clause-numbers c = λ k d h. let zero : k ≡ 0 = omega (arith, h) in rw zero (some_number c.args.setting.now.subject.now)

pub answers_of-requires : goal.answers_of-requires
answers_of-requires c = omega (arith, c.in_ok-free.ensures.sizes.numbers_are)

right : (c : In_ok-free) → AreRightBits (IsListedBit Bits c.args.setting.now.subject.now c.args.setting.now.patterns.now (0 ∷ [])) (length c.args.setting.now.patterns.now) 1 (length c.args.setting.now.subject.now.positions) (length c.args.setting.now.patterns.now) c.in_ok-free.free
right c =
    let circuit = c.args.setting.now.subject.now in
    subst (λ (ps : List (List Bool)). AreRightBits (IsListedBit Bits circuit ps (0 ∷ [])) (length ps) 1 (length circuit.positions) (length ps) c.in_ok-free.free) c.as_slice-patterns.ensures c.in_ok-free.ensures

pub returns-clause-shape : goal.returns-clause-shape
returns-clause-shape c =
    let sizes = (right (goal.at.returns-clause-shape c).In_ok-free).sizes in
    let free = c.in_ok-free.free in
    IfOk-weaker c.answers_of.result (AreRows (length free.rows) free.positions) (AreRows (length c.args.setting.now.patterns.now) (length c.args.setting.now.subject.now.positions))
    (λ rows shape. subst (λ n. AreRows n (length c.args.setting.now.subject.now.positions) rows) sizes.patterns_are (subst (λ w. AreRows (length free.rows) w rows) sizes.positions_are shape)) c.answers_of.ensures.shape

pub returns-clause-free : goal.returns-clause-free
returns-clause-free c =
    let circuit = c.args.setting.now.subject.now in
    let patterns = c.args.setting.now.patterns.now in
    let free = c.in_ok-free.free in
    IfOk-weaker c.answers_of.result (λ rows. rows ≡ answers_of free.rows 0) (λ rows. (t : Answers) → AreAnswers circuit patterns t → rows ≡ free_baselines t.rows)
    (λ rows is t are. is ∙ baselines_are circuit patterns t are free c.stands.ensures (right (goal.at.returns-clause-free c).In_ok-free)) c.answers_of.ensures.rows

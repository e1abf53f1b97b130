use Rattle.std.proofs.Common.{◌≡◌, ◌∙◌, List, true, false, eqb, sym, ap}
use Rattle.std.specs.Prelude.{reverse}
use Rattle.std.proofs.lemmas.List.{length-map}
use Rattle.text_fields.specs.Fields.{digit_bits}
use Rattle.adaptive_tree.specs.declared.reader.OpenAsk.{OpenAsk}
use Rattle.adaptive_tree.specs.Reading.{innermost_has}
use Rattle.adaptive_tree.proofs.ReaderLemmas.{branch_blocked, branch_refused, branches_again, branches_first}
use Rattle.adaptive_tree.proofs.reader.Reader.judge_branch.Goals as goal

pub returns-then-not-is_branch : goal.returns-then-not-is_branch
returns-then-not-is_branch c = branch_blocked c.args.self.now (digit_bits c.args.digits.now) c.requires.reading (sym c.if-not-is_branch.ensures)

pub returns-then-digits-self : goal.returns-then-digits-self
returns-then-digits-self c =
    branch_refused c.args.self.now (digit_bits c.args.digits.now) c.requires.reading (sym c.if-not-is_branch.ensures)
    (λ right. c.if-digits-self.true (sym (length-map c.args.digits.now (λ digit. eqb digit 49)) ∙ right.width))

pub returns-then-has_begun : goal.returns-then-has_begun
returns-then-has_begun c =
    let has : innermost_has (reverse c.args.self.now.«open».items) c.args.digits ≡ true = ap (λ (os : List OpenAsk). innermost_has (reverse os) c.args.digits) (sym c.deref.ensures.value) ∙ sym c.if-has_begun.ensures in
    branch_refused c.args.self.now (digit_bits c.args.digits.now) c.requires.reading (sym c.if-not-is_branch.ensures)
    (branches_again c.args.self.now c.args.digits (digit_bits c.args.digits.now) c.requires.reading (sym c.if-not-is_branch.ensures) c.requires.digits has)

pub returns : goal.returns
returns c =
    let has : innermost_has (reverse c.args.self.now.«open».items) c.args.digits ≡ false = ap (λ (os : List OpenAsk). innermost_has (reverse os) c.args.digits) (sym c.deref.ensures.value) ∙ sym c.if-has_begun.ensures in
    branches_first c.args.self.now c.args.digits (digit_bits c.args.digits.now) c.requires.reading (sym c.if-not-is_branch.ensures) c.requires.digits (length-map c.args.digits.now (λ digit. eqb digit 49) ∙ c.if-digits-self.false) has

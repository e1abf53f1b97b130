use Rattle.std.proofs.Common.{◌≡◌, ◌∙◌, ◌+◌, ℕ, List, Bool, length, set, not, eqb, sym, ap, subst, arith}
use Rattle.net_model.specs.Rows.{row_at}
use Rattle.samediff_dict.specs.Copied.{class_entry}
use Rattle.samediff_dict.proofs.DifferingLemmas.{AreSetTo, all_set, entry_set, length-class_entry, none_set, one_set}
use Rattle.samediff_dict.proofs.differing.put_chosen.Goals as goal

pub loop-class-init : goal.loop-class-init
loop-class-init c = none_set c.args.classes (class_entry c.args.patterns.now c.args.chosen.now) (class_entry c.args.patterns.now (set c.args.chosen.now c.args.pattern c.args.number)) c.args.entries.now c.requires.entries

pub returns : goal.returns
returns c =
    let new = class_entry c.args.patterns.now (set c.args.chosen.now c.args.pattern c.args.number) in
    let all : c.loop-class.class ≡ c.args.classes = omega arith in
    all_set c.args.classes (class_entry c.args.patterns.now c.args.chosen.now) new c.loop-class.entries (subst (λ n. AreSetTo c.args.classes (class_entry c.args.patterns.now c.args.chosen.now) new n c.loop-class.entries) all c.loop-class.invariant)

pub set-requires-clause-at : goal.set-requires-clause-at
set-requires-clause-at c =
    let row = c.loop-class.invariant.rest c.loop-class.class (omega arith) (omega arith) in
    omega (arith, ap length row, length-class_entry c.args.patterns.now c.args.chosen.now c.requires.classes.count c.loop-class.class, c.requires.pattern)

pub loop-class-preserved : goal.loop-class-preserved
loop-class-preserved c =
    let patterns = c.args.patterns.now in
    let chosen = c.args.chosen.now in
    let pattern = c.args.pattern in
    let number = c.args.number in
    let class = c.loop-class.class in
    let old = class_entry patterns chosen in
    let new = class_entry patterns (set chosen pattern number) in
    let same = c.requires.classes.count in
    let bit = not (eqb c.get.result number) in
    let row = set (row_at c.loop-class.entries class) pattern bit in
    let is : row ≡ new class =
    ap (λ (bits : List Bool). set bits pattern bit) (c.loop-class.invariant.rest class (omega arith) (omega arith))
    ∙ (ap (λ (own : ℕ). set (old class) pattern (not (eqb own number))) c.get.ensures ∙ sym (entry_set patterns chosen same class pattern number c.index-patterns-pattern.result c.requires.pattern)) in
    subst (λ (rows : List (List Bool)). AreSetTo c.args.classes old new (class + 1) rows) (sym c.set.ensures) (one_set c.args.classes old new class c.loop-class.entries c.loop-class.invariant (omega arith) row is)

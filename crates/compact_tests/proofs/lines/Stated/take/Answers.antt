use Rattle.std.proofs.Common.{◌<◌, [], ◌∷◌, length, Some, refl, sym, ap, subst, arith}
use Rattle.std.specs.Prelude.{All}
use Rattle.std.specs.Vec.{with_item}
use Rattle.std.proofs.lemmas.List.{length-set}
use Rattle.result_records.specs.declared.record.Evidence.{Evidence}
use Rattle.result_records.specs.declared.record.Record.{Record}
use Rattle.result_records.specs.Marks.{evidence_in}
use Rattle.compact_tests.specs.declared.lines.Stated.{Stated}
use Rattle.compact_tests.specs.ThinResult.{marks_in}
use Rattle.compact_tests.specs.Stated.{TakesRecord}
use Rattle.compact_tests.proofs.StatedLemmas.{stated_evidence, stated_member, takes_other}
use Rattle.compact_tests.proofs.lines.Stated.take.Goals as goal

pub returns-in-Same : goal.returns-in-Same
returns-in-Same c =
    let old = c.args.self.now in
    let line = c.args.line in
    let e = c.in-Same.evidence in
    let new : Stated = record { marks = old.marks; evidence = with_item old.evidence e.member (Some line) } in
    let known : All (λ (x : Evidence). x.member < length old.evidence.items) (e ∷ []) = subst (λ (r : Record). All (λ (x : Evidence). x.member < length old.evidence.items) (evidence_in (r ∷ []))) c.in-Same.is c.requires in
    subst (λ (r : Record). TakesRecord r line old new) (sym c.in-Same.is) (record {
      count = length-set old.evidence.items e.member (Some line);
      stated = λ bytes numbers before span is. stated_evidence bytes numbers before old new is e line span (known 0 e (omega arith)) refl refl;
    })

pub returns-in-Member : goal.returns-in-Member
returns-in-Member c =
    let old = c.args.self.now in
    let new : Stated = record { marks = c.push.new.self; evidence = old.evidence } in
    subst (λ (r : Record). TakesRecord r c.args.line old new) (sym c.in-Member.is) (record {
      count = refl;
      stated = λ bytes numbers before span is. stated_member bytes numbers before old new is c.in-Member.field-0 c.in-Member.field-1 c.in-Member.mark c.in_ok-push-in-Member.ensures.items refl;
    })

pub returns-in-Head : goal.returns-in-Head
returns-in-Head c = takes_other c.args.r c.args.line c.args.self.now (ap (λ (r : Record). evidence_in (r ∷ [])) c.in-Head.is) (ap (λ (r : Record). marks_in (r ∷ [])) c.in-Head.is)

pub returns-in-Budget : goal.returns-in-Budget
returns-in-Budget c = takes_other c.args.r c.args.line c.args.self.now (ap (λ (r : Record). evidence_in (r ∷ [])) c.in-Budget.is) (ap (λ (r : Record). marks_in (r ∷ [])) c.in-Budget.is)

pub returns-in-Pattern : goal.returns-in-Pattern
returns-in-Pattern c = takes_other c.args.r c.args.line c.args.self.now (ap (λ (r : Record). evidence_in (r ∷ [])) c.in-Pattern.is) (ap (λ (r : Record). marks_in (r ∷ [])) c.in-Pattern.is)

pub returns-in-Class : goal.returns-in-Class
returns-in-Class c = takes_other c.args.r c.args.line c.args.self.now (ap (λ (r : Record). evidence_in (r ∷ [])) c.in-Class.is) (ap (λ (r : Record). marks_in (r ∷ [])) c.in-Class.is)

pub returns : goal.returns
returns c = takes_other c.args.r c.args.line c.args.self.now (ap (λ (r : Record). evidence_in (r ∷ [])) c.in-End.is) (ap (λ (r : Record). marks_in (r ∷ [])) c.in-End.is)

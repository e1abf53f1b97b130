use Rattle.std.proofs.Common.{◌≡◌, ◌∙◌, ℕ, List, Some, Err, IsTrue, refl, sym, ap, subst}
use Rattle.std.specs.Prelude.{◌+◌, drop}
use Rattle.std.specs.Option.{option_map}
use Rattle.std.specs.FinMap.{get}
use Rattle.diag_shelf.specs.World.{State}
use Rattle.diag_shelf.specs.declared.shelf.ShelfFault.TheVariants.{Failed, NoMemory}
use Rattle.diag_shelf.specs.Calls.{Told, Opens, OnlyReads}
use Rattle.diag_shelf.proofs.Steps.{facts_same, facts_after_read, left_by, reads_more}
use Rattle.result_file.specs.Refusal.{FileRefused}
use Rattle.dia_check.specs.Left.{rest_of, ReadsRest}
use Rattle.run_steps.specs.declared.ending.RunFault.{RunFault}
use Rattle.run_steps.specs.Ending.{read_fault}
use Rattle.run_steps.specs.declared.ending.FileKind.TheVariants as kind
use Rattle.run_steps.specs.Limits.{limit_of}
use Rattle.run_steps.specs.Steps.{CouldNotRead, IsLeftBehind, by_reading}
use Rattle.run_steps.proofs.HandedOn.{well_of, fault_of, handed_err}
use Rattle.run_steps.proofs.Followed.{fault_read, over_said, read_after}
use Rattle.run_steps.proofs.ReadLemmas.{some_text}
use Rattle.run_steps.proofs.results.read_result.Goals as goal

-- What is known once the file is opened.
record IsOpened (name : List ℕ) (a b : State) : Type 0 where
  opened : Told a b (Opens name)
  tells : b.tells ≡ a.tells

only_reads : {name : List ℕ} {a b : State} (c : State) → IsOpened name a b → Told b c OnlyReads → Told a c OnlyReads
only_reads {name} {a} {b} c is others told = reads_more (is.opened told).only (others (is.tells ∙ told))

held : {name : List ℕ} {a b : State} → IsOpened name a b → IsTrue a.tells → get a.world.files name ≡ Some (rest_of b.world)
held {name} {a} {b} is told = let o = is.opened told in sym o.rest ∙ left_by b.world.rest o.found

-- What is left after what the check read.
left : {name : List ℕ} {a b : State} (c : State) → IsOpened name a b → Told b c ReadsRest → Told a c (IsLeftBehind kind.Result name)
left {name} {a} {b} c is read told = (read (is.tells ∙ told)).rest ∙ sym (ap (option_map (drop (limit_of kind.Result + 1))) (held is told))

pub returns-in_err-map_err-clause-err : goal.returns-in_err-map_err-clause-err
returns-in_err-map_err-clause-err g c =
    let f = fault_of read_fault c.open_file.result _ c.in_err-map_err.ensures.cases refl in
    let state = g.S.Shelf.state in
    handed_err _ c.from_residual.result c.from_residual.ensures.1
    (by_reading (subst (λ (w : RunFault). CouldNotRead c.args.name.now w (state c.args.shelf.now) (state c.open_file.new.self)) (sym f.2)
    (fault_read f.0 (rw f.1 at c.open_file.ensures.call) (λ told. let s = (rw f.1 at c.open_file.ensures.err) told in record { files = s.files; written = s.written; console = s.console }) (λ s e. c.open_file.ensures.sure s (f.1 ∙ ap Err e)))))

pub check_subject-requires : goal.check_subject-requires
check_subject-requires g c =
    let well = well_of read_fault c.open_file.result _ c.in_ok-map_err.ensures.cases refl in
    let call = rw well at c.open_file.ensures.call in
    record { opened = λ told. ((rw well at c.open_file.ensures.opened) (sym call.tells ∙ told)).found }

pub returns-in-Ok-clause-ok : goal.returns-in-Ok-clause-ok
returns-in-Ok-clause-ok g c =
    let state = g.S.Shelf.state in
    let well = well_of read_fault c.open_file.result _ c.in_ok-map_err.ensures.cases refl in
    let opened = rw well at c.open_file.ensures.call in
    let is : IsOpened c.args.name.now (state c.args.shelf.now) (state c.open_file.new.self) = record { opened = rw well at c.open_file.ensures.opened; tells = opened.tells } in
    let valid = c.in-Ok.ensures.valid in (
      valid.0,
      valid.1,
      record {
        facts = facts_after_read _ _ _ _ (facts_after_read _ _ _ _ (facts_same _) opened) c.in-Ok.ensures.call;
        only = only_reads (state c.check_subject.new.shelf) is c.in-Ok.ensures.others;
        held = λ told. (rest_of (state c.open_file.new.self).world, held is told, record { same = valid.2 (is.tells ∙ told); valid = record { records = valid.0; text = refl; valid = valid.1.valid; short = valid.1.short } });
        left = left (state c.check_subject.new.shelf) is c.in-Ok.ensures.read;
      },
    )

pub returns-in-Err-Result-clause-err : goal.returns-in-Err-Result-clause-err
returns-in-Err-Result-clause-err g c =
    let state = g.S.Shelf.state in
    let well = well_of read_fault c.open_file.result _ c.in_ok-map_err.ensures.cases refl in
    let opened = rw well at c.open_file.ensures.call in
    let is : IsOpened c.args.name.now (state c.args.shelf.now) (state c.open_file.new.self) = record { opened = rw well at c.open_file.ensures.opened; tells = opened.tells } in
    let fault = c.in-Err-Result.fault in
    let call = rw c.in-Err-Result.field-0-is at c.in-Err-Result.ensures.call in
    over_said (facts_after_read _ _ _ _ (facts_after_read _ _ _ _ (facts_same _) opened) call) (only_reads (state c.check_subject.new.shelf) is c.in-Err-Result.ensures.others) (left (state c.check_subject.new.shelf) is (rw c.in-Err-Result.field-0-is at c.in-Err-Result.ensures.read))
    (λ console said told.
    let text = c.in-Err-Result.ensures.refused fault (ap Err c.in-Err-Result.field-0-is) in
    (rest_of (state c.open_file.new.self).world, held is told, record { fault = fault; refused = subst (λ (t : List ℕ). FileRefused c.args.subject.now t fault) (sym (text.2 (is.tells ∙ told))) text.1; console_is = some_text said }))
    c.say_fault.ensures

pub returns-in-Err-Failed-clause-err : goal.returns-in-Err-Failed-clause-err
returns-in-Err-Failed-clause-err g c =
    let state = g.S.Shelf.state in
    let well = well_of read_fault c.open_file.result _ c.in_ok-map_err.ensures.cases refl in
    let opened = rw well at c.open_file.ensures.call in
    let is : IsOpened c.args.name.now (state c.args.shelf.now) (state c.open_file.new.self) = record { opened = rw well at c.open_file.ensures.opened; tells = opened.tells } in
    let failed = c.in-Err-Failed.field-0-is in
    let call = rw failed at c.in-Err-Failed.ensures.call in
    by_reading (fault_read Failed (read_after opened call) (only_reads (state c.check_subject.new.shelf) is c.in-Err-Failed.ensures.others) (λ s e. absurd (c.in-Err-Failed.ensures.never (opened.sure ∙ s) (ap Err failed))))

pub returns-in-Err-NoMemory-clause-err : goal.returns-in-Err-NoMemory-clause-err
returns-in-Err-NoMemory-clause-err g c =
    let state = g.S.Shelf.state in
    let well = well_of read_fault c.open_file.result _ c.in_ok-map_err.ensures.cases refl in
    let opened = rw well at c.open_file.ensures.call in
    let is : IsOpened c.args.name.now (state c.args.shelf.now) (state c.open_file.new.self) = record { opened = rw well at c.open_file.ensures.opened; tells = opened.tells } in
    let call = rw c.in-Err-NoMemory.field-0-is at c.in-Err-NoMemory.ensures.call in
    by_reading (fault_read NoMemory (read_after opened call) (only_reads (state c.check_subject.new.shelf) is c.in-Err-NoMemory.ensures.others) (λ s e. absurd (cc)))

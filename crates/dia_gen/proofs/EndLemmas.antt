-- The lines of the classes and of the numbers, after a draft in which each number is marked.
use Rattle.std.proofs.Common.{◌≡◌, ◌∙◌, List, [], ◌∷◌, ◌++◌, map, length, Ok, Err, refl, sym, ap, subst, append_assoc}
use Rattle.std.proofs.lemmas.List.{append-nil}
use Rattle.diag_shelf.specs.World.{State}
use Rattle.diag_shelf.specs.declared.shelf.ShelfFault.{ShelfFault}
use Rattle.net_model.specs.ClassTable.{ClassTable, class_count, number_range}
use Rattle.class_refine.specs.Laws.{NamedSeparatesFaults}
use Rattle.result_records.specs.declared.record.Record.{Record}
use Rattle.result_records.specs.declared.record.Record.TheVariants.{End}
use Rattle.result_file.specs.declared.checked.Summary.{Summary}
use Rattle.text_fields.specs.Fields.{Text}
use Rattle.result_records.specs.Spelling.{text_of}
use Rattle.result_file.specs.Valid.{AreRightLines}
use Rattle.result_file.specs.Meaning.{class_records, member_records}
use Rattle.result_file.proofs.Truth.{AreSound}
use Rattle.result_records.proofs.RecordLists.{text-append}
use Rattle.dia_gen.specs.declared.draft.Draft.{Draft}
use Rattle.member_marks.specs.declared.counts.MarkCounts.{MarkCounts}
use Rattle.dia_gen.specs.GenerationSetting.{GenerationSetting}
use Rattle.member_marks.specs.Given.{AreAllMarked}
use Rattle.dia_gen.specs.Marked.{member_for, AreMarkedBelow}
use Rattle.dia_gen.specs.Made.{lines_with, IsMadeFrom}
use Rattle.dia_gen.specs.Writing.{HasGathered, HasWritten, Gathers, BrokeOff}
use Rattle.dia_gen.specs.Draft.{IsDraft}
use Rattle.dia_gen.proofs.WritingLemmas.{gathered_then, broken, stopped}
use Rattle.dia_gen.proofs.DraftResult.{stated, result_right, result_valid, result_true, result_summary}

-- The summary of a table and the counts of marks.
abbrev pub summary_with : ClassTable → MarkCounts → Summary
summary_with t marked = record { numbers = length t.class_of; patterns = t.patterns; classes = class_count t; equal = marked.equal; spent = marked.spent }

-- More lines were added.
pub lines_then : (lines more : List Record) {before mid after : Text} {start between now : State} {x : Unit {0}} → HasGathered (text_of lines) before mid start between → Gathers (text_of more) (Ok x) mid after between now → HasGathered (text_of (lines ++ more)) before after start now
lines_then lines more {before} {mid} {after} {start} {between} {now} h w = subst (λ (t : Text). HasGathered t before after start now) (sym (text-append lines more)) (gathered_then h w.ok)

-- Nothing is waiting, so all is written.
pub all_written : {text mid after : Text} {start between now : State} {x : Unit {0}} → HasGathered text [] mid start between → Gathers [] (Ok x) mid after between now → after ≡ [] → HasWritten text start now
all_written {text} {mid} {after} {start} {between} {now} h w none =
    let both : HasGathered (text ++ []) [] after start now = gathered_then h w.ok in
    let is : text ≡ both.done = sym (append-nil text) ∙ both.is ∙ ap (λ (t : Text). both.done ++ t) none ∙ append-nil both.done in
    subst (λ (t : Text). HasWritten t start now) (sym is) both.written

module _ {s : GenerationSetting} {d : Draft} {start now : State} (draft : IsDraft s d start now) (all : AreAllMarked d.keeper.kept.table d.marks) where
  abbrev t : ClassTable
  t = d.keeper.kept.table

  abbrev pub lines : List Record
  lines = lines_with s.circuit s.budgets draft.kept draft.later

  abbrev pub classes : List Record
  classes = class_records t.births

  abbrev pub members : List Record
  members = member_records (map (member_for t d.marks) (number_range t))

  pub whole_right : AreRightLines s.circuit (lines ++ classes ++ members ++ End ∷ [])
  whole_right = result_right s.circuit s.budgets draft.kept draft.later t d.marks draft.is.lines (rw draft.is.patterns at draft.is.keeper.table) draft.is.keeper.whole draft.is.few draft.is.marks all

  pub classes_broken : {fault : ShelfFault} {after : Text} {later : State} → Gathers (text_of classes) (Err fault) d.gathered after now later → BrokeOff s.circuit fault start later
  classes_broken w = broken lines classes (members ++ End ∷ []) (subst (AreRightLines s.circuit) (append_assoc (lines ++ classes) members (End ∷ [])) whole_right) draft.written w

  pub members_broken : {fault : ShelfFault} {wait after : Text} {mid later : State} → HasGathered (text_of (lines ++ classes)) [] wait start mid → Gathers (text_of members) (Err fault) wait after mid later → BrokeOff s.circuit fault start later
  members_broken h w = broken (lines ++ classes) members (End ∷ []) whole_right h w

  pub end_broken : {fault : ShelfFault} {wait after : Text} {mid later : State} → HasGathered (text_of (lines ++ classes ++ members)) [] wait start mid → Gathers (text_of (End ∷ [])) (Err fault) wait after mid later → BrokeOff s.circuit fault start later
  end_broken h w = broken (lines ++ classes ++ members) (End ∷ []) [] (subst (AreRightLines s.circuit) (sym (append-nil (lines ++ classes ++ members ++ End ∷ []))) whole_right) h w

  -- The whole is made, and its writing broke off.
  pub last_broken : {fault : ShelfFault} {wait after : Text} {mid later : State} → HasGathered (text_of (lines ++ classes ++ members ++ End ∷ [])) [] wait start mid → Gathers [] (Err fault) wait after mid later → BrokeOff s.circuit fault start later
  last_broken h w = stopped (lines ++ classes ++ members ++ End ∷ []) whole_right h w

  module _ (sound : AreSound s.circuit) (marked : MarkCounts) (counted : AreMarkedBelow t d.marks (length t.class_of) marked) where
    pub whole_made : NamedSeparatesFaults
        → IsMadeFrom s.circuit s.vectors s.budgets (summary_with t marked) (text_of (lines ++ classes ++ members ++ End ∷ []))
    whole_made named = record {
      is_true = record {
        stated = stated s.circuit s.budgets draft.kept draft.later t d.marks;
        text = refl;
        budgets_are = refl;
        is_true = result_true s.circuit s.budgets draft.kept draft.later t d.marks draft.is.lines (rw draft.is.patterns at draft.is.keeper.table) draft.is.keeper.whole draft.is.few draft.is.marks all sound named (rw draft.is.patterns at draft.is.keeper.splits.widths);
      };
      valid = result_valid s.circuit s.budgets draft.kept draft.later t d.marks draft.is.lines (rw draft.is.patterns at draft.is.keeper.table) draft.is.keeper.whole draft.is.few draft.is.marks all;
      kept = draft.kept;
      later = draft.later;
      body = refl;
      kept_are = draft.is.first;
      patterns = draft.is.lines.patterns;
      no_search = draft.is.lines.no_search;
      no_refutation = draft.is.lines.no_refutation;
      no_choice = draft.is.lines.no_choice;
      summary_is = rw (counted.equal, counted.spent) (result_summary s.circuit s.budgets draft.kept draft.later t d.marks draft.is.lines (rw draft.is.patterns at draft.is.keeper.table) draft.is.keeper.whole draft.is.few draft.is.marks all);
    }

-- A draft of the kept vectors alone.
use Rattle.std.proofs.Common.{◌∙◌, ◌++◌, [], Ok, Err, map, refl, sym, ap, subst, arith}
use Rattle.diag_shelf.specs.World.{State}
use Rattle.diag_shelf.specs.declared.shelf.ShelfFault.{ShelfFault}
use Rattle.result_records.specs.declared.record.Record.TheVariants.{Pattern}
use Rattle.text_fields.specs.Fields.{Text}
use Rattle.result_records.specs.Spelling.{text_of}
use Rattle.result_file.specs.Valid.{AreRightLines}
use Rattle.result_file.proofs.RightLines.{right_head}
use Rattle.result_records.proofs.RecordLists.{text-append}
use Rattle.dia_gen.specs.Made.{head_lines}
use Rattle.dia_gen.specs.Writing.{HasGathered, Gathers, BrokeOff}
use Rattle.dia_gen.proofs.WritingLemmas.{none_gathered, gathered_then, broken}
use Rattle.std.proofs.lemmas.List.{append-nil}
use Rattle.net_model.specs.Circuit.{Circuit}
use Rattle.net_model.specs.FaultList.{fault_count}
use Rattle.kept_vectors.specs.Kept.{nothing_kept}
use Rattle.kept_vectors.specs.Keeper.{keeper_with, IsKeeper}
use Rattle.class_refine.proofs.PatternTables.{table_numbers}
use Rattle.kept_vectors.proofs.ListLemmas.{list_kept}
use Rattle.dia_gen.specs.declared.draft.Draft.{Draft}
use Rattle.dia_gen.specs.GenerationSetting.{GenerationSetting}
use Rattle.dia_gen.specs.Draft.{IsBegun, IsDrafted, IsDraft}
use Rattle.member_marks.proofs.MarkLemmas.{given_none}
use Rattle.dia_gen.proofs.DraftLemmas.{draft_first, drafted_on}

pub begun : {s : GenerationSetting} {d : Draft} → IsBegun s d → IsKeeper d.keeper → IsDrafted s d d.keeper.kept.vectors []
begun {s} {d} b kept =
    let keeper : IsKeeper (keeper_with s.circuit d.keeper.kept) = subst (λ (c : Circuit). IsKeeper (keeper_with c d.keeper.kept)) b.circuit kept in
    let small = keeper.circuit.small in
    record {
      first = list_kept {c = s.circuit} {keeper = keeper_with s.circuit (nothing_kept (fault_count s.circuit))} s.vectors d.keeper.kept keeper.circuit refl b.kept;
      lines = draft_first s.circuit s.budgets d.keeper.kept.vectors (omega (arith, small)) (omega (arith, small)) b.few b.limits keeper.splits;
      few = b.few;
      circuit = b.circuit;
      keeper = keeper;
      patterns = sym (append-nil d.keeper.kept.vectors);
      marks = rw b.marks (given_none (fault_count s.circuit) (sym (table_numbers keeper.table)));
      space = b.space;
      looked = rw b.looked (λ v there. absurd (omega (arith, there.1)));
    }

module _ {s : GenerationSetting} {d : Draft} (b : IsBegun s d) where
  head_right : AreRightLines s.circuit (head_lines s.circuit s.budgets)
  head_right =
      let small = b.is_circuit.small in
      right_head (omega (arith, small), omega (arith, small), omega (arith, b.few)) (omega (arith, b.limits.blocks), omega (arith, b.limits.cubes), omega (arith, b.limits.conflicts)) b.limits

  pub head_broken : {fault : ShelfFault} {after : Text} {start now : State} → Gathers (text_of (head_lines s.circuit s.budgets)) (Err fault) d.gathered after start now → BrokeOff s.circuit fault start now
  head_broken {fault} {after} {start} w = broken [] (head_lines s.circuit s.budgets) [] head_right (none_gathered start) (rw b.gathered at w)

  module _ (kept : IsKeeper d.keeper) {mid : Text} {start between : State} {x : Unit {0}} (head : Gathers (text_of (head_lines s.circuit s.budgets)) (Ok x) d.gathered mid start between) where
    first : HasGathered (text_of (head_lines s.circuit s.budgets)) [] mid start between
    first = rw b.gathered at head.ok

    pub patterns_broken : {fault : ShelfFault} {after : Text} {now : State} → Gathers (text_of (map Pattern d.keeper.kept.vectors)) (Err fault) mid after between now → BrokeOff s.circuit fault start now
    patterns_broken w = broken (head_lines s.circuit s.budgets) (map Pattern d.keeper.kept.vectors) [] (begun b kept).lines.right first w

    pub draft_started : {y : Unit {0}} {after : Text} {now : State} → Gathers (text_of (map Pattern d.keeper.kept.vectors)) (Ok y) mid after between now → IsDraft s (record d { gathered = after }) start now
    draft_started {y} {after} {now} w =
        let before = head_lines s.circuit s.budgets ++ map Pattern d.keeper.kept.vectors in
        record {
          kept = d.keeper.kept.vectors;
          later = [];
          is = drafted_on after (begun b kept);
          written = subst (λ (t : Text). HasGathered t [] after start now) (sym (ap text_of (append-nil before) ∙ text-append (head_lines s.circuit s.budgets) (map Pattern d.keeper.kept.vectors))) (gathered_then first w.ok);
        }

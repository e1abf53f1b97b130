-- Texts that are written one after another, and writing that breaks off.
use Rattle.std.proofs.Common.{◌≡◌, ◌∙◌, ℕ, ◌+◌, ◌≤◌, Bool, true, false, IsTrue, List, [], ◌∷◌, ◌++◌, length, take, drop, length-append, Some, Result, Ok, Err, refl, sym, ap, arith, append_assoc}
use Rattle.std.specs.List.{slice_get}
use Rattle.std.proofs.lemmas.List.{take-append-le, append-nil, take_all, take-append-drop}
use Rattle.std.proofs.Math.Seq.{take-append-add}
use Rattle.diag_shelf.specs.World.{World, State}
use Rattle.diag_shelf.specs.Calls.{SameFacts, OfSome, Writes, IsWriteCall}
use Rattle.diag_shelf.specs.declared.shelf.ShelfFault.{ShelfFault}
use Rattle.diag_shelf.specs.declared.shelf.ShelfFault.TheVariants.{NoMemory}
use Rattle.diag_shelf.proofs.Steps.{facts_same, writes_more}
use Rattle.net_model.specs.Circuit.{Circuit}
use Rattle.result_records.specs.declared.record.Record.{Record}
use Rattle.text_fields.specs.Fields.{Text}
use Rattle.result_records.specs.Spelling.{text_of}
use Rattle.result_file.specs.Valid.{AreRightLines}
use Rattle.result_records.proofs.RecordLists.{text-append}
use Rattle.result_file.proofs.LineLemmas.{next_text}
use Rattle.dia_gen.specs.Writing.{HasWritten, HasGathered, Gathers, BrokeOff}
use Rattle.dia_gen.proofs.Written.{nothing_right, writes_none}

-- ---- calls

call_same : {a b : State} → SameFacts a b → IsWriteCall {T = Unit {0}} (Ok tt) a b
call_same s = record { tells = s.tells; sure = s.sure; reads = s.reads; later = omega (arith, s.writes); ok = s.writes; failed = λ e. absurd (cc); memory = λ h e. absurd (cc) }

call_after : {fault : ShelfFault} {a b c : State} → SameFacts a b → IsWriteCall {T = Unit {0}} (Err fault) b c → IsWriteCall {T = Unit {0}} (Err fault) a c
call_after s w = record {
  tells = w.tells ∙ s.tells;
  sure = w.sure ∙ s.sure;
  reads = w.reads ∙ s.reads;
  later = omega (arith, s.writes, w.later);
  ok = tt;
  failed = λ e. let rose = w.failed e in omega (arith, rose, s.writes);
  memory = λ h e. w.memory (s.sure ∙ h) e ∙ s.writes;
}

-- ---- texts

pub none_written : (a : State) → HasWritten [] a a
none_written a = record { facts = facts_same a; written = λ told. writes_none a.world }

pub written_then : {text more : Text} {a b c : State} → HasWritten text a b → HasWritten more b c → HasWritten (text ++ more) a c
written_then h w = record {
  facts = record { tells = w.facts.tells ∙ h.facts.tells; sure = w.facts.sure ∙ h.facts.sure; reads = w.facts.reads ∙ h.facts.reads; writes = w.facts.writes ∙ h.facts.writes };
  written = λ told. writes_more (h.written told) (w.written (h.facts.tells ∙ told));
}

-- ---- texts that wait

-- Nothing was made.
pub none_gathered : {wait : Text} (a : State) → HasGathered [] wait wait a a
none_gathered {wait} a = record { done = []; is = append-nil wait; written = none_written a }

pub gathered_then : {text more before mid after : Text} {a b c : State} → HasGathered text before mid a b → HasGathered more mid after b c → HasGathered (text ++ more) before after a c
gathered_then {text} {more} {before} {mid} {after} h k = record {
  done = h.done ++ k.done;
  is = sym (append_assoc before text more) ∙ ap (λ (t : Text). t ++ more) h.is ∙ append_assoc h.done mid more ∙ ap (λ (t : Text). h.done ++ t) k.is ∙ sym (append_assoc h.done k.done after);
  written = written_then h.written k.written;
}

pub whole_gathered : {text before after : Text} {a b : State} → HasGathered text before after a b → Gathers text (Ok tt) before after a b
whole_gathered h = record { call = call_same h.written.facts; ok = h; err = tt; sure = λ s told e. absurd (cc) }

-- A line that was appended to the waiting text is waiting too.
pub line_before : {line before after : Text} {a b : State} (r : Result (Unit {0}) ShelfFault) → Gathers [] r (before ++ line) after a b → Gathers line r before after a b
line_before {line} {before} (Ok x) w = record {
  call = w.call;
  ok = record { done = w.ok.done; is = sym (append-nil (before ++ line)) ∙ w.ok.is; written = w.ok.written };
  err = tt;
  sure = w.sure;
}
line_before {line} {before} (Err fault) w = record { call = w.call; ok = tt; err = λ told. rw (append-nil (before ++ line)) at (w.err told); sure = w.sure }

-- A beginning of a longer text.
pub part_of : (text line rest whole : Text) → whole ≡ text ++ line ++ rest → {u v w : World} → Writes text u v → OfSome Writes line v w → OfSome Writes whole u w
part_of text line rest whole is {u} {v} {w} first some =
    let at : take (length text + some.0) whole ≡ text ++ take some.0 line =
    ap (take (length text + some.0)) (is ∙ append_assoc text line rest) ∙ (take-append-add text (line ++ rest) some.0 ∙ ap (λ (t : Text). text ++ t) (take-append-le some.0 line rest some.1)) in
    (length text + some.0, rw (is, length-append (text ++ line) rest, length-append text line) (omega (arith, some.1)), rw at (writes_more first some.2))

-- The waiting text, the text, a line and the rest are what was written, what was then waiting with the line, and the
-- rest.
seam : (before text line rest done mid : Text) → before ++ text ≡ done ++ mid → before ++ (text ++ line ++ rest) ≡ done ++ (mid ++ line) ++ rest
seam before text line rest done mid is =
    sym (append_assoc before (text ++ line) rest) ∙ ap (λ (t : Text). t ++ rest) (sym (append_assoc before text line) ∙ ap (λ (t : Text). t ++ line) is ∙ append_assoc done mid line)

pub text_broken : (text line rest whole : Text) {before mid after last : Text} {fault : ShelfFault} {a b c : State} → whole ≡ text ++ line ++ rest → HasGathered text before mid a b → Gathers line (Err fault) mid after b c → Gathers whole (Err fault) before last a c
text_broken text line rest whole {before} {mid} {after} {last} {fault} {a} {b} {c} is h w = record {
  call = call_after h.written.facts w.call;
  ok = tt;
  err = λ told. part_of h.done (mid ++ line) rest (before ++ whole) (ap (λ (t : Text). before ++ t) is ∙ seam before text line rest h.done mid h.is) (h.written.written told) (w.err (h.written.facts.tells ∙ told));
  sure = λ s told e. sym (h.written.written told).written ∙ w.sure (h.written.facts.sure ∙ s) (h.written.facts.tells ∙ told) e;
}

-- The last call decides.
pub gathered_last : {text line before mid after : Text} {a b c : State} (r : Result (Unit {0}) ShelfFault) → HasGathered text before mid a b → Gathers line r mid after b c → Gathers (text ++ line) r before after a c
gathered_last (Ok x) h w = whole_gathered (gathered_then h w.ok)
gathered_last {text} {line} (Err fault) h w = text_broken text line [] (text ++ line) (sym (append-nil (text ++ line))) h w

-- ---- line by line

module _ (all : List Record) (k : ℕ) (r : Record) (at : slice_get all k ≡ Some r) where
  pub line_gathered : {before mid after : Text} {x : Unit {0}} {a b c : State} → HasGathered (text_of (take k all)) before mid a b → Gathers (text_of (r ∷ [])) (Ok x) mid after b c → HasGathered (text_of (take (k + 1) all)) before after a c
  line_gathered h w = rw (next_text all k r at) (gathered_then h w.ok)

  pub line_broken : {before mid after last : Text} {fault : ShelfFault} {a b c : State} → HasGathered (text_of (take k all)) before mid a b → Gathers (text_of (r ∷ [])) (Err fault) mid after b c → Gathers (text_of all) (Err fault) before last a c
  line_broken h w =
      let rest = drop (k + 1) all in
      let is : text_of all ≡ text_of (take k all) ++ text_of (r ∷ []) ++ text_of rest =
      ap text_of (sym (take-append-drop (k + 1) all)) ∙ text-append (take (k + 1) all) rest ∙ ap (λ (t : Text). t ++ text_of rest) (next_text all k r at) in
      text_broken (text_of (take k all)) (text_of (r ∷ [])) (text_of rest) (text_of all) is h w

pub lines_gathered : (all : List Record) (k : ℕ) → length all ≤ k → {before after : Text} {a b : State} → HasGathered (text_of (take k all)) before after a b → Gathers (text_of all) (Ok tt) before after a b
lines_gathered all k past h = whole_gathered (rw (take_all k all past) at h)

-- ---- results

-- Some beginning of a text is what was written if the shelf tells its files.
told_some : (tells : Bool) (text : Text) {u v : World} → (IsTrue tells → OfSome Writes text u v) → (n : ℕ) × (IsTrue tells → Writes (take n text) u v)
told_some true text some = let w = some refl in (w.0, λ told. w.2)
told_some false text some = (0, λ told. absurd (cc))

-- Right lines were broken off by a fault of the next ones.
pub broken : {c : Circuit} {fault : ShelfFault} (lines more rest : List Record) {mid after : Text} {start between now : State} → AreRightLines c (lines ++ more ++ rest) → HasGathered (text_of lines) [] mid start between → Gathers (text_of more) (Err fault) mid after between now → BrokeOff c fault start now
broken {c} {fault} lines more rest {mid} {after} {start} {between} {now} right h w =
    let all = text_of (lines ++ more ++ rest) in
    let is : all ≡ text_of lines ++ text_of more ++ text_of rest = text-append (lines ++ more) rest ∙ ap (λ (t : Text). t ++ text_of rest) (text-append lines more) in
    let cut = text_broken (text_of lines) (text_of more) (text_of rest) all {last = []} is h w in
    let some = told_some start.tells all cut.err in
    record {
      call = cut.call;
      part = take some.0 all;
      cut = record { records = lines ++ more ++ rest; right = right; count = some.0; cut = refl };
      written = some.1;
      sure = λ s told e. cut.sure s told (ap Err e);
    }

-- Nothing is written if memory is missing.
no_text : (wait : Text) (a : State) → Gathers [] (Err NoMemory) wait wait a a
no_text wait a = record {
  call = record { tells = refl; sure = refl; reads = refl; later = omega arith; ok = tt; failed = λ e. absurd (cc); memory = λ s e. refl };
  ok = tt;
  err = λ told. (0, omega arith, writes_none a.world);
  sure = λ s told e. absurd (cc);
}

-- The waiting lines couldn't be written.
pub stopped : {c : Circuit} {fault : ShelfFault} (lines : List Record) {wait after : Text} {start between now : State} → AreRightLines c lines → HasGathered (text_of lines) [] wait start between → Gathers [] (Err fault) wait after between now → BrokeOff c fault start now
stopped lines right h w = broken lines [] [] (rw (append-nil lines, append-nil lines) right) h w

pub broken_here : {c : Circuit} (lines : List Record) {wait : Text} {start now : State} → AreRightLines c lines → HasGathered (text_of lines) [] wait start now → BrokeOff c NoMemory start now
broken_here {c} lines {wait} {start} {now} right h = stopped lines right h (no_text wait now)

-- No line is written yet.
pub nothing_broken : {c : Circuit} (start : State) → BrokeOff c NoMemory start start
nothing_broken {c} start = broken_here [] nothing_right (none_gathered {wait = []} start)

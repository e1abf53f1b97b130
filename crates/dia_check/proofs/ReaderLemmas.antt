-- Bytes that are read: the lines in them, the limit, and the end.
use Rattle.std.proofs.Common.{◌≡◌, ◌∙◌, ℕ, suc, ◌-◌, ◌<◌, ◌≤◌, true, false, [], ◌∷◌, ◌++◌, length, length-append, length-take, take, Option, None, Some, Ok, Err, refl, sym, ap, subst, append_assoc, arith}
use Rattle.std.specs.Prelude.{Contains, not, min, drop, is_some}
use Rattle.std.specs.List.{prefix_len}
use Rattle.std.proofs.lemmas.Bool.{ne_eqb}
use Rattle.std.proofs.lemmas.List.{append-nil, take_all, take-append-drop, length-drop}
use Rattle.net_model.specs.Circuit.{Circuit}
use Rattle.result_file.specs.declared.fault.ResultKind.TheVariants as why
use Rattle.result_file.specs.declared.fault.ResultFault.{ResultFault}
use Rattle.text_fields.specs.Fields.{Text}
use Rattle.result_records.specs.declared.limits.TheConstants.{RESULT_LIMIT}
use Rattle.result_records.specs.Spelling.{text_of}
use Rattle.result_records.specs.Held.{IsFirstLine}
use Rattle.result_file.specs.Refusal.{line_length, FileRefused}
use Rattle.result_file.specs.Refusal.FileRefused.{too_long}
use Rattle.result_file.proofs.FirstLine.{is_inside}
use Rattle.dia_check.specs.declared.checker.Checker.{Checker}
use Rattle.dia_check.specs.declared.reader.Reader.{Reader}
use Rattle.dia_check.specs.declared.stop.Stop.{Stop}
use Rattle.dia_check.specs.declared.stop.Stop.TheVariants as stop
use Rattle.result_file.specs.declared.checked.Checked.{Checked}
use Rattle.dia_check.specs.Checker.{IsCheckOf, HasCheck, IsJudgedWhole, IsRefusedText, IsJudged, JudgesText, JudgesWaiting, JudgesEnd}
use Rattle.result_file.specs.Accepted.{IsAcceptedText}
use Rattle.dia_check.specs.Reader.{IsHeld, HasJudgedLines, IsReading, IsTaken, TakesPiece, IsRefusedEnd}
use Rattle.dia_check.proofs.CheckLemmas.{fault_behind, refused_longer, text_seen}

-- ---- a line that is taken out

module _ {c : Circuit} {fed : Text} {r : Reader} (h : IsHeld c fed r) (short : length fed ≤ RESULT_LIMIT) (line rest : Text) (first : IsFirstLine r.lines line rest) where
  abbrev ended : Text
  ended = line ++ 10 ∷ []

  parts : fed ≡ (h.text ++ ended) ++ rest
  parts = h.fed_is ∙ ap (λ (t : Text). h.text ++ t) (first.cut ∙ sym (append_assoc line (10 ∷ []) rest)) ∙ sym (append_assoc h.text ended rest)

  within : length (h.text ++ ended) ≤ RESULT_LIMIT
  within = omega (arith, short, ap length parts, length-append (h.text ++ ended) rest)

  pub line_held : (new : Checker) (x : Unit {0}) → JudgesText c r.checker new ended (Ok x) → (r' : Reader) → r'.checker ≡ new → r'.lines ≡ rest → IsHeld c fed r'
  line_held new x judges r' checker_is lines_is = record {
    text = h.text ++ ended;
    check = rw checker_is (judges.judged h.text h.check within);
    fed_is = rw lines_is parts;
  }

  line_stopped_by : (new : Checker) (s : Stop) → IsJudged c (h.text ++ ended) new (Err s) → (r' : Reader) → IsTaken c fed r' (Err s)
  line_stopped_by new (stop.Refused fault) is r' = subst (λ (t : Text). IsRefusedText c t fault) (sym parts) (refused_longer rest is)
  line_stopped_by new stop.NoMemory is r' = tt

  pub line_stopped : (new : Checker) (s : Stop) → JudgesText c r.checker new ended (Err s) → (r' : Reader) → IsTaken c fed r' (Err s)
  line_stopped new s judges r' = line_stopped_by new s (judges.judged h.text h.check within) r'

pub has_check : {c : Circuit} {fed : Text} {r : Reader} → IsHeld c fed r → HasCheck c r.checker
has_check {c} {fed} {r} h = record { text = h.text; is = h.check }

-- ---- a piece that is fed

pub held_more : {c : Circuit} {fed : Text} {r : Reader} → IsHeld c fed r → (piece : Text) (r' : Reader) → r'.checker ≡ r.checker → r'.lines ≡ r.lines ++ piece → IsHeld c (fed ++ piece) r'
held_more {c} {fed} {r} h piece r' checker_is lines_is = record {
  text = h.text;
  check = rw checker_is h.check;
  fed_is = ap (λ (t : Text). t ++ piece) h.fed_is ∙ append_assoc h.text r.lines piece ∙ sym (ap (λ (t : Text). h.text ++ t) lines_is);
}

-- ---- beyond the limit

held_size : (held more : Text) → ¬ Contains held 10 → length held ≤ prefix_len is_inside (held ++ more)
held_size [] more one = omega arith
held_size (b ∷ held) more one =
    let rest = held_size held more (λ there. one (suc there.0, omega (arith, there.1), there.2)) in
    let other : is_inside b ≡ true = ap not (ne_eqb b 10 (λ e. one (0, omega arith, e))) in
    rw other (omega (arith, rest))

-- A line is longer than bytes without LF if any byte comes after them.
line_longer : (held more : Text) → ¬ Contains held 10 → 0 < length more → length held < line_length (held ++ more)
line_longer held more one some =
    let size = held_size held more one in
    let taken = length-take (prefix_len is_inside (held ++ more)) (held ++ more) in
    omega (arith, size, taken, some, length-append held more)

module _ {c : Circuit} {text : Text} (held : Text) {k : Checker} (is : IsCheckOf c text k) (none : k.waiting.items ≡ []) (one : ¬ Contains held 10) (full : length (text ++ held) ≡ RESULT_LIMIT) where
  pub beyond_limit : (over : Text) → 0 < length over → IsRefusedText c ((text ++ held) ++ over) (fault_behind why.TooLong k.progress.lines)
  beyond_limit over some = record {
    refused = λ more.
        let rest = held ++ (over ++ more) in
        let file : ((text ++ held) ++ over) ++ more ≡ text_of is.seen ++ rest =
        append_assoc (text ++ held) over more ∙ append_assoc text held (over ++ more) ∙ ap (λ (t : Text). t ++ rest) (text_seen is none) in
        let long = line_longer held (over ++ more) one (omega (arith, some, length-append over more)) in
        too_long is.seen rest (record { text = file; right = is.is.lines }) (omega (arith, is.short, ap length (text_seen is none)))
        (omega (arith, full, long, length-append text held, ap length (text_seen is none)))
        (λ i. fault_behind why.TooLong (is.is.progress.lines i));
  }

-- ---- what is known of the bytes so far

-- At first no byte is read.
pub reading_none : {c : Circuit} (r : Reader) → IsCheckOf c [] r.checker → r.lines ≡ [] → r.room ≡ RESULT_LIMIT → r.refused ≡ None → IsReading c [] r
reading_none {c} r is lines_is room_is none = record {
  going = λ e. record {
    held = record { text = []; check = is; fed_is = sym lines_is };
    one = rw lines_is (λ there. absurd (omega (arith, there.1)));
    room = omega (arith, room_is);
  };
  refused = λ fault there. let clash : ◌≡◌ {A = Option ResultFault} None (Some fault) = sym none ∙ there in absurd (cc);
}

-- Once a line is refused, nothing is looked at.
pub reading_longer : {c : Circuit} {fed : Text} {r : Reader} (piece : Text) → is_some r.refused ≡ true → IsReading c fed r → IsReading c (fed ++ piece) r
reading_longer {c} {fed} {r} piece some is = record {
  going = λ none. let clash : false ≡ true = ap is_some (sym none) ∙ some in absurd (cc);
  refused = λ fault there. refused_longer piece (is.refused fault there);
}

none_by : (o : Option ResultFault) → is_some o ≡ false → o ≡ None
none_by None none = refl
none_by (Some fault) none = absurd (cc)

module _ {c : Circuit} {fed : Text} {old : Reader} (piece : Text) (none : is_some old.refused ≡ false) (is : IsReading c fed old) where
  open_so_far : HasJudgedLines c fed old
  open_so_far = is.going (none_by old.refused none)

  pub reading_more : {new : Reader} {x : Unit {0}} → TakesPiece c old new piece (Ok x) → IsReading c (fed ++ piece) new
  reading_more {new} takes = record {
    going = λ e. takes.taken fed open_so_far;
    refused = λ fault there. let clash : ◌≡◌ {A = Option ResultFault} None (Some fault) = sym (takes.refused ∙ none_by old.refused none) ∙ there in absurd (cc);
  }

  pub reading_refused : {new : Reader} {fault : ResultFault} → TakesPiece c old new piece (Err (stop.Refused fault)) → (r : Reader) → r.refused ≡ Some fault → IsReading c (fed ++ piece) r
  reading_refused {new} {fault} takes r there = record {
    going = λ e. let clash : ◌≡◌ {A = Option ResultFault} None (Some fault) = sym e ∙ there in absurd (cc);
    refused = λ other found.
        let same : fault ≡ other = cc in
        subst (λ (f : ResultFault). IsRefusedText c (fed ++ piece) f) same (takes.taken fed open_so_far);
  }

-- ---- a piece, up to the limit

module _ {c : Circuit} {fed : Text} {old : Reader} (is : HasJudgedLines c fed old) (piece : Text) (count : ℕ) (count_is : count ≡ min (length piece) old.room) where
  abbrev inside : Text
  inside = take count piece

  inside_length : length inside ≡ count
  inside_length = omega (arith, length-take count piece, count_is)

  pub inside_short : length (fed ++ inside) ≤ RESULT_LIMIT
  inside_short = omega (arith, length-append fed inside, inside_length, is.room, count_is)

  whole : (fed ++ inside) ++ drop count piece ≡ fed ++ piece
  whole = append_assoc fed inside (drop count piece) ∙ ap (λ (t : Text). fed ++ t) (take-append-drop count piece)

  -- The piece is held, up to the limit.
  pub inside_held : (r : Reader) → r.checker ≡ old.checker → r.lines ≡ old.lines ++ inside → IsHeld c (fed ++ inside) r
  inside_held r checker_is lines_is = held_more is.held inside r checker_is lines_is

  -- A line of it is refused.
  stopped_in : (mid : Reader) (s : Stop) → IsTaken c (fed ++ inside) mid (Err s) → IsTaken c (fed ++ piece) mid (Err s)
  stopped_in mid (stop.Refused fault) refused = subst (λ (t : Text). IsRefusedText c t fault) whole (refused_longer (drop count piece) refused)
  stopped_in mid stop.NoMemory refused = tt

  -- Each line of it was judged.
  module _ {mid : Reader} (h : IsHeld c (fed ++ inside) mid) where
    pub line_refused : {k : Checker} (s : Stop) (line rest : Text) → IsFirstLine mid.lines line rest → JudgesText c mid.checker k (line ++ 10 ∷ []) (Err s) → IsTaken c (fed ++ piece) mid (Err s)
    line_refused {k} s line rest first judges = stopped_in mid s (line_stopped h inside_short line rest first k s judges mid)

    judged_in : (k : Checker) (s : Stop) → IsJudged c h.text k (Err s) → IsTaken c (fed ++ piece) mid (Err s)
    judged_in k (stop.Refused fault) refused = stopped_in mid (stop.Refused fault) (subst (λ (t : Text). IsRefusedText c t fault) (sym h.fed_is) (refused_longer mid.lines refused))
    judged_in k stop.NoMemory refused = tt

    -- A waiting pattern is refused.
    pub waiting_stopped : {k : Checker} (s : Stop) → JudgesWaiting c mid.checker k (Err s) → IsTaken c (fed ++ piece) mid (Err s)
    waiting_stopped {k} s judges = judged_in k s (judges.judged h.text h.check)

    -- All of the piece is within the limit.
    pub piece_taken : ¬ Contains mid.lines 10 → length piece ≤ count → mid.room ≡ old.room - count → HasJudgedLines c (fed ++ piece) mid
    piece_taken one all room_is =
        let same : fed ++ inside ≡ fed ++ piece = ap (λ (t : Text). fed ++ t) (take_all count piece all) in
        record {
          held = subst (λ (t : Text). IsHeld c t mid) same h;
          one = one;
          room = omega (arith, room_is, is.room, count_is, all, length-append fed piece);
        }

    -- The line goes beyond the limit.
    pub piece_beyond : {k : Checker} {x : Unit {0}} → ¬ Contains mid.lines 10 → JudgesWaiting c mid.checker k (Ok x) → k.waiting.items ≡ [] → count < length piece → IsRefusedText c (fed ++ piece) (fault_behind why.TooLong k.progress.lines)
    piece_beyond {k} one judges none below =
        let full : length (h.text ++ mid.lines) ≡ RESULT_LIMIT = omega (arith, ap length h.fed_is, length-append fed inside, inside_length, is.room, count_is, below) in
        let fault = fault_behind why.TooLong k.progress.lines in
        let refused = beyond_limit mid.lines (judges.judged h.text h.check) none one full (drop count piece) (omega (arith, below, length-drop count piece)) in
        subst (λ (t : Text). IsRefusedText c t fault) (ap (λ (t : Text). t ++ drop count piece) (sym h.fed_is) ∙ whole) refused

-- ---- the end

pub refused_end : {c : Circuit} {fed : Text} {fault : ResultFault} → IsRefusedText c fed fault → IsRefusedEnd c fed fault
refused_end {c} {fed} {fault} is = record { whole = subst (λ (t : Text). FileRefused c t fault) (append-nil fed) (is.refused []); beyond = λ more. is }

pub end_refused : {c : Circuit} {fed : Text} {r : Reader} {new : Checker} {rest : Text} {fault : ResultFault} → HasJudgedLines c fed r → rest ≡ r.lines → JudgesEnd c r.checker new rest (Err (stop.Refused fault)) → IsRefusedEnd c fed fault
end_refused {c} {fed} {r} {new} {rest} {fault} is rest_is judges =
    let h = is.held in
    let whole : h.text ++ rest ≡ fed = ap (λ (t : Text). h.text ++ t) rest_is ∙ sym h.fed_is in
    record {
      whole = subst (λ (t : Text). FileRefused c t fault) whole (judges.judged h.text h.check (omega (arith, is.room, ap length whole)));
      beyond = λ more. absurd (omega (arith, more, is.room));
    }

pub end_accepted : {c : Circuit} {fed : Text} {r : Reader} {new : Checker} {rest : Text} {x : Unit {0}} {checked : Checked} → HasJudgedLines c fed r → rest ≡ r.lines → JudgesEnd c r.checker new rest (Ok x)
    → ((c : Circuit) (text : Text) → IsJudgedWhole c text new → IsAcceptedText c text checked) → (length fed ≤ RESULT_LIMIT) × IsAcceptedText c fed checked
end_accepted {c} {fed} {r} {new} {rest} {x} {checked} is rest_is judges accepted =
    let h = is.held in
    let whole : h.text ++ rest ≡ fed = ap (λ (t : Text). h.text ++ t) rest_is ∙ sym h.fed_is in
    let both = judges.judged h.text h.check (omega (arith, is.room, ap length whole)) in
    let same : h.text ≡ fed = sym (append-nil h.text) ∙ ap (λ (t : Text). h.text ++ t) (sym both.0) ∙ whole in
    (omega (arith, is.room), subst (λ (t : Text). IsAcceptedText c t checked) same (accepted c h.text both.1))

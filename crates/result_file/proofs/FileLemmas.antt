-- A file is refused in one way, and only if it isn't valid.
use Rattle.std.proofs.Common.{◌≡◌, ◌∙◌, ℕ, ◌+◌, ◌<◌, ◌≤◌, cond, List, [], ◌∷◌, ◌++◌, length, length-append, take, refl, sym, ap, ap₂, subst, arith}
use Rattle.std.specs.Prelude.{All}
use Rattle.std.proofs.lemmas.List.{append_assoc, append-nil, get_or-append-add}
use Rattle.std.proofs.lemmas.List.Concat.{flat_map-append}
use Rattle.std.proofs.lemmas.List.Elements.{All-head, All-tail, All-from_get_or}
use Rattle.std.proofs.lemmas.List.Sums.{sum_by-append}
use Rattle.std.proofs.Math.Seq.{take-append-add}
use Rattle.net_model.specs.Circuit.{Circuit, IsCircuit}
use Rattle.result_records.specs.declared.limits.TheConstants.{RESULT_LIMIT}
use Rattle.result_records.specs.declared.record.Record.{Record}
use Rattle.result_records.specs.declared.record.Record.TheVariants.{End}
use Rattle.result_file.specs.declared.fault.ResultKind.{ResultKind}
use Rattle.result_file.specs.declared.fault.ResultKind.TheVariants as why
use Rattle.result_file.specs.declared.fault.ResultFault.{ResultFault}
use Rattle.text_fields.specs.Fields.{Text}
use Rattle.result_records.specs.Spelling.{spelling, text_of, HasSpelling}
use Rattle.result_records.specs.Marks.{is_end, end_lines}
use Rattle.result_file.specs.Valid.{AreRightLines, record_at, IsValid, IsValidFile}
use Rattle.result_file.specs.Refusal.{line_length, RestRefused, BeginsWithRightLines, FileRefused}
use Rattle.result_file.specs.Refusal.RestRefused.{no_line, no_record, misplaced, wrong}
use Rattle.result_file.specs.Refusal.FileRefused.{at_line, too_long}
use Rattle.result_records.proofs.FieldLemmas.{no_line_feed}
use Rattle.result_file.proofs.FirstLine.{ended_length}
use Rattle.result_file.proofs.RefusalLemmas.{record_once, empty_line, record_stands, rest_wrong, rest_once}
use Rattle.result_file.proofs.RightLines.{IsNextLine}

-- Two cuts of a text into lines of records and a rest: they are the same, or one has one more record at the place of
-- the other's rest.
data Compared (ls ms : List Record) (x y : Text) : Type 0 where
  same : ls ≡ ms → x ≡ y → Compared ls ms x y
  shorter : (r : Record) (more : List Record) → ms ≡ ls ++ r ∷ more → x ≡ spelling r ++ 10 ∷ (text_of more ++ y) → Compared ls ms x y
  longer : (r : Record) (more : List Record) → ls ≡ ms ++ r ∷ more → y ≡ spelling r ++ 10 ∷ (text_of more ++ x) → Compared ls ms x y

behind : (r : Record) (rs : List Record) (x : Text) → text_of (r ∷ rs) ++ x ≡ spelling r ++ 10 ∷ (text_of rs ++ x)
behind r rs x = append_assoc (spelling r ++ 10 ∷ []) (text_of rs) x ∙ append_assoc (spelling r) (10 ∷ []) (text_of rs ++ x)

put : (a b : Record) (ls ms : List Record) → a ≡ b → ls ≡ ms → a ∷ ls ≡ b ∷ ms
put a b ls ms e es = ap₂ (λ (r : Record) (rs : List Record). r ∷ rs) e es

one_more : (a b : Record) (ls ms : List Record) (x y : Text) → a ≡ b → Compared ls ms x y → Compared (a ∷ ls) (b ∷ ms) x y
one_more a b ls ms x y e (same es rest) = same (put a b ls ms e es) rest
one_more a b ls ms x y e (shorter r more es line) = shorter r more (put b a ms (ls ++ r ∷ more) (sym e) es) line
one_more a b ls ms x y e (longer r more es line) = longer r more (put a b ls (ms ++ r ∷ more) e es) line

compared : (ls ms : List Record) (x y : Text) → All HasSpelling ls → All HasSpelling ms → text_of ls ++ x ≡ text_of ms ++ y → Compared ls ms x y
compared [] [] x y first second e = same refl e
compared [] (b ∷ ms) x y first second e = shorter b ms refl (e ∙ behind b ms y)
compared (a ∷ ls) [] x y first second e = longer a ls refl (sym e ∙ behind a ls x)
compared (a ∷ ls) (b ∷ ms) x y first second e =
    let cut = record_once a b (text_of ls ++ x) (text_of ms ++ y) (All-head HasSpelling a ls first) (All-head HasSpelling b ms second) (sym (behind a ls x) ∙ e ∙ behind b ms y) in
    one_more a b ls ms x y cut.0 (compared ls ms x y (All-tail HasSpelling a ls first) (All-tail HasSpelling b ms second) cut.1)

-- the length of lines with one more
length_more : (ls : List Record) (r : Record) (more : List Record) → length (text_of ls) + (length (spelling r) + 1) ≤ length (text_of (ls ++ r ∷ more))
length_more ls r more =
    let line = spelling r ++ 10 ∷ [] in
    omega (
      arith,
      ap length (flat_map-append (λ r. spelling r ++ 10 ∷ []) ls (r ∷ more)),
      length-append (text_of ls) (text_of (r ∷ more)),
      length-append line (text_of more),
      length-append (spelling r) (10 ∷ []),
    )

module _ {c : Circuit} where
  spelled_lines : {rs : List Record} → AreRightLines c rs → All HasSpelling rs
  spelled_lines {rs} right = All-from_get_or HasSpelling rs End (λ at below. right.spelled at below)

  -- a record after others on right lines is right
  pub next_right : {ms : List Record} (ls : List Record) (r : Record) (more : List Record) → AreRightLines c ms → ms ≡ ls ++ r ∷ more → IsNextLine c ls r
  next_right {ms} ls r more right e =
      let lines : AreRightLines c (ls ++ r ∷ more) = subst (AreRightLines c) e right in
      let at = length ls + 0 in
      let below : at < length (ls ++ r ∷ more) = omega (arith, length-append ls (r ∷ more)) in
      let before : take at (ls ++ r ∷ more) ≡ ls = take-append-add ls (r ∷ more) 0 ∙ append-nil ls in
      let here : record_at (ls ++ r ∷ more) at ≡ r = get_or-append-add ls (r ∷ more) 0 End in
      record { spelled = rw here at (lines.spelled at below); right = rw (before, here) at (lines.right at below) }

module _ (c : Circuit) (is : IsCircuit c) where
  -- a line is refused, and no right lines have a record at its place
  never_more : {ls ms : List Record} {x : Text} (reason : ResultKind) (r : Record) (more : List Record) (rest : Text) → RestRefused c ls x reason → AreRightLines c ms → ms ≡ ls ++ r ∷ more → x ≡ spelling r ++ 10 ∷ rest → ⊥
  never_more {ls} {ms} {x} reason r more rest refused right e line = let next = next_right ls r more right e in rest_wrong c is ls x reason r refused (record { spelled = next.spelled; more = rest; text_is = line }) next.right

  -- a line that goes beyond the limit is on no lines within it
  never_within : (ls ms : List Record) (x : Text) (r : Record) (more : List Record) (rest : Text) → RESULT_LIMIT < length (text_of ls) + line_length x → AreRightLines c ms → length (text_of ms) ≤ RESULT_LIMIT
      → ms ≡ ls ++ r ∷ more → x ≡ spelling r ++ 10 ∷ rest → ⊥
  never_within ls ms x r more rest beyond right within e line =
      let next = next_right ls r more right e in
      let long : line_length x ≡ length (spelling r) + 1 = ap line_length line ∙ ended_length (spelling r) rest (no_line_feed r next.spelled) in
      absurd (omega (arith, beyond, within, long, length_more ls r more, ap (λ (rs : List Record). length (text_of rs)) e))

  lines_once : (ls ms : List Record) (x y : Text) (reason other : ResultKind) → AreRightLines c ls → AreRightLines c ms → RestRefused c ls x reason → RestRefused c ms y other → Compared ls ms x y
      → ◌≡◌ {A = ResultFault} (record { kind = reason; line = length ls + 1 }) (record { kind = other; line = length ms + 1 })
  lines_once ls ms x y reason other right right' refused refused' (same es rest) =
      let there : RestRefused c ls x other = rw (es, rest) refused' in
      let rule = rest_once c is ls x reason other refused there in
      λ i. record { kind = rule i; line = length (es i) + 1 }
  lines_once ls ms x y reason other right right' refused refused' (shorter r more es line) = absurd (never_more reason r more (text_of more ++ y) refused right' es line)
  lines_once ls ms x y reason other right right' refused refused' (longer r more es line) = absurd (never_more other r more (text_of more ++ x) refused' right es line)

  never_both : (ls ms : List Record) (x y : Text) (reason : ResultKind) → AreRightLines c ls → AreRightLines c ms → RestRefused c ls x reason → length (text_of ls) + line_length x ≤ RESULT_LIMIT
      → RESULT_LIMIT < length (text_of ms) + line_length y → Compared ls ms x y → ⊥
  never_both ls ms x y reason right right' refused within beyond (same es rest) =
      omega (arith, within, beyond, ap (λ (rs : List Record). length (text_of rs)) es, ap line_length rest)
  never_both ls ms x y reason right right' refused within beyond (shorter r more es line) = never_more reason r more (text_of more ++ y) refused right' es line
  never_both ls ms x y reason right right' refused within beyond (longer r more es line) = never_within ms ls y r more (text_of more ++ x) beyond right (omega (arith, within)) es line

  one_length : (ls ms : List Record) (x y : Text) → AreRightLines c ls → AreRightLines c ms → length (text_of ls) ≤ RESULT_LIMIT → length (text_of ms) ≤ RESULT_LIMIT
      → RESULT_LIMIT < length (text_of ls) + line_length x → RESULT_LIMIT < length (text_of ms) + line_length y → Compared ls ms x y → ls ≡ ms
  one_length ls ms x y right right' within within' beyond beyond' (same es rest) = es
  one_length ls ms x y right right' within within' beyond beyond' (shorter r more es line) = absurd (never_within ls ms x r more (text_of more ++ y) beyond right' within' es line)
  one_length ls ms x y right right' within within' beyond beyond' (longer r more es line) = absurd (never_within ms ls y r more (text_of more ++ x) beyond' right within es line)

  compared_lines : {file : Text} (ls ms : List Record) (x y : Text) → BeginsWithRightLines c file ls x → BeginsWithRightLines c file ms y → Compared ls ms x y
  compared_lines ls ms x y first second = compared ls ms x y (spelled_lines first.right) (spelled_lines second.right) (sym first.text ∙ second.text)

  -- the lines of a valid file are all of it
  all_lines : {file : Text} (valid : IsValidFile c file) → BeginsWithRightLines c file valid.records []
  all_lines valid = record { text = valid.text ∙ sym (append-nil (text_of valid.records)); right = valid.valid.lines }

  pub file_once : (file : Text) (fault other : ResultFault) → FileRefused c file fault → FileRefused c file other → fault ≡ other
  file_once file fault other (at_line ls x reason begins within refused fault_is) (at_line ms y reason' begins' within' refused' other_is) =
      fault_is ∙ lines_once ls ms x y reason reason' begins.right begins'.right refused refused' (compared_lines ls ms x y begins begins') ∙ sym other_is
  file_once file fault other (at_line ls x reason begins within refused fault_is) (too_long ms y begins' short beyond other_is) =
      absurd (never_both ls ms x y reason begins.right begins'.right refused within beyond (compared_lines ls ms x y begins begins'))
  file_once file fault other (too_long ls x begins short beyond fault_is) (at_line ms y reason begins' within refused other_is) =
      absurd (never_both ms ls y x reason begins'.right begins.right refused within beyond (compared_lines ms ls y x begins' begins))
  file_once file fault other (too_long ls x begins short beyond fault_is) (too_long ms y begins' short' beyond' other_is) =
      let es = one_length ls ms x y begins.right begins'.right short short' beyond beyond' (compared_lines ls ms x y begins begins') in
      fault_is ∙ (λ i. record { kind = why.TooLong; line = length (es i) + 1 }) ∙ sym other_is

  -- ---- valid files

  ended : (before : List Record) → end_lines (before ++ End ∷ []) ≡ 0 → ⊥
  ended before none =
      let one : ◌≡◌ {A = ℕ} (cond (is_end End) 1 0) 1 = refl in
      omega (arith, none, sum_by-append (λ r. cond (is_end r) 1 0) before (End ∷ []))

  empty_rest : (ls : List Record) (x : Text) (reason : ResultKind) → IsValid c ls → x ≡ [] → RestRefused c ls x reason → ⊥
  empty_rest ls x reason valid nothing (no_line early is_order) = ended valid.before (ap end_lines (sym valid.ended) ∙ early.unended)
  empty_rest ls x reason valid nothing (no_record unreadable is_syntax) = unreadable.some nothing
  empty_rest ls x reason valid nothing (misplaced r begins out is_order) = record_stands begins nothing
  empty_rest ls x reason valid nothing (wrong r begins there) = record_stands begins nothing

  line_not_valid : (ls records : List Record) (x : Text) (reason : ResultKind) → AreRightLines c ls → IsValid c records → RestRefused c ls x reason → Compared ls records x [] → ⊥
  line_not_valid ls records x reason right valid refused (same es rest) = empty_rest ls x reason (subst (IsValid c) (sym es) valid) rest refused
  line_not_valid ls records x reason right valid refused (shorter r more es line) = never_more reason r more (text_of more ++ []) refused valid.lines es line
  line_not_valid ls records x reason right valid refused (longer r more es line) = empty_line (spelling r) (text_of more ++ x) line

  length_not_valid : (ls records : List Record) (x : Text) → AreRightLines c ls → IsValid c records → length (text_of ls) ≤ RESULT_LIMIT → length (text_of records) ≤ RESULT_LIMIT → RESULT_LIMIT < length (text_of ls) + line_length x
      → Compared ls records x [] → ⊥
  length_not_valid ls records x right valid within short beyond (same es rest) = omega (arith, within, beyond, ap line_length rest)
  length_not_valid ls records x right valid within short beyond (shorter r more es line) = never_within ls records x r more (text_of more ++ []) beyond valid.lines short es line
  length_not_valid ls records x right valid within short beyond (longer r more es line) = empty_line (spelling r) (text_of more ++ x) line

  pub file_wrong : (file : Text) (fault : ResultFault) → FileRefused c file fault → ¬ IsValidFile c file
  file_wrong file fault (at_line ls x reason begins within refused fault_is) valid = line_not_valid ls valid.records x reason begins.right valid.valid refused (compared_lines ls valid.records x [] begins (all_lines valid))
  file_wrong file fault (too_long ls x begins within beyond fault_is) valid =
      length_not_valid ls valid.records x begins.right valid.valid within (omega (arith, valid.short, ap length valid.text)) beyond (compared_lines ls valid.records x [] begins (all_lines valid))

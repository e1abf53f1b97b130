-- Waiting patterns are kept, up to the first that splits no class.
use Rattle.std.proofs.Common.{◌≡◌, ◌∙◌, ℕ, suc, ◌+◌, ◌<◌, ◌≤◌, Bool, List, [], ◌∷◌, ◌++◌, map, length, length-append, length-take, take, get_or, refl, sym, ap, subst, append_assoc, arith}
use Rattle.std.specs.Prelude.{All, drop, unwrap_or}
use Rattle.std.specs.List.{slice_get}
use Rattle.std.proofs.lemmas.List.{length-map, map-id, map-append, take-map, get_or-map, get_or-take, take_all, take-append-drop, append-nil}
use Rattle.std.proofs.Math.Seq.{drop-cons, take-take}
use Rattle.net_model.specs.Circuit.{Circuit}
use Rattle.net_model.specs.PatternRows.{IsTableOf, SplitsClass}
use Rattle.kept_vectors.specs.Kept.{KeepsRun}
use Rattle.kept_vectors.specs.Keeper.{Keeper, keeper_with, IsKeeper}
use Rattle.kept_vectors.proofs.KeepLemmas.{keeper_after, whole_after, leads_rise}
use Rattle.member_marks.proofs.MarkLemmas.{given_risen}
use Rattle.result_records.specs.declared.record.Budgets.{Budgets}
use Rattle.result_records.specs.declared.record.Record.{Record}
use Rattle.result_records.specs.declared.record.Record.TheVariants.{Pattern, End}
use Rattle.result_file.specs.declared.fault.ResultKind.TheVariants as why
use Rattle.text_fields.specs.Fields.{Text}
use Rattle.result_records.specs.Spelling.{spelling, text_of}
use Rattle.result_records.specs.Marks.{pattern_of, evidence_of, patterns_in, is_class, is_member, is_end, class_lines}
use Rattle.result_file.specs.Summary.{is_equal, is_open}
use Rattle.result_file.specs.Lines.{budgets_of, no_budgets}
use Rattle.result_file.specs.Valid.{AreRightLines}
use Rattle.result_file.specs.Refusal.{line_length}
use Rattle.result_file.specs.Refusal.RestRefused.{wrong}
use Rattle.result_file.specs.Refusal.FileRefused.{at_line}
use Rattle.result_file.proofs.FirstLine.{ended_length}
use Rattle.result_records.proofs.RecordLists.{count_kept, read_kept, read_more, text-append}
use Rattle.result_file.proofs.RightLines.{right_more}
use Rattle.dia_check.specs.declared.progress.Progress.{Progress}
use Rattle.dia_check.specs.declared.checker.Checker.{Checker}
use Rattle.dia_check.specs.Progress.{IsProgress}
use Rattle.dia_check.specs.Checker.{IsCheckOf, IsRefusedText, record_line}
use Rattle.dia_check.proofs.ProgressLemmas.{open_in_place}
use Rattle.dia_check.proofs.CheckLemmas.{fault_behind, nothing_waits}

-- Patterns after records, each of which splits a class of those before it.
patterns_with : (seen : List Record) (vectors : List (List Bool)) → patterns_in (seen ++ map Pattern vectors) ≡ patterns_in seen ++ vectors
patterns_with seen vectors = read_more Pattern seen pattern_of (λ v. v) (λ v. refl) vectors ∙ ap (λ (vs : List (List Bool)). patterns_in seen ++ vs) (map-id vectors)

module _ {c : Circuit} {seen : List Record} (lines : AreRightLines c seen) (two : 2 ≤ length seen) (no_class : class_lines seen ≡ 0) where
  pub right_run : (vectors : List (List Bool)) → All (λ v. length v ≡ c.sources) vectors → ((k : ℕ) → k < length vectors → SplitsClass c (patterns_in seen ++ take k vectors) (get_or vectors k [])) → AreRightLines c (seen ++ map Pattern vectors)
  right_run vectors widths splits = right_more (map Pattern vectors) lines (λ k h.
      let below : k < length vectors = omega (arith, length-map vectors Pattern) in
      let before = take k vectors in
      let one = splits k below in
      rw (take-map Pattern k vectors, get_or-map Pattern vectors k [] End below)
      (record {
        spelled = tt;
        right = record {
          t = one.t;
          table = rw (patterns_with seen before) one.table;
          place = (omega (arith, length-append seen (map Pattern before), two), count_kept Pattern seen is_class (λ v. refl) before ∙ no_class);
          content = record { width = widths k [] below; splits = rw (patterns_with seen before) one };
        };
      }))

  progress_run : {p : Progress} → IsProgress seen p → (vectors : List (List Bool)) → IsProgress (seen ++ map Pattern vectors) (record p { lines = p.lines + length vectors })
  progress_run {p} is vectors =
      let going = open_in_place is (record { class_of = []; births = []; patterns = 0 }) (Pattern []) (two, no_class) in
      record {
        lines = omega (arith, is.lines, length-append seen (map Pattern vectors), length-map vectors Pattern);
        budgets = is.budgets ∙ sym (ap (λ (bs : List Budgets). unwrap_or (slice_get bs 0) no_budgets) (read_kept Pattern seen budgets_of (λ v. refl) vectors));
        classes = is.classes ∙ sym (count_kept Pattern seen is_class (λ v. refl) vectors);
        members = is.members ∙ sym (count_kept Pattern seen is_member (λ v. refl) vectors);
        equal = is.equal ∙ sym (count_kept Pattern seen is_equal (λ v. refl) vectors);
        spent = is.spent ∙ sym (count_kept Pattern seen is_open (λ v. refl) vectors);
        few_equal = is.few_equal;
        few_spent = is.few_spent;
        early = λ few. absurd (omega (arith, few, two, length-append seen (map Pattern vectors)));
        limits = is.limits;
        unended = λ e. count_kept Pattern seen is_end (λ v. refl) vectors ∙ is.unended going;
        ended = λ e. absurd (cc);
      }

taken_twice : (j n : ℕ) (vectors : List (List Bool)) → j < n → take j (take n vectors) ≡ take j vectors
taken_twice j n vectors low = take-take j n vectors (omega arith)

module _ {c : Circuit} {text : Text} {k : Checker} (is : IsCheckOf c text k) (some : 0 < length k.waiting.items) (count : ℕ) (keeper : Keeper) (run : KeepsRun k.keeper.circuit k.waiting.items count k.keeper.kept keeper.kept) where
  abbrev waiting : List (List Bool)
  waiting = k.waiting.items

  abbrev kept : List (List Bool)
  kept = take count waiting

  abbrev seen : List Record
  seen = is.seen ++ map Pattern kept

  runs : KeepsRun c waiting count k.keeper.kept keeper.kept
  runs = subst (λ (x : Circuit). KeepsRun x waiting count k.keeper.kept keeper.kept) is.is.circuit run

  kept_count : length kept ≡ count
  kept_count = omega (arith, length-take count waiting, runs.within)

  kept_widths : All (λ v. length v ≡ c.sources) kept
  kept_widths j d below = rw (get_or-take count waiting j d (omega (arith, below, kept_count))) (is.waiting.widths j d (omega (arith, below, kept_count, runs.within)))

  kept_splits : (j : ℕ) → j < length kept → SplitsClass c (patterns_in is.seen ++ take j kept) (get_or kept j [])
  kept_splits j below =
      let low : j < count = omega (arith, below, kept_count) in
      rw (get_or-take count waiting j [] low, taken_twice j count waiting low, sym is.is.patterns) (runs.splits j low)

  pub keeper_then : IsKeeper (keeper_with c keeper.kept)
  keeper_then = keeper_after c kept k.keeper.kept keeper.kept is.is.keeper kept_widths runs.keeps

  lines_then : AreRightLines c seen
  lines_then = right_run is.is.lines (is.waiting.place some).0 (is.waiting.place some).1 kept kept_widths kept_splits

  patterns_then : keeper.kept.vectors ≡ patterns_in seen
  patterns_then = runs.kept ∙ ap (λ (vs : List (List Bool)). vs ++ kept) is.is.patterns ∙ sym (patterns_with is.seen kept)

  no_class_then : class_lines seen ≡ 0
  no_class_then = count_kept Pattern is.seen is_class (λ v. refl) kept ∙ (is.waiting.place some).1

  two_then : 2 ≤ length seen
  two_then = omega (arith, length-append is.seen (map Pattern kept), (is.waiting.place some).0)

  -- All of them are kept.
  pub run_taken : count ≡ length waiting → (new : Checker) → keeper.circuit ≡ k.keeper.circuit → new.keeper ≡ keeper → new.marks ≡ k.marks → new.from ≡ 0 → new.progress ≡ record k.progress { lines = k.progress.lines + count } → new.evidence ≡ k.evidence
      → new.waiting.items ≡ [] → IsCheckOf c text new
  run_taken whole new same keeper_is marks_is from_is progress_is evidence_is empty =
      let all : kept ≡ waiting = take_all count waiting (omega (arith, whole)) in
      let finer = whole_after c is.is.keeper.circuit kept k.keeper.kept keeper.kept is.is.keeper.whole runs.keeps in
      let marks = given_risen (record { numbers = finer.1.numbers; rise = leads_rise finer.0 finer.1 }) is.is.marks in
      record {
        seen = seen;
        is = record {
          lines = lines_then;
          circuit = rw keeper_is (same ∙ is.is.circuit);
          keeper = rw keeper_is keeper_then;
          patterns = rw keeper_is patterns_then;
          marks = rw (keeper_is, marks_is, read_kept Pattern is.seen evidence_of (λ v. refl) kept) marks;
          begun = λ n below. absurd (omega (arith, below, from_is));
          complete = λ more. absurd (omega (arith, more, no_class_then));
          progress = let P : ℕ → Type 0 = λ n. IsProgress seen (record k.progress { lines = k.progress.lines + n }) in rw progress_is (subst P kept_count (progress_run is.is.lines (is.waiting.place some).0 (is.waiting.place some).1 is.is.progress kept));
          evidence = rw evidence_is is.is.evidence;
          few = is.is.few;
        };
        waiting = nothing_waits c seen new.waiting.items empty;
        text_is = is.text_is ∙ ap (λ (w : List (List Bool)). text_of (is.seen ++ map Pattern w)) (sym all) ∙ sym (ap text_of (append-nil seen)) ∙ sym (ap (λ (w : List (List Bool)). text_of (seen ++ map Pattern w)) empty);
        short = is.short;
      }

  -- One of them splits no class.
  pub run_refused : count < length waiting → ¬ SplitsClass k.keeper.circuit keeper.kept.vectors (get_or waiting count []) → IsRefusedText c text (fault_behind why.Pattern (k.progress.lines + count))
  run_refused below never =
      let v = get_or waiting count [] in
      let later = map Pattern (drop (suc count) waiting) in
      let parts : waiting ≡ kept ++ v ∷ drop (suc count) waiting = sym (take-append-drop count waiting) ∙ ap (λ (vs : List (List Bool)). kept ++ vs) (drop-cons waiting count [] below) in
      let whole : text ≡ text_of seen ++ (record_line (Pattern v) ++ text_of later) =
      is.text_is
      ∙ ap (λ (w : List (List Bool)). text_of (is.seen ++ map Pattern w)) parts
      ∙ ap (λ (rs : List Record). text_of (is.seen ++ rs)) (map-append Pattern kept (v ∷ drop (suc count) waiting))
      ∙ sym (ap text_of (append_assoc is.seen (map Pattern kept) (Pattern v ∷ later)))
      ∙ text-append seen (Pattern v ∷ later) in
      let table : IsTableOf c (patterns_in seen) keeper.kept.table = rw patterns_then at keeper_then.table in
      let one = is.waiting.lines count [] below in
      record {
        refused = λ more.
            let rest = spelling (Pattern v) ++ 10 ∷ (text_of later ++ more) in
            let file : text ++ more ≡ text_of seen ++ rest =
            ap (λ (t : Text). t ++ more) whole
            ∙ append_assoc (text_of seen) (record_line (Pattern v) ++ text_of later) more
            ∙ ap (λ (t : Text). text_of seen ++ t) (append_assoc (record_line (Pattern v)) (text_of later) more ∙ append_assoc (spelling (Pattern v)) (10 ∷ []) (text_of later ++ more)) in
            let long : line_length rest ≡ length (spelling (Pattern v)) + 1 = ended_length (spelling (Pattern v)) (text_of later ++ more) one in
            at_line seen rest why.Pattern (record { text = file; right = lines_then })
            (omega (arith, long, is.short, ap length whole, length-append (text_of seen) (record_line (Pattern v) ++ text_of later), length-append (record_line (Pattern v)) (text_of later), length-append (spelling (Pattern v)) (10 ∷ [])))
            (wrong (Pattern v) (record { spelled = tt; more = text_of later ++ more; text_is = refl })
            (record { table = keeper.kept.table; table_is = table; place = (two_then, no_class_then); refused = (λ right. unsplit (rw (sym patterns_then) at right.splits), refl) }))
            (λ i. record { kind = why.Pattern; line = lines_are i + 1 });
      }
    where
      unsplit : ¬ SplitsClass c keeper.kept.vectors (get_or waiting count [])
      unsplit = subst (λ (x : Circuit). ¬ SplitsClass x keeper.kept.vectors (get_or waiting count [])) is.is.circuit never

      lines_are : k.progress.lines + count ≡ length seen
      lines_are = omega (arith, is.is.progress.lines, length-append is.seen (map Pattern kept), length-map kept Pattern, kept_count)

-- The plans of `gen` and of `check` call for and may leave exactly what is written out.
use Rattle.std.proofs.Common.{◌≡◌, List, [], ◌∷◌, refl, sym, ap, subst, ◌∙◌, inl, inr}
use Rattle.diag_shelf.specs.World.{Files}
use Rattle.result_records.specs.declared.record.Budgets.{Budgets}
use Rattle.result_file.specs.Valid.{IsValidFile}
use Rattle.text_fields.specs.Fields.{Text}
use Rattle.run_steps.specs.Ending.{Ending, done, refused}
use Rattle.run_steps.specs.Outcome.{Outcome, said, saved, IsCut, IsCutText, IsPartOf}
use Rattle.run_steps.specs.Plan.{refused_file, accepted_file, CallsFor, MayLeave}
use Rattle.result_commands.specs.Plans.{gen_plan, check_plan}
use Rattle.result_commands.specs.WrittenOut as out
use Rattle.result_commands.specs.Texts.{summary_text}

-- ---- what is said, and no file made

none_of : (made : List (Text × Text)) → IsCut made [] → made ≡ []
none_of [] cut = refl
none_of (m ∷ []) cut = absurd cut
none_of (m ∷ n ∷ made) cut = absurd cut

cut_none : (made : List (Text × Text)) → made ≡ [] → IsCut made []
cut_none made is = subst (λ (m : List (Text × Text)). IsCut m []) (sym is) tt

pub part_said : {ending : Ending} {console text : Text} {made : List (Text × Text)} → made ≡ [] → IsCutText text console → IsPartOf (said ending console) made text
part_said {ending} {console} {text} {made} none cut = record { files = cut_none made none; console = cut; order = λ some. none }

-- ---- gen

module _ {files : Files} {bench result : Text} {budgets : Budgets} where
  pub gen_called : {o : Outcome} → CallsFor files (gen_plan bench result budgets) o → out.GenCallsFor files bench result budgets o
  gen_called {o} (refused_file bytes console held refused is) = out.gen_refused bytes console held refused is
  gen_called {o} (accepted_file bytes design held accepted made) = out.gen_made bytes design made.file made.made.summary held accepted made.made.made (made.outcome ∙ ap (saved ((result, made.file) ∷ [])) made.made.text_is)

  pub gen_calls : {o : Outcome} → out.GenCallsFor files bench result budgets o → CallsFor files (gen_plan bench result budgets) o
  gen_calls {o} (out.gen_refused bytes console held refused is) = refused_file bytes console held refused is
  gen_calls {o} (out.gen_made bytes design file summary held accepted made is) = accepted_file bytes design held accepted (record { file = file; text = summary_text summary; made = record { summary = summary; made = made; text_is = refl }; outcome = is })

  pub gen_left : {made : List (Text × Text)} {text : Text} → MayLeave files (gen_plan bench result budgets) made text → out.GenMayLeave files bench result budgets made text
  gen_left {made} {text} (refused_file bytes console held refused part) = out.gen_refusal_begun bytes console held refused (none_of made part.files) part.console
  gen_left {made} {text} (accepted_file bytes design held accepted (inl left)) =
      let m = left.1 in
      out.gen_file_begun bytes design m.file m.made.summary held accepted m.made.made (subst (λ (o : Outcome). IsPartOf o made text) (m.outcome ∙ ap (saved ((result, m.file) ∷ [])) m.made.text_is) left.2)
  gen_left {made} {text} (accepted_file bytes design held accepted (inr cut)) = out.gen_cut bytes design cut.part held accepted cut.lines cut.files cut.silent

  pub gen_leaves : {made : List (Text × Text)} {text : Text} → out.GenMayLeave files bench result budgets made text → MayLeave files (gen_plan bench result budgets) made text
  gen_leaves {made} {text} (out.gen_refusal_begun bytes console held refused none cut) = refused_file bytes console held refused (part_said none cut)
  gen_leaves {made} {text} (out.gen_file_begun bytes design file summary held accepted is part) =
      accepted_file bytes design held accepted (inl (_, record { file = file; text = summary_text summary; made = record { summary = summary; made = is; text_is = refl }; outcome = refl }, part))
  gen_leaves {made} {text} (out.gen_cut bytes design part held accepted lines cut silent) =
      accepted_file bytes design held accepted (inr (record { part = part; lines = lines; files = cut; silent = silent }))

-- ---- check

-- a beginning of what is said is a part of it
said_begun : {o : Outcome} {ending : Ending} {console : Text} {made : List (Text × Text)} {text : Text} → o ≡ said ending console → made ≡ [] → IsCutText text o.console → IsPartOf (said ending console) made text
said_begun {o} {ending} {console} {made} {text} is none cut = part_said none (subst (λ (p : Outcome). IsCutText text p.console) is cut)

module _ {files : Files} {bench result : Text} where
  pub check_called : {o : Outcome} → CallsFor files (check_plan bench result) o → out.CheckCallsFor files bench result o
  check_called {o} (refused_file bytes console held refused is) = out.check_netlist_refused bytes console held refused is
  check_called {o} (accepted_file bytes design held accepted (refused_file file console there wrong is)) = out.check_result_refused bytes file console design held accepted there wrong is
  check_called {o} (accepted_file bytes design held accepted (accepted_file file read there found says)) =
      let text = says.1 in
      out.check_accepted bytes file design text.records held accepted there (subst (IsValidFile design.circuit) (sym found.same) found.valid) (found.same ∙ text.spelled) text.valid (says.2 ∙ ap (said done) text.text_is)

  pub check_calls : {o : Outcome} → out.CheckCallsFor files bench result o → CallsFor files (check_plan bench result) o
  check_calls {o} (out.check_netlist_refused bytes console held refused is) = refused_file bytes console held refused is
  check_calls {o} (out.check_result_refused bytes file console design held accepted there wrong is) = accepted_file bytes design held accepted (refused_file file console there wrong is)
  check_calls {o} (out.check_accepted bytes file design records held accepted there valid spelled right is) =
      accepted_file bytes design held accepted (accepted_file file file there (record { same = refl; valid = valid }) (_, record { records = records; spelled = spelled; valid = right; text_is = refl }, is))

  begun : {o : Outcome} {made : List (Text × Text)} {text : Text} → out.CheckCallsFor files bench result o → IsPartOf o made text → o.made ≡ [] → out.CheckMayLeave files bench result made text
  begun {o} {made} {text} called part none = record { o = o; called = called; none = none_of made (subst (IsCut made) none part.files); begun = part.console }

  pub check_left : {made : List (Text × Text)} {text : Text} → MayLeave files (check_plan bench result) made text → out.CheckMayLeave files bench result made text
  check_left {made} {text} (refused_file bytes console held refused part) = begun (check_called (refused_file bytes console held refused refl)) part refl
  check_left {made} {text} (accepted_file bytes design held accepted (refused_file file console there wrong part)) = begun (check_called (accepted_file bytes design held accepted (refused_file file console there wrong refl))) part refl
  check_left {made} {text} (accepted_file bytes design held accepted (accepted_file file read there found (inl left))) =
      begun (check_called (accepted_file bytes design held accepted (accepted_file file read there found left.1))) left.2 (ap (λ (o : Outcome). o.made) left.1.2)
  check_left {made} {text} (accepted_file bytes design held accepted (accepted_file file read there found (inr never))) = absurd never

  called_leaves : {o : Outcome} {made : List (Text × Text)} {text : Text} → out.CheckCallsFor files bench result o → made ≡ [] → IsCutText text o.console → MayLeave files (check_plan bench result) made text
  called_leaves {o} {made} {text} (out.check_netlist_refused bytes console held refused is) none cut = refused_file bytes console held refused (said_begun is none cut)
  called_leaves {o} {made} {text} (out.check_result_refused bytes file console design held accepted there wrong is) none cut =
      accepted_file bytes design held accepted (refused_file file console there wrong (said_begun is none cut))
  called_leaves {o} {made} {text} (out.check_accepted bytes file design records held accepted there valid spelled right is) none cut =
      accepted_file bytes design held accepted (accepted_file file file there (record { same = refl; valid = valid }) (inl (_, (_, record { records = records; spelled = spelled; valid = right; text_is = refl }, refl), said_begun is none cut)))

  pub check_leaves : {made : List (Text × Text)} {text : Text} → out.CheckMayLeave files bench result made text → MayLeave files (check_plan bench result) made text
  check_leaves {made} {text} left = called_leaves left.called left.none left.begun

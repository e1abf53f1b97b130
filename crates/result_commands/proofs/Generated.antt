-- The ends of plans that save a result.
use Rattle.std.proofs.Common.{◌≡◌, ℕ, List, [], ◌∷◌, ◌++◌, None, Ok, Err, IsTrue, refl, sym, subst, inl, inr}
use Rattle.diag_shelf.specs.declared.shelf.ShelfFault.{ShelfFault}
use Rattle.diag_shelf.specs.declared.shelf.ShelfFault.TheVariants.{Failed}
use Rattle.diag_shelf.specs.World.{State}
use Rattle.diag_shelf.specs.Calls.{IsWriteCall, Same, Creates, Writes, Told}
use Rattle.net_model.specs.declared.circuit.Design.{Design}
use Rattle.net_model.specs.Circuit.{Circuit}
use Rattle.result_records.specs.declared.record.Budgets.{Budgets}
use Rattle.dia_gen.specs.Made.{IsCutFile}
use Rattle.dia_gen.proofs.Written.{nothing_cut}
use Rattle.text_fields.specs.Fields.{Text}
use Rattle.run_steps.specs.Netlists.{IsDesign}
use Rattle.run_steps.specs.Outcome.{Outcome, said, saved, IsCut, IsPartOf}
use Rattle.result_commands.specs.Plans.{IsResultPart, makes_result, makes_both, IsGenerated, SavesResult}
use Rattle.run_steps.specs.Plans.{says}
use Rattle.run_steps.specs.Ending.{Ending, done, write_fault}
use Rattle.run_steps.specs.Ran.{IsAmong, Ends, Follows}
use Rattle.run_steps.proofs.Runs.{MayBreak, Fits, MadeAmong, cut_among, cut_after, part_after, ran, ends_unmade, ends_cut, ends_after, write_broken, not_done}

module _ {c : Circuit} {AreMade : Text → Text → Type 0} {before : List (Text × Text)} {result : Text} where
  -- a part of a whole result, and one that was cut short
  pub whole_result : {made : List (Text × Text)} {t : Text} (file text : Text) → AreMade file text → IsPartOf (saved (before ++ (result, file) ∷ []) text) made t → IsResultPart c AreMade before result made t
  whole_result {made} {t} file text is part = inl (saved (before ++ (result, file) ∷ []) text, record { file = file; text = text; made = is; outcome = refl }, part)

  pub cut_result : {made : List (Text × Text)} (part : Text) → IsCutFile c part → IsCut made (before ++ (result, part) ∷ []) → IsResultPart c AreMade before result made []
  cut_result {made} part lines files = inr (record { part = part; lines = lines; files = files; silent = refl })

  -- the files of a result and those before it have these names
  part_among : (names : List Text) → ((file : Text) → MadeAmong (before ++ (result, file) ∷ []) names) → (made : List (Text × Text)) (t : Text) → IsResultPart c AreMade before result made t → MadeAmong made names
  part_among names among made t (inl p) = cut_among made p.0.made names p.2.files (subst (λ (o : Outcome). MadeAmong o.made names) (sym p.1.outcome) (among p.1.file))
  part_among names among made t (inr cut) = cut_among made (before ++ (result, cut.part) ∷ []) names cut.files (among cut.part)

  -- a part of a result is also one after one more file
  pub result_after : (name bytes : Text) (made : List (Text × Text)) (t : Text) → IsResultPart c AreMade before result made t → IsResultPart c AreMade ((name, bytes) ∷ before) result ((name, bytes) ∷ made) t
  result_after name bytes made t (inl p) =
      let whole = before ++ (result, p.1.file) ∷ [] in
      inl (saved ((name, bytes) ∷ whole) p.1.text, record { file = p.1.file; text = p.1.text; made = p.1.made; outcome = refl }, part_after name bytes p.1.text whole made t (subst (λ (o : Outcome). IsPartOf o made t) p.1.outcome p.2))
  result_after name bytes made t (inr cut) = inr (record { part = cut.part; lines = cut.lines; files = cut_after name bytes made (before ++ (result, cut.part) ∷ []) cut.files; silent = cut.silent })

-- no file has been made
pub saves_none : {T : Type 0} {c : Circuit} {AreMade : Text → Text → Type 0} {before : List (Text × Text)} {result : Text} {fault : ShelfFault} {ending : Ending} {a b : State} → IsWriteCall {T = T} (Err fault) a b → Told a b Same → (IsTrue a.sure → fault ≡ Failed → ⊥) → ending ≡ Err (write_fault fault) → SavesResult c AreMade before result ending a b
saves_none {T} {c} {AreMade} {before} {result} {fault} {ending} {a} {b} call same never is = record {
  file = [];
  text = [];
  ends = ends_unmade (cut_result [] nothing_cut tt) call same never is;
  made = λ z. absurd (not_done (write_broken fault is) z);
}

-- the first file has been made, and a part of it written
pub saves_cut : {T U : Type 0} {x : T} {c : Circuit} {AreMade : Text → Text → Type 0} {before : List (Text × Text)} {name result : Text} {fault : ShelfFault} {ending : Ending} {a b d : State} → (IsTrue b.sure → IsTrue b.tells) → IsWriteCall (Ok x) a b → Told a b (Creates name) → IsWriteCall {T = U} (Err fault) b d
    → Told b d (λ u v. (part : List ℕ) × IsResultPart c AreMade before result ((name, part) ∷ []) [] × Writes part u v) → (IsTrue b.sure → fault ≡ Failed → b.world.written ≡ None) → ending ≡ Err (write_fault fault) → SavesResult c AreMade before result ending a d
saves_cut {T} {U} {x} {c} {AreMade} {before} {name} {result} {fault} {ending} {a} {b} {d} law made created wrote cut absent is = record {
  file = [];
  text = [];
  ends = ends_cut law made created wrote cut absent is;
  made = λ z. absurd (not_done (write_broken fault is) z);
}

-- a whole file has been made, and its text or a beginning of that printed
pub saves_whole : {T U : Type 0} {x : T} {y : U} {c : Circuit} {AreMade : Text → Text → Type 0} {result file : Text} (text : Text) {ending : Ending} {a b d e : State} → IsWriteCall (Ok x) a b → Told a b (Creates result) → IsWriteCall (Ok y) b d → AreMade file text → Told b d (Writes file)
    → Ends (said done text) (IsPartOf (said done text)) ending d e → SavesResult c AreMade [] result ending a e
saves_whole {T} {U} {x} {y} {c} {AreMade} {result} {file} text {ending} {a} {b} {d} {e} made created wrote is written says = record {
  file = file;
  text = text;
  ends = ends_after (λ told m t part. whole_result file text is (part_after result file text [] m t part)) made created wrote written says;
  made = λ z. is;
}

fits_result : {c : Circuit} {AreMade : Text → Text → Type 0} {endings : List Ending} {outputs : List Text} (before : List (Text × Text)) (result file text : Text) → MayBreak endings → IsAmong done endings → ((file : Text) → MadeAmong (before ++ (result, file) ∷ []) outputs) → Fits endings outputs (saved (before ++ (result, file) ∷ []) text) (IsResultPart c AreMade before result)
fits_result {c} {AreMade} {endings} {outputs} before result file text breaks zero among = record { decided = tt; among = zero; breaks = breaks; names = λ made t part. part_among outputs among made t part }

-- a result of the circuit has been saved
pub saved_follows : {c : Circuit} {AreMade : Text → Text → Type 0} {endings : List Ending} {outputs : List Text} {ending : Ending} {a b : State} (result : Text) → MayBreak endings → IsAmong done endings → IsAmong result outputs → SavesResult c AreMade [] result ending a b → Follows (makes_result result AreMade c) endings outputs ending a b
saved_follows {c} {AreMade} {endings} {outputs} {ending} {a} {b} result breaks zero among saves =
    ran (fits_result [] result saves.file saves.text breaks zero (λ file. (among, tt)))
    (λ z. record { file = saves.file; text = saves.text; made = saves.made z; outcome = refl })
    (λ made t part. part) saves.ends

-- a netlist has been saved, and a result of its circuit
pub both_follows : {budgets : Budgets} {design : Design} {endings : List Ending} {outputs : List Text} {ending : Ending} {a b : State} (bench netlist result : Text) → MayBreak endings → IsAmong done endings → ((file : Text) → MadeAmong ((bench, netlist) ∷ (result, file) ∷ []) outputs) → IsDesign netlist design
    → SavesResult design.circuit (IsGenerated design.circuit budgets) ((bench, netlist) ∷ []) result ending a b → Follows (makes_both bench netlist result budgets) endings outputs ending a b
both_follows {budgets} {design} {endings} {outputs} {ending} {a} {b} bench netlist result breaks zero among accepted saves =
    ran (fits_result ((bench, netlist) ∷ []) result saves.file saves.text breaks zero among)
    (λ z. (design, accepted, record { file = saves.file; text = saves.text; made = saves.made z; outcome = refl }))
    (λ made t part. elim part [
      | inl p ↦ inl (p.0, (design, accepted, p.1), p.2)
      | inr cut ↦ inr (design, accepted, cut)
    ]) saves.ends

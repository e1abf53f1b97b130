-- The text of a simulation is printed part after part.
use Rattle.std.proofs.Common.{◌≡◌, ◌≢◌, ◌∙◌, ℕ, ◌+◌, ◌-◌, ◌≤◌, ◌⊎◌, Bool, List, [], ◌∷◌, ◌++◌, length, length-append, take, drop, refl, sym, ap, subst, inl, inr, arith, append_assoc, zero-le}
use Rattle.std.specs.Prelude.{slice_range}
use Rattle.std.proofs.Math.Seq.{take-add, take-append-add}
use Rattle.std.proofs.lemmas.Bool.{cases_lt}
use Rattle.std.proofs.lemmas.List.{append-nil, take_all, take-append-le, take-append-drop, length-take-le}
use Rattle.diag_shelf.specs.World.{World, State}
use Rattle.diag_shelf.specs.Calls.{Rose}
use Rattle.net_model.specs.Circuit.{Circuit, IsCircuit}
use Rattle.sim_listing.specs.SimText.{IsSimTextFrom, IsSimText}
use Rattle.sim_listing.proofs.TextLemmas.{text_joined, no_text, one_text}
use Rattle.text_fields.specs.Fields.{Text}
use Rattle.run_steps.specs.Outcome.{IsCut, IsPartOf, Leaves, after_made, written_after, said}
use Rattle.run_steps.specs.Ending.{Ending, done, IsDecided}
use Rattle.run_steps.specs.Ran.{IsBroken, Ends}
use Rattle.run_steps.proofs.Runs.{stays_same, stays_then, not_done}

-- ---- texts that are printed one after another

-- A text was printed, or if the run breaks off a part of it.
abbrev Says : Text → Ending → State → State → Type 0
Says text ending a b = Ends (said done text) (IsPartOf (said done text)) ending a b

same_leaves : (u : World) → Leaves [] [] u u
same_leaves u = record { files = refl; written = refl; console = sym (append-nil u.console) }

says_nothing : (a : State) → Says [] done a a
says_nothing a = record {
  stays = stays_same a;
  reads = refl;
  answered = inl refl;
  write_fault = λ e. absurd (subst IsDecided e tt);
  writes_failed = λ h. absurd (omega (arith, h));
  whole = λ e told. same_leaves a.world;
  part = λ told. ([], [], record { files = tt; console = (0, zero-le, refl); order = λ n. absurd (n refl) }, same_leaves a.world);
  sure = λ s. refl;
  rest = λ told. refl;
}

still_written : {front : Text} {a b : State} → Says front done a b → b.write_faults ≡ a.write_faults
still_written {front} {a} {b} e = elim (cases_lt a.write_faults b.write_faults) [
  | inl rose ↦ absurd (not_done (e.writes_failed rose) refl)
  | inr not ↦ omega (arith, not, e.stays.writes)
]

leaves_joined : {front text : Text} {made : List (Text × Text)} {u v w : World} → Leaves [] front u v → Leaves made text v w → Leaves made (front ++ text) u w
leaves_joined {front} {text} {made} {u} {v} {w} one l = record {
  files = l.files ∙ ap (after_made made) one.files;
  written = l.written ∙ ap (written_after made) one.written;
  console = l.console ∙ ap (λ (x : Text). x ++ text) one.console ∙ append_assoc u.console front text;
}

none_made : (made : List (Text × Text)) → IsCut made [] → made ≡ []
none_made [] cut = refl
none_made (m ∷ []) cut = absurd cut
none_made (m ∷ k ∷ made) cut = absurd cut

part_behind : {back t : Text} {made : List (Text × Text)} (front : Text) → IsPartOf (said done back) made t → IsPartOf (said done (front ++ back)) made (front ++ t)
part_behind {back} {t} {made} front part =
    let cut = part.console in
    record {
      files = part.files;
      console = (length front + cut.0, omega (arith, cut.1, length-append front back), ap (λ (x : Text). front ++ x) cut.2 ∙ sym (take-append-add front back cut.0));
      order = λ some. none_made made part.files;
    }

longer_part : {text t : Text} {made : List (Text × Text)} (more : Text) → IsPartOf (said done text) made t → IsPartOf (said done (text ++ more)) made t
longer_part {text} {t} {made} more part =
    let cut = part.console in
    record {
      files = part.files;
      console = (cut.0, omega (arith, cut.1, length-append text more), cut.2 ∙ sym (take-append-le cut.0 text more cut.1));
      order = part.order;
    }

-- A whole text was printed, and then another.
says_then : {front back : Text} {ending : Ending} {a b d : State} → Says front done a b → Says back ending b d → Says (front ++ back) ending a d
says_then {front} {back} {ending} {a} {b} {d} one two = record {
  stays = stays_then one.stays two.stays;
  reads = two.reads ∙ one.reads;
  answered = two.answered;
  write_fault = λ e. subst (λ (n : ℕ). Rose n d.write_faults) (still_written one) (two.write_fault e);
  writes_failed = λ h. two.writes_failed (omega (arith, h, still_written one));
  whole = λ e told. leaves_joined (one.whole refl told) (two.whole e (one.stays.tells ∙ told));
  part = λ told.
      let l = two.part (one.stays.tells ∙ told) in
      (l.0, front ++ l.1, part_behind front l.2, leaves_joined (one.whole refl told) l.3);
  sure = λ s. two.sure (one.stays.sure ∙ s) ∙ still_written one;
  rest = λ told. two.rest (one.stays.tells ∙ told) ∙ one.rest told;
}

broken : {ending : Ending} → ending ≢ done → (ending ≡ done) ⊎ IsBroken ending → IsBroken ending
broken ne (inl z) = absurd (ne z)
broken ne (inr broke) = broke

-- A part of a text is a part of a longer one.
says_part : {text : Text} {ending : Ending} {a b : State} (more : Text) → ending ≢ done → Says text ending a b → Says (text ++ more) ending a b
says_part {text} {ending} {a} {b} more ne e = record {
  stays = e.stays;
  reads = e.reads;
  answered = inr (broken ne e.answered);
  write_fault = e.write_fault;
  writes_failed = e.writes_failed;
  whole = λ z. absurd (ne z);
  part = λ told.
      let l = e.part told in
      (l.0, l.1, longer_part more l.2, l.3);
  sure = e.sure;
  rest = e.rest;
}

-- ---- parts

-- The lines of the first `count` vectors were printed.
pub record ArePrinted (c : Circuit) (vectors : List (List Bool)) (count : ℕ) (a b : State) : Type 0 where
  pub within : count ≤ length vectors
  pub text : Text
  pub simulated : IsSimText c (take count vectors) text
  pub says : Ends (said done text) (IsPartOf (said done text)) done a b

-- The text of a simulation was printed, or a part of it.
abbrev pub PrintsText : Circuit → List (List Bool) → Ending → State → State → Type 0
PrintsText c vectors ending a b = (text : List ℕ) × IsSimText c vectors text × Ends (said done text) (IsPartOf (said done text)) ending a b

pub none_printed : (c : Circuit) (vectors : List (List Bool)) (a : State) → ArePrinted c vectors 0 a a
none_printed c vectors a = record { within = zero-le; text = []; simulated = no_text c 0; says = says_nothing a }

text_further : {c : Circuit} (vectors : List (List Bool)) {count end : ℕ} {text more : Text} → count ≤ end → end ≤ length vectors → IsSimText c (take count vectors) text → IsSimTextFrom c count (slice_range vectors count end) more → IsSimText c (take end vectors) (text ++ more)
text_further {c} vectors {count} {end} {text} {more} order within one two =
    let long : length (take count vectors) ≡ count = length-take-le count vectors (omega (arith, order, within)) in
    let first : count ≡ 0 + length (take count vectors) = omega (arith, long) in
    let end_is : count + (end - count) ≡ end = omega (arith, order) in
    let all : take count vectors ++ slice_range vectors count end ≡ take end vectors = sym (take-add count (end - count) vectors) ∙ ap (λ (n : ℕ). take n vectors) end_is in
    subst (λ (vs : List (List Bool)). IsSimText c vs (text ++ more)) all
    (text_joined one (subst (λ (n : ℕ). IsSimTextFrom c n (slice_range vectors count end) more) first two))

pub more_printed : {c : Circuit} {vectors : List (List Bool)} {count end : ℕ} {text : Text} {a b d : State} → count ≤ end → end ≤ length vectors → ArePrinted c vectors count a b → IsSimTextFrom c count (slice_range vectors count end) text → Ends (said done text) (IsPartOf (said done text)) done b d
    → ArePrinted c vectors end a d
more_printed {c} {vectors} {count} {end} {text} {a} {b} {d} order within so_far simulated says = record {
  within = within;
  text = so_far.text ++ text;
  simulated = text_further vectors order within so_far.simulated simulated;
  says = says_then so_far.says says;
}

-- The lines of all vectors were printed.
pub all_printed : {c : Circuit} {vectors : List (List Bool)} {count : ℕ} {a b : State} → length vectors ≤ count → ArePrinted c vectors count a b → PrintsText c vectors done a b
all_printed {c} {vectors} {count} {a} {b} all so_far = (so_far.text, subst (λ (vs : List (List Bool)). IsSimText c vs so_far.text) (take_all count vectors all) so_far.simulated, so_far.says)

-- The lines of some vectors were printed, and those of the next ones in part.
pub broken_off : {c : Circuit} {vectors : List (List Bool)} {count end : ℕ} {ending : Ending} {text : Text} {a b d : State} → IsCircuit c → count ≤ end → end ≤ length vectors → ending ≢ done → ArePrinted c vectors count a b → IsSimTextFrom c count (slice_range vectors count end) text
    → Ends (said done text) (IsPartOf (said done text)) ending b d → PrintsText c vectors ending a d
broken_off {c} {vectors} {count} {end} {ending} {text} {a} {b} {d} is order within ne so_far simulated says =
    let rest = one_text c is end (drop end vectors) in
    let long : length (take end vectors) ≡ end = length-take-le end vectors within in
    let first : end ≡ 0 + length (take end vectors) = omega (arith, long) in
    let joined : IsSimText c (take end vectors ++ drop end vectors) ((so_far.text ++ text) ++ rest.text) =
    text_joined (text_further vectors order within so_far.simulated simulated) (subst (λ (n : ℕ). IsSimTextFrom c n (drop end vectors) rest.text) first rest.is) in
    let whole : IsSimText c vectors ((so_far.text ++ text) ++ rest.text) = subst (λ (vs : List (List Bool)). IsSimText c vs ((so_far.text ++ text) ++ rest.text)) (take-append-drop end vectors) joined in (
      so_far.text ++ (text ++ rest.text),
      subst (IsSimText c vectors) (append_assoc so_far.text text rest.text) whole,
      says_then so_far.says (says_part rest.text ne says),
    )

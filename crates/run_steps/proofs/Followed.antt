-- A run follows its plan file by file.
use Rattle.std.proofs.Common.{◌≡◌, ℕ, ◌<◌, ◌⊎◌, List, [], Option, Some, None, Ok, Err, IsTrue, refl, sym, ap, subst, ◌∙◌, inl, inr, arith}
use Rattle.std.specs.Prelude.{IsSome}
use Rattle.std.specs.Result.{IsErrAnd}
use Rattle.std.specs.FinMap.{get}
use Rattle.diag_shelf.specs.declared.shelf.ShelfFault.{ShelfFault}
use Rattle.diag_shelf.specs.declared.shelf.ShelfFault.TheVariants.{Failed, NoMemory}
use Rattle.run_steps.specs.declared.ending.FileKind.{FileKind}
use Rattle.run_steps.specs.declared.ending.RunFault.{RunFault}
use Rattle.run_steps.specs.declared.ending.RunFault.TheVariants as run
use Rattle.run_steps.specs.Ending.{Ending, refused, read_failed, write_failed, no_memory, IsDecided, read_fault}
use Rattle.diag_shelf.specs.World.{Files, World, State}
use Rattle.diag_shelf.specs.Calls.{IsReadCall, SameFacts, OnlyReads, Told, Rose, read_of}
use Rattle.diag_shelf.proofs.Steps.{facts_same, facts_after_read, read_failed as failed_after}
use Rattle.text_fields.specs.Fields.{Text}
use Rattle.run_steps.specs.Limits.{limit_of}
use Rattle.run_steps.specs.Outcome.{Outcome, IsPartOf, said, IsUntouched}
use Rattle.run_steps.specs.Plan.{Plan, finish, judged, refused_file, accepted_file, CallsFor, MayLeave, AreHeld, LeavesRest}
use Rattle.run_steps.specs.Plans.{never_cut}
use Rattle.run_steps.specs.Ran.{IsAmong, Follows}
use Rattle.run_steps.specs.Steps.{HasOnlyRead, HasReadBytes, CouldNotRead, by_failure, by_memory, WasAccepted, WasRefused, IsLeftBehind, IsOver, by_refusal, by_reading, IsSaid, by_text, by_want}
use Rattle.run_steps.proofs.HandedOn.{handed_on}
use Rattle.run_steps.proofs.Runs.{MayBreak, cut_among, ran, leaves_moved, stays_same, stays_then, stays_facts, stays_read}

-- The endings allow a run to fail to read and to break off.
pub record MayRead (endings : List Ending) : Type 0 where
  pub failed : IsAmong read_failed endings
  pub breaks : MayBreak endings

untouched_read : {u v w : World} → OnlyReads u v → IsUntouched v w → IsUntouched u w
untouched_read r s = record { kept = record { files = s.kept.files ∙ r.files; written = s.kept.written ∙ r.written }; console = s.console ∙ r.console }

untouched : (u : World) → IsUntouched u u
untouched u = record { kept = record { files = refl; written = refl }; console = refl }

not_held : (o : Option Text) → o ≡ None → IsSome o → ⊥
not_held None none some = cc
not_held (Some x) none some = cc

-- `?` passes on why a run is over.
pub handed_follows : {plan : Plan} {endings : List Ending} {outputs : List Text} {why : RunFault} {a b : State} (ending : Ending) → IsErrAnd ending (λ x. x ≡ why) → Follows plan endings outputs (Err why) a b → Follows plan endings outputs ending a b
handed_follows {plan} {endings} {outputs} {why} {a} {b} ending is follows = subst (λ (e : Ending). Follows plan endings outputs e a b) (sym (handed_on ending is)) follows

-- ---- nothing is done

-- Memory was missing after the last read.
pub follows_nothing : {plan : Plan} {endings : List Ending} {outputs : List Text} (a : State) → MayBreak endings → Follows plan endings outputs no_memory a a
follows_nothing {plan} {endings} {outputs} a breaks = record {
  ends = breaks.memory;
  stays = stays_same a;
  causes = record {
    read_fault = λ e. absurd (cc);
    write_fault = λ e. absurd (cc);
    reads_failed = λ h. inr refl;
    writes_failed = λ h. inr refl;
  };
  done = λ told decided. absurd decided;
  unread = λ failed told. untouched a.world;
  broken_off = λ told broke. inl (untouched a.world);
  others = λ told name off. refl;
  sure = λ s held. record { reads = refl; writes = refl };
  rest = λ told decided. absurd decided;
}

-- ---- what was read before

-- In world `u` the plan `other` leads to what `plan` does in world `v`: what `plan` calls for, may leave, and leaves to
-- read.
pub record Leads (other plan : Plan) (u v : World) : Type 0 where
  pub calls : (o : Outcome) → CallsFor v.files plan o → CallsFor u.files other o
  pub leaves : (made : List (Text × List ℕ)) (text : List ℕ) → MayLeave v.files plan made text → MayLeave u.files other made text
  pub rest : (rest : Option Text) → LeavesRest v.files plan v.rest rest → LeavesRest u.files other u.rest rest

follows_after : {endings : List Ending} {outputs : List Text} {ending : Ending} {a b c : State} {other plan : Plan} → SameFacts a b → Told a b OnlyReads → Told a b (Leads other plan) → (IsTrue a.sure → AreHeld a.world.files other → AreHeld b.world.files plan)
    → Follows plan endings outputs ending b c → Follows other endings outputs ending a c
follows_after {endings} {outputs} {ending} {a} {b} {c} {other} {plan} facts read leads held r = record {
  ends = r.ends;
  stays = stays_then (stays_facts facts) r.stays;
  causes = record {
    read_fault = λ e. omega (arith, r.causes.read_fault e, facts.reads);
    write_fault = λ e. omega (arith, r.causes.write_fault e, facts.writes);
    reads_failed = λ h. r.causes.reads_failed (omega (arith, h, facts.reads));
    writes_failed = λ h. r.causes.writes_failed (omega (arith, h, facts.writes));
  };
  done = λ told decided.
      let d = r.done (facts.tells ∙ told) decided in
      (d.0, (leads told).calls d.0 d.1, d.2, leaves_moved (read told) d.3);
  rest = λ told decided. (leads told).rest c.world.rest (r.rest (facts.tells ∙ told) decided);
  unread = λ failed told.
      let later : (ending ≡ read_failed) ⊎ (b.read_faults < c.read_faults) = elim failed [ inl is ↦ inl is | inr rose ↦ inr (omega (arith, rose, facts.reads)) ] in
      untouched_read (read told) (r.unread later (facts.tells ∙ told));
  broken_off = λ told broke. elim (r.broken_off (facts.tells ∙ told) broke) [
    | inl same ↦ inl (untouched_read (read told) same)
    | inr l ↦ inr (l.0, l.1, (leads told).leaves l.0 l.1 l.2, leaves_moved (read told) l.3)
  ];
  others = λ told n off. r.others (facts.tells ∙ told) n off ∙ ap (λ (f : Files). get f n) (read told).files;
  sure = λ s all.
      let none = r.sure (facts.sure ∙ s) (held s all) in
      record { reads = none.reads ∙ facts.reads; writes = none.writes ∙ facts.writes };
}

-- ---- a file that ends the run

-- A failed read or missing memory is no ending that words and files decide, and no failed write.
undecided : {ending : Ending} → (ending ≡ read_failed) ⊎ (ending ≡ no_memory) → IsDecided ending → ⊥
undecided {ending} (inl e) decided = subst IsDecided e decided
undecided {ending} (inr e) decided = subst IsDecided e decided

unwritten : {ending : Ending} → (ending ≡ read_failed) ⊎ (ending ≡ no_memory) → ending ≡ write_failed → ⊥
unwritten {ending} (inl e) is = cc
unwritten {ending} (inr e) is = cc

-- The text that refuses a file is printed.
abbrev refusal_plan : FileKind → Text → Plan
refusal_plan kind console = finish (λ o. o ≡ said (refused kind) console) never_cut

-- A plan leads to a refusal.
leads_to_refusal : {a m : State} {name console : Text} {kind : FileKind} {X : Type 0} {Refused : Text → Text → Type 0} {Accepted : Text → X → Type 0} {next : X → Plan} → WasRefused name kind Refused console a m → Told a m (Leads (judged name kind X Refused Accepted next) (refusal_plan kind console))
leads_to_refusal {a} {m} {name} {console} {kind} {X} {Refused} {Accepted} {next} was told =
    let h = was.held told in
    record {
      calls = λ o is. refused_file h.0 console h.1 h.2 is;
      leaves = λ made text left. elim left [
        | inl part ↦ refused_file h.0 console h.1 h.2 (subst (λ (o : Outcome). IsPartOf o made text) part.1 part.2)
        | inr never ↦ absurd never
      ];
      rest = λ rest is. refused_file h.0 console h.1 h.2 (is ∙ was.left told);
    }

module _ {endings : List Ending} {outputs : List Text} {a b : State} {name : Text} {kind : FileKind} {X : Type 0} {Refused : Text → Text → Type 0} {Accepted : Text → X → Type 0} {next : X → Plan} (may : MayRead endings) where
  by_no_read : {ending : Ending} → HasOnlyRead a b → (IsTrue a.sure → IsSome (get a.world.files name) → b.read_faults ≡ a.read_faults) → (ending ≡ read_failed → Rose a.read_faults b.read_faults) → (ending ≡ read_failed) ⊎ (ending ≡ no_memory) → IsAmong ending endings
      → Follows (judged name kind X Refused Accepted next) endings outputs ending a b
  by_no_read {ending} only same rose is among = record {
    ends = among;
    stays = only.stays;
    causes = record {
      read_fault = rose;
      write_fault = λ e. absurd (unwritten is e);
      reads_failed = λ h. is;
      writes_failed = λ h. absurd (omega (arith, h, only.writes));
    };
    done = λ told decided. absurd (undecided is decided);
    rest = λ told decided. absurd (undecided is decided);
    unread = λ failed told. untouched_read (only.only told) (untouched b.world);
    broken_off = λ told broke. inl (untouched_read (only.only told) (untouched b.world));
    others = λ told n off. ap (λ (f : Files). get f n) (only.only told).files;
    sure = λ s held. record { reads = same s held.0; writes = only.writes };
  }

  follows_over : {why : RunFault} → IsAmong (refused kind) endings → IsOver name kind Refused why a b → Follows (judged name kind X Refused Accepted next) endings outputs (Err why) a b
  follows_over {why} among (by_refusal console middle was ends) =
      let said_so : Follows (refusal_plan kind console) endings outputs (Err why) middle b =
      ran (record { decided = tt; among = among; breaks = may.breaks; names = λ made t part. cut_among made [] outputs part.files tt }) (λ s. refl) (λ made t part. inl (said (refused kind) console, refl, part)) ends in
      follows_after was.facts was.only (leads_to_refusal was) (λ s all. tt) said_so
  follows_over {why} among (by_reading (by_failure is rose only absent)) =
      by_no_read only (λ s some. absurd (not_held (get a.world.files name) (absent s) some)) (λ _. rose) (inl (ap Err is)) (subst (λ (w : RunFault). IsAmong (Err w) endings) (sym is) may.failed)
  follows_over {why} among (by_reading (by_memory is only same)) =
      by_no_read only (λ s some. same s) (λ e. absurd (cc)) (inr (ap Err is)) (subst (λ (w : RunFault). IsAmong (Err w) endings) (sym is) may.breaks.memory)

  pub ends_at_file : {why : RunFault} → IsAmong (refused kind) endings → (ending : Ending) → IsErrAnd ending (λ x. x ≡ why) → IsOver name kind Refused why a b → Follows (judged name kind X Refused Accepted next) endings outputs ending a b
  ends_at_file {why} among ending is over = handed_follows ending is (follows_over among over)

-- ---- a file that is accepted

module _ {a b : State} {name : Text} {kind : FileKind} {X : Type 0} {Refused : Text → Text → Type 0} {Accepted : Text → X → Type 0} {next : X → Plan} {x : X} (was : WasAccepted name kind Accepted x a b) where
  -- A plan leads to what is done next.
  leads_on : Told a b (Leads (judged name kind X Refused Accepted next) (next x))
  leads_on told =
      let h = was.held told in
      let files = (was.only told).files in
      record {
        calls = λ o called. accepted_file h.0 x h.1 h.2 (subst (λ (f : Files). CallsFor f (next x) o) files called);
        leaves = λ made text may. accepted_file h.0 x h.1 h.2 (subst (λ (f : Files). MayLeave f (next x) made text) files may);
        rest = λ rest is. accepted_file h.0 x h.1 h.2 (subst (λ (r : Option Text). LeavesRest a.world.files (next x) r rest) (was.left told) (subst (λ (f : Files). LeavesRest f (next x) b.world.rest rest) files is));
      }

  pub goes_on : {endings : List Ending} {outputs : List Text} {ending : Ending} {c : State} → (IsTrue a.sure → IsTrue a.tells) → Follows (next x) endings outputs ending b c → Follows (judged name kind X Refused Accepted next) endings outputs ending a c
  goes_on {endings} {outputs} {ending} {c} law r =
      follows_after was.facts was.only leads_on (λ s all. let h = was.held (law s) in subst (λ (f : Files). AreHeld f (next x)) (sym (was.only (law s)).files) (all.1 h.0 x h.1 h.2)) r

  -- The file is accepted, and then memory was missing.
  pub no_memory_after : {endings : List Ending} {outputs : List Text} → MayRead endings → (ending : Ending) → IsErrAnd ending (λ why. why ≡ run.NoMemory) → (IsTrue a.sure → IsTrue a.tells) → Follows (judged name kind X Refused Accepted next) endings outputs ending a b
  no_memory_after {endings} {outputs} may ending is law = handed_follows ending is (goes_on law (follows_nothing b may.breaks))

-- ---- how a file ends the run

-- A call that read the file failed.
pub fault_read : {T : Type 0} {name : Text} {a b : State} (fault : ShelfFault) → IsReadCall {T = T} (Err fault) a b → Told a b OnlyReads → (IsTrue a.sure → fault ≡ Failed → get a.world.files name ≡ None) → CouldNotRead name (read_fault fault) a b
fault_read {T} {name} {a} {b} Failed call only absent = by_failure refl (call.failed refl) (record { stays = stays_read call; writes = call.writes; only = only }) (λ s. absent s refl)
fault_read {T} {name} {a} {b} NoMemory call only absent = by_memory refl (record { stays = stays_read call; writes = call.writes; only = only }) (λ s. call.memory s refl)

module _ {name : Text} {kind : FileKind} {Refused : Text → Text → Type 0} {a b : State} where
  -- Memory was missing to judge the file.
  pub over_memory : SameFacts a b → Told a b OnlyReads → IsOver name kind Refused run.NoMemory a b
  over_memory facts only = by_reading (by_memory refl (record { stays = stays_facts facts; writes = facts.writes; only = only }) (λ s. facts.reads))

  -- The file is refused, and the console says so, or memory was missing for that.
  pub over_said : {console : Option Text} {why : RunFault} {c : State} → SameFacts a b → Told a b OnlyReads → Told a b (IsLeftBehind kind name) → ((text : Text) → console ≡ Some text → IsTrue a.tells → (bytes : Text) × (get a.world.files name ≡ Some bytes) × Refused bytes text) → IsSaid console kind why b c → IsOver name kind Refused why a c
  over_said {console} {why} {c} facts only left held (by_text text is ends) = by_refusal text b (record { facts = facts; only = only; held = held text is; left = left }) ends
  over_said {console} {why} {c} facts only left held (by_want is same) = subst (λ (w : RunFault). IsOver name kind Refused w a c) (sym is) (subst (λ (s : State). IsOver name kind Refused run.NoMemory a s) (sym same) (over_memory facts only))

-- What was read is accepted.
pub was_accepted : {X : Type 0} {name bytes : Text} {kind : FileKind} {Accepted : Text → X → Type 0} {x : X} {a b : State} → HasReadBytes name kind bytes a b → ((all : Text) → bytes ≡ read_of (limit_of kind) all → Accepted all x) → WasAccepted name kind Accepted x a b
was_accepted {X} {name} {bytes} {kind} {Accepted} {x} {a} {b} read accepted = record { facts = read.facts; only = read.only; held = λ told. let r = read.held told in (r.0, r.1, accepted r.0 r.2); left = read.left }

-- A call that read a file leaves the facts.
pub facts_read : {T : Type 0} {x : T} {a b : State} → IsReadCall (Ok x) a b → SameFacts a b
facts_read {T} {x} {a} {b} call = facts_after_read x a a b (facts_same a) call

-- A call opened the file, and then another one failed.
pub read_after : {T U : Type 0} {x : U} {fault : ShelfFault} {a b c : State} → IsReadCall (Ok x) a b → IsReadCall {T = T} (Err fault) b c → IsReadCall {T = T} (Err fault) a c
read_after {T} {U} {x} {fault} {a} {b} {c} opened call = failed_after (Err fault) fault a b c (facts_read opened) call refl

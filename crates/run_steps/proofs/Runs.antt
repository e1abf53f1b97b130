-- What the last steps of a run do keeps what the whole run promises.
use Rattle.std.proofs.Common.{◌≡◌, ◌≢◌, ℕ, ◌≤◌, ◌⊎◌, List, [], ◌∷◌, ◌++◌, take, length, Option, Some, None, Result, Ok, Err, refl, sym, ap, subst, ◌∙◌, inl, inr, arith, zero-le, IsTrue}
use Rattle.std.specs.Result.{IsErrAnd}
use Rattle.std.specs.FinMap.{get, insert}
use Rattle.diag_shelf.specs.World.{Files, World, State, appended}
use Rattle.diag_shelf.specs.declared.shelf.ShelfFault.{ShelfFault}
use Rattle.diag_shelf.specs.declared.shelf.ShelfFault.TheVariants.{Failed, NoMemory}
use Rattle.run_steps.specs.declared.ending.RunFault.{RunFault}
use Rattle.run_steps.specs.Ending.{Ending, done, write_failed, no_memory, read_failed, IsDecided, write_fault}
use Rattle.std.proofs.Math.Nat.{le_refl}
use Rattle.std.proofs.lemmas.List.{append-nil, take_all}
use Rattle.diag_shelf.specs.Calls.{Told, OfSome, Same, SameFacts, OnlyReads, Creates, Writes, Prints, IsReadCall, IsWriteCall}
use Rattle.diag_shelf.proofs.FileMaps.{get_off_insert, insert_again, held_at_insert}
use Rattle.text_fields.specs.Fields.{Text}
use Rattle.run_steps.specs.Outcome.{Outcome, IsCut, IsPartOf, Leaves, after_made, written_after, said, saved}
use Rattle.run_steps.specs.Plan.{finish, IsLeftBy}
use Rattle.run_steps.specs.Ran.{IsAmong, IsBroken, Stays, Ends, Follows}
use Rattle.run_steps.proofs.HandedOn.{handed_on}

-- The name of each made file is one of `names`.
abbrev pub MadeAmong : List (Text × List ℕ) → List Text → Type 0
MadeAmong [] names = Unit {0}
MadeAmong (m ∷ made) names = IsAmong m.0 names × MadeAmong made names

-- The endings allow a run to break off.
pub record MayBreak (endings : List Ending) : Type 0 where
  pub write : IsAmong write_failed endings
  pub memory : IsAmong no_memory endings

-- A run may have the outcome if it ends in one of these ways and makes files of these names.
pub record Fits (endings : List Ending) (outputs : List Text) (o : Outcome) (Part : List (Text × List ℕ) → List ℕ → Type 0) : Type 0 where
  pub decided : IsDecided o.ending
  pub among : IsAmong o.ending endings
  pub breaks : MayBreak endings
  pub names : (made : List (Text × List ℕ)) (text : List ℕ) → Part made text → MadeAmong made outputs

-- ---- what stays

pub stays_same : (a : State) → Stays a a
stays_same a = record { tells = refl; sure = refl; reads = le_refl a.read_faults; writes = le_refl a.write_faults }

pub stays_then : {a b c : State} → Stays a b → Stays b c → Stays a c
stays_then s t = record { tells = t.tells ∙ s.tells; sure = t.sure ∙ s.sure; reads = omega (arith, s.reads, t.reads); writes = omega (arith, s.writes, t.writes) }

pub stays_facts : {a b : State} → SameFacts a b → Stays a b
stays_facts s = record { tells = s.tells; sure = s.sure; reads = omega (arith, s.reads); writes = omega (arith, s.writes) }

pub stays_read : {T : Type 0} {r : Result T ShelfFault} {a b : State} → IsReadCall r a b → Stays a b
stays_read call = record { tells = call.tells; sure = call.sure; reads = call.later; writes = omega (arith, call.writes) }

pub stays_written : {T : Type 0} {r : Result T ShelfFault} {a b : State} → IsWriteCall r a b → Stays a b
stays_written call = record { tells = call.tells; sure = call.sure; reads = omega (arith, call.reads); writes = call.later }

-- ---- files

apart : (name x : Text) (names : List Text) → IsAmong x names → ¬ IsAmong name names → name ≢ x
apart name x names among off e = off (subst (λ (n : Text). IsAmong n names) (sym e) among)

others_after : (made : List (Text × List ℕ)) (names : List Text) (files : Files) (name : Text) → MadeAmong made names → ¬ IsAmong name names → get (after_made made files) name ≡ get files name
others_after [] names files name among off = refl
others_after (m ∷ made) names files name among off =
    others_after made names (insert files m.0 m.1) name among.1 off ∙ get_off_insert files m.0 m.1 name (apart name m.0 names among.0 off)

-- The files of a part have names of the whole.
pub cut_among : (cut whole : List (Text × List ℕ)) (names : List Text) → IsCut cut whole → MadeAmong whole names → MadeAmong cut names
cut_among [] whole names cut among = tt
cut_among (c ∷ cs) [] names cut among = absurd cut
cut_among (c ∷ []) (m ∷ whole) names cut among = (subst (λ (n : Text). IsAmong n names) (sym cut.0) among.0, tt)
cut_among (c ∷ d ∷ cs) (m ∷ whole) names cut among =
    (subst (λ (n : Text × List ℕ). IsAmong n.0 names) (sym cut.0) among.0, cut_among (d ∷ cs) whole names cut.1 among.1)

pub leaves_moved : {made : List (Text × List ℕ)} {text : List ℕ} {u v w : World} → OnlyReads u v → Leaves made text v w → Leaves made text u w
leaves_moved {made} {text} only l = record { files = l.files ∙ ap (after_made made) only.files; written = l.written ∙ ap (written_after made) only.written; console = l.console ∙ ap (λ (x : List ℕ). x ++ text) only.console }

-- A new file has exactly the bytes that are written to it.
pub written_anew : (files : Files) (name bytes : List ℕ) → appended (Some name) (insert files name []) bytes ≡ insert files name bytes
written_anew files name [] = refl
written_anew files name (b ∷ bytes) =
    insert_again files name [] _ ∙ ap (λ (h : List ℕ). insert files name (h ++ b ∷ bytes)) (held_at_insert files name [])

made_anew : {name bytes : List ℕ} {a b c : World} → Creates name a b → Writes bytes b c → c.files ≡ insert a.files name bytes
made_anew {name} {bytes} {a} {b} {c} created w =
    w.files ∙ ap (λ (o : Option (List ℕ)). appended o b.files bytes) created.written ∙ ap (λ (f : Files). appended (Some name) f bytes) created.files ∙ written_anew a.files name bytes

leaves_after : {name bytes text : List ℕ} {made : List (Text × List ℕ)} {a b c d : World} → Creates name a b → Writes bytes b c → Leaves made text c d → Leaves ((name, bytes) ∷ made) text a d
leaves_after {name} {bytes} {text} {made} k w l = record {
  files = l.files ∙ ap (after_made made) (made_anew k w);
  written = l.written ∙ ap (written_after made) (w.written ∙ k.written);
  console = l.console ∙ ap (λ (s : List ℕ). s ++ text) (w.console ∙ k.console);
}

fault_broken : (fault : ShelfFault) → IsBroken (Err (write_fault fault))
fault_broken Failed = inl refl
fault_broken NoMemory = inr refl

-- A run breaks off after a fault of a write.
pub write_broken : (fault : ShelfFault) {ending : Ending} → ending ≡ Err (write_fault fault) → IsBroken ending
write_broken fault {ending} is = subst IsBroken (sym is) (fault_broken fault)

fault_failed : (fault : ShelfFault) → ◌≡◌ {A = Ending} (Err (write_fault fault)) write_failed → fault ≡ Failed
fault_failed Failed e = refl
fault_failed NoMemory e = absurd (cc)

failed_of : {fault : ShelfFault} {ending : Ending} → ending ≡ Err (write_fault fault) → ending ≡ write_failed → fault ≡ Failed
failed_of {fault} {ending} is e = fault_failed fault (sym is ∙ e)

-- The ending of a run that breaks off isn't one that words and files decide.
pub apart_from : {meant ending : Ending} → IsDecided meant → IsBroken ending → ending ≡ meant → ⊥
apart_from {meant} {ending} decided (inl a) z = subst IsDecided (sym z ∙ a) decided
apart_from {meant} {ending} decided (inr a) z = subst IsDecided (sym z ∙ a) decided

pub not_done : {ending : Ending} → IsBroken ending → ending ≡ done → ⊥
not_done {ending} broken z = apart_from {meant = done} tt broken z

still : {T : Type 0} (fault : ShelfFault) (a b : State) → IsWriteCall {T = T} (Err fault) a b → IsTrue a.sure → ¬ (fault ≡ Failed) → b.write_faults ≡ a.write_faults
still Failed a b call s n = absurd (n refl)
still NoMemory a b call s n = call.memory s refl

-- A text was printed.
pub ends_said : {T : Type 0} {x : T} {ending : Ending} {text : List ℕ} {a b : State} → IsDecided ending → IsWriteCall (Ok x) a b → Told a b (Prints text) → Ends (said ending text) (IsPartOf (said ending text)) ending a b
ends_said {T} {x} {ending} {text} {a} {b} decided call printed = record {
  stays = stays_written call;
  reads = call.reads;
  answered = inl refl;
  write_fault = λ e. absurd (subst IsDecided e decided);
  writes_failed = λ h. absurd (omega (arith, call.ok));
  whole = λ e told. let p = printed told in record { files = p.files; written = p.written; console = p.console };
  part = λ told.
      let p = printed told in
      ([], text, record { files = tt; console = (length text, le_refl (length text), sym (take_all (length text) text (le_refl (length text)))); order = λ _. refl }, record { files = p.files; written = p.written; console = p.console });
  sure = λ s. call.ok;
  rest = λ told. (printed told).rest;
}

-- A beginning of a text was printed.
pub ends_said_part : {T : Type 0} {fault : ShelfFault} {meant ending : Ending} {text : List ℕ} {a b : State} → IsDecided meant → IsWriteCall {T = T} (Err fault) a b → Told a b (OfSome Prints text) → (IsTrue a.sure → fault ≡ Failed → ⊥) → ending ≡ Err (write_fault fault) → Ends (said meant text) (IsPartOf (said meant text)) ending a b
ends_said_part {T} {fault} {meant} {ending} {text} {a} {b} decided call printed never is = record {
  stays = stays_written call;
  reads = call.reads;
  answered = inr (write_broken fault is);
  write_fault = λ e. call.failed (ap Err (failed_of is e));
  writes_failed = λ _. write_broken fault is;
  whole = λ e. absurd (apart_from decided (write_broken fault is) e);
  part = λ told.
      let p = printed told in
      ([], take p.0 text, record { files = tt; console = (p.0, p.1, refl); order = λ _. refl }, record { files = p.2.files; written = p.2.written; console = p.2.console });
  sure = λ s. still fault a b call s (never s);
  rest = λ told. (printed told).2.rest;
}

-- No file was made.
pub ends_unmade : {T : Type 0} {fault : ShelfFault} {whole : List (Text × List ℕ)} {text : List ℕ} {Part : List (Text × List ℕ) → List ℕ → Type 0} {ending : Ending} {a b : State} → Part [] [] → IsWriteCall {T = T} (Err fault) a b → Told a b Same → (IsTrue a.sure → fault ≡ Failed → ⊥) → ending ≡ Err (write_fault fault) → Ends (saved whole text) Part ending a b
ends_unmade {T} {fault} {whole} {text} {Part} {ending} {a} {b} none call same never is = record {
  stays = stays_written call;
  reads = call.reads;
  answered = inr (write_broken fault is);
  write_fault = λ e. call.failed (ap Err (failed_of is e));
  writes_failed = λ _. write_broken fault is;
  whole = λ e. absurd (not_done (write_broken fault is) e);
  part = λ told. let p = same told in ([], [], none, record { files = p.files; written = p.written; console = p.console ∙ sym (append-nil a.world.console) });
  sure = λ s. still fault a b call s (never s);
  rest = λ told. (same told).rest;
}

-- A new file was made, and a part of it was written.
pub ends_cut : {T U : Type 0} {x : T} {fault : ShelfFault} {name : Text} {whole : List (Text × List ℕ)} {text : List ℕ} {Part : List (Text × List ℕ) → List ℕ → Type 0} {ending : Ending} {a b c : State} → (IsTrue b.sure → IsTrue b.tells) → IsWriteCall (Ok x) a b → Told a b (Creates name) → IsWriteCall {T = U} (Err fault) b c → Told b c (λ u v. (part : List ℕ) × Part ((name, part) ∷ []) [] × Writes part u v) → (IsTrue b.sure → fault ≡ Failed → b.world.written ≡ None) → ending ≡ Err (write_fault fault) → Ends (saved whole text) Part ending a c
ends_cut {T} {U} {x} {fault} {name} {whole} {text} {Part} {ending} {a} {b} {c} law made created wrote cut absent is = record {
  stays = stays_then (stays_written made) (stays_written wrote);
  reads = wrote.reads ∙ made.reads;
  answered = inr (write_broken fault is);
  write_fault = λ e. omega (arith, wrote.failed (ap Err (failed_of is e)), made.ok);
  writes_failed = λ _. write_broken fault is;
  whole = λ e. absurd (not_done (write_broken fault is) e);
  part = λ told.
      let k = created told in
      let w = cut (made.tells ∙ told) in
      ((name, w.0) ∷ [], [], w.1, record { files = made_anew k w.2; written = w.2.written ∙ k.written; console = w.2.console ∙ k.console ∙ sym (append-nil a.world.console) });
  sure = λ s.
      let sb = made.sure ∙ s in
      let none : fault ≡ Failed → ⊥ = λ e. let w = absent sb e in let k = (created (sym made.tells ∙ law sb)).written in cc in
      still fault b c wrote sb none ∙ made.ok;
  rest = λ told. (cut (made.tells ∙ told)).2.rest ∙ (created told).rest;
}

-- A new file was made whole before the rest was done.
pub ends_after : {T U : Type 0} {x : T} {y : U} {name bytes text : List ℕ} {made : List (Text × List ℕ)} {Part Whole : List (Text × List ℕ) → List ℕ → Type 0} {ending : Ending} {a b c d : State} → (IsTrue a.tells → (m : List (Text × List ℕ)) (t : List ℕ) → Part m t → Whole ((name, bytes) ∷ m) t) → IsWriteCall (Ok x) a b → Told a b (Creates name) → IsWriteCall (Ok y) b c → Told b c (Writes bytes) → Ends (saved made text) Part ending c d → Ends (saved ((name, bytes) ∷ made) text) Whole ending a d
ends_after {T} {U} {x} {y} {name} {bytes} {text} {made} {Part} {Whole} {ending} {a} {b} {c} {d} parts create created write written e = record {
  stays = stays_then (stays_written create) (stays_then (stays_written write) e.stays);
  reads = e.reads ∙ write.reads ∙ create.reads;
  answered = e.answered;
  write_fault = λ h. omega (arith, e.write_fault h, write.ok, create.ok);
  writes_failed = λ h. e.writes_failed (omega (arith, write.ok, create.ok));
  whole = λ h told. leaves_after (created told) (written (create.tells ∙ told)) (e.whole h (write.tells ∙ create.tells ∙ told));
  part = λ told.
      let l = e.part (write.tells ∙ create.tells ∙ told) in
      ((name, bytes) ∷ l.0, l.1, parts told l.0 l.1 l.2, leaves_after (created told) (written (create.tells ∙ told)) l.3);
  sure = λ s. e.sure (write.sure ∙ create.sure ∙ s) ∙ write.ok ∙ create.ok;
  rest = λ told. e.rest (write.tells ∙ create.tells ∙ told) ∙ (written (create.tells ∙ told)).rest ∙ (created told).rest;
}

-- A whole file comes before what is cut.
pub cut_after : (name : Text) (bytes : List ℕ) (made whole : List (Text × List ℕ)) → IsCut made whole → IsCut ((name, bytes) ∷ made) ((name, bytes) ∷ whole)
cut_after name bytes [] whole cut = (refl, (length bytes, le_refl (length bytes), sym (take_all (length bytes) bytes (le_refl (length bytes)))))
cut_after name bytes (m ∷ made) whole cut = (refl, cut)

pub part_after : (name : Text) (bytes text : List ℕ) (whole made : List (Text × List ℕ)) (t : List ℕ) → IsPartOf (saved whole text) made t → IsPartOf (saved ((name, bytes) ∷ whole) text) ((name, bytes) ∷ made) t
part_after name bytes text whole made t part = record {
  files = cut_after name bytes made whole part.files;
  console = part.console;
  order = λ some. ap (λ (m : List (Text × List ℕ)). (name, bytes) ∷ m) (part.order some);
}

-- No file, or a file with a beginning of its bytes, is a part of what is to be made.
pub none_made : {whole : List (Text × List ℕ)} {text : List ℕ} → IsPartOf (saved whole text) [] []
none_made {whole} {text} = record { files = tt; console = (0, zero-le, refl); order = λ some. absurd (some refl) }

pub part_written : {name : Text} {bytes text : List ℕ} (n : ℕ) → n ≤ length bytes → IsPartOf (saved ((name, bytes) ∷ []) text) ((name, take n bytes) ∷ []) []
part_written {name} {bytes} {text} n h = record { files = (refl, (n, h, refl)); console = (0, zero-le, refl); order = λ some. absurd (some refl) }

-- ---- the whole run

meant_ending : {meant ending : Ending} → (ending ≡ meant) ⊎ IsBroken ending → IsDecided ending → ending ≡ meant
meant_ending {meant} {ending} (inl e) decided = e
meant_ending {meant} {ending} (inr broken) decided = absurd (apart_from decided broken refl)

-- The ending isn't that a read failed.
not_unread : {meant ending : Ending} → IsDecided meant → (ending ≡ meant) ⊎ IsBroken ending → ending ≡ read_failed → ⊥
not_unread {meant} {ending} decided (inl e) is = subst IsDecided (sym e ∙ is) decided
not_unread {meant} {ending} decided (inr (inl e)) is = cc
not_unread {meant} {ending} decided (inr (inr e)) is = cc

ended_among : {endings : List Ending} {meant ending : Ending} → MayBreak endings → IsAmong meant endings → (ending ≡ meant) ⊎ IsBroken ending → IsAmong ending endings
ended_among {endings} {meant} {ending} breaks among (inl e) = subst (λ (x : Ending). IsAmong x endings) (sym e) among
ended_among {endings} {meant} {ending} breaks among (inr (inl e)) = subst (λ (x : Ending). IsAmong x endings) (sym e) breaks.write
ended_among {endings} {meant} {ending} breaks among (inr (inr e)) = subst (λ (x : Ending). IsAmong x endings) (sym e) breaks.memory

-- What the last steps do is what the end of a plan promises.
pub ran : {Done : Outcome → Type 0} {Cut : List (Text × List ℕ) → List ℕ → Type 0} {endings : List Ending} {outputs : List Text} {o : Outcome} {Part : List (Text × List ℕ) → List ℕ → Type 0} {ending : Ending} {a b : State} → Fits endings outputs o Part → (ending ≡ o.ending → Done o)
    → ((made : List (Text × List ℕ)) (text : List ℕ) → Part made text → IsLeftBy Done Cut made text) → Ends o Part ending a b → Follows (finish Done Cut) endings outputs ending a b
ran {Done} {Cut} {endings} {outputs} {o} {Part} {ending} {a} {b} fits called may e = record {
  ends = ended_among fits.breaks fits.among e.answered;
  stays = e.stays;
  causes = record {
    read_fault = λ h. absurd (not_unread fits.decided e.answered h);
    write_fault = e.write_fault;
    reads_failed = λ h. absurd (omega (arith, e.reads));
    writes_failed = e.writes_failed;
  };
  done = λ told decided.
      let s = meant_ending e.answered decided in
      (o, called s, sym s, e.whole s told);
  rest = λ told decided. e.rest told;
  unread = λ failed told. elim failed [
    | inl is ↦ absurd (not_unread fits.decided e.answered is)
    | inr rose ↦ absurd (omega (arith, rose, e.reads))
  ];
  broken_off = λ told broke. let l = e.part told in inr (l.0, l.1, may l.0 l.1 l.2, l.3);
  others = λ told name off.
      let l = e.part told in
      ap (λ (f : Files). get f name) l.3.files ∙ others_after l.0 outputs a.world.files name (fits.names l.0 l.1 l.2) off;
  sure = λ s held. record { reads = e.reads; writes = e.sure s };
}

-- Memory was missing for a text, and nothing was printed.
pub ends_silent : {meant : Ending} {text : List ℕ} {a : State} → IsDecided meant → Ends (said meant text) (IsPartOf (said meant text)) no_memory a a
ends_silent {meant} {text} {a} decided = record {
  stays = stays_same a;
  reads = refl;
  answered = inr (inr refl);
  write_fault = λ e. absurd (cc);
  writes_failed = λ h. inr refl;
  whole = λ e. absurd (subst IsDecided (sym e) decided);
  part = λ told. ([], [], record { files = tt; console = (0, zero-le, refl); order = λ n. absurd (n refl) }, record { files = refl; written = refl; console = sym (append-nil a.world.console) });
  sure = λ s. refl;
  rest = λ told. refl;
}

-- `?` passes on why a run ends.
pub handed_ends : {o : Outcome} {Part : List (Text × List ℕ) → List ℕ → Type 0} {why : RunFault} {a b : State} (ending : Ending) → IsErrAnd ending (λ x. x ≡ why) → Ends o Part (Err why) a b → Ends o Part ending a b
handed_ends {o} {Part} {why} {a} {b} ending is ends = subst (λ (e : Ending). Ends o Part e a b) (sym (handed_on ending is)) ends

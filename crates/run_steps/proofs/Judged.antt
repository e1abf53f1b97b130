-- Files that are judged by the bytes that were read of them.
use Rattle.std.proofs.Common.{◌≡◌, ℕ, Option, Result, Some, Ok, Err}
use Rattle.std.specs.Borrow.{Bor}
use Rattle.diag_shelf.specs.World.{State}
use Rattle.diag_shelf.specs.Calls.{read_of}
use Rattle.text_fields.specs.Fields.{Text}
use Rattle.run_steps.specs.declared.ending.FileKind.{FileKind}
use Rattle.run_steps.specs.declared.ending.RunFault.{RunFault}
use Rattle.run_steps.specs.Steps.{WasAccepted, IsOver, by_refusal, by_reading, AcceptsFile, RefusesFile}

-- A file that is accepted by one rule is accepted by another that follows from it.
pub accepted_as : {X : Type 0} {name : Text} {kind : FileKind} {Accepted Other : Text → X → Type 0} {x : X} {a b : State} → ((bytes : Text) → Accepted bytes x → Other bytes x) → WasAccepted name kind Accepted x a b → WasAccepted name kind Other x a b
accepted_as {X} {name} {kind} {Accepted} {Other} {x} {a} {b} follows was = record { facts = was.facts; only = was.only; held = λ told. let h = was.held told in (h.0, h.1, follows h.0 h.2); left = was.left }

pub over_as : {name : Text} {kind : FileKind} {Refused Other : Text → Text → Type 0} {why : RunFault} {a b : State} → ((bytes console : Text) → Refused bytes console → Other bytes console) → IsOver name kind Refused why a b → IsOver name kind Other why a b
over_as {name} {kind} {Refused} {Other} {why} {a} {b} follows (by_refusal console middle was ends) = by_refusal console middle (record { facts = was.facts; only = was.only; held = λ told. let h = was.held told in (h.0, h.1, follows h.0 console h.2); left = was.left }) ends
over_as {name} {kind} {Refused} {Other} {why} {a} {b} follows (by_reading could) = by_reading could

-- A file is accepted by the rule that its judge keeps.
pub accepted_by : {X E : Type 0} {Answers : Bor Text → Result X E → Type 0} {limit : ℕ} {name : Text} {kind : FileKind} {Accepted : Text → X → Type 0} {x : X} {a b : State} → ((bytes : Bor Text) → Answers bytes (Ok x) → (all : Text) → bytes.now ≡ read_of limit all → Accepted all x)
    → WasAccepted name kind (AcceptsFile Answers limit) x a b → WasAccepted name kind Accepted x a b
accepted_by {X} {E} {Answers} {limit} {name} {kind} {Accepted} {x} {a} {b} law was = accepted_as (λ all is. law is.bytes is.answered all is.read) was

-- A file is refused by the rule that its judge keeps.
pub over_by : {X E : Type 0} {Answers : Bor Text → Result X E → Type 0} {said_of : E → Option Text} {limit : ℕ} {name : Text} {kind : FileKind} {Refused : Text → Text → Type 0} {why : RunFault} {a b : State} → ((bytes : Bor Text) (fault : E) → Answers bytes (Err fault) → (all console : Text) → bytes.now ≡ read_of limit all → said_of fault ≡ Some console → Refused all console)
    → IsOver name kind (RefusesFile Answers said_of limit) why a b → IsOver name kind Refused why a b
over_by {X} {E} {Answers} {said_of} {limit} {name} {kind} {Refused} {why} {a} {b} law over = over_as (λ all console is. law is.bytes is.fault is.answered all console is.read is.console_is) over

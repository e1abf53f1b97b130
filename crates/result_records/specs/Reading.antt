-- What a reader returns for a text or for the fields of a line.
use Rattle.std.specs.Prelude.{◌≡◌, ◌≢◌, Bool, true, false, Result, Ok, Err, ⊤}
use Rattle.pair_miter.specs.ChainView.{ChainView}
use Rattle.result_records.specs.declared.fault.RecordFault.{RecordFault}
use Rattle.result_records.specs.declared.fault.RecordFault.TheVariants.{Syntax, NoMemory}
use Rattle.result_records.specs.Spelling.{IsPlainChain, IsFreshChain}

-- What is read can be written and is spelled so; `Syntax` means that nothing that can be written is spelled so.
-- Nothing is said if memory is missing.
abbrev pub Reads : {X Y : Type 0} → (X → Type 0) → (X → Y) → Y → Result X RecordFault → Type 0
Reads {X} HasSpelling spelling text (Ok x) = HasSpelling x × (spelling x ≡ text)
Reads {X} HasSpelling spelling text (Err Syntax) = (x : X) → HasSpelling x → spelling x ≢ text
Reads {X} HasSpelling spelling text (Err NoMemory) = ⊤

-- A chain of a spent log if the flag is set, else one of a refutation.
abbrev pub IsChainOf : Bool → ChainView → Type 0
IsChainOf true chain = IsFreshChain chain
IsChainOf false chain = IsPlainChain chain

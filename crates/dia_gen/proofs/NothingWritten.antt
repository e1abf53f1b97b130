-- Memory was missing before any call.
use Rattle.std.proofs.Common.{◌≡◌, ℕ, List, [], Result, Ok, Err, arith, refl}
use Rattle.std.specs.Result.{IsErrAnd, OnErr}
use Rattle.net_model.specs.Circuit.{Circuit}
use Rattle.diag_shelf.specs.World.{State}
use Rattle.diag_shelf.specs.Calls.{IsWriteCall, Told, Writes}
use Rattle.diag_shelf.specs.declared.shelf.ShelfFault.{ShelfFault}
use Rattle.diag_shelf.specs.declared.shelf.ShelfFault.TheVariants.{NoMemory}
use Rattle.dia_gen.specs.Made.{IsCutFile}
use Rattle.dia_gen.proofs.Written.{nothing_cut, writes_none}

pub no_call : {T : Type 0} (r : Result T ShelfFault) (a : State) → IsErrAnd r (λ fault. fault ≡ NoMemory) → IsWriteCall r a a
no_call (Ok x) a is = absurd is
no_call (Err fault) a is = record { tells = refl; sure = refl; reads = refl; later = omega arith; ok = tt; failed = λ e. absurd (cc); memory = λ sure e. refl }

pub no_line : {T : Type 0} (r : Result T ShelfFault) (c : Circuit) (a : State) → IsErrAnd r (λ fault. fault ≡ NoMemory) → OnErr r ((part : List ℕ) × IsCutFile c part × Told a a (Writes part))
no_line (Ok x) c a is = absurd is
no_line (Err fault) c a is = ([], nothing_cut, λ told. writes_none a.world)

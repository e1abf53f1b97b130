-- What holds after an error, and after none.
use Rattle.std.proofs.Common.{Result, Ok, Err, OnOk, OnErr}

-- a fact that holds for every result
pub on_error : {T E P : Type 0} (result : Result T E) → P → OnErr result P
on_error (Ok x) p = tt
on_error (Err fault) p = p

pub on_ok : {T E P : Type 0} (result : Result T E) → P → OnOk result P
on_ok (Ok x) p = p
on_ok (Err fault) p = tt

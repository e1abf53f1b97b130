use Rattle.std.specs.String.{string_bytes}
use Rattle.std.proofs.lemmas.List.{append-nil}
use Rattle.std.proofs.lemmas.Result.{err_from_is_err_and}
use Rattle.dia_gen.proofs.gathered.write_out.Goals as goal

pub returns-in_err-write_all-clause-gathers : goal.returns-in_err-write_all-clause-gathers
returns-in_err-write_all-clause-gathers g c =
    let p = err_from_is_err_and c.from_residual.result c.from_residual.ensures.1 in
    let w = rw c.as_bytes.ensures.value at c.in_err-write_all.ensures in
    rw (p.1, p.2) (record { call = w.call; ok = tt; err = λ told. rw (append-nil (string_bytes c.args.text.now)) (w.err told); sure = λ s told e. w.sure s e })

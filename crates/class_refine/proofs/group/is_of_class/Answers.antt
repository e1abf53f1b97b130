use Rattle.std.proofs.Common.{length, refl, sym, ap, nat_eq}
use Rattle.std.specs.Prelude.{Some}
use Rattle.std.specs.Option.{option_eq}
use Rattle.std.proofs.lemmas.Option.{slice_get_read, slice_get_past}
use Rattle.class_refine.proofs.group.is_of_class.Goals as goal

pub returns-in-Some : goal.returns-in-Some
returns-in-Some c =
    let own = c.args.class_of.now in
    let found = c.in-Some.ensures.lookup in
    sym (ap (λ o. option_eq nat_eq o (Some c.args.class)) (slice_get_read own (length own) c.args.n c.in-Some.own.now refl found.3.0 found.1))

pub returns-in-None : goal.returns-in-None
returns-in-None c = sym (ap (λ o. option_eq nat_eq o (Some c.args.class)) (slice_get_past c.args.class_of.now c.args.n c.in-None.ensures.lookup.3))

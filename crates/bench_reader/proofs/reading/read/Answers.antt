use Rattle.std.proofs.Common.{◌≡◌, None, sym, subst}
use Rattle.std.proofs.lemmas.Result.{err_from_is_err_and}
use Rattle.bench_reader.specs.Netlist.{Netlist}
use Rattle.bench_reader.specs.Names.{texts_of_names}
use Rattle.bench_reader.specs.Reading.{IsNetlist}
use Rattle.bench_reader.specs.Driven.{IsDriven}
use Rattle.bench_reader.specs.Drivers.{driver_fault}
use Rattle.bench_reader.proofs.DriverLemmas.{numbered, accepted, netlist_driven}
use Rattle.bench_reader.proofs.reading.read.Goals as goal

pub judge-requires : goal.judge-requires
judge-requires c = numbered c.args.bytes.now c.in_ok-parsed.parsed c.in_ok-parsed.ensures.ok

pub invariant_of-result : goal.invariant_of-result
invariant_of-result c =
    let text = c.args.bytes.now in
    let n = c.in_ok-parsed.parsed in
    let none : driver_fault n.statements ≡ None = c.in_ok-judge.ensures.ok in
    let driven : IsDriven n = netlist_driven text n (accepted text n c.in_ok-parsed.ensures.ok none) in
    let e : ◌≡◌ {A = Netlist} (record { statements = c.parsed.inside.statements.items; names = texts_of_names c.parsed.inside.names.items }) n = c.parsed.view_is in
    subst (λ (m : Netlist). IsDriven m) (sym e) driven

pub returns-in_err-judge-clause-refused : goal.returns-in_err-judge-clause-refused
returns-in_err-judge-clause-refused c =
    let p = err_from_is_err_and c.from_residual-in_err-judge.result c.from_residual-in_err-judge.ensures.1 in
    rw (p.1, p.2) (c.in_err-judge.ensures.refused c.args.bytes.now c.in_ok-parsed.ensures.ok)

pub returns-clause-ok : goal.returns-clause-ok
returns-clause-ok c =
    let text = c.args.bytes.now in
    let n = c.in_ok-parsed.parsed in
    let none : driver_fault n.statements ≡ None = c.in_ok-judge.ensures.ok in
    let read : IsNetlist text n = accepted text n c.in_ok-parsed.ensures.ok none in
    let e : ◌≡◌ {A = Netlist} (record { statements = c.parsed.inside.statements.items; names = texts_of_names c.parsed.inside.names.items }) n = c.parsed.view_is in
    subst (λ (m : Netlist). IsNetlist text m) (sym e) read

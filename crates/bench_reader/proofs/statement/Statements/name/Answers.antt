use Rattle.std.proofs.Common.{◌≡◌, ◌<◌, ◌∙◌, [], length, get_or, sym, ap, arith}
use Rattle.std.specs.Prelude.{map}
use Rattle.std.proofs.lemmas.List.{get_or-map}
use Rattle.bench_reader.specs.Netlist.{Netlist}
use Rattle.bench_reader.proofs.Positions.{text_of, length_mapped}
use Rattle.bench_reader.proofs.statement.Statements.name.Goals as goal

pub index-requires : goal.index-requires
index-requires c =
    let keys = c.self.inside.names.items in
    let view : length (map text_of keys) ≡ length c.args.self.now.names = ap (λ (n : Netlist). length n.names) c.self.view_is in
    omega (arith, c.requires, view, length_mapped keys)

pub returns : goal.returns
returns c =
    let keys = c.self.inside.names.items in
    let view = c.self.view_is in
    let inside : c.args.number < length keys = omega (arith, c.requires, ap (λ (n : Netlist). length n.names) view, length_mapped keys) in
    c.as_slice.ensures.value ∙ ap text_of c.index.ensures ∙ sym (get_or-map text_of keys c.args.number c.index.result.now [] inside) ∙ ap (λ (n : Netlist). get_or n.names c.args.number []) view

use Rattle.std.proofs.Common.{◌≡◌, ◌∙◌, ◌++◌, ◌∷◌, [], false, refl, sym, ap, rules}
use Rattle.std.specs.Prelude.{map}
use Rattle.std.specs.List.{position_or_len}
use Rattle.std.specs.Str.{bytes_eq}
use Rattle.bench_reader.specs.Names.{texts_in}
use Rattle.bench_reader.specs.Numbering.{is_one_of, with_name}
use Rattle.bench_reader.proofs.Positions.{number_is, is_known, is_unknown, added, text_of, placed, number_is_new, length_mapped}
use Rattle.bench_reader.proofs.NameLemmas.{same_text}
use Rattle.bench_reader.proofs.numbers.number_of.Goals as goal

pub returns-in-Some-clause-names : goal.returns-in-Some-clause-names
returns-in-Some-clause-names c =
    let names = texts_in c.args.names.now in
    let name = c.args.name.now in
    let k = is_known (is_one_of names name) c.in-Some.number (position_or_len (bytes_eq name) names) (c.in-Some.ensures.index ∙ number_is name c.args.names.now.keys) in
    rw k.0 refl

pub returns-in-Some-clause-number : goal.returns-in-Some-clause-number
returns-in-Some-clause-number c =
    let names = texts_in c.args.names.now in
    let name = c.args.name.now in
    let k = is_known (is_one_of names name) c.in-Some.number (position_or_len (bytes_eq name) names) (c.in-Some.ensures.index ∙ number_is name c.args.names.now.keys) in
    k.1 ∙ sym (placed (bytes_eq name) names k.0).0

pub returns-clause-names : goal.returns-clause-names
returns-clause-names c =
    let new : is_one_of (texts_in c.args.names.now) c.args.name.now ≡ false = is_unknown (is_one_of (texts_in c.args.names.now) c.args.name.now) (position_or_len (bytes_eq c.args.name.now) (texts_in c.args.names.now)) (c.in_default.ensures.index ∙ number_is c.args.name.now c.args.names.now.keys) in
    let key : c.in_ok-name.name.items ≡ c.args.name.now = search rules in
    let same : with_name (texts_in c.args.names.now) c.args.name.now ≡ texts_in c.args.names.now ++ c.args.name.now ∷ [] = rw new refl in
    let unknown : is_one_of (texts_in c.args.names.now) c.in_ok-name.name.items ≡ false = rw key new in
    ap (map text_of) c.in_ok-insert.ensures.keys ∙ added c.args.names.now.keys c.in_ok-name.name unknown ∙ ap (λ t. texts_in c.args.names.now ++ t ∷ []) key ∙ sym same

pub returns-clause-number : goal.returns-clause-number
returns-clause-number c =
    let names = texts_in c.args.names.now in
    let name = c.args.name.now in
    let new : is_one_of names name ≡ false = is_unknown (is_one_of names name) (position_or_len (bytes_eq name) names) (c.in_default.ensures.index ∙ number_is name c.args.names.now.keys) in
    let key : c.in_ok-name.name.items ≡ name = search rules in
    let unknown : is_one_of names c.in_ok-name.name.items ≡ false = rw key new in
    let all : texts_in c.insert.new.self ≡ names ++ name ∷ [] = ap (map text_of) c.in_ok-insert.ensures.keys ∙ added c.args.names.now.keys c.in_ok-name.name unknown ∙ ap (λ t. names ++ t ∷ []) key in
    let n = number_is_new (bytes_eq name) names name new (same_text name) in
    rw all (c.len-number.ensures.len ∙ sym (length_mapped c.args.names.now.keys) ∙ sym n.0 ∙ sym (placed (bytes_eq name) (names ++ name ∷ []) n.2).0)

use Rattle.std.proofs.Common.{◌∙◌, ◌<◌, List, [], ◌∷◌, ◌++◌, map, length, get_or, sym, ap, ap₂, arith}
use Rattle.std.proofs.lemmas.List.{map-append, get_or-map, length-map, take_more}
use Rattle.std.proofs.lemmas.List.Elements.{All-push}
use Rattle.pair_sets.specs.declared.tree.Token.TheVariants.{Closed}
use Rattle.text_fields.specs.Fields.{Text}
use Rattle.result_records.specs.Spelling.{token_field, HasTokenSpelling}
use Rattle.result_records.proofs.evidence.read_tree.Goals as goal

pub returns-in_default : goal.returns-in_default
returns-in_default c = λ tree spelled e.
    let fields = c.args.fields.now in
    let at = c.loop-field.field-index in
    let below : at < length tree = omega (arith, c.loop-field-test.true, length-map fields (λ f. f.now), length-map tree token_field, ap length e) in
    c.in_default.ensures (get_or tree at Closed) (spelled.each at Closed below)
    (sym (get_or-map token_field tree at Closed [] below) ∙ ap (λ (xs : List Text). get_or xs at []) e ∙ get_or-map (λ f. f.now) fields at _ [] c.loop-field-test.true)

pub loop-field-preserved : goal.loop-field-preserved
loop-field-preserved c =
    let fields = c.args.fields.now in
    let at = c.loop-field.field-index in
    let tree = c.loop-field.tree in
    let token = c.in-Some.token in
    let texts = map (λ f. f.now) c.args.fields.now in
    let below : at < length texts = omega (arith, c.loop-field-test.true, length-map fields (λ f. f.now)) in
    let here = c.in-Some.ensures.1 ∙ sym (get_or-map (λ f. f.now) fields at _ [] c.loop-field-test.true) in
    rw c.in_ok-push.ensures.ok (
      All-push HasTokenSpelling tree token c.loop-field.invariant.0 c.in-Some.ensures.0,
      map-append token_field tree (token ∷ []) ∙ ap₂ (λ (xs : List Text) (x : Text). xs ++ x ∷ []) c.loop-field.invariant.1 here ∙ sym (take_more texts at [] below),
    )

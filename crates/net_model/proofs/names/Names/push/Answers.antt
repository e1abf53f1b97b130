use Rattle.std.proofs.Common.{◌∙◌, ◌∷◌, [], ℕ, List, Vec, Global, length, length-append, map, refl, ap, arith}
use Rattle.std.proofs.lemmas.List.{length-map, map_push}
use Rattle.net_model.proofs.names.Names.push.Goals as goal

abbrev bytes_of : Vec ℕ Global → List ℕ
bytes_of text = text.items

pub invariant_of-self-2 : goal.invariant_of-self-2
invariant_of-self-2 c =
    let texts = c.self.inside.texts.items in
    omega (arith, ap length c.in_ok-push.ensures.items, length-append texts (c.in_ok-text.text ∷ []), ap length c.self.view_is, length-map texts bytes_of, c.requires)

pub returns-clause-ok : goal.returns-clause-ok
returns-clause-ok c =
    let texts = c.self.inside.texts.items in
    ap (map bytes_of) c.in_ok-push.ensures.items ∙ map_push bytes_of texts c.in_ok-text.text ∙ rw (c.self.view_is, c.in_ok-text.ensures.items) refl

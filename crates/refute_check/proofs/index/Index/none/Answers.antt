use Rattle.std.proofs.Common.{◌≡◌, ◌∙◌, ◌+◌, ◌*◌, ℕ, List, [], length, sym, ap, subst}
use Rattle.std.specs.Prelude.{replicate}
use Rattle.std.proofs.lemmas.List.{length-replicate}
use Rattle.net_model.proofs.Elements.{get_or-replicate_anywhere}
use Rattle.refute_check.specs.Index.{IsIndexOf, list_at}
use Rattle.refute_check.proofs.IndexLemmas.{index_none}
use Rattle.refute_check.proofs.index.Index.none.Goals as goal

pub returns : goal.returns
returns c =
    let lists = c.in_ok-none.field-0 in
    let places = 2 * c.args.variables + 2 in
    let made : lists ≡ replicate places [] = c.in_ok-none.ensures in
    subst (IsIndexOf c.args.variables [] lists) (sym c.new.ensures.items)
    (index_none c.args.variables lists (ap length made ∙ length-replicate places []) (λ place. ap (λ (lists : List (List ℕ)). list_at lists place) made ∙ get_or-replicate_anywhere places place []))

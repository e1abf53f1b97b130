use Rattle.std.proofs.Common.{◌++◌, ◌∙◌, ℕ, List, ap, ap₂, length}
use Rattle.std.specs.List.{flat_map}
use Rattle.bridging_faults.specs.Texts.{bridges_text, bridge_line, bridges_end}
use Rattle.listing_commands.proofs.bridges.bridges_text.Goals as goal

pub returns : goal.returns
unfolding bridges_text
returns c =
    let names = c.args.names.now in
    let list = c.args.listed.now in
    c.in_ok-extend_from_slice.ensures.items
    ∙ ap₂ (λ (xs ys : List ℕ). xs ++ ys) (c.in_ok-push_bridges.ensures ∙ ap (λ (xs : List ℕ). xs ++ flat_map (bridge_line names) list.listed) c.new-text.ensures.items)
    (c.as_bytes.ensures.value ∙ c.in_ok-end.ensures ∙ ap (λ (n : ℕ). bridges_end n c.found-found.result c.exact-exact.result c.args.failing c.args.logged) c.len.ensures ∙ ap₂ (λ (x y : ℕ). bridges_end (length list.listed) x y c.args.failing c.args.logged) c.found-found.ensures c.exact-exact.ensures)

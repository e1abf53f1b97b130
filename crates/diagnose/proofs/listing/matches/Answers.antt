use Rattle.std.proofs.Common.{◌≡◌, ◌∙◌, ℕ, List, Bool, [], eqb, get_or, sym, ap, subst}
use Rattle.std.specs.Prelude.{filter, IfOk}
use Rattle.std.specs.List.{range_with_len}
use Rattle.diagnose.proofs.ListingLemmas.{rows_like, listed_group, listed_none}
use Rattle.diagnose.proofs.listing.matches.Goals as goal

pub find_row-requires-clause-wide : goal.find_row-requires-clause-wide
find_row-requires-clause-wide c = rows_like c.args.dict.now c.args.observed.now c.in_ok-entry.entry c.requires.shaped c.requires.observed c.in_ok-entry.ensures

pub returns-in-None : goal.returns-in-None
returns-in-None c =
    let entry = ap (λ (rows : List (List Bool)). get_or rows 0 []) c.in_ok-entry.ensures in
    c.new.ensures.items ∙ listed_none c.args.dict.now c.args.observed.now c.requires.grouped (λ group inside is. c.in-None.ensures group inside (is ∙ sym entry))

pub returns : goal.returns
returns c =
    let entry = ap (λ (rows : List (List Bool)). get_or rows 0 []) c.in_ok-entry.ensures in
    let group = c.in-Some.group in
    let same =
    ap (λ (groups : List ℕ). filter (λ (n : ℕ). eqb (get_or groups n 0) group) (range_with_len 0 c.args.dict.now.numbers)) c.as_slice.ensures
    ∙ listed_group c.args.dict.now c.args.observed.now c.requires.grouped group c.in-Some.ensures.0 (c.in-Some.ensures.1 ∙ entry) in
    subst (λ (xs : List ℕ). IfOk c.numbers_in.result (λ listed. listed.items ≡ xs)) same c.numbers_in.ensures

use Rattle.std.proofs.Common.{◌≡◌, ◌≢◌, ◌∙◌, [], ap, map, string_bytes, subst}
use Rattle.clap.specs.Words.{App, is_simple_and_free, matches_of, fault_of}
use Rattle.request_words.proofs.WordLemmas.{is_simple, asked_taken, asked_refused, passed_on}
use Rattle.std.specs.Option.{option_map}
use Rattle.request_words.specs.Asked.{asked}
use Rattle.request_words.proofs.request.read_request.Goals as goal

pub parse-requires : goal.parse-requires
parse-requires c = ap is_simple_and_free c.in_ok-definition.ensures ∙ is_simple c.args.verb

pub returns-in_err-matches-clause-refused : goal.returns-in_err-matches-clause-refused
returns-in_err-matches-clause-refused c is =
    let words = map string_bytes c.args.words.now in
    let refused = c.in_err-matches.ensures.refused (passed_on c.from_residual-in_err-matches.result _ _ c.from_residual-in_err-matches.ensures.1 is) in
    asked_refused c.args.verb words (subst (λ (a : App). fault_of a words ≢ []) c.in_ok-definition.ensures refused)

pub returns-in-Some-clause-asked : goal.returns-in-Some-clause-asked
returns-in-Some-clause-asked c =
    let words = map string_bytes c.args.words.now in
    asked_taken c.args.verb words (subst (λ (a : App). fault_of a words ≡ []) c.in_ok-definition.ensures c.in_ok-matches.ensures.taken)
    (c.in_ok-matches.ensures.ok ∙ ap (λ (a : App). matches_of a words) c.in_ok-definition.ensures)
    c.requested.ensures.asked
    ∙ ap (option_map asked) c.in-Some.is

pub returns-clause-refused : goal.returns-clause-refused
returns-clause-refused c is =
    let words = map string_bytes c.args.words.now in
    asked_taken c.args.verb words (subst (λ (a : App). fault_of a words ≡ []) c.in_ok-definition.ensures c.in_ok-matches.ensures.taken)
    (c.in_ok-matches.ensures.ok ∙ ap (λ (a : App). matches_of a words) c.in_ok-definition.ensures)
    c.requested.ensures.asked
    ∙ ap (option_map asked) c.in-None.is

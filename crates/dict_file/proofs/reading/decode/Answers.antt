use Rattle.std.proofs.Common.{◌≡◌, ◌∙◌, sym, ap, inl, inr, arith}
use Rattle.std.proofs.lemmas.Result.{err_from_is_err_and, MatchResult-weaker}
use Rattle.dict_file.specs.Spelling.{version_number}
use Rattle.dict_file.specs.Reading as reading
use Rattle.dict_file.proofs.reading.decode.Goals as goal

pub decode_one-requires : goal.decode_one-requires
decode_one-requires c = record { is = c.in_ok-head.ensures.head; version_is = c.in-One.is; short = omega arith }

pub decode_two-requires : goal.decode_two-requires
decode_two-requires c = record { is = c.in_ok-head.ensures.head; version_is = c.in-Two.is; short = omega arith }

pub returns-in_err-head-clause-refused : goal.returns-in_err-head-clause-refused
returns-in_err-head-clause-refused c =
    let p = err_from_is_err_and c.from_residual.result c.from_residual.ensures.1 in
    rw (p.1, p.2) (λ _. record { refused = inr (omega arith, inl c.in_err-head.ensures.refused) })

pub returns-in-One-clause-refused : goal.returns-in-One-clause-refused
returns-in-One-clause-refused c =
    let head = c.in_ok-head.ensures.head in
    let one : reading.version c.args.bytes.now ≡ 1 = sym head.version_is ∙ ap version_number c.in-One.is in
    MatchResult-weaker c.decode_one.result c.decode_one.ensures.refused (λ _ t. t) (λ fault tells ne. record { refused = inr (omega arith, inr (head.right, inl (one, tells ne))) })

pub returns-in-Two-clause-refused : goal.returns-in-Two-clause-refused
returns-in-Two-clause-refused c =
    let head = c.in_ok-head.ensures.head in
    let two : reading.version c.args.bytes.now ≡ 2 = sym head.version_is ∙ ap version_number c.in-Two.is in
    MatchResult-weaker c.decode_two.result c.decode_two.ensures.refused (λ _ t. t) (λ fault tells ne. record { refused = inr (omega arith, inr (head.right, inr ((λ one. absurd (omega (arith, one, two))), (two, tells ne)))) })

use Rattle.std.proofs.Common.{◌∙◌, ◌++◌, ap}
use Rattle.dict_file.specs.Spelling.{dict_spelling, head_bytes, body_bytes}
use Rattle.dict_file.proofs.PushLemmas.{joined}
use Rattle.dict_file.proofs.writing.encode.Goals as goal

pub returns : goal.returns
unfolding dict_spelling
returns c =
    let d = c.args.dict.now in
    let v = c.args.version in
    joined _ _ _ (head_bytes v d) (body_bytes v d) c.in_ok-push_head.ensures c.in_ok-push_body.ensures ∙ ap (λ b. b ++ (head_bytes v d ++ body_bytes v d)) c.new-bytes.ensures.items

use Rattle.std.proofs.Common.{◌∙◌, ◌++◌, ℕ, List, sym, ap, arith}
use Rattle.std.specs.Prelude.{flat_map}
use Rattle.std.proofs.lemmas.List.{append-nil, take_all}
use Rattle.byteorder.specs.Endian.{big_bytes}
use Rattle.dict_file.proofs.PushLemmas.{append_more}
use Rattle.dict_file.proofs.group_numbers.push_groups.Goals as goal

pub loop-group-init : goal.loop-group-init
loop-group-init c = sym (append-nil c.args.bytes.now.items)

pub loop-group-preserved : goal.loop-group-preserved
loop-group-preserved c =
    let l = c.loop-group in
    c.in_ok-push_number.ensures ∙ append_more (big_bytes 4) c.args.bytes.now.items l.bytes.items c.args.groups.now l.group-index 0 (omega arith) l.invariant

pub returns : goal.returns
returns c =
    let l = c.loop-group in
    l.invariant ∙ ap (λ (groups : List ℕ). c.args.bytes.now.items ++ flat_map (big_bytes 4) groups) (take_all l.group-index c.args.groups.now (omega (arith, c.loop-group-test.false)))

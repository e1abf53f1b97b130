use Rattle.std.specs.Prelude.{codes}
use Rattle.std.proofs.Common.{[], ◌∷◌}
use Rattle.byteorder.specs.Endian.{big_bytes}
use Rattle.dict_file.specs.Spelling.{version_number, kind_number}
use Rattle.dict_file.proofs.PushLemmas.{joined}
use Rattle.dict_file.proofs.FieldLemmas.{behind_patterns, behind_positions, behind_kind, behind_version, behind_magic}
use Rattle.dict_file.proofs.head.push_head.Goals as goal

pub returns : goal.returns
returns c =
    let d = c.args.dict.now in
    let v = c.args.version in
    let second = rw c.number_of.ensures at c.in_ok-push_short.ensures in
    let third = rw c.kind_byte.ensures at c.in_ok-push.ensures.items in
    joined _ _ _ (codes "DIAT") (behind_magic v d) c.in_ok-extend_from_slice.ensures.items
    (joined _ _ _ (big_bytes 2 (version_number v)) (behind_version d) second
    (joined _ _ _ (kind_number d.kind ∷ []) (behind_kind d) third
    (joined _ _ _ (big_bytes 4 d.positions) (behind_positions d) c.in_ok-push_number.ensures
    (joined _ _ _ (big_bytes 4 d.patterns) (behind_patterns d) c.in_ok-push_number-2.ensures c.in_ok-push_number-3.ensures))))

use Rattle.std.proofs.lemmas.List.Elements.{Contains-get_or}
use Rattle.dict_file.specs.Spelling.{packed_rows, entry_rows}
use Rattle.dict_file.proofs.PushLemmas.{joined, picked_entries}
use Rattle.dict_file.proofs.writing.push_one.Goals as goal

pub push_picked-requires : goal.push_picked-requires
push_picked-requires c = rw c.as_slice.ensures (λ k d h. (c.requires.used _).0 (Contains-get_or c.args.dict.now.groups k d h))

pub returns : goal.returns
returns c =
    let d = c.args.dict.now in
    let picked = rw (c.as_slice.ensures, picked_entries d c.requires) at c.in_ok-push_picked.ensures in
    joined _ _ _ (packed_rows d.baselines) (packed_rows (entry_rows d)) c.in_ok-push_rows.ensures picked

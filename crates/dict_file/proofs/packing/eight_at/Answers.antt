use Rattle.dict_file.proofs.ReverseLemmas.{eight_are}
use Rattle.dict_file.proofs.packing.eight_at.Goals as goal

pub returns-clause-same : goal.returns-clause-same
returns-clause-same c = λ m h.
    eight_are c.args.bytes.now c.args.from c.byte_at.result c.byte_at-2.result c.byte_at-3.result c.byte_at-4.result c.byte_at-5.result c.byte_at-6.result c.byte_at-7.result c.byte_at-8.result
    c.byte_at.ensures c.byte_at-2.ensures c.byte_at-3.ensures c.byte_at-4.ensures c.byte_at-5.ensures c.byte_at-6.ensures c.byte_at-7.ensures c.byte_at-8.ensures m h

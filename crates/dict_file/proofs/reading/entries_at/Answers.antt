use Rattle.dict_file.proofs.reading.entries_at.Goals as goal

pub returns : goal.returns
returns c = λ bytes is i. record { from = c.args.from; count = c.args.count; width = c.entry_width.ensures bytes is i }

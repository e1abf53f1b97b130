use Rattle.std.specs.Prelude.{zip}
use Rattle.result_file.specs.Meaning.{class_records, member_records}
use Rattle.compact_tests.proofs.TextLemmas.{last_text}
use Rattle.compact_tests.proofs.text.last_lines.Goals as goal

pub returns : goal.returns
returns c =
    let t = c.args.classes.now in
    last_text (class_records t.births) (member_records (zip t.class_of c.args.marks.now)) c.new-text.ensures.bytes c.in_ok-push_classes.ensures.ok c.in_ok-push_members.ensures.ok c.in_ok-push_line.ensures.ok

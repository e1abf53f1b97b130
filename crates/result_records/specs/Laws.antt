-- Laws: a line is the spelling of at most one record, and if no more lines can be taken, they are the same however the
-- bytes come.
use Rattle.std.specs.Prelude.{◌≡◌, List, [], ◌++◌, Contains}
use Rattle.net_model.specs.Ascii.{line_feed}
use Rattle.text_fields.specs.Fields.{Text}
use Rattle.result_records.specs.declared.record.Record.{Record}
use Rattle.result_records.specs.Spelling.{spelling, HasSpelling}
use Rattle.result_records.specs.Held.{Event, LeadTo, fed_text, taken_lines, lines_text}

-- Records that can be written and have one spelling are the same.
abbrev pub OneSpelling : Type 0
OneSpelling = (r other : Record) → HasSpelling r → HasSpelling other → spelling r ≡ spelling other → r ≡ other

-- The spelling of a record that can be written has no LF.
abbrev pub SpellingIsLine : Type 0
SpellingIsLine = (r : Record) → HasSpelling r → ¬ Contains (spelling r) line_feed

-- If nothing was held at first, the lines that were taken, each with its LF, and what is held then are all that was
-- fed.
abbrev pub LinesGiveAll : Type 0
LinesGiveAll = (events : List Event) (held : Text) → LeadTo [] events held → lines_text (taken_lines events) ++ held ≡ fed_text events

-- If nothing was held at first and no more lines can be taken, the same bytes give the same lines and leave the same
-- bytes held.
abbrev pub LinesAreAlike : Type 0
LinesAreAlike = (events others : List Event) (held other : Text) → LeadTo [] events held → LeadTo [] others other → fed_text events ≡ fed_text others
    → ¬ Contains held line_feed → ¬ Contains other line_feed → (taken_lines events ≡ taken_lines others) × (held ≡ other)

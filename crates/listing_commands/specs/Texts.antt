-- The lines of the console about faults, logs, suspects and covers.
use Rattle.std.specs.Prelude.{ℕ, List, ◌++◌, codes, decimal, flat_map, sum_by, length}
use Rattle.suspect_scores.specs.declared.suspect.Suspect.{Suspect}
use Rattle.suspect_scores.specs.declared.choices.Choice.{Choice}
use Rattle.text_fields.specs.Fields.{Text}

-- ---- faults

unfoldable pub line_start : ℕ → ℕ → Text
line_start number root = decimal number ++ (codes " " ++ (decimal root ++ codes " "))

-- The line with how many faults and how many roots there are, number 0 left out.
unfoldable pub count_text : ℕ → ℕ → Text
count_text numbers roots = codes "faults " ++ (decimal numbers ++ (codes " roots " ++ (decimal roots ++ codes "\n")))

-- ---- expected logs, suspects and covers

-- The line with the numbers of patterns and positions of an expected log.
unfoldable pub expected_counts_text : ℕ → ℕ → Text
expected_counts_text patterns positions = codes "patterns " ++ (decimal patterns ++ (codes " positions " ++ (decimal positions ++ codes "\n")))

-- The line of a suspect with its scores.
unfoldable pub suspect_line : Suspect → Text
suspect_line s =
    decimal s.number ++ (codes " " ++ (decimal s.explained ++ (codes " " ++ (decimal s.hit_bits ++ (codes " " ++ (decimal s.missed_bits ++ (codes " " ++ (decimal s.false_bits ++ codes "\n"))))))))

-- The line with how many suspects are listed, and how many patterns are failing and logged.
unfoldable pub suspects_end : ℕ → ℕ → ℕ → Text
suspects_end listed failing logged = codes "listed " ++ (decimal listed ++ (codes " failing " ++ (decimal failing ++ (codes " logged " ++ (decimal logged ++ codes "\n")))))

-- Suspects, one to a line, how many they are, and how many patterns are failing and logged.
unfoldable pub suspects_text : List Suspect → ℕ → ℕ → Text
suspects_text listed failing logged = flat_map suspect_line listed ++ suspects_end (length listed) failing logged

-- The line of a number, and of how many patterns it explains.
unfoldable pub choice_line : Choice → Text
choice_line choice = decimal choice.number ++ (codes " " ++ (decimal choice.explained ++ codes "\n"))

-- The line with how many numbers are listed, how many failing patterns they explain, and how many fail.
unfoldable pub cover_end : ℕ → ℕ → ℕ → Text
cover_end listed explained failing = codes "listed " ++ (decimal listed ++ (codes " explained " ++ (decimal explained ++ (codes " failing " ++ (decimal failing ++ codes "\n")))))

-- The numbers of a cover, one to a line, how many they are, how many failing patterns they explain, and how many fail.
unfoldable pub cover_text : List Choice → ℕ → Text
cover_text choices failing = flat_map choice_line choices ++ cover_end (length choices) (sum_by (λ choice. choice.explained) choices) failing

-- The lines of the console about results.
use Rattle.std.specs.Prelude.{ℕ, ◌++◌, codes, decimal}
use Rattle.result_file.specs.declared.checked.Summary.{Summary}
use Rattle.text_fields.specs.Fields.{Text}

-- the counts of a result
unfoldable pub summary_counts : Summary → Text
summary_counts s =
    codes "numbers " ++ (decimal s.numbers ++ (codes " patterns " ++ (decimal s.patterns ++ (codes " classes " ++ (decimal s.classes ++ (codes " equal " ++ (decimal s.equal ++ (codes " open " ++ decimal s.spent))))))))

-- what a result amounts to
unfoldable pub summary_text : Summary → Text
summary_text s = summary_counts s ++ codes "\n"

-- what a valid result amounts to
unfoldable pub valid_text : Summary → Text
valid_text s = codes "valid " ++ summary_text s

-- what a result made from a list of vectors amounts to, and how many of how many vectors were kept
unfoldable pub kept_text : Summary → ℕ → ℕ → Text
kept_text s kept listed = summary_counts s ++ (codes " kept " ++ (decimal kept ++ (codes " of " ++ (decimal listed ++ codes "\n"))))

-- what is left of a result, and how many patterns were dropped
unfoldable pub dropped_text : Summary → ℕ → Text
dropped_text s dropped = summary_counts s ++ (codes " dropped " ++ (decimal dropped ++ codes "\n"))

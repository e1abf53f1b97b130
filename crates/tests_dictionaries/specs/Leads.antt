-- Numbers that answer as the lowest member of their class.
use Rattle.std.specs.Prelude.{◌≡◌, ℕ, ◌<◌}
use Rattle.net_model.specs.ClassTable.{ClassTable, class_at, representative}
use Rattle.dict_rows.specs.AnswerTable.{Answers, answer_to}

-- Each of the first `count` numbers answers a pattern as the lowest member of its class does.
abbrev pub AnswerAsLeads : ClassTable → Answers → ℕ → ℕ → Type 0
AnswerAsLeads t table pattern count = (number : ℕ) → number < count → answer_to table pattern number ≡ answer_to table pattern (representative t (class_at t number))

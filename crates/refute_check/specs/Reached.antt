-- The clause that a chain has reached, by marks.
use Rattle.std.specs.Prelude.{◌≡◌, true, Contains}
use Rattle.net_model.specs.Answer.{bit_at}
use Rattle.clause_pool.specs.Literal.{Literal}
use Rattle.clause_pool.specs.LiteralCode.{code_of}
use Rattle.clause_pool.specs.Clauses.{Clause}
use Rattle.refute_check.specs.declared.reached.Reached.{Reached}

-- The marked literals are those of the clause, and each of them is listed.
pub record IsReached (reached : Reached) (clause : Clause) : Type 0 where
  pub marked : (l : Literal) → Contains clause l → bit_at reached.marks.items (code_of l) ≡ true
  pub only : (l : Literal) → bit_at reached.marks.items (code_of l) ≡ true → Contains clause l
  pub listed : (l : Literal) → Contains clause l → Contains reached.listed.items l

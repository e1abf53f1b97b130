-- Clauses written one after another.
use Rattle.std.proofs.Common.{◌≡◌, refl, sym, ap, ◌∙◌, subst}
use Rattle.std.specs.Prelude.{Result, Ok, Err, IsErr, List, [], ◌∷◌, ◌++◌}
use Rattle.std.proofs.lemmas.List.{append-nil, append_assoc}
use Rattle.clause_pool.specs.Clauses.{Clause, Clauses}
use Rattle.clause_pool.proofs.Numbered.{begins_through}
use Rattle.pair_miter.specs.Adds.{Adds, GrowsFor, KeepsClauses, WritesClauses}
use Rattle.pair_miter.specs.Miter.{tidy}
use Rattle.pair_miter.proofs.PlaceSteps.{AreFewer, fewer_before, room_more, room_same, room_through}
use Rattle.pair_miter.proofs.TidyParts.{tidy-append, tidy_none}

-- a call that fails has kept what was there
pub writes_err : {T E : Type 0} {old new : Clauses} {clauses : List Clause} (r : Result T E) → IsErr r → KeepsClauses old new clauses → WritesClauses r old new clauses
writes_err (Ok x) wrong keeps = cc
writes_err (Err e) fails keeps = keeps

pub adds_none : (pool : Clauses) → Adds pool pool []
adds_none pool = record { written = sym (append-nil pool.clauses); places = room_same pool (pool.clauses ++ []) }

-- `ys` after the clauses of `b` are `xs` and `ys` after the clauses of `a`
behind : (a b : Clauses) (xs ys : List Clause) → b.clauses ≡ a.clauses ++ xs → b.clauses ++ ys ≡ a.clauses ++ (xs ++ ys)
behind a b xs ys written = ap (λ cs. cs ++ ys) written ∙ append_assoc a.clauses xs ys

rooms_both : (a b c : Clauses) (xs ys : List Clause) → Adds a b xs → GrowsFor b c (b.clauses ++ ys) → GrowsFor a c (a.clauses ++ (xs ++ ys))
rooms_both a b c xs ys first second =
    let all = behind a b xs ys first.written in
    let fewer = subst (AreFewer (a.clauses ++ xs)) (append_assoc a.clauses xs ys) (fewer_before (a.clauses ++ xs) ys) in
    room_through a b c (a.clauses ++ xs) (a.clauses ++ (xs ++ ys)) fewer first.places (subst (GrowsFor b c) all second)

pub adds_both : (a b c : Clauses) (xs ys : List Clause) → Adds a b xs → Adds b c ys → Adds a c (xs ++ ys)
adds_both a b c xs ys first second = record {
  written = second.written ∙ behind a b xs ys first.written;
  places = rooms_both a b c xs ys first second.places;
}

-- a call that adds clauses keeps the old ones
pub adds_keeps : (old new : Clauses) (clauses : List Clause) → Adds old new clauses → KeepsClauses old new clauses
adds_keeps old new clauses adds = record { begins = record { more = clauses; are = adds.written }; places = adds.places }

pub keeps_all : (pool : Clauses) (clauses : List Clause) → KeepsClauses pool pool clauses
keeps_all pool clauses = record { begins = record { more = []; are = sym (append-nil pool.clauses) }; places = room_same pool (pool.clauses ++ clauses) }

-- if the first clauses are written and the others fail, the old ones are kept
pub keeps_both : (a b c : Clauses) (xs ys : List Clause) → Adds a b xs → KeepsClauses b c ys → KeepsClauses a c (xs ++ ys)
keeps_both a b c xs ys first second = record {
  begins = begins_through c.clauses b.clauses a.clauses second.begins (record { more = xs; are = first.written });
  places = rooms_both a b c xs ys first second.places;
}

pub keeps_first : (a b : Clauses) (xs ys : List Clause) → KeepsClauses a b xs → KeepsClauses a b (xs ++ ys)
keeps_first a b xs ys first = record {
  begins = first.begins;
  places = room_more a b (a.clauses ++ xs) (a.clauses ++ (xs ++ ys)) (subst (AreFewer (a.clauses ++ xs)) (append_assoc a.clauses xs ys) (fewer_before (a.clauses ++ xs) ys)) first.places;
}

-- The first of some clauses, and those that are left.
pub record InTwo (rows first left : List Clause) : Type 0 where
  pub are : rows ≡ first ++ left

pub beside : (first left : List Clause) → InTwo (first ++ left) first left
beside first left = record { are = refl }

-- clauses in two parts are tidied part by part
tidied : {rows first left : List Clause} → InTwo rows first left → tidy rows ≡ tidy first ++ tidy left
tidied {first = first} {left = left} two = ap tidy two.are ∙ tidy-append first left

-- ---- rows that are written in two steps

pub both_parts : {old now new : Clauses} {rows first left : List Clause} → InTwo rows first left → Adds old now (tidy first) → Adds now new (tidy left) → Adds old new (tidy rows)
both_parts {old} {now} {new} {rows} {first} {left} two one other = subst (Adds old new) (sym (tidied two)) (adds_both old now new (tidy first) (tidy left) one other)

pub first_fails : {old new : Clauses} {rows first left : List Clause} → InTwo rows first left → KeepsClauses old new (tidy first) → KeepsClauses old new (tidy rows)
first_fails {old} {new} {rows} {first} {left} two keeps = subst (KeepsClauses old new) (sym (tidied two)) (keeps_first old new (tidy first) (tidy left) keeps)

pub left_fails : {old now new : Clauses} {rows first left : List Clause} → InTwo rows first left → Adds old now (tidy first) → KeepsClauses now new (tidy left) → KeepsClauses old new (tidy rows)
left_fails {old} {now} {new} {rows} {first} {left} two adds keeps = subst (KeepsClauses old new) (sym (tidied two)) (keeps_both old now new (tidy first) (tidy left) adds keeps)

-- a last call that writes what is left
pub writes_left : {T E : Type 0} (r : Result T E) (new : Clauses) {old now : Clauses} {rows first left : List Clause} → InTwo rows first left → Adds old now (tidy first) → WritesClauses r now new (tidy left) → WritesClauses r old new (tidy rows)
writes_left (Ok x) new two adds writes = both_parts two adds writes
writes_left (Err e) new two adds writes = left_fails two adds writes

-- clauses of which some are written, others are next, and the rest follows
pub record HasNext (rows before next : List Clause) : Type 0 where
  pub rest : List Clause
  pub are : InTwo rows (before ++ next) rest

pub next_fails : {old now new : Clauses} {rows before next : List Clause} → HasNext rows before next → Adds old now (tidy before) → KeepsClauses now new (tidy next) → KeepsClauses old new (tidy rows)
next_fails {before = before} {next = next} has adds keeps = first_fails has.are (left_fails (beside before next) adds keeps)

-- ---- what is left, step by step

-- Some of the clauses are written, tidied, after the old ones, and these are left.
pub record Remains (old now : Clauses) (all left : List Clause) : Type 0 where
  pub done : List Clause
  pub parted : InTwo all done left
  pub adds : Adds old now (tidy done)

pub remains_all : (pool : Clauses) (all : List Clause) → Remains pool pool all all
remains_all pool all = record { done = []; parted = beside [] all; adds = subst (Adds pool pool) (sym tidy_none) (adds_none pool) }

pub remains_less : {old now new : Clauses} {all rows first left : List Clause} → Remains old now all rows → InTwo rows first left → Adds now new (tidy first) → Remains old new all left
remains_less {first = first} {left = left} r two adds = record {
  done = r.done ++ first;
  parted = record { are = r.parted.are ∙ (ap (λ xs. r.done ++ xs) two.are ∙ sym (append_assoc r.done first left)) };
  adds = both_parts (beside r.done first) r.adds adds;
}

-- if what is left fails, all fail
pub remains_fails : {old now new : Clauses} {all rows first left : List Clause} → Remains old now all rows → InTwo rows first left → KeepsClauses now new (tidy first) → KeepsClauses old new (tidy all)
remains_fails r two keeps = left_fails r.parted r.adds (first_fails two keeps)

pub writes_last : {T E : Type 0} (r : Result T E) (new : Clauses) {old now : Clauses} {all left : List Clause} → Remains old now all left → WritesClauses r now new (tidy left) → WritesClauses r old new (tidy all)
writes_last r new remains writes = writes_left r new remains.parted remains.adds writes

-- ---- one clause, by the literals that were written

one_of : {row written : Clause} (left : List Clause) → written ≡ row → InTwo (row ∷ left) (written ∷ []) left
one_of left same = record { are = ap (λ (c : Clause). c ∷ left) (sym same) }

pub step : {old now new : Clauses} {all left : List Clause} {row written : Clause} → Remains old now all (row ∷ left) → written ≡ row → Adds now new (tidy (written ∷ [])) → Remains old new all left
step {left = left} r same adds = remains_less r (one_of left same) adds

pub step_fails : {old now new : Clauses} {all left : List Clause} {row written : Clause} → Remains old now all (row ∷ left) → written ≡ row → KeepsClauses now new (tidy (written ∷ [])) → KeepsClauses old new (tidy all)
step_fails {left = left} r same keeps = remains_fails r (one_of left same) keeps

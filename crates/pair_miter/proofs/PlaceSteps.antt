-- How the places of a pool grow with its clauses.
use Rattle.std.proofs.Common.{◌≡◌, ◌+◌, ◌≤◌, sym, ap, subst, arith}
use Rattle.std.specs.Prelude.{List, [], ◌∷◌, ◌++◌, length, max}
use Rattle.std.proofs.lemmas.List.{length-append}
use Rattle.std.proofs.lemmas.List.Sums.{sum_by-append}
use Rattle.clause_pool.specs.Clauses.{BeginsWith, Clause, Clauses, literal_count}
use Rattle.clause_pool.proofs.Numbered.{begins_itself, begins_through}
use Rattle.pair_miter.specs.Adds.{KeepsPlaces, GrowsFor, Grows}

-- The first list has no more clauses and no more literals than the other.
pub record AreFewer (clauses others : List Clause) : Type 0 where
  pub fewer : length clauses ≤ length others
  pub shorter : literal_count clauses ≤ literal_count others

pub fewer_before : (clauses more : List Clause) → AreFewer clauses (clauses ++ more)
fewer_before clauses more =
    record { fewer = omega (arith, length-append clauses more); shorter = omega (arith, sum_by-append length clauses more) }

pub fewer_begins : (clauses first : List Clause) → BeginsWith clauses first → AreFewer first clauses
fewer_begins clauses first begins = subst (AreFewer first) (sym begins.are) (fewer_before first begins.more)

pub kept_through : (a b c : Clauses) → KeepsPlaces a b → KeepsPlaces b c → KeepsPlaces a c
kept_through a b c first second =
    record { of_clauses = omega (arith, first.of_clauses, second.of_clauses); of_literals = omega (arith, first.of_literals, second.of_literals) }

pub room_same : (pool : Clauses) (clauses : List Clause) → GrowsFor pool pool clauses
room_same pool clauses = record {
  kept = record { of_clauses = omega arith; of_literals = omega arith };
  clauses_needed = omega arith;
  literals_needed = omega arith;
}

-- a pool that grew for fewer clauses and then for these grew for these
pub room_through : (a b c : Clauses) (xs ys : List Clause) → AreFewer xs ys → GrowsFor a b xs → GrowsFor b c ys → GrowsFor a c ys
room_through a b c xs ys less first second = record {
  kept = kept_through a b c first.kept second.kept;
  clauses_needed = omega (arith, less.fewer, first.clauses_needed, second.clauses_needed);
  literals_needed = omega (arith, less.shorter, first.literals_needed, second.literals_needed);
}

pub room_more : (a b : Clauses) (xs ys : List Clause) → AreFewer xs ys → GrowsFor a b xs → GrowsFor a b ys
room_more a b xs ys less first = room_through a b b xs ys less first (room_same b ys)

-- a clause that is added takes what it needs
pub room_added : (old new : Clauses) (clause : Clause) → new.clauses ≡ old.clauses ++ clause ∷ [] → new.spare_clauses + 1 ≡ max old.spare_clauses 1 → new.spare_literals + length clause ≡ max old.spare_literals (length clause)
    → GrowsFor old new (old.clauses ++ clause ∷ [])
room_added old new clause added clauses literals =
    let long = ap length added in
    let wide = ap literal_count added in
    let long_is = length-append old.clauses (clause ∷ []) in
    let wide_is = sum_by-append length old.clauses (clause ∷ []) in
    record {
      kept = record { of_clauses = omega (arith, long, long_is, clauses); of_literals = omega (arith, wide, wide_is, literals) };
      clauses_needed = omega (arith, long, long_is, clauses);
      literals_needed = omega (arith, wide, wide_is, literals);
    }

-- ---- pools that only grow

pub grows_none : (pool : Clauses) → Grows pool pool
grows_none pool = record { begins = begins_itself pool.clauses; places = room_same pool pool.clauses }

pub grows_through : (a b c : Clauses) → Grows a b → Grows b c → Grows a c
grows_through a b c first second = record {
  begins = begins_through c.clauses b.clauses a.clauses second.begins first.begins;
  places = room_through a b c b.clauses c.clauses (fewer_begins c.clauses b.clauses second.begins) first.places second.places;
}

pub grows_added : (old new : Clauses) (clause : Clause) → new.clauses ≡ old.clauses ++ clause ∷ [] → new.spare_clauses + 1 ≡ max old.spare_clauses 1 → new.spare_literals + length clause ≡ max old.spare_literals (length clause) → Grows old new
grows_added old new clause added clauses literals = record {
  begins = record { more = clause ∷ []; are = added };
  places = subst (GrowsFor old new) (sym added) (room_added old new clause added clauses literals);
}

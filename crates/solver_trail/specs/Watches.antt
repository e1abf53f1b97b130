-- The literals that clauses watch, and the lists of each literal's watches.
use Rattle.std.specs.Prelude.{◌≡◌, ◌≢◌, ◌⊎◌, ⊤, ℕ, ◌+◌, ◌-◌, ◌/◌, ◌%◌, ◌^◌, ◌<◌, ◌≤◌, ◌==◌, List, [], ◌∷◌, ◌++◌, map, length, Contains, Option, None, Some, slice_index, slice_index_or, slice_set, if◌then◌else◌}
use Rattle.clause_pool.specs.Literal.{Literal, pos_literal, opposite}
use Rattle.clause_pool.specs.LiteralCode.{code_of}
use Rattle.clause_pool.specs.Clauses.{Clause, numbered_clause}
use Rattle.solver_trail.specs.declared.set_literals.SetLiteral.{SetLiteral}
use Rattle.solver_trail.specs.declared.watches.Watch.{Watch}
use Rattle.solver_trail.specs.declared.watches.Watches.{Watches}

-- ---- the watched literals: those of a clause are next to each other

-- The other watch of the same clause.
abbrev pub partner : ℕ → ℕ
partner watch = if watch % 2 == 0 then watch + 1 else watch - 1

-- The literal of a watch.
abbrev pub watched : List Literal → ℕ → Literal
watched literals watch = slice_index_or literals watch (pos_literal 0)

-- The literal of the watch's partner.
abbrev pub other_watched : List Literal → ℕ → Literal
other_watched literals watch = watched literals (partner watch)

-- The number of a watch's clause, by the numbers of the clauses.
abbrev pub owner : List ℕ → ℕ → ℕ
owner numbers watch = slice_index numbers (watch / 2)

-- `P` holds of each watch with its literal and the literal of its partner.
abbrev pub EachWatch : (ℕ → Literal → Literal → Type 0) → List Literal → Type 0
EachWatch P literals = (watch : ℕ) → watch < length literals → P watch (watched literals watch) (other_watched literals watch)

-- The two literals are in the clause and are of different variables.
pub record AreWatched (clause : Clause) (l m : Literal) : Type 0 where
  pub first : Contains clause l
  pub second : Contains clause m
  pub apart : l.variable ≢ m.variable

-- If the list has a clause of this number, the clause has these two literals, of different variables.
abbrev pub WatchesIn : List Clause → ℕ → Literal → Literal → Type 0
WatchesIn clauses number l m = (clause : Clause) → numbered_clause clauses number ≡ Some clause → AreWatched clause l m

-- The two watches of each of the numbered clauses watch two of its literals, of different variables.
abbrev pub AreWatching : List ℕ → List Clause → List Literal → Type 0
AreWatching numbers clauses literals = EachWatch (λ watch l m. WatchesIn clauses (owner numbers watch) l m) literals

-- The literals of all watches, by number.
abbrev pub watched_literals : Watches → List Literal
watched_literals w = map (λ (watch : Watch). watch.literal) w.watches.items

-- ---- lists of watches

-- The watch after each one in its list, by number.
abbrev pub next_watches : Watches → List (Option ℕ)
next_watches w = map (λ (watch : Watch). watch.next) w.watches.items

-- The first watch in the literal's list.
abbrev pub head_of : List (Option ℕ) → Literal → Option ℕ
head_of firsts lit = slice_index_or firsts (code_of lit) None

-- These watches follow one another, from `first` to the end.
abbrev pub IsChain : List (Option ℕ) → Option ℕ → List ℕ → Type 0
IsChain nexts first [] = first ≡ None
IsChain nexts first (watch ∷ rest) = (first ≡ Some watch) × IsChain nexts (slice_index_or nexts watch None) rest

-- The watch is one of these.
abbrev pub IsWatchAmong : List ℕ → ℕ → Type 0
IsWatchAmong [] watch = ⊥
IsWatchAmong (i ∷ rest) watch = (i ≡ watch) ⊎ IsWatchAmong rest watch

-- No watch is there twice.
abbrev pub AreListedOnce : List ℕ → Type 0
AreListedOnce [] = ⊤
AreListedOnce (watch ∷ rest) = ¬ IsWatchAmong rest watch × AreListedOnce rest

-- The list of the literal with this code has exactly the watches of that literal that aren't taken out, each once.
pub record IsListOf (firsts nexts : List (Option ℕ)) (literals : List Literal) (out : List ℕ) (code : ℕ) : Type 0 where
  pub members : List ℕ
  pub chain : IsChain nexts (slice_index_or firsts code None) members
  pub apart : AreListedOnce members
  pub owned : (watch : ℕ) → IsWatchAmong members watch
      → (watch < length literals) × (code_of (watched literals watch) ≡ code) × ¬ IsWatchAmong out watch
  pub whole : (watch : ℕ) → watch < length literals → code_of (watched literals watch) ≡ code
      → IsWatchAmong members watch ⊎ IsWatchAmong out watch

-- Each watch is in the list of its literal, except those that are taken out, and a `u32` counts the watches.
pub record AreWatchesListed (firsts nexts : List (Option ℕ)) (literals : List Literal) (out : List ℕ) : Type 0 where
  pub size : length nexts ≡ length literals
  pub few : length literals < 2 ^ 32
  pub lists : (code : ℕ) → code < length firsts → IsListOf firsts nexts literals out code

-- Each watch is in the list of its literal, except those that are taken out.
abbrev pub AreInLists : Watches → List ℕ → Type 0
AreInLists w out = AreWatchesListed w.firsts.items (next_watches w) (watched_literals w) out

-- The watch now watches this literal, and is at the front of the literal's list. Nothing else has changed.
pub record IsLinked (old new : Watches) (watch : ℕ) (lit : Literal) : Type 0 where
  pub literals : watched_literals new ≡ slice_set (watched_literals old) watch lit
  pub nexts : next_watches new ≡ slice_set (next_watches old) watch (head_of old.firsts.items lit)
  pub firsts : new.firsts.items ≡ slice_set old.firsts.items (code_of lit) (Some watch)

-- The watch after a last one in the list of the literal, or the first one of the list if there is no last one.
abbrev pub link_after : Watches → Literal → Option ℕ → Option ℕ
link_after w lit None = head_of w.firsts.items lit
link_after w lit (Some last) = slice_index_or (next_watches w) last None

-- What the first watches become if `next` comes after a last watch in the literal's list, or first if there is no
-- last one.
abbrev pub firsts_with : List (Option ℕ) → Literal → Option ℕ → Option ℕ → List (Option ℕ)
firsts_with firsts lit None next = slice_set firsts (code_of lit) next
firsts_with firsts lit (Some last) next = firsts

-- What the watches after each one become if `next` comes after a last watch, if there is one.
abbrev pub nexts_with : List (Option ℕ) → Option ℕ → Option ℕ → List (Option ℕ)
nexts_with nexts None next = nexts
nexts_with nexts (Some last) next = slice_set nexts last next

-- The watch is left out of the list of the literal: the watch after it now comes after the one before it, or begins
-- the list. All watch the same literals as before.
pub record IsUnlinked (old new : Watches) (lit : Literal) (last : Option ℕ) (watch : ℕ) : Type 0 where
  pub literals : watched_literals new ≡ watched_literals old
  pub firsts : new.firsts.items ≡ firsts_with old.firsts.items lit last (slice_index_or (next_watches old) watch None)
  pub nexts : next_watches new ≡ nexts_with (next_watches old) last (slice_index_or (next_watches old) watch None)

-- The last of these is the watch, or there are none.
abbrev pub HasLastWatch : List ℕ → Option ℕ → Type 0
HasLastWatch watches None = watches ≡ []
HasLastWatch watches (Some last) = (before : List ℕ) × (watches ≡ before ++ last ∷ [])

-- The list of a literal is being visited: the watches up to a last one stay in it, and the others are ahead.
pub record IsAhead (w : Watches) (lit : Literal) (last : Option ℕ) : Type 0 where
  pub stay : List ℕ
  pub rest : List ℕ
  pub ends : HasLastWatch stay last
  pub list : IsListOf w.firsts.items (next_watches w) (watched_literals w) [] (code_of lit)
  pub parts : list.members ≡ stay ++ rest
  pub listed : AreInLists w []

-- If watches were ahead, this watch was the first of them, and the others are still ahead.
abbrev pub IsPassed : Watches → Watches → Literal → Option ℕ → Option ℕ → ℕ → Type 0
IsPassed old new lit last now watch = (before : IsAhead old lit last) → (after : IsAhead new lit now) × (before.rest ≡ watch ∷ after.rest)

-- ---- what propagation has visited

-- The literal is true. If place `j` of the false literal is one of the first `visited`, the true one isn't of a
-- higher level.
pub record IsTrueBy (literals : List SetLiteral) (visited : ℕ) (l : Literal) (j : ℕ) (d : SetLiteral) : Type 0 where
  pub place : ℕ
  pub within : place < length literals
  pub is_true : (slice_index_or literals place d).literal ≡ l
  pub level : j < visited → (slice_index_or literals place d).level ≤ (slice_index_or literals j d).level

-- If the literal is false by one of the first `reached` set literals, the partner's literal is true; if by one of the
-- first `visited`, it is of no higher level.
abbrev pub IsPartnerTrue : List SetLiteral → ℕ → ℕ → Literal → Literal → Type 0
IsPartnerTrue literals visited reached l other = (j : ℕ) (d : SetLiteral) → j < reached → (slice_index_or literals j d).literal ≡ opposite l
    → IsTrueBy literals visited other j d

-- The first `reached` set literals have been visited: if one of them makes a watched literal false, the partner's
-- literal is true. For the first `visited` it is of no higher level, so they stay visited until they are unset.
abbrev pub AreKept : List SetLiteral → ℕ → ℕ → List Literal → Type 0
AreKept literals visited reached watched = EachWatch (λ watch l other. IsPartnerTrue literals visited reached l other) watched

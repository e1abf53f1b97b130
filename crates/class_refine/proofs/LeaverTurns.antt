-- The pieces that leavers make, one leaver after another.
use Rattle.std.proofs.Common.{◌≡◌, ◌≢◌, ◌∙◌, ℕ, ◌+◌, ◌<◌, ◌≤◌, Bool, true, false, cond, eqb, ◌&&◌, List, [], ◌∷◌, ◌++◌, length, get_or, map, take, unwrap_or, refl, sym, ap, subst, arith, inl, inr, Option, None, Some, MatchOption, All, AllPairs, Contains}
use Rattle.std.specs.Bool.{Decides}
use Rattle.std.specs.Borrow.{Bor}
use Rattle.std.specs.Cmp.{Equal-is}
use Rattle.std.specs.Cmp.Lexicographic.{slice_cmp}
use Rattle.std.specs.Option.{is_none}
use Rattle.std.specs.Ordering.{is_eq, nat_cmp, ordering_then}
use Rattle.std.specs.declared.cmp.Ordering.{Ordering}
use Rattle.std.proofs.lemmas.Bool.{cases_lt, cases_Bool, eq-eqb, ne_eqb, false_from_ne_true}
use Rattle.std.proofs.lemmas.Bool.Decides.{nat_tests}
use Rattle.std.proofs.lemmas.List.{append-nil, length-map, length-append, length_push, length-take, get_or-map, get_or-take, get_or_append_left, get_or_default, get_or_push, map_push, take_more}
use Rattle.std.proofs.lemmas.List.Elements.{All-contains, All-push, All-take, filter_more, Contains-get_or, Contains-append_left, Contains-push}
use Rattle.std.proofs.lemmas.List.Kept.{AllPairs-filter}
use Rattle.std.proofs.lemmas.Map.Lookups.{exact_unsigned, exact_bytes, exact_pairs}
use Rattle.net_model.specs.ClassTable.{ClassTable, class_at, answer_at, piece_lowest, begins_class}
use Rattle.net_model.proofs.Elements.{true_false, Contains-from_filter}
use Rattle.class_refine.specs.declared.leaver.Leaver.{Leaver}
use Rattle.class_refine.specs.Laws.{ComesBefore}
use Rattle.class_refine.specs.Leavers.{told, LeavesClass, AreLeavers}
use Rattle.class_refine.specs.Steps.{put_in}
use Rattle.class_refine.proofs.Ranges.{AreDistinct}
use Rattle.class_refine.proofs.Pieces.{Begins, begins-true, begins_from, piece_is, same_piece}
use Rattle.class_refine.proofs.Leaving.{keyed, keyed_known, keyed_new, same_words, in_either}
use Rattle.class_refine.proofs.LeaverOrder.{no_leaver, numbers_of, numbers_are, low_begins, low_leaves, begun, so_far}

-- ---- keys

-- the order of lists of positions by class
abbrev pub list_order : ℕ × Bor (List ℕ) → ℕ × Bor (List ℕ) → Ordering
list_order a b = ordering_then (nat_cmp a.0 b.0) (slice_cmp nat_cmp a.1.now b.1.now)

same_keys : (a b : ℕ × Bor (List ℕ)) → Decides (is_eq (list_order a b)) ((a.0 ≡ b.0) × (a.1.now ≡ b.1.now))
same_keys a b = (
  λ e.
      let same : ◌≡◌ {A = ℕ × List ℕ} (a.0, a.1.now) (b.0, b.1.now) = exact_pairs nat_cmp (slice_cmp nat_cmp) exact_unsigned exact_bytes (a.0, a.1.now) (b.0, b.1.now) ((Equal-is (list_order a b)).0 e) in
      (ap (λ (p : ℕ × List ℕ). p.0) same, ap (λ (p : ℕ × List ℕ). p.1) same),
  λ (class, list).
      let lists = (same_words a.1 b.1).1 list in
      grind (arith, nat_tests, class, lists),
)

module _ (t : ClassTable) (positions : List ℕ) where
  -- the key is that of the leaver
  pub record HasKey (leaver : Leaver) (key : ℕ × Bor (List ℕ)) : Type 0 where
    pub class : class_at t leaver.number ≡ key.0
    pub list : told positions leaver ≡ key.1.now

module _ (t : ClassTable) (row : List (List Bool)) (leavers : List Leaver) (positions : List ℕ) where
  abbrev numbers : List ℕ
  numbers = numbers_of leavers

  -- the place is that of the piece of a leaver with this key
  pub record IsFound (i : ℕ) (key : ℕ × Bor (List ℕ)) (k : ℕ) : Type 0 where
    pub within : k < length (begun t row numbers i)
    pub leaver : Leaver
    pub before : Contains (take i leavers) leaver
    pub key_is : HasKey t positions leaver key
    pub piece : get_or (begun t row numbers i) k 0 ≡ piece_lowest t row leaver.number

  -- what is noted for a key among the first leavers
  abbrev pub IsNoted : ℕ → ℕ × Bor (List ℕ) → Option ℕ → Type 0
  IsNoted i key place = MatchOption place (All (λ leaver. HasKey t positions leaver key → ⊥) (take i leavers)) (IsFound i key)

  -- the pieces of the first leavers, and the places that are noted
  pub record AreSoFar (i : ℕ) (groups : List (List ℕ)) (parents : List ℕ) (noted : ℕ × Bor (List ℕ) → Option ℕ) : Type 0 where
    pub groups_are : groups ≡ so_far t row numbers i
    pub parents_are : parents ≡ map (class_at t) (begun t row numbers i)
    pub noted_are : (key : ℕ × Bor (List ℕ)) → IsNoted i key (noted key)

  pub none_so_far : (noted : ℕ × Bor (List ℕ) → Option ℕ) → ((key : ℕ × Bor (List ℕ)) → noted key ≡ None) → AreSoFar 0 [] [] noted
  none_so_far noted none = record { groups_are = refl; parents_are = refl; noted_are = λ key. rw (none key) (λ k d h. omega (arith, h)) }

  module _ (are : AreLeavers t row leavers positions) (i : ℕ) (h : i < length leavers) where
    abbrev leaver : Leaver
    leaver = get_or leavers i no_leaver

    abbrev pub here : ℕ
    here = leaver.number

    leaves : LeavesClass t row here
    leaves = are.only i no_leaver h

    ordered : AllPairs (ComesBefore t) numbers
    ordered = (numbers_are t row leavers positions are).ordered

    number_at : (j : ℕ) → j < length leavers → get_or numbers j 0 ≡ (get_or leavers j no_leaver).number
    number_at j l = get_or-map (λ (other : Leaver). other.number) leavers j no_leaver 0 l

    more : take (i + 1) numbers ≡ take i numbers ++ here ∷ []
    more = take_more numbers i 0 (omega (arith, h, length-map leavers (λ (other : Leaver). other.number))) ∙ ap (λ n. take i numbers ++ n ∷ []) (number_at i h)

    more_leavers : take (i + 1) leavers ≡ take i leavers ++ leaver ∷ []
    more_leavers = take_more leavers i no_leaver h

    begun_more : (b : Bool) → begins_class t row here ≡ b → begun t row numbers (i + 1) ≡ begun t row numbers i ++ cond b (here ∷ []) []
    begun_more b e =
        filter_more (begins_class t row) numbers i 0 (omega (arith, h, length-map leavers (λ (other : Leaver). other.number)))
        ∙ ap (λ n. begun t row numbers i ++ cond (begins_class t row n) (n ∷ []) []) (number_at i h)
        ∙ ap (λ c. begun t row numbers i ++ cond c (here ∷ []) []) e

    -- an earlier number of the same class is lower
    earlier_lower : (x : ℕ) → Contains (take i numbers) x → class_at t x ≡ class_at t here → x < here
    earlier_lower x (k, l, e) class =
        let long = length-map leavers (λ (other : Leaver). other.number) in
        let below : k < i = omega (arith, l, length-take i numbers) in
        let same : get_or numbers k 0 ≡ x = get_or_default numbers k 0 x (omega (arith, below, h, long)) ∙ (sym (get_or-take i numbers k x below) ∙ e) in
        grind (arith, ordered k i 0 below (omega (arith, h, long)), same, number_at i h, class)

    -- a leaver of the same class with a lower number is earlier
    lower_earlier : (j : ℕ) → j < length leavers → class_at t (get_or leavers j no_leaver).number ≡ class_at t here → (get_or leavers j no_leaver).number < here → j < i
    lower_earlier j l class less =
        let long = length-map leavers (λ (other : Leaver). other.number) in
        grind (arith, ordered i j 0, number_at i h, number_at j l, class, less, l, h, long)

    -- no earlier number has this lowest number in its piece
    none_lower : piece_lowest t row here ≡ here → All (λ x. piece_lowest t row x ≢ here) (take i numbers)
    none_lower own k d l e =
        let x = get_or (take i numbers) k d in
        let inside = (All-take (LeavesClass t row) i numbers (numbers_are t row leavers positions are).only k d l).below in
        let piece = piece_is t row x inside in
        let less = earlier_lower x (Contains-get_or (take i numbers) k d l) (sym piece.class ∙ ap (class_at t) e) in
        omega (arith, less, piece.within, e)

    distinct : AreDistinct (begun t row numbers i)
    distinct j k d l below e =
        let ordered_front : AllPairs (ComesBefore t) (take i numbers) =
        λ a b x less inside.
        let long = length-take i numbers in
        rw (get_or-take i numbers a x (omega (arith, less, inside, long)), get_or-take i numbers b x (omega (arith, inside, long))) (ordered a b x less (omega (arith, inside, long))) in
        let before = AllPairs-filter (ComesBefore t) (begins_class t row) (take i numbers) ordered_front j k d l below in
        let class = ap (class_at t) e in
        grind (arith, before, e, class)

    found_more : (key : ℕ × Bor (List ℕ)) (k : ℕ) (rest : List ℕ) → begun t row numbers (i + 1) ≡ begun t row numbers i ++ rest → IsFound i key k → IsFound (i + 1) key k
    found_more key k rest longer found = record {
      within = omega (arith, found.within, ap length longer, length-append (begun t row numbers i) rest);
      leaver = found.leaver;
      before = subst (λ ls. Contains ls found.leaver) (sym more_leavers) (Contains-append_left (take i leavers) (leaver ∷ []) found.leaver found.before);
      key_is = found.key_is;
      piece = ap (λ ls. get_or ls k 0) longer ∙ (get_or_append_left (begun t row numbers i) rest 0 k found.within ∙ found.piece);
    }

    -- what is noted for a key that the leaver doesn't have
    noted_more : (key : ℕ × Bor (List ℕ)) (place : Option ℕ) (rest : List ℕ) → begun t row numbers (i + 1) ≡ begun t row numbers i ++ rest → (HasKey t positions leaver key → All (λ other. HasKey t positions other key → ⊥) (take i leavers) → ⊥)
        → IsNoted i key place → IsNoted (i + 1) key place
    noted_more key place rest longer other noted =
        in_either place
        (λ all. subst (All (λ other. HasKey t positions other key → ⊥)) (sym more_leavers) (All-push (λ other. HasKey t positions other key → ⊥) (take i leavers) leaver all (λ has. other has all)))
        (λ k found. found_more key k rest longer found) noted

    -- the place that the leaver's piece has
    pub record Turn (place : ℕ) (noted : ℕ × Bor (List ℕ) → Option ℕ) : Type 0 where
      pub within : place ≤ length (begun t row numbers i)
      pub parents : map (class_at t) (begun t row numbers (i + 1))
          ≡ cond (eqb place (length (begun t row numbers i))) (map (class_at t) (begun t row numbers i) ++ class_at t here ∷ []) (map (class_at t) (begun t row numbers i))
      pub pieces : so_far t row numbers (i + 1) ≡ put_in (so_far t row numbers i) place here
      pub noted_are : (key : ℕ × Bor (List ℕ)) → IsNoted (i + 1) key (noted key)

    module _ (old new : ℕ × Bor (List ℕ) → Option ℕ) (key : ℕ × Bor (List ℕ)) (key_is : HasKey t positions leaver key) (noted : (q : ℕ × Bor (List ℕ)) → IsNoted i q (old q)) where
      -- if no earlier leaver has this key, the leaver begins a piece
      new_turn : All (λ other. HasKey t positions other key → ⊥) (take i leavers) → ((q : ℕ × Bor (List ℕ)) → new q ≡ cond (is_eq (list_order key q)) (Some (length (begun t row numbers i))) (old q)) → Turn (length (begun t row numbers i)) new
      new_turn none news =
          let low = piece_lowest t row here in
          let piece = piece_is t row here leaves.below in
          let place = length (begun t row numbers i) in
          let own : low ≡ here = elim (cases_lt low here) [
            | inr le ↦ omega (arith, le, piece.within)
            | inl less ↦
                let has = are.all low (low_leaves t row here leaves) in
                let long = length-map leavers (λ (other : Leaver). other.number) in
                let j = has.0 in
                let l : j < length leavers = omega (arith, has.1, long) in
                let other = get_or leavers j no_leaver in
                let same : other.number ≡ low = sym (number_at j l) ∙ (get_or_default numbers j 0 low has.1 ∙ has.2) in
                let class : class_at t other.number ≡ class_at t here = ap (class_at t) same ∙ piece.class in
                let before : j < i = lower_earlier j l class (omega (arith, less, same)) in
                let list : told positions other ≡ told positions leaver = (are.alike j i no_leaver before h class).1 (ap (answer_at t row) same ∙ piece.answer) in
                let front : get_or (take i leavers) j no_leaver ≡ other = get_or-take i leavers j no_leaver before in
                absurd (subst (λ (l : Leaver). HasKey t positions l key → ⊥) front (none j no_leaver (omega (arith, before, h, length-take i leavers))) (record { class = class ∙ key_is.class; list = list ∙ key_is.list }))
          ] in
          let begins : Begins t row here = subst (Begins t row) own (low_begins t row here leaves) in
          let lows = begun_more true (begins-true t row here begins) in
          record {
            within = omega arith;
            parents = ap (map (class_at t)) lows
                ∙ (map_push (class_at t) (begun t row numbers i) here
                ∙ (λ j. cond (sym (eq-eqb place place refl) j) (map (class_at t) (begun t row numbers i) ++ class_at t here ∷ []) (map (class_at t) (begun t row numbers i))));
            pieces = (λ j. keyed (piece_lowest t row) (more j) (lows j))
                ∙ keyed_new (piece_lowest t row) (take i numbers) (begun t row numbers i) here own
                (λ k d l e.
                let x = get_or (begun t row numbers i) k d in
                let parts = Contains-from_filter (begins_class t row) (take i numbers) x (Contains-get_or (begun t row numbers i) k d l) in
                omega (arith, e, earlier_lower x parts.0 (ap (class_at t) e)))
                (none_lower own);
            noted_are = λ q. elim (cases_Bool (is_eq (list_order key q))) [
              | inl same ↦
                  let parts = (same_keys key q).0 same in
                  rw (news q ∙ ap (λ b. cond b (Some place) (old q)) same)
                  (record {
                    within = omega (arith, ap length lows, length_push (begun t row numbers i) here);
                    leaver = leaver;
                    before = subst (λ ls. Contains ls leaver) (sym more_leavers) (Contains-push (take i leavers) leaver);
                    key_is = record { class = key_is.class ∙ parts.0; list = key_is.list ∙ parts.1 };
                    piece = ap (λ ls. get_or ls place 0) lows ∙ (get_or_push (begun t row numbers i) here 0 place refl ∙ sym own);
                  })
              | inr other ↦
                  rw (news q ∙ ap (λ b. cond b (Some place) (old q)) other)
                  (noted_more q (old q) (here ∷ []) lows (λ has all. true_false (is_eq (list_order key q)) ((same_keys key q).1 (sym key_is.class ∙ has.class, sym key_is.list ∙ has.list)) other) (noted q))
            ];
          }

      -- if an earlier leaver has this key, the leaver comes into that one's piece
      known_turn : (k : ℕ) → IsFound i key k → ((q : ℕ × Bor (List ℕ)) → new q ≡ old q) → Turn k new
      known_turn k found news =
          let first = found.leaver in
          let (j, l, e) = found.before in
          let before : j < i = omega (arith, l, length-take i leavers) in
          let same : get_or leavers j no_leaver ≡ first = get_or_default leavers j no_leaver first (omega (arith, before, h)) ∙ (sym (get_or-take i leavers j first before) ∙ e) in
          let class : class_at t first.number ≡ class_at t here = found.key_is.class ∙ sym key_is.class in
          let list : told positions first ≡ told positions leaver = found.key_is.list ∙ sym key_is.list in
          let at_first : (P : Leaver → Type 0) → P first → P (get_or leavers j no_leaver) = λ P. subst P (sym same) in
          let answer : answer_at t row first.number ≡ answer_at t row here =
          subst (λ (l : Leaver). answer_at t row l.number ≡ answer_at t row here) same
          ((are.alike j i no_leaver before h (at_first (λ l. class_at t l.number ≡ class_at t here) class)).0 (at_first (λ l. told positions l ≡ told positions leaver) list)) in
          let inside = (subst (λ (l : Leaver). LeavesClass t row l.number) same (are.only j no_leaver (omega (arith, before, h)))).below in
          let piece = piece_is t row first.number inside in
          let lows_same : piece_lowest t row first.number ≡ piece_lowest t row here = same_piece t row first.number here inside leaves.below class answer in
          let long = length-map leavers (λ (other : Leaver). other.number) in
          let number : get_or numbers j 0 ≡ first.number = number_at j (omega (arith, before, h)) ∙ ap (λ (l : Leaver). l.number) same in
          let less : first.number < here =
          grind (arith, ordered j i 0 before (omega (arith, h, long)), number, number_at i h, class) in
          let not_begun = begun_more false (false_from_ne_true (begins_class t row here) (λ b. omega (arith, less, piece.within, lows_same, (begins_from t row here leaves.below b).own))) in
          let lows = not_begun ∙ append-nil (begun t row numbers i) in
          record {
            within = omega (arith, found.within);
            parents = ap (map (class_at t)) lows
                ∙ sym (ap (λ b. cond b (map (class_at t) (begun t row numbers i) ++ class_at t here ∷ []) (map (class_at t) (begun t row numbers i))) (ne_eqb k (length (begun t row numbers i)) (λ e. omega (arith, e, found.within))));
            pieces = (λ j. keyed (piece_lowest t row) (more j) (lows j))
                ∙ keyed_known (piece_lowest t row) (take i numbers) (begun t row numbers i) here k distinct found.within (found.piece ∙ lows_same);
            noted_are = λ q.
                rw (news q)
                (noted_more q (old q) [] not_begun (λ has all.
                All-contains (λ other. HasKey t positions other q → ⊥) (take i leavers) first all found.before (record { class = class ∙ has.class; list = list ∙ has.list }))
                (noted q));
          }

      pub turn : (o : Option ℕ) (next place : ℕ) → old key ≡ o → next ≡ length (begun t row numbers i) → place ≡ unwrap_or o next
          → ((q : ℕ × Bor (List ℕ)) → new q ≡ cond (is_none o && is_eq (list_order key q)) (Some next) (old q)) → Turn place new
      turn None next place e count at news =
          subst (λ p. Turn p new) (sym (at ∙ count)) (new_turn (rw e at (noted key)) (λ q. news q ∙ ap (λ n. cond (is_eq (list_order key q)) (Some n) (old q)) count))
      turn (Some k) next place e count at news =
          subst (λ p. Turn p new) (sym at) (known_turn k (rw e at (noted key)) news)

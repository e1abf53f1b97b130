use Rattle.std.proofs.Common.{◌≡◌, ◌∙◌, ◌<◌, ◌+◌, ◌*◌, ◌^◌, ℕ, cond, eqb, List, length, get_or, replicate, refl, sym, ap, subst, arith}
use Rattle.std.proofs.lemmas.List.{length-replicate, length-set, get_or_read, get_or-replicate}
use Rattle.samediff_dict.specs.PlaceGroups.{AreBelow}
use Rattle.samediff_dict.proofs.PairLemmas.{others_of}
use Rattle.samediff_dict.proofs.TallyLemmas.{sum_to_none}
use Rattle.samediff_dict.proofs.GainLemmas.{size_split, others-few, gain_to, gain_all, gains_more, gains_bound}
use Rattle.samediff_dict.proofs.groups.PlaceGroups.gains_by.Goals as goal
use Rattle.samediff_dict.proofs.groups.PlaceGroups.gains_by.Goals.{After-size_of-part}

pub size_of-size-requires-clause-place : goal.size_of-size-requires-clause-place
size_of-size-requires-clause-place c = omega (arith, ap length c.as_slice-groups.ensures.value, c.requires.long)

pub size_of-size-requires-clause-within : goal.size_of-size-requires-clause-within
size_of-size-requires-clause-within c =
    let long : length c.as_slice-sizes.result.now ≡ c.args.self.now.count = ap length c.as_slice-sizes.ensures.value ∙ c.requires.all.count_is in
    subst (λ n. AreBelow c.as_slice-groups.result.now n) (sym long) (subst (λ (gs : List ℕ). AreBelow gs c.args.self.now.count) (sym c.as_slice-groups.ensures.value) c.requires.within)

pub size_of-part-requires-clause-place : goal.size_of-part-requires-clause-place
size_of-part-requires-clause-place c = omega (arith, ap length c.as_slice-parts.ensures.value, c.requires.cells.one_each)

pub size_of-part-requires-clause-within : goal.size_of-part-requires-clause-within
size_of-part-requires-clause-within c =
    let long : length c.as_slice-part_sizes.result.now ≡ c.args.cells.now.count = ap length c.as_slice-part_sizes.ensures.value ∙ c.requires.alike.count_is in
    subst (λ n. AreBelow c.as_slice-parts.result.now n) (sym long) (subst (λ (gs : List ℕ). AreBelow gs c.args.cells.now.count) (sym c.as_slice-parts.ensures.value) c.requires.cells.within)

-- the size of a group is that of the part plus the others that answer otherwise
split : (c : After-size_of-part) → c.size_of-size.result ≡ c.size_of-part.result + others_of c.args.self.now.group_of.items c.args.answers.now (length c.args.answers.now) c.loop-place.place
split c =
    let groups = c.args.self.now.group_of.items in
    let answers = c.args.answers.now in
    let cells = c.args.cells.now.group_of.items in
    let place = c.loop-place.place in
    let inside : place < length answers = omega arith in
    let size : c.size_of-size.result ≡ get_or c.args.all.now.sizes.items (get_or groups place 0) 0 = c.size_of-size.ensures ∙ (λ i. get_or (c.as_slice-sizes.ensures.value i) (get_or (c.as_slice-groups.ensures.value i) place 0) 0) in
    let part : c.size_of-part.result ≡ get_or c.args.alike.now.sizes.items (get_or cells place 0) 0 = c.size_of-part.ensures ∙ (λ i. get_or (c.as_slice-part_sizes.ensures.value i) (get_or (c.as_slice-parts.ensures.value i) place 0) 0) in
    let both = size_split groups answers cells c.args.self.now.count c.args.cells.now.count c.args.all.now.sizes.items c.args.alike.now.sizes.items c.args.all.now.together c.args.alike.now.together
    c.requires.cells c.requires.long c.requires.all c.requires.alike place inside (c.requires.within place (omega (arith, inside, c.requires.long))) in
    size ∙ (both ∙ ap (λ n. n + others_of groups answers (length answers) place) (sym part))

pub loop-place-init : goal.loop-place-init
loop-place-init c =
    let groups = c.args.self.now.group_of.items in
    let answers = c.args.answers.now in
    let n = c.args.candidates in
    let made : c.in_ok-gains.gains.items ≡ replicate {A = ℕ} n 0 = c.in_ok-gains.ensures.items_if_clones_equal (λ y e. e) in
    let at : (answer : ℕ) → answer < n → get_or c.in_ok-gains.gains.items answer 0 ≡ 0 = λ answer h. ap (λ (xs : List ℕ). get_or xs answer 0) made ∙ get_or-replicate {A = ℕ} n answer 0 0 h in
    record {
      places = ap length made ∙ length-replicate {A = ℕ} n 0;
      each = λ answer h. at answer h ∙ sym (sum_to_none (λ place. cond (eqb (get_or answers place 0) answer) (others_of groups answers (length answers) place) 0));
      bound = λ answer h. omega (arith, at answer h);
    }

pub returns : goal.returns
returns c =
    let groups = c.args.self.now.group_of.items in
    let answers = c.args.answers.now in
    let all : c.loop-place.place ≡ length answers = omega arith in
    record {
      count_is = c.loop-place.invariant.places;
      each = λ answer h. c.loop-place.invariant.each answer h ∙ (ap (λ k. gain_to groups answers k answer) all ∙ gain_all groups answers answer);
    }

pub overflow_sub-size : goal.overflow_sub-size
overflow_sub-size c = let at = (goal.at.overflow_sub-size c).After-size_of-part in omega (arith, split at)

pub index_mut-requires : goal.index_mut-requires
index_mut-requires c = let known = c.requires.known c.loop-place.place (omega arith) in omega (arith, known, c.loop-place.invariant.places, c.loop-place.gains.ok.0)

pub overflow_add-index_mut : goal.overflow_add-index_mut
overflow_add-index_mut c =
    let at = (goal.at.overflow_add-index_mut c).After-size_of-part in
    let answers = c.args.answers.now in
    let place = c.loop-place.place in
    let code = get_or answers place 0 in
    let known = c.requires.known place (omega arith) in
    let read : c.index_mut.result.now ≡ get_or c.loop-place.gains.items code 0 = get_or_read c.loop-place.gains.items code c.index_mut.result.now (omega (arith, known, c.loop-place.invariant.places)) c.index_mut.ensures.value 0 in
    omega (arith, read, c.loop-place.invariant.bound code known, split at, others-few c.args.self.now.group_of.items answers (length answers) place, c.requires.few)

pub loop-place-preserved : goal.loop-place-preserved
loop-place-preserved c =
    let at = (goal.at.loop-place-preserved c).After-size_of-part in
    let groups = c.args.self.now.group_of.items in
    let answers = c.args.answers.now in
    let place = c.loop-place.place in
    let code = get_or answers place 0 in
    let so_far = c.loop-place.invariant in
    let gains = c.loop-place.gains.items in
    let known = c.requires.known place (omega arith) in
    let others = others_of groups answers (length answers) place in
    let read : c.index_mut.result.now ≡ get_or gains code 0 = get_or_read gains code c.index_mut.result.now (omega (arith, known, so_far.places)) c.index_mut.ensures.value 0 in
    let sum = c.index_mut.result.now + c.from.result in
    let added : sum ≡ get_or gains code 0 + others = omega (arith, read, c.from.ensures, split at) in
    let few = others-few groups answers (length answers) place in
    record {
      places = length-set gains code sum ∙ so_far.places;
      each = gains_more groups answers gains c.args.candidates place others so_far.places known refl so_far.each sum added;
      bound = λ answer h. omega (arith, gains_bound groups answers gains c.args.candidates place others so_far.places known refl (place * 2 ^ 32) (2 ^ 32) (omega (arith, few, c.requires.few)) so_far.bound sum added answer h);
    }

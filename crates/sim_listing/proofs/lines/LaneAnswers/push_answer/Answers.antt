use Rattle.std.proofs.Common.{◌≡◌, ◌∙◌, ◌++◌, ◌<◌, Bool, List, None, length, get_or, ap, arith}
use Rattle.std.specs.String.{string_bytes}
use Rattle.std.proofs.lemmas.List.{get_or_read}
use Rattle.net_model.specs.BitText.{bits_text}
use Rattle.sim_listing.specs.LaneAnswers.{lane_answers}
use Rattle.sim_listing.proofs.LaneLemmas.{place_inside, written_is}
use Rattle.sim_listing.proofs.lines.LaneAnswers.push_answer.Goals as goal

pub write_out-requires-clause-inside : goal.write_out-requires-clause-inside
write_out-requires-clause-inside c = place_inside c.args.self.now c.args.texts.now.items c.args.number c.place-place.result c.requires.lane c.requires.texts c.place-place.ensures

pub index-requires : goal.index-requires
index-requires c =
    let inside = place_inside c.args.self.now c.write_out.new.texts.items c.args.number c.place-place.result c.requires.lane c.in_ok-write_out.ensures.texts c.place-place.ensures in
    omega (arith, inside, c.write_out.new.texts.ok.0)

pub returns-clause-text : goal.returns-clause-text
returns-clause-text c = λ row is.
    let texts = c.write_out.new.texts.items in
    let place = c.place-place.result in
    let before = string_bytes c.args.text.now in
    let inside : place < length texts = place_inside c.args.self.now texts c.args.number place c.requires.lane c.in_ok-write_out.ensures.texts c.place-place.ensures in
    let read : c.index.result.now ≡ get_or texts place None = get_or_read texts place c.index.result.now inside c.index.ensures None in
    written_is (lane_answers c.args.self.now row) texts place c.index.result.now before (string_bytes c.push_written.new.text) (c.in_ok-write_out.ensures.texts row is) c.in_ok-write_out.ensures.written read c.in_ok-push_written.ensures
    ∙ ap (λ (bits : List Bool). before ++ bits_text bits) (c.place-place.ensures row is).own

use Rattle.std.proofs.Common.{map, ◌∷◌, [], List, length, get_or, ◌≤◌, arith, refl}
use Rattle.std.proofs.lemmas.List.{get_or_default}
use Rattle.table_format.proofs.Turns.{seen_more, turned, ended}
use Rattle.table_reader.specs.declared.line.StayWords.{StayWords}
use Rattle.table_reader.specs.Reading.{seen}
use Rattle.table_reader.proofs.Items.{no_stay}
use Rattle.table_reader.proofs.form.add_ticks.Goals as goal

pub loop-stay-preserved : goal.loop-stay-preserved
loop-stay-preserved c =
    let stay = get_or c.args.stays.now c.loop-stay.stay-index no_stay in
    turned (λ (ys : List StayWords). map (λ s. s.ticks.now) ys) c.args.stays.now c.loop-stay.stay-index stay (stay.ticks.now ∷ []) (seen c.loop-stay.all.items) (seen c.push.new.self.items) _ refl c.loop-stay-test.true
    (get_or_default c.args.stays.now c.loop-stay.stay-index no_stay stay c.loop-stay-test.true) c.loop-stay.invariant (seen_more c.loop-stay.all.items c.push.new.self.items stay.ticks c.in_ok-push.ensures.items)

pub returns : goal.returns
returns c =
    let all : length c.args.stays.now ≤ c.loop-stay.stay-index = omega (arith, c.loop-stay-test.false) in
    ended (λ (ys : List StayWords). map (λ s. s.ticks.now) ys) c.args.stays.now c.loop-stay.stay-index (seen c.loop-stay.all.items) _ refl all c.loop-stay.invariant

use Rattle.std.proofs.Common.{◌∷◌, [], List, length, ◌≤◌, arith, refl}
use Rattle.table_format.specs.declared.table.TaskStay.{TaskStay}
use Rattle.table_format.specs.Parts.{seen}
use Rattle.table_format.proofs.Turns.{seen_more, turned, ended}
use Rattle.table_format.proofs.names.add_stays.Goals as goal

pub loop-stay-preserved : goal.loop-stay-preserved
loop-stay-preserved c =
    turned (λ (ys : List TaskStay). ys) c.args.stays.now c.loop-stay.stay-index c.stay-item.result (c.stay-item.result ∷ []) (seen c.loop-stay.all.items) (seen c.push.new.self.items) _ (refl) c.loop-stay-test.true c.stay-item.is
    c.loop-stay.invariant (seen_more c.loop-stay.all.items c.push.new.self.items _ c.in_ok-push.ensures.items)

pub returns : goal.returns
returns c =
    let all : length c.args.stays.now ≤ c.loop-stay.stay-index = omega (arith, c.loop-stay-test.false) in
    ended (λ (ys : List TaskStay). ys) c.args.stays.now c.loop-stay.stay-index (seen c.loop-stay.all.items) _ (refl) all c.loop-stay.invariant

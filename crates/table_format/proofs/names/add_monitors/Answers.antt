use Rattle.std.proofs.Common.{◌++◌, ◌∙◌, ap, map, ◌∷◌, [], List, length, ◌≤◌, arith, refl}
use Rattle.std.specs.Borrow.{Bor}
use Rattle.table_format.specs.declared.table.TaskStay.{TaskStay}
use Rattle.table_format.specs.Parts.{seen}
use Rattle.table_format.proofs.Turns.{seen_more, turned, ended}
use Rattle.table_format.proofs.names.add_monitors.Goals as goal

pub loop-stay-preserved : goal.loop-stay-preserved
loop-stay-preserved c =
    turned (λ (ys : List (Bor TaskStay)). map (λ s. s.monitor) (seen ys)) c.args.stays.now c.loop-stay.stay-index c.stay-item.result (c.stay-item.result.now.monitor ∷ []) (seen c.loop-stay.all.items) (seen c.push.new.self.items) _ (refl) c.loop-stay-test.true c.stay-item.is
    c.loop-stay.invariant (seen_more c.loop-stay.all.items c.push.new.self.items _ c.in_ok-push.ensures.items ∙ ap (λ m. seen c.loop-stay.all.items ++ m ∷ []) c.as_bytes.ensures)

pub returns : goal.returns
returns c =
    let all : length c.args.stays.now ≤ c.loop-stay.stay-index = omega (arith, c.loop-stay-test.false) in
    ended (λ (ys : List (Bor TaskStay)). map (λ s. s.monitor) (seen ys)) c.args.stays.now c.loop-stay.stay-index (seen c.loop-stay.all.items) _ (refl) all c.loop-stay.invariant

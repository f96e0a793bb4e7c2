use Rattle.std.proofs.Common.{map, ◌++◌, ◌∷◌, [], List, length, ◌≤◌, arith, refl}
use Rattle.std.specs.Borrow.{Bor}
use Rattle.table_format.specs.declared.table.TaskStay.{TaskStay}
use Rattle.table_format.specs.Program.{stay_name}
use Rattle.table_format.specs.Parts.{seen}
use Rattle.table_format.proofs.Turns.{turned, ended}
use Rattle.table_format.proofs.names.add_entries.Goals as goal

pub loop-stay-preserved : goal.loop-stay-preserved
loop-stay-preserved c =
    turned (λ (ys : List (Bor TaskStay)). map (λ s. stay_name s.ticks ++ c.args.tail.now) (seen ys)) c.args.stays.now c.loop-stay.stay-index c.stay-item.result ((stay_name c.stay-item.result.now.ticks ++ c.args.tail.now) ∷ []) (c.loop-stay.made) (c.add_entry.new.made) _ (refl) c.loop-stay-test.true c.stay-item.is
    c.loop-stay.invariant (c.in_ok-add_entry.ensures)

pub returns : goal.returns
returns c =
    let all : length c.args.stays.now ≤ c.loop-stay.stay-index = omega (arith, c.loop-stay-test.false) in
    ended (λ (ys : List (Bor TaskStay)). map (λ s. stay_name s.ticks ++ c.args.tail.now) (seen ys)) c.args.stays.now c.loop-stay.stay-index (c.loop-stay.made) _ (refl) all c.loop-stay.invariant

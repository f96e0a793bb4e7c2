-- Each arm does what its instruction does.
use Rattle.std.proofs.Common.{ℕ, List, length, w32, rules, ap}
use Rattle.std.specs.Prelude.{FitsSigned}
use Rattle.std.proofs.lemmas.Int.{to_z-of_z}
use Rattle.vm_instructions.specs.Silent.{own_of}
use Rattle.vm_turn.proofs.Seeing.{broadcast_among, empty_comes, enter_comes, get_comes, leave_comes, puts_comes, reenter_comes, signal_among, wait_among, wait_comes}
use Rattle.vm_turn.proofs.visible_steps.see.Goals as goal

pub returns-in-Enter-clause-comes : goal.returns-in-Enter-clause-comes
returns-in-Enter-clause-comes g c =
    let f0 : FitsSigned w32 c.in-Enter.monitor = search rules in
    enter_comes g.at.image g.at.state c.args.instr c.in-Enter.monitor c.args.job.now g.at.owned g.at.shared c.enter.result c.enter.new.inside c.in-Enter.is (simp to_z-of_z at c.enter.ensures) c.requires.1.1.1.1.1

pub returns-in-Reenter-clause-comes : goal.returns-in-Reenter-clause-comes
returns-in-Reenter-clause-comes g c =
    let f0 : FitsSigned w32 c.in-Reenter.monitor = search rules in
    reenter_comes g.at.image g.at.state c.args.instr c.in-Reenter.monitor c.args.job.now g.at.owned g.at.shared c.enter-in-Reenter.result c.enter-in-Reenter.new.inside c.in-Reenter.is (simp to_z-of_z at c.enter-in-Reenter.ensures) c.requires.1.1.1.1.1

pub returns-in-Leave-clause-comes : goal.returns-in-Leave-clause-comes
returns-in-Leave-clause-comes g c =
    let f0 : FitsSigned w32 c.in-Leave.monitor = search rules in
    leave_comes g.at.image g.at.state c.args.instr c.in-Leave.monitor c.args.job.now g.at.owned g.at.shared c.leave.result c.leave.new.inside c.in-Leave.is (simp to_z-of_z at c.leave.ensures)

pub returns-in-Wait-clause-comes : goal.returns-in-Wait-clause-comes
returns-in-Wait-clause-comes g c =
    let f0 : FitsSigned w32 c.in-Wait.condition = search rules in
    let f1 : FitsSigned w32 c.in-Wait.limit = search rules in
    let f2 : FitsSigned w32 c.in-Wait.number = search rules in
    wait_comes g.at.image g.at.state c.args.instr c.in-Wait.condition c.in-Wait.limit c.in-Wait.number c.args.job.now g.at.owned g.at.shared c.wait.result c.wait.new.inside c.in-Wait.is (simp to_z-of_z at c.wait.ensures) c.requires.1.1.1.1.1

pub returns-in-Empty-clause-comes : goal.returns-in-Empty-clause-comes
returns-in-Empty-clause-comes g c =
    let f0 : FitsSigned w32 c.in-Empty.condition = search rules in
    empty_comes g.at.image g.at.state c.args.instr c.in-Empty.condition c.args.queues.now c.args.job.now g.at.owned g.at.shared c.empty.result c.empty.new.frames c.in-Empty.is (simp to_z-of_z at c.empty.ensures.does) c.requires.0

pub returns-in-In-clause-comes : goal.returns-in-In-clause-comes
returns-in-In-clause-comes g c =
    let f0 : FitsSigned w32 c.in-In.device = search rules in
    get_comes g.at.image g.at.state c.args.instr c.in-In.device c.args.devices.now c.args.job.now g.at.owned g.at.shared c.get.result c.get.new.frames c.in-In.is (simp to_z-of_z at c.get.ensures.does) c.requires.1.0

pub returns-in-Wait-clause-among : goal.returns-in-Wait-clause-among
returns-in-Wait-clause-among g c =
    let f0 : FitsSigned w32 c.in-Wait.condition = search rules in
    let f1 : FitsSigned w32 c.in-Wait.limit = search rules in
    let f2 : FitsSigned w32 c.in-Wait.number = search rules in
    wait_among g.at.image g.at.state c.args.instr c.in-Wait.condition c.in-Wait.limit c.in-Wait.number c.args.job.now g.at.owned g.at.shared c.wait.result c.wait.new.inside _ c.in-Wait.is (simp to_z-of_z at c.wait.ensures) c.requires.1.1.0 c.requires.1.1.1.1.1

pub returns-in-Signal-clause-among : goal.returns-in-Signal-clause-among
returns-in-Signal-clause-among g c =
    let f0 : FitsSigned w32 c.in-Signal.condition = search rules in
    simp to_z-of_z (signal_among g.at.image g.at.state c.args.instr c.in-Signal.condition (own_of c.args.job.now g.at.owned g.at.shared) c.args.job.now.frames.room _ c.in-Signal.is (ap (λ (qs : List (List ℕ)). length qs) c.requires.0) c.requires.1.1.1.1.1)

pub returns-in-Broadcast-clause-among : goal.returns-in-Broadcast-clause-among
returns-in-Broadcast-clause-among g c =
    let f0 : FitsSigned w32 c.in-Broadcast.condition = search rules in
    simp to_z-of_z (broadcast_among g.at.image g.at.state c.args.instr c.in-Broadcast.condition (own_of c.args.job.now g.at.owned g.at.shared) c.args.job.now.frames.room _ c.in-Broadcast.is (ap (λ (qs : List (List ℕ)). length qs) c.requires.0) c.requires.1.1.1.1.1)

pub returns-in-Out-clause-comes : goal.returns-in-Out-clause-comes
returns-in-Out-clause-comes g c =
    let f0 : FitsSigned w32 c.in-Out.device = search rules in
    puts_comes g.at.image g.at.state c.args.instr c.in-Out.device c.args.job.now g.at.owned g.at.shared c.put.result c.put.new.frames c.in-Out.is (simp to_z-of_z at c.put.ensures.does) c.requires.1.1.1.1.1

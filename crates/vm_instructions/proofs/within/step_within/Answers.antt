-- Each arm does what its instruction does.
use Rattle.std.proofs.Common.{w32, refl, rules}
use Rattle.std.specs.Prelude.{FitsSigned}
use Rattle.std.proofs.lemmas.Int.{to_z-of_z}
use Rattle.machine_isa.specs.declared.instr.Instr.TheVariants as i
use Rattle.vm_instructions.specs.Stack.{own_in}
use Rattle.vm_instructions.proofs.Arms.{on_locals, of_locals, on_operands, on_owned, of_owned, on_shared, of_shared, placed}
use Rattle.vm_instructions.proofs.Safe as safe
use Rattle.vm_instructions.proofs.within.step_within.Goals as goal

pub returns-in-Push-clause-done : goal.returns-in-Push-clause-done
returns-in-Push-clause-done g c =
    let f0 : FitsSigned w32 c.in-Push.value = search rules in
    let does = simp to_z-of_z at c.push.ensures.does in
    on_operands g.frame.image c.args.instr.now g.frame.job c.args.at.now c.args.stack.now c.args.locals.now c.args.owned.now c.args.shared.now (i.Push c.in-Push.value) c.push.new.top c.push.new.stack c.push.result c.in-Push.is refl does c.push.ensures.acts

pub returns-in-LoadLocal-clause-done : goal.returns-in-LoadLocal-clause-done
returns-in-LoadLocal-clause-done g c =
    let f0 : FitsSigned w32 c.in-LoadLocal.word = search rules in
    let does = simp to_z-of_z at c.load_local.ensures.does in
    of_locals g.frame.image c.args.instr.now g.frame.job c.args.at.now c.args.stack.now c.args.locals.now c.args.owned.now c.args.shared.now (i.LoadLocal c.in-LoadLocal.word) c.load_local.new.top c.load_local.new.stack c.load_local.result c.in-LoadLocal.is refl does c.load_local.ensures.acts

pub returns-in-StoreLocal-clause-done : goal.returns-in-StoreLocal-clause-done
returns-in-StoreLocal-clause-done g c =
    let f0 : FitsSigned w32 c.in-StoreLocal.word = search rules in
    let does = simp to_z-of_z at c.store_local.ensures.does in
    on_locals g.frame.image c.args.instr.now g.frame.job c.args.at.now c.args.stack.now c.args.locals.now c.args.owned.now c.args.shared.now (i.StoreLocal c.in-StoreLocal.word) c.store_local.new.top c.args.stack.now c.store_local.new.locals c.store_local.result c.in-StoreLocal.is refl does c.store_local.ensures.acts c.store_local.ensures.words

pub returns-in-LoadOwn-clause-done : goal.returns-in-LoadOwn-clause-done
returns-in-LoadOwn-clause-done g c =
    let f0 : FitsSigned w32 c.in-LoadOwn.word = search rules in
    let does = simp to_z-of_z at c.load_own.ensures.does in
    of_owned g.frame.image c.args.instr.now g.frame.job c.args.at.now c.args.stack.now c.args.locals.now c.args.owned.now c.args.shared.now (i.LoadOwn c.in-LoadOwn.word) c.load_own.new.top c.load_own.new.stack c.load_own.result c.in-LoadOwn.is refl does c.load_own.ensures.acts

pub returns-in-StoreOwn-clause-done : goal.returns-in-StoreOwn-clause-done
returns-in-StoreOwn-clause-done g c =
    let f0 : FitsSigned w32 c.in-StoreOwn.word = search rules in
    let does = simp to_z-of_z at c.store_own.ensures.does in
    on_owned g.frame.image c.args.instr.now g.frame.job c.args.at.now c.args.stack.now c.args.locals.now c.args.owned.now c.args.shared.now (i.StoreOwn c.in-StoreOwn.word) c.store_own.new.top c.args.stack.now c.store_own.new.owned c.store_own.result c.in-StoreOwn.is refl does c.store_own.ensures.acts c.store_own.ensures.words

pub returns-in-LoadMon-clause-done : goal.returns-in-LoadMon-clause-done
returns-in-LoadMon-clause-done g c =
    let f0 : FitsSigned w32 c.in-LoadMon.word = search rules in
    let does = simp to_z-of_z at c.load_mon.ensures.does in
    of_shared g.frame.image c.args.instr.now g.frame.job c.args.at.now c.args.stack.now c.args.locals.now c.args.owned.now c.args.shared.now (i.LoadMon c.in-LoadMon.word) c.load_mon.new.top c.load_mon.new.stack c.load_mon.result c.in-LoadMon.is refl (λ s. does g.frame.image s (own_in g.frame.job c.args.at.now c.args.stack.now c.args.locals.now c.args.owned.now c.args.shared.now) ((safe.load_mon_reached g.frame.image c.args.instr.now g.frame.job c.args.at.now c.args.stack.now c.args.locals.now c.args.owned.now c.args.shared.now g.frame.room c.in-LoadMon.word c.in-LoadMon.is c.requires.1.0))) c.load_mon.ensures.acts

pub returns-in-StoreMon-clause-done : goal.returns-in-StoreMon-clause-done
returns-in-StoreMon-clause-done g c =
    let f0 : FitsSigned w32 c.in-StoreMon.word = search rules in
    let does = simp to_z-of_z at c.store_mon.ensures.does in
    on_shared g.frame.image c.args.instr.now g.frame.job c.args.at.now c.args.stack.now c.args.locals.now c.args.owned.now c.args.shared.now (i.StoreMon c.in-StoreMon.word) c.store_mon.new.top c.args.stack.now c.store_mon.new.shared c.store_mon.result c.in-StoreMon.is refl (λ s. does g.frame.image s (own_in g.frame.job c.args.at.now c.args.stack.now c.args.locals.now c.args.owned.now c.args.shared.now) ((safe.store_mon_reached g.frame.image c.args.instr.now g.frame.job c.args.at.now c.args.stack.now c.args.locals.now c.args.owned.now c.args.shared.now g.frame.room c.in-StoreMon.word c.in-StoreMon.is c.requires.1.0))) c.store_mon.ensures.acts c.store_mon.ensures.words

pub returns-in-LoadLocalAt-clause-done : goal.returns-in-LoadLocalAt-clause-done
returns-in-LoadLocalAt-clause-done g c =
    let f0 : FitsSigned w32 c.in-LoadLocalAt.word = search rules in
    let f1 : FitsSigned w32 c.in-LoadLocalAt.low = search rules in
    let f2 : FitsSigned w32 c.in-LoadLocalAt.len = search rules in
    let does = simp to_z-of_z at c.load_local_at.ensures.does in
    of_locals g.frame.image c.args.instr.now g.frame.job c.args.at.now c.args.stack.now c.args.locals.now c.args.owned.now c.args.shared.now (i.LoadLocalAt c.in-LoadLocalAt.word c.in-LoadLocalAt.low c.in-LoadLocalAt.len) c.load_local_at.new.top c.load_local_at.new.stack c.load_local_at.result c.in-LoadLocalAt.is refl does c.load_local_at.ensures.acts

pub returns-in-StoreLocalAt-clause-done : goal.returns-in-StoreLocalAt-clause-done
returns-in-StoreLocalAt-clause-done g c =
    let f0 : FitsSigned w32 c.in-StoreLocalAt.word = search rules in
    let f1 : FitsSigned w32 c.in-StoreLocalAt.low = search rules in
    let f2 : FitsSigned w32 c.in-StoreLocalAt.len = search rules in
    let does = simp to_z-of_z at c.store_local_at.ensures.does in
    on_locals g.frame.image c.args.instr.now g.frame.job c.args.at.now c.args.stack.now c.args.locals.now c.args.owned.now c.args.shared.now (i.StoreLocalAt c.in-StoreLocalAt.word c.in-StoreLocalAt.low c.in-StoreLocalAt.len) c.store_local_at.new.top c.args.stack.now c.store_local_at.new.locals c.store_local_at.result c.in-StoreLocalAt.is refl does c.store_local_at.ensures.acts c.store_local_at.ensures.words

pub returns-in-LoadOwnAt-clause-done : goal.returns-in-LoadOwnAt-clause-done
returns-in-LoadOwnAt-clause-done g c =
    let f0 : FitsSigned w32 c.in-LoadOwnAt.word = search rules in
    let f1 : FitsSigned w32 c.in-LoadOwnAt.low = search rules in
    let f2 : FitsSigned w32 c.in-LoadOwnAt.len = search rules in
    let does = simp to_z-of_z at c.load_own_at.ensures.does in
    of_owned g.frame.image c.args.instr.now g.frame.job c.args.at.now c.args.stack.now c.args.locals.now c.args.owned.now c.args.shared.now (i.LoadOwnAt c.in-LoadOwnAt.word c.in-LoadOwnAt.low c.in-LoadOwnAt.len) c.load_own_at.new.top c.load_own_at.new.stack c.load_own_at.result c.in-LoadOwnAt.is refl does c.load_own_at.ensures.acts

pub returns-in-StoreOwnAt-clause-done : goal.returns-in-StoreOwnAt-clause-done
returns-in-StoreOwnAt-clause-done g c =
    let f0 : FitsSigned w32 c.in-StoreOwnAt.word = search rules in
    let f1 : FitsSigned w32 c.in-StoreOwnAt.low = search rules in
    let f2 : FitsSigned w32 c.in-StoreOwnAt.len = search rules in
    let does = simp to_z-of_z at c.store_own_at.ensures.does in
    on_owned g.frame.image c.args.instr.now g.frame.job c.args.at.now c.args.stack.now c.args.locals.now c.args.owned.now c.args.shared.now (i.StoreOwnAt c.in-StoreOwnAt.word c.in-StoreOwnAt.low c.in-StoreOwnAt.len) c.store_own_at.new.top c.args.stack.now c.store_own_at.new.owned c.store_own_at.result c.in-StoreOwnAt.is refl does c.store_own_at.ensures.acts c.store_own_at.ensures.words

pub returns-in-LoadMonAt-clause-done : goal.returns-in-LoadMonAt-clause-done
returns-in-LoadMonAt-clause-done g c =
    let f0 : FitsSigned w32 c.in-LoadMonAt.word = search rules in
    let f1 : FitsSigned w32 c.in-LoadMonAt.low = search rules in
    let f2 : FitsSigned w32 c.in-LoadMonAt.len = search rules in
    let does = simp to_z-of_z at c.load_mon_at.ensures.does in
    of_shared g.frame.image c.args.instr.now g.frame.job c.args.at.now c.args.stack.now c.args.locals.now c.args.owned.now c.args.shared.now (i.LoadMonAt c.in-LoadMonAt.word c.in-LoadMonAt.low c.in-LoadMonAt.len) c.load_mon_at.new.top c.load_mon_at.new.stack c.load_mon_at.result c.in-LoadMonAt.is refl (λ s. does g.frame.image s (own_in g.frame.job c.args.at.now c.args.stack.now c.args.locals.now c.args.owned.now c.args.shared.now) ((safe.load_mon_at g.frame.image c.args.instr.now g.frame.job c.args.at.now c.args.stack.now c.args.locals.now c.args.owned.now c.args.shared.now g.frame.room c.in-LoadMonAt.word c.in-LoadMonAt.low c.in-LoadMonAt.len c.in-LoadMonAt.is c.requires.1.0).1)) c.load_mon_at.ensures.acts

pub returns-in-StoreMonAt-clause-done : goal.returns-in-StoreMonAt-clause-done
returns-in-StoreMonAt-clause-done g c =
    let f0 : FitsSigned w32 c.in-StoreMonAt.word = search rules in
    let f1 : FitsSigned w32 c.in-StoreMonAt.low = search rules in
    let f2 : FitsSigned w32 c.in-StoreMonAt.len = search rules in
    let does = simp to_z-of_z at c.store_mon_at.ensures.does in
    on_shared g.frame.image c.args.instr.now g.frame.job c.args.at.now c.args.stack.now c.args.locals.now c.args.owned.now c.args.shared.now (i.StoreMonAt c.in-StoreMonAt.word c.in-StoreMonAt.low c.in-StoreMonAt.len) c.store_mon_at.new.top c.args.stack.now c.store_mon_at.new.shared c.store_mon_at.result c.in-StoreMonAt.is refl (λ s. does g.frame.image s (own_in g.frame.job c.args.at.now c.args.stack.now c.args.locals.now c.args.owned.now c.args.shared.now) ((safe.store_mon_at g.frame.image c.args.instr.now g.frame.job c.args.at.now c.args.stack.now c.args.locals.now c.args.owned.now c.args.shared.now g.frame.room c.in-StoreMonAt.word c.in-StoreMonAt.low c.in-StoreMonAt.len c.in-StoreMonAt.is c.requires.1.0).1)) c.store_mon_at.ensures.acts c.store_mon_at.ensures.words

pub returns-in-Neg-clause-done : goal.returns-in-Neg-clause-done
returns-in-Neg-clause-done g c =
    on_operands g.frame.image c.args.instr.now g.frame.job c.args.at.now c.args.stack.now c.args.locals.now c.args.owned.now c.args.shared.now i.Neg c.neg.new.top c.neg.new.stack c.neg.result c.in-Neg.is refl c.neg.ensures.does c.neg.ensures.acts

pub returns-in-Not-clause-done : goal.returns-in-Not-clause-done
returns-in-Not-clause-done g c =
    on_operands g.frame.image c.args.instr.now g.frame.job c.args.at.now c.args.stack.now c.args.locals.now c.args.owned.now c.args.shared.now i.Not c.not.new.top c.not.new.stack c.not.result c.in-Not.is refl c.not.ensures.does c.not.ensures.acts

pub returns-in-And-clause-done : goal.returns-in-And-clause-done
returns-in-And-clause-done g c =
    on_operands g.frame.image c.args.instr.now g.frame.job c.args.at.now c.args.stack.now c.args.locals.now c.args.owned.now c.args.shared.now i.And c.and.new.top c.and.new.stack c.and.result c.in-And.is refl c.and.ensures.does c.and.ensures.acts

pub returns-in-Or-clause-done : goal.returns-in-Or-clause-done
returns-in-Or-clause-done g c =
    on_operands g.frame.image c.args.instr.now g.frame.job c.args.at.now c.args.stack.now c.args.locals.now c.args.owned.now c.args.shared.now i.Or c.or.new.top c.or.new.stack c.or.result c.in-Or.is refl c.or.ensures.does c.or.ensures.acts

pub returns-in-Add-clause-done : goal.returns-in-Add-clause-done
returns-in-Add-clause-done g c =
    on_operands g.frame.image c.args.instr.now g.frame.job c.args.at.now c.args.stack.now c.args.locals.now c.args.owned.now c.args.shared.now i.Add c.add.new.top c.add.new.stack c.add.result c.in-Add.is refl c.add.ensures.does c.add.ensures.acts

pub returns-in-Sub-clause-done : goal.returns-in-Sub-clause-done
returns-in-Sub-clause-done g c =
    on_operands g.frame.image c.args.instr.now g.frame.job c.args.at.now c.args.stack.now c.args.locals.now c.args.owned.now c.args.shared.now i.Sub c.sub.new.top c.sub.new.stack c.sub.result c.in-Sub.is refl c.sub.ensures.does c.sub.ensures.acts

pub returns-in-Eq-clause-done : goal.returns-in-Eq-clause-done
returns-in-Eq-clause-done g c =
    on_operands g.frame.image c.args.instr.now g.frame.job c.args.at.now c.args.stack.now c.args.locals.now c.args.owned.now c.args.shared.now i.Eq c.eq.new.top c.eq.new.stack c.eq.result c.in-Eq.is refl c.eq.ensures.does c.eq.ensures.acts

pub returns-in-Ne-clause-done : goal.returns-in-Ne-clause-done
returns-in-Ne-clause-done g c =
    on_operands g.frame.image c.args.instr.now g.frame.job c.args.at.now c.args.stack.now c.args.locals.now c.args.owned.now c.args.shared.now i.Ne c.ne.new.top c.ne.new.stack c.ne.result c.in-Ne.is refl c.ne.ensures.does c.ne.ensures.acts

pub returns-in-Lt-clause-done : goal.returns-in-Lt-clause-done
returns-in-Lt-clause-done g c =
    on_operands g.frame.image c.args.instr.now g.frame.job c.args.at.now c.args.stack.now c.args.locals.now c.args.owned.now c.args.shared.now i.Lt c.lt.new.top c.lt.new.stack c.lt.result c.in-Lt.is refl c.lt.ensures.does c.lt.ensures.acts

pub returns-in-Le-clause-done : goal.returns-in-Le-clause-done
returns-in-Le-clause-done g c =
    on_operands g.frame.image c.args.instr.now g.frame.job c.args.at.now c.args.stack.now c.args.locals.now c.args.owned.now c.args.shared.now i.Le c.le.new.top c.le.new.stack c.le.result c.in-Le.is refl c.le.ensures.does c.le.ensures.acts

pub returns-in-Gt-clause-done : goal.returns-in-Gt-clause-done
returns-in-Gt-clause-done g c =
    on_operands g.frame.image c.args.instr.now g.frame.job c.args.at.now c.args.stack.now c.args.locals.now c.args.owned.now c.args.shared.now i.Gt c.gt.new.top c.gt.new.stack c.gt.result c.in-Gt.is refl c.gt.ensures.does c.gt.ensures.acts

pub returns-in-Ge-clause-done : goal.returns-in-Ge-clause-done
returns-in-Ge-clause-done g c =
    on_operands g.frame.image c.args.instr.now g.frame.job c.args.at.now c.args.stack.now c.args.locals.now c.args.owned.now c.args.shared.now i.Ge c.ge.new.top c.ge.new.stack c.ge.result c.in-Ge.is refl c.ge.ensures.does c.ge.ensures.acts

pub returns-in-Mul-clause-done : goal.returns-in-Mul-clause-done
returns-in-Mul-clause-done g c =
    on_operands g.frame.image c.args.instr.now g.frame.job c.args.at.now c.args.stack.now c.args.locals.now c.args.owned.now c.args.shared.now i.Mul c.mul.new.top c.mul.new.stack c.mul.result c.in-Mul.is refl c.mul.ensures.does c.mul.ensures.acts

pub returns-in-Div-clause-done : goal.returns-in-Div-clause-done
returns-in-Div-clause-done g c =
    on_operands g.frame.image c.args.instr.now g.frame.job c.args.at.now c.args.stack.now c.args.locals.now c.args.owned.now c.args.shared.now i.Div c.div.new.top c.div.new.stack c.div.result c.in-Div.is refl c.div.ensures.does c.div.ensures.acts

pub returns-in-Mod-clause-done : goal.returns-in-Mod-clause-done
returns-in-Mod-clause-done g c =
    on_operands g.frame.image c.args.instr.now g.frame.job c.args.at.now c.args.stack.now c.args.locals.now c.args.owned.now c.args.shared.now i.Mod c.rem.new.top c.rem.new.stack c.rem.result c.in-Mod.is refl c.rem.ensures.does c.rem.ensures.acts

pub returns-in-Range-clause-done : goal.returns-in-Range-clause-done
returns-in-Range-clause-done g c =
    let f0 : FitsSigned w32 c.in-Range.low = search rules in
    let f1 : FitsSigned w32 c.in-Range.high = search rules in
    let does = simp to_z-of_z at c.range.ensures.does in
    on_operands g.frame.image c.args.instr.now g.frame.job c.args.at.now c.args.stack.now c.args.locals.now c.args.owned.now c.args.shared.now (i.Range c.in-Range.low c.in-Range.high) c.range.new.top c.range.new.stack c.range.result c.in-Range.is refl does c.range.ensures.acts

pub returns-in-JumpZero-clause-done : goal.returns-in-JumpZero-clause-done
returns-in-JumpZero-clause-done g c =
    let f0 : FitsSigned w32 c.in-JumpZero.to = search rules in
    let does = simp to_z-of_z at c.jump_zero.ensures.does in
    placed g.frame.image c.args.instr.now g.frame.job c.args.at.now c.args.stack.now c.args.locals.now c.args.owned.now c.args.shared.now (i.JumpZero c.in-JumpZero.to) c.jump_zero.new.place c.jump_zero.new.top c.args.stack.now c.jump_zero.result c.in-JumpZero.is refl does c.jump_zero.ensures.acts

pub returns-in-Jump-clause-done : goal.returns-in-Jump-clause-done
returns-in-Jump-clause-done g c =
    let f0 : FitsSigned w32 c.in-Jump.to = search rules in
    let does = simp to_z-of_z at c.jump.ensures.does in
    placed g.frame.image c.args.instr.now g.frame.job c.args.at.now c.args.stack.now c.args.locals.now c.args.owned.now c.args.shared.now (i.Jump c.in-Jump.to) c.jump.new.place c.args.at.now.top c.args.stack.now c.jump.result c.in-Jump.is refl (does _) c.jump.ensures.acts

pub returns-in-Repeats-clause-done : goal.returns-in-Repeats-clause-done
returns-in-Repeats-clause-done g c =
    let f0 : FitsSigned w32 c.in-Repeats.turns = search rules in
    let does = simp to_z-of_z at c.repeats.ensures.does in
    on_operands g.frame.image c.args.instr.now g.frame.job c.args.at.now c.args.stack.now c.args.locals.now c.args.owned.now c.args.shared.now (i.Repeats c.in-Repeats.turns) c.repeats.new.top c.repeats.new.stack c.repeats.result c.in-Repeats.is refl does c.repeats.ensures.acts

pub returns-in-Repeat-clause-done : goal.returns-in-Repeat-clause-done
returns-in-Repeat-clause-done g c =
    let f0 : FitsSigned w32 c.in-Repeat.to = search rules in
    let does = simp to_z-of_z at c.repeat.ensures.does in
    placed g.frame.image c.args.instr.now g.frame.job c.args.at.now c.args.stack.now c.args.locals.now c.args.owned.now c.args.shared.now (i.Repeat c.in-Repeat.to) c.repeat.new.place c.repeat.new.top c.repeat.new.stack c.repeat.result c.in-Repeat.is refl does c.repeat.ensures.acts

pub returns-in-Exit-clause-done : goal.returns-in-Exit-clause-done
returns-in-Exit-clause-done g c =
    let f0 : FitsSigned w32 c.in-Exit.to = search rules in
    let does = simp to_z-of_z at c.exit.ensures.does in
    placed g.frame.image c.args.instr.now g.frame.job c.args.at.now c.args.stack.now c.args.locals.now c.args.owned.now c.args.shared.now (i.Exit c.in-Exit.to) c.exit.new.place c.exit.new.top c.args.stack.now c.exit.result c.in-Exit.is refl does c.exit.ensures.acts

pub load_local_at-requires-clause-word : goal.load_local_at-requires-clause-word
load_local_at-requires-clause-word g c =
    let f0 : FitsSigned w32 c.in-LoadLocalAt.word = search rules in
    let f1 : FitsSigned w32 c.in-LoadLocalAt.low = search rules in
    let f2 : FitsSigned w32 c.in-LoadLocalAt.len = search rules in
    simp to_z-of_z ((safe.load_local_at g.frame.image c.args.instr.now g.frame.job c.args.at.now c.args.stack.now c.args.locals.now c.args.owned.now c.args.shared.now g.frame.room c.in-LoadLocalAt.word c.in-LoadLocalAt.low c.in-LoadLocalAt.len c.in-LoadLocalAt.is c.requires.1.0))

pub store_local_at-requires-clause-word : goal.store_local_at-requires-clause-word
store_local_at-requires-clause-word g c =
    let f0 : FitsSigned w32 c.in-StoreLocalAt.word = search rules in
    let f1 : FitsSigned w32 c.in-StoreLocalAt.low = search rules in
    let f2 : FitsSigned w32 c.in-StoreLocalAt.len = search rules in
    simp to_z-of_z ((safe.store_local_at g.frame.image c.args.instr.now g.frame.job c.args.at.now c.args.stack.now c.args.locals.now c.args.owned.now c.args.shared.now g.frame.room c.in-StoreLocalAt.word c.in-StoreLocalAt.low c.in-StoreLocalAt.len c.in-StoreLocalAt.is c.requires.1.0))

pub load_own_at-requires-clause-word : goal.load_own_at-requires-clause-word
load_own_at-requires-clause-word g c =
    let f0 : FitsSigned w32 c.in-LoadOwnAt.word = search rules in
    let f1 : FitsSigned w32 c.in-LoadOwnAt.low = search rules in
    let f2 : FitsSigned w32 c.in-LoadOwnAt.len = search rules in
    simp to_z-of_z ((safe.load_own_at g.frame.image c.args.instr.now g.frame.job c.args.at.now c.args.stack.now c.args.locals.now c.args.owned.now c.args.shared.now g.frame.room c.in-LoadOwnAt.word c.in-LoadOwnAt.low c.in-LoadOwnAt.len c.in-LoadOwnAt.is c.requires.1.0))

pub store_own_at-requires-clause-word : goal.store_own_at-requires-clause-word
store_own_at-requires-clause-word g c =
    let f0 : FitsSigned w32 c.in-StoreOwnAt.word = search rules in
    let f1 : FitsSigned w32 c.in-StoreOwnAt.low = search rules in
    let f2 : FitsSigned w32 c.in-StoreOwnAt.len = search rules in
    simp to_z-of_z ((safe.store_own_at g.frame.image c.args.instr.now g.frame.job c.args.at.now c.args.stack.now c.args.locals.now c.args.owned.now c.args.shared.now g.frame.room c.in-StoreOwnAt.word c.in-StoreOwnAt.low c.in-StoreOwnAt.len c.in-StoreOwnAt.is c.requires.1.0))

pub load_mon_at-requires-clause-word : goal.load_mon_at-requires-clause-word
load_mon_at-requires-clause-word g c =
    let f0 : FitsSigned w32 c.in-LoadMonAt.word = search rules in
    let f1 : FitsSigned w32 c.in-LoadMonAt.low = search rules in
    let f2 : FitsSigned w32 c.in-LoadMonAt.len = search rules in
    simp to_z-of_z ((safe.load_mon_at g.frame.image c.args.instr.now g.frame.job c.args.at.now c.args.stack.now c.args.locals.now c.args.owned.now c.args.shared.now g.frame.room c.in-LoadMonAt.word c.in-LoadMonAt.low c.in-LoadMonAt.len c.in-LoadMonAt.is c.requires.1.0).0)

pub store_mon_at-requires-clause-word : goal.store_mon_at-requires-clause-word
store_mon_at-requires-clause-word g c =
    let f0 : FitsSigned w32 c.in-StoreMonAt.word = search rules in
    let f1 : FitsSigned w32 c.in-StoreMonAt.low = search rules in
    let f2 : FitsSigned w32 c.in-StoreMonAt.len = search rules in
    simp to_z-of_z ((safe.store_mon_at g.frame.image c.args.instr.now g.frame.job c.args.at.now c.args.stack.now c.args.locals.now c.args.owned.now c.args.shared.now g.frame.room c.in-StoreMonAt.word c.in-StoreMonAt.low c.in-StoreMonAt.len c.in-StoreMonAt.is c.requires.1.0).0)

pub push-requires : goal.push-requires
push-requires g c = (safe.push_place g.frame.image c.args.instr.now g.frame.job c.args.at.now c.args.stack.now c.args.locals.now c.args.owned.now c.args.shared.now g.frame.room c.in-Push.value c.in-Push.is c.requires.1.0 c.requires.1.1)

pub load_local-requires-clause-room : goal.load_local-requires-clause-room
load_local-requires-clause-room g c = (safe.load_local_place g.frame.image c.args.instr.now g.frame.job c.args.at.now c.args.stack.now c.args.locals.now c.args.owned.now c.args.shared.now g.frame.room c.in-LoadLocal.word c.in-LoadLocal.is c.requires.1.0 c.requires.1.1)

pub load_own-requires-clause-room : goal.load_own-requires-clause-room
load_own-requires-clause-room g c = (safe.load_own_place g.frame.image c.args.instr.now g.frame.job c.args.at.now c.args.stack.now c.args.locals.now c.args.owned.now c.args.shared.now g.frame.room c.in-LoadOwn.word c.in-LoadOwn.is c.requires.1.0 c.requires.1.1)

pub load_mon-requires-clause-room : goal.load_mon-requires-clause-room
load_mon-requires-clause-room g c = (safe.load_mon_place g.frame.image c.args.instr.now g.frame.job c.args.at.now c.args.stack.now c.args.locals.now c.args.owned.now c.args.shared.now g.frame.room c.in-LoadMon.word c.in-LoadMon.is c.requires.1.0 c.requires.1.1)

pub repeats-requires-clause-room : goal.repeats-requires-clause-room
repeats-requires-clause-room g c = (safe.repeats_place g.frame.image c.args.instr.now g.frame.job c.args.at.now c.args.stack.now c.args.locals.now c.args.owned.now c.args.shared.now g.frame.room c.in-Repeats.turns c.in-Repeats.is c.requires.1.0 c.requires.1.1)

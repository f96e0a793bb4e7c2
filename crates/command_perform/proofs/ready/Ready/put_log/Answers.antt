use Rattle.std.proofs.Common.{sym, subst}
use Rattle.machine_semantics.specs.Image.{Image}
use Rattle.vm_state.specs.Plan.{IsOf}
use Rattle.command_perform.proofs.ready.Ready.put_log.Goals as goal

pub put_log-requires : goal.put_log-requires
put_log-requires g c = λ κs lives.
    let same = c.requires.1.0 in
    let ready = c.requires.1.1 in (
      lives,
      (same, (subst (λ (image : Image). IsOf image c.args.self.now.plan) (sym same) ready.plan, ready.course)),
    )

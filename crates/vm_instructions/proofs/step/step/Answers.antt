-- What the frame leaves is done beyond it.
use Rattle.std.proofs.Common.{◌∙◌, ℕ, refl, sym, subst}
use Rattle.vm_instructions.specs.Silent.{IsSafe, own_of}
use Rattle.vm_instructions.specs.Within.{Beyond}
use Rattle.vm_instructions.proofs.step.step.Goals as goal

pub step_innermost-came-requires : goal.step_innermost-came-requires
step_innermost-came-requires g c = (record { job_is = refl; room_is = refl }, c.requires.1)

pub go_beyond-requires : goal.go_beyond-requires
go_beyond-requires g c = record {
  came = (
    record { image = g.image; code = c.args.code.now; instr = c.args.instr; old = own_of c.args.job.now c.args.owned.now c.args.shared.now },
    record {
      of = c.requires.0;
      safe = subst (λ (n : ℕ). IsSafe g.image c.args.instr (own_of c.args.job.now c.args.owned.now c.args.shared.now) n) (sym c.step_innermost-came.ensures.room) c.requires.1;
      so_far = c.step_innermost-came.ensures.done;
    },
  );
}

pub returns-clause-done : goal.returns-clause-done
returns-clause-done g c =
    let b : Beyond = record { image = g.image; code = c.args.code.now; instr = c.args.instr; old = own_of c.args.job.now c.args.owned.now c.args.shared.now } in
    c.go_beyond.ensures.done b (record {
      of = c.requires.0;
      safe = subst (λ (n : ℕ). IsSafe g.image c.args.instr (own_of c.args.job.now c.args.owned.now c.args.shared.now) n) (sym c.step_innermost-came.ensures.room) c.requires.1;
      so_far = c.step_innermost-came.ensures.done;
    })

pub returns-clause-room : goal.returns-clause-room
returns-clause-room g c = c.go_beyond.ensures.room ∙ c.step_innermost-came.ensures.room

pub returns-clause-inside : goal.returns-clause-inside
returns-clause-inside g c = c.go_beyond.ensures.inside ∙ c.step_innermost-came.ensures.inside

pub returns-clause-dispatch_ticks : goal.returns-clause-dispatch_ticks
returns-clause-dispatch_ticks g c = c.go_beyond.ensures.dispatch_ticks ∙ c.step_innermost-came.ensures.dispatch_ticks

use Rattle.std.proofs.Common.{◌-◌, Some, ap, ◌∙◌}
use Rattle.sched_response.specs.Demand.{demand_at}
use Rattle.valid_image.specs.Fault.{Fault}
use Rattle.std.specs.Prelude.{nat_le}
use Rattle.faulty_part.specs.declared.part.FaultyPart.TheVariants as part
use Rattle.faulty_part.specs.declared.part.Subject.{Subject}
use Rattle.validity_parts.proofs.BoundTests.{which, no_test}
use Rattle.validity_parts.proofs.bounds.process_fault.Goals as goal

pub returns-in-Some : goal.returns-in-Some
returns-in-Some c =
    let p = c.args.process.now in
    let f : Fault = record { a = c.in-Some.fault.a; b = c.in-Some.fault.b } in
    ap (λ (s : Subject). Some (record { part = part.Process c.args.number; subject = s; a = f.a; b = f.b })) c.subject_of.ensures
    ∙ which (part.Process c.args.number) f p.bound (demand_at c.args.set.now (p.rank - 1) p.bound) p.deadline c.in-Some.ensures

pub returns-in-None : goal.returns-in-None
returns-in-None c =
    let p = c.args.process.now in
    let demand = demand_at c.args.set.now (p.rank - 1) p.bound in
    no_test (part.Process c.args.number) (nat_le demand p.bound) (nat_le p.bound p.deadline) p.bound demand p.deadline c.in-None.ensures

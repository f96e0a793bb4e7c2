use Rattle.syntax_tree.specs.Placed.{placed, plain}
use Rattle.code_names.specs.Parts.{process_of}
use Rattle.codegen_texts.specs.Texts.{told_process, process_text, process_texts}
use Rattle.codegen_texts.proofs.Lists.{told_more}
use Rattle.codegen_texts.proofs.Told.{process_there}
use Rattle.codegen_texts.proofs.builder.TextsBuilder.process.Goals as goal

pub invariant_of-self-2 : goal.invariant_of-self-2
invariant_of-self-2 g c =
    let next = rw (← c.self.view_is) at c.requires.next in
    let program = rw (← c.self.view_is) at c.requires.program in
    let scope = rw (← c.self.view_is) at c.requires.scope in
    let p = plain (placed c.self.inside.tables.now) in
    let t = process_of c.args.process in
    record {
      routines_are = c.self.invariant.routines_are;
      processes_are = told_more (told_process g.N.Lookup.program g.N.Lookup.scope) c.self.inside.processes.items c.push.new.self.items (process_texts p) (record { process = c.args.process; names = c.args.names }) (process_text p _ t)
          c.in_ok-push.ensures.items c.self.invariant.processes_are (process_there p _ t next)
          (λ i. record { process = t; program = program i; scope = scope i });
    }

pub invariant_of-self : goal.invariant_of-self
invariant_of-self g c = rw c.in_err-push.ensures.items c.self.invariant

use Rattle.syntax_tree.specs.Placed.{placed, plain}
use Rattle.code_names.specs.Texts.{text_of}
use Rattle.codegen_texts.specs.Texts.{told_routine, routine_text, routine_texts}
use Rattle.codegen_texts.proofs.Lists.{told_more}
use Rattle.codegen_texts.proofs.Told.{routine_there}
use Rattle.codegen_texts.proofs.builder.TextsBuilder.routine.Goals as goal

pub invariant_of-self-2 : goal.invariant_of-self-2
invariant_of-self-2 g c =
    let next = rw (← c.self.view_is) at c.requires.next in
    let program = rw (← c.self.view_is) at c.requires.program in
    let scope = rw (← c.self.view_is) at c.requires.scope in
    let words = rw c.values.ensures at c.in_ok-words.ensures.exact in
    let p = plain (placed c.self.inside.tables.now) in
    let t = text_of c.args.text in
    record {
      routines_are = told_more (told_routine g.N.Lookup.program g.N.Lookup.scope) c.self.inside.routines.items c.push.new.self.items (routine_texts p)
          (record { routine = c.args.text.routine; words = c.in_ok-words.words; names = c.args.names; small = c.push-arg-2-1.given.0 }) (routine_text p t)
          c.in_ok-push.ensures.items c.self.invariant.routines_are (routine_there p _ t next)
          (λ i. record { routine = t.routine; words = words i; program = program i; scope = scope i });
      processes_are = c.self.invariant.processes_are;
    }

pub invariant_of-self : goal.invariant_of-self
invariant_of-self g c = rw c.in_err-push.ensures.items c.self.invariant

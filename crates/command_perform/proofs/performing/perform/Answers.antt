use Rattle.std.proofs.Common.{Err, ap, sym, subst}
use Rattle.outside.specs.Outside.{outside}
use Rattle.command_perform.specs.Performed.{Performed}
use Rattle.command_perform.proofs.Ends.{not_stored, some_store, write_cause}
use Rattle.command_perform.proofs.performing.perform.Goals as goal

pub unwritten-requires : goal.unwritten-requires
unwritten-requires g c =
    some_store c.args.act.now.store (g.F.Files.state c.args.files.now) (g.F.Files.state c.store.new.files) (c.in-Err-Failed.ensures.failed (ap Err c.in-Err-Failed.field-0-is))

pub returns-in-Err-Failed-clause-performed : goal.returns-in-Err-Failed-clause-performed
returns-in-Err-Failed-clause-performed g c =
    subst (λ n. Performed g.F.Files.tells c.args.act.now (outside (g.F.Files.state c.args.files.now) (g.O.Sink.state c.args.out.now)) (outside (g.F.Files.state c.store.new.files) (g.O.Sink.state c.args.out.now)) n)
    (sym c.unwritten.ensures.number)
    (not_stored g.F.Files.tells c.args.act.now (g.F.Files.state c.args.files.now) (g.F.Files.state c.store.new.files) (g.O.Sink.state c.args.out.now)
    (c.in-Err-Failed.ensures.failed (ap Err c.in-Err-Failed.field-0-is)) c.in-Err-Failed.ensures.others c.in-Err-Failed.ensures.reads c.in-Err-Failed.ensures.written)

pub returns-in-Err-Failed-clause-cause : goal.returns-in-Err-Failed-clause-cause
returns-in-Err-Failed-clause-cause g c =
    write_cause c.args.act.now.store (g.F.Files.state c.args.files.now) (g.F.Files.state c.store.new.files) (g.O.Sink.state c.args.out.now) c.unwritten.result c.unwritten.ensures.name
    (c.in-Err-Failed.ensures.failed (ap Err c.in-Err-Failed.field-0-is))

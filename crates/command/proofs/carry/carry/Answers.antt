use Rattle.command_words.specs.Words.{call_of}
use Rattle.command_answers.specs.Acts.{number_of}
use Rattle.std.proofs.Common.{List, ℕ, subst, sym}
use Rattle.std.specs.Borrow.{Bor}
use Rattle.outside.specs.Outside.{outside}
use Rattle.command_answers.specs.declared.status.Status.TheVariants as status
use Rattle.command_answers.specs.Causes.{HasCause}
use Rattle.command_answers.specs.Files.{listed, sources_of, target_of}
use Rattle.command.proofs.Explained.{performed_right}
use Rattle.command.proofs.Tried.{performed_reads, performed_writes}
use Rattle.command.proofs.Went.{performed, performed_cause, unread_cause}
use Rattle.command.proofs.carry.carry.Goals as goal

pub returns-in-Ok-clause-went : goal.returns-in-Ok-clause-went
returns-in-Ok-clause-went g c =
    performed (call_of c.args.command.now) (g.F.Files.state c.args.files.now) (g.F.Files.state c.prepare.new.files) (g.F.Files.state c.perform.new.files) (g.O.Sink.state c.args.out.now) (g.O.Sink.state c.perform.new.out)
    c.in-Ok.act (number_of c.perform.result) c.in-Ok.ensures.only_reads.files c.in-Ok.ensures.only_reads.write_counts g.F.Files.tells c.in-Ok.ensures.prepared c.perform.ensures.performed

pub returns-in-Ok-clause-reads : goal.returns-in-Ok-clause-reads
returns-in-Ok-clause-reads g c =
    performed_reads (sources_of (call_of c.args.command.now)) _ _ _ (number_of c.in-Ok.act.status) (number_of c.perform.result)
    c.in-Ok.ensures.reads c.perform.ensures.performed.unread c.perform.ensures.performed.range c.in-Ok.ensures.prepared.answered.2

pub returns-in-Ok-clause-writes : goal.returns-in-Ok-clause-writes
returns-in-Ok-clause-writes g c =
    performed_writes (call_of c.args.command.now) c.in-Ok.act.store _ _ _ (number_of c.in-Ok.act.status) (number_of c.perform.result)
    c.in-Ok.ensures.prepared.at c.in-Ok.ensures.prepared.stored c.in-Ok.ensures.only_reads.writes c.perform.ensures.performed.written c.perform.ensures.performed.range

pub returns-in-Ok-clause-cause : goal.returns-in-Ok-clause-cause
returns-in-Ok-clause-cause g c =
    performed_cause (call_of c.args.command.now) (g.F.Files.state c.args.files.now) (g.F.Files.state c.prepare.new.files) (g.F.Files.state c.perform.new.files) (g.O.Sink.state c.args.out.now) (g.O.Sink.state c.perform.new.out)
    c.in-Ok.act.store c.perform.result c.in-Ok.ensures.prepared.at c.in-Ok.ensures.only_reads.read_counts c.in-Ok.ensures.only_reads.write_counts c.perform.ensures.cause

pub returns-in-Err-Unread-clause-cause : goal.returns-in-Err-Unread-clause-cause
returns-in-Err-Unread-clause-cause g c =
    let call = call_of c.args.command.now in
    let before = outside (g.F.Files.state c.args.files.now) (g.O.Sink.state c.args.out.now) in
    let now = outside (g.F.Files.state c.prepare.new.files) (g.O.Sink.state c.args.out.now) in
    subst (λ (n : Bor (List ℕ)). HasCause (sources_of call) (listed (target_of call)) before now (status.Unread n)) (sym c.in-Err-Unread.name-is)
    (unread_cause g.F.Files.tells call (g.F.Files.state c.args.files.now) (g.F.Files.state c.prepare.new.files) (g.O.Sink.state c.args.out.now) c.in-Err-Unread.field-0 _
    c.in-Err-Unread.ensures.prepared c.in-Err-Unread.field-0-is)

pub returns-in-Ok-clause-told : goal.returns-in-Ok-clause-told
returns-in-Ok-clause-told g c =
    performed_right g.F.Files.tells (call_of c.args.command.now) (g.F.Files.state c.args.files.now) (g.F.Files.state c.prepare.new.files) (g.F.Files.state c.perform.new.files) (g.O.Sink.state c.args.out.now)
    (g.O.Sink.state c.perform.new.out) c.in-Ok.act c.perform.result c.prepare.new.message c.in-Ok.ensures.prepared c.perform.ensures.performed c.in-Ok.ensures.told

use Rattle.std.proofs.Common.{refl, subst}
use Rattle.command_words.specs.Words.{IsRequest, call_of, load_of}
use Rattle.command.proofs.Explained.{command_right}
use Rattle.command.proofs.Loads.{made_as_asked}
use Rattle.command.proofs.Tried.{command_ended, command_read, command_written, load_ended, load_read, load_written}
use Rattle.command.proofs.carry.carry_out.Goals as goal

pub returns-in-None-clause-went : goal.returns-in-None-clause-went
returns-in-None-clause-went g c = λ call is. absurd (c.in-None.ensures.commands call is)

pub returns-in-Some-Load-clause-made : goal.returns-in-Some-Load-clause-made
returns-in-Some-Load-clause-made g c = λ load is.
    let asked = subst (IsRequest c.args.words.now) c.in-Some-Load.field-0-is c.in-Some-Load.ensures.some in
    made_as_asked c.one_load.ensures c.args.words.now (load_of c.in-Some-Load.load) load g.F.Files.tells _ _ _ asked c.make.ensures.made is

pub returns-in-Some-Load-clause-others : goal.returns-in-Some-Load-clause-others
returns-in-Some-Load-clause-others g c = λ name none.
    let asked = subst (IsRequest c.args.words.now) c.in-Some-Load.field-0-is c.in-Some-Load.ensures.some in
    c.make.ensures.made.others name (none.program (load_of c.in-Some-Load.load) asked) (none.script (load_of c.in-Some-Load.load) asked)

pub returns-in-Some-Load-clause-usage : goal.returns-in-Some-Load-clause-usage
returns-in-Some-Load-clause-usage g c = λ no none.
    let asked = subst (IsRequest c.args.words.now) c.in-Some-Load.field-0-is c.in-Some-Load.ensures.some in
    absurd (none (load_of c.in-Some-Load.load) asked)

pub returns-in-Some-Load-clause-kept : goal.returns-in-Some-Load-clause-kept
returns-in-Some-Load-clause-kept g c = λ none some other.
    let asked = subst (IsRequest c.args.words.now) c.in-Some-Load.field-0-is c.in-Some-Load.ensures.some in
    absurd (none (load_of c.in-Some-Load.load) asked)

pub returns-in-Some-Command-clause-reads : goal.returns-in-Some-Command-clause-reads
returns-in-Some-Command-clause-reads g c =
    let asked = subst (IsRequest c.args.words.now) c.in-Some-Command.field-0-is c.in-Some-Command.ensures.some in
    command_read c.one_command.ensures c.args.words.now (call_of c.in-Some-Command.command) _ _ _ asked.0 c.carry.ensures.reads

pub returns-in-Some-Command-clause-writes : goal.returns-in-Some-Command-clause-writes
returns-in-Some-Command-clause-writes g c =
    let asked = subst (IsRequest c.args.words.now) c.in-Some-Command.field-0-is c.in-Some-Command.ensures.some in
    command_written c.one_command.ensures c.no_command_is_a_load.ensures c.args.words.now (call_of c.in-Some-Command.command) _ _ _ asked.0 c.carry.ensures.writes

pub returns-in-Some-Load-clause-reads : goal.returns-in-Some-Load-clause-reads
returns-in-Some-Load-clause-reads g c =
    let asked = subst (IsRequest c.args.words.now) c.in-Some-Load.field-0-is c.in-Some-Load.ensures.some in
    load_read c.no_command_is_a_load.ensures c.args.words.now (load_of c.in-Some-Load.load) _ _ _ asked c.make.ensures.reads

pub returns-in-Some-Load-clause-writes : goal.returns-in-Some-Load-clause-writes
returns-in-Some-Load-clause-writes g c =
    let asked = subst (IsRequest c.args.words.now) c.in-Some-Load.field-0-is c.in-Some-Load.ensures.some in
    load_written c.one_load.ensures c.no_command_is_a_load.ensures c.args.words.now (load_of c.in-Some-Load.load) _ _ _ asked c.make.ensures.writes

pub returns-in-None-clause-reads : goal.returns-in-None-clause-reads
returns-in-None-clause-reads g c = record { command = λ call is. absurd (c.in-None.ensures.commands call is); other = λ no. refl }

pub returns-in-None-clause-writes : goal.returns-in-None-clause-writes
returns-in-None-clause-writes g c = record {
  command = λ call is. absurd (c.in-None.ensures.commands call is);
  load = λ load is. absurd (c.in-None.ensures.loads load is);
  other = λ no no_load. refl;
}

pub returns-in-Some-Command-clause-cause : goal.returns-in-Some-Command-clause-cause
returns-in-Some-Command-clause-cause g c =
    let asked = subst (IsRequest c.args.words.now) c.in-Some-Command.field-0-is c.in-Some-Command.ensures.some in
    command_ended c.one_command.ensures c.no_command_is_a_load.ensures c.args.words.now (call_of c.in-Some-Command.command) _ _ _ asked.0 c.carry.ensures.cause

pub returns-in-Some-Load-clause-cause : goal.returns-in-Some-Load-clause-cause
returns-in-Some-Load-clause-cause g c =
    let asked = subst (IsRequest c.args.words.now) c.in-Some-Load.field-0-is c.in-Some-Load.ensures.some in
    load_ended c.one_load.ensures c.no_command_is_a_load.ensures c.args.words.now (load_of c.in-Some-Load.load) _ _ _ asked c.make.ensures.cause

pub returns-in-None-clause-cause : goal.returns-in-None-clause-cause
returns-in-None-clause-cause g c = record {
  command = λ call is. absurd (c.in-None.ensures.commands call is);
  load = λ load is. absurd (c.in-None.ensures.loads load is);
  other = λ no no_load. c.usage.ensures.cause (g.F.Files.state c.args.files.now) (g.F.Files.state c.args.files.now);
}

pub returns-in-Some-Command-clause-told : goal.returns-in-Some-Command-clause-told
returns-in-Some-Command-clause-told g c =
    let asked = subst (IsRequest c.args.words.now) c.in-Some-Command.field-0-is c.in-Some-Command.ensures.some in
    command_right c.one_command.ensures g.F.Files.tells c.args.words.now (call_of c.in-Some-Command.command) _ _ _ c.carry.new.message asked.0 c.carry.ensures.told

pub returns-in-Some-Load-clause-told : goal.returns-in-Some-Load-clause-told
returns-in-Some-Load-clause-told g c = λ call is.
    let asked = subst (IsRequest c.args.words.now) c.in-Some-Load.field-0-is c.in-Some-Load.ensures.some in
    absurd (c.no_command_is_a_load.ensures c.args.words.now call (load_of c.in-Some-Load.load) is asked)

pub returns-in-None-clause-told : goal.returns-in-None-clause-told
returns-in-None-clause-told g c = λ call is. absurd (c.in-None.ensures.commands call is)

use Rattle.std.proofs.Common.{◌≡◌, ◌∙◌, Some, Err, ap, subst}
use Rattle.std.specs.Bool.{OnTrue}
use Rattle.command_answers.specs.Acts.{number_of}
use Rattle.command_words.specs.Words.{load_of}
use Rattle.command_answers.proofs.Caused.{cause_since}
use Rattle.command.proofs.Ends.{joined, unwritten}
use Rattle.command.proofs.making.make.Goals as goal

pub returns-in-Ok-write-clause-made : goal.returns-in-Ok-write-clause-made
returns-in-Ok-write-clause-made g c =
    let load = load_of c.args.load.now in
    let m = g.F.Files.state c.write.new.self in
    joined g.F.Files.tells load c.in-Ok.texts (g.F.Files.state c.args.files.now) m (g.F.Files.state c.store_script.new.files)
    (g.O.Sink.state c.args.out.now) (g.O.Sink.state c.store_script.new.out) (number_of c.store_script.result)
    c.in-Ok.ensures c.write.ensures.write_counts c.write.ensures.others
    (subst (λ bytes. OnTrue g.F.Files.tells (m.held load.program ≡ Some bytes)) (c.as_bytes.ensures ∙ c.in-Ok.ensures.program) c.in-Ok-write.ensures.stored)
    c.store_script.ensures.goes_on

pub returns-in-Err-Failed-clause-made : goal.returns-in-Err-Failed-clause-made
returns-in-Err-Failed-clause-made g c =
    unwritten g.F.Files.tells (load_of c.args.load.now) (g.F.Files.state c.args.files.now) (g.F.Files.state c.write.new.self) (g.O.Sink.state c.args.out.now)
    c.in-Ok.texts.summary c.in-Ok.ensures.summary c.write.ensures.others (c.in-Err-Failed.ensures.failed (ap Err c.in-Err-Failed.field-0-is))

use Rattle.std.proofs.Common.{◌+◌, [], ◌∷◌, ap, arith, length-append}
use Rattle.std.proofs.lemmas.List.Elements.{All-push}
use Rattle.text_fields.proofs.Numerals.{grind_some}
use Rattle.event_log.specs.Logs.{IsTold}
use Rattle.event_log.specs.Reader.{names_of}
use Rattle.event_log.proofs.Reading.{faulty, read_more, unlined, unlined_lacks}
use Rattle.event_log.proofs.reader.LogReader.next.Goals as goal

pub returns-in-None-clause-fault : goal.returns-in-None-clause-fault
returns-in-None-clause-fault c = λ text events read.
    let names = names_of c.args.self.now in let rest = c.args.self.now.rest.now in
    let some = grind_some rest c.is_empty.result c.is_empty.ensures c.if-is_empty.false in
    faulty names text events rest (c.args.self.now.lines + 1) read.short read.told read.whole (ap (λ n. n + 1) read.lines) some (unlined_lacks names rest c.in-None.ensures.none)

pub returns-in-None-read_line-clause-fault : goal.returns-in-None-read_line-clause-fault
returns-in-None-read_line-clause-fault c = λ text events read.
    let names = names_of c.args.self.now in let rest = c.args.self.now.rest.now in
    let some = grind_some rest c.is_empty.result c.is_empty.ensures c.if-is_empty.false in
    faulty names text events rest (c.args.self.now.lines + 1) read.short read.told read.whole (ap (λ n. n + 1) read.lines) some
    (unlined names rest c.in-Some.parts.before.now c.in-Some.parts.after.now (c.requires.words some) c.in-Some.ensures.found c.in-None-read_line.ensures.none)

pub returns-in-Some-read_line-clause-some : goal.returns-in-Some-read_line-clause-some
returns-in-Some-read_line-clause-some c = λ text events read.
    let names = names_of c.args.self.now in
    let e = c.in-Some-read_line.event in
    let tells = c.in-Some-read_line.ensures.found in
    let more = length-append events (e ∷ []) in
    record {
      short = read.short;
      told = All-push (IsTold names) events e read.told tells.told;
      whole = read_more names events e text c.args.self.now.rest.now c.in-Some.parts.before.now c.in-Some.parts.after.now read.whole c.in-Some.ensures.found tells;
      lines = omega (arith, read.lines, more);
    }

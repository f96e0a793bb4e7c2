use Rattle.std.proofs.Common.{refl, arith}
use Rattle.text_fields.proofs.Numerals.{grind_some}
use Rattle.event_log.proofs.Reading.{faulty_names, read_none}
use Rattle.event_log.proofs.reader.LogReader.new.Goals as goal

pub returns-then-not-are_words-clause-fault : goal.returns-then-not-are_words-clause-fault
returns-then-not-are_words-clause-fault c =
    faulty_names c.args.index.now.names.now c.args.text.now (omega arith) (grind_some c.args.text.now c.is_empty.result c.is_empty.ensures c.if-not-is_empty.true) (c.are_words.ensures.no c.if-not-are_words.true)

pub returns-clause-read : goal.returns-clause-read
returns-clause-read c = record {
  short = omega arith;
  told = λ k d below. absurd (omega (arith, below));
  whole = read_none c.args.index.now.names.now c.args.text.now;
  lines = refl;
}

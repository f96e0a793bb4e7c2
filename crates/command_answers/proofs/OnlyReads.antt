-- Files that are only read, one after the other.
use Rattle.std.proofs.Common.{◌∙◌, arith}
use Rattle.outside.specs.Outside.{FilesState}
use Rattle.command_answers.specs.OnlyReads.{OnlyReads}

-- some are read, and then others
pub reads_on : (before mid now : FilesState) → OnlyReads before mid → OnlyReads mid now → OnlyReads before now
reads_on before mid now first rest = record {
  files = λ name. rest.files name ∙ first.files name;
  read_counts = λ name. (let one = first.read_counts name in let other = rest.read_counts name in omega (arith, one, other));
  write_counts = λ name. (let one = first.write_counts name in let other = rest.write_counts name in omega (arith, one, other));
  writes = rest.writes ∙ first.writes;
}

use Rattle.syntax.specs.Words.{toks_of}
use Rattle.wellformed_law.proofs.DeclWritten.{is-written}
use Rattle.wellformed_law.proofs.Given.{tokens-fit}
use Rattle.wellformed_law.proofs.names_found.trees_are_written.Goals as goal

pub returns : goal.returns
returns c g read = is-written g (toks_of read.text read.toks) read.reads (tokens-fit read.text read.toks (c.tokens_in_order.ensures read.text read.toks read.listed).stand)

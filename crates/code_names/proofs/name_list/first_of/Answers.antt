use Rattle.std.proofs.Common.{◌∙◌, sym, [], Option, ℕ}
use Rattle.std.specs.Borrow.{Bor}
use Rattle.syntax_tree.specs.Plain.{Name}
use Rattle.code_names.specs.First.{index_of, names_of}
use Rattle.code_names.proofs.NameListTable.{found-here, not-here, nowhere}
use Rattle.code_names.proofs.name_list.first_of.Goals as goal

abbrev no_name : Bor Name
no_name = record { ref_ptr = (0, 0); now = [] }

pub returns-then-eq : goal.returns-then-eq
returns-then-eq c = found-here c.args.name.now c.args.names.now c.loop-index.index no_name (index_of c.args.name.now (names_of c.args.names.now)) c.loop-index-test.true (sym c.eq.ensures ∙ c.if-eq.true) c.loop-index.invariant

pub loop-index-preserved : goal.loop-index-preserved
loop-index-preserved c = not-here c.args.name.now c.args.names.now c.loop-index.index no_name (index_of c.args.name.now (names_of c.args.names.now)) c.loop-index-test.true (sym c.eq.ensures ∙ c.if-eq.false) c.loop-index.invariant

pub returns : goal.returns
returns c = nowhere c.args.name.now c.args.names.now c.loop-index.index (index_of c.args.name.now (names_of c.args.names.now)) c.loop-index-test.false c.loop-index.invariant

use Rattle.std.proofs.Common.{Some, codes, refl, sym, subst}
use Rattle.std.specs.Prelude.{nat_eq}
use Rattle.std.specs.Cmp.{unsigned_Decides}
use Rattle.std.proofs.lemmas.Bool.{false≢true}
use Rattle.std.proofs.lemmas.Slice.Eq.{strip_prefix_is}
use Rattle.table_reader.specs.Nexts.{IsFirst}
use Rattle.table_reader.proofs.Nexted.{no_word}
use Rattle.table_reader.proofs.Texts.{no_first_line, first_is}
use Rattle.table_reader.proofs.next.first_line.Goals as goal

pub returns-in_err-cut : goal.returns-in_err-cut
returns-in_err-cut c = subst (IsFirst c.args.bytes.now) (sym c.from_residual.ensures) (no_first_line c.args.bytes.now c.in_err-cut.ensures.none)

pub returns-then-not-is_table_word : goal.returns-then-not-is_table_word
returns-then-not-is_table_word c =
    no_word c.args.bytes.now c.in_ok-cut.cut.before.now c.in_ok-cut.cut.after.now c.in_ok-name.name.now c.in_ok-cut.ensures.found
    (strip_prefix_is {E = nat_eq} unsigned_Decides c.in_ok-cut.cut.before.now (codes "table ") (Some c.in_ok-name.name) c.in_ok-name.ensures.cases)
    (λ word. false≢true (c.if-not-is_table_word.ensures.1 word))

pub returns : goal.returns
returns c = (
  c.if-not-is_table_word.ensures.0 refl,
  first_is c.args.bytes.now c.in_ok-cut.cut.before.now c.in_ok-cut.cut.after.now c.in_ok-cut.ensures.found c.in_ok-name.name.now
      (strip_prefix_is {E = nat_eq} unsigned_Decides c.in_ok-cut.cut.before.now (codes "table ") (Some c.in_ok-name.name) c.in_ok-name.ensures.cases),
)

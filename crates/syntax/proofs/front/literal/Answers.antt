use Rattle.std.proofs.Common.{◌≡◌, true, sym, subst, take}
use Rattle.std.specs.List.{list_all}
use Rattle.syntax.specs.Spellings.{is_digit, is_number}
use Rattle.syntax.proofs.SpellLemmas.{LongestRun, longest_number, all_before}
use Rattle.syntax.proofs.front.literal.Goals as goal

pub literal_value-requires : goal.literal_value-requires
literal_value-requires c =
    subst (λ n. list_all is_digit (take n c.args.bytes.now) ≡ true) (sym c.digit_len-len.ensures.value) (all_before is_digit c.args.bytes.now)

pub returns-in-Some-clause-ok : goal.returns-in-Some-clause-ok
returns-in-Some-clause-ok c =
    let run = subst (LongestRun is_number c.args.bytes.now) (sym c.digit_len-len.ensures.value) (longest_number c.args.bytes.now c.requires) in
    (run.longest, (run.is, c.in-Some.ensures.value, c.in-Some.ensures.small))

pub returns-in-None-clause-err : goal.returns-in-None-clause-err
returns-in-None-clause-err c =
    let run = subst (LongestRun is_number c.args.bytes.now) (sym c.digit_len-len.ensures.value) (longest_number c.args.bytes.now c.requires) in
    record { len = c.digit_len-len.result; longest = run.longest; literal = run.is; large = c.in-None.ensures.none }

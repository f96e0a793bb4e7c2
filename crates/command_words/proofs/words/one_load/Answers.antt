use Rattle.std.proofs.Common.{◌≡◌, ℕ, List, decimal, arith, sym, ◌∙◌}
use Rattle.std.proofs.lemmas.Fmt.{decimal_injective}
use Rattle.command_words.specs.Calls.{Load}
use Rattle.command_words.proofs.words.one_load.Goals as goal

with_parts : ℕ → ℕ → List ℕ → List ℕ → Load
with_parts key count program script = record { key = key; count = count; program = program; script = script }

-- loads with the same parts are the same
same_load : (l other : Load) → l.key ≡ other.key → l.count ≡ other.count → l.program ≡ other.program → l.script ≡ other.script → l ≡ other
unfolding with_parts
same_load l other key count program script =
    let same : with_parts l.key l.count l.program l.script ≡ with_parts other.key other.count other.program other.script = cc (key, count, program, script) in
    same

pub returns : goal.returns
returns c words l other is same =
    let rows = sym is.row ∙ same.row in
    let keys : decimal l.key ≡ decimal other.key = cc rows in
    let counts : decimal l.count ≡ decimal other.count = cc rows in
    same_load l other (decimal_injective l.key other.key is.key same.key keys)
    (decimal_injective l.count other.count (omega (arith, is.few)) (omega (arith, same.few)) counts) (cc rows) (cc rows)

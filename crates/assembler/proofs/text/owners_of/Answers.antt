use Rattle.std.proofs.Common.{◌≡◌, ◌+◌, codes, ap, ◌∙◌, arith}
use Rattle.std.specs.Int.{from_bool}
use Rattle.text_fields.specs.Front.{begins}
use Rattle.assembler.specs.Sections.{owners_in}
use Rattle.assembler.proofs.Owners.{at_most_one, ends, goes_on, shorter}
use Rattle.assembler.proofs.text.owners_of.Goals as goal

pub loop-cut-preserved : goal.loop-cut-preserved
loop-cut-preserved c =
    let rest = c.loop-cut.rest.now in
    let before = c.in-Some.cut.before.now in
    let after = c.in-Some.cut.after.now in
    let told : c.from-count.result ≡ from_bool (begins (codes "process ") before) = c.from-count.ensures ∙ ap from_bool c.begins_with.ensures in
    record {
      so_far = goes_on (begins (codes "process ")) c.loop-cut.count (c.loop-cut.count + c.from-count.result) (owners_in c.args.text.now) rest before after c.in-Some.ensures.found
          (ap (λ n. c.loop-cut.count + n) told) c.loop-cut.invariant.so_far;
      small = omega (arith, told, at_most_one (begins (codes "process ") before), shorter rest before after c.in-Some.ensures.found, c.loop-cut.invariant.small);
    }

pub returns : goal.returns
returns c =
    let rest = c.loop-cut.rest.now in
    let told : c.from.result ≡ from_bool (begins (codes "process ") rest) = c.from.ensures ∙ ap from_bool c.begins_with-2.ensures in
    ends (begins (codes "process ")) c.loop-cut.count (c.loop-cut.count + c.from.result) (owners_in c.args.text.now) rest c.in_default.ensures.none
    (ap (λ n. c.loop-cut.count + n) told) c.loop-cut.invariant.so_far

pub loop-cut-smaller : goal.loop-cut-smaller
loop-cut-smaller c = shorter c.loop-cut.rest.now c.in-Some.cut.before.now c.in-Some.cut.after.now c.in-Some.ensures.found

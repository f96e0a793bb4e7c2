use Rattle.std.proofs.Common.{◌++◌, ap, arith, drop, map, refl}
use Rattle.image.specs.Raw.{routine_of}
use Rattle.code_cost.specs.declared.measure.RoutineMeasure.{RoutineMeasure}
use Rattle.code_names.specs.Texts.{texts_of}
use Rattle.compile_image.specs.Told.{routines_told}
use Rattle.compile_image.proofs.Rows.{row-at, routines-more, rows-left, told-all}
use Rattle.compile_image.proofs.routines.raw_routines.Goals as goal

abbrev nothing : RoutineMeasure
nothing = record { cost = record { run = 0; susp = 0; waits = 0 }; stay = 0; height = 0; words = 0; length = 0 }

pub loop-number-init : goal.loop-number-init
loop-number-init c = record {
  list = ap (λ rs. map routine_of rs ++ routines_told (texts_of c.args.texts.now) c.args.parts.now c.args.rows.now) c.new-list.ensures;
  fits = c.requires.fits;
}

pub raw_routine-requires : goal.raw_routine-requires
raw_routine-requires c =
    row-at c.args.texts.now c.args.parts.now c.args.rows.now c.loop-number.number c.index-texts-number.result c.index-parts-number.result nothing c.loop-number-test.true (omega arith) (omega arith) c.index-texts-number.is c.index-parts-number.is c.loop-number.invariant.fits

pub loop-number-preserved : goal.loop-number-preserved
loop-number-preserved c = record {
  list = routines-more c.args.texts.now c.args.parts.now c.args.rows.now c.loop-number.number c.index-texts-number.result c.index-parts-number.result nothing c.loop-number-test.true (omega arith) (omega arith) c.index-texts-number.is c.index-parts-number.is
      c.loop-number.list c.push.new.self c.in-Ok.it _ c.loop-number.invariant.list c.in-Ok-push.ensures.ok c.in-Ok.ensures;
  fits = rows-left c.args.texts.now c.args.parts.now c.args.rows.now c.loop-number.number c.loop-number.invariant.fits;
}

pub returns : goal.returns
returns c =
    told-all (λ ts. routines_told (texts_of ts) (drop c.loop-number.number c.args.parts.now) (drop c.loop-number.number c.args.rows.now)) c.args.texts.now c.loop-number.number (map routine_of c.loop-number.list) _ refl
    c.loop-number-test.false c.loop-number.invariant.list

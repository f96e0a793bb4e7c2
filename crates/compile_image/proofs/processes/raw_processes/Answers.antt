use Rattle.std.proofs.Common.{◌++◌, ap, arith, drop, map, refl}
use Rattle.syntax_tree.specs.Placed.{placed, plain}
use Rattle.image.specs.Raw.{process_of}
use Rattle.code_cost.specs.declared.program.ProcessMeasure.{ProcessMeasure}
use Rattle.code_names.specs.Parts.{seen_processes}
use Rattle.compile_image.specs.Told.{processes_told}
use Rattle.compile_image.proofs.Rows.{processes-more, size-at, sizes-left, told-all}
use Rattle.compile_image.proofs.processes.raw_processes.Goals as goal

abbrev nothing : ProcessMeasure
nothing = record { cost = record { run = 0; susp = 0; waits = 0 }; stack = 0; length = 0 }

pub loop-number-init : goal.loop-number-init
loop-number-init c = record {
  list = ap (λ rs. map process_of rs ++ processes_told (plain (placed c.args.values.now)) c.args.events.now c.args.over (seen_processes c.args.processes.now) c.args.parts.now c.args.sizes.now) c.new-list.ensures;
  fits = c.requires.fits;
}

pub raw_process-requires : goal.raw_process-requires
raw_process-requires c = record {
  over = c.requires.over;
  events = c.requires.events;
  fits = size-at (plain (placed c.args.values.now)) c.args.processes.now c.args.parts.now c.args.sizes.now c.loop-number.number c.index-processes-number.result c.index-parts-number.result nothing c.loop-number-test.true (omega arith) (omega arith)
      c.index-processes-number.is c.index-parts-number.is c.loop-number.invariant.fits;
}

pub loop-number-preserved : goal.loop-number-preserved
loop-number-preserved c =
    let g = plain (placed c.args.values.now) in
    record {
      list = processes-more g c.args.processes.now c.args.parts.now c.args.sizes.now c.loop-number.number c.index-processes-number.result c.index-parts-number.result nothing c.loop-number-test.true (omega arith) (omega arith) c.index-processes-number.is c.index-parts-number.is
          c.args.events.now c.args.over c.loop-number.list c.push.new.self c.in-Ok.it _ c.loop-number.invariant.list c.in-Ok-push.ensures.ok c.in-Ok.ensures;
      fits = sizes-left g c.args.processes.now c.args.parts.now c.args.sizes.now c.loop-number.number c.loop-number.invariant.fits;
    }

pub returns : goal.returns
returns c =
    told-all (λ ps. processes_told (plain (placed c.args.values.now)) c.args.events.now c.args.over (seen_processes ps) (drop c.loop-number.number c.args.parts.now) (drop c.loop-number.number c.args.sizes.now))
    c.args.processes.now c.loop-number.number (map process_of c.loop-number.list) _ refl c.loop-number-test.false c.loop-number.invariant.list

use Rattle.std.proofs.Common.{◌++◌, ap, arith, map, refl}
use Rattle.syntax_tree.specs.Placed.{placed, plain}
use Rattle.image.specs.Raw.{monitor_of}
use Rattle.code_names.specs.Parts.{seen_monitors}
use Rattle.compile_image.specs.Told.{monitors_told}
use Rattle.compile_image.proofs.Rows.{monitor-fits, monitors-more, told-all, words-more}
use Rattle.compile_image.proofs.monitors.raw_monitors.Goals as goal

pub loop-monitor-init : goal.loop-monitor-init
loop-monitor-init c = record {
  list = ap (λ ms. map monitor_of ms ++ monitors_told (plain (placed c.args.values.now)) 0 (seen_monitors c.args.monitors.now)) c.new-list.ensures;
  words = omega arith;
}

pub raw_monitor-requires : goal.raw_monitor-requires
raw_monitor-requires c =
    monitor-fits (plain (placed c.args.values.now)) c.args.monitors.now c.loop-monitor.monitor-index c.monitor-item.result c.loop-monitor-test.true c.monitor-item.is c.loop-monitor.base c.loop-monitor.invariant.words c.requires

pub loop-monitor-preserved : goal.loop-monitor-preserved
loop-monitor-preserved c =
    let g = plain (placed c.args.values.now) in
    let ms = c.args.monitors.now in
    let i = c.loop-monitor.monitor-index in
    let one = c.in-Ok.it in
    record {
      list = monitors-more g ms i c.monitor-item.result c.loop-monitor-test.true c.monitor-item.is c.loop-monitor.base c.loop-monitor.list c.push.new.self one _ c.loop-monitor.invariant.list c.in-Ok-push.ensures.ok c.in-Ok.ensures.told c.in-Ok.ensures.words;
      words = words-more g ms i c.monitor-item.result c.loop-monitor-test.true c.monitor-item.is c.loop-monitor.base one.words c.loop-monitor.invariant.words c.in-Ok.ensures.words;
    }

pub returns : goal.returns
returns c =
    told-all (λ l. monitors_told (plain (placed c.args.values.now)) c.loop-monitor.base (seen_monitors l)) c.args.monitors.now c.loop-monitor.monitor-index (map monitor_of c.loop-monitor.list) _ refl c.loop-monitor-test.false
    c.loop-monitor.invariant.list

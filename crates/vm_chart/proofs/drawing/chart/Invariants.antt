use Rattle.vm_releases.specs.Begin.{script_of}
use Rattle.vm_chart.proofs.drawing.chart.Given as goal

abbrev pub ghost-chart_in : goal.ghost-chart_in
ghost-chart_in a = record {
  image = a.image.now.image;
  script = script_of a.script.now;
  columns = a.columns.now;
  column = 0;
}

use Rattle.std.proofs.Common.{ap, sym, ◌∙◌}
use Rattle.std.proofs.lemmas.Result.{on_ok_weaker}
use Rattle.table_format.specs.Rules.{same_name}
use Rattle.table_format.proofs.Stays.{stay_elsewhere, stay_inside}
use Rattle.table_format.proofs.monitors.add_ticks.Goals as goal

pub returns-then-eq : goal.returns-then-eq
returns-then-eq c =
    on_ok_weaker c.add_new.result (λ put. stay_inside c.args.name.now c.args.all.now.items _ c.args.stay.now (ap (λ m. same_name c.args.name.now m) (sym c.as_bytes.ensures) ∙ sym c.eq.ensures ∙ c.if-eq.true) put) c.add_new.ensures

pub returns : goal.returns
returns c = stay_elsewhere c.args.name.now c.args.all.now.items c.args.stay.now (ap (λ m. same_name c.args.name.now m) (sym c.as_bytes.ensures) ∙ sym c.eq.ensures ∙ c.if-eq.false)

use Rattle.std.proofs.Common.{◌≡◌, ◌∙◌, ◌∷◌, ℕ, List, ap, sym, refl, drop, ◌+◌, arith}
use Rattle.std.specs.Borrow.{Bor}
use Rattle.syntax_tree.specs.Plain.{Name, Program}
use Rattle.syntax_tree.specs.Placed.{placed, plain}
use Rattle.syntax_tree.specs.declared.decl.Monitor.{Monitor}
use Rattle.codegen_spec.specs.declared.var_location.VarLocation.{VarLocation}
use Rattle.code_spec.specs.Layout.{monitor_vars, words_of}
use Rattle.code_layout.specs.LayoutTables.{Table}
use Rattle.code_names.specs.Parts.{monitor_of, seen_monitors}
use Rattle.codegen_texts.specs.Shared.{monitor_table, monitor_tables}
use Rattle.codegen_texts.proofs.Behind.{behind_same}
use Rattle.codegen_texts.proofs.Turns.{turn, last}
use Rattle.codegen_texts.proofs.outer.monitors_spots.Goals as goal

abbrev listed : Program → ℕ → List (Bor Monitor) → List Table
listed g base l = monitor_tables g base (seen_monitors l)

same_table : (t : Table) (names : List Name) (spots : List VarLocation) → t.names ≡ names → t.spots ≡ spots → t ≡ record { names = names; spots = spots }
same_table t names spots e f = ap (λ (n : List Name). record { names = n; spots = t.spots }) e ∙ ap (λ (s : List VarLocation). record { names = names; spots = s }) f

pub loop-monitor-preserved : goal.loop-monitor-preserved
loop-monitor-preserved c =
    let g = plain (placed c.args.values.now) in
    let items = c.args.monitors.now in
    let at = c.loop-monitor.monitor-index in
    let rest = drop (at + 1) items in
    let base = c.loop-monitor.base in
    let table = c.in_ok-spots.spots in
    let told : table ≡ monitor_table g base (monitor_of c.monitor-item.result) =
    same_table table _ _ (c.in_ok-spots.ensures.names ∙ c.in_ok-laid.ensures.places.names_are) (c.in_ok-spots.ensures.spots ∙ c.in_ok-laid.ensures.places.spots_are)
    in
    let next : listed g c.behind-base.result rest ≡ listed g c.in_ok-laid.laid.word rest =
    ap (λ w. listed g w rest) c.behind-base.ensures ∙ behind_same g c.in_ok-laid.laid.word (seen_monitors rest)
    in
    record {
      told = turn (listed g base) (listed g c.behind-base.result) c.loop-monitor.tables.items c.push.new.self.items items at c.monitor-item.result table (listed g 0 items)
          (ap (λ t. t ∷ listed g (base + words_of g (monitor_vars (monitor_of c.monitor-item.result))) rest) (sym told) ∙ ap (λ b. table ∷ listed g b rest) (sym c.in_ok-laid.ensures.words) ∙ ap (λ (ts : List Table). table ∷ ts) (sym next))
          c.in_ok-push.ensures.items c.monitor-item.is c.loop-monitor-test.true c.loop-monitor.invariant.told;
      low = omega (arith, c.behind-base.ensures);
    }

pub returns : goal.returns
returns c =
    let g = plain (placed c.args.values.now) in
    let items = c.args.monitors.now in
    last (listed g c.loop-monitor.base) c.loop-monitor.tables.items items c.loop-monitor.monitor-index (listed g 0 items) refl c.loop-monitor-test.false c.loop-monitor.invariant.told

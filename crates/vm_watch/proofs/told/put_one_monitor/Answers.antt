use Rattle.std.proofs.Common.{◌≡◌, ◌++◌, ℕ, List, OnOk, length, take, arith, subst, ap, sym, ◌∙◌}
use Rattle.std.specs.Prelude.{min}
use Rattle.image.specs.declared.names.ImageNames.{ImageNames}
use Rattle.machine_semantics.specs.Run.{state_at}
use Rattle.command_due.specs.Text.{monitor_line}
use Rattle.vm_stretch.specs.View.{monitor_words, occupant}
use Rattle.vm_watch.proofs.WatchLines.{first_words}
use Rattle.vm_watch.proofs.Telling.{monitor_told}
use Rattle.vm_watch.proofs.told.put_one_monitor.Goals as goal

pub words_of_monitor-requires : goal.words_of_monitor-requires
words_of_monitor-requires g c =
    let s = state_at g.run.image g.run.script c.args.machine.now.tick in
    let count : c.shown_of_monitor-count.result ≡ min (length (monitor_words g.run.image s c.args.monitor)) 16 = c.shown_of_monitor-count.ensures g.run.image s c.requires.0 c.requires.1.1.0 in
    (c.requires.0, (c.requires.1.0, omega (arith, count)))

pub returns : goal.returns
returns g c =
    let s = state_at g.run.image g.run.script c.args.machine.now.tick in
    let all = monitor_words g.run.image s c.args.monitor in
    let count : c.shown_of_monitor-count.result ≡ min (length all) 16 = c.shown_of_monitor-count.ensures g.run.image s c.requires.0 c.requires.1.1.0 in
    let read : c.as_slice.result.now ≡ c.in_ok-words.words.items = c.as_slice.ensures.value in
    let taken : c.in_ok-words.words.items ≡ take c.shown_of_monitor-count.result all = c.in_ok-words.ensures in
    let first : c.as_slice.result.now ≡ take 16 all = first_words all c.as_slice.result.now (read ∙ (taken ∙ ap (λ (n : ℕ). take n all) count)) in
    let told = monitor_told c.names.result.now g.run.image s c.from-at.result c.occupant-inside.result c.as_slice.result.now (c.occupant-inside.ensures.occupant ∙ ap (λ (m : ℕ). occupant s m) (sym c.from-at.ensures))
    (first ∙ ap (λ (m : ℕ). take 16 (monitor_words g.run.image s m)) (sym c.from-at.ensures)) in
    let line = ap (λ (ns : ImageNames). monitor_line ns g.run.image s c.from-at.result) c.names.ensures ∙ ap (λ (m : ℕ). monitor_line c.args.image.now.names g.run.image s m) c.from-at.ensures in
    subst (λ (text : List ℕ). OnOk c.put_monitor.result (c.put_monitor.new.text ≡ c.args.text.now ++ text)) (told ∙ line) c.put_monitor.ensures

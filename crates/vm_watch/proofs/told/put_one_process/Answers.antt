use Rattle.std.proofs.Common.{◌≡◌, ◌++◌, ℕ, List, OnOk, length, take, arith, subst, ap, sym, ◌∙◌}
use Rattle.std.specs.Prelude.{min}
use Rattle.image.specs.declared.names.ImageNames.{ImageNames}
use Rattle.machine_semantics.specs.Run.{state_at}
use Rattle.command_due.specs.Text.{process_line}
use Rattle.vm_stretch.specs.View.{process_words}
use Rattle.vm_watch.proofs.WatchLines.{first_words}
use Rattle.vm_watch.proofs.Telling.{process_told}
use Rattle.vm_watch.proofs.told.put_one_process.Goals as goal

pub words_of_process-requires : goal.words_of_process-requires
words_of_process-requires g c =
    let s = state_at g.run.image g.run.script c.args.machine.now.tick in
    let count : c.shown_of_process-count.result ≡ min (length (process_words s c.args.process)) 16 = c.shown_of_process-count.ensures g.run.image s c.requires.0 c.requires.1.1.1.0 in
    let here : c.shown_of_process-count.result ≡ min (length (process_words s c.from-at.result)) 16 = count ∙ ap (λ (k : ℕ). min (length (process_words s k)) 16) (sym c.from-at.ensures) in
    (c.requires.1.1.0, omega (arith, here))

pub returns : goal.returns
returns g c =
    let s = state_at g.run.image g.run.script c.args.machine.now.tick in
    let k = c.from-at.result in
    let all = process_words s k in
    let count : c.shown_of_process-count.result ≡ min (length (process_words s c.args.process)) 16 = c.shown_of_process-count.ensures g.run.image s c.requires.0 c.requires.1.1.1.0 in
    let here : c.shown_of_process-count.result ≡ min (length all) 16 = count ∙ ap (λ (j : ℕ). min (length (process_words s j)) 16) (sym c.from-at.ensures) in
    let read : c.as_slice.result.now ≡ c.in_ok-words.words.items = c.as_slice.ensures.value in
    let taken : c.in_ok-words.words.items ≡ take c.shown_of_process-count.result all = c.in_ok-words.ensures in
    let first : c.as_slice.result.now ≡ take 16 all = first_words all c.as_slice.result.now (read ∙ (taken ∙ ap (λ (n : ℕ). take n all) here)) in
    let told = process_told c.names.result.now g.run.image s k c.view-seen.result c.as_slice.result.now c.view-seen.ensures first in
    let line = ap (λ (ns : ImageNames). process_line ns g.run.image s k) c.names.ensures ∙ ap (λ (j : ℕ). process_line c.args.image.now.names g.run.image s j) c.from-at.ensures in
    subst (λ (text : List ℕ). OnOk c.put_process.result (c.put_process.new.text ≡ c.args.text.now ++ text)) (told ∙ line) c.put_process.ensures

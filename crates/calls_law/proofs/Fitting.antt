-- Calls on an image that was stored.
use Rattle.std.proofs.Common.{◌≡◌, ◌++◌, ◌∙◌, ℕ, List, [], Some, refl, sym, subst, ap}
use Rattle.std.specs.Prelude.{Option}
use Rattle.image.specs.Named.{NamedImage}
use Rattle.image.specs.Raw.{named_of}
use Rattle.sched_table.specs.Report.{report_text}
use Rattle.script.specs.declared.script.ScriptLine.{ScriptLine}
use Rattle.script.specs.Scripts.{IsScript}
use Rattle.command_due.specs.Source.{report_of}
use Rattle.command_due.specs.CommandsDue.{IsImageFile, IsRunDue, Outcome, log, migrated, ran, stored, told}
use Rattle.command_due_law.specs.DueOnce.{MigrateIsOne, RunIsOne}
use Rattle.command_answers.specs.Promise.{IsHeld}
use Rattle.calls_law.specs.Calls.{MigrateAfterGo, RunAfterCompile, RunAfterGo}

-- the run of an image that is held
run_is : (n : NamedImage) → IsHeld n → (image script : Option (List ℕ)) (text : List ℕ) (lines : List ScriptLine) (end : ℕ) → image ≡ Some (stored n) → script ≡ Some text → IsScript n.names text lines end
    → IsRunDue image script (told 0 (log n lines end))
run_is n h image script text lines end at there says =
    let says_raw : IsScript h.raw.names text lines end = subst (λ (x : NamedImage). IsScript x.names text lines end) (sym h.named) says in
    ran (stored n) text h.raw lines end at h.valid there says_raw (ap (λ (x : NamedImage). told 0 (log x lines end)) (sym h.named))

pub after_go : RunIsOne → RunAfterGo
after_go one over program image script before now gone outcome kept due =
    let d = gone.done in
    let own = run_is d.built gone.holds (now.files.held image) (now.files.held script) d.text d.lines d.end d.is_stored (kept ∙ d.script_held) d.script_written in
    let same : outcome ≡ told 0 (log d.built d.lines d.end) = one (now.files.held image) (now.files.held script) outcome (told 0 (log d.built d.lines d.end)) due own in
    (ap (λ (x : Outcome). x.status) same, d.is_put ∙ ap (λ (x : Outcome). report_of report_text d.built ++ x.text) (sym same))

pub after_compile : RunIsOne → RunAfterCompile
after_compile one over program image before now compiled text lines end outcome says due =
    one (now.files.held image) (Some text) outcome (told 0 (log compiled.built lines end)) due (run_is compiled.built compiled.holds (now.files.held image) (Some text) text lines end compiled.is_stored refl says)

pub migrate_again : MigrateIsOne → MigrateAfterGo
migrate_again one over program image script before now gone bytes outcome held due =
    let h = gone.holds in
    let same : Some bytes ≡ Some (stored gone.done.built) = sym held ∙ gone.done.is_stored in
    let are : stored gone.done.built ≡ bytes = cc in
    let stores : stored (named_of h.raw) ≡ bytes = ap stored h.named ∙ are in
    one bytes outcome (record { status = 0; text = []; image = Some bytes }) due
    (migrated h.raw (subst (λ (bs : List ℕ). IsImageFile bs h.raw) are h.valid) (ap (λ (bs : List ℕ). record { status = 0; text = []; image = Some bs }) (sym stores)))

use Rattle.std.proofs.Common.{◌∙◌, ap, map}
use Rattle.code_names.specs.Parts.{monitor_of}
use Rattle.code_names.proofs.Meaning.{names-seen}
use Rattle.code_names.proofs.directory.Directory.new.Goals as goal

pub invariant_of-result : goal.invariant_of-result
invariant_of-result c =
    let parts = c.in_ok-parts.ensures in
    record {
      texts_are = parts.texts;
      monitors_are = parts.monitors;
      processes_are = parts.processes;
      names_are =
          c.in_ok-monitor_names.ensures ∙ ap (map (λ m. (monitor_of m).name)) c.as_slice.ensures.value
          ∙ names-seen c.in_ok-parts.parts.monitors.items ∙ ap (map (λ m. m.name)) parts.monitors;
    }

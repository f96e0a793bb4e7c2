-- A shaped image has as many processes and monitors as its program, and its table as many rows and ceilings.
use Rattle.std.proofs.Common.{◌≡◌, ◌+◌, ◌∙◌, refl, sym, ap, ℕ, suc, List, [], ◌∷◌, Option, length, map, arith}
use Rattle.std.proofs.lemmas.List.{length-map}
use Rattle.syntax_tree.specs.Plain.{Monitor, Process, Program}
use Rattle.source_semantics.specs.Names.{monitors, processes}
use Rattle.machine_semantics.specs.Image as image
use Rattle.code_spec.specs.Layout.{monitor_vars, words_of}
use Rattle.code_spec.specs.Compiled.{AreMonitors}
use Rattle.codegen_spec.specs.declared.code.ProcessParts.{ProcessParts}
use Rattle.codegen_spec.specs.Parts.{program_made}
use Rattle.codegen_spec.specs.Held.{HoldProcesses}
use Rattle.built_image.specs.Shown.{ceiling_shown, rows_of}
use Rattle.built_image_law.specs.Tables.{TablesAreNamed}

as_many_processes : (g : Program) (ts : List Process) (xs : List ProcessParts) (ps : List image.Process) → HoldProcesses g ts xs ps → length ts ≡ length ps
as_many_processes g [] [] [] holds = refl
as_many_processes g [] [] (p ∷ ps) holds = absurd holds
as_many_processes g [] (x ∷ xs) ps holds = absurd holds
as_many_processes g (t ∷ ts) [] ps holds = absurd holds
as_many_processes g (t ∷ ts) (x ∷ xs) [] holds = absurd holds
as_many_processes g (t ∷ ts) (x ∷ xs) (p ∷ ps) holds = ap (λ n. suc n) (as_many_processes g ts xs ps holds.1)

as_many_monitors : (g : Program) (base : ℕ) (ms : List Monitor) (ks : List image.Monitor) → AreMonitors g base ms ks → length ms ≡ length ks
as_many_monitors g base [] [] are = refl
as_many_monitors g base [] (k ∷ ks) are = absurd are
as_many_monitors g base (m ∷ ms) [] are = absurd are
as_many_monitors g base (m ∷ ms) (k ∷ ks) are = ap (λ n. suc n) (as_many_monitors g (base + words_of g (monitor_vars m)) ms ks are.2)

as_many_rows : (ps : List image.Process) (bounds : List (Option ℕ)) → length bounds ≡ length ps → length ps ≡ length (rows_of ps bounds)
as_many_rows [] bounds same = refl
as_many_rows (p ∷ ps) [] same = absurd (omega arith)
as_many_rows (p ∷ ps) (b ∷ bounds) same = ap (λ n. suc n) (as_many_rows ps bounds (omega arith))

pub tables_are_named : TablesAreNamed
tables_are_named g over m bounds shaped same = record {
  processes = length-map (processes g) (λ p. p.name) ∙ (as_many_processes g (processes g) (program_made g).processes m.processes shaped.code.bodies ∙ as_many_rows m.processes bounds same);
  ceilings = monitors_named ∙ sym (length-map m.monitors ceiling_shown);
  words = monitors_named ∙ sym (length-map m.monitors (λ x. x.words));
} where
  monitors_named : length (map (λ (d : Monitor). d.name) (monitors g)) ≡ length m.monitors
  monitors_named = length-map (monitors g) (λ d. d.name) ∙ as_many_monitors g 0 (monitors g) m.monitors shaped.code.monitor_words

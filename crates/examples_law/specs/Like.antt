-- That what is made of a program is the code of an image, with its addresses and trees.
use Rattle.std.specs.Prelude.{◌≡◌, ℕ, Option, Some, None, map, option_map}
use Rattle.syntax_tree.specs.Plain.{Program}
use Rattle.machine_semantics.specs.Image.{Image}
use Rattle.image_format.specs.View.{views}
use Rattle.codegen_spec.specs.declared.code.Part.{Part}
use Rattle.codegen_spec.specs.Parts.{program_made}

-- the address of a handler, 0 where there is none
abbrev pub handler_start : Option Part → ℕ
handler_start None = 0
handler_start (Some h) = h.start

pub record IsMadeAs (g : Program) (m : Image) : Type 0 where
  pub code : (program_made g).instrs ≡ m.code
  pub starts : map (λ p. p.start) (program_made g).routines ≡ map (λ r. r.start) m.routines
  pub trees : map (λ p. views p.tree) (program_made g).routines ≡ map (λ r. r.tree) m.routines
  pub bodies : map (λ p. p.body.start) (program_made g).processes ≡ map (λ p. p.start) m.processes
  pub body_trees : map (λ p. views p.body.tree) (program_made g).processes ≡ map (λ p. p.body) m.processes
  pub handlers : map (λ p. handler_start p.handler) (program_made g).processes ≡ map (λ p. p.handler) m.processes
  pub handler_trees : map (λ p. option_map (λ h. views h.tree) p.handler) (program_made g).processes ≡ map (λ p. p.handler_tree) m.processes

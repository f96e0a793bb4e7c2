-- Where a text stands.
use Rattle.syntax_tree.specs.Plain.{Program}
use Rattle.syntax_tree.specs.Placed.{placed_process, plain_process}
use Rattle.code_spec.specs.Layout.{Scope}
use Rattle.code_spec.specs.Compiled.{process_scope, routine_scope}
use Rattle.code_names.specs.Texts.{text_of}
use Rattle.codegen_texts.specs.declared.site.Site.{Site}
use Rattle.codegen_texts.specs.declared.site.Site.TheVariants as site

abbrev pub scope_at : Program → Site → Scope
scope_at g (site.Routine t) = routine_scope g (text_of t)
scope_at g (site.Process k p) = process_scope g k (plain_process (placed_process p.now))

-- What a text comes to whose program is not built.
use Rattle.std.proofs.Common.{◌≡◌, ◌∙◌, ℕ, List, Result, Ok, Err, ap, sym, subst}
use Rattle.std.specs.Prelude.{IsErrAnd}
use Rattle.syntax_tree.specs.declared.place.Place.{Place}
use Rattle.syntax_tree.specs.Placed.{Prog, plain}
use Rattle.image.specs.declared.names.ImageNames.{ImageNames}
use Rattle.built_image.specs.Named.{names_of}
use Rattle.front_end.specs.Program.{IsProgramOf}
use Rattle.command_due.specs.Source.{of_size}
use Rattle.compile.specs.declared.built.Built.{Built}
use Rattle.compile.specs.declared.built.BuildFault.{BuildFault}
use Rattle.compile.specs.declared.built.BuildFault.TheVariants as build_fault
use Rattle.compile.specs.Build.{Builds}
use Rattle.compile.specs.declared.compiling.CompileFault.{CompileFault}
use Rattle.compile.specs.Compile.{Compiles}
use Rattle.compile.specs.Told.{of_build}

fault_told : (text : List ℕ) (g : Prog Place) (over : ℕ) (f : BuildFault) → IsProgramOf text g → Builds g over (Err f) → Compiles over text (Err (of_build f))
fault_told text g over (build_fault.TooLarge number place) written first = of_size g written first
fault_told text g over (build_fault.Memory _) written is = tt
fault_told text g over (build_fault.Untimely l) written late = record {
  late = λ show. record {
    tree = g;
    written = record { program = written; fits = late.fits };
    late = late.late;
    table = l.table;
    tabled = late.table;
    shown = ap (λ (n : ImageNames). show n l.program l.table) late.names ∙ ap (λ (p : List ℕ). show (names_of (plain g)) p l.table) late.program;
  };
  named = late.named;
}

pub not_built : (r : Result Built CompileFault) (text : List ℕ) (g : Prog Place) (over : ℕ) (f : BuildFault) → IsErrAnd r (λ made. made ≡ of_build f)
    → IsProgramOf text g → Builds g over (Err f) → Compiles over text r
not_built (Ok b) text g over f made written is = absurd made
not_built (Err e) text g over f made written is = subst (λ (x : CompileFault). Compiles over text (Err x)) (sym made) (fault_told text g over f written is)

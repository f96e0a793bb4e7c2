-- The text of the load has no fault, and its program is not late.
use Rattle.std.proofs.Common.{◌≡◌, ◌≤◌, ◌*◌, ℕ, subst}
use Rattle.syntax_tree.specs.declared.place.Place.{Place}
use Rattle.syntax_tree.specs.Plain as plain_of
use Rattle.syntax_tree.specs.Placed.{Prog, plain}
use Rattle.front_end.specs.Source.{IsTreeOf}
use Rattle.front_end.specs.Program.{IsProgramOf}
use Rattle.front_end.specs.ProgramLaws.{HasProgramOrFault}
use Rattle.built_image.specs.Built.{IsShaped}
use Rattle.command_due.specs.Source.{of_program, of_size}
use Rattle.load.specs.Program.{load_program, program_text}
use Rattle.load_text_law.specs.Size.{IsSameProgram}
use Rattle.load_text_law.specs.Tree.{LoadTree, HasLoadTree, KeepsLoadTree}
use Rattle.load_law.specs.Rules.{KeepsRules, KeepsSizes}
use Rattle.load_law.specs.Time.{KeepsTime}
use Rattle.load_law.specs.Texts.{IsFaultless, IsNeverLate}

-- the tree that the text has is that of a program
is_program : KeepsRules → (key count : ℕ) → 1 ≤ count → count ≤ 64 → (t : LoadTree key count) → IsProgramOf (program_text key count) t.tree
is_program rules key count some few t =
    record {
      tree = t.grown;
      checked = rules key count some few t.tree
          (record { text = program_text key count; toks = t.grown.toks; listed = t.grown.listed; reads = t.grown.grown })
          t.same;
    }

pub is_faultless : KeepsRules → KeepsSizes → HasLoadTree → KeepsLoadTree → HasProgramOrFault → IsFaultless
is_faultless rules sizes has keeps one key count some few number place (of_program fault) =
    one (program_text key count) (has key count few).tree number place (is_program rules key count some few (has key count few)) fault
is_faultless rules sizes has keeps one key count some few number place (of_size g program first) =
    sizes key count few g (keeps key count few g program.tree) number place first.broken

-- each tree of the text is the program of the load
pub same_program : KeepsLoadTree → IsSameProgram → (key count : ℕ) → count ≤ 64 → (g : Prog Place) → IsTreeOf (program_text key count) g
    → plain g ≡ plain (load_program key count)
same_program keeps same key count few g grown = same key count g (keeps key count few g grown)

-- all of its processes respond, and so does the one that is said to be late
pub is_never_late : KeepsTime → KeepsLoadTree → IsSameProgram → IsNeverLate
is_never_late time keeps same key count some few show report t =
    let l = t.late in
    let program = same_program keeps same key count few t.tree t.written.program.tree in
    l.unsolved (1000 * count)
    (time key count some few l.image (subst (λ (g : plain_of.Program). IsShaped g 0 l.image) program l.shaped) l.number l.process l.there)

-- The texts of a load have no fault.
use Rattle.std.proofs.Common.{◌≡◌, ◌⊎◌, ℕ, List, [], Ok, Err, inl, inr, sym, subst}
use Rattle.std.specs.Prelude.{Result}
use Rattle.out_of_memory.specs.Refused.{refused}
use Rattle.syntax_tree.specs.declared.place.Place.{Place}
use Rattle.image.specs.Raw.{named_of}
use Rattle.script.specs.declared.fault.ScriptFault.{ScriptFault}
use Rattle.script.specs.declared.fault.ScriptFault.TheVariants as script_fault
use Rattle.script.specs.Scripts.{IsScript}
use Rattle.script.specs.Faults.{IsFault}
use Rattle.script.specs.OneAnswer.{NoScriptIsFaulty}
use Rattle.command_due.specs.Source.{IsTextFault, IsLateText, Style}
use Rattle.compile.specs.declared.built.Built.{Built}
use Rattle.compile.specs.declared.built.LateProgram.{LateProgram}
use Rattle.compile.specs.Compile.{Compiles}
use Rattle.compile.specs.declared.compiling.CompileFault.{CompileFault}
use Rattle.compile.specs.declared.compiling.CompileFault.TheVariants as fault
use Rattle.load.specs.Script.{load_end}
use Rattle.load_text_law.specs.Lines.{load_lines}
use Rattle.load_law.specs.Texts.{HasScript, IsFaultless, IsNeverLate}
use Rattle.command.specs.Texts.{IsProgramText, IsScriptText}

pub no_fault : IsFaultless → (text : List ℕ) → IsProgramText text → (answer : Result Built CompileFault) (number : ℕ) (place : Place)
    → answer ≡ Err (fault.Text number place) → Compiles 0 text answer → ⊥
no_fault faultless text p answer number place is compiles =
    faultless p.key p.count p.some p.few number place (subst (λ t. IsTextFault t number place) p.is (subst (Compiles 0 text) is compiles))

-- no report is asked for
abbrev silent : Style
silent names program table = []

pub never_late : IsNeverLate → (text : List ℕ) → IsProgramText text → (answer : Result Built CompileFault) (l : LateProgram)
    → answer ≡ Err (fault.Untimely l) → Compiles 0 text answer → ⊥
never_late never text p answer l is compiles =
    never p.key p.count p.some p.few silent [] (subst (λ t. IsLateText silent 0 t []) p.is ((subst (Compiles 0 text) is compiles).late silent))

pub no_bad_script : NoScriptIsFaulty → HasScript → (b : Built) (text : List ℕ) → IsScriptText b text → (why : ScriptFault) (number line a c : ℕ)
    → why ≡ script_fault.Bad number line a c → (why ≡ script_fault.Memory refused) ⊎ IsFault b.image.names text why → ⊥
no_bad_script none has b text p why number line a c is (inl memory) = cc
no_bad_script none has b text p why number line a c is (inr faulty) =
    none b.image.names text (load_lines 0 p.key p.count) (load_end p.count) why
    (subst (λ t. IsScript b.image.names t (load_lines 0 p.key p.count) (load_end p.count)) (sym p.is) (has p.key p.count p.some p.few (named_of b.image) p.made.timely))
    faulty

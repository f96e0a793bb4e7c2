-- Files that hold more than a text may have.
use Rattle.std.proofs.Common.{◌≡◌, ◌<◌, ℕ, Bool, true, false, List, arith, length, refl}
use Rattle.std.specs.Prelude.{nat_lt, if◌then◌else◌}
use Rattle.syntax_tree.specs.declared.place.Place.{Place}
use Rattle.image.specs.declared.names.ImageNames.{ImageNames}
use Rattle.script.specs.declared.fault.ScriptFault.{ScriptFault}
use Rattle.message_program.specs.Program as program
use Rattle.message_script.specs.Message as script
use Rattle.std.proofs.lemmas.Bool.{lt-ltb}

-- what stands in the first branch
first_branch : {A : Type 0} (x y : A) (is : Bool) → is ≡ true → x ≡ (if is then x else y)
first_branch x y true is = refl
first_branch x y false is = absurd cc

pub long_program : (file bytes : List ℕ) (number : ℕ) (place : Place) (message : List ℕ) → message ≡ program.long_message file → 1048576 < length bytes → program.IsProgramMessage file bytes number place message
long_program file bytes number place message told long = record { long = λ more. told; fits = λ fit. absurd (grind (arith, long, fit)) }

pub long_script : (file bytes : List ℕ) (names : ImageNames) (fault : ScriptFault) → 16777216 < length bytes → script.long_message file ≡ script.script_message file bytes names fault
unfolding script.script_message
long_script file bytes names fault long = first_branch _ _ (nat_lt 16777216 (length bytes)) (lt-ltb 16777216 (length bytes) long)

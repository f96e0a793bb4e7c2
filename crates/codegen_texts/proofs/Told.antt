-- The text at a number is that of the program.
use Rattle.std.proofs.Common.{◌≡◌, ◌<◌, ◌+◌, ◌∙◌, ℕ, zero, suc, List, [], ◌∷◌, Some, length, map, get_or, refl, sym, ap, arith, add-zero}
use Rattle.std.specs.Prelude.{slice_get, option_map}
use Rattle.std.proofs.lemmas.List.{length-map}
use Rattle.std.proofs.lemmas.Option.{slice_get-map}
use Rattle.base.proofs.Lists.{some_at}
use Rattle.syntax_tree.specs.Plain.{Process, Program}
use Rattle.source_semantics.specs.Names.{processes}
use Rattle.code_spec.specs.Numbering.{Text, numbered}
use Rattle.codegen_texts.specs.Texts.{RoutineText, ProcessText, routine_text, routine_texts, process_text, process_texts, process_texts_from}
use Rattle.codegen_texts.proofs.Lists.{told_at, told_length}

-- ---- routines

pub routine_there : (g : Program) (n : ℕ) (t : Text) → slice_get (numbered g) n ≡ Some t → slice_get (routine_texts g) n ≡ Some (routine_text g t)
routine_there g n t at = slice_get-map (routine_text g) (numbered g) n ∙ ap (option_map (routine_text g)) at

pub routines_length : (g : Program) → length (routine_texts g) ≡ length (numbered g)
routines_length g = length-map (numbered g) (routine_text g)

-- a number that is not too large is one of the texts
pub routines_inside : {A : Type 0} (told : A → RoutineText) (xs : List A) (g : Program) (n : ℕ) → map told xs ≡ routine_texts g → n < length (numbered g) → n < length xs
routines_inside told xs g n are within = omega (arith, told_length told xs (routine_texts g) are, routines_length g)

module _ {A : Type 0} (told : A → RoutineText) (xs : List A) (g : Program) (n : ℕ) (x : A) (are : map told xs ≡ routine_texts g) (within : n < length (numbered g)) (is : x ≡ get_or xs n x) where
  pub routine_is : (t : Text) → slice_get (numbered g) n ≡ Some t → told x ≡ routine_text g t
  routine_is t at = told_at told xs (routine_texts g) n x (routine_text g t) are (routines_inside told xs g n are within) is (routine_there g n t at)

  pub routine_program : (told x).program ≡ g
  routine_program = let t = some_at (numbered g) n within in ap (λ (r : RoutineText). r.program) (routine_is t.0 t.1)

-- ---- processes

from_there : (g : Program) (k n : ℕ) (ps : List Process) (p : Process) → slice_get ps n ≡ Some p → slice_get (process_texts_from g k ps) n ≡ Some (process_text g (k + n) p)
from_there g k n [] p at = cc
from_there g k zero (q ∷ ps) p at = ap (option_map (process_text g k)) at ∙ ap (λ m. Some (process_text g m p)) (sym (add-zero k))
from_there g k (suc n) (q ∷ ps) p at =
    let next : suc k + n ≡ k + suc n = omega arith in
    from_there g (suc k) n ps p at ∙ ap (λ m. Some (process_text g m p)) next

pub process_there : (g : Program) (n : ℕ) (p : Process) → slice_get (processes g) n ≡ Some p → slice_get (process_texts g) n ≡ Some (process_text g n p)
process_there g n p at =
    let same : 0 + n ≡ n = omega arith in
    from_there g 0 n (processes g) p at ∙ ap (λ m. Some (process_text g m p)) same

from_length : (g : Program) (k : ℕ) (ps : List Process) → length (process_texts_from g k ps) ≡ length ps
from_length g k [] = refl
from_length g k (p ∷ ps) = ap (λ n. suc n) (from_length g (suc k) ps)

pub processes_length : (g : Program) → length (process_texts g) ≡ length (processes g)
processes_length g = from_length g 0 (processes g)

pub processes_inside : {A : Type 0} (told : A → ProcessText) (xs : List A) (g : Program) (n : ℕ) → map told xs ≡ process_texts g → n < length (processes g) → n < length xs
processes_inside told xs g n are within = omega (arith, told_length told xs (process_texts g) are, processes_length g)

module _ {A : Type 0} (told : A → ProcessText) (xs : List A) (g : Program) (n : ℕ) (x : A) (are : map told xs ≡ process_texts g) (within : n < length (processes g)) (is : x ≡ get_or xs n x) where
  pub process_is : (p : Process) → slice_get (processes g) n ≡ Some p → told x ≡ process_text g n p
  process_is p at = told_at told xs (process_texts g) n x (process_text g n p) are (processes_inside told xs g n are within) is (process_there g n p at)

  pub process_program : (told x).program ≡ g
  process_program = let p = some_at (processes g) n within in ap (λ (r : ProcessText). r.program) (process_is p.0 p.1)

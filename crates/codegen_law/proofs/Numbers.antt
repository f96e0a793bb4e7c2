-- The numbers of routines are small where the code is short.
use Rattle.std.proofs.Common.{◌≤◌, ℕ, suc, Bool, true, false, cond, List, [], ◌∷◌, length, arith}
use Rattle.syntax_tree.specs.Plain.{Program}
use Rattle.code_spec.specs.Numbering.{Text, same_text, place_among, numbered, number_of}
use Rattle.code_cost_spec.specs.Levels.{routines_length, code_length}

at_most : (b : Bool) (m n : ℕ) → m ≤ n → cond b 0 (suc m) ≤ suc n
at_most true m n h = omega arith
at_most false m n h = omega arith

place_low : (t : Text) (us : List Text) → place_among t us ≤ length us
place_low t [] = omega arith
place_low t (u ∷ us) = at_most (same_text u t) (place_among t us) (length us) (place_low t us)

-- each routine has an instruction
pub texts_few : (g : Program) (ts : List Text) → length ts ≤ routines_length g ts
texts_few g [] = omega arith
texts_few g (t ∷ ts) = let h : length ts ≤ routines_length g ts = texts_few g ts in omega arith

pub few_routines : (g : Program) → code_length g ≤ 65535 → (t : Text) → number_of g t ≤ 65535
unfolding number_of
few_routines g h t =
    let low : place_among t (numbered g) ≤ length (numbered g) = place_low t (numbered g) in
    let few : length (numbered g) ≤ routines_length g (numbered g) = texts_few g (numbered g) in
    omega arith

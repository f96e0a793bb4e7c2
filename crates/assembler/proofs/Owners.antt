-- Counting lines one after the other, as a loop does.
use Rattle.std.proofs.Common.{◌≡◌, ◌+◌, ◌≤◌, ◌∷◌, [], ℕ, suc, List, Bool, true, false, cond, length, length-append, refl, ap, ◌∙◌, arith}
use Rattle.std.specs.Prelude.{count_by}
use Rattle.std.specs.Int.{from_bool}
use Rattle.std.proofs.lemmas.List.Sums.{sum_by-cons}
use Rattle.text_fields.specs.Fields.{IsCutAt, Lacks}
use Rattle.asm_lines.specs.TreeForm.{cuts}
use Rattle.asm_lines.proofs.Cutting.{cuts_at, cuts_none}

as_number : (b : Bool) → from_bool b ≡ cond b 1 0
as_number true = refl
as_number false = refl

pub at_most_one : (b : Bool) → from_bool b ≤ 1
at_most_one true = omega arith
at_most_one false = omega arith

-- one more line was looked at
pub goes_on : (is : List ℕ → Bool) (count counted total : ℕ) (rest before after : List ℕ) → IsCutAt 10 rest before after → counted ≡ count + from_bool (is before)
    → count + count_by is (cuts 10 rest) ≡ total → counted + count_by is (cuts 10 after) ≡ total
goes_on is count counted total rest before after cut counts so_far =
    let first : count_by is (cuts 10 rest) ≡ cond (is before) 1 0 + count_by is (cuts 10 after) =
    ap (λ bytes. count_by is (cuts 10 bytes)) cut.whole ∙ ap (count_by is) (cuts_at 10 before after cut.first) ∙ sum_by-cons (λ line. cond (is line) 1 0) before (cuts 10 after) in
    omega (arith, counts, as_number (is before), first, so_far)

-- the last one was looked at
pub ends : (is : List ℕ → Bool) (count counted total : ℕ) (rest : List ℕ) → Lacks 10 rest → counted ≡ count + from_bool (is rest)
    → count + count_by is (cuts 10 rest) ≡ total → counted ≡ total
ends is count counted total rest lacks counts so_far =
    let last : count_by is (cuts 10 rest) ≡ cond (is rest) 1 0 + 0 = ap (count_by is) (cuts_none 10 rest lacks) ∙ sum_by-cons (λ line. cond (is line) 1 0) rest [] in
    omega (arith, counts, as_number (is rest), last, so_far)

-- the rest is longer than what is left of it after one more line
pub shorter : (rest before after : List ℕ) → IsCutAt 10 rest before after → suc (length after) ≤ length rest
shorter rest before after cut =
    let whole : length rest ≡ length before + suc (length after) = ap length cut.whole ∙ length-append before (10 ∷ after) in
    omega (arith, whole)

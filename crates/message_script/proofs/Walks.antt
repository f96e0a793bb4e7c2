-- The walk over the lines before a line.
use Rattle.std.proofs.Common.{◌≡◌, ◌<◌, ◌≤◌, ◌+◌, ◌-◌, ℕ, suc, Bool, List, [], ◌∷◌, Option, Some, take, take_all, ap, sym, ◌∙◌, arith}
use Rattle.std.specs.Prelude.{if◌then◌else◌}
use Rattle.message_script.specs.Earlier.{last_such}

-- one line further
pub walk_more : (is_such : List ℕ → Bool) (pieces more : List (List ℕ)) (first : List ℕ) (number earlier : ℕ) (last newer : Option ℕ)
    → pieces ≡ first ∷ more → earlier < number → newer ≡ (if is_such first then Some earlier else last)
    → last_such is_such earlier last (take (number - earlier) pieces) ≡ last_such is_such (earlier + 1) newer (take (number - (earlier + 1)) more)
unfolding last_such
walk_more is_such pieces more first number earlier last newer is below newer_is =
    let e : number - earlier ≡ suc (number - (earlier + 1)) = omega (arith, below) in
    ap (λ (ps : List (List ℕ)). last_such is_such earlier last (take (number - earlier) ps)) is
    ∙ ap (λ (n : ℕ). last_such is_such earlier last (take n (first ∷ more))) e
    ∙ ap (λ (o : Option ℕ). last_such is_such (earlier + 1) o (take (number - (earlier + 1)) more)) (sym newer_is)

-- no line further
pub walk_last : (is_such : List ℕ → Bool) (pieces : List (List ℕ)) (first : List ℕ) (number earlier : ℕ) (last newer : Option ℕ)
    → pieces ≡ first ∷ [] → earlier < number → newer ≡ (if is_such first then Some earlier else last)
    → last_such is_such earlier last (take (number - earlier) pieces) ≡ newer
unfolding last_such
walk_last is_such pieces first number earlier last newer is below newer_is =
    walk_more is_such pieces [] first number earlier last newer is below newer_is
    ∙ ap (λ (ps : List (List ℕ)). last_such is_such (earlier + 1) newer ps) (take_all (number - (earlier + 1)) [] (omega arith))

-- the line itself
pub walk_ended : (is_such : List ℕ → Bool) (pieces : List (List ℕ)) (number earlier : ℕ) (last : Option ℕ) → number ≤ earlier
    → last_such is_such earlier last (take (number - earlier) pieces) ≡ last
unfolding last_such
walk_ended is_such pieces number earlier last past =
    let e : number - earlier ≡ 0 = omega (arith, past) in
    ap (λ (n : ℕ). last_such is_such earlier last (take n pieces)) e

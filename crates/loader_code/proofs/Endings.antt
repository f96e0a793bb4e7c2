-- What a whole part comes to, from what its tree comes to, held.
use Rattle.std.proofs.Common.{◌≡◌, ◌≤◌, ◌+◌, ◌-◌, ℕ, Bool, true, false, List, [], ◌∷◌, length, Option, Some, None, arith, refl, ap, sym, ◌∙◌}
use Rattle.std.specs.Prelude.{◌&&◌, IfSome, nat_eq, slice_get}
use Rattle.std.proofs.lemmas.Bool.{eq-eqb}
use Rattle.machine_isa.specs.declared.instr.Instr.{Instr}
use Rattle.machine_semantics.specs.Trees as tree
use Rattle.machine_semantics.specs.Trees.{size}
use Rattle.valid_image.specs.Found.{Known, Found, amount, is_enter, is_leave, guard, ended, founds, entry}
use Rattle.valid_image_law.specs.Held.{held, hold}
use Rattle.valid_image_law.proofs.Holding.{holding_changes_nothing, hold_guard}
use Rattle.loader_code.specs.Steps.{stays_in}
use Rattle.loader_code.specs.TreesTold.{found_of, told_part}
use Rattle.loader_code.specs.declared.known.PartCost.{PartCost}
use Rattle.base.specs.Capped.{cap}
use Rattle.valid_image.specs.Tables.{found_or_nothing}

-- ---- an entry

pub stay_comes : (code : List Instr) (known : List Known) (owner monitor : ℕ) (body : tree.Segs) (at last : ℕ) (inside : Found) (x y : Instr) (told : Option Found)
    → last ≡ at + 1 + size body → slice_get code at ≡ Some x → slice_get code last ≡ Some y
    → Some inside ≡ hold (founds code known None (Some owner) body (at + 1) 0)
    → told ≡ hold (guard (nat_eq monitor owner && (is_enter owner (Some x) && is_leave owner (Some y))) (stays_in (Some inside)))
    → told ≡ hold (entry code known owner (tree.Cons (tree.Stay monitor body) tree.Nil) at)
stay_comes code known owner monitor body at last inside x y told is enter leave one whole =
    let f = founds code known None (Some owner) body (at + 1) 0 in
    let tests : (is_enter owner (Some x) && is_leave owner (Some y)) ≡ (is_enter owner (slice_get code at) && is_leave owner (slice_get code (at + 1 + size body))) =
    ap (λ o. is_enter owner o && is_leave owner (Some y)) (sym enter) ∙ ap (λ o. is_enter owner (slice_get code at) && is_leave owner o) (sym leave ∙ ap (λ k. slice_get code k) is) in
    let inner : hold (stays_in (Some inside)) ≡ hold (stays_in f) =
    ap (λ o. hold (stays_in o)) one ∙ sym (holding_changes_nothing.in_chain f (λ h. Some (record { height = h; cost = amount 8 0 0; depth = 0 }))) in
    whole ∙ ap (λ t. hold (guard (nat_eq monitor owner && t) (stays_in (Some inside)))) tests ∙ hold_guard _ _ _ inner

-- ---- the end of a part

pub ends_nothing : (b : Bool) (n : ℕ) (x : Option Found) → None ≡ hold x → None ≡ hold (guard b (ended n x))
ends_nothing true n None is = refl
ends_nothing false n x is = refl
ends_nothing true n (Some f) is = absurd cc

ends_true : (b : Bool) (f : Found) → b ≡ true → Some f ≡ guard b (Some f)
ends_true true f is = refl
ends_true false f is = absurd cc

pub ends_well : (b : Bool) (n : ℕ) (f : Found) (x : Option Found) → b ≡ true → f.height ≡ n → Some f ≡ hold x → Some f ≡ hold (guard b (ended n x))
ends_well false n f x is height one = absurd cc
ends_well true n f None is height one = absurd cc
ends_well true n f (Some g) is height one =
    let same : f ≡ held g = cc in
    let at : g.height ≡ n = sym (ap (λ k. k.height) same) ∙ height in
    one ∙ ap hold (ends_true (nat_eq g.height n) g (eq-eqb g.height n at))

-- ---- how long an entry stays

cap_stay : (a b : ℕ) → a ≡ cap b → cap (a + 3) ≡ cap (b + 8 - 5)
cap_stay a b is = omega (arith, is)

held_stay : (b : Bool) (x : Option Found) (inside found : Found) (stay : ℕ) → Some inside ≡ hold x → stay ≡ cap (inside.cost.run + 3) → Some found ≡ hold (guard b (stays_in x))
    → stay ≡ cap ((found_or_nothing (guard b (stays_in x))).cost.run - 5)
held_stay false x inside found stay one is whole = absurd cc
held_stay true None inside found stay one is whole = absurd cc
held_stay true (Some g) inside found stay one is whole =
    let same : inside ≡ held g = cc in
    is ∙ cap_stay inside.cost.run g.cost.run (ap (λ k. k.cost.run) same)

-- it stays from its ENTER, whose ticks are not counted in, to its LEAVE
pub entry_stay : (code : List Instr) (known : List Known) (owner monitor : ℕ) (body : tree.Segs) (at : ℕ) (inside found : Found) (stay : ℕ)
    → Some inside ≡ hold (founds code known None (Some owner) body (at + 1) 0) → stay ≡ cap (inside.cost.run + 3)
    → Some found ≡ hold (entry code known owner (tree.Cons (tree.Stay monitor body) tree.Nil) at)
    → stay ≡ cap ((found_or_nothing (entry code known owner (tree.Cons (tree.Stay monitor body) tree.Nil) at)).cost.run - 5)
entry_stay code known owner monitor body at inside found stay one is whole =
    held_stay (nat_eq monitor owner && (is_enter owner (slice_get code at) && is_leave owner (slice_get code (at + 1 + size body)))) (founds code known None (Some owner) body (at + 1) 0) inside found stay one is whole

pub part_stay : (r : Option PartCost) (code : List Instr) (known : List Known) (owner monitor : ℕ) (body : tree.Segs) (at : ℕ) (inside : Found)
    → Some inside ≡ hold (founds code known None (Some owner) body (at + 1) 0) → IfSome r (λ f. f.stay ≡ cap (inside.cost.run + 3))
    → told_part r ≡ hold (entry code known owner (tree.Cons (tree.Stay monitor body) tree.Nil) at)
    → IfSome r (λ f. f.stay ≡ cap ((found_or_nothing (entry code known owner (tree.Cons (tree.Stay monitor body) tree.Nil) at)).cost.run - 5))
part_stay None code known owner monitor body at inside one is whole = tt
part_stay (Some f) code known owner monitor body at inside one is whole = entry_stay code known owner monitor body at inside (found_of f.found) f.stay one is whole

ended_same : (n : ℕ) (g : Found) → g.height ≡ n → ended n (Some g) ≡ Some g
ended_same n g is = sym (ends_true (nat_eq g.height n) g (eq-eqb g.height n is))

-- an end that is right leaves what was found
pub ends_same : (b : Bool) (n : ℕ) (f : Found) (x : Option Found) → b ≡ true → f.height ≡ n → Some f ≡ hold x → guard b (ended n x) ≡ x
ends_same false n f x is height one = absurd cc
ends_same true n f None is height one = absurd cc
ends_same true n f (Some g) is height one =
    let same : f ≡ held g = cc in
    ended_same n g (sym (ap (λ k. k.height) same) ∙ height)

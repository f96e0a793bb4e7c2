-- What a choice and a loop come to, from what their parts come to, held.
use Rattle.std.proofs.Common.{◌≡◌, ◌<◌, ◌+◌, ℕ, zero, suc, Bool, true, false, List, length, Option, Some, None, arith, refl, ap, sym, ◌∙◌}
use Rattle.std.specs.Prelude.{◌&&◌, nat_lt, slice_get}
use Rattle.std.proofs.lemmas.Option.{slice_get_past}
use Rattle.machine_isa.specs.declared.instr.Instr.{Instr}
use Rattle.machine_semantics.specs.Trees.{Segs, Fork, Rep, size}
use Rattle.valid_image.specs.Found.{Known, Found, is_jump_zero, is_jump, is_repeats, is_repeat, guard, arms, loop, found, founds}
use Rattle.valid_image_law.specs.Held.{hold}
use Rattle.valid_image_law.proofs.Holding.{holding_changes_nothing, hold_guard}

nothing_left : (b : Bool) (x : Option Found) → x ≡ None → None ≡ hold (guard b x)
nothing_left true x none = ap hold (sym none)
nothing_left false x none = refl

never : (b : Bool) (x : Option Found) → b ≡ false → None ≡ hold (guard b x)
never true x none = absurd cc
never false x none = refl

none_held : (x : Option Found) → None ≡ hold x → x ≡ None
none_held None is = refl
none_held (Some f) is = absurd cc

arms_none : (x y : Option Found) → y ≡ None → arms x y ≡ None
arms_none None y none = refl
arms_none (Some f) None none = refl
arms_none (Some f) (Some g) none = absurd cc

last_false : (a b c : Bool) → c ≡ false → a && (b && c) ≡ false
last_false true true c none = none
last_false true false c none = refl
last_false false b c none = refl

-- ---- a choice

-- its second arm comes to nothing
pub fork_fails : (code : List Instr) (known : List Known) (out held : Option ℕ) (first second : Segs) (at h below middle : ℕ) → below + 1 ≡ h → middle ≡ at + 1 + size first
    → None ≡ hold (founds code known out held second (middle + 1) below) → None ≡ hold (found code known out held (Fork first second) at h)
fork_fails code known out held first second at zero below middle more is none = absurd (omega (arith, more))
fork_fails code known out held first second at (suc h) below middle more is none =
    let same : below ≡ h = omega (arith, more) in
    let there : middle + 1 ≡ at + 1 + size first + 1 = omega (arith, is) in
    let second_none : founds code known out held second (at + 1 + size first + 1) h ≡ None =
    none_held _ (none ∙ ap (λ k. hold (founds code known out held second (middle + 1) k)) same ∙ ap (λ a. hold (founds code known out held second a h)) there) in
    nothing_left _ _ (arms_none (founds code known out held first (at + 1) h) _ second_none)

-- both come to something
pub fork_comes : (code : List Instr) (known : List Known) (out held : Option ℕ) (first second : Segs) (at h below middle end : ℕ) (a b : Found) (x y : Instr) (told : Option Found)
    → below + 1 ≡ h → middle ≡ at + 1 + size first → end ≡ middle + 1 + size second → slice_get code at ≡ Some x → slice_get code middle ≡ Some y
    → Some a ≡ hold (founds code known out held first (at + 1) below) → Some b ≡ hold (founds code known out held second (middle + 1) below)
    → told ≡ hold (guard (is_jump_zero (middle + 1) (Some x) && is_jump end (Some y)) (arms (Some a) (Some b)))
    → told ≡ hold (found code known out held (Fork first second) at h)
fork_comes code known out held first second at zero below middle end a b x y told more is past jz jump one other whole = absurd (omega (arith, more))
fork_comes code known out held first second at (suc h) below middle end a b x y told more is past jz jump one other whole =
    let same : below ≡ h = omega (arith, more) in
    let there : middle + 1 ≡ at + 1 + size first + 1 = omega (arith, is) in
    let last : end ≡ at + size first + size second + 2 = omega (arith, is, past) in
    let one' : Some a ≡ hold (founds code known out held first (at + 1) h) = one ∙ ap (λ k. hold (founds code known out held first (at + 1) k)) same in
    let other' : Some b ≡ hold (founds code known out held second (at + 1 + size first + 1) h) =
    other ∙ ap (λ k. hold (founds code known out held second (middle + 1) k)) same ∙ ap (λ a. hold (founds code known out held second a h)) there in
    let tests : (is_jump_zero (middle + 1) (Some x) && is_jump end (Some y)) ≡ (is_jump_zero (at + 1 + size first + 1) (slice_get code at) && is_jump (at + size first + size second + 2) (slice_get code (at + 1 + size first))) =
    ap (λ k. is_jump_zero k (Some x) && is_jump end (Some y)) there ∙ ap (λ k. is_jump_zero (at + 1 + size first + 1) (Some x) && is_jump k (Some y)) last
    ∙ ap (λ o. is_jump_zero (at + 1 + size first + 1) o && is_jump (at + size first + size second + 2) (Some y)) (sym jz)
    ∙ ap (λ o. is_jump_zero (at + 1 + size first + 1) (slice_get code at) && is_jump (at + size first + size second + 2) o) (sym jump ∙ ap (λ k. slice_get code k) is) in
    let both : hold (arms (Some a) (Some b)) ≡ hold (arms (founds code known out held first (at + 1) h) (founds code known out held second (at + 1 + size first + 1) h)) =
    ap (λ o. hold (arms o (Some b))) one' ∙ ap (λ o. hold (arms (hold (founds code known out held first (at + 1) h)) o)) other' ∙ sym (holding_changes_nothing.in_arms (founds code known out held first (at + 1) h) (founds code known out held second (at + 1 + size first + 1) h)) in
    whole ∙ ap (λ t. hold (guard t (arms (Some a) (Some b)))) tests ∙ hold_guard _ _ _ both

-- ---- a loop

-- its REP would stand past the end
pub rep_fails : (code : List Instr) (known : List Known) (out held : Option ℕ) (n : ℕ) (body : Segs) (at h : ℕ) → length code < at + 1 + size body → None ≡ hold (found code known out held (Rep n body) at h)
rep_fails code known out held n body at h past =
    let none : slice_get code (at + 1 + size body) ≡ None = slice_get_past code (at + 1 + size body) (omega (arith, past)) in
    never _ _ (last_false (nat_lt 0 n) (is_repeats n (slice_get code at)) (is_repeat (at + 1) (slice_get code (at + 1 + size body))) (ap (λ o. is_repeat (at + 1) o) none))

-- a turn comes to something
pub rep_comes : (code : List Instr) (known : List Known) (out held : Option ℕ) (n : ℕ) (body : Segs) (at h last : ℕ) (turn : Found) (x y : Instr) (told : Option Found)
    → last ≡ at + 1 + size body → slice_get code at ≡ Some x → slice_get code last ≡ Some y
    → Some turn ≡ hold (founds code known (Some (last + 1)) held body (at + 1) 0)
    → told ≡ hold (guard (nat_lt 0 n && (is_repeats n (Some x) && is_repeat (at + 1) (Some y))) (loop n h (Some turn)))
    → told ≡ hold (found code known out held (Rep n body) at h)
rep_comes code known out held zero body at h last turn x y told is repeats repeat one whole = whole
rep_comes code known out held (suc n) body at h last turn x y told is repeats repeat one whole =
    let tests : (is_repeats (suc n) (Some x) && is_repeat (at + 1) (Some y)) ≡ (is_repeats (suc n) (slice_get code at) && is_repeat (at + 1) (slice_get code (at + 1 + size body))) =
    ap (λ o. is_repeats (suc n) o && is_repeat (at + 1) (Some y)) (sym repeats) ∙ ap (λ o. is_repeats (suc n) (slice_get code at) && is_repeat (at + 1) o) (sym repeat ∙ ap (λ k. slice_get code k) is) in
    let inner : hold (loop (suc n) h (Some turn)) ≡ hold (loop (suc n) h (founds code known (Some (at + 1 + size body + 1)) held body (at + 1) 0)) =
    ap (λ o. hold (loop (suc n) h o)) (one ∙ ap (λ k. hold (founds code known (Some (k + 1)) held body (at + 1) 0)) is)
    ∙ sym (holding_changes_nothing.in_loop (suc n) h (founds code known (Some (at + 1 + size body + 1)) held body (at + 1) 0) (omega arith)) in
    whole ∙ ap (λ t. hold (guard (nat_lt 0 (suc n) && t) (loop (suc n) h (Some turn)))) tests ∙ hold_guard _ _ _ inner

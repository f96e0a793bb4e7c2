-- Loops that make the code of each part of a list.
use Rattle.std.proofs.Common.{◌≡◌, ◌<◌, ◌+◌, ◌-◌, min, ℕ, zero, suc, ℤ, arith, List, [], ◌∷◌, ◌++◌, refl, length, drop, get_or, slice_get, Option, Result, Ok, Err, OnOk, sym, ap, ◌∙◌}
use Rattle.std.proofs.lemmas.List.{drop_more}
use Rattle.syntax_tree.specs.Plain.{Exprs, Name, Program, call}
use Rattle.syntax_tree.specs.Placed.{placed_exprs, plain_exprs}
use Rattle.syntax_tree.specs.declared.expr.Expr.{Expr}
use Rattle.code_spec.specs.Numbering.{routine_in}
use Rattle.machine_isa.specs.declared.instr.Instr.{Instr}
use Rattle.code_spec.specs.Layout.{Scope}
use Rattle.codegen_spec.specs.declared.var_location.Loop.{Loop}
use Rattle.codegen_spec.specs.declared.var_location.ValueRange.{ValueRange}
use Rattle.codegen_spec.specs.declared.var_location.Callee.{Callee}
use Rattle.codegen_spec.specs.Told.{inside, told_callee, within}
use Rattle.codegen_spec.specs.Made.{Out, aims, aim_one, args_out, call_out, expr_out}

-- one turn of a loop that makes the code of the parts of a list
pub turned : {A O : Type 0} (all : O → List A → O) (xs : List A) (i : ℕ) (x : A) (old new end : O) → i < length xs → x ≡ get_or xs i x
    → all old (drop i xs) ≡ end → all old (x ∷ drop (i + 1) xs) ≡ all new (drop (i + 1) xs) → all new (drop (i + 1) xs) ≡ end
turned all xs i x old new end within is so_far step =
    let here : drop i xs ≡ x ∷ drop (i + 1) xs = drop_more xs i x within ∙ ap (λ y. y ∷ drop (i + 1) xs) (sym is) in
    sym step ∙ sym (ap (all old) here) ∙ so_far

-- the same over two lists at once
pub turned_both : {A B O : Type 0} (all : O → List A → List B → O) (xs : List A) (ys : List B) (i j : ℕ) (x : A) (y : B) (old new end : O)
    → i < length xs → i < length ys → x ≡ get_or xs i x → y ≡ get_or ys i y → j ≡ i + 1
    → all old (drop i xs) (drop i ys) ≡ end → all old (x ∷ drop (i + 1) xs) (y ∷ drop (i + 1) ys) ≡ all new (drop (i + 1) xs) (drop (i + 1) ys)
    → all new (drop j xs) (drop j ys) ≡ end
turned_both all xs ys i j x y old new end in_xs in_ys is_x is_y next so_far step =
    let first : drop i xs ≡ x ∷ drop (i + 1) xs = drop_more xs i x in_xs ∙ ap (λ z. z ∷ drop (i + 1) xs) (sym is_x) in
    let second : drop i ys ≡ y ∷ drop (i + 1) ys = drop_more ys i y in_ys ∙ ap (λ z. z ∷ drop (i + 1) ys) (sym is_y) in
    ap (λ k. all new (drop k xs) (drop k ys)) next
    ∙ sym step ∙ sym (ap (λ zs. all old zs (y ∷ drop (i + 1) ys)) first) ∙ sym (ap (λ zs. all old (drop i xs) zs) second) ∙ so_far

-- behind the shorter of two lists no argument is left that has a parameter
pub args_end : (g : Program) (c : Scope) (es : List Expr) (rs : List (Option ValueRange)) (n : ℕ) (o : Out) → n ≡ min (length es) (length rs)
    → args_out g c (plain_exprs (placed_exprs (drop n es))) (drop n rs) o ≡ o
args_end g c [] rs zero o is = refl
args_end g c [] rs (suc k) o is = refl
args_end g c (e ∷ es) [] zero o is = refl
args_end g c (e ∷ es) [] (suc k) o is = absurd (omega arith)
args_end g c (e ∷ es) (r ∷ rs) zero o is = absurd (omega arith)
args_end g c (e ∷ es) (r ∷ rs) (suc k) o is = args_end g c es rs k o (omega arith)

-- the call of what a name means
pub called_is : (g : Program) (c d : Scope) (f : Name) (es : Exprs) (k : Option Callee) (o : Out) → d.owner ≡ c.owner → k ≡ told_callee g (routine_in g c.owner f)
    → call_out k (λ rs. args_out g d es rs o) o ≡ expr_out g d (call f es) o
called_is g c d f es k o own is =
    ap (λ x. call_out x (λ rs. args_out g d es rs o) o) (is ∙ ap (λ w. told_callee g (routine_in g w f)) (sym own))

-- what an answer gives gives more
pub on_ok : {T E A B : Type 0} (r : Result T E) → OnOk r A → (A → B) → OnOk r B
on_ok (Ok x) a f = f a
on_ok (Err e) a f = tt

-- one turn of the loop that aims exits
pub aims_turned : (to : ℤ) (at end : ℕ) (code : List Instr) → at < end → aims to at (end - at) code ≡ aims to (at + 1) (end - (at + 1)) (aim_one to at (slice_get code at) code)
aims_turned to at end code within =
    let e : end - at ≡ suc (end - (at + 1)) = omega arith in
    ap (λ n. aims to at n code) e

-- one loop more, inside all others
pub inside_more : (ls : List Loop) (l : Loop) (c : Scope) → inside (ls ++ l ∷ []) c ≡ within (inside ls c) l.name l.word
inside_more [] l c = refl
inside_more (k ∷ ls) l c = inside_more ls l (within c k.name k.word)

-- a loop around a statement changes nothing of whose text it is
pub inside_owner : (ls : List Loop) (c : Scope) → (inside ls c).owner ≡ c.owner
inside_owner [] c = refl
inside_owner (l ∷ ls) c = inside_owner ls (within c l.name l.word)

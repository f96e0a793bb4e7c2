-- Callers that wait, and the last of them.
use Rattle.std.specs.Prelude.{◌≡◌, ◌+◌, List, [], ◌∷◌, ◌++◌, Option, Some, option_to_list}
use Rattle.std.proofs.Common.{refl, ◌∙◌, ap, arith}
use Rattle.source_semantics.specs.Run as run
use Rattle.replay_calls.specs.declared.lookup.EvalContext as code_scope
use Rattle.replay_state.specs.declared.call.Item.{Item}
use Rattle.replay_state.specs.View.{item_of}
use Rattle.replay_next.specs.declared.remains.Caller.{Caller}
use Rattle.replay_next.specs.declared.remains.ExprItem.{ExprItem}
use Rattle.base.specs.Words.{Answer}
use Rattle.replay_next.specs.Driving.{Others, caller_weight, callers_run, callers_weight, outside, outside_all, within}
use Rattle.replay_next.specs.Remains.{expr_told, exprs_told}
use Rattle.replay_next.specs.Weights.{Costs, expr_item_weight, expr_items_weight, item_weight, items_weight}

last_outside : (fs : List Caller) (f : Caller) (now : Others) → outside_all (fs ++ f ∷ []) now ≡ outside_all fs (outside f now)
last_outside [] f now = refl
last_outside (g ∷ fs) f now = ap (outside g) (last_outside fs f now)

pub last_runs : (s : code_scope.EvalContext) (fs : List Caller) (f : Caller) (now : Others) (r : run.Run)
    → callers_run s (fs ++ f ∷ []) now r ≡ callers_run s fs (outside f now) (within s f now r)
last_runs s [] f now r = refl
last_runs s (g ∷ fs) f now r =
    ap (λ k. within s g k (callers_run s (fs ++ f ∷ []) now r)) (last_outside fs f now)
    ∙ ap (within s g (outside_all fs (outside f now))) (last_runs s fs f now r)

pub last_weighs : (s : code_scope.EvalContext) (fs : List Caller) (f : Caller) → callers_weight s (fs ++ f ∷ []) ≡ callers_weight s fs + caller_weight s f
last_weighs s [] f = omega arith
last_weighs s (g ∷ fs) f = let more = last_weighs s fs f in omega (arith, more)

pub items_pushed : (k : Costs) (is : List Item) (i : Item) → items_weight k (is ++ i ∷ []) ≡ items_weight k is + item_weight k (item_of i)
items_pushed k [] i = omega arith
items_pushed k (j ∷ is) i = let more = items_pushed k is i in omega (arith, more)

pub exprs_pushed : (k : Costs) (xs : List ExprItem) (x : ExprItem) → expr_items_weight k (xs ++ x ∷ []) ≡ expr_items_weight k xs + expr_item_weight k x
exprs_pushed k [] x = omega arith
exprs_pushed k (y ∷ xs) x = let more = exprs_pushed k xs x in omega (arith, more)

pub last_told : (c : run.Site) (m : run.Memory) (xs : List ExprItem) (x : ExprItem) (a : Answer) → exprs_told c m (xs ++ x ∷ []) a ≡ exprs_told c m xs (expr_told c m x a)
last_told c m [] x a = refl
last_told c m (y ∷ xs) x a = ap (expr_told c m y) (last_told c m xs x a)

pub last_popped : {A : Type 0} (old new : List A) (o : Option A) (x : A) → old ≡ new ++ option_to_list o → o ≡ Some x → old ≡ new ++ x ∷ []
last_popped old new o x all is = all ∙ ap (λ k. new ++ option_to_list k) is

-- What the parts of the load are: numbers, whole numbers, one number of a handler.
use Rattle.std.proofs.Common.{◌≡◌, ◌≤◌, ℕ, inl, inr, true, false, ◌&&◌, nat_le, List, [], ◌∷◌, Option, Some, None, pos, codes, map, refl, ap, ◌∙◌, le-leb}
use Rattle.syntax_tree.specs.declared.place.Place.{Place}
use Rattle.syntax_tree.specs.Placed.{Constant, literal_constant, named_constant, Scalar, int, boolean, subrange, Kind, scalar, array, Var, Param, Routine, Member, variable_member, condition_member, Monitor, Prog}
use Rattle.syntax_tree.specs.Bare.{bare_constant, bare_scalar, bare_kind, bare_var, bare_param, bare_routine, bare_member, bare_monitor}
use Rattle.static_rule.specs.Parts.{Rule, FailsOf}
use Rattle.static_declarations.specs.Values.{value, is_within}
use Rattle.static_numbers.specs.Types.{Bounds, vars_bounds, routines_bounds, params_bounds, result_bounds, scalar_bounds}
use Rattle.load.specs.Program.{of_number, int_variable, add_entry, pause_entry, load_monitor}
use Rattle.load_text_law.proofs.Shapes.{one_of, front_of, none_of, none_there}

-- ---- rules that do not fail

abbrev pub NoneOf : {X : Type 0} → List (Rule X) → X → Type 0
NoneOf [] x = Unit {0}
NoneOf (r ∷ rs) x = (r.fails x ≡ None) × NoneOf rs x

not_some : {X : Type 0} (o : Option X) (x : X) → o ≡ None → o ≡ Some x → ⊥
not_some None x one other = cc
not_some (Some y) x one other = cc

pub none_fails : {X : Type 0} (rs : List (Rule X)) (x : X) → NoneOf rs x → (number : ℕ) (place : Place) → ¬ FailsOf rs x number place
none_fails [] x all number place fails = fails
none_fails (r ∷ rs) x (first, others) number place (inl here) = not_some (r.fails x) place first here.1
none_fails (r ∷ rs) x (first, others) number place (inr more) = none_fails rs x others number place more

-- ---- numbers

pub is_worth : (g : Prog Place) (c : Constant Place) (n : ℕ) → bare_constant c ≡ of_number n → value g c ≡ pos n
is_worth g (literal_constant p true m q) n same = cc
is_worth g (literal_constant p false m q) n same = let is : m ≡ n = cc in ap (λ k. pos k) is
is_worth g (named_constant p s m q) n same = cc

pub is_in : (g : Prog Place) (c : Constant Place) (n low high : ℕ) → bare_constant c ≡ of_number n → low ≤ n → n ≤ high → is_within low high (value g c) ≡ true
is_in g c n low high same above below =
    let worth = is_worth g c n same in
    let one : nat_le low n ≡ true = le-leb low n above in
    let two : nat_le n high ≡ true = le-leb n high below in
    ap (λ z. is_within low high z) worth ∙ ap (λ b. b && nat_le n high) one ∙ two

-- ---- whole numbers

pub is_int : (k : Kind Place) → bare_kind k ≡ scalar int → k ≡ scalar int
is_int (scalar int) same = refl
is_int (scalar boolean) same = cc
is_int (scalar (subrange low high)) same = cc
is_int (array low high s) same = cc

pub scalar_int : (s : Scalar Place) → bare_scalar s ≡ int → s ≡ int
scalar_int int same = refl
scalar_int boolean same = cc
scalar_int (subrange low high) same = cc

pub record OneInt (vs : List (Var Place)) : Type 0 where
  pub one : Var Place
  pub is : vs ≡ one ∷ []
  pub whole : one.kind ≡ scalar int

pub one_int : (vs : List (Var Place)) (name : List ℕ) → map bare_var vs ≡ int_variable name ∷ [] → OneInt vs
one_int vs name same =
    let it = one_of bare_var vs (int_variable name) same in
    record { one = it.one; is = it.is; whole = is_int it.one.kind (ap (λ v. v.kind) it.like) }

-- ---- the monitor

record IsVariable (m : Member Place) : Type 0 where
  one : Var Place
  is : m ≡ variable_member one
  whole : one.kind ≡ scalar int

is_variable : (m : Member Place) (name : List ℕ) → bare_member m ≡ variable_member (int_variable name) → IsVariable m
is_variable (variable_member v) name same =
    let like : bare_var v ≡ int_variable name = cc in
    record { one = v; is = refl; whole = is_int v.kind (ap (λ x. x.kind) like) }
is_variable (condition_member n p) name same = cc

record IsCondition (m : Member Place) (name : List ℕ) : Type 0 where
  at : Place
  is : m ≡ condition_member name at

is_condition : (m : Member Place) (name : List ℕ) → bare_member m ≡ condition_member name tt → IsCondition m name
is_condition (variable_member v) name same = cc
is_condition (condition_member n p) name same = let names : n ≡ name = cc in record { at = p; is = λ i. condition_member (names i) p }

pub record TwoMembers (ms : List (Member Place)) : Type 0 where
  pub one : Var Place
  pub at : Place
  pub is : ms ≡ variable_member one ∷ condition_member (codes "c") at ∷ []
  pub whole : one.kind ≡ scalar int

pub two_members : (m : Monitor Place) → bare_monitor m ≡ load_monitor → TwoMembers m.members
two_members m same =
    let first = front_of bare_member m.members (variable_member (int_variable (codes "n"))) (condition_member (codes "c") tt ∷ []) (ap (λ x. x.members) same) in
    let second = one_of bare_member first.others (condition_member (codes "c") tt) first.others_like in
    let v = is_variable first.first (codes "n") first.first_like in
    let c = is_condition second.one (codes "c") second.like in
    let a = v.is in
    let b = c.is in
    record { one = v.one; at = c.at; is = first.is ∙ ap (λ (r : List (Member Place)). first.first ∷ r) second.is ∙ (λ i. a i ∷ b i ∷ []); whole = v.whole }

pub record TwoEntries (rs : List (Routine Place)) : Type 0 where
  pub add : Routine Place
  pub pause : Routine Place
  pub is : rs ≡ add ∷ pause ∷ []
  pub add_like : bare_routine add ≡ add_entry
  pub pause_like : bare_routine pause ≡ pause_entry

pub two_entries : (m : Monitor Place) → bare_monitor m ≡ load_monitor → TwoEntries m.entries
two_entries m same =
    let first = front_of bare_routine m.entries add_entry (pause_entry ∷ []) (ap (λ x. x.entries) same) in
    let second = one_of bare_routine first.others pause_entry first.others_like in
    record { add = first.first; pause = second.one; is = first.is ∙ ap (λ (r : List (Routine Place)). first.first ∷ r) second.is; add_like = first.first_like; pause_like = second.like }

-- the parameters of the entries are whole numbers, and there is nothing else that has bounds
no_bounds_params : (vs : List (Param Place)) (name : List ℕ) → map bare_param vs ≡ record { name = name; place = tt; kind = int } ∷ [] → (more : List Bounds) → params_bounds vs more ≡ more
no_bounds_params vs name same more =
    let it = one_of bare_param vs (record { name = name; place = tt; kind = int }) same in
    let whole = scalar_int it.one.kind (ap (λ v. v.kind) it.like) in
    ap (λ (us : List (Param Place)). params_bounds us more) it.is ∙ ap (λ (s : Scalar Place). scalar_bounds s more) whole

pub no_bounds_add : (r : Routine Place) → bare_routine r ≡ add_entry → (more : List Bounds) → routines_bounds (r ∷ []) more ≡ more
no_bounds_add r same more =
    no_bounds_params r.params (codes "v") (ap (λ x. x.params) same) (result_bounds r.result (vars_bounds r.vars more))
    ∙ ap (λ (s : Option (Scalar Place)). result_bounds s (vars_bounds r.vars more)) (none_there bare_scalar r.result (ap (λ x. x.result) same))
    ∙ ap (λ (vs : List (Var Place)). vars_bounds vs more) (none_of bare_var r.vars (ap (λ x. x.vars) same))

pub no_bounds_pause : (r : Routine Place) → bare_routine r ≡ pause_entry → (more : List Bounds) → routines_bounds (r ∷ []) more ≡ more
no_bounds_pause r same more =
    ap (λ (vs : List (Param Place)). params_bounds vs (result_bounds r.result (vars_bounds r.vars more))) (none_of bare_param r.params (ap (λ x. x.params) same))
    ∙ ap (λ (s : Option (Scalar Place)). result_bounds s (vars_bounds r.vars more)) (none_there bare_scalar r.result (ap (λ x. x.result) same))
    ∙ ap (λ (vs : List (Var Place)). vars_bounds vs more) (none_of bare_var r.vars (ap (λ x. x.vars) same))

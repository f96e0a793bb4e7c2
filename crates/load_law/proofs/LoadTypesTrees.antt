-- The parts of the load's tree that have places.
use Rattle.std.proofs.Common.{◌≡◌, ℕ, List, [], ◌∷◌, Some, None, codes, ap, sym, ◌∙◌, subst}
use Rattle.syntax_tree.specs.Plain.{Name}
use Rattle.syntax_tree.specs.Placed.{Constant, int, scalar, Var, Param, Routine, procedure, Member, variable_member, condition_member, Monitor, periodic, Handler, Process}
use Rattle.syntax_tree.specs.declared.place.Place.{Place}
use Rattle.syntax_tree.specs.Bare.{bare_constant, bare_scalar, bare_var, bare_param, bare_expr, bare_stmts, bare_routine, bare_member, bare_monitor, bare_handler, bare_process}
use Rattle.load.specs.declared.program.DrawnProcess.{DrawnProcess}
use Rattle.load.specs.Program.{of_number, int_variable, add_entry, pause_entry, load_monitor, frame, load_handler, load_process}
use Rattle.load_text_law.proofs.Shapes.{front_of, none_of, one_of, none_there, some_there}
use Rattle.load_law.proofs.Terms.{IsLiteral, literal_bare}
use Rattle.load_text_law.proofs.Parts.{scalar_int, is_int}
use Rattle.load_text_law.proofs.Processes.{is_periodic}

abbrev pub int_var : Name → Place → Var Place
int_var name place = record { name = name; place = place; kind = scalar int }

abbrev pub int_param : Name → Place → Param Place
int_param name place = record { name = name; place = place; kind = int }

is_literal : (c : Constant Place) (n : ℕ) → bare_constant c ≡ of_number n → IsLiteral c
is_literal c n same = literal_bare c (subst IsLiteral (sym same) tt)

is_int_var : (v : Var Place) (name : Name) → bare_var v ≡ int_variable name → v ≡ int_var name v.place
is_int_var v name same =
    let names : v.name ≡ name = ap (λ x. x.name) same in
    let kinds = is_int v.kind (ap (λ x. x.kind) same) in
    λ i. record { name = names i; place = v.place; kind = kinds i }

is_int_param : (v : Param Place) (name : Name) → bare_param v ≡ record { name = name; place = tt; kind = int } → v ≡ int_param name v.place
is_int_param v name same =
    let names : v.name ≡ name = ap (λ x. x.name) same in
    let kinds = scalar_int v.kind (ap (λ x. x.kind) same) in
    λ i. record { name = names i; place = v.place; kind = kinds i }

-- ---- processes

abbrev pub made_process : Process Place → Constant Place → Place → Constant Place → Handler Place → Process Place
made_process p frame x number h = record p {
  activation = periodic frame None None;
  vars = int_var (codes "x") x ∷ [];
  routines = [];
  handler = Some (record { numbers = number ∷ []; body = h.body });
}

pub record IsMade (p : Process Place) : Type 0 where
  pub frame : Constant Place
  pub x : Place
  pub number : Constant Place
  pub handler : Handler Place
  pub frame_literal : IsLiteral frame
  pub number_literal : IsLiteral number
  pub handler_like : bare_stmts handler.body ≡ load_handler.body
  pub is : p ≡ made_process p frame x number handler

pub is_made : (p : Process Place) (count number : ℕ) (d : DrawnProcess) → bare_process p ≡ load_process count number d → IsMade p
is_made p count number d same =
    let a = is_periodic p.activation (frame count d) (ap (λ x. x.activation) same) in
    let v = one_of bare_var p.vars (int_variable (codes "x")) (ap (λ x. x.vars) same) in
    let x = is_int_var v.one (codes "x") v.like in
    let h = some_there bare_handler p.handler load_handler (ap (λ x. x.handler) same) in
    let n = one_of bare_constant h.one.numbers (of_number 10) (ap (λ y. y.numbers) h.like) in
    let activations = a.is in
    let vars : p.vars ≡ int_var (codes "x") v.one.place ∷ [] = v.is ∙ ap (λ (y : Var Place). y ∷ []) x in
    let routines = none_of bare_routine p.routines (ap (λ x. x.routines) same) in
    let numbers = n.is in
    let handlers : p.handler ≡ Some (record { numbers = n.one ∷ []; body = h.one.body }) = h.is ∙ (λ i. Some (record { numbers = numbers i; body = h.one.body })) in
    record {
      frame = a.frame;
      x = v.one.place;
      number = n.one;
      handler = h.one;
      frame_literal = is_literal a.frame (frame count d) a.like;
      number_literal = is_literal n.one 10 n.like;
      handler_like = ap (λ y. y.body) h.like;
      is = λ i. record p { activation = activations i; vars = vars i; routines = routines i; handler = handlers i };
    }

-- ---- the monitor

abbrev pub made_add : Routine Place → Place → Routine Place
made_add r v = record r {
  kind = procedure;
  name = codes "add";
  params = int_param (codes "v") v ∷ [];
  result = None;
  vars = [];
  value = None;
}

abbrev pub made_pause : Routine Place → Routine Place
made_pause r = record r {
  kind = procedure;
  name = codes "pause";
  params = [];
  result = None;
  vars = [];
  value = None;
}

pub record IsAdd (r : Routine Place) : Type 0 where
  pub v : Place
  pub body_like : bare_stmts r.body ≡ add_entry.body
  pub is : r ≡ made_add r v

is_add : (r : Routine Place) → bare_routine r ≡ add_entry → IsAdd r
is_add r same =
    let one = one_of bare_param r.params (record { name = codes "v"; place = tt; kind = int }) (ap (λ x. x.params) same) in
    let v = is_int_param one.one (codes "v") one.like in
    let kinds : r.kind ≡ procedure = ap (λ x. x.kind) same in
    let names : r.name ≡ codes "add" = ap (λ x. x.name) same in
    let params : r.params ≡ int_param (codes "v") one.one.place ∷ [] = one.is ∙ ap (λ (y : Param Place). y ∷ []) v in
    let results = none_there bare_scalar r.result (ap (λ x. x.result) same) in
    let vars = none_of bare_var r.vars (ap (λ x. x.vars) same) in
    let values = none_there bare_expr r.value (ap (λ x. x.value) same) in
    record {
      v = one.one.place;
      body_like = ap (λ x. x.body) same;
      is = λ i. record r { kind = kinds i; name = names i; params = params i; result = results i; vars = vars i; value = values i };
    }

pub record IsPause (r : Routine Place) : Type 0 where
  pub body_like : bare_stmts r.body ≡ pause_entry.body
  pub is : r ≡ made_pause r

is_pause : (r : Routine Place) → bare_routine r ≡ pause_entry → IsPause r
is_pause r same =
    let kinds : r.kind ≡ procedure = ap (λ x. x.kind) same in
    let names : r.name ≡ codes "pause" = ap (λ x. x.name) same in
    let params = none_of bare_param r.params (ap (λ x. x.params) same) in
    let results = none_there bare_scalar r.result (ap (λ x. x.result) same) in
    let vars = none_of bare_var r.vars (ap (λ x. x.vars) same) in
    let values = none_there bare_expr r.value (ap (λ x. x.value) same) in
    record { body_like = ap (λ x. x.body) same; is = λ i. record r { kind = kinds i; name = names i; params = params i; result = results i; vars = vars i; value = values i } }

record IsVariable (m : Member Place) (name : Name) : Type 0 where
  at : Place
  is : m ≡ variable_member (int_var name at)

is_variable : (m : Member Place) (name : Name) → bare_member m ≡ variable_member (int_variable name) → IsVariable m name
is_variable (variable_member v) name same =
    let like : bare_var v ≡ int_variable name = cc in
    record { at = v.place; is = ap (λ x. variable_member x) (is_int_var v name like) }
is_variable (condition_member n p) name same = cc

pub record IsCondition (m : Member Place) (name : Name) : Type 0 where
  pub at : Place
  pub is : m ≡ condition_member name at

pub is_condition : (m : Member Place) (name : Name) → bare_member m ≡ condition_member name tt → IsCondition m name
is_condition (variable_member v) name same = cc
is_condition (condition_member n p) name same = let names : n ≡ name = cc in record { at = p; is = λ i. condition_member (names i) p }

abbrev pub made_monitor : Monitor Place → (n c : Place) → (add : Routine Place) → (v : Place) → (pause : Routine Place) → Monitor Place
made_monitor m n c add v pause = record m {
  name = codes "m";
  members = variable_member (int_var (codes "n") n) ∷ condition_member (codes "c") c ∷ [];
  entries = made_add add v ∷ made_pause pause ∷ [];
}

pub record IsMadeMonitor (m : Monitor Place) : Type 0 where
  pub n : Place
  pub c : Place
  pub add : Routine Place
  pub v : Place
  pub pause : Routine Place
  pub add_like : bare_stmts add.body ≡ add_entry.body
  pub pause_like : bare_stmts pause.body ≡ pause_entry.body
  pub is : m ≡ made_monitor m n c add v pause

pub is_made_monitor : (m : Monitor Place) → bare_monitor m ≡ load_monitor → IsMadeMonitor m
is_made_monitor m same =
    let names : m.name ≡ codes "m" = ap (λ x. x.name) same in
    let one = front_of bare_member m.members (variable_member (int_variable (codes "n"))) (condition_member (codes "c") tt ∷ []) (ap (λ x. x.members) same) in
    let two = one_of bare_member one.others (condition_member (codes "c") tt) one.others_like in
    let n = is_variable one.first (codes "n") one.first_like in
    let c = is_condition two.one (codes "c") two.like in
    let first = front_of bare_routine m.entries add_entry (pause_entry ∷ []) (ap (λ x. x.entries) same) in
    let second = one_of bare_routine first.others pause_entry first.others_like in
    let add = is_add first.first first.first_like in
    let pause = is_pause second.one second.like in
    let ns = n.is in
    let cs = c.is in
    let adds = add.is in
    let pauses = pause.is in
    let members : m.members ≡ variable_member (int_var (codes "n") n.at) ∷ condition_member (codes "c") c.at ∷ [] =
    one.is ∙ ap (λ (r : List (Member Place)). one.first ∷ r) two.is ∙ (λ i. ns i ∷ cs i ∷ []) in
    let entries : m.entries ≡ made_add first.first add.v ∷ made_pause second.one ∷ [] =
    first.is ∙ ap (λ (r : List (Routine Place)). first.first ∷ r) second.is ∙ (λ i. adds i ∷ pauses i ∷ []) in
    record {
      n = n.at;
      c = c.at;
      add = first.first;
      v = add.v;
      pause = second.one;
      add_like = add.body_like;
      pause_like = pause.body_like;
      is = λ i. record m { name = names i; members = members i; entries = entries i };
    }

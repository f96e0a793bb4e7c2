-- The rules for the bounds of types.
use Rattle.std.specs.Prelude.{Bool, true, false, List, [], ◌∷◌, Option, Some, None, pos, ◌+ℤ◌, int_le, int_lt, if◌then◌else◌}
use Rattle.syntax_tree.specs.Placed.{Constant, Scalar, int, boolean, subrange, Kind, scalar, array, Var, Param, Routine, Member, variable_member, condition_member, Decl, constant, device, event, routine, monitor, process}
use Rattle.syntax_tree.specs.declared.place.Place.{Place}
use Rattle.static_declarations.specs.Values.{Worth, constant_place}

-- two bounds: of a subrange, or of an array
pub record Bounds : Type 0 where
  pub of_array : Bool
  pub low : Constant Place
  pub high : Constant Place

-- Each definition gives the bounds in its part of the tree, and then `more`.

abbrev pub scalar_bounds : Scalar Place → List Bounds → List Bounds
scalar_bounds int more = more
scalar_bounds boolean more = more
scalar_bounds (subrange low high) more = record { of_array = false; low = low; high = high } ∷ more

abbrev pub kind_bounds : Kind Place → List Bounds → List Bounds
kind_bounds (scalar s) more = scalar_bounds s more
kind_bounds (array low high s) more = record { of_array = true; low = low; high = high } ∷ scalar_bounds s more

abbrev pub vars_bounds : List (Var Place) → List Bounds → List Bounds
vars_bounds [] more = more
vars_bounds (v ∷ vs) more = kind_bounds v.kind (vars_bounds vs more)

abbrev pub params_bounds : List (Param Place) → List Bounds → List Bounds
params_bounds [] more = more
params_bounds (v ∷ vs) more = scalar_bounds v.kind (params_bounds vs more)

abbrev pub result_bounds : Option (Scalar Place) → List Bounds → List Bounds
result_bounds None more = more
result_bounds (Some s) more = scalar_bounds s more

abbrev pub routine_bounds : Routine Place → List Bounds → List Bounds
routine_bounds r more = params_bounds r.params (result_bounds r.result (vars_bounds r.vars more))

abbrev pub routines_bounds : List (Routine Place) → List Bounds → List Bounds
routines_bounds [] more = more
routines_bounds (r ∷ rs) more = routine_bounds r (routines_bounds rs more)

abbrev pub member_bounds : Member Place → List Bounds → List Bounds
member_bounds (variable_member v) more = kind_bounds v.kind more
member_bounds (condition_member name p) more = more

abbrev pub members_bounds : List (Member Place) → List Bounds → List Bounds
members_bounds [] more = more
members_bounds (m ∷ ms) more = member_bounds m (members_bounds ms more)

abbrev pub decl_bounds : Decl Place → List Bounds → List Bounds
decl_bounds (constant name p c) more = more
decl_bounds (device name p is_out) more = more
decl_bounds (event name p) more = more
decl_bounds (routine r) more = routine_bounds r more
decl_bounds (monitor m) more = members_bounds m.members (routines_bounds m.entries more)
decl_bounds (process p) more = vars_bounds p.vars (routines_bounds p.routines more)

abbrev pub decls_bounds : List (Decl Place) → List Bounds → List Bounds
decls_bounds [] more = more
decls_bounds (d ∷ ds) more = decl_bounds d (decls_bounds ds more)

-- a lower bound is above its upper bound
abbrev pub crossed : Worth → Bounds → Option Place
crossed worth b = if int_lt (worth b.high) (worth b.low) then Some (constant_place b.low) else None

-- an array is longer than 65,536
abbrev pub too_long : Worth → Bounds → Option Place
too_long worth b = if b.of_array then (if int_le (worth b.low +ℤ pos 65536) (worth b.high) then Some (constant_place b.low) else None) else None

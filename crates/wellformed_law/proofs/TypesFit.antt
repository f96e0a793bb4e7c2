-- The types of variables, parameters and results fit.
use Rattle.std.proofs.Common.{◌≡◌, Bool, true, false, List, [], ◌∷◌, map, arith}
use Rattle.std.specs.Prelude.{Contains, ℤ, pos, negsuc, ◌+ℤ◌, int_le, int_lt, All, filter_map}
use Rattle.std.proofs.lemmas.Bool.Decides.{nat_tests}
use Rattle.std.proofs.lemmas.List.Elements.{All-nil, All-cons, All-head, All-tail}
use Rattle.base.proofs.Members.{at_front, behind}
use Rattle.syntax_tree.specs.Placed.{Constant, Scalar, int, boolean, subrange, Kind, scalar, array, Var, Param, Member, variable_member, condition_member, Prog, plain, plain_constant, plain_scalar, plain_kind, plain_var, plain_param, plain_member}
use Rattle.syntax_tree.specs.declared.place.Place.{Place}
use Rattle.static_names.specs.Reach.{Site}
use Rattle.static_names.specs.Occurrences.{names, constant_names, scalar_names, kind_names, vars_names, params_names, members_names}
use Rattle.static_declarations.specs.Values.{value, constant_place}
use Rattle.static_numbers.specs.Types.{Bounds, decls_bounds, scalar_bounds, kind_bounds, vars_bounds, params_bounds, members_bounds}
use Rattle.source_semantics.specs.Names.{constants, variable_in}
use Rattle.static_semantics.specs.Statements.{IsConstant}
use Rattle.static_semantics.specs.WellFormed.{AreBounds, ScalarFits, KindFits, VarFits, ParamFits}
use Rattle.static_semantics.specs.Written.{ScalarWritten, KindWritten, VarWritten, ParamWritten, MemberWritten}
use Rattle.wellformed_law.proofs.Lists.{Within, front, rest}
use Rattle.wellformed_law.proofs.Adding.{constant_adds, scalar_adds, kind_adds, scalar_bounds_add, kind_bounds_add}
use Rattle.wellformed_law.proofs.Constants.{Reaches}
use Rattle.wellformed_law.proofs.WellformedLaw.{Laws, constant_fits}
use Rattle.wellformed_law.proofs.Numbers.{in_order}
use Rattle.wellformed_law.proofs.Basics.{not_held}

not_from : (a b : ℤ) → int_le b a ≡ false → int_lt a b ≡ true
not_from (pos a) (pos b) e = grind (arith, nat_tests)
not_from (pos a) (negsuc b) e = grind (arith, nat_tests)
not_from (negsuc a) (pos b) e = grind (arith, nat_tests)
not_from (negsuc a) (negsuc b) e = grind (arith, nat_tests)

module _ (g : Prog Place) (l : Laws g) where
  abbrev all_bounds : List Bounds
  all_bounds = decls_bounds g.decls []

  bounds_fit : (of_array : Bool) (low high : Constant Place) → Contains all_bounds (record { of_array = of_array; low = low; high = high })
      → IsConstant (constants (plain g)) (plain_constant low) → IsConstant (constants (plain g)) (plain_constant high) → AreBounds (plain g) (plain_constant low) (plain_constant high)
  bounds_fit of_array low high listed a b = record {
    low_constant = a;
    high_constant = b;
    order = in_order (value g low) (value g high) (not_held (int_lt (value g high) (value g low)) (constant_place low) (l.limits.crossed_none (record { of_array = of_array; low = low; high = high }) listed));
  }

  pub scalar_fits : (site : Site) → Reaches (constants (plain g)) site → (s : Scalar Place) → ScalarWritten s → Within (scalar_names site s []) (names g) → Within (scalar_bounds s []) all_bounds
      → ScalarFits (plain g) (plain_scalar s)
  scalar_fits site reaches int w n b = tt
  scalar_fits site reaches boolean w n b = tt
  scalar_fits site reaches (subrange low high) w n b = bounds_fit false low high (b _ (at_front _ []))
      (constant_fits g l site reaches low w.0 (front (names g) (constant_adds site low) (constant_names site high []) n))
      (constant_fits g l site reaches high w.1 (rest (names g) (constant_adds site low) (constant_names site high []) n))

  pub kind_fits : (site : Site) → Reaches (constants (plain g)) site → (k : Kind Place) → KindWritten k → Within (kind_names site k []) (names g) → Within (kind_bounds k []) all_bounds
      → KindFits (plain g) (plain_kind k)
  kind_fits site reaches (scalar s) w n b = scalar_fits site reaches s w n b
  kind_fits site reaches (array low high s) w n b = (
    bounds_fit true low high (b _ (at_front _ (scalar_bounds s [])))
        (constant_fits g l site reaches low w.0 (front (names g) (constant_adds site low) (constant_names site high (scalar_names site s [])) n))
        (constant_fits g l site reaches high w.1 (front (names g) (constant_adds site high) (scalar_names site s []) above)),
    not_from (value g high) (value g low +ℤ pos 65536) (not_held (int_le (value g low +ℤ pos 65536) (value g high)) (constant_place low) (l.limits.long_none (record { of_array = true; low = low; high = high }) (b _ (at_front _ (scalar_bounds s []))))),
    scalar_fits site reaches s w.2 (rest (names g) (constant_adds site high) (scalar_names site s []) above) (λ x h. b x (behind _ (scalar_bounds s []) x h)),
  )
    where
      above : Within (constant_names site high (scalar_names site s [])) (names g)
      above = rest (names g) (constant_adds site low) (constant_names site high (scalar_names site s [])) n

  pub vars_fit : (site : Site) → Reaches (constants (plain g)) site → (vs : List (Var Place)) → All VarWritten vs → Within (vars_names site vs []) (names g) → Within (vars_bounds vs []) all_bounds
      → All (VarFits (plain g)) (map plain_var vs)
  vars_fit site reaches [] w n b = All-nil (VarFits (plain g))
  vars_fit site reaches (v ∷ vs) w n b = All-cons (VarFits (plain g)) (plain_var v) (map plain_var vs)
      (kind_fits site reaches v.kind (All-head VarWritten v vs w) (front (names g) (kind_adds site v.kind) (vars_names site vs []) n) (front all_bounds (kind_bounds_add v.kind) (vars_bounds vs []) b))
      (vars_fit site reaches vs (All-tail VarWritten v vs w) (rest (names g) (kind_adds site v.kind) (vars_names site vs []) n) (rest all_bounds (kind_bounds_add v.kind) (vars_bounds vs []) b))

  pub params_fit : (site : Site) → Reaches (constants (plain g)) site → (vs : List (Param Place)) → All ParamWritten vs → Within (params_names site vs []) (names g) → Within (params_bounds vs []) all_bounds
      → All (ParamFits (plain g)) (map plain_param vs)
  params_fit site reaches [] w n b = All-nil (ParamFits (plain g))
  params_fit site reaches (v ∷ vs) w n b = All-cons (ParamFits (plain g)) (plain_param v) (map plain_param vs)
      (scalar_fits site reaches v.kind (All-head ParamWritten v vs w) (front (names g) (scalar_adds site v.kind) (params_names site vs []) n) (front all_bounds (scalar_bounds_add v.kind) (params_bounds vs []) b))
      (params_fit site reaches vs (All-tail ParamWritten v vs w) (rest (names g) (scalar_adds site v.kind) (params_names site vs []) n) (rest all_bounds (scalar_bounds_add v.kind) (params_bounds vs []) b))

  pub members_fit : (site : Site) → Reaches (constants (plain g)) site → (ms : List (Member Place)) → All MemberWritten ms → Within (members_names site ms []) (names g) → Within (members_bounds ms []) all_bounds
      → All (VarFits (plain g)) (filter_map variable_in (map plain_member ms))
  members_fit site reaches [] w n b = All-nil (VarFits (plain g))
  members_fit site reaches (variable_member v ∷ ms) w n b = All-cons (VarFits (plain g)) (plain_var v) (filter_map variable_in (map plain_member ms))
      (kind_fits site reaches v.kind (All-head MemberWritten (variable_member v) ms w) (front (names g) (kind_adds site v.kind) (members_names site ms []) n) (front all_bounds (kind_bounds_add v.kind) (members_bounds ms []) b))
      (members_fit site reaches ms (All-tail MemberWritten (variable_member v) ms w) (rest (names g) (kind_adds site v.kind) (members_names site ms []) n) (rest all_bounds (kind_bounds_add v.kind) (members_bounds ms []) b))
  members_fit site reaches (condition_member name p ∷ ms) w n b = members_fit site reaches ms (All-tail MemberWritten (condition_member name p) ms w) n b

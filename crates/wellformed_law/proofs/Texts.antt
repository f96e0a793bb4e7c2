-- The routines of a program fit where they stand: their parameters, variables, bodies and answers.
use Rattle.std.proofs.Common.{◌≡◌, false, List, [], ◌∷◌, map, Option, Some, None, is_some, refl}
use Rattle.base.proofs.Members.{at_front}
use Rattle.syntax_tree.specs.Placed.{Scalar, Expr, RoutineKind, procedure, function, Routine, Process, Prog, plain, plain_answers, plain_routine, plain_process}
use Rattle.syntax_tree.specs.declared.place.Place.{Place}
use Rattle.static_names.specs.Reach.{Site, inside}
use Rattle.static_names.specs.declared.kind.Kind.TheVariants as kind_is
use Rattle.static_names.specs.Occurrences.{Occurrence, closes, names, expr_names, stmts_names, scalar_names, optional_names, vars_names, params_names, param_name, var_name, routine_scope, routine_inner, routine_names}
use Rattle.static_declarations.specs.Parts.{answer, home_of, outside_loops, answer_parts, routine_parts, parts}
use Rattle.static_numbers.specs.Types.{decls_bounds, result_bounds, vars_bounds, routine_bounds}
use Rattle.source_semantics.specs.Names.{constants}
use Rattle.source_semantics.specs.Run.{Home, of_program, of_process, of_monitor}
use Rattle.static_semantics.specs.Here.{Here, is_monitor, in_routine}
use Rattle.static_semantics.specs.WellFormed.{AnswersFit, RoutineFits}
use Rattle.static_semantics.specs.Written.{ResultWritten, RoutineWritten}
use Rattle.static_semantics.specs.Mirrors.{Mirrors}
use Rattle.static_semantics.specs.Judged.{IsHome, IsPlaced}
use Rattle.wellformed_law.proofs.Lists.{Within, front, rest}
use Rattle.wellformed_law.proofs.Adding.{scalar_adds, expr_adds, stmts_add, params_add, vars_add, optional_adds, declarations_add, stmts_parts_add, params_bounds_add, result_bounds_add}
use Rattle.wellformed_law.proofs.Declared.{Lacks, lacks_both, lacks_map}
use Rattle.wellformed_law.proofs.Constants.{Reaches, reaches_inside}
use Rattle.wellformed_law.proofs.WellformedLaw.{Laws, kept}
use Rattle.wellformed_law.proofs.TypesFit.{scalar_fits, vars_fit, params_fit}

-- ---- where routines stand

outside_monitors : (k : RoutineKind) (s : Option (Scalar Place)) (e : Option (Expr Place)) (q : Place) → ResultWritten k s e → (c : Here) → is_monitor c.home ≡ false
    → c.is_function ≡ is_some (plain_answers s e) → IsHome (home_of false k q) (Some q) c
outside_monitors procedure None None q w c h f = (h, f)
outside_monitors procedure None (Some e) q w c h f = absurd w
outside_monitors procedure (Some s) None q w c h f = absurd w
outside_monitors procedure (Some s) (Some e) q w c h f = absurd w
outside_monitors function None None q w c h f = absurd w
outside_monitors function None (Some e) q w c h f = absurd w
outside_monitors function (Some s) None q w c h f = absurd w
outside_monitors function (Some s) (Some e) q w c h f = (h, f, refl)

routine_placed : (g : Prog Place) (p : Process Place) (home : Home) (r : Routine Place) → ResultWritten r.kind r.result r.value
    → IsPlaced (outside_loops (home_of (is_monitor home) r.kind r.place)) (Some r.place) (in_routine (plain g) (plain_process p) home (plain_routine r))
routine_placed g p of_program r w = record { home = outside_monitors r.kind r.result r.value r.place w (in_routine (plain g) (plain_process p) of_program (plain_routine r)) refl refl; loops = refl }
routine_placed g p of_process r w = record { home = outside_monitors r.kind r.result r.value r.place w (in_routine (plain g) (plain_process p) of_process (plain_routine r)) refl refl; loops = refl }
routine_placed g p (of_monitor k) r w = record { home = (refl, refl); loops = refl }

no_constant_in_routine : (r : Routine Place) → Lacks kind_is.Constant (routine_scope r)
no_constant_in_routine r = lacks_both kind_is.Constant (map param_name r.params) (map var_name r.vars) (lacks_map kind_is.Constant param_name r.params (λ v e. cc)) (lacks_map kind_is.Constant var_name r.vars (λ v e. cc))

module _ (g : Prog Place) (l : Laws g) (p : Process Place) where
  answer_fits : (at : Option Place) (site : Site) (c : Here) → Mirrors g p at site c → Reaches (constants (plain g)) site
      → (k : RoutineKind) (s : Option (Scalar Place)) (e : Option (Expr Place)) (q : Place) → ResultWritten k s e
      → Within (optional_names (scalar_names site) s []) (names g) → Within (optional_names (expr_names site) e []) (names g) → Within (answer_parts q s e []) (parts g) → Within (result_bounds s []) (decls_bounds g.decls [])
      → AnswersFit (plain g) c (plain_answers s e)
  answer_fits at site c mirrors reaches procedure None None q w ns ne ps bs = tt
  answer_fits at site c mirrors reaches procedure None (Some e) q w ns ne ps bs = absurd w
  answer_fits at site c mirrors reaches procedure (Some s) None q w ns ne ps bs = absurd w
  answer_fits at site c mirrors reaches procedure (Some s) (Some e) q w ns ne ps bs = absurd w
  answer_fits at site c mirrors reaches function None None q w ns ne ps bs = absurd w
  answer_fits at site c mirrors reaches function None (Some e) q w ns ne ps bs = absurd w
  answer_fits at site c mirrors reaches function (Some s) None q w ns ne ps bs = absurd w
  answer_fits at site c mirrors reaches function (Some s) (Some e) q w ns ne ps bs =
      (scalar_fits g l site reaches s w.0 ns bs, l.answers p at site c q s e (kept g l) mirrors w.1 ne (ps (answer q s e) (at_front _ [])))

  pub routine_fits : (home : Home) (outer : Site) (r : Routine Place) → Mirrors g p (Some r.place) (inside (routine_scope r) outer) (in_routine (plain g) (plain_process p) home (plain_routine r))
      → Reaches (constants (plain g)) outer → RoutineWritten r → Within (routine_names outer r []) (names g) → Within (routine_parts (is_monitor home) r []) (parts g) → Within (routine_bounds r []) (decls_bounds g.decls [])
      → RoutineFits (plain g) (plain_process p) home (plain_routine r)
  routine_fits home outer r mirrors reaches w ns ps bs = record {
    params = params_fit g l site within r.params w.params (front (names g) (params_add site r.params) after_params all) (front (decls_bounds g.decls []) (params_bounds_add r.params) (result_bounds r.result (vars_bounds r.vars [])) bs);
    vars = vars_fit g l site within r.vars w.vars (front (names g) (vars_add site r.vars) after_vars from_vars) (rest (decls_bounds g.decls []) (result_bounds_add r.result) (vars_bounds r.vars []) from_result_bounds);
    body = l.bodies p (Some r.place) site here (outside_loops (home_of (is_monitor home) r.kind r.place)) r.body (kept g l) mirrors (routine_placed g p home r w.result) w.body (front (names g) (stmts_add site r.body) after_body from_body)
        (front (parts g) (stmts_parts_add (outside_loops (home_of (is_monitor home) r.kind r.place)) r.body) (answer_parts r.place r.result r.value []) ps);
    answers = answer_fits (Some r.place) site here mirrors within r.kind r.result r.value r.place w.result
        (front (names g) (optional_adds (scalar_names site) (scalar_adds site) r.result) after_result from_result)
        (front (names g) (optional_adds (expr_names site) (expr_adds site) r.value) ends from_value)
        (rest (parts g) (stmts_parts_add (outside_loops (home_of (is_monitor home) r.kind r.place)) r.body) (answer_parts r.place r.result r.value []) ps)
        (front (decls_bounds g.decls []) (result_bounds_add r.result) (vars_bounds r.vars []) from_result_bounds);
  }
    where
      site : Site
      site = inside (routine_scope r) outer

      here : Here
      here = in_routine (plain g) (plain_process p) home (plain_routine r)

      within : Reaches (constants (plain g)) site
      within = reaches_inside (constants (plain g)) (routine_scope r) outer (no_constant_in_routine r) reaches

      ends : List Occurrence
      ends = closes r.close r.close_place r.name ∷ []

      after_body : List Occurrence
      after_body = optional_names (expr_names site) r.value ends

      after_vars : List Occurrence
      after_vars = stmts_names site r.body after_body

      after_result : List Occurrence
      after_result = vars_names site r.vars after_vars

      after_params : List Occurrence
      after_params = optional_names (scalar_names site) r.result after_result

      all : Within (params_names site r.params after_params) (names g)
      all = rest (names g) (declarations_add outer.means [] (routine_scope r)) (routine_inner site r []) ns

      from_result : Within after_params (names g)
      from_result = rest (names g) (params_add site r.params) after_params all

      from_vars : Within after_result (names g)
      from_vars = rest (names g) (optional_adds (scalar_names site) (scalar_adds site) r.result) after_result from_result

      from_body : Within after_vars (names g)
      from_body = rest (names g) (vars_add site r.vars) after_vars from_vars

      from_value : Within after_body (names g)
      from_value = rest (names g) (stmts_add site r.body) after_body from_body

      from_result_bounds : Within (result_bounds r.result (vars_bounds r.vars [])) (decls_bounds g.decls [])
      from_result_bounds = rest (decls_bounds g.decls []) (params_bounds_add r.params) (result_bounds r.result (vars_bounds r.vars [])) bs

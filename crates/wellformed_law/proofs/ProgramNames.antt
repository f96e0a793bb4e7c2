-- A name of the program's scope stands in a text for what the meaning looks up.
use Rattle.std.proofs.Common.{◌≡◌, ◌⊎◌, inl, inr, Bool, true, false, cond, List, [], ◌∷◌, map, ℤ, Option, Some, None, is_some, refl, ap, sym, subst, ◌∙◌}
use Rattle.std.specs.Prelude.{option_map, bytes_eq}
use Rattle.std.proofs.lemmas.List.Elements.{All-contains}
use Rattle.syntax_tree.specs.Plain.{Name}
use Rattle.syntax_tree.specs.Plain as plain_of
use Rattle.syntax_tree.specs.Placed.{Routine, Process, Decl, constant, device, event, routine, monitor, process, Prog, plain, plain_constant, plain_routine, plain_process, plain_decl}
use Rattle.syntax_tree.specs.Parts.{program_routines}
use Rattle.syntax_tree.specs.declared.place.Place.{Place}
use Rattle.static_names.specs.declared.kind.Declared.{Declared}
use Rattle.static_names.specs.Occurrences.{decl_name, program_name}
use Rattle.source_semantics.specs.Names.{named, constants_from, constant_among, routines}
use Rattle.source_semantics.specs.Run.{Home, of_program, of_process, Found, or_else, routine_named, entry_name}
use Rattle.static_declarations.specs.Things.{constant_thing, device_thing, routine_thing}
use Rattle.static_semantics.specs.Here.{Here, value, meant_own, meant_outer, meant_constant, var_named, outer_vars}
use Rattle.static_semantics.specs.Written.{IsWritten, DeclWritten}
use Rattle.static_semantics.specs.Things.{ThingsKnown}
use Rattle.static_semantics.specs.Mirrors.{StandsAs, routine_of}
use Rattle.wellformed_law.proofs.Members.{In, in-contains, in-map}
use Rattle.wellformed_law.proofs.Lookups.{named-map}
use Rattle.wellformed_law.proofs.ThingsListed.{thing-known, routine-always}
use Rattle.wellformed_law.proofs.ProgramScope.{Listed, Looks, routines-plain, routine_called}
use Rattle.static_names.proofs.Scopes.{same-refl}

-- where a text of a process stands
abbrev pub text_at : Prog Place → Process Place → Home → Bool → List plain_of.Var → Here
text_at g p home f own = record { program = plain g; process = plain_process p; home = home; is_function = f; turns = []; own = own }

-- ---- constants

abbrev pub known_name : Name × ℤ → Name
known_name k = k.0

known-kept : (ds : List plain_of.Declaration) (known : List (Name × ℤ)) (x : Name) → is_some (named known_name x known) ≡ true → is_some (named known_name x (constants_from known ds)) ≡ true
known-kept [] known x e = e
known-kept (plain_of.constant n c ∷ ds) known x e = known-kept ds ((n, constant_among known c) ∷ known) x (by (bytes_eq n x))
  where
    by : (b : Bool) → is_some (cond b (Some (n, constant_among known c)) (named known_name x known)) ≡ true
    by true = refl
    by false = e
known-kept (plain_of.device n is_out ∷ ds) known x e = known-kept ds known x e
known-kept (plain_of.event n ∷ ds) known x e = known-kept ds known x e
known-kept (plain_of.routine r ∷ ds) known x e = known-kept ds known x e
known-kept (plain_of.monitor m ∷ ds) known x e = known-kept ds known x e
known-kept (plain_of.process q ∷ ds) known x e = known-kept ds known x e

-- a declared constant is known
constant-known : (ds : List plain_of.Declaration) (known : List (Name × ℤ)) (x : Name) (k : plain_of.Constant) → In ds (plain_of.constant x k) → is_some (named known_name x (constants_from known ds)) ≡ true
constant-known [] known x k i = absurd i
constant-known (c ∷ ds) known x k (inl e) = subst (λ d. is_some (named known_name x (constants_from known (d ∷ ds))) ≡ true) (sym e)
    (known-kept ds ((x, constant_among known k) ∷ known) x (ap (λ b. is_some (cond b (Some (x, constant_among known k)) (named known_name x known))) (same-refl x)))
constant-known (plain_of.constant n c ∷ ds) known x k (inr i) = constant-known ds ((n, constant_among known c) ∷ known) x k i
constant-known (plain_of.device n is_out ∷ ds) known x k (inr i) = constant-known ds known x k i
constant-known (plain_of.event n ∷ ds) known x k (inr i) = constant-known ds known x k i
constant-known (plain_of.routine r ∷ ds) known x k (inr i) = constant-known ds known x k i
constant-known (plain_of.monitor m ∷ ds) known x k (inr i) = constant-known ds known x k i
constant-known (plain_of.process q ∷ ds) known x k (inr i) = constant-known ds known x k i

meant-value : (a b : Option plain_of.Var) (c : Option (Name × ℤ)) → a ≡ None → b ≡ None → is_some c ≡ true → meant_own a (meant_outer b (meant_constant c)) ≡ value
meant-value None None (Some k) e f h = refl
meant-value None None None e f h = let q : false ≡ true = h in cc
meant-value None (Some v) c e f h = cc
meant-value (Some v) b c e f h = cc

-- ---- routines

abbrev pub as_found : Home → plain_of.Routine → Found
as_found home r = record { home = home; routine = r }

-- a routine of the program is found where no routine of the process has its name
pub program-routine-found : (g : Prog Place) (p : Process Place) (x : Name) (r : Routine Place) → named routine_called x p.routines ≡ None → named routine_called x (program_routines g.decls) ≡ Some r → routine_named (plain g) (plain_process p) x ≡ Some (as_found of_program (plain_routine r))
program-routine-found g p x r none some =
    ap (λ o. or_else (option_map (as_found of_process) o) (option_map (as_found of_program) (named entry_name x (routines (plain g))))) (named-map plain_routine entry_name x p.routines ∙ ap (option_map plain_routine) none)
    ∙ ap (option_map (as_found of_program)) (ap (named entry_name x) (routines-plain g.decls) ∙ named-map plain_routine entry_name x (program_routines g.decls) ∙ ap (option_map plain_routine) some)

pub program-routine-listed : (g : Prog Place) (p : Process Place) (x : Name) (r : Routine Place) → named routine_called x p.routines ≡ None → named routine_called x (program_routines g.decls) ≡ Some r → routine_of g p x ≡ Some r
program-routine-listed g p x r none some = ap (λ o. or_else o (named routine_called x (program_routines g.decls))) none ∙ some

-- a routine of the process is found first
pub process-routine-found : (g : Prog Place) (p : Process Place) (x : Name) (r : Routine Place) → named routine_called x p.routines ≡ Some r → routine_named (plain g) (plain_process p) x ≡ Some (as_found of_process (plain_routine r))
process-routine-found g p x r some =
    ap (λ o. or_else (option_map (as_found of_process) o) (option_map (as_found of_program) (named entry_name x (routines (plain g))))) (named-map plain_routine entry_name x p.routines ∙ ap (option_map plain_routine) some)

pub process-routine-listed : (g : Prog Place) (p : Process Place) (x : Name) (r : Routine Place) → named routine_called x p.routines ≡ Some r → routine_of g p x ≡ Some r
process-routine-listed g p x r some = ap (λ o. or_else o (named routine_called x (program_routines g.decls))) some

-- ---- all kinds

module _ (g : Prog Place) (written : IsWritten g) (known : ThingsKnown g) (p : Process Place) (hidden : (r : Routine Place) → In g.decls (routine r) → named routine_called r.name p.routines ≡ None)
    (home : Home) (f : Bool) (own : List plain_of.Var) (at : Option Place) where
  decl-stands : (one : Decl Place) → In g.decls one → Looks one g.decls (decl_name one).0 → var_named (decl_name one).0 own ≡ None → var_named (decl_name one).0 (outer_vars (plain g) (plain_process p) home) ≡ None
      → StandsAs g p (text_at g p home f own) at (decl_name one).0 (decl_name one).1.place (decl_name one).1.kind
  decl-stands (constant n q k) i l none_own none_outer =
      (thing-known g known (constant n q k) q constant_thing i (λ more. inl refl), meant-value _ _ _ none_own none_outer (constant-known (map plain_decl g.decls) [] n (plain_constant k) (in-map plain_decl g.decls (constant n q k) i)))
  decl-stands (device n q is_out) i l none_own none_outer = record {
    is_out = is_out;
    thing = thing-known g known (device n q is_out) q (device_thing is_out) i (λ more. inl refl);
    listed = in-contains _ _ (in-map plain_decl g.decls (device n q is_out) i);
  }
  decl-stands (event n q) i l none_own none_outer = in-contains _ _ (in-map plain_decl g.decls (event n q) i)
  decl-stands (routine r) i l none_own none_outer = record {
    one = r;
    home = of_program;
    is = refl;
    thing = thing-known g known (routine r) r.place (routine_thing false r) i (routine-always false r);
    result = (All-contains DeclWritten g.decls (routine r) written (in-contains _ _ i)).result;
    listed = program-routine-listed g p r.name r (hidden r i) l;
    found = program-routine-found g p r.name r (hidden r i) l;
  }
  decl-stands (monitor m) i l none_own none_outer = tt
  decl-stands (process q) i l none_own none_outer = tt

  pub listed-stands : (x : Name) (d : Declared) → Listed g.decls x d → var_named x own ≡ None → var_named x (outer_vars (plain g) (plain_process p) home) ≡ None → StandsAs g p (text_at g p home f own) at x d.place d.kind
  listed-stands x d l none_own none_outer =
      subst (λ e. StandsAs g p (text_at g p home f own) at x e.place e.kind) l.is
      (subst (λ y. Looks l.one g.decls y → var_named y own ≡ None → var_named y (outer_vars (plain g) (plain_process p) home) ≡ None → StandsAs g p (text_at g p home f own) at y (decl_name l.one).1.place (decl_name l.one).1.kind) l.name
      (decl-stands l.one l.listed) l.looks none_own none_outer)

  pub program-stands : (x : Name) (d : Declared) → ((program_name g).1 ≡ d) ⊎ Listed g.decls x d → var_named x own ≡ None → var_named x (outer_vars (plain g) (plain_process p) home) ≡ None → StandsAs g p (text_at g p home f own) at x d.place d.kind
  program-stands x d (inl e) none_own none_outer = subst (λ c. StandsAs g p (text_at g p home f own) at x c.place c.kind) e tt
  program-stands x d (inr l) none_own none_outer = listed-stands x d l none_own none_outer

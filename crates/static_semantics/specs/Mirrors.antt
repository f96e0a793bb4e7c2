-- What is in reach by the rules for names is what the meaning of programs looks up.
use Rattle.std.specs.Prelude.{◌≡◌, ℕ, ◌⊎◌, Bool, true, false, List, [], ◌∷◌, ◌++◌, Option, Some, None, map, length, filter_map, Contains}
use Rattle.syntax_tree.specs.Plain.{Name}
use Rattle.syntax_tree.specs.Plain as plain_of
use Rattle.syntax_tree.specs.Placed.{Kind, Routine, Monitor, Process, Decl, routine, monitor, process, Prog, plain, plain_kind, plain_routine, plain_process, plain_decl}
use Rattle.syntax_tree.specs.Parts.{program_routines}
use Rattle.syntax_tree.specs.declared.place.Place.{Place}
use Rattle.static_names.specs.declared.kind.Declared.{Declared}
use Rattle.static_names.specs.declared.kind.Kind.{Kind as NameKind}
use Rattle.static_names.specs.declared.kind.Kind.TheVariants as kind_is
use Rattle.static_names.specs.Reach.{Site, first, inside, inside_monitor, through}
use Rattle.static_names.specs.Occurrences.{Occurrence, names, inner_names, routine_scope, monitor_scope, process_scope, decl_name, others, entries_at, program_name}
use Rattle.static_declarations.specs.Things.{constant_thing, device_thing, routine_thing, variable_thing, loop_thing, shape_of, thing_at}
use Rattle.static_declarations.specs.Parts.{Part, parts, decl_parts}
use Rattle.source_semantics.specs.Names.{named, monitor_in}
use Rattle.source_semantics.specs.Run.{Home, of_program, of_process, of_monitor, or_else, routine_named, entry_named}
use Rattle.static_semantics.specs.Here.{Here, is_monitor, own_variable, outer_variable, turn, value, meant, in_routine, in_process}
use Rattle.static_semantics.specs.Statements.{IsCondition}
use Rattle.static_semantics.specs.Written.{ResultWritten}

-- ---- what a name that is in reach stands for

-- a variable of the routine whose name stands at its owner's place, or one of the process or the
-- monitor
pub record IsVariable (g : Prog Place) (c : Here) (routine_place : Option Place) (x : Name) (place : Place) : Type 0 where
  pub kind : Kind Place
  pub stands : ((thing_at g place ≡ variable_thing routine_place (shape_of kind)) × (meant c x ≡ own_variable (plain_kind kind)))
      ⊎ ((thing_at g place ≡ variable_thing None (shape_of kind)) × (meant c x ≡ outer_variable (plain_kind kind)))

-- the routine of that name, of the process or of the program
abbrev pub routine_of : Prog Place → Process Place → Name → Option (Routine Place)
routine_of g p x = or_else (named (λ r. r.name) x p.routines) (named (λ r. r.name) x (program_routines g.decls))

-- a routine that the meaning finds by its name
pub record IsRoutine (g : Prog Place) (p : Process Place) (c : Here) (x : Name) (place : Place) : Type 0 where
  pub one : Routine Place
  pub home : Home
  pub is : one.place ≡ place
  pub thing : thing_at g place ≡ routine_thing false one
  pub result : ResultWritten one.kind one.result one.value
  pub listed : routine_of g p x ≡ Some one
  pub found : routine_named c.program c.process x ≡ Some (record { home = home; routine = plain_routine one })

pub record IsDevice (g : Prog Place) (c : Here) (x : Name) (place : Place) : Type 0 where
  pub is_out : Bool
  pub thing : thing_at g place ≡ device_thing is_out
  pub listed : Contains c.program.decls (plain_of.device x is_out)

-- an entry by its bare name, inside its monitor
pub record IsEntry (g : Prog Place) (c : Here) (place : Place) : Type 0 where
  pub one : Routine Place
  pub inside : is_monitor c.home ≡ true
  pub is : one.place ≡ place
  pub thing : thing_at g place ≡ routine_thing true one

abbrev pub StandsAs : Prog Place → Process Place → Here → Option Place → Name → Place → NameKind → Type 0
StandsAs g p c at x place kind_is.Program = Unit {0}
StandsAs g p c at x place kind_is.Constant = (thing_at g place ≡ constant_thing) × (meant c x ≡ value)
StandsAs g p c at x place kind_is.Device = IsDevice g c x place
StandsAs g p c at x place kind_is.Event = Contains c.program.decls (plain_of.event x)
StandsAs g p c at x place kind_is.Routine = IsRoutine g p c x place
StandsAs g p c at x place kind_is.Entry = IsEntry g c place
StandsAs g p c at x place kind_is.Monitor = Unit {0}
StandsAs g p c at x place kind_is.Process = Unit {0}
StandsAs g p c at x place kind_is.Variable = IsVariable g c at x place
StandsAs g p c at x place kind_is.LoopVariable = (thing_at g place ≡ loop_thing) × (meant c x ≡ turn)
StandsAs g p c at x place kind_is.Condition = IsCondition c x

-- an entry behind its monitor's name
pub record IsEntryOf (g : Prog Place) (c : Here) (m x : Name) (place : Place) : Type 0 where
  pub one : Routine Place
  pub number : ℕ
  pub is : one.place ≡ place
  pub thing : thing_at g place ≡ routine_thing true one
  pub result : ResultWritten one.kind one.result one.value
  pub found : entry_named c.program m x ≡ Some (record { home = of_monitor number; routine = plain_routine one })

-- where process p runs, each name that is in reach at the site stands in the text for what it is
-- declared as; the text is that of the routine whose name stands at the place, if it is that of a
-- routine
pub record Mirrors (g : Prog Place) (p : Process Place) (at : Option Place) (site : Site) (c : Here) : Type 0 where
  pub program : c.program ≡ plain g
  pub process : c.process ≡ plain_process p
  pub names : (x : Name) (d : Declared) → site.means x ≡ Some d → StandsAs g p c at x d.place d.kind
  pub entries : (m x : Name) (d : Declared) → through site m x ≡ Some d → d.kind ≡ kind_is.Entry → IsEntryOf g c m x d.place

-- ---- the texts of a program

-- what is in reach at the first of the declarations `rest`, behind those before it
abbrev pub program_site : Prog Place → (before rest : List (Decl Place)) → Site
program_site g before rest = record {
  means = first ((program_name g ∷ map decl_name before) ++ others rest);
  members = λ place. first (entries_at g.decls place);
}

-- in the body, the handler and the header of a process
abbrev pub process_site : Prog Place → List (Decl Place) → Process Place → List (Decl Place) → Site
process_site g before p after = inside (process_scope p) (program_site g before (process p ∷ after))

abbrev pub monitor_site : Prog Place → List (Decl Place) → Monitor Place → List (Decl Place) → Site
monitor_site g before m after = inside_monitor m.place (monitor_scope m) (program_site g before (monitor m ∷ after))

-- the names in each declaration are names of the program
abbrev pub NamesListed : Prog Place → Type 0
NamesListed g = (before : List (Decl Place)) (d : Decl Place) (after : List (Decl Place)) → g.decls ≡ before ++ d ∷ after
    → (o : Occurrence) → Contains (inner_names (program_site g before (d ∷ after)) d []) o → Contains (names g) o

-- the statements and results in each declaration are parts of the program
abbrev pub PartsListed : Prog Place → Type 0
PartsListed g = (before : List (Decl Place)) (d : Decl Place) (after : List (Decl Place)) → g.decls ≡ before ++ d ∷ after
    → (x : Part) → Contains (decl_parts d []) x → Contains (parts g) x

-- how many monitors stand among the declarations
abbrev pub monitors_in : List (Decl Place) → ℕ
monitors_in ds = length (filter_map monitor_in (map plain_decl ds))

-- the texts that a process may run stand in the meaning as they stand in the program
pub record AreMirrored (g : Prog Place) (p : Process Place) : Type 0 where
  pub bodies : (before after : List (Decl Place)) → g.decls ≡ before ++ process p ∷ after
      → Mirrors g p None (process_site g before p after) (in_process (plain g) (plain_process p))
  pub routines_of_process : (before after : List (Decl Place)) (r : Routine Place) → g.decls ≡ before ++ process p ∷ after → Contains p.routines r
      → Mirrors g p (Some r.place) (inside (routine_scope r) (process_site g before p after)) (in_routine (plain g) (plain_process p) of_process (plain_routine r))
  pub routines_of_program : (before after : List (Decl Place)) (r : Routine Place) → g.decls ≡ before ++ routine r ∷ after
      → Mirrors g p (Some r.place) (inside (routine_scope r) (program_site g before (routine r ∷ after))) (in_routine (plain g) (plain_process p) of_program (plain_routine r))
  pub entries : (before after : List (Decl Place)) (m : Monitor Place) (r : Routine Place) → g.decls ≡ before ++ monitor m ∷ after → Contains m.entries r
      → Mirrors g p (Some r.place) (inside (routine_scope r) (monitor_site g before m after)) (in_routine (plain g) (plain_process p) (of_monitor (monitors_in before)) (plain_routine r))

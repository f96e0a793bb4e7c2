-- The monitor of the load keeps to the rules for statements.
use Rattle.std.proofs.Common.{◌≡◌, true, false, List, ◌∷◌, Option, Some, None, codes, refl, sym, subst}
use Rattle.syntax_tree.specs.Placed.{Routine, Monitor, monitor}
use Rattle.syntax_tree.specs.declared.place.Place.{Place}
use Rattle.syntax_tree.specs.Bare.{bare_stmts}
use Rattle.static_names.specs.declared.kind.Kind.TheVariants as kind_is
use Rattle.static_names.specs.Reach.{Site, inside, inside_monitor}
use Rattle.static_names.specs.Occurrences.{Occurrence, closes, routine_scope, routine_names, monitor_scope, monitor_names}
use Rattle.static_declarations.specs.Things.{Thing, routine_thing, decl_things}
use Rattle.static_declarations.specs.Parts.{Part, routine_parts, decl_parts}
use Rattle.load.specs.Program.{add_entry, pause_entry}
use Rattle.load_law.proofs.Given.{Each, Found, Known, Good}
use Rattle.load_law.proofs.LoadTypesStatements.{AreFine, are_fine_bare, stmts_kept}
use Rattle.load_law.proofs.LoadTypesTrees.{made_add, made_pause, made_monitor}

module _ (named : Place → Option Thing) (thing : Place → Thing) where
  pub record MonitorKept (m : Monitor Place) (add : Routine Place) (v : Place) (pause : Routine Place) (more : List Occurrence) (things : List (Place × Thing)) : Type 0 where
    pub good : (ps : List Part) → Each (Good named thing) ps → Each (Good named thing) (decl_parts (monitor m) ps)
    pub found : Each (Found named thing) more
    pub known : Each (Known named thing) things
    pub adding : thing add.place ≡ routine_thing true (made_add add v)
    pub pausing : thing pause.place ≡ routine_thing true (made_pause pause)

  pub monitor_kept : (m : Monitor Place) (n c : Place) (add : Routine Place) (v : Place) (pause : Routine Place) → bare_stmts add.body ≡ add_entry.body
      → bare_stmts pause.body ≡ pause_entry.body → (outer : Site) (more : List Occurrence) (things : List (Place × Thing))
      → Each (Found named thing) (monitor_names outer (made_monitor m n c add v pause) more)
      → Each (Known named thing) (decl_things (monitor (made_monitor m n c add v pause)) things)
      → MonitorKept (made_monitor m n c add v pause) add v pause more things
  monitor_kept m n c add v pause add_like pause_like outer more things found known =
      let made = made_monitor m n c add v pause in
      let here = inside_monitor m.place (monitor_scope made) outer in
      let in_add = inside (routine_scope (made_add add v)) here in
      let in_pause = inside (routine_scope (made_pause pause)) here in
      let n_known = known.1.0 in
      let v_known = known.1.1.1.1.0 in
      let add_fine : AreFine named thing true in_add add_entry.body = (
        (
          record { declared = record { place = n; kind = kind_is.Variable }; meant = refl; owner = None; is = n_known },
          record { declared = record { place = v; kind = kind_is.Variable }; meant = refl; owner = Some add.place; is = v_known },
        ),
        (refl, tt),
      ) in
      let pause_fine : AreFine named thing true in_pause pause_entry.body = ((refl, (tt, tt)), tt) in
      let add_ok = are_fine_bare named thing true in_add add.body (subst (AreFine named thing true in_add) (sym add_like) add_fine) in
      let pause_ok = are_fine_bare named thing true in_pause pause.body (subst (AreFine named thing true in_pause) (sym pause_like) pause_fine) in
      let last : List Occurrence = closes m.close m.close_place (codes "m") ∷ more in
      let second = routine_names here (made_pause pause) last in
      let adds = stmts_kept named thing true false in_add add.body (closes add.close add.close_place (codes "add") ∷ second) add_ok found.1.1.1.1.1 in
      let pauses = stmts_kept named thing true false in_pause pause.body (closes pause.close pause.close_place (codes "pause") ∷ last) pause_ok adds.others.1 in
      record {
        good = λ ps others. adds.good (routine_parts true (made_pause pause) ps) (pauses.good ps others);
        found = pauses.others.1.1;
        known = known.1.1.1.1.1.1;
        adding = known.1.1.1.0;
        pausing = known.1.1.1.1.1.0;
      }

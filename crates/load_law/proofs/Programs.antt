-- The program of the load keeps to the rules for types, for what may stand where, and for the
-- direction of devices.
use Rattle.std.proofs.Common.{◌≡◌, ℕ, true, false, if◌then◌else◌, List, [], ◌∷◌, ◌++◌, Option, codes, map, refl, ap, sym, ◌∙◌, subst}
use Rattle.syntax_tree.specs.Placed.{Routine, Monitor, Process, Decl, device, monitor, process, Prog}
use Rattle.syntax_tree.specs.declared.place.Place.{Place}
use Rattle.syntax_tree.specs.Bare.{bare, bare_stmts}
use Rattle.static_names.specs.declared.kind.Declared.{Declared}
use Rattle.static_names.specs.declared.kind.Kind.TheVariants as kind_is
use Rattle.static_names.specs.Reach.{Names, Reach, first}
use Rattle.static_names.specs.Occurrences.{Occurrence, closes, names, others, entries_at, entry_name, decl_name, decls_names, program_name}
use Rattle.static_declarations.specs.Things.{Thing, other_thing, decls_things}
use Rattle.static_declarations.specs.Parts.{decls_parts, parts}
use Rattle.load.specs.Program.{load_program, add_entry, pause_entry}
use Rattle.load_text_law.proofs.Shapes.{has_shape, AreLoad}
use Rattle.static_semantics.specs.Things.{things}
use Rattle.load_law.proofs.Given.{Each, Found, Known, Good}
use Rattle.load_law.proofs.LoadTypesTrees.{made_add, made_pause, made_monitor, is_made_monitor}
use Rattle.load_law.proofs.Sites.{reaching, Seen}
use Rattle.load_law.proofs.LoadTypesProcesses.{processes_kept}
use Rattle.load_law.proofs.Monitors.{monitor_kept}
use Rattle.wellformed_law.proofs.Found.{same-itself}

abbrev made : Prog Place → (source sink : Place) → Monitor Place → List (Process Place) → Prog Place
made g source sink m ps = record g {
  name = codes "load";
  decls = device (codes "src") source false ∷ device (codes "dst") sink true ∷ monitor m ∷ map (λ p. process p) ps;
}

module _ (named : Place → Option Thing) (thing : Place → Thing) where
  abbrev Keeps : Prog Place → Type 0
  Keeps g = Each (Found named thing) (names g) → Each (Known named thing) (things g) → Each (Good named thing) (parts g)

  made_keeps : (key count : ℕ) (g : Prog Place) (source sink : Place) (m : Monitor Place) (n c : Place) (add : Routine Place) (v : Place) (pause : Routine Place)
      → bare_stmts add.body ≡ add_entry.body → bare_stmts pause.body ≡ pause_entry.body
      → (ps : List (Process Place)) → AreLoad key count 0 count ps → Keeps (made g source sink (made_monitor m n c add v pause) ps)
  made_keeps key count g source sink m n c add v pause add_like pause_like ps are found known =
      let mm = made_monitor m n c add v pause in
      let h = made g source sink mm ps in
      let ds : List (Decl Place) = map (λ p. process p) ps in
      let members : Place → Reach = λ place. first (entries_at h.decls place) in
      let before : Names = program_name h ∷ decl_name (device (codes "src") source false) ∷ decl_name (device (codes "dst") sink true) ∷ [] in
      let earlier : Names = before ++ decl_name (monitor mm) ∷ [] in
      let close : List Occurrence = closes g.close g.close_place (codes "load") ∷ [] in
      let last : List (Place × Thing) = (g.place, other_thing) ∷ [] in
      let outer = reaching members (before ++ others (monitor mm ∷ ds)) in
      let one = monitor_kept named thing m n c add v pause add_like pause_like outer (decls_names members earlier ds close) (decls_things ds last) found.1.1.1.1 known.1.1 in
      let here = same-itself m.place in
      let adding : Declared = record { place = add.place; kind = kind_is.Entry } in
      let pausing : Declared = record { place = pause.place; kind = kind_is.Entry } in
      let entries : Names = entry_name (made_add add v) ∷ entry_name (made_pause pause) ∷ entries_at ds m.place in
      let seen : Seen named thing (reaching members earlier) = record {
        source = record { declared = record { place = source; kind = kind_is.Device }; meant = refl; is = known.0 };
        sink = record { declared = record { place = sink; kind = kind_is.Device }; meant = refl; is = known.1.0 };
        mon = m.place;
        mon_meant = refl;
        add = record {
          declared = adding;
          meant = ap (λ b. first (if b then entries else entries_at ds m.place) (codes "add")) here;
          routine = made_add add v;
          is = one.adding;
          kind = refl;
          params = (refl, tt);
        };
        pause = record {
          declared = pausing;
          meant = ap (λ b. first (if b then entries else entries_at ds m.place) (codes "pause")) here;
          routine = made_pause pause;
          is = one.pausing;
          kind = refl;
          params = tt;
        };
      } in
      one.good (decls_parts ds []) (processes_kept named thing members key count 0 count ps are earlier seen close last one.found one.known)

  pub load_keeps : (key count : ℕ) (g : Prog Place) → bare g ≡ load_program key count → Keeps g
  load_keeps key count g same =
      let s = has_shape key count g same in
      let m = is_made_monitor s.m s.like in
      let title : g.name ≡ codes "load" = ap (λ (h : Prog _). h.name) same in
      let monitors = m.is in
      let decls : g.decls ≡ (made g s.source s.sink (made_monitor s.m m.n m.c m.add m.v m.pause) s.list).decls =
      s.is ∙ ap (λ x. device (codes "src") s.source false ∷ device (codes "dst") s.sink true ∷ monitor x ∷ map (λ p. process p) s.list) monitors in
      let is : g ≡ made g s.source s.sink (made_monitor s.m m.n m.c m.add m.v m.pause) s.list = λ i. record g { name = title i; decls = decls i } in
      subst Keeps (sym is) (made_keeps key count g s.source s.sink s.m m.n m.c m.add m.v m.pause m.add_like m.pause_like s.list s.are)

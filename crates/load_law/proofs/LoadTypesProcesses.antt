-- The processes of the load keep to the rules for statements.
use Rattle.std.proofs.Common.{◌≡◌, ℕ, zero, suc, Bool, true, false, List, [], ◌∷◌, ◌++◌, Option, None, codes, map, refl, ap, sym, subst}
use Rattle.syntax_tree.specs.Placed.{Constant, Stmts, Handler, Process, Decl, process}
use Rattle.syntax_tree.specs.declared.place.Place.{Place}
use Rattle.syntax_tree.specs.Bare.{bare_stmts, bare_process}
use Rattle.static_names.specs.declared.kind.Declared.{Declared}
use Rattle.static_names.specs.declared.kind.Kind.TheVariants as kind_is
use Rattle.static_names.specs.Reach.{Names, Reach, Site, inside}
use Rattle.static_names.specs.Occurrences.{Occurrence, closes, loop_name, constant_names, stmts_names, process_scope, process_names, others, decl_name, decls_names}
use Rattle.static_declarations.specs.declared.sort.Sort.TheVariants as sort_is
use Rattle.static_declarations.specs.declared.sort.VarType.TheVariants as shape_is
use Rattle.static_declarations.specs.Things.{Thing, variable_thing, decl_things, decls_things}
use Rattle.static_declarations.specs.Parts.{Part, stmts_parts, decl_parts, decls_parts}
use Rattle.load.specs.declared.program.DrawnProcess.{DrawnProcess}
use Rattle.load.specs.Program.{Nowhere, drawn, is_even, pause_if, load_body, load_handler, load_process}
use Rattle.load_text_law.proofs.Shapes.{AreLoad, no_more, one_more}
use Rattle.load_law.proofs.Given.{Each, Found, Known, Good, IsNumber, IsDevice, IsEntry}
use Rattle.load_law.proofs.Terms.{IsLiteral, no_names}
use Rattle.load_law.proofs.LoadTypesStatements.{AreFine, are_fine_bare, standing, stmts_kept}
use Rattle.load_law.proofs.LoadTypesTrees.{made_process, is_made}
use Rattle.load_law.proofs.Sites.{reaching, Seen, seen_more, is_entry}

module _ (named : Place → Option Thing) (thing : Place → Thing) where
  -- ---- the texts of a process

  record Inside (here : Site) : Type 0 where
    x : IsNumber named thing here (codes "x")
    x_turning : (at : Place) → IsNumber named thing (inside (loop_name (codes "i") at ∷ []) here) (codes "x")
    source : IsDevice named thing here false (codes "src")
    sink : IsDevice named thing here true (codes "dst")
    add : IsEntry named thing here (codes "m") (codes "add") 1
    pause : IsEntry named thing here (codes "m") (codes "pause") 0

  last_fine : (here : Site) → Inside here → (even : Bool) (ss : Stmts Nowhere) → AreFine named thing false here ss → AreFine named thing false here (pause_if even ss)
  last_fine here s true ss ok = ((refl, (0, (s.pause, tt))), ok)
  last_fine here s false ss ok = ok

  body_fine : (here : Site) → Inside here → (number : ℕ) (d : DrawnProcess) → AreFine named thing false here (load_body number d)
  body_fine here s number d = (
    (s.source, s.x),
    (
      (tt, (tt, λ at. ((s.x_turning at, ((s.x_turning at, (refl, (refl, (tt, tt)))), (refl, (refl, (tt, tt))))), tt))),
      ((refl, (1, (s.add, (s.x, tt)))), last_fine here s (is_even number) _ ((s.sink, s.x), tt)),
    ),
  )

  handler_fine : (here : Site) → Inside here → AreFine named thing false here load_handler.body
  handler_fine here s = ((s.sink, tt), tt)

  -- ---- a process

  record Kept (p : Process Place) (more : List Occurrence) (things : List (Place × Thing)) : Type 0 where
    good : (ps : List Part) → Each (Good named thing) ps → Each (Good named thing) (decl_parts (process p) ps)
    found : Each (Found named thing) more
    known : Each (Known named thing) things

  abbrev Keeps : Process Place → Type 0
  Keeps p = (outer : Site) → Seen named thing outer → (more : List Occurrence) (things : List (Place × Thing)) → Each (Found named thing) (process_names outer p more)
      → Each (Known named thing) (decl_things (process p) things) → Kept p more things

  made_seen : (p : Process Place) (frame : Constant Place) (x : Place) (number : Constant Place) (h : Handler Place) (outer : Site) → Seen named thing outer
      → thing x ≡ variable_thing None (shape_is.One sort_is.Number) → Inside (inside (process_scope (made_process p frame x number h)) outer)
  made_seen p frame x number h outer s known =
      let here = inside (process_scope (made_process p frame x number h)) outer in
      let at : Declared = record { place = x; kind = kind_is.Variable } in
      record {
        x = record { declared = at; meant = refl; owner = None; is = known };
        x_turning = λ turn. record { declared = at; meant = refl; owner = None; is = known };
        source = record { declared = s.source.declared; meant = s.source.meant; is = s.source.is };
        sink = record { declared = s.sink.declared; meant = s.sink.meant; is = s.sink.is };
        add = is_entry named thing here s.mon (codes "add") 1 s.mon_meant s.add;
        pause = is_entry named thing here s.mon (codes "pause") 0 s.mon_meant s.pause;
      }

  made_kept : (p : Process Place) (frame : Constant Place) (x : Place) (number : Constant Place) (h : Handler Place) → IsLiteral frame → IsLiteral number
      → bare_stmts h.body ≡ load_handler.body → (at : ℕ) (d : DrawnProcess) → bare_stmts p.body ≡ load_body at d → Keeps (made_process p frame x number h)
  made_kept p frame x number h frame_literal number_literal handler_like at d body_like outer s more things found known =
      let made = made_process p frame x number h in
      let here = inside (process_scope made) outer in
      let in_here = made_seen p frame x number h outer s known.1.0 in
      let body_ok = are_fine_bare named thing false here p.body (subst (AreFine named thing false here) (sym body_like) (body_fine here in_here at d)) in
      let handler_ok = are_fine_bare named thing false here h.body (subst (AreFine named thing false here) (sym handler_like) (handler_fine here in_here)) in
      let close : List Occurrence = closes p.close p.close_place p.name ∷ more in
      let last = stmts_names here h.body close in
      let with_number = constant_names here number last in
      let in_body = subst (Each (Found named thing)) (no_names here frame frame_literal (stmts_names here p.body with_number)) found.1 in
      let body = stmts_kept named thing false false here p.body with_number body_ok in_body in
      let in_handler = subst (Each (Found named thing)) (no_names here number number_literal last) body.others in
      let handler = stmts_kept named thing false false here h.body close handler_ok in_handler in
      record {
        good = λ ps others. body.good (stmts_parts (standing false false) h.body ps) (handler.good ps others);
        found = handler.others.1;
        known = known.1.1;
      }

  process_kept : (p : Process Place) (count number : ℕ) (d : DrawnProcess) → bare_process p ≡ load_process count number d → Keeps p
  process_kept p count number d same =
      let made = is_made p count number d same in
      subst Keeps (sym made.is)
      (made_kept p made.frame made.x made.number made.handler made.frame_literal made.number_literal made.handler_like number d (ap (λ (q : Process Nowhere). q.body) same))

  -- ---- one behind the other

  pub processes_kept : (members : Place → Reach) (key count before left : ℕ) (ps : List (Process Place)) → AreLoad key count before left ps → (earlier : Names)
      → Seen named thing (reaching members earlier) → (more : List Occurrence) (things : List (Place × Thing))
      → Each (Found named thing) (decls_names members earlier (map (λ p. process p) ps) more) → Each (Known named thing) (decls_things (map (λ p. process p) ps) things)
      → Each (Good named thing) (decls_parts (map (λ p. process p) ps) [])
  processes_kept members key count before zero [] no_more earlier s more things found known = tt
  processes_kept members key count before zero (p ∷ ps) are earlier s more things found known = elim are [ ]
  processes_kept members key count before (suc left) [] are earlier s more things found known = elim are [ ]
  processes_kept members key count before (suc left) (p ∷ ps) (one_more _ _ same are) earlier s more things found known =
      let ds : List (Decl Place) = map (λ p. process p) ps in
      let name = decl_name (process p) in
      let reach = reaching members (earlier ++ others (process p ∷ ds)) in
      let one = process_kept p count (suc before) (drawn key before) same reach (seen_more named thing members earlier (others (process p ∷ ds)) s)
      (decls_names members (earlier ++ name ∷ []) ds more) (decls_things ds things) found.1 known in
      let rest = processes_kept members key count (suc before) left ps are (earlier ++ name ∷ []) (seen_more named thing members earlier (name ∷ []) s) more things one.found one.known in
      one.good (decls_parts ds []) rest

-- The places of the names that are told rise: they are among those of the program, in their order.
use Rattle.std.proofs.Common.{◌≡◌, Bool, true, false, cond, List, [], ◌∷◌, ◌++◌, Option, Some, None, ◌⊎◌, inl, inr, refl, ap, sym, ◌∙◌, subst, append_assoc}
use Rattle.std.specs.Prelude.{flat_map}
use Rattle.std.specs.Option.{option_map_or}
use Rattle.syntax_tree.specs.Placed.{Constant, literal_constant, named_constant, Var, Param, Stmt, assign, assign_entry, assign_empty, perform, perform_entry, when, when_else, loop, exit_when, get, put, wait, signal, broadcast, except, assert, Stmts, no_stmts, stmts, Routine, Member, variable_member, condition_member, Monitor, Handler, Process, Decl, constant, device, event, routine, monitor, process, Prog}
use Rattle.syntax_tree.specs.Parts.{same_place}
use Rattle.syntax_tree.specs.declared.place.Place.{Place}
use Rattle.message_names.specs.declared.role.Scope.{Scope}
use Rattle.message_names.specs.Mentions as told
use Rattle.message_names.specs.Mentions.{Mention, value_place}
use Rattle.message_names.specs.Reach.{mention_at}
use Rattle.message_names.proofs.Order.{Ahead, Mem, Rising, ahead-apart}
use Rattle.message_names.proofs.Spots.{places, map-append, stmt_spots, stmts_spots, var_spots, param_spots, member_spots, routine_spots, monitor_spots, handler_spots, process_spots, decl_spots, spots}
use Rattle.message_names.proofs.Standing.{itself}

-- ---- members of lists

pub mem-left : {X : Type 0} (x : X) (xs ys : List X) → Mem x xs → Mem x (xs ++ ys)
mem-left x [] ys m = absurd m
mem-left x (z ∷ xs) ys (inl e) = inl e
mem-left x (z ∷ xs) ys (inr m) = inr (mem-left x xs ys m)

pub mem-right : {X : Type 0} (x : X) (xs ys : List X) → Mem x ys → Mem x (xs ++ ys)
mem-right x [] ys m = m
mem-right x (z ∷ xs) ys m = inr (mem-right x xs ys m)

pub mem-place : (m : Mention) (ms : List Mention) → Mem m ms → Mem m.place (places ms)
mem-place m [] h = absurd h
mem-place m (n ∷ ms) (inl e) = inl (ap (λ x. x.place) e)
mem-place m (n ∷ ms) (inr h) = inr (mem-place m ms h)

-- ---- some of the places, in their order

abbrev pub Part : List Place → List Place → Type 0
Part [] ps = Unit {0}
Part (q ∷ qs) [] = ⊥
Part (q ∷ qs) (p ∷ ps) = ((p ≡ q) × Part qs ps) ⊎ Part (q ∷ qs) ps

part-skip : (qs : List Place) (p : Place) (ps : List Place) → Part qs ps → Part qs (p ∷ ps)
part-skip [] p ps h = tt
part-skip (q ∷ qs) p ps h = inr h

pub part-all : (ps : List Place) → Part ps ps
part-all [] = tt
part-all (p ∷ ps) = inl (refl, part-all ps)

pub part-behind : (ps qs rs : List Place) → Part qs rs → Part qs (ps ++ rs)
part-behind [] qs rs h = h
part-behind (p ∷ ps) qs rs h = part-skip qs p (ps ++ rs) (part-behind ps qs rs h)

pub part-front : (qs ps rs : List Place) → Part qs ps → Part qs (ps ++ rs)
part-front [] ps rs h = tt
part-front (q ∷ qs) [] rs h = absurd h
part-front (q ∷ qs) (p ∷ ps) rs (inl h) = inl (h.0, part-front qs ps rs h.1)
part-front (q ∷ qs) (p ∷ ps) rs (inr h) = inr (part-front (q ∷ qs) ps rs h)

part-both : (qs ps rs ss : List Place) → Part qs ps → Part rs ss → Part (qs ++ rs) (ps ++ ss)
part-both [] ps rs ss g h = part-behind ps rs ss h
part-both (q ∷ qs) [] rs ss g h = absurd g
part-both (q ∷ qs) (p ∷ ps) rs ss (inl g) h = inl (g.0, part-both qs ps rs ss g.1 h)
part-both (q ∷ qs) (p ∷ ps) rs ss (inr g) h = inr (part-both (q ∷ qs) ps rs ss g h)

pub part-mem : (qs ps : List Place) (p : Place) → Part qs ps → Mem p qs → Mem p ps
part-mem [] ps p h m = absurd m
part-mem (q ∷ qs) [] p h m = absurd h
part-mem (q ∷ qs) (r ∷ ps) p (inl h) (inl e) = inl (h.0 ∙ e)
part-mem (q ∷ qs) (r ∷ ps) p (inl h) (inr m) = inr (part-mem qs ps p h.1 m)
part-mem (q ∷ qs) (r ∷ ps) p (inr h) m = inr (part-mem (q ∷ qs) ps p h m)

pub part-rises : (qs ps : List Place) → Part qs ps → Rising ps → Rising qs
part-rises [] ps h r = tt
part-rises (q ∷ qs) [] h r = absurd h
part-rises (q ∷ qs) (p ∷ ps) (inl h) r = (λ x m. subst (λ y. Ahead y x) h.0 (r.0 x (part-mem qs ps x h.1 m)), part-rises qs ps h.1 r.1)
part-rises (q ∷ qs) (p ∷ ps) (inr h) r = part-rises (q ∷ qs) ps h r.1

pub part-joined : (ms ns : List Mention) (ps qs : List Place) → Part (places ms) ps → Part (places ns) qs → Part (places (ms ++ ns)) (ps ++ qs)
part-joined ms ns ps qs g h = subst (λ l. Part l (ps ++ qs)) (map-append ms ns) (part-both (places ms) ps (places ns) qs g h)

pub part-flat : {X : Type 0} (f : X → List Mention) (g : X → List Place) → ((x : X) → Part (places (f x)) (g x)) → (xs : List X) → Part (places (flat_map f xs)) (flat_map g xs)
part-flat f g each [] = tt
part-flat f g each (x ∷ xs) = part-joined (f x) (flat_map f xs) (g x) (flat_map g xs) (each x) (part-flat f g each xs)

-- ---- part by part

pub part-value : (c : Constant Place) → Part (places (told.constant_mentions c)) (value_place c ∷ [])
part-value (literal_constant p is_minus n q) = tt
part-value (named_constant p is_minus n q) = inl (refl, tt)

mutual
  pub part-stmt : (s : Stmt Place) → Part (places (told.stmt_mentions s)) (stmt_spots s)
  part-stmt (assign r e) = part-all (stmt_spots (assign r e))
  part-stmt (assign_entry r mon p entry q es) = part-all (stmt_spots (assign_entry r mon p entry q es))
  part-stmt (assign_empty r cond p) = part-all (stmt_spots (assign_empty r cond p))
  part-stmt (perform p name es) = part-all (stmt_spots (perform p name es))
  part-stmt (perform_entry p mon entry q es) = part-all (stmt_spots (perform_entry p mon entry q es))
  part-stmt (when p e a) = part-joined (told.expr_mentions e) (told.stmts_mentions a) (places (told.expr_mentions e)) (stmts_spots a) (part-all (places (told.expr_mentions e))) (part-stmts a)
  part-stmt (when_else p e a b) =
      part-joined (told.expr_mentions e) (told.stmts_mentions a ++ told.stmts_mentions b) (places (told.expr_mentions e)) (stmts_spots a ++ stmts_spots b) (part-all (places (told.expr_mentions e)))
      (part-joined (told.stmts_mentions a) (told.stmts_mentions b) (stmts_spots a) (stmts_spots b) (part-stmts a) (part-stmts b))
  part-stmt (loop p name q low high a) = inl (
    refl,
    subst (λ l. Part (places l) (places (told.constant_mentions low) ++ value_place high ∷ stmts_spots a))
        (sym (append_assoc (told.constant_mentions low) (told.constant_mentions high) (told.stmts_mentions a)))
        (part-joined (told.constant_mentions low) (told.constant_mentions high ++ told.stmts_mentions a) (places (told.constant_mentions low)) (value_place high ∷ stmts_spots a)
        (part-all (places (told.constant_mentions low))) (part-joined (told.constant_mentions high) (told.stmts_mentions a) (value_place high ∷ []) (stmts_spots a) (part-value high) (part-stmts a))),
  )
  part-stmt (exit_when p e) = part-all (stmt_spots (exit_when p e))
  part-stmt (get p dev q r) = part-all (stmt_spots (get p dev q r))
  part-stmt (put p dev q e) = part-all (stmt_spots (put p dev q e))
  part-stmt (wait p cond q limit c) = part-all (stmt_spots (wait p cond q limit c))
  part-stmt (signal p cond q) = part-all (stmt_spots (signal p cond q))
  part-stmt (broadcast p cond q) = part-all (stmt_spots (broadcast p cond q))
  part-stmt (except p c) = part-all (stmt_spots (except p c))
  part-stmt (assert p e) = part-all (stmt_spots (assert p e))

  pub part-stmts : (ss : Stmts Place) → Part (places (told.stmts_mentions ss)) (stmts_spots ss)
  part-stmts no_stmts = tt
  part-stmts (stmts s ss) = part-joined (told.stmt_mentions s) (told.stmts_mentions ss) (stmt_spots s) (stmts_spots ss) (part-stmt s) (part-stmts ss)

pub part-var : (scope : Scope) (v : Var Place) → Part (places (told.var_mentions scope v)) (var_spots v)
part-var scope v = part-all (var_spots v)

pub part-param : (scope : Scope) (v : Param Place) → Part (places (told.param_mentions scope v)) (param_spots v)
part-param scope v = part-all (param_spots v)

pub part-member : (scope : Scope) (m : Member Place) → Part (places (told.member_mentions scope m)) (member_spots m)
part-member scope (variable_member v) = part-var scope v
part-member scope (condition_member name place) = part-all (place ∷ [])

pub part-routine : (is_entry : Bool) (scope : Scope) (r : Routine Place) → Part (places (told.routine_mentions is_entry scope r)) (routine_spots r)
part-routine is_entry scope r =
    let own : Scope = told.scope_from r.place r.close_place in
    let end : List Mention = told.closes r.close r.close_place r.place ∷ [] in
    let value : List Mention = option_map_or told.expr_mentions r.value [] in
    let result : List Mention = option_map_or told.scalar_mentions r.result [] in
    let vars : List Mention = flat_map (told.var_mentions own) r.vars in
    let at_value = part-joined value end (places value) (r.close_place ∷ []) (part-all (places value)) (part-all (r.close_place ∷ [])) in
    let at_body = part-joined (told.stmts_mentions r.body) (value ++ end) (stmts_spots r.body) (places value ++ r.close_place ∷ []) (part-stmts r.body) at_value in
    let at_vars = part-joined vars (told.stmts_mentions r.body ++ (value ++ end)) (flat_map var_spots r.vars) (stmts_spots r.body ++ (places value ++ r.close_place ∷ [])) (part-flat (told.var_mentions own) var_spots (part-var own) r.vars) at_body in
    let at_result = part-joined result (vars ++ (told.stmts_mentions r.body ++ (value ++ end))) (places result) (flat_map var_spots r.vars ++ (stmts_spots r.body ++ (places value ++ r.close_place ∷ []))) (part-all (places result)) at_vars in
    inl (
      refl,
      part-joined (flat_map (told.param_mentions own) r.params) (result ++ (vars ++ (told.stmts_mentions r.body ++ (value ++ end)))) (flat_map param_spots r.params)
          (places result ++ (flat_map var_spots r.vars ++ (stmts_spots r.body ++ (places value ++ r.close_place ∷ [])))) (part-flat (told.param_mentions own) param_spots (part-param own) r.params) at_result,
    )

pub part-monitor : (scope : Scope) (m : Monitor Place) → Part (places (told.monitor_mentions scope m)) (monitor_spots m)
part-monitor scope m =
    let own : Scope = told.scope_from m.place m.close_place in
    let end : List Mention = told.closes m.close m.close_place m.place ∷ [] in
    let entries : List Mention = flat_map (told.routine_mentions true own) m.entries in
    let at_entries = part-joined entries end (flat_map routine_spots m.entries) (m.close_place ∷ []) (part-flat (told.routine_mentions true own) routine_spots (part-routine true own) m.entries) (part-all (m.close_place ∷ [])) in
    inl (
      refl,
      part-joined (flat_map (told.member_mentions own) m.members) (entries ++ end) (flat_map member_spots m.members) (flat_map routine_spots m.entries ++ m.close_place ∷ [])
          (part-flat (told.member_mentions own) member_spots (part-member own) m.members) at_entries,
    )

pub part-handler : (h : Option (Handler Place)) → Part (places (option_map_or told.handler_mentions h [])) (handler_spots h)
part-handler None = tt
part-handler (Some h) =
    let numbers : List Mention = flat_map told.constant_mentions h.numbers in part-joined numbers (told.stmts_mentions h.body) (places numbers) (stmts_spots h.body) (part-all (places numbers)) (part-stmts h.body)

pub part-process : (scope : Scope) (p : Process Place) → Part (places (told.process_mentions scope p)) (process_spots p)
part-process scope p =
    let own : Scope = told.scope_from p.place p.close_place in
    let end : List Mention = told.closes p.close p.close_place p.place ∷ [] in
    let handled : List Mention = option_map_or told.handler_mentions p.handler [] in
    let routines : List Mention = flat_map (told.routine_mentions false own) p.routines in
    let vars : List Mention = flat_map (told.var_mentions own) p.vars in
    let begun : List Mention = told.activation_mentions p.activation in
    let at_handler = part-joined handled end (handler_spots p.handler) (p.close_place ∷ []) (part-handler p.handler) (part-all (p.close_place ∷ [])) in
    let at_body = part-joined (told.stmts_mentions p.body) (handled ++ end) (stmts_spots p.body) (handler_spots p.handler ++ p.close_place ∷ []) (part-stmts p.body) at_handler in
    let at_routines = part-joined routines (told.stmts_mentions p.body ++ (handled ++ end)) (flat_map routine_spots p.routines) (stmts_spots p.body ++ (handler_spots p.handler ++ p.close_place ∷ []))
    (part-flat (told.routine_mentions false own) routine_spots (part-routine false own) p.routines) at_body in
    let at_vars = part-joined vars (routines ++ (told.stmts_mentions p.body ++ (handled ++ end))) (flat_map var_spots p.vars)
    (flat_map routine_spots p.routines ++ (stmts_spots p.body ++ (handler_spots p.handler ++ p.close_place ∷ []))) (part-flat (told.var_mentions own) var_spots (part-var own) p.vars) at_routines in
    inl (
      refl,
      part-joined begun (vars ++ (routines ++ (told.stmts_mentions p.body ++ (handled ++ end)))) (places begun)
          (flat_map var_spots p.vars ++ (flat_map routine_spots p.routines ++ (stmts_spots p.body ++ (handler_spots p.handler ++ p.close_place ∷ [])))) (part-all (places begun)) at_vars,
    )

pub part-decl : (scope : Scope) (d : Decl Place) → Part (places (told.decl_mentions scope d)) (decl_spots d)
part-decl scope (constant name place c) = inl (refl, part-value c)
part-decl scope (device name place is_out) = part-all (place ∷ [])
part-decl scope (event name place) = part-all (place ∷ [])
part-decl scope (routine r) = part-routine false scope r
part-decl scope (monitor m) = part-monitor scope m
part-decl scope (process p) = part-process scope p

pub part-program : (g : Prog Place) → Part (places (told.mentions g)) (spots g)
part-program g =
    let scope : Scope = told.scope_from told.before_all g.close_place in
    let end : List Mention = told.closes g.close g.close_place g.place ∷ [] in
    inl (refl, part-joined (flat_map (told.decl_mentions scope) g.decls) end (flat_map decl_spots g.decls) (g.close_place ∷ []) (part-flat (told.decl_mentions scope) decl_spots (part-decl scope) g.decls) (part-all (g.close_place ∷ [])))

-- ---- each name is found at its place

pub found-there : (m : Mention) (ms : List Mention) → Rising (places ms) → Mem m ms → mention_at m.place ms ≡ Some m
found-there m [] r h = absurd h
found-there m (n ∷ ms) r (inl e) = ap (λ b. cond b (Some n) (mention_at m.place ms)) (ap (λ x. same_place x.place m.place) e ∙ itself m.place) ∙ ap Some e
found-there m (n ∷ ms) r (inr h) = ap (λ b. cond b (Some n) (mention_at m.place ms)) (ahead-apart n.place m.place (r.0 m.place (mem-place m ms h))) ∙ found-there m ms r.1 h

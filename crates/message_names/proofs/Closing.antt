-- The name that a closing name has to repeat is the one that is told.
use Rattle.std.proofs.Common.{◌≡◌, ◌<◌, ℕ, zero, suc, Bool, true, false, cond, List, [], ◌∷◌, ◌++◌, length, slice_index_or, Option, Some, None, inl, inr, option_map, refl, ap, ◌∙◌, subst, arith}
use Rattle.std.specs.Prelude.{flat_map, Contains}
use Rattle.std.specs.Option.{option_map_or}
use Rattle.syntax_tree.specs.Placed.{Constant, literal_constant, named_constant, Scalar, int, boolean, subrange, Kind, scalar, array, Var, Param, Expr, literal, truth, variable, element, call, minus, negation, paren, row, Exprs, no_exprs, exprs, Operands, no_operands, operand, Ref, whole, part, Stmt, assign, assign_entry, assign_empty, perform, perform_entry, when, when_else, loop, exit_when, get, put, wait, signal, broadcast, except, assert, Stmts, no_stmts, stmts, Routine, Member, variable_member, condition_member, Monitor, Activation, periodic, at_event, Handler, Process, Decl, constant, device, event, routine, monitor, process, Prog}
use Rattle.syntax_tree.specs.declared.place.Place.{Place}
use Rattle.syntax.specs.Lex.{TokensStandInOrder}
use Rattle.syntax.specs.Words.{toks_of}
use Rattle.static_names.specs.Reach.{Names, Reach, Site, first, inside, inside_monitor}
use Rattle.static_names.specs.Occurrences as rule
use Rattle.static_names.specs.Occurrences.{Occurrence}
use Rattle.static_names.specs.Resolved.{IsRead}
use Rattle.message_names.specs.declared.role.Scope.{Scope}
use Rattle.message_names.specs.declared.role.What.TheVariants as what_is
use Rattle.message_names.specs.Laws.{TellsOfClosing}
use Rattle.message_names.specs.Mentions as told
use Rattle.message_names.specs.Mentions.{Mention}
use Rattle.message_names.specs.Reach.{mention_at}
use Rattle.message_names.specs.Told.{misclosed, name_of, name_sentence, sentence_of}
use Rattle.message_names.proofs.Order.{Mem, Rising, tokens-climb, some-rise}
use Rattle.message_names.proofs.Parts.{mem-left, mem-right, part-rises, part-program, found-there}
use Rattle.message_names.proofs.Spots.{places, spots, of-tokens}

pub rising : TokensStandInOrder → (g : Prog Place) → IsRead g → Rising (spots g)
rising order g read = some-rise (spots g) (toks_of read.text read.toks) (of-tokens g (toks_of read.text read.toks) read.reads) (tokens-climb read.text read.toks (order read.text read.toks read.listed))

-- ---- what is told of each closing name

-- all of these are so
abbrev pub Each : (Occurrence → Type 0) → List Occurrence → Type 0
Each T [] = Unit {0}
Each T (o ∷ os) = T o × Each T os

-- among the names that are told stands the closing name, with the place of the name that it has to repeat
abbrev Closed : List Mention → Occurrence → Type 0
Closed ms (rule.declares name place taken) = Unit {0}
Closed ms (rule.used name place want means) = Unit {0}
Closed ms (rule.closes name place opening) = (q : Place) × Mem (told.closes name place q) ms × ((m : Mention) × Mem m ms × (m.place ≡ q) × (m.name ≡ opening))

-- with names that are told before others these keep being told of
abbrev Keeps : List Mention → (List Occurrence → List Occurrence) → Type 0
Keeps ms names = (more : List Occurrence) → Each (Closed ms) more → Each (Closed ms) (names more)

abbrev pub Within : List Mention → List Mention → Type 0
Within some ms = (m : Mention) → Mem m some → Mem m ms

pub within-left : (some more ms : List Mention) → Within (some ++ more) ms → Within some ms
within-left some more ms h m is = h m (mem-left m some more is)

pub within-right : (some more ms : List Mention) → Within (some ++ more) ms → Within more ms
within-right some more ms h m is = h m (mem-right m some more is)

by-declarations : (ms : List Mention) (outside : Reach) (earlier ds : Names) → Keeps ms (rule.declarations outside earlier ds)
by-declarations ms outside earlier [] more rest = rest
by-declarations ms outside earlier (d ∷ ds) more rest = (tt, by-declarations ms outside (earlier ++ d ∷ []) ds more rest)

by-constant : (ms : List Mention) (here : Site) (c : Constant Place) → Keeps ms (rule.constant_names here c)
by-constant ms here (literal_constant p is_minus n q) more rest = rest
by-constant ms here (named_constant p is_minus n q) more rest = (tt, rest)

by-scalar : (ms : List Mention) (here : Site) (s : Scalar Place) → Keeps ms (rule.scalar_names here s)
by-scalar ms here int more rest = rest
by-scalar ms here boolean more rest = rest
by-scalar ms here (subrange low high) more rest = by-constant ms here low _ (by-constant ms here high more rest)

by-kind : (ms : List Mention) (here : Site) (k : Kind Place) → Keeps ms (rule.kind_names here k)
by-kind ms here (scalar s) more rest = by-scalar ms here s more rest
by-kind ms here (array low high s) more rest = by-constant ms here low _ (by-constant ms here high _ (by-scalar ms here s more rest))

mutual
  by-expr : (ms : List Mention) (here : Site) (e : Expr Place) → Keeps ms (rule.expr_names here e)
  by-expr ms here (literal p n) more rest = rest
  by-expr ms here (truth p b) more rest = rest
  by-expr ms here (variable p name) more rest = (tt, rest)
  by-expr ms here (element p name i) more rest = (tt, by-expr ms here i more rest)
  by-expr ms here (call p name es) more rest = (tt, by-exprs ms here es more rest)
  by-expr ms here (minus p e) more rest = by-expr ms here e more rest
  by-expr ms here (negation p e) more rest = by-expr ms here e more rest
  by-expr ms here (paren p e) more rest = by-expr ms here e more rest
  by-expr ms here (row e rs) more rest = by-expr ms here e _ (by-operands ms here rs more rest)

  by-exprs : (ms : List Mention) (here : Site) (es : Exprs Place) → Keeps ms (rule.exprs_names here es)
  by-exprs ms here no_exprs more rest = rest
  by-exprs ms here (exprs e es) more rest = by-expr ms here e _ (by-exprs ms here es more rest)

  by-operands : (ms : List Mention) (here : Site) (rs : Operands Place) → Keeps ms (rule.operands_names here rs)
  by-operands ms here no_operands more rest = rest
  by-operands ms here (operand op e rs) more rest = by-expr ms here e _ (by-operands ms here rs more rest)

by-ref : (ms : List Mention) (here : Site) (r : Ref Place) → Keeps ms (rule.ref_names here r)
by-ref ms here (whole p name) more rest = (tt, rest)
by-ref ms here (part p name i) more rest = (tt, by-expr ms here i more rest)

mutual
  by-stmt : (ms : List Mention) (here : Site) (s : Stmt Place) → Keeps ms (rule.stmt_names here s)
  by-stmt ms here (assign r e) more rest = by-ref ms here r _ (by-expr ms here e more rest)
  by-stmt ms here (assign_entry r mon p entry q es) more rest = by-ref ms here r _ (tt, (tt, by-exprs ms here es more rest))
  by-stmt ms here (assign_empty r cond p) more rest = by-ref ms here r _ (tt, rest)
  by-stmt ms here (perform p name es) more rest = (tt, by-exprs ms here es more rest)
  by-stmt ms here (perform_entry p mon entry q es) more rest = (tt, (tt, by-exprs ms here es more rest))
  by-stmt ms here (when p e a) more rest = by-expr ms here e _ (by-stmts ms here a more rest)
  by-stmt ms here (when_else p e a b) more rest = by-expr ms here e _ (by-stmts ms here a _ (by-stmts ms here b more rest))
  by-stmt ms here (loop p name q low high a) more rest = (tt, by-constant ms here low _ (by-constant ms here high _ (by-stmts ms (inside (rule.loop_name name q ∷ []) here) a more rest)))
  by-stmt ms here (exit_when p e) more rest = by-expr ms here e more rest
  by-stmt ms here (get p dev q r) more rest = (tt, by-ref ms here r more rest)
  by-stmt ms here (put p dev q e) more rest = (tt, by-expr ms here e more rest)
  by-stmt ms here (wait p cond q limit c) more rest = (tt, by-constant ms here limit _ (by-constant ms here c more rest))
  by-stmt ms here (signal p cond q) more rest = (tt, rest)
  by-stmt ms here (broadcast p cond q) more rest = (tt, rest)
  by-stmt ms here (except p c) more rest = by-constant ms here c more rest
  by-stmt ms here (assert p e) more rest = by-expr ms here e more rest

  by-stmts : (ms : List Mention) (here : Site) (ss : Stmts Place) → Keeps ms (rule.stmts_names here ss)
  by-stmts ms here no_stmts more rest = rest
  by-stmts ms here (stmts s ss) more rest = by-stmt ms here s _ (by-stmts ms here ss more rest)

by-vars : (ms : List Mention) (here : Site) (vs : List (Var Place)) → Keeps ms (rule.vars_names here vs)
by-vars ms here [] more rest = rest
by-vars ms here (v ∷ vs) more rest = by-kind ms here v.kind _ (by-vars ms here vs more rest)

by-params : (ms : List Mention) (here : Site) (vs : List (Param Place)) → Keeps ms (rule.params_names here vs)
by-params ms here [] more rest = rest
by-params ms here (v ∷ vs) more rest = by-scalar ms here v.kind _ (by-params ms here vs more rest)

by-optional : {X : Type 0} (ms : List Mention) (names : X → List Occurrence → List Occurrence) → ((x : X) → Keeps ms (names x)) → (x : Option X) → Keeps ms (rule.optional_names names x)
by-optional ms names each None more rest = rest
by-optional ms names each (Some x) more rest = each x more rest

by-routine : (ms : List Mention) (is_entry : Bool) (scope : Scope) (outer : Site) (r : Routine Place) → Within (told.routine_mentions is_entry scope r) ms → Keeps ms (rule.routine_names outer r)
by-routine ms is_entry scope outer r all more rest =
    let here : Site = inside (rule.routine_scope r) outer in
    let own : Scope = told.scope_from r.place r.close_place in
    let end : List Mention = told.closes r.close r.close_place r.place ∷ [] in
    let value : List Mention = option_map_or told.expr_mentions r.value [] in
    let result : List Mention = option_map_or told.scalar_mentions r.result [] in
    let vars : List Mention = flat_map (told.var_mentions own) r.vars in
    let name : Mention = told.declares (told.routine_what is_entry r.kind) scope r.name r.place in
    let close : Mention = told.closes r.close r.close_place r.place in
    let at_end : Mem close (name ∷ told.routine_inner r) =
    inr (mem-right close (flat_map (told.param_mentions own) r.params) _ (mem-right close result _ (mem-right close vars _ (mem-right close (told.stmts_mentions r.body) _ (mem-right close value end (inl refl)))))) in
    by-declarations ms outer.means [] (rule.routine_scope r) _
    (by-params ms here r.params _ (by-optional ms (rule.scalar_names here) (by-scalar ms here) r.result _ (by-vars ms here r.vars _ (by-stmts ms here r.body _
    (by-optional ms (rule.expr_names here) (by-expr ms here) r.value _ ((r.place, all close at_end, (name, all name (inl refl), refl, refl)), rest))))))

by-routines : (ms : List Mention) (is_entry : Bool) (scope : Scope) (outer : Site) (rs : List (Routine Place)) → Within (flat_map (told.routine_mentions is_entry scope) rs) ms → Keeps ms (rule.routines_names outer rs)
by-routines ms is_entry scope outer [] all more rest = rest
by-routines ms is_entry scope outer (r ∷ rs) all more rest =
    let one : List Mention = told.routine_mentions is_entry scope r in
    let others : List Mention = flat_map (told.routine_mentions is_entry scope) rs in
    by-routine ms is_entry scope outer r (within-left one others ms all) _ (by-routines ms is_entry scope outer rs (within-right one others ms all) more rest)

by-member : (ms : List Mention) (here : Site) (m : Member Place) → Keeps ms (rule.member_inner here m)
by-member ms here (variable_member v) more rest = by-kind ms here v.kind more rest
by-member ms here (condition_member name p) more rest = rest

by-members : (ms : List Mention) (here : Site) (xs : List (Member Place)) → Keeps ms (rule.members_names here xs)
by-members ms here [] more rest = rest
by-members ms here (m ∷ xs) more rest = by-member ms here m _ (by-members ms here xs more rest)

by-monitor : (ms : List Mention) (scope : Scope) (outer : Site) (m : Monitor Place) → Within (told.monitor_mentions scope m) ms → Keeps ms (rule.monitor_names outer m)
by-monitor ms scope outer m all more rest =
    let here : Site = inside_monitor m.place (rule.monitor_scope m) outer in
    let own : Scope = told.scope_from m.place m.close_place in
    let end : List Mention = told.closes m.close m.close_place m.place ∷ [] in
    let members : List Mention = flat_map (told.member_mentions own) m.members in
    let entries : List Mention = flat_map (told.routine_mentions true own) m.entries in
    let name : Mention = told.declares what_is.Monitor scope m.name m.place in
    let close : Mention = told.closes m.close m.close_place m.place in
    let at_end : Mem close (name ∷ (members ++ (entries ++ end))) = inr (mem-right close members _ (mem-right close entries end (inl refl))) in
    by-declarations ms outer.means [] (rule.monitor_scope m) _
    (by-members ms here m.members _ (by-routines ms true own here m.entries (λ x is. all x (inr (mem-right x members (entries ++ end) (mem-left x entries end is)))) _
    ((m.place, all close at_end, (name, all name (inl refl), refl, refl)), rest)))

by-activation : (ms : List Mention) (here : Site) (x : Activation Place) → Keeps ms (rule.activation_names here x)
by-activation ms here (periodic frame deadline start) more rest =
    by-constant ms here frame _ (by-optional ms (rule.constant_names here) (by-constant ms here) deadline _ (by-optional ms (rule.constant_names here) (by-constant ms here) start more rest))
by-activation ms here (at_event name place frame deadline) more rest = (tt, by-constant ms here frame _ (by-optional ms (rule.constant_names here) (by-constant ms here) deadline more rest))

by-constants : (ms : List Mention) (here : Site) (cs : List (Constant Place)) → Keeps ms (rule.constants_names here cs)
by-constants ms here [] more rest = rest
by-constants ms here (c ∷ cs) more rest = by-constant ms here c _ (by-constants ms here cs more rest)

by-handler : (ms : List Mention) (here : Site) (h : Handler Place) → Keeps ms (rule.handler_names here h)
by-handler ms here h more rest = by-constants ms here h.numbers _ (by-stmts ms here h.body more rest)

by-process : (ms : List Mention) (scope : Scope) (outer : Site) (p : Process Place) → Within (told.process_mentions scope p) ms → Keeps ms (rule.process_names outer p)
by-process ms scope outer p all more rest =
    let here : Site = inside (rule.process_scope p) outer in
    let own : Scope = told.scope_from p.place p.close_place in
    let end : List Mention = told.closes p.close p.close_place p.place ∷ [] in
    let handled : List Mention = option_map_or told.handler_mentions p.handler [] in
    let routines : List Mention = flat_map (told.routine_mentions false own) p.routines in
    let vars : List Mention = flat_map (told.var_mentions own) p.vars in
    let begun : List Mention = told.activation_mentions p.activation in
    let body : List Mention = told.stmts_mentions p.body in
    let name : Mention = told.declares what_is.Process scope p.name p.place in
    let close : Mention = told.closes p.close p.close_place p.place in
    let at_end : Mem close (name ∷ (begun ++ (vars ++ (routines ++ (body ++ (handled ++ end)))))) =
    inr (mem-right close begun _ (mem-right close vars _ (mem-right close routines _ (mem-right close body _ (mem-right close handled end (inl refl)))))) in
    by-declarations ms outer.means [] (rule.process_scope p) _
    (by-activation ms here p.activation _ (by-vars ms here p.vars _
    (by-routines ms false own here p.routines (λ x is. all x (inr (mem-right x begun _ (mem-right x vars _ (mem-left x routines (body ++ (handled ++ end)) is))))) _
    (by-stmts ms here p.body _ (by-optional ms (rule.handler_names here) (by-handler ms here) p.handler _
    ((p.place, all close at_end, (name, all name (inl refl), refl, refl)), rest))))))

by-decl : (ms : List Mention) (scope : Scope) (here : Site) (d : Decl Place) → Within (told.decl_mentions scope d) ms → Keeps ms (rule.inner_names here d)
by-decl ms scope here (constant name place c) all more rest = by-constant ms here c more rest
by-decl ms scope here (device name place is_out) all more rest = rest
by-decl ms scope here (event name place) all more rest = rest
by-decl ms scope here (routine r) all more rest = by-routine ms false scope here r all more rest
by-decl ms scope here (monitor m) all more rest = by-monitor ms scope here m all more rest
by-decl ms scope here (process p) all more rest = by-process ms scope here p all more rest

by-decls : (ms : List Mention) (scope : Scope) (members : Place → Reach) (earlier : Names) (ds : List (Decl Place)) → Within (flat_map (told.decl_mentions scope) ds) ms → Keeps ms (rule.decls_names members earlier ds)
by-decls ms scope members earlier [] all more rest = rest
by-decls ms scope members earlier (d ∷ ds) all more rest =
    let here : Site = record { means = first (earlier ++ rule.others (d ∷ ds)); members = members } in
    let one : List Mention = told.decl_mentions scope d in
    let others : List Mention = flat_map (told.decl_mentions scope) ds in
    (tt, by-decl ms scope here d (within-left one others ms all) _ (by-decls ms scope members (earlier ++ rule.decl_name d ∷ []) ds (within-right one others ms all) more rest))

by-program : (g : Prog Place) → Each (Closed (told.mentions g)) (rule.names g)
by-program g =
    let scope : Scope = told.scope_from told.before_all g.close_place in
    let decls : List Mention = flat_map (told.decl_mentions scope) g.decls in
    let end : List Mention = told.closes g.close g.close_place g.place ∷ [] in
    let name : Mention = told.declares what_is.Program scope g.name g.place in
    let close : Mention = told.closes g.close g.close_place g.place in (
      tt,
      by-decls (told.mentions g) scope (λ place. first (rule.entries_at g.decls place)) (rule.program_name g ∷ []) g.decls (λ x is. inr (mem-left x decls end is)) _
          ((g.place, inr (mem-right close decls end (inl refl)), (name, inl refl, refl, refl)), tt),
    )

each-at : (T : Occurrence → Type 0) (os : List Occurrence) (o : Occurrence) (k : ℕ) → Each T os → k < length os → slice_index_or os k o ≡ o → T o
each-at T [] o k all below is = absurd (omega arith)
each-at T (x ∷ os) o zero all below is = subst T is all.0
each-at T (x ∷ os) o (suc k) all below is = each-at T os o k all.1 (omega arith) is

pub each : (T : Occurrence → Type 0) (os : List Occurrence) (o : Occurrence) → Each T os → Contains os o → T o
each T os o all at = each-at T os o at.0 all at.1 at.2

pub tells-of-closing : TokensStandInOrder → TellsOfClosing
unfolding name_sentence
tells-of-closing order g read name place opening at =
    let ms : List Mention = told.mentions g in
    let rises : Rising (places ms) = part-rises (places ms) (spots g) (part-program g) (rising order g read) in
    let x = each (Closed ms) (rule.names g) (rule.closes name place opening) (by-program g) at in
    let close : Mention = told.closes name place x.0 in
    let m : Mention = x.2.0 in
    let wanted : mention_at x.0 ms ≡ Some m = subst (λ q. mention_at q ms ≡ Some m) x.2.2 (found-there m ms rises x.2.1) in
    ap (λ c. option_map (sentence_of 23 ms) c) (found-there close ms rises x.1)
    ∙ ap (λ c. Some (misclosed name (name_of c))) wanted
    ∙ ap (λ n. Some (misclosed name n)) x.2.3

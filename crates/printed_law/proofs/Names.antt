-- The names of a tree and of the tree with other places, one by one.
use Rattle.std.proofs.Common.{◌≡◌, ◌||◌, List, [], ◌∷◌, ◌++◌, map, Option, Some, None, is_some, refl, ◌∙◌, ap}
use Rattle.syntax_tree.specs.Plain.{Name}
use Rattle.syntax_tree.specs.Placed.{Constant, literal_constant, named_constant, Scalar, int, boolean, subrange, Kind, scalar, array, Var, Param, Expr, literal, truth, variable, element, call, minus, negation, paren, row, Exprs, no_exprs, exprs, Operands, no_operands, operand, Ref, whole, part, Stmt, assign, assign_entry, assign_empty, perform, perform_entry, when, when_else, loop, exit_when, get, put, wait, signal, broadcast, except, assert, Stmts, no_stmts, stmts, Routine, Member, variable_member, condition_member, Monitor, Activation, periodic, at_event, Handler, Process, Decl, constant, device, event, routine, monitor, process, Prog, optional}
use Rattle.syntax_tree.specs.declared.place.Place.{Place}
use Rattle.syntax_tree.specs.Parts.{same_place}
use Rattle.static_names.specs.declared.kind.Declared.{Declared}
use Rattle.static_names.specs.declared.kind.NameUse.{NameUse}
use Rattle.static_names.specs.declared.kind.NameUse.TheVariants as want_is
use Rattle.static_names.specs.Reach.{Names, Reach, first, Site, inside, inside_monitor}
use Rattle.static_names.specs.Occurrences as o
use Rattle.static_names.specs.Occurrences.{Occurrence, declares, closes, used, uses}
use Rattle.printed_law.specs.Moved.{moved_constant, moved_scalar, moved_kind, moved_var, moved_param, moved_expr, moved_exprs, moved_operands, moved_ref, moved_stmt, moved_stmts, moved_routine, moved_member, moved_monitor, moved_activation, moved_handler, moved_process, moved_decl, moved}
use Rattle.printed_law.specs.Alike.{AreAlike}
use Rattle.printed_law.proofs.Both.{Both, here, both-same, Likewise, Pairwise, both-some, chosen, appended, mapped}
use Rattle.printed_law.proofs.Sites.{LikeDeclared, LikeNamed, LikeNames, LikeReach, LikeSite, first-like, inside-like, inside-monitor-like, through-like}

abbrev pub LikeOccurrence : {X : Type 0} → (a b : X → Place) → Occurrence → Occurrence → Type 0
LikeOccurrence a b (declares name p taken) (declares other q also) = Both a b p q × (taken ≡ also)
LikeOccurrence a b (closes name p opening) (closes other q first) = Both a b p q × (name ≡ other) × (opening ≡ first)
LikeOccurrence a b (used name p want means) (used other q need mean) = Both a b p q × (want ≡ need) × Likewise (LikeDeclared a b) means mean
LikeOccurrence a b x y = ⊥

pub record Os {X : Type 0} (a b : X → Place) (xs ys : List Occurrence) : Type 0 where
  pub are : Pairwise (LikeOccurrence a b) xs ys

-- two sites that are alike
pub record Sites {X : Type 0} (a b : X → Place) : Type 0 where
  pub one : Site
  pub two : Site
  pub like : LikeSite a b one two

module _ {X : Type 0} (a b : X → Place) where
  named-like : (name : Name) (x : X) (k : Sites a b) (want : NameUse) {xs ys : List Occurrence} → Os a b xs ys → Os a b (uses k.one name (a x) want ∷ xs) (uses k.two name (b x) want ∷ ys)
  named-like name x k want rest = record { are = ((here a b x, refl, k.like.means name), rest.are) }

  closed-like : (name opening : Name) (x : X) {xs ys : List Occurrence} → Os a b xs ys → Os a b (closes name (a x) opening ∷ xs) (closes name (b x) opening ∷ ys)
  closed-like name opening x rest = record { are = ((here a b x, refl, refl), rest.are) }

  entry-like : (k : Sites a b) (mon : Name) (x : X) (entry : Name) (y : X) {xs ys : List Occurrence} → Os a b xs ys
      → Os a b (o.entry_names k.one mon (a x) entry (a y) xs) (o.entry_names k.two mon (b x) entry (b y) ys)
  entry-like k mon x entry y rest = record {
    are = ((here a b x, refl, k.like.means mon), ((here a b y, refl, through-like a b k.one k.two k.like mon entry), rest.are));
  }

  abbrev within : (ds es : Names) → LikeNames a b ds es → Sites a b → Sites a b
  within ds es names k = record { one = inside ds k.one; two = inside es k.two; like = inside-like a b ds es k.one k.two names k.like }

  taken-like : (m n : Reach) → LikeReach a b m n → (d e : Name × Declared) → LikeNamed a b d e → is_some (m d.0) ≡ is_some (n e.0)
  taken-like m n reach d e like = both-some (LikeDeclared a b) (m d.0) (n d.0) (reach d.0) ∙ ap (λ name. is_some (n name)) like.name

  declarations-like : (m n : Reach) → LikeReach a b m n → (before after : Names) → LikeNames a b before after → (ds es : Names) → LikeNames a b ds es → {xs ys : List Occurrence} → Os a b xs ys
      → Os a b (o.declarations m before ds xs) (o.declarations n after es ys)
  declarations-like m n reach before after earlier [] [] like rest = rest
  declarations-like m n reach before after earlier [] (e ∷ es) like rest = absurd like
  declarations-like m n reach before after earlier (d ∷ ds) [] like rest = absurd like
  declarations-like m n reach before after earlier (d ∷ ds) (e ∷ es) like rest =
      let near : is_some (first before d.0) ≡ is_some (first after e.0) = taken-like (first before) (first after) (first-like a b before after earlier) d e like.0 in
      let far : is_some (m d.0) ≡ is_some (n e.0) = taken-like m n reach d e like.0 in
      record {
        are = (
          (like.0.declared.place, λ i. near i || far i),
          (declarations-like m n reach (before ++ d ∷ []) (after ++ e ∷ []) (appended (LikeNamed a b) before (d ∷ []) after (e ∷ []) earlier (like.0, tt)) ds es like.1 rest).are,
        );
      }

  constant-like : (k : Sites a b) (c : Constant X) {xs ys : List Occurrence} → Os a b xs ys → Os a b (o.constant_names k.one (moved_constant a c) xs) (o.constant_names k.two (moved_constant b c) ys)
  constant-like k (literal_constant p s n q) rest = rest
  constant-like k (named_constant p s n q) rest = named-like n q k want_is.Constant rest

  constants-like : (k : Sites a b) (cs : List (Constant X)) {xs ys : List Occurrence} → Os a b xs ys → Os a b (o.constants_names k.one (map (moved_constant a) cs) xs) (o.constants_names k.two (map (moved_constant b) cs) ys)
  constants-like k [] rest = rest
  constants-like k (c ∷ cs) rest = constant-like k c (constants-like k cs rest)

  scalar-like : (k : Sites a b) (s : Scalar X) {xs ys : List Occurrence} → Os a b xs ys → Os a b (o.scalar_names k.one (moved_scalar a s) xs) (o.scalar_names k.two (moved_scalar b s) ys)
  scalar-like k int rest = rest
  scalar-like k boolean rest = rest
  scalar-like k (subrange low high) rest = constant-like k low (constant-like k high rest)

  kind-like : (k : Sites a b) (s : Kind X) {xs ys : List Occurrence} → Os a b xs ys → Os a b (o.kind_names k.one (moved_kind a s) xs) (o.kind_names k.two (moved_kind b s) ys)
  kind-like k (scalar s) rest = scalar-like k s rest
  kind-like k (array low high s) rest = constant-like k low (constant-like k high (scalar-like k s rest))

  mutual
    expr-like : (k : Sites a b) (e : Expr X) {xs ys : List Occurrence} → Os a b xs ys → Os a b (o.expr_names k.one (moved_expr a e) xs) (o.expr_names k.two (moved_expr b e) ys)
    expr-like k (literal p n) rest = rest
    expr-like k (truth p t) rest = rest
    expr-like k (variable p n) rest = named-like n p k want_is.Value rest
    expr-like k (element p n e) rest = named-like n p k want_is.Value (expr-like k e rest)
    expr-like k (call p n es) rest = named-like n p k want_is.Routine (exprs-like k es rest)
    expr-like k (minus p e) rest = expr-like k e rest
    expr-like k (negation p e) rest = expr-like k e rest
    expr-like k (paren p e) rest = expr-like k e rest
    expr-like k (row e rs) rest = expr-like k e (operands-like k rs rest)

    exprs-like : (k : Sites a b) (es : Exprs X) {xs ys : List Occurrence} → Os a b xs ys → Os a b (o.exprs_names k.one (moved_exprs a es) xs) (o.exprs_names k.two (moved_exprs b es) ys)
    exprs-like k no_exprs rest = rest
    exprs-like k (exprs e es) rest = expr-like k e (exprs-like k es rest)

    operands-like : (k : Sites a b) (rs : Operands X) {xs ys : List Occurrence} → Os a b xs ys → Os a b (o.operands_names k.one (moved_operands a rs) xs) (o.operands_names k.two (moved_operands b rs) ys)
    operands-like k no_operands rest = rest
    operands-like k (operand op e rs) rest = expr-like k e (operands-like k rs rest)

  ref-like : (k : Sites a b) (r : Ref X) {xs ys : List Occurrence} → Os a b xs ys → Os a b (o.ref_names k.one (moved_ref a r) xs) (o.ref_names k.two (moved_ref b r) ys)
  ref-like k (whole p n) rest = named-like n p k want_is.Target rest
  ref-like k (part p n e) rest = named-like n p k want_is.Target (expr-like k e rest)

  loop-named : (name : Name) (x : X) → LikeNames a b (o.loop_name name (a x) ∷ []) (o.loop_name name (b x) ∷ [])
  loop-named name x = (record { name = refl; declared = record { kind = refl; place = here a b x } }, tt)

  mutual
    stmt-like : (k : Sites a b) (s : Stmt X) {xs ys : List Occurrence} → Os a b xs ys → Os a b (o.stmt_names k.one (moved_stmt a s) xs) (o.stmt_names k.two (moved_stmt b s) ys)
    stmt-like k (assign r e) rest = ref-like k r (expr-like k e rest)
    stmt-like k (assign_entry r mon p entry q es) rest = ref-like k r (entry-like k mon p entry q (exprs-like k es rest))
    stmt-like k (assign_empty r cond p) rest = ref-like k r (named-like cond p k want_is.Condition rest)
    stmt-like k (perform p n es) rest = named-like n p k want_is.Routine (exprs-like k es rest)
    stmt-like k (perform_entry p mon entry q es) rest = entry-like k mon p entry q (exprs-like k es rest)
    stmt-like k (when p e ss) rest = expr-like k e (stmts-like k ss rest)
    stmt-like k (when_else p e ss ts) rest = expr-like k e (stmts-like k ss (stmts-like k ts rest))
    stmt-like k (loop p n q low high ss) rest =
        let ds = o.loop_name n (a q) ∷ [] in
        let es = o.loop_name n (b q) ∷ [] in
        declarations-like k.one.means k.two.means k.like.means [] [] tt ds es (loop-named n q)
        (constant-like k low (constant-like k high (stmts-like (within ds es (loop-named n q) k) ss rest)))
    stmt-like k (exit_when p e) rest = expr-like k e rest
    stmt-like k (get p dev q r) rest = named-like dev q k want_is.Device (ref-like k r rest)
    stmt-like k (put p dev q e) rest = named-like dev q k want_is.Device (expr-like k e rest)
    stmt-like k (wait p cond q limit number) rest = named-like cond q k want_is.Condition (constant-like k limit (constant-like k number rest))
    stmt-like k (signal p cond q) rest = named-like cond q k want_is.Condition rest
    stmt-like k (broadcast p cond q) rest = named-like cond q k want_is.Condition rest
    stmt-like k (except p number) rest = constant-like k number rest
    stmt-like k (assert p e) rest = expr-like k e rest

    stmts-like : (k : Sites a b) (ss : Stmts X) {xs ys : List Occurrence} → Os a b xs ys → Os a b (o.stmts_names k.one (moved_stmts a ss) xs) (o.stmts_names k.two (moved_stmts b ss) ys)
    stmts-like k no_stmts rest = rest
    stmts-like k (stmts s ss) rest = stmt-like k s (stmts-like k ss rest)

  vars-like : (k : Sites a b) (vs : List (Var X)) {xs ys : List Occurrence} → Os a b xs ys → Os a b (o.vars_names k.one (map (moved_var a) vs) xs) (o.vars_names k.two (map (moved_var b) vs) ys)
  vars-like k [] rest = rest
  vars-like k (v ∷ vs) rest = kind-like k v.kind (vars-like k vs rest)

  params-like : (k : Sites a b) (vs : List (Param X)) {xs ys : List Occurrence} → Os a b xs ys → Os a b (o.params_names k.one (map (moved_param a) vs) xs) (o.params_names k.two (map (moved_param b) vs) ys)
  params-like k [] rest = rest
  params-like k (v ∷ vs) rest = scalar-like k v.kind (params-like k vs rest)

  members-like : (k : Sites a b) (ms : List (Member X)) {xs ys : List Occurrence} → Os a b xs ys → Os a b (o.members_names k.one (map (moved_member a) ms) xs) (o.members_names k.two (map (moved_member b) ms) ys)
  members-like k [] rest = rest
  members-like k (variable_member v ∷ ms) rest = kind-like k v.kind (members-like k ms rest)
  members-like k (condition_member name p ∷ ms) rest = members-like k ms rest

  result-like : (k : Sites a b) (s : Option (Scalar X)) {xs ys : List Occurrence} → Os a b xs ys
      → Os a b (o.optional_names (o.scalar_names k.one) (optional (moved_scalar a) s) xs) (o.optional_names (o.scalar_names k.two) (optional (moved_scalar b) s) ys)
  result-like k None rest = rest
  result-like k (Some s) rest = scalar-like k s rest

  value-like : (k : Sites a b) (e : Option (Expr X)) {xs ys : List Occurrence} → Os a b xs ys
      → Os a b (o.optional_names (o.expr_names k.one) (optional (moved_expr a) e) xs) (o.optional_names (o.expr_names k.two) (optional (moved_expr b) e) ys)
  value-like k None rest = rest
  value-like k (Some e) rest = expr-like k e rest

  limit-like : (k : Sites a b) (c : Option (Constant X)) {xs ys : List Occurrence} → Os a b xs ys
      → Os a b (o.optional_names (o.constant_names k.one) (optional (moved_constant a) c) xs) (o.optional_names (o.constant_names k.two) (optional (moved_constant b) c) ys)
  limit-like k None rest = rest
  limit-like k (Some c) rest = constant-like k c rest

  -- ---- scopes

  member-named : (m : Member X) → LikeNamed a b (o.member_name (moved_member a m)) (o.member_name (moved_member b m))
  member-named (variable_member v) = record { name = refl; declared = record { kind = refl; place = here a b v.place } }
  member-named (condition_member name p) = record { name = refl; declared = record { kind = refl; place = here a b p } }

  var-names : (vs : List (Var X)) → LikeNames a b (map o.var_name (map (moved_var a) vs)) (map o.var_name (map (moved_var b) vs))
  var-names vs = mapped (LikeNamed a b) (moved_var a) (moved_var b) o.var_name o.var_name (λ v. record { name = refl; declared = record { kind = refl; place = here a b v.place } }) vs

  param-names : (vs : List (Param X)) → LikeNames a b (map o.param_name (map (moved_param a) vs)) (map o.param_name (map (moved_param b) vs))
  param-names vs = mapped (LikeNamed a b) (moved_param a) (moved_param b) o.param_name o.param_name (λ v. record { name = refl; declared = record { kind = refl; place = here a b v.place } }) vs

  routine-names : (rs : List (Routine X)) → LikeNames a b (map o.routine_name (map (moved_routine a) rs)) (map o.routine_name (map (moved_routine b) rs))
  routine-names rs = mapped (LikeNamed a b) (moved_routine a) (moved_routine b) o.routine_name o.routine_name (λ r. record { name = refl; declared = record { kind = refl; place = here a b r.place } }) rs

  entry-names : (rs : List (Routine X)) → LikeNames a b (map o.entry_name (map (moved_routine a) rs)) (map o.entry_name (map (moved_routine b) rs))
  entry-names rs = mapped (LikeNamed a b) (moved_routine a) (moved_routine b) o.entry_name o.entry_name (λ r. record { name = refl; declared = record { kind = refl; place = here a b r.place } }) rs

  routine-scope : (r : Routine X) → LikeNames a b (o.routine_scope (moved_routine a r)) (o.routine_scope (moved_routine b r))
  routine-scope r = appended (LikeNamed a b) (map o.param_name (map (moved_param a) r.params)) (map o.var_name (map (moved_var a) r.vars))
      (map o.param_name (map (moved_param b) r.params)) (map o.var_name (map (moved_var b) r.vars)) (param-names r.params) (var-names r.vars)

  monitor-scope : (m : Monitor X) → LikeNames a b (o.monitor_scope (moved_monitor a m)) (o.monitor_scope (moved_monitor b m))
  monitor-scope m = appended (LikeNamed a b) (map o.member_name (map (moved_member a) m.members)) (map o.entry_name (map (moved_routine a) m.entries))
      (map o.member_name (map (moved_member b) m.members)) (map o.entry_name (map (moved_routine b) m.entries))
      (mapped (LikeNamed a b) (moved_member a) (moved_member b) o.member_name o.member_name member-named m.members) (entry-names m.entries)

  process-scope : (p : Process X) → LikeNames a b (o.process_scope (moved_process a p)) (o.process_scope (moved_process b p))
  process-scope p = appended (LikeNamed a b) (map o.var_name (map (moved_var a) p.vars)) (map o.routine_name (map (moved_routine a) p.routines))
      (map o.var_name (map (moved_var b) p.vars)) (map o.routine_name (map (moved_routine b) p.routines)) (var-names p.vars) (routine-names p.routines)

  -- ---- routines, monitors and processes

  routine-like : (k : Sites a b) (r : Routine X) {xs ys : List Occurrence} → Os a b xs ys → Os a b (o.routine_names k.one (moved_routine a r) xs) (o.routine_names k.two (moved_routine b r) ys)
  routine-like k r rest =
      let ds = o.routine_scope (moved_routine a r) in
      let es = o.routine_scope (moved_routine b r) in
      let h = within ds es (routine-scope r) k in
      declarations-like k.one.means k.two.means k.like.means [] [] tt ds es (routine-scope r)
      (params-like h r.params (result-like h r.result (vars-like h r.vars (stmts-like h r.body (value-like h r.value (closed-like r.close r.name r.close_place rest))))))

  routines-like : (k : Sites a b) (rs : List (Routine X)) {xs ys : List Occurrence} → Os a b xs ys → Os a b (o.routines_names k.one (map (moved_routine a) rs) xs) (o.routines_names k.two (map (moved_routine b) rs) ys)
  routines-like k [] rest = rest
  routines-like k (r ∷ rs) rest = routine-like k r (routines-like k rs rest)

  activation-like : (k : Sites a b) (x : Activation X) {xs ys : List Occurrence} → Os a b xs ys → Os a b (o.activation_names k.one (moved_activation a x) xs) (o.activation_names k.two (moved_activation b x) ys)
  activation-like k (periodic frame deadline start) rest = constant-like k frame (limit-like k deadline (limit-like k start rest))
  activation-like k (at_event name p frame deadline) rest = named-like name p k want_is.Event (constant-like k frame (limit-like k deadline rest))

  handler-like : (k : Sites a b) (h : Option (Handler X)) {xs ys : List Occurrence} → Os a b xs ys
      → Os a b (o.optional_names (o.handler_names k.one) (optional (moved_handler a) h) xs) (o.optional_names (o.handler_names k.two) (optional (moved_handler b) h) ys)
  handler-like k None rest = rest
  handler-like k (Some h) rest = constants-like k h.numbers (stmts-like k h.body rest)

  process-like : (k : Sites a b) (p : Process X) {xs ys : List Occurrence} → Os a b xs ys → Os a b (o.process_names k.one (moved_process a p) xs) (o.process_names k.two (moved_process b p) ys)
  process-like k p rest =
      let ds = o.process_scope (moved_process a p) in
      let es = o.process_scope (moved_process b p) in
      let h = within ds es (process-scope p) k in
      declarations-like k.one.means k.two.means k.like.means [] [] tt ds es (process-scope p)
      (activation-like h p.activation (vars-like h p.vars (routines-like h p.routines (stmts-like h p.body (handler-like h p.handler (closed-like p.close p.name p.close_place rest))))))

  module _ (alike : AreAlike a b) where
    monitor-like : (k : Sites a b) (m : Monitor X) {xs ys : List Occurrence} → Os a b xs ys → Os a b (o.monitor_names k.one (moved_monitor a m) xs) (o.monitor_names k.two (moved_monitor b m) ys)
    monitor-like k m rest =
        let ds = o.monitor_scope (moved_monitor a m) in
        let es = o.monitor_scope (moved_monitor b m) in
        let h : Sites a b = record {
          one = inside_monitor (a m.place) ds k.one;
          two = inside_monitor (b m.place) es k.two;
          like = inside-monitor-like a b alike (a m.place) (b m.place) (here a b m.place) ds es k.one k.two (monitor-scope m) k.like;
        } in
        declarations-like k.one.means k.two.means k.like.means [] [] tt ds es (monitor-scope m)
        (members-like h m.members (routines-like h m.entries (closed-like m.close m.name m.close_place rest)))

    decl-like : (k : Sites a b) (d : Decl X) {xs ys : List Occurrence} → Os a b xs ys → Os a b (o.inner_names k.one (moved_decl a d) xs) (o.inner_names k.two (moved_decl b d) ys)
    decl-like k (constant name p c) rest = constant-like k c rest
    decl-like k (device name p is_out) rest = rest
    decl-like k (event name p) rest = rest
    decl-like k (routine r) rest = routine-like k r rest
    decl-like k (monitor m) rest = monitor-like k m rest
    decl-like k (process p) rest = process-like k p rest

    decl-named : (d : Decl X) → LikeNamed a b (o.decl_name (moved_decl a d)) (o.decl_name (moved_decl b d))
    decl-named (constant name p c) = record { name = refl; declared = record { kind = refl; place = here a b p } }
    decl-named (device name p is_out) = record { name = refl; declared = record { kind = refl; place = here a b p } }
    decl-named (event name p) = record { name = refl; declared = record { kind = refl; place = here a b p } }
    decl-named (routine r) = record { name = refl; declared = record { kind = refl; place = here a b r.place } }
    decl-named (monitor m) = record { name = refl; declared = record { kind = refl; place = here a b m.place } }
    decl-named (process p) = record { name = refl; declared = record { kind = refl; place = here a b p.place } }

    others-like : (ds : List (Decl X)) → LikeNames a b (o.others (map (moved_decl a) ds)) (o.others (map (moved_decl b) ds))
    others-like [] = tt
    others-like (constant name p c ∷ ds) = others-like ds
    others-like (device name p is_out ∷ ds) = (decl-named (device name p is_out), others-like ds)
    others-like (event name p ∷ ds) = (decl-named (event name p), others-like ds)
    others-like (routine r ∷ ds) = (decl-named (routine r), others-like ds)
    others-like (monitor m ∷ ds) = (decl-named (monitor m), others-like ds)
    others-like (process p ∷ ds) = (decl-named (process p), others-like ds)

    entries-at-like : (ds : List (Decl X)) (p q : Place) → Both a b p q → LikeNames a b (o.entries_at (map (moved_decl a) ds) p) (o.entries_at (map (moved_decl b) ds) q)
    entries-at-like [] p q places = tt
    entries-at-like (constant name x c ∷ ds) p q places = entries-at-like ds p q places
    entries-at-like (device name x is_out ∷ ds) p q places = entries-at-like ds p q places
    entries-at-like (event name x ∷ ds) p q places = entries-at-like ds p q places
    entries-at-like (routine r ∷ ds) p q places = entries-at-like ds p q places
    entries-at-like (monitor m ∷ ds) p q places =
        let rest = entries-at-like ds p q places in
        let one = o.entries_at (map (moved_decl a) ds) p in
        let two = o.entries_at (map (moved_decl b) ds) q in
        let ms = map o.entry_name (map (moved_routine a) m.entries) in
        let ns = map o.entry_name (map (moved_routine b) m.entries) in
        chosen (LikeNames a b) (same_place p (a m.place)) (same_place q (b m.place)) (both-same a b alike p q (a m.place) (b m.place) places (here a b m.place))
        (ms ++ one) one (ns ++ two) two (appended (LikeNamed a b) ms one ns two (entry-names m.entries) rest) rest
    entries-at-like (process x ∷ ds) p q places = entries-at-like ds p q places

    decls-like : (members others : Place → Reach) → ((p q : Place) → Both a b p q → LikeReach a b (members p) (others q)) → (before after : Names) → LikeNames a b before after
        → (ds : List (Decl X)) {xs ys : List Occurrence} → Os a b xs ys → Os a b (o.decls_names members before (map (moved_decl a) ds) xs) (o.decls_names others after (map (moved_decl b) ds) ys)
    decls-like members others are before after earlier [] rest = rest
    decls-like members others are before after earlier (d ∷ ds) rest =
        let n = decl-named d in
        let c = o.decl_name (moved_decl a d) in
        let e = o.decl_name (moved_decl b d) in
        let ms = before ++ o.others (map (moved_decl a) (d ∷ ds)) in
        let ns = after ++ o.others (map (moved_decl b) (d ∷ ds)) in
        let names = appended (LikeNamed a b) before (o.others (map (moved_decl a) (d ∷ ds))) after (o.others (map (moved_decl b) (d ∷ ds))) earlier (others-like (d ∷ ds)) in
        let k : Sites a b = record {
          one = record { means = first ms; members = members };
          two = record { means = first ns; members = others };
          like = record { means = first-like a b ms ns names; members = are };
        } in
        record {
          are = (
            (n.declared.place, taken-like (first before) (first after) (first-like a b before after earlier) c e n),
            (decl-like k d (decls-like members others are (before ++ c ∷ []) (after ++ e ∷ []) (appended (LikeNamed a b) before (c ∷ []) after (e ∷ []) earlier (n, tt)) ds rest)).are,
          );
        }

    pub names-like : (t : Prog X) → Pairwise (LikeOccurrence a b) (o.names (moved a t)) (o.names (moved b t))
    names-like t =
        let rest : Os a b (closes t.close (a t.close_place) t.name ∷ []) (closes t.close (b t.close_place) t.name ∷ []) = closed-like t.close t.name t.close_place (record { are = tt }) in
        let own : LikeNames a b (o.program_name (moved a t) ∷ []) (o.program_name (moved b t) ∷ []) = (record { name = refl; declared = record { kind = refl; place = here a b t.place } }, tt) in
        let inner = decls-like (λ p. first (o.entries_at (map (moved_decl a) t.decls) p)) (λ q. first (o.entries_at (map (moved_decl b) t.decls) q))
        (λ p q places. first-like a b (o.entries_at (map (moved_decl a) t.decls) p) (o.entries_at (map (moved_decl b) t.decls) q) (entries-at-like t.decls p q places))
        (o.program_name (moved a t) ∷ []) (o.program_name (moved b t) ∷ []) own t.decls rest in
        ((here a b t.place, refl), inner.are)

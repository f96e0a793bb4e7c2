-- The parts of a tree that is that of a table's program apart from places.
use Rattle.std.proofs.Common.{◌≡◌, ◌≤◌, ◌-◌, ℕ, Bool, true, false, List, [], ◌∷◌, ◌++◌, Option, Some, None, codes, map, refl, ap, sym, ◌∙◌, subst, arith}
use Rattle.std.specs.Prelude.{flat_map}
use Rattle.syntax_tree.specs.Plain.{Name}
use Rattle.syntax_tree.specs.declared.place.Place.{Place}
use Rattle.syntax_tree.specs.Placed.{Constant, literal_constant, named_constant, scalar, int, boolean, subrange, array, Kind, Var, literal, truth, variable, element, call, minus, negation, paren, row, no_exprs, exprs, whole, part, Stmt, assign, assign_entry, assign_empty, perform, perform_entry, when, when_else, loop, exit_when, get, put, wait, signal, broadcast, except, assert, Stmts, no_stmts, stmts, Routine, Monitor, Process, Decl, constant, device, event, routine, monitor, process, Prog, optional}
use Rattle.syntax_tree.specs.Bare.{bare_constant, bare_kind, bare_var, bare_stmt, bare_stmts, bare_routine, bare_monitor, bare_process, bare_decl, bare}
use Rattle.table_format.specs.declared.table.TaskStay.{TaskStay}
use Rattle.table_format.specs.declared.table.TaskLine.{TaskLine}
use Rattle.table_format.specs.declared.table.TaskTable.{TaskTable}
use Rattle.table_format.specs.Rules.{IsName, monitors, least_cost}
use Rattle.table_format.specs.Spending.{Nowhere, of_number, of_x, in_turn, three, four, five, short_turns, long_turns, spend}
use Rattle.table_format.specs.Program.{stay_name, stay_entry, stays_in, table_monitor, stay_call, table_process, event_of, program_with}
use Rattle.table_law.proofs.Spends.{Spends, nothing, by_three, by_four, by_five, by_short, by_long, spent}
use Rattle.table_law.proofs.Lists.{Every, both, every_map, every_flat, weaker}
use Rattle.table_law.proofs.Fits.{TicksFit, EventFits, LineFits, TableFits, monitors_fit, stays_in_fit}

-- ---- lists

pub pulled : {A B : Type 0} (f : A → B) (R : A → Type 0) (xs : List A) (ys : List B) → map f xs ≡ ys → Every (λ y. (x : A) → f x ≡ y → R x) ys → Every R xs
pulled f R [] ys same all = tt
pulled f R (x ∷ xs) [] same all = absurd cc
pulled f R (x ∷ xs) (y ∷ ys) same all =
    let first : f x ≡ y = cc in
    let rest : map f xs ≡ ys = cc in
    (all.0 x first, pulled f R xs ys rest all.1)

pub none_of : {A B : Type 0} (f : A → B) (xs : List A) → map f xs ≡ [] → xs ≡ []
none_of f [] same = refl
none_of f (x ∷ xs) same = absurd cc

pub record One {A B : Type 0} (f : A → B) (xs : List A) (y : B) : Type 0 where
  pub one : A
  pub is : xs ≡ one ∷ []
  pub like : f one ≡ y

pub one_of : {A B : Type 0} (f : A → B) (xs : List A) (y : B) → map f xs ≡ y ∷ [] → One f xs y
one_of f [] y same = absurd cc
one_of f (x ∷ []) y same = record { one = x; is = refl; like = cc }
one_of f (x ∷ z ∷ xs) y same = absurd cc

pub none_there : {A B : Type 0} (f : A → B) (x : Option A) → optional f x ≡ None → x ≡ None
none_there f None same = refl
none_there f (Some x) same = absurd cc

-- ---- a variable of whole numbers

pub is_int : (k : Kind Place) → bare_kind k ≡ scalar int → k ≡ scalar int
is_int (scalar int) same = refl
is_int (scalar boolean) same = absurd cc
is_int (scalar (subrange low high)) same = absurd cc
is_int (array low high s) same = absurd cc

pub record OneInt (name : Name) (vs : List (Var Place)) : Type 0 where
  pub one : Var Place
  pub is : vs ≡ one ∷ []
  pub called : one.name ≡ name
  pub whole : one.kind ≡ scalar int

pub one_int : (name : Name) (vs : List (Var Place)) → map bare_var vs ≡ record { name = name; place = tt; kind = scalar int } ∷ [] → OneInt name vs
one_int name vs same =
    let it = one_of bare_var vs (record { name = name; place = tt; kind = scalar int }) same in
    record { one = it.one; is = it.is; called = ap (λ v. v.name) it.like; whole = is_int it.one.kind (ap (λ v. v.kind) it.like) }

-- ---- statements

-- a loop with nothing in it, from 1 to so many
pub record IsLoop (s : Stmt Place) (name : Name) (turns : ℕ) : Type 0 where
  pub place : Place
  pub at : Place
  pub low : Constant Place
  pub high : Constant Place
  pub is : s ≡ loop place name at low high no_stmts
  pub from : bare_constant low ≡ of_number 1
  pub up_to : bare_constant high ≡ of_number turns

-- the statements of a body: calls of entries that it may call, assignments to x, and loops
pub data IsBody (tail : Name) (May : Name → Name → Type 0) : Stmts Place → Type 0 where
  ended : IsBody tail May no_stmts
  clears : (p q : Place) (v : ℕ) (ss : Stmts Place) → IsBody tail May ss → IsBody tail May (stmts (assign (whole p (of_x tail)) (literal q v)) ss)
  keeps : (p q : Place) (ss : Stmts Place) → IsBody tail May ss → IsBody tail May (stmts (assign (whole p (of_x tail)) (variable q (of_x tail))) ss)
  lowers : (p q r : Place) (v : ℕ) (ss : Stmts Place) → IsBody tail May ss → IsBody tail May (stmts (assign (whole p (of_x tail)) (minus q (literal r v))) ss)
  turns : (p q : Place) (low high : Constant Place) (k : ℕ) (ss : Stmts Place) → bare_constant low ≡ of_number 1 → bare_constant high ≡ of_number k → 1 ≤ k → k ≤ 99850
      → IsBody tail May ss → IsBody tail May (stmts (loop p (codes "i" ++ tail) q low high no_stmts) ss)
  turns_twice : (p q : Place) (low high : Constant Place) (k : ℕ) (a b : Place) (least most : Constant Place) (ss : Stmts Place)
      → bare_constant low ≡ of_number 1 → bare_constant high ≡ of_number k → 1 ≤ k → k ≤ 99850 → bare_constant least ≡ of_number 1 → bare_constant most ≡ of_number 1000
      → IsBody tail May ss → IsBody tail May (stmts (loop p (codes "i" ++ tail) q low high (stmts (loop a (codes "j" ++ tail) b least most no_stmts) no_stmts)) ss)
  enters : (p q : Place) (monitor entry : Name) (ss : Stmts Place) → May monitor entry → IsBody tail May ss → IsBody tail May (stmts (perform_entry p monitor entry q no_exprs) ss)

record Front (ss : Stmts Place) (t : Stmt Nowhere) (ts : Stmts Nowhere) : Type 0 where
  first : Stmt Place
  others : Stmts Place
  is : ss ≡ stmts first others
  first_like : bare_stmt first ≡ t
  others_like : bare_stmts others ≡ ts

front_of : (ss : Stmts Place) (t : Stmt Nowhere) (ts : Stmts Nowhere) → bare_stmts ss ≡ stmts t ts → Front ss t ts
front_of no_stmts t ts same = absurd cc
front_of (stmts s ss) t ts same = record { first = s; others = ss; is = refl; first_like = cc; others_like = cc }

no_more : (ss : Stmts Place) → bare_stmts ss ≡ no_stmts → ss ≡ no_stmts
no_more no_stmts same = refl
no_more (stmts s ss) same = absurd cc

module _ (tail : Name) (May : Name → Name → Type 0) where
  clear : (s : Stmt Place) → bare_stmt s ≡ three tail → (ss : Stmts Place) → IsBody tail May ss → IsBody tail May (stmts s ss)
  clear (assign (whole p n) (literal q v)) same ss rest =
      (let names : of_x tail ≡ n = cc in subst (λ m. IsBody tail May (stmts (assign (whole p m) (literal q v)) ss)) names (clears p q v ss rest))
  clear s same ss rest = absurd cc

  keep : (s : Stmt Place) → bare_stmt s ≡ four tail → (ss : Stmts Place) → IsBody tail May ss → IsBody tail May (stmts s ss)
  keep (assign (whole p n) (variable q m)) same ss rest =
      (let names : of_x tail ≡ n = cc in let others : of_x tail ≡ m = cc in
      subst (λ k. IsBody tail May (stmts (assign (whole p k) (variable q m)) ss)) names
      (subst (λ k. IsBody tail May (stmts (assign (whole p (of_x tail)) (variable q k)) ss)) others (keeps p q ss rest)))
  keep s same ss rest = absurd cc

  lower : (s : Stmt Place) → bare_stmt s ≡ five tail → (ss : Stmts Place) → IsBody tail May ss → IsBody tail May (stmts s ss)
  lower (assign (whole p n) (minus q (literal r v))) same ss rest =
      (let names : of_x tail ≡ n = cc in subst (λ m. IsBody tail May (stmts (assign (whole p m) (minus q (literal r v))) ss)) names (lowers p q r v ss rest))
  lower s same ss rest = absurd cc

  record Looped (s : Stmt Place) (name : Name) (k : ℕ) (body : Stmts Nowhere) : Type 0 where
    p : Place
    q : Place
    low : Constant Place
    high : Constant Place
    inner : Stmts Place
    is : s ≡ loop p name q low high inner
    from : bare_constant low ≡ of_number 1
    up_to : bare_constant high ≡ of_number k
    like : bare_stmts inner ≡ body

  looped : (s : Stmt Place) (name : Name) (k : ℕ) (body : Stmts Nowhere) → bare_stmt s ≡ loop tt name tt (of_number 1) (of_number k) body → Looped s name k body
  looped (loop p n q low high inner) name k body same =
      (let names : n ≡ name = cc in
      record { p = p; q = q; low = low; high = high; inner = inner; is = ap (λ m. loop p m q low high inner) names; from = cc; up_to = cc; like = cc })
  looped s name k body same = absurd cc

  turn : (s : Stmt Place) (k : ℕ) → bare_stmt s ≡ short_turns tail k → 1 ≤ k → k ≤ 99850 → (ss : Stmts Place) → IsBody tail May ss → IsBody tail May (stmts s ss)
  turn s k same some few ss rest =
      let it = looped s (codes "i" ++ tail) k no_stmts same in
      let is : s ≡ loop it.p (codes "i" ++ tail) it.q it.low it.high no_stmts = it.is ∙ ap (λ b. loop it.p (codes "i" ++ tail) it.q it.low it.high b) (no_more it.inner it.like) in
      subst (λ u. IsBody tail May (stmts u ss)) (sym is) (turns it.p it.q it.low it.high k ss it.from it.up_to some few rest)

  turn_twice : (s : Stmt Place) (k : ℕ) → bare_stmt s ≡ long_turns tail k → 1 ≤ k → k ≤ 99850 → (ss : Stmts Place) → IsBody tail May ss → IsBody tail May (stmts s ss)
  turn_twice s k same some few ss rest =
      let it = looped s (codes "i" ++ tail) k _ same in
      let front = front_of it.inner _ no_stmts it.like in
      let in_it = looped front.first (codes "j" ++ tail) 1000 no_stmts front.first_like in
      let one : front.first ≡ loop in_it.p (codes "j" ++ tail) in_it.q in_it.low in_it.high no_stmts =
      in_it.is ∙ ap (λ b. loop in_it.p (codes "j" ++ tail) in_it.q in_it.low in_it.high b) (no_more in_it.inner in_it.like) in
      let two = no_more front.others front.others_like in
      let is : s ≡ loop it.p (codes "i" ++ tail) it.q it.low it.high (stmts (loop in_it.p (codes "j" ++ tail) in_it.q in_it.low in_it.high no_stmts) no_stmts) =
      it.is ∙ ap (λ b. loop it.p (codes "i" ++ tail) it.q it.low it.high b) (front.is ∙ (λ i. stmts (one i) (two i))) in
      subst (λ u. IsBody tail May (stmts u ss)) (sym {b = loop it.p (codes "i" ++ tail) it.q it.low it.high (stmts (loop in_it.p (codes "j" ++ tail) in_it.q in_it.low in_it.high no_stmts) no_stmts)} is)
      (turns_twice it.p it.q it.low it.high k in_it.p in_it.q in_it.low in_it.high ss it.from it.up_to some few in_it.from in_it.up_to rest)

  enter : (s : Stmt Place) (name entry : Name) → bare_stmt s ≡ perform_entry tt name entry tt no_exprs → May name entry → (ss : Stmts Place) → IsBody tail May ss → IsBody tail May (stmts s ss)
  enter (perform_entry p m e q no_exprs) name entry same may ss rest =
      (let names : name ≡ m = cc in let entries : entry ≡ e = cc in
      subst (λ k. IsBody tail May (stmts (perform_entry p k e q no_exprs) ss)) names
      (subst (λ k. IsBody tail May (stmts (perform_entry p name k q no_exprs) ss)) entries (enters p q name entry ss may rest)))
  enter s name entry same may ss rest = absurd cc

  pub spending : (n : ℕ) (list : List (Stmt Nowhere)) → Spends tail n list → (ss : Stmts Place) → bare_stmts ss ≡ in_turn list → IsBody tail May ss
  spending n list nothing ss same = subst (λ us. IsBody tail May us) (sym (no_more ss same)) ended
  spending n list (by_three m _ more is few spends) ss same =
      (let it = front_of ss (three tail) (in_turn more) same in
      subst (λ us. IsBody tail May us) (sym it.is) (clear it.first it.first_like it.others (spending m more spends it.others it.others_like)))
  spending n list (by_four m _ more is few spends) ss same =
      (let it = front_of ss (four tail) (in_turn more) same in
      subst (λ us. IsBody tail May us) (sym it.is) (keep it.first it.first_like it.others (spending m more spends it.others it.others_like)))
  spending n list (by_five m _ more is few spends) ss same =
      (let it = front_of ss (five tail) (in_turn more) same in
      subst (λ us. IsBody tail May us) (sym it.is) (lower it.first it.first_like it.others (spending m more spends it.others it.others_like)))
  spending n list (by_short k m _ more is some few least most spends) ss same =
      (let it = front_of ss (short_turns tail k) (in_turn more) same in
      subst (λ us. IsBody tail May us) (sym it.is) (turn it.first k it.first_like some (omega (arith, few)) it.others (spending m more spends it.others it.others_like)))
  spending n list (by_long k m _ more is some few least most spends) ss same =
      (let it = front_of ss (long_turns tail k) (in_turn more) same in
      subst (λ us. IsBody tail May us) (sym it.is) (turn_twice it.first k it.first_like some few it.others (spending m more spends it.others it.others_like)))

  pub calling : (stays : List TaskStay) (list : List (Stmt Nowhere)) → Every (λ s. May s.monitor (stay_name s.ticks ++ tail)) stays
      → ((ss : Stmts Place) → bare_stmts ss ≡ in_turn list → IsBody tail May ss)
      → (ss : Stmts Place) → bare_stmts ss ≡ in_turn (map (stay_call tail) stays ++ list) → IsBody tail May ss
  calling [] list may behind ss same = behind ss same
  calling (s ∷ stays) list may behind ss same =
      (let it = front_of ss (stay_call tail s) (in_turn (map (stay_call tail) stays ++ list)) same in
      subst (λ us. IsBody tail May us) (sym it.is)
      (enter it.first s.monitor (stay_name s.ticks ++ tail) it.first_like may.0 it.others (calling stays list may.1 behind it.others it.others_like)))

-- ---- entries, and processes

abbrev pub Nothing : Name → Name → Type 0
Nothing name entry = ⊥

pub record IsEntryOf (tail : Name) (ticks : ℕ) (r : Routine Place) : Type 0 where
  pub like : bare_routine r ≡ stay_entry tail ticks
  pub fits : TicksFit ticks
  pub body : IsBody tail Nothing r.body
  pub x : OneInt (of_x tail) r.vars
  pub params : r.params ≡ []
  pub result : r.result ≡ None
  pub value : r.value ≡ None

-- an entry of the table, for some ticks
pub record IsSomeEntry (tail : Name) (r : Routine Place) : Type 0 where
  pub ticks : ℕ
  pub is : IsEntryOf tail ticks r

pub entry_is : (tail : Name) (ticks : ℕ) → TicksFit ticks → (r : Routine Place) → bare_routine r ≡ stay_entry tail ticks → IsEntryOf tail ticks r
entry_is tail ticks fits r same =
    let left = ticks - 3 in
    record {
      like = same;
      fits = fits;
      body = spending tail Nothing left (spend tail left) (spent tail left fits.met (omega (arith, fits.few))) r.body (ap (λ x. x.body) same);
      x = one_int (of_x tail) r.vars (ap (λ x. x.vars) same);
      params = none_of _ r.params (ap (λ x. x.params) same);
      result = none_there _ r.result (ap (λ x. x.result) same);
      value = none_there _ r.value (ap (λ x. x.value) same);
    }

-- what a process may call
abbrev pub Stayed : TaskLine → Name → (monitor entry : Name) → Type 0
Stayed p tail name entry = (s : TaskStay) × (name ≡ s.monitor) × (entry ≡ stay_name s.ticks ++ tail)

pub record IsProcessOf (tail : Name) (line : TaskLine) (p : Process Place) : Type 0 where
  pub like : bare_process p ≡ table_process tail line
  pub fits : LineFits line
  pub body : IsBody tail (Stayed line tail) p.body
  pub x : OneInt (of_x tail) p.vars
  pub routines : p.routines ≡ []
  pub handler : p.handler ≡ None

may_stay : (tail : Name) (line : TaskLine) (stays : List TaskStay) → Every (λ s. Stayed line tail s.monitor (stay_name s.ticks ++ tail)) stays
may_stay tail line [] = tt
may_stay tail line (s ∷ stays) = ((s, refl, refl), may_stay tail line stays)

pub process_is : (tail : Name) (line : TaskLine) → LineFits line → (p : Process Place) → bare_process p ≡ table_process tail line → IsProcessOf tail line p
process_is tail line fits p same =
    let left = line.cost - least_cost line in
    let spends = spending tail (Stayed line tail) left (spend tail left) (spent tail left fits.met (omega (arith, fits.cost_few))) in
    record {
      like = same;
      fits = fits;
      body = calling tail (Stayed line tail) line.stays (spend tail left) (may_stay tail line line.stays) spends p.body (ap (λ x. x.body) same);
      x = one_int (of_x tail) p.vars (ap (λ x. x.vars) same);
      routines = none_of _ p.routines (ap (λ x. x.routines) same);
      handler = none_there _ p.handler (ap (λ x. x.handler) same);
    }

pub record IsMonitorOf (tail name : Name) (t : TaskTable) (m : Monitor Place) : Type 0 where
  pub like : bare_monitor m ≡ table_monitor tail t name
  pub members : m.members ≡ []
  pub entries : Every (IsSomeEntry tail) m.entries

pub monitor_is : (tail : Name) (t : TaskTable) → TableFits t → (name : Name) (m : Monitor Place) → bare_monitor m ≡ table_monitor tail t name → IsMonitorOf tail name t m
monitor_is tail t fits name m same = record {
  like = same;
  members = none_of _ m.members (ap (λ x. x.members) same);
  entries = pulled bare_routine (IsSomeEntry tail) m.entries (map (stay_entry tail) (stays_in t name)) (ap (λ x. x.entries) same)
      (every_map (λ y. (r : Routine Place) → bare_routine r ≡ y → IsSomeEntry tail r) (stay_entry tail) (stays_in t name)
      (weaker TicksFit (λ ticks. (r : Routine Place) → bare_routine r ≡ stay_entry tail ticks → IsSomeEntry tail r)
      (λ ticks fit r like. record { ticks = ticks; is = entry_is tail ticks fit r like }) (stays_in t name) (stays_in_fit t fits name)));
}

-- ---- declarations

pub data IsDeclOf (tail : Name) (t : TaskTable) : Decl Place → Type 0 where
  an_event : (name : Name) (place : Place) → IsDeclOf tail t (event name place)
  a_monitor : (name : Name) (m : Monitor Place) → IsMonitorOf tail name t m → IsDeclOf tail t (monitor m)
  a_process : (line : TaskLine) (p : Process Place) → IsProcessOf tail line p → IsDeclOf tail t (process p)

module _ (tail : Name) (t : TaskTable) (fits : TableFits t) where
  abbrev Like : Decl Nowhere → Type 0
  Like d = (x : Decl Place) → bare_decl x ≡ d → IsDeclOf tail t x

  event_like : (e : Name) → Like (event e tt)
  event_like e (event n p) same = an_event n p
  event_like e d same = absurd cc

  monitor_like : (name : Name) → Like (monitor (table_monitor tail t name))
  monitor_like name (monitor m) same = (let like : bare_monitor m ≡ table_monitor tail t name = cc in a_monitor name m (monitor_is tail t fits name m like))
  monitor_like name d same = absurd cc

  process_like : (line : TaskLine) → LineFits line → Like (process (table_process tail line))
  process_like line fit (process p) same = (let like : bare_process p ≡ table_process tail line = cc in a_process line p (process_is tail line fit p like))
  process_like line fit d same = absurd cc

  events_like : (o : Option Name) → Every Like (event_of o)
  events_like None = tt
  events_like (Some e) = (event_like e, tt)

  monitors_like : (names : List Name) → Every (λ name. Like (monitor (table_monitor tail t name))) names
  monitors_like [] = tt
  monitors_like (name ∷ names) = (monitor_like name, monitors_like names)

  each_event : (ps : List TaskLine) → Every (λ p. Every Like (event_of p.event)) ps
  each_event [] = tt
  each_event (p ∷ ps) = (events_like p.event, each_event ps)

  pub decls_are : (g : Prog Place) → bare g ≡ program_with tail t → Every (IsDeclOf tail t) g.decls
  decls_are g same = pulled bare_decl (IsDeclOf tail t) g.decls _ (ap (λ x. x.decls) same)
      (both Like (flat_map (λ p. event_of p.event) t.tasks) _ (every_flat Like (λ p. event_of p.event) t.tasks (each_event t.tasks))
      (both Like (map (λ name. monitor (table_monitor tail t name)) (monitors t)) _ (every_map Like (λ name. monitor (table_monitor tail t name)) (monitors t) (monitors_like (monitors t)))
      (every_map Like (λ p. process (table_process tail p)) t.tasks (weaker LineFits (λ p. Like (process (table_process tail p))) process_like t.tasks fits.tasks))))

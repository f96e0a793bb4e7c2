-- An entry behind its monitor's name stands for what the meaning looks up, where the places of monitors are apart.
use Rattle.std.proofs.Common.{◌≡◌, ℕ, ◌+◌, ◌≤◌, inl, inr, Bool, true, false, cond, List, [], ◌∷◌, ◌++◌, map, Option, Some, None, is_some, refl, ap, sym, subst, ◌∙◌, arith}
use Rattle.std.specs.Prelude.{option_map}
use Rattle.std.proofs.lemmas.List.Elements.{All-contains}
use Rattle.std.proofs.lemmas.Option.{none-some}
use Rattle.syntax_tree.specs.Plain.{Name}
use Rattle.syntax_tree.specs.Plain as plain_of
use Rattle.syntax_tree.specs.Placed.{Routine, Monitor, Process, Decl, constant, device, event, routine, monitor, process, Prog, plain, plain_routine, plain_monitor}
use Rattle.syntax_tree.specs.declared.place.Place.{Place}
use Rattle.static_names.specs.declared.kind.Declared.{Declared}
use Rattle.static_names.specs.declared.kind.Kind.{Kind}
use Rattle.static_names.specs.declared.kind.Kind.TheVariants as kind_is
use Rattle.syntax_tree.specs.Parts.{same_place, monitors}
use Rattle.static_names.specs.Reach.{Names, Reach, Site, first, through, members_of}
use Rattle.static_names.specs.Occurrences.{Occurrence, declares, closes, decls_names, inner_names, others, decl_name, entry_name, entries_at, program_name}
use Rattle.static_names.specs.Rules.{place_of}
use Rattle.source_semantics.specs.Names.{named, monitor_number}
use Rattle.source_semantics.specs.Run.{Home, of_monitor, entry_of, entry_named}
use Rattle.source_semantics.specs.Run as run_of
use Rattle.static_declarations.specs.Things.{routine_thing, thing_at}
use Rattle.static_semantics.specs.Written.{IsWritten, DeclWritten, RoutineWritten}
use Rattle.static_semantics.specs.Things.{ThingsKnown}
use Rattle.static_semantics.specs.Places.{count_at, StandApart}
use Rattle.static_semantics.specs.Mirrors.{IsEntryOf}
use Rattle.wellformed_law.proofs.Members.{In, in-contains, ends-count, count-cons, sum-first}
use Rattle.wellformed_law.proofs.Lookups.{named-map, FoundBy, found-by, Either, in_first, in_second, either}
use Rattle.wellformed_law.proofs.NamesAfter.{ends-inner}
use Rattle.wellformed_law.proofs.ThingsListed.{thing-known, routine-always, entry-always}
use Rattle.wellformed_law.proofs.ProgramScope.{Listed, Looks, monitors-plain, monitor_called}
use Rattle.wellformed_law.proofs.ProgramNames.{text_at, as_found}
use Rattle.wellformed_law.proofs.Found.{same-itself}
use Rattle.static_names.proofs.Programs.{first-append}

-- ---- monitors have places of their own

abbrev pub MonitorsApart : Prog Place → Type 0
MonitorsApart g = (m k : Monitor Place) → In g.decls (monitor m) → In g.decls (monitor k) → same_place m.place k.place ≡ true → m ≡ k

one-more : (a b c : ℕ) → c ≡ a + b → a ≡ 1 → 1 ≤ b → c ≤ 1 → ⊥
one-more a b c s e f l = omega arith

rest-less : (a b r c : ℕ) → c ≡ a + b → r ≤ b → c ≤ 1 → r ≤ 1
rest-less a b r c s e l = omega arith

at-least : (a b r c : ℕ) → c ≡ a + b → r ≤ b → 1 ≤ r → 1 ≤ c
at-least a b r c s e l = omega arith

same_monitor : (m k : Monitor Place) → monitor m ≡ monitor k → m ≡ k
same_monitor m k e = cc

module _ (members : Place → Reach) (q : Place) where
  abbrev stands : Occurrence → Bool
  stands o = same_place (place_of o) q

  abbrev after : Names → Decl Place → List (Decl Place) → List Occurrence → List Occurrence
  after earlier c ds more = inner_names (record { means = first (earlier ++ others (c ∷ ds)); members = members }) c (decls_names members (earlier ++ decl_name c ∷ []) ds more)

  split : (earlier : Names) (c : Decl Place) (ds : List (Decl Place)) (more : List Occurrence)
      → count_at q (decls_names members earlier (c ∷ ds) more) ≡ cond (same_place (decl_name c).1.place q) 1 0 + count_at q (after earlier c ds more)
  split earlier c ds more = count-cons stands (declares (decl_name c).0 (decl_name c).1.place (is_some (first earlier (decl_name c).0))) (after earlier c ds more)

  rest : (earlier : Names) (c : Decl Place) (ds : List (Decl Place)) (more : List Occurrence) → count_at q (decls_names members (earlier ++ decl_name c ∷ []) ds more) ≤ count_at q (after earlier c ds more)
  rest earlier c ds more = ends-count stands _ _ (ends-inner _ c _)

  head : (c : Decl Place) (m : Monitor Place) → c ≡ monitor m → same_place m.place q ≡ true → cond {A = ℕ} (same_place (decl_name c).1.place q) 1 0 ≡ 1
  head c m e s = ap (λ b. cond {A = ℕ} b 1 0) (ap (λ z. same_place (decl_name z).1.place q) e ∙ s)

  counted : (earlier : Names) (ds : List (Decl Place)) (more : List Occurrence) (m : Monitor Place) → In ds (monitor m) → same_place m.place q ≡ true → 1 ≤ count_at q (decls_names members earlier ds more)
  counted earlier [] more m i s = absurd i
  counted earlier (c ∷ ds) more m (inl e) s = sum-first _ _ _ (split earlier c ds more) (head c m e s)
  counted earlier (c ∷ ds) more m (inr i) s = at-least _ _ _ _ (split earlier c ds more) (rest earlier c ds more) (counted (earlier ++ decl_name c ∷ []) ds more m i s)

  one-monitor : (earlier : Names) (ds : List (Decl Place)) (more : List Occurrence) → count_at q (decls_names members earlier ds more) ≤ 1
      → (m k : Monitor Place) → In ds (monitor m) → In ds (monitor k) → same_place m.place q ≡ true → same_place k.place q ≡ true → m ≡ k
  one-monitor earlier [] more few m k i j s t = absurd i
  one-monitor earlier (c ∷ ds) more few m k (inl e) (inl f) s t = same_monitor m k (sym e ∙ f)
  one-monitor earlier (c ∷ ds) more few m k (inl e) (inr j) s t =
      absurd (one-more _ _ _ (split earlier c ds more) (head c m e s) (at-least 0 _ _ _ (zero-left _) (rest earlier c ds more) (counted (earlier ++ decl_name c ∷ []) ds more k j t)) few)
    where
      zero-left : (n : ℕ) → n ≡ 0 + n
      zero-left n = omega arith
  one-monitor earlier (c ∷ ds) more few m k (inr i) (inl f) s t =
      absurd (one-more _ _ _ (split earlier c ds more) (head c k f t) (at-least 0 _ _ _ (zero-left _) (rest earlier c ds more) (counted (earlier ++ decl_name c ∷ []) ds more m i s)) few)
    where
      zero-left : (n : ℕ) → n ≡ 0 + n
      zero-left n = omega arith
  one-monitor earlier (c ∷ ds) more few m k (inr i) (inr j) s t =
      one-monitor (earlier ++ decl_name c ∷ []) ds more (rest-less _ _ _ _ (split earlier c ds more) (rest earlier c ds more) few) m k i j s t

pub monitors-apart : (g : Prog Place) → StandApart g → MonitorsApart g
monitors-apart g apart m k i j s =
    one-monitor (λ place. first (entries_at g.decls place)) k.place (program_name g ∷ []) g.decls (closes g.close g.close_place g.name ∷ [])
    (rest-less _ _ _ _ (count-cons (λ o. same_place (place_of o) k.place) (declares g.name g.place false) (decls_names (λ place. first (entries_at g.decls place)) (program_name g ∷ []) g.decls (closes g.close g.close_place g.name ∷ []))) (self _) (apart k.place))
    m k i j s (same-itself k.place)
  where
    self : (n : ℕ) → n ≤ n
    self n = omega arith

-- ---- the monitor behind a name

pub record MonitorOf (g : Prog Place) (m : Name) (d : Declared) : Type 0 where
  pub one : Monitor Place
  pub listed : In g.decls (monitor one)
  pub place : one.place ≡ d.place
  pub found : named monitor_called m (monitors g.decls) ≡ Some one

pub monitor-of : (g : Prog Place) (m : Name) (d : Declared) → d.kind ≡ kind_is.Monitor → Listed g.decls m d → MonitorOf g m d
monitor-of g m d kind l = by l.one l.listed (ap (λ e. e.kind) l.is ∙ kind) (ap (λ e. e.place) l.is) l.looks
  where
    by : (c : Decl Place) → In g.decls c → (decl_name c).1.kind ≡ kind_is.Monitor → (decl_name c).1.place ≡ d.place → Looks c g.decls m → MonitorOf g m d
    by (constant n q k) i e f looks = cc
    by (device n q is_out) i e f looks = cc
    by (event n q) i e f looks = cc
    by (routine r) i e f looks = cc
    by (monitor one) i e f looks = record { one = one; listed = i; place = f; found = looks }
    by (process p) i e f looks = cc

-- only the entries of one monitor are at its place
pub entries-of : (ds : List (Decl Place)) (q : Place) (m : Monitor Place) (x : Name) (d : Declared) → ((k : Monitor Place) → In ds (monitor k) → same_place q k.place ≡ true → k ≡ m) → first (entries_at ds q) x ≡ Some d → first (map entry_name m.entries) x ≡ Some d
entries-of [] q m x d only e = absurd (none-some d e)
entries-of (constant n p c ∷ ds) q m x d only e = entries-of ds q m x d (λ k i. only k (inr i)) e
entries-of (device n p is_out ∷ ds) q m x d only e = entries-of ds q m x d (λ k i. only k (inr i)) e
entries-of (event n p ∷ ds) q m x d only e = entries-of ds q m x d (λ k i. only k (inr i)) e
entries-of (routine r ∷ ds) q m x d only e = entries-of ds q m x d (λ k i. only k (inr i)) e
entries-of (monitor k ∷ ds) q m x d only e = by (same_place q k.place) refl e (entries-of ds q m x d (λ k i. only k (inr i)))
  where
    by : (b : Bool) → same_place q k.place ≡ b → first (cond b (map entry_name k.entries ++ entries_at ds q) (entries_at ds q)) x ≡ Some d → (first (entries_at ds q) x ≡ Some d → first (map entry_name m.entries) x ≡ Some d) → first (map entry_name m.entries) x ≡ Some d
    by false s f h = h f
    by true s f h = at (either _ _ d (sym (first-append (map entry_name k.entries) (entries_at ds q) x) ∙ f))
      where
        at : Either (first (map entry_name k.entries) x) (first (entries_at ds q) x) d → first (map entry_name m.entries) x ≡ Some d
        at (in_first e) = subst (λ z. first (map entry_name z.entries) x ≡ Some d) (only k (inl refl) s) e
        at (in_second n e) = h e
entries-of (process p ∷ ds) q m x d only e = entries-of ds q m x d (λ k i. only k (inr i)) e

-- ---- the entry

module _ (g : Prog Place) (written : IsWritten g) (known : ThingsKnown g) (p : Process Place) where
  pub entry-stands : (home : Home) (f : Bool) (own : List plain_of.Var) (m x : Name) (d : Declared) (one : Monitor Place) → In g.decls (monitor one) → named monitor_called m (monitors g.decls) ≡ Some one
      → first (map entry_name one.entries) x ≡ Some d → IsEntryOf g (text_at g p home f own) m x d.place
  entry-stands home f own m x d one i found e =
      let l : FoundBy entry_name one.entries x d = found-by entry_name one.entries x d e in
      record {
        one = l.one;
        number = monitor_number (plain g) m;
        is = ap (λ c. c.place) l.is;
        thing = subst (λ c. thing_is c l.one) (ap (λ c. c.place) l.is) (thing-known g known (monitor one) l.one.place (routine_thing true l.one) i (entry-always one l.one _ l.listed (routine-always true l.one)));
        result = (All-contains RoutineWritten one.entries l.one (All-contains DeclWritten g.decls (monitor one) written (in-contains _ _ i)).entries (in-contains _ _ l.listed)).result;
        found = ap (entry_of (monitor_number (plain g) m) x) (ap (named (λ k. k.name) m) (monitors-plain g.decls) ∙ named-map plain_monitor (λ k. k.name) m (monitors g.decls) ∙ ap (option_map plain_monitor) found)
            ∙ ap (option_map (as_found (of_monitor (monitor_number (plain g) m)))) (named-map plain_routine run_of.entry_name x one.entries ∙ ap (option_map plain_routine) l.found);
      }
    where
      thing_is : Place → Routine Place → Type 0
      thing_is c r = thing_at g c ≡ routine_thing true r

  -- a name behind a full stop
  pub record Through (site : Site) (m x : Name) (d : Declared) : Type 0 where
    pub declared : Declared
    pub means : site.means m ≡ Some declared
    pub kind : declared.kind ≡ kind_is.Monitor
    pub member : site.members declared.place x ≡ Some d

  pub through-is : (site : Site) (m x : Name) (d : Declared) → through site m x ≡ Some d → Through site m x d
  through-is site m x d e = by (site.means m) refl e
    where
      at : (place : Place) (k : Kind) → site.means m ≡ Some (record { place = place; kind = k }) → members_of site (Some (record { place = place; kind = k })) x ≡ Some d → Through site m x d
      at place kind_is.Program s f = absurd (none-some d f)
      at place kind_is.Constant s f = absurd (none-some d f)
      at place kind_is.Device s f = absurd (none-some d f)
      at place kind_is.Event s f = absurd (none-some d f)
      at place kind_is.Routine s f = absurd (none-some d f)
      at place kind_is.Entry s f = absurd (none-some d f)
      at place kind_is.Monitor s f = record { declared = record { place = place; kind = kind_is.Monitor }; means = s; kind = refl; member = f }
      at place kind_is.Process s f = absurd (none-some d f)
      at place kind_is.Variable s f = absurd (none-some d f)
      at place kind_is.LoopVariable s f = absurd (none-some d f)
      at place kind_is.Condition s f = absurd (none-some d f)

      by : (o : Option Declared) → site.means m ≡ o → members_of site o x ≡ Some d → Through site m x d
      by None s f = absurd (none-some d f)
      by (Some c) s f = at c.place c.kind s f

  pub entries-stand : (site : Site) (home : Home) (f : Bool) (own : List plain_of.Var)
      → ((m : Name) (d : Declared) → site.means m ≡ Some d → d.kind ≡ kind_is.Monitor → MonitorOf g m d)
      → ((one : Monitor Place) (place : Place) (x : Name) (d : Declared) → In g.decls (monitor one) → one.place ≡ place → site.members place x ≡ Some d → d.kind ≡ kind_is.Entry → first (map entry_name one.entries) x ≡ Some d)
      → (m x : Name) (d : Declared) → through site m x ≡ Some d → d.kind ≡ kind_is.Entry → IsEntryOf g (text_at g p home f own) m x d.place
  entries-stand site home f own reach member m x d e kind =
      let t = through-is site m x d e in
      let o = reach m t.declared t.means t.kind in
      entry-stands home f own m x d o.one o.listed o.found (member o.one t.declared.place x d o.listed o.place t.member kind)

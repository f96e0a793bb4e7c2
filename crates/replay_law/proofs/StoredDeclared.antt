-- No two names of an image are the same where the image may not have them so.
use Rattle.std.proofs.Common.{◌≡◌, ◌∙◌, ◌||◌, ◌++◌, inl, inr, Bool, true, false, cond, List, [], ◌∷◌, map, filter_map, Option, Some, None, is_some, refl, ap, sym, subst}
use Rattle.std.specs.List.{cons_option}
use Rattle.syntax_tree.specs.Plain.{Name}
use Rattle.syntax_tree.specs.Placed.{Monitor, Decl, constant, device, event, routine, monitor, process, Prog, plain_decl, plain_member}
use Rattle.syntax_tree.specs.declared.place.Place.{Place}
use Rattle.static_names.specs.declared.kind.Declared.{Declared}
use Rattle.static_names.specs.Reach.{Names, Reach, first, same, Site}
use Rattle.static_names.specs.Occurrences.{Occurrence, closes, declarations, decl_name, declares, decls_names, entries_at, entry_name, member_name, monitor_inner, monitor_scope, names, others, program_name}
use Rattle.static_names.proofs.Programs.{first-append}
use Rattle.static_names.proofs.Scopes.{none-of}
use Rattle.source_semantics.specs.Names.{condition_in, event_in}
use Rattle.static_semantics.specs.Places.{NamesFound}
use Rattle.static_semantics.specs.Mirrors.{NamesListed, program_site, monitor_site}
use Rattle.wellformed_law.proofs.Lookups.{or_else-first, some-none}
use Rattle.wellformed_law.proofs.Members.{In, ends-in, in-contains, in-left, in-map, in-right}
use Rattle.wellformed_law.proofs.NamesAfter.{ends-inner}
use Rattle.wellformed_law.proofs.ProgramScope.{Split, split-in}
use Rattle.built_image_law.proofs.Differ.{DeclsDiffer, Free}
use Rattle.replay_law.proofs.Declared.{PicksName, condition_in_scope, declarations as decls_apart, device_called, device_picked, monitor_called, monitor_picked, picked_differ, process_called, process_picked, twice}
use Rattle.replay_law.proofs.Differing.{Differing}
use Rattle.replay_law.proofs.Fresh.{NoneOf, in_either}

-- ---- events

abbrev pub event_called : Decl Place → Option Name
event_called (event n q) = Some n
event_called _ = None

event_picked : PicksName event_called
event_picked (event k q) n is = cc
event_picked (constant k q c) n is = absurd cc
event_picked (device k q out) n is = absurd cc
event_picked (routine r) n is = absurd cc
event_picked (monitor m) n is = absurd cc
event_picked (process p) n is = absurd cc

pub events_are : (ds : List (Decl Place)) → filter_map event_in (map plain_decl ds) ≡ filter_map event_called ds
events_are [] = refl
events_are (constant n q c ∷ ds) = events_are ds
events_are (device n q out ∷ ds) = events_are ds
events_are (event n q ∷ ds) = ap (λ l. n ∷ l) (events_are ds)
events_are (routine r ∷ ds) = events_are ds
events_are (monitor m ∷ ds) = events_are ds
events_are (process p ∷ ds) = events_are ds

-- ---- declarations of two kinds

-- a declaration from which the name is picked
record Picked (f : Decl Place → Option Name) (ds : List (Decl Place)) (n : Name) : Type 0 where
  decl : Decl Place
  within : In ds decl
  is : f decl ≡ Some n

picked : (f : Decl Place → Option Name) (ds : List (Decl Place)) (n : Name) → In (filter_map f ds) n → Picked f ds n
picked f [] n i = absurd i
picked f (d ∷ ds) n i = by (f d) refl i (λ j. let p = picked f ds n j in record { decl = p.decl; within = inr p.within; is = p.is }) where
  by : (o : Option Name) → f d ≡ o → In (cons_option o (filter_map f ds)) n → (In (filter_map f ds) n → Picked f (d ∷ ds) n) → Picked f (d ∷ ds) n
  by None is j later = later j
  by (Some x) is (inl e) later = record { decl = d; within = inl refl; is = is ∙ ap (λ y. Some y) e }
  by (Some x) is (inr j) later = later j

one_decl : (ds : List (Decl Place)) → DeclsDiffer ds → (d e : Decl Place) → In ds d → In ds e → (decl_name d).0 ≡ (decl_name e).0 → d ≡ e
one_decl [] differ d e i j name = absurd i
one_decl (x ∷ xs) differ d e (inl a) (inl b) name = sym a ∙ b
one_decl (x ∷ xs) differ d e (inl a) (inr j) name = absurd (twice (decl_name e).0 (decl_name x).0 (differ.0 e j) (ap (λ z. (decl_name z).0) a ∙ name))
one_decl (x ∷ xs) differ d e (inr i) (inl b) name = absurd (twice (decl_name d).0 (decl_name x).0 (differ.0 d i) (ap (λ z. (decl_name z).0) b ∙ sym name))
one_decl (x ∷ xs) differ d e (inr i) (inr j) name = one_decl xs differ.1 d e i j name

abbrev Disjoint : (f h : Decl Place → Option Name) → Type 0
Disjoint f h = (d : Decl Place) (m n : Name) → f d ≡ Some m → h d ≡ Some n → ⊥

apart : (f h : Decl Place → Option Name) → PicksName f → PicksName h → Disjoint f h → (ds : List (Decl Place)) → DeclsDiffer ds → (n : Name) → In (filter_map f ds) n → NoneOf n (filter_map h ds)
apart f h of_f of_h disjoint ds differ n i m j e =
    let a = picked f ds n i in
    let b = picked h ds m j in
    let one : a.decl ≡ b.decl = one_decl ds differ a.decl b.decl a.within b.within (of_f a.decl n a.is ∙ (e ∙ sym (of_h b.decl m b.is))) in
    disjoint a.decl n m a.is (ap h one ∙ b.is)

events_devices : Disjoint event_called device_called
events_devices (event k q) m n a b = absurd cc
events_devices (constant k q c) m n a b = absurd cc
events_devices (device k q out) m n a b = absurd cc
events_devices (routine r) m n a b = absurd cc
events_devices (monitor x) m n a b = absurd cc
events_devices (process p) m n a b = absurd cc

monitors_devices : Disjoint monitor_called device_called
monitors_devices (event k q) m n a b = absurd cc
monitors_devices (constant k q c) m n a b = absurd cc
monitors_devices (device k q out) m n a b = absurd cc
monitors_devices (routine r) m n a b = absurd cc
monitors_devices (monitor x) m n a b = absurd cc
monitors_devices (process p) m n a b = absurd cc

monitors_events : Disjoint monitor_called event_called
monitors_events (event k q) m n a b = absurd cc
monitors_events (constant k q c) m n a b = absurd cc
monitors_events (device k q out) m n a b = absurd cc
monitors_events (routine r) m n a b = absurd cc
monitors_events (monitor x) m n a b = absurd cc
monitors_events (process p) m n a b = absurd cc

processes_devices : Disjoint process_called device_called
processes_devices (event k q) m n a b = absurd cc
processes_devices (constant k q c) m n a b = absurd cc
processes_devices (device k q out) m n a b = absurd cc
processes_devices (routine r) m n a b = absurd cc
processes_devices (monitor x) m n a b = absurd cc
processes_devices (process p) m n a b = absurd cc

processes_events : Disjoint process_called event_called
processes_events (event k q) m n a b = absurd cc
processes_events (constant k q c) m n a b = absurd cc
processes_events (device k q out) m n a b = absurd cc
processes_events (routine r) m n a b = absurd cc
processes_events (monitor x) m n a b = absurd cc
processes_events (process p) m n a b = absurd cc

processes_monitors : Disjoint process_called monitor_called
processes_monitors (event k q) m n a b = absurd cc
processes_monitors (constant k q c) m n a b = absurd cc
processes_monitors (device k q out) m n a b = absurd cc
processes_monitors (routine r) m n a b = absurd cc
processes_monitors (monitor x) m n a b = absurd cc
processes_monitors (process p) m n a b = absurd cc

-- ---- what is around

-- a name that is not found is none of those
unfound : (ds : Names) (n : Name) → first ds n ≡ None → (d : Name × Declared) → In ds d → n ≡ d.0 → ⊥
unfound [] n none d i e = absurd i
unfound (x ∷ xs) n none d (inl is) e = by (same n x.0) refl none where
  by : (b : Bool) → same n x.0 ≡ b → cond b (Some x.1) (first xs n) ≡ None → ⊥
  by true found h = some-none x.1 h
  by false other h = twice n x.0 other (ap (λ z. z.0) is ∙ sym e)
unfound (x ∷ xs) n none d (inr i) e = by (same n x.0) none (λ h. unfound xs n h d i e) where
  by : (b : Bool) → cond b (Some x.1) (first xs n) ≡ None → (first xs n ≡ None → ⊥) → ⊥
  by true h later = some-none x.1 h
  by false h later = later h

-- what reaches before it stands
abbrev IsOther : Decl Place → Type 0
IsOther (constant n q c) = ⊥
IsOther (device n q out) = Unit {0}
IsOther (event n q) = Unit {0}
IsOther (routine r) = Unit {0}
IsOther (monitor m) = Unit {0}
IsOther (process p) = Unit {0}

among_others : (ds : List (Decl Place)) (d : Decl Place) → IsOther d → In ds d → In (others ds) (decl_name d)
among_others [] d other i = absurd i
among_others (constant n q c ∷ ds) d other (inl e) = absurd (subst IsOther (sym e) other)
among_others (constant n q c ∷ ds) d other (inr i) = among_others ds d other i
among_others (device n q out ∷ ds) d other (inl e) = inl (ap decl_name e)
among_others (device n q out ∷ ds) d other (inr i) = inr (among_others ds d other i)
among_others (event n q ∷ ds) d other (inl e) = inl (ap decl_name e)
among_others (event n q ∷ ds) d other (inr i) = inr (among_others ds d other i)
among_others (routine r ∷ ds) d other (inl e) = inl (ap decl_name e)
among_others (routine r ∷ ds) d other (inr i) = inr (among_others ds d other i)
among_others (monitor m ∷ ds) d other (inl e) = inl (ap decl_name e)
among_others (monitor m ∷ ds) d other (inr i) = inr (among_others ds d other i)
among_others (process p ∷ ds) d other (inl e) = inl (ap decl_name e)
among_others (process p ∷ ds) d other (inr i) = inr (among_others ds d other i)

device_other : (d : Decl Place) (n : Name) → device_called d ≡ Some n → IsOther d
device_other (device k q out) n is = tt
device_other (constant k q c) n is = absurd cc
device_other (event k q) n is = tt
device_other (routine r) n is = tt
device_other (monitor m) n is = tt
device_other (process p) n is = tt

event_other : (d : Decl Place) (n : Name) → event_called d ≡ Some n → IsOther d
event_other (device k q out) n is = tt
event_other (constant k q c) n is = absurd cc
event_other (event k q) n is = tt
event_other (routine r) n is = tt
event_other (monitor m) n is = tt
event_other (process p) n is = tt

monitor_other : (d : Decl Place) (n : Name) → monitor_called d ≡ Some n → IsOther d
monitor_other (device k q out) n is = tt
monitor_other (constant k q c) n is = absurd cc
monitor_other (event k q) n is = tt
monitor_other (routine r) n is = tt
monitor_other (monitor m) n is = tt
monitor_other (process p) n is = tt

right_false : (a b : Bool) → (a || b) ≡ false → b ≡ false
right_false false b e = e
right_false true b e = absurd cc

-- nobody of a scope is found around it
scope_hidden : (outside : Reach) (earlier ds : Names) (more : List Occurrence) → Free (declarations outside earlier ds more) → (e : Name × Declared) → In ds e → outside e.0 ≡ None
scope_hidden outside earlier [] more free e i = absurd i
scope_hidden outside earlier (d ∷ ds) more free e (inl is) =
    ap (λ z. outside z.0) (sym is) ∙ none-of (outside d.0) (right_false (is_some (first earlier d.0)) (is_some (outside d.0)) (free d.0 d.1.place _ (inl refl)))
scope_hidden outside earlier (d ∷ ds) more free e (inr i) = scope_hidden outside (earlier ++ d ∷ []) ds more (λ n q t j. free n q t (inr j)) e i

rest_free : (members : Place → Reach) (earlier : Names) (d : Decl Place) (ds : List (Decl Place)) (more : List Occurrence) → Free (decls_names members earlier (d ∷ ds) more) → Free (decls_names members (earlier ++ decl_name d ∷ []) ds more)
rest_free members earlier d ds more free n q t j =
    let here : Site = record { means = first (earlier ++ others (d ∷ ds)); members = members } in
    free n q t (inr (ends-in (decls_names members (earlier ++ decl_name d ∷ []) ds more) _ _ (ends-inner here d (decls_names members (earlier ++ decl_name d ∷ []) ds more)) j))

decls_new : (members : Place → Reach) (earlier : Names) (ds : List (Decl Place)) (more : List Occurrence) → Free (decls_names members earlier ds more) → (e : Decl Place) → In ds e → first earlier (decl_name e).0 ≡ None
decls_new members earlier [] more free e i = absurd i
decls_new members earlier (d ∷ ds) more free e (inl is) =
    ap (λ z. first earlier (decl_name z).0) (sym is) ∙ none-of (first earlier (decl_name d).0) (free (decl_name d).0 (decl_name d).1.place _ (inl refl))
decls_new members earlier (d ∷ ds) more free e (inr i) =
    or_else-first (first earlier (decl_name e).0) (first (decl_name d ∷ []) (decl_name e).0)
    (sym (first-append earlier (decl_name d ∷ []) (decl_name e).0) ∙ decls_new members (earlier ++ decl_name d ∷ []) ds more (rest_free members earlier d ds more free) e i)

-- ---- a program

abbrev pub devices_of : Prog Place → List Name
devices_of g = filter_map device_called g.decls

abbrev pub events_of : Prog Place → List Name
events_of g = filter_map event_called g.decls

abbrev pub monitors_of : Prog Place → List Name
monitors_of g = filter_map monitor_called g.decls

abbrev pub processes_of : Prog Place → List Name
processes_of g = filter_map process_called g.decls

module _ (g : Prog Place) (found : NamesFound g) (listed : NamesListed g) where
  differ : DeclsDiffer g.decls
  differ = decls_apart g found listed

  pub events_differ : Differing (events_of g)
  events_differ = picked_differ event_called event_picked g.decls differ

  pub events_no_devices : (n : Name) → In (events_of g) n → NoneOf n (devices_of g)
  events_no_devices = apart event_called device_called event_picked device_picked events_devices g.decls differ

  pub monitors_no_devices : (n : Name) → In (monitors_of g) n → NoneOf n (devices_of g)
  monitors_no_devices = apart monitor_called device_called monitor_picked device_picked monitors_devices g.decls differ

  pub monitors_no_events : (n : Name) → In (monitors_of g) n → NoneOf n (events_of g)
  monitors_no_events = apart monitor_called event_called monitor_picked event_picked monitors_events g.decls differ

  pub processes_no_devices : (n : Name) → In (processes_of g) n → NoneOf n (devices_of g)
  processes_no_devices = apart process_called device_called process_picked device_picked processes_devices g.decls differ

  pub processes_no_events : (n : Name) → In (processes_of g) n → NoneOf n (events_of g)
  processes_no_events = apart process_called event_called process_picked event_picked processes_events g.decls differ

  pub processes_no_monitors : (n : Name) → In (processes_of g) n → NoneOf n (monitors_of g)
  processes_no_monitors = apart process_called monitor_called process_picked monitor_picked processes_monitors g.decls differ

  -- nothing has the name of the program
  pub no_program : (f : Decl Place → Option Name) → PicksName f → (n : Name) → In (filter_map f g.decls) n → NoneOf n (g.name ∷ [])
  no_program f picks n i t (inr j) e = absurd j
  no_program f picks n i t (inl is) e =
      let a = picked f g.decls n i in
      let none = decls_new (λ place. first (entries_at g.decls place)) (program_name g ∷ []) g.decls (closes g.close g.close_place g.name ∷ [])
      (λ n q t i. found.free n q t (in-contains (names g) (declares n q t) (inr i))) a.decl a.within in
      unfound (program_name g ∷ []) (decl_name a.decl).0 none (program_name g) (inl refl) (picks a.decl n a.is ∙ (e ∙ sym is))

  pub devices_no_program : (n : Name) → In (devices_of g) n → NoneOf n (g.name ∷ [])
  devices_no_program n i = no_program device_called device_picked n i

  pub events_no_program : (n : Name) → In (events_of g) n → NoneOf n (g.name ∷ [])
  events_no_program n i = no_program event_called event_picked n i

  pub monitors_no_program : (n : Name) → In (monitors_of g) n → NoneOf n (g.name ∷ [])
  monitors_no_program n i = no_program monitor_called monitor_picked n i

  pub processes_no_program : (n : Name) → In (processes_of g) n → NoneOf n (g.name ∷ [])
  processes_no_program n i = no_program process_called process_picked n i

  -- the conditions of a monitor
  module _ (m : Monitor Place) (i : In g.decls (monitor m)) (c : Name) (has : In (filter_map condition_in (map plain_member m.members)) c) where
    s : Split g.decls (monitor m)
    s = split-in g.decls (monitor m) i

    hidden : first ((program_name g ∷ map decl_name s.before) ++ others (monitor m ∷ s.after)) c ≡ None
    hidden =
        let member = condition_in_scope m.members c has in
        scope_hidden (program_site g s.before (monitor m ∷ s.after)).means [] (monitor_scope m) (monitor_inner (monitor_site g s.before m s.after) m [])
        (λ n q t j. found.free n q t (listed s.before (monitor m) s.after s.is (declares n q t) (in-contains _ _ j))) (c, member.0) (in-left (map member_name m.members) (map entry_name m.entries) (c, member.0) member.1)

    around : (d : Decl Place) → IsOther d → In g.decls d → c ≡ (decl_name d).0 → ⊥
    around d other within e =
        let where_it_is : In (s.before ++ monitor m ∷ s.after) d = subst (λ (ds : List (Decl Place)). In ds d) s.is within in
        unfound ((program_name g ∷ map decl_name s.before) ++ others (monitor m ∷ s.after)) c hidden (decl_name d) (elim (in_either s.before (monitor m ∷ s.after) d where_it_is) [
          | inl front ↦ inr (in-left (map decl_name s.before) (others (monitor m ∷ s.after)) (decl_name d) (in-map decl_name s.before d front))
          | inr back ↦ inr (in-right (map decl_name s.before) (others (monitor m ∷ s.after)) (decl_name d) (among_others (monitor m ∷ s.after) d other back))
        ]) e

    none_picked : (f : Decl Place → Option Name) → PicksName f → ((d : Decl Place) (n : Name) → f d ≡ Some n → IsOther d) → NoneOf c (filter_map f g.decls)
    none_picked f picks other n j e = let a = picked f g.decls n j in around a.decl (other a.decl n a.is) a.within (e ∙ sym (picks a.decl n a.is))

    pub condition_no_devices : NoneOf c (devices_of g)
    condition_no_devices = none_picked device_called device_picked device_other

    pub condition_no_events : NoneOf c (events_of g)
    condition_no_events = none_picked event_called event_picked event_other

    pub condition_no_monitors : NoneOf c (monitors_of g)
    condition_no_monitors = none_picked monitor_called monitor_picked monitor_other

    pub condition_no_program : NoneOf c (g.name ∷ [])
    condition_no_program t (inr j) e = absurd j
    condition_no_program t (inl is) e = unfound ((program_name g ∷ map decl_name s.before) ++ others (monitor m ∷ s.after)) c hidden (program_name g) (inl refl) (e ∙ sym is)

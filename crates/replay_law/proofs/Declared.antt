-- No two declared names of a kind are the same.
use Rattle.std.specs.Prelude.{filter_map}
use Rattle.std.specs.List.{cons_option}
use Rattle.std.proofs.Common.{◌≡◌, inl, inr, true, false, List, [], ◌∷◌, ◌++◌, map, Option, Some, None, refl, ap, sym, subst, ◌∙◌}
use Rattle.syntax_tree.specs.Plain as plain_of
use Rattle.syntax_tree.specs.Plain.{Name}
use Rattle.syntax_tree.specs.Placed.{Member, variable_member, condition_member, Monitor, Decl, constant, device, event, routine, monitor, process, Prog, plain_decl, plain_member}
use Rattle.syntax_tree.specs.declared.place.Place.{Place}
use Rattle.static_names.specs.declared.kind.Declared.{Declared}
use Rattle.static_names.specs.Reach.{Names, first, same}
use Rattle.static_names.specs.Occurrences.{declares, names, entries_at, closes, program_name, decl_name, member_name, entry_name, monitor_scope, monitor_inner}
use Rattle.source_semantics.specs.Names.{condition_in, monitor_in, process_in}
use Rattle.image.specs.declared.names.DeviceName.{DeviceName}
use Rattle.built_image.specs.Named.{named_device}
use Rattle.static_semantics.specs.Places.{NamesFound}
use Rattle.static_semantics.specs.Mirrors.{NamesListed, monitor_site, program_site}
use Rattle.wellformed_law.proofs.Members.{In, in-contains}
use Rattle.wellformed_law.proofs.ProgramScope.{split-in}
use Rattle.built_image_law.proofs.Differ.{Differ, DeclsDiffer, decls_differ, scope_differs}
use Rattle.replay_law.proofs.Differing.{Differing}
use Rattle.static_names.proofs.Scopes.{same-refl}

-- a name is not found to be another than itself
pub twice : (n k : Name) → same n k ≡ false → k ≡ n → ⊥
twice n k other e =
    let here : true ≡ false = sym (same-refl n) ∙ (ap (same n) (sym e) ∙ other) in
    cc

-- ---- declarations

abbrev pub process_called : Decl Place → Option Name
process_called (process p) = Some p.name
process_called _ = None

abbrev pub monitor_called : Decl Place → Option Name
monitor_called (monitor m) = Some m.name
monitor_called _ = None

abbrev pub device_called : Decl Place → Option Name
device_called (device n q out) = Some n
device_called _ = None

-- the name that is picked of a declaration is its own
abbrev pub PicksName : (Decl Place → Option Name) → Type 0
PicksName f = (d : Decl Place) (n : Name) → f d ≡ Some n → (decl_name d).0 ≡ n

-- a declaration of this name is among these
abbrev pub Declares : List (Decl Place) → Name → Type 0
Declares ds n = (d : Decl Place) × (In ds d × ((decl_name d).0 ≡ n))

pub picked_in : (f : Decl Place → Option Name) → PicksName f → (ds : List (Decl Place)) (n : Name) → In (filter_map f ds) n → Declares ds n
picked_in f picks [] n i = absurd i
picked_in f picks (d ∷ ds) n i = by (f d) refl i (λ j. let p = picked_in f picks ds n j in (p.0, (inr p.1.0, p.1.1))) where
  by : (o : Option Name) → f d ≡ o → In (cons_option o (filter_map f ds)) n → (In (filter_map f ds) n → Declares (d ∷ ds) n) → Declares (d ∷ ds) n
  by None is j later = later j
  by (Some x) is (inl same_name) later = (d, (inl refl, picks d x is ∙ same_name))
  by (Some x) is (inr j) later = later j

pub picked_differ : (f : Decl Place → Option Name) → PicksName f → (ds : List (Decl Place)) → DeclsDiffer ds → Differing (filter_map f ds)
picked_differ f picks [] differ = tt
picked_differ f picks (d ∷ ds) differ = by (f d) refl (picked_differ f picks ds differ.1) where
  by : (o : Option Name) → f d ≡ o → Differing (filter_map f ds) → Differing (cons_option o (filter_map f ds))
  by None is rest = rest
  by (Some x) is rest = (
    λ y i e.
        let p = picked_in f picks ds y i in
        twice (decl_name p.0).0 (decl_name d).0 (differ.0 p.0 p.1.0) (picks d x is ∙ (e ∙ sym p.1.1)),
    rest,
  )

-- ---- the names of each kind

pub processes_are : (ds : List (Decl Place)) → map (λ (p : plain_of.Process). p.name) (filter_map process_in (map plain_decl ds)) ≡ filter_map process_called ds
processes_are [] = refl
processes_are (constant n q c ∷ ds) = processes_are ds
processes_are (device n q out ∷ ds) = processes_are ds
processes_are (event n q ∷ ds) = processes_are ds
processes_are (routine r ∷ ds) = processes_are ds
processes_are (monitor m ∷ ds) = processes_are ds
processes_are (process p ∷ ds) = ap (λ l. p.name ∷ l) (processes_are ds)

pub monitors_are : (ds : List (Decl Place)) → map (λ (m : plain_of.Monitor). m.name) (filter_map monitor_in (map plain_decl ds)) ≡ filter_map monitor_called ds
monitors_are [] = refl
monitors_are (constant n q c ∷ ds) = monitors_are ds
monitors_are (device n q out ∷ ds) = monitors_are ds
monitors_are (event n q ∷ ds) = monitors_are ds
monitors_are (routine r ∷ ds) = monitors_are ds
monitors_are (monitor m ∷ ds) = ap (λ l. m.name ∷ l) (monitors_are ds)
monitors_are (process p ∷ ds) = monitors_are ds

pub devices_are : (ds : List (Decl Place)) → map (λ (d : DeviceName). d.name) (filter_map named_device (map plain_decl ds)) ≡ filter_map device_called ds
devices_are [] = refl
devices_are (constant n q c ∷ ds) = devices_are ds
devices_are (device n q out ∷ ds) = ap (λ l. n ∷ l) (devices_are ds)
devices_are (event n q ∷ ds) = devices_are ds
devices_are (routine r ∷ ds) = devices_are ds
devices_are (monitor m ∷ ds) = devices_are ds
devices_are (process p ∷ ds) = devices_are ds

pub process_picked : PicksName process_called
process_picked (process p) n is = cc
process_picked (constant k q c) n is = absurd cc
process_picked (device k q out) n is = absurd cc
process_picked (event k q) n is = absurd cc
process_picked (routine r) n is = absurd cc
process_picked (monitor m) n is = absurd cc

pub monitor_picked : PicksName monitor_called
monitor_picked (monitor m) n is = cc
monitor_picked (constant k q c) n is = absurd cc
monitor_picked (device k q out) n is = absurd cc
monitor_picked (event k q) n is = absurd cc
monitor_picked (routine r) n is = absurd cc
monitor_picked (process p) n is = absurd cc

pub device_picked : PicksName device_called
device_picked (device k q out) n is = cc
device_picked (constant k q c) n is = absurd cc
device_picked (event k q) n is = absurd cc
device_picked (routine r) n is = absurd cc
device_picked (monitor m) n is = absurd cc
device_picked (process p) n is = absurd cc

-- ---- the conditions of a monitor

differ_front : (xs ys : Names) → Differ (xs ++ ys) → Differ xs
differ_front [] ys h = tt
differ_front (x ∷ xs) ys h = (λ e i. h.0 e (front xs e i), differ_front xs ys h.1) where
  front : (zs : Names) (e : Name × Declared) → In zs e → In (zs ++ ys) e
  front [] e i = absurd i
  front (z ∷ zs) e (inl is) = inl is
  front (z ∷ zs) e (inr i) = inr (front zs e i)

pub condition_in_scope : (ms : List (Member Place)) (n : Name) → In (filter_map condition_in (map plain_member ms)) n → (d : Declared) × In (map member_name ms) (n, d)
condition_in_scope [] n i = absurd i
condition_in_scope (variable_member v ∷ ms) n i = let r = condition_in_scope ms n i in (r.0, inr r.1)
condition_in_scope (condition_member k q ∷ ms) n (inl e) = ((member_name (condition_member k q)).1, inl (ap (λ (z : Name). (z, (member_name (condition_member k q)).1)) e))
condition_in_scope (condition_member k q ∷ ms) n (inr i) = let r = condition_in_scope ms n i in (r.0, inr r.1)

members_differ : (ms : List (Member Place)) → Differ (map member_name ms) → Differing (filter_map condition_in (map plain_member ms))
members_differ [] differ = tt
members_differ (variable_member v ∷ ms) differ = members_differ ms differ.1
members_differ (condition_member k q ∷ ms) differ = (
  λ y i e. let r = condition_in_scope ms y i in twice y k (differ.0 (y, r.0) r.1) e,
  members_differ ms differ.1,
)

-- ---- a program

module _ (g : Prog Place) (found : NamesFound g) (listed : NamesListed g) where
  pub declarations : DeclsDiffer g.decls
  declarations =
      decls_differ (λ place. first (entries_at g.decls place)) (program_name g ∷ []) g.decls (closes g.close g.close_place g.name ∷ [])
      (λ n q t i. found.free n q t (in-contains (names g) (declares n q t) (inr i)))

  pub processes_differ : Differing (map (λ (p : plain_of.Process). p.name) (filter_map process_in (map plain_decl g.decls)))
  processes_differ = subst Differing (sym (processes_are g.decls)) (picked_differ process_called process_picked g.decls declarations)

  pub monitors_differ : Differing (map (λ (m : plain_of.Monitor). m.name) (filter_map monitor_in (map plain_decl g.decls)))
  monitors_differ = subst Differing (sym (monitors_are g.decls)) (picked_differ monitor_called monitor_picked g.decls declarations)

  pub devices_differ : Differing (map (λ (d : DeviceName). d.name) (filter_map named_device (map plain_decl g.decls)))
  devices_differ = subst Differing (sym (devices_are g.decls)) (picked_differ device_called device_picked g.decls declarations)

  pub conditions_differ : (m : Monitor Place) → In g.decls (monitor m) → Differing (filter_map condition_in (map plain_member m.members))
  conditions_differ m i =
      let s = split-in g.decls (monitor m) i in
      members_differ m.members
      (differ_front (map member_name m.members) (map entry_name m.entries)
      (scope_differs (program_site g s.before (monitor m ∷ s.after)).means [] (monitor_scope m) (monitor_inner (monitor_site g s.before m s.after) m [])
      (λ n q t j. found.free n q t (listed s.before (monitor m) s.after s.is (declares n q t) (in-contains _ _ j)))))

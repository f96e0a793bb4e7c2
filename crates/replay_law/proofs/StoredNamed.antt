-- The names of an image that is built are in their ranges.
use Rattle.std.proofs.Common.{◌≡◌, ◌≤◌, ◌<◌, ◌+◌, ◌++◌, inl, inr, ℕ, suc, true, List, [], ◌∷◌, length, map, filter_map, arith, refl, ap, sym, subst}
use Rattle.std.specs.Prelude.{All}
use Rattle.std.proofs.lemmas.List.{append-nil}
use Rattle.std.proofs.lemmas.List.Elements.{All-head, All-tail}
use Rattle.syntax_tree.specs.Plain as plain_of
use Rattle.syntax_tree.specs.Plain.{Name, Declaration, Program}
use Rattle.syntax_tree.specs.Placed.{Monitor, Decl, constant, device, event, routine, monitor, process, Prog, plain, plain_decl, plain_member, plain_monitor}
use Rattle.syntax_tree.specs.declared.place.Place.{Place}
use Rattle.source_semantics.specs.Names.{condition_in, conditions_of, device_in, event_in, monitor_in, monitors}
use Rattle.image.specs.declared.names.ConditionName.{ConditionName}
use Rattle.image.specs.declared.names.DeviceName.{DeviceName}
use Rattle.image_format.specs.Format.{each_is}
use Rattle.image_format.proofs.Booleans.{together}
use Rattle.image_reader.specs.Grammar as g
use Rattle.built_image.specs.Named.{named_conditions, named_device}
use Rattle.built_valid_law.proofs.Counts.{named_in}
use Rattle.static_semantics.specs.Places.{NamesFound}
use Rattle.static_semantics.specs.Mirrors.{NamesListed}
use Rattle.wellformed_law.proofs.Members.{In, in-middle}
use Rattle.replay_law.specs.Words.{IsIdentifier, MonitorIsNamed, NamesAreIdentifiers}
use Rattle.replay_law.proofs.Declared.{conditions_differ, devices_are, devices_differ}
use Rattle.replay_law.proofs.Differing.{Differing}
use Rattle.replay_law.proofs.Qualified.{conditions_apart}
use Rattle.replay_law.proofs.StoredDeclared.{condition_no_devices, condition_no_events, condition_no_monitors, condition_no_program, devices_no_program, devices_of, events_are, events_differ, events_no_devices, events_no_program, events_of, monitors_of}
use Rattle.replay_law.proofs.Fresh.{NoneOf, conditions_fit, each_fits, in_either, name_is, none_of_both}
use Rattle.replay_law.proofs.Lists.{all_in, same_map}

named_in_map : {X : Type 0} (label : X → Name) (xs : List X) (x : X) → In xs x → In (map label xs) (label x)
named_in_map label [] x i = absurd i
named_in_map label (y ∷ ys) x (inl e) = inl (ap label e)
named_in_map label (y ∷ ys) x (inr i) = inr (named_in_map label ys x i)

-- ---- devices

device_named : (ds : List Declaration) → All IsIdentifier (filter_map device_in ds) → (d : DeviceName) → In (filter_map named_device ds) d → IsIdentifier d.name
device_named [] all d i = absurd i
device_named (plain_of.constant n c ∷ ds) all d i = device_named ds all d i
device_named (plain_of.device n o ∷ ds) all d (inl e) = subst (λ (x : DeviceName). IsIdentifier x.name) e (All-head IsIdentifier n (filter_map device_in ds) all)
device_named (plain_of.device n o ∷ ds) all d (inr i) = device_named ds (All-tail IsIdentifier n (filter_map device_in ds) all) d i
device_named (plain_of.event n ∷ ds) all d i = device_named ds all d i
device_named (plain_of.routine r ∷ ds) all d i = device_named ds all d i
device_named (plain_of.monitor m ∷ ds) all d i = device_named ds all d i
device_named (plain_of.process p ∷ ds) all d i = device_named ds all d i

-- ---- conditions

of_monitor : (k : ℕ) (ns : List Name) (c : ConditionName) → In (map (named_in k) ns) c → (c.mon ≡ k) × In ns c.name
of_monitor k [] c i = absurd i
of_monitor k (n ∷ ns) c (inl e) = (ap (λ (x : ConditionName). x.mon) (sym e), inl (ap (λ (x : ConditionName). x.name) e))
of_monitor k (n ∷ ns) c (inr i) = let r = of_monitor k ns c i in (r.0, inr r.1)

module _ (Q : Name → Type 0) where
  condition_facts : (k : ℕ) (ds : List (Decl Place)) → ((m : Monitor Place) → In ds (monitor m) → (n : Name) → In (filter_map condition_in (map plain_member m.members)) n → Q n) → (c : ConditionName)
      → In (named_conditions k (filter_map monitor_in (map plain_decl ds))) c → Q c.name × (c.mon < k + length (filter_map monitor_in (map plain_decl ds)))
  condition_facts k [] each c i = absurd i
  condition_facts k (constant n q v ∷ ds) each c i = condition_facts k ds (λ m j. each m (inr j)) c i
  condition_facts k (device n q o ∷ ds) each c i = condition_facts k ds (λ m j. each m (inr j)) c i
  condition_facts k (event n q ∷ ds) each c i = condition_facts k ds (λ m j. each m (inr j)) c i
  condition_facts k (routine r ∷ ds) each c i = condition_facts k ds (λ m j. each m (inr j)) c i
  condition_facts k (process p ∷ ds) each c i = condition_facts k ds (λ m j. each m (inr j)) c i
  condition_facts k (monitor m ∷ ds) each c i =
      elim (in_either (map (named_in k) (filter_map condition_in (map plain_member m.members))) (named_conditions (suc k) (filter_map monitor_in (map plain_decl ds))) c i) [
        | inl here ↦ (let r = of_monitor k (filter_map condition_in (map plain_member m.members)) c here in let at = r.0 in (each m (inl refl) c.name r.1, omega (arith, at)))
        | inr later ↦ (let r = condition_facts (suc k) ds (λ n j. each n (inr j)) c later in let low = r.1 in (r.0, omega (arith, low)))
      ]

monitor_in_plain : (ds : List (Decl Place)) (m : Monitor Place) → In ds (monitor m) → In (filter_map monitor_in (map plain_decl ds)) (plain_monitor m)
monitor_in_plain [] m i = absurd i
monitor_in_plain (constant n q v ∷ ds) m (inl e) = absurd cc
monitor_in_plain (constant n q v ∷ ds) m (inr i) = monitor_in_plain ds m i
monitor_in_plain (device n q o ∷ ds) m (inl e) = absurd cc
monitor_in_plain (device n q o ∷ ds) m (inr i) = monitor_in_plain ds m i
monitor_in_plain (event n q ∷ ds) m (inl e) = absurd cc
monitor_in_plain (event n q ∷ ds) m (inr i) = monitor_in_plain ds m i
monitor_in_plain (routine r ∷ ds) m (inl e) = absurd cc
monitor_in_plain (routine r ∷ ds) m (inr i) = monitor_in_plain ds m i
monitor_in_plain (process p ∷ ds) m (inl e) = absurd cc
monitor_in_plain (process p ∷ ds) m (inr i) = monitor_in_plain ds m i
monitor_in_plain (monitor x ∷ ds) m (inl e) = let same : x ≡ m = cc in inl (ap plain_monitor same)
monitor_in_plain (monitor x ∷ ds) m (inr i) = inr (monitor_in_plain ds m i)

-- ---- a program

module _ (g' : Prog Place) (found : NamesFound g') (listed : NamesListed g') (ids : NamesAreIdentifiers (plain g')) where
  abbrev p : Program
  p = plain g'

  abbrev pub devices : List DeviceName
  devices = filter_map named_device p.decls

  abbrev pub events : List Name
  events = filter_map event_in p.decls

  abbrev pub before_events : List Name
  before_events = (p.name ∷ []) ++ map (λ (d : DeviceName). d.name) devices

  abbrev pub before_monitors : List Name
  before_monitors = before_events ++ events

  -- none of the program's name, the devices and the events
  pub first_three : (n : Name) → NoneOf n (p.name ∷ []) → NoneOf n (devices_of g') → NoneOf n (events_of g') → NoneOf n before_monitors
  first_three n program of_devices of_events =
      none_of_both n before_events events
      (none_of_both n (p.name ∷ []) (map (λ (d : DeviceName). d.name) devices) program (subst (λ (ns : List Name). NoneOf n ns) (sym (devices_are g'.decls)) of_devices))
      (subst (λ (ns : List Name). NoneOf n ns) (sym (events_are g'.decls)) of_events)

  pub program_fits : (g.name_format []).is p.name ≡ true
  program_fits = name_is [] p.name ids.of_program (λ t i. absurd i)

  pub devices_fit : each_is (λ earlier. g.device_format ((p.name ∷ []) ++ map (λ (d : DeviceName). d.name) earlier)) [] (length devices) devices ≡ true
  devices_fit =
      each_fits (λ earlier. g.device_format ((p.name ∷ []) ++ map (λ (d : DeviceName). d.name) earlier)) (λ (d : DeviceName). d.name) (p.name ∷ []) devices
      (λ earlier d later is none. together ((g.name_format ((p.name ∷ []) ++ map (λ (d : DeviceName). d.name) earlier)).is d.name) true
      (name_is ((p.name ∷ []) ++ map (λ (d : DeviceName). d.name) earlier) d.name (device_named p.decls ids.of_devices d (subst (λ (ds : List DeviceName). In ds d) (sym is) (in-middle earlier d later))) none) refl)
      [] devices refl (λ d i. devices_no_program g' found listed d.name (subst (λ (ns : List Name). In ns d.name) (devices_are g'.decls) (named_in_map (λ (d : DeviceName). d.name) devices d i)))
      (devices_differ g' found listed)

  event_new : (n : Name) → In events n → NoneOf n before_events
  event_new n i =
      let there : In (events_of g') n = subst (λ (ns : List Name). In ns n) (events_are g'.decls) i in
      none_of_both n (p.name ∷ []) (map (λ (d : DeviceName). d.name) devices) (events_no_program g' found listed n there)
      (subst (λ (ns : List Name). NoneOf n ns) (sym (devices_are g'.decls)) (events_no_devices g' found listed n there))

  pub events_fit : each_is (λ earlier. g.name_format (before_events ++ earlier)) [] (length events) events ≡ true
  events_fit =
      each_fits (λ earlier. g.name_format (before_events ++ earlier)) (λ (n : Name). n) before_events events
      (λ earlier n later is none. name_is (before_events ++ earlier) n (all_in IsIdentifier events n ids.of_events (subst (λ (ns : List Name). In ns n) (sym is) (in-middle earlier n later)))
      (subst (λ (ns : List Name). NoneOf n (before_events ++ ns)) (same_map (λ (x : Name). x) (λ x. refl) earlier) none))
      [] events refl (λ n i. subst (λ (ns : List Name). NoneOf n ns) (sym (append-nil before_events)) (event_new n i))
      (subst (λ (ns : List Name). Differing ns) (sym (same_map (λ (x : Name). x) (λ x. refl) events)) (subst (λ (ns : List Name). Differing ns) (sym (events_are g'.decls)) (events_differ g' found listed)))

  pub conditions_are : (taken : List Name) → taken ≡ before_monitors ++ monitors_of g' → (count : ℕ) → count ≡ length (monitors p) → count ≤ 64
      → each_is (g.condition_format taken count) [] (length (named_conditions 0 (monitors p))) (named_conditions 0 (monitors p)) ≡ true
  conditions_are taken are count many few =
      conditions_fit taken count [] (named_conditions 0 (monitors p)) few
      (λ c i.
      let facts = condition_facts (λ n. IsIdentifier n × NoneOf n taken) 0 g'.decls (λ m j n has. (
        all_in IsIdentifier (conditions_of (plain_monitor m)) n (all_in MonitorIsNamed (monitors p) (plain_monitor m) ids.of_monitors (monitor_in_plain g'.decls m j)).conditions has,
        subst (λ (ns : List Name). NoneOf n ns) (sym are)
            (none_of_both n before_monitors (monitors_of g') (first_three n (condition_no_program g' found listed m j n has) (condition_no_devices g' found listed m j n has) (condition_no_events g' found listed m j n has)) (condition_no_monitors g' found listed m j n has)),
      )) c i in
      let low = facts.1 in
      (facts.0.0, facts.0.1, omega (arith, low, many)))
      (λ c i e j mon name. absurd j) (conditions_apart 0 g'.decls (conditions_differ g' found listed))

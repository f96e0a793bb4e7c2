-- The fields of the image that is built of a program are in their ranges.
use Rattle.std.proofs.Common.{◌≡◌, ◌≤◌, ◌<◌, ◌+◌, ◌++◌, ◌&&◌, ◌∙◌, ◌⊎◌, inl, inr, ℕ, zero, suc, true, ℤ, pos, negsuc, List, [], ◌∷◌, length, map, filter_map, bytes_eq, Option, Some, None, arith, refl, ap, sym, subst}
use Rattle.std.specs.Prelude.{All, Contains, int_le, nat_eq, slice_get, sum_by}
use Rattle.std.specs.List.{list_any, zip}
use Rattle.std.proofs.lemmas.Bool.{and_parts, leb-true}
use Rattle.std.proofs.lemmas.List.{append-nil, length-map}
use Rattle.std.proofs.lemmas.List.Elements.{All-head, All-tail}
use Rattle.std.proofs.lemmas.List.Sums.{sum_by-cons}
use Rattle.std.proofs.lemmas.Option.{get_or_from_slice_get, slice_get_within}
use Rattle.base.proofs.Lists.{one_some, some_at}
use Rattle.base.specs.Words.{within}
use Rattle.machine_isa.specs.Bytes.{HasWords}
use Rattle.syntax_tree.specs.Plain as plain_of
use Rattle.syntax_tree.specs.Plain.{Constant, Name, Trigger, periodic, at_event, event, Program}
use Rattle.syntax_tree.specs.Placed.{Prog, plain}
use Rattle.syntax_tree.specs.declared.place.Place.{Place}
use Rattle.source_semantics.specs.Names.{as_count, constant_value, event_in, event_number, monitors, processes}
use Rattle.source_semantics.specs.Starts.{first_of}
use Rattle.machine_semantics.specs.Image.{Image, Monitor, Process}
use Rattle.machine_semantics.specs.Run.{words_of}
use Rattle.image.specs.Bytes.{Second}
use Rattle.image_format.specs.Format.{u16, u32}
use Rattle.image_format.specs.TreeFormat.{u16_within, u32_within}
use Rattle.image_format.proofs.Booleans.{together}
use Rattle.image_reader.specs.declared.counts.Counts.{Counts}
use Rattle.image_reader.specs.Grammar as g
use Rattle.image_reader.specs.File as f
use Rattle.image_reader.proofs.Zips.{firsts}
use Rattle.valid_image.specs.Times.{ceiling_of, least_rank}
use Rattle.valid_image.specs.Valid.{HasLimits, IsValid, Sizes}
use Rattle.valid_image_law.proofs.Passing.{bases_fit}
use Rattle.built_image.specs.Named.{named_conditions, named_device, named_event}
use Rattle.built_image_law.proofs.Texts.{Emitted, emitted}
use Rattle.built_valid_law.proofs.Counts.{Counted}
use Rattle.codegen_law.proofs.NameNumbers.{name_is, name_same}
use Rattle.codegen_law.specs.Numbered.{AreNumbered}
use Rattle.code_cost.specs.Rules.{routine_stack, placed_texts_from}
use Rattle.code_spec.specs.Compiled.{IsReleased}
use Rattle.code_spec.specs.Layout.{routine_words}
use Rattle.code_spec.specs.Numbering as numbering
use Rattle.code_cost_spec.specs.Heights.{routine_height}
use Rattle.code_cost_spec.specs.Levels.{calls_of}
use Rattle.syntax_tree.specs.Placed.{plain_routine}
use Rattle.built_image_law.specs.Ready.{IsImageMade}
use Rattle.built_image_law.specs.Small.{KeepsSizes}
use Rattle.built_image_law.proofs.SmallLemmas.{not_over}
use Rattle.built_image_law.proofs.CheckedTexts.{IsPlainOf, plain_of_placed}
use Rattle.front_end.specs.Source.{IsTreeOf}
use Rattle.static_semantics.specs.Places.{NamesFound}
use Rattle.static_semantics.specs.Mirrors.{NamesListed}
use Rattle.static_semantics.specs.WellFormed.{ActivationFits, FirstFits, IsWellFormed, ProcessFits, is_event_of}
use Rattle.wellformed_law.proofs.Members.{In, in-middle}
use Rattle.replay_law.specs.Words.{IsIdentifier, MonitorIsNamed, NamesAreIdentifiers}
use Rattle.replay_law.proofs.Declared.{monitors_are, monitors_differ, processes_are, processes_differ}
use Rattle.replay_law.proofs.Differing.{Differing}
use Rattle.image_reader_law.proofs.Fitting.{Fits}
use Rattle.replay_law.proofs.StoredDeclared.{events_are, events_differ, monitors_no_devices, monitors_no_events, monitors_no_program, monitors_of, processes_no_devices, processes_no_events, processes_no_monitors, processes_no_program, processes_of}
use Rattle.replay_law.proofs.Events.{among, declares, event_at, one_hit, one_place, some_hit}
use Rattle.replay_law.proofs.Fresh.{NoneOf, each_fits, none_of_both}
use Rattle.replay_law.proofs.Fresh as fresh
use Rattle.replay_law.proofs.Instructions.{code_is}
use Rattle.replay_law.proofs.Levels.{TextFits, process_nests, text_fits}
use Rattle.replay_law.proofs.Lists.{all_used, each_alike, front_get, middle_get, none_used, one_used, zip_long, zip_second, zip_there}
use Rattle.replay_law.proofs.StoredNamed.{conditions_are, devices_fit, events_fit, first_three, program_fits}
use Rattle.replay_law.proofs.Numbers.{long_fits, long_within, short_fits, short_within}
use Rattle.replay_law.proofs.Processes.{Released, of_event, of_period, process_is}
use Rattle.replay_law.proofs.Routines.{Laid, laid, routine_is}

-- ---- numbers

most_of : (v : ℤ) → within (pos 0) (pos 1000000000) v ≡ true → as_count v ≤ 1000000000
most_of (pos n) h = leb-true n 1000000000 (and_parts (int_le (pos 0) (pos n)) (int_le (pos n) (pos 1000000000)) h).1
most_of (negsuc n) h = omega arith

first_low : (p : Program) (o : Option Constant) → FirstFits p o → first_of p o ≤ 1000000000
first_low p None h = omega arith
first_low p (Some c) h = most_of (constant_value p c) h.limits

least_most : (m : Image) (j n : ℕ) → least_rank m j n ≤ 65535
least_most m j zero = omega arith
least_most m j (suc n) = let rest = least_most m j n in omega (arith, rest)

words_summed : (ms : List Monitor) → words_of ms ≡ sum_by (λ (x : Monitor). x.words) ms
words_summed [] = refl
words_summed (m ∷ ms) =
    let rest = words_summed ms in
    let more : sum_by (λ (x : Monitor). x.words) (m ∷ ms) ≡ m.words + sum_by (λ (x : Monitor). x.words) ms = sum_by-cons (λ (x : Monitor). x.words) m ms in
    omega (arith, rest, more)

mapped_all : {X : Type 0} (P : Name → Type 0) (label : X → Name) (xs : List X) → All (λ (x : X). P (label x)) xs → (n : Name) → In (map label xs) n → P n
mapped_all P label [] all n i = absurd i
mapped_all {X} P label (x ∷ xs) all n (inl e) = subst P e (All-head (λ (y : X). P (label y)) x xs all)
mapped_all {X} P label (x ∷ xs) all n (inr i) = mapped_all P label xs (All-tail (λ (y : X). P (label y)) x xs all) n i

monitor_names : (ms : List plain_of.Monitor) → All MonitorIsNamed ms → (n : Name) → In (map (λ (x : plain_of.Monitor). x.name) ms) n → IsIdentifier n
monitor_names [] all n i = absurd i
monitor_names (x ∷ xs) all n (inl e) = subst IsIdentifier e (All-head MonitorIsNamed x xs all).name
monitor_names (x ∷ xs) all n (inr i) = monitor_names xs (All-tail MonitorIsNamed x xs all) n i

first_in : {Y : Type 0} (xs : List (Name × Y)) (x : Name × Y) → In xs x → In (map (λ (z : Name × Y). z.0) xs) x.0
first_in [] x i = absurd i
first_in (y ∷ ys) x (inl e) = inl (ap (λ (z : _). z.0) e)
first_in (y ∷ ys) x (inr i) = inr (first_in ys x i)

-- ---- processes of a well-formed program

pub process_fits : (p : Program) → IsWellFormed p → (k : ℕ) (t : plain_of.Process) → slice_get (processes p) k ≡ Some t → ProcessFits p t
process_fits p formed k t there = subst (ProcessFits p) (get_or_from_slice_get (processes p) k t t there) (formed.processes_fit k t (slice_get_within (processes p) k t there))

pub activation_fits_of : (p : Program) → IsWellFormed p → (k : ℕ) (t : plain_of.Process) → slice_get (processes p) k ≡ Some t → ActivationFits p t.activation
activation_fits_of p formed k t there = (process_fits p formed k t there).activation

-- ---- the parts

abbrev pub parts_of : Program → Image → f.Parts
parts_of p m = record {
  over = m.over;
  program = p.name;
  devices = filter_map named_device p.decls;
  events = filter_map event_in p.decls;
  monitors = zip (map (λ (x : plain_of.Monitor). x.name) (monitors p)) m.monitors;
  conditions = named_conditions 0 (monitors p);
  routines = m.routines;
  processes = zip (map (λ (x : plain_of.Process). x.name) (processes p)) m.processes;
  code = m.code;
}

module _ (text : List ℕ) (g' : Prog Place) (m : Image) (tree : IsTreeOf text g') (keeps : KeepsSizes g') (found : NamesFound g') (listed : NamesListed g') (ids : NamesAreIdentifiers (plain g')) (formed : IsWellFormed (plain g')) (numbered : AreNumbered (plain g'))
    (made : IsImageMade (plain g') m) (limits : HasLimits m) (valid : IsValid m) (short : length m.code ≤ 65535) (counted : Counted (plain g') m) (words : All HasWords m.code) (over : m.over ≤ 1000) where
  abbrev p : Program
  p = plain g'

  abbrev parts : f.Parts
  parts = parts_of p m

  abbrev counts : Counts
  counts = f.counts_of parts

  abbrev monitor_names_of : List Name
  monitor_names_of = map (λ (x : plain_of.Monitor). x.name) (monitors p)

  abbrev process_names_of : List Name
  process_names_of = map (λ (x : plain_of.Process). x.name) (processes p)

  monitors_named : length monitor_names_of ≡ length m.monitors
  monitors_named = omega (arith, length-map (monitors p) (λ (x : plain_of.Monitor). x.name), counted.monitors_are)

  processes_named : length process_names_of ≡ length m.processes
  processes_named = omega (arith, length-map (processes p) (λ (x : plain_of.Process). x.name), counted.processes_are)

  monitors_counted : counts.monitors ≡ length m.monitors
  monitors_counted = zip_long monitor_names_of m.monitors monitors_named

  processes_counted : counts.processes ≡ length m.processes
  processes_counted = zip_long process_names_of m.processes processes_named

  few_monitors : counts.monitors ≤ 64
  few_monitors = omega (arith, monitors_counted, counted.few_monitors)

  few_processes : counts.processes ≤ 64
  few_processes = omega (arith, processes_counted, counted.few_processes)

  few_events : counts.events ≤ 64
  few_events = let long = length-map (filter_map event_in p.decls) (λ (e : Name). named_event p e) in omega (arith, long, counted.events)

  counts_are : g.counts_format.is counts ≡ true
  counts_are =
      let ms = (u16_within 0 64).is counts.monitors in
      let cs = (u16_within 0 256).is counts.conditions in
      let ds = (u16_within 0 64).is counts.devices in
      let es = (u16_within 0 64).is counts.events in
      let rs = (u16_within 0 512).is counts.routines in
      let code = (u32_within 0 65535).is counts.code in
      together ((u16_within 1 64).is counts.processes) (ms && (cs && (ds && (es && (rs && code))))) (short_within 1 64 counts.processes (let some = limits.some in omega (arith, some, processes_counted)) few_processes (omega arith))
      (together ms (cs && (ds && (es && (rs && code)))) (short_within 0 64 counts.monitors (omega arith) few_monitors (omega arith))
      (together cs (ds && (es && (rs && code))) (short_within 0 256 counts.conditions (omega arith) (omega (arith, counted.condition_names, counted.conditions)) (omega arith))
      (together ds (es && (rs && code)) (short_within 0 64 counts.devices (omega arith) (omega (arith, counted.device_names, counted.devices)) (omega arith))
      (together es (rs && code) (short_within 0 64 counts.events (omega arith) few_events (omega arith))
      (together rs code (short_within 0 512 counts.routines (omega arith) counted.routines (omega arith)) (long_within 0 65535 counts.code (omega arith) short (omega arith)))))))

  -- ---- monitors and conditions

  abbrev before_monitors : List Name
  before_monitors = f.with_devices (p.name ∷ []) parts.devices ++ parts.events

  monitor_firsts : map (λ (x : Name × Monitor). x.0) parts.monitors ≡ monitor_names_of
  monitor_firsts = firsts monitor_names_of m.monitors monitors_named

  monitors_there : map (λ (x : Name × Monitor). x.0) parts.monitors ≡ monitors_of g'
  monitors_there = monitor_firsts ∙ monitors_are g'.decls

  monitor_is : (k : ℕ) (x : Monitor) → slice_get m.monitors k ≡ Some x → g.monitor_format.is x ≡ true
  monitor_is k x at =
      let base = bases_fit m (valid Sizes) k x at in
      let all = made.few_words in
      let summed = words_summed m.monitors in
      let ceiling : x.ceiling ≡ ceiling_of m k = made.ranks.ceilings k x at in
      let most = least_most m k (length m.processes) in
      together (u32.is x.base) (u32.is x.words && u16.is x.ceiling) (long_fits x.base (omega (arith, base, all, summed)))
      (together (u32.is x.words) (u16.is x.ceiling) (long_fits x.words (omega (arith, base, all, summed))) (short_fits x.ceiling (omega (arith, ceiling, most))))

  monitors_fit : (f.monitors_format counts before_monitors).is parts.monitors ≡ true
  monitors_fit =
      each_fits (λ earlier. g.named_monitor_format (before_monitors ++ map (λ (x : Name × Monitor). x.0) earlier)) (λ (x : Name × Monitor). x.0) before_monitors parts.monitors
      (λ earlier x later is none.
      let taken = before_monitors ++ map (λ (z : Name × Monitor). z.0) earlier in
      let i : In parts.monitors x = subst (λ (xs : List (Name × Monitor)). In xs x) (sym is) (in-middle earlier x later) in
      let id : IsIdentifier x.0 = monitor_names (monitors p) ids.of_monitors x.0 (subst (λ (ns : List Name). In ns x.0) monitor_firsts (first_in parts.monitors x i)) in
      let at : slice_get m.monitors (length earlier) ≡ Some x.1 = zip_second monitor_names_of m.monitors (length earlier) x (ap (λ (xs : List (Name × Monitor)). slice_get xs (length earlier)) is ∙ middle_get earlier x later) in
      together ((g.name_format taken).is x.0) (g.monitor_format.is x.1) (fresh.name_is taken x.0 id none) (monitor_is (length earlier) x.1 at))
      [] parts.monitors refl
      (λ x i.
      let there : In (monitors_of g') x.0 = subst (λ (ns : List Name). In ns x.0) monitors_there (first_in parts.monitors x i) in
      subst (λ (ns : List Name). NoneOf x.0 ns) (sym (append-nil before_monitors))
      (first_three g' found listed ids x.0 (monitors_no_program g' found listed x.0 there) (monitors_no_devices g' found listed x.0 there) (monitors_no_events g' found listed x.0 there)))
      (subst (λ (ns : List Name). Differing ns) (sym monitor_firsts) (monitors_differ g' found listed))

  abbrev taken_names : List Name
  taken_names = f.with_monitors before_monitors parts.monitors

  conditions_fit : (f.conditions_format counts taken_names).is parts.conditions ≡ true
  conditions_fit =
      conditions_are g' found listed ids taken_names (ap (λ (ns : List Name). before_monitors ++ ns) monitors_there) counts.monitors (omega (arith, monitors_counted, counted.monitors_are)) few_monitors

  -- ---- routines

  words_low : (t : numbering.Text) → IsPlainOf (placed_texts_from 0 0 g'.decls) t → routine_words p t.routine ≤ 4096
  words_low t is =
      let words = routine_words p (plain_routine is.text.routine) in
      let height = routine_height p is.text.owner (calls_of p) (plain_routine is.text.routine) in
      let most : words + height ≤ 4096 = not_over 4096 (routine_stack p is.text.owner (plain_routine is.text.routine))
      (λ over. keeps 47 is.text.routine.place (inr (refl, inl (record { text = is.text; listed = is.listed; is = refl; over = over })))) in
      subst (λ (u : numbering.Text). routine_words p u.routine ≤ 4096) is.is (omega (arith, most))

  routines_fit : (f.routines_format counts).is parts.routines ≡ true
  routines_fit = each_alike (g.routine_format counts) [] m.routines (λ r x at.
      (let l : Laid p (numbering.numbered p) r x = laid p m.code 0 made.code.between (numbering.numbered p) m.routines made.code.routine_code r x at in
      let there : Contains (numbering.texts_from 0 0 p.decls) l.text = numbered.listed r l.text l.there in
      let fits : TextFits counts.processes counts.monitors l.text =
      subst (λ (k : ℕ). TextFits k counts.monitors l.text) (let e : length (processes p) ≡ counts.processes = omega (arith, processes_counted, counted.processes_are) in e)
      (subst (λ (k : ℕ). TextFits (length (processes p)) k l.text) (let e : length (monitors p) ≡ counts.monitors = omega (arith, monitors_counted, counted.monitors_are) in e) (text_fits text g' tree l.text there)) in
      routine_is p m limits valid short counts counted.routines few_processes few_monitors monitors_counted r x l.text at l.is fits (made.declares.routines r l.text x l.there at) (words_low l.text (plain_of_placed g'.decls l.text there))))

  -- ---- processes

  activation_fits : (k : ℕ) (t : plain_of.Process) → slice_get (processes p) k ≡ Some t → ProcessFits p t
  activation_fits k t there = process_fits p formed k t there

  text_at : (k : ℕ) (x : Process) → slice_get m.processes k ≡ Some x → Emitted p m.code (processes p) k x
  text_at k x at = emitted p m.code 0 made.code.between (length m.code) (processes p) m.processes made.code.process_code k x at

  differ : Differing (filter_map event_in p.decls)
  differ = subst (λ (ns : List Name). Differing ns) (sym (events_are g'.decls)) (events_differ g' found listed)

  -- the event that releases a process
  tests_own : (n n' : Name) → n' ≡ n → bytes_eq n' n ≡ true
  tests_own n n' e = ap (λ (x : Name). bytes_eq x n) e ∙ name_is n

  other_event : (j k : ℕ) (x y : Process) (e : Emitted p m.code (processes p) k x) (u : Emitted p m.code (processes p) j y) (n : Name) → j < k → Contains p.decls (event n) → is_event_of n e.text.activation ≡ true → x.event ≡ event_number p n
      → (a : Trigger) → u.text.activation ≡ a → IsReleased p a y → ActivationFits p a → (y.kind ≡ 0) ⊎ (y.event ≡ x.event → ⊥)
  other_event j k x y e u n low there own is (periodic frame deadline first) act released fits = inl released.0
  other_event j k x y e u n low there own is (at_event n' frame deadline) act released fits = inr (λ same.
      (let same_place : event_number p n' ≡ event_number p n = sym released.2 ∙ (same ∙ is) in
      let one : n' ≡ n = one_some (event_at p differ n' fits.0) (ap (λ (i : ℕ). slice_get (filter_map event_in p.decls) i) same_place ∙ event_at p differ n there) in
      let hit : is_event_of n u.text.activation ≡ true = ap (λ (z : Trigger). is_event_of n z) act ∙ tests_own n n' one in
      one_hit p differ n (processes p) j k u.text e.text (formed.events_fit n there) low u.there e.there hit own))

  released_at : (earlier : List (Name × Process)) (x : Name × Process) (later : List (Name × Process)) → parts.processes ≡ earlier ++ x ∷ later → (e : Emitted p m.code (processes p) (length earlier) x.1) → (a : Trigger) → e.text.activation ≡ a
      → IsReleased p a x.1 → ActivationFits p a → Released counts.events (f.used_by earlier) x.1
  released_at earlier x later is e (periodic frame deadline first) act released fits =
      let low = first_low p first fits.2 in
      of_period counts.events (f.used_by earlier) x.1 released.0 (let own = released.1 in omega (arith, own, low)) released.2
  released_at earlier x later is e (at_event n frame deadline) act released fits =
      let place = event_at p differ n fits.0 in
      let within : event_number p n < length (filter_map event_in p.decls) = slice_get_within (filter_map event_in p.decls) (event_number p n) n place in
      let own : is_event_of n e.text.activation ≡ true = ap (λ (z : Trigger). is_event_of n z) act ∙ name_is n in
      of_event counts.events (f.used_by earlier) x.1 few_events released.0 released.1 (let at = released.2 in omega (arith, at, within))
      (none_used x.1.event earlier (λ j y there.
      (let at : slice_get m.processes j ≡ Some y.1 = zip_second process_names_of m.processes j y (ap (λ (xs : List (Name × Process)). slice_get xs j) is ∙ front_get earlier (x ∷ later) j y there) in
      let u = text_at j y.1 at in
      other_event j (length earlier) x.1 y.1 e u n (slice_get_within earlier j y there) fits.0 own released.2 u.text.activation refl u.emits.released (activation_fits j u.text u.there).activation)))

  process_firsts : map (λ (x : Name × Process). x.0) parts.processes ≡ process_names_of
  process_firsts = firsts process_names_of m.processes processes_named

  processes_there : map (λ (x : Name × Process). x.0) parts.processes ≡ processes_of g'
  processes_there = process_firsts ∙ processes_are g'.decls

  processes_fit : (f.processes_format Second counts taken_names).is parts.processes ≡ true
  processes_fit =
      each_fits (λ earlier. g.named_process_format Second counts (taken_names ++ map (λ (x : Name × Process). x.0) earlier) (f.used_by earlier)) (λ (x : Name × Process). x.0) taken_names parts.processes
      (λ earlier x later is none.
      let taken = taken_names ++ map (λ (z : Name × Process). z.0) earlier in
      let k = length earlier in
      let i : In parts.processes x = subst (λ (xs : List (Name × Process)). In xs x) (sym is) (in-middle earlier x later) in
      let id : IsIdentifier x.0 = mapped_all IsIdentifier (λ (t : plain_of.Process). t.name) (processes p) ids.of_processes x.0 (subst (λ (ns : List Name). In ns x.0) process_firsts (first_in parts.processes x i)) in
      let at : slice_get m.processes k ≡ Some x.1 = zip_second process_names_of m.processes k x (ap (λ (xs : List (Name × Process)). slice_get xs k) is ∙ middle_get earlier x later) in
      let e = text_at k x.1 at in
      let fits = activation_fits k e.text e.there in
      together ((g.name_format taken).is x.0) ((g.process_format Second counts (f.used_by earlier)).is x.1) (fresh.name_is taken x.0 id none)
      (process_is p m limits valid short counted.routines counts (f.used_by earlier) k e.number x.1 e.text (e.emits.behind + 1) e.next at e.emits.handler fits.handler (process_nests text g' tree k e.text e.there) e.emits.tree made.few_words
      (made.bounds k x.1 at).timely (released_at earlier x later is e e.text.activation refl e.emits.released fits.activation)))
      [] parts.processes refl
      (λ x i.
      let there : In (processes_of g') x.0 = subst (λ (ns : List Name). In ns x.0) processes_there (first_in parts.processes x i) in
      subst (λ (ns : List Name). NoneOf x.0 ns) (sym (append-nil taken_names))
      (none_of_both x.0 before_monitors (map (λ (z : Name × Monitor). z.0) parts.monitors)
      (first_three g' found listed ids x.0 (processes_no_program g' found listed x.0 there) (processes_no_devices g' found listed x.0 there) (processes_no_events g' found listed x.0 there))
      (subst (λ (ns : List Name). NoneOf x.0 ns) (sym monitors_there) (processes_no_monitors g' found listed x.0 there))))
      (subst (λ (ns : List Name). Differing ns) (sym process_firsts) (processes_differ g' found listed))

  -- ---- code

  hit_is : (n : Name) (i : ℕ) (k : ℕ) (x : Process) → slice_get (filter_map event_in p.decls) i ≡ Some n → (a : Trigger) → is_event_of n a ≡ true → IsReleased p a x → ActivationFits p a → (x.kind ≡ 1) × (x.event ≡ i)
  hit_is n i k x here (periodic frame deadline first) hit released fits = absurd cc
  hit_is n i k x here (at_event n' frame deadline) hit released fits =
      let place : slice_get (filter_map event_in p.decls) x.event ≡ Some n = ap (λ (j : ℕ). slice_get (filter_map event_in p.decls) j) released.2 ∙ (event_at p differ n' fits.0 ∙ ap (λ (z : Name). Some z) (name_same n' n hit)) in
      (released.0, one_place (filter_map event_in p.decls) differ x.event i n place here)

  event_used : (i : ℕ) → i < length (filter_map event_in p.decls) → list_any (λ e. nat_eq e (0 + i)) (f.used_by parts.processes) ≡ true
  event_used i low =
      let n = some_at (filter_map event_in p.decls) i low in
      let there : Contains p.decls (event n.0) = declares n.0 p.decls (among (filter_map event_in p.decls) i n.0 n.1) in
      let h = some_hit p differ n.0 (processes p) (formed.events_fit n.0 there) in
      let x = some_at m.processes h.0 (let within = slice_get_within (processes p) h.0 h.1 h.2 in omega (arith, within, counted.processes_are)) in
      let e = text_at h.0 x.0 x.1 in
      let same : h.1 ≡ e.text = one_some {x = h.1} {y = e.text} h.2 e.there in
      let hit : is_event_of n.0 e.text.activation ≡ true = subst (λ (t : plain_of.Process). is_event_of n.0 t.activation ≡ true) same h.3 in
      let own = hit_is n.0 i h.0 x.0 n.1 e.text.activation hit e.emits.released (activation_fits h.0 e.text e.there).activation in
      let pair = zip_there process_names_of m.processes h.0 x.0 processes_named x.1 in
      one_used (0 + i) parts.processes h.0 (pair.0, x.0) pair.1 own.0 (let at = own.1 in omega (arith, at))

  code_fits : (f.code_format (f.all_used (f.used_by parts.processes) 0 (length parts.events)) (length parts.code)).is parts.code ≡ true
  code_fits =
      subst (λ b. (f.code_format b (length m.code)).is m.code ≡ true) (sym (all_used (f.used_by parts.processes) 0 (length parts.events) event_used)) (code_is [] m.code words)

  pub fits : Fits Second parts
  fits = record {
    over = short_within 0 1000 m.over (omega arith) over (omega arith);
    counts = counts_are;
    program = program_fits g' found listed ids;
    devices = devices_fit g' found listed ids;
    events = events_fit g' found listed ids;
    monitors = monitors_fit;
    conditions = conditions_fit;
    routines = routines_fit;
    processes = processes_fit;
    code = code_fits;
  }

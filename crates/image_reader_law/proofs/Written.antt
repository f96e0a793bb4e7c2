-- An image that a file holds can be written.
use Rattle.std.proofs.Common.{◌≡◌, ◌≤◌, ◌<◌, ◌^◌, ◌++◌, ◌-◌, ◌+◌, ℕ, zero, suc, Bool, true, false, List, [], ◌∷◌, length, Ok, Err, Option, Some, None, refl, sym, ap, ◌∙◌, subst, arith}
use Rattle.std.specs.Cmp.Lexicographic.{pointwise}
use Rattle.std.specs.Prelude.{◌||◌, ◌==◌, nat_eq, nat_lt, map, codes, if◌then◌else◌}
use Rattle.std.specs.List.{All}
use Rattle.std.proofs.lemmas.List.{length-map}
use Rattle.std.proofs.lemmas.Bool.Decides.{nat_tests}
use Rattle.machine_isa.specs.declared.instr.Instr.{Instr}
use Rattle.machine_semantics.specs.Image.{Image, Monitor, Routine, Process}
use Rattle.machine_semantics.specs.Trees.{Segs}
use Rattle.image_format.specs.TreeBytes.{segments}
use Rattle.image.specs.Bytes.{Version, First, Second}
use Rattle.image.specs.InRange.{IsShort, IsSmall, IsSmallHandler, IsProcessInRange, AreNamed, AreCounted, IsInRange}
use Rattle.image.specs.Named.{NamedImage}
use Rattle.image.specs.Raw.{named_of}
use Rattle.image.specs.declared.raw.RawImage.{RawImage}
use Rattle.image.specs.declared.names.ConditionName.{ConditionName}
use Rattle.image.specs.declared.names.DeviceName.{DeviceName}
use Rattle.image.specs.declared.names.EventName.{EventName}
use Rattle.image_reader.specs.declared.counts.Counts.{Counts}
use Rattle.image_reader.specs.Answer.{Holds, parts_of}
use Rattle.image_format.specs.Format.{Format, fault, u16, bytes_as_are, unless, checked, both, via, each}
use Rattle.image_format.specs.TreeFormat.{u16_within}
use Rattle.image_reader.specs.Grammar as g
use Rattle.image_reader.specs.File as f
use Rattle.image_format.proofs.Sound.{came}
use Rattle.image_reader_law.specs.ImageRanges.{ImagesReadCanBeWritten}
use Rattle.image_reader_law.proofs.Brings.{Brings, Any, weaker, u16_brings, bytes_brings, given_brings, checked_any, both_brings, then_brings, via_brings, u16_brings_within, All-none, All-more, Each, each_brings}
use Rattle.image_reader_law.proofs.Parts.{IsShortName, IsSmallTree, IsProcessFit, AreFew, name_brings, device_brings, named_monitor_brings, condition_brings, counts_brings, routine_brings, named_process_brings, instr_brings}
use Rattle.image_reader_law.proofs.ImageSoundFiles.{ended_is}
use Rattle.image_reader_law.proofs.ImageSoundWhole.{framed_long}
use Rattle.image_reader_law.proofs.ImageFaultsWhole.{Work, Guarded, Named, Content}
use Rattle.image_format.proofs.Alike.{okay}

-- ---- the lists of a file

module _ (n : ℕ) where
  abbrev IsFit : List ℕ × Process → Type 0
  IsFit x = IsShortName x.0 × IsProcessFit n x.1

  abbrev WorkFits : Counts → Work → Type 0
  WorkFits counts w = Each (λ (r : Routine). segments r.tree ≤ n) counts.routines w.0 × (Each IsFit counts.processes w.1.0 × (length w.1.1 ≡ counts.code))

  abbrev GuardedFits : Counts → Guarded → Type 0
  GuardedFits counts x = Each (λ (m : List ℕ × Monitor). IsShortName m.0) counts.monitors x.0 × (Each (λ (c : ConditionName). IsShortName c.name) counts.conditions x.1.0 × WorkFits counts x.1.1)

  abbrev NamedFits : Counts → Named → Type 0
  NamedFits counts x = Each (λ (d : DeviceName). IsShortName d.name) counts.devices x.0 × (Each IsShortName counts.events x.1.0 × GuardedFits counts x.1.1)

  abbrev ContentFits : Content → Type 0
  ContentFits x = Any x.0 × (AreFew x.1.0 × (IsShortName x.1.1.0 × NamedFits x.1.0 x.1.1.1))

  code_brings : (is_used : Bool) (count : ℕ) → Brings n (f.code_format is_used count) (λ code. length code ≡ count)
  code_brings true count = weaker (λ code. length code ≡ count) (λ x h. h.1) (each_brings (λ earlier. g.instr_format) Any (λ earlier. instr_brings) [] count)
  code_brings false count = record { told = λ bytes z few is. absurd cc }

  module _ (version : Version) (counts : Counts) where
    abbrev with_code : List (List ℕ × Process) → Format (List Instr)
    with_code processes = f.code_format (f.all_used (f.used_by processes) 0 counts.events) counts.code

    processes_bring : (taken : List (List ℕ)) → Brings n (f.processes_format version counts taken) (Each IsFit counts.processes)
    processes_bring taken =
        each_brings (λ earlier. g.named_process_format version counts (taken ++ map (λ p. p.0) earlier) (f.used_by earlier)) IsFit
        (λ earlier. named_process_brings version counts (taken ++ map (λ p. p.0) earlier) (f.used_by earlier)) [] counts.processes

    work_brings : (taken : List (List ℕ)) → Brings n (f.work_format version counts taken) (WorkFits counts)
    work_brings taken =
        then_brings (each_brings (λ earlier. g.routine_format counts) (λ r. segments r.tree ≤ n) (λ earlier. routine_brings counts) [] counts.routines)
        (both_brings with_code (λ ps code. length code ≡ counts.code) (processes_bring taken) (λ ps h. code_brings (f.all_used (f.used_by ps) 0 counts.events) counts.code))

    abbrev after_monitors : List (List ℕ) → List (List ℕ × Monitor) → Format (List ConditionName × Work)
    after_monitors taken monitors = both (f.conditions_format counts (f.with_monitors taken monitors)) (λ conditions. f.work_format version counts (f.with_monitors taken monitors))

    guarded_brings : (taken : List (List ℕ)) → Brings n (f.guarded_format version counts taken) (GuardedFits counts)
    guarded_brings taken =
        both_brings (after_monitors taken) (λ ms x. Each (λ (c : ConditionName). IsShortName c.name) counts.conditions x.0 × WorkFits counts x.1)
        (each_brings (λ earlier. g.named_monitor_format (taken ++ map (λ m. m.0) earlier)) (λ m. IsShortName m.0) (λ earlier. named_monitor_brings (taken ++ map (λ m. m.0) earlier)) [] counts.monitors)
        (λ ms h. then_brings
        (each_brings (g.condition_format (f.with_monitors taken ms) counts.monitors) (λ c. IsShortName c.name) (condition_brings (f.with_monitors taken ms) counts.monitors) [] counts.conditions)
        (work_brings (f.with_monitors taken ms)))

    abbrev after_events : List (List ℕ) → List DeviceName → List (List ℕ) → Format Guarded
    after_events taken devices events = f.guarded_format version counts (f.with_devices taken devices ++ events)

    abbrev after_devices : List (List ℕ) → List DeviceName → Format (List (List ℕ) × Guarded)
    after_devices taken devices = both (f.events_format counts (f.with_devices taken devices)) (after_events taken devices)

    named_brings : (program : List ℕ) → Brings n (f.named_format version counts program) (NamedFits counts)
    named_brings program =
        both_brings (after_devices (program ∷ [])) (λ ds x. Each IsShortName counts.events x.0 × GuardedFits counts x.1)
        (each_brings (λ earlier. g.device_format ((program ∷ []) ++ map (λ d. d.name) earlier)) (λ d. IsShortName d.name) (λ earlier. device_brings ((program ∷ []) ++ map (λ d. d.name) earlier)) [] counts.devices)
        (λ ds h. both_brings (after_events (program ∷ []) ds) (λ es. GuardedFits counts)
        (each_brings (λ earlier. g.name_format (f.with_devices (program ∷ []) ds ++ earlier)) IsShortName (λ earlier. name_brings (f.with_devices (program ∷ []) ds ++ earlier)) [] counts.events)
        (λ es h. guarded_brings (f.with_devices (program ∷ []) ds ++ es)))

  over_brings : (version : Version) → Brings n (f.over_format version) Any
  over_brings First = weaker Any (λ x h. tt) (given_brings nat_eq 0)
  over_brings Second = weaker Any (λ x h. tt) (u16_brings_within 0 1000)

  abbrev after_counts : Version → Counts → Format (List ℕ × Named)
  after_counts version counts = both (g.name_format []) (λ program. f.named_format version counts program)

  content_brings : (version : Version) → Brings n (both (f.over_format version) (λ over. both g.counts_format (after_counts version))) ContentFits
  content_brings version =
      then_brings (over_brings version) (both_brings (after_counts version) (λ counts x. IsShortName x.0 × NamedFits counts x.1) counts_brings
      (λ counts h. both_brings (λ program. f.named_format version counts program) (λ program. NamedFits counts) (name_brings []) (λ program h. named_brings version counts program)))

  abbrev parts_with : Content → f.Parts
  parts_with x = record {
    over = x.0;
    program = x.1.1.0;
    devices = x.1.1.1.0;
    events = x.1.1.1.1.0;
    monitors = x.1.1.1.1.1.0;
    conditions = x.1.1.1.1.1.1.0;
    routines = x.1.1.1.1.1.1.1.0;
    processes = x.1.1.1.1.1.1.1.1.0;
    code = x.1.1.1.1.1.1.1.1.1;
  }

  -- what is known of the parts of a file
  record PartsFit (ps : f.Parts) : Type 0 where
    program : IsShortName ps.program
    devices : All (λ (d : DeviceName). IsShortName d.name) ps.devices
    events : All IsShortName ps.events
    monitors : All (λ (m : List ℕ × Monitor). IsShortName m.0) ps.monitors
    conditions : All (λ (c : ConditionName). IsShortName c.name) ps.conditions
    routines : All (λ (r : Routine). segments r.tree ≤ n) ps.routines
    processes : All IsFit ps.processes
    few : AreFew (f.counts_of ps)

  parts_fit : (x : Content) → ContentFits x → PartsFit (parts_with x)
  parts_fit x h =
      let few = h.1.0 in
      let named = h.1.1.1 in
      record {
        program = h.1.1.0;
        devices = named.0.0;
        events = named.1.0.0;
        monitors = named.1.1.0.0;
        conditions = named.1.1.1.0.0;
        routines = named.1.1.1.1.0.0;
        processes = named.1.1.1.1.1.0.0;
        few = record {
          processes = omega (arith, few.processes, named.1.1.1.1.1.0.1);
          monitors = omega (arith, few.monitors, named.1.1.0.1);
          conditions = omega (arith, few.conditions, named.1.1.1.0.1);
          devices = omega (arith, few.devices, named.0.1);
          events = omega (arith, few.events, named.1.0.1);
          routines = omega (arith, few.routines, named.1.1.1.1.0.1);
          code = omega (arith, few.code, named.1.1.1.1.1.1);
        };
      }

  parts_bring : (version : Version) → Brings n (f.parts_format version) PartsFit
  parts_bring version =
      via_brings parts_with (λ p. (p.over, (f.counts_of p, (p.program, (p.devices, (p.events, (p.monitors, (p.conditions, (p.routines, (p.processes, p.code)))))))))) PartsFit parts_fit (content_brings version)

  image_brings : Brings n f.image_format (λ x. PartsFit x.1)
  image_brings =
      via_brings (λ (x : List ℕ × (Version × f.Parts)). x.1) (λ x. (codes "RTEU", x)) (λ x. PartsFit x.1) (λ x h. h.1.1)
      (then_brings (checked_any (λ bytes. unless (pointwise nat_eq bytes (codes "RTEU")) 1) (bytes_brings 4))
      (both_brings f.parts_format (λ v ps. PartsFit ps) (via_brings f.version_of f.number_of Any (λ x h. tt) (checked_any (λ k. unless (k == 1 || k == 2) 1) u16_brings)) (λ v h. parts_bring v)))

-- ---- a whole file

file_fits : (bytes : List ℕ) (version : Version) (ps : f.Parts) → f.read_file bytes ≡ Ok ((version, ps), []) → PartsFit 8388608 ps
unfolding f.read_file
file_fits bytes version ps is = by (nat_lt f.longest (length bytes)) refl is where
  by : (b : Bool) → nat_lt f.longest (length bytes) ≡ b → (if b then Err (fault 9 (length bytes - f.longest)) else f.whole_read bytes) ≡ Ok ((version, ps), []) → PartsFit 8388608 ps
  by true test e = absurd cc
  by false test e =
      let a = came (f.image_format.read bytes) f.ended ((version, ps), []) e in
      let same : a.x ≡ ((version, ps), []) = ended_is a.x ((version, ps), []) a.then_is in
      let few : length bytes ≤ 8388608 = grind (arith, nat_tests, test) in
      ((image_brings 8388608).told bytes ((version, ps), []) few (a.was ∙ ap (λ x. okay x) same)).0

-- ---- what can be written

abbrev largest : ℕ
largest = 8388608

All-mapped : {A B : Type 0} (P : A → Type 0) (Q : B → Type 0) (to : A → B) → ((x : A) → P x → Q (to x)) → (xs : List A) → All P xs → All Q (map to xs)
All-mapped P Q to more [] h = All-none Q
All-mapped P Q to more (x ∷ xs) h = All-more Q (to x) (map to xs) (more x (h 0 x (omega arith))) (All-mapped P Q to more xs (λ k d low. h (suc k) d (omega (arith, low))))

All-weaker : {A : Type 0} (P Q : A → Type 0) → ((x : A) → P x → Q x) → (xs : List A) → All P xs → All Q xs
All-weaker P Q more xs h k d low = more _ (h k d low)

short : (name : List ℕ) → IsShortName name → IsShort name
short name h = omega (arith, h)

framed_short : (at : ℕ) (events : List (List ℕ)) (processes : List Process) → All IsShortName events → All (λ (e : EventName). IsShort e.name) (f.framed at events processes)
framed_short at [] processes h = All-none (λ (e : EventName). IsShort e.name)
framed_short at (e ∷ es) processes h =
    All-more (λ (e : EventName). IsShort e.name) _ (f.framed (at + 1) es processes) (short e (h 0 e (omega arith))) (framed_short (at + 1) es processes (λ k d low. h (suc k) d (omega (arith, low))))

small_handler : (tree : Option Segs) → IsSmallTree largest tree → IsSmallHandler tree
small_handler None h = tt
small_handler (Some tree) h = omega (arith, h)

process_in_range : (p : Process) → IsProcessFit largest p → IsProcessInRange p
process_in_range p h = record { numbers = omega (arith, h.numbers); body = omega (arith, h.body); handler_tree = small_handler p.handler_tree h.handler_tree }

module _ (ps : f.Parts) (h : PartsFit largest ps) where
  abbrev image : NamedImage
  image = f.image_with ps

  are_named : AreNamed image.names image.image
  are_named = record {
    each_process = length-map ps.processes (λ (x : List ℕ × Process). x.0) ∙ sym (length-map ps.processes (λ (x : List ℕ × Process). x.1));
    each_monitor = length-map ps.monitors (λ (x : List ℕ × Monitor). x.0) ∙ sym (length-map ps.monitors (λ (x : List ℕ × Monitor). x.1));
    processes = All-mapped (IsFit largest) IsShort (λ x. x.0) (λ x fit. short x.0 fit.0) ps.processes h.processes;
    monitors = All-mapped (λ (m : List ℕ × Monitor). IsShortName m.0) IsShort (λ x. x.0) (λ x fit. short x.0 fit) ps.monitors h.monitors;
    conditions = All-weaker (λ (c : ConditionName). IsShortName c.name) (λ c. IsShort c.name) (λ c fit. short c.name fit) ps.conditions h.conditions;
    devices = All-weaker (λ (d : DeviceName). IsShortName d.name) (λ d. IsShort d.name) (λ d fit. short d.name fit) ps.devices h.devices;
    events = framed_short 0 ps.events (map (λ x. x.1) ps.processes) h.events;
  }

  are_counted : AreCounted image.names image.image
  are_counted = record {
    processes = omega (arith, h.few.processes, length-map ps.processes (λ (x : List ℕ × Process). x.1));
    monitors = omega (arith, h.few.monitors, length-map ps.monitors (λ (x : List ℕ × Monitor). x.1));
    conditions = omega (arith, h.few.conditions);
    devices = omega (arith, h.few.devices);
    events = omega (arith, h.few.events, framed_long 0 ps.events (map (λ x. x.1) ps.processes));
    routines = omega (arith, h.few.routines);
    code = omega (arith, h.few.code);
  }

  in_range : IsInRange image
  in_range = record {
    program = short ps.program h.program;
    names = are_named;
    counts = are_counted;
    routines = All-weaker (λ (r : Routine). segments r.tree ≤ largest) (λ r. IsSmall r.tree) (λ r small. omega (arith, small)) ps.routines h.routines;
    processes = All-mapped (IsFit largest) IsProcessInRange (λ x. x.1) (λ x fit. process_in_range x.1 fit.1) ps.processes h.processes;
  }

pub read_can_be_written : ImagesReadCanBeWritten
read_can_be_written bytes raw holds =
    subst IsInRange (sym holds.image) (in_range (parts_of raw) (file_fits bytes holds.version (parts_of raw) holds.is_read))

-- The bytes that are stored of a program hold its image.
use Rattle.std.proofs.Common.{◌≡◌, ◌≤◌, ◌+◌, ◌∙◌, ℕ, suc, Bool, true, List, [], ◌∷◌, ◌++◌, length, map, filter_map, arith, refl, sym, subst, ap}
use Rattle.std.specs.Prelude.{All, replicate, slice_get}
use Rattle.std.specs.List.{zip}
use Rattle.std.proofs.lemmas.List.{length-map, map-append}
use Rattle.machine_isa.specs.declared.instr.Instr.{Instr}
use Rattle.machine_isa.specs.Bytes.{HasWords}
use Rattle.syntax_tree.specs.Placed as placed
use Rattle.syntax_tree.specs.Placed.{plain}
use Rattle.syntax_tree.specs.Plain as plain_of
use Rattle.syntax_tree.specs.Plain.{Declaration, Name, Program, constant, device, event, routine, monitor, process}
use Rattle.syntax_tree.specs.declared.place.Place.{Place}
use Rattle.source_semantics.specs.Names.{conditions_of, event_in, monitors, processes}
use Rattle.machine_semantics.specs.Image.{Image, Monitor, Process, Routine}
use Rattle.image.specs.Bytes.{Second}
use Rattle.image.specs.Named.{NamedImage}
use Rattle.image.specs.Raw.{image_of, monitor_of, named_of, process_of, routine_of}
use Rattle.image.specs.declared.names.ConditionName.{ConditionName}
use Rattle.image.specs.declared.names.DeviceName.{DeviceName}
use Rattle.image.specs.declared.names.EventName.{EventName}
use Rattle.image.specs.declared.raw.RawImage.{RawImage}
use Rattle.image.specs.declared.raw.RawMonitor.{RawMonitor}
use Rattle.image.specs.declared.raw.RawProcess.{RawProcess}
use Rattle.image.specs.declared.raw.RawRoutine.{RawRoutine}
use Rattle.image_reader.specs.Answer.{parts_of}
use Rattle.image_reader.specs.File as f
use Rattle.image_reader.proofs.Zips.{firsts, seconds}
use Rattle.valid_image.specs.Valid.{IsValid}
use Rattle.built_image.specs.Built.{IsBuilt}
use Rattle.built_image.specs.Named.{named_conditions, named_device, named_event, names_of}
use Rattle.built_valid_law.specs.Made.{BuiltImagesAreMade}
use Rattle.built_valid_law.specs.Ready.{BuiltImagesAreReady, IsReady}
use Rattle.built_valid_law.proofs.Counts.{Counted, counted, named_in}
use Rattle.built_image_law.specs.Ready as checked_of
use Rattle.built_image_law.specs.Ready.{CheckedProgramsAreReady, IsImageMade}
use Rattle.built_image_law.specs.Runs.{IsSmallEnough}
use Rattle.built_image_law.specs.Small.{ProgramsThatKeepSizesAreSmall}
use Rattle.code_cost_spec.specs.Levels.{code_length}
use Rattle.code_measures.specs.Whole.{CodeHasItsLength}
use Rattle.code_spec.specs.Compiled.{IsCodeOf, condition_monitors, device_direction}
use Rattle.command_due.specs.CommandsDue.{IsImageFile, stored}
use Rattle.static_names.specs.Resolved.{IsNamed, IsRead}
use Rattle.static_semantics.specs.Places.{NamesFound}
use Rattle.static_semantics.specs.Mirrors.{NamesListed}
use Rattle.replay_law.specs.MadeWords.{MadeCodeHasWords}
use Rattle.replay_law.specs.Words.{NamesAreIdentifiers, NamesOfTextsAreIdentifiers}
use Rattle.replay_law.proofs.Differing.{Differing}
use Rattle.image_reader_law.specs.Stored.{ValidImagesAreHeld}
use Rattle.image_reader_law.proofs.Fitting.{fit}
use Rattle.replay_law.specs.Stored.{BuiltImagesAreHeld, BuiltImagesAreRanged, IsRanged}
use Rattle.replay_law.proofs.StoredDeclared.{events_are, events_differ}
use Rattle.replay_law.proofs.Events.{frames_are}
use Rattle.replay_law.proofs.Lists.{back_map}
use Rattle.replay_law.proofs.Whole as whole
use Rattle.replay_law.proofs.Whole.{activation_fits_of}

-- ---- an image as it stands in a file

abbrev raw_monitor : Monitor → RawMonitor
raw_monitor x = record { base = x.base; words = x.words; ceiling = x.ceiling }

abbrev raw_routine : Routine → RawRoutine
raw_routine r = record {
  kind = r.kind;
  owner = r.owner;
  params = r.params;
  locals = r.locals;
  result = r.gives;
  start = r.start;
  run = r.run;
  susp = r.susp;
  waits = r.waits;
  stay = r.stay;
  tree = r.tree;
}

abbrev raw_process : Process → RawProcess
raw_process p = record {
  kind = p.kind;
  frame = p.frame;
  deadline = p.deadline;
  first = p.first;
  event = p.event;
  rank = p.rank;
  run = p.run;
  susp = p.susp;
  waits = p.waits;
  block = p.block;
  bound = p.bound;
  words = p.words;
  stack = p.stack;
  locals = p.locals;
  start = p.start;
  handler = p.handler;
  numbers = p.numbers;
  body = p.body;
  handler_tree = p.handler_tree;
}

abbrev raw_of : NamedImage → RawImage
raw_of n = record {
  overhead = n.image.over;
  program = n.program;
  names = n.names;
  monitors = map raw_monitor n.image.monitors;
  routines = map raw_routine n.image.routines;
  processes = map raw_process n.image.processes;
  code = n.image.code;
}

-- ---- the tables of a program

monitors_placed : (k : ℕ) (ns : List Name) → map (λ (c : ConditionName). c.mon) (map (named_in k) ns) ≡ replicate (length ns) k
monitors_placed k [] = refl
monitors_placed k (n ∷ ns) = ap (λ (l : List ℕ). k ∷ l) (monitors_placed k ns)

conditions_placed : (k : ℕ) (ms : List plain_of.Monitor) → map (λ (c : ConditionName). c.mon) (named_conditions k ms) ≡ condition_monitors k ms
conditions_placed k [] = refl
conditions_placed k (m ∷ ms) =
    map-append (λ (c : ConditionName). c.mon) (map (named_in k) (conditions_of m)) (named_conditions (suc k) ms)
    ∙ (ap (λ (l : List ℕ). l ++ map (λ (c : ConditionName). c.mon) (named_conditions (suc k) ms)) (monitors_placed k (conditions_of m))
    ∙ ap (λ (l : List ℕ). replicate (length (conditions_of m)) k ++ l) (conditions_placed (suc k) ms))

devices_directed : (ds : List Declaration) → map (λ (d : DeviceName). d.out) (filter_map named_device ds) ≡ filter_map device_direction ds
devices_directed [] = refl
devices_directed (constant n c ∷ ds) = devices_directed ds
devices_directed (device n o ∷ ds) = ap (λ (l : List Bool). o ∷ l) (devices_directed ds)
devices_directed (event n ∷ ds) = devices_directed ds
devices_directed (routine r ∷ ds) = devices_directed ds
devices_directed (monitor m ∷ ds) = devices_directed ds
devices_directed (process p ∷ ds) = devices_directed ds

-- ---- a program and its image

abbrev of_program : Program → Image → NamedImage
of_program p m = record { program = p.name; names = names_of p; image = m }

module _ (p : Program) (m : Image) (code : IsCodeOf p m) (ms : length (map (λ (x : plain_of.Monitor). x.name) (monitors p)) ≡ length m.monitors) (ps : length (map (λ (x : plain_of.Process). x.name) (processes p)) ≡ length m.processes) where
  abbrev raw : RawImage
  raw = raw_of (of_program p m)

  named_is : named_of raw ≡ of_program p m
  named_is = λ i. record {
    program = p.name;
    names = names_of p;
    image = record {
      over = m.over;
      monitors = back_map monitor_of raw_monitor (λ x. refl) m.monitors i;
      conditions = (conditions_placed 0 (monitors p) ∙ sym code.condition_table) i;
      devices = (devices_directed p.decls ∙ sym code.device_table) i;
      routines = back_map routine_of raw_routine (λ x. refl) m.routines i;
      processes = back_map process_of raw_process (λ x. refl) m.processes i;
      code = m.code;
    };
  }

  events_named : map (λ (e : EventName). e.name) (names_of p).events ≡ filter_map event_in p.decls
  events_named = back_map (λ (e : EventName). e.name) (λ (e : Name). named_event p e) (λ x. refl) (filter_map event_in p.decls)

  -- its parts
  parts_are : parts_of raw ≡ whole.parts_of p m
  parts_are = λ i. record {
    over = m.over;
    program = p.name;
    devices = filter_map named_device p.decls;
    events = events_named i;
    monitors = zip (map (λ (x : plain_of.Monitor). x.name) (monitors p)) (back_map monitor_of raw_monitor (λ x. refl) m.monitors i);
    conditions = named_conditions 0 (monitors p);
    routines = back_map routine_of raw_routine (λ x. refl) m.routines i;
    processes = zip (map (λ (x : plain_of.Process). x.name) (processes p)) (back_map process_of raw_process (λ x. refl) m.processes i);
    code = m.code;
  }

  -- the image of these parts
  whole_is : f.framed 0 (filter_map event_in p.decls) m.processes ≡ (names_of p).events → f.image_with (whole.parts_of p m) ≡ of_program p m
  whole_is frames = λ i. record {
    program = p.name;
    names = record {
      processes = firsts (map (λ (x : plain_of.Process). x.name) (processes p)) m.processes ps i;
      monitors = firsts (map (λ (x : plain_of.Monitor). x.name) (monitors p)) m.monitors ms i;
      conditions = named_conditions 0 (monitors p);
      devices = filter_map named_device p.decls;
      events = (ap (λ (xs : List Process). f.framed 0 (filter_map event_in p.decls) xs) (seconds (map (λ (x : plain_of.Process). x.name) (processes p)) m.processes ps) ∙ frames) i;
    };
    image = record {
      over = m.over;
      monitors = seconds (map (λ (x : plain_of.Monitor). x.name) (monitors p)) m.monitors ms i;
      conditions = (conditions_placed 0 (monitors p) ∙ sym code.condition_table) i;
      devices = (devices_directed p.decls ∙ sym code.device_table) i;
      routines = m.routines;
      processes = seconds (map (λ (x : plain_of.Process). x.name) (processes p)) m.processes ps i;
      code = m.code;
    };
  }

same_image : (p : Program) (over : ℕ) (n : NamedImage) → IsBuilt p over n → of_program p n.image ≡ n
same_image p over n built = λ i. record { program = sym built.program i; names = sym built.names i; image = n.image }

-- ---- the laws

pub ranged : CheckedProgramsAreReady → ProgramsThatKeepSizesAreSmall → BuiltImagesAreMade → BuiltImagesAreReady → CodeHasItsLength → NamesOfTextsAreIdentifiers → MadeCodeHasWords
    → ((g : placed.Prog Place) → IsRead g → IsNamed g → NamesFound g) → ((g : placed.Prog Place) → NamesListed g) → BuiltImagesAreRanged
ranged checked_law small_law made_law ready_law length_law names_law words_law found_law listed_law text g over n low written built =
    let p : Program = plain g in
    let m : Image = n.image in
    let checked = written.program.checked in
    let ready : checked_of.IsReady p = checked_law g checked in
    let small : IsSmallEnough g = small_law g checked written.fits in
    let made : IsImageMade p m = made_law g over n small built in
    let stands : IsReady n = ready_law text g over n written built in
    let many : length m.code ≡ code_length p = length_law p m made.code ready.sound in
    let short : length m.code ≤ 65535 = omega (arith, many, small.code) in
    let counts : Counted p m = counted p m ready.formed.counts_fit ready.sound.few made.code in
    let found : NamesFound g = found_law g checked.read checked.named in
    let listed : NamesListed g = listed_law g in
    let ids : NamesAreIdentifiers p = names_law text g written.program.tree in
    let words : All HasWords m.code = subst (λ (js : List Instr). All HasWords js) (sym built.shaped.code.code) (words_law p) in
    let few : m.over ≤ 1000 = (let is = built.shaped.overhead in omega (arith, is, low)) in
    let ms : length (map (λ (x : plain_of.Monitor). x.name) (monitors p)) ≡ length m.monitors = omega (arith, length-map (monitors p) (λ (x : plain_of.Monitor). x.name), counts.monitors_are) in
    let ps : length (map (λ (x : plain_of.Process). x.name) (processes p)) ≡ length m.processes = omega (arith, length-map (processes p) (λ (x : plain_of.Process). x.name), counts.processes_are) in
    let differ : Differing (filter_map event_in p.decls) = subst (λ (ns : List Name). Differing ns) (sym (events_are g.decls)) (events_differ g found listed) in
    let frames : f.framed 0 (filter_map event_in p.decls) m.processes ≡ (names_of p).events =
    frames_are p differ m.code made.code.between (length m.code) m.processes made.code.process_code (activation_fits_of p ready.formed) 0 (filter_map event_in p.decls) (λ i e at. ap (λ (k : ℕ). slice_get (filter_map event_in p.decls) k) (let z : 0 + i ≡ i = omega arith in z) ∙ at) in
    let fits = fit Second (whole.parts_of p m) (whole.fits text g m written.program.tree written.fits found listed ids ready.formed ready.numbered made stands.limits stands.valid short counts words few) in
    let raw : RawImage = raw_of (of_program p m) in
    let own : named_of raw ≡ of_program p m = named_is p m made.code ms ps in
    let parts : parts_of raw ≡ whole.parts_of p m = parts_are p m made.code ms ps in
    let all : f.image_with (whole.parts_of p m) ≡ of_program p m = whole_is p m made.code ms ps frames in
    let is : IsRanged n raw = record {
      named = own ∙ same_image p over n built;
      whole = own ∙ (sym all ∙ ap f.image_with (sym parts));
      ranged = subst (λ (x : f.Parts). f.image_format.is (Second, x) ≡ true) (sym parts) fits;
    } in
    (raw, is)

pub held : BuiltImagesAreRanged → BuiltImagesAreReady → ValidImagesAreHeld → BuiltImagesAreHeld
held law ready_law held_law text g over n low written built =
    let r = law text g over n low written built in
    let valid : IsValid (image_of r.0) = subst (λ (x : NamedImage). IsValid x.image) (sym r.1.named) (ready_law text g over n written built).valid in
    let file : IsImageFile (stored (named_of r.0)) r.0 = record { held = held_law r.0 r.1.whole r.1.ranged valid; valid = valid } in
    (r.0, r.1.named, subst (λ (x : NamedImage). IsImageFile (stored x) r.0) r.1.named file)

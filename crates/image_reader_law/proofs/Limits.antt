-- The ranges of the fields, from the reading of a whole file.
use Rattle.std.proofs.Common.{◌≡◌, ◌≤◌, ◌<◌, ◌++◌, ℕ, zero, suc, Bool, true, false, List, [], ◌∷◌, length, map, get_or, Ok, Err, Option, Some, None, refl, sym, ap, ◌∙◌, subst, arith}
use Rattle.std.specs.Prelude.{nat_le, nat_lt, option_map, slice_get, if◌then◌else◌, ◌-◌}
use Rattle.std.proofs.lemmas.List.{length-map}
use Rattle.std.proofs.lemmas.Option.{slice_get-get_or, slice_get-map}
use Rattle.machine_isa.specs.declared.instr.Instr.{Instr}
use Rattle.machine_semantics.specs.Trees.{Segs}
use Rattle.machine_semantics.specs.Image.{Monitor, Routine, Process}
use Rattle.image.specs.Bytes.{Version, First, Second}
use Rattle.image.specs.Raw.{monitor_of}
use Rattle.image.specs.Named.{NamedImage}
use Rattle.image.specs.declared.names.ConditionName.{ConditionName}
use Rattle.image.specs.declared.names.DeviceName.{DeviceName}
use Rattle.image_reader.specs.declared.counts.Counts.{Counts}
use Rattle.image_reader.specs.Answer.{parts_of}
use Rattle.image_format.specs.Format.{Format, u8, u16, u32, fault, unless, checked, both}
use Rattle.image_format.specs.TreeFormat.{in_image, u32_within, u16_within, tree_format}
use Rattle.image_reader.specs.Grammar as g
use Rattle.image_reader.specs.File as f
use Rattle.image_format.proofs.Sound.{came}
use Rattle.valid_image.specs.Valid.{HasLimits, IsInLimits, HasHandler}
use Rattle.image_reader_law.specs.ValidLimits.{ImagesReadHaveFewMonitors, ImagesReadHaveLimits}
use Rattle.image_reader_law.proofs.Readings.{kept, two, seen, many, in_u32, in_u16, below}
use Rattle.image_reader_law.proofs.ImageSoundFiles.{ended_is}
use Rattle.image_reader_law.proofs.ImageFaultsWhole.{Work, Guarded, Named, Content, parts_with}
use Rattle.image_format.proofs.Alike.{okay, same_ok}

-- ---- a process

module _ (version : Version) (counts : Counts) (used : List ℕ) where
  abbrev with_first : ℕ → Format (ℕ × (ℕ × ℕ))
  with_first kind = both (checked (u32_within 0 1000000000) (g.wrong_first kind)) (λ first. both (checked u16 (g.wrong_event counts.events used kind)) (λ event. u16))

  abbrev with_deadline : ℕ → ℕ → Format (ℕ × (ℕ × (ℕ × ℕ)))
  with_deadline kind frame = both (g.deadline_format version frame) (λ deadline. with_first kind)

  abbrev with_frame : ℕ → Format (ℕ × (ℕ × (ℕ × (ℕ × ℕ))))
  with_frame kind = both (u32_within 10 1000000000) (with_deadline kind)

  abbrev kind_is : Format ℕ
  kind_is = checked u8 (λ kind. unless (nat_le kind 1) 6)

  abbrev with_block : Format (ℕ × ℕ)
  with_block = both g.cost (λ block. u32_within 1 1000000000)

  abbrev with_waits : Format (ℕ × (ℕ × ℕ))
  with_waits = both g.cost (λ waits. with_block)

  abbrev with_susp : Format (ℕ × (ℕ × (ℕ × ℕ)))
  with_susp = both g.cost (λ susp. with_waits)

  abbrev with_locals : Format (ℕ × ℕ)
  with_locals = both (u32_within 0 4096) (λ locals. u32)

  abbrev with_stack : Format (ℕ × (ℕ × ℕ))
  with_stack = both (u32_within 0 4096) (λ stack. with_locals)

  abbrev with_trees : ℕ × ℕ → Format (Segs × Option Segs)
  with_trees handler = both (tree_format (in_image counts.monitors) g.deepest) (λ body. g.handler_tree_format counts.monitors handler.1)

  abbrev with_numbers : ℕ × ℕ → Format (List ℕ × (Segs × Option Segs))
  with_numbers handler = both (g.numbers_format handler.1) (λ numbers. with_trees handler)

  abbrev with_handler : Format ((ℕ × ℕ) × (List ℕ × (Segs × Option Segs)))
  with_handler = both g.handler_format with_numbers

  abbrev with_room : Format ((ℕ × (ℕ × (ℕ × ℕ))) × ((ℕ × ℕ) × (List ℕ × (Segs × Option Segs))))
  with_room = both g.room_format (λ room. with_handler)

  abbrev with_time : Format ((ℕ × (ℕ × (ℕ × (ℕ × ℕ)))) × ((ℕ × (ℕ × (ℕ × ℕ))) × ((ℕ × ℕ) × (List ℕ × (Segs × Option Segs)))))
  with_time = both g.time_format (λ time. with_room)

  abbrev All : Type 0
  All = (ℕ × (ℕ × (ℕ × (ℕ × (ℕ × ℕ))))) × ((ℕ × (ℕ × (ℕ × (ℕ × ℕ)))) × ((ℕ × (ℕ × (ℕ × ℕ))) × ((ℕ × ℕ) × (List ℕ × (Segs × Option Segs)))))

  abbrev all : Format All
  all = both (g.release_format version counts.events used) (λ release. with_time)

  abbrev process_of : All → Process
  process_of x = record {
    kind = x.0.0;
    frame = x.0.1.0;
    deadline = x.0.1.1.0;
    first = x.0.1.1.1.0;
    event = x.0.1.1.1.1.0;
    rank = x.0.1.1.1.1.1;
    run = x.1.0.0;
    susp = x.1.0.1.0;
    waits = x.1.0.1.1.0;
    block = x.1.0.1.1.1.0;
    bound = x.1.0.1.1.1.1;
    words = x.1.1.0.0;
    stack = x.1.1.0.1.0;
    locals = x.1.1.0.1.1.0;
    start = x.1.1.0.1.1.1;
    handler = x.1.1.1.0.0;
    numbers = x.1.1.1.1.0;
    body = x.1.1.1.1.1.0;
    handler_tree = x.1.1.1.1.1.1;
  }

  deadline_within : (v : Version) (frame : ℕ) (bytes : List ℕ) (z : ℕ × List ℕ) → 10 ≤ frame → (g.deadline_format v frame).read bytes ≡ Ok z → (10 ≤ z.0) × (z.0 ≤ frame)
  deadline_within First frame bytes z low is = subst (λ (y : ℕ × List ℕ). (10 ≤ y.0) × (y.0 ≤ frame)) (same_ok (frame, bytes) z is) (low, omega arith)
  deadline_within Second frame bytes z low is = in_u32 10 frame bytes z.0 z.1 is

  has_handler : (count : ℕ) (numbers : List ℕ) (p : Process) (o : Option Segs) (bytes rest : List ℕ) → length numbers ≡ count → p.numbers ≡ numbers → (g.handler_tree_format counts.monitors count).read bytes ≡ Ok (o, rest) → HasHandler p o
  has_handler zero [] p o bytes rest long same is = subst (λ (y : Option Segs × List ℕ). HasHandler p y.0) (same_ok (None, bytes) (o, rest) is) same
  has_handler zero (n ∷ ns) p o bytes rest long same is = absurd (omega (arith, long))
  has_handler (suc count) [] p o bytes rest long same is = absurd (omega (arith, long))
  has_handler (suc count) (n ∷ ns) p o bytes rest long same is =
      let a = came ((tree_format (in_image counts.monitors) g.deepest).read bytes) (λ (x : Segs × List ℕ). okay (Some x.0, x.1)) (o, rest) is in
      subst (λ (y : Option Segs × List ℕ). HasHandler p y.0) (same_ok (Some a.x.0, a.x.1) (o, rest) a.then_is) (λ none. absurd (let e : n ∷ ns ≡ [] = sym same ∙ none in cc))

  process_limits : (bytes : List ℕ) (p : Process) (rest : List ℕ) → (g.process_format version counts used).read bytes ≡ Ok (p, rest) → IsInLimits p
  process_limits bytes p rest is =
      let s = seen process_of all bytes (p, rest) is in
      subst IsInLimits s.seen (from s.x rest s.was)
    where
      from : (x : All) (rest : List ℕ) → all.read bytes ≡ Ok (x, rest) → IsInLimits (process_of x)
      from x rest is =
          let r = two (g.release_format version counts.events used) (λ release. with_time) bytes (x, rest) is in
          let kind = two kind_is with_frame bytes (x.0, r.rest) r.one in
          let frame = two (u32_within 10 1000000000) (with_deadline x.0.0) kind.rest (x.0.1, r.rest) kind.two in
          let deadline = two (g.deadline_format version x.0.1.0) (λ deadline. with_first x.0.0) frame.rest (x.0.1.1, r.rest) frame.two in
          let t = two g.time_format (λ time. with_room) r.rest (x.1, rest) r.two in
          let run = two g.cost (λ run. with_susp) r.rest (x.1.0, t.rest) t.one in
          let susp = two g.cost (λ susp. with_waits) run.rest (x.1.0.1, t.rest) run.two in
          let waits = two g.cost (λ waits. with_block) susp.rest (x.1.0.1.1, t.rest) susp.two in
          let block = two g.cost (λ block. u32_within 1 1000000000) waits.rest (x.1.0.1.1.1, t.rest) waits.two in
          let m = two g.room_format (λ room. with_handler) t.rest (x.1.1, rest) t.two in
          let words = two u32 (λ words. with_stack) t.rest (x.1.1.0, m.rest) m.one in
          let stack = two (u32_within 0 4096) (λ stack. with_locals) words.rest (x.1.1.0.1, m.rest) words.two in
          let h = two g.handler_format with_numbers m.rest (x.1.1.1, rest) m.two in
          let n = two (g.numbers_format x.1.1.1.0.1) (λ numbers. with_trees x.1.1.1.0) h.rest (x.1.1.1.1, rest) h.two in
          let b = two (tree_format (in_image counts.monitors) g.deepest) (λ body. g.handler_tree_format counts.monitors x.1.1.1.0.1) n.rest (x.1.1.1.1.1, rest) n.two in
          let numbers = many (λ earlier. checked u16 (g.wrong_number earlier)) [] x.1.1.1.0.1 h.rest (x.1.1.1.1.0, n.rest) n.one in
          let f = in_u32 10 1000000000 kind.rest x.0.1.0 frame.rest frame.one in
          let d = deadline_within version x.0.1.0 frame.rest (x.0.1.1.0, deadline.rest) f.0 deadline.one in
          record {
            frame_low = f.0;
            frame_high = f.1;
            deadline_low = d.0;
            deadline_high = d.1;
            bound = (in_u32 1 1000000000 block.rest x.1.0.1.1.1.1 t.rest block.two).0;
            run = (in_u32 0 1000000001 r.rest x.1.0.0 run.rest run.one).1;
            susp = (in_u32 0 1000000001 run.rest x.1.0.1.0 susp.rest susp.one).1;
            waits = (in_u32 0 1000000001 susp.rest x.1.0.1.1.0 waits.rest waits.one).1;
            block = (in_u32 0 1000000001 waits.rest x.1.0.1.1.1.0 block.rest block.one).1;
            stack = (in_u32 0 4096 words.rest x.1.1.0.1.0 stack.rest stack.one).1;
            handler = has_handler x.1.1.1.0.1 x.1.1.1.1.0 (process_of x) x.1.1.1.1.1.1 b.rest rest numbers.long refl b.two;
          }

-- ---- a routine

module _ (counts : Counts) where
  abbrev with_result : Format (ℕ × Bool)
  with_result = both (u32_within 0 4096) (λ locals. g.flag_format 4)

  abbrev with_params : Format (ℕ × (ℕ × Bool))
  with_params = both u16 (λ params. with_result)

  abbrev with_owner : ℕ → Format (ℕ × (ℕ × (ℕ × Bool)))
  with_owner kind = both (checked u16 (g.wrong_owner counts kind)) (λ owner. with_params)

  abbrev with_tree : (kind : ℕ) → Format ((ℕ × (ℕ × (ℕ × (ℕ × ℕ)))) × Segs)
  with_tree kind = both (g.cost_format kind) (λ c. tree_format (in_image counts.monitors) g.deepest)

  abbrev Whole : Type 0
  Whole = (ℕ × (ℕ × (ℕ × (ℕ × Bool)))) × ((ℕ × (ℕ × (ℕ × (ℕ × ℕ)))) × Segs)

  abbrev whole : Format Whole
  whole = both (g.owner_format counts) (λ o. with_tree o.0)

  abbrev routine_of : Whole → Routine
  routine_of x = record {
    kind = x.0.0;
    owner = x.0.1.0;
    params = x.0.1.1.0;
    locals = x.0.1.1.1.0;
    gives = x.0.1.1.1.1;
    start = x.1.0.0;
    run = x.1.0.1.0;
    susp = x.1.0.1.1.0;
    waits = x.1.0.1.1.1.0;
    stay = x.1.0.1.1.1.1;
    tree = x.1.1;
  }

  -- the monitor of an entry is one of those that are counted
  owned : (kind owner : ℕ) → g.wrong_owner counts kind owner ≡ None → kind ≡ 2 → owner < counts.monitors
  owned zero owner fine is = absurd (omega (arith, is))
  owned (suc zero) owner fine is = absurd (omega (arith, is))
  owned (suc (suc kind)) owner fine is = below owner counts.monitors 4 fine

  routine_owner : (bytes : List ℕ) (r : Routine) (rest : List ℕ) → (g.routine_format counts).read bytes ≡ Ok (r, rest) → r.kind ≡ 2 → r.owner < counts.monitors
  routine_owner bytes r rest is =
      let s = seen routine_of whole bytes (r, rest) is in
      subst (λ (y : Routine). y.kind ≡ 2 → y.owner < counts.monitors) s.seen (from s.x s.was)
    where
      from : (x : Whole) → whole.read bytes ≡ Ok (x, rest) → x.0.0 ≡ 2 → x.0.1.0 < counts.monitors
      from x is =
          let o = two (g.owner_format counts) (λ o. with_tree o.0) bytes (x, rest) is in
          let kind = two (checked u8 (λ kind. unless (nat_le kind 2) 6)) with_owner bytes (x.0, o.rest) o.one in
          let owner = two (checked u16 (g.wrong_owner counts x.0.0)) (λ owner. with_params) kind.rest (x.0.1, o.rest) kind.two in
          owned x.0.0 x.0.1.0 (kept u16 (g.wrong_owner counts x.0.0) kind.rest (x.0.1.0, owner.rest) owner.one).fine

-- ---- a file

-- what is known of the parts of a file
record InLimits (ps : f.Parts) : Type 0 where
  some : 0 < length ps.processes
  few : length ps.processes ≤ 64
  monitors : length ps.monitors ≤ 64
  processes : (k : ℕ) (x : List ℕ × Process) → slice_get ps.processes k ≡ Some x → IsInLimits x.1
  owners : (r : ℕ) (x : Routine) → slice_get ps.routines r ≡ Some x → x.kind ≡ 2 → x.owner < length ps.monitors

-- of the routines and processes, by the counts
record WorkLimits (counts : Counts) (w : Work) : Type 0 where
  long : length w.1.0 ≡ counts.processes
  each : (k : ℕ) (x : List ℕ × Process) → slice_get w.1.0 k ≡ Some x → IsInLimits x.1
  owners : (r : ℕ) (x : Routine) → slice_get w.0 r ≡ Some x → x.kind ≡ 2 → x.owner < counts.monitors

-- and of the monitors before them
record GuardedLimits (counts : Counts) (x : Guarded) : Type 0 where
  monitors : length x.0 ≡ counts.monitors
  work : WorkLimits counts x.1.1

module _ (version : Version) (counts : Counts) (taken : List (List ℕ)) where
  abbrev with_code : List (List ℕ × Process) → Format (List Instr)
  with_code processes = f.code_format (f.all_used (f.used_by processes) 0 counts.events) counts.code

  abbrev with_processes : Format (List (List ℕ × Process) × List Instr)
  with_processes = both (f.processes_format version counts taken) with_code

  named_process : (earlier : List (List ℕ × Process)) (bytes : List ℕ) (x : List ℕ × Process) (rest : List ℕ) → (g.named_process_format version counts (taken ++ map (λ p. p.0) earlier) (f.used_by earlier)).read bytes ≡ Ok (x, rest) → IsInLimits x.1
  named_process earlier bytes x rest is =
      let n = two (g.name_format (taken ++ map (λ p. p.0) earlier)) (λ name. g.process_format version counts (f.used_by earlier)) bytes (x, rest) is in
      process_limits version counts (f.used_by earlier) n.rest x.1 rest n.two

  work_limits : (bytes : List ℕ) (w : Work) (rest : List ℕ) → (f.work_format version counts taken).read bytes ≡ Ok (w, rest) → WorkLimits counts w
  work_limits bytes w rest is =
      let one = two (f.routines_format counts) (λ routines. with_processes) bytes (w, rest) is in
      let next = two (f.processes_format version counts taken) with_code one.rest (w.1, rest) one.two in
      let rs = many (λ earlier. g.routine_format counts) [] counts.routines bytes (w.0, one.rest) one.one in
      let ps = many (λ earlier. g.named_process_format version counts (taken ++ map (λ p. p.0) earlier) (f.used_by earlier)) [] counts.processes one.rest (w.1.0, next.rest) next.one in
      record {
        long = ps.long;
        each = λ k x at. let o = ps.each k x at in named_process o.earlier o.bytes x o.rest o.was;
        owners = λ r x at. let o = rs.each r x at in routine_owner counts o.bytes x o.rest o.was;
      }

abbrev pub further_counts : Format (ℕ × (ℕ × (ℕ × (ℕ × ℕ))))
further_counts = both (u16_within 0 256) (λ conditions. both (u16_within 0 64) (λ devices. both (u16_within 0 64) (λ events. both (u16_within 0 512) (λ routines. u32_within 0 65535))))

abbrev pub other_counts : Format (ℕ × (ℕ × (ℕ × (ℕ × (ℕ × ℕ)))))
other_counts = both (u16_within 0 64) (λ monitors. further_counts)

abbrev pub all_counts : Format (ℕ × (ℕ × (ℕ × (ℕ × (ℕ × (ℕ × ℕ))))))
all_counts = both (u16_within 1 64) (λ processes. other_counts)

abbrev pub counts_with : ℕ × (ℕ × (ℕ × (ℕ × (ℕ × (ℕ × ℕ))))) → Counts
counts_with x = record { processes = x.0; monitors = x.1.0; conditions = x.1.1.0; devices = x.1.1.1.0; events = x.1.1.1.1.0; routines = x.1.1.1.1.1.0; code = x.1.1.1.1.1.1 }

record CountsLimits (c : Counts) : Type 0 where
  some : 1 ≤ c.processes
  few : c.processes ≤ 64
  monitors : c.monitors ≤ 64

counted : (bytes : List ℕ) (c : Counts) (rest : List ℕ) → g.counts_format.read bytes ≡ Ok (c, rest) → CountsLimits c
counted bytes c rest is =
    let s = seen counts_with all_counts bytes (c, rest) is in
    subst CountsLimits s.seen
    (let p = two (u16_within 1 64) (λ processes. other_counts) bytes (s.x, rest) s.was in
    let m = two (u16_within 0 64) (λ monitors. further_counts) p.rest (s.x.1, rest) p.two in
    let few = in_u16 1 64 bytes s.x.0 p.rest p.one in
    record { some = few.0; few = few.1; monitors = (in_u16 0 64 p.rest s.x.1.0 m.rest m.one).1 })

module _ (version : Version) (counts : Counts) where
  abbrev after_monitors : List (List ℕ) → List (List ℕ × Monitor) → Format (List ConditionName × Work)
  after_monitors taken monitors = both (f.conditions_format counts (f.with_monitors taken monitors)) (λ conditions. f.work_format version counts (f.with_monitors taken monitors))

  abbrev after_events : List (List ℕ) → List DeviceName → List (List ℕ) → Format Guarded
  after_events taken devices events = f.guarded_format version counts (f.with_devices taken devices ++ events)

  abbrev after_devices : List (List ℕ) → List DeviceName → Format (List (List ℕ) × Guarded)
  after_devices taken devices = both (f.events_format counts (f.with_devices taken devices)) (after_events taken devices)

  guarded_limits : (taken : List (List ℕ)) (bytes : List ℕ) (x : Guarded) (rest : List ℕ) → (f.guarded_format version counts taken).read bytes ≡ Ok (x, rest) → GuardedLimits counts x
  guarded_limits taken bytes x rest is =
      let m = two (f.monitors_format counts taken) (after_monitors taken) bytes (x, rest) is in
      let c = two (f.conditions_format counts (f.with_monitors taken x.0)) (λ conditions. f.work_format version counts (f.with_monitors taken x.0)) m.rest (x.1, rest) m.two in
      let ms = many (λ earlier. g.named_monitor_format (taken ++ map (λ m. m.0) earlier)) [] counts.monitors bytes (x.0, m.rest) m.one in
      record { monitors = ms.long; work = work_limits version counts (f.with_monitors taken x.0) c.rest x.1.1 rest c.two }

  named_limits : (program : List ℕ) (bytes : List ℕ) (x : Named) (rest : List ℕ) → (f.named_format version counts program).read bytes ≡ Ok (x, rest) → GuardedLimits counts x.1.1
  named_limits program bytes x rest is =
      let d = two (f.devices_format counts (program ∷ [])) (after_devices (program ∷ [])) bytes (x, rest) is in
      let e = two (f.events_format counts (f.with_devices (program ∷ []) x.0)) (after_events (program ∷ []) x.0) d.rest (x.1, rest) d.two in
      guarded_limits (f.with_devices (program ∷ []) x.0 ++ x.1.0) e.rest x.1.1 rest e.two

module _ (version : Version) where
  abbrev after_name : Counts → Format (List ℕ × Named)
  after_name counts = both (g.name_format []) (λ program. f.named_format version counts program)

  abbrev after_over : Format (Counts × (List ℕ × Named))
  after_over = both g.counts_format after_name

  abbrev content : Format Content
  content = both (f.over_format version) (λ over. after_over)

  content_limits : (bytes : List ℕ) (x : Content) (rest : List ℕ) → content.read bytes ≡ Ok (x, rest) → InLimits (parts_with x)
  content_limits bytes x rest is =
      let over = two (f.over_format version) (λ over. after_over) bytes (x, rest) is in
      let counts = two g.counts_format after_name over.rest (x.1, rest) over.two in
      let name = two (g.name_format []) (λ program. f.named_format version x.1.0 program) counts.rest (x.1.1, rest) counts.two in
      let c = counted over.rest x.1.0 counts.rest counts.one in
      let n = named_limits version x.1.0 x.1.1.0 name.rest x.1.1.1 rest name.two in
      record {
        some = omega (arith, n.work.long, c.some);
        few = omega (arith, n.work.long, c.few);
        monitors = omega (arith, n.monitors, c.monitors);
        processes = n.work.each;
        owners = λ r y at entry. let low = n.work.owners r y at entry in omega (arith, low, n.monitors);
      }

  -- the parts of a file, after its version
  parts_limits : (bytes : List ℕ) (ps : f.Parts) (rest : List ℕ) → (f.parts_format version).read bytes ≡ Ok (ps, rest) → InLimits ps
  parts_limits bytes ps rest is =
      let s = seen parts_with content bytes (ps, rest) is in
      subst InLimits s.seen (content_limits bytes s.x rest s.was)

abbrev pub Full : Type 0
Full = List ℕ × (Version × f.Parts)

file_limits : (bytes : List ℕ) (version : Version) (ps : f.Parts) (rest : List ℕ) → f.image_format.read bytes ≡ Ok ((version, ps), rest) → InLimits ps
file_limits bytes version ps rest is =
    let s = seen (λ (x : Full). x.1) (both f.magic_format (λ magic. both f.version_format f.parts_format)) bytes ((version, ps), rest) is in
    let m = two f.magic_format (λ magic. both f.version_format f.parts_format) bytes (s.x, rest) s.was in
    let v = two f.version_format f.parts_format m.rest (s.x.1, rest) m.two in
    let e : s.x.1.1 ≡ ps = ap (λ (y : Version × f.Parts). y.1) s.seen in
    subst InLimits e (parts_limits s.x.1.0 v.rest s.x.1.1 rest v.two)

file_read_limits : (bytes : List ℕ) (version : Version) (ps : f.Parts) → f.read_file bytes ≡ Ok ((version, ps), []) → InLimits ps
unfolding f.read_file
file_read_limits bytes version ps is = by (nat_lt f.longest (length bytes)) is where
  by : (b : Bool) → (if b then Err (fault 9 (length bytes - f.longest)) else f.whole_read bytes) ≡ Ok ((version, ps), []) → InLimits ps
  by true e = absurd cc
  by false e =
      let a = came (f.image_format.read bytes) f.ended ((version, ps), []) e in
      let same : a.x ≡ ((version, ps), []) = ended_is a.x ((version, ps), []) a.then_is in
      file_limits bytes version ps [] (a.was ∙ ap (λ x. okay x) same)

-- the image that has these parts
image_limits : (ps : f.Parts) → InLimits ps → HasLimits (f.image_with ps).image
image_limits ps l = record {
  some = omega (arith, l.some, length-map ps.processes (λ (x : List ℕ × Process). x.1));
  few = omega (arith, l.few, length-map ps.processes (λ (x : List ℕ × Process). x.1));
  processes = λ k p at. process k p (slice_get ps.processes k) refl at;
  owners = λ r x at entry. monitor x.owner (l.owners r x at entry);
} where
  process : (k : ℕ) (p : Process) (o : Option (List ℕ × Process)) → slice_get ps.processes k ≡ o → slice_get (map (λ (x : List ℕ × Process). x.1) ps.processes) k ≡ Some p → IsInLimits p
  process k p None there at = absurd (let e = sym at ∙ (slice_get-map (λ (x : List ℕ × Process). x.1) ps.processes k ∙ ap (λ o. option_map (λ (x : List ℕ × Process). x.1) o) there) in cc)
  process k p (Some x) there at =
      let e : Some p ≡ Some x.1 = sym at ∙ (slice_get-map (λ (x : List ℕ × Process). x.1) ps.processes k ∙ ap (λ o. option_map (λ (x : List ℕ × Process). x.1) o) there) in
      let same : x.1 ≡ p = cc in
      subst IsInLimits same (l.processes k x there)

  monitors : List Monitor
  monitors = map (λ (x : List ℕ × Monitor). x.1) ps.monitors

  none_there : Monitor
  none_there = record { base = 0; words = 0; ceiling = 0 }

  monitor : (m : ℕ) → m < length ps.monitors → (x : Monitor) × (slice_get monitors m ≡ Some x)
  monitor m low = (get_or monitors m none_there, slice_get-get_or monitors m none_there (omega (arith, low, length-map ps.monitors (λ (x : List ℕ × Monitor). x.1))))

-- ---- the law

pub read_limits : ImagesReadHaveLimits
read_limits bytes raw holds =
    let l = image_limits (parts_of raw) (file_read_limits bytes holds.version (parts_of raw) holds.is_read) in
    subst HasLimits (sym (ap (λ (n : NamedImage). n.image) holds.image)) l

pub read_monitors : ImagesReadHaveFewMonitors
read_monitors bytes raw holds =
    let ps = parts_of raw in
    let l = file_read_limits bytes holds.version ps holds.is_read in
    let same : length (map monitor_of raw.monitors) ≡ length (map (λ (x : List ℕ × Monitor). x.1) ps.monitors) = ap (λ (n : NamedImage). length n.image.monitors) holds.image in
    omega (arith, l.monitors, same, length-map raw.monitors monitor_of, length-map ps.monitors (λ (x : List ℕ × Monitor). x.1))

-- The names and kinds of an image, from the reading of a whole file.
use Rattle.std.proofs.Common.{◌≡◌, ◌≤◌, ◌<◌, ◌++◌, ◌-◌, ℕ, zero, suc, Bool, true, false, List, [], ◌∷◌, length, map, Ok, Err, Option, Some, None, refl, sym, ap, ◌∙◌, subst, arith, append_assoc}
use Rattle.std.specs.Prelude.{All, nat_lt, option_map, slice_get, take, if◌then◌else◌}
use Rattle.std.proofs.lemmas.List.{append-nil, length-map}
use Rattle.std.proofs.lemmas.List.Elements.{All-nil, All-cons}
use Rattle.std.proofs.lemmas.Option.{slice_get-map}
use Rattle.base.proofs.Lists.{all_of, unmapped}
use Rattle.machine_isa.specs.declared.instr.Instr.{Instr}
use Rattle.machine_semantics.specs.Image.{Monitor, Process}
use Rattle.image.specs.Bytes.{Version}
use Rattle.image.specs.Raw.{monitor_of, process_of}
use Rattle.image.specs.Named.{NamedImage}
use Rattle.image.specs.declared.names.ConditionName.{ConditionName}
use Rattle.image.specs.declared.names.DeviceName.{DeviceName}
use Rattle.image.specs.declared.names.EventName.{EventName}
use Rattle.image.specs.declared.raw.RawProcess.{RawProcess}
use Rattle.image.specs.declared.raw.RawImage.{RawImage}
use Rattle.image_reader.specs.declared.counts.Counts.{Counts}
use Rattle.image_reader.specs.Answer.{Holds, parts_of}
use Rattle.image_format.specs.Format.{Format, ◌>>=◌, each_read, fault, both}
use Rattle.image_format.specs.TreeFormat.{u32_within, u16_within}
use Rattle.image_reader.specs.Grammar as g
use Rattle.image_reader.specs.File as f
use Rattle.image_format.proofs.Sound.{came}
use Rattle.event_log.specs.InRange.{IsShort}
use Rattle.script.specs.Scripts.{frame_of}
use Rattle.image_reader_law.proofs.Readings.{two, seen, many, in_u16}
use Rattle.image_reader_law.specs.ReadNames.{ImagesReadAreNamed}
use Rattle.image_reader_law.proofs.Frames.{frame_at, frame_is}
use Rattle.image_reader_law.proofs.ReadNamesFields.{IsKnown, IsPlaced, condition_placed, device_short, monitor_short, process_known}
use Rattle.image_reader_law.proofs.ImageSoundFiles.{ended_is}
use Rattle.image_reader_law.proofs.ImageFaultsWhole.{Work, Guarded, Named, Content, parts_with}
use Rattle.image_reader_law.proofs.Limits.{further_counts, other_counts, all_counts, counts_with, Full}
use Rattle.image_format.proofs.Alike.{okay, same_ok}

-- ---- one after another

-- the thing was read somewhere
record WasRead {A : Type 0} (f : Format A) (x : A) : Type 0 where
  bytes : List ℕ
  rest : List ℕ
  was : f.read bytes ≡ Ok (x, rest)

-- each of the list was read after those before it
abbrev InTurn : {A : Type 0} → (List A → Format A) → (earlier xs : List A) → Type 0
InTurn f earlier xs = (k : ℕ) (x : _) → slice_get xs k ≡ Some x → WasRead (f (earlier ++ take k xs)) x

one_more : {A : Type 0} (f : List A → Format A) (earlier : List A) (bytes rest : List ℕ) (x : A) (xs : List A) → (f earlier).read bytes ≡ Ok (x, rest) → InTurn f (earlier ++ x ∷ []) xs → InTurn f earlier (x ∷ xs)
one_more f earlier bytes rest x xs is others zero y at =
    let same : x ≡ y = cc in
    subst (λ (v : _). WasRead (f (earlier ++ [])) v) same (subst (λ (before : List _). WasRead (f before) x) (sym (append-nil earlier)) (record { bytes = bytes; rest = rest; was = is }))
one_more f earlier bytes rest x xs is others (suc k) y at = subst (λ (before : List _). WasRead (f before) y) (append_assoc earlier (x ∷ []) (take k xs)) (others k y at)

in_turn : {A : Type 0} (f : List A → Format A) (earlier : List A) (count : ℕ) (bytes : List ℕ) (z : List A × List ℕ) → each_read f earlier count bytes ≡ Ok z → InTurn f earlier z.0
unfolding each_read
in_turn f earlier zero bytes z is = subst (λ (y : List _ × List ℕ). InTurn f earlier y.0) (same_ok ([], bytes) z is) (λ k x at. absurd cc)
in_turn f earlier (suc n) bytes z is =
    let a = came ((f earlier).read bytes) (λ x. each_read f (earlier ++ x.0 ∷ []) n x.1 >>= λ xs. Ok (x.0 ∷ xs.0, xs.1)) z is in
    let b = came (each_read f (earlier ++ a.x.0 ∷ []) n a.x.1) (λ xs. Ok (a.x.0 ∷ xs.0, xs.1)) z a.then_is in
    subst (λ (y : List _ × List ℕ). InTurn f earlier y.0) (same_ok (a.x.0 ∷ b.x.0, b.x.1) z b.then_is) (one_more f earlier bytes a.x.1 a.x.0 b.x.0 a.was (in_turn f (earlier ++ a.x.0 ∷ []) n a.x.1 b.x b.was))

-- what is known of each element of a list
abbrev Each : {X : Type 0} → (X → Type 0) → List X → Type 0
Each P xs = (k : ℕ) (x : _) → slice_get xs k ≡ Some x → P x

-- what is known of the processes, each after those before it
abbrev AreProcesses : ℕ → List (List ℕ × Process) → Type 0
AreProcesses events ps = (k : ℕ) (x : List ℕ × Process) → slice_get ps k ≡ Some x → IsKnown events (f.used_by (take k ps)) x

-- what is known of the parts of a file
record AreKnown (ps : f.Parts) : Type 0 where
  processes : AreProcesses (length ps.events) ps.processes
  monitors : Each (λ (m : List ℕ × Monitor). IsShort m.0) ps.monitors
  conditions : Each (IsPlaced (length ps.monitors)) ps.conditions
  devices : Each (λ (d : DeviceName). IsShort d.name) ps.devices
  few_conditions : length ps.conditions ≤ 256
  few_devices : length ps.devices ≤ 64

-- the same, by the counts
record GuardedKnown (counts : Counts) (x : Guarded) : Type 0 where
  long : length x.0 ≡ counts.monitors
  monitors : Each (λ (m : List ℕ × Monitor). IsShort m.0) x.0
  many : length x.1.0 ≡ counts.conditions
  conditions : Each (IsPlaced counts.monitors) x.1.0
  processes : AreProcesses counts.events x.1.1.1.0

module _ (version : Version) (counts : Counts) (taken : List (List ℕ)) where
  abbrev with_code : List (List ℕ × Process) → Format (List Instr)
  with_code processes = f.code_format (f.all_used (f.used_by processes) 0 counts.events) counts.code

  abbrev with_processes : Format (List (List ℕ × Process) × List Instr)
  with_processes = both (f.processes_format version counts taken) with_code

  work_known : (bytes : List ℕ) (w : Work) (rest : List ℕ) → (f.work_format version counts taken).read bytes ≡ Ok (w, rest) → AreProcesses counts.events w.1.0
  work_known bytes w rest is =
      let one = two (f.routines_format counts) (λ routines. with_processes) bytes (w, rest) is in
      let next = two (f.processes_format version counts taken) with_code one.rest (w.1, rest) one.two in
      let ps = in_turn (λ earlier. g.named_process_format version counts (taken ++ map (λ p. p.0) earlier) (f.used_by earlier)) [] counts.processes one.rest (w.1.0, next.rest) next.one in
      λ k x at. (let o = ps k x at in process_known version counts (f.used_by (take k w.1.0)) (taken ++ map (λ p. p.0) (take k w.1.0)) o.bytes x o.rest o.was)

module _ (version : Version) (counts : Counts) where
  abbrev after_monitors : List (List ℕ) → List (List ℕ × Monitor) → Format (List ConditionName × Work)
  after_monitors taken monitors = both (f.conditions_format counts (f.with_monitors taken monitors)) (λ conditions. f.work_format version counts (f.with_monitors taken monitors))

  abbrev after_events : List (List ℕ) → List DeviceName → List (List ℕ) → Format Guarded
  after_events taken devices events = f.guarded_format version counts (f.with_devices taken devices ++ events)

  abbrev after_devices : List (List ℕ) → List DeviceName → Format (List (List ℕ) × Guarded)
  after_devices taken devices = both (f.events_format counts (f.with_devices taken devices)) (after_events taken devices)

  guarded_known : (taken : List (List ℕ)) (bytes : List ℕ) (x : Guarded) (rest : List ℕ) → (f.guarded_format version counts taken).read bytes ≡ Ok (x, rest) → GuardedKnown counts x
  guarded_known taken bytes x rest is =
      let m = two (f.monitors_format counts taken) (after_monitors taken) bytes (x, rest) is in
      let c = two (f.conditions_format counts (f.with_monitors taken x.0)) (λ conditions. f.work_format version counts (f.with_monitors taken x.0)) m.rest (x.1, rest) m.two in
      let ms = many (λ earlier. g.named_monitor_format (taken ++ map (λ m. m.0) earlier)) [] counts.monitors bytes (x.0, m.rest) m.one in
      let cs = many (g.condition_format (f.with_monitors taken x.0) counts.monitors) [] counts.conditions m.rest (x.1.0, c.rest) c.one in
      record {
        long = ms.long;
        monitors = λ k y at. (let o = ms.each k y at in monitor_short (taken ++ map (λ m. m.0) o.earlier) o.bytes y o.rest o.was);
        many = cs.long;
        conditions = λ k y at. (let o = cs.each k y at in condition_placed (f.with_monitors taken x.0) counts.monitors o.earlier o.bytes y o.rest o.was);
        processes = work_known version counts (f.with_monitors taken x.0) c.rest x.1.1 rest c.two;
      }

abbrev last_counts : Format (ℕ × (ℕ × (ℕ × ℕ)))
last_counts = both (u16_within 0 64) (λ devices. both (u16_within 0 64) (λ events. both (u16_within 0 512) (λ routines. u32_within 0 65535)))

abbrev end_counts : Format (ℕ × (ℕ × ℕ))
end_counts = both (u16_within 0 64) (λ events. both (u16_within 0 512) (λ routines. u32_within 0 65535))

record AreFew (c : Counts) : Type 0 where
  conditions : c.conditions ≤ 256
  devices : c.devices ≤ 64

counted : (bytes : List ℕ) (c : Counts) (rest : List ℕ) → g.counts_format.read bytes ≡ Ok (c, rest) → AreFew c
counted bytes c rest is =
    let s = seen counts_with all_counts bytes (c, rest) is in
    let p = two (u16_within 1 64) (λ processes. other_counts) bytes (s.x, rest) s.was in
    let m = two (u16_within 0 64) (λ monitors. further_counts) p.rest (s.x.1, rest) p.two in
    let q = two (u16_within 0 256) (λ conditions. last_counts) m.rest (s.x.1.1, rest) m.two in
    let d = two (u16_within 0 64) (λ devices. end_counts) q.rest (s.x.1.1.1, rest) q.two in
    subst AreFew s.seen (record { conditions = (in_u16 0 256 m.rest s.x.1.1.0 q.rest q.one).1; devices = (in_u16 0 64 q.rest s.x.1.1.1.0 d.rest d.one).1 })

module _ (version : Version) where
  abbrev after_name : Counts → Format (List ℕ × Named)
  after_name counts = both (g.name_format []) (λ program. f.named_format version counts program)

  abbrev after_over : Format (Counts × (List ℕ × Named))
  after_over = both g.counts_format after_name

  abbrev content : Format Content
  content = both (f.over_format version) (λ over. after_over)

  content_known : (bytes : List ℕ) (x : Content) (rest : List ℕ) → content.read bytes ≡ Ok (x, rest) → AreKnown (parts_with x)
  content_known bytes x rest is =
      let counts : Counts = x.1.0 in
      let program : List ℕ = x.1.1.0 in
      let named : Named = x.1.1.1 in
      let over = two (f.over_format version) (λ over. after_over) bytes (x, rest) is in
      let count = two g.counts_format after_name over.rest (x.1, rest) over.two in
      let name = two (g.name_format []) (λ program. f.named_format version counts program) count.rest (x.1.1, rest) count.two in
      let d = two (f.devices_format counts (program ∷ [])) (after_devices version counts (program ∷ [])) name.rest (named, rest) name.two in
      let e = two (f.events_format counts (f.with_devices (program ∷ []) named.0)) (after_events version counts (program ∷ []) named.0) d.rest (named.1, rest) d.two in
      let ds = many (λ earlier. g.device_format ((program ∷ []) ++ map (λ d. d.name) earlier)) [] counts.devices name.rest (named.0, d.rest) d.one in
      let es = many (λ earlier. g.name_format (f.with_devices (program ∷ []) named.0 ++ earlier)) [] counts.events d.rest (named.1.0, e.rest) e.one in
      let c = counted over.rest counts count.rest count.one in
      let n = guarded_known version counts (f.with_devices (program ∷ []) named.0 ++ named.1.0) e.rest named.1.1 rest e.two in
      record {
        processes = λ k y at. subst (λ (events : ℕ). IsKnown events (f.used_by (take k named.1.1.1.1.1.0)) y) (sym es.long) (n.processes k y at);
        monitors = n.monitors;
        conditions = λ k y at. subst (λ (m : ℕ). IsPlaced m y) (sym n.long) (n.conditions k y at);
        devices = λ k y at. (let o = ds.each k y at in device_short ((program ∷ []) ++ map (λ d. d.name) o.earlier) o.bytes y o.rest o.was);
        few_conditions = omega (arith, n.many, c.conditions);
        few_devices = omega (arith, ds.long, c.devices);
      }

  parts_known : (bytes : List ℕ) (ps : f.Parts) (rest : List ℕ) → (f.parts_format version).read bytes ≡ Ok (ps, rest) → AreKnown ps
  parts_known bytes ps rest is =
      let s = seen parts_with content bytes (ps, rest) is in
      subst AreKnown s.seen (content_known bytes s.x rest s.was)

file_known : (bytes : List ℕ) (version : Version) (ps : f.Parts) (rest : List ℕ) → f.image_format.read bytes ≡ Ok ((version, ps), rest) → AreKnown ps
file_known bytes version ps rest is =
    let s = seen (λ (x : Full). x.1) (both f.magic_format (λ magic. both f.version_format f.parts_format)) bytes ((version, ps), rest) is in
    let m = two f.magic_format (λ magic. both f.version_format f.parts_format) bytes (s.x, rest) s.was in
    let v = two f.version_format f.parts_format m.rest (s.x.1, rest) m.two in
    let e : s.x.1.1 ≡ ps = ap (λ (y : Version × f.Parts). y.1) s.seen in
    subst AreKnown e (parts_known s.x.1.0 v.rest s.x.1.1 rest v.two)

file_read_known : (bytes : List ℕ) (version : Version) (ps : f.Parts) → f.read_file bytes ≡ Ok ((version, ps), []) → AreKnown ps
unfolding f.read_file
file_read_known bytes version ps is = by (nat_lt f.longest (length bytes)) is where
  by : (b : Bool) → (if b then Err (fault 9 (length bytes - f.longest)) else f.whole_read bytes) ≡ Ok ((version, ps), []) → AreKnown ps
  by true e = absurd cc
  by false e =
      let a = came (f.image_format.read bytes) f.ended ((version, ps), []) e in
      let same : a.x ≡ ((version, ps), []) = ended_is a.x ((version, ps), []) a.then_is in
      file_known bytes version ps [] (a.was ∙ ap (λ x. okay x) same)

-- ---- lists

mapped : {X Y : Type 0} (P : Y → Type 0) (to : X → Y) (xs : List X) → ((k : ℕ) (x : X) → slice_get xs k ≡ Some x → P (to x)) → All P (map to xs)
mapped P to [] each = All-nil P
mapped P to (x ∷ xs) each = All-cons P (to x) (map to xs) (each 0 x refl) (mapped P to xs (λ k y at. each (suc k) y at))

-- ---- the frames of events

frames_are : (ps : f.Parts) → AreKnown ps → (events : List EventName) → events ≡ f.framed 0 ps.events (map (λ (x : List ℕ × Process). x.1) ps.processes)
    → (k : ℕ) (p : Process) → slice_get (map (λ (x : List ℕ × Process). x.1) ps.processes) k ≡ Some p → p.kind ≡ 1 → frame_at events p.event ≡ p.frame
frames_are ps l events are k p at kind = by (slice_get ps.processes k) refl where
  by : (o : Option (List ℕ × Process)) → slice_get ps.processes k ≡ o → frame_at events p.event ≡ p.frame
  by None there = absurd (let e : None ≡ Some p = sym (slice_get-map (λ (x : List ℕ × Process). x.1) ps.processes k ∙ ap (λ o. option_map (λ (x : List ℕ × Process). x.1) o) there) ∙ at in cc)
  by (Some x) there =
      let same : x.1 ≡ p = (let e : Some x.1 ≡ Some p = sym (slice_get-map (λ (x : List ℕ × Process). x.1) ps.processes k ∙ ap (λ o. option_map (λ (x : List ℕ × Process). x.1) o) there) ∙ at in cc) in
      let of_kind : x.1.kind ≡ 1 = ap (λ (q : Process). q.kind) same ∙ kind in
      ap (λ (es : List EventName). frame_at es p.event) are
      ∙ subst (λ (q : Process). frame_at (f.framed 0 ps.events (map (λ (x : List ℕ × Process). x.1) ps.processes)) q.event ≡ q.frame) same (frame_is ps.events ps.processes k x there of_kind (l.processes k x there).kind.event)

-- ---- the law

pub read_names : ImagesReadAreNamed
read_names bytes raw holds =
    let ps : f.Parts = parts_of raw in
    let l : AreKnown ps = file_read_known bytes holds.version ps holds.is_read in
    let processes : raw.names.processes ≡ map (λ (x : List ℕ × Process). x.0) ps.processes = ap (λ (n : NamedImage). n.names.processes) holds.image in
    let monitors : raw.names.monitors ≡ map (λ (x : List ℕ × Monitor). x.0) ps.monitors = ap (λ (n : NamedImage). n.names.monitors) holds.image in
    let bodies : map process_of raw.processes ≡ map (λ (x : List ℕ × Process). x.1) ps.processes = ap (λ (n : NamedImage). n.image.processes) holds.image in
    let areas : map monitor_of raw.monitors ≡ map (λ (x : List ℕ × Monitor). x.1) ps.monitors = ap (λ (n : NamedImage). n.image.monitors) holds.image in
    let events_are : raw.names.events ≡ f.framed 0 ps.events (map (λ (x : List ℕ × Process). x.1) ps.processes) = ap (λ (n : NamedImage). n.names.events) holds.image in
    let as_many : length raw.names.monitors ≡ length ps.monitors = ap length monitors ∙ length-map ps.monitors (λ (x : List ℕ × Monitor). x.0) in
    record {
      sound = record {
        processes = subst (λ (names : List (List ℕ)). All IsShort names) (sym processes) (mapped IsShort (λ (x : List ℕ × Process). x.0) ps.processes (λ k x at. (l.processes k x at).short));
        monitors = subst (λ (names : List (List ℕ)). All IsShort names) (sym monitors) (mapped IsShort (λ (x : List ℕ × Monitor). x.0) ps.monitors l.monitors);
        conditions = all_of (λ (c : ConditionName). IsShort c.name) raw.names.conditions (λ k c at. (l.conditions k c at).short);
        placed = all_of (λ (c : ConditionName). c.mon < length raw.names.monitors) raw.names.conditions (λ k c at. (let placed = (l.conditions k c at).placed in omega (arith, placed, as_many)));
        devices = all_of (λ (d : DeviceName). IsShort d.name) raw.names.devices l.devices;
      };
      processes =
          ap length processes ∙ (length-map ps.processes (λ (x : List ℕ × Process). x.0)
          ∙ (sym (length-map ps.processes (λ (x : List ℕ × Process). x.1)) ∙ (ap length (sym bodies) ∙ length-map raw.processes process_of)));
      monitors = as_many ∙ (sym (length-map ps.monitors (λ (x : List ℕ × Monitor). x.1)) ∙ (ap length (sym areas) ∙ length-map raw.monitors monitor_of));
      conditions = l.few_conditions;
      devices = l.few_devices;
      kinds =
          unmapped (λ (p : Process). p.kind ≤ 1) process_of raw.processes
          (subst (λ (qs : List Process). All (λ (p : Process). p.kind ≤ 1) qs) (sym bodies) (mapped (λ (p : Process). p.kind ≤ 1) (λ (x : List ℕ × Process). x.1) ps.processes (λ k x at. (l.processes k x at).kind.low)));
      frames = subst (λ (qs : List Process). (k : ℕ) (p : Process) → slice_get qs k ≡ Some p → p.kind ≡ 1 → frame_of raw.names p.event ≡ p.frame) (sym bodies) (frames_are ps l raw.names.events events_are);
    }

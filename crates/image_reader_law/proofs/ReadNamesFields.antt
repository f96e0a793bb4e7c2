-- What the fields of names and processes tell.
use Rattle.std.proofs.Common.{◌≡◌, ◌≤◌, ◌<◌, ◌++◌, ℕ, zero, suc, Bool, true, false, List, [], ◌∷◌, length, map, take, drop, Ok, Err, Option, Some, None, refl, sym, ap, ◌∙◌, subst, arith}
use Rattle.std.specs.Prelude.{nat_le, nat_lt, not, if◌then◌else◌}
use Rattle.std.proofs.lemmas.Bool.Decides.{nat_tests}
use Rattle.image.specs.Bytes.{Version}
use Rattle.image.specs.declared.names.ConditionName.{ConditionName}
use Rattle.image.specs.declared.names.DeviceName.{DeviceName}
use Rattle.image_reader.specs.declared.counts.Counts.{Counts}
use Rattle.image_format.specs.Format.{Format, field_at, fault, u8, u16, u32, bytes_as_are, unless, checked, both, via}
use Rattle.image_format.specs.TreeFormat.{in_image, within, u32_within, u16_within, u16_below, tree_format}
use Rattle.image_reader.specs.Grammar as g
use Rattle.event_log.specs.InRange.{IsShort}
use Rattle.machine_semantics.specs.Trees.{Segs}
use Rattle.machine_semantics.specs.Image.{Monitor, Process}
use Rattle.image_reader_law.proofs.Readings.{kept, two, seen, fine_is, between, below}
use Rattle.image_format.proofs.Alike.{same_ok}

-- ---- names

length_take : (n : ℕ) (xs : List ℕ) → length (take n xs) ≤ n
length_take zero [] = omega arith
length_take zero (x ∷ xs) = omega arith
length_take (suc n) [] = omega arith
length_take (suc n) (x ∷ xs) = let rest = length_take n xs in omega (arith, rest)

bytes_long : (size : ℕ) (bytes : List ℕ) (z : List ℕ × List ℕ) → (bytes_as_are size).read bytes ≡ Ok z → length z.0 ≤ size
bytes_long size bytes z is = by (nat_lt (length bytes) size) is where
  by : (b : Bool) → (if b then Err (fault 2 0) else Ok (take size bytes, drop size bytes)) ≡ Ok z → length z.0 ≤ size
  by true e = absurd cc
  by false e = subst (λ (y : List ℕ × List ℕ). length y.0 ≤ size) (same_ok (take size bytes, drop size bytes) z e) (length_take size bytes)

abbrev sized : Format (ℕ × List ℕ)
sized = both (checked u8 (within 0 63)) bytes_as_are

pub name_short : (taken : List (List ℕ)) (bytes : List ℕ) (name rest : List ℕ) → (g.name_format taken).read bytes ≡ Ok (name, rest) → IsShort name
name_short taken bytes name rest is =
    let k = kept (via (λ (x : ℕ × List ℕ). x.1) (λ (n : List ℕ). (length n, n)) sized) (g.wrong_name taken) bytes (name, rest) is in
    let s = seen (λ (x : ℕ × List ℕ). x.1) sized bytes (name, rest) k.was in
    let b = two (checked u8 (within 0 63)) bytes_as_are bytes (s.x, rest) s.was in
    let low = between 0 63 s.x.0 (kept u8 (within 0 63) bytes (s.x.0, b.rest) b.one).fine in
    let long : length s.x.1 ≤ s.x.0 = bytes_long s.x.0 b.rest (s.x.1, rest) b.two in
    let short : length s.x.1 ≤ 63 = omega (arith, low.1, long) in
    subst (λ (n : List ℕ). length n ≤ 63) s.seen short

abbrev device_with : List ℕ × Bool → DeviceName
device_with x = record { name = x.0; out = x.1 }

pub device_short : (taken : List (List ℕ)) (bytes : List ℕ) (d : DeviceName) (rest : List ℕ) → (g.device_format taken).read bytes ≡ Ok (d, rest) → IsShort d.name
device_short taken bytes d rest is =
    let s = seen device_with (both (g.name_format taken) (λ name. g.flag_format 6)) bytes (d, rest) is in
    let n = two (g.name_format taken) (λ name. g.flag_format 6) bytes (s.x, rest) s.was in
    subst (λ (y : DeviceName). length y.name ≤ 63) s.seen (name_short taken bytes s.x.0 n.rest n.one)

pub monitor_short : (taken : List (List ℕ)) (bytes : List ℕ) (m : List ℕ × Monitor) (rest : List ℕ) → (g.named_monitor_format taken).read bytes ≡ Ok (m, rest) → IsShort m.0
monitor_short taken bytes m rest is =
    let n = two (g.name_format taken) (λ name. g.monitor_format) bytes (m, rest) is in
    name_short taken bytes m.0 n.rest n.one

-- a condition has a short name, and stands in a monitor that is there
pub record IsPlaced (monitors : ℕ) (c : ConditionName) : Type 0 where
  pub short : IsShort c.name
  pub placed : c.mon < monitors

abbrev condition_with : List ℕ × ℕ → ConditionName
condition_with x = record { name = x.0; mon = x.1 }

pub condition_placed : (taken : List (List ℕ)) (monitors : ℕ) (earlier : List ConditionName) (bytes : List ℕ) (c : ConditionName) (rest : List ℕ) → (g.condition_format taken monitors earlier).read bytes ≡ Ok (c, rest) → IsPlaced monitors c
condition_placed taken monitors earlier bytes c rest is =
    let k = kept (via condition_with (λ (c : ConditionName). (c.name, c.mon)) (both (g.name_format taken) (λ name. u16_below monitors))) (λ c. unless (not (g.is_again earlier c)) 5) bytes (c, rest) is in
    let s = seen condition_with (both (g.name_format taken) (λ name. u16_below monitors)) bytes (c, rest) k.was in
    let n = two (g.name_format taken) (λ name. u16_below monitors) bytes (s.x, rest) s.was in
    let m = kept u16 (λ n. unless (nat_lt n monitors) 4) n.rest (s.x.1, rest) n.two in
    subst (λ (y : ConditionName). IsPlaced monitors y) s.seen (record { short = name_short taken bytes s.x.0 n.rest n.one; placed = below s.x.1 monitors 4 m.fine })

-- ---- the kind of a process

-- a process is of one of the two kinds, and its event is right after those that are used
pub record HasKind (events : ℕ) (used : List ℕ) (p : Process) : Type 0 where
  pub low : p.kind ≤ 1
  pub event : g.wrong_event events used p.kind p.event ≡ None

-- a process has a short name, and its kind
pub record IsKnown (events : ℕ) (used : List ℕ) (x : List ℕ × Process) : Type 0 where
  pub short : IsShort x.0
  pub kind : HasKind events used x.1

module _ (version : Version) (counts : Counts) (used : List ℕ) where
  abbrev with_event : ℕ → Format (ℕ × ℕ)
  with_event kind = both (checked u16 (g.wrong_event counts.events used kind)) (λ event. u16)

  abbrev with_first : ℕ → Format (ℕ × (ℕ × ℕ))
  with_first kind = both (checked (u32_within 0 1000000000) (g.wrong_first kind)) (λ first. with_event kind)

  abbrev with_deadline : ℕ → ℕ → Format (ℕ × (ℕ × (ℕ × ℕ)))
  with_deadline kind frame = both (g.deadline_format version frame) (λ deadline. with_first kind)

  abbrev with_frame : ℕ → Format (ℕ × (ℕ × (ℕ × (ℕ × ℕ))))
  with_frame kind = both (u32_within 10 1000000000) (with_deadline kind)

  abbrev kind_format : Format ℕ
  kind_format = checked u8 (λ kind. unless (nat_le kind 1) 6)

  abbrev Rest : Type 0
  Rest = (ℕ × (ℕ × (ℕ × (ℕ × ℕ)))) × ((ℕ × (ℕ × (ℕ × ℕ))) × ((ℕ × ℕ) × (List ℕ × (Segs × Option Segs))))

  abbrev rest_format : Format Rest
  rest_format =
      both g.time_format (λ time. both g.room_format (λ room. both g.handler_format (λ handler.
      both (g.numbers_format handler.1) (λ numbers. both (tree_format (in_image counts.monitors) g.deepest) (λ body. g.handler_tree_format counts.monitors handler.1)))))

  abbrev All : Type 0
  All = (ℕ × (ℕ × (ℕ × (ℕ × (ℕ × ℕ))))) × Rest

  abbrev process_with : All → Process
  process_with x = record {
    kind = x.0.0;
    frame = x.0.1.0;
    deadline = x.0.1.1.0;
    first = x.0.1.1.1.0;
    event = x.0.1.1.1.1.0;
    rank = x.0.1.1.1.1.1;
    run = x.1.0.0;
    susp = x.1.0.1.0;
    waits = x.1.0.1.1.0;
    block = x.1.0.1.1.1.0;
    bound = x.1.0.1.1.1.1;
    words = x.1.1.0.0;
    stack = x.1.1.0.1.0;
    locals = x.1.1.0.1.1.0;
    start = x.1.1.0.1.1.1;
    handler = x.1.1.1.0.0;
    numbers = x.1.1.1.1.0;
    body = x.1.1.1.1.1.0;
    handler_tree = x.1.1.1.1.1.1;
  }

  process_kind : (bytes : List ℕ) (p : Process) (rest : List ℕ) → (g.process_format version counts used).read bytes ≡ Ok (p, rest) → HasKind counts.events used p
  process_kind bytes p rest is =
      let s = seen process_with (both (g.release_format version counts.events used) (λ release. rest_format)) bytes (p, rest) is in
      let r = two (g.release_format version counts.events used) (λ release. rest_format) bytes (s.x, rest) s.was in
      let kind = two kind_format with_frame bytes (s.x.0, r.rest) r.one in
      let frame = two (u32_within 10 1000000000) (with_deadline s.x.0.0) kind.rest (s.x.0.1, r.rest) kind.two in
      let deadline = two (g.deadline_format version s.x.0.1.0) (λ deadline. with_first s.x.0.0) frame.rest (s.x.0.1.1, r.rest) frame.two in
      let first = two (checked (u32_within 0 1000000000) (g.wrong_first s.x.0.0)) (λ first. with_event s.x.0.0) deadline.rest (s.x.0.1.1.1, r.rest) deadline.two in
      let event = two (checked u16 (g.wrong_event counts.events used s.x.0.0)) (λ event. u16) first.rest (s.x.0.1.1.1.1, r.rest) first.two in
      let test : nat_le s.x.0.0 1 ≡ true = fine_is (nat_le s.x.0.0 1) 6 (kept u8 (λ kind. unless (nat_le kind 1) 6) bytes (s.x.0.0, kind.rest) kind.one).fine in
      subst (λ (y : Process). HasKind counts.events used y) s.seen (record {
        low = grind (arith, nat_tests, test);
        event = (kept u16 (g.wrong_event counts.events used s.x.0.0) first.rest (s.x.0.1.1.1.1.0, event.rest) event.one).fine;
      })

  pub process_known : (taken : List (List ℕ)) (bytes : List ℕ) (x : List ℕ × Process) (rest : List ℕ) → (g.named_process_format version counts taken used).read bytes ≡ Ok (x, rest) → IsKnown counts.events used x
  process_known taken bytes x rest is =
      let n = two (g.name_format taken) (λ name. g.process_format version counts used) bytes (x, rest) is in
      record { short = name_short taken bytes x.0 n.rest n.one; kind = process_kind n.rest x.1 rest n.two }

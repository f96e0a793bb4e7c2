-- The bytes of names, counts, routines and processes are those that they are read from.
use Rattle.std.proofs.Common.{◌≡◌, ◌<◌, ◌||◌, ◌==◌, ◌++◌, ℕ, zero, suc, Bool, true, List, [], ◌∷◌, length, take, Ok, Err, Option, Some, None, refl, ap, subst}
use Rattle.std.specs.Prelude.{not, nat_lt, nat_le, nat_eq}
use Rattle.std.proofs.lemmas.Bool.{eqb-true, eq-eqb, and_parts}
use Rattle.machine_semantics.specs.Image.{Process}
use Rattle.machine_semantics.specs.Trees.{Segs}
use Rattle.image.specs.Bytes.{Version, First, Second}
use Rattle.image.specs.declared.names.ConditionName.{ConditionName}
use Rattle.image_reader.specs.declared.counts.Counts.{Counts}
use Rattle.image_format.specs.Format.{Format, ◌>>=◌, fault, u8, u16, u32, bytes_as_are, unless, checked, both, via, each_is}
use Rattle.image_format.specs.TreeFormat.{in_image, within, u32_within, u16_within, u16_below, tree_format}
use Rattle.image_reader.specs.Grammar as g
use Rattle.image_format.specs.FormatLaw.{IsSound}
use Rattle.image_format.proofs.Sound.{came, checked_sound, both_sound, via_sound, given_sound, each_sound}
use Rattle.image_format.proofs.SoundFields.{u8_sound, u16_sound, u32_sound, bytes_sound}
use Rattle.image_format.proofs.Alike.{same_ok}
use Rattle.image_format.proofs.Trees.{tree_sound}
use Rattle.image_reader_law.proofs.ImageFaultsFields.{flag_sound}
use Rattle.image_reader_law.proofs.Grammar.{size_format, from_routines, from_events, from_devices, from_conditions, from_monitors, kind_format, from_locals, from_params, after_kind, cost_from_waits, cost_from_susp, cost_from_run, Whole, after_owner}

-- where the second does not depend on the first
pub pair_sound : {A B : Type 0} (f : Format A) (h : Format B) → IsSound f → IsSound h → IsSound (both f (λ x. h))
pair_sound f h s t = both_sound f (λ x. h) s (λ x. t)

pub u32_within_sound : (low high : ℕ) → IsSound (u32_within low high)
u32_within_sound low high = checked_sound u32 (within low high) u32_sound

pub u16_within_sound : (low high : ℕ) → IsSound (u16_within low high)
u16_within_sound low high = checked_sound u16 (within low high) u16_sound

cost_sound : IsSound g.cost
cost_sound = u32_within_sound 0 1000000001

-- ---- names

pub name_sound : (taken : List (List ℕ)) → IsSound (g.name_format taken)
name_sound taken =
    checked_sound (via (λ (x : ℕ × List ℕ). x.1) (λ name. (length name, name)) (both size_format bytes_as_are)) (g.wrong_name taken)
    (via_sound (λ (x : ℕ × List ℕ). x.1) (λ name. (length name, name)) (both size_format bytes_as_are) sized (λ y h. refl)
    (both_sound size_format bytes_as_are (checked_sound u8 (within 0 63) u8_sound) bytes_sound))
  where
    sized : (x : ℕ × List ℕ) → (both size_format bytes_as_are).is x ≡ true → (length x.1, x.1) ≡ x
    sized x h =
        let e : length x.1 ≡ x.0 = eqb-true (length x.1) x.0 (and_parts (size_format.is x.0) (length x.1 == x.0) h).1 in
        ap (λ n. (n, x.1)) e

-- ---- devices, monitors and conditions

pub device_sound : (taken : List (List ℕ)) → IsSound (g.device_format taken)
device_sound taken =
    via_sound (λ (x : List ℕ × Bool). record { name = x.0; out = x.1 }) (λ d. (d.name, d.out)) (both (g.name_format taken) (λ name. g.flag_format 6)) (λ x h. refl) (λ y h. refl)
    (pair_sound (g.name_format taken) (g.flag_format 6) (name_sound taken) (flag_sound 6))

monitor_sound : IsSound g.monitor_format
monitor_sound =
    via_sound (λ (x : ℕ × (ℕ × ℕ)). record { base = x.0; words = x.1.0; ceiling = x.1.1 }) (λ m. (m.base, (m.words, m.ceiling))) (both u32 (λ base. both u32 (λ words. u16))) (λ x h. refl) (λ y h. refl)
    (pair_sound u32 (both u32 (λ words. u16)) u32_sound (pair_sound u32 u16 u32_sound u16_sound))

pub named_monitor_sound : (taken : List (List ℕ)) → IsSound (g.named_monitor_format taken)
named_monitor_sound taken = pair_sound (g.name_format taken) g.monitor_format (name_sound taken) monitor_sound

pub condition_sound : (taken : List (List ℕ)) (monitors : ℕ) (earlier : List ConditionName) → IsSound (g.condition_format taken monitors earlier)
condition_sound taken monitors earlier =
    checked_sound (via (λ (x : List ℕ × ℕ). record { name = x.0; mon = x.1 }) (λ c. (c.name, c.mon)) (both (g.name_format taken) (λ name. u16_below monitors))) (λ c. unless (not (g.is_again earlier c)) 5)
    (via_sound (λ (x : List ℕ × ℕ). record { name = x.0; mon = x.1 }) (λ c. (c.name, c.mon)) (both (g.name_format taken) (λ name. u16_below monitors)) (λ x h. refl) (λ y h. refl)
    (pair_sound (g.name_format taken) (u16_below monitors) (name_sound taken) (checked_sound u16 (λ n. unless (nat_lt n monitors) 4) u16_sound)))

-- ---- how much there is

pub counts_sound : IsSound g.counts_format
counts_sound =
    via_sound (λ (x : ℕ × (ℕ × (ℕ × (ℕ × (ℕ × (ℕ × ℕ)))))). record { processes = x.0; monitors = x.1.0; conditions = x.1.1.0; devices = x.1.1.1.0; events = x.1.1.1.1.0; routines = x.1.1.1.1.1.0; code = x.1.1.1.1.1.1 })
    (λ c. (c.processes, (c.monitors, (c.conditions, (c.devices, (c.events, (c.routines, c.code))))))) (both (u16_within 1 64) (λ processes. from_monitors)) (λ x h. refl) (λ y h. refl)
    (pair_sound (u16_within 1 64) from_monitors (u16_within_sound 1 64) (pair_sound (u16_within 0 64) from_conditions (u16_within_sound 0 64) (pair_sound (u16_within 0 256) from_devices (u16_within_sound 0 256)
    (pair_sound (u16_within 0 64) from_events (u16_within_sound 0 64) (pair_sound (u16_within 0 64) from_routines (u16_within_sound 0 64) (pair_sound (u16_within 0 512) (u32_within 0 65535) (u16_within_sound 0 512) (u32_within_sound 0 65535)))))))

-- ---- routines

kind_sound : (most : ℕ) → IsSound (kind_format most)
kind_sound most = checked_sound u8 (λ kind. unless (nat_le kind most) 6) u8_sound

owner_sound : (counts : Counts) → IsSound (g.owner_format counts)
owner_sound counts =
    both_sound (kind_format 2) (after_kind counts) (kind_sound 2) (λ kind.
    pair_sound (checked u16 (g.wrong_owner counts kind)) from_params (checked_sound u16 (g.wrong_owner counts kind) u16_sound) (pair_sound u16 from_locals u16_sound (pair_sound (u32_within 0 4096) (g.flag_format 4) (u32_within_sound 0 4096) (flag_sound 4))))

costs_sound : (kind : ℕ) → IsSound (g.cost_format kind)
costs_sound kind =
    pair_sound u32 (cost_from_run kind) u32_sound (pair_sound g.cost (cost_from_susp kind) cost_sound (pair_sound g.cost (cost_from_waits kind) cost_sound (pair_sound g.cost (checked g.cost (g.wrong_stay kind)) cost_sound (checked_sound g.cost (g.wrong_stay kind) cost_sound))))

pub routine_sound : (counts : Counts) → IsSound (g.routine_format counts)
routine_sound counts =
    via_sound
    (λ (x : Whole). record {
      kind = x.0.0;
      owner = x.0.1.0;
      params = x.0.1.1.0;
      locals = x.0.1.1.1.0;
      gives = x.0.1.1.1.1;
      start = x.1.0.0;
      run = x.1.0.1.0;
      susp = x.1.0.1.1.0;
      waits = x.1.0.1.1.1.0;
      stay = x.1.0.1.1.1.1;
      tree = x.1.1;
    })
    (λ r. ((r.kind, (r.owner, (r.params, (r.locals, r.gives)))), ((r.start, (r.run, (r.susp, (r.waits, r.stay)))), r.tree)))
    (both (g.owner_format counts) (after_owner counts)) (λ x h. refl) (λ y h. refl)
    (both_sound (g.owner_format counts) (after_owner counts) (owner_sound counts) (λ o. pair_sound (g.cost_format o.0) (tree_format (in_image counts.monitors) g.deepest) (costs_sound o.0) (tree_sound counts.monitors g.deepest)))

-- ---- processes

deadline_sound : (version : Version) (frame : ℕ) → IsSound (g.deadline_format version frame)
deadline_sound First frame = given_sound nat_eq frame (λ y h. eqb-true frame y h) (eq-eqb frame frame refl)
deadline_sound Second frame = u32_within_sound 10 frame

module _ (version : Version) (events : ℕ) (used : List ℕ) where
  abbrev from_event : ℕ → Format (ℕ × ℕ)
  from_event kind = both (checked u16 (g.wrong_event events used kind)) (λ event. u16)

  abbrev from_first : ℕ → Format (ℕ × (ℕ × ℕ))
  from_first kind = both (checked (u32_within 0 1000000000) (g.wrong_first kind)) (λ first. from_event kind)

  abbrev from_deadline : ℕ → ℕ → Format (ℕ × (ℕ × (ℕ × ℕ)))
  from_deadline kind frame = both (g.deadline_format version frame) (λ deadline. from_first kind)

  abbrev from_frame : ℕ → Format (ℕ × (ℕ × (ℕ × (ℕ × ℕ))))
  from_frame kind = both (u32_within 10 1000000000) (from_deadline kind)

  release_sound : IsSound (g.release_format version events used)
  release_sound =
      both_sound (kind_format 1) from_frame (kind_sound 1) (λ kind. both_sound (u32_within 10 1000000000) (from_deadline kind) (u32_within_sound 10 1000000000) (λ frame.
      pair_sound (g.deadline_format version frame) (from_first kind) (deadline_sound version frame)
      (pair_sound (checked (u32_within 0 1000000000) (g.wrong_first kind)) (from_event kind) (checked_sound (u32_within 0 1000000000) (g.wrong_first kind) (u32_within_sound 0 1000000000))
      (pair_sound (checked u16 (g.wrong_event events used kind)) u16 (checked_sound u16 (g.wrong_event events used kind) u16_sound) u16_sound))))

abbrev pub time_from_block : Format (ℕ × ℕ)
time_from_block = both g.cost (λ block. u32_within 1 1000000000)

abbrev pub time_from_waits : Format (ℕ × (ℕ × ℕ))
time_from_waits = both g.cost (λ waits. time_from_block)

abbrev pub time_from_susp : Format (ℕ × (ℕ × (ℕ × ℕ)))
time_from_susp = both g.cost (λ susp. time_from_waits)

time_sound : IsSound g.time_format
time_sound = pair_sound g.cost time_from_susp cost_sound (pair_sound g.cost time_from_waits cost_sound (pair_sound g.cost time_from_block cost_sound (pair_sound g.cost (u32_within 1 1000000000) cost_sound (u32_within_sound 1 1000000000))))

abbrev pub room_from_locals : Format (ℕ × ℕ)
room_from_locals = both (u32_within 0 4096) (λ locals. u32)

abbrev pub room_from_stack : Format (ℕ × (ℕ × ℕ))
room_from_stack = both (u32_within 0 4096) (λ stack. room_from_locals)

room_sound : IsSound g.room_format
room_sound = pair_sound u32 room_from_stack u32_sound (pair_sound (u32_within 0 4096) room_from_locals (u32_within_sound 0 4096) (pair_sound (u32_within 0 4096) u32 (u32_within_sound 0 4096) u32_sound))

handler_sound : IsSound g.handler_format
handler_sound = checked_sound (both u32 (λ handler. u16)) (λ (x : ℕ × ℕ). unless (nat_lt 0 x.1 || x.0 == 0) 7) (pair_sound u32 u16 u32_sound u16_sound)

numbers_sound : (count : ℕ) → IsSound (g.numbers_format count)
numbers_sound count = each_sound (λ earlier. checked u16 (g.wrong_number earlier)) (λ earlier. checked_sound u16 (g.wrong_number earlier) u16_sound) [] count

pub each_long : {A : Type 0} (f : List A → Format A) (earlier : List A) (count : ℕ) (xs : List A) → each_is f earlier count xs ≡ true → length xs ≡ count
each_long f earlier zero [] h = refl
each_long f earlier zero (x ∷ xs) h = cc
each_long f earlier (suc n) [] h = cc
each_long f earlier (suc n) (x ∷ xs) h = ap (λ k. suc k) (each_long f (earlier ++ x ∷ []) n xs (and_parts ((f earlier).is x) (each_is f (earlier ++ x ∷ []) n xs) h).1)

some_sound : (f : Format Segs) → IsSound f → IsSound (g.some_format f)
some_sound f s = record {
  back = λ bytes z are h.
      let a = came (f.read bytes) (λ x. Ok (Some x.0, x.1)) z h in
      let b = s.back bytes a.x are a.was in
      subst (λ (w : Option Segs × List ℕ). (bytes ≡ g.some_write f w.0 ++ w.1) × (g.some_is f w.0 ≡ true)) (same_ok (Some a.x.0, a.x.1) z a.then_is) b;
  again = again;
  cut = cut;
} where
  again : (o : Option Segs) (rest : List ℕ) → g.some_is f o ≡ true → (g.some_format f).read (g.some_write f o ++ rest) ≡ Ok (o, rest)
  again None rest h = cc
  again (Some tree) rest h = ap (λ r. r >>= λ x. Ok (Some x.0, x.1)) (s.again tree rest h)

  cut : (o : Option Segs) (k : ℕ) → g.some_is f o ≡ true → k < length (g.some_write f o) → (g.some_format f).read (take k (g.some_write f o)) ≡ Err (fault 2 0)
  cut None k h low = cc
  cut (Some tree) k h low = ap (λ r. r >>= λ x. Ok (Some x.0, x.1)) (s.cut tree k h low)

pub none_is : (o : Option Segs) → g.is_none o ≡ true → None ≡ o
none_is None h = refl
none_is (Some tree) h = cc

handler_tree_sound : (monitors count : ℕ) → IsSound (g.handler_tree_format monitors count)
handler_tree_sound monitors zero = given_sound (λ x y. g.is_none y) None none_is refl
handler_tree_sound monitors (suc count) = some_sound (tree_format (in_image monitors) g.deepest) (tree_sound monitors g.deepest)

abbrev pub Numbers : Type 0
Numbers = (ℕ × ℕ) × (List ℕ × (Segs × Option Segs))

abbrev pub Room : Type 0
Room = (ℕ × (ℕ × (ℕ × ℕ))) × Numbers

abbrev pub Time : Type 0
Time = (ℕ × (ℕ × (ℕ × (ℕ × ℕ)))) × Room

abbrev pub Fields : Type 0
Fields = (ℕ × (ℕ × (ℕ × (ℕ × (ℕ × ℕ))))) × Time

abbrev pub process_with : Fields → Process
process_with x = record {
  kind = x.0.0;
  frame = x.0.1.0;
  deadline = x.0.1.1.0;
  first = x.0.1.1.1.0;
  event = x.0.1.1.1.1.0;
  rank = x.0.1.1.1.1.1;
  run = x.1.0.0;
  susp = x.1.0.1.0;
  waits = x.1.0.1.1.0;
  block = x.1.0.1.1.1.0;
  bound = x.1.0.1.1.1.1;
  words = x.1.1.0.0;
  stack = x.1.1.0.1.0;
  locals = x.1.1.0.1.1.0;
  start = x.1.1.0.1.1.1;
  handler = x.1.1.1.0.0;
  numbers = x.1.1.1.1.0;
  body = x.1.1.1.1.1.0;
  handler_tree = x.1.1.1.1.1.1;
}

abbrev pub fields_in : Process → Fields
fields_in p = (
  (p.kind, (p.frame, (p.deadline, (p.first, (p.event, p.rank))))),
  (
    (p.run, (p.susp, (p.waits, (p.block, p.bound)))),
    ((p.words, (p.stack, (p.locals, p.start))), ((p.handler, length p.numbers), (p.numbers, (p.body, p.handler_tree)))),
  ),
)

module _ (version : Version) (counts : Counts) (used : List ℕ) where
  abbrev trees : (count : ℕ) → Format (Segs × Option Segs)
  trees count = both (tree_format (in_image counts.monitors) g.deepest) (λ body. g.handler_tree_format counts.monitors count)

  abbrev after_handler : ℕ × ℕ → Format (List ℕ × (Segs × Option Segs))
  after_handler handler = both (g.numbers_format handler.1) (λ numbers. trees handler.1)

  abbrev numbers : Format Numbers
  numbers = both g.handler_format after_handler

  abbrev room : Format Room
  room = both g.room_format (λ room. numbers)

  abbrev time : Format Time
  time = both g.time_format (λ time. room)

  abbrev all : Format Fields
  all = both (g.release_format version counts.events used) (λ release. time)

  all_sound : IsSound all
  all_sound =
      pair_sound (g.release_format version counts.events used) time (release_sound version counts.events used) (pair_sound g.time_format room time_sound (pair_sound g.room_format numbers room_sound
      (both_sound g.handler_format after_handler handler_sound (λ handler. pair_sound (g.numbers_format handler.1) (trees handler.1) (numbers_sound handler.1)
      (pair_sound (tree_format (in_image counts.monitors) g.deepest) (g.handler_tree_format counts.monitors handler.1) (tree_sound counts.monitors g.deepest) (handler_tree_sound counts.monitors handler.1))))))

  long : (x : Fields) → all.is x ≡ true → length x.1.1.1.1.0 ≡ x.1.1.1.0.1
  long x h =
      let a = and_parts ((g.release_format version counts.events used).is x.0) (time.is x.1) h in
      let b = and_parts (g.time_format.is x.1.0) (room.is x.1.1) a.1 in
      let c = and_parts (g.room_format.is x.1.1.0) (numbers.is x.1.1.1) b.1 in
      let d = and_parts (g.handler_format.is x.1.1.1.0) ((after_handler x.1.1.1.0).is x.1.1.1.1) c.1 in
      let e = and_parts ((g.numbers_format x.1.1.1.0.1).is x.1.1.1.1.0) ((trees x.1.1.1.0.1).is x.1.1.1.1.1) d.1 in
      each_long (λ earlier. checked u16 (g.wrong_number earlier)) [] x.1.1.1.0.1 x.1.1.1.1.0 e.0

  pub process_sound : IsSound (g.process_format version counts used)
  process_sound =
      via_sound process_with fields_in all
      (λ x h. ap (λ n. (x.0, (x.1.0, (x.1.1.0, ((x.1.1.1.0.0, n), x.1.1.1.1))))) (long x h)) (λ y h. refl) all_sound

  pub named_process_sound : (taken : List (List ℕ)) → IsSound (g.named_process_format version counts taken used)
  named_process_sound taken = pair_sound (g.name_format taken) (g.process_format version counts used) (name_sound taken) process_sound

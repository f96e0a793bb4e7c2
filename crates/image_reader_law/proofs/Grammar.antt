-- The names, counts, routines and processes of an image are put together of fields.
use Rattle.std.proofs.Common.{◌≡◌, ◌||◌, ◌==◌, ◌&&◌, ℕ, zero, suc, Bool, true, List, length, refl, ap, arith}
use Rattle.std.specs.Prelude.{not, nat_lt, nat_le}
use Rattle.std.proofs.lemmas.Bool.{eqb-true, and_parts}
use Rattle.syntax.specs.Spellings.{is_identifier, keywords}
use Rattle.machine_semantics.specs.Trees.{Segs}
use Rattle.image.specs.declared.names.ConditionName.{ConditionName}
use Rattle.image_reader.specs.declared.counts.Counts.{Counts}
use Rattle.image_format.specs.Format.{Format, u8, u16, u32, bytes_as_are, unless, checked, both, via}
use Rattle.image_format.specs.TreeFormat.{in_image, within, u32_within, u16_within, u16_below, tree_format}
use Rattle.image_reader.specs.Grammar as g
use Rattle.image_reader_law.specs.Faults as s
use Rattle.image_reader_law.specs.Faults.{Sort, natural, truth, device, monitor, condition, routine, process, tree, optional, pair, list}
use Rattle.image_reader_law.proofs.Known as k
use Rattle.image_reader_law.proofs.Known.{Known, Tells, unless_tells}
use Rattle.image_reader_law.proofs.TreeNumbers.{a_tree}

pub cost : Known natural g.cost
cost = k.u32_range 0 1000000001

-- ---- names

abbrev pub size_format : Format ℕ
size_format = checked u8 (within 0 63)

-- one byte of length and so many bytes are the bytes
pub a_name : (taken : List (List ℕ)) → Known (list natural) (g.name_format taken)
a_name taken =
    k.a_test (list natural) (via (λ (x : ℕ × List ℕ). x.1) (λ name. (length name, name)) (both size_format bytes_as_are)) (λ name. is_identifier name && not (g.has keywords name) && not (g.has taken name)) 5
    (omega arith) (omega arith)
    (k.a_view (pair natural (list natural)) (list natural) (both size_format bytes_as_are) (λ (x : ℕ × List ℕ). x.1) (λ name. (length name, name)) (record { back = sized; there = λ y h. refl })
    (k.a_pair natural (list natural) size_format bytes_as_are (k.a_test natural u8 (λ n. nat_le 0 n && nat_le n 63) 4 (omega arith) (omega arith) k.byte)
    (λ size. k.a_field (list natural) (bytes_as_are size) size (s.of_bytes size))))
  where
    sized : (x : ℕ × List ℕ) → (both size_format bytes_as_are).is x ≡ true → (length x.1, x.1) ≡ x
    sized x h =
        let e : length x.1 ≡ x.0 = eqb-true (length x.1) x.0 (and_parts (size_format.is x.0) (length x.1 == x.0) h).1 in
        ap (λ n. (n, x.1)) e

-- ---- devices, monitors and conditions

pub a_device : (taken : List (List ℕ)) → Known device (g.device_format taken)
a_device taken =
    k.a_view (pair (list natural) truth) device (both (g.name_format taken) (λ name. g.flag_format 6)) (λ (x : List ℕ × Bool). record { name = x.0; out = x.1 }) (λ d. (d.name, d.out))
    (record { back = λ x h. refl; there = λ y h. refl }) (k.two (list natural) truth (g.name_format taken) (g.flag_format 6) (a_name taken) (k.a_flag 6 (omega arith) (omega arith)))

a_monitor : Known monitor g.monitor_format
a_monitor =
    k.a_view (pair natural (pair natural natural)) monitor (both u32 (λ base. both u32 (λ words. u16))) (λ (x : ℕ × (ℕ × ℕ)). record { base = x.0; words = x.1.0; ceiling = x.1.1 }) (λ m. (m.base, (m.words, m.ceiling)))
    (record { back = λ x h. refl; there = λ y h. refl }) (k.two natural (pair natural natural) u32 (both u32 (λ words. u16)) k.whole (k.two natural natural u32 u16 k.whole k.half))

pub a_named_monitor : (taken : List (List ℕ)) → Known (pair (list natural) monitor) (g.named_monitor_format taken)
a_named_monitor taken = k.two (list natural) monitor (g.name_format taken) g.monitor_format (a_name taken) a_monitor

pub a_condition : (taken : List (List ℕ)) (monitors : ℕ) (earlier : List ConditionName) → Known condition (g.condition_format taken monitors earlier)
a_condition taken monitors earlier =
    k.a_test condition (via (λ (x : List ℕ × ℕ). record { name = x.0; mon = x.1 }) (λ c. (c.name, c.mon)) (both (g.name_format taken) (λ name. u16_below monitors))) (λ c. not (g.is_again earlier c)) 5 (omega arith) (omega arith)
    (k.a_view (pair (list natural) natural) condition (both (g.name_format taken) (λ name. u16_below monitors)) (λ (x : List ℕ × ℕ). record { name = x.0; mon = x.1 }) (λ c. (c.name, c.mon))
    (record { back = λ x h. refl; there = λ y h. refl }) (k.two (list natural) natural (g.name_format taken) (u16_below monitors) (a_name taken) (k.u16_less monitors)))

-- ---- how much there is

abbrev pub from_routines : Format (ℕ × ℕ)
from_routines = both (u16_within 0 512) (λ routines. u32_within 0 65535)

abbrev pub from_events : Format (ℕ × (ℕ × ℕ))
from_events = both (u16_within 0 64) (λ events. from_routines)

abbrev pub from_devices : Format (ℕ × (ℕ × (ℕ × ℕ)))
from_devices = both (u16_within 0 64) (λ devices. from_events)

abbrev pub from_conditions : Format (ℕ × (ℕ × (ℕ × (ℕ × ℕ))))
from_conditions = both (u16_within 0 256) (λ conditions. from_devices)

abbrev pub from_monitors : Format (ℕ × (ℕ × (ℕ × (ℕ × (ℕ × ℕ)))))
from_monitors = both (u16_within 0 64) (λ monitors. from_conditions)

-- so many numbers, one after the other
abbrev pub numbers_of : ℕ → Sort
numbers_of zero = natural
numbers_of (suc n) = pair natural (numbers_of n)

pub some_counts : Known s.counts g.counts_format
some_counts =
    k.a_view (numbers_of 6) s.counts (both (u16_within 1 64) (λ processes. from_monitors))
    (λ (x : ℕ × (ℕ × (ℕ × (ℕ × (ℕ × (ℕ × ℕ)))))). record { processes = x.0; monitors = x.1.0; conditions = x.1.1.0; devices = x.1.1.1.0; events = x.1.1.1.1.0; routines = x.1.1.1.1.1.0; code = x.1.1.1.1.1.1 })
    (λ c. (c.processes, (c.monitors, (c.conditions, (c.devices, (c.events, (c.routines, c.code))))))) (record { back = λ x h. refl; there = λ y h. refl })
    (k.two natural (numbers_of 5) (u16_within 1 64) from_monitors (k.u16_range 1 64) (k.two natural (numbers_of 4) (u16_within 0 64) from_conditions (k.u16_range 0 64)
    (k.two natural (numbers_of 3) (u16_within 0 256) from_devices (k.u16_range 0 256) (k.two natural (numbers_of 2) (u16_within 0 64) from_events (k.u16_range 0 64)
    (k.two natural (numbers_of 1) (u16_within 0 64) from_routines (k.u16_range 0 64) (k.two natural natural (u16_within 0 512) (u32_within 0 65535) (k.u16_range 0 512) (k.u32_range 0 65535)))))))

-- ---- routines

abbrev pub kind_format : (most : ℕ) → Format ℕ
kind_format most = checked u8 (λ kind. unless (nat_le kind most) 6)

pub a_kind : (most : ℕ) → Known natural (kind_format most)
a_kind most = k.a_test natural u8 (λ kind. nat_le kind most) 6 (omega arith) (omega arith) k.byte

owner_tells : (counts : Counts) (kind : ℕ) → Tells (g.wrong_owner counts kind)
owner_tells counts zero x told is = unless_tells (x == 0) 7 told (omega arith) (omega arith) is
owner_tells counts (suc zero) x told is = unless_tells (nat_lt x counts.processes) 4 told (omega arith) (omega arith) is
owner_tells counts (suc (suc kind)) x told is = unless_tells (nat_lt x counts.monitors) 4 told (omega arith) (omega arith) is

abbrev pub from_locals : Format (ℕ × Bool)
from_locals = both (u32_within 0 4096) (λ locals. g.flag_format 4)

abbrev pub from_params : Format (ℕ × (ℕ × Bool))
from_params = both u16 (λ params. from_locals)

abbrev pub after_kind : Counts → (kind : ℕ) → Format (ℕ × (ℕ × (ℕ × Bool)))
after_kind counts kind = both (checked u16 (g.wrong_owner counts kind)) (λ owner. from_params)

abbrev owner_sort : Sort
owner_sort = pair natural (pair natural (pair natural (pair natural truth)))

an_owner : (counts : Counts) → Known owner_sort (g.owner_format counts)
an_owner counts =
    k.a_pair natural (pair natural (pair natural (pair natural truth))) (kind_format 2) (after_kind counts) (a_kind 2) (λ kind.
    k.two natural (pair natural (pair natural truth)) (checked u16 (g.wrong_owner counts kind)) from_params (k.a_rule natural u16 (g.wrong_owner counts kind) (owner_tells counts kind) k.half)
    (k.two natural (pair natural truth) u16 from_locals k.half (k.two natural truth (u32_within 0 4096) (g.flag_format 4) (k.u32_range 0 4096) (k.a_flag 4 (omega arith) (omega arith)))))

abbrev pub cost_from_waits : ℕ → Format (ℕ × ℕ)
cost_from_waits kind = both g.cost (λ waits. checked g.cost (g.wrong_stay kind))

abbrev pub cost_from_susp : ℕ → Format (ℕ × (ℕ × ℕ))
cost_from_susp kind = both g.cost (λ susp. cost_from_waits kind)

abbrev pub cost_from_run : ℕ → Format (ℕ × (ℕ × (ℕ × ℕ)))
cost_from_run kind = both g.cost (λ run. cost_from_susp kind)

some_costs : (kind : ℕ) → Known (numbers_of 4) (g.cost_format kind)
some_costs kind =
    k.two natural (numbers_of 3) u32 (cost_from_run kind) k.whole (k.two natural (numbers_of 2) g.cost (cost_from_susp kind) cost (k.two natural (numbers_of 1) g.cost (cost_from_waits kind) cost
    (k.two natural natural g.cost (checked g.cost (g.wrong_stay kind)) cost (k.a_test natural g.cost (λ stay. kind == 2 || stay == 0) 7 (omega arith) (omega arith) cost))))

abbrev pub Whole : Type 0
Whole = (ℕ × (ℕ × (ℕ × (ℕ × Bool)))) × ((ℕ × (ℕ × (ℕ × (ℕ × ℕ)))) × Segs)

abbrev pub after_owner : Counts → ℕ × (ℕ × (ℕ × (ℕ × Bool))) → Format ((ℕ × (ℕ × (ℕ × (ℕ × ℕ)))) × Segs)
after_owner counts o = both (g.cost_format o.0) (λ c. tree_format (in_image counts.monitors) g.deepest)

pub a_routine : (counts : Counts) → Known routine (g.routine_format counts)
a_routine counts =
    k.a_view (pair owner_sort (pair (numbers_of 4) tree)) routine (both (g.owner_format counts) (after_owner counts))
    (λ (x : Whole). record {
      kind = x.0.0;
      owner = x.0.1.0;
      params = x.0.1.1.0;
      locals = x.0.1.1.1.0;
      gives = x.0.1.1.1.1;
      start = x.1.0.0;
      run = x.1.0.1.0;
      susp = x.1.0.1.1.0;
      waits = x.1.0.1.1.1.0;
      stay = x.1.0.1.1.1.1;
      tree = x.1.1;
    })
    (λ r. ((r.kind, (r.owner, (r.params, (r.locals, r.gives)))), ((r.start, (r.run, (r.susp, (r.waits, r.stay)))), r.tree))) (record { back = λ x h. refl; there = λ y h. refl })
    (k.a_pair owner_sort (pair (numbers_of 4) tree) (g.owner_format counts) (after_owner counts) (an_owner counts) (λ o.
    k.two (numbers_of 4) tree (g.cost_format o.0) (tree_format (in_image counts.monitors) g.deepest) (some_costs o.0) (a_tree counts.monitors g.deepest)))

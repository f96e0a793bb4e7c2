-- The parts of an image that is read: names are short, counts are few, and trees have no more segments than there are bytes.
use Rattle.std.proofs.Common.{◌≡◌, ◌≤◌, ◌<◌, ◌+◌, ◌&&◌, ◌||◌, ◌==◌, not, ◌++◌, ℕ, zero, suc, Bool, true, false, ℤ, List, [], ◌∷◌, length, Ok, Err, Option, Some, None, refl, sym, ap, ◌∙◌, subst, arith}
use Rattle.std.specs.Prelude.{nat_lt, nat_le, nat_eq, pos}
use Rattle.std.specs.Ordering.{int_eq}
use Rattle.std.specs.Int.{w32, cast_signed, from_be_bytes}
use Rattle.std.specs.List.{All}
use Rattle.std.proofs.lemmas.Bool.Decides.{nat_tests}
use Rattle.std.proofs.lemmas.Bool.{and_parts}
use Rattle.machine_isa.specs.declared.instr.Instr.{Instr}
use Rattle.machine_isa.specs.Bytes.{arity, number, operands}
use Rattle.machine_isa.specs.Numbered.{numbered}
use Rattle.machine_semantics.specs.Image.{Monitor, Routine, Process}
use Rattle.machine_semantics.specs.Trees.{Segs, Nil}
use Rattle.image_format.specs.TreeBytes.{segments}
use Rattle.image.specs.Bytes.{Version, First, Second}
use Rattle.image.specs.declared.names.ConditionName.{ConditionName}
use Rattle.image.specs.declared.names.DeviceName.{DeviceName}
use Rattle.image_reader.specs.declared.counts.Counts.{Counts}
use Rattle.image_format.specs.Format.{Format, ◌>>=◌, u8, u16, u32, bytes_as_are, given, unless, checked, both, via, each, each_read}
use Rattle.image_format.specs.TreeFormat.{in_image, within, u32_within, u16_within, u16_below, tree_format}
use Rattle.image_reader.specs.Grammar as g
use Rattle.image_reader.specs.File as f
use Rattle.image_format.proofs.Sound.{came}
use Rattle.image_reader_law.proofs.Readings.{kept, between, fine_is}
use Rattle.image_reader_law.proofs.Brings.{Brings, Any, weaker, u8_brings, u16_brings, u32_brings, word_brings, bytes_brings, given_brings, checked_brings, checked_any, both_brings, then_brings, via_brings, u32_brings_within, u16_brings_within, Each, each_brings}
use Rattle.image_reader_law.proofs.ImageRangesTrees.{tree_brings}
use Rattle.image_reader_law.proofs.Grammar.{Whole}
use Rattle.image_reader_law.proofs.ImageSoundFields.{Numbers}
use Rattle.image_format.proofs.Alike.{same_ok}

-- ---- names

abbrev pub IsShortName : List ℕ → Type 0
IsShortName name = length name ≤ 63

pub name_brings : {n : ℕ} (taken : List (List ℕ)) → Brings n (g.name_format taken) IsShortName
name_brings taken =
    checked_any (g.wrong_name taken) (via_brings (λ (x : ℕ × List ℕ). x.1) (λ name. (length name, name)) IsShortName (λ x h. omega (arith, h.1, (between 0 63 x.0 h.0.1).1))
    (both_brings bytes_as_are (λ size bytes. length bytes ≤ size) (checked_brings (within 0 63) u8_brings) (λ size h. bytes_brings size)))

flag_brings : {n : ℕ} (number : ℕ) → Brings n (g.flag_format number) Any
flag_brings number = record { told = (via_brings (λ (k : ℕ). k == 1) (λ b. 0) Any (λ x h. tt) (checked_any (λ k. unless (nat_le k 1) number) u8_brings)).told }

pub device_brings : {n : ℕ} (taken : List (List ℕ)) → Brings n (g.device_format taken) (λ d. IsShortName d.name)
device_brings taken = via_brings (λ (x : List ℕ × Bool). record { name = x.0; out = x.1 }) (λ d. (d.name, d.out)) (λ d. IsShortName d.name) (λ x h. h.0) (then_brings (name_brings taken) (flag_brings 6))

monitor_brings : {n : ℕ} → Brings n g.monitor_format Any
monitor_brings = via_brings (λ (x : ℕ × (ℕ × ℕ)). record { base = x.0; words = x.1.0; ceiling = x.1.1 }) (λ m. (m.base, (m.words, m.ceiling))) Any (λ x h. tt) (then_brings u32_brings (then_brings u32_brings u16_brings))

pub named_monitor_brings : {n : ℕ} (taken : List (List ℕ)) → Brings n (g.named_monitor_format taken) (λ x. IsShortName x.0)
named_monitor_brings taken = weaker (λ x. IsShortName x.0) (λ x h. h.0) (then_brings (name_brings taken) monitor_brings)

pub condition_brings : {n : ℕ} (taken : List (List ℕ)) (monitors : ℕ) (earlier : List ConditionName) → Brings n (g.condition_format taken monitors earlier) (λ c. IsShortName c.name)
condition_brings taken monitors earlier =
    checked_any (λ c. unless (not (g.is_again earlier c)) 5) (via_brings (λ (x : List ℕ × ℕ). record { name = x.0; mon = x.1 }) (λ c. (c.name, c.mon)) (λ c. IsShortName c.name) (λ x h. h.0)
    (then_brings (name_brings taken) (checked_any (λ k. unless (nat_lt k monitors) 4) u16_brings)))

-- ---- how much there is

pub record AreFew (c : Counts) : Type 0 where
  pub processes : c.processes ≤ 64
  pub monitors : c.monitors ≤ 64
  pub conditions : c.conditions ≤ 256
  pub devices : c.devices ≤ 64
  pub events : c.events ≤ 64
  pub routines : c.routines ≤ 512
  pub code : c.code ≤ 65535

pub counts_brings : {n : ℕ} → Brings n g.counts_format AreFew
counts_brings =
    via_brings (λ (x : ℕ × (ℕ × (ℕ × (ℕ × (ℕ × (ℕ × ℕ)))))). record { processes = x.0; monitors = x.1.0; conditions = x.1.1.0; devices = x.1.1.1.0; events = x.1.1.1.1.0; routines = x.1.1.1.1.1.0; code = x.1.1.1.1.1.1 })
    (λ c. (c.processes, (c.monitors, (c.conditions, (c.devices, (c.events, (c.routines, c.code))))))) AreFew
    (λ x h. record { processes = h.0; monitors = h.1.0; conditions = h.1.1.0; devices = h.1.1.1.0; events = h.1.1.1.1.0; routines = h.1.1.1.1.1.0; code = h.1.1.1.1.1.1 })
    (then_brings (u16_brings_within 1 64) (then_brings (u16_brings_within 0 64) (then_brings (u16_brings_within 0 256) (then_brings (u16_brings_within 0 64) (then_brings (u16_brings_within 0 64)
    (then_brings (u16_brings_within 0 512) (u32_brings_within 0 65535)))))))

-- ---- routines

cost_any : {n : ℕ} → Brings n g.cost Any
cost_any = weaker Any (λ x h. tt) (u32_brings_within 0 1000000001)

abbrev after_kind : Counts → (kind : ℕ) → Format (ℕ × (ℕ × (ℕ × Bool)))
after_kind counts kind = both (checked u16 (g.wrong_owner counts kind)) (λ owner. both u16 (λ params. both (u32_within 0 4096) (λ locals. g.flag_format 4)))

owner_brings : {n : ℕ} (counts : Counts) → Brings n (g.owner_format counts) Any
owner_brings counts =
    weaker Any (λ x h. tt)
    (both_brings (after_kind counts) (λ kind x. Any x.0 × (Any x.1.0 × ((x.1.1.0 ≤ 4096) × Any x.1.1.1))) (checked_any (λ kind. unless (nat_le kind 2) 6) u8_brings) (λ kind h.
    then_brings (checked_any (g.wrong_owner counts kind) u16_brings) (then_brings u16_brings (then_brings (u32_brings_within 0 4096) (flag_brings 4)))))

costs_brings : {n : ℕ} (kind : ℕ) → Brings n (g.cost_format kind) Any
costs_brings kind = weaker Any (λ x h. tt) (then_brings u32_brings (then_brings cost_any (then_brings cost_any (then_brings cost_any (checked_any (g.wrong_stay kind) cost_any)))))

pub routine_brings : {n : ℕ} (counts : Counts) → Brings n (g.routine_format counts) (λ r. segments r.tree ≤ n)
routine_brings {n = n} counts =
    via_brings
    (λ (x : Whole). record {
      kind = x.0.0;
      owner = x.0.1.0;
      params = x.0.1.1.0;
      locals = x.0.1.1.1.0;
      gives = x.0.1.1.1.1;
      start = x.1.0.0;
      run = x.1.0.1.0;
      susp = x.1.0.1.1.0;
      waits = x.1.0.1.1.1.0;
      stay = x.1.0.1.1.1.1;
      tree = x.1.1;
    })
    (λ r. ((r.kind, (r.owner, (r.params, (r.locals, r.gives)))), ((r.start, (r.run, (r.susp, (r.waits, r.stay)))), r.tree))) (λ r. segments r.tree ≤ n) (λ x h. h.1.1)
    (both_brings (λ (o : ℕ × (ℕ × (ℕ × (ℕ × Bool)))). both (g.cost_format o.0) (λ c. tree_format (in_image counts.monitors) g.deepest)) (λ o x. Any x.0 × (segments x.1 ≤ n)) (owner_brings counts) (λ o h. then_brings (costs_brings o.0) (tree_brings counts.monitors g.deepest)))

-- ---- processes

deadline_brings : {n : ℕ} (version : Version) (frame : ℕ) → Brings n (g.deadline_format version frame) Any
deadline_brings First frame = weaker Any (λ x h. tt) (given_brings nat_eq frame)
deadline_brings Second frame = weaker Any (λ x h. tt) (u32_brings_within 10 frame)

abbrev after_deadline : (events : ℕ) (used : List ℕ) (kind : ℕ) → Format (ℕ × (ℕ × ℕ))
after_deadline events used kind = both (checked (u32_within 0 1000000000) (g.wrong_first kind)) (λ first. both (checked u16 (g.wrong_event events used kind)) (λ event. u16))

abbrev after_frame : Version → (events : ℕ) (used : List ℕ) (kind frame : ℕ) → Format (ℕ × (ℕ × (ℕ × ℕ)))
after_frame version events used kind frame = both (g.deadline_format version frame) (λ deadline. after_deadline events used kind)

release_brings : {n : ℕ} (version : Version) (events : ℕ) (used : List ℕ) → Brings n (g.release_format version events used) Any
release_brings version events used =
    weaker Any (λ x h. tt)
    (both_brings (λ kind. both (u32_within 10 1000000000) (after_frame version events used kind)) (λ kind. Any) (checked_any (λ kind. unless (nat_le kind 1) 6) u8_brings) (λ kind h. weaker Any (λ x h. tt)
    (both_brings (after_frame version events used kind) (λ frame. Any) (u32_brings_within 10 1000000000) (λ frame h. weaker Any (λ x h. tt)
    (then_brings (deadline_brings version frame) (then_brings (checked_any (g.wrong_first kind) (u32_brings_within 0 1000000000)) (then_brings (checked_any (g.wrong_event events used kind) u16_brings) u16_brings)))))))

time_brings : {n : ℕ} → Brings n g.time_format Any
time_brings = weaker Any (λ x h. tt) (then_brings cost_any (then_brings cost_any (then_brings cost_any (then_brings cost_any (u32_brings_within 1 1000000000)))))

room_brings : {n : ℕ} → Brings n g.room_format Any
room_brings = weaker Any (λ x h. tt) (then_brings u32_brings (then_brings (u32_brings_within 0 4096) (then_brings (u32_brings_within 0 4096) u32_brings)))

handler_brings : {n : ℕ} → Brings n g.handler_format Any
handler_brings = weaker Any (λ x h. tt) (checked_any (λ (x : ℕ × ℕ). unless (nat_lt 0 x.1 || x.0 == 0) 7) (then_brings u32_brings u16_brings))

-- numbers of a handler rise and are at most 999, so they are few
abbrev above : List ℕ → ℕ
above [] = 0
above (x ∷ []) = x + 1
above (x ∷ y ∷ ys) = above (y ∷ ys)

above_more : (earlier : List ℕ) (x : ℕ) → above (earlier ++ x ∷ []) ≡ x + 1
above_more [] x = refl
above_more (y ∷ []) x = refl
above_more (y ∷ z ∷ zs) x = above_more (z ∷ zs) x

is_above_means : (earlier : List ℕ) (x : ℕ) → g.is_above earlier x ≡ true → above earlier ≤ x
is_above_means [] x h = omega arith
is_above_means (y ∷ []) x h = grind (arith, nat_tests, h)
is_above_means (y ∷ z ∷ zs) x h = is_above_means (z ∷ zs) x h

pub is_taken_means : (x : ℕ) → g.is_taken x ≡ true → x ≤ 999
is_taken_means x h = by (nat_le 1 x) (nat_le x 4) (nat_le 10 x) (nat_le x 999) refl refl h where
  by : (a b c d : Bool) → nat_le x 4 ≡ b → nat_le x 999 ≡ d → ((a && b) || (c && d)) ≡ true → x ≤ 999
  by true true c d four high e = let small : x ≤ 4 = grind (arith, nat_tests, four) in omega (arith, small)
  by true false true true four high e = grind (arith, nat_tests, high)
  by true false true false four high e = absurd cc
  by true false false d four high e = absurd cc
  by false b true true four high e = grind (arith, nat_tests, high)
  by false b true false four high e = absurd cc
  by false b false d four high e = absurd cc

record IsNext (earlier : List ℕ) (x : ℕ) : Type 0 where
  low : above earlier ≤ x
  high : x ≤ 999

next : (earlier : List ℕ) (x : ℕ) → g.wrong_number earlier x ≡ None → IsNext earlier x
next earlier x fine =
    let h = and_parts (g.is_above earlier x) (g.is_taken x) (fine_is (g.is_above earlier x && g.is_taken x) 8 fine) in
    record { low = is_above_means earlier x h.0; high = is_taken_means x h.1 }

abbrev number_after : List ℕ → Format ℕ
number_after earlier = checked u16 (g.wrong_number earlier)

numbers_told : (n : ℕ) (earlier : List ℕ) (count : ℕ) (bytes : List ℕ) (z : List ℕ × List ℕ) → above earlier ≤ 1000 → length bytes ≤ n → each_read number_after earlier count bytes ≡ Ok z
    → (above earlier + length z.0 ≤ 1000) × (length z.1 ≤ n)
unfolding each_read
numbers_told n earlier zero bytes z low few is =
    subst (λ (y : List ℕ × List ℕ). (above earlier + length y.0 ≤ 1000) × (length y.1 ≤ n)) (same_ok ([], bytes) z is) (omega (arith, low), few)
numbers_told n earlier (suc count) bytes z low few is =
    let a = came ((number_after earlier).read bytes) (λ x. each_read number_after (earlier ++ x.0 ∷ []) count x.1 >>= λ xs. Ok (x.0 ∷ xs.0, xs.1)) z is in
    let b = came (each_read number_after (earlier ++ a.x.0 ∷ []) count a.x.1) (λ xs. Ok (a.x.0 ∷ xs.0, xs.1)) z a.then_is in
    let x = next earlier a.x.0 (kept u16 (g.wrong_number earlier) bytes a.x a.was).fine in
    let one = (checked_any (g.wrong_number earlier) (u16_brings {n = n})).told bytes a.x few a.was in
    let more = above_more earlier a.x.0 in
    let others = numbers_told n (earlier ++ a.x.0 ∷ []) count a.x.1 b.x (omega (arith, more, x.high)) one.1 b.was in
    subst (λ (y : List ℕ × List ℕ). (above earlier + length y.0 ≤ 1000) × (length y.1 ≤ n)) (same_ok (a.x.0 ∷ b.x.0, b.x.1) z b.then_is)
    (omega (arith, others.0, more, x.low), others.1)

numbers_brings : {n : ℕ} (count : ℕ) → Brings n (g.numbers_format count) (λ xs. length xs ≤ 1000)
numbers_brings {n = n} count = record { told = λ bytes z few is. let t = numbers_told n [] count bytes z (omega arith) few is in (omega (arith, t.0), t.1) }

abbrev pub IsSmallTree : ℕ → Option Segs → Type 0
IsSmallTree n None = Unit {0}
IsSmallTree n (Some tree) = segments tree ≤ n

handler_tree_brings : {n : ℕ} (monitors count : ℕ) → Brings n (g.handler_tree_format monitors count) (IsSmallTree n)
handler_tree_brings {n = n} monitors zero = weaker (IsSmallTree n) (λ x h. subst (IsSmallTree n) (sym h) tt) (given_brings (λ x y. g.is_none y) None)
handler_tree_brings {n = n} monitors (suc count) = record { told = (via_brings (λ (t : Segs). Some t) (λ o. t_of o) (IsSmallTree n) (λ x h. h) (tree_brings monitors g.deepest)).told } where
  t_of : Option Segs → Segs
  t_of o = Nil

pub record IsProcessFit (n : ℕ) (p : Process) : Type 0 where
  pub numbers : length p.numbers ≤ 1000
  pub body : segments p.body ≤ n
  pub handler_tree : IsSmallTree n p.handler_tree

abbrev Fields : Type 0
Fields = (ℕ × (ℕ × (ℕ × (ℕ × (ℕ × ℕ))))) × ((ℕ × (ℕ × (ℕ × (ℕ × ℕ)))) × ((ℕ × (ℕ × (ℕ × ℕ))) × Numbers))

abbrev after_handler : (monitors : ℕ) → ℕ × ℕ → Format (List ℕ × (Segs × Option Segs))
after_handler monitors handler = both (g.numbers_format handler.1) (λ numbers. both (tree_format (in_image monitors) g.deepest) (λ body. g.handler_tree_format monitors handler.1))

trees_brings : {n : ℕ} (monitors : ℕ) → Brings n (both g.handler_format (after_handler monitors))
    (λ x. Any x.0 × ((length x.1.0 ≤ 1000) × ((segments x.1.1.0 ≤ n) × IsSmallTree n x.1.1.1)))
trees_brings {n = n} monitors =
    both_brings (after_handler monitors) (λ handler x. (length x.0 ≤ 1000) × ((segments x.1.0 ≤ n) × IsSmallTree n x.1.1)) handler_brings (λ handler h.
    then_brings (numbers_brings handler.1) (then_brings (tree_brings monitors g.deepest) (handler_tree_brings monitors handler.1)))

pub process_brings : {n : ℕ} (version : Version) (counts : Counts) (used : List ℕ) → Brings n (g.process_format version counts used) (IsProcessFit n)
process_brings {n = n} version counts used =
    via_brings
    (λ (x : Fields). record {
      kind = x.0.0;
      frame = x.0.1.0;
      deadline = x.0.1.1.0;
      first = x.0.1.1.1.0;
      event = x.0.1.1.1.1.0;
      rank = x.0.1.1.1.1.1;
      run = x.1.0.0;
      susp = x.1.0.1.0;
      waits = x.1.0.1.1.0;
      block = x.1.0.1.1.1.0;
      bound = x.1.0.1.1.1.1;
      words = x.1.1.0.0;
      stack = x.1.1.0.1.0;
      locals = x.1.1.0.1.1.0;
      start = x.1.1.0.1.1.1;
      handler = x.1.1.1.0.0;
      numbers = x.1.1.1.1.0;
      body = x.1.1.1.1.1.0;
      handler_tree = x.1.1.1.1.1.1;
    })
    (λ p. (
      (p.kind, (p.frame, (p.deadline, (p.first, (p.event, p.rank))))),
      (
        (p.run, (p.susp, (p.waits, (p.block, p.bound)))),
        ((p.words, (p.stack, (p.locals, p.start))), ((p.handler, length p.numbers), (p.numbers, (p.body, p.handler_tree)))),
      ),
    ))
    (IsProcessFit n) (λ x h. record { numbers = h.1.1.1.1.0; body = h.1.1.1.1.1.0; handler_tree = h.1.1.1.1.1.1 })
    (then_brings (release_brings version counts.events used) (then_brings time_brings (then_brings room_brings (trees_brings counts.monitors))))

pub named_process_brings : {n : ℕ} (version : Version) (counts : Counts) (taken : List (List ℕ)) (used : List ℕ) → Brings n (g.named_process_format version counts taken used) (λ x. IsShortName x.0 × IsProcessFit n x.1)
named_process_brings version counts taken used = then_brings (name_brings taken) (process_brings version counts used)

-- ---- code

operand_brings : {n : ℕ} (is_named : Bool) → Brings n (g.operand is_named) Any
operand_brings is_named = checked_any (λ z. unless (is_named || int_eq z (pos 0)) 7) (word_brings g.word (λ bytes. cast_signed w32 (from_be_bytes w32 bytes)) (λ bytes. refl))

abbrev after_number : ℕ → Format (ℤ × (ℤ × ℤ))
after_number k = both (g.operand (nat_le 1 (arity k))) (λ a. both (g.operand (nat_le 2 (arity k))) (λ b. g.operand (nat_le 3 (arity k))))

fields_brings : {n : ℕ} → Brings n g.fields_format Any
fields_brings =
    weaker Any (λ x h. tt) (both_brings after_number (λ k. Any) (checked_any (λ k. unless (nat_le 1 k && nat_le k 48) 6) u8_brings) (λ k h. weaker Any (λ x h. tt)
    (then_brings (operand_brings (nat_le 1 (arity k))) (then_brings (operand_brings (nat_le 2 (arity k))) (operand_brings (nat_le 3 (arity k)))))))

pub instr_brings : {n : ℕ} → Brings n g.instr_format Any
instr_brings = via_brings (λ (x : ℕ × (ℤ × (ℤ × ℤ))). g.or_end (numbered x.0 x.1.0 x.1.1.0 x.1.1.1)) (λ instr. g.fields_of (operands instr) (number instr)) Any (λ x h. tt) fields_brings

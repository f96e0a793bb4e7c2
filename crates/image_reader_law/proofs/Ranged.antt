-- What the ranges of the fields say of numbers, names and counts.
use Rattle.std.proofs.Common.{◌≡◌, ◌≤◌, ◌<◌, ◌+◌, ◌&&◌, ◌++◌, ◌^◌, not, ℕ, zero, suc, Bool, true, List, [], ◌∷◌, length, ap, sym, ◌∙◌, arith}
use Rattle.std.specs.Prelude.{nat_lt, nat_le}
use Rattle.std.proofs.lemmas.Bool.{and_parts, le-leb, leb-true}
use Rattle.std.proofs.lemmas.Bool.Decides.{nat_tests}
use Rattle.machine_semantics.specs.Image.{Monitor}
use Rattle.image.specs.declared.names.ConditionName.{ConditionName}
use Rattle.image.specs.declared.names.DeviceName.{DeviceName}
use Rattle.image_format.specs.Format.{u16, bytes_as_are, unless, is_fine, checked, each_is}
use Rattle.image_format.specs.TreeFormat.{within, u16_within, u32_within, u16_below}
use Rattle.image_format.proofs.Booleans.{together}
use Rattle.image_reader.specs.Grammar as g
use Rattle.image_reader.proofs.Rising.{above_last}
use Rattle.image_reader_law.proofs.ImageFaultsFields.{fine_is}

-- ---- numbers

most : (low high n : ℕ) → is_fine (within low high n) ≡ true → n ≤ high
most low high n h =
    let both_hold = and_parts (nat_le low n) (nat_le n high) (fine_is (nat_le low n && nat_le n high) 4 h) in
    let test : nat_le n high ≡ true = both_hold.1 in
    grind (arith, nat_tests)

-- and the other way round
pub fine_within : (low high n : ℕ) → low ≤ n → n ≤ high → is_fine (within low high n) ≡ true
fine_within low high n from to = ap (λ b. is_fine (unless b 4)) (together (nat_le low n) (nat_le n high) (le-leb low n from) (le-leb n high to))

pub u16_most : (low high n : ℕ) → (u16_within low high).is n ≡ true → n ≤ high
u16_most low high n h = most low high n (and_parts (nat_lt n (2 ^ 16)) (is_fine (within low high n)) h).1

pub u32_most : (low high n : ℕ) → (u32_within low high).is n ≡ true → n ≤ high
u32_most low high n h = most low high n (and_parts (nat_lt n (2 ^ 32)) (is_fine (within low high n)) h).1

pub least_long : (low high n : ℕ) → (u32_within low high).is n ≡ true → low ≤ n
least_long low high n h =
    let ranged = (and_parts (nat_lt n (2 ^ 32)) (is_fine (within low high n)) h).1 in
    leb-true low n (and_parts (nat_le low n) (nat_le n high) (fine_is (nat_le low n && nat_le n high) 4 ranged)).0

-- ---- names

pub name_short : (taken : List (List ℕ)) (name : List ℕ) → (g.name_format taken).is name ≡ true → length name ≤ 63
name_short taken name h =
    let length_is = nat_lt (length name) 256 && is_fine (within 0 63 (length name)) in
    let fields = and_parts (length_is && (bytes_as_are (length name)).is name) (is_fine (g.wrong_name taken name)) h in
    let sized = and_parts length_is ((bytes_as_are (length name)).is name) fields.0 in
    most 0 63 (length name) (and_parts (nat_lt (length name) 256) (is_fine (within 0 63 (length name))) sized.0).1

pub device_short : (taken : List (List ℕ)) (d : DeviceName) → (g.device_format taken).is d ≡ true → length d.name ≤ 63
device_short taken d h = name_short taken d.name (and_parts ((g.name_format taken).is d.name) true h).0

pub monitor_short : (taken : List (List ℕ)) (m : List ℕ × Monitor) → (g.named_monitor_format taken).is m ≡ true → length m.0 ≤ 63
monitor_short taken m h = name_short taken m.0 (and_parts ((g.name_format taken).is m.0) (g.monitor_format.is m.1) h).0

pub condition_short : (taken : List (List ℕ)) (monitors : ℕ) (earlier : List ConditionName) (c : ConditionName) → (g.condition_format taken monitors earlier).is c ≡ true → length c.name ≤ 63
condition_short taken monitors earlier c h =
    let fields = and_parts ((g.name_format taken).is c.name && (u16_below monitors).is c.mon) (is_fine (unless (not (g.is_again earlier c)) 5)) h in
    name_short taken c.name (and_parts ((g.name_format taken).is c.name) ((u16_below monitors).is c.mon) fields.0).0

-- ---- the numbers of a handler

abbrev numbers_are : (earlier : List ℕ) → (count : ℕ) → List ℕ → Bool
numbers_are = each_is (λ earlier. checked u16 (g.wrong_number earlier))

record Taken (earlier : List ℕ) (n : ℕ) : Type 0 where
  above : g.is_above earlier n ≡ true
  low : 1 ≤ n
  high : n ≤ 999

pub in_range : (n : ℕ) → g.is_taken n ≡ true → (1 ≤ n) × (n ≤ 999)
in_range n h = (grind (arith, nat_tests, h), grind (arith, nat_tests, h))

is_taken_here : (earlier : List ℕ) (n : ℕ) → (checked u16 (g.wrong_number earlier)).is n ≡ true → Taken earlier n
is_taken_here earlier n h =
    let rule = and_parts (nat_lt n (2 ^ 16)) (is_fine (g.wrong_number earlier n)) h in
    let tests = and_parts (g.is_above earlier n) (g.is_taken n) (fine_is (g.is_above earlier n && g.is_taken n) 8 rule.1) in
    let range = in_range n tests.1 in
    record { above = tests.0; low = range.0; high = range.1 }

rising_few : (earlier : List ℕ) (last count : ℕ) (xs : List ℕ) → last ≤ 999 → numbers_are (earlier ++ last ∷ []) count xs ≡ true → length xs + last ≤ 999
rising_few earlier last count [] high h = omega arith
rising_few earlier last zero (x ∷ xs) high h = absurd cc
rising_few earlier last (suc count) (x ∷ xs) high h =
    let tests = and_parts ((checked u16 (g.wrong_number (earlier ++ last ∷ []))).is x) (numbers_are ((earlier ++ last ∷ []) ++ x ∷ []) count xs) h in
    let one = is_taken_here (earlier ++ last ∷ []) x tests.0 in
    let above : nat_lt last x ≡ true = sym (above_last earlier last x) ∙ one.above in
    let rises : last < x = grind (arith, nat_tests) in
    let rest = rising_few (earlier ++ last ∷ []) x count xs one.high tests.1 in
    omega (arith, rises, rest)

pub numbers_few : (count : ℕ) (xs : List ℕ) → numbers_are [] count xs ≡ true → length xs ≤ 999
numbers_few count [] h = omega arith
numbers_few zero (x ∷ xs) h = absurd cc
numbers_few (suc count) (x ∷ xs) h =
    let tests = and_parts ((checked u16 (g.wrong_number [])).is x) (numbers_are (x ∷ []) count xs) h in
    let one = is_taken_here [] x tests.0 in
    let rest = rising_few [] x count xs one.high tests.1 in
    omega (arith, one.low, rest)

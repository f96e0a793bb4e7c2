-- The layout of an image tells what reading by the format of images tells: part by part.
use Rattle.std.proofs.Common.{◌≡◌, ◌≤◌, ◌+◌, ℕ, zero, suc, List, length, take, drop, Ok, Err, Option, Some, None, arith, refl, ap, sym, ◌∙◌, true, false, Bool}
use Rattle.std.specs.Prelude.{◌&&◌, ◌||◌, ◌==◌, not, nat_le, nat_lt, if◌then◌else◌}
use Rattle.std.specs.Int.{w16, w32, from_be_bytes}
use Rattle.std.specs.Prelude.{slice_index}
use Rattle.std.proofs.lemmas.Bool.{le-leb, lt-leb, ne_eqb}
use Rattle.std.proofs.lemmas.List.{length-take-le}
use Rattle.machine_semantics.specs.Trees.{Seg, Segs, Line, Fork, Rep, Call, Stay}
use Rattle.image.specs.declared.names.ConditionName.{ConditionName}
use Rattle.image.specs.declared.names.DeviceName.{DeviceName}
use Rattle.image_reader.specs.declared.counts.Counts.{Counts}
use Rattle.image_format.specs.Format.{Format, Read, ◌>>=◌, fault, field_at, passed, checked, both, via, u8, u16, u32, bytes_as_are, unless}
use Rattle.image_format.specs.TreeFormat as tf
use Rattle.image_format.specs.TreeFormat.{within, u16_within, u32_within, u16_below, tree_format, row_format, seg_format, in_image, no_tree, tagged}
use Rattle.image_reader.specs.Grammar as g
use Rattle.image_reader_law.specs.Fields.{Field, size_of, any, ranged, kind, tag, one_of, none, none_up_to, too_deep, number, fresh, own_name}
use Rattle.image_reader_law.specs.Layout as l
use Rattle.image_reader_law.specs.Layout.{Layout, field, rule, repeated, many}
use Rattle.image_reader_law.proofs.Table.{fault_of, or_else}
use Rattle.image_reader_law.proofs.Walks.{walk, stopped}
use Rattle.image_reader_law.proofs.Reading.{follow, Reads, Skips, leaf, skip, leaf_any, skip_any, twice, both_reads, both_first, both_skip, skip_both, via_reads, via_skips, rule_reads, takes_field, row_as}

-- ---- numbers

byte : List ℕ → ℕ
byte bytes = slice_index bytes 0

pub two : (low high : ℕ) → Reads (u16_within low high) (λ x. x) (λ k. field (ranged 2 low high) (λ v. k (number 2 v)))
two low high = leaf (ranged 2 low high) (from_be_bytes w16) (within low high) (u16_within low high) (λ bytes. refl) (λ v. refl)

pub four : (low high : ℕ) → Reads (u32_within low high) (λ x. x) (λ k. field (ranged 4 low high) (λ v. k (number 4 v)))
four low high = leaf (ranged 4 low high) (from_be_bytes w32) (within low high) (u32_within low high) (λ bytes. refl) (λ v. refl)

pub skip_four : (low high : ℕ) → Skips (u32_within low high) (λ k. field (ranged 4 low high) (λ v. k))
skip_four low high = skip (ranged 4 low high) (from_be_bytes w32) (within low high) (u32_within low high) (λ bytes. refl) (λ v. refl)

pub skip_two : (low high : ℕ) → Skips (u16_within low high) (λ k. field (ranged 2 low high) (λ v. k))
skip_two low high = skip (ranged 2 low high) (from_be_bytes w16) (within low high) (u16_within low high) (λ bytes. refl) (λ v. refl)

pub any_two : Reads u16 (λ x. x) (λ k. field (any 2) (λ v. k (number 2 v)))
any_two = leaf_any 2 (from_be_bytes w16) u16 (λ bytes. refl)

pub any_four : Reads u32 (λ x. x) (λ k. field (any 4) (λ v. k (number 4 v)))
any_four = leaf_any 4 (from_be_bytes w32) u32 (λ bytes. refl)

pub skip_any_two : Skips u16 (λ k. field (any 2) (λ v. k))
skip_any_two = skip_any 2 (from_be_bytes w16) u16 (λ bytes. refl)

pub skip_any_four : Skips u32 (λ k. field (any 4) (λ v. k))
skip_any_four = skip_any 4 (from_be_bytes w32) u32 (λ bytes. refl)

below : (count : ℕ) → Reads (u16_below count) (λ x. x) (λ k. field (one_of count) (λ v. k (number 2 v)))
below count = leaf (one_of count) (from_be_bytes w16) (λ n. unless (nat_lt n count) 4) (u16_below count) (λ bytes. refl) (λ v. refl)

skip_below : (count : ℕ) → Skips (u16_below count) (λ k. field (one_of count) (λ v. k))
skip_below count = skip (one_of count) (from_be_bytes w16) (λ n. unless (nat_lt n count) 4) (u16_below count) (λ bytes. refl) (λ v. refl)

kind_format : (most : ℕ) → Format ℕ
kind_format most = checked u8 (λ n. unless (nat_le n most) 6)

pub a_kind : (most : ℕ) → Reads (checked u8 (λ n. unless (nat_le n most) 6)) (λ x. x) (λ k. field (kind most) (λ v. k (number 1 v)))
a_kind most = leaf (kind most) (λ bytes. slice_index bytes 0) (λ n. unless (nat_le n most) 6) (checked u8 (λ n. unless (nat_le n most) 6)) (λ bytes. refl) (λ v. refl)

-- ---- names

passed_ok : {A : Type 0} (w : Option ℕ) (left : ℕ) (x z : A × List ℕ) → passed w left x ≡ Ok z → x ≡ z
passed_ok None left x z told = cc
passed_ok (Some n) left x z told = absurd cc

takes_checked : {A : Type 0} (r : Read A) (o : A → Option ℕ) (left : ℕ) (z : A × List ℕ) → (r >>= λ x. passed (o x.0) left x) ≡ Ok z → r ≡ Ok z
takes_checked (Ok x) o left z is = ap Ok (passed_ok (o x.0) left x z is)
takes_checked (Err e) o left z is = absurd cc

pub record Both {A B : Type 0} (r : Read A) (s : A × List ℕ → Read B) (z : (A × B) × List ℕ) : Type 0 where
  pub x : A × List ℕ
  pub y : B × List ℕ
  pub first : r ≡ Ok x
  pub second : s x ≡ Ok y
  pub whole : ((x.0, y.0), y.1) ≡ z

pub both_read : {A B : Type 0} (r : Read A) (s : A × List ℕ → Read B) (z : (A × B) × List ℕ) → (r >>= λ x. s x >>= λ y. Ok ((x.0, y.0), y.1)) ≡ Ok z → Both r s z
both_read {A = A} {B = B} (Ok x) s z is = by (s x) refl is where
  by : (t : Read B) → s x ≡ t → (t >>= λ y. Ok ((x.0, y.0), y.1)) ≡ Ok z → Both (Ok x) s z
  by (Ok y) at told = record { x = x; y = y; first = refl; second = at; whole = cc }
  by (Err e) at told = absurd cc
both_read (Err e) s z is = absurd cc

record Viewed {A B : Type 0} (to : A → B) (r : Read A) (z : B × List ℕ) : Type 0 where
  pub x : A × List ℕ
  is : r ≡ Ok x
  whole : (to x.0, x.1) ≡ z

view_read : {A B : Type 0} (to : A → B) (r : Read A) (z : B × List ℕ) → (r >>= λ x. Ok (to x.0, x.1)) ≡ Ok z → Viewed to r z
view_read to (Ok x) z is = record { x = x; is = refl; whole = cc }
view_read to (Err e) z is = absurd cc

plain_name : Format (List ℕ)
plain_name = via (λ x. x.1) (λ name. (length name, name)) (both (checked u8 (within 0 63)) bytes_as_are)

name_takes : (bytes : List ℕ) (z : List ℕ × List ℕ) → (via (λ x. x.1) (λ name. (length name, name)) (both (checked u8 (within 0 63)) bytes_as_are)).read bytes ≡ Ok z → length bytes ≡ (1 + length z.0) + length z.1
name_takes bytes z is =
    let v = view_read (λ (x : ℕ × List ℕ). x.1) ((both (checked u8 (within 0 63)) bytes_as_are).read bytes) z is in
    let b = both_read ((checked u8 (within 0 63)).read bytes) (λ x. (bytes_as_are x.0).read x.1) v.x v.is in
    let s = takes_field 1 (λ (bs : List ℕ). slice_index bs 0) bytes b.x (takes_checked (u8.read bytes) (within 0 63) (length bytes) b.x b.first) in
    let n = takes_field b.x.0 (λ (bs : List ℕ). bs) b.x.1 b.y b.second in
    let long : length b.y.0 ≡ b.x.0 = ap (λ (xs : List ℕ). length xs) (sym n.0) ∙ length-take-le b.x.0 b.x.1 n.1 in
    let name : length b.y.0 ≡ length z.0 = ap (λ (w : (ℕ × List ℕ) × List ℕ). length w.0.1) b.whole ∙ ap (λ (w : List ℕ × List ℕ). length w.0) v.whole in
    let rest : length b.y.1 ≡ length z.1 = ap (λ (w : (ℕ × List ℕ) × List ℕ). length w.1) b.whole ∙ ap (λ (w : List ℕ × List ℕ). length w.1) v.whole in
    omega (arith, s.2, n.2, long, name, rest)

pub a_name : (taken : List (List ℕ)) → Reads (g.name_format taken) (λ x. x) (l.name taken)
a_name taken =
    rule_reads (via (λ x. x.1) (λ name. (length name, name)) (both (checked u8 (within 0 63)) bytes_as_are)) (g.wrong_name taken) (λ x. x)
    (λ k. field (ranged 1 0 63) (λ size. field (any (number 1 size)) (λ x. k x))) (fresh taken) (λ x. 1 + length x)
    (via_reads (both (checked u8 (within 0 63)) bytes_as_are) (λ x. x.1) (λ name. (length name, name)) (λ z. z.1) (λ x. x) (λ k. field (ranged 1 0 63) (λ size. field (any (number 1 size)) (λ x. k x))) (λ x. refl)
    sized)
    name_takes (λ x. refl)
  where
    sized : Reads (both (checked u8 (within 0 63)) bytes_as_are) (λ z. z.1) (λ k. field (ranged 1 0 63) (λ size. field (any (number 1 size)) (λ x. k x)))
    sized k bytes =
        both_reads (checked u8 (within 0 63)) bytes_as_are (λ x. x) (λ x. x) (λ k. field (ranged 1 0 63) (λ v. k (number 1 v))) (λ n k. field (any n) (λ x. k x))
        (leaf (ranged 1 0 63) (λ bytes. slice_index bytes 0) (within 0 63) (checked u8 (within 0 63)) (λ bytes. refl) (λ v. refl))
        (λ n. leaf_any n (λ bytes. bytes) (bytes_as_are n) (λ bytes. refl)) (λ z. k z.1) bytes

-- ---- devices, monitors and conditions

flag_as : (told : ℕ) (r : Read ℕ) (k : Layout) → follow r (λ x rest. walk k rest) ≡ follow (r >>= λ x. Ok (x.0 == 1, x.1)) (λ x rest. walk k rest)
flag_as told (Ok x) k = refl
flag_as told (Err e) k = refl

pub direction : Skips (g.flag_format 6) (λ k. field (kind 1) (λ v. k))
direction k bytes = a_kind 1 (λ x. k) bytes ∙ flag_as 6 ((checked u8 (λ n. unless (nat_le n 1) 6)).read bytes) k

pub gives : Skips (g.flag_format 4) (λ k. field (ranged 1 0 1) (λ v. k))
gives k bytes =
    skip (ranged 1 0 1) (λ bytes. slice_index bytes 0) (λ n. unless (nat_le n 1) 4) (checked u8 (λ n. unless (nat_le n 1) 4)) (λ bytes. refl) same k bytes
    ∙ flag_as 4 ((checked u8 (λ n. unless (nat_le n 1) 4)).read bytes) k
  where
    same : (v : List ℕ) → fault_of (ranged 1 0 1) v ≡ unless (nat_le (slice_index v 0) 1) 4
    same v = ap (λ b. unless (b && nat_le (slice_index v 0) 1) 4) (le-leb 0 (slice_index v 0) (omega arith))

pub a_device : (taken : List (List ℕ)) → Reads (g.device_format taken) (λ d. d.name) (l.device taken)
a_device taken =
    via_reads (both (g.name_format taken) (λ name. g.flag_format 6)) (λ x. record { name = x.0; out = x.1 }) (λ d. (d.name, d.out)) (λ z. z.0) (λ (d : DeviceName). d.name) (l.device taken) (λ x. refl)
    (both_first (g.name_format taken) (λ name. g.flag_format 6) (λ x. x) (l.name taken) (λ x k. field (kind 1) (λ v. k)) (a_name taken) (λ x. direction))

monitor_numbers : Skips g.monitor_format (λ k. field (any 4) (λ base. field (any 4) (λ words. field (any 2) (λ ceiling. k))))
monitor_numbers =
    via_skips (both u32 (λ base. both u32 (λ words. u16))) (λ x. record { base = x.0; words = x.1.0; ceiling = x.1.1 }) (λ m. (m.base, (m.words, m.ceiling)))
    (λ k. field (any 4) (λ base. field (any 4) (λ words. field (any 2) (λ ceiling. k))))
    (skip_both u32 (λ base. both u32 (λ words. u16)) (λ k. field (any 4) (λ base. k)) (λ k. field (any 4) (λ words. field (any 2) (λ ceiling. k))) skip_any_four
    (λ base. skip_both u32 (λ words. u16) (λ k. field (any 4) (λ words. k)) (λ k. field (any 2) (λ ceiling. k)) skip_any_four (λ words. skip_any_two)))

pub a_monitor : (taken : List (List ℕ)) → Reads (g.named_monitor_format taken) (λ m. m.0) (l.monitor taken)
a_monitor taken =
    both_first (g.name_format taken) (λ name. g.monitor_format) (λ x. x) (l.name taken) (λ x k. field (any 4) (λ base. field (any 4) (λ words. field (any 2) (λ ceiling. k)))) (a_name taken) (λ x. monitor_numbers)

abbrev named_condition : (taken : List (List ℕ)) (monitors : ℕ) → Format ConditionName
named_condition taken monitors = via (λ x. record { name = x.0; mon = x.1 }) (λ c. (c.name, c.mon)) (both (g.name_format taken) (λ name. u16_below monitors))

condition_takes : (taken : List (List ℕ)) (monitors : ℕ) (bytes : List ℕ) (z : ConditionName × List ℕ) → (named_condition taken monitors).read bytes ≡ Ok z → length bytes ≡ (1 + length z.0.name + 2) + length z.1
condition_takes taken monitors bytes z is =
    let v = view_read (λ (x : List ℕ × ℕ). record { name = x.0; mon = x.1 }) ((both (g.name_format taken) (λ name. u16_below monitors)).read bytes) z is in
    let b = both_read ((g.name_format taken).read bytes) (λ x. (u16_below monitors).read x.1) v.x v.is in
    let s = name_takes bytes b.x (takes_checked ((via (λ x. x.1) (λ name. (length name, name)) (both (checked u8 (within 0 63)) bytes_as_are)).read bytes) (g.wrong_name taken) (length bytes) b.x b.first) in
    let n = takes_field 2 (from_be_bytes w16) b.x.1 b.y (takes_checked (u16.read b.x.1) (λ n. unless (nat_lt n monitors) 4) (length b.x.1) b.y b.second) in
    let name : length b.x.0 ≡ length z.0.name = ap (λ (w : (List ℕ × ℕ) × List ℕ). length w.0.0) b.whole ∙ ap (λ (w : ConditionName × List ℕ). length w.0.name) v.whole in
    let rest : length b.y.1 ≡ length z.1 = ap (λ (w : (List ℕ × ℕ) × List ℕ). length w.1) b.whole ∙ ap (λ (w : ConditionName × List ℕ). length w.1) v.whole in
    omega (arith, s, n.2, name, rest)

pub a_condition : (taken : List (List ℕ)) (monitors : ℕ) (earlier : List ConditionName) → Reads (g.condition_format taken monitors earlier) (λ c. c) (l.condition taken monitors earlier)
a_condition taken monitors earlier =
    rule_reads (named_condition taken monitors) (λ c. unless (not (g.is_again earlier c)) 5) (λ c. c)
    (λ k. l.name taken (λ x. field (one_of monitors) (λ m. k (record { name = x; mon = number 2 m })))) (own_name earlier) (λ c. 1 + length c.name + 2)
    named (condition_takes taken monitors) (λ c. refl)
  where
    named : Reads (named_condition taken monitors) (λ c. c) (λ k. l.name taken (λ x. field (one_of monitors) (λ m. k (record { name = x; mon = number 2 m }))))
    named k bytes =
        via_reads (both (g.name_format taken) (λ name. u16_below monitors)) (λ x. record { name = x.0; mon = x.1 }) (λ c. (c.name, c.mon)) (λ z. (z.0, z.1)) (λ (c : ConditionName). (c.name, c.mon))
        (λ k. l.name taken (λ x. field (one_of monitors) (λ m. k (x, number 2 m)))) (λ x. refl)
        (both_reads (g.name_format taken) (λ name. u16_below monitors) (λ x. x) (λ x. x) (l.name taken) (λ x k. field (one_of monitors) (λ m. k (number 2 m))) (a_name taken) (λ x. below monitors))
        (λ z. k (record { name = z.0; mon = z.1 })) bytes

-- ---- trees

deep_as : (r : Read ℕ) (left : ℕ) (k : Layout) → follow (r >>= λ x. passed (Some 4) left x) (λ x rest. walk k rest) ≡ follow (r >>= λ count. no_tree left) (λ x rest. walk k rest)
deep_as (Ok x) left k = refl
deep_as (Err e) left k = refl

a_deep : Skips tf.too_deep (λ k. field too_deep (λ count. k))
a_deep k bytes =
    skip too_deep (from_be_bytes w32) (λ n. Some 4) (checked u32 (λ n. Some 4)) (λ bytes. refl) (λ v. refl) k bytes ∙ deep_as (u32.read bytes) (length bytes) k

one_as : {A : Type 0} (to : A → Seg) (r : Read A) (k : Layout) → follow r (λ x rest. walk k rest) ≡ follow (r >>= λ x. Ok (to x.0, x.1)) (λ x rest. walk k rest)
one_as to (Ok x) k = refl
one_as to (Err e) k = refl

module _ (monitors : ℕ) (sub : Format Segs) (l_sub : Layout → Layout) (skips : Skips sub l_sub) where
  -- what a tag goes on as
  abbrev AsTag : (t left : ℕ) (rest : List ℕ) (k : Layout) → Type 0
  AsTag t left rest k =
      stopped (unless (nat_le 1 t && nat_le t 7) 6) left (walk (l.segment_behind monitors l_sub t k) rest) ≡ follow (tagged (in_image monitors) sub t left rest) (λ x more. walk k more)

  tag_as : (t left : ℕ) (rest : List ℕ) (k : Layout) → AsTag t left rest k
  tag_as zero left rest k = refl
  tag_as (suc zero) left rest k = skip_four 1 65535 k rest ∙ one_as Line (tf.line_count.read rest) k
  tag_as (suc (suc zero)) left rest k = skip_both sub (λ first. sub) l_sub l_sub skips (λ x. skips) k rest ∙ one_as (λ x. Fork x.0 x.1) ((both sub (λ first. sub)).read rest) k
  tag_as (suc (suc (suc zero))) left rest k =
      skip_both tf.turns_count (λ turns. sub) (λ k. field (ranged 4 1 1000000) (λ turns. k)) l_sub (skip_four 1 1000000) (λ x. skips) k rest
      ∙ one_as (λ x. Rep x.0 x.1) ((both tf.turns_count (λ turns. sub)).read rest) k
  tag_as (suc (suc (suc (suc zero)))) left rest k = skip_any_two k rest ∙ one_as Call (u16.read rest) k
  tag_as (suc (suc (suc (suc (suc zero))))) left rest k =
      skip_both (u16_below monitors) (λ monitor. sub) (λ k. field (one_of monitors) (λ monitor. k)) l_sub (skip_below monitors) (λ x. skips) k rest
      ∙ one_as (λ x. Stay x.0 x.1) ((both (u16_below monitors) (λ monitor. sub)).read rest) k
  tag_as (suc (suc (suc (suc (suc (suc zero)))))) left rest k = refl
  tag_as (suc (suc (suc (suc (suc (suc (suc zero))))))) left rest k = refl
  tag_as (suc (suc (suc (suc (suc (suc (suc (suc n)))))))) left rest k = over (suc (suc (suc (suc (suc (suc (suc (suc n)))))))) (omega arith) where
    over : (t : ℕ) → 8 ≤ t → AsTag t left rest k
    over t high =
        rw (
          ne_eqb t 1 (λ e. omega (arith, high, e)),
          ne_eqb t 2 (λ e. omega (arith, high, e)),
          ne_eqb t 3 (λ e. omega (arith, high, e)),
          ne_eqb t 4 (λ e. omega (arith, high, e)),
          ne_eqb t 5 (λ e. omega (arith, high, e)),
          ne_eqb t 6 (λ e. omega (arith, high, e)),
          ne_eqb t 7 (λ e. omega (arith, high, e)),
          le-leb 1 t (omega (arith, high)),
          lt-leb t 7 (omega (arith, high)),
        ) refl

  abbrev byte_read : Bool → List ℕ → Read ℕ
  byte_read b bytes = if b then Err (fault 2 0) else Ok (slice_index (take 1 bytes) 0, drop 1 bytes)

  segment_as : Skips (seg_format (in_image monitors) sub) (l.segment monitors l_sub)
  unfolding tf.seg_read
  segment_as k bytes = by (nat_lt (length bytes) 1) where
    by : (b : Bool)
        → (if b then Some (fault 2 0) else stopped (fault_of (tag 7) (take 1 bytes)) (length bytes) (walk (l.segment_behind monitors l_sub (slice_index (take 1 bytes) 0) k) (drop 1 bytes)))
        ≡ follow (byte_read b bytes >>= λ t. tagged (in_image monitors) sub t.0 (length bytes) t.1) (λ x rest. walk k rest)
    by true = refl
    by false = tag_as (slice_index (take 1 bytes) 0) (length bytes) (drop 1 bytes) k

row_reads : (one : Format Seg) (l_one : Layout → Layout) → Skips one l_one → Skips (row_format one) (λ k. field (any 4) (λ count. repeated l_one (number 4 count) k))
row_reads one l_one skips k bytes = any_four (λ n. repeated l_one n k) bytes ∙ by (u32.read bytes) where
  by : (r : Read ℕ) → follow r (λ n rest. walk (repeated l_one n k) rest) ≡ follow (r >>= λ count. tf.segs_read one count.0 count.1) (λ x rest. walk k rest)
  by (Ok x) = row_as one l_one skips x.0 k x.1
  by (Err e) = refl

pub a_tree : (monitors depth : ℕ) → Skips (tree_format (in_image monitors) depth) (l.tree monitors depth)
unfolding tree_format l.tree
a_tree monitors zero k bytes = a_deep k bytes
a_tree monitors (suc depth) k bytes =
    row_reads (seg_format (in_image monitors) (tree_format (in_image monitors) depth)) (l.segment monitors (l.tree monitors depth))
    (segment_as monitors (tree_format (in_image monitors) depth) (l.tree monitors depth) (a_tree monitors depth)) k bytes

-- ---- routines

an_owner : (counts : Counts) (k : ℕ) → Skips (checked u16 (g.wrong_owner counts k)) (λ next. field (l.owner counts k) (λ v. next))
an_owner counts zero = skip none (from_be_bytes w16) (g.wrong_owner counts 0) (checked u16 (g.wrong_owner counts 0)) (λ bytes. refl) (λ v. refl)
an_owner counts (suc zero) = skip (one_of counts.processes) (from_be_bytes w16) (g.wrong_owner counts 1) (checked u16 (g.wrong_owner counts 1)) (λ bytes. refl) (λ v. refl)
an_owner counts (suc (suc k)) = skip (one_of counts.monitors) (from_be_bytes w16) (g.wrong_owner counts (suc (suc k))) (checked u16 (g.wrong_owner counts (suc (suc k)))) (λ bytes. refl) (λ v. refl)

-- of a field of numbers up to high, or of none
or_none : (o : Option ℕ) (n : ℕ) → o ≡ or_else o (unless true n)
or_none (Some m) n = refl
or_none None n = refl

abbrev pub up_to_or_none : (is_there : Bool) → (high : ℕ) → Field
up_to_or_none true high = ranged 4 0 high
up_to_or_none false high = none_up_to high

pub up_to : (b : Bool) (high : ℕ) (next : Layout) (bytes : List ℕ)
    → walk (field (up_to_or_none b high) (λ v. next)) bytes ≡ follow ((checked (u32_within 0 high) (λ n. unless (b || n == 0) 7)).read bytes) (λ x rest. walk next rest)
up_to b high = skip (up_to_or_none b high) (from_be_bytes w32) (λ n. or_else (within 0 high n) (unless (b || n == 0) 7)) (checked (u32_within 0 high) (λ n. unless (b || n == 0) 7)) (reads b) (same b) where
  reads : (b : Bool) (bytes : List ℕ) → (checked (u32_within 0 high) (λ n. unless (b || n == 0) 7)).read bytes ≡ (field_at (size_of (up_to_or_none b high)) (from_be_bytes w32) bytes >>= λ x. passed (or_else (within 0 high x.0) (unless (b || x.0 == 0) 7)) (length bytes) x)
  reads true bytes = twice (u32.read bytes) (within 0 high) (λ n. unless (true || n == 0) 7) (length bytes)
  reads false bytes = twice (u32.read bytes) (within 0 high) (λ n. unless (false || n == 0) 7) (length bytes)

  same : (b : Bool) (v : List ℕ) → fault_of (up_to_or_none b high) v ≡ or_else (within 0 high (from_be_bytes w32 v)) (unless (b || from_be_bytes w32 v == 0) 7)
  same true v = or_none (within 0 high (from_be_bytes w32 v)) 7
  same false v = refl

a_stay : (k : ℕ) → Skips (checked g.cost (g.wrong_stay k)) (λ next. field (l.stay (k == 2)) (λ v. next))
a_stay k next bytes = by (k == 2) where
  by : (b : Bool) → walk (field (l.stay b) (λ v. next)) bytes ≡ follow ((checked (u32_within 0 1000000001) (λ n. unless (b || n == 0) 7)).read bytes) (λ x rest. walk next rest)
  by true = up_to true 1000000001 next bytes
  by false = up_to false 1000000001 next bytes

abbrev costed : ℕ → Layout → Layout
costed k next = field (any 4) (λ start. field l.cost (λ run. field l.cost (λ susp. field l.cost (λ waits. field (l.stay (k == 2)) (λ stays. next)))))

costs : (k : ℕ) → Skips (g.cost_format k) (costed k)
costs k =
    skip_both u32 (λ start. both g.cost (λ run. both g.cost (λ susp. both g.cost (λ waits. checked g.cost (g.wrong_stay k))))) (λ n. field (any 4) (λ v. n))
    (λ n. field l.cost (λ run. field l.cost (λ susp. field l.cost (λ waits. field (l.stay (k == 2)) (λ stays. n))))) skip_any_four
    (λ start. skip_both g.cost (λ run. both g.cost (λ susp. both g.cost (λ waits. checked g.cost (g.wrong_stay k)))) (λ n. field l.cost (λ v. n))
    (λ n. field l.cost (λ susp. field l.cost (λ waits. field (l.stay (k == 2)) (λ stays. n)))) (skip_four 0 1000000001)
    (λ run. skip_both g.cost (λ susp. both g.cost (λ waits. checked g.cost (g.wrong_stay k))) (λ n. field l.cost (λ v. n))
    (λ n. field l.cost (λ waits. field (l.stay (k == 2)) (λ stays. n))) (skip_four 0 1000000001)
    (λ susp. skip_both g.cost (λ waits. checked g.cost (g.wrong_stay k)) (λ n. field l.cost (λ v. n)) (λ n. field (l.stay (k == 2)) (λ stays. n)) (skip_four 0 1000000001) (λ waits. a_stay k))))

abbrev owned : Counts → ℕ → Layout → Layout
owned counts k next = field (l.owner counts k) (λ o. field (any 2) (λ params. field (ranged 4 0 4096) (λ locals. field (ranged 1 0 1) (λ gives. next))))

owners : (counts : Counts) (k : ℕ) → Skips (both (checked u16 (g.wrong_owner counts k)) (λ owner. both u16 (λ params. both (u32_within 0 4096) (λ locals. g.flag_format 4)))) (owned counts k)
owners counts k =
    skip_both (checked u16 (g.wrong_owner counts k)) (λ owner. both u16 (λ params. both (u32_within 0 4096) (λ locals. g.flag_format 4))) (λ n. field (l.owner counts k) (λ v. n))
    (λ n. field (any 2) (λ params. field (ranged 4 0 4096) (λ locals. field (ranged 1 0 1) (λ gives. n)))) (an_owner counts k)
    (λ o. skip_both u16 (λ params. both (u32_within 0 4096) (λ locals. g.flag_format 4)) (λ n. field (any 2) (λ v. n)) (λ n. field (ranged 4 0 4096) (λ locals. field (ranged 1 0 1) (λ gives. n))) skip_any_two
    (λ params. skip_both (u32_within 0 4096) (λ locals. g.flag_format 4) (λ n. field (ranged 4 0 4096) (λ v. n)) (λ n. field (ranged 1 0 1) (λ gives. n)) (skip_four 0 4096) (λ locals. gives)))

owner_kind : (counts : Counts) → Reads (g.owner_format counts) (λ o. o.0) (λ k. field (kind 2) (λ v. owned counts (number 1 v) (k (number 1 v))))
owner_kind counts =
    both_first (checked u8 (λ kind. unless (nat_le kind 2) 6)) (λ kind. both (checked u16 (g.wrong_owner counts kind)) (λ owner. both u16 (λ params. both (u32_within 0 4096) (λ locals. g.flag_format 4)))) (λ x. x)
    (λ k. field (kind 2) (λ v. k (number 1 v))) (owned counts) (a_kind 2) (owners counts)

pub a_routine : (counts : Counts) → Skips (g.routine_format counts) (l.routine counts)
a_routine counts k bytes =
    both_skip (g.owner_format counts) (λ o. both (g.cost_format o.0) (λ c. tree_format (in_image counts.monitors) g.deepest)) (λ o. o.0) (λ n. field (kind 2) (λ v. owned counts (number 1 v) (n (number 1 v))))
    (λ c n. costed c (l.tree counts.monitors g.deepest n)) (owner_kind counts)
    (λ o. skip_both (g.cost_format o.0) (λ c. tree_format (in_image counts.monitors) g.deepest) (costed o.0) (l.tree counts.monitors g.deepest) (costs o.0) (λ c. a_tree counts.monitors g.deepest)) k bytes
    ∙ seen _ ((both (g.owner_format counts) (λ o. both (g.cost_format o.0) (λ c. tree_format (in_image counts.monitors) g.deepest))).read bytes)
  where
    seen : {A B : Type 0} (to : A → B) (r : Read A) → follow r (λ x rest. walk k rest) ≡ follow (r >>= λ x. Ok (to x.0, x.1)) (λ x rest. walk k rest)
    seen to (Ok x) = refl
    seen to (Err e) = refl

-- The lines of routines.
use Rattle.std.proofs.Common.{◌≡◌, ◌≤◌, ◌<◌, ◌^◌, ◌&&◌, ◌==◌, ◌++◌, ℕ, zero, suc, Bool, true, false, List, length, Ok, decimal, refl, ap, ◌∙◌, arith}
use Rattle.std.specs.Prelude.{nat_lt, nat_le, codes}
use Rattle.std.proofs.lemmas.Bool.{and_parts, ltb-true, leb-true, eqb-true}
use Rattle.machine_semantics.specs.Image.{Routine}
use Rattle.image_reader.specs.declared.counts.Counts.{Counts}
use Rattle.image_format.specs.Format.{u8, u16, u32, unless, is_fine, checked}
use Rattle.image_format.specs.TreeFormat.{in_image, u32_within, tree_format}
use Rattle.image_reader.specs.Grammar.{cost, cost_format, owner_format, routine_format, wrong_owner, wrong_stay}
use Rattle.asm_format.specs.Text.{owner_text, bit, stay_text, cost_text, place_text, routine_lines}
use Rattle.asm_format.specs.TreeText.{tree_line}
use Rattle.text_fields.specs.Front.{line_start}
use Rattle.text_fields.specs.LineFields.{is_digit}
use Rattle.asm_lines.specs.Routines.{owner_read, place_read, stay_read, cost_fields_read, routine_line_read, routine_read}
use Rattle.asm_law.proofs.Pieces.{fields_3_then, fields_4, lines_2, pieces_4}
use Rattle.asm_law.proofs.ReadsNumbers.{place, Stops, begins_self, begins_not, skips, ends, field_reads}
use Rattle.asm_law.proofs.ReadsNames.{in_u32}
use Rattle.asm_law.proofs.ReadsTrees.{tree_line_reads}
use Rattle.image_reader_law.proofs.ImageFaultsFields.{fine_is}

-- ---- what the format says of a routine

pub record IsRoutine (counts : Counts) (r : Routine) : Type 0 where
  pub kind : r.kind ≤ 2
  pub owner : r.owner < 2 ^ 16
  pub owned : is_fine (wrong_owner counts r.kind r.owner) ≡ true
  pub params : r.params < 2 ^ 16
  pub locals : r.locals ≤ 4096
  pub start : r.start < 2 ^ 32
  pub run : r.run ≤ 1000000001
  pub susp : r.susp ≤ 1000000001
  pub waits : r.waits ≤ 1000000001
  pub stay : r.stay ≤ 1000000001
  pub stays : is_fine (wrong_stay r.kind r.stay) ≡ true
  pub tree : (tree_format (in_image counts.monitors) 130).is r.tree ≡ true

abbrev kind_is : ℕ → Bool
kind_is kind = (checked u8 (λ n. unless (nat_le n 2) 6)).is kind

abbrev owner_is : Counts → ℕ → ℕ → Bool
owner_is counts kind owner = (checked u16 (wrong_owner counts kind)).is owner

abbrev place_is : Routine → Bool
place_is r = u16.is r.params && ((u32_within 0 4096).is r.locals && true)

abbrev stay_is : ℕ → ℕ → Bool
stay_is kind stay = (checked cost (wrong_stay kind)).is stay

abbrev from_susp : Routine → Bool
from_susp r = cost.is r.susp && (cost.is r.waits && stay_is r.kind r.stay)

pub routine_is : (counts : Counts) (r : Routine) → (routine_format counts).is r ≡ true → IsRoutine counts r
routine_is counts r h =
    let cost_is = (cost_format r.kind).is (r.start, (r.run, (r.susp, (r.waits, r.stay)))) in
    let tree_is = (tree_format (in_image counts.monitors) 130).is r.tree in
    let p = and_parts ((owner_format counts).is (r.kind, (r.owner, (r.params, (r.locals, r.gives))))) (cost_is && tree_is) h in
    let costs = and_parts cost_is tree_is p.1 in
    let kind = and_parts (kind_is r.kind) (owner_is counts r.kind r.owner && place_is r) p.0 in
    let owner = and_parts (owner_is counts r.kind r.owner) (place_is r) kind.1 in
    let owned = and_parts (nat_lt r.owner (2 ^ 16)) (is_fine (wrong_owner counts r.kind r.owner)) owner.0 in
    let params = and_parts (u16.is r.params) ((u32_within 0 4096).is r.locals && true) owner.1 in
    let locals = and_parts ((u32_within 0 4096).is r.locals) true params.1 in
    let start = and_parts (u32.is r.start) (cost.is r.run && from_susp r) costs.0 in
    let run = and_parts (cost.is r.run) (from_susp r) start.1 in
    let susp = and_parts (cost.is r.susp) (cost.is r.waits && stay_is r.kind r.stay) run.1 in
    let waits = and_parts (cost.is r.waits) (stay_is r.kind r.stay) susp.1 in
    let stay = and_parts (cost.is r.stay) (is_fine (wrong_stay r.kind r.stay)) waits.1 in
    record {
      kind = leb-true r.kind 2 (fine_is (nat_le r.kind 2) 6 (and_parts (nat_lt r.kind 256) (is_fine (unless (nat_le r.kind 2) 6)) kind.0).1);
      owner = ltb-true r.owner (2 ^ 16) owned.0;
      owned = owned.1;
      params = ltb-true r.params (2 ^ 16) params.0;
      locals = (in_u32 0 4096 r.locals locals.0).1;
      start = ltb-true r.start (2 ^ 32) start.0;
      run = (in_u32 0 1000000001 r.run run.0).1;
      susp = (in_u32 0 1000000001 r.susp susp.0).1;
      waits = (in_u32 0 1000000001 r.waits waits.0).1;
      stay = (in_u32 0 1000000001 r.stay stay.0).1;
      stays = stay.1;
      tree = costs.1;
    }

-- ---- the fields

owner_reads : (counts : Counts) (kind owner start : ℕ) (rest : List ℕ) → kind ≤ 2 → owner < 2 ^ 16 → is_fine (wrong_owner counts kind owner) ≡ true → Stops is_digit rest
    → owner_read counts.processes counts.monitors (place start (codes "routine " ++ (owner_text kind owner ++ rest))) ≡ Ok ((kind, owner), place start rest)
unfolding owner_read
owner_reads counts zero owner start rest low small owned stops =
    let none : owner ≡ 0 = eqb-true owner 0 (fine_is (owner == 0) 7 owned) in
    let text = codes "routine program" ++ rest in
    rw (begins_not (codes "routine process ") text refl, skips (codes "routine program") start rest, none) refl
owner_reads counts (suc zero) owner start rest low small owned stops =
    let after = decimal owner ++ rest in
    rw (begins_self (codes "routine process ") after, field_reads (codes "routine process ") 0 65535 owner start rest (omega arith) (omega (arith, small)) (omega arith) stops, fine_is (nat_lt owner counts.processes) 4 owned) refl
owner_reads counts (suc (suc zero)) owner start rest low small owned stops =
    let after = decimal owner ++ rest in
    let text = codes "routine monitor " ++ after in
    rw (
      begins_not (codes "routine process ") text refl,
      begins_self (codes "routine monitor ") after,
      field_reads (codes "routine monitor ") 0 65535 owner start rest (omega arith) (omega (arith, small)) (omega arith) stops,
      fine_is (nat_lt owner counts.monitors) 4 owned,
    ) refl
owner_reads counts (suc (suc (suc kind))) owner start rest low small owned stops = absurd (omega (arith, low))

bit_low : (b : Bool) → bit b ≤ 1
bit_low true = omega arith
bit_low false = omega arith

bit_told : (b : Bool) → (bit b == 1) ≡ b
bit_told true = refl
bit_told false = refl

place_reads : (counts : Counts) (r : Routine) (start : ℕ) (rest : List ℕ) → IsRoutine counts r → Stops is_digit rest → place_read (place start (place_text r ++ rest)) ≡ Ok ((r.params, (r.locals, (r.gives, r.start))), place start rest)
unfolding place_read
place_reads counts r start rest is stops =
    let at_start = codes " start " ++ (decimal r.start ++ rest) in
    let at_result = codes " result " ++ (decimal (bit r.gives) ++ at_start) in
    let at_locals = codes " locals " ++ (decimal r.locals ++ at_result) in
    let text = codes " params " ++ (decimal r.params ++ at_locals) in
    let same : place_text r ++ rest ≡ text =
    fields_4 (codes " params ") (decimal r.params) (codes " locals ") (decimal r.locals) (codes " result ") (decimal (bit r.gives)) (codes " start ") (decimal r.start) rest in
    ap (λ t. place_read (place start t)) same
    ∙ rw (
      field_reads (codes " params ") 0 65535 r.params start at_locals (omega arith) (omega (arith, is.params)) (omega arith) refl,
      field_reads (codes " locals ") 0 4096 r.locals start at_result (omega arith) is.locals (omega arith) refl,
      field_reads (codes " result ") 0 1 (bit r.gives) start at_start (omega arith) (bit_low r.gives) (omega arith) refl,
      field_reads (codes " start ") 0 4294967295 r.start start rest (omega arith) (omega (arith, is.start)) (omega arith) stops,
      bit_told r.gives,
    ) refl

stay_reads : (kind stay start : ℕ) (rest : List ℕ) → kind ≤ 2 → stay ≤ 1000000001 → is_fine (wrong_stay kind stay) ≡ true → Stops is_digit rest → stay_read kind (place start (stay_text kind stay ++ rest)) ≡ Ok (stay, place start rest)
unfolding stay_read
stay_reads zero stay start rest kinds low stays stops = rw (eqb-true stay 0 (fine_is (stay == 0) 7 stays)) refl
stay_reads (suc zero) stay start rest kinds low stays stops = rw (eqb-true stay 0 (fine_is (stay == 0) 7 stays)) refl
stay_reads (suc (suc zero)) stay start rest kinds low stays stops = field_reads (codes " stay ") 0 1000000001 stay start rest (omega arith) low (omega arith) stops
stay_reads (suc (suc (suc kind))) stay start rest kinds low stays stops = absurd (omega (arith, kinds))

stay_stops : (kind stay : ℕ) (rest : List ℕ) → Stops is_digit rest → Stops is_digit (stay_text kind stay ++ rest)
stay_stops zero stay rest stops = stops
stay_stops (suc zero) stay rest stops = stops
stay_stops (suc (suc kind)) stay rest stops = refl

costs_read : (counts : Counts) (r : Routine) (start : ℕ) (rest : List ℕ) → IsRoutine counts r → Stops is_digit rest → cost_fields_read r.kind (place start (cost_text r ++ rest)) ≡ Ok ((r.run, (r.susp, (r.waits, r.stay))), place start rest)
unfolding cost_fields_read
costs_read counts r start rest is stops =
    let at_stay = stay_text r.kind r.stay ++ rest in
    let at_waits = codes " waits " ++ (decimal r.waits ++ at_stay) in
    let at_susp = codes " suspend " ++ (decimal r.susp ++ at_waits) in
    let text = codes " run " ++ (decimal r.run ++ at_susp) in
    let same : cost_text r ++ rest ≡ text = fields_3_then (codes " run ") (decimal r.run) (codes " suspend ") (decimal r.susp) (codes " waits ") (decimal r.waits) (stay_text r.kind r.stay) rest in
    ap (λ t. cost_fields_read r.kind (place start t)) same
    ∙ rw (
      field_reads (codes " run ") 0 1000000001 r.run start at_susp (omega arith) is.run (omega arith) refl,
      field_reads (codes " suspend ") 0 1000000001 r.susp start at_waits (omega arith) is.susp (omega arith) refl,
      field_reads (codes " waits ") 0 1000000001 r.waits start at_stay (omega arith) is.waits (omega arith) (stay_stops r.kind r.stay rest stops),
      stay_reads r.kind r.stay start rest is.kind is.stay is.stays stops,
    ) refl

-- ---- the line

-- what the line tells
abbrev told : Routine → (ℕ × ℕ) × ((ℕ × (ℕ × (Bool × ℕ))) × (ℕ × (ℕ × (ℕ × ℕ))))
told r = ((r.kind, r.owner), ((r.params, (r.locals, (r.gives, r.start))), (r.run, (r.susp, (r.waits, r.stay)))))

abbrev pub routine_line : Routine → List ℕ
routine_line r = codes "routine " ++ (owner_text r.kind r.owner ++ (place_text r ++ cost_text r))

line_reads : (counts : Counts) (r : Routine) (rest : List ℕ) → IsRoutine counts r → routine_line_read counts.processes counts.monitors (line_start (routine_line r ++ (codes "\n" ++ rest))) ≡ Ok (told r, line_start rest)
unfolding routine_line_read
line_reads counts r rest is =
    let at_end = codes "\n" ++ rest in
    let at_cost = cost_text r ++ at_end in
    let at_place = place_text r ++ at_cost in
    let text = codes "routine " ++ (owner_text r.kind r.owner ++ at_place) in
    let same : routine_line r ++ at_end ≡ text = pieces_4 (codes "routine ") (owner_text r.kind r.owner) (place_text r) (cost_text r) at_end in
    ap (λ t. routine_line_read counts.processes counts.monitors (line_start t)) same
    ∙ rw (owner_reads counts r.kind r.owner (length text) at_place is.kind is.owner is.owned refl, place_reads counts r (length text) at_cost is refl, costs_read counts r (length text) at_end is refl, ends (length text) rest) refl

pub routine_reads : (counts : Counts) (r : Routine) (rest : List ℕ) → (routine_format counts).is r ≡ true → routine_read counts.processes counts.monitors (line_start (routine_lines r ++ rest)) ≡ Ok (r, line_start rest)
unfolding routine_read
routine_reads counts r rest h =
    let is = routine_is counts r h in
    let at_tree = tree_line r.tree ++ rest in
    let text = routine_line r ++ (codes "\n" ++ at_tree) in
    let same : routine_lines r ++ rest ≡ text = lines_2 (codes "routine ") (owner_text r.kind r.owner) (place_text r) (cost_text r) (codes "\n") (tree_line r.tree) rest in
    ap (λ t. routine_read counts.processes counts.monitors (line_start t)) same ∙ rw (line_reads counts r at_tree is, tree_line_reads counts.monitors r.tree rest is.tree) refl

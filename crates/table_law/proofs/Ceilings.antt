-- The ceilings of a program are least ranks, and those of a table's program are the table's.
use Rattle.std.proofs.Common.{◌≡◌, ◌≤◌, ◌+◌, ◌⊎◌, inl, inr, ℕ, zero, suc, Bool, true, false, cond, bytes_eq, List, [], ◌∷◌, Option, Some, None, map, refl, ap, sym, ◌∙◌, subst, arith}
use Rattle.std.specs.Prelude.{slice_get, min, Contains}
use Rattle.std.proofs.lemmas.Bool.{cases_lt, both_ways}
use Rattle.std.proofs.lemmas.Option.{same_Some, none-some}
use Rattle.syntax_tree.specs.Plain.{Name, Process, Program}
use Rattle.syntax_tree.specs.Placed.{plain, plain_process}
use Rattle.source_semantics.specs.Names.{processes, monitor_number, place_of}
use Rattle.source_semantics.specs.Ranks.{rank, ceiling, monitors_of, includes, least_rank, min_with}
use Rattle.table_format.specs.declared.table.TaskStay.{TaskStay}
use Rattle.table_format.specs.declared.table.TaskLine.{TaskLine}
use Rattle.table_format.specs.declared.table.TaskTable.{TaskTable}
use Rattle.table_format.specs.Rules as of_table
use Rattle.table_format.specs.Rules.{monitors_named}
use Rattle.table_format.specs.Program.{table_process, program_with}
use Rattle.table_law.proofs.Few.{same_is, same_self}
use Rattle.table_law.proofs.Fits.{TableFits}
use Rattle.table_law.proofs.Members.{Elem, elem_map}
use Rattle.table_law.proofs.Parts.{processes_are, process_there}
use Rattle.table_law.specs.Tasks.{rank_of_line, IsRankIn, IsTableCeiling}
use Rattle.table_law.proofs.Elements.{elem_from, contains_from, of_map, got_map, included, includes_it}
use Rattle.table_law.proofs.Calls.{line_uses}
use Rattle.table_law.proofs.TaskEntries.{number_is}
use Rattle.table_law.proofs.Comes.{line_fit, stay_in, monitor_in}

-- ---- the ceiling of a monitor of a program

-- a process of this rank reaches the monitor
pub record IsUserRank (g : Program) (m rank_is : ℕ) : Type 0 where
  pub number : ℕ
  pub process : Process
  pub there : slice_get (processes g) number ≡ Some process
  pub uses : includes m (monitors_of g process) ≡ true
  pub ranked : rank_is ≡ rank g number

least_of_two : (a b c : ℕ) → min a b ≡ c → ((c ≡ a) × (c ≤ b)) ⊎ ((c ≡ b) × (c ≤ a))
least_of_two a b c is = elim (cases_lt a b) [
  | inl less ↦ inl (omega (arith, is, less), omega (arith, is, less))
  | inr more ↦ inr (omega (arith, is, more), omega (arith, is, more))
]

some_least : (g : Program) (m b : ℕ) (ps : List Process) (i : ℕ) (p : Process) → slice_get ps i ≡ Some p → includes m (monitors_of g p) ≡ true → (c : ℕ) × (least_rank g m b ps ≡ Some c)
some_least g m b [] i p there uses = absurd (none-some p there)
some_least g m b (q ∷ ps) i p there uses = by (includes m (monitors_of g q)) refl i there (λ j at. some_least g m (suc b) ps j p at uses) where
  by : (x : Bool) → includes m (monitors_of g q) ≡ x → (i : ℕ) → slice_get (q ∷ ps) i ≡ Some p
      → ((j : ℕ) → slice_get ps j ≡ Some p → (c : ℕ) × (least_rank g m (suc b) ps ≡ Some c))
      → (c : ℕ) × (cond x (Some (min_with (rank g b) (least_rank g m (suc b) ps))) (least_rank g m (suc b) ps) ≡ Some c)
  by true reaches i there more = (min_with (rank g b) (least_rank g m (suc b) ps), refl)
  by false never zero there more = absurd (both_ways (includes m (monitors_of g q)) never (ap (λ z. includes m (monitors_of g z)) (same_Some q p there) ∙ uses))
  by false never (suc i) there more = more i there

module _ (g : Program) (m : ℕ) where
  -- one of the processes, the first of which is number b, has this rank and reaches the monitor
  abbrev OneOf : (b : ℕ) → List Process → (c : ℕ) → Type 0
  OneOf b ps c = (i : ℕ) × (p : Process) × (slice_get ps i ≡ Some p) × (includes m (monitors_of g p) ≡ true) × (c ≡ rank g (b + i))

  later : (b : ℕ) (p : Process) (ps : List Process) (c : ℕ) → OneOf (suc b) ps c → OneOf b (p ∷ ps) c
  later b p ps c one =
      let z : suc b + one.0 ≡ b + suc one.0 = omega arith in
      (suc one.0, one.1, one.2, one.3, one.4 ∙ ap (λ n. rank g n) z)

  first : (b : ℕ) (p : Process) (ps : List Process) (c : ℕ) → includes m (monitors_of g p) ≡ true → c ≡ rank g b → OneOf b (p ∷ ps) c
  first b p ps c uses is = let z : b ≡ b + 0 = omega arith in (0, p, refl, uses, is ∙ ap (λ n. rank g n) z)

  one_of : (b : ℕ) (ps : List Process) (c : ℕ) → least_rank g m b ps ≡ Some c → OneOf b ps c
  one_of b [] c is = absurd (none-some c is)
  one_of b (p ∷ ps) c is = by (includes m (monitors_of g p)) refl (least_rank g m (suc b) ps) refl is (λ d rest. later b p ps d (one_of (suc b) ps d rest)) where
    by : (x : Bool) → includes m (monitors_of g p) ≡ x → (o : Option ℕ) → least_rank g m (suc b) ps ≡ o → cond x (Some (min_with (rank g b) o)) o ≡ Some c
        → ((d : ℕ) → least_rank g m (suc b) ps ≡ Some d → OneOf b (p ∷ ps) d) → OneOf b (p ∷ ps) c
    by false never o rest is more = more c (rest ∙ is)
    by true reaches None rest is more = first b p ps c reaches (sym (same_Some (rank g b) c is))
    by true reaches (Some q) rest is more = elim (least_of_two (rank g b) q c (same_Some (min (rank g b) q) c is)) [
      | inl own ↦ first b p ps c reaches own.0
      | inr other ↦ more c (rest ∙ ap (λ n. Some n) (sym other.0))
    ]

  lowest : (b : ℕ) (ps : List Process) (c : ℕ) → least_rank g m b ps ≡ Some c → (i : ℕ) (p : Process) → slice_get ps i ≡ Some p → includes m (monitors_of g p) ≡ true → c ≤ rank g (b + i)
  lowest b [] c is i p there uses = absurd (none-some c is)
  lowest b (q ∷ ps) c is i p there uses = by (includes m (monitors_of g q)) refl (least_rank g m (suc b) ps) refl is i there (λ j at d rest. moved j d (lowest (suc b) ps d rest j p at uses)) where
    moved : (j d : ℕ) → d ≤ rank g (suc b + j) → d ≤ rank g (b + suc j)
    moved j d low = let z : suc b + j ≡ b + suc j = omega arith in subst (λ n. d ≤ rank g n) z low

    own : c ≤ rank g b → c ≤ rank g (b + 0)
    own low = let z : b ≡ b + 0 = omega arith in subst (λ n. c ≤ rank g n) z low

    below : (n d : ℕ) → c ≤ d → d ≤ n → c ≤ n
    below n d low more = omega (arith, low, more)

    equal : (n : ℕ) → c ≡ n → c ≤ n
    equal n is = omega (arith, is)

    by : (x : Bool) → includes m (monitors_of g q) ≡ x → (o : Option ℕ) → least_rank g m (suc b) ps ≡ o → cond x (Some (min_with (rank g b) o)) o ≡ Some c
        → (i : ℕ) → slice_get (q ∷ ps) i ≡ Some p
        → ((j : ℕ) → slice_get ps j ≡ Some p → (d : ℕ) → least_rank g m (suc b) ps ≡ Some d → d ≤ rank g (b + suc j))
        → c ≤ rank g (b + i)
    by false never o rest is zero there behind = absurd (both_ways (includes m (monitors_of g q)) never (ap (λ z. includes m (monitors_of g z)) (same_Some q p there) ∙ uses))
    by false never o rest is (suc i) there behind = behind i there c (rest ∙ is)
    by true reaches None rest is zero there behind = own (equal (rank g b) (sym (same_Some (rank g b) c is)))
    by true reaches None rest is (suc i) there behind = absurd (let some = some_least g m (suc b) ps i p there uses in none-some some.0 (sym rest ∙ some.1))
    by true reaches (Some d) rest is zero there behind = elim (least_of_two (rank g b) d c (same_Some (min (rank g b) d) c is)) [
      | inl mine ↦ own (equal (rank g b) mine.0)
      | inr other ↦ own other.1
    ]
    by true reaches (Some d) rest is (suc i) there behind = elim (least_of_two (rank g b) d c (same_Some (min (rank g b) d) c is)) [
      | inl mine ↦ below (rank g (b + suc i)) d mine.1 (behind i there d rest)
      | inr other ↦ below (rank g (b + suc i)) d (equal d other.0) (behind i there d rest)
    ]

  pub user_of_ceiling : (c : ℕ) → ceiling g m ≡ Some c → IsUserRank g m c
  user_of_ceiling c is =
      let one = one_of 0 (processes g) c is in
      let z : 0 + one.0 ≡ one.0 = omega arith in
      record { number = one.0; process = one.1; there = one.2; uses = one.3; ranked = one.4 ∙ ap (λ n. rank g n) z }

  pub ceiling_is_least : (c r : ℕ) → ceiling g m ≡ Some c → IsUserRank g m r → c ≤ r
  ceiling_is_least c r is user =
      let z : 0 + user.number ≡ user.number = omega arith in
      subst (λ n. c ≤ n) (ap (λ n. rank g n) z ∙ sym user.ranked) (lowest 0 (processes g) c is user.number user.process user.there user.uses)

  pub ceiling_of_users : (c : ℕ) → IsUserRank g m c → ((r : ℕ) → IsUserRank g m r → c ≤ r) → ceiling g m ≡ Some c
  ceiling_of_users c user least =
      let some = some_least g m 0 (processes g) user.number user.process user.there user.uses in
      let low = ceiling_is_least some.0 c some.1 user in
      let high = least some.0 (user_of_ceiling some.0 some.1) in
      let same : some.0 ≡ c = omega (arith, low, high) in
      some.1 ∙ ap (λ n. Some n) same

-- ---- of a table

place_once : (a b : Name) (names : List Name) → Elem a names → place_of a names ≡ place_of b names → a ≡ b
place_once a b [] e same = absurd e
place_once a b (n ∷ names) e same = by (bytes_eq n a) refl (bytes_eq n b) refl e same (λ more places. place_once a b names more places) where
  by : (x : Bool) → bytes_eq n a ≡ x → (y : Bool) → bytes_eq n b ≡ y → Elem a (n ∷ names) → cond x 0 (suc (place_of a names)) ≡ cond y 0 (suc (place_of b names))
      → (Elem a names → place_of a names ≡ place_of b names → a ≡ b) → a ≡ b
  by true here true there e same behind = sym (same_is n a here) ∙ same_is n b there
  by true here false there e same behind = absurd (omega (arith, same))
  by false here true there e same behind = absurd (omega (arith, same))
  by false here false there (inl is) same behind = absurd (both_ways (bytes_eq n a) here (ap (bytes_eq n) is ∙ same_self n))
  by false here false there (inr more) same behind = behind more (omega (arith, same))

module _ (tail : Name) (t : TaskTable) (fits : TableFits t) (ranks : (k : ℕ) → rank (plain (program_with tail t)) k ≡ rank_of_line t k) where
  abbrev program : Program
  program = plain (program_with tail t)

  pub line_of : (k : ℕ) (p : Process) → slice_get (processes program) k ≡ Some p → (line : TaskLine) × (slice_get t.tasks k ≡ Some line) × (p ≡ plain_process (table_process tail line))
  line_of k p is = got_map (λ q. plain_process (table_process tail q)) t.tasks k p (ap (λ (ps : List Process). slice_get ps k) (sym (processes_are tail t)) ∙ is)

  same_monitor : (k : ℕ) (line : TaskLine) → slice_get t.tasks k ≡ Some line → (s : TaskStay) → Elem s line.stays → (name : Name) → monitor_number program s.monitor ≡ monitor_number program name → s.monitor ≡ name
  same_monitor k line there s e name same =
      place_once s.monitor name (of_table.monitors t) (monitor_in tail t fits s (stay_in tail t fits k line there s e)) (sym (number_is tail t s.monitor) ∙ (same ∙ number_is tail t name))

  user_of_table : (name : Name) (r : ℕ) → IsRankIn t name r → IsUserRank program (monitor_number program name) r
  user_of_table name r is =
      let one = of_map (λ s. s.monitor) name is.line.stays (elem_from (monitors_named is.line) name is.stays) in
      let fit = line_fit tail t fits is.number is.line is.there in
      record {
        number = is.number;
        process = plain_process (table_process tail is.line);
        there = process_there tail t is.number is.line is.there;
        uses = ap (includes (monitor_number program name)) (line_uses tail is.line fit program)
            ∙ includes_it (λ s. monitor_number program s.monitor) (monitor_number program name) one.0 is.line.stays one.1 (ap (λ n. monitor_number program n) one.2);
        ranked = is.ranked ∙ sym (ranks is.number);
      }

  user_to_table : (name : Name) (r : ℕ) → IsUserRank program (monitor_number program name) r → IsRankIn t name r
  user_to_table name r is =
      let it = line_of is.number is.process is.there in
      let fit = line_fit tail t fits is.number it.0 it.1 in
      let uses : includes (monitor_number program name) (map (λ s. monitor_number program s.monitor) it.0.stays) ≡ true =
      ap (includes (monitor_number program name)) (sym (line_uses tail it.0 fit program)) ∙ (ap (λ p. includes (monitor_number program name) (monitors_of program p)) (sym it.2) ∙ is.uses) in
      let one = included (λ s. monitor_number program s.monitor) (monitor_number program name) it.0.stays uses in
      let named : one.0.monitor ≡ name = same_monitor is.number it.0 it.1 one.0 one.1 name one.2 in
      record {
        number = is.number;
        line = it.0;
        there = it.1;
        stays = subst (Contains (monitors_named it.0)) named (contains_from (monitors_named it.0) one.0.monitor (elem_map (λ s. s.monitor) one.0 it.0.stays one.1));
        ranked = is.ranked ∙ ranks is.number;
      }

  pub ceiling_to_program : (name : Name) (c : ℕ) → IsTableCeiling t name c → ceiling program (monitor_number program name) ≡ Some c
  ceiling_to_program name c is =
      ceiling_of_users program (monitor_number program name) c (user_of_table name c is.one) (λ r user. is.least r (user_to_table name r user))

  pub ceiling_to_table : (name : Name) (c : ℕ) → ceiling program (monitor_number program name) ≡ Some c → IsTableCeiling t name c
  ceiling_to_table name c is = record {
    one = user_to_table name c (user_of_ceiling program (monitor_number program name) c is);
    least = λ r user. ceiling_is_least program (monitor_number program name) c r is (user_of_table name r user);
  }

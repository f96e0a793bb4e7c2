-- The fields of a routine are in their ranges.
use Rattle.std.proofs.Common.{◌≡◌, ◌≤◌, ◌<◌, ◌+◌, ◌&&◌, ℕ, zero, suc, Bool, true, false, List, [], ◌∷◌, length, take, Option, Some, None, arith, refl, sym, subst}
use Rattle.std.specs.Prelude.{cond, nat_eq, nat_le, nat_lt, slice_get}
use Rattle.std.proofs.lemmas.Bool.{lt-ltb, eqb-true}
use Rattle.std.proofs.lemmas.Option.{slice_get_within}
use Rattle.base.specs.Capped.{cap}
use Rattle.machine_isa.specs.declared.instr.Instr.{Instr}
use Rattle.syntax_tree.specs.Plain.{Program}
use Rattle.machine_semantics.specs.Trees.{Segs, size}
use Rattle.machine_semantics.specs.Image.{Image, Monitor, Routine}
use Rattle.image_format.specs.Format.{checked, is_fine, u8, u16, u32, unless}
use Rattle.image_format.specs.TreeFormat.{in_image, tree_format, u32_within}
use Rattle.image_format.proofs.Booleans.{together}
use Rattle.image_reader.specs.declared.counts.Counts.{Counts}
use Rattle.image_reader.specs.Grammar as g
use Rattle.valid_image.specs.Found.{ended, is_return, tree_found}
use Rattle.valid_image.specs.Tables.{count, known, known_of, monitor_of}
use Rattle.valid_image.specs.Valid.{HasLimits, HasOwner, IsValid, Operands, Shape, Sizes}
use Rattle.valid_image_law.proofs.Exact.{ended_is}
use Rattle.valid_image_law.proofs.Firsts.{table_length}
use Rattle.valid_image_law.proofs.Passing.{params_fit}
use Rattle.valid_image_law.proofs.Shapes.{RoutineShaped, routine_shaped}
use Rattle.valid_image_law.proofs.Tests.{passed}
use Rattle.code_spec.specs.Compiled.{EmitsRoutines, IsRoutine, kind_number, owner_number, routine_scope}
use Rattle.code_spec.specs.Layout.{Owner, by_program, by_process, by_monitor, routine_words}
use Rattle.code_spec.specs.Numbering.{Text}
use Rattle.code_spec.specs.Segments.{routine_segs}
use Rattle.code_cost_spec.specs.Costs.{stay_cost}
use Rattle.code_cost_spec.specs.Levels.{calls_of, routine_names}
use Rattle.code_measures.specs.Declared.{DeclaresRoutine}
use Rattle.replay_law.proofs.Levels.{OwnerIsThere, TextFits}
use Rattle.replay_law.proofs.Nesting.{routine_within}
use Rattle.replay_law.proofs.Numbers.{fine, long_fits, long_within, short_fits}
use Rattle.replay_law.proofs.Trees.{Within, routine_fits, within_more}
use Rattle.replay_law.proofs.Turns.{few_turns}

-- ---- the text of a routine

pub record Laid (g : Program) (ts : List Text) (r : ℕ) (x : Routine) : Type 0 where
  pub text : Text
  pub there : slice_get ts r ≡ Some text
  pub is : IsRoutine g text x

pub laid : (g : Program) (code : List Instr) (p q : ℕ) (ts : List Text) (rs : List Routine) → EmitsRoutines g code p q ts rs → (r : ℕ) (x : Routine) → slice_get rs r ≡ Some x → Laid g ts r x
laid g code p q [] [] h r x at = absurd cc
laid g code p q [] (y ∷ ys) h r x at = absurd h
laid g code p q (t ∷ ts) [] h r x at = absurd h
laid g code p q (t ∷ ts) (y ∷ ys) h zero x at = let same : y ≡ x = cc in record { text = t; there = refl; is = subst (λ (z : Routine). IsRoutine g t z) same h.1 }
laid g code p q (t ∷ ts) (y ∷ ys) h (suc r) x at = let l = laid g code h.0 q ts ys h.4 r x at in record { text = l.text; there = l.there; is = l.is }

-- ---- its numbers

module _ (counts : Counts) (ps : counts.processes ≤ 64) (ms : counts.monitors ≤ 64) where
  kind_is : (o : Owner) → (checked u8 (λ kind. unless (nat_le kind 2) 6)).is (kind_number o) ≡ true
  kind_is by_program = refl
  kind_is (by_process k) = refl
  kind_is (by_monitor m) = refl

  owner_is : (o : Owner) → OwnerIsThere counts.processes counts.monitors o → (checked u16 (g.wrong_owner counts (kind_number o))).is (owner_number o) ≡ true
  owner_is by_program there = refl
  owner_is (by_process k) there =
      together (u16.is k) (is_fine (unless (nat_lt k counts.processes) 4)) (short_fits k (omega (arith, there, ps))) (fine (nat_lt k counts.processes) 4 (lt-ltb k counts.processes there))
  owner_is (by_monitor m) there =
      together (u16.is m) (is_fine (unless (nat_lt m counts.monitors) 4)) (short_fits m (omega (arith, there, ms))) (fine (nat_lt m counts.monitors) 4 (lt-ltb m counts.monitors there))

cost_is : (n : ℕ) → g.cost.is (cap n) ≡ true
cost_is n = long_within 0 1000000001 (cap n) (omega arith) (omega arith) (omega arith)

declared : (x n : ℕ) → x ≡ cap n → g.cost.is x ≡ true
declared x n is = subst (λ k. g.cost.is k ≡ true) (sym is) (cost_is n)

-- the stay of what is no entry is 0
stay_is : (p : Program) (t : Text) (o : Owner) (n : ℕ) → n ≡ cap (stay_cost p (routine_names p t) (calls_of p) o t.routine) → (checked g.cost (g.wrong_stay (kind_number o))).is n ≡ true
stay_is p t by_program n is = subst (λ k. (checked g.cost (g.wrong_stay 0)).is k ≡ true) (sym is) refl
stay_is p t (by_process k) n is = subst (λ k. (checked g.cost (g.wrong_stay 1)).is k ≡ true) (sym is) refl
stay_is p t (by_monitor m) n is = together (g.cost.is n) (is_fine (g.wrong_stay 2 n)) (declared n _ is) refl

-- ---- its tree

returns : (gives : Bool) (o : Option Instr) → is_return gives o ≡ true → (x : Instr) × (o ≡ Some x)
returns gives (Some x) is = (x, refl)
returns true None is = absurd cc
returns false None is = absurd cc

owner_low : (m : Image) (x : Routine) → HasOwner m x → (j : ℕ) → monitor_of x ≡ Some j → j < length m.monitors
owner_low m x owner j is = by (nat_eq x.kind 2) refl is where
  by : (b : Bool) → nat_eq x.kind 2 ≡ b → cond b (Some x.owner) None ≡ Some j → j < length m.monitors
  by true entry e =
      let same : x.owner ≡ j = cc in
      let there : (y : Monitor) × (slice_get m.monitors x.owner ≡ Some y) = owner (eqb-true x.kind 2 entry) in
      omega (arith, same, slice_get_within m.monitors x.owner there.0 there.1)
  by false other e = absurd cc

no_more : {X : Type 0} (n : ℕ) (xs : List X) → length (take n xs) ≤ length xs
no_more zero [] = omega arith
no_more (suc n) [] = omega arith
no_more zero (x ∷ xs) = omega arith
no_more (suc n) (x ∷ xs) = let rest = no_more n xs in omega (arith, rest)

module _ (p : Program) (m : Image) (limits : HasLimits m) (valid : IsValid m) (short : length m.code ≤ 65535) (counts : Counts) (rs : length m.routines ≤ 512) (ps : counts.processes ≤ 64) (ms : counts.monitors ≤ 64) (monitors : counts.monitors ≡ length m.monitors) where
  known_few : (r : ℕ) → length (take r (known m)) ≤ 65535
  known_few r =
      let all = table_length (known_of m.code) [] m.routines in
      omega (arith, all, rs, no_more r (known m))

  pub routine_is : (r : ℕ) (x : Routine) (t : Text) → slice_get m.routines r ≡ Some x → IsRoutine p t x → TextFits counts.processes counts.monitors t → DeclaresRoutine p t x → routine_words p t.routine ≤ 4096
      → (g.routine_format counts).is x ≡ true
  routine_is r x t at is fits declares words =
      let s : RoutineShaped m r x = routine_shaped m (valid Shape) r x at in
      let guarded = passed (is_return x.gives (slice_get m.code (x.start + size x.tree))) (ended (count x.gives) (tree_found m.code (take r (known m)) (monitor_of x) x.tree x.start)) s.f s.is in
      let last = returns x.gives (slice_get m.code (x.start + size x.tree)) guarded.0 in
      let within : x.start + size x.tree < length m.code = slice_get_within m.code (x.start + size x.tree) last.0 last.1 in
      let found = (ended_is (count x.gives) (tree_found m.code (take r (known m)) (monitor_of x) x.tree x.start) s.f guarded.1).0 in
      let deep : Within 129 x.tree =
      subst (λ (y : Segs). Within 129 y) (sym is.tree)
      (within_more 66 129 (routine_segs p (routine_scope p t) t.owner t.routine) (omega arith) (routine_within p (routine_scope p t) 64 t.owner t.routine fits.nests)) in
      let tree : (tree_format (in_image counts.monitors) g.deepest).is x.tree ≡ true =
      routine_fits m.code (take r (known m)) counts.monitors (known_few r) (few_turns m (valid Operands) (valid Shape)) 129 (monitor_of x) x.tree x.start s.f
      (λ j entry. let low = owner_low m x (limits.owners r x at) j entry in omega (arith, low, monitors)) (omega (arith, ms)) found (omega (arith, within, short)) deep in
      let kind : (checked u8 (λ kind. unless (nat_le kind 2) 6)).is x.kind ≡ true = subst (λ k. (checked u8 (λ kind. unless (nat_le kind 2) 6)).is k ≡ true) (sym is.kind) (kind_is counts ps ms t.owner) in
      let owner : (checked u16 (g.wrong_owner counts x.kind)).is x.owner ≡ true =
      subst (λ k. (checked u16 (g.wrong_owner counts k)).is x.owner ≡ true) (sym is.kind)
      (subst (λ n. (checked u16 (g.wrong_owner counts (kind_number t.owner))).is n ≡ true) (sym is.owner) (owner_is counts ps ms t.owner fits.owner)) in
      let stay : (checked g.cost (g.wrong_stay x.kind)).is x.stay ≡ true =
      subst (λ k. (checked g.cost (g.wrong_stay k)).is x.stay ≡ true) (sym is.kind) (stay_is p t t.owner x.stay declares.stay) in
      let locals : x.locals ≤ 4096 = omega (arith, is.locals, words) in
      let params : x.params ≤ x.locals = params_fit m (valid Sizes) r x at in
      let kinds = (checked u8 (λ kind. unless (nat_le kind 2) 6)).is x.kind in
      let owners = (checked u16 (g.wrong_owner counts x.kind)).is x.owner in
      let frames = u16.is x.params && ((u32_within 0 4096).is x.locals && true) in
      let costs = g.cost.is x.run && (g.cost.is x.susp && (g.cost.is x.waits && (checked g.cost (g.wrong_stay x.kind)).is x.stay)) in
      together (kinds && (owners && frames)) ((u32.is x.start && costs) && (tree_format (in_image counts.monitors) g.deepest).is x.tree)
      (together kinds (owners && frames) kind (together owners frames owner
      (together (u16.is x.params) ((u32_within 0 4096).is x.locals && true) (short_fits x.params (omega (arith, params, locals))) (together ((u32_within 0 4096).is x.locals) true (long_within 0 4096 x.locals (omega arith) locals (omega arith)) refl))))
      (together (u32.is x.start && costs) ((tree_format (in_image counts.monitors) g.deepest).is x.tree)
      (together (u32.is x.start) costs (long_fits x.start (omega (arith, within, short)))
      (together (g.cost.is x.run) (g.cost.is x.susp && (g.cost.is x.waits && (checked g.cost (g.wrong_stay x.kind)).is x.stay)) (declared x.run _ declares.run)
      (together (g.cost.is x.susp) (g.cost.is x.waits && (checked g.cost (g.wrong_stay x.kind)).is x.stay) (declared x.susp _ declares.susp)
      (together (g.cost.is x.waits) ((checked g.cost (g.wrong_stay x.kind)).is x.stay) (declared x.waits _ declares.waits) stay))))
      tree)

-- The fields of a process are in their ranges.
use Rattle.std.proofs.Common.{◌≡◌, ◌≤◌, ◌<◌, ◌+◌, ◌&&◌, ◌||◌, ◌==◌, not, ℕ, Bool, true, false, List, [], ◌∷◌, length, Option, Some, None, arith, refl, sym, subst, ap}
use Rattle.std.specs.Prelude.{nat_le, nat_lt, nat_eq, slice_get, sum_by}
use Rattle.std.specs.List.{list_any}
use Rattle.std.proofs.lemmas.Bool.{lt-ltb}
use Rattle.std.proofs.lemmas.Option.{slice_get_within}
use Rattle.machine_isa.specs.declared.instr.Instr.{Instr}
use Rattle.syntax_tree.specs.Plain as tree
use Rattle.syntax_tree.specs.Plain.{Handler, Program}
use Rattle.machine_semantics.specs.Trees.{Nil, Segs, size}
use Rattle.machine_semantics.specs.Image.{Image, Process}
use Rattle.image.specs.Bytes.{Second}
use Rattle.image_format.specs.Format.{checked, is_fine, u8, u16, u32, unless}
use Rattle.image_format.specs.TreeFormat.{in_image, tree_format, u32_within}
use Rattle.image_format.proofs.Booleans.{together}
use Rattle.image_reader.specs.declared.counts.Counts.{Counts}
use Rattle.image_reader.specs.Grammar as g
use Rattle.valid_image.specs.Found.{Found, ended, founds, is_end}
use Rattle.valid_image.specs.Sizes.{words_over_all}
use Rattle.valid_image.specs.Tables.{handler_found, handler_start, known, known_of, part_found}
use Rattle.valid_image.specs.Valid.{Handlers, HasHandler, HasLimits, IsInLimits, IsValid, Operands, Ranks, Shape, Sizes}
use Rattle.valid_image_law.proofs.Exact.{ended_is}
use Rattle.valid_image_law.proofs.Firsts.{table_length}
use Rattle.valid_image_law.proofs.Passing.{handler_stands, stack_fits}
use Rattle.valid_image_law.proofs.Ranking.{ranked}
use Rattle.valid_image_law.proofs.Shapes.{ProcessShaped, process_shaped}
use Rattle.valid_image_law.proofs.Tests.{passed}
use Rattle.code_spec.specs.Compiled.{EmitsHandler, process_scope}
use Rattle.code_spec.specs.Segments.{stmts_segs}
use Rattle.codegen_law.proofs.Counts.{one_low}
use Rattle.static_semantics.specs.WellFormed.{OptionalFits}
use Rattle.image_reader_law.proofs.Ranged.{numbers_few}
use Rattle.replay_law.proofs.Levels.{HandlerNests, ProcessNests}
use Rattle.replay_law.proofs.Nesting.{stmts_within}
use Rattle.replay_law.proofs.Numbers.{fine, long_fits, long_within, short_fits}
use Rattle.replay_law.proofs.Rising.{numbers_are}
use Rattle.replay_law.proofs.Trees.{Within, tree_fits, within_more}
use Rattle.replay_law.proofs.Turns.{few_turns}

ends : (o : Option Instr) → is_end o ≡ true → (x : Instr) × (o ≡ Some x)
ends (Some x) is = (x, refl)
ends None is = absurd cc

-- ---- the release

-- what the release of a process says: of a periodic one the first activation, of another an event
-- that is there and that no earlier process has
pub record Released (events : ℕ) (used : List ℕ) (p : Process) : Type 0 where
  pub kind : (checked u8 (λ kind. unless (nat_le kind 1) 6)).is p.kind ≡ true
  pub first : (checked (u32_within 0 1000000000) (g.wrong_first p.kind)).is p.first ≡ true
  pub event : (checked u16 (g.wrong_event events used p.kind)).is p.event ≡ true

pub of_period : (events : ℕ) (used : List ℕ) (p : Process) → p.kind ≡ 0 → p.first ≤ 1000000000 → p.event ≡ 0 → Released events used p
of_period events used p kind first event = record {
  kind = subst (λ k. (checked u8 (λ kind. unless (nat_le kind 1) 6)).is k ≡ true) (sym kind) refl;
  first = subst (λ k. (checked (u32_within 0 1000000000) (g.wrong_first k)).is p.first ≡ true) (sym kind)
      (together ((u32_within 0 1000000000).is p.first) true (long_within 0 1000000000 p.first (omega arith) first (omega arith)) refl);
  event = subst (λ k. (checked u16 (g.wrong_event events used k)).is p.event ≡ true) (sym kind) (subst (λ n. (checked u16 (g.wrong_event events used 0)).is n ≡ true) (sym event) refl);
}

pub of_event : (events : ℕ) (used : List ℕ) (p : Process) → events ≤ 64 → p.kind ≡ 1 → p.first ≡ 0 → p.event < events → list_any (λ e. nat_eq e p.event) used ≡ false → Released events used p
of_event events used p few kind first event new = record {
  kind = subst (λ k. (checked u8 (λ kind. unless (nat_le kind 1) 6)).is k ≡ true) (sym kind) refl;
  first = subst (λ k. (checked (u32_within 0 1000000000) (g.wrong_first k)).is p.first ≡ true) (sym kind) (subst (λ n. (checked (u32_within 0 1000000000) (g.wrong_first 1)).is n ≡ true) (sym first) refl);
  event = subst (λ k. (checked u16 (g.wrong_event events used k)).is p.event ≡ true) (sym kind)
      (together (u16.is p.event) (is_fine (g.wrong_event events used 1 p.event)) (short_fits p.event (omega (arith, event, few)))
      (fine (nat_lt p.event events && not (list_any (λ e. nat_eq e p.event) used)) 4 (together (nat_lt p.event events) (not (list_any (λ e. nat_eq e p.event) used)) (lt-ltb p.event events event) (ap not new))));
}

-- ---- the handler

module _ (q : Program) (m : Image) (limits : HasLimits m) (valid : IsValid m) (short : length m.code ≤ 65535) (rs : length m.routines ≤ 512) (counts : Counts) where
  abbrev monitors : ℕ
  monitors = counts.monitors

  known_few : length (known m) ≤ 65535
  known_few = let all = table_length (known_of m.code) [] m.routines in omega (arith, all, rs)

  record Part (t : Segs) (at : ℕ) : Type 0 where
    within : at + size t < length m.code
    is : (tree_format (in_image monitors) g.deepest).is t ≡ true

  part_is : (t : Segs) (at : ℕ) (f : Found) → part_found m.code (known m) t at ≡ Some f → Within 129 t → Part t at
  part_is t at f is deep =
      let x = founds m.code (known m) None None t at 0 in
      let guarded = passed (is_end (slice_get m.code (at + size t))) (ended 0 x) f is in
      let last = ends (slice_get m.code (at + size t)) guarded.0 in
      let low : at + size t < length m.code = slice_get_within m.code (at + size t) last.0 last.1 in
      record { within = low; is = tree_fits m.code (known m) monitors known_few (few_turns m (valid Operands) (valid Shape)) 129 None None t at 0 f (ended_is 0 x f guarded.1).0 (omega (arith, low, short)) deep }

  record HandlerIs (p : Process) : Type 0 where
    address : g.handler_format.is (p.handler, length p.numbers) ≡ true
    numbers : (g.numbers_format (length p.numbers)).is p.numbers ≡ true
    tree_is : (g.handler_tree_format monitors (length p.numbers)).is p.handler_tree ≡ true

  some_tree : (ns : List ℕ) (t : Segs) → (ns ≡ [] → ⊥) → (tree_format (in_image monitors) g.deepest).is t ≡ true → (g.handler_tree_format monitors (length ns)).is (Some t) ≡ true
  some_tree [] t some is = absurd (some refl)
  some_tree (n ∷ ns) t some is = is

  some_counted : (ns : List ℕ) (b : Bool) → (ns ≡ [] → ⊥) → (nat_lt 0 (length ns) || b) ≡ true
  some_counted [] b some = absurd (some refl)
  some_counted (n ∷ ns) b some = rw (lt-ltb 0 (length (n ∷ ns)) (omega arith)) refl

  handler_is : (k number : ℕ) (p : Process) (t : tree.Process) (a b : ℕ) → slice_get m.processes k ≡ Some p → (o : Option Handler) → EmitsHandler q m.code number t o a b p → OptionalFits q t o → HandlerNests o → (g1 : Found) → handler_found m p p.handler_tree ≡ Some g1
      → HandlerIs p
  handler_is k number p t a b at None h fits nests f found = record {
    address = subst (λ n. g.handler_format.is (n, length p.numbers) ≡ true) (sym h.1) (subst (λ (ns : List ℕ). g.handler_format.is (0, length ns) ≡ true) (sym h.2) refl);
    numbers = subst (λ (ns : List ℕ). (g.numbers_format (length ns)).is ns ≡ true) (sym h.2) refl;
    tree_is = subst (λ (ns : List ℕ). (g.handler_tree_format monitors (length ns)).is p.handler_tree ≡ true) (sym h.2) (subst (λ (o : Option Segs). (g.handler_tree_format monitors 0).is o ≡ true) (sym h.3) refl);
  }
  handler_is k number p t a b at (Some x) h fits nests f found =
      let segs = stmts_segs q (process_scope q number t) x.body Nil in
      let is_some : p.handler_tree ≡ Some segs = h.5 in
      let stands = handler_stands m (valid Handlers) k p at segs is_some in
      let there : part_found m.code (known m) segs (handler_start p) ≡ Some f = subst (λ (o : Option Segs). handler_found m p o ≡ Some f) is_some found in
      let deep : Within 129 segs = within_more 65 129 segs (omega arith) (stmts_within q (process_scope q number t) 64 x.body Nil nests tt) in
      let part = part_is segs (handler_start p) f there deep in
      let low = part.within in
      let some : p.numbers ≡ [] → ⊥ = subst (λ (o : Option Segs). HasHandler p o) is_some (limits.processes k p at).handler in
      let numbers : (g.numbers_format (length p.numbers)).is p.numbers ≡ true =
      subst (λ (ns : List ℕ). (g.numbers_format (length ns)).is ns ≡ true) (sym h.4) (numbers_are q x.numbers fits.numbers fits.once) in
      let few = numbers_few (length p.numbers) p.numbers numbers in
      record {
        address = together (u32.is p.handler && u16.is (length p.numbers)) (is_fine (unless (nat_lt 0 (length p.numbers) || p.handler == 0) 7))
            (together (u32.is p.handler) (u16.is (length p.numbers)) (long_fits p.handler (omega (arith, stands.place, low, short))) (short_fits (length p.numbers) (omega (arith, few))))
            (fine (nat_lt 0 (length p.numbers) || p.handler == 0) 7 (some_counted p.numbers (p.handler == 0) some));
        numbers = numbers;
        tree_is = subst (λ (o : Option Segs). (g.handler_tree_format monitors (length p.numbers)).is o ≡ true) (sym is_some) (some_tree p.numbers segs some part.is);
      }

  -- ---- the whole

  pub process_is : (used : List ℕ) (k number : ℕ) (p : Process) (t : tree.Process) (a b : ℕ) → slice_get m.processes k ≡ Some p → EmitsHandler q m.code number t t.handler a b p → OptionalFits q t t.handler → ProcessNests t
      → p.body ≡ stmts_segs q (process_scope q number t) t.body Nil → words_over_all m ≤ 1048576 → p.bound ≤ p.deadline → Released counts.events used p → (g.process_format Second counts used).is p ≡ true
  process_is used k number p t a b at emits fits nests body words timely released =
      let l : IsInLimits p = limits.processes k p at in
      let s : ProcessShaped m k p = process_shaped m (valid Shape) k p at in
      let deep : Within 129 p.body =
      subst (λ (x : Segs). Within 129 x) (sym body) (within_more 65 129 (stmts_segs q (process_scope q number t) t.body Nil) (omega arith) (stmts_within q (process_scope q number t) 64 t.body Nil nests.body tt)) in
      let part = part_is p.body p.start s.f s.body deep in
      let low = part.within in
      let h = handler_is k number p t a b at t.handler emits fits nests.handler s.g s.handler in
      let rank = ranked m (valid Ranks) k p at in
      let stack = stack_fits m (valid Sizes) k p at in
      let own : p.words ≤ sum_by (λ (x : Process). x.words) m.processes = one_low (λ (x : Process). x.words) m.processes k p at in
      let few : length m.processes ≤ 64 = limits.few in
      let cost : (n : ℕ) → n ≤ 1000000001 → g.cost.is n ≡ true = λ n le. long_within 0 1000000001 n (omega arith) le (omega arith) in
      let kind_is = (checked u8 (λ kind. unless (nat_le kind 1) 6)).is p.kind in
      let frame_is = (u32_within 10 1000000000).is p.frame in
      let deadline_is = (u32_within 10 p.frame).is p.deadline in
      let first_is = (checked (u32_within 0 1000000000) (g.wrong_first p.kind)).is p.first in
      let event_is = (checked u16 (g.wrong_event counts.events used p.kind)).is p.event in
      let rank_is = u16.is p.rank in
      let release_is = kind_is && (frame_is && (deadline_is && (first_is && (event_is && rank_is)))) in
      let bound_is = (u32_within 1 1000000000).is p.bound in
      let time_is = g.cost.is p.run && (g.cost.is p.susp && (g.cost.is p.waits && (g.cost.is p.block && bound_is))) in
      let stack_is = (u32_within 0 4096).is p.stack in
      let locals_are = (u32_within 0 4096).is p.locals in
      let room_is = u32.is p.words && (stack_is && (locals_are && u32.is p.start)) in
      let handler_are = g.handler_format.is (p.handler, length p.numbers) in
      let numbers_is = (g.numbers_format (length p.numbers)).is p.numbers in
      let body_is = (tree_format (in_image counts.monitors) g.deepest).is p.body in
      let tree_is = (g.handler_tree_format counts.monitors (length p.numbers)).is p.handler_tree in
      together release_is (time_is && (room_is && (handler_are && (numbers_is && (body_is && tree_is)))))
      (together kind_is (frame_is && (deadline_is && (first_is && (event_is && rank_is)))) released.kind
      (together frame_is (deadline_is && (first_is && (event_is && rank_is))) (long_within 10 1000000000 p.frame l.frame_low l.frame_high (omega arith))
      (together deadline_is (first_is && (event_is && rank_is)) (long_within 10 p.frame p.deadline l.deadline_low l.deadline_high (let high = l.frame_high in omega (arith, high)))
      (together first_is (event_is && rank_is) released.first (together event_is rank_is released.event (short_fits p.rank (omega (arith, rank.1, few))))))))
      (together time_is (room_is && (handler_are && (numbers_is && (body_is && tree_is))))
      (together (g.cost.is p.run) (g.cost.is p.susp && (g.cost.is p.waits && (g.cost.is p.block && bound_is))) (cost p.run l.run)
      (together (g.cost.is p.susp) (g.cost.is p.waits && (g.cost.is p.block && bound_is)) (cost p.susp l.susp)
      (together (g.cost.is p.waits) (g.cost.is p.block && bound_is) (cost p.waits l.waits)
      (together (g.cost.is p.block) bound_is (cost p.block l.block) (long_within 1 1000000000 p.bound l.bound (let high = l.frame_high in let mid = l.deadline_high in omega (arith, high, mid, timely)) (omega arith))))))
      (together room_is (handler_are && (numbers_is && (body_is && tree_is)))
      (together (u32.is p.words) (stack_is && (locals_are && u32.is p.start)) (long_fits p.words (omega (arith, own, words)))
      (together stack_is (locals_are && u32.is p.start) (long_within 0 4096 p.stack (omega arith) l.stack (omega arith))
      (together locals_are (u32.is p.start) (long_within 0 4096 p.locals (omega arith) (let most = l.stack in omega (arith, stack, most)) (omega arith)) (long_fits p.start (omega (arith, low, short))))))
      (together handler_are (numbers_is && (body_is && tree_is)) h.address (together numbers_is (body_is && tree_is) h.numbers (together body_is tree_is part.is h.tree_is)))))

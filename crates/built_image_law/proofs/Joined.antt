-- The limits of an image that is built.
use Rattle.std.proofs.Common.{suc, ap, ◌≡◌, ◌≤◌, ◌∙◌, ℕ, Bool, true, false, cond, List, [], ◌∷◌, length, map, Option, Some, None, arith, refl, sym, subst}
use Rattle.std.specs.Prelude.{nat_le, slice_get}
use Rattle.std.proofs.lemmas.Option.{slice_get_within, get_or_from_slice_get}
use Rattle.syntax_tree.specs.Placed as placed
use Rattle.syntax_tree.specs.Placed.{plain}
use Rattle.syntax_tree.specs.declared.place.Place.{Place}
use Rattle.syntax_tree.specs.Plain.{Constant, Handler, Process, Program}
use Rattle.machine_isa.specs.declared.instr.Instr.{Instr}
use Rattle.base.specs.Capped.{cap}
use Rattle.source_semantics.specs.Names.{count_value, processes}
use Rattle.machine_semantics.specs.Image as image
use Rattle.valid_image.specs.Times.{needed_block}
use Rattle.valid_image.specs.Valid.{HasHandler, HasLimits, IsInLimits}
use Rattle.code_spec.specs.Compiled.{inserted, ascending, EmitsHandler, EmitsProcesses, IsCodeOf}
use Rattle.code_cost_spec.specs.Levels.{stack_of_process}
use Rattle.code_measures.specs.Declared.{DeclaresProcess}
use Rattle.static_semantics.specs.WellFormed.{ProcessFits, IsWellFormed}
use Rattle.built_image.specs.Built.{IsShaped}
use Rattle.command_due.specs.Source.{IsWritten}
use Rattle.built_image_law.proofs.Texts.{Emitted, emitted}
use Rattle.built_image_law.specs.Limits.{BlocksAreInLimits, StacksAreInLimits, TakesSome, HandlersTakeNumbers, EntriesHaveOwners, ShapedImagesAreInLimits, BuiltImagesAreInLimits}
use Rattle.built_image_law.proofs.Activations.{InLimits, in_limits}

-- ---- handlers

one_inserted : (k : ℕ) (ns : List ℕ) → inserted k ns ≡ [] → ⊥
one_inserted k [] none = absurd cc
one_inserted k (n ∷ ns) none = by (nat_le k n) none where
  by : (b : Bool) → cond b (k ∷ n ∷ ns) (n ∷ inserted k ns) ≡ [] → ⊥
  by true none = absurd cc
  by false none = absurd cc

some_ascending : (f : Constant → ℕ) (cs : List Constant) → (cs ≡ [] → ⊥) → ascending (map f cs) ≡ [] → ⊥
some_ascending f [] some none = some refl
some_ascending f (c ∷ cs) some none = one_inserted (f c) (ascending (map f cs)) none

handler_there : (g : Program) (code : List Instr) (k : ℕ) (t : Process) (o : Option Handler) (a b : ℕ) (p : image.Process) → EmitsHandler g code k t o a b p
    → TakesSome o → HasHandler p p.handler_tree
handler_there g code k t None a b p h some = subst (HasHandler p) (sym h.3) h.2
handler_there g code k t (Some x) a b p h some =
    subst (HasHandler p) (sym h.5) (λ none. some_ascending (λ n. count_value g n) x.numbers some (sym h.4 ∙ none))

-- ---- processes

pub as_many : (g : Program) (code : List Instr) (k a b : ℕ) (ts : List Process) (ps : List image.Process) → EmitsProcesses g code k a b ts ps → length ps ≡ length ts
as_many g code k a b [] [] h = refl
as_many g code k a b [] (p ∷ ps) h = absurd h
as_many g code k a b (t ∷ ts) [] h = absurd h
as_many g code k a b (t ∷ ts) (p ∷ ps) h = ap (λ (n : ℕ). suc n) (as_many g code (suc k) h.0 b ts ps h.2)

module _ (blocks : BlocksAreInLimits) (stacks : StacksAreInLimits) (handlers : HandlersTakeNumbers) (owners : EntriesHaveOwners)
    (text : List ℕ) (g : placed.Prog Place) (over : ℕ) (m : image.Image) (written : IsWritten text g) (formed : IsWellFormed (plain g)) (shaped : IsShaped (plain g) over m) (code : IsCodeOf (plain g) m)
    (bounds : (k : ℕ) (p : image.Process) → slice_get m.processes k ≡ Some p → 1 ≤ p.bound) where
  many : length m.processes ≡ length (processes (plain g))
  many = as_many (plain g) m.code 0 code.between (length m.code) (processes (plain g)) m.processes code.process_code

  block_low : (k : ℕ) (p : image.Process) → slice_get m.processes k ≡ Some p → p.block ≤ 1000000001
  block_low k p at =
      let low : needed_block m p.rank ≤ 1000000001 = blocks (plain g) m p.rank code shaped.declares in
      let is : p.block ≡ needed_block m p.rank = shaped.ranks.blocks k p at in
      omega (arith, low, is)

  stack_low : (k : ℕ) (t : Process) (p : image.Process) → slice_get (processes (plain g)) k ≡ Some t → p.stack ≡ stack_of_process (plain g) k t → p.stack ≤ 4096
  stack_low k t p there is = let low : stack_of_process (plain g) k t ≤ 4096 = stacks g written.fits k t there in omega (arith, low, is)

  capped : (x y : ℕ) → x ≡ cap y → x ≤ 1000000001
  capped x y is = omega (arith, is)

  each : (k : ℕ) (p : image.Process) → slice_get m.processes k ≡ Some p → IsInLimits p
  each k p at =
      let e : Emitted (plain g) m.code (processes (plain g)) k p =
      emitted (plain g) m.code 0 code.between (length m.code) (processes (plain g)) m.processes code.process_code k p at in
      let fits : ProcessFits (plain g) e.text =
      subst (ProcessFits (plain g)) (get_or_from_slice_get (processes (plain g)) k e.text e.text e.there)
      (formed.processes_fit k e.text (slice_get_within (processes (plain g)) k e.text e.there)) in
      let l : InLimits (plain g) e.text.activation = in_limits (plain g) e.text.activation fits.activation in
      let d : DeclaresProcess (plain g) m.over k e.text p = shaped.declares.bodies k e.text p e.there at in
      record {
        frame_low = omega (arith, l.frame_low, e.emits.frame);
        frame_high = omega (arith, l.frame_high, e.emits.frame);
        deadline_low = omega (arith, l.deadline_low, e.emits.deadline);
        deadline_high = omega (arith, l.deadline_high, e.emits.deadline, e.emits.frame);
        bound = bounds k p at;
        run = capped p.run _ d.run;
        susp = capped p.susp _ d.susp;
        waits = capped p.waits _ d.waits;
        block = block_low k p at;
        stack = stack_low k e.text p e.there d.stack;
        handler = handler_there (plain g) m.code e.number e.text e.text.handler _ _ p e.emits.handler (handlers text g written.program.tree k e.text e.there);
      }

  has_limits : HasLimits m
  has_limits = record {
    some = omega (arith, many, formed.counts_fit.one_process);
    few = omega (arith, many, formed.counts_fit.few_processes);
    processes = each;
    owners = owners (plain g) m code;
  }

pub shaped_in_limits : BlocksAreInLimits → StacksAreInLimits → HandlersTakeNumbers → EntriesHaveOwners → ShapedImagesAreInLimits
shaped_in_limits = has_limits

pub in_limits_all : ShapedImagesAreInLimits → BuiltImagesAreInLimits
in_limits_all law text g over n written formed built code = law text g over n.image written formed built.shaped code (λ k p at. (built.bounds k p at).solves.above)

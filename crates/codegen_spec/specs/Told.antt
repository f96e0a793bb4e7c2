-- What the generator is told about names. Numbers stand as they fit into an operand.
use Rattle.std.specs.Prelude.{ℕ, min, true, List, [], ◌∷◌, map, Option, Some, None, ℤ, pos, negsuc, option_map}
use Rattle.syntax_tree.specs.Plain.{Name, Scalar, Program}
use Rattle.source_semantics.specs.Store as store
use Rattle.source_semantics.specs.Store.{range_of}
use Rattle.code_spec.specs.Layout as layout
use Rattle.code_spec.specs.Layout.{Place, Scope, single}
use Rattle.code_spec.specs.Numbering.{Text, number_of}
use Rattle.codegen_spec.specs.declared.var_location.Area.{Area}
use Rattle.codegen_spec.specs.declared.var_location.Area.TheVariants as area
use Rattle.codegen_spec.specs.declared.var_location.VarShape.{VarShape}
use Rattle.codegen_spec.specs.declared.var_location.VarShape.TheVariants as shape
use Rattle.codegen_spec.specs.declared.var_location.ValueRange.{ValueRange}
use Rattle.codegen_spec.specs.declared.var_location.VarLocation.{VarLocation}
use Rattle.codegen_spec.specs.declared.var_location.Loop.{Loop}
use Rattle.codegen_spec.specs.declared.var_location.Owner.{Owner}
use Rattle.codegen_spec.specs.declared.var_location.Owner.TheVariants as owner
use Rattle.codegen_spec.specs.declared.var_location.Callee.{Callee}

-- the greatest number where it is greater, the least where it is less
abbrev pub fit : ℤ → ℤ
fit (pos n) = pos (min n 2147483647)
fit (negsuc n) = negsuc (min n 2147483647)

abbrev pub told_area : layout.Area → Area
told_area layout.in_frame = area.Frame
told_area layout.in_process = area.Process
told_area layout.in_monitor = area.Monitor

abbrev pub told_shape : layout.Shape → VarShape
told_shape layout.single = shape.Single
told_shape (layout.array low len) = shape.Array (fit low) (fit (pos len))

abbrev pub told_range : store.Range → ValueRange
told_range r = record { low = fit r.low; high = fit r.high }

abbrev pub told : layout.Spot → VarLocation
told s = record {
  area = told_area s.area;
  word = fit (pos s.place.word);
  shape = told_shape s.place.shape;
  range = option_map told_range s.place.range;
}

abbrev pub told_spot : Option layout.Spot → Option VarLocation
told_spot s = option_map told s

abbrev pub value_told : Option (Name × ℤ) → ℤ
value_told None = pos 0
value_told (Some k) = k.1

abbrev pub told_owner : layout.Owner → Owner
told_owner layout.by_program = owner.Program
told_owner (layout.by_process k) = owner.Process k
told_owner (layout.by_monitor m) = owner.Monitor m

-- the range of a type, if it has one
abbrev pub range_told : Program → Scalar → Option ValueRange
range_told g k = option_map told_range (range_of g k)

-- a routine that is called: its number, and the range of each parameter
abbrev pub callee : Program → Text → Callee
callee g t = record { number = number_of g t; ranges = map (λ p. range_told g p.kind) t.routine.params }

abbrev pub told_callee : Program → Option Text → Option Callee
told_callee g t = option_map (λ u. callee g u) t

-- where a loop's variable lies: at this word of the frame
abbrev pub counter : Name → ℕ → Place
counter x w = record { name = x; range = None; word = w; shape = single; fixed = true }

-- where the body of a loop stands: its variable is in reach
abbrev pub within : Scope → Name → ℕ → Scope
within c x w = record c { own = counter x w ∷ c.own }

-- where a statement stands that these loops are around, the outermost first
abbrev pub inside : List Loop → Scope → Scope
inside [] c = c
inside (l ∷ ls) c = inside ls (within c l.name l.word)

-- The numbers of the owners of routines are those of processes and monitors.
use Rattle.std.specs.Prelude.{Contains}
use Rattle.std.proofs.Common.{◌≡◌, ◌≤◌, ◌+◌, ◌⊎◌, inl, inr, subst, ℕ, suc, List, [], ◌∷◌, ◌++◌, length, filter_map, arith}
use Rattle.base.proofs.Members.{front_or_behind, none_in}
use Rattle.syntax_tree.specs.Plain.{Routine, Declaration, constant, device, event, routine, monitor, process, Program}
use Rattle.source_semantics.specs.Names.{monitor_in, monitors, process_in, processes}
use Rattle.code_spec.specs.Layout.{Owner, by_process, by_monitor}
use Rattle.code_spec.specs.Numbering.{Text, texts_of, texts_from}
use Rattle.code_spec.specs.Compiled.{owner_number}

abbrev IsLow : Text → Type 0
IsLow t = owner_number t.owner ≤ 65535

abbrev AreLow : List Text → Type 0
AreLow [] = Unit {0}
AreLow (t ∷ ts) = IsLow t × AreLow ts

both : (us vs : List Text) → AreLow us → AreLow vs → AreLow (us ++ vs)
both [] vs a b = b
both (u ∷ us) vs a b = (a.0, both us vs a.1 b)

of-owner : (o : Owner) (rs : List Routine) → owner_number o ≤ 65535 → AreLow (texts_of o rs)
of-owner o [] low = tt
of-owner o (r ∷ rs) low = (low, of-owner o rs low)

all-low : (k m : ℕ) (ds : List Declaration) → k + length (filter_map process_in ds) ≤ 65535 → m + length (filter_map monitor_in ds) ≤ 65535 → AreLow (texts_from k m ds)
all-low k m [] a b = tt
all-low k m (routine r ∷ ds) a b = (omega arith, all-low k m ds a b)
all-low k m (monitor d ∷ ds) a b = both (texts_of (by_monitor m) d.entries) (texts_from k (suc m) ds) (of-owner (by_monitor m) d.entries (omega arith)) (all-low k (suc m) ds a (omega arith))
all-low k m (process p ∷ ds) a b = both (texts_of (by_process k) p.routines) (texts_from (suc k) m ds) (of-owner (by_process k) p.routines (omega arith)) (all-low (suc k) m ds (omega arith) b)
all-low k m (constant n c ∷ ds) a b = all-low k m ds a b
all-low k m (device n is_out ∷ ds) a b = all-low k m ds a b
all-low k m (event n ∷ ds) a b = all-low k m ds a b

of-each : (ts : List Text) (t : Text) → AreLow ts → Contains ts t → IsLow t
of-each [] t low c = absurd (none_in t c)
of-each (u ∷ us) t low c = by (λ h. of-each us t low.1 h) (front_or_behind u us t c)
  where
    by : (Contains us t → IsLow t) → (u ≡ t) ⊎ Contains us t → IsLow t
    by rest (inl e) = subst (λ v. IsLow v) e low.0
    by rest (inr h) = rest h

pub owners-low : (g : Program) → length (processes g) ≤ 64 → length (monitors g) ≤ 64 → (t : Text) → Contains (texts_from 0 0 g.decls) t → owner_number t.owner ≤ 65535
owners-low g few_processes few_monitors t listed = of-each (texts_from 0 0 g.decls) t (all-low 0 0 g.decls (omega arith) (omega arith)) listed

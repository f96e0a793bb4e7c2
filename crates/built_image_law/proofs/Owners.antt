-- The monitor of each entry is there.
use Rattle.std.proofs.Common.{◌≡◌, ◌<◌, ℕ, zero, suc, List, [], ◌∷◌, length, Some, arith, refl, subst}
use Rattle.std.specs.Prelude.{slice_get}
use Rattle.std.proofs.lemmas.Option.{slice_get_within}
use Rattle.base.proofs.Lists.{some_at}
use Rattle.machine_isa.specs.declared.instr.Instr.{Instr}
use Rattle.syntax_tree.specs.Plain.{Program}
use Rattle.source_semantics.specs.Names.{monitors}
use Rattle.machine_semantics.specs.Image as image
use Rattle.valid_image.specs.Valid.{HasOwner}
use Rattle.code_spec.specs.Layout.{Owner, by_program, by_process, by_monitor}
use Rattle.code_spec.specs.Numbering.{Text, numbered}
use Rattle.code_spec.specs.Compiled.{kind_number, owner_number, IsRoutine, EmitsRoutines}
use Rattle.code_lifting.proofs.Words.{same_length}
use Rattle.codegen_law.proofs.Reached.{text_at, of_numbered}
use Rattle.built_image_law.specs.Limits.{EntriesHaveOwners}

-- the monitor of the owner, if it is one, is there
abbrev OwnerThere : Program → Owner → Type 0
OwnerThere g by_program = Unit {0}
OwnerThere g (by_process k) = Unit {0}
OwnerThere g (by_monitor m) = m < length (monitors g)

abbrev IsThere : Program → Text → Type 0
IsThere g t = OwnerThere g t.owner

all_there : (g : Program) (r : ℕ) (t : Text) → slice_get (numbered g) r ≡ Some t → IsThere g t
all_there g r t at =
    text_at g (IsThere g) (numbered g) r t
    (of_numbered g (IsThere g) (λ j x is. tt) (λ k p there j x is. tt) (λ m d there j x is. slice_get_within (monitors g) m d there)) at

laid : (g : Program) (code : List Instr) (p q : ℕ) (ts : List Text) (rs : List image.Routine) → EmitsRoutines g code p q ts rs
    → (r : ℕ) (x : image.Routine) → slice_get rs r ≡ Some x → (t : Text) × (slice_get ts r ≡ Some t) × IsRoutine g t x
laid g code p q [] [] h r x at = absurd cc
laid g code p q [] (y ∷ ys) h r x at = absurd h
laid g code p q (t ∷ ts) [] h r x at = absurd h
laid g code p q (t ∷ ts) (y ∷ ys) h zero x at = let same : y ≡ x = cc in (t, refl, subst (λ (z : image.Routine). IsRoutine g t z) same h.1)
laid g code p q (t ∷ ts) (y ∷ ys) h (suc r) x at = laid g code h.0 q ts ys h.4 r x at

by_owner : (g : Program) (m : image.Image) (x : image.Routine) → length m.monitors ≡ length (monitors g)
    → (o : Owner) → OwnerThere g o → x.kind ≡ kind_number o → x.owner ≡ owner_number o → HasOwner m x
by_owner g m x long by_program there kind owner entry = absurd (let z : x.kind ≡ 0 = kind in omega (arith, z, entry))
by_owner g m x long (by_process k) there kind owner entry = absurd (let z : x.kind ≡ 1 = kind in omega (arith, z, entry))
by_owner g m x long (by_monitor j) there kind owner entry =
    let low : j < length (monitors g) = there in
    let is : x.owner ≡ j = owner in
    some_at m.monitors x.owner (omega (arith, long, low, is))

pub entries_have_owners : EntriesHaveOwners
entries_have_owners g m code r x at =
    let t = laid g m.code 0 code.between (numbered g) m.routines code.routine_code r x at in
    by_owner g m x (same_length g 0 (monitors g) m.monitors code.monitor_words) t.0.owner (all_there g r t.0 t.1) t.2.kind t.2.owner

-- The list is gone through likewise.
use Rattle.std.proofs.Common.{◌≡◌, ◌∙◌, ℕ, Bool, true, false, List, [], ◌∷◌, refl}
use Rattle.std.specs.Prelude.{nat_eq}
use Rattle.std.specs.List.{list_any}
use Rattle.machine_semantics.specs.Starts.{lists}
use Rattle.vm_instructions.proofs.activation.is_listed.Goals as goal

by_test : (b : Bool) (n : ℕ) (ns : List ℕ) (e : ℕ) → nat_eq n e ≡ b → list_any (λ y. nat_eq y e) ns ≡ lists ns e → list_any (λ y. nat_eq y e) (n ∷ ns) ≡ lists (n ∷ ns) e
by_test true n ns e is rest = rw is refl
by_test false n ns e is rest = rw is rest

listed : (ns : List ℕ) (e : ℕ) → list_any (λ y. nat_eq y e) ns ≡ lists ns e
listed [] e = refl
listed (n ∷ ns) e = by_test (nat_eq n e) n ns e refl (listed ns e)

pub returns : goal.returns
returns c = c.contains.ensures.value ∙ listed c.args.numbers.now c.args.number

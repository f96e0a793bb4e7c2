-- The handlers of a text take numbers.
use Rattle.std.proofs.Common.{◌≡◌, ℕ, zero, suc, List, [], ◌∷◌, map, Option, Some, None, refl, subst}
use Rattle.std.specs.Prelude.{slice_get}
use Rattle.syntax_tree.specs.Placed.{Constant, Handler, Process, Decl, constant, device, event, routine, monitor, process, optional, plain_constant, plain_handler}
use Rattle.syntax_tree.specs.Parts.{processes}
use Rattle.syntax_tree.specs.Plain as plain_of
use Rattle.syntax_tree.specs.declared.place.Place.{Place}
use Rattle.syntax.specs.Words.{Tok}
use Rattle.syntax.specs.ExprGrammar.{Each, Listed, IsConstant}
use Rattle.syntax.specs.Grammar.{IsDecl, IsHandler}
use Rattle.built_image_law.specs.Limits.{TakesSome, HandlersTakeNumbers}
use Rattle.built_image_law.proofs.Stacks.{placed_at}

abbrev HasSome : Option (Handler Place) → Type 0
HasSome None = Unit {0}
HasSome (Some h) = h.numbers ≡ [] → ⊥

some_listed : (cs : List (Constant Place)) (ts us : List (Tok Place)) → Listed IsConstant cs ts us → cs ≡ [] → ⊥
some_listed [] ts us h none = h
some_listed (c ∷ cs) ts us h none = absurd cc

handler_some : (o : Option (Handler Place)) (ts us : List (Tok Place)) → IsHandler o ts us → HasSome o
handler_some None ts us h = tt
handler_some (Some x) ts us h = some_listed x.numbers _ _ h.2.2.1

process_some : (ds : List (Decl Place)) (ts us : List (Tok Place)) → Each IsDecl ds ts us → (k : ℕ) (p : Process Place) → slice_get (processes ds) k ≡ Some p → HasSome p.handler
process_some [] ts us h k p at = absurd cc
process_some (constant n q c ∷ ds) ts us h k p at = process_some ds h.0 us h.2 k p at
process_some (device n q o ∷ ds) ts us h k p at = process_some ds h.0 us h.2 k p at
process_some (event n q ∷ ds) ts us h k p at = process_some ds h.0 us h.2 k p at
process_some (routine r ∷ ds) ts us h k p at = process_some ds h.0 us h.2 k p at
process_some (monitor m ∷ ds) ts us h k p at = process_some ds h.0 us h.2 k p at
process_some (process q ∷ ds) ts us h (suc k) p at = process_some ds h.0 us h.2 k p at
process_some (process q ∷ ds) ts us h zero p at =
    let same : q ≡ p = cc in
    subst (λ (x : Process Place). HasSome x.handler) same (handler_some q.handler _ _ h.1.2.2.2.2.2.2.2.2.1)

plain_some : (o : Option (Handler Place)) → HasSome o → TakesSome (optional plain_handler o)
plain_some None h = tt
plain_some (Some x) h = by x.numbers h where
  by : (cs : List (Constant Place)) → (cs ≡ [] → ⊥) → map plain_constant cs ≡ [] → ⊥
  by [] h none = h refl
  by (c ∷ cs) h none = absurd cc

pub handlers_take_numbers : HandlersTakeNumbers
handlers_take_numbers text g tree k t at =
    let q = placed_at g k t at in
    subst (λ (x : plain_of.Process). TakesSome x.handler) q.is (plain_some q.one.handler (process_some g.decls _ _ tree.grown.2.2.1 k q.one q.there))

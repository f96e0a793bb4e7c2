-- What the tables say once more is kept in them.
use Rattle.std.proofs.Common.{◌≡◌, ◌∙◌, sym, ap, refl, Bool, true, false, cond, List, [], ◌∷◌, Option, Some, if◌then◌else◌}
use Rattle.std.specs.Prelude.{ℤ, pos, option_map, unwrap_or, find, bytes_eq}
use Rattle.std.specs.Borrow.{Bor}
use Rattle.std.specs.Map.{lookup}
use Rattle.std.proofs.lemmas.Cmp.{nat_list_eq_equiv}
use Rattle.syntax_tree.specs.Plain.{Name, Constant, literal_constant, named_constant, Declaration, constant, device, event, routine, monitor, process, Program}
use Rattle.source_semantics.specs.Names.{value_among, constant_among, constants_from, constants, constant_value}
use Rattle.syntax_tree.specs.declared.place.Place.{Place}
use Rattle.syntax_tree.specs.Parts.{same_place}
use Rattle.static_names.specs.Reach.{same}
use Rattle.static_names.specs.Findings.{Key, same_key, key_of}
use Rattle.static_names.proofs.Notes.{key_equiv}
use Rattle.static_declarations.specs.declared.values.Number.{Number}
use Rattle.static_declarations.specs.declared.thing.Entity as code_thing
use Rattle.static_declarations.specs.Seen.{seen, known_things, number_value, kept_worth, amount, with_constant, with_decls, no_worth}

worth-put : (b : Bool) (v : Number) (was : Option Number) → unwrap_or (option_map number_value (cond b (Some v) was)) (pos 0) ≡ (if b then number_value v else unwrap_or (option_map number_value was) (pos 0))
worth-put true v was = refl
worth-put false v was = refl

-- a value put at a name
pub kept-put : (k : Bor Name) (v : Number) (old new : List (Bor Name × Number)) → ((q : Bor Name) → lookup (λ x. same q.now x.now) new ≡ cond (same k.now q.now) (Some v) (lookup (λ x. same q.now x.now) old)) → kept_worth new ≡ with_constant (kept_worth old) k.now (number_value v)
kept-put k v old new puts = λ i n. at n i
  where
    at : (n : Name) → kept_worth new n ≡ with_constant (kept_worth old) k.now (number_value v) n
    at n =
        let q : Bor Name = record k { now = n } in
        ap (λ r. unwrap_or (option_map number_value r) (pos 0)) (puts q ∙ ap (λ b. cond b (Some v) (lookup (λ x. same n x.now) old)) (nat_list_eq_equiv.symm k.now n))
        ∙ worth-put (same n k.now) v (lookup (λ x. same n x.now) old)

thing-put : (b : Bool) (v : code_thing.Entity) (was : Option code_thing.Entity) → option_map seen (cond b (Some v) was) ≡ (if b then Some (seen v) else option_map seen was)
thing-put true v was = refl
thing-put false v was = refl

-- a declaration kept at a place
pub things-put : (p : Place) (v : code_thing.Entity) (old new : List (Key × code_thing.Entity)) → ((q : Key) → lookup (same_key q) new ≡ cond (same_key (key_of p) q) (Some v) (lookup (same_key q) old))
    → known_things new ≡ (λ q. if same_place q p then Some (seen v) else known_things old q)
things-put p v old new puts = λ i q. at q i
  where
    at : (q : Place) → known_things new q ≡ (if same_place q p then Some (seen v) else known_things old q)
    at q =
        ap (option_map seen) (puts (key_of q) ∙ ap (λ b. cond b (Some v) (lookup (same_key (key_of q)) old)) (key_equiv.symm (key_of p) (key_of q)))
        ∙ thing-put (same_place q p) v (lookup (same_key (key_of q)) old)

bytes-same : (n m : Name) → bytes_eq n m ≡ same m n
bytes-same n m = nat_list_eq_equiv.symm n m

worth-found : (b : Bool) (v : ℤ) (n : Name) (was : Option (Name × ℤ)) → unwrap_or (option_map (λ (k : Name × ℤ). k.1) (cond b (Some (n, v)) was)) (pos 0) ≡ (if b then v else unwrap_or (option_map (λ (k : Name × ℤ). k.1) was) (pos 0))
worth-found true v n was = refl
worth-found false v n was = refl

with-value : (known : List (Name × ℤ)) (n : Name) (v : ℤ) → with_constant (value_among known) n v ≡ value_among ((n, v) ∷ known)
with-value known n v = λ i m. sym (worth-found (bytes_eq n m) v n (find (λ (k : Name × ℤ). bytes_eq k.0 m) known) ∙ ap (λ b. if b then v else value_among known m) (bytes-same n m)) i

amount-among : (known : List (Name × ℤ)) (c : Constant) → amount (value_among known) c ≡ constant_among known c
amount-among known (literal_constant minus n) = refl
amount-among known (named_constant minus name) = refl

-- the values that are kept are those of the meaning
worth-from : (known : List (Name × ℤ)) (ds : List Declaration) → with_decls (value_among known) ds ≡ value_among (constants_from known ds)
worth-from known [] = refl
worth-from known (constant n c ∷ ds) = ap (λ v. with_decls (with_constant (value_among known) n v) ds) (amount-among known c) ∙ ap (λ w. with_decls w ds) (with-value known n (constant_among known c)) ∙ worth-from ((n, constant_among known c) ∷ known) ds
worth-from known (device n is_out ∷ ds) = worth-from known ds
worth-from known (event n ∷ ds) = worth-from known ds
worth-from known (routine r ∷ ds) = worth-from known ds
worth-from known (monitor m ∷ ds) = worth-from known ds
worth-from known (process p ∷ ds) = worth-from known ds

pub amount-value : (g : Program) (c : Constant) → amount (with_decls no_worth g.decls) c ≡ constant_value g c
amount-value g c = ap (λ w. amount w c) (worth-from [] g.decls) ∙ amount-among (constants g) c

pub worth-value : (g : Program) (n : Name) → with_decls no_worth g.decls n ≡ value_among (constants g) n
worth-value g n = ap (λ w. w n) (worth-from [] g.decls)

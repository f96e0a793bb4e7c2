-- Look-ups in the maps of names beside those in lists.
use Rattle.std.proofs.Common.{◌≡◌, List, [], ◌∷◌, map, Option, Some, None, Bool, true, false, cond, ◌&&◌, is_some, nat_eq, refl, ap, sym, ◌∙◌}
use Rattle.std.specs.Borrow.{Bor}
use Rattle.std.specs.Map.{lookup}
use Rattle.std.specs.Cmp.{IsEquivalence}
use Rattle.std.proofs.lemmas.Cmp.{nat_eq_equiv, nat_list_eq_equiv, on_equiv, and_equiv}
use Rattle.syntax_tree.specs.Plain.{Name}
use Rattle.syntax_tree.specs.declared.place.Place.{Place}
use Rattle.static_names.specs.declared.kind.Declared.{Declared}
use Rattle.syntax_tree.specs.Parts.{same_place}
use Rattle.static_names.specs.Reach.{same, Names, Reach, first, or_else}
use Rattle.static_names.specs.Seen.{entry_of, meaning, add, put, EntryKey, entry_meaning, add_entry}

pub same-refl : (n : Name) → same n n ≡ true
same-refl n = nat_list_eq_equiv.refl n

pub same-symm : (n k : Name) → same n k ≡ same k n
same-symm n k = nat_list_eq_equiv.symm n k

pub same-congr : (n k m : Name) → same n k ≡ true → same n m ≡ same k m
same-congr n k m h = nat_list_eq_equiv.congr n k m h

pub none-of : {X : Type 0} (o : Option X) → is_some o ≡ false → o ≡ None
none-of None e = refl
none-of (Some x) e = cc

-- what is there stays, whatever is added of that name
pub add-present : (reach : Reach) (d : Name × Declared) → ((n : Name) → same n d.0 ≡ true → reach n ≡ reach d.0) → is_some (reach d.0) ≡ true → reach ≡ add reach d
add-present reach d respects there = λ i n. at n (reach n) (same n d.0) refl (λ e. ap is_some (respects n e) ∙ there) i
  where
    at : (n : Name) (o : Option Declared) (b : Bool) → same n d.0 ≡ b → (same n d.0 ≡ true → is_some o ≡ true) → o ≡ or_else o (cond b (Some d.1) None)
    at n (Some x) b e some = refl
    at n None false e some = refl
    at n None true e some = let h = some e in cc

pub meaning-lookup : (name : Name) (es : List (Bor Name × Declared)) → lookup (λ k. same name k.now) es ≡ meaning es name
meaning-lookup name [] = refl
meaning-lookup name (e ∷ es) = ap (λ r. cond (same name e.0.now) (Some e.1) r) (meaning-lookup name es)

-- equal names mean the same
pub first-same : (ds : Names) (n k : Name) → same n k ≡ true → first ds n ≡ first ds k
first-same [] n k h = refl
first-same (d ∷ ds) n k h = ap (λ b. cond b (Some d.1) (first ds n)) (same-congr n k d.0 h) ∙ ap (λ r. cond (same k d.0) (Some d.1) r) (first-same ds n k h)

-- a value put at a name that had none
module _ (n k : Name) (v : Declared) (was : Option Declared) where
  put-new : (b : Bool) → same n k ≡ b → (same n k ≡ true → was ≡ None) → cond b (Some v) was ≡ or_else was (cond b (Some v) None)
  put-new true e none = ap (λ r. or_else r (Some v)) (sym (none e))
  put-new false e none = at was
    where
      at : (o : Option Declared) → o ≡ or_else o None
      at None = refl
      at (Some x) = refl

pub put-meaning : (k : Bor Name) (v : Declared) (old new : List (Bor Name × Declared)) → ((q : Bor Name) → lookup (λ x. same q.now x.now) new ≡ cond (same k.now q.now) (Some v) (lookup (λ x. same q.now x.now) old)) → (n : Name) → meaning new n ≡ cond (same n k.now) (Some v) (meaning old n)
put-meaning k v old new puts n =
    let q : Bor Name = record k { now = n } in
    sym (meaning-lookup n new) ∙ puts q ∙ ap (λ b. cond b (Some v) (lookup (λ x. same n x.now) old)) (same-symm k.now n) ∙ ap (λ r. cond (same n k.now) (Some v) r) (meaning-lookup n old)

pub put-added : (k : Bor Name) (v : Declared) (old : List (Bor Name × Declared)) → meaning old k.now ≡ None → put (meaning old) (k.now, v) ≡ add (meaning old) (k.now, v)
put-added k v old none = λ i n. put-new n k.now v (meaning old n) (same n k.now) refl (λ e. first-same (map entry_of old) n k.now e ∙ none) i

-- ---- the map of entries

abbrev pub same_entry : EntryKey → EntryKey → Bool
same_entry x y = (nat_eq x.0 y.0 && nat_eq x.1 y.1) && same x.2.now y.2.now

pub entry_meaning-lookup : (k : EntryKey) (es : List (EntryKey × Declared)) → lookup (same_entry k) es ≡ entry_meaning es (record { line = k.0; col = k.1 }) k.2.now
entry_meaning-lookup k [] = refl
entry_meaning-lookup k (e ∷ es) = ap (λ r. cond (same_entry k e.0) (Some e.1) r) (entry_meaning-lookup k es)

pub entry_equiv : IsEquivalence same_entry
entry_equiv = and_equiv (and_equiv (on_equiv (λ (x : EntryKey). x.0) nat_eq_equiv) (on_equiv (λ (x : EntryKey). x.1) nat_eq_equiv)) (on_equiv (λ (x : EntryKey). x.2.now) nat_list_eq_equiv)

pub lookup-same : (es : List (EntryKey × Declared)) (k q : EntryKey) → same_entry k q ≡ true → lookup (same_entry k) es ≡ lookup (same_entry q) es
lookup-same [] k q h = refl
lookup-same (e ∷ es) k q h = ap (λ b. cond b (Some e.1) (lookup (same_entry k) es)) (entry_equiv.congr k q e.0 h) ∙ ap (λ r. cond (same_entry q e.0) (Some e.1) r) (lookup-same es k q h)

-- a value put where there was none
pub put_none : (v : Declared) (was : Option Declared) (b : Bool) → (b ≡ true → was ≡ None) → cond b (Some v) was ≡ or_else was (cond b (Some v) None)
put_none v was true none = ap (λ r. or_else r (Some v)) (sym (none refl))
put_none v None false none = refl
put_none v (Some x) false none = refl

-- a value not put where there was one
pub put_some : (v : Declared) (was : Option Declared) (b : Bool) → (b ≡ true → is_some was ≡ true) → was ≡ or_else was (cond b (Some v) None)
put_some v (Some x) b there = refl
put_some v None false there = refl
put_some v None true there = let h = there refl in cc

abbrev pub entry_key : Place → Bor Name → EntryKey
entry_key p k = (p.line, p.col, k)

module _ (m : Place) (k : Bor Name) (v : Declared) (old new : List (EntryKey × Declared)) where
  pub add_entry-meaning : ((q : EntryKey) → lookup (same_entry q) new ≡ cond (same_entry (entry_key m k) q) (Some v) (lookup (same_entry q) old))
      → entry_meaning old m k.now ≡ None → entry_meaning new ≡ add_entry (entry_meaning old) m (k.now, v)
  add_entry-meaning puts none = λ i p n. at p n i
    where
      at : (p : Place) (n : Name) → entry_meaning new p n ≡ or_else (entry_meaning old p n) (cond (same_place p m && same n k.now) (Some v) None)
      at p n =
          let q : EntryKey = entry_key p (record k { now = n }) in
          sym (entry_meaning-lookup q new) ∙ puts q ∙ ap (λ b. cond b (Some v) (lookup (same_entry q) old)) (entry_equiv.symm (entry_key m k) q)
          ∙ ap (λ r. cond (same_entry q (entry_key m k)) (Some v) r) (entry_meaning-lookup q old)
          ∙ put_none v (entry_meaning old p n) (same_entry q (entry_key m k)) (λ e. sym (entry_meaning-lookup q old) ∙ lookup-same old q (entry_key m k) e ∙ entry_meaning-lookup (entry_key m k) old ∙ none)

  pub add_entry-present : is_some (entry_meaning old m k.now) ≡ true → entry_meaning old ≡ add_entry (entry_meaning old) m (k.now, v)
  add_entry-present there = λ i p n. at p n i
    where
      at : (p : Place) (n : Name) → entry_meaning old p n ≡ or_else (entry_meaning old p n) (cond (same_place p m && same n k.now) (Some v) None)
      at p n =
          let q : EntryKey = entry_key p (record k { now = n }) in
          put_some v (entry_meaning old p n) (same_entry q (entry_key m k)) (λ e. ap is_some (sym (entry_meaning-lookup q old) ∙ lookup-same old q (entry_key m k) e ∙ entry_meaning-lookup (entry_key m k) old) ∙ there)

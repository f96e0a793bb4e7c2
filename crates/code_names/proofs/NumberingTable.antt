-- What the table of a list of texts says once more is kept in it.
use Rattle.std.proofs.Common.{◌≡◌, ◌∙◌, sym, ap, refl, ℕ, suc, Bool, true, false, cond, ◌&&◌, List, [], ◌∷◌, ◌++◌, Option, Some, None, if◌then◌else◌, length}
use Rattle.std.specs.Prelude.{option_map, bytes_eq, is_some, slice_get}
use Rattle.std.specs.Borrow.{Bor}
use Rattle.std.specs.Map.{lookup}
use Rattle.std.proofs.lemmas.Bool.{eqb-true, and_parts}
use Rattle.std.proofs.lemmas.Cmp.{nat_list_eq_equiv, nat_eq_equiv}
use Rattle.std.proofs.lemmas.Option.{slice_get-map}
use Rattle.std.proofs.lemmas.Slice.Eq.{bytes_eq-Decides}
use Rattle.syntax_tree.specs.Plain.{Name}
use Rattle.code_names.proofs.NameListTable.{get_some, or-none}
use Rattle.source_semantics.specs.Run.{or_else}
use Rattle.code_spec.specs.Layout as layout
use Rattle.code_spec.specs.Numbering.{Text, same_owner}
use Rattle.code_names.specs.declared.text.RoutineOwner.{RoutineOwner}
use Rattle.code_names.specs.declared.text.RoutineOwner.TheVariants.{Program, Process, Monitor}
use Rattle.code_names.specs.declared.text.Body as code_text
use Rattle.code_names.specs.contracts.text.RoutineOwnerPartialEq.TheImpl as owner_impl
use Rattle.code_names.specs.Texts.{owner_of, text_of, texts_of, is_text, text_index, text_named, same_key, first_text, with_first, HasFirsts}

owner-true : (o p : RoutineOwner) → same_owner (owner_of o) (owner_of p) ≡ true → o ≡ p
owner-true Program Program e = refl
owner-true (Process k) (Process j) e = ap Process (eqb-true k j e)
owner-true (Monitor k) (Monitor j) e = ap Monitor (eqb-true k j e)
owner-true Program (Process j) e = cc
owner-true Program (Monitor j) e = cc
owner-true (Process k) Program e = cc
owner-true (Process k) (Monitor j) e = cc
owner-true (Monitor k) Program e = cc
owner-true (Monitor k) (Process j) e = cc

owner-symm : (o p : RoutineOwner) → same_owner (owner_of o) (owner_of p) ≡ same_owner (owner_of p) (owner_of o)
owner-symm Program Program = refl
owner-symm (Process k) (Process j) = nat_eq_equiv.symm k j
owner-symm (Monitor k) (Monitor j) = nat_eq_equiv.symm k j
owner-symm Program (Process j) = refl
owner-symm Program (Monitor j) = refl
owner-symm (Process k) Program = refl
owner-symm (Process k) (Monitor j) = refl
owner-symm (Monitor k) Program = refl
owner-symm (Monitor k) (Process j) = refl

key-symm : (o : RoutineOwner) (n : Name) (p : RoutineOwner) (m : Name) → same_key o n p m ≡ same_key p m o n
key-symm o n p m = ap (λ b. b && bytes_eq n m) (owner-symm o p) ∙ ap (λ b. same_owner (owner_of p) (owner_of o) && b) (nat_list_eq_equiv.symm n m)

-- what is true of one key is true of one that is the same
key-true : (known : RoutineOwner → Name → Option ℕ) (o : RoutineOwner) (n : Name) (p : RoutineOwner) (m : Name) → same_key o n p m ≡ true → known o n ≡ known p m
key-true known o n p m e =
    let parts = and_parts (same_owner (owner_of o) (owner_of p)) (bytes_eq n m) e in
    ap (λ x. known x n) (owner-true o p parts.0) ∙ ap (λ x. known p x) ((bytes_eq-Decides n m).0 parts.1)

-- an index put at a key that had none
pub first-put : (k : RoutineOwner × Bor Name) (v : ℕ) (old new : List ((RoutineOwner × Bor Name) × ℕ))
    → ((q : RoutineOwner × Bor Name) → lookup (λ x. same_key q.0 q.1.now x.0 x.1.now) new ≡ cond (same_key k.0 k.1.now q.0 q.1.now) (Some v) (lookup (λ x. same_key q.0 q.1.now x.0 x.1.now) old))
    → is_some (first_text old k.0 k.1.now) ≡ false → first_text new ≡ with_first (first_text old) k.0 k.1.now v
first-put k v old new puts absent = λ i o n. at o n i
  where
    none : (o : Option ℕ) → is_some o ≡ false → o ≡ None
    none None e = refl
    none (Some x) e = cc

    by-test : (o : RoutineOwner) (n : Name) (b : Bool) → same_key o n k.0 k.1.now ≡ b → cond b (Some v) (first_text old o n) ≡ or_else (first_text old o n) (if b then Some v else None)
    by-test o n true e = sym (ap (λ x. or_else x (Some v)) (key-true (first_text old) o n k.0 k.1.now e ∙ none (first_text old k.0 k.1.now) absent))
    by-test o n false e = sym (or-none (first_text old o n))

    at : (o : RoutineOwner) (n : Name) → first_text new o n ≡ with_first (first_text old) k.0 k.1.now v o n
    at o n =
        let name : Bor Name = record k.1 { now = n } in
        let q : RoutineOwner × Bor Name = (o, name) in
        puts q ∙ ap (λ b. cond b (Some v) (first_text old o n)) (key-symm k.0 k.1.now o n) ∙ by-test o n (same_key o n k.0 k.1.now) refl

-- a key that has an index keeps it
pub first-kept : (p : RoutineOwner) (m : Name) (v : ℕ) (old : List ((RoutineOwner × Bor Name) × ℕ)) → is_some (first_text old p m) ≡ true → first_text old ≡ with_first (first_text old) p m v
first-kept p m v old present = λ i o n. by-test o n (same_key o n p m) refl i
  where
    some : (o : Option ℕ) (other : Option ℕ) → is_some o ≡ true → o ≡ or_else o other
    some None other e = cc
    some (Some x) other e = refl

    by-test : (o : RoutineOwner) (n : Name) (b : Bool) → same_key o n p m ≡ b → first_text old o n ≡ or_else (first_text old o n) (if b then Some v else None)
    by-test o n true e = some (first_text old o n) (Some v) (ap is_some (key-true (first_text old) o n p m e) ∙ present)
    by-test o n false e = sym (or-none (first_text old o n))

next-index : (o : Option ℕ) (b : Bool) (n : ℕ) → option_map (λ k. suc k) (or_else o (if b then Some n else None)) ≡ or_else (option_map (λ k. suc k) o) (if b then Some (suc n) else None)
next-index None true n = refl
next-index None false n = refl
next-index (Some k) b n = refl

-- one more text
pub index-append : (o : layout.Owner) (f : Name) (ts : List Text) (t : Text) → text_index o f (ts ++ t ∷ []) ≡ or_else (text_index o f ts) (if is_text o f t then Some (length ts) else None)
index-append o f [] t = by-test (is_text o f t)
  where
    by-test : (b : Bool) → cond b (Some 0) (option_map (λ k. suc k) None) ≡ (if b then Some 0 else None)
    by-test true = refl
    by-test false = refl
index-append o f (u ∷ us) t = by-test (index-append o f us t) (is_text o f u)
  where
    by-test : text_index o f (us ++ t ∷ []) ≡ or_else (text_index o f us) (if is_text o f t then Some (length us) else None) → (b : Bool)
        → cond b (Some 0) (option_map (λ k. suc k) (text_index o f (us ++ t ∷ []))) ≡ or_else (cond b (Some 0) (option_map (λ k. suc k) (text_index o f us))) (if is_text o f t then Some (suc (length us)) else None)
    by-test rest true = refl
    by-test rest false = ap (option_map (λ k. suc k)) rest ∙ next-index (text_index o f us) (is_text o f t) (length us)

pub texts-append : (ts : List code_text.Body) (t : code_text.Body) → texts_of (ts ++ t ∷ []) ≡ texts_of ts ++ text_of t ∷ []
texts-append [] t = refl
texts-append (u ∷ us) t = ap (λ ts. text_of u ∷ ts) (texts-append us t)

pub texts-length : (ts : List code_text.Body) → length (texts_of ts) ≡ length ts
texts-length [] = refl
texts-length (t ∷ ts) = ap (λ n. suc n) (texts-length ts)

-- the table of one more text
pub firsts-pushed : (old new : List ((RoutineOwner × Bor Name) × ℕ)) (ts : List code_text.Body) (t : code_text.Body) → HasFirsts old (texts_of ts)
    → first_text new ≡ with_first (first_text old) t.owner (text_of t).routine.name (length ts) → HasFirsts new (texts_of (ts ++ t ∷ []))
firsts-pushed old new ts t has kept = record {
  finds = λ o n.
      let m = (text_of t).routine.name in
      ap (λ f. f o n) kept
      ∙ ap (λ x. or_else x (if same_key o n t.owner m then Some (length ts) else None)) (has.finds o n)
      ∙ ap (λ b. or_else (text_index (owner_of o) n (texts_of ts)) (if b then Some (length ts) else None)) (key-symm o n t.owner m)
      ∙ ap (λ k. or_else (text_index (owner_of o) n (texts_of ts)) (if same_key t.owner m o n then Some k else None)) (sym (texts-length ts))
      ∙ sym (index-append (owner_of o) n (texts_of ts) (text_of t))
      ∙ ap (text_index (owner_of o) n) (sym (texts-append ts t));
}

-- ---- keys as the map compares them

-- owners are equal for the code where they are one
owner-eq : (o p : RoutineOwner) → owner_impl.ghosts.eq o p ≡ same_owner (owner_of o) (owner_of p)
owner-eq Program Program = refl
owner-eq (Process k) (Process j) = refl
owner-eq (Monitor k) (Monitor j) = refl
owner-eq Program (Process j) = refl
owner-eq Program (Monitor j) = refl
owner-eq (Process k) Program = refl
owner-eq (Process k) (Monitor j) = refl
owner-eq (Monitor k) Program = refl
owner-eq (Monitor k) (Process j) = refl

abbrev pub Key : Type 0
Key = RoutineOwner × Bor Name

abbrev pub equal_keys : Key → Key → Bool
equal_keys k q = owner_impl.ghosts.eq k.0 q.0 && bytes_eq k.1.now q.1.now

abbrev pub same_keys : Key → Key → Bool
same_keys k q = same_key k.0 k.1.now q.0 q.1.now

pub keys-are : equal_keys ≡ same_keys
keys-are = λ i k q. ap (λ b. b && bytes_eq k.1.now q.1.now) (owner-eq k.0 q.0) i

-- what a map of such keys says once more is put in it
abbrev pub Puts : Key → ℕ → List (Key × ℕ) → List (Key × ℕ) → (Key → Key → Bool) → Type 0
Puts k v old new eq = (q : Key) → lookup (eq q) new ≡ cond (eq k q) (Some v) (lookup (eq q) old)

pub found-by : (k : Key) (entries : List (Key × ℕ)) → lookup (equal_keys k) entries ≡ first_text entries k.0 k.1.now
found-by k entries = ap (λ eq. lookup (eq k) entries) keys-are

-- ---- the first of an owner and a name among texts

pub text-got : (ts : List code_text.Body) (k : ℕ) → option_map text_of (slice_get ts k) ≡ slice_get (texts_of ts) k
text-got ts k = sym (slice_get-map text_of ts k)

next-got : (t : Text) (ts : List Text) (o : Option ℕ) → get_some (t ∷ ts) (option_map (λ k. suc k) o) ≡ get_some ts o
next-got t ts None = refl
next-got t ts (Some k) = refl

pub text-index : (o : layout.Owner) (f : Name) (ts : List Text) → get_some ts (text_index o f ts) ≡ text_named o f ts
text-index o f [] = refl
text-index o f (t ∷ ts) = by-test (next-got t ts (text_index o f ts) ∙ text-index o f ts) (is_text o f t)
  where
    by-test : get_some (t ∷ ts) (option_map (λ k. suc k) (text_index o f ts)) ≡ text_named o f ts → (b : Bool) → get_some (t ∷ ts) (cond b (Some 0) (option_map (λ k. suc k) (text_index o f ts))) ≡ cond b (Some t) (text_named o f ts)
    by-test rest true = refl
    by-test rest false = rest

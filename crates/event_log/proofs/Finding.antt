-- Numbers of names in maps.
use Rattle.std.proofs.Common.{◌≡◌, ◌≢◌, ℕ, ◌+◌, ◌<◌, List, [], length, get_or, Bool, true, false, cond, Option, Some, None, refl, sym, ap, subst, ◌∙◌, arith}
use Rattle.std.specs.Prelude.{nat_eq, IfSome, IfNone, slice_get, unwrap_or, option_map}
use Rattle.std.proofs.lemmas.Option.{slice_get_read}
use Rattle.image.specs.declared.names.DeviceName.{DeviceName}
use Rattle.std.specs.Borrow.{Bor}
use Rattle.std.specs.Map.{lookup}
use Rattle.std.specs.Cmp.Lexicographic.{pointwise}
use Rattle.std.proofs.lemmas.Slice.Eq.{bytes_eq-Decides}
use Rattle.image.specs.NameMaps.{number_in}
use Rattle.event_log.specs.Finding.{IsNumber, AreNumbers}
use Rattle.event_log.proofs.Names.{below_more}

kept : (o : Option ℕ) (count : ℕ) (name : ℕ → List ℕ) (q : List ℕ) → name count ≢ q → IsNumber o count name q → IsNumber o (count + 1) name q
kept None count name q other none = below_more (λ k. name k ≢ q) count none other
kept (Some k) count name q other found = (omega (arith, found.0), found.1)

-- one more name in a map
pub numbers_more : (key : Bor (List ℕ)) (count : ℕ) (name : ℕ → List ℕ) (old new : List (Bor (List ℕ) × ℕ)) → AreNumbers old count name → key.now ≡ name count → ((q : Bor (List ℕ)) → lookup (λ x. pointwise nat_eq q.now x.now) new ≡ cond (pointwise nat_eq key.now q.now) (Some count) (lookup (λ x. pointwise nat_eq q.now x.now) old)) → AreNumbers new (count + 1) name
numbers_more key count name old new are is puts = λ q. subst (λ o. IsNumber o (count + 1) name q) (sym (puts (record key { now = q }))) (at q (pointwise nat_eq key.now q) refl)
  where
    at : (q : List ℕ) (b : Bool) → pointwise nat_eq key.now q ≡ b → IsNumber (cond b (Some count) (number_in old q)) (count + 1) name q
    at q true e = (omega arith, sym is ∙ (bytes_eq-Decides key.now q).0 e)
    at q false e = kept (number_in old q) count name q (λ same. absurd (clash (sym e ∙ (bytes_eq-Decides key.now q).1 (is ∙ same)))) (are q)
      where
        clash : false ≡ true → ⊥
        clash h = cc

pub is_within : (o other : Option ℕ) (count : ℕ) (name : ℕ → List ℕ) (q : List ℕ) → o ≡ other → IsNumber other count name q → IfSome o (λ k. k < count)
is_within o other count name q is number = at o (subst (λ r. IsNumber r count name q) (sym is) number)
  where
    at : (r : Option ℕ) → IsNumber r count name q → IfSome r (λ k. k < count)
    at None h = tt
    at (Some k) h = h.0

pub is_found : (o other : Option ℕ) (count : ℕ) (name : ℕ → List ℕ) (q : List ℕ) → o ≡ other → IsNumber other count name q → IfSome o (λ k. name k ≡ q)
is_found o other count name q is number = at o (subst (λ r. IsNumber r count name q) (sym is) number)
  where
    at : (r : Option ℕ) → IsNumber r count name q → IfSome r (λ k. name k ≡ q)
    at None h = tt
    at (Some k) h = h.1

pub is_none : (o other : Option ℕ) (count : ℕ) (name : ℕ → List ℕ) (q : List ℕ) → o ≡ other → IsNumber other count name q → IfNone o ((k : ℕ) → k < count → name k ≢ q)
is_none o other count name q is number = at o (subst (λ r. IsNumber r count name q) (sym is) number)
  where
    at : (r : Option ℕ) → IsNumber r count name q → IfNone r ((k : ℕ) → k < count → name k ≢ q)
    at None h = h
    at (Some k) h = tt

pub name_at : (xs : List (List ℕ)) (k : ℕ) (x : List ℕ) → k < length xs → x ≡ get_or xs k x → x ≡ unwrap_or (slice_get xs k) []
name_at xs k x below is = sym (ap (λ o. unwrap_or o []) (slice_get_read xs (length xs) k x refl below is))

pub device_at : (xs : List DeviceName) (k : ℕ) (x : DeviceName) → k < length xs → x ≡ get_or xs k x → x.name ≡ unwrap_or (option_map (λ (device : DeviceName). device.name) (slice_get xs k)) []
device_at xs k x below is = sym (ap (λ o. unwrap_or (option_map (λ (device : DeviceName). device.name) o) []) (slice_get_read xs (length xs) k x refl below is))

-- names that are the same have the same numbers
pub numbers_same : (entries : List (Bor (List ℕ) × ℕ)) (count other : ℕ) (name own : ℕ → List ℕ) → count ≡ other → ((k : ℕ) → k < other → name k ≡ own k) → AreNumbers entries count name → AreNumbers entries other own
numbers_same entries count other name own is same are = λ q. at q (number_in entries q) (are q)
  where
    at : (q : List ℕ) (o : Option ℕ) → IsNumber o count name q → IsNumber o other own q
    at q None none = λ k below e. none k (omega arith) (same k below ∙ e)
    at q (Some k) found = (omega (arith, found.0), sym (same k (omega (arith, found.0))) ∙ found.1)

-- Monitors and devices in the tables of an image.
use Rattle.std.specs.Prelude.{◌≡◌, ◌+◌, ◌<◌, ℕ, zero, suc, Bool, true, false, cond, List, [], ◌∷◌, Some, slice_get, length, filter_map, bytes_eq, slice_index_or, Contains}
use Rattle.std.proofs.Common.{refl, ap, subst, arith}
use Rattle.std.proofs.lemmas.Slice.Eq.{bytes_eq-Decides}
use Rattle.std.proofs.lemmas.Option.{same_Some}
use Rattle.syntax_tree.specs.Plain.{Name, Declaration, constant, device, event, routine, monitor, process}
use Rattle.source_semantics.specs.Names.{place_of, device_in}
use Rattle.code_spec.specs.Layout.{words_of, monitor_vars}
use Rattle.code_spec.specs.Compiled.{device_direction}
use Rattle.built_valid_law.specs.Areas.{HasWords, MonitorsHaveWords, DevicesStand}

pub monitors_have_words : MonitorsHaveWords
monitors_have_words g b [] xs j d h at = absurd cc
monitors_have_words g b (m ∷ ms) [] j d h at = absurd h
monitors_have_words g b (m ∷ ms) (x ∷ xs) zero d h at =
    (x, refl, subst (λ z. HasWords g b z x) (same_Some m d at) (record { base_is = h.0; words_are = h.1 }))
monitors_have_words g b (m ∷ ms) (x ∷ xs) (suc j) d h at = monitors_have_words g (b + words_of g (monitor_vars m)) ms xs j d h.2 at

-- ---- devices

abbrev AllGo : Name → Bool → List Declaration → Type 0
AllGo d out ds = (a : Bool) → Contains ds (device d a) → a ≡ out

go_on : (d : Name) (out : Bool) (x : Declaration) (ds : List Declaration) → AllGo d out (x ∷ ds) → AllGo d out ds
go_on d out x ds h a i = h a (suc i.0, let k = i.1 in omega arith, i.2)

there_on : (x y : Declaration) (ds : List Declaration) → (x ≡ y → ⊥) → Contains (x ∷ ds) y → Contains ds y
there_on x y ds differs i = at i.0 i.1 i.2
  where
    at : (k : ℕ) → k < length (x ∷ ds) → slice_index_or (x ∷ ds) k y ≡ y → Contains ds y
    at zero low is = absurd (differs is)
    at (suc k) low is = (k, omega arith, is)

differs : (n : Name) (a : Bool) (d : Name) (out : Bool) → bytes_eq n d ≡ false → device n a ≡ device d out → ⊥
differs n a d out e is = let same : n ≡ d = cc in let t : bytes_eq n d ≡ true = (bytes_eq-Decides n d).1 same in cc

stands : (d : Name) (out : Bool) (ds : List Declaration) → AllGo d out ds → Contains ds (device d out) → slice_get (filter_map device_direction ds) (place_of d (filter_map device_in ds)) ≡ Some out
stands d out [] all i = let low : i.0 < 0 = i.1 in absurd (omega arith)
stands d out (device n a ∷ ds) all i = by (bytes_eq n d) refl (λ e. stands d out ds (go_on d out (device n a) ds all) (there_on (device n a) (device d out) ds (λ is. differs n a d out e is) i))
  where
    by : (b : Bool) → bytes_eq n d ≡ b → (bytes_eq n d ≡ false → slice_get (filter_map device_direction ds) (place_of d (filter_map device_in ds)) ≡ Some out) → slice_get (a ∷ filter_map device_direction ds) (cond b 0 (suc (place_of d (filter_map device_in ds)))) ≡ Some out
    by true e rest =
        let same : n ≡ d = (bytes_eq-Decides n d).0 e in
        ap (λ z. Some z) (all a (0, omega arith, ap (λ z. device z a) same))
    by false e rest = rest e
stands d out (constant n c ∷ ds) all i = stands d out ds (go_on d out (constant n c) ds all) (there_on (constant n c) (device d out) ds (λ is. cc) i)
stands d out (event n ∷ ds) all i = stands d out ds (go_on d out (event n) ds all) (there_on (event n) (device d out) ds (λ is. cc) i)
stands d out (routine r ∷ ds) all i = stands d out ds (go_on d out (routine r) ds all) (there_on (routine r) (device d out) ds (λ is. cc) i)
stands d out (monitor m ∷ ds) all i = stands d out ds (go_on d out (monitor m) ds all) (there_on (monitor m) (device d out) ds (λ is. cc) i)
stands d out (process p ∷ ds) all i = stands d out ds (go_on d out (process p) ds all) (there_on (process p) (device d out) ds (λ is. cc) i)

pub devices_stand : DevicesStand
devices_stand g d out one there = stands d out g.decls (λ a i. one d a out i there) there

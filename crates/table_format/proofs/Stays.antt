-- The monitors of stays, and the different stays in a monitor, with one stay more.
use Rattle.std.proofs.Common.{◌≡◌, ◌<◌, ◌+◌, ℕ, List, [], ◌∷◌, ◌++◌, length, take, get_or, map, Bool, true, false, ◌||◌, cond, refl, ap, sym, ◌∙◌, append-nil, eqb-true}
use Rattle.std.specs.Prelude.{filter, nat_eq, if◌then◌else◌}
use Rattle.std.specs.Borrow.{Bor}
use Rattle.std.specs.List.{list_any}
use Rattle.std.proofs.lemmas.List.{take_more, map-append}
use Rattle.std.proofs.lemmas.List.Elements.{filter-append}
use Rattle.std.proofs.lemmas.Slice.Eq.{bytes_eq-Decides}
use Rattle.syntax_tree.specs.Plain.{Name}
use Rattle.table_format.specs.declared.table.TaskStay.{TaskStay}
use Rattle.table_format.specs.Rules.{same_name, distinct}
use Rattle.table_format.specs.Parts.{seen, monitors_of, with_name, ticks_in, with_ticks, with_stay}
use Rattle.table_format.proofs.Distinct.{with_one, distinct_more}

same_is : (x y : Name) → same_name x y ≡ true → x ≡ y
same_is x y is = (bytes_eq-Decides x y).0 is

-- the references up to the next one
seen_next : (stays : List (Bor TaskStay)) (i : ℕ) (s : Bor TaskStay) → i < length stays → s ≡ get_or stays i s → seen (take (i + 1) stays) ≡ seen (take i stays) ++ s.now ∷ []
seen_next stays i s below is =
    ap seen (take_more stays i s below ∙ ap (λ (r : Bor TaskStay). take i stays ++ r ∷ []) (sym is)) ∙ map-append (λ (r : Bor TaskStay). r.now) (take i stays) (s ∷ [])

one_monitor : (stays : List TaskStay) (s : TaskStay) → monitors_of (stays ++ s ∷ []) ≡ with_name (monitors_of stays) s.monitor
one_monitor stays s =
    ap (distinct same_name) (map-append (λ (t : TaskStay). t.monitor) stays (s ∷ []))
    ∙ distinct_more same_name same_is (map (λ (t : TaskStay). t.monitor) stays) s.monitor

pub monitors_more : (stays : List (Bor TaskStay)) (i : ℕ) (s : Bor TaskStay) (old new : List Name) → i < length stays → s ≡ get_or stays i s
    → old ≡ monitors_of (seen (take i stays)) → new ≡ with_name old s.now.monitor → new ≡ monitors_of (seen (take (i + 1) stays))
monitors_more stays i s old new below is so_far put =
    put ∙ ap (λ names. with_name names s.now.monitor) so_far ∙ sym (one_monitor (seen (take i stays)) s.now) ∙ sym (ap monitors_of (seen_next stays i s below is))

one_stay : (name : Name) (stays : List TaskStay) (s : TaskStay) → ticks_in name (stays ++ s ∷ []) ≡ with_stay name (ticks_in name stays) s
one_stay name stays s =
    ap (λ (t : List TaskStay). distinct nat_eq (map (λ (u : TaskStay). u.ticks) t)) (filter-append (λ (t : TaskStay). same_name name t.monitor) stays (s ∷ []))
    ∙ at (same_name name s.monitor)
  where
    at : (b : Bool) → distinct nat_eq (map (λ (u : TaskStay). u.ticks) (filter (λ (t : TaskStay). same_name name t.monitor) stays ++ cond b (s ∷ []) []))
        ≡ (if b then (if list_any (λ other. nat_eq other s.ticks) (ticks_in name stays) then ticks_in name stays else ticks_in name stays ++ s.ticks ∷ []) else ticks_in name stays)
    at true =
        ap (distinct nat_eq) (map-append (λ (u : TaskStay). u.ticks) (filter (λ (t : TaskStay). same_name name t.monitor) stays) (s ∷ []))
        ∙ distinct_more nat_eq (λ x y is. eqb-true x y is) (map (λ (u : TaskStay). u.ticks) (filter (λ (t : TaskStay). same_name name t.monitor) stays)) s.ticks
    at false = ap (λ (t : List TaskStay). distinct nat_eq (map (λ (u : TaskStay). u.ticks) t)) (append-nil (filter (λ (t : TaskStay). same_name name t.monitor) stays))

pub stays_more : (name : Name) (stays : List (Bor TaskStay)) (i : ℕ) (s : Bor TaskStay) (old new : List ℕ) → i < length stays → s ≡ get_or stays i s
    → old ≡ ticks_in name (seen (take i stays)) → new ≡ with_stay name old s.now → new ≡ ticks_in name (seen (take (i + 1) stays))
stays_more name stays i s old new below is so_far put =
    put ∙ ap (λ all. with_stay name all s.now) so_far ∙ sym (one_stay name (seen (take i stays)) s.now) ∙ sym (ap (λ t. ticks_in name t) (seen_next stays i s below is))

-- ---- what is listed

pub any_seen : {A : Type 0} (test : A → Bool) (xs : List (Bor A)) → list_any test (seen xs) ≡ list_any (λ x. test x.now) xs
any_seen test [] = refl
any_seen test (x ∷ xs) = ap (λ b. test x.now || b) (any_seen test xs)

pub name_there : (names : List (Bor Name)) (name : Name) (listed : Bool) → listed ≡ list_any (λ other. same_name other.now name) names → listed ≡ true → seen names ≡ with_name (seen names) name
name_there names name listed is there =
    sym (ap (λ b. if b then seen names else seen names ++ name ∷ []) (any_seen (λ other. same_name other name) names ∙ sym is ∙ there))

pub name_new : (names new : List (Bor Name)) (name : Name) (listed : Bool) → listed ≡ list_any (λ other. same_name other.now name) names → listed ≡ false
    → seen new ≡ seen names ++ name ∷ [] → seen new ≡ with_name (seen names) name
name_new names new name listed is absent put =
    put ∙ sym (ap (λ b. if b then seen names else seen names ++ name ∷ []) (any_seen (λ other. same_name other name) names ∙ sym is ∙ absent))

pub ticks_there : (all : List ℕ) (ticks : ℕ) (listed : Bool) → listed ≡ list_any (λ t. nat_eq t ticks) all → listed ≡ true → all ≡ with_ticks all ticks
ticks_there all ticks listed is there = sym (ap (λ b. if b then all else all ++ ticks ∷ []) (sym is ∙ there))

pub ticks_new : (all new : List ℕ) (ticks : ℕ) (listed : Bool) → listed ≡ list_any (λ t. nat_eq t ticks) all → listed ≡ false → new ≡ all ++ ticks ∷ [] → new ≡ with_ticks all ticks
ticks_new all new ticks listed is absent put = put ∙ sym (ap (λ b. if b then all else all ++ ticks ∷ []) (sym is ∙ absent))

pub stay_elsewhere : (name : Name) (all : List ℕ) (s : TaskStay) → same_name name s.monitor ≡ false → all ≡ with_stay name all s
stay_elsewhere name all s other = sym (ap (λ b. if b then with_ticks all s.ticks else all) other)

pub stay_inside : (name : Name) (all new : List ℕ) (s : TaskStay) → same_name name s.monitor ≡ true → new ≡ with_ticks all s.ticks → new ≡ with_stay name all s
stay_inside name all new s inside put = put ∙ sym (ap (λ b. if b then with_ticks all s.ticks else all) inside)
